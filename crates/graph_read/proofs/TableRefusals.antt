-- What the reader of distances refuses.
use Rattle.std.proofs.Common.{◌≡◌, ◌∙◌, ℕ, ◌<◌, ◌≤◌, List, ◌∷◌, length, refl, ap, Some, None, Ok}
use Rattle.std.proofs.lemmas.Bool.{le-leb, lt-leb}
use Rattle.row_model.specs.declared.code.TheConstants.{COUNT}
use Rattle.row_model.specs.declared.TheConstants.{MAX_FILE_BYTES}
use Rattle.text_lines.specs.Lines.{NumberedLine}
use Rattle.text_lines.specs.FirstRefusal.{NoLineRefused, filled_of}
use Rattle.text_lines.proofs.FirstRefused.{none_from, of_first}
use Rattle.text_lines.specs.Rows.{refused_or}
use Rattle.graph_read.specs.DistanceFiles.{row_line, missing_rows, earlier_or, table_written, distances, distances_lines, distances_behind}
use Rattle.graph_read.specs.RefusalLaws.{items_head, DistancesRefusals}
use Rattle.graph_read.proofs.HeadLemmas.{distances_reads, behind_head, head_refusals}

-- all rows are there, or some are missing
all_there : (n : ℕ) (later : List NumberedLine) → n ≤ length later → missing_rows n later ≡ None
all_there n later le = rw (le-leb n (length later) le) refl

some_missing : (n : ℕ) (later : List NumberedLine) → length later < n → missing_rows n later ≡ Some (record { code = COUNT; line = 0 })
some_missing n later lt = rw (lt-leb n (length later) lt) refl

pub distances_refusals : DistancesRefusals
distances_refusals = record {
  refused = head_refusals distances distances_lines distances_behind items_head distances_reads (λ head later. refl) row_line (λ number code later. refl)
      (λ number n later refusal of. ap (λ first. refused_or (earlier_or first (missing_rows n later)) (table_written n later)) (of_first (row_line n later) 0 later refusal of));
  missing = λ bytes head later n short e h all lt. none_refused bytes head later n short e h all ∙ ap (λ missing. refused_or missing (table_written n later)) (some_missing n later lt);
  taken = λ bytes head later n short e h all le. none_refused bytes head later n short e h all ∙ ap (λ missing. refused_or missing (table_written n later)) (all_there n later le);
}
  where
    none_refused : (bytes : List ℕ) (head : NumberedLine) (later : List NumberedLine) (n : ℕ) → length bytes ≤ MAX_FILE_BYTES → filled_of bytes ≡ head ∷ later → items_head head.text ≡ Ok n
        → NoLineRefused (row_line n later) 0 later → distances bytes ≡ refused_or (missing_rows n later) (table_written n later)
    none_refused bytes head later n short e h all =
        behind_head distances distances_lines distances_behind items_head distances_reads (λ head later. refl) bytes head later (Ok n) short e h
        ∙ ap (λ first. refused_or (earlier_or first (missing_rows n later)) (table_written n later)) (none_from (row_line n later) 0 later all)
