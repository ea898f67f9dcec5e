-- A file is read by its lines that are not blank, where it is not too long.
use Rattle.std.proofs.Common.{◌≡◌, ◌∙◌, ℕ, ◌+◌, ◌≤◌, List, [], ◌∷◌, length, drop, Option, Result, Ok, Err, refl, sym, ap, inl, inr}
use Rattle.std.proofs.lemmas.Bool.{cases_lt}
use Rattle.row_model.specs.declared.refusal.Refusal.{Refusal}
use Rattle.row_model.specs.declared.refusal.Read.{Read}
use Rattle.row_model.specs.declared.refusal.Read.TheVariants as read
use Rattle.row_model.specs.declared.TheConstants.{MAX_FILE_BYTES}
use Rattle.row_model.specs.declared.code.TheConstants.{EMPTY}
use Rattle.row_model.specs.Limits.{within_length}
use Rattle.row_model.proofs.Limits.{too_long, short_enough}
use Rattle.text_lines.specs.Lines.{NumberedLine, lines_of, filled_lines}
use Rattle.text_lines.specs.FirstRefusal.{RefusesLong, HeadRefusals, IsOfFirstLine, filled_of}
use Rattle.graph_read.specs.Heads.{IsHeadless, IsHead}
use Rattle.graph_read.specs.GraphFiles.{bigraph_lines, graph_lines}
use Rattle.graph_read.specs.Files.{bigraph, graph}
use Rattle.graph_read.specs.DistanceFiles.{distances, distances_lines, distances_behind}
use Rattle.graph_read.specs.RefusalLaws.{items_head}
use Rattle.graph_model.specs.declared.TheConstants.{LEFT_BOUND}
use Rattle.graph_read.proofs.Same.{bigraph_same, graph_same, distances_same}

pub record ReadsBy {V : Type 0} (file : List ℕ → Read V) (lines : List NumberedLine → Read V) : Type 0 where
  pub long : RefusesLong file
  pub short : (bytes : List ℕ) → length bytes ≤ MAX_FILE_BYTES → file bytes ≡ lines (filled_of bytes)
  pub none : lines [] ≡ read.Refused (record { code = EMPTY; line = 0 })

pub reads_by : {V : Type 0} (file : List ℕ → Read V) (lines : List NumberedLine → Read V) → ((bytes : List ℕ) → file bytes ≡ within_length bytes (lines (filled_of bytes))) →
    lines [] ≡ read.Refused (record { code = EMPTY; line = 0 }) → ReadsBy file lines
reads_by file lines is none = record {
  long = λ bytes h. is bytes ∙ too_long bytes (lines (filled_of bytes)) h;
  short = λ bytes h. is bytes ∙ short_enough bytes (lines (filled_of bytes)) h;
  none = none;
}

pub bigraph_reads : (limit : ℕ) → limit ≤ LEFT_BOUND → ReadsBy (bigraph limit) (bigraph_lines limit)
bigraph_reads limit small = reads_by (bigraph limit) (bigraph_lines limit) (bigraph_same limit small) refl

pub graph_reads : ReadsBy graph graph_lines
graph_reads = reads_by graph graph_lines graph_same refl

pub distances_reads : ReadsBy distances distances_lines
distances_reads = reads_by distances distances_lines distances_same refl

-- a file without a first line is refused for that
pub headless : {V : Type 0} (file : List ℕ → Read V) (lines : List NumberedLine → Read V) → ReadsBy file lines → (bytes : List ℕ) (refusal : Refusal) → IsHeadless bytes refusal → read.Refused refusal ≡ file bytes
headless file lines r bytes refusal h =
    elim h [
      | inl long ↦ ap (λ x. read.Refused x) long.1 ∙ sym (r.long bytes long.0)
      | inr empty ↦ ap (λ x. read.Refused x) empty.2 ∙ sym (r.short bytes empty.0 ∙ ap lines empty.1 ∙ r.none)
    ]

-- the lines behind the first one
abbrev pub rest_of : List ℕ → ℕ → ℕ → List NumberedLine
rest_of text number next = filled_lines (number + 1) (lines_of (drop next text))

-- where the lines are read behind their first one
module _ {V H : Type 0} (file : List ℕ → Read V) (lines : List NumberedLine → Read V) (behind : ℕ → Result H ℕ → List NumberedLine → Read V) (head_in : List ℕ → Result H ℕ)
    (r : ReadsBy file lines) (first : (head : NumberedLine) (later : List NumberedLine) → lines (head ∷ later) ≡ behind head.number (head_in head.text) later) where
  pub behind_head : (bytes : List ℕ) (head : NumberedLine) (later : List NumberedLine) (found : Result H ℕ) → length bytes ≤ MAX_FILE_BYTES → filled_of bytes ≡ head ∷ later → head_in head.text ≡ found →
      file bytes ≡ behind head.number found later
  behind_head bytes head later found short e is = r.short bytes short ∙ ap lines e ∙ first head later ∙ ap (λ x. behind head.number x later) is

  -- its refusals
  pub head_refusals : (code_of : H → List NumberedLine → ℕ → List ℕ → Option ℕ) → ((number code : ℕ) (later : List NumberedLine) → behind number (Err code) later ≡ read.Refused (record { code = code; line = number })) →
      ((number : ℕ) (h : H) (later : List NumberedLine) (refusal : Refusal) → IsOfFirstLine (code_of h later) 0 later refusal → behind number (Ok h) later ≡ read.Refused refusal) →
      HeadRefusals file filled_of head_in code_of 0
  head_refusals code_of bad_head bad_line = record {
    too_long = r.long;
    no_line = λ bytes short e. r.short bytes short ∙ ap lines e ∙ r.none;
    bad_head = λ bytes head later code short e is. behind_head bytes head later (Err code) short e is ∙ bad_head head.number code later;
    bad_line = λ bytes head later h refusal short e is of. behind_head bytes head later (Ok h) short e is ∙ bad_line head.number h later refusal of;
  }

  -- what each value has that the file gives
  pub given : (P : List NumberedLine → V → Type 0) →
      ((head : NumberedLine) (later : List NumberedLine) (found : Result H ℕ) (v : V) → head_in head.text ≡ found → behind head.number found later ≡ read.Ok v → P (head ∷ later) v) →
      (bytes : List ℕ) (v : V) → file bytes ≡ read.Ok v → (length bytes ≤ MAX_FILE_BYTES) × P (filled_of bytes) v
  given P each bytes v h =
      elim (cases_lt MAX_FILE_BYTES (length bytes)) [
        | inl long ↦ absurd (not_refused (sym (r.long bytes long) ∙ h))
        | inr short ↦ (short, by_lines (filled_of bytes) (sym (r.short bytes short) ∙ h))
      ]
    where
      not_refused : {refusal : Refusal} → read.Refused refusal ≡ read.Ok v → ⊥
      not_refused e = absurd (cc)

      by_lines : (ls : List NumberedLine) → lines ls ≡ read.Ok v → P ls v
      by_lines [] k = absurd (not_refused (sym r.none ∙ k))
      by_lines (head ∷ later) k = each head later (head_in head.text) v refl (sym (first head later) ∙ k)

  -- a file with a first line
  at_head : (bytes text line : List ℕ) (number next : ℕ) (found : Result H ℕ) → IsHead bytes text line number next → found ≡ head_in line → file bytes ≡ behind number found (rest_of text number next)
  at_head bytes text line number next found h is = behind_head bytes (record { number = number; text = line }) (rest_of text number next) found h.short h.lines (sym is)

pub distances_at : (bytes text line : List ℕ) (number next : ℕ) (items : Result ℕ ℕ) → IsHead bytes text line number next → items ≡ items_head line →
    distances bytes ≡ distances_behind number items (rest_of text number next)
distances_at = at_head distances distances_lines distances_behind items_head distances_reads (λ head later. refl)
