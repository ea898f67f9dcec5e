-- What the readers of graphs refuse.
use Rattle.std.proofs.Common.{◌∙◌, ℕ, ◌||◌, List, Option, Result, Ok, refl, ap}
use Rattle.row_model.specs.declared.refusal.Read.{Read}
use Rattle.row_model.specs.declared.TheConstants.{MAX_COLUMNS}
use Rattle.text_lines.specs.Heads.{size_given, if_head, from_head}
use Rattle.text_lines.specs.Lines.{NumberedLine}
use Rattle.text_lines.proofs.FirstRefused.{none_from, of_first}
use Rattle.text_lines.specs.Rows.{refused_or}
use Rattle.text_lines.specs.Words.{numbers_in}
use Rattle.graph_model.specs.Graphs.{BigraphValue, GraphValue}
use Rattle.graph_read.specs.Files.{sizes_given, ends_code, pair_code, line_joins, joined_lists, bigraph_sized, bigraph, graph_sized, graph}
use Rattle.graph_read.specs.RefusalLaws.{BigraphRefusals, GraphRefusals}
use Rattle.graph_read.proofs.HeadLemmas.{ReadsBy, reads_by, behind_head, head_refusals}

-- what follows from a head
behind : {H T : Type 0} → (H → List NumberedLine → Read T) → ℕ → Result H ℕ → List NumberedLine → Read T
behind rest number found later = if_head number found (λ head. rest head later)

sizes_in : ℕ → List ℕ → Result (ℕ × ℕ) ℕ
sizes_in limit line = sizes_given limit (numbers_in line)

bigraph_by_heads : (limit : ℕ) → ReadsBy (bigraph limit) (from_head (sizes_in limit) bigraph_sized)
unfolding bigraph sizes_in
bigraph_by_heads limit = reads_by (bigraph limit) (from_head (sizes_in limit) bigraph_sized) (λ bytes. refl) refl

-- the bipartite graph of lines
joined : ℕ × ℕ → List NumberedLine → BigraphValue
joined sizes later = record { left = sizes.0; right = sizes.1; neighbours = joined_lists sizes.0 sizes.1 (line_joins later) }

ends_line : ℕ × ℕ → ℕ → List ℕ → Option ℕ
ends_line sizes before line = ends_code sizes.0 sizes.1 (numbers_in line)

pub bigraph_refusals : BigraphRefusals
unfolding behind sizes_in joined ends_line
bigraph_refusals = record {
  refused = λ limit. head_refusals (bigraph limit) (from_head (sizes_in limit) bigraph_sized) (behind bigraph_sized) (sizes_in limit) (bigraph_by_heads limit) (λ head later. refl)
      (λ sizes later. ends_line sizes) (λ number code later. refl) (λ number sizes later refusal of. ap (λ r. refused_or r (joined sizes later)) (of_first (ends_line sizes) 0 later refusal of));
  taken = λ limit bytes head later sizes short e h all.
      behind_head (bigraph limit) (from_head (sizes_in limit) bigraph_sized) (behind bigraph_sized) (sizes_in limit) (bigraph_by_heads limit) (λ head later. refl) bytes head later (Ok sizes) short e h
      ∙ ap (λ r. refused_or r (joined sizes later)) (none_from (ends_line sizes) 0 later all);
}

size_in : List ℕ → Result ℕ ℕ
size_in line = size_given MAX_COLUMNS (numbers_in line)

graph_by_heads : ReadsBy graph (from_head size_in graph_sized)
unfolding graph size_in
graph_by_heads = reads_by graph (from_head size_in graph_sized) (λ bytes. refl) refl

-- the graph of lines
joined_both : ℕ → List NumberedLine → GraphValue
joined_both n later = record { vertices = n; neighbours = joined_lists n n (λ u v. line_joins later u v || line_joins later v u) }

pair_line : ℕ → ℕ → List ℕ → Option ℕ
pair_line n before line = pair_code n (numbers_in line)

pub graph_refusals : GraphRefusals
unfolding behind size_in joined_both pair_line
graph_refusals = record {
  refused = head_refusals graph (from_head size_in graph_sized) (behind graph_sized) size_in graph_by_heads (λ head later. refl)
      (λ n later. pair_line n) (λ number code later. refl) (λ number n later refusal of. ap (λ r. refused_or r (joined_both n later)) (of_first (pair_line n) 0 later refusal of));
  taken = λ bytes head later n short e h all.
      behind_head graph (from_head size_in graph_sized) (behind graph_sized) size_in graph_by_heads (λ head later. refl) bytes head later (Ok n) short e h
      ∙ ap (λ r. refused_or r (joined_both n later)) (none_from (pair_line n) 0 later all);
}
