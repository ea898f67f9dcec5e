-- Lines each of which names an edge, one after another.
use Rattle.std.proofs.Common.{◌≡◌, ◌∙◌, ℕ, ◌+◌, List, [], ◌∷◌, Option, Some, None, Result, Ok, Err, refl, ap, sym}
use Rattle.text_lines.specs.Lines.{NumberedLine}
use Rattle.text_lines.specs.Rows.{refusal_or, first_refusal}
use Rattle.text_lines.specs.Words.{words_of}
use Rattle.graph_read.specs.declared.edges.Edge.{Edge}
use Rattle.graph_read.specs.declared.edges.Shape.{Shape}
use Rattle.graph_read.specs.Numbers.{two_numbers}
use Rattle.graph_read.specs.Edges.{edge_named, edge_code, edge_before, edges_of, edge_refusal, refused_as}

-- the edge of a line does not depend on how many stand before it
any_before : (code_of : List ℕ → Option ℕ) (m n : ℕ) (lines : List NumberedLine) → first_refusal (λ before line. code_of line) m lines ≡ first_refusal (λ before line. code_of line) n lines
unfolding first_refusal
any_before code_of m n [] = refl
any_before code_of m n (line ∷ lines) = ap (refusal_or (code_of line.text) line.number) (any_before code_of (m + 1) (n + 1) lines)

module _ (shape : Shape) where
  refusal_step : (line : NumberedLine) (lines : List NumberedLine) → edge_refusal shape (line ∷ lines) ≡ refusal_or (edge_code shape line.text) line.number (edge_refusal shape lines)
  unfolding first_refusal
  refusal_step line lines = ap (refusal_or (edge_code shape line.text) line.number) (any_before (edge_code shape) (0 + 1) 0 lines)

  pub no_refusal : edge_refusal shape [] ≡ None
  unfolding first_refusal
  no_refusal = refl

  -- one line less, which is refused or names an edge
  module _ (line : NumberedLine) (lines rest : List NumberedLine) (is : lines ≡ line ∷ rest) where
    pub edge_stop : (code : ℕ) → Err code ≡ edge_named shape (two_numbers (words_of line.text)) → edge_refusal shape lines ≡ Some (record { code = code; line = line.number })
    edge_stop code h =
        ap (edge_refusal shape) is ∙ refusal_step line rest
        ∙ ap (λ named. refusal_or (refused_as named) line.number (edge_refusal shape rest)) (sym h)

    pub edge_step : (edge : Edge) → Ok edge ≡ edge_named shape (two_numbers (words_of line.text)) → edge_refusal shape lines ≡ edge_refusal shape rest
    edge_step edge h =
        ap (edge_refusal shape) is ∙ refusal_step line rest
        ∙ ap (λ named. refusal_or (refused_as named) line.number (edge_refusal shape rest)) (sym h)

    pub edges_step : (edge : Edge) → Ok edge ≡ edge_named shape (two_numbers (words_of line.text)) → edges_of shape lines ≡ edge ∷ edges_of shape rest
    edges_step edge h = ap (edges_of shape) is ∙ ap (λ named. edge_before named (edges_of shape rest)) (sym h)

  -- of lines none of which is refused each names an edge
  pub record NamesFirst (line : NumberedLine) (lines : List NumberedLine) : Type 0 where
    pub edge : Edge
    pub named : edge_named shape (two_numbers (words_of line.text)) ≡ Ok edge
    pub later : edge_refusal shape lines ≡ None

  pub names_first : (line : NumberedLine) (lines : List NumberedLine) → edge_refusal shape (line ∷ lines) ≡ None → NamesFirst line lines
  names_first line lines h = by (edge_named shape (two_numbers (words_of line.text))) refl (sym (refusal_step line lines) ∙ h)
    where
      by : (found : Result Edge ℕ) → edge_named shape (two_numbers (words_of line.text)) ≡ found → refusal_or (refused_as found) line.number (edge_refusal shape lines) ≡ None → NamesFirst line lines
      by (Err code) e k = absurd (cc)
      by (Ok edge) e k = record { edge = edge; named = e; later = k }
