-- The edges of lines are those that the lines name.
use Rattle.std.proofs.Common.{◌≡◌, ◌∙◌, ℕ, ◌≤◌, Bool, true, false, if◌then◌else◌, ◌||◌, ◌&&◌, eqb, List, [], ◌∷◌, refl, sym, ap, arith, Option, Some, None, Ok, Err}
use Rattle.std.proofs.lemmas.Bool.{ne_eqb}
use Rattle.column_order.specs.Orders.{has}
use Rattle.row_model.specs.declared.code.TheConstants.{RANGE, SYMMETRY}
use Rattle.text_lines.specs.Lines.{NumberedLine}
use Rattle.text_lines.specs.Words.{words_of}
use Rattle.text_lines.specs.declared.words.Numeral.{Numeral}
use Rattle.text_lines.specs.declared.words.Numeral.TheVariants.{Value, TooLarge, NotDigits}
use Rattle.graph_read.specs.declared.edges.Edge.{Edge}
use Rattle.graph_read.specs.declared.edges.Shape.{Shape}
use Rattle.graph_read.specs.declared.edges.Shape.TheVariants.{Bipartite, Plain}
use Rattle.graph_read.specs.declared.numbers.NumberPair.{NumberPair}
use Rattle.graph_read.specs.Numbers.{is_value, are_values, is_within, value_of, two_numbers}
use Rattle.graph_read.specs.Edges.{left_of, right_of, ends_from, edge_named, edges_of, edge_refusal, unless_loop}
use Rattle.graph_read.specs.FileLaws.{names_edge}
use Rattle.graph_read.proofs.EdgeLemmas.{ends_step}
use Rattle.graph_read.proofs.EdgeSteps.{edges_step, names_first}

value_is : (n : Numeral) (x : ℕ) → 1 ≤ x → eqb (value_of n) x ≡ is_value x n
value_is (Value a) x some = refl
value_is TooLarge x some = ne_eqb 0 x (λ e. absurd (omega arith))
value_is NotDigits x some = ne_eqb 0 x (λ e. absurd (omega arith))

module _ (x y : ℕ) (px : 1 ≤ x) (py : 1 ≤ y) where
  -- the edge of a line goes from x to y exactly where the line names the two
  pair_names : (pair : NumberPair) (edge : Edge) → (record { from = value_of pair.first; to = value_of pair.second }) ≡ edge → (eqb edge.from x && eqb edge.to y) ≡ are_values x y (Some pair)
  pair_names pair edge is =
      ap (λ (e : Edge). eqb e.from x && eqb e.to y) (sym is)
      ∙ ap (λ b. b && eqb (value_of pair.second) y) (value_is pair.first x px) ∙ ap (λ b. is_value x pair.first && b) (value_is pair.second y py)

  no_loop_names : (shape : Shape) (pair : NumberPair) (edge : Edge) → unless_loop shape (record { from = value_of pair.first; to = value_of pair.second }) ≡ Ok edge → (eqb edge.from x && eqb edge.to y) ≡ are_values x y (Some pair)
  no_loop_names (Bipartite left right) pair edge h = pair_names pair edge cc
  no_loop_names (Plain n) pair edge h = by_loop (eqb (value_of pair.first) (value_of pair.second)) h
    where
      by_loop : (loop : Bool) → (if loop then Err SYMMETRY else Ok (record { from = value_of pair.first; to = value_of pair.second })) ≡ Ok edge → (eqb edge.from x && eqb edge.to y) ≡ are_values x y (Some pair)
      by_loop true k = absurd (cc)
      by_loop false k = pair_names pair edge cc

  line_names : (shape : Shape) (pair : Option NumberPair) (edge : Edge) → edge_named shape pair ≡ Ok edge → (eqb edge.from x && eqb edge.to y) ≡ are_values x y pair
  line_names shape None edge h = absurd (cc)
  line_names shape (Some pair) edge h = by_range (is_within (left_of shape) pair.first && is_within (right_of shape) pair.second) h
    where
      by_range : (inside : Bool) → (if inside then unless_loop shape (record { from = value_of pair.first; to = value_of pair.second }) else Err RANGE) ≡ Ok edge → (eqb edge.from x && eqb edge.to y) ≡ are_values x y (Some pair)
      by_range false k = absurd (cc)
      by_range true k = no_loop_names shape pair edge k

  pub lines_name : (shape : Shape) (lines : List NumberedLine) → edge_refusal shape lines ≡ None → has (ends_from x (edges_of shape lines)) y ≡ names_edge lines x y
  lines_name shape [] h = refl
  lines_name shape (line ∷ lines) h =
      let first = names_first shape line lines h in
      ap (λ edges. has (ends_from x edges) y) (edges_step shape line (line ∷ lines) lines refl first.edge (sym first.named))
      ∙ ends_step x y first.edge (edges_of shape lines)
      ∙ ap (λ b. b || has (ends_from x (edges_of shape lines)) y) (line_names shape (two_numbers (words_of line.text)) first.edge first.named)
      ∙ ap (λ b. are_values x y (two_numbers (words_of line.text)) || b) (lines_name shape lines first.later)
