-- Edges that were read and kept as places, and lines behind them.
use Rattle.std.proofs.Common.{true, false, ◌≡◌, ◌∙◌, ℕ, zero, suc, ◌+◌, ◌-◌, ◌*◌, ◌≤◌, ◌||◌, List, [], ◌∷◌, ◌++◌, length, None, Ok, Err, refl, sym, ap, arith, append_assoc, append-nil}
use mathlib.Core.Logic.{∥∥₁_elim, ∥∥₁_map}
use Rattle.std.proofs.Props.{props}
use Rattle.column_order.specs.Orders.{has}
use Rattle.column_order.proofs.Lists.{has-append}
use Rattle.row_model.specs.Rows.{RowList, Ascends}
use Rattle.row_model.specs.declared.refusal.Read.TheVariants as read
use Rattle.row_model.proofs.Columns.{columns_same}
use Rattle.column_order.specs.declared.TheConstants.{COLUMN_BOUND}
use Rattle.graph_model.specs.declared.TheConstants.{LEFT_BOUND}
use Rattle.graph_model.specs.Graphs.{IsBigraph, IsGraph}
use Rattle.text_lines.specs.Lines.{NumberedLine, is_blank, filled_lines}
use Rattle.text_lines.specs.Rows.{columns_among, refused_or}
use Rattle.text_lines.specs.Words.{words_of}
use Rattle.text_lines.proofs.LineLemmas.{filled_blank, filled_here}
use Rattle.graph_read.specs.declared.edges.Edge.{Edge}
use Rattle.graph_read.specs.declared.edges.Shape.{Shape}
use Rattle.graph_read.specs.declared.edges.Shape.TheVariants.{Bipartite, Plain}
use Rattle.graph_read.specs.Numbers.{two_numbers}
use Rattle.graph_read.specs.Edges.{left_of, right_of, ways, ends_from, lists_from, lists_of, edge_named, edges_of, edge_refusal, lists_of_lines}
use Rattle.graph_read.specs.Places.{ArePlaces}
use Rattle.graph_read.specs.Placed.{Placed, IsPlaced, lists_beside, lists_then}
use Rattle.graph_read.proofs.EdgeSteps.{no_refusal, edge_stop, edge_step, edges_step, names_first}
use Rattle.graph_read.proofs.ListLemmas.{lists_read, are_lists}
use Rattle.graph_read.proofs.FileLemmas.{is_bigraph, is_graph}
use Rattle.graph_read.proofs.PlaceLemmas.{ends_from-append, both_ways-append, places_none, same_places}

-- one line less, which is blank or not
module _ (number : ℕ) (line : List ℕ) (lines rest later : List (List ℕ)) (is : lines ≡ line ∷ rest) where
  pub blank_first : is_blank line ≡ true → filled_lines number (lines ++ later) ≡ filled_lines (number + 1) (rest ++ later)
  blank_first h = ap (λ ls. filled_lines number (ls ++ later)) is ∙ filled_blank number line (rest ++ later) h

  pub filled_first : is_blank line ≡ false → filled_lines number (lines ++ later) ≡ record { number = number; text = line } ∷ filled_lines (number + 1) (rest ++ later)
  filled_first h = ap (λ ls. filled_lines number (ls ++ later)) is ∙ filled_here number line (rest ++ later) h

ways-append : (shape : Shape) (xs ys : List Edge) → ways shape (xs ++ ys) ≡ ways shape xs ++ ways shape ys
ways-append (Bipartite left right) xs ys = refl
ways-append (Plain n) xs ys = both_ways-append xs ys

-- the lists of edges at places and of others are those of all of them
beside_from : (x n c left : ℕ) (places : List ℕ) (edges others : List Edge) → ArePlaces left c edges places → 1 ≤ x → x + n ≤ left + 1 → lists_beside x n c places others ≡ lists_from x n c (edges ++ others)
beside_from x zero c left places edges others are some few = refl
beside_from x (suc n) c left places edges others are some few =
    let here = columns_same c (λ y. has places ((x - 1) * c + (y - 1)) || has (ends_from x others) y) (has (ends_from x (edges ++ others))) (λ j lt.
    let column : j + 1 - 1 ≡ j = omega arith in
    let row : x - 1 + 1 ≡ x = omega arith in
    let kept : has places ((x - 1) * c + (j + 1 - 1)) ≡ has (ends_from x edges) (j + 1) =
    ap (λ k. has places ((x - 1) * c + k)) column ∙ are (x - 1) j (omega arith) lt ∙ ap (λ a. has (ends_from a edges) (j + 1)) row in
    ap (λ b. b || has (ends_from x others) (j + 1)) kept
    ∙ sym (has-append (ends_from x edges) (ends_from x others) (j + 1))
    ∙ ap (λ t. has t (j + 1)) (sym (ends_from-append x edges others))) in
    ap (λ list. list ∷ lists_beside (x + 1) n c places others) here
    ∙ ap (λ lists. columns_among c (ends_from x (edges ++ others)) ∷ lists) (beside_from (x + 1) n c left places edges others are (omega arith) (omega arith))

module _ (shape : Shape) where
  abbrev written : List Edge → RowList
  written edges = record { columns = right_of shape; rows = lists_of shape edges }

  -- the lists of edges that stand in a list before those of lines
  then_lists : (places : List ℕ) (edges : List Edge) (lines : List NumberedLine) → ArePlaces (left_of shape) (right_of shape) (ways shape edges) places
      → lists_then shape places lines ≡ refused_or (edge_refusal shape lines) (written (edges ++ edges_of shape lines))
  then_lists places edges lines are =
      let rows : lists_beside 1 (left_of shape) (right_of shape) places (ways shape (edges_of shape lines)) ≡ lists_of shape (edges ++ edges_of shape lines) =
      beside_from 1 (left_of shape) (right_of shape) (left_of shape) places (ways shape edges) (ways shape (edges_of shape lines)) are (omega arith) (omega arith)
      ∙ ap (lists_from 1 (left_of shape) (right_of shape)) (sym (ways-append shape edges (edges_of shape lines))) in
      ap (λ rows. refused_or (edge_refusal shape lines) (record { columns = right_of shape; rows = rows })) rows

  -- one line less, which is refused or names an edge
  module _ (line : NumberedLine) (lines later : List NumberedLine) (is : lines ≡ line ∷ later) where
    pub then_stop : (places : List ℕ) (code : ℕ) → Err code ≡ edge_named shape (two_numbers (words_of line.text)) → lists_then shape places lines ≡ read.Refused (record { code = code; line = line.number })
    then_stop places code h =
        ap (λ refusal. refused_or refusal (record { columns = right_of shape; rows = lists_beside 1 (left_of shape) (right_of shape) places (ways shape (edges_of shape lines)) }))
        (edge_stop shape line lines later is code h)

    pub then_step : (places new : List ℕ) (edge : Edge) → Ok edge ≡ edge_named shape (two_numbers (words_of line.text)) → Placed shape places
        → ((edges : List Edge) → ArePlaces (left_of shape) (right_of shape) (ways shape edges) places → ArePlaces (left_of shape) (right_of shape) (ways shape (edges ++ edge ∷ [])) new)
        → lists_then shape new later ≡ lists_then shape places lines
    then_step places new edge h placed made =
        let before = edges_of shape placed.lines in
        then_lists new (before ++ edge ∷ []) later (made before placed.are)
        ∙ ap (λ edges. refused_or (edge_refusal shape later) (written edges)) (append_assoc before (edge ∷ []) (edges_of shape later) ∙ ap (λ edges. before ++ edges) (sym (edges_step shape line lines later is edge h)))
        ∙ ap (λ refusal. refused_or refusal (written (before ++ edges_of shape lines))) (sym (edge_step shape line lines later is edge h))
        ∙ sym (then_lists places before lines placed.are)

  -- one line more
  named_more : (lines : List NumberedLine) (line : NumberedLine) (edge : Edge) → Ok edge ≡ edge_named shape (two_numbers (words_of line.text)) → edge_refusal shape lines ≡ None
      → (edge_refusal shape (lines ++ line ∷ []) ≡ None) × (edges_of shape (lines ++ line ∷ []) ≡ edges_of shape lines ++ edge ∷ [])
  named_more [] line edge h none = (edge_step shape line (line ∷ []) [] refl edge h ∙ no_refusal shape, edges_step shape line (line ∷ []) [] refl edge h)
  named_more (first ∷ lines) line edge h none =
      let named = names_first shape first lines none in
      let more = named_more lines line edge h named.later in (
        edge_step shape first (first ∷ (lines ++ line ∷ [])) (lines ++ line ∷ []) refl named.edge (sym named.named) ∙ more.0,
        edges_step shape first (first ∷ (lines ++ line ∷ [])) (lines ++ line ∷ []) refl named.edge (sym named.named)
            ∙ ap (λ edges. named.edge ∷ edges) more.1
            ∙ ap (λ edges. edges ++ edge ∷ []) (sym (edges_step shape first (first ∷ lines) lines refl named.edge (sym named.named))),
      )

  pub placed_more : (places new : List ℕ) (line : NumberedLine) (edge : Edge) → Ok edge ≡ edge_named shape (two_numbers (words_of line.text)) → Placed shape places
      → ((edges : List Edge) → ArePlaces (left_of shape) (right_of shape) (ways shape edges) places → ArePlaces (left_of shape) (right_of shape) (ways shape (edges ++ edge ∷ [])) new) → Placed shape new
  placed_more places new line edge h placed made =
      let more = named_more placed.lines line edge h placed.taken in
      record {
        lines = placed.lines ++ line ∷ [];
        taken = more.0;
        are = rw more.1 (made (edges_of shape placed.lines) placed.are);
      }

  pub placed_none : (places : List ℕ) → places ≡ [] → Placed shape places
  placed_none places none = record { lines = []; taken = no_refusal shape; are = places_none shape places none }

  -- the lists that the places themselves give
  pub placed_lists : (places : List ℕ) (placed : Placed shape places) → lists_then shape places [] ≡ lists_of_lines shape placed.lines
  placed_lists places placed =
      then_lists places (edges_of shape placed.lines) [] placed.are
      ∙ ap (λ refusal. refused_or refusal (written (edges_of shape placed.lines ++ []))) (no_refusal shape ∙ sym placed.taken)
      ∙ ap (λ edges. refused_or (edge_refusal shape placed.lines) (written edges)) (append-nil (edges_of shape placed.lines))

  -- no edge before the first line
  pub then_none : (places : List ℕ) (lines : List NumberedLine) → places ≡ [] → lists_then shape places lines ≡ lists_of_lines shape lines
  then_none places lines none = then_lists places [] lines (places_none shape places none)

  -- the same where it is known only that there are such lines
  module _ (line : NumberedLine) (lines later : List NumberedLine) (is : lines ≡ line ∷ later) where
    pub step_placed : (places new : List ℕ) (edge : Edge) → Ok edge ≡ edge_named shape (two_numbers (words_of line.text)) → IsPlaced shape places
        → ((edges : List Edge) → ArePlaces (left_of shape) (right_of shape) (ways shape edges) places → ArePlaces (left_of shape) (right_of shape) (ways shape (edges ++ edge ∷ [])) new)
        → lists_then shape new later ≡ lists_then shape places lines
    step_placed places new edge h placed made = ∥∥₁_elim placed (hlevel props) (λ p. then_step line lines later is places new edge h p made)

  pub more_placed : (places new : List ℕ) (line : NumberedLine) (edge : Edge) → Ok edge ≡ edge_named shape (two_numbers (words_of line.text)) → IsPlaced shape places
      → ((edges : List Edge) → ArePlaces (left_of shape) (right_of shape) (ways shape edges) places → ArePlaces (left_of shape) (right_of shape) (ways shape (edges ++ edge ∷ [])) new) → IsPlaced shape new
  more_placed places new line edge h placed made = ∥∥₁_map placed (λ p. placed_more places new line edge h p made)

ascends_prop : (c low : ℕ) (row : List ℕ) → IsProp (Ascends c low row)
ascends_prop c low [] = hlevel props
ascends_prop c low (x ∷ row) = hlevel (ascends_prop c x row, props)

-- lists are those of the edges at places
pub record AreOfPlaces (shape : Shape) (places : List ℕ) (m : RowList) : Type 0 where
  pub lists : read.Ok m ≡ lists_then shape places []
  pub sides : IsBigraph (record { left = length m.rows; right = m.columns; neighbours = m.rows })
  pub vertices : shape ≡ Plain (left_of shape) → IsGraph (record { vertices = m.columns; neighbours = m.rows })

-- the lists that are made of places in order
module _ (shape : Shape) (places sorted : List ℕ) (left right : ℕ) (l : left ≡ left_of shape) (r : right ≡ right_of shape) (same : (place : ℕ) → has sorted place ≡ has places place)
    (m : RowList) (made : (edges : List Edge) → ArePlaces left right edges sorted → m ≡ record { columns = right; rows = lists_from 1 left right edges }) where
  lists_of_placed : (placed : Placed shape places) → read.Ok m ≡ lists_of_lines shape placed.lines
  lists_of_placed placed =
      lists_read shape placed.lines left right sorted m l r placed.taken
      (same_places (left_of shape) (right_of shape) (ways shape (edges_of shape placed.lines)) places sorted same placed.are) made

  pub made_of_places : IsPlaced shape places → 1 ≤ left_of shape → left_of shape ≤ LEFT_BOUND → 1 ≤ right_of shape → right_of shape ≤ COLUMN_BOUND → AreOfPlaces shape places m
  made_of_places placed some few wide narrow = record {
    lists = ∥∥₁_elim placed (hlevel props) (λ p. lists_of_placed p ∙ sym (placed_lists shape places p));
    sides = ∥∥₁_elim placed (hlevel (ascends_prop, props)) (λ p. is_bigraph shape m (are_lists shape p.lines m (lists_of_placed p)) some few wide narrow);
    vertices = λ plain.
        let square : right_of shape ≡ left_of shape = ap right_of plain in
        ∥∥₁_elim placed (hlevel (ascends_prop, props)) (λ p. is_graph shape (left_of shape) p.lines m plain some (omega arith) (lists_of_placed p));
  }
