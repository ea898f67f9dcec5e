-- The closed rows vertex by vertex.
use Rattle.std.proofs.Common.{◌≡◌, ◌⊎◌, ◌∙◌, ℕ, ◌+◌, ◌-◌, ◌<◌, ◌≤◌, ◌||◌, eqb, List, [], ◌∷◌, ◌++◌, Some, length, map, take, drop, get_or, slice_get, IsTrue, sym, ap, inl, inr, arith, eq-eqb, eqb-true}
use Rattle.std.proofs.lemmas.Bool.{cases_eq, cases_lt, lt-ltb, le-ltb, both_ways, or_cases, or_left, or_right}
use Rattle.std.proofs.lemmas.List.{map-append}
use Rattle.std.proofs.lemmas.List.FromFn.{get_or-map-range_with_len, length-map-range_with_len}
use Rattle.std.proofs.lemmas.Option.{get_or_from_slice_get}
use Rattle.std.specs.List.{range_with_len}
use Rattle.column_order.specs.Orders.{has}
use Rattle.column_order.proofs.Lists.{has_head, has_tail}
use Rattle.row_model.specs.Rows.{RowList, Ascends, IsRow}
use Rattle.row_model.specs.Graph.{row_at}
use Rattle.row_model.proofs.Ascending.{row_within}
use Rattle.row_model.proofs.Filtered.{has_filtered, filtered_row, range_more}
use Rattle.row_model.proofs.RowLemmas.{row_where, has-inserted}
use Rattle.graph_model.specs.Graphs.{GraphValue, IsGraph, has_edge, below}
use Rattle.proper_interval.specs.Umbrellas.{is_in_closed, closed_row, closed_to, closed_of}
use Rattle.proper_interval.specs.Laws.{ClosedCountLaw, ClosedRowLaw}

many_closed : (g : GraphValue) (n : ℕ) → length (closed_to g n) ≡ n
many_closed g n = length-map-range_with_len (closed_row g) 1 n

closed_at : (g : GraphValue) (v : ℕ) → 1 ≤ v → v ≤ g.vertices → row_at (closed_of g).rows v ≡ closed_row g v
closed_at g v l u = get_or-map-range_with_len (closed_row g) 1 g.vertices (v - 1) v [] (omega arith) (omega arith)

-- a closed row has the vertex and its neighbours, and no other
pub closed_cases : (g : GraphValue) (v a : ℕ) → IsTrue (has (closed_row g v) a) → (a ≡ v) ⊎ IsTrue (has_edge g.neighbours v a)
closed_cases g v a h =
    let r = row_within g.vertices (closed_row g v) (filtered_row (is_in_closed g v) g.vertices) a h in
    elim (or_cases (eqb v a) (has_edge g.neighbours v a) (sym (has_filtered (is_in_closed g v) g.vertices a r.0 r.1) ∙ h)) [
      | inl e ↦ inl (sym (eqb-true v a e))
      | inr e ↦ inr e
    ]

pub closed_edge : (g : GraphValue) (v a : ℕ) → 1 ≤ a → a ≤ g.vertices → IsTrue (has_edge g.neighbours v a) → IsTrue (has (closed_row g v) a)
closed_edge g v a l u h = has_filtered (is_in_closed g v) g.vertices a l u ∙ or_right (eqb v a) (has_edge g.neighbours v a) h

pub closed_self : (g : GraphValue) (v a : ℕ) → 1 ≤ a → a ≤ g.vertices → a ≡ v → IsTrue (has (closed_row g v) a)
closed_self g v a l u e = has_filtered (is_in_closed g v) g.vertices a l u ∙ or_left (eqb v a) (has_edge g.neighbours v a) (eq-eqb v a (sym e))

pub closed_count : ClosedCountLaw
closed_count g = many_closed g g.vertices

pub closed_rows_are : ClosedRowLaw
closed_rows_are g v k =
    rw (closed_at g v k.0 k.1) (
      filtered_row (is_in_closed g v) g.vertices,
      λ a r. (closed_cases g v a, λ s. elim s [ inl e ↦ closed_self g v a r.0 r.1 e | inr e ↦ closed_edge g v a r.0 r.1 e ]),
    )

-- one closed row more
pub closed_next : (g : GraphValue) (n : ℕ) (before after : RowList) (next : List ℕ) → before ≡ record { columns = g.vertices; rows = closed_to g n } →
    next ≡ closed_row g (n + 1) → after ≡ record before { rows = before.rows ++ next ∷ [] } → after ≡ record { columns = g.vertices; rows = closed_to g (n + 1) }
closed_next g n before after next h is e =
    let last : 1 + n ≡ n + 1 = omega arith in
    let more : closed_to g (n + 1) ≡ closed_to g n ++ closed_row g (n + 1) ∷ [] =
    ap (map (closed_row g)) (range_more n 1) ∙ map-append (closed_row g) (range_with_len 1 n) ((1 + n) ∷ []) ∙ ap (λ m. closed_to g n ++ closed_row g m ∷ []) last in
    let with_rows : List (List ℕ) → RowList = λ rows. record { columns = g.vertices; rows = rows } in
    e ∙ ap (λ (m : RowList). record { columns = m.columns; rows = m.rows ++ next ∷ [] }) h ∙ ap with_rows (ap (λ r. closed_to g n ++ r ∷ []) is ∙ sym more)

-- a row with one more column behind those below it
ascends_inserted : (c low v : ℕ) (row : List ℕ) → Ascends c low row → low < v → v ≤ c → (IsTrue (has row v) → ⊥) → Ascends c low (take (below v row) row ++ v ∷ drop (below v row) row)
ascends_inserted c low v [] h lt le new = (lt, le, tt)
ascends_inserted c low v (x ∷ row) h lt le new =
    elim (cases_lt x v) [
      | inl l ↦ rw (lt-ltb x v l) (h.0, h.1, ascends_inserted c x v row h.2 l le (λ t. new (has_tail x v row t)))
      | inr g ↦ elim (cases_eq x v) [
        | inl e ↦ absurd (new (rw e (has_head v row)))
        | inr n ↦ rw (le-ltb x v g) (lt, le, (omega (arith, g, n), h.1, h.2))
      ]
    ]

-- the neighbours with the vertex in its place among them
pub closed_made : (g : GraphValue) (v place : ℕ) (neighbours : List ℕ) → IsGraph g → 1 ≤ v → v ≤ g.vertices → slice_get g.neighbours (v - 1) ≡ Some neighbours → IsRow g.vertices neighbours →
    place ≡ below v neighbours → take place neighbours ++ v ∷ drop place neighbours ≡ closed_row g v
closed_made g v place neighbours h l u at row is =
    let list : get_or g.neighbours (v - 1) [] ≡ neighbours = get_or_from_slice_get g.neighbours (v - 1) neighbours [] at in
    let new : IsTrue (has neighbours v) → ⊥ = λ t. both_ways (has neighbours v) (ap (λ xs. has xs v) (sym list) ∙ h.loopless v l) t in
    row_where g.vertices (take place neighbours ++ v ∷ drop place neighbours) (is_in_closed g v)
    (rw is (ascends_inserted g.vertices 0 v neighbours row (omega (arith, l)) u new))
    (λ a _ _. has-inserted place v a neighbours ∙ ap (λ xs. eqb v a || has xs a) (sym list))
