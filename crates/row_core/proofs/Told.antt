-- What is found of a set of rows without each of them makes a core.
use Rattle.std.proofs.Common.{◌≡◌, ◌∙◌, ℕ, zero, suc, ◌+◌, ◌-◌, ◌<◌, ◌≤◌, List, [], ◌∷◌, ◌++◌, length, take, drop, get_or, refl, sym, ap, subst, inl, inr, arith}
use Rattle.std.proofs.lemmas.Bool.{cases_eq}
use Rattle.std.proofs.lemmas.List.{get_or_append_left, get_or_push, length_push}
use Rattle.column_order.specs.Orders.{place, IsValidOrder}
use Rattle.column_order.proofs.Lists.{at_place}
use Rattle.row_model.specs.declared.graph.Line.{Line}
use Rattle.row_model.specs.Cycles.{IsOddCycle}
use Rattle.row_model.specs.Rows.{RowList}
use Rattle.pq_tree.specs.Outline.{IsFrontier, leaves}
use Rattle.pq_tree.specs.Proper.{IsProper}
use Rattle.pq_tree.specs.PqTree.{outline}
use Rattle.pq_tree.specs.declared.PqTree.{PqTree}
use Rattle.row_judge.specs.Judges.{IsTreeOfOrders}
use Rattle.core_text.specs.Cores.{AreRowNumbers, rows_at, but}
use Rattle.core_text.specs.Told.{IsOrderWithout, AreAmong, TellsCore}
use Rattle.row_core.specs.Blamed.{part_at, AreTold}
use Rattle.core_text.specs.Laws.{BlameLaw}
use Rattle.core_text.proofs.LeftOut.{but_at}

-- the order of a tree of all valid orders of the rows but one
pub order_without : (m : RowList) (set others o : List ℕ) (i : ℕ) (t : PqTree) → AreRowNumbers (length m.rows) set → i < length set → others ≡ take i set ++ drop (i + 1) set
    → IsTreeOfOrders (part_at m others) t → o ≡ leaves (outline t) → IsFrontier (outline t) o → IsOrderWithout m set (get_or set i 0) o
order_without m set others o i t a l e found is frontier =
    let same : others ≡ but (get_or set i 0) set = e ∙ sym (but_at (length m.rows) 0 set i a l) in
    let there : IsTreeOfOrders (part_at m (but (get_or set i 0) set)) t = subst (λ xs. IsTreeOfOrders (part_at m xs) t) same found in
    let proper : IsProper m.columns (outline t) = subst (λ c. IsProper c (outline t)) there.columns t.proper in
    record { valid = (there.orders o).0 frontier; tree = outline t; proper = proper; canonical = there.canonical; orders = there.orders; leaves = is }

-- the order of the row before is the last that is told
pub told_more : (m : RowList) (set : List ℕ) (orders new : List (List ℕ)) (o : List ℕ) (i told : ℕ) → i < length set → IsOrderWithout m set (get_or set i 0) o → new ≡ orders ++ o ∷ []
    → AreTold m set (i + 1) told orders → AreTold m set i (told + 1) new
told_more m set orders new o i told l here more before = record {
  count = ap length more ∙ length_push orders o ∙ ap (λ n. n + 1) before.count;
  inside = omega (arith, before.inside);
  each = each;
}
  where
    each : (j : ℕ) → j < told + 1 → IsOrderWithout m set (get_or set (i + j) 0) (get_or new (told + 1 - 1 - j) [])
    each zero k =
        let last : told + 1 - 1 - 0 ≡ told = omega arith in
        let row : i + 0 ≡ i = omega arith in
        let at : get_or new (told + 1 - 1 - 0) [] ≡ o = ap (λ n. get_or new n []) last ∙ ap (λ os. get_or os told []) more ∙ get_or_push orders o [] told before.count in
        subst (IsOrderWithout m set (get_or set (i + 0) 0)) (sym at) (subst (λ n. IsOrderWithout m set (get_or set n 0) o) (sym row) here)
    each (suc j) k =
        let place : told + 1 - 1 - suc j ≡ told - 1 - j = omega (arith, k) in
        let row : i + suc j ≡ i + 1 + j = omega arith in
        let at : get_or new (told + 1 - 1 - suc j) [] ≡ get_or orders (told - 1 - j) [] =
        ap (λ n. get_or new n []) place ∙ ap (λ os. get_or os (told - 1 - j) []) more ∙ get_or_append_left orders (o ∷ []) [] (told - 1 - j) (omega (arith, k, before.count)) in
        subst (IsOrderWithout m set (get_or set (i + suc j) 0)) (sym at)
        (subst (λ n. IsOrderWithout m set (get_or set n 0) (get_or orders (told - 1 - j) [])) (sym row) (before.each j (omega (arith, k))))

-- no order is told
pub none_told : (m : RowList) (set : List ℕ) (from : ℕ) → from ≤ length set → AreTold m set from 0 []
none_told m set from l = record { count = refl; inside = omega (arith, l); each = λ i k. absurd (omega (arith, k)) }

-- one order more
pub order_more : (m : RowList) (set o : List ℕ) (orders new : List (List ℕ)) (i : ℕ) → IsOrderWithout m set (get_or set i 0) o → new ≡ orders ++ o ∷ [] → length orders ≡ i
    → ((j : ℕ) → j < i → IsOrderWithout m set (get_or set j 0) (get_or orders j []))
    → (length new ≡ i + 1) × ((j : ℕ) → j < i + 1 → IsOrderWithout m set (get_or set j 0) (get_or new j []))
order_more m set o orders new i one more count before = (
  ap length more ∙ length_push orders o ∙ ap (λ n. n + 1) count,
  λ j k.
      elim (cases_eq j i) [
        | inl s ↦
            let at : get_or new j [] ≡ o = ap (λ n. get_or new n []) s ∙ ap (λ os. get_or os i []) more ∙ get_or_push orders o [] i count in
            let here : IsOrderWithout m set (get_or set j 0) o = subst (λ n. IsOrderWithout m set (get_or set n 0) o) (sym s) one in
            subst (IsOrderWithout m set (get_or set j 0)) (sym at) here
        | inr n ↦
            let at : get_or new j [] ≡ get_or orders j [] = ap (λ os. get_or os j []) more ∙ get_or_append_left orders (o ∷ []) [] j (omega (arith, k, n, count)) in
            subst (IsOrderWithout m set (get_or set j 0)) (sym at) (before j (omega (arith, k, n)))
      ],
)

-- rows that are to blame, with an order without each of them
pub tells_core : BlameLaw → (m : RowList) (rows : List ℕ) (orders : List (List ℕ)) (lines : List Line) → AreRowNumbers (length m.rows) rows → IsOddCycle m.columns m.rows lines → AreAmong rows lines
    → length orders ≡ length rows → ((i : ℕ) → i < length rows → IsOrderWithout m rows (get_or rows i 0) (get_or orders i [])) → TellsCore m (record { rows = rows; orders = orders; lines = lines })
tells_core law m rows orders lines a cycle among count each =
    record {
      core = record {
        rows = a;
        none = law m rows lines (record { closed = cycle.closed; odd = cycle.simple.odd }) among;
        others = λ k h.
            let there = at_place rows k h in
            let o : List ℕ = get_or orders (place rows k) [] in
            (o, subst (λ n. IsValidOrder m.columns (rows_at m.rows (but n rows)) o) there.1 (each (place rows k) there.0).valid);
      };
      count = count;
      orders = each;
      cycle = cycle;
      among = among;
    }
