-- The rows of a core narrow the tree of all orders one by one.
use Rattle.std.proofs.Common.{◌≡◌, ◌∙◌, ℕ, zero, suc, ◌+◌, ◌-◌, ◌*◌, ◌<◌, ◌≤◌, List, [], ◌∷◌, ◌++◌, length, take, drop, get_or, IsTrue, sym, subst, inl, inr, arith}
use Rattle.std.specs.Prelude.{All}
use Rattle.std.proofs.lemmas.Bool.{cases_eq}
use Rattle.std.proofs.lemmas.List.{length-map, get_or-map, get_or-take, length-take-le, take_more, take-map, map-append}
use Rattle.std.proofs.lemmas.List.Elements.{All-append}
use Rattle.column_order.specs.Orders.{has, Keeps, IsWithin, IsValidOrder, HasValidOrder}
use Rattle.column_order.proofs.Counts.{order_length}
use Rattle.column_order.proofs.Lists.{has_append_left, has_append_right, has_at}
use Rattle.row_model.specs.Graph.{row_at}
use Rattle.row_model.specs.Rows.{RowList, IsRow}
use Rattle.row_model.proofs.Ascending.{row_within}
use Rattle.pq_tree.specs.Outline.{Outline, leaf, p_node, q_node}
use Rattle.pq_tree.specs.Proper.{IsProper, universal}
use Rattle.pq_tree.proofs.Equivalent.{tree_from_proper}
use Rattle.tree_theory.specs.Tied.{IsTied}
use Rattle.tree_theory.specs.TiedLaws.{TiedLaw, UniversalLaw, SameFrontiersLaw}
use Rattle.tree_theory.specs.Laws.{KeptLaw, ExistsLaw}
use Rattle.tree_theory.proofs.Measures.{universal_measure}
use Rattle.core_text.specs.Cores.{rows_at, but, IsCore}
use Rattle.core_text.proofs.LeftOut.{but_at}
use Rattle.row_core.proofs.Numbers.{within_at}
use Rattle.row_core.proofs.Needed.{AreIn, valid_few, some_valid_few, but_has}
use Rattle.core_size.specs.Slack.{slack}
use Rattle.core_size.specs.Laws.{NarrowsLaw}
use Rattle.core_size.proofs.Slacks.{slacks}

-- a tree over two columns or more has some slack
some_slack : (c : ℕ) (t : Outline) → 2 ≤ c → IsProper c t → 1 ≤ slack t
some_slack c (leaf a) h p = absurd (omega (arith, h, order_length c (a ∷ []) p.1))
some_slack c (p_node ts) h p = omega (arith, p.0.0)
some_slack c (q_node ts) h p = omega arith

-- a tree that is tied to the first j rows, each of which let its slack fall
record Stage (c : ℕ) (rows : List (List ℕ)) (j : ℕ) : Type 0 where
  tree : Outline
  proper : IsProper c tree
  tied : IsTied c (take j rows) tree
  left : slack tree + j + 3 ≤ 2 * c

-- an order that is valid for the rows of two lists is valid for those of both
valid_both : (c : ℕ) (rows : List (List ℕ)) (xs ys : List ℕ) (o : List ℕ) → IsValidOrder c (rows_at rows xs) o → IsValidOrder c (rows_at rows ys) o → IsValidOrder c (rows_at rows (xs ++ ys)) o
valid_both c rows xs ys o h k =
    record { order = h.order; kept = subst (All (Keeps o)) (sym (map-append (row_at rows) xs ys)) (All-append (Keeps o) (rows_at rows xs) (rows_at rows ys) h.kept k.kept) }

-- one row more, which is not the last
module _ (narrows : NarrowsLaw) (kept : KeptLaw) (exists : ExistsLaw) (frontiers : TiedLaw) (alike : SameFrontiersLaw) (m : RowList) (core : List ℕ) (all : All (IsRow m.columns) m.rows) (is : IsCore m core) where
  others_front : (i : ℕ) → i < length core → AreIn (take i core) (but (get_or core i 0) core)
  others_front i l y h = subst (λ xs. IsTrue (has xs y)) (sym (but_at (length m.rows) 0 core i is.rows l)) (has_append_left (take i core) (drop (i + 1) core) y h)

  -- a row and the others are all rows
  all_in : (i : ℕ) → i < length core → AreIn core (take (i + 1) core ++ but (get_or core i 0) core)
  all_in i l y h = elim (cases_eq y (get_or core i 0)) [
    | inl e ↦
        let inside : i < length (take (i + 1) core) = omega (arith, length-take-le (i + 1) core (omega (arith, l))) in
        let at : get_or (take (i + 1) core) i 0 ≡ y = get_or-take (i + 1) core i 0 (omega arith) ∙ sym e in
        has_append_left (take (i + 1) core) (but (get_or core i 0) core) y (subst (λ k. IsTrue (has (take (i + 1) core) k)) at (has_at (take (i + 1) core) i inside))
    | inr n ↦ has_append_right (take (i + 1) core) (but (get_or core i 0) core) y (but_has (get_or core i 0) y core h n)
  ]

  -- a row that every order of those before it keeps could be left out
  not_implied : (j : ℕ) → j < length core → ((o : List ℕ) → IsValidOrder m.columns (take j (rows_at m.rows core)) o → IsValidOrder m.columns (take (j + 1) (rows_at m.rows core)) o) → ⊥
  not_implied j l implied =
      let x : ℕ = get_or core j 0 in
      let other = is.others x (has_at core j l) in
      let o : List ℕ = other.0 in
      let front : IsValidOrder m.columns (take j (rows_at m.rows core)) o =
      subst (λ rows. IsValidOrder m.columns rows o) (sym (take-map (row_at m.rows) j core)) (valid_few m.columns m.rows (take j core) (but x core) o (others_front j l) other.1) in
      let more : IsValidOrder m.columns (rows_at m.rows (take (j + 1) core)) o = subst (λ rows. IsValidOrder m.columns rows o) (take-map (row_at m.rows) (j + 1) core) (implied o front) in
      is.none (o, valid_few m.columns m.rows core (take (j + 1) core ++ but x core) o (all_in j l) (valid_both m.columns m.rows (take (j + 1) core) (but x core) o more other.1))

  step : (j : ℕ) → j + 1 < length core → Stage m.columns (rows_at m.rows core) j → Stage m.columns (rows_at m.rows core) (j + 1)
  step j l before =
      let rows : List (List ℕ) = rows_at m.rows core in
      let row : List ℕ = get_or rows j [] in
      let size : length rows ≡ length core = length-map core (row_at m.rows) in
      let more : take (j + 1) rows ≡ take j rows ++ row ∷ [] = take_more rows j [] (omega (arith, size, l)) in
      let place = within_at (length m.rows) 0 core j 0 is.rows (omega (arith, l)) in
      let at : row ≡ row_at m.rows (get_or core j 0) = get_or-map (row_at m.rows) core j 0 [] (omega (arith, l)) in
      let within : IsWithin m.columns row = subst (IsWithin m.columns) (sym at) (row_within m.columns (row_at m.rows (get_or core j 0)) (all (get_or core j 0 - 1) [] (omega (arith, place.0, place.1)))) in
      let other = is.others (get_or core (j + 1) 0) (has_at core (j + 1) l) in
      let front : HasValidOrder m.columns (take (j + 1) rows) =
      subst (HasValidOrder m.columns) (sym (take-map (row_at m.rows) (j + 1) core)) (some_valid_few m.columns m.rows (take (j + 1) core) (but (get_or core (j + 1) 0) core) (others_front (j + 1) l) other) in
      let reduced = (exists m.columns (take j rows) row before.tree before.proper before.tied within).1 (subst (HasValidOrder m.columns) more front) in
      let after = kept m.columns (take j rows) row before.tree reduced.0 before.proper before.tied within reduced.1 in
      let tied : IsTied m.columns (take (j + 1) rows) reduced.0 = subst (λ xs. IsTied m.columns xs reduced.0) (sym more) after.1 in
      elim (narrows row before.tree reduced.0 (tree_from_proper m.columns before.tree before.proper) reduced.1) [
        | inl less ↦ record { tree = reduced.0; proper = after.0; tied = tied; left = omega (arith, less, before.left) }
        | inr same ↦
            absurd (not_implied j (omega (arith, l)) (λ o valid.
            (frontiers m.columns (take (j + 1) rows) reduced.0 after.0.1 tied o).0
            ((alike before.tree reduced.0 same o).0 ((frontiers m.columns (take j rows) before.tree before.proper.1 before.tied o).1 valid))))
      ]

  stages : Stage m.columns (rows_at m.rows core) 0 → (j : ℕ) → j + 1 ≤ length core → Stage m.columns (rows_at m.rows core) j
  stages first zero l = first
  stages first (suc j) l =
      let e : j + 1 ≡ suc j = omega arith in
      subst (Stage m.columns (rows_at m.rows core)) e (step j (omega (arith, l)) (stages first j (omega (arith, l))))

pub core_size : NarrowsLaw → UniversalLaw → KeptLaw → ExistsLaw → TiedLaw → SameFrontiersLaw → (m : RowList) (core : List ℕ) → 2 ≤ m.columns → All (IsRow m.columns) m.rows → IsCore m core → length core + 3 ≤ 2 * m.columns
core_size narrows start kept exists frontiers alike m [] h all is = omega (arith, h)
core_size narrows start kept exists frontiers alike m (k ∷ core) h all is =
    let u = start m.columns (omega (arith, h)) in
    let first : Stage m.columns (rows_at m.rows (k ∷ core)) 0 = record { tree = universal m.columns; proper = u.0; tied = u.1; left = omega (arith, universal_measure slacks m.columns h) } in
    let last = stages narrows kept exists frontiers alike m (k ∷ core) all is first (length core) (omega arith) in
    omega (arith, last.left, some_slack m.columns last.tree h last.proper)
