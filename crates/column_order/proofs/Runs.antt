-- An order keeps a row exactly where the row has as many columns as there are positions from its first to its last.
use Rattle.std.proofs.Common.{◌≡◌, ◌↔◌, ◌∙◌, ℕ, ◌+◌, ◌-◌, ◌<◌, ◌≤◌, List, [], length, take, drop, get_or, IsTrue, refl, sym, ap, subst, inl, inr, arith, length-drop}
use Rattle.std.proofs.lemmas.Bool.{cases_eq, both_ways}
use Rattle.std.proofs.lemmas.List.{length-take-le, get_or-drop, get_or-take, take-append-drop}
use Rattle.column_order.specs.Orders.{has, occurs, place, IsOrder, Keeps, IsWithin, AreEnds}
use Rattle.column_order.proofs.Lists.{has_at, at_place, occurs-append, occurs_from_has, has_from_occurs}
use Rattle.column_order.proofs.Counts.{order_once, order_within, order_has, length_le, same_counts}

-- so many positions of the order, from one on
run : List ℕ → ℕ → ℕ → List ℕ
run o first n = take n (drop first o)

occurs-take : (n : ℕ) (xs : List ℕ) (a : ℕ) → occurs (take n xs) a ≤ occurs xs a
occurs-take n xs a = omega (arith, occurs-append (take n xs) (drop n xs) a, ap (λ ys. occurs ys a) (take-append-drop n xs))

occurs-drop : (n : ℕ) (xs : List ℕ) (a : ℕ) → occurs (drop n xs) a ≤ occurs xs a
occurs-drop n xs a = omega (arith, occurs-append (take n xs) (drop n xs) a, ap (λ ys. occurs ys a) (take-append-drop n xs))

-- of two lists the one that has a number at most once, and has it only where the other does, has it no more often
once_le : (xs ys : List ℕ) (a : ℕ) → occurs xs a ≤ 1 → (IsTrue (has xs a) → IsTrue (has ys a)) → occurs xs a ≤ occurs ys a
once_le xs ys a once sub =
    elim (cases_eq (occurs xs a) 0) [
      | inl e ↦ omega arith
      | inr n ↦ omega (arith, occurs_from_has ys a (sub (has_from_occurs xs a (omega arith))))
    ]

module _ (c : ℕ) (o row : List ℕ) (order : IsOrder c o) (inside : IsWithin c row) (once : (a : ℕ) → occurs row a ≤ 1)
    (first last n : ℕ) (ends : AreEnds o row first last) (many : first + n ≡ last + 1) where
  the_run : List ℕ
  the_run = run o first n

  run_length : length the_run ≡ n
  unfolding the_run run
  run_length = length-take-le n (drop first o) (omega (arith, length-drop first o, ends.inside))

  run_occurs : (a : ℕ) → occurs the_run a ≤ occurs o a
  unfolding the_run run
  run_occurs a = omega (arith, occurs-take n (drop first o) a, occurs-drop first o a)

  run_within : IsWithin c the_run
  run_within a h = order_within c o order a (has_from_occurs o a (omega (arith, run_occurs a, occurs_from_has the_run a h)))

  run_once : (a : ℕ) → occurs the_run a ≤ 1
  run_once a = omega (arith, run_occurs a, order_once c o order a)

  run_at : (j : ℕ) → j < n → get_or the_run j 0 ≡ get_or o (first + j) 0
  unfolding the_run run
  run_at j h = get_or-take n (drop first o) j 0 h ∙ get_or-drop first o j 0

  -- the columns at the positions from first to last
  in_run : (i : ℕ) → first ≤ i → i ≤ last → IsTrue (has the_run (get_or o i 0))
  in_run i l u =
      let e : get_or the_run (i - first) 0 ≡ get_or o i 0 = run_at (i - first) (omega arith) ∙ ap (λ k. get_or o k 0) (omega arith) in
      subst (λ a. IsTrue (has the_run a)) e (has_at the_run (i - first) (omega (arith, run_length)))

  from_run : (a : ℕ) → IsTrue (has the_run a) → (i : ℕ) × (first ≤ i) × (i ≤ last) × (get_or o i 0 ≡ a)
  from_run a h =
      let p = at_place the_run a h in
      let lt : place the_run a < n = omega (arith, p.0, run_length) in
      (first + place the_run a, omega arith, omega arith, sym (run_at (place the_run a) lt) ∙ p.1)

  row_in_run : (a : ℕ) → IsTrue (has row a) → IsTrue (has the_run a)
  row_in_run a h =
      let r = inside a h in
      let p = at_place o a (order_has c o order a r.0 r.1) in
      let between = ends.whole (place o a) p.0 (subst (λ b. IsTrue (has row b)) (sym p.1) h) in
      subst (λ b. IsTrue (has the_run b)) p.1 (in_run (place o a) between.0 between.1)

  row_less : (a : ℕ) → occurs row a ≤ occurs the_run a
  row_less a = once_le row the_run a (once a) (row_in_run a)

  long_if_kept : Keeps o row → n ≡ length row
  long_if_kept keeps =
      let run_in_row : (a : ℕ) → IsTrue (has the_run a) → IsTrue (has row a) =
      λ a h. let r = from_run a h in subst (λ b. IsTrue (has row b)) r.3 (at r.0 r.1 r.2) in
      omega (arith, run_length, length_le c row inside the_run run_within row_less, length_le c the_run run_within row inside (λ a. once_le the_run row a (run_once a) (run_in_row a)))
    where
      at : (i : ℕ) → first ≤ i → i ≤ last → IsTrue (has row (get_or o i 0))
      at i l u =
          elim (cases_eq first i) [
            | inl e ↦ subst (λ k. IsTrue (has row (get_or o k 0))) e ends.has_first
            | inr d ↦ elim (cases_eq i last) [
              | inl e ↦ subst (λ k. IsTrue (has row (get_or o k 0))) (sym e) ends.has_last
              | inr f ↦ keeps first i last (omega arith) (omega arith) ends.inside ends.has_first ends.has_last
            ]
          ]

  kept_if_long : n ≡ length row → Keeps o row
  kept_if_long long i j k ij jk ko hi hk =
      let bi = ends.whole i (omega arith) hi in
      let bk = ends.whole k ko hk in
      let there = in_run j (omega (arith, bi.0)) (omega (arith, bk.1)) in
      let r = order_within c o order (get_or o j 0) (has_at o j (omega arith)) in
      let same = same_counts c row inside the_run run_within row_less (omega (arith, run_length)) (get_or o j 0) r.0 r.1 in
      has_from_occurs row (get_or o j 0) (omega (arith, occurs_from_has the_run (get_or o j 0) there))

  -- a row is kept exactly where it has as many columns as there are positions from its first to its last
  pub kept_by_length : Keeps o row ↔ (n ≡ length row)
  kept_by_length = (long_if_kept, kept_if_long)

-- an order keeps a row without columns
pub kept_empty : (o : List ℕ) → Keeps o []
kept_empty o i j k ij jk ko hi hk = absurd (both_ways _ refl hi)
