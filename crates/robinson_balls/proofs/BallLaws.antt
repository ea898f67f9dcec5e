-- Robinson orders are the valid orders of the balls.
use Rattle.std.proofs.Common.{◌≡◌, ◌∙◌, ℕ, zero, suc, ◌<◌, ◌≤◌, leb, List, [], ◌∷◌, length, map, get_or, IsTrue, All, refl, sym, ap, subst, inl, inr, arith}
use Rattle.std.proofs.lemmas.Bool.{cases_eq, cases_lt, leb-true, le-leb, both_ways}
use Rattle.std.proofs.lemmas.List.Elements.{All-append, All-map, All-nil, All-contains, Contains-append_left, Contains-append_right}
use Rattle.std.specs.List.{Contains}
use Rattle.column_order.specs.Orders.{has, place, IsOrder, Keeps}
use Rattle.column_order.proofs.Lists.{has_cases, has_at, at_place}
use Rattle.column_order.proofs.Counts.{order_within, order_has}
use Rattle.row_model.proofs.Filtered.{has_filtered}
use Rattle.graph_model.specs.Distances.{DistancesValue, IsDistances}
use Rattle.robinson_balls.specs.Balls.{between, ball, radii, balls_round, balls_to, IsRobinsonOrder}
use Rattle.robinson_balls.specs.Laws.{RobinsonLaw}
use Rattle.robinson_balls.proofs.Radii.{radii_have}

-- an item is in a ball exactly where its distance is at most the radius
pub in_ball : (d : DistancesValue) (x radius y : ℕ) → 1 ≤ y → y ≤ d.items → between d x y ≤ radius → IsTrue (has (ball d x radius) y)
in_ball d x radius y l u h = has_filtered (λ z. leb (between d x z) radius) d.items y l u ∙ le-leb (between d x y) radius h

pub near : (d : DistancesValue) (x radius y : ℕ) → 1 ≤ y → y ≤ d.items → IsTrue (has (ball d x radius) y) → between d x y ≤ radius
near d x radius y l u h = leb-true (between d x y) radius (sym (has_filtered (λ z. leb (between d x z) radius) d.items y l u) ∙ h)

pub map_has : {X : Type 0} (f : ℕ → X) (xs : List ℕ) (a : ℕ) → IsTrue (has xs a) → Contains (map f xs) (f a)
map_has f [] a h = absurd (both_ways _ refl h)
map_has f (x ∷ xs) a h =
    elim (has_cases x a xs h) [
      | inl e ↦ (zero, omega arith, ap f e)
      | inr t ↦ let found = map_has f xs a t in (suc found.0, omega (arith, found.1), found.2)
    ]

-- among the balls are those round each item that reach to another
balls_have : (d : DistancesValue) (x z n : ℕ) → 1 ≤ x → x ≤ n → 1 ≤ z → z ≤ d.items → Contains (balls_to d n) (ball d x (between d x z))
balls_have d x z zero l u lz uz = absurd (omega (arith, l, u))
balls_have d x z (suc n) l u lz uz =
    elim (cases_eq x (suc n)) [
      | inl e ↦ subst (λ a. Contains (balls_to d (suc n)) (ball d a (between d a z))) (sym e)
          (Contains-append_right (balls_to d n) (balls_round d (suc n)) (ball d (suc n) (between d (suc n) z))
          (map_has (ball d (suc n)) (radii d (suc n)) (between d (suc n) z) (radii_have d (suc n) z lz uz)))
      | inr k ↦ Contains-append_left (balls_to d n) (balls_round d (suc n)) (ball d x (between d x z)) (balls_have d x z n l (omega (arith, u, k)) lz uz)
    ]

module _ (d : DistancesValue) (o : List ℕ) (h : IsDistances d) (order : IsOrder d.items o) where
  item : (i : ℕ) → i < length o → (1 ≤ get_or o i 0) × (get_or o i 0 ≤ d.items)
  item i l = order_within d.items o order (get_or o i 0) (has_at o i l)

  symmetric : (i j : ℕ) → i < length o → j < length o → between d (get_or o i 0) (get_or o j 0) ≡ between d (get_or o j 0) (get_or o i 0)
  symmetric i j li lj = h.symmetric (get_or o i 0) (get_or o j 0) (item i li).0 (item i li).1 (item j lj).0 (item j lj).1

  -- in a Robinson order no ball has a gap
  ball_kept : IsRobinsonOrder d o → (x radius : ℕ) → 1 ≤ x → x ≤ d.items → Keeps o (ball d x radius)
  ball_kept r x radius lx ux i j k ij jk u hi hk =
      let at = at_place o x (order_has d.items o order x lx ux) in
      let p = place o x in
      let mid = get_or o j 0 in
      let li : i < length o = omega (arith, ij, jk, u) in
      let lj : j < length o = omega (arith, jk, u) in
      let near_i : between d x (get_or o i 0) ≤ radius = near d x radius (get_or o i 0) (item i li).0 (item i li).1 hi in
      let near_k : between d x (get_or o k 0) ≤ radius = near d x radius (get_or o k 0) (item k u).0 (item k u).1 hk in
      let from : (a : ℕ) → between d (get_or o p 0) a ≡ between d x a = λ a. ap (λ y. between d y a) at.1 in
      in_ball d x radius mid (item j lj).0 (item j lj).1 (elim (cases_lt p j) [
        | inl before ↦ omega (arith, near_k, from mid, from (get_or o k 0), (r.outer p j k before jk u).0)
        | inr l ↦ elim (cases_eq p j) [
          | inl e ↦ omega (arith, h.zero_diagonal x lx ux, ap (λ y. between d x y) (sym at.1), ap (λ q. between d x (get_or o q 0)) (sym e))
          | inr n ↦ omega (arith, near_i, from mid, from (get_or o i 0), (r.outer i j p ij (omega (arith, l, n)) at.0).1, symmetric j p lj at.0, symmetric i p li at.0)
        ]
      ])

  all_kept : IsRobinsonOrder d o → (n : ℕ) → n ≤ d.items → All (Keeps o) (balls_to d n)
  all_kept r zero l = All-nil (Keeps o)
  all_kept r (suc n) l =
      All-append (Keeps o) (balls_to d n) (balls_round d (suc n)) (all_kept r n (omega (arith, l)))
      (All-map (Keeps o) (ball d (suc n)) (radii d (suc n)) (λ i s u. ball_kept r (suc n) (get_or (radii d (suc n)) i s) (omega arith) l))

  -- the ball round one item that reaches to another has the items between them
  outer_from : All (Keeps o) (balls_to d d.items) → (i j k : ℕ) → i < j → j < k → k < length o →
      (between d (get_or o i 0) (get_or o j 0) ≤ between d (get_or o i 0) (get_or o k 0)) × (between d (get_or o j 0) (get_or o k 0) ≤ between d (get_or o i 0) (get_or o k 0))
  outer_from kept i j k ij jk u =
      let li : i < length o = omega (arith, ij, jk, u) in
      let lj : j < length o = omega (arith, jk, u) in
      let a = get_or o i 0 in
      let m = get_or o j 0 in
      let b = get_or o k 0 in
      let ra = item i li in
      let rm = item j lj in
      let rb = item k u in
      let zero_a : between d a a ≡ 0 = h.zero_diagonal a ra.0 ra.1 in
      let zero_b : between d b b ≡ 0 = h.zero_diagonal b rb.0 rb.1 in
      let left : Keeps o (ball d a (between d a b)) = All-contains (Keeps o) (balls_to d d.items) (ball d a (between d a b)) kept (balls_have d a b d.items ra.0 ra.1 rb.0 rb.1) in
      let right : Keeps o (ball d b (between d b a)) = All-contains (Keeps o) (balls_to d d.items) (ball d b (between d b a)) kept (balls_have d b a d.items rb.0 rb.1 ra.0 ra.1) in
      let from_a : between d a m ≤ between d a b =
      near d a (between d a b) m rm.0 rm.1 (left i j k ij jk u (in_ball d a (between d a b) a ra.0 ra.1 (omega (arith, zero_a))) (in_ball d a (between d a b) b rb.0 rb.1 (omega arith))) in
      let from_b : between d b m ≤ between d b a =
      near d b (between d b a) m rm.0 rm.1 (right i j k ij jk u (in_ball d b (between d b a) a ra.0 ra.1 (omega arith)) (in_ball d b (between d b a) b rb.0 rb.1 (omega (arith, zero_b)))) in
      (from_a, omega (arith, from_b, symmetric j k lj u, symmetric i k li u))

pub robinson_exactly : RobinsonLaw
robinson_exactly d o h = (
  λ r. record { order = r.order; kept = all_kept d o h r.order r d.items (omega arith) },
  λ v. record { order = v.order; outer = outer_from d o h v.order v.kept },
)
