-- The distances of the neighbours, each once: where a ball ends.
use Rattle.std.proofs.Common.{◌≡◌, ◌∙◌, ℕ, zero, suc, ◌+◌, ◌-◌, ◌<◌, ◌≤◌, true, false, cond, ltb, List, [], ◌∷◌, ◌++◌, length, get_or, drop, map, IsTrue, refl, sym, ap, subst, inl, inr, arith}
use Rattle.std.proofs.lemmas.Bool.{cases_lt, lt-ltb, le-ltb, both_ways}
use Rattle.std.proofs.lemmas.List.{get_or_default, map-append}
use Rattle.std.proofs.lemmas.List.FromFn.{get_or-map-range_with_len, length-map-range_with_len}
use Rattle.std.proofs.lemmas.List.Sorted.{Contains-permutation, IsPermutation-sym, IsPermutation-swap, length_permutation}
use Rattle.std.specs.List.{range_with_len, swap}
use Rattle.std.specs.List.Sorted.{IsPermutation, IsNonDecreasingBy}
use Rattle.column_order.specs.Orders.{has}
use Rattle.column_order.proofs.Lists.{has_cases, has_head, has_tail}
use Rattle.row_model.proofs.Filtered.{range_more}
use Rattle.graph_model.specs.Distances.{DistancesValue}
use Rattle.robinson_balls.specs.declared.neighbours.Neighbour.{Neighbour}
use Rattle.robinson_balls.specs.Balls.{between, radii}
use Rattle.robinson_balls.specs.Neighbours.{neighbour, AreNeighbours, EndsBall, GoesOn}
use Rattle.robinson_balls.proofs.Radii.{radii_rise, radii_have, radii_only}
use Rattle.robinson_balls.proofs.Rising.{Rises, rising_only}

-- one neighbour more in the list of them
pub neighbours_more : (d : DistancesValue) (x n : ℕ) (before after : List Neighbour) → before ≡ map (neighbour d x) (range_with_len 1 n) → {s : ℕ} → after ≡ before ++ record { item = n + 1; distance = s } ∷ [] → s ≡ between d x (n + 1) →
    after ≡ map (neighbour d x) (range_with_len 1 (n + 1))
neighbours_more d x n before after h {s} e is =
    let next : 1 + n ≡ n + 1 = omega arith in
    e ∙ ap (λ t. before ++ record { item = n + 1; distance = t } ∷ []) is ∙ ap (λ l. l ++ neighbour d x (n + 1) ∷ []) h ∙
    ap (λ m. map (neighbour d x) (range_with_len 1 n) ++ neighbour d x m ∷ []) (sym next) ∙
    sym (ap (map (neighbour d x)) (range_more n 1) ∙ map-append (neighbour d x) (range_with_len 1 n) ((1 + n) ∷ []))

-- all items with their distances from x, of which the first and the x-th change places
pub exchanged : (d : DistancesValue) (x n : ℕ) (before after : List Neighbour) → 1 ≤ x → x ≤ n → before ≡ map (neighbour d x) (range_with_len 1 n) → after ≡ swap before 0 (x - 1) →
    IsPermutation (map (neighbour d x) (range_with_len 1 n)) after
exchanged d x n before after l u h e =
    let many : length before ≡ n = ap length h ∙ length-map-range_with_len (neighbour d x) 1 n in
    rw (← h) (IsPermutation-swap before after 0 (x - 1) (omega (arith, many, l, u)) (omega (arith, many, l, u)) e)

-- the distance of each neighbour that is nearer than the next, and of the last
abbrev pub rims : List Neighbour → List ℕ
rims [] = []
rims (p ∷ []) = p.distance ∷ []
rims (p ∷ q ∷ rest) = cond (ltb p.distance q.distance) (p.distance ∷ rims (q ∷ rest)) (rims (q ∷ rest))

rims_last : (near : List Neighbour) (k : ℕ) (e : Neighbour) → suc k ≡ length near → rims (drop k near) ≡ (get_or near k e).distance ∷ []
rims_last [] k e l = absurd (omega (arith, l))
rims_last (p ∷ []) zero e l = refl
rims_last (p ∷ q ∷ rest) zero e l = absurd (omega (arith, l))
rims_last (p ∷ near) (suc k) e l = rims_last near k e (omega (arith, l))

rims_next : (near : List Neighbour) (k : ℕ) (e : Neighbour) → suc k < length near →
    rims (drop k near) ≡ cond (ltb (get_or near k e).distance (get_or near (suc k) e).distance) ((get_or near k e).distance ∷ rims (drop (suc k) near)) (rims (drop (suc k) near))
rims_next [] k e l = absurd (omega (arith, l))
rims_next (p ∷ []) zero e l = absurd (omega (arith, l))
rims_next (p ∷ q ∷ rest) zero e l = refl
rims_next (p ∷ near) (suc k) e l = rims_next near k e (omega (arith, l))

pub behind : (near : List Neighbour) (k : ℕ) → length near ≤ k → drop k near ≡ []
behind [] zero l = refl
behind [] (suc k) l = refl
behind (p ∷ near) zero l = absurd (omega (arith, l))
behind (p ∷ near) (suc k) l = behind near k (omega (arith, l))

next_rim : (near : List Neighbour) (k : ℕ) (e : Neighbour) → k + 1 < length near →
    rims (drop k near) ≡ cond (ltb (get_or near k e).distance (get_or near (k + 1) e).distance) ((get_or near k e).distance ∷ rims (drop (k + 1) near)) (rims (drop (k + 1) near))
next_rim near k e l =
    let more : suc k ≡ k + 1 = omega arith in
    subst (λ m. rims (drop k near) ≡ cond (ltb (get_or near k e).distance (get_or near m e).distance) ((get_or near k e).distance ∷ rims (drop m near)) (rims (drop m near))) more
    (rims_next near k e (omega (arith, l)))

-- where a ball ends its radius is the next rim, and elsewhere there is none
pub rim_here : (near : List Neighbour) (k : ℕ) (p : Neighbour) → k < length near → p ≡ get_or near k p → EndsBall near k → rims (drop k near) ≡ p.distance ∷ rims (drop (k + 1) near)
rim_here near k p l is ends =
    elim (cases_lt (k + 1) (length near)) [
      | inl u ↦
          next_rim near k p u ∙ ap (λ b. cond b ((get_or near k p).distance ∷ rims (drop (k + 1) near)) (rims (drop (k + 1) near))) (lt-ltb (get_or near k p).distance (get_or near (k + 1) p).distance (ends p u)) ∙
          ap (λ (q : Neighbour). q.distance ∷ rims (drop (k + 1) near)) (sym is)
      | inr u ↦
          rims_last near k p (omega (arith, l, u)) ∙ ap (λ (q : Neighbour). q.distance ∷ []) (sym is) ∙ sym (ap (λ l. p.distance ∷ rims l) (behind near (k + 1) u))
    ]

pub no_rim_here : (near : List Neighbour) (k : ℕ) (p : Neighbour) → GoesOn near k → rims (drop k near) ≡ rims (drop (k + 1) near)
no_rim_here near k p on =
    next_rim near k p on.0 ∙ ap (λ b. cond b ((get_or near k p).distance ∷ rims (drop (k + 1) near)) (rims (drop (k + 1) near))) (le-ltb (get_or near k p).distance (get_or near (k + 1) p).distance (on.1 p))

-- the distances do not fall, and the first is not below a number
abbrev Climbs : ℕ → List Neighbour → Type 0
Climbs low [] = Unit {0}
Climbs low (p ∷ near) = (low ≤ p.distance) × Climbs p.distance near

climbs_from : (low : ℕ) (near : List Neighbour) → (0 < length near → (e : Neighbour) → low ≤ (get_or near 0 e).distance) → IsNonDecreasingBy (λ (p : Neighbour). p.distance) near → Climbs low near
climbs_from low [] first rising = tt
climbs_from low (p ∷ near) first rising =
    (first (omega arith) p, climbs_from p.distance near (λ l e. rising 0 1 e (omega arith) (omega (arith, l))) (λ i j e l u. rising (suc i) (suc j) e (omega (arith, l)) (omega (arith, u))))

climbs_lower : (low high : ℕ) (near : List Neighbour) → low ≤ high → Climbs high near → Climbs low near
climbs_lower low high [] l h = tt
climbs_lower low high (p ∷ near) l h = (omega (arith, l, h.0), h.1)

rims_rise : (low : ℕ) (near : List Neighbour) → Climbs low near → Rises low (rims near)
rims_rise low [] h = tt
rims_rise low (p ∷ []) h = (h.0, tt)
rims_rise low (p ∷ q ∷ rest) h =
    elim (cases_lt p.distance q.distance) [
      | inl l ↦ rw (lt-ltb p.distance q.distance l) (h.0, rims_rise (suc p.distance) (q ∷ rest) (omega (arith, l), h.1.1))
      | inr l ↦ rw (le-ltb p.distance q.distance l) (rims_rise low (q ∷ rest) (omega (arith, h.0, h.1.0), h.1.1))
    ]

rims_have : (low : ℕ) (near : List Neighbour) (i : ℕ) (e : Neighbour) → Climbs low near → i < length near → IsTrue (has (rims near) (get_or near i e).distance)
rims_have low [] i e h l = absurd (omega (arith, l))
rims_have low (p ∷ []) zero e h l = has_head p.distance []
rims_have low (p ∷ []) (suc i) e h l = absurd (omega (arith, l))
rims_have low (p ∷ q ∷ rest) zero e h l =
    elim (cases_lt p.distance q.distance) [
      | inl u ↦ rw (lt-ltb p.distance q.distance u) (has_head p.distance (rims (q ∷ rest)))
      | inr u ↦
          let same : q.distance ≡ p.distance = omega (arith, u, h.1.0) in
          rw (le-ltb p.distance q.distance u) (subst (λ s. IsTrue (has (rims (q ∷ rest)) s)) same (rims_have p.distance (q ∷ rest) 0 e h.1 (omega arith)))
    ]
rims_have low (p ∷ q ∷ rest) (suc i) e h l =
    let later : IsTrue (has (rims (q ∷ rest)) (get_or (q ∷ rest) i e).distance) = rims_have p.distance (q ∷ rest) i e h.1 (omega (arith, l)) in
    elim (ltb p.distance q.distance) as (λ b. IsTrue (has (cond b (p.distance ∷ rims (q ∷ rest)) (rims (q ∷ rest))) (get_or (q ∷ rest) i e).distance)) [
      | true ↦ has_tail p.distance (get_or (q ∷ rest) i e).distance (rims (q ∷ rest)) later
      | false ↦ later
    ]

rims_only : (near : List Neighbour) (a : ℕ) (e : Neighbour) → IsTrue (has (rims near) a) → (i : ℕ) × (i < length near) × ((get_or near i e).distance ≡ a)
rims_only [] a e h = absurd (both_ways _ refl h)
rims_only (p ∷ []) a e h = elim (has_cases p.distance a [] h) [ inl s ↦ (0, omega arith, s) | inr t ↦ absurd (both_ways _ refl t) ]
rims_only (p ∷ q ∷ rest) a e h =
    elim (ltb p.distance q.distance) as (λ b. IsTrue (has (cond b (p.distance ∷ rims (q ∷ rest)) (rims (q ∷ rest))) a) → (i : ℕ) × (i < length (p ∷ q ∷ rest)) × ((get_or (p ∷ q ∷ rest) i e).distance ≡ a)) [
      | true ↦ λ k. elim (has_cases p.distance a (rims (q ∷ rest)) k) [ inl s ↦ (0, omega arith, s) | inr t ↦ later (rims_only (q ∷ rest) a e t) ]
      | false ↦ λ k. later (rims_only (q ∷ rest) a e k)
    ] h
  where
    later : ((i : ℕ) × (i < length (q ∷ rest)) × ((get_or (q ∷ rest) i e).distance ≡ a)) → (i : ℕ) × (i < length (p ∷ q ∷ rest)) × ((get_or (p ∷ q ∷ rest) i e).distance ≡ a)
    later found = (suc found.0, omega (arith, found.1), found.2)

module _ (d : DistancesValue) (x : ℕ) (near : List Neighbour) (h : AreNeighbours d x near) where
  pub as_many : length near ≡ d.items
  as_many = length_permutation (map (neighbour d x) (range_with_len 1 d.items)) near h.every ∙ length-map-range_with_len (neighbour d x) 1 d.items

  -- each neighbour is an item with its distance
  pub told : (i : ℕ) (e : Neighbour) → i < length near → (y : ℕ) × (1 ≤ y) × (y ≤ d.items) × (get_or near i e ≡ neighbour d x y)
  told i e l =
      let p = get_or near i e in
      let found = Contains-permutation near (map (neighbour d x) (range_with_len 1 d.items)) p (IsPermutation-sym (map (neighbour d x) (range_with_len 1 d.items)) near h.every) (i, l, get_or_default near i p e l) in
      let within : found.0 < d.items = omega (arith, found.1, length-map-range_with_len (neighbour d x) 1 d.items) in
      (1 + found.0, omega arith, omega (arith, within), sym found.2 ∙ get_or-map-range_with_len (neighbour d x) 1 d.items found.0 (1 + found.0) p within refl)

  -- each item is a neighbour
  pub listed : (y : ℕ) (e : Neighbour) → 1 ≤ y → y ≤ d.items → (i : ℕ) × (i < length near) × (get_or near i e ≡ neighbour d x y)
  listed y e l u =
      let p = neighbour d x y in
      let within : (y - 1) < d.items = omega (arith, l, u) in
      let found = Contains-permutation (map (neighbour d x) (range_with_len 1 d.items)) near p h.every ((y - 1), omega (arith, within, length-map-range_with_len (neighbour d x) 1 d.items), get_or-map-range_with_len (neighbour d x) 1 d.items ((y - 1)) y p within (omega (arith, l))) in
      (found.0, found.1, get_or_default near found.0 e p found.1 ∙ found.2)

  -- they end at the radii
  pub rims_are : rims near ≡ radii d x
  rims_are =
      let climbs : Climbs 0 near = climbs_from 0 near (λ l e. omega arith) h.rising in
      rising_only (rims near) (radii d x) (rims_rise 0 near climbs) (radii_rise d x) radius (rim climbs)
    where
      radius : (a : ℕ) → IsTrue (has (rims near) a) → IsTrue (has (radii d x) a)
      radius a t =
          let found = rims_only near a (neighbour d x 0) t in
          let item = told found.0 (neighbour d x 0) found.1 in
          subst (λ s. IsTrue (has (radii d x) s)) (sym (ap (λ (p : Neighbour). p.distance) item.3) ∙ found.2) (radii_have d x item.0 item.1 item.2)

      rim : Climbs 0 near → (a : ℕ) → IsTrue (has (radii d x) a) → IsTrue (has (rims near) a)
      rim climbs a t =
          let found = radii_only d x a t in
          let place = listed found.0 (neighbour d x 0) found.1 found.2 in
          subst (λ s. IsTrue (has (rims near) s)) (ap (λ (p : Neighbour). p.distance) place.2 ∙ found.3) (rims_have 0 near place.0 (neighbour d x 0) climbs place.1)
