-- How many left ends are near one: counted in a sorted list, and beside the neighbours of a vertex.
use Rattle.std.proofs.Common.{◌≡◌, ◌≢◌, ◌∙◌, ℕ, zero, suc, ◌+◌, ◌-◌, ◌<◌, ◌≤◌, ◌^◌, Bool, true, false, cond, min, ◌||◌, leb, ltb, List, [], ◌∷◌, length, take, get_or, IsTrue, refl, sym, ap, subst, inl, inr, arith, leb-true}
use Rattle.std.proofs.lemmas.Bool.{both_ways, cases_eq, cases_lt, cases_Bool, ne_eqb, and_parts, and_from, or_cases, le-leb, lt-leb, lt-ltb, le-ltb, cond-true, cond-false}
use Rattle.std.proofs.lemmas.List.{take_all}
use Rattle.std.proofs.lemmas.List.Sums.{sum_by-cons, length-filter, count_by_more_yes, count_by_more_no}
use Rattle.std.proofs.lemmas.List.Sorted.{sum_by-IsPermutation}
use Rattle.std.specs.List.{count_by, range_with_len}
use Rattle.std.specs.List.Sorted.{IsPermutation, IsPartitionPoint}
use Rattle.column_order.specs.Orders.{has, place}
use Rattle.column_order.proofs.Lists.{has_cases, has_head, has_at, at_place}
use Rattle.row_model.specs.Rows.{IsRow}
use Rattle.row_model.proofs.Ascending.{row_within}
use Rattle.row_model.proofs.Columns.{columns_row}
use Rattle.unit_model.specs.Models.{DifferByAtMost}
use Rattle.unit_model.specs.Fitting.{EndFits, is_near}

-- 1 for what passes a test, else 0
abbrev one : {X : Type 0} → (X → Bool) → X → ℕ
one p x = cond (p x) 1 0

one_le : (a b : Bool) → (a ≡ true → b ≡ true) → cond {A = ℕ} a 1 0 ≤ cond {A = ℕ} b 1 0
one_le true b h = let t = h refl in omega (arith, cond-true {A = ℕ} b 1 0 t)
one_le false b h = omega arith

-- a test that is true only where another is passes no more
counted_few : (p h : ℕ → Bool) (xs : List ℕ) (k : ℕ) → ((i : ℕ) → i < length xs → h (k + i) ≡ true → p (get_or xs i 0) ≡ true) → count_by h (range_with_len k (length xs)) ≤ count_by p xs
counted_few p h [] k f = omega arith
counted_few p h (x ∷ xs) k f =
    omega (
      arith,
      sum_by-cons (one h) k (range_with_len (k + 1) (length xs)),
      sum_by-cons (one p) x xs,
      one_le (h k) (p x) (λ t. f 0 (omega arith) (ap h (omega arith) ∙ t)),
      counted_few p h xs (k + 1) (λ i l t. f (suc i) (omega (arith, l)) (ap h (omega arith) ∙ t)),
    )

one_same : (a b : Bool) → cond {A = ℕ} a 1 0 ≡ cond {A = ℕ} b 1 0 → b ≡ true → a ≡ true
one_same true b e t = refl
one_same false b e t = absurd (omega (arith, e, cond-true {A = ℕ} b 1 0 t))

-- where it passes as many, both agree on the head, and it passes as many of the rest
same_parts : (p h : ℕ → Bool) (x : ℕ) (xs : List ℕ) (k : ℕ) → ((i : ℕ) → i < length (x ∷ xs) → h (k + i) ≡ true → p (get_or (x ∷ xs) i 0) ≡ true) →
    count_by h (range_with_len k (length (x ∷ xs))) ≡ count_by p (x ∷ xs) →
    (cond {A = ℕ} (h k) 1 0 ≡ cond {A = ℕ} (p x) 1 0) × (count_by h (range_with_len (k + 1) (length xs)) ≡ count_by p xs)
same_parts p h x xs k f e =
    let first = sum_by-cons (one h) k (range_with_len (k + 1) (length xs)) in
    let second = sum_by-cons (one p) x xs in
    let head = one_le (h k) (p x) (λ t. f 0 (omega arith) (ap h (omega arith) ∙ t)) in
    let less = counted_few p h xs (k + 1) (λ i l t. f (suc i) (omega (arith, l)) (ap h (omega arith) ∙ t)) in
    (omega (arith, e, first, second, head, less), omega (arith, e, first, second, head, less))

-- so it is true wherever the other is
counted_same : (p h : ℕ → Bool) (xs : List ℕ) (k : ℕ) → ((i : ℕ) → i < length xs → h (k + i) ≡ true → p (get_or xs i 0) ≡ true) → count_by h (range_with_len k (length xs)) ≡ count_by p xs →
    (i : ℕ) → i < length xs → p (get_or xs i 0) ≡ true → h (k + i) ≡ true
counted_same p h [] k f e i l t = absurd (omega (arith, l))
counted_same p h (x ∷ xs) k f e zero l t = ap h (omega arith) ∙ one_same (h k) (p x) (same_parts p h x xs k f e).0 t
counted_same p h (x ∷ xs) k f e (suc j) l t =
    ap h (omega arith) ∙ counted_same p h xs (k + 1) (λ i m s. f (suc i) (omega (arith, m)) (ap h (omega arith) ∙ s)) (same_parts p h x xs k f e).1 j (omega (arith, l)) t

-- two tests that agree pass as many
counted_equal : (p h : ℕ → Bool) (xs : List ℕ) (k : ℕ) → ((i : ℕ) → i < length xs → h (k + i) ≡ p (get_or xs i 0)) → count_by h (range_with_len k (length xs)) ≡ count_by p xs
counted_equal p h [] k f = omega arith
counted_equal p h (x ∷ xs) k f =
    let head : h k ≡ p x = ap h (omega arith) ∙ f 0 (omega arith) in
    omega (
      arith,
      sum_by-cons (one h) k (range_with_len (k + 1) (length xs)),
      sum_by-cons (one p) x xs,
      ap (λ b. cond {A = ℕ} b 1 0) head,
      counted_equal p h xs (k + 1) (λ i l. ap h (omega arith) ∙ f (suc i) (omega (arith, l))),
    )

-- two tests that are never both true
one_either : (a b : Bool) → (a ≡ true → b ≡ false) → cond {A = ℕ} (a || b) 1 0 ≡ cond {A = ℕ} a 1 0 + cond {A = ℕ} b 1 0
one_either true b h = let f = h refl in omega (arith, cond-false {A = ℕ} b 1 0 f)
one_either false b h = omega arith

counted_either : (p q : ℕ → Bool) → ((x : ℕ) → p x ≡ true → q x ≡ false) → (xs : List ℕ) → count_by (λ x. p x || q x) xs ≡ count_by p xs + count_by q xs
counted_either p q apart [] = omega arith
counted_either p q apart (x ∷ xs) =
    omega (arith, sum_by-cons (one (λ y. p y || q y)) x xs, sum_by-cons (one p) x xs, sum_by-cons (one q) x xs, one_either (p x) (q x) (apart x), counted_either p q apart xs)

-- the columns of a row are as many as the row has
counted_row : (c : ℕ) (row : List ℕ) → IsRow c row → count_by (has row) (range_with_len 1 c) ≡ length row
counted_row c row is = sym (length-filter (has row) (range_with_len 1 c)) ∙ ap length (columns_row c row is)

-- whether a column is v or one of a row
abbrev is_in : ℕ → List ℕ → ℕ → Bool
is_in v row a = has (v ∷ []) a || has row a

alone : (v x : ℕ) → has (v ∷ []) x ≡ true → v ≡ x
alone v x t = elim (has_cases v x [] t) [ inl e ↦ e | inr n ↦ absurd (cc) ]

in_first : (v : ℕ) (row : List ℕ) → is_in v row v ≡ true
in_first v row = ap (λ b. b || has row v) (has_head v [])

in_other : (v x : ℕ) (row : List ℕ) → v ≢ x → is_in v row x ≡ has row x
in_other v x row n = ap (λ b. (b || false) || has row x) (ne_eqb v x n)

-- a row and a column that it lacks have one column more
closed_count : (c v : ℕ) (row : List ℕ) → IsRow c row → 1 ≤ v → v ≤ c → has row v ≡ false → count_by (is_in v row) (range_with_len 1 c) ≡ length row + 1
closed_count c v row is from to lacks =
    let single : IsRow c (v ∷ []) = (from, to, tt) in
    omega (
      arith,
      counted_either (has (v ∷ [])) (has row) (λ x t. ap (has row) (sym (alone v x t)) ∙ lacks) (range_with_len 1 c),
      counted_row c (v ∷ []) single,
      counted_row c row is,
    )

-- near left ends
near_from : (m a b : ℕ) → DifferByAtMost m a b → is_near m a b ≡ true
near_from m a b d = and_from _ _ (le-leb a (b + m) d.0) (le-leb b (a + m) d.1)

near_to : (m a b : ℕ) → is_near m a b ≡ true → DifferByAtMost m a b
near_to m a b t = let both = and_parts (leb a (b + m)) (leb b (a + m)) t in (leb-true a (b + m) both.0, leb-true b (a + m) both.1)

-- what is known of a vertex at a place: so many left ends are near its own, and its neighbours are other vertices
pub record HasNear (lefts : List ℕ) (m at : ℕ) (neighbours : List ℕ) (near : ℕ) : Type 0 where
  pub within : at < length lefts
  pub counted : near ≡ count_by (is_near m (get_or lefts at 0)) lefts
  pub row : IsRow (length lefts) neighbours
  pub others : has neighbours (at + 1) ≡ false

-- the vertex and its neighbours, counted
closed_there : (lefts : List ℕ) (m at : ℕ) (neighbours : List ℕ) (near : ℕ) → HasNear lefts m at neighbours near → count_by (is_in (at + 1) neighbours) (range_with_len 1 (length lefts)) ≡ length neighbours + 1
closed_there lefts m at neighbours near h = closed_count (length lefts) (at + 1) neighbours h.row (omega arith) (omega (arith, h.within)) h.others

-- where it fits, its neighbours are as many as the others near it
pub fits_count : (lefts : List ℕ) (m at : ℕ) (neighbours : List ℕ) (near : ℕ) → HasNear lefts m at neighbours near → EndFits lefts m at neighbours → near ≡ length neighbours + 1
fits_count lefts m at neighbours near h fit =
    h.counted ∙ sym (counted_equal (is_near m (get_or lefts at 0)) (is_in (at + 1) neighbours) lefts 1 same) ∙ closed_there lefts m at neighbours near h
  where
    left : ℕ
    left = get_or lefts at 0

    other : (i : ℕ) → i < length lefts → i ≢ at → (b : Bool) → is_near m left (get_or lefts i 0) ≡ b → has neighbours (i + 1) ≡ b
    other i l n true e = (fit i l n).0 (near_to m left (get_or lefts i 0) e)
    other i l n false e =
        elim (cases_Bool (has neighbours (i + 1))) [
          | inl t ↦ absurd (both_ways (is_near m left (get_or lefts i 0)) e (near_from m left (get_or lefts i 0) ((fit i l n).1 t)))
          | inr f ↦ f
        ]

    same : (i : ℕ) → i < length lefts → is_in (at + 1) neighbours (1 + i) ≡ is_near m left (get_or lefts i 0)
    same i l =
        elim (cases_eq i at) [
          | inl e ↦
              let here : at + 1 ≡ 1 + i = omega (arith, e) in
              subst (λ v. is_in v neighbours (1 + i) ≡ is_near m left (get_or lefts i 0)) (sym here)
              (in_first (1 + i) neighbours ∙ sym (subst (λ j. is_near m left (get_or lefts j 0) ≡ true) (sym e) (near_from m left left (omega arith, omega arith))))
          | inr n ↦
              let turned : 1 + i ≡ i + 1 = omega arith in
              ap (is_in (at + 1) neighbours) turned ∙ in_other (at + 1) (i + 1) neighbours (λ e. absurd (omega (arith, e, n))) ∙ other i l n (is_near m left (get_or lefts i 0)) refl
        ]

-- where its neighbours are near and as many as the others near it, it fits
pub count_fits : (lefts : List ℕ) (m at : ℕ) (neighbours : List ℕ) (near : ℕ) → HasNear lefts m at neighbours near → near ≡ length neighbours + 1 →
    ((v : ℕ) → IsTrue (has neighbours v) → DifferByAtMost m (get_or lefts at 0) (get_or lefts (v - 1) 0)) → EndFits lefts m at neighbours
count_fits lefts m at neighbours near h count all i l n = (
  λ d. subst (λ b. b ≡ true) (in_other (at + 1) (i + 1) neighbours (λ e. absurd (omega (arith, e, n))))
      (ap (is_in (at + 1) neighbours) turned ∙ counted_same (is_near m left) (is_in (at + 1) neighbours) lefts 1 inside equal i l (near_from m left (get_or lefts i 0) d)),
  λ t. subst (λ j. DifferByAtMost m left (get_or lefts j 0)) back (all (i + 1) t),
) where
  left : ℕ
  left = get_or lefts at 0

  turned : i + 1 ≡ 1 + i
  turned = omega arith

  back : i + 1 - 1 ≡ i
  back = omega arith

  equal : count_by (is_in (at + 1) neighbours) (range_with_len 1 (length lefts)) ≡ count_by (is_near m left) lefts
  equal = closed_there lefts m at neighbours near h ∙ sym count ∙ h.counted

  inside : (j : ℕ) → j < length lefts → is_in (at + 1) neighbours (1 + j) ≡ true → is_near m left (get_or lefts j 0) ≡ true
  inside j k t =
      elim (or_cases (has ((at + 1) ∷ []) (1 + j)) (has neighbours (1 + j)) t) [
        | inl e ↦
            let here : at ≡ j = omega (arith, alone (at + 1) (1 + j) e) in
            subst (λ i. is_near m left (get_or lefts i 0) ≡ true) here (near_from m left left (omega arith, omega arith))
        | inr e ↦
            let there : 1 + j - 1 ≡ j = omega arith in
            subst (λ i. is_near m left (get_or lefts i 0) ≡ true) there (near_from m left (get_or lefts (1 + j - 1) 0) (all (1 + j) e))
      ]

-- where a list is parted at a place by a test, so many of it pass
pub parted_count : (p : ℕ → Bool) (xs : List ℕ) (i : ℕ) → i ≤ length xs → IsPartitionPoint (λ y. p y ≡ true) (λ y. p y ≡ false) xs i → count_by p xs ≡ i
parted_count p xs i few part =
    subst (λ ys. count_by p ys ≡ i) (take_all (i + (length xs - i)) xs (omega (arith, few))) (behind (length xs - i) (omega (arith, few)))
  where
    front : (k : ℕ) → k ≤ i → count_by p (take k xs) ≡ k
    front zero l = omega arith
    front (suc k) l =
        let more : k + 1 ≡ suc k = omega arith in
        subst (λ n. count_by p (take n xs) ≡ n) more (count_by_more_yes p xs k 0 (omega (arith, l, few)) (part.0 k 0 (omega arith) (omega (arith, l))) ∙ ap (λ n. n + 1) (front k (omega (arith, l))))

    behind : (k : ℕ) → i + k ≤ length xs → count_by p (take (i + k) xs) ≡ i
    behind zero l = subst (λ n. count_by p (take n xs) ≡ i) (omega arith) (front i (omega arith))
    behind (suc k) l =
        let more : i + k + 1 ≡ i + suc k = omega arith in
        subst (λ n. count_by p (take n xs) ≡ i) more (count_by_more_no p xs (i + k) 0 (omega (arith, l)) (part.1 (i + k) 0 (omega arith) (omega (arith, l))) ∙ behind k (omega (arith, l)))

-- a left end is at most the greatest that is near, and it is below the least one, or near
one_split : (left m x least most : ℕ) → least ≡ left - m → most ≡ min (left + m) (2 ^ 64 - 1) → x < 2 ^ 64 →
    cond {A = ℕ} (leb x most) 1 0 ≡ cond {A = ℕ} (ltb x least) 1 0 + cond {A = ℕ} (is_near m left x) 1 0
one_split left m x least most low high fits =
    elim (cases_lt x least) [
      | inl l ↦
          omega (
            arith,
            cond-true {A = ℕ} (leb x most) 1 0 (le-leb x most (omega (arith, l, low, high, fits))),
            cond-true {A = ℕ} (ltb x least) 1 0 (lt-ltb x least l),
            cond-false {A = ℕ} (is_near m left x) 1 0 (far (λ d. absurd (omega (arith, l, low, d.0)))),
          )
      | inr g ↦ elim (cases_lt most x) [
        | inl l ↦
            omega (
              arith,
              cond-false {A = ℕ} (leb x most) 1 0 (lt-leb x most l),
              cond-false {A = ℕ} (ltb x least) 1 0 (le-ltb x least g),
              cond-false {A = ℕ} (is_near m left x) 1 0 (far (λ d. absurd (omega (arith, l, high, d.1, fits)))),
            )
        | inr k ↦
            omega (
              arith,
              cond-true {A = ℕ} (leb x most) 1 0 (le-leb x most k),
              cond-false {A = ℕ} (ltb x least) 1 0 (le-ltb x least g),
              cond-true {A = ℕ} (is_near m left x) 1 0 (near_from m left x (omega (arith, g, low), omega (arith, k, high))),
            )
      ]
    ]
  where
    far : (DifferByAtMost m left x → ⊥) → is_near m left x ≡ false
    far none = elim (cases_Bool (is_near m left x)) [ inl t ↦ absurd (none (near_to m left x t)) | inr f ↦ f ]

-- so those that are near are the ones at most the greatest, without those below the least
pub near_split : (left m least most : ℕ) → least ≡ left - m → most ≡ min (left + m) (2 ^ 64 - 1) → (xs : List ℕ) → ((k : ℕ) → k < length xs → get_or xs k 0 < 2 ^ 64) →
    count_by (λ y. leb y most) xs ≡ count_by (λ y. ltb y least) xs + count_by (is_near m left) xs
near_split left m least most low high [] fits = omega arith
near_split left m least most low high (x ∷ xs) fits =
    omega (
      arith,
      sum_by-cons (one (λ y. leb y most)) x xs,
      sum_by-cons (one (λ y. ltb y least)) x xs,
      sum_by-cons (one (is_near m left)) x xs,
      one_split left m x least most low high (fits 0 (omega arith)),
      near_split left m least most low high xs (λ k l. fits (suc k) (omega (arith, l))),
    )

-- as many are near in any order
pub near_moved : (left m : ℕ) (lefts sorted : List ℕ) → IsPermutation lefts sorted → count_by (is_near m left) sorted ≡ count_by (is_near m left) lefts
near_moved left m lefts sorted moved = sum_by-IsPermutation (one (is_near m left)) lefts sorted moved

-- and all neighbours are near
pub fits_near : (lefts : List ℕ) (m at : ℕ) (neighbours : List ℕ) (near : ℕ) → HasNear lefts m at neighbours near → EndFits lefts m at neighbours → (v : ℕ) → IsTrue (has neighbours v) →
    DifferByAtMost m (get_or lefts at 0) (get_or lefts (v - 1) 0)
fits_near lefts m at neighbours near h fit v t =
    let within = row_within (length lefts) neighbours h.row v t in
    let back : v - 1 + 1 ≡ v = omega (arith, within.0) in
    let other : v - 1 ≢ at = λ e. both_ways (has neighbours v) (subst (λ a. has neighbours a ≡ false) (omega (arith, e, within.0)) h.others) t in
    (fit (v - 1) (omega (arith, within.0, within.1)) other).1 (ap (has neighbours) back ∙ t)

-- what a call knows of a vertex at a place
pub near_known : (lefts : List ℕ) (m at : ℕ) (neighbours : List ℕ) (near : ℕ) → at < length lefts → near ≡ count_by (is_near m (get_or lefts at 0)) lefts → IsRow (length lefts) neighbours →
    (IsTrue (has neighbours (at + 1)) → ⊥) → HasNear lefts m at neighbours near
near_known lefts m at neighbours near l count row none = record {
  within = l;
  counted = count;
  row = row;
  others = elim (cases_Bool (has neighbours (at + 1))) [ inl t ↦ absurd (none t) | inr f ↦ f ];
}

-- a neighbour is a vertex
pub neighbour_within : (n : ℕ) (neighbours : List ℕ) (k : ℕ) → IsRow n neighbours → k < length neighbours → (1 ≤ get_or neighbours k 0) × (get_or neighbours k 0 ≤ n)
neighbour_within n neighbours k row l = row_within n neighbours row (get_or neighbours k 0) (has_at neighbours k l)

-- each neighbour stands at a place
pub each_neighbour : (P : ℕ → Type 0) (neighbours : List ℕ) → ((k : ℕ) → k < length neighbours → P (get_or neighbours k 0)) → (v : ℕ) → IsTrue (has neighbours v) → P v
each_neighbour P neighbours all v t = let there = at_place neighbours v t in subst P there.1 (all (place neighbours v) there.0)
