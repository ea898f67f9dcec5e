-- The radii round an item: they rise, they are its distances, and they are no more than the items.
use Rattle.std.proofs.Common.{◌≡◌, ◌∙◌, ℕ, zero, suc, ◌+◌, ◌<◌, ◌≤◌, Bool, true, false, cond, List, [], ◌∷◌, length, map, IsTrue, refl, sym, ap, subst, inl, inr, arith}
use Rattle.std.proofs.lemmas.Bool.{both_ways}
use Rattle.std.proofs.Math.Nat.{le-max_left, le-max_right}
use Rattle.std.proofs.lemmas.List.FromFn.{length-map-range_with_len}
use Rattle.std.specs.List.{filter, range_with_len}
use Rattle.column_order.specs.Orders.{has}
use Rattle.column_order.proofs.Few.{filter_few}
use Rattle.column_order.proofs.Lists.{has_cases, has_head, has_tail}
use Rattle.row_model.proofs.Filtered.{has_filter, range_has}
use Rattle.graph_model.specs.Distances.{DistancesValue}
use Rattle.robinson_balls.specs.Balls.{between, distances_from, greatest, radii}
use Rattle.robinson_balls.proofs.Rising.{Rises, rises_lower}

greatest_le : (xs : List ℕ) (a : ℕ) → IsTrue (has xs a) → a ≤ greatest xs
greatest_le [] a h = absurd (both_ways _ refl h)
greatest_le (x ∷ xs) a h =
    elim (has_cases x a xs h) [
      | inl e ↦ omega (arith, e, le-max_left x (greatest xs))
      | inr t ↦ omega (arith, greatest_le xs a t, le-max_right x (greatest xs))
    ]

map_has : (f : ℕ → ℕ) (xs : List ℕ) (a : ℕ) → IsTrue (has xs a) → IsTrue (has (map f xs) (f a))
map_has f [] a h = absurd (both_ways _ refl h)
map_has f (x ∷ xs) a h =
    elim (has_cases x a xs h) [
      | inl e ↦ subst (λ b. IsTrue (has (map f (x ∷ xs)) (f b))) e (has_head (f x) (map f xs))
      | inr t ↦ has_tail (f x) (f a) (map f xs) (map_has f xs a t)
    ]

map_only : (f : ℕ → ℕ) (xs : List ℕ) (b : ℕ) → IsTrue (has (map f xs) b) → (a : ℕ) × IsTrue (has xs a) × (f a ≡ b)
map_only f [] b h = absurd (both_ways _ refl h)
map_only f (x ∷ xs) b h =
    elim (has_cases (f x) b (map f xs) h) [
      | inl e ↦ (x, has_head x xs, e)
      | inr t ↦ let found = map_only f xs b t in (found.0, has_tail x found.0 xs found.1, found.2)
    ]

range_only : (n low a : ℕ) → IsTrue (has (range_with_len low n) a) → (low ≤ a) × (a < low + n)
range_only zero low a h = absurd (both_ways _ refl h)
range_only (suc n) low a h =
    elim (has_cases low a (range_with_len (low + 1) n) h) [
      | inl e ↦ (omega (arith, e), omega (arith, e))
      | inr t ↦ let r = range_only n (low + 1) a t in (omega (arith, r.0), omega (arith, r.1))
    ]

filter_only : (p : ℕ → Bool) (xs : List ℕ) (a : ℕ) → IsTrue (has (filter p xs) a) → IsTrue (p a)
filter_only p [] a h = absurd (both_ways _ refl h)
filter_only p (x ∷ xs) a h = at (filter_only p xs a) (p x) refl h
  where
    at : (IsTrue (has (filter p xs) a) → IsTrue (p a)) → (t : Bool) → p x ≡ t → IsTrue (has (cond t (x ∷ filter p xs) (filter p xs)) a) → IsTrue (p a)
    at rest true e k = elim (has_cases x a (filter p xs) k) [ inl s ↦ ap p (sym s) ∙ e | inr t ↦ rest t ]
    at rest false e k = rest k

-- each distance of an item is a radius
pub radii_have : (d : DistancesValue) (x z : ℕ) → 1 ≤ z → z ≤ d.items → IsTrue (has (radii d x) (between d x z))
radii_have d x z l u =
    let far = greatest (distances_from d x) in
    let told : IsTrue (has (distances_from d x) (between d x z)) = map_has (between d x) (range_with_len 1 d.items) z (range_has d.items 1 z l (omega (arith, u))) in
    has_filter (has (distances_from d x)) (range_with_len 0 (far + 1)) (between d x z)
    (range_has (far + 1) 0 (between d x z) (omega arith) (omega (arith, greatest_le (distances_from d x) (between d x z) told))) ∙ told

-- and each radius is one
pub radii_only : (d : DistancesValue) (x a : ℕ) → IsTrue (has (radii d x) a) → (z : ℕ) × (1 ≤ z) × (z ≤ d.items) × (between d x z ≡ a)
radii_only d x a h =
    let found = map_only (between d x) (range_with_len 1 d.items) a (filter_only (has (distances_from d x)) (range_with_len 0 (greatest (distances_from d x) + 1)) a h) in
    let range = range_only d.items 1 found.0 found.1 in
    (found.0, range.0, omega (arith, range.1), found.2)

rises_filter : (p : ℕ → Bool) (n low : ℕ) → Rises low (filter p (range_with_len low n))
rises_filter p zero low = tt
rises_filter p (suc n) low =
    let next : low + 1 ≡ suc low = omega arith in
    let rest : Rises (suc low) (filter p (range_with_len (low + 1) n)) = subst (λ m. Rises m (filter p (range_with_len (low + 1) n))) next (rises_filter p n (low + 1)) in
    elim (p low) as (λ t. Rises low (cond t (low ∷ filter p (range_with_len (low + 1) n)) (filter p (range_with_len (low + 1) n)))) [
      | true ↦ (omega arith, rest)
      | false ↦ rises_lower low (suc low) (filter p (range_with_len (low + 1) n)) (omega arith) rest
    ]

pub radii_rise : (d : DistancesValue) (x : ℕ) → Rises 0 (radii d x)
radii_rise d x = rises_filter (has (distances_from d x)) (greatest (distances_from d x) + 1) 0

-- an item has at most as many radii as there are items
pub few_radii : (d : DistancesValue) (x : ℕ) → length (radii d x) ≤ d.items
few_radii d x = omega (arith, filter_few (distances_from d x) (greatest (distances_from d x) + 1) 0, length-map-range_with_len (between d x) 1 d.items)
