-- The ball that the nearest neighbours make.
use Rattle.std.proofs.Common.{◌≡◌, ◌∙◌, ℕ, zero, suc, ◌+◌, ◌<◌, ◌≤◌, leb, ◌-◌, List, [], ◌∷◌, length, get_or, take, drop, slice_range, IsTrue, refl, sym, ap, subst, inl, inr, arith}
use Rattle.std.proofs.lemmas.Bool.{cases_lt, both_ways}
use Rattle.std.proofs.lemmas.List.{get_or_default, drop_more}
use Rattle.column_order.specs.Orders.{has}
use Rattle.column_order.proofs.Lists.{has_cases}
use Rattle.row_model.specs.Rows.{Ascends}
use Rattle.row_model.proofs.Ascending.{row_within}
use Rattle.row_model.proofs.Filtered.{filtered_row}
use Rattle.graph_model.specs.Distances.{DistancesValue}
use Rattle.robinson_balls.specs.declared.neighbours.Neighbour.{Neighbour}
use Rattle.robinson_balls.specs.Balls.{between, ball}
use Rattle.robinson_balls.specs.Neighbours.{with_item, with_items, neighbour, AreNeighbours, EndsBall}
use Rattle.robinson_balls.proofs.BallLaws.{in_ball, near}
use Rattle.robinson_balls.proofs.Rims.{told, listed}
use Rattle.robinson_balls.proofs.Rising.{Rises, rises_lower, rises_with, rising_only, with_item_has, with_item_keeps, with_item_only}

-- a rising list of the items of the first k neighbours
pub record AreNearest (neighbours : List Neighbour) (k : ℕ) (items : List ℕ) : Type 0 where
  pub rises : Rises 0 items
  pub only : (a : ℕ) (e : Neighbour) → IsTrue (has items a) → (i : ℕ) × (i < k) × (i < length neighbours) × ((get_or neighbours i e).item ≡ a)
  pub all : (i : ℕ) (e : Neighbour) → i < k → i < length neighbours → IsTrue (has items (get_or neighbours i e).item)

pub no_nearest : (neighbours : List Neighbour) → AreNearest neighbours 0 []
no_nearest neighbours = record { rises = tt; only = λ a e h. absurd (both_ways _ refl h); all = λ i e l u. absurd (omega (arith, l)) }

abbrev item_at : List Neighbour → ℕ → Neighbour → ℕ
item_at neighbours k e = (get_or neighbours k e).item

-- one neighbour more
pub nearest_more : (neighbours : List Neighbour) (k : ℕ) (e : Neighbour) (items : List ℕ) → k < length neighbours → AreNearest neighbours k items →
    AreNearest neighbours (k + 1) (with_item (get_or neighbours k e).item items)
nearest_more neighbours k e items l h = record { rises = rises_with 0 (item_at neighbours k e) items (omega arith) h.rises; only = only; all = all }
  where
    only : (a : ℕ) (f : Neighbour) → IsTrue (has (with_item (item_at neighbours k e) items) a) → (i : ℕ) × (i < k + 1) × (i < length neighbours) × ((get_or neighbours i f).item ≡ a)
    only a f t =
        elim (has_cases (item_at neighbours k e) a items (with_item_only (item_at neighbours k e) a items t)) [
          | inl s ↦ (k, omega arith, l, ap (λ (p : Neighbour). p.item) (get_or_default neighbours k f e l) ∙ s)
          | inr u ↦ let found = h.only a f u in (found.0, omega (arith, found.1), found.2, found.3)
        ]

    all : (i : ℕ) (f : Neighbour) → i < k + 1 → i < length neighbours → IsTrue (has (with_item (item_at neighbours k e) items) (get_or neighbours i f).item)
    all i f u w =
        elim (cases_lt i k) [
          | inl b ↦ with_item_keeps (item_at neighbours k e) (get_or neighbours i f).item items (h.all i f b w)
          | inr b ↦
              let same : i ≡ k = omega (arith, u, b) in
              let is : item_at neighbours k e ≡ (get_or neighbours i f).item = ap (λ (p : Neighbour). p.item) (get_or_default neighbours k e f l) ∙ ap (λ j. (get_or neighbours j f).item) (sym same) in
              subst (λ a. IsTrue (has (with_item (item_at neighbours k e) items) a)) is (with_item_has (item_at neighbours k e) items)
        ]

-- the first s neighbours, and n more
nearest_on : (near : List Neighbour) (e : Neighbour) (n s : ℕ) (items : List ℕ) → s + n ≤ length near → AreNearest near s items → AreNearest near (s + n) (with_items (take n (drop s near)) items)
nearest_on near e zero s items l h = subst (λ m. AreNearest near m items) (omega arith) h
nearest_on near e (suc n) s items l h =
    let within : s < length near = omega (arith, l) in
    let rest = nearest_on near e n (s + 1) (with_item (get_or near s e).item items) (omega (arith, l)) (nearest_more near s e items within h) in
    let all : AreNearest near (s + 1 + n) (with_items (take (suc n) (drop s near)) items) =
    subst (λ g. AreNearest near (s + 1 + n) (with_items (take (suc n) g) items)) (sym (drop_more near s e within)) rest in
    subst (λ m. AreNearest near m (with_items (take (suc n) (drop s near)) items)) (omega arith) all

-- the first s neighbours, with those to place k
pub nearest_to : (near : List Neighbour) (e : Neighbour) (s k : ℕ) (items : List ℕ) → s ≤ k → k < length near → AreNearest near s items →
    AreNearest near (k + 1) (with_items (slice_range near s (k + 1)) items)
nearest_to near e s k items u l h =
    let sum : s + (k + 1 - s) ≡ k + 1 = omega (arith, u) in
    subst (λ m. AreNearest near m (with_items (slice_range near s (k + 1)) items)) sum (nearest_on near e (k + 1 - s) s items (omega (arith, sum, l)) h)

pub row_rises : (c low : ℕ) (row : List ℕ) → Ascends c low row → Rises low row
row_rises c low [] h = tt
row_rises c low (x ∷ row) h = (omega (arith, h.0), rises_lower (suc x) (suc x) row (omega arith) (above c x row h.2))
  where
    above : (c x : ℕ) (row : List ℕ) → Ascends c x row → Rises (suc x) row
    above c x [] h = tt
    above c x (y ∷ row) h = (omega (arith, h.0), above c y row h.2)

module _ (d : DistancesValue) (x : ℕ) (neighbours : List Neighbour) (h : AreNeighbours d x neighbours) where
  distance_is : (i y : ℕ) (e : Neighbour) → get_or neighbours i e ≡ neighbour d x y → (get_or neighbours i e).distance ≡ between d x y
  distance_is i y e s = ap (λ (p : Neighbour). p.distance) s

  item_is : (i y : ℕ) (e : Neighbour) → get_or neighbours i e ≡ neighbour d x y → (get_or neighbours i e).item ≡ y
  item_is i y e s = ap (λ (p : Neighbour). p.item) s

  -- the first neighbours, of which the last is nearer than those behind it, are a ball
  nearest_ball : (k : ℕ) (e : Neighbour) (items : List ℕ) → k < length neighbours → (suc k < length neighbours → (get_or neighbours k e).distance < (get_or neighbours (suc k) e).distance) →
      AreNearest neighbours (k + 1) items → items ≡ ball d x (get_or neighbours k e).distance
  nearest_ball k e items l next g =
      rising_only items (ball d x (get_or neighbours k e).distance) g.rises (row_rises d.items 0 (ball d x (get_or neighbours k e).distance) (filtered_row (λ y. leb (between d x y) (get_or neighbours k e).distance) d.items)) there back
    where
      there : (a : ℕ) → IsTrue (has items a) → IsTrue (has (ball d x (get_or neighbours k e).distance) a)
      there a t =
          let found = g.only a e t in
          let i = found.0 in
          let item = told d x neighbours h i e found.2 in
          let is : item.0 ≡ a = sym (item_is i item.0 e item.3) ∙ found.3 in
          let far : (get_or neighbours i e).distance ≤ (get_or neighbours k e).distance = h.rising i k e (omega (arith, found.1)) l in
          let reach : between d x item.0 ≤ (get_or neighbours k e).distance = omega (arith, far, distance_is i item.0 e item.3) in
          subst (λ b. IsTrue (has (ball d x (get_or neighbours k e).distance) b)) is (in_ball d x (get_or neighbours k e).distance item.0 item.1 item.2 reach)

      back : (a : ℕ) → IsTrue (has (ball d x (get_or neighbours k e).distance) a) → IsTrue (has items a)
      back a t =
          let range = row_within d.items (ball d x (get_or neighbours k e).distance) (filtered_row (λ y. leb (between d x y) (get_or neighbours k e).distance) d.items) a t in
          let reach : between d x a ≤ (get_or neighbours k e).distance = near d x (get_or neighbours k e).distance a range.0 range.1 t in
          let place = listed d x neighbours h a e range.0 range.1 in
          let i = place.0 in
          let far : (get_or neighbours i e).distance ≤ (get_or neighbours k e).distance = omega (arith, reach, distance_is i a e place.2) in
          elim (cases_lt k i) [
            | inl b ↦
                let rest : (get_or neighbours (suc k) e).distance ≤ (get_or neighbours i e).distance = h.rising (suc k) i e (omega (arith, b)) place.1 in
                absurd (omega (arith, far, rest, next (omega (arith, b, place.1))))
            | inr b ↦ subst (λ c. IsTrue (has items c)) (item_is i a e place.2) (g.all i e (omega (arith, b)) place.1)
          ]

  pub grown_ball : (k : ℕ) (p : Neighbour) (items : List ℕ) → k < length neighbours → p ≡ get_or neighbours k p → EndsBall neighbours k → AreNearest neighbours (k + 1) items → items ≡ ball d x p.distance
  grown_ball k p items l is ends g =
      let more : k + 1 ≡ suc k = omega arith in
      let next : suc k < length neighbours → (get_or neighbours k p).distance < (get_or neighbours (suc k) p).distance =
      λ u. subst (λ m. (get_or neighbours k p).distance < (get_or neighbours m p).distance) more (ends p (omega (arith, u))) in
      nearest_ball k p items l next g ∙ ap (λ (q : Neighbour). ball d x q.distance) (sym is)
