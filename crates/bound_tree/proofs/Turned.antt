-- An order that is free before its stretches, seen from either side, is free on both sides of them.
use Rattle.std.proofs.Common.{◌≡◌, ◌↔◌, ℕ, ◌-◌, ◌<◌, ◌≤◌, List, length, map, slice_index_or, subst, inl, inr, refl, arith}
use Rattle.std.specs.Prelude.{All}
use Rattle.std.specs.List.Sorted.{IsPermutation}
use Rattle.std.proofs.lemmas.List.{get_or-map, length-map}
use Rattle.std.proofs.lemmas.List.Elements.{All-map}
use Rattle.std.proofs.lemmas.List.Sorted.{All-permutation, IsPermutation-sym}
use Rattle.open_gaps.specs.Gaps.{IsOpen}
use Rattle.bound_tree.specs.declared.side.Side.TheVariants.{Left, Right}
use Rattle.bound_tree.specs.declared.stretch.Stretch.{Stretch}
use Rattle.bound_tree.specs.Free.{IsRoundGap, IsFree, LeadsBehind, LeadsBefore}
use Rattle.bound_tree.specs.Sides.{IsFreeFrom, turned_stretch}

-- a stretch seen from the other side
pub round_turned : (n : ℕ) (s : Stretch) → IsRoundGap n s → IsRoundGap n (turned_stretch n s)
round_turned n s h = record { before = omega (arith, h.behind, h.inside); behind = omega (arith, h.before, h.behind, h.inside); inside = omega arith }

module _ (rows : List (List ℕ)) (o : List ℕ) (s : Stretch) (round : IsRoundGap (length o) s) where
  pub before_from : IsFreeFrom Left rows o s → (p : ℕ) → p < s.from → LeadsBefore rows o s.at p
  before_from h p l =
      elim (h p l) [
        | inl w ↦ inl w
        | inr w ↦ inr (w.some, w.opens)
      ]

  pub from_before : ((p : ℕ) → p < s.from → LeadsBefore rows o s.at p) → IsFreeFrom Left rows o s
  from_before h p l =
      elim (h p l) [
        | inl w ↦ inl w
        | inr w ↦ inr (record { some = w.0; apart = omega (arith, l, round.before); opens = w.1 })
      ]

  -- the same gap and the same column, counted from the right
  at_right : (q p x y : ℕ) → q ≡ length o - 2 - x → p ≡ length o - 1 - y → IsOpen rows o q p → IsOpen rows o (length o - 2 - x) (length o - 1 - y)
  at_right q p x y e f h = subst (IsOpen rows o (length o - 2 - x)) f (subst (λ z. IsOpen rows o z p) e h)

  from_right : (q p x y : ℕ) → length o - 2 - x ≡ q → length o - 1 - y ≡ p → IsOpen rows o (length o - 2 - x) (length o - 1 - y) → IsOpen rows o q p
  from_right q p x y e f h = subst (IsOpen rows o q) f (subst (λ z. IsOpen rows o z (length o - 1 - y)) e h)

  pub behind_from : IsFreeFrom Right rows o (turned_stretch (length o) s) → (p : ℕ) → s.to ≤ p → p < length o → LeadsBehind rows o s.at p
  behind_from h p l u =
      elim (h (length o - 1 - p) (omega arith)) [
        | inl w ↦ inl (from_right (s.at - 1) p (length o - s.at - 1) (length o - 1 - p) (omega (arith, round.before, round.behind, round.inside)) (omega arith) w)
        | inr w ↦ inr (omega (arith, w.some), from_right p s.at (length o - 1 - p - 1) (length o - s.at - 1) (omega (arith, w.some)) (omega (arith, round.behind, round.inside)) w.opens)
      ]

  pub from_behind : ((p : ℕ) → s.to ≤ p → p < length o → LeadsBehind rows o s.at p) → IsFreeFrom Right rows o (turned_stretch (length o) s)
  from_behind h p l =
      elim (h (length o - 1 - p) (omega arith) (omega arith)) [
        | inl w ↦ inl (at_right (s.at - 1) (length o - 1 - p) (length o - s.at - 1) p (omega (arith, round.before, round.behind, round.inside)) refl w)
        | inr w ↦
            inr (record {
              some = omega (arith, w.0);
              apart = omega (arith, l, round.behind, round.inside);
              opens = at_right (length o - 1 - p) s.at (p - 1) (length o - s.at - 1) (omega (arith, w.0, l)) (omega (arith, round.behind, round.inside)) w.1;
            })
      ]

-- what holds of each stretch as it is seen from the other side
all_before_map : {X : Type 0} (P : X → Type 0) (f : X → X) (xs : List X) → All P (map f xs) → All (λ x. P (f x)) xs
all_before_map P f xs h k d l = subst P (get_or-map f xs k d (f d) l) (h k (f d) (omega (arith, l, length-map xs f)))

-- sorted stretches, seen from the left
pub free_left : (rows : List (List ℕ)) (o : List ℕ) (ss sorted : List Stretch) → IsPermutation ss sorted → All (IsRoundGap (length o)) ss →
    All (IsFreeFrom Left rows o) sorted ↔ All (λ s. (p : ℕ) → p < s.from → LeadsBefore rows o s.at p) ss
free_left rows o ss sorted moved round =
    let round_sorted = All-permutation (IsRoundGap (length o)) ss sorted moved round in (
      λ h. All-permutation (λ s. (p : ℕ) → p < s.from → LeadsBefore rows o s.at p) sorted ss (IsPermutation-sym ss sorted moved)
          (λ k d l. before_from rows o (slice_index_or sorted k d) (round_sorted k d l) (h k d l)),
      λ h. All-permutation (IsFreeFrom Left rows o) ss sorted moved (λ k d l. from_before rows o (slice_index_or ss k d) (round k d l) (h k d l)),
    )

-- and then turned, sorted again, and seen from the right
pub free_right : (rows : List (List ℕ)) (o : List ℕ) (ss sorted again : List Stretch) → IsPermutation ss sorted → All (IsRoundGap (length o)) ss →
    IsPermutation (map (turned_stretch (length o)) sorted) again →
    All (IsFreeFrom Right rows o) again ↔ All (λ s. (p : ℕ) → s.to ≤ p → p < length o → LeadsBehind rows o s.at p) ss
free_right rows o ss sorted again moved round moved_again =
    let turned : Stretch → Stretch = turned_stretch (length o) in
    let round_sorted = All-permutation (IsRoundGap (length o)) ss sorted moved round in (
      λ h.
          let back = all_before_map (IsFreeFrom Right rows o) turned sorted
          (All-permutation (IsFreeFrom Right rows o) again (map turned sorted) (IsPermutation-sym (map turned sorted) again moved_again) h) in
          All-permutation (λ s. (p : ℕ) → s.to ≤ p → p < length o → LeadsBehind rows o s.at p) sorted ss (IsPermutation-sym ss sorted moved)
          (λ k d l. behind_from rows o (slice_index_or sorted k d) (round_sorted k d l) (back k d l)),
      λ h.
          All-permutation (IsFreeFrom Right rows o) (map turned sorted) again moved_again
          (All-map (IsFreeFrom Right rows o) turned sorted
          (All-permutation (λ s. IsFreeFrom Right rows o (turned s)) ss sorted moved (λ k d l. from_behind rows o (slice_index_or ss k d) (round k d l) (h k d l)))),
    )

-- stretches that are free on both sides
pub free_both : (rows : List (List ℕ)) (o : List ℕ) (ss : List Stretch) →
    All (λ s. (p : ℕ) → p < s.from → LeadsBefore rows o s.at p) ss → All (λ s. (p : ℕ) → s.to ≤ p → p < length o → LeadsBehind rows o s.at p) ss →
    All (IsFree rows o) ss
free_both rows o ss before behind k d l = record { behind = behind k d l; before = before k d l }
