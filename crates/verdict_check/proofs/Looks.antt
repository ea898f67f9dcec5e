-- Loops that look at one class after another.
use Rattle.std.proofs.Common.{◌≡◌, ◌↔◌, ℕ, ◌+◌, ◌<◌, ◌≤◌, Bool, true, false, IsTrue, refl, subst, inl, inr, arith}
use Rattle.std.proofs.lemmas.Bool.{both_ways, cases_eq}
use Rattle.row_model.specs.declared.graph.Pair.{Pair}
use Rattle.row_model.specs.Graph.{Evenly}
use Rattle.odd_cycle.specs.Numbers.{Numbering}
use Rattle.verdict_check.specs.Complete.{InRows}

-- what is told of two pairs is told of the same pairs
pub same_pairs : (t : Numbering) (b : Bool) (v w x y : Pair) → v ≡ x → w ≡ y → InRows t (λ R. IsTrue b ↔ R v w) → InRows t (λ R. IsTrue b ↔ R x y)
same_pairs t b v w x y e f h = λ c rows tells.
    subst (λ p. IsTrue b ↔ Evenly c rows p y) e (subst (λ q. IsTrue b ↔ Evenly c rows v q) f (h c rows tells))

module _ (t : Numbering) (Q : (Pair → Pair → Type 0) → ℕ → Type 0) (from i : ℕ) where
  -- none yet
  pub looks_none : InRows t (λ R. (j : ℕ) → from ≤ j → j < from → Q R j)
  looks_none = λ c rows tells j a b. absurd (omega (arith, a, b))

  -- one look more
  pub looks_more : (b : Bool) → InRows t (λ R. (j : ℕ) → from ≤ j → j < i → Q R j) → InRows t (λ R. IsTrue b ↔ Q R i) → b ≡ true → InRows t (λ R. (j : ℕ) → from ≤ j → j < i + 1 → Q R j)
  looks_more b h k e = λ c rows tells j l u.
      elim (cases_eq i j) [
        | inl same ↦ subst (Q _) same ((k c rows tells).0 e)
        | inr other ↦ h c rows tells j l (omega (arith, u, other))
      ]

  -- a look that fails
  pub looks_fail : (b : Bool) (to : ℕ) → from ≤ i → i < to → InRows t (λ R. IsTrue b ↔ Q R i) → b ≡ false → InRows t (λ R. IsTrue false ↔ ((j : ℕ) → from ≤ j → j < to → Q R j))
  looks_fail b to l u k e = λ c rows tells. (λ x. absurd (both_ways false refl x), λ all. absurd (both_ways b e ((k c rows tells).1 (all i l u))))

  -- all looks
  pub looks_all : (to : ℕ) → to ≤ i → InRows t (λ R. (j : ℕ) → from ≤ j → j < i → Q R j) → InRows t (λ R. IsTrue true ↔ ((j : ℕ) → from ≤ j → j < to → Q R j))
  looks_all to g h = λ c rows tells. (λ x j l u. h c rows tells j l (omega (arith, u, g)), λ x. refl)
