-- What ghost fields claim of trees has at most one proof.
use Rattle.std.specs.Prelude.{ℕ, List}
use Rattle.std.specs.Coded.{×_prop, Unit-prop, le_prop}
use Rattle.std.specs.List.Sorted.{IsStrictlyIncreasing}
use mathlib.Core.HLevel.{Π_prop}
use native.Mathlib.Nat.{ℕ_set}
use Rattle.pq_tree.specs.Outline.{Outline, Forest, leaf, p_node, q_node, no_tree, tree_and}
use Rattle.pq_tree.specs.Proper.{HasArities, HaveArities, IsProper}
use Rattle.pq_tree.specs.Canonical.{leasts, IsCanonical, AreCanonical, CanonicalIfTree, AreCanonicalIfTrees}

mutual
  HasArities-prop : (t : Outline) → IsProp (HasArities t)
  HasArities-prop (leaf a) = Unit-prop
  HasArities-prop (p_node ts) = ×_prop le_prop (HaveArities-prop ts)
  HasArities-prop (q_node ts) = ×_prop le_prop (HaveArities-prop ts)

  HaveArities-prop : (ts : Forest) → IsProp (HaveArities ts)
  HaveArities-prop no_tree = Unit-prop
  HaveArities-prop (tree_and t ts) = ×_prop (HasArities-prop t) (HaveArities-prop ts)

pub IsProper-prop : (c : ℕ) (t : Outline) → IsProp (IsProper c t)
IsProper-prop c t = ×_prop (HasArities-prop t) (Π_prop (λ a. ℕ_set _ _))

rising-prop : (ms : List ℕ) → IsProp (IsStrictlyIncreasing ms)
rising-prop ms = Π_prop (λ k. Π_prop (λ h. le_prop))

mutual
  IsCanonical-prop : (t : Outline) → IsProp (IsCanonical t)
  IsCanonical-prop (leaf a) = Unit-prop
  IsCanonical-prop (p_node ts) = ×_prop (rising-prop (leasts ts)) (AreCanonical-prop ts)
  IsCanonical-prop (q_node ts) = ×_prop le_prop (AreCanonical-prop ts)

  AreCanonical-prop : (ts : Forest) → IsProp (AreCanonical ts)
  AreCanonical-prop no_tree = Unit-prop
  AreCanonical-prop (tree_and t ts) = ×_prop (IsCanonical-prop t) (AreCanonical-prop ts)

pub CanonicalIfTree-prop : (t : Outline) → IsProp (CanonicalIfTree t)
CanonicalIfTree-prop t = Π_prop (λ _. IsCanonical-prop t)

pub AreCanonicalIfTrees-prop : (ts : Forest) → IsProp (AreCanonicalIfTrees ts)
AreCanonicalIfTrees-prop no_tree = Unit-prop
AreCanonicalIfTrees-prop (tree_and t ts) = ×_prop (CanonicalIfTree-prop t) (AreCanonicalIfTrees-prop ts)
