-- What being tied to rows says of the frontiers of a tree.
use Rattle.std.specs.Prelude.{◌↔◌, ℕ, ◌≤◌, List, []}
use Rattle.column_order.specs.Orders.{IsOrder, IsValidOrder}
use Rattle.pq_tree.specs.Outline.{Outline, leaves, IsFrontier}
use Rattle.pq_tree.specs.Proper.{universal, IsProper}
use Rattle.pq_tree.specs.Equivalent.{IsEquivalent}
use Rattle.tree_theory.specs.Tied.{IsTied}

-- the frontiers of a tree over 1 to c that is tied to the rows are exactly the valid orders of the rows
abbrev pub TiedLaw : Type 0
TiedLaw =
    (c : ℕ) (rows : List (List ℕ)) (t : Outline) →
    IsOrder c (leaves t) →
    IsTied c rows t →
    (o : List ℕ) →
    IsFrontier t o ↔ IsValidOrder c rows o

-- the columns of a tree from left to right are one of its frontiers
abbrev pub LeavesLaw : Type 0
LeavesLaw = (t : Outline) → IsFrontier t (leaves t)

-- the universal tree is proper and tied to no rows, so its frontiers are all orders
abbrev pub UniversalLaw : Type 0
UniversalLaw =
    (c : ℕ) →
    1 ≤ c →
    IsProper c (universal c) × IsTied c [] (universal c) × ((o : List ℕ) → IsFrontier (universal c) o ↔ IsOrder c o)

-- equivalent trees have the same frontiers
abbrev pub SameFrontiersLaw : Type 0
SameFrontiersLaw = (t u : Outline) → IsEquivalent t u → (o : List ℕ) → IsFrontier t o ↔ IsFrontier u o

-- of two equivalent trees both are proper or neither, and both are tied to the same rows
abbrev pub EquivalentLaw : Type 0
EquivalentLaw =
    (c : ℕ) (rows : List (List ℕ)) (t u : Outline) →
    IsEquivalent t u →
    (IsProper c t ↔ IsProper c u) × (IsTied c rows t ↔ IsTied c rows u)
