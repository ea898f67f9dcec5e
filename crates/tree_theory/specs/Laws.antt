-- What a reduction by one row does to a tied tree, and what follows for the rows of a matrix.
use Rattle.std.specs.Prelude.{◌⊎◌, ◌↔◌, ◌≤◌, ℕ, true, List, [], ◌∷◌, ◌++◌, All, take, IsTrue, IsFalse}
use Rattle.column_order.specs.Orders.{has, HasValidOrder, IsWithin}
use Rattle.row_model.specs.Graph.{HasOddWalk, HasConflict}
use Rattle.row_model.specs.Rows.{RowList, IsRow}
use Rattle.pq_tree.specs.Outline.{Outline, Forest, p_node, tree_and, leaves}
use Rattle.pq_tree.specs.Proper.{IsProper, IsTree}
use Rattle.pq_tree.specs.Forests.{count}
use Rattle.pq_tree.specs.Nodes.{IsPertinentRoot}
use Rattle.pq_tree.specs.Equivalent.{IsEquivalent}
use Rattle.tree_theory.specs.Tied.{IsTied}
use Rattle.tree_theory.specs.Templates.{Label, empty_label, full_label, IsP2, IsP4}
use Rattle.tree_theory.specs.Reduced.{IsTurned, IsLabel, AreLabels, IsRootMade, IsReplaced, IsReduced}
use Rattle.tree_theory.specs.Refused.{IsRefused}

-- a proper tree that is tied to the rows, reduced by a further row over 1 to c, is proper and tied to one row more
abbrev pub KeptLaw : Type 0
KeptLaw =
    (c : ℕ) (rows : List (List ℕ)) (row : List ℕ) (t u : Outline) →
    IsProper c t →
    IsTied c rows t →
    IsWithin c row →
    IsReduced row t u →
    IsProper c u × IsTied c (rows ++ row ∷ []) u

-- a proper tree is reduced by a row over 1 to c, or no template fits at its pertinent root or at a node below it
abbrev pub DecidedLaw : Type 0
DecidedLaw =
    (c : ℕ) (row : List ℕ) (t : Outline) →
    IsProper c t →
    IsWithin c row →
    ((u : Outline) × IsReduced row t u) ⊎ IsRefused row t

-- where no template fits, a walk of even length in the graph of the rows with this one leads from a pair of distinct
-- columns to the same pair with its columns exchanged, so that they have no valid order
abbrev pub RefusedLaw : Type 0
RefusedLaw =
    (c : ℕ) (rows : List (List ℕ)) (row : List ℕ) (t : Outline) →
    IsProper c t →
    IsTied c rows t →
    IsWithin c row →
    IsRefused row t →
    HasConflict c (rows ++ row ∷ [])

-- a reduced tree exists exactly where the rows with this one have a valid order
abbrev pub ExistsLaw : Type 0
ExistsLaw =
    (c : ℕ) (rows : List (List ℕ)) (row : List ℕ) (t : Outline) →
    IsProper c t →
    IsTied c rows t →
    IsWithin c row →
    ((u : Outline) × IsReduced row t u) ↔ HasValidOrder c (rows ++ row ∷ [])

-- The reduced tree may be turned, and so may what a template makes of the pertinent root before it takes its place, and the
-- trees of a partial before the next template.
abbrev pub TurnedLaw : Type 0
TurnedLaw = (row : List ℕ) (t u v : Outline) → IsReduced row t u → IsEquivalent u v → IsReduced row t v

-- what a template makes of the pertinent root may be turned
abbrev pub RootTurnedLaw : Type 0
RootTurnedLaw =
    (row : List ℕ) (t x y z v : Outline) →
    IsPertinentRoot row t x →
    IsRootMade row x y →
    IsEquivalent y z →
    IsReplaced x z t v →
    IsReduced row t v

-- the trees of a label may be turned
abbrev pub LabelTurnedLaw : Type 0
LabelTurnedLaw = (row : List ℕ) (t : Outline) (x y : Label) → IsLabel row t x → IsTurned x y → IsLabel row t y

-- a tree is labelled empty exactly where it has no column of the row
abbrev pub EmptyLabelLaw : Type 0
EmptyLabelLaw = (row : List ℕ) (t : Outline) → IsTree t → IsLabel row t empty_label ↔ ((a : ℕ) → IsTrue (has (leaves t) a) → IsFalse (has row a))

-- a tree is labelled full exactly where it has no column outside the row
abbrev pub FullLabelLaw : Type 0
FullLabelLaw = (row : List ℕ) (t : Outline) → IsTree t → IsLabel row t full_label ↔ ((a : ℕ) → IsTrue (has (leaves t) a) → IsTrue (has row a))

-- at the pertinent root P2 has two full children or more, else one child would hold the row
abbrev pub FullChildrenOfP2Law : Type 0
FullChildrenOfP2Law =
    (row : List ℕ) (t u : Outline) (ts : Forest) (ps : List Label) →
    IsTree t →
    IsPertinentRoot row t (p_node ts) →
    AreLabels row ts ps →
    (x : IsP2 true ts ps u) →
    2 ≤ count (tree_and x.f x.fs)

-- at the pertinent root P4 has one full child or more, else its partial child would hold the row
abbrev pub FullChildrenOfP4Law : Type 0
FullChildrenOfP4Law =
    (row : List ℕ) (t u : Outline) (ts : Forest) (ps : List Label) →
    IsTree t →
    IsPertinentRoot row t (p_node ts) →
    AreLabels row ts ps →
    (x : IsP4 true ts ps u) →
    1 ≤ count x.fs

-- rows over 1 to c have a valid order, or their graph has a closed walk of odd length
abbrev pub EitherLaw : Type 0
EitherLaw = (c : ℕ) (rows : List (List ℕ)) → All (IsWithin c) rows → HasValidOrder c rows ⊎ HasOddWalk c rows

-- rows over 1 to c have a valid order exactly where their graph has no closed walk of odd length
abbrev pub OrderLaw : Type 0
OrderLaw = (c : ℕ) (rows : List (List ℕ)) → All (IsWithin c) rows → HasValidOrder c rows ↔ (HasOddWalk c rows → ⊥)

-- they have none exactly where it has one
abbrev pub NoOrderLaw : Type 0
NoOrderLaw = (c : ℕ) (rows : List (List ℕ)) → All (IsWithin c) rows → HasOddWalk c rows ↔ (HasValidOrder c rows → ⊥)

-- the first k rows of a matrix have a valid order exactly where their graph has no closed walk of odd length
abbrev pub FirstRowsLaw : Type 0
FirstRowsLaw =
    (m : RowList) (k : ℕ) →
    All (IsRow m.columns) m.rows →
    HasValidOrder m.columns (take k m.rows) ↔ (HasOddWalk m.columns (take k m.rows) → ⊥)
