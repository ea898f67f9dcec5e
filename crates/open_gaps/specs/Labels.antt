-- Labels of pairs that agree across open gaps.
use Rattle.std.specs.Prelude.{◌≡◌, ℕ, ◌+◌, ◌<◌, List, [], ◌∷◌, ◌++◌, length, slice_index, IsTrue}
use Rattle.column_order.specs.Orders.{has, IsValidOrder}
use Rattle.row_model.specs.declared.graph.Pair.{Pair}
use Rattle.row_model.specs.Graph.{pair, turned, IsPair, Crosses, Joined}
use Rattle.open_gaps.specs.Gaps.{Opens}

-- both pairs have one label, and both with their columns exchanged have one
abbrev pub IsAlike : (Pair → ℕ) → Pair → Pair → Type 0
IsAlike label v w = (label v ≡ label w) × (label (turned v) ≡ label (turned w))

-- the columns on both sides of an open gap make alike pairs with each column for which it is open
abbrev pub AgreesAtGaps : (Pair → ℕ) → List (List ℕ) → List ℕ → Type 0
AgreesAtGaps label rows o =
    (k q b : ℕ) →
    q + 1 < length o →
    IsTrue (has o b) →
    Opens rows o k q b →
    IsAlike label (pair (slice_index o q) b) (pair (slice_index o (q + 1)) b)

-- a pair that the row joins to another is alike to the other with its columns exchanged
abbrev pub AgreesOnRow : (Pair → ℕ) → ℕ → List ℕ → Type 0
AgreesOnRow label c row = (v w : Pair) → IsPair c v → IsPair c w → Crosses row v w → IsAlike label v (turned w)

-- labels that agree at the gaps of an order which is valid for the rows, and on one row more, are alike at all pairs that are
-- joined in all these rows, with the columns of the one exchanged
abbrev pub GapLaw : Type 0
GapLaw =
    (label : Pair → ℕ) (c : ℕ) (rows : List (List ℕ)) (row o : List ℕ) →
    IsValidOrder c rows o →
    AgreesAtGaps label rows o →
    AgreesOnRow label c row →
    (v w : Pair) →
    Joined c (rows ++ row ∷ []) v w →
    IsAlike label v (turned w)
