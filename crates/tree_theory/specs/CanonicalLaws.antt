-- What the frontiers of a tree tell of the tree (Booth and Lueker, 1976).
use Rattle.std.specs.Prelude.{◌≡◌, ◌↔◌, ℕ, List}
use Rattle.column_order.specs.Orders.{IsValidOrder}
use Rattle.pq_tree.specs.Outline.{Outline, IsFrontier}
use Rattle.pq_tree.specs.Proper.{IsProper}
use Rattle.pq_tree.specs.Equivalent.{IsEquivalent}
use Rattle.pq_tree.specs.Canonical.{IsCanonical}

-- the trees have the same frontiers
abbrev pub HaveSameFrontiers : Outline → Outline → Type 0
HaveSameFrontiers t u = (o : List ℕ) → IsFrontier t o ↔ IsFrontier u o

-- the frontiers of the tree are exactly the orders of 1 to c that keep every row
abbrev pub HasOrdersOf : ℕ → List (List ℕ) → Outline → Type 0
HasOrdersOf c rows t = (o : List ℕ) → IsFrontier t o ↔ IsValidOrder c rows o

-- a proper and canonical tree over 1 to c
abbrev pub IsCanonicalOver : ℕ → Outline → Type 0
IsCanonicalOver c t = IsProper c t × IsCanonical t

-- two canonical trees over the same columns with the same frontiers are equal
abbrev pub CanonicalTreeLaw : Type 0
CanonicalTreeLaw = (c : ℕ) (t u : Outline) → IsCanonicalOver c t → IsCanonicalOver c u → HaveSameFrontiers t u → t ≡ u

-- Two canonical trees whose frontiers are the valid orders of some rows and those of some other rows are equal, if these are
-- the same orders.
abbrev pub SameOrdersLaw : Type 0
SameOrdersLaw =
    (c : ℕ) (rows others : List (List ℕ)) (t u : Outline) →
    IsCanonicalOver c t →
    IsCanonicalOver c u →
    HasOrdersOf c rows t →
    HasOrdersOf c others u →
    ((o : List ℕ) → IsValidOrder c rows o ↔ IsValidOrder c others o) →
    t ≡ u

-- of two proper trees over the same columns with the same frontiers, each is had from the other by turning nodes
abbrev pub OneShapeLaw : Type 0
OneShapeLaw = (c : ℕ) (t u : Outline) → IsProper c t → IsProper c u → HaveSameFrontiers t u → IsEquivalent t u

-- a canonical tree v that is had from a proper tree t by turning nodes is the only canonical tree with the frontiers of t
abbrev pub CanonicalFormLaw : Type 0
CanonicalFormLaw =
    (c : ℕ) (t v u : Outline) →
    IsProper c t →
    IsEquivalent t v →
    IsCanonical v →
    IsCanonicalOver c u →
    HaveSameFrontiers t u →
    v ≡ u
