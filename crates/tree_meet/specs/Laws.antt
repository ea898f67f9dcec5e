-- What the rows of a tree say of its frontiers, and what two trees share.
use Rattle.std.specs.Prelude.{◌≡◌, ◌↔◌, ℕ, ◌+◌, ◌≤◌, List, length}
use Rattle.column_order.specs.Orders.{IsValidOrder}
use Rattle.pq_tree.specs.Outline.{Outline, IsFrontier}
use Rattle.pq_tree.specs.Proper.{IsProper, universal}
use Rattle.pq_tree.specs.Equivalent.{IsEquivalent}
use Rattle.tree_theory.specs.Tied.{IsTied}
use Rattle.tree_theory.specs.CanonicalLaws.{IsCanonicalOver}
use Rattle.tree_meet.specs.TreeRows.{rows_of_tree}
use Rattle.tree_meet.specs.Meets.{IsCommon, joint_rows}

-- the frontiers of a proper tree over 1 to c are exactly the valid orders of its rows
abbrev pub TreeRowsLaw : Type 0
TreeRowsLaw = (c : ℕ) (t : Outline) → IsProper c t → (o : List ℕ) → IsFrontier t o ↔ IsValidOrder c (rows_of_tree c t) o

-- and the tree is tied to them
abbrev pub TiedRowsLaw : Type 0
TiedRowsLaw = (c : ℕ) (t : Outline) → IsProper c t → IsTied c (rows_of_tree c t) t

-- a proper tree over 1 to c has at most 2c - 2 rows
abbrev pub FewRowsLaw : Type 0
FewRowsLaw = (c : ℕ) (t : Outline) → IsProper c t → length (rows_of_tree c t) + 2 ≤ c + c

-- the frontiers that two proper trees over 1 to c share are exactly the valid orders of the rows of both
abbrev pub CommonRowsLaw : Type 0
CommonRowsLaw =
    (c : ℕ) (t u : Outline) → IsProper c t → IsProper c u → (o : List ℕ) → IsCommon t u o ↔ IsValidOrder c (joint_rows c t u) o

-- the frontiers of the tree v are exactly those that t and u share
abbrev pub IsMeetOf : Outline → Outline → Outline → Type 0
IsMeetOf t u v = (o : List ℕ) → IsFrontier v o ↔ IsCommon t u o

-- it doesn't matter which of two trees is the first
abbrev pub EitherFirstLaw : Type 0
EitherFirstLaw =
    (c : ℕ) (t u v w : Outline) → IsCanonicalOver c v → IsCanonicalOver c w → IsMeetOf t u v → IsMeetOf u t w → v ≡ w

-- what a tree shares with the universal tree is the tree itself, with its nodes turned until it is canonical
abbrev pub UniversalMeetLaw : Type 0
UniversalMeetLaw =
    (c : ℕ) (t v : Outline) → 1 ≤ c → IsProper c t → IsCanonicalOver c v → IsMeetOf t (universal c) v → IsEquivalent t v
