-- Which verdicts are accepted, and that they are true.
use Rattle.std.specs.Prelude.{◌≡◌, ℕ, List, All}
use Rattle.column_order.specs.Orders.{Keeps}
use Rattle.row_model.specs.declared.graph.Line.{Line}
use Rattle.row_model.specs.Cycles.{IsOddCycle}
use Rattle.row_model.specs.Rows.{RowList}
use Rattle.pq_tree.specs.Outline.{Outline, IsFrontier}
use Rattle.tree_theory.specs.Tied.{IsTied}
use Rattle.verdict_text.specs.declared.verdict.Version.{Version}
use Rattle.verdict_text.specs.declared.verdict.Version.TheVariants.{One, Two}
use Rattle.verdict_text.specs.Grammar.{IsVerdict}
use Rattle.verdict_text.specs.Verdict.{SideValue, YesValue, yes_claim, no_claim, VerdictValue}
use Rattle.instance_model.specs.Instance.{InstanceValue, instance_kind, instance_columns, IsSideOf, IsTextbookOrder, derived_matrix, IsWellFormed}
use Rattle.verdict_judge.specs.YesTests.{HasSide}
use Rattle.verdict_judge.specs.Accepted.{IsAccepted}
use Rattle.verdict_judge.specs.Truth.{IsTrueAdded, IsTrueVerdict}

-- a verdict that is accepted is true
abbrev pub TrueLaw : Type 0
TrueLaw = (i : InstanceValue) (v : VerdictValue) → IsWellFormed i → IsVerdict v → IsAccepted i v → IsTrueVerdict i v

-- each frontier of the tree keeps every row of the matrix, and in version 2 the tree is tied to the rows
abbrev pub FitsRows : Version → RowList → Outline → Type 0
FitsRows One m t = (o : List ℕ) → IsFrontier t o → All (Keeps o) m.rows
FitsRows Two m t = IsTied m.columns m.rows t

-- the order is a textbook order of the side, and the tree fits the derived rows
abbrev pub IsSolvedSide : Version → InstanceValue → ℕ → SideValue → Type 0
IsSolvedSide version i s side = IsTextbookOrder i s side.order × FitsRows version (derived_matrix i s) side.tree

-- a yes with such sides, of which what the kind adds is true, is accepted
abbrev pub YesLaw : Type 0
YesLaw =
    (i : InstanceValue) (v : VerdictValue) (value : YesValue) →
    v.kind ≡ instance_kind i →
    v.columns ≡ instance_columns i →
    v.claim ≡ yes_claim value →
    ((s : ℕ) → IsSideOf i s → HasSide value s (IsSolvedSide v.version i s)) →
    IsTrueAdded i value →
    IsAccepted i v

-- a no with an odd cycle of its side's derived matrix is accepted
abbrev pub NoLaw : Type 0
NoLaw =
    (i : InstanceValue) (v : VerdictValue) (s : ℕ) (lines : List Line) →
    v.kind ≡ instance_kind i →
    v.columns ≡ instance_columns i →
    v.claim ≡ no_claim s lines →
    IsOddCycle (derived_matrix i s).columns (derived_matrix i s).rows lines →
    IsAccepted i v
