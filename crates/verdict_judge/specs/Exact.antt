-- Where a verdict is accepted exactly if it is true.
use Rattle.std.specs.Prelude.{◌≡◌, ◌↔◌, ◌≤◌, ℕ, length}
use Rattle.verdict_text.specs.Grammar.{IsVerdict}
use Rattle.verdict_text.specs.Verdict.{YesValue, yes_claim, VerdictValue}
use Rattle.instance_model.specs.Instance.{InstanceValue, circular, instance_kind, instance_columns, IsSideOf, derived_matrix, IsWellFormed}
use Rattle.verdict_judge.specs.YesTests.{HasSide, PassesTree, PassesComplete}
use Rattle.verdict_judge.specs.Accepted.{IsAccepted}
use Rattle.verdict_judge.specs.Truth.{HasEveryOrder, IsTrueVerdict}

-- an instance whose orders have a first column: of any kind but a circular one
abbrev pub IsLinear : InstanceValue → Type 0
IsLinear (circular m) = ⊥
IsLinear i = Unit {0}

-- the verdict is a yes, of the kind and the columns of the instance
pub record IsYesFor (i : InstanceValue) (v : VerdictValue) : Type 0 where
  pub kind : v.kind ≡ instance_kind i
  pub columns : v.columns ≡ instance_columns i
  pub value : YesValue
  pub claim : v.claim ≡ yes_claim value

-- a yes that is true of its instance is accepted; circular orders are left out, since a tree tells them up to rotation
abbrev pub TrueYesLaw : Type 0
TrueYesLaw = (i : InstanceValue) (v : VerdictValue) → IsWellFormed i → IsLinear i → IsVerdict v → IsYesFor i v → IsTrueVerdict i v → IsAccepted i v

-- where each frontier of the tree of a side keeps the derived rows, the tree passes the test for all orders exactly where it
-- has every textbook order of the side
abbrev pub CompleteLaw : Type 0
CompleteLaw =
    (i : InstanceValue) (v : VerdictValue) (s : ℕ) →
    IsWellFormed i →
    IsLinear i →
    IsVerdict v →
    (yes : IsYesFor i v) →
    IsSideOf i s →
    ((k : ℕ) → 1 ≤ k → k ≤ length (derived_matrix i s).rows → PassesTree i yes.value s k) →
    PassesComplete i yes.value s ↔ HasSide yes.value s (λ side. HasEveryOrder i s side.tree)
