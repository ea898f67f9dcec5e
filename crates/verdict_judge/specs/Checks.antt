-- What `check` says of a verdict.
use Rattle.std.specs.Prelude.{◌≡◌, ◌↔◌}
use Rattle.verdict_text.specs.Verdict.{VerdictValue}
use Rattle.instance_model.specs.Instance.{InstanceValue}
use Rattle.verdict_judge.specs.Accepted.{IsAccepted, FailsFirst}
use Rattle.verdict_judge.specs.Exact.{IsLinear, IsYesFor}
use Rattle.verdict_judge.specs.Truth.{IsTrueVerdict}
use Rattle.verdict_judge.specs.declared.outcome.Checked.{Checked}
use Rattle.verdict_judge.specs.declared.outcome.Checked.TheVariants.{Valid, Invalid}
use Rattle.verdict_judge.specs.declared.outcome.Reason.{Reason}

-- valid exactly where each test is passed, else invalid with the first that fails; a yes is valid exactly where it is true
pub record IsCheckOf (i : InstanceValue) (v : VerdictValue) (checked : Checked) : Type 0 where
  pub valid : (checked ≡ Valid) ↔ IsAccepted i v
  pub invalid : (r : Reason) → (checked ≡ Invalid r) ↔ FailsFirst i v r
  pub exact : IsLinear i → IsYesFor i v → (checked ≡ Valid) ↔ IsTrueVerdict i v
