-- When a verdict is accepted for an instance, and for which reason it is not.
use Rattle.std.specs.Prelude.{◌≡◌, ◌∷◌, ◌++◌, List}
use Rattle.std.specs.List.{AllByRecursion}
use Rattle.verdict_text.specs.Verdict.{Claim, yes_claim, no_claim, VerdictValue}
use Rattle.instance_model.specs.Instance.{InstanceValue, instance_kind, instance_columns, derived_matrix}
use Rattle.verdict_judge.specs.Tests.{tests}
use Rattle.verdict_judge.specs.YesTests.{PassesYes}
use Rattle.verdict_judge.specs.NoTests.{PassesNo}
use Rattle.verdict_judge.specs.declared.outcome.Reason.{Reason}
use Rattle.verdict_judge.specs.declared.outcome.Reason.TheVariants as reason

-- what is claimed passes a test
abbrev pub PassesClaim : InstanceValue → Claim → Reason → Type 0
PassesClaim i (yes_claim value) r = PassesYes i value r
PassesClaim i (no_claim side lines) r = PassesNo (derived_matrix i side) lines r

-- A verdict passes a test. `kind`: its kind is that of the instance. `columns`: its columns are those of the instance, side by side.
abbrev pub Passes : InstanceValue → VerdictValue → Reason → Type 0
Passes i v reason.Kind = v.kind ≡ instance_kind i
Passes i v reason.Columns = v.columns ≡ instance_columns i
Passes i v r = PassesClaim i v.claim r

-- the first test in a list that is not passed: each before it is passed
pub record IsFirstFailing {R : Type 0} (P : R → Type 0) (all : List R) (r : R) : Type 0 where
  pub passed : List R
  pub later : List R
  pub order : all ≡ passed ++ r ∷ later
  pub pass : AllByRecursion P passed
  pub fails : P r → ⊥

-- the verdict passes each test
abbrev pub IsAccepted : InstanceValue → VerdictValue → Type 0
IsAccepted i v = AllByRecursion (Passes i v) (tests i v)

-- this test is the first that the verdict does not pass
abbrev pub FailsFirst : InstanceValue → VerdictValue → Reason → Type 0
FailsFirst i v r = IsFirstFailing (Passes i v) (tests i v) r
