-- How many looks the tests of a verdict take at most: at the derived rows, at the gaps between the leaves of a tree, and for the lines of a
-- cycle.
use Rattle.std.specs.Prelude.{ℕ, ◌+◌, ◌*◌, length, sum_by}
use Rattle.row_model.specs.Rows.{RowList}
use Rattle.verdict_text.specs.Verdict.{Claim, yes_claim, no_claim, VerdictValue}
use Rattle.verdict_text.specs.declared.verdict.Version.{Version}
use Rattle.verdict_text.specs.declared.verdict.Version.TheVariants.{One, Two}
use Rattle.instance_model.specs.Instance.{InstanceValue, instance_columns, derived_matrix}
use Rattle.verdict_judge.specs.Tests.{numbers}

-- of the test in version 2 whether the tree has every order: each one of the rows, and twice the square of the number of columns
abbrev pub complete_steps : Version → RowList → ℕ
complete_steps One m = 0
complete_steps Two m = sum_by length m.rows + 2 * (m.columns * m.columns)

-- of a side with this derived matrix: three for each row and each one, and those of the test in version 2
abbrev pub side_steps : Version → RowList → ℕ
side_steps version m = 3 * (length m.rows + sum_by length m.rows) + complete_steps version m

-- of all sides of a yes
abbrev pub sides_steps : Version → InstanceValue → ℕ
sides_steps version i = sum_by (λ s. side_steps version (derived_matrix i s)) (numbers (length (instance_columns i)))

-- of what is claimed: of a no three for each line
abbrev pub claim_steps : Version → InstanceValue → Claim → ℕ
claim_steps version i (yes_claim value) = sides_steps version i
claim_steps version i (no_claim side lines) = 3 * length lines

-- of a verdict
abbrev pub verdict_steps : InstanceValue → VerdictValue → ℕ
verdict_steps i v = claim_steps v.version i v.claim
