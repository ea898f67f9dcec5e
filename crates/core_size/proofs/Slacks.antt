-- The slack is a measure.
use Rattle.std.proofs.Common.{◌-◌, ◌*◌, refl}
use Rattle.tree_theory.proofs.Measures.{IsMeasure}
use Rattle.core_size.specs.Slack.{slack, slack_of}

pub slacks : IsMeasure slack slack_of (λ n. 2 * n - 3)
slacks = record { of_leaf = λ a. refl; of_p = λ ts. refl; of_q = λ ts. refl; of_none = refl; of_more = λ t ts. refl }
