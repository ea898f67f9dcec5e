use Rattle.std.proofs.Common.{arith}
use Rattle.open_gaps.proofs.gap.is_open_behind.Goals as goal

pub returns-then-x-gaps : goal.returns-then-x-gaps
returns-then-x-gaps c =
    λ rows o len are.
    let all = c.is_open_at_all.ensures rows o len are in
    (λ t. (omega (arith, len, c.if-x-gaps.true), all.0 t), λ h. all.1 h.1)
