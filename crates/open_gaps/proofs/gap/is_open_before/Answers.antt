use Rattle.std.proofs.Common.{arith}
use Rattle.open_gaps.proofs.gap.is_open_before.Goals as goal

pub returns-then-x-gt0 : goal.returns-then-x-gt0
returns-then-x-gt0 c =
    λ rows o len are.
    let all = c.is_open_at_all.ensures rows o len are in
    (λ t. (omega (arith, c.if-x-gt0.true), all.0 t), λ h. all.1 h.1)
