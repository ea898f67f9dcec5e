use Rattle.std.proofs.Common.{arith}
use Rattle.open_gaps.proofs.gap.opener.Goals as goal

pub returns-then-gap-p : goal.returns-then-gap-p
returns-then-gap-p c =
    λ rows o len are. (are c.args.q _ (omega (arith, len, c.requires.places.0))).right.opens c.args.p c.if-q-p.true c.if-gap-p.true (omega (arith, len, c.requires.places.1))
