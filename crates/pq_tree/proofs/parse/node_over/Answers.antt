use Rattle.std.proofs.Common.{refl}
use Rattle.pq_tree.proofs.Shown.{outline_of-P, outline_of-Q}
use Rattle.pq_tree.proofs.parse.node_over.Goals as goal

pub returns-then-round : goal.returns-then-round
returns-then-round c = rw (outline_of-P, c.if-round.true) refl

pub returns-else-round : goal.returns-else-round
returns-else-round c = rw (outline_of-Q, c.if-round.false) refl
