use Rattle.std.proofs.Common.{arith}
use Rattle.pq_plain.proofs.Pieces.{star_few, star_many}
use Rattle.pq_plain.proofs.children.star_of.Goals as goal

pub returns-then-len-lt2 : goal.returns-then-len-lt2
returns-then-len-lt2 c = star_few _ (omega arith)

pub returns : goal.returns
returns c = star_many _ _ _ (omega arith) c.new-node.ensures.items c.in_ok-push.ensures.items
