use Rattle.std.proofs.lemmas.List.{map-set}
use Rattle.std.proofs.Math.Seq.{map-set_same}
use Rattle.std.proofs.Common.{ap}
use Rattle.pq_arena.proofs.node.set_link.Goals as goal

pub returns-clause-links : goal.returns-clause-links
returns-clause-links c = map-set (λ n. n.link) c.args.nodes.now.items c.args.x _

pub returns-clause-heads : goal.returns-clause-heads
returns-clause-heads c =
    map-set_same (λ n. n.head) c.args.nodes.now.items c.args.x _ c.index_mut-node.result.now (ap (λ n. n.head) c.index_mut-node.ensures.value)
