use Rattle.std.proofs.Common.{refl}
use Rattle.pq_plain.proofs.Pieces.{appended, node_P}
use Rattle.pq_plain.proofs.at_root.template_p2.Goals as goal

pub returns : goal.returns
returns c = node_P _ _ (appended _ _ _ _ _ c.in_ok-append.ensures.items c.in_ok-children.ensures refl)
