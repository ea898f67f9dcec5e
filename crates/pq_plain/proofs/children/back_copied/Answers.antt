use Rattle.pq_plain.proofs.Pieces.{turned}
use Rattle.pq_plain.proofs.children.back_copied.Goals as goal

pub returns : goal.returns
returns c = turned _ _ _ c.in_ok-copies.ensures c.reverse.ensures.items
