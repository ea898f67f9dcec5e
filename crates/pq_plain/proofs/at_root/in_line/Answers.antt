use Rattle.std.proofs.Common.{refl}
use Rattle.pq_plain.proofs.Pieces.{appended}
use Rattle.pq_plain.proofs.at_root.in_line.Goals as goal

pub returns : goal.returns
returns c = appended _ _ _ _ _ c.in_ok-append.ensures.items refl refl
