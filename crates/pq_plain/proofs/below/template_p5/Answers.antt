use Rattle.std.proofs.Common.{refl}
use Rattle.pq_plain.proofs.Pieces.{halves_of, appended}
use Rattle.pq_plain.proofs.below.template_p5.Goals as goal

pub returns : goal.returns
returns c =
    halves_of _ _ _ _ (appended _ _ _ _ _ c.in_ok-append.ensures.items c.in_ok-all_empty.ensures refl)
    (appended _ _ _ _ _ c.in_ok-append-2.ensures.items refl c.in_ok-end.ensures)
