use Rattle.std.proofs.Common.{refl}
use Rattle.pq_plain.proofs.Pieces.{halves_of, appended}
use Rattle.pq_plain.proofs.below.template_q2.Goals as goal

pub returns : goal.returns
returns c =
    halves_of _ _ _ _ (appended _ _ _ _ _ c.in_ok-append.ensures.items refl refl) (appended _ _ _ _ _ c.in_ok-append-2.ensures.items refl refl)
