use Rattle.pq_plain.proofs.Copies.{copy_P, copy_Q}
use Rattle.pq_plain.proofs.copy.+copy.Goals as goal

pub copied-returns-in_ok-copies-in-P : goal.copied-returns-in_ok-copies-in-P
copied-returns-in_ok-copies-in-P t c = copy_P _ _ _ _ c.in-P.is c.deref.ensures.value c.in_ok-copies-in-P.ensures

pub copied-returns-in_ok-copies-in-Q : goal.copied-returns-in_ok-copies-in-Q
copied-returns-in_ok-copies-in-Q t c = copy_Q _ _ _ _ c.in-Q.is c.deref-in-Q.ensures.value c.in_ok-copies-in-Q.ensures
