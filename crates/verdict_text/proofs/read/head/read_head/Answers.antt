use Rattle.std.proofs.Common.{refl}
use Rattle.std.proofs.lemmas.Result.{err_from_is_err_and}
use Rattle.verdict_text.specs.Reading.{head_at}
use Rattle.text_parts.proofs.LoopLaws.{stops}
use Rattle.verdict_text.proofs.read.head.read_head.Goals as goal

pub returns-clause-value : goal.returns-clause-value
unfolding head_at
returns-clause-value c =
    let columns = rw c.side_count.ensures at c.in_ok-columns.ensures.value in
    rw (c.in_ok-version.ensures, c.in_ok-rest.ensures, c.in_ok-kind.ensures, c.in_ok-rest-2.ensures, columns, c.in_ok-rest-3.ensures) refl

pub returns-in_err-columns-clause-value : goal.returns-in_err-columns-clause-value
unfolding head_at
returns-in_err-columns-clause-value c =
    let p = err_from_is_err_and c.from_residual-in_err-columns.result c.from_residual-in_err-columns.ensures.1 in
    rw (p.1, p.2) (stops _ _ _ (rw c.side_count.ensures at c.in_err-columns.ensures.value) (λ h. rw (c.in_ok-version.ensures, c.in_ok-rest.ensures, c.in_ok-kind.ensures, c.in_ok-rest-2.ensures, h) refl))

pub returns-in_err-rest-3-clause-value : goal.returns-in_err-rest-3-clause-value
unfolding head_at
returns-in_err-rest-3-clause-value c =
    let p = err_from_is_err_and c.from_residual-in_err-rest-3.result c.from_residual-in_err-rest-3.ensures.1 in
    let columns = rw c.side_count.ensures at c.in_ok-columns.ensures.value in
    rw (p.1, p.2) (stops _ _ _ c.in_err-rest-3.ensures (λ h. rw (c.in_ok-version.ensures, c.in_ok-rest.ensures, c.in_ok-kind.ensures, c.in_ok-rest-2.ensures, columns, h) refl))
