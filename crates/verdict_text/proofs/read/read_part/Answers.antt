use Rattle.std.proofs.Common.{◌≡◌, ◌∙◌, sym, ap, Some, None, codes}
use Rattle.std.specs.Prelude.{option_and_then}
use Rattle.std.proofs.lemmas.Result.{err_from_is_err_and}
use Rattle.plain_text.specs.Words.{word_at}
use Rattle.text_parts.proofs.LoopLaws.{stops}
use Rattle.verdict_text.specs.Reading.{claim_at, yes_or_no, as_yes, no_at}
use Rattle.verdict_text.specs.Grammar.{side_count}
use Rattle.verdict_text.specs.Value.{column_counts}
use Rattle.verdict_text.proofs.read.read_part.Goals as goal

pub returns-in_ok-part-in-Some : goal.returns-in_ok-part-in-Some
unfolding claim_at
returns-in_ok-part-in-Some c =
    let found : word_at (codes "answer yes\n") c.args.bytes.now ≡ Some c.in-Some.rest.now = sym c.in-Some.ensures.value in
    ap (λ o. yes_or_no c.args.kind (column_counts c.args.columns) o c.args.bytes.now) found ∙ ap (option_and_then as_yes) c.in_ok-part-in-Some.ensures

pub returns-in_ok-part-in-None : goal.returns-in_ok-part-in-None
unfolding claim_at
returns-in_ok-part-in-None c =
    let none : word_at (codes "answer yes\n") c.args.bytes.now ≡ None = sym c.in-None.ensures.value in
    ap (λ o. yes_or_no c.args.kind (column_counts c.args.columns) o c.args.bytes.now) none
    ∙ ap (option_and_then (no_at (side_count c.args.kind))) c.in_ok-rest-in-None.ensures
    ∙ ap (λ n. no_at n c.in_ok-rest-in-None.rest.now) (sym c.side_count.ensures) ∙ c.in_ok-part-in-None.ensures

pub returns-in_err-part-in-Some : goal.returns-in_err-part-in-Some
unfolding claim_at
returns-in_err-part-in-Some c =
    let found : word_at (codes "answer yes\n") c.args.bytes.now ≡ Some c.in-Some.rest.now = sym c.in-Some.ensures.value in
    let p = err_from_is_err_and c.from_residual.result c.from_residual.ensures.1 in
    rw (p.1, p.2) (stops _ _ _ c.in_err-part-in-Some.ensures (λ h. ap (λ o. yes_or_no c.args.kind (column_counts c.args.columns) o c.args.bytes.now) found ∙ ap (option_and_then as_yes) h))

pub returns-in_err-rest-in-None : goal.returns-in_err-rest-in-None
unfolding claim_at
returns-in_err-rest-in-None c =
    let none : word_at (codes "answer yes\n") c.args.bytes.now ≡ None = sym c.in-None.ensures.value in
    let p = err_from_is_err_and c.from_residual-in_err-rest-in-None.result c.from_residual-in_err-rest-in-None.ensures.1 in
    rw (p.1, p.2) (stops _ _ _ c.in_err-rest-in-None.ensures (λ h. ap (λ o. yes_or_no c.args.kind (column_counts c.args.columns) o c.args.bytes.now) none ∙ ap (option_and_then (no_at (side_count c.args.kind))) h))

pub returns-in_err-part-in-None : goal.returns-in_err-part-in-None
unfolding claim_at
returns-in_err-part-in-None c =
    let none : word_at (codes "answer yes\n") c.args.bytes.now ≡ None = sym c.in-None.ensures.value in
    let p = err_from_is_err_and c.from_residual-in_err-part-in-None.result c.from_residual-in_err-part-in-None.ensures.1 in
    rw (p.1, p.2) (stops _ _ _ c.in_err-part-in-None.ensures
    (λ h. ap (λ o. yes_or_no c.args.kind (column_counts c.args.columns) o c.args.bytes.now) none ∙ ap (option_and_then (no_at (side_count c.args.kind))) c.in_ok-rest-in-None.ensures
    ∙ ap (λ n. no_at n c.in_ok-rest-in-None.rest.now) (sym c.side_count.ensures) ∙ h))
