use Rattle.std.proofs.Common.{◌≡◌, ◌∙◌, length, ap, sym, arith}
use Rattle.std.proofs.lemmas.Result.{on_ok_weaker, on_err_weaker}
use Rattle.core_text.proofs.PrintLaws.{counted_entries}
use Rattle.text_parts.proofs.PrintLaws.{on_err, unchanged, extends_after}
use Rattle.core_text.proofs.write.push_entries.Goals as goal

pub returns-clause-ok : goal.returns-clause-ok
returns-clause-ok c =
    let p = c.args.t.now.parts in
    let rows : c.t.inside.rows.items ≡ p.rows = ap (λ v. v.parts.rows) c.t.view_is in
    let orders : c.t.inside.orders ≡ p.orders = ap (λ v. v.parts.orders) c.t.view_is in
    let each : length p.orders ≡ length p.rows = sym (ap length orders) ∙ c.t.invariant ∙ ap length rows in
    let count : c.len.result ≡ length p.rows = omega (arith, c.len.ensures, ap length rows, c.t.inside.rows.ok.0) in
    on_ok_weaker c.push_each_entry.result
    (λ e. counted_entries _ _ _ _ p.rows p.orders c.len.result each count c.in_ok-push_number.ensures.ok c.in_ok-push.ensures.ok e)
    c.push_each_entry.ensures.ok

pub returns-in_err-push-clause-err : goal.returns-in_err-push-clause-err
returns-in_err-push-clause-err c = on_err _ (extends_after _ _ _ _ c.in_ok-push_number.ensures.ok (unchanged c.in_err-push.ensures.err))

pub returns-clause-err : goal.returns-clause-err
returns-clause-err c = on_err_weaker c.push_each_entry.result (λ e. extends_after _ _ _ _ c.in_ok-push_number.ensures.ok (extends_after _ _ _ _ c.in_ok-push.ensures.ok e)) c.push_each_entry.ensures.err
