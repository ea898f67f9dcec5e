use Rattle.std.proofs.Common.{◌≡◌, ◌<◌, length, ap, arith}
use Rattle.text_parts.proofs.PrintLaws.{on_err, extends_after}
use Rattle.core_text.proofs.PrintLaws.{entries_more, entries_all}
use Rattle.core_text.proofs.write.push_each_entry.Goals as goal

pub get-requires : goal.get-requires
get-requires c = omega (arith, ap (λ v. length v.parts.orders) c.t.view_is, c.rows-row-items.ensures.each, ap length c.rows-row-items.ensures.rows, c.loop-i-test.true)

pub returns-in_err-push_entry-clause-err : goal.returns-in_err-push_entry-clause-err
returns-in_err-push_entry-clause-err c = on_err c.from_residual.result (extends_after _ _ _ _ c.loop-i.invariant c.in_err-push_entry.ensures.err)

pub loop-i-preserved : goal.loop-i-preserved
loop-i-preserved c =
    let p = c.args.t.now.parts in
    let orders : c.t.inside.orders ≡ p.orders = ap (λ v. v.parts.orders) c.t.view_is in
    let within : c.loop-i.i < length p.rows = omega (arith, c.loop-i-test.true, ap length c.rows-row-items.ensures.rows) in
    entries_more _ _ _ p.rows p.orders c.loop-i.i 0 c.get.result.now c.rows-row-items.ensures.each within (rw orders at c.get.ensures) c.loop-i.invariant
    (rw c.rows-row-items.ensures.rows at c.in_ok-push_entry.ensures.ok)

pub returns-clause-ok : goal.returns-clause-ok
returns-clause-ok c =
    let p = c.args.t.now.parts in
    entries_all _ _ p.rows p.orders c.loop-i.i c.rows-row-items.ensures.each (omega (arith, c.loop-i-test.false, ap length c.rows-row-items.ensures.rows)) c.loop-i.invariant
