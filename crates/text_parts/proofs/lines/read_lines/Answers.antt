use Rattle.std.proofs.Common.{◌<◌, ◌*◌, length, subst, arith}
use Rattle.std.proofs.lemmas.Result.{err_from_is_err_and}
use Rattle.text_parts.proofs.LoopLaws.{stops, outside, numbered_step, numbered_stop, numbered_end}
use Rattle.text_parts.proofs.lines.read_lines.Goals as goal

pub lines-preserved : goal.lines-preserved
lines-preserved g c = numbered_step g.F.LineForm.line_at _ _ _ _ _ _ _ _ c.lines-test.true c.in_ok-line.ensures c.in_ok-push.ensures.ok c.lines.invariant

pub returns : goal.returns
returns g c = numbered_end g.F.LineForm.line_at _ _ _ _ _ c.lines-test.false c.lines.invariant

pub returns-in_err-line : goal.returns-in_err-line
returns-in_err-line g c =
    let p = err_from_is_err_and c.from_residual-in_err-line.result c.from_residual-in_err-line.ensures.1 in
    rw (p.1, p.2) (stops _ _ _ c.in_err-line.ensures (λ h. numbered_stop g.F.LineForm.line_at _ _ _ _ _ c.lines-test.true h c.lines.invariant))

pub returns-in_err-room : goal.returns-in_err-room
returns-in_err-room g c =
    let p = err_from_is_err_and c.from_residual.result c.from_residual.ensures.1 in
    let e = c.in_err-room.ensures.none in
    rw (p.1, p.2) (outside _ _ e.0 (c.room_law.ensures c.args.count c.args.bytes.now (omega (arith, c.ranges.count.fits)) (subst (λ k. length c.args.bytes.now < c.args.count * k) c.LEAST.ensures e.1)))
