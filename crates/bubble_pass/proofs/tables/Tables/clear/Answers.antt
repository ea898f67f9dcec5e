use Rattle.std.proofs.Common.{length, refl}
use Rattle.bubble_pass.proofs.Tabling.{known_read, can_forget, forget_more, tables_clear, clear_kept}
use Rattle.bubble_pass.proofs.tables.Tables.clear.Goals as goal

pub forget-requires : goal.forget-requires
forget-requires c =
    can_forget c.loop-i.self (length c.args.self.now.climber.stages.items) c.loop-i.i c.index-x.result.now c.loop-i.invariant c.loop-i-test.true
    (known_read c.loop-i.self (length c.args.self.now.climber.stages.items) c.loop-i.i c.index-x.result.now c.loop-i.invariant c.loop-i-test.true c.index-x.ensures)

pub loop-i-preserved : goal.loop-i-preserved
loop-i-preserved c =
    forget_more c.loop-i.self c.forget.new.self (length c.args.self.now.climber.stages.items) c.loop-i.i c.index-x.result.now c.loop-i.invariant c.loop-i-test.true
    (known_read c.loop-i.self (length c.args.self.now.climber.stages.items) c.loop-i.i c.index-x.result.now c.loop-i.invariant c.loop-i-test.true c.index-x.ensures) c.forget.ensures

pub returns : goal.returns
returns c =
    let t = tables_clear c.loop-i.self _ (length c.args.self.now.climber.stages.items) c.loop-i.i c.loop-i.invariant c.loop-i-test.false refl in
    record { clear = t; kept = clear_kept _ (length c.args.self.now.climber.stages.items) t }
