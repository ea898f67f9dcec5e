use Rattle.std.proofs.Common.{◌≤◌, sym, subst, ◌∙◌}
use Rattle.bubble_pass.proofs.Walks.{blocked_node, one_less, walk_step, walk_end}
use Rattle.bubble_pass.proofs.climber.Climber.walk.Goals as goal

pub blocked_at-requires : goal.blocked_at-requires
blocked_at-requires g c = c.loop-x.invariant.can.reach

pub look-view-requires : goal.look-view-requires
look-view-requires g c = (blocked_node c.args.arena.now g.leaves c.loop-x.self c.loop-x.next c.in-Some.x c.loop-x.invariant.can.kept (sym c.in-Some.ensures)).used

pub set_stage-requires : goal.set_stage-requires
set_stage-requires g c = (blocked_node c.args.arena.now g.leaves c.loop-x.self c.loop-x.next c.in-Some.x c.loop-x.invariant.can.kept (sym c.in-Some.ensures)).inside

pub overflow_sub-self : goal.overflow_sub-self
overflow_sub-self g c =
    subst (λ n. 1 ≤ n) (sym c.set_stage.ensures.parked)
    (blocked_node c.args.arena.now g.leaves c.loop-x.self c.loop-x.next c.in-Some.x c.loop-x.invariant.can.kept (sym c.in-Some.ensures)).parked

pub loop-x-smaller : goal.loop-x-smaller
loop-x-smaller g c =
    one_less _ _ (blocked_node c.args.arena.now g.leaves c.loop-x.self c.loop-x.next c.in-Some.x c.loop-x.invariant.can.kept (sym c.in-Some.ensures)).parked c.set_stage.ensures.parked

pub loop-x-preserved : goal.loop-x-preserved
loop-x-preserved g c =
    walk_step c.args.arena.now g.leaves c.args.self.now c.loop-x.self c.set_stage.new.self c.args.m c.args.from c.loop-x.before c.in-Some.x c.args.to c.loop-x.next c.beyond-next.result
    c.look-view.result c.args.steps.now c.loop-x.steps c.look-view.new.steps
    c.layout_law.ensures c.loop-x.invariant (sym c.in-Some.ensures) c.look-view.ensures.shows c.set_stage.ensures.staged c.set_stage.ensures.parked c.beyond-next.ensures c.look-view.ensures.ticks

pub returns : goal.returns
returns g c = record {
  walked = walk_end c.args.arena.now g.leaves c.args.self.now c.loop-x.self c.args.m c.args.from c.loop-x.before c.args.to c.loop-x.next c.args.steps.now c.loop-x.steps
      c.layout_law.ensures c.loop-x.invariant (sym c.blocked_at.ensures ∙ c.in_default.is);
}
