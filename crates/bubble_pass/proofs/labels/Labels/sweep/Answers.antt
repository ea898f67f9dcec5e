use Rattle.std.proofs.Common.{◌≡◌, ◌≤◌, length, arith}
use Rattle.arena_model.proofs.Slots.{few_slots}
use Rattle.bubble_pass.specs.Sweep.{CanJudge}
use Rattle.bubble_pass.proofs.Judges.{complete_end}
use Rattle.bubble_pass.proofs.Sums.{sweep_first, sweep_more, sweep_ticks, sweep_end, node_read}
use Rattle.bubble_pass.specs.Climb.{most_nodes}
use Rattle.bubble_pass.proofs.labels.Labels.sweep.Goals as goal

pub loop-done-init : goal.loop-done-init
loop-done-init g c = sweep_first c.args.arena.now g.leaves c.args.climber.now c.args.self.now c.args.steps.now c.requires.1.1.1.1.0 c.requires.1.1.1.1.1

pub judge-label-requires : goal.judge-label-requires
judge-label-requires g c = λ κs h. (
  h,
  let can : CanJudge c.args.arena.now g.leaves c.args.climber.now c.args.chains.now c.loop-done.self c.index-x.result.now c.loop-done.done = record {
    is_row = c.requires.1.0;
    is_full = c.requires.1.1.0;
    ground = c.requires.1.1.1.0;
    swept = c.loop-done.invariant.swept;
    some = c.loop-done-test.true;
    is = node_read c.args.arena.now g.leaves c.args.climber.now c.loop-done.self c.loop-done.done c.index-x.result.now c.loop-done.invariant.swept c.loop-done-test.true c.index-x.ensures;
  } in can,
)

pub loop-done-preserved : goal.loop-done-preserved
loop-done-preserved g c =
    sweep_more c.args.arena.now g.leaves c.args.climber.now c.loop-done.self c.settle.new.self c.index-x.result.now c.loop-done.done c.args.steps.now c.loop-done.steps c.judge-label.new.steps
    c.loop-done.invariant c.loop-done-test.true (node_read c.args.arena.now g.leaves c.args.climber.now c.loop-done.self c.loop-done.done c.index-x.result.now c.loop-done.invariant.swept c.loop-done-test.true c.index-x.ensures) c.judge-label.ensures.ticks c.settle.ensures.swept c.settle.ensures.before

pub overflow_add-done : goal.overflow_add-done
overflow_add-done g c =
    let s = c.loop-done.invariant.swept in
    let few : length c.args.arena.now.slots ≤ most_nodes = few_slots c.args.arena.now c.layout_law.ensures in
    let size : length c.loop-done.self.nodes.items ≡ length c.args.arena.now.slots = s.sizes.3 in
    let fits : c.loop-done.self.len ≤ length c.loop-done.self.nodes.items = s.fits in
    omega arith

pub returns-clause-complete : goal.returns-clause-complete
returns-clause-complete g c = λ n p.
    complete_end c.args.arena.now g.leaves c.args.climber.now c.args.chains.now c.loop-done.self c.loop-done.done c.layout_law.ensures c.requires.1.1.1.0 c.loop-done.invariant.swept c.loop-done-test.false n p

pub returns-clause-ticks : goal.returns-clause-ticks
returns-clause-ticks g c =
    sweep_ticks c.args.arena.now g.leaves c.args.climber.now c.args.chains.now c.loop-done.self c.loop-done.done c.args.steps.now c.loop-done.steps c.layout_law.ensures c.requires.1.1.1.0 c.loop-done.invariant c.loop-done-test.false

pub returns-clause-swept : goal.returns-clause-swept
returns-clause-swept g c = sweep_end c.args.arena.now g.leaves c.args.climber.now c.loop-done.self c.loop-done.done c.loop-done.invariant.swept c.loop-done-test.false
