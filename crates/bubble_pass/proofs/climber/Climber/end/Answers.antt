use Rattle.std.proofs.Common.{ℕ, ◌+◌, ◌≤◌, sym, subst, ◌∙◌, arith}
use Rattle.bubble_pass.proofs.Turns.{queue_read, head_in}
use Rattle.bubble_pass.proofs.Ending.{Whole, end_queued, end_one, end_some, run_begun, grow_first, grow_second, whole_begun, whole_inside, whole_left, whole_flat, queued_left, parked_left, flat_one, queued_only, parked_only}
use Rattle.bubble_pass.proofs.Walks.{less_parked}
use Rattle.bubble_pass.proofs.Opens.{parked_seen}
use Rattle.bubble_pass.proofs.Marks.{seen_in}
use Rattle.bubble_pass.proofs.Splits.{top_apart, whole_apart, blocked_of}
use Rattle.bubble_pass.proofs.climber.Climber.end.Goals as goal
use Rattle.bubble_pass.proofs.climber.Climber.end.Goals.{After-grow-2}

no_less : (s n : ℕ) → s ≤ s + n
no_less s n = omega arith

pub returns-then-self-clause-end : goal.returns-then-self-clause-end
returns-then-self-clause-end g c =
    end_queued c.args.arena.now g.leaves c.args.self.now c.index.result.now c.layout_law.ensures c.requires.1.0 c.requires.1.1.1.0 c.requires.1.1.1.1 c.if-self.true
    (queue_read c.args.arena.now g.leaves c.args.self.now c.args.self.now.head c.index.result.now c.requires.1.1.1.0.kept c.if-self.true c.index.ensures)

pub first_parked-y-requires : goal.first_parked-y-requires
first_parked-y-requires g c = (c.requires.1.1.1.0.kept, end_some c.args.arena.now g.leaves c.args.self.now c.layout_law.ensures c.requires.1.0 c.requires.1.1.1.0 c.if-self.false)

pub returns-then-self-eq1-clause-end : goal.returns-then-self-eq1-clause-end
returns-then-self-eq1-clause-end g c =
    end_one c.args.arena.now g.leaves c.args.self.now c.first_parked-y.result.index c.layout_law.ensures c.requires.1.0 c.requires.1.1.1.0 c.if-self.false c.if-self-eq1.true c.first_parked-y.ensures

pub returns-in-Top-clause-end : goal.returns-in-Top-clause-end
returns-in-Top-clause-end g c =
    top_apart c.args.arena.now g.leaves c.args.self.now c.first_parked-y.result.index c.layout_law.ensures c.requires.1.0 c.requires.1.1.0 c.requires.1.1.1.0 c.if-self.false c.if-self-eq1.false
    (end_some c.args.arena.now g.leaves c.args.self.now c.layout_law.ensures c.requires.1.0 c.requires.1.1.1.0 c.if-self.false) (sym c.stage_of.ensures ∙ c.in-Top.is)

pub grow-requires : goal.grow-requires
grow-requires g c =
    let t = run_begun c.args.arena.now g.leaves c.args.self.now c.set_stage.new.self c.first_parked-y.result c.look-view.result c.layout_law.ensures c.requires.1.0 c.requires.1.1.1.0 c.if-self.false
    (blocked_of c.args.self.now.stages.items c.first_parked-y.result.index c.stage_of.result c.first_parked-y.ensures c.stage_of.ensures c.in_default.not-Top)
    c.look-view.ensures.shows c.set_stage.ensures.staged c.set_stage.ensures.parked in
    λ κs h. (h, grow_first c.args.arena.now g.leaves c.args.self.now (less_parked c.set_stage.new.self) c.first_parked-y.result c.look-view.result c.layout_law.ensures c.look-view.ensures.shows t)

pub grow-requires-2 : goal.grow-requires-2
grow-requires-2 g c =
    let t = run_begun c.args.arena.now g.leaves c.args.self.now c.set_stage.new.self c.first_parked-y.result c.look-view.result c.layout_law.ensures c.requires.1.0 c.requires.1.1.1.0 c.if-self.false
    (blocked_of c.args.self.now.stages.items c.first_parked-y.result.index c.stage_of.result c.first_parked-y.ensures c.stage_of.ensures c.in_default.not-Top)
    c.look-view.ensures.shows c.set_stage.ensures.staged c.set_stage.ensures.parked in
    λ κs h. (
      h,
      grow_second c.args.arena.now g.leaves c.args.self.now (less_parked c.set_stage.new.self) c.grow.new.self c.first_parked-y.result c.look-view.result c.look-view.new.steps c.grow.new.steps
          c.layout_law.ensures c.look-view.ensures.shows t c.grow.ensures.grown,
    )

-- the run has grown on both sides of the node
whole : (g : _) (c : After-grow-2 g) → Whole c.args.arena.now g.leaves c.args.self.now c.grow-2.new.self c.first_parked-y.result.index
whole g c =
    whole_begun c.args.arena.now g.leaves c.args.self.now c.set_stage.new.self c.grow.new.self c.grow-2.new.self c.first_parked-y.result c.look-view.result c.look-view.new.steps c.grow.new.steps c.grow-2.new.steps
    c.layout_law.ensures c.requires.1.0 c.requires.1.1.1.0 c.if-self.false
    (blocked_of c.args.self.now.stages.items c.first_parked-y.result.index c.stage_of.result c.first_parked-y.ensures c.stage_of.ensures c.in_default.not-Top)
    c.look-view.ensures.shows c.set_stage.ensures.staged c.set_stage.ensures.parked c.grow.ensures.grown c.grow-2.ensures.grown

pub returns-then-self-eq0 : goal.returns-then-self-eq0
returns-then-self-eq0 g c =
    let w = whole g (goal.at.returns-then-self-eq0 g c).After-grow-2 in
    record {
      end = whole_inside c.args.arena.now g.leaves c.args.self.now c.grow-2.new.self c.first_parked-y.result.index c.layout_law.ensures c.requires.1.0 c.if-self.false c.if-self-eq1.false c.requires.1.1.1.0 w c.if-self-eq0.true;
      kept = c.grow-2.ensures.grown.growing.can.kept;
      left = whole_left c.args.arena.now g.leaves c.args.self.now c.grow-2.new.self c.first_parked-y.result.index c.layout_law.ensures c.requires.1.0 c.if-self.false c.if-self-eq1.false c.requires.1.1.1.0 w c.if-self-eq0.true;
      flat = whole_flat c.args.arena.now g.leaves c.args.self.now c.grow-2.new.self c.first_parked-y.result.index c.layout_law.ensures c.if-self.false c.requires.1.1.1.0 w c.if-self-eq0.true;
      ticks = omega (arith, c.grow.ensures.grown.growing.ticks, c.grow-2.ensures.grown.growing.ticks, c.look-view.ensures.ticks, c.set_stage.ensures.parked, (end_some c.args.arena.now g.leaves c.args.self.now c.layout_law.ensures c.requires.1.0 c.requires.1.1.1.0 c.if-self.false));
    }

pub returns-else-self-eq0 : goal.returns-else-self-eq0
returns-else-self-eq0 g c =
    let w = whole g (goal.at.returns-else-self-eq0 g c).After-grow-2 in
    record {
      end = whole_apart c.args.arena.now g.leaves c.args.self.now c.grow-2.new.self c.first_parked-y.result.index c.layout_law.ensures c.requires.1.0 c.requires.1.1.0 c.requires.1.1.1.0 c.if-self.false w c.if-self-eq0.false;
      kept = c.grow-2.ensures.grown.growing.can.kept;
      left = tt;
      flat = tt;
      ticks = omega (arith, c.grow.ensures.grown.growing.ticks, c.grow-2.ensures.grown.growing.ticks, c.look-view.ensures.ticks, c.set_stage.ensures.parked, (end_some c.args.arena.now g.leaves c.args.self.now c.layout_law.ensures c.requires.1.0 c.requires.1.1.1.0 c.if-self.false));
    }

pub returns-then-self-clause-flat : goal.returns-then-self-clause-flat
returns-then-self-clause-flat g c =
    flat_one c.args.arena.now c.args.self.now.stages.items c.index.result.now.index (queued_only c.args.arena.now g.leaves c.args.self.now c.index.result.now c.requires.1.1.1.0 c.requires.1.1.1.1 c.if-self.true
    (queue_read c.args.arena.now g.leaves c.args.self.now c.args.self.now.head c.index.result.now c.requires.1.1.1.0.kept c.if-self.true c.index.ensures))

pub returns-then-self-eq1-clause-flat : goal.returns-then-self-eq1-clause-flat
returns-then-self-eq1-clause-flat g c =
    flat_one c.args.arena.now c.args.self.now.stages.items c.first_parked-y.result.index
    (parked_only c.args.arena.now g.leaves c.args.self.now c.first_parked-y.result.index c.requires.1.1.1.0 c.if-self.false c.if-self-eq1.true c.first_parked-y.ensures)

pub returns-then-self-clause-left : goal.returns-then-self-clause-left
returns-then-self-clause-left g c =
    queued_left c.args.arena.now g.leaves c.args.self.now c.index.result.now c.requires.1.1.1.0 c.requires.1.1.1.1 c.if-self.true
    (queue_read c.args.arena.now g.leaves c.args.self.now c.args.self.now.head c.index.result.now c.requires.1.1.1.0.kept c.if-self.true c.index.ensures)

pub returns-then-self-eq1-clause-left : goal.returns-then-self-eq1-clause-left
returns-then-self-eq1-clause-left g c = parked_left c.args.arena.now g.leaves c.args.self.now c.first_parked-y.result.index c.requires.1.1.1.0 c.if-self.false c.if-self-eq1.true c.first_parked-y.ensures

pub index-requires : goal.index-requires
index-requires g c = head_in c.args.arena.now g.leaves c.args.self.now c.requires.1.1.1.0.kept c.if-self.true

pub stage_of-requires : goal.stage_of-requires
stage_of-requires g c = seen_in c.args.self.now.stages.items c.first_parked-y.result.index (parked_seen _ c.first_parked-y.ensures)

pub set_stage-requires : goal.set_stage-requires
set_stage-requires g c = seen_in c.args.self.now.stages.items c.first_parked-y.result.index (parked_seen _ c.first_parked-y.ensures)

pub look-view-requires : goal.look-view-requires
look-view-requires g c = c.requires.1.1.1.0.kept.climb.used c.first_parked-y.result.index (parked_seen _ c.first_parked-y.ensures)

pub overflow_sub-self : goal.overflow_sub-self
overflow_sub-self g c =
    subst (λ n. 1 ≤ n) (sym c.set_stage.ensures.parked) (end_some c.args.arena.now g.leaves c.args.self.now c.layout_law.ensures c.requires.1.0 c.requires.1.1.1.0 c.if-self.false)

pub returns-then-self-clause-kept : goal.returns-then-self-clause-kept
returns-then-self-clause-kept g c = c.requires.1.1.1.0.kept

pub returns-then-self-clause-ticks : goal.returns-then-self-clause-ticks
returns-then-self-clause-ticks g c = no_less _ _

pub returns-then-self-eq1-clause-kept : goal.returns-then-self-eq1-clause-kept
returns-then-self-eq1-clause-kept g c = c.requires.1.1.1.0.kept

pub returns-then-self-eq1-clause-ticks : goal.returns-then-self-eq1-clause-ticks
returns-then-self-eq1-clause-ticks g c = no_less _ _

pub returns-in-Top-clause-kept : goal.returns-in-Top-clause-kept
returns-in-Top-clause-kept g c = c.requires.1.1.1.0.kept

pub returns-in-Top-clause-ticks : goal.returns-in-Top-clause-ticks
returns-in-Top-clause-ticks g c = no_less _ _

pub returns-in-Top-clause-flat : goal.returns-in-Top-clause-flat
returns-in-Top-clause-flat g c = tt

pub returns-in-Top-clause-left : goal.returns-in-Top-clause-left
returns-in-Top-clause-left g c = tt
