use Rattle.std.proofs.Common.{◌≡◌, ◌≤◌, length, sum_by, refl, sym, subst, ◌∙◌, arith}
use Rattle.bubble_pass.specs.Climb.{most_nodes, parked_one}
use Rattle.bubble_pass.specs.Moves.{near0, near1, Staged}
use Rattle.bubble_pass.proofs.Seats.{first, second}
use Rattle.bubble_pass.proofs.Turns.{can_find, can_rise, found_child, risen_found, walk_from, freed, parked_le, parked, more_parked, queue_read, queue_in, queue_used, head_in, turned_by, turned_parked, risen_ticks, parked_ticks}
use Rattle.bubble_pass.proofs.climber.Climber.turn.Goals as goal

pub found-requires : goal.found-requires
found-requires g c = can_find c.args.arena.now g.leaves c.args.self.now c.index-x.result.now.index c.look-view.result c.layout_law.ensures c.requires.1.0.kept c.look-view.ensures.shows

pub rise-requires : goal.rise-requires
rise-requires g c =
    can_rise c.args.arena.now g.leaves c.args.self.now c.index-x.result.now c.in-Some.m c.layout_law.ensures c.requires.1.0.kept c.requires.1.1
    (queue_read c.args.arena.now g.leaves c.args.self.now c.args.self.now.head c.index-x.result.now c.requires.1.0.kept c.requires.1.1 c.index-x.ensures)
    (found_child c.args.arena.now g.leaves c.args.self.now.stages.items c.index-x.result.now.index c.look-view.result c.in-Some.m c.layout_law.ensures c.requires.1.0.kept.climb
    c.look-view.ensures.shows (sym c.in-Some.ensures))

pub walk-requires : goal.walk-requires
walk-requires g c =
    let r = risen_found c.args.arena.now g.leaves c.args.self.now c.rise.new.self c.index-x.result.now c.in-Some.m c.look-view.result c.layout_law.ensures c.requires.1.0.kept c.requires.1.1 c.index-x.ensures
    c.look-view.ensures.shows (sym c.in-Some.ensures) c.rise.ensures in
    λ κs h. (
      h,
      walk_from c.args.arena.now g.leaves c.rise.new.self c.index-x.result.now c.in-Some.m c.look-view.result (near0 c.look-view.result.near) c.layout_law.ensures r.kept
          c.look-view.ensures.shows r.placing.placed (first refl),
    )

pub walk-requires-in-Some : goal.walk-requires-in-Some
walk-requires-in-Some g c = λ κs h. (
  h,
  walk_from c.args.arena.now g.leaves c.walk.new.self c.index-x.result.now c.in-Some.m c.look-view.result (near1 c.look-view.result.near) c.layout_law.ensures c.walk.ensures.walked.kept
      c.look-view.ensures.shows c.walk.ensures.walked.along.start (second refl),
)

pub overflow_add-self-in-None-2 : goal.overflow_add-self-in-None-2
overflow_add-self-in-None-2 g c =
    let k = c.requires.1.0.kept in
    let a : sum_by parked_one c.args.self.now.stages.items ≤ length c.args.self.now.stages.items = parked_le c.args.self.now.stages.items in
    let p : c.args.self.now.parked ≡ sum_by parked_one c.args.self.now.stages.items = k.count in
    let l : length c.args.self.now.stages.items ≡ length c.args.arena.now.slots = k.long in
    let b : length c.args.arena.now.slots ≤ most_nodes = k.few in
    omega arith

pub returns-in-Some-clause-ready : goal.returns-in-Some-clause-ready
returns-in-Some-clause-ready g c =
    let r = risen_found c.args.arena.now g.leaves c.args.self.now c.rise.new.self c.index-x.result.now c.in-Some.m c.look-view.result c.layout_law.ensures c.requires.1.0.kept c.requires.1.1 c.index-x.ensures
    c.look-view.ensures.shows (sym c.in-Some.ensures) c.rise.ensures in
    freed c.args.arena.now g.leaves c.args.self.now c.rise.new.self c.walk.new.self c.walk-in-Some.new.self c.index-x.result.now c.in-Some.m c.look-view.result
    c.look-view.new.steps c.walk.new.steps c.walk-in-Some.new.steps c.layout_law.ensures c.requires.1.0 r c.look-view.ensures.shows c.walk.ensures.walked c.walk-in-Some.ensures.walked

pub returns-in-None-clause-ready : goal.returns-in-None-clause-ready
returns-in-None-clause-ready g c =
    parked c.args.arena.now g.leaves c.args.self.now c.set_stage.new.self c.index-x.result.now c.look-view.result c.layout_law.ensures c.requires.1.0 c.requires.1.1
    (queue_read c.args.arena.now g.leaves c.args.self.now c.args.self.now.head c.index-x.result.now c.requires.1.0.kept c.requires.1.1 c.index-x.ensures)
    c.look-view.ensures.shows (sym c.in-None.ensures) c.set_stage.ensures.parked
    (subst (λ z. Staged (more_parked c.args.self.now) c.set_stage.new.self c.index-x.result.now z) c.parked_stage.ensures c.set_stage.ensures.staged)

pub returns-in-Some-clause-turned : goal.returns-in-Some-clause-turned
returns-in-Some-clause-turned g c =
    let r = risen_found c.args.arena.now g.leaves c.args.self.now c.rise.new.self c.index-x.result.now c.in-Some.m c.look-view.result c.layout_law.ensures c.requires.1.0.kept c.requires.1.1 c.index-x.ensures
    c.look-view.ensures.shows (sym c.in-Some.ensures) c.rise.ensures in
    turned_by c.args.arena.now g.leaves c.args.self.now c.rise.new.self c.walk.new.self c.walk-in-Some.new.self c.index-x.result.now c.in-Some.m (near0 c.look-view.result.near) (near1 c.look-view.result.near)
    c.look-view.new.steps c.walk.new.steps c.walk-in-Some.new.steps c.requires.1.0.kept c.requires.1.1
    (queue_read c.args.arena.now g.leaves c.args.self.now c.args.self.now.head c.index-x.result.now c.requires.1.0.kept c.requires.1.1 c.index-x.ensures) c.rise.ensures r c.walk.ensures.walked c.walk-in-Some.ensures.walked

pub returns-in-None-clause-turned : goal.returns-in-None-clause-turned
returns-in-None-clause-turned g c =
    turned_parked c.args.arena.now g.leaves c.args.self.now c.set_stage.new.self c.index-x.result.now c.look-view.result c.requires.1.0.kept c.requires.1.1
    (queue_read c.args.arena.now g.leaves c.args.self.now c.args.self.now.head c.index-x.result.now c.requires.1.0.kept c.requires.1.1 c.index-x.ensures)
    (subst (λ z. Staged (more_parked c.args.self.now) c.set_stage.new.self c.index-x.result.now z) c.parked_stage.ensures c.set_stage.ensures.staged)

pub index-x-requires : goal.index-x-requires
index-x-requires g c = head_in c.args.arena.now g.leaves c.args.self.now c.requires.1.0.kept c.requires.1.1

pub look-view-requires : goal.look-view-requires
look-view-requires g c = queue_used c.args.arena.now g.leaves c.args.self.now c.args.self.now.head c.index-x.result.now c.requires.1.0.kept c.requires.1.1 c.index-x.ensures

pub set_stage-requires : goal.set_stage-requires
set_stage-requires g c = queue_in c.args.arena.now g.leaves c.args.self.now c.args.self.now.head c.index-x.result.now c.requires.1.0.kept c.requires.1.1 c.index-x.ensures

pub returns-in-Some-clause-ticks : goal.returns-in-Some-clause-ticks
returns-in-Some-clause-ticks g c =
    risen_ticks _ _ _ _ _ _ _ _ c.look-view.ensures.ticks c.rise.ensures.parked c.walk.ensures.walked.along.ticks c.walk-in-Some.ensures.walked.along.ticks

pub returns-in-Some-clause-head : goal.returns-in-Some-clause-head
returns-in-Some-clause-head g c = c.walk-in-Some.ensures.walked.along.head ∙ c.walk.ensures.walked.along.head ∙ c.rise.ensures.head

pub returns-in-None-clause-ticks : goal.returns-in-None-clause-ticks
returns-in-None-clause-ticks g c = parked_ticks _ _ _ _ c.look-view.ensures.ticks c.set_stage.ensures.parked
