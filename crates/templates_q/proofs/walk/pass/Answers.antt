use Rattle.std.proofs.Common.{◌≡◌, ◌+◌, ◌≤◌, ◌<◌, length, sym, arith}
use Rattle.arena_model.proofs.Slots.{few_slots}
use Rattle.templates_q.proofs.Walks.{next_is, next_room, wanted_known, passed_more, passed_few}
use Rattle.templates_q.proofs.walk.pass.Goals as goal

pub wanted_at-requires : goal.wanted_at-requires
wanted_at-requires g c = let r = c.requires.place in let p = c.loop-x.invariant.1 r.0 r.1 r.2 r.3 in
    next_room c.args.arena.now c.args.work.now r.0 _ _ c.loop-x.gap c.layout_law.ensures c.requires.room p.gap

pub past-gap-requires : goal.past-gap-requires
past-gap-requires g c = let r = c.requires.place in let p = c.loop-x.invariant.1 r.0 r.1 r.2 r.3 in
    (next_is c.args.arena.now r.0 _ _ c.loop-x.gap c.in-Some.x c.layout_law.ensures p.gap (wanted_known c.args.wanted c.args.work.now c.loop-x.gap.next c.in-Some.x (sym c.in-Some.ensures)).0).used

pub overflow_add-count : goal.overflow_add-count
overflow_add-count g c = let r = c.requires.place in let p = c.loop-x.invariant.1 r.0 r.1 r.2 r.3 in
    let lt : c.loop-x.count < length c.args.arena.now.slots =
    passed_few c.args.wanted c.args.arena.now c.args.work.now r.0 r.1 r.2 c.loop-x.count c.loop-x.gap c.in-Some.x c.layout_law.ensures p (wanted_known c.args.wanted c.args.work.now c.loop-x.gap.next c.in-Some.x (sym c.in-Some.ensures)).0 in
    let few : length c.args.arena.now.slots ≤ 65540 = few_slots c.args.arena.now c.layout_law.ensures in omega arith

pub loop-x-smaller : goal.loop-x-smaller
loop-x-smaller g c = let r = c.requires.place in let p = c.loop-x.invariant.1 r.0 r.1 r.2 r.3 in
    let lt : c.loop-x.count < length c.args.arena.now.slots =
    passed_few c.args.wanted c.args.arena.now c.args.work.now r.0 r.1 r.2 c.loop-x.count c.loop-x.gap c.in-Some.x c.layout_law.ensures p (wanted_known c.args.wanted c.args.work.now c.loop-x.gap.next c.in-Some.x (sym c.in-Some.ensures)).0 in omega arith

pub loop-x-preserved : goal.loop-x-preserved
loop-x-preserved g c = (
  (let a : c.loop-x.steps ≡ c.args.steps.now + c.loop-x.count = c.loop-x.invariant.0 in omega (arith, c.past-gap.ensures.ticks)),
  (λ q us vs first. let k = wanted_known c.args.wanted c.args.work.now c.loop-x.gap.next c.in-Some.x (sym c.in-Some.ensures) in
      passed_more c.args.wanted c.args.arena.now c.args.work.now q us vs c.loop-x.count c.loop-x.gap c.past-gap.result c.in-Some.x c.layout_law.ensures (c.loop-x.invariant.1 q us vs first) k.0 k.1 c.past-gap.ensures.passed),
)
