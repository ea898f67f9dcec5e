use Rattle.std.proofs.Common.{◌-◌, ◌≤◌, ℕ, [], length, sym, subst, arith}
use Rattle.std.proofs.lemmas.Grind.{common_steps}
use Rattle.arena_model.specs.declared.Shape.TheVariants.{P}
use Rattle.arena_model.specs.Layout.{Layout, StandsAlone, taken}
use Rattle.pq_arena.specs.RowNodes.{indices}
use Rattle.template_model.proofs.Spare.{five_spare}
use Rattle.templates_p.specs.Sorts.{full_nodes}
use Rattle.templates_p.specs.Steps.{Moved}
use Rattle.templates_p.proofs.Moving.{moved_none, can_move}
use Rattle.templates_p.proofs.Chaining.{chain_few, in_room}
use Rattle.templates_p.proofs.Grouping.{gather_start, gather_next, gather_on, gathering_some, passed_one, gather_end, ready_to_group, can_group, group_done}
use Rattle.templates_p.proofs.group.group_full.Goals as goal

pub overflow_add-left : goal.overflow_add-left
overflow_add-left g c = omega (arith, chain_few c.args.arena.now c.args.work.now c.args.node.index c.layout_law.ensures c.requires.can.ready.right, c.counts-counts.ensures.full, c.counts-counts.ensures.partial)

pub take-group-requires-clause-some : goal.take-group-requires-clause-some
take-group-requires-clause-some g c = omega (arith, five_spare c.args.arena.now c.layout_law.ensures c.requires.can.ready.one c.requires.can.ready.two)

pub loop-left-init : goal.loop-left-init
loop-left-init g c =
    let f : Layout = c.args.arena.now in
    let n : ℕ = c.args.node.index in
    let x : ℕ = c.take-group.result.index in
    let some : 1 ≤ length f.spares = omega (arith, five_spare f c.layout_law.ensures c.requires.can.ready.one c.requires.can.ready.two) in
    let m : Moved f (taken f x P) n x [] = moved_none f n x c.layout_law.ensures c.requires.can.is_p (c.requires.can.ready.one n c.requires.can.ready.used) some
    c.take-group.ensures.first (subst (λ z. StandsAlone z x) c.take-group.ensures.taken c.take-group.ensures.alone) in
    gather_start f c.take-group.new.self c.args.work.now n x _ _ _ _ c.layout_law.ensures c.requires.can.ready
    (subst (λ z. Moved f z n x []) (sym c.take-group.ensures.taken) m)
    (omega (arith, c.counts-counts.ensures.full, c.counts-counts.ensures.partial)) c.first_child-next.ensures c.take-group.ensures.ticks

pub unreachable-requires : goal.unreachable-requires
unreachable-requires g c = gathering_some c.args.arena.now c.loop-left.arena c.args.work.now c.args.node.index c.take-group.result.index c.loop-left.left c.loop-left.next _ _
    c.loop-left.invariant (omega (arith, c.loop-left-test.true)) c.in_default.is

pub take_in-requires-clause-moves : goal.take_in-requires-clause-moves
take_in-requires-clause-moves g c =
    let i = gather_next c.args.arena.now c.loop-left.arena c.args.work.now c.args.node.index c.take-group.result.index c.loop-left.left c.loop-left.next _ _ c.in-Some.child
    c.layout_law.ensures c.loop-left.invariant (omega (arith, c.loop-left-test.true)) c.in-Some.is in
    can_move c.args.arena.now c.loop-left.arena c.args.node.index c.take-group.result.index (full_nodes c.args.work.now (indices c.loop-left.invariant.passed)) c.in-Some.child.index
    c.requires.can.is_p c.loop-left.invariant.moved i.child i.new

pub take_in-requires-clause-room : goal.take_in-requires-clause-room
take_in-requires-clause-room g c =
    let i = gather_next c.args.arena.now c.loop-left.arena c.args.work.now c.args.node.index c.take-group.result.index c.loop-left.left c.loop-left.next _ _ c.in-Some.child
    c.layout_law.ensures c.loop-left.invariant (omega (arith, c.loop-left-test.true)) c.in-Some.is in
    in_room c.args.arena.now c.args.work.now c.args.node.index c.in-Some.child.index c.layout_law.ensures c.requires.can.ready i.child

pub next_child-next-requires : goal.next_child-next-requires
next_child-next-requires g c =
    let i = gather_next c.args.arena.now c.loop-left.arena c.args.work.now c.args.node.index c.take-group.result.index c.loop-left.left c.loop-left.next _ _ c.in-Some.child
    c.layout_law.ensures c.loop-left.invariant (omega (arith, c.loop-left-test.true)) c.in-Some.is in
    in_room c.args.arena.now c.args.work.now c.args.node.index c.in-Some.child.index c.layout_law.ensures c.requires.can.ready i.child

pub loop-left-preserved : goal.loop-left-preserved
loop-left-preserved g c =
    let i = gather_next c.args.arena.now c.loop-left.arena c.args.work.now c.args.node.index c.take-group.result.index c.loop-left.left c.loop-left.next _ _ c.in-Some.child
    c.layout_law.ensures c.loop-left.invariant (omega (arith, c.loop-left-test.true)) c.in-Some.is in
    gather_on c.args.arena.now c.loop-left.arena c.take_in.new.arena c.args.work.now c.args.node.index c.take-group.result.index c.loop-left.left (c.loop-left.left - 1) c.loop-left.next c.next_child-next.result _ _ _ c.in-Some.child
    c.loop-left.invariant (omega (arith, c.loop-left-test.true)) c.in-Some.is (omega (arith, c.loop-left-test.true)) c.next_child-next.ensures c.take_in.ensures.ticks
    (passed_one c.args.arena.now c.loop-left.arena c.take_in.new.arena c.args.work.now c.args.node.index c.take-group.result.index c.loop-left.invariant.passed c.in-Some.child
    c.layout_law-in-loop-left.ensures c.requires.can.is_p c.loop-left.invariant.moved i c.take_in.ensures.full c.take_in.ensures.other)

pub attach-requires-clause-apart : goal.attach-requires-clause-apart
attach-requires-clause-apart g c = (ready_to_group c.args.arena.now c.loop-left.arena c.args.node.index c.take-group.result.index _ c.layout_law-2.ensures c.loop-left.invariant.moved).no_way

pub returns-clause-treated : goal.returns-clause-treated
returns-clause-treated g c =
    (group_done _ _ _ _ _ _ _ _ c.layout_law.ensures c.layout_law-3.ensures c.attach.ensures.changed c.mark.ensures (can_group _ _ _ c.requires.can c.requires.many)
    (gather_end _ _ _ _ _ _ _ _ _ c.loop-left.invariant (omega (arith, c.loop-left-test.false)))).0

pub returns-clause-made : goal.returns-clause-made
returns-clause-made g c =
    (group_done _ _ _ _ _ _ _ _ c.layout_law.ensures c.layout_law-3.ensures c.attach.ensures.changed c.mark.ensures (can_group _ _ _ c.requires.can c.requires.many)
    (gather_end _ _ _ _ _ _ _ _ _ c.loop-left.invariant (omega (arith, c.loop-left-test.false)))).1

pub counts-counts-requires : goal.counts-counts-requires
counts-counts-requires g c = grind (arith, common_steps)

pub first_child-next-requires : goal.first_child-next-requires
first_child-next-requires g c = grind (arith, common_steps)

pub mark-requires : goal.mark-requires
mark-requires g c = grind (arith, common_steps)
