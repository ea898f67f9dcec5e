use Rattle.std.proofs.Common.{◌≡◌, ◌-◌, true, false, sym, arith, ◌∙◌}
use Rattle.templates_p.proofs.Chaining.{chain_few, search_start, searching_some, searching_on, searched_child, search_on, in_room}
use Rattle.templates_p.proofs.group.child_with.Goals as goal

pub overflow_add-left : goal.overflow_add-left
overflow_add-left c = omega (arith, chain_few c.args.arena.now c.args.work.now c.args.node.index c.layout_law.ensures c.requires.ready.right, c.counts-counts.ensures.full, c.counts-counts.ensures.partial)

pub loop-left-init : goal.loop-left-init
loop-left-init c = search_start c.args.arena.now c.args.work.now c.args.node.index c.args.label c.args.skip.index _ _ c.layout_law.ensures c.requires
    (omega (arith, c.counts-counts.ensures.full, c.counts-counts.ensures.partial)) c.first_child-next.ensures

pub unreachable-requires : goal.unreachable-requires
unreachable-requires c = searching_some c.args.arena.now c.args.work.now c.args.node.index c.args.label c.args.skip.index c.loop-left.left c.loop-left.next
    c.loop-left.invariant (omega (arith, c.loop-left-test.true)) c.in_default.is

pub is_wanted-wanted-requires : goal.is_wanted-wanted-requires
is_wanted-wanted-requires c = in_room c.args.arena.now c.args.work.now c.args.node.index c.in-Some.child.index c.layout_law.ensures c.requires.ready
    (searched_child c.args.arena.now c.args.work.now c.args.node.index c.args.label c.args.skip.index c.loop-left.left c.loop-left.next c.in-Some.child
    c.loop-left.invariant (omega (arith, c.loop-left-test.true)) c.in-Some.is)

pub returns-then-wanted-clause-child : goal.returns-then-wanted-clause-child
returns-then-wanted-clause-child c = searched_child c.args.arena.now c.args.work.now c.args.node.index c.args.label c.args.skip.index c.loop-left.left c.loop-left.next c.in-Some.child
    c.loop-left.invariant (omega (arith, c.loop-left-test.true)) c.in-Some.is

pub next_child-next-requires : goal.next_child-next-requires
next_child-next-requires c = in_room c.args.arena.now c.args.work.now c.args.node.index c.in-Some.child.index c.layout_law.ensures c.requires.ready
    (searched_child c.args.arena.now c.args.work.now c.args.node.index c.args.label c.args.skip.index c.loop-left.left c.loop-left.next c.in-Some.child
    c.loop-left.invariant (omega (arith, c.loop-left-test.true)) c.in-Some.is)

pub loop-left-preserved : goal.loop-left-preserved
loop-left-preserved c = search_on c.args.arena.now c.args.work.now c.args.node.index c.args.label c.args.skip.index c.loop-left.left (c.loop-left.left - 1) c.loop-left.next c.next_child-next.result c.in-Some.child
    c.loop-left.invariant (omega (arith, c.loop-left-test.true)) c.in-Some.is (omega (arith, c.loop-left-test.true)) c.next_child-next.ensures
    (λ a b. let z : true ≡ false = sym (c.is_wanted-wanted.ensures.1 (a, b)) ∙ c.if-wanted.false in cc)

pub unreachable-requires-2 : goal.unreachable-requires-2
unreachable-requires-2 c = searching_on c.args.arena.now c.args.work.now c.args.node.index c.args.label c.args.skip.index c.loop-left.left c.loop-left.next
    c.loop-left.invariant (omega (arith, c.loop-left-test.false))
