use Rattle.std.proofs.Common.{length, ap, ◌∙◌, inl, inr, arith}
use Rattle.pq_arena.specs.declared.node.Link.{Link}
use Rattle.pq_arena.specs.Wiring.{links}
use Rattle.pq_arena.specs.StandsFor.{other_side}
use Rattle.pq_arena.proofs.Listed.{run_at, run_next, run_listed}
use Rattle.pq_arena.proofs.child_lists.run_children.Goals as goal
use Rattle.pq_arena.proofs.child_lists.run_children.Goals.{else-loop-test, then-loop-test+then-child}

pub link_at-requires : goal.link_at-requires
link_at-requires c = c.requires c.loop.child
    (run_at (links c.args.nodes.now.items) (length c.args.nodes.now.items) c.args.first c.loop.children.items c.loop.before c.loop.child c.loop.counter c.loop.invariant
    (omega arith) c.if-child.false)

pub loop-preserved : goal.loop-preserved
loop-preserved c =
    run_next (links c.args.nodes.now.items) (length c.args.nodes.now.items) c.args.first c.loop.children.items c.push.new.self.items c.loop.before c.loop.child c.other_side-next.result c.loop.counter
    c.loop.invariant (omega arith) c.if-child.false c.in_ok-push.ensures.items
    (c.other_side-next.ensures ∙ ap (λ (l : Link). other_side l c.loop.before) c.link_at.ensures)

pub returns : goal.returns
returns c = run_listed (links c.args.nodes.now.items) (length c.args.nodes.now.items) c.args.first c.loop.children.items c.loop.before c.loop.child c.loop.counter c.loop.invariant
    (elim c.loop-test.branch [ else-loop-test w ↦ inl (omega arith) | then-loop-test+then-child w ↦ inr w.if-child.true ])
