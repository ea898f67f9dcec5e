use Rattle.std.proofs.Common.{◌∙◌, ◌≤◌, ap, arith}
use Rattle.column_order.specs.Orders.{occurs}
use Rattle.arena_model.specs.Layout.{children_at, times_child}
use Rattle.arena_model.proofs.Slots.{children_times}
use Rattle.pq_arena.specs.declared.node.Head.{Head}
use Rattle.pq_arena.specs.Wiring.{kind_shape}
use Rattle.pq_arena.proofs.Closing.{opened}
use Rattle.pq_arena.proofs.Pairs.{two_of_count, two_of_ends, count_of_two, ends_of_two}
use Rattle.pq_arena.proofs.arena.Arena.has_two.Goals as goal

pub returns-in-Permuted : goal.returns-in-Permuted
returns-in-Permuted c =
    let h = opened c.self.inside c.args.self.now c.self.view_is c.self.invariant in (
      two_of_count c.args.self.now c.args.n c.head_at-head.result (λ s e. c.head_at-head.ensures ∙ h.heads_are c.args.n s e) c.in-Permuted.is,
      count_of_two c.args.self.now c.args.n c.head_at-head.result (λ s e. c.head_at-head.ensures ∙ h.heads_are c.args.n s e) c.in-Permuted.is (ap (λ (z : Head). kind_shape z.kind) c.head_at-head.ensures ∙ h.shapes c.args.n),
    )

pub returns-in-Directed : goal.returns-in-Directed
returns-in-Directed c =
    let h = opened c.self.inside c.args.self.now c.self.view_is c.self.invariant in (
      two_of_ends c.args.self.now c.args.n c.head_at-head.result (λ s e. c.head_at-head.ensures ∙ h.heads_are c.args.n s e) c.in-Directed.is,
      ends_of_two c.args.self.now c.args.n c.head_at-head.result (λ s e. c.head_at-head.ensures ∙ h.heads_are c.args.n s e) c.in-Directed.is (ap (λ (z : Head). kind_shape z.kind) c.head_at-head.ensures ∙ h.shapes c.args.n)
          (λ x. let a : occurs (children_at c.args.self.now c.args.n) x ≤ times_child c.args.self.now.slots x = children_times c.args.self.now c.args.n x in let b : times_child c.args.self.now.slots x ≤ 1 = h.layout.once x in omega arith),
    )
