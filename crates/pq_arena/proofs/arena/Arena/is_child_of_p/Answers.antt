use Rattle.std.proofs.Common.{◌≡◌, ◌∙◌, ◌≤◌, ◌<◌, ℕ, IsTrue, false, Some, length, sym, ap, subst, arith}
use Rattle.arena_model.specs.declared.TheConstants.{NODE_BOUND}
use Rattle.std.proofs.lemmas.List.{length-map}
use Rattle.column_order.specs.Orders.{occurs}
use Rattle.arena_model.specs.declared.Shape.TheVariants.{P}
use Rattle.arena_model.specs.Layout.{Layout, shape_at, children_at, times_child, IsChildOfP, IsLayout}
use Rattle.arena_model.proofs.Slots.{in_range, used_by, children_times, few_slots}
use Rattle.pq_arena.specs.declared.node.Link.{Link}
use Rattle.pq_arena.proofs.Closing.{opened}
use Rattle.pq_arena.proofs.Placed.{parent_above, above_parent}
use Rattle.pq_arena.proofs.arena.Arena.is_child_of_p.Goals as goal

never : IsTrue false → ⊥
never t = cc

child_in : (f : Layout) (n : ℕ) → IsLayout f → IsChildOfP f n → n < length f.slots
child_in f n h r = in_range f n (h.used n (let a : occurs (children_at f r.0) n ≤ times_child f.slots n = children_times f r.0 n in let o : 1 ≤ occurs (children_at f r.0) n = r.2 in omega arith))

pub returns-then-n-len-clause-child : goal.returns-then-n-len-clause-child
returns-then-n-len-clause-child g c = let h = opened c.self.inside c.args.self.now c.self.view_is c.self.invariant in (
  λ t. absurd (never t),
  λ r. absurd (
      let lt : c.args.n.index < length c.self.inside.nodes.items = subst (λ m. c.args.n.index < m) (sym h.links_few ∙ length-map c.self.inside.nodes.items _) (child_in c.args.self.now c.args.n.index h.layout r) in
      omega arith),
)

pub returns-then-parent-clause-child : goal.returns-then-parent-clause-child
returns-then-parent-clause-child g c = let h = opened c.self.inside c.args.self.now c.self.view_is c.self.invariant in (
  λ t. absurd (never t),
  λ r. absurd (
      let e : r.0 ≡ c.link_at-parent.result.parent = sym (above_parent _ _ _ _ _ _ c.args.self.now h c.args.n.index r) ∙ sym (ap (λ (l : Link). l.parent) c.link_at-parent.ensures) in
      let lt : r.0 < length c.args.self.now.slots = in_range c.args.self.now r.0 (used_by c.args.self.now r.0 P r.1) in
      let fw : length c.args.self.now.slots ≤ NODE_BOUND = few_slots c.args.self.now h.layout in
      let q : c.link_at-parent.result.parent ≡ 4294967295 = c.if-parent.true in omega arith),
)

pub returns-clause-child : goal.returns-clause-child
returns-clause-child g c = let h = opened c.self.inside c.args.self.now c.self.view_is c.self.invariant in (
  λ t. let sh : shape_at c.args.self.now c.link_at-parent.result.parent ≡ Some P = c.is_p.ensures.0 t in
      (c.link_at-parent.result.parent, sh, parent_above _ _ _ _ _ _ c.args.self.now h c.args.n.index c.link_at-parent.result.parent (sym (ap (λ (l : Link). l.parent) c.link_at-parent.ensures)) sh),
  λ r. c.is_p.ensures.1 (subst (λ z. shape_at c.args.self.now z ≡ Some P)
      (sym (above_parent _ _ _ _ _ _ c.args.self.now h c.args.n.index r) ∙ sym (ap (λ (l : Link). l.parent) c.link_at-parent.ensures)) r.1),
)
