use Rattle.std.proofs.Common.{◌≡◌, ◌≤◌, sym, ap, ◌∙◌, arith}
use Rattle.arena_model.proofs.Slots.{children_times}
use Rattle.arena_model.specs.Layout.{children_at, times_child}
use Rattle.column_order.specs.Orders.{occurs}
use Rattle.pq_arena.proofs.Closing.{opened, kept_by, layout_by, is_kept, is_layout}
use Rattle.pq_arena.proofs.ReplaceCall.{replace_child, replace_root, replace_top, replace_any, can_swap}
use Rattle.pq_arena.specs.StandsFor.{StandsFor}
use Rattle.pq_arena.specs.Wiring.{links, heads}
use Rattle.pq_arena.proofs.arena.Arena.replace.Goals as goal

rooted : (g : _) (c : goal.After-self-1 g) →
    StandsFor (links c.self.inside.nodes.items) (heads c.self.inside.nodes.items) c.args.new.index c.self.inside.spare c.self.inside.count c.self.inside.columns
    (record c.args.self.now { root = c.args.new.index })
rooted g c = replace_root _ _ _ _ _ _ c.args.self.now c.args.new.index (opened c.self.inside c.args.self.now c.self.view_is c.self.invariant) c.requires.alone

pub invariant_of-self : goal.invariant_of-self
invariant_of-self g c = is_kept _ _ (rooted g c)

is_root : (g : _) (c : goal.After-self-1 g) → c.args.old.index ≡ c.args.self.now.root
is_root g c = let h = opened c.self.inside c.args.self.now c.self.view_is c.self.invariant in c.if-old-self.true ∙ h.root_is

pub returns-then-old-self-clause-child : goal.returns-then-old-self-clause-child
returns-then-old-self-clause-child g c = λ p o.
    let h = opened c.self.inside c.args.self.now c.self.view_is c.self.invariant in
    absurd (let k : occurs (children_at c.args.self.now p) c.args.old.index ≤ times_child c.args.self.now.slots c.args.old.index = children_times c.args.self.now p c.args.old.index in
    let z : times_child c.args.self.now.slots c.args.old.index ≡ 0 = ap (λ x. times_child c.args.self.now.slots x) (is_root g c) ∙ h.layout.root_top in omega arith)

pub returns-then-old-self-clause-root : goal.returns-then-old-self-clause-root
returns-then-old-self-clause-root g c = λ e. is_layout
    (record { nodes = c.self.inside.nodes; root = c.args.new.index; spare = c.self.inside.spare; count = c.self.inside.count; columns = c.self.inside.columns }) _ (rooted g c)

pub returns-then-old-self-clause-top : goal.returns-then-old-self-clause-top
returns-then-old-self-clause-top g c = λ alone. absurd (alone.other (is_root g c))

pub swap_nodes-requires : goal.swap_nodes-requires
swap_nodes-requires g c = can_swap _ _ _ _ _ _ c.args.self.now c.args.old.index c.args.new.index
    (opened c.self.inside c.args.self.now c.self.view_is c.self.invariant) c.requires.used c.requires.alone

pub invariant_of-self-2 : goal.invariant_of-self-2
invariant_of-self-2 g c =
    let r = replace_any _ _ _ _ _ _ c.args.self.now c.args.old.index c.args.new.index
    (opened c.self.inside c.args.self.now c.self.view_is c.self.invariant) c.requires.alone c.requires.apart in
    kept_by _ _ _ r.0 c.swap_nodes.ensures.links c.swap_nodes.ensures.heads r.1

pub returns-clause-child : goal.returns-clause-child
returns-clause-child g c = λ p o. layout_by
    (record { nodes = c.swap_nodes.new.nodes; root = c.self.inside.root; spare = c.self.inside.spare; count = c.self.inside.count; columns = c.self.inside.columns })
    _ _ _ c.swap_nodes.ensures.links c.swap_nodes.ensures.heads
    (replace_child _ _ _ _ _ _ c.args.self.now p c.args.old.index c.args.new.index
    (opened c.self.inside c.args.self.now c.self.view_is c.self.invariant) o c.requires.alone c.requires.apart)

pub returns-clause-root : goal.returns-clause-root
returns-clause-root g c = λ e. let h = opened c.self.inside c.args.self.now c.self.view_is c.self.invariant in
    absurd (c.if-old-self.false (e ∙ sym h.root_is))

pub returns-clause-top : goal.returns-clause-top
returns-clause-top g c = λ alone. layout_by
    (record { nodes = c.swap_nodes.new.nodes; root = c.self.inside.root; spare = c.self.inside.spare; count = c.self.inside.count; columns = c.self.inside.columns })
    _ _ _ c.swap_nodes.ensures.links c.swap_nodes.ensures.heads
    (replace_top _ _ _ _ _ _ c.args.self.now c.args.old.index c.args.new.index
    (opened c.self.inside c.args.self.now c.self.view_is c.self.invariant) alone.apart c.requires.alone)
