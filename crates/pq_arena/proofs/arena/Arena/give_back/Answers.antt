use Rattle.std.proofs.Common.{◌∙◌, ap, set, ◌<◌, ◌≤◌, ◌+◌, set, sym, subst, ◌∙◌, arith}
use Rattle.arena_model.specs.declared.TheConstants.{NODE_BOUND}
use Rattle.std.proofs.lemmas.List.{length-map}
use Rattle.arena_model.proofs.Slots.{in_range}
use Rattle.arena_model.specs.Layout.{given_back}
use Rattle.pq_arena.proofs.Closing.{opened, kept_by, layout_by}
use Rattle.pq_arena.proofs.Spare.{give_stands, few_spares}
use Rattle.pq_arena.specs.StandsFor.{StandsFor}
use Rattle.pq_arena.specs.Wiring.{links, heads, spare_head}
use Rattle.pq_arena.proofs.arena.Arena.give_back.Goals as goal

pub overflow_add-self : goal.overflow_add-self
overflow_add-self g c = let h = opened c.self.inside c.args.self.now c.self.view_is c.self.invariant in
    let k : c.self.inside.count ≤ NODE_BOUND = few_spares _ _ _ _ _ _ c.args.self.now h in omega arith

pub set_head-requires : goal.set_head-requires
set_head-requires g c = let h = opened c.self.inside c.args.self.now c.self.view_is c.self.invariant in
    subst (λ m. c.args.n.index < m) (sym h.links_few ∙ length-map c.self.inside.nodes.items _) (in_range c.args.self.now c.args.n.index c.requires.alone.used)

stands : (g : _) (c : goal.After-self-2-1 g) →
    StandsFor (links c.self.inside.nodes.items) (set (heads c.self.inside.nodes.items) c.args.n.index (spare_head c.self.inside.spare))
    c.self.inside.root c.args.n.index (c.self.inside.count + 1) c.self.inside.columns (given_back c.args.self.now c.args.n.index)
stands g c = give_stands _ _ _ _ _ _ c.args.self.now c.args.n.index (opened c.self.inside c.args.self.now c.self.view_is c.self.invariant)
    c.requires.alone c.requires.empty c.requires.inner

pub invariant_of-self : goal.invariant_of-self
invariant_of-self g c = kept_by _ _ _ _ c.set_head.ensures.links (c.set_head.ensures.heads ∙ ap (λ z. set (heads c.self.inside.nodes.items) c.args.n.index z) c.spare_before.ensures) (stands g c)

pub returns-clause-changed : goal.returns-clause-changed
returns-clause-changed g c = layout_by
    (record { nodes = c.set_head.new.nodes; root = c.self.inside.root; spare = c.args.n.index; count = c.self.inside.count + 1; columns = c.self.inside.columns })
    _ _ _ c.set_head.ensures.links (c.set_head.ensures.heads ∙ ap (λ z. set (heads c.self.inside.nodes.items) c.args.n.index z) c.spare_before.ensures) (stands g c)
