use Rattle.std.proofs.Common.{◌∙◌, ap, set, ◌≡◌, ◌<◌, ◌-◌, ◌∷◌, length, set, sym, ap, subst, ◌∙◌}
use Rattle.std.proofs.lemmas.List.{length-map}
use Rattle.pq_arena.specs.declared.node.Head.{Head}
use Rattle.arena_model.proofs.Bare.{taken_alone, fresh}
use Rattle.arena_model.specs.ChildLists.{all_but_first, head_or, none}
use Rattle.arena_model.specs.Layout.{taken, StandsAlone}
use Rattle.pq_arena.proofs.Closing.{opened, kept_by, layout_by}
use Rattle.pq_arena.proofs.Spare.{take_stands, first_spare}
use Rattle.pq_arena.specs.StandsFor.{StandsFor}
use Rattle.pq_arena.specs.Wiring.{links, heads, fresh_head}
use Rattle.pq_arena.proofs.arena.Arena.take.Goals as goal

spares : (g : _) (c : goal.After-head_at-arg-1 g) → c.args.self.now.spares ≡ c.self.inside.spare ∷ all_but_first c.args.self.now.spares
spares g c = first_spare _ _ _ _ _ _ c.args.self.now (opened c.self.inside c.args.self.now c.self.view_is c.self.invariant) c.requires.some

inside : (g : _) (c : goal.After-head_at-arg-1 g) → c.self.inside.spare < length c.self.inside.nodes.items
inside g c = let h = opened c.self.inside c.args.self.now c.self.view_is c.self.invariant in
    subst (λ m. c.self.inside.spare < m) (sym h.links_few ∙ length-map c.self.inside.nodes.items _)
    (fresh c.args.self.now c.self.inside.spare _ h.layout (spares g c)).1

pub head_at-next-requires : goal.head_at-next-requires
head_at-next-requires g c = inside g c

pub set_head-requires : goal.set_head-requires
set_head-requires g c = let h = opened c.self.inside c.args.self.now c.self.view_is c.self.invariant in
    let e = first_spare _ _ _ _ _ _ c.args.self.now h c.requires.some in
    subst (λ m. c.self.inside.spare < m) (sym h.links_few ∙ length-map c.self.inside.nodes.items _)
    (fresh c.args.self.now c.self.inside.spare _ h.layout e).1

stands : (g : _) (c : goal.After-self-2-1 g) →
    StandsFor (links c.self.inside.nodes.items) (set (heads c.self.inside.nodes.items) c.self.inside.spare (fresh_head c.args.shape))
    c.self.inside.root c.head_at-next.result.first (c.self.inside.count - 1) c.self.inside.columns (taken c.args.self.now c.self.inside.spare c.args.shape)
stands g c = let h = opened c.self.inside c.args.self.now c.self.view_is c.self.invariant in
    subst (λ (z : Head). StandsFor (links c.self.inside.nodes.items) (set (heads c.self.inside.nodes.items) c.self.inside.spare (fresh_head c.args.shape))
    c.self.inside.root z.first (c.self.inside.count - 1) c.self.inside.columns (taken c.args.self.now c.self.inside.spare c.args.shape))
    (sym c.head_at-next.ensures)
    (take_stands _ _ _ _ _ _ c.args.self.now c.self.inside.spare _ c.args.shape h (first_spare _ _ _ _ _ _ c.args.self.now h c.requires.some) c.requires.inner)

pub invariant_of-self : goal.invariant_of-self
invariant_of-self g c = kept_by _ _ _ _ c.set_head.ensures.links (c.set_head.ensures.heads ∙ ap (λ z. set (heads c.self.inside.nodes.items) c.self.inside.spare (let h : Head = record { kind = z; first = none; last = none; count = 0 } in h)) c.kind_of_shape.ensures) (stands g c)

pub returns-clause-taken : goal.returns-clause-taken
returns-clause-taken g c = layout_by
    (record { nodes = c.set_head.new.nodes; root = c.self.inside.root; spare = c.head_at-next.result.first; count = c.self.inside.count - 1; columns = c.self.inside.columns })
    _ _ _ c.set_head.ensures.links (c.set_head.ensures.heads ∙ ap (λ z. set (heads c.self.inside.nodes.items) c.self.inside.spare (let h : Head = record { kind = z; first = none; last = none; count = 0 } in h)) c.kind_of_shape.ensures) (stands g c)

pub returns-clause-first : goal.returns-clause-first
returns-clause-first g c = let h = opened c.self.inside c.args.self.now c.self.view_is c.self.invariant in
    sym (ap (λ z. head_or z none) (first_spare _ _ _ _ _ _ c.args.self.now h c.requires.some))

pub returns-clause-alone : goal.returns-clause-alone
returns-clause-alone g c = let h = opened c.self.inside c.args.self.now c.self.view_is c.self.invariant in
    subst (λ f. StandsAlone f c.self.inside.spare) (sym (layout_by
    (record { nodes = c.set_head.new.nodes; root = c.self.inside.root; spare = c.head_at-next.result.first; count = c.self.inside.count - 1; columns = c.self.inside.columns })
    _ _ _ c.set_head.ensures.links (c.set_head.ensures.heads ∙ ap (λ z. set (heads c.self.inside.nodes.items) c.self.inside.spare (let h : Head = record { kind = z; first = none; last = none; count = 0 } in h)) c.kind_of_shape.ensures) (stands g c)))
    (taken_alone c.args.self.now c.self.inside.spare _ c.args.shape h.layout (first_spare _ _ _ _ _ _ c.args.self.now h c.requires.some))
