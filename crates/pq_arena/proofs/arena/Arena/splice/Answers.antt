use Rattle.std.proofs.Common.{◌≡◌, ℕ, ◌<◌, ◌≤◌, ◌+◌, ◌++◌, ◌∷◌, [], ◌⊎◌, inl, inr, Option, reverse, List, length, set, sym, ap, subst, ◌∙◌, arith}
use Rattle.std.proofs.lemmas.Grind.{common_steps}
use Rattle.arena_model.specs.declared.TheConstants.{NODE_BOUND}
use Rattle.std.proofs.lemmas.List.{length-map}
use Rattle.pq_arena.specs.declared.node.NodeId.{NodeId}
use Rattle.arena_model.specs.ChildLists.{oriented, head_or, last_or, none}
use Rattle.arena_model.specs.Layout.{children_at, spliced, IsSpliceAt}
use Rattle.pq_arena.proofs.Closing.{opened, kept_by, layout_by}
use Rattle.pq_arena.proofs.Spare.{few_spares}
use Rattle.pq_arena.proofs.SpliceAt.{splice_call, splice_call_back, splice_bounds, spliced_len, number_named}
use Rattle.pq_arena.specs.Looks.{IsBeside, node_named, index_or_none}
use Rattle.pq_arena.specs.StandsFor.{StandsFor}
use Rattle.pq_arena.specs.Wiring.{links, heads, spliced_links, spliced_heads, spare_head}
use Rattle.pq_arena.proofs.arena.Arena.splice.Goals as goal

-- the number of the neighbour that is named
near_is : (near : Option NodeId) (n : ℕ) (us vs : List ℕ) → n ≡ index_or_none near → IsBeside near us vs → (n ≡ last_or us none) ⊎ (n ≡ head_or vs none)
near_is near n us vs e (inl h) = inl (e ∙ ap index_or_none h ∙ number_named (last_or us none))
near_is near n us vs e (inr h) = inr (e ∙ ap index_or_none h ∙ number_named (head_or vs none))

pub splice_between-requires : goal.splice_between-requires
splice_between-requires g c =
    let r = c.requires.place in
    rw (c.fore_of-e.ensures, c.aft_of-g.ensures, c.other_side-far.ensures, c.link_at-link.ensures, c.head_at-head.ensures)
    (splice_bounds _ _ _ _ _ _ c.args.self.now r.0 c.args.child.index c.args.first c.number-n.result r.1 r.2
    (opened c.self.inside c.args.self.now c.self.view_is c.self.invariant) r.3 (near_is c.args.near c.number-n.result r.1 r.2 c.number-n.ensures r.4))

stands : (g : _) (c : goal.After-self-2-1 g) (q : ℕ) (us vs : List ℕ) → IsSpliceAt c.args.self.now q c.args.child.index us vs → c.args.near ≡ node_named (last_or us none) →
    StandsFor (spliced_links (links c.self.inside.nodes.items) c.args.child.index c.number-n.result c.other_side-far.result c.fore_of-e.result c.aft_of-g.result c.link_at-link.result.parent)
    (set (spliced_heads (heads c.self.inside.nodes.items) c.link_at-link.result.parent c.args.child.index c.number-n.result c.fore_of-e.result c.aft_of-g.result)
    c.args.child.index (spare_head c.self.inside.spare))
    c.self.inside.root c.args.child.index (c.self.inside.count + 1) c.self.inside.columns
    (spliced c.args.self.now q c.args.child.index (us ++ (oriented c.args.first (children_at c.args.self.now c.args.child.index) ++ vs)))
stands g c q us vs from near =
    let en : c.number-n.result ≡ last_or us none = c.number-n.ensures ∙ ap index_or_none near ∙ number_named (last_or us none) in
    rw (c.fore_of-e.ensures, c.aft_of-g.ensures, c.other_side-far.ensures, en, c.link_at-link.ensures, c.head_at-head.ensures)
    (splice_call _ _ _ _ _ _ c.args.self.now q c.args.child.index c.args.first us vs
    (opened c.self.inside c.args.self.now c.self.view_is c.self.invariant) from)

stands_back : (g : _) (c : goal.After-self-2-1 g) (q : ℕ) (us vs : List ℕ) → IsSpliceAt c.args.self.now q c.args.child.index us vs → c.args.near ≡ node_named (head_or vs none) →
    1 ≤ length us + length vs →
    StandsFor (spliced_links (links c.self.inside.nodes.items) c.args.child.index c.number-n.result c.other_side-far.result c.fore_of-e.result c.aft_of-g.result c.link_at-link.result.parent)
    (set (spliced_heads (heads c.self.inside.nodes.items) c.link_at-link.result.parent c.args.child.index c.number-n.result c.fore_of-e.result c.aft_of-g.result)
    c.args.child.index (spare_head c.self.inside.spare))
    c.self.inside.root c.args.child.index (c.self.inside.count + 1) c.self.inside.columns
    (spliced c.args.self.now q c.args.child.index (us ++ (reverse (oriented c.args.first (children_at c.args.self.now c.args.child.index)) ++ vs)))
stands_back g c q us vs from near some =
    let en : c.number-n.result ≡ head_or vs none = c.number-n.ensures ∙ ap index_or_none near ∙ number_named (head_or vs none) in
    rw (c.fore_of-e.ensures, c.aft_of-g.ensures, c.other_side-far.ensures, en, c.link_at-link.ensures, c.head_at-head.ensures)
    (splice_call_back _ _ _ _ _ _ c.args.self.now q c.args.child.index c.args.first us vs
    (opened c.self.inside c.args.self.now c.self.view_is c.self.invariant) from some)

pub set_head-requires : goal.set_head-requires
set_head-requires g c =
    let r = c.requires.place in
    let h = opened c.self.inside c.args.self.now c.self.view_is c.self.invariant in
    let b = splice_bounds _ _ _ _ _ _ c.args.self.now r.0 c.args.child.index c.args.first c.number-n.result r.1 r.2 h r.3 (near_is c.args.near c.number-n.result r.1 r.2 c.number-n.ensures r.4) in
    let n : length (links c.splice_between.new.nodes.items) ≡ length (links c.self.inside.nodes.items) =
    ap length c.splice_between.ensures.links ∙ spliced_len (links c.self.inside.nodes.items) c.args.child.index c.number-n.result c.other_side-far.result c.fore_of-e.result c.aft_of-g.result c.link_at-link.result.parent in
    subst (λ m. c.args.child.index < m) (sym n ∙ length-map c.splice_between.new.nodes.items _) b.child_in

pub overflow_add-self : goal.overflow_add-self
overflow_add-self g c = let h = opened c.self.inside c.args.self.now c.self.view_is c.self.invariant in
    let k : c.self.inside.count ≤ NODE_BOUND = few_spares _ _ _ _ _ _ c.args.self.now h in omega arith

links_after : (g : _) (c : goal.After-self-2-1 g) → links c.set_head.new.nodes.items ≡
    spliced_links (links c.self.inside.nodes.items) c.args.child.index c.number-n.result c.other_side-far.result c.fore_of-e.result c.aft_of-g.result c.link_at-link.result.parent
links_after g c = c.set_head.ensures.links ∙ c.splice_between.ensures.links

heads_after : (g : _) (c : goal.After-self-2-1 g) → heads c.set_head.new.nodes.items ≡
    set (spliced_heads (heads c.self.inside.nodes.items) c.link_at-link.result.parent c.args.child.index c.number-n.result c.fore_of-e.result c.aft_of-g.result)
    c.args.child.index (spare_head c.self.inside.spare)
heads_after g c = c.set_head.ensures.heads
    ∙ ap (λ z. set z c.args.child.index c.spare_before.result) c.splice_between.ensures.heads
    ∙ ap (λ z. set (spliced_heads (heads c.self.inside.nodes.items) c.link_at-link.result.parent c.args.child.index c.number-n.result c.fore_of-e.result c.aft_of-g.result)
    c.args.child.index z) c.spare_before.ensures

-- a neighbour that is named stands before child, or behind it and child has a sibling
before_or_behind : (near : Option NodeId) (us vs : List ℕ) → IsBeside near us vs →
    (near ≡ node_named (last_or us none)) ⊎ ((near ≡ node_named (head_or vs none)) × (1 ≤ length us + length vs))
before_or_behind near us vs (inl h) = inl h
before_or_behind near [] [] (inr h) = inl h
before_or_behind near [] (v ∷ vs) (inr h) = inr (h, omega arith)
before_or_behind near (u ∷ us) vs (inr h) = inr (h, omega arith)

pub invariant_of-self : goal.invariant_of-self
invariant_of-self g c = let r = c.requires.place in elim (before_or_behind c.args.near r.1 r.2 r.4) [
  | inl h ↦ kept_by _ _ _ _ (links_after g c) (heads_after g c) (stands g c r.0 r.1 r.2 r.3 h)
  | inr h ↦ kept_by _ _ _ _ (links_after g c) (heads_after g c) (stands_back g c r.0 r.1 r.2 r.3 h.0 h.1)
]

pub returns-clause-before : goal.returns-clause-before
returns-clause-before g c = λ q us vs from near. layout_by
    (record { nodes = c.set_head.new.nodes; root = c.self.inside.root; spare = c.args.child.index; count = c.self.inside.count + 1; columns = c.self.inside.columns })
    _ _ _ (links_after g c) (heads_after g c) (stands g c q us vs from near)

pub returns-clause-behind : goal.returns-clause-behind
returns-clause-behind g c = λ q us vs from near some. layout_by
    (record { nodes = c.set_head.new.nodes; root = c.self.inside.root; spare = c.args.child.index; count = c.self.inside.count + 1; columns = c.self.inside.columns })
    _ _ _ (links_after g c) (heads_after g c) (stands_back g c q us vs from near some)

pub link_at-link-requires : goal.link_at-link-requires
link_at-link-requires g c = grind (arith, common_steps)

pub head_at-head-requires : goal.head_at-head-requires
head_at-head-requires g c = grind (arith, common_steps)
