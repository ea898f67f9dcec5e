use Rattle.std.proofs.Common.{◌≡◌, ◌+◌, ◌-◌, ◌≤◌, sym, ap, subst, ◌∙◌, refl, arith}
use Rattle.arena_model.specs.Layout.{Layout}
use Rattle.arena_model.specs.NamedTree.{outline_at, IsOneTree}
use Rattle.pq_arena.specs.Start.{size, bare_layout}
use Rattle.pq_arena.specs.StandsFor.{StandsFor}
use Rattle.pq_arena.specs.Wiring.{links, heads}
use Rattle.pq_arena.proofs.Attach.{enter_bounds}
use Rattle.pq_arena.proofs.Closing.{is_layout, is_kept}
use Rattle.pq_arena.proofs.Starting.{alone, under, bare_stands_for, one_outline, one_tree, grown_layout, grown_none, grown_p, next_alone, grown_stands, grown_outline, grown_tree}
use Rattle.pq_arena.proofs.arena.Arena.new.Goals as goal

-- one column: the nodes stand for the leaf alone
one_stands : (c : goal.In_ok-bare_nodes) →
    StandsFor (links c.in_ok-bare_nodes.field-0.items) (heads c.in_ok-bare_nodes.field-0.items) 0 1 5 c.args.c (bare_layout c.args.c 1)
one_stands c =
    let e : c.args.c ≡ 1 = c.if-c-eq1.true in
    let five : size c.args.c - 1 ≡ 5 = omega arith in
    subst (λ k. StandsFor (links c.in_ok-bare_nodes.field-0.items) (heads c.in_ok-bare_nodes.field-0.items) 0 1 k c.args.c (bare_layout c.args.c 1)) five
    (bare_stands_for c.args.c 1 (alone e) c.requires.from c.requires.to _ _ c.in_ok-bare_nodes.ensures.links c.in_ok-bare_nodes.ensures.heads)

pub invariant_of-result : goal.invariant_of-result
invariant_of-result c = is_kept (record { nodes = c.in_ok-bare_nodes.field-0; root = 0; spare = 1; count = 5; columns = c.args.c }) _ (one_stands c)

pub returns-then-c-eq1-clause-columns : goal.returns-then-c-eq1-clause-columns
returns-then-c-eq1-clause-columns c = ap (λ (f : Layout). f.columns) (is_layout (record { nodes = c.in_ok-bare_nodes.field-0; root = 0; spare = 1; count = 5; columns = c.args.c }) _ (one_stands c))

pub returns-then-c-eq1-clause-tree : goal.returns-then-c-eq1-clause-tree
returns-then-c-eq1-clause-tree c = ap outline_at (is_layout (record { nodes = c.in_ok-bare_nodes.field-0; root = 0; spare = 1; count = 5; columns = c.args.c }) _ (one_stands c)) ∙ one_outline c.args.c c.if-c-eq1.true

pub returns-then-c-eq1-clause-one : goal.returns-then-c-eq1-clause-one
returns-then-c-eq1-clause-one c = subst IsOneTree (sym (is_layout (record { nodes = c.in_ok-bare_nodes.field-0; root = 0; spare = 1; count = 5; columns = c.args.c }) _ (one_stands c))) (one_tree c.args.c c.if-c-eq1.true)

pub loop-i-init : goal.loop-i-init
loop-i-init c =
    let two : 2 ≤ c.args.c = omega arith in
    subst (λ f. StandsFor (links c.in_ok-nodes.nodes.items) (heads c.in_ok-nodes.nodes.items) c.args.c (c.args.c + 1) (size c.args.c - (c.args.c + 1)) c.args.c f)
    (sym (grown_none c.args.c two c.requires.to))
    (subst (λ r. StandsFor (links c.in_ok-nodes.nodes.items) (heads c.in_ok-nodes.nodes.items) r (c.args.c + 1) (size c.args.c - (c.args.c + 1)) c.args.c (bare_layout c.args.c (c.args.c + 1)))
    (let k : c.args.c + 1 - 1 ≡ c.args.c = omega arith in k)
    (bare_stands_for c.args.c (c.args.c + 1) (under two) c.requires.from c.requires.to _ _ c.in_ok-nodes.ensures.links c.in_ok-nodes.ensures.heads))

pub enter_ring-requires : goal.enter_ring-requires
enter_ring-requires c =
    let two : 2 ≤ c.args.c = omega arith in
    enter_bounds _ _ _ _ _ _ (grown_layout c.args.c c.loop-i.i) c.args.c (c.args.c - 1 - c.loop-i.i) c.loop-i.invariant
    (grown_p c.args.c two c.requires.to c.loop-i.i) (next_alone c.args.c two c.requires.to c.loop-i.i (c.args.c - 1 - c.loop-i.i) c.loop-i-test.true refl)

pub loop-i-preserved : goal.loop-i-preserved
loop-i-preserved c =
    let two : 2 ≤ c.args.c = omega arith in
    rw (c.enter_ring.ensures.links, c.enter_ring.ensures.heads)
    (grown_stands c.args.c two c.requires.to _ _ c.loop-i.i (c.args.c - 1 - c.loop-i.i) c.loop-i-test.true refl c.loop-i.invariant)

-- more columns: the nodes stand for a P-node over the leaves
many_stands : (c : goal.After-loop-i) →
    StandsFor (links c.loop-i.nodes.items) (heads c.loop-i.nodes.items) c.args.c (c.args.c + 1) (c.args.c + 3) c.args.c (grown_layout c.args.c c.args.c)
many_stands c =
    let i_is : c.loop-i.i ≡ c.args.c = omega arith in
    let k : size c.args.c - (c.args.c + 1) ≡ c.args.c + 3 = omega arith in
    subst (λ z. StandsFor (links c.loop-i.nodes.items) (heads c.loop-i.nodes.items) c.args.c (c.args.c + 1) z c.args.c (grown_layout c.args.c c.args.c)) k
    (subst (λ i. StandsFor (links c.loop-i.nodes.items) (heads c.loop-i.nodes.items) c.args.c (c.args.c + 1) (size c.args.c - (c.args.c + 1)) c.args.c (grown_layout c.args.c i)) i_is c.loop-i.invariant)

pub invariant_of-result-2 : goal.invariant_of-result-2
invariant_of-result-2 c = is_kept (record { nodes = c.loop-i.nodes; root = c.args.c; spare = c.args.c + 1; count = c.args.c + 3; columns = c.args.c }) _ (many_stands c)

pub returns-clause-columns : goal.returns-clause-columns
returns-clause-columns c = ap (λ (f : Layout). f.columns) (is_layout (record { nodes = c.loop-i.nodes; root = c.args.c; spare = c.args.c + 1; count = c.args.c + 3; columns = c.args.c }) _ (many_stands c))

pub returns-clause-tree : goal.returns-clause-tree
returns-clause-tree c =
    let two : 2 ≤ c.args.c = omega arith in
    let h = many_stands c in
    ap outline_at (is_layout (record { nodes = c.loop-i.nodes; root = c.args.c; spare = c.args.c + 1; count = c.args.c + 3; columns = c.args.c }) _ h) ∙ grown_outline c.args.c two c.requires.to h.layout

pub returns-clause-one : goal.returns-clause-one
returns-clause-one c =
    let two : 2 ≤ c.args.c = omega arith in
    let h = many_stands c in
    subst IsOneTree (sym (is_layout (record { nodes = c.loop-i.nodes; root = c.args.c; spare = c.args.c + 1; count = c.args.c + 3; columns = c.args.c }) _ h)) (grown_tree c.args.c two c.requires.to h.layout)
