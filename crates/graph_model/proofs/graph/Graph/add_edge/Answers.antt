use Rattle.std.proofs.Common.{◌≡◌, ◌∙◌, ◌==◌, ◌||◌, ◌&&◌, ap, sym, arith, false}
use Rattle.graph_model.specs.Graphs.{GraphValue, has_edge}
use Rattle.graph_model.proofs.GraphLemmas.{two_more, graph_added}
use Rattle.graph_model.proofs.graph.Graph.add_edge.Goals as goal

pub invariant_of-self : goal.invariant_of-self
invariant_of-self c =
    let old = c.self.inside.lists in
    let same : old.rows ≡ c.args.self.now.neighbours = ap (λ (g : GraphValue). g.neighbours) c.self.view_is in
    let count : old.columns ≡ c.args.self.now.vertices = ap (λ (g : GraphValue). g.vertices) c.self.view_is in
    let fresh : has_edge old.rows c.args.u c.args.v ≡ false = ap (λ lists. has_edge lists c.args.u c.args.v) same ∙ sym c.edge.ensures ∙ c.if-not-edge.true in
    graph_added old c.in_ok-one_way.one_way c.in_ok-self-inside.field-0 c.args.u c.args.v c.in_ok-one_way.ensures c.in_ok-self-inside.ensures c.self.invariant
    (omega arith) (omega arith) (omega arith) (omega arith) c.requires.distinct fresh

pub returns-in_ok-self-inside-clause-ok : goal.returns-in_ok-self-inside-clause-ok
returns-in_ok-self-inside-clause-ok c = λ a b some.
    let old = c.self.inside.lists in
    let same : old.rows ≡ c.args.self.now.neighbours = ap (λ (g : GraphValue). g.neighbours) c.self.view_is in
    let count : old.columns ≡ c.args.self.now.vertices = ap (λ (g : GraphValue). g.vertices) c.self.view_is in
    let fresh : has_edge old.rows c.args.u c.args.v ≡ false = ap (λ lists. has_edge lists c.args.u c.args.v) same ∙ sym c.edge.ensures ∙ c.if-not-edge.true in
    two_more old c.in_ok-one_way.one_way c.in_ok-self-inside.field-0 c.args.u c.args.v c.in_ok-one_way.ensures c.in_ok-self-inside.ensures c.self.invariant
    (omega arith) (omega arith) (omega arith) (omega arith) c.requires.distinct fresh a b some
    ∙ ap (λ lists. (has_edge lists a b || ((a == c.args.u) && (b == c.args.v))) || ((a == c.args.v) && (b == c.args.u))) same
