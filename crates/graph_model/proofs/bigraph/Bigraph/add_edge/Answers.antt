use Rattle.std.proofs.Common.{◌≡◌, ◌∙◌, ◌==◌, ◌||◌, ◌&&◌, ap, sym, arith, false, length}
use Rattle.std.proofs.lemmas.Grind.{common_steps}
use Rattle.graph_model.specs.Graphs.{BigraphValue, has_edge}
use Rattle.graph_model.proofs.GraphLemmas.{one_more}
use Rattle.graph_model.proofs.bigraph.Bigraph.add_edge.Goals as goal

pub returns-in_ok-self-inside-clause-ok : goal.returns-in_ok-self-inside-clause-ok
returns-in_ok-self-inside-clause-ok c = λ a b some.
    let old = c.self.inside.lists in
    let same : old.rows ≡ c.args.self.now.neighbours = ap (λ (g : BigraphValue). g.neighbours) c.self.view_is in
    let left : length old.rows ≡ c.args.self.now.left = ap (λ (g : BigraphValue). g.left) c.self.view_is in
    let right : old.columns ≡ c.args.self.now.right = ap (λ (g : BigraphValue). g.right) c.self.view_is in
    let fresh : has_edge old.rows c.args.x c.args.y ≡ false = ap (λ lists. has_edge lists c.args.x c.args.y) same ∙ sym c.edge.ensures ∙ c.if-not-edge.true in
    one_more old c.in_ok-self-inside.field-0 c.args.x c.args.y c.in_ok-self-inside.ensures (omega arith) (omega arith) (omega arith) (omega arith) fresh a b some
    ∙ ap (λ lists. has_edge lists a b || ((a == c.args.x) && (b == c.args.y))) same

pub invariant_of-self : goal.invariant_of-self
invariant_of-self c = grind (arith, common_steps)
