use Rattle.std.proofs.Common.{◌≡◌, ◌∙◌, ◌++◌, ap, sym, subst}
use Rattle.pq_tree.specs.Outline.{leaves, IsFrontier}
use Rattle.pq_tree.specs.PqTree.{outline}
use Rattle.pq_tree.proofs.Frontiers.{leaves_are_frontier}
use Rattle.pq_tree.proofs.PqTree.frontier.Goals as goal

pub returns-clause-frontier : goal.returns-clause-frontier
returns-clause-frontier c =
    let t = outline c.args.self.now in
    let e : c.push_leaves.new.columns.items ≡ leaves t = c.in_ok-push_leaves.ensures ∙ ap (λ xs. xs ++ leaves t) c.in_ok-columns.ensures.items in
    subst (IsFrontier t) (sym e) (leaves_are_frontier t)
