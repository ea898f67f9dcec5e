use Rattle.std.proofs.Common.{◌≡◌, ◌∙◌, sym, subst}
use Rattle.row_model.specs.Graph.{Evenly}
use Rattle.pq_tree.specs.Outline.{leaves}
use Rattle.pq_tree.specs.PqTree.{outline}
use Rattle.verdict_check.specs.Complete.{IsComplete}
use Rattle.verdict_check.proofs.every_order.complete.Goals as goal

pub returns : goal.returns
returns c = λ k rows tells.
    let told = c.is_complete_at.ensures k rows tells in
    let line : c.deref.result.now ≡ leaves (outline c.args.tree.now) = c.deref.ensures.value ∙ c.in_ok-line.ensures.leaves in
    let R = Evenly k rows in (
      λ x. subst (λ l. IsComplete R l (outline c.args.tree.now)) line (subst (IsComplete R c.deref.result.now) c.root.ensures (told.0 x)),
      λ h. told.1 (subst (IsComplete R c.deref.result.now) (sym c.root.ensures) (subst (λ l. IsComplete R l (outline c.args.tree.now)) (sym line) h)),
    )
