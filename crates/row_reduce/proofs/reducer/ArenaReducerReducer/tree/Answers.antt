use Rattle.std.proofs.Common.{◌≡◌, subst, IfOk}
use Rattle.std.proofs.lemmas.Result.{IfOk-weaker}
use Rattle.pq_tree.specs.Equivalent.{IsEquivalent}
use Rattle.pq_tree.specs.PqTree.{outline}
use Rattle.arena_model.specs.Layout.{Layout}
use Rattle.arena_model.specs.NamedTree.{outline_at}
use Rattle.row_reduce.proofs.reducer.ArenaReducerReducer.tree.Goals as goal

pub returns-clause-tied : goal.returns-clause-tied
returns-clause-tied c =
    let e : c.self.inside.arena ≡ c.args.self.now = cc in
    IfOk-weaker c.to_tree.result _ _
    (λ t h rows k. (c.equivalent_law.ensures.tied c.args.self.now.columns rows (outline_at c.args.self.now) (outline t) h).1.0 k)
    (subst (λ (z : Layout). IfOk c.to_tree.result (λ t. IsEquivalent (outline_at z) (outline t))) e c.to_tree.ensures.equivalent)
