use Rattle.std.proofs.lemmas.Result.{IfOk-weaker}
use Rattle.tree_theory.proofs.Turn.{turned_tied}
use Rattle.pq_plain.specs.Plain.{plain_columns, plain_outline}
use Rattle.pq_plain.proofs.plain.PlainReducerReducer.tree.Goals as goal

pub returns-clause-tied : goal.returns-clause-tied
returns-clause-tied c =
    IfOk-weaker c.canonical_of.result _ _
    (λ t h rows k. turned_tied (plain_columns c.args.self.now) rows (plain_outline c.args.self.now) _ h k)
    c.canonical_of.ensures.equivalent
