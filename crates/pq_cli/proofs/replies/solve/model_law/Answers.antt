use Rattle.pq_cli.proofs.Statuses as laws
use Rattle.pq_cli.proofs.replies.solve.model_law.Goals as goal

pub returns : goal.returns
returns c =
    let read = c.instance_law.ensures in
    let added = c.passed_law.ensures.added in
    record { no = laws.no_model_law c.shown_law.ensures read c.textbook_law.ensures.exists c.model_law.ensures.orders added; model = laws.model_law read (laws.in_grammar_law read c.grammar_law.ensures.grammar) added }
