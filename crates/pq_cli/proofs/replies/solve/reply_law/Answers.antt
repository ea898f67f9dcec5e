use Rattle.pq_cli.proofs.Statuses as laws
use Rattle.pq_cli.proofs.replies.solve.reply_law.Goals as goal

pub returns : goal.returns
returns c =
    let read = c.instance_law.ensures in
    let textbook = c.textbook_law.ensures in
    let shown = c.shown_law.ensures in
    let grammar = laws.in_grammar_law read c.grammar_law.ensures.grammar in
    record {
      no = laws.no_law shown read textbook.exists;
      yes = laws.yes_law shown read textbook.exists;
      orders = laws.orders_law shown read grammar textbook.derived textbook.valid;
      cycle = laws.cycle_law grammar c.last_row_laws.ensures.first;
      grammar = grammar;
    }
