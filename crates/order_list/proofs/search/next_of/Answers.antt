use Rattle.std.proofs.Common.{◌∙◌, length, sym, ap, arith}
use Rattle.order_list.specs.Coming.{outlines}
use Rattle.order_list.specs.Low.{first_column}
use Rattle.order_list.proofs.Begins.{lent_at}
use Rattle.order_list.proofs.Children.{outlines_length}
use Rattle.order_list.proofs.LeastFirst.{next_low}
use Rattle.order_list.proofs.search.next_of.Goals as goal

pub returns-then-from : goal.returns-then-from
returns-then-from c =
    let ts = outlines c.args.trees.now in
    next_low ts (length c.args.trees.now) c.args.from c.first_column-column.result (sym (outlines_length c.args.trees.now)) c.requires.some c.requires.arities c.requires.low
    (c.first_column-column.ensures ∙ ap first_column (sym (lent_at c.args.trees.now 0 c.index-trees-0.result c.requires.some c.index-trees-0.is)))
    (omega (arith, c.from.ensures, c.if-from.true))
