use Rattle.std.proofs.Common.{◌∙◌, ◌++◌, ap}
use Rattle.solve_replies.specs.Lists.{list_text}
use Rattle.solve_replies.proofs.list_text.printed_list.Goals as goal

pub returns : goal.returns
returns c =
    let found = c.args.found.now in
    c.in_ok-print_list.ensures ∙ ap (λ t. t ++ list_text c.args.kind c.args.columns found.orders found.more) c.in_ok-text.ensures.items
