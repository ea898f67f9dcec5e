use Rattle.std.proofs.Common.{◌∙◌, ◌++◌, ap, codes}
use Rattle.std.proofs.lemmas.Result.{on_ok_weaker}
use Rattle.solve_replies.specs.Lists.{more_line}
use Rattle.solve_replies.proofs.Lists.{list_told}
use Rattle.solve_replies.proofs.list_text.print_list.Goals as goal

pub returns : goal.returns
returns c =
    on_ok_weaker c.print_end.result
    (λ e. list_told c.args.kind c.args.columns c.args.found.now.orders c.args.found.now.more c.args.text.now.items c.push.new.text.items c.print_subject.new.text.items c.print_orders.new.text.items c.print_end.new.text.items
    c.in_ok-push.ensures.ok c.in_ok-print_subject.ensures.ok c.in_ok-print_orders.ensures (e ∙ ap (λ m. c.print_orders.new.text.items ++ (more_line m ++ codes "end\n")) c.more.ensures))
    c.print_end.ensures
