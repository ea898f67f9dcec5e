use Rattle.std.proofs.Common.{◌≡◌, ◌∷◌, ◌++◌, length, codes, subst}
use Rattle.std.specs.Prelude.{OnOk}
use Rattle.std.specs.Fmt.{decimal}
use Rattle.text_parts.specs.Text.{cycle_line}
use Rattle.text_parts.proofs.NumberedLaws.{numbered-flat_map}
use Rattle.text_parts.proofs.cycle.print_cycle.Goals as goal

pub returns-clause-ok : goal.returns-clause-ok
returns-clause-ok c =
    subst (λ lines. OnOk c.print_counted.result (c.print_counted.new.text.items ≡ c.args.text.now.items ++ (codes "cycle " ++ (decimal (length c.args.lines.now) ++ (10 ∷ lines)))))
    (numbered-flat_map cycle_line 1 c.args.lines.now) c.print_counted.ensures.ok
