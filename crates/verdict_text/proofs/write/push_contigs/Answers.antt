use Rattle.std.proofs.Common.{◌≡◌, ◌∷◌, ◌++◌, length, codes, subst}
use Rattle.std.specs.Prelude.{OnOk}
use Rattle.std.specs.Fmt.{decimal}
use Rattle.text_parts.proofs.NumberedLaws.{numbered-flat_map}
use Rattle.verdict_text.specs.Text.{contig_line}
use Rattle.verdict_text.proofs.write.push_contigs.Goals as goal

pub returns-clause-ok : goal.returns-clause-ok
returns-clause-ok c =
    subst (λ lines. OnOk c.print_counted.result (c.print_counted.new.text.items ≡ c.args.text.now.items ++ (codes "contigs " ++ (decimal (length c.args.contigs.now) ++ (10 ∷ lines)))))
    (numbered-flat_map contig_line 1 c.args.contigs.now) c.print_counted.ensures.ok
