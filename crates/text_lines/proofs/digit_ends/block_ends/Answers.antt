use Rattle.text_lines.proofs.EndLemmas.{block_ends}
use Rattle.text_lines.proofs.digit_ends.block_ends.Goals as goal

pub returns : goal.returns
returns c = block_ends c.args.text.now c.args.at c.requires (λ k. (c.type_inv.text k).fits) c.other_marks.result c.other_marks.ensures
