use Rattle.text_lines.proofs.LineLemmas.{no_lines}
use Rattle.text_lines.proofs.lines.next_line.Goals as goal

pub returns-then-at-bytes-clause-nothing : goal.returns-then-at-bytes-clause-nothing
returns-then-at-bytes-clause-nothing c = no_lines c.args.bytes.now c.args.at c.if-at-bytes.true
