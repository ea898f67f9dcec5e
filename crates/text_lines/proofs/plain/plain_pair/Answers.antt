use Rattle.std.proofs.Common.{arith, rules}
use Rattle.text_lines.proofs.PlainLemmas.{pair_line}
use Rattle.text_lines.proofs.plain.plain_pair.Goals as goal

pub returns : goal.returns
returns c =
    let first = c.digits_by_word-first in
    let second = c.digits_by_word-second in
    let found =
    pair_line c.args.text.now c.args.at first.result.end second.result.end (omega arith) (omega arith) (omega arith)
    first.ensures.digits second.ensures.digits c.if-text-first-ne32.false c.if-text-second-ne10.false
    first.result.value second.result.value first.ensures.value second.ensures.value (omega arith) (omega arith) in
    record { range = search rules; lines = found.lines; filled = found.filled; numbers = found.numbers }
