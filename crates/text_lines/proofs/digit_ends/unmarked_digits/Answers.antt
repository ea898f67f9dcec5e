use Rattle.std.proofs.Common.{◌+◌}
use Rattle.text_lines.proofs.digit_ends.unmarked_digits.Goals as goal

pub returns : goal.returns
returns c = record {
  range = c.digits_at.ensures.range;
  digits = c.digits_at.ensures.digits;
  value = c.digits_at.ensures.value;
  ends = c.none.ensures c.args.text.now (c.digits_at.result.end + 1);
}
