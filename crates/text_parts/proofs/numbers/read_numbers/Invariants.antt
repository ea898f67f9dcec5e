use Rattle.std.proofs.Common.{◌≡◌, length}
use Rattle.text_parts.specs.Reading.{numbers_at}
use Rattle.text_parts.proofs.LoopLaws.{before_items}
use Rattle.text_parts.proofs.numbers.read_numbers.Given as goal

abbrev pub invariant-numbers : goal.invariant-numbers
invariant-numbers l = before_items l.numbers.items (numbers_at (length l.rest) l.rest) ≡ numbers_at (length l.bytes) l.bytes

abbrev pub decreases-numbers : goal.decreases-numbers
decreases-numbers l = length l.rest
