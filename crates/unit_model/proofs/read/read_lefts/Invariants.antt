use Rattle.std.proofs.Common.{◌≡◌, ◌-◌, ◌+◌, length}
use Rattle.unit_model.specs.Reading.{lefts_at}
use Rattle.unit_model.proofs.TextLaws.{before_lefts}
use Rattle.unit_model.proofs.read.read_lefts.Given as goal

abbrev pub invariant-lines : goal.invariant-lines
invariant-lines l = record {
  read : before_lefts l.lefts.items (lefts_at (l.i + 1) (l.count - l.i) l.rest) ≡ lefts_at 1 l.count l.bytes;
  many : length l.lefts.items ≡ l.i;
}
