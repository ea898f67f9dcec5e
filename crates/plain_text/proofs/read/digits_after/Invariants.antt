use Rattle.std.proofs.Common.{◌≡◌, ◌≤◌, drop}
use Rattle.plain_text.specs.Numbers.{digits_on}
use Rattle.plain_text.proofs.read.digits_after.Given as goal

abbrev pub invariant-loop-i : goal.invariant-loop-i
invariant-loop-i l = record {
  value : digits_on l.limit l.n (drop l.i l.bytes) ≡ digits_on l.limit l.start l.bytes;
  within : l.n ≤ l.limit;
}
