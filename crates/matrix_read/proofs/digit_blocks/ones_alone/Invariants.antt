use Rattle.std.proofs.Common.{◌≡◌, ◌≤◌, ◌+◌, ◌-◌, ◌++◌, drop, take, length}
use Rattle.std.specs.List.{list_all}
use Rattle.matrix_read.specs.Dense.{is_digit}
use Rattle.matrix_read.proofs.DenseLemmas.{ones_from}
use Rattle.matrix_read.proofs.digit_blocks.ones_alone.Given as goal

abbrev pub invariant-loop-at : goal.invariant-loop-at
invariant-loop-at l = record {
  within : l.at ≤ length l.line;
  few : l.ones ≤ l.at;
  digits : list_all is_digit (drop l.at l.line) ≡ list_all is_digit l.line;
  so_far : take l.ones l.columns ++ ones_from (l.at + 1) (drop l.at l.line) ≡ ones_from 1 l.line;
}

abbrev pub decreases-loop-at : goal.decreases-loop-at
decreases-loop-at l = length l.line - l.at

abbrev pub invariant-loop-j : goal.invariant-loop-j
invariant-loop-j l = record {
  few : l.ones ≤ l.j;
  digits : list_all is_digit (drop l.j l.line) ≡ list_all is_digit l.line;
  so_far : take l.ones l.columns ++ ones_from (l.j + 1) (drop l.j l.line) ≡ ones_from 1 l.line;
}
