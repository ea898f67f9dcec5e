use Rattle.std.proofs.Common.{◌≡◌, ◌*◌, ◌^◌, ◌<◌, ◌≤◌, true, take}
use Rattle.std.specs.Char.{is_ascii_digit}
use Rattle.std.specs.List.{list_all}
use Rattle.text_lines.specs.Words.{number_after}
use Rattle.text_lines.proofs.words.first_digits.Given as goal

abbrev pub invariant-loop-i : goal.invariant-loop-i
invariant-loop-i l = record {
  digits : list_all is_ascii_digit (take l.i l.bytes) ≡ true;
  value : l.i ≤ 16 → (l.value ≡ number_after 0 (take l.i l.bytes)) × (l.value < 2 ^ (4 * l.i));
}
