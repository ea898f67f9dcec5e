use Rattle.std.proofs.Common.{◌≡◌, ◌*◌, ◌^◌, ◌<◌, drop}
use Rattle.std.specs.Char.{is_ascii_digit}
use Rattle.std.specs.List.{list_all}
use Rattle.text_lines.specs.Words.{number_after}
use Rattle.text_lines.proofs.words.short_number.Given as goal

abbrev pub invariant-loop-b : goal.invariant-loop-b
invariant-loop-b l = record {
  number : number_after l.value (drop l.b-index l.word) ≡ number_after 0 l.word;
  digits : list_all is_ascii_digit (drop l.b-index l.word) ≡ list_all is_ascii_digit l.word;
  small : l.value < 2 ^ (4 * l.b-index);
}
