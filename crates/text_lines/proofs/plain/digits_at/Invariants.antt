use Rattle.std.proofs.Common.{◌≡◌, ◌+◌, ◌-◌, ◌*◌, ◌^◌, ◌<◌, ◌≤◌, true, length, slice_range}
use Rattle.std.specs.Char.{is_ascii_digit}
use Rattle.std.specs.List.{list_all}
use Rattle.text_lines.specs.Words.{number_after}
use Rattle.text_lines.proofs.plain.digits_at.Given as goal

abbrev pub invariant-loop-end : goal.invariant-loop-end
invariant-loop-end l = record {
  from : l.at ≤ l.end;
  upto : l.end ≤ l.stop;
  within : l.stop ≤ length l.text;
  near : l.stop ≤ l.at + 9;
  digits : list_all is_ascii_digit (slice_range l.text l.at l.end) ≡ true;
  value : l.value ≡ number_after 0 (slice_range l.text l.at l.end);
  small : l.value < 2 ^ (4 * (l.end - l.at));
}

abbrev pub decreases-loop-end : goal.decreases-loop-end
decreases-loop-end l = l.stop - l.end
