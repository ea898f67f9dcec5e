use Rattle.std.proofs.Common.{◌≡◌, ℕ, ◌<◌, length, get_or}
use Rattle.full_pass.specs.Tallies.{no_tally}
use Rattle.full_pass.proofs.entries.Entries.clear_tallies.Given as goal

abbrev pub invariant-loop-tally : goal.invariant-loop-tally
invariant-loop-tally l = record {
  same_length : length l.tally-items ≡ length l.fn.self.tallies.items;
  seen : (k : ℕ) → k < l.tally-index → (get_or l.tally-items k no_tally).seen ≡ 0;
}
