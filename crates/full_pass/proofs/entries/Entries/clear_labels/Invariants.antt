use Rattle.std.proofs.Common.{◌≡◌, ℕ, ◌<◌, length, get_or}
use Rattle.full_pass.proofs.entries.Entries.clear_labels.Given as goal

abbrev pub invariant-loop-label : goal.invariant-loop-label
invariant-loop-label l = record {
  same_length : length l.label-items ≡ length l.fn.self.labels.items;
  labels : (k : ℕ) → k < l.label-index → get_or l.label-items k 0 ≡ 0;
}
