use Rattle.std.proofs.Common.{◌≡◌, ℕ, ◌-◌, ◌<◌, length, slice_index}
use Rattle.bound_tree.proofs.skips.each_before.Given as goal

abbrev pub invariant-loop-position : goal.invariant-loop-position
invariant-loop-position l = (length l.before.items ≡ l.position) × ((i : ℕ) → i < l.position → slice_index l.before.items i ≡ i - 1)
