use Rattle.std.proofs.Common.{◌≡◌, ◌⊎◌, ◌<◌, ◌+◌, ◌-◌, ◌++◌, map, slice_index, length}
use Rattle.std.specs.List.{range_with_len}
use Rattle.bound_tree.specs.Stretches.{stretch}
use Rattle.bound_tree.proofs.stretch.push_near.Given as goal

abbrev pub invariant-loop-i : goal.invariant-loop-i
invariant-loop-i l =
    record {
      all : l.all.items ≡ l.initial.all.items ++ map (λ i. stretch (slice_index l.starts i) (slice_index l.starts (i - 1)) (slice_index l.starts (i + 1))) (range_with_len 1 (l.i - 1));
      room : (l.i ≡ 1) ⊎ (l.i < length l.starts);
    }
