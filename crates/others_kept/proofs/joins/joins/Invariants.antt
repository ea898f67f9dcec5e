use Rattle.std.proofs.Common.{◌≡◌, ◌⊎◌, ◌-◌, ◌≤◌, suc, length, get_or}
use Rattle.others_kept.specs.Counts.{sum_below, both}
use Rattle.others_kept.proofs.joins.joins.Given as goal

abbrev pub invariant-loop-i : goal.invariant-loop-i
invariant-loop-i l = record {
  count : l.count ≡ sum_below (l.i - 1) (λ i. both l.row (get_or l.order i 0) (get_or l.order (suc i) 0));
  few : l.count ≤ l.i - 1;
  within : (l.i ≤ 1) ⊎ (l.i ≤ length l.order);
}
