use Rattle.std.proofs.Common.{◌≡◌, ◌⊎◌, ◌*◌, ◌-◌, ◌≤◌, suc, length, drop, get_or}
use Rattle.others_kept.specs.Counts.{sum_below, rows_with}
use Rattle.others_kept.proofs.table.Table.joins_of_all.Given as goal

abbrev pub invariant-loop-i : goal.invariant-loop-i
invariant-loop-i l = record {
  count : l.count ≡ sum_below (l.i - 1) (λ i. rows_with l.m.rows (drop 1 l.rows) (get_or l.order i 0) (get_or l.order (suc i) 0));
  few : l.count ≤ (l.i - 1) * 4294967296;
  within : (l.i ≤ 1) ⊎ (l.i ≤ length l.order);
}
