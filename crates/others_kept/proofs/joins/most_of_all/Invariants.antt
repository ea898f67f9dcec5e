use Rattle.std.proofs.Common.{◌≡◌, ◌*◌, ◌-◌, ◌<◌, ◌≤◌, ℕ, length}
use Rattle.row_model.specs.Rows.{IsRow}
use Rattle.others_kept.specs.Others.{numbered}
use Rattle.others_kept.specs.Counts.{sum_below}
use Rattle.others_kept.proofs.joins.most_of_all.Given as goal

abbrev pub invariant-loop-k : goal.invariant-loop-k
invariant-loop-k l = record {
  count : l.count ≡ sum_below l.k-index (λ j. length (numbered l.m.rows l.rows j) - 1);
  few : l.count ≤ l.k-index * 32768;
  rows : (j : ℕ) → j < l.k-index → IsRow l.m.columns (numbered l.m.rows l.rows j);
}
