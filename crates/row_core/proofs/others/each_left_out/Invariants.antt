use Rattle.std.proofs.Common.{◌≡◌, ◌+◌, ◌<◌, ◌≤◌, ℕ, [], length, get_or}
use Rattle.row_judge.specs.Costs.{AreJudgements}
use Rattle.core_text.specs.Told.{IsOrderWithout}
use Rattle.row_core.proofs.others.each_left_out.Given as goal

abbrev pub invariant-loop-i : goal.invariant-loop-i
invariant-loop-i g l = record {
  count : length l.orders ≡ l.i;
  orders : (j : ℕ) → j < l.i → IsOrderWithout l.m l.set.rows.items (get_or l.set.rows.items j 0) (get_or l.orders j []);
  asked : g.J.Judge.asked l.judge ≤ g.J.Judge.asked l.fn.judge + l.i;
  judgements : AreJudgements g.J.Judge.costs l.m l.i l.fn.steps l.steps;
}
