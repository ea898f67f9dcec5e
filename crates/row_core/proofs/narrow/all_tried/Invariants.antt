use Rattle.std.proofs.Common.{ℕ, ◌+◌, ◌-◌, ◌<◌, ◌≤◌, IsTrue, length}
use Rattle.row_judge.specs.Costs.{AreJudgements}
use Rattle.row_core.specs.Blamed.{IsBlamed, AreNeeded, AreTold}
use Rattle.row_core.proofs.narrow.all_tried.Given as goal

-- a judgement more goes with a row more that is needed, but for one that leaves no row untried
abbrev pub invariant-rounds : goal.invariant-rounds
invariant-rounds g l = record {
  blamed : IsBlamed l.m l.blamed;
  few : length l.blamed.rows.items ≤ length l.fn.blamed.rows.items;
  orders : AreTold l.m l.blamed.rows.items l.blamed.untried l.told l.orders;
  needed : IsTrue g.J.Judge.in_turn → AreNeeded l.m l.fn.blamed.rows.items l.fn.blamed.untried → AreNeeded l.m l.blamed.rows.items l.blamed.untried;
  asked : 0 < l.blamed.untried →
      g.J.Judge.asked l.judge + (length l.fn.blamed.rows.items - l.fn.blamed.untried) ≤ g.J.Judge.asked l.fn.judge + (length l.blamed.rows.items - l.blamed.untried);
  asked_most : g.J.Judge.asked l.judge + (length l.fn.blamed.rows.items - l.fn.blamed.untried) ≤ g.J.Judge.asked l.fn.judge + (length l.blamed.rows.items - l.blamed.untried) + 1;
  judgements : (k : ℕ)
      × (0 < l.blamed.untried → k + (length l.fn.blamed.rows.items - l.fn.blamed.untried) ≤ length l.blamed.rows.items - l.blamed.untried)
      × (k + (length l.fn.blamed.rows.items - l.fn.blamed.untried) ≤ (length l.blamed.rows.items - l.blamed.untried) + 1)
      × AreJudgements g.J.Judge.costs l.m k l.fn.steps l.steps;
}

abbrev pub decreases-rounds : goal.decreases-rounds
decreases-rounds g l = l.blamed.untried
