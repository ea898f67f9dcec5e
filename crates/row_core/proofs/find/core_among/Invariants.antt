use Rattle.std.proofs.Common.{ℕ, ◌+◌, ◌-◌, ◌*◌, ◌≤◌, IsTrue, length}
use Rattle.row_judge.specs.Costs.{AreJudgements}
use Rattle.row_core.specs.Blamed.{IsBlamed, AreNeeded}
use Rattle.row_core.proofs.find.core_among.Given as goal

abbrev pub invariant-rounds : goal.invariant-rounds
invariant-rounds g l = record {
  blamed : IsBlamed l.m l.blamed;
  needed : IsTrue g.J.Judge.in_turn → AreNeeded l.m l.blamed.rows.items l.blamed.untried;
  asked : IsTrue g.J.Judge.in_turn →
      g.J.Judge.asked l.judge + (length l.fn.blamed.rows.items - l.fn.blamed.untried) ≤ g.J.Judge.asked l.fn.judge + (length l.blamed.rows.items - l.blamed.untried);
  judgements : IsTrue g.J.Judge.in_turn → (k : ℕ)
      × (k + (length l.fn.blamed.rows.items - l.fn.blamed.untried) ≤ length l.blamed.rows.items - l.blamed.untried)
      × AreJudgements g.J.Judge.costs l.m k l.fn.steps l.steps;
  few : length l.blamed.rows.items ≤ length l.fn.blamed.rows.items;
  most : g.J.Judge.asked l.judge + length l.blamed.rows.items * (2 * length l.fn.blamed.rows.items + 1) ≤ g.J.Judge.asked l.fn.judge + length l.fn.blamed.rows.items * (2 * length l.fn.blamed.rows.items + 1);
}

abbrev pub decreases-rounds : goal.decreases-rounds
decreases-rounds g l = length l.blamed.rows.items
