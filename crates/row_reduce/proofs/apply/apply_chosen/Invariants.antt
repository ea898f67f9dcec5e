use Rattle.std.proofs.Common.{◌≡◌, ℕ, ◌+◌, ◌*◌, ◌≤◌, ◌<◌, List, take, sum_by}
use Rattle.arena_model.specs.Layout.{IsLayout}
use Rattle.bubble_pass.specs.Pass.{node_in}
use Rattle.row_reduce.specs.Applying.{AreApplied}
use Rattle.row_reduce.specs.Decided.{labelled_at, AreChosen}
use Rattle.row_reduce.specs.Still.{IsStill}
use Rattle.row_reduce.proofs.apply.apply_chosen.Given as goal

abbrev pub invariant-loop-i : goal.invariant-loop-i
invariant-loop-i g l = record {
  applied : (row : List ℕ) (q : ℕ) → AreChosen l.fn.arena l.fn.work row q l.chosen l.fn.count →
      (place : ℕ → ℕ) × AreApplied l.fn.arena l.fn.work row (take l.i l.fn.work.nodes) place l.arena l.work;
  layout : IsLayout l.arena;
  still : ((i : ℕ) → i < l.fn.count → IsStill l.fn.arena l.fn.work (node_in l.fn.work i)) → (l.arena ≡ l.fn.arena) × (l.work ≡ l.fn.work);
  ticks : l.steps ≤ l.initial.steps + sum_by (λ n. 2 * labelled_at l.fn.work n + 15) (take l.i l.fn.work.nodes);
}
