use Rattle.std.proofs.Common.{ℕ, take}
use Rattle.pq_tree.specs.Amortised.{weight}
use Rattle.solve_replies.proofs.Sessions.{IsOnTheWay}
use Rattle.solve_replies.proofs.Charges.{IsCharged}
use Rattle.solve_replies.specs.Taking.{HasTaken}
use Rattle.solve_replies.proofs.session.print_outcomes.Given as goal

abbrev pub invariant-loop-taken : goal.invariant-loop-taken
invariant-loop-taken g l =
    record {
      way : IsOnTheWay l.initial.session.matrix l.session.matrix l.refusals l.taken;
      so_far : (met : ℕ)
          × HasTaken l.initial.session.matrix (take l.taken l.further.rows) l.session.matrix l.refusals met l.initial.text.items l.text.items
          × IsCharged l.initial.session.matrix l.further.rows (take l.taken l.further.rows) l.session.matrix l.refusals met (weight l.initial.session.tree) (weight l.session.tree) l.initial.steps l.steps;
    }
