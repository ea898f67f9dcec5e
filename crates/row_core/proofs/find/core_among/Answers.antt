use Rattle.std.proofs.Common.{◌+◌, ◌≤◌, IsTrue, length, arith}
use Rattle.std.proofs.lemmas.Result.{IfOk-from_err}
use Rattle.row_judge.specs.Costs.{AreJudgements}
use Rattle.row_core.proofs.Judgements.{none_judged, more_judged, judged_within}
use Rattle.row_core.proofs.Numbers.{increasing}
use Rattle.row_core.proofs.Told.{tells_core}
use Rattle.row_core.proofs.Rounds.{one_round, last_round, round_fails, round_ends}
use Rattle.row_core.proofs.find.core_among.Given as given
use Rattle.row_core.proofs.find.core_among.Goals as goal
use Rattle.row_core.proofs.find.core_among.Goals.{After-each_left_out}

pub of-requires-clause-ascending : goal.of-requires-clause-ascending
of-requires-clause-ascending g c = increasing (length c.args.m.now.rows) 0 c.in_ok-set.set.rows.items c.in_ok-set.ensures.narrowed.rows

pub returns-in-Orders-clause-core : goal.returns-in-Orders-clause-core
returns-in-Orders-clause-core g c =
    let tried = rw c.in-Orders.is at c.in_ok-orders.ensures.tried in
    let set = c.in_ok-set.ensures.narrowed in
    rw c.of.ensures (tells_core c.blame_law.ensures c.args.m.now c.in_ok-set.set.rows.items c.in-Orders.orders c.in_ok-set.set.lines set.rows set.cycle set.among tried.0 tried.1)

pub rounds-preserved : goal.rounds-preserved
rounds-preserved g c =
    let tried = rw c.in-Fewer.is at c.in_ok-orders.ensures.tried in
    record {
      blamed = tried.0;
      needed = λ turn. absurd (tried.2 (c.in_ok-set.ensures.needed turn (c.rounds.invariant.needed turn)));
      asked = λ turn. absurd (tried.2 (c.in_ok-set.ensures.needed turn (c.rounds.invariant.needed turn)));
      judgements = λ turn. absurd (tried.2 (c.in_ok-set.ensures.needed turn (c.rounds.invariant.needed turn)));
      few = omega (arith, tried.1, c.in_ok-set.ensures.few, c.rounds.invariant.few);
      most = one_round _ _ _ _ (length c.args.blamed.rows.items) _ (omega (arith, tried.1, c.in_ok-set.ensures.few))
          (omega (arith, c.in_ok-set.ensures.asked, c.in_ok-set.ensures.few, c.each_left_out.ensures.asked, c.rounds.invariant.few)) c.rounds.invariant.most;
    }

pub returns-in-Orders-clause-most : goal.returns-in-Orders-clause-most
returns-in-Orders-clause-most g c =
    last_round _ _ _ _ (length c.args.blamed.rows.items)
    (omega (arith, c.in_ok-set.ensures.asked, c.in_ok-set.ensures.few, c.each_left_out.ensures.asked, c.rounds.invariant.few)) c.rounds.invariant.most

pub rounds-init : goal.rounds-init
rounds-init g c = record {
  blamed = c.requires.blamed;
  needed = c.requires.needed;
  asked = λ turn. omega arith;
  judgements = λ turn. (0, omega arith, none_judged g.J.Judge.costs c.args.m.now c.args.steps.now);
  few = omega arith;
  most = omega arith;
}

pub returns-in-Orders-clause-judgements : goal.returns-in-Orders-clause-judgements
returns-in-Orders-clause-judgements g c = λ turn.
    let m = c.args.m.now in
    let costs = g.J.Judge.costs in
    let before = c.rounds.invariant.judgements turn in
    let set = c.in_ok-set.ensures.judgements in
    let many = length c.in_ok-set.set.rows.items in
    rw c.of.ensures (
      before.0 + set.0 + many,
      omega (arith, before.1, set.1),
      more_judged costs m (before.0 + set.0) many c.args.steps.now c.all_tried.new.steps c.each_left_out.new.steps
          (more_judged costs m before.0 set.0 c.args.steps.now c.rounds.steps c.all_tried.new.steps before.2 set.2) c.in_ok-orders.ensures.judgements,
    )

-- with an error too: no second round begins
pub returns-in_err-set-clause-any : goal.returns-in_err-set-clause-any
returns-in_err-set-clause-any g c = λ turn.
    let before = c.rounds.invariant.judgements turn in
    judged_within g.J.Judge.costs c.args.m.now before.0 (c.rounds.blamed.untried + 1) (length c.args.blamed.rows.items + c.args.blamed.untried + 1) c.args.steps.now c.rounds.steps c.all_tried.new.steps
    (round_fails before.0 _ _ _ _ before.1 c.rounds.invariant.blamed.few c.rounds.invariant.few c.requires.blamed.few) before.2 c.all_tried.ensures.any

-- nor after the orders of the others are there
within : (g : given.Over) (c : After-each_left_out g) → IsTrue g.J.Judge.in_turn →
    AreJudgements g.J.Judge.costs c.args.m.now (length c.args.blamed.rows.items + c.args.blamed.untried + 1) c.args.steps.now c.each_left_out.new.steps
within g c turn =
    let m = c.args.m.now in
    let before = c.rounds.invariant.judgements turn in
    let set = c.in_ok-set.ensures.judgements in
    let many = length c.in_ok-set.set.rows.items in
    judged_within g.J.Judge.costs m (before.0 + set.0) many (length c.args.blamed.rows.items + c.args.blamed.untried + 1) c.args.steps.now c.all_tried.new.steps c.each_left_out.new.steps
    (round_ends before.0 set.0 many _ _ _ _ before.1 set.1 c.in_ok-set.ensures.few c.rounds.invariant.blamed.few c.rounds.invariant.few c.requires.blamed.few)
    (more_judged g.J.Judge.costs m before.0 set.0 c.args.steps.now c.rounds.steps c.all_tried.new.steps before.2 set.2) c.each_left_out.ensures.judgements

pub returns-in_err-orders-clause-any : goal.returns-in_err-orders-clause-any
returns-in_err-orders-clause-any g c = within g (goal.at.returns-in_err-orders-clause-any g c).After-each_left_out

pub returns-in-Orders-clause-any : goal.returns-in-Orders-clause-any
returns-in-Orders-clause-any g c = within g (goal.at.returns-in-Orders-clause-any g c).After-each_left_out

pub returns-in_err-set-clause-core : goal.returns-in_err-set-clause-core
returns-in_err-set-clause-core g c = IfOk-from_err c.from_residual.result _ c.from_residual.ensures.0

pub returns-in_err-set-clause-short : goal.returns-in_err-set-clause-short
returns-in_err-set-clause-short g c = IfOk-from_err c.from_residual.result _ c.from_residual.ensures.0

pub returns-in_err-set-clause-asked : goal.returns-in_err-set-clause-asked
returns-in_err-set-clause-asked g c = λ turn. IfOk-from_err c.from_residual.result _ c.from_residual.ensures.0

pub returns-in_err-set-clause-most : goal.returns-in_err-set-clause-most
returns-in_err-set-clause-most g c = IfOk-from_err c.from_residual.result _ c.from_residual.ensures.0

pub returns-in_err-set-clause-judgements : goal.returns-in_err-set-clause-judgements
returns-in_err-set-clause-judgements g c = λ turn. IfOk-from_err c.from_residual.result _ c.from_residual.ensures.0

pub returns-in_err-orders-clause-core : goal.returns-in_err-orders-clause-core
returns-in_err-orders-clause-core g c = IfOk-from_err c.from_residual-in_err-orders.result _ c.from_residual-in_err-orders.ensures.0

pub returns-in_err-orders-clause-short : goal.returns-in_err-orders-clause-short
returns-in_err-orders-clause-short g c = IfOk-from_err c.from_residual-in_err-orders.result _ c.from_residual-in_err-orders.ensures.0

pub returns-in_err-orders-clause-asked : goal.returns-in_err-orders-clause-asked
returns-in_err-orders-clause-asked g c = λ turn. IfOk-from_err c.from_residual-in_err-orders.result _ c.from_residual-in_err-orders.ensures.0

pub returns-in_err-orders-clause-most : goal.returns-in_err-orders-clause-most
returns-in_err-orders-clause-most g c = IfOk-from_err c.from_residual-in_err-orders.result _ c.from_residual-in_err-orders.ensures.0

pub returns-in_err-orders-clause-judgements : goal.returns-in_err-orders-clause-judgements
returns-in_err-orders-clause-judgements g c = λ turn. IfOk-from_err c.from_residual-in_err-orders.result _ c.from_residual-in_err-orders.ensures.0

pub returns-in_err-set-clause-asked_any : goal.returns-in_err-set-clause-asked_any
returns-in_err-set-clause-asked_any g c = λ turn.
    omega (arith, c.all_tried.ensures.asked_any, c.rounds.invariant.asked turn, c.rounds.invariant.few, c.rounds.invariant.blamed.few, c.requires.blamed.few)

-- the times that the judge was asked, with an answer and with an error
times : (g : given.Over) (c : After-each_left_out g) → IsTrue g.J.Judge.in_turn → g.J.Judge.asked c.each_left_out.new.judge ≤ g.J.Judge.asked c.args.judge.now + (length c.args.blamed.rows.items + c.args.blamed.untried + 1)
times g c turn =
    omega (arith, c.each_left_out.ensures.asked, c.in_ok-set.ensures.asked, c.in_ok-set.ensures.few, c.rounds.invariant.asked turn, c.rounds.invariant.few, c.rounds.invariant.blamed.few, c.requires.blamed.few)

pub returns-in_err-orders-clause-asked_any : goal.returns-in_err-orders-clause-asked_any
returns-in_err-orders-clause-asked_any g c = times g (goal.at.returns-in_err-orders-clause-asked_any g c).After-each_left_out

pub returns-in-Orders-clause-asked_any : goal.returns-in-Orders-clause-asked_any
returns-in-Orders-clause-asked_any g c = times g (goal.at.returns-in-Orders-clause-asked_any g c).After-each_left_out

pub returns-in-Orders-clause-asked : goal.returns-in-Orders-clause-asked
returns-in-Orders-clause-asked g c = λ turn.
    rw c.of.ensures (omega (arith, c.each_left_out.ensures.asked, c.in_ok-set.ensures.asked, c.in_ok-set.ensures.few, c.rounds.invariant.asked turn, c.rounds.invariant.blamed.few))

pub returns-in-Orders-clause-short : goal.returns-in-Orders-clause-short
returns-in-Orders-clause-short g c = rw c.of.ensures c.in_ok-set.ensures.narrowed.short
