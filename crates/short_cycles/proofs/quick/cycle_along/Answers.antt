use Rattle.std.proofs.Common.{length, take, sum_by, arith}
use Rattle.std.proofs.lemmas.Result.{IfOk-weaker}
use Rattle.row_model.proofs.CycleLaws.{closed_more}
use Rattle.short_cycles.proofs.StepBounds.{twice_bound}
use Rattle.short_cycles.proofs.quick.cycle_along.Goals as goal

pub returns-in_err-cycle-clause-ticks : goal.returns-in_err-cycle-clause-ticks
returns-in_err-cycle-clause-ticks g c =
    twice_bound c.args.m.now.columns (sum_by length (take c.args.k c.args.m.now.rows)) c.args.steps.now c.any_cycle.new.steps c.most_steps-most.result c.any_cycle.new.steps
    (omega (arith, c.any_cycle.ensures.ticks, c.most_steps-most.ensures.ticks)) c.most_steps-most.ensures.ones (omega arith)

pub returns-clause-ticks : goal.returns-clause-ticks
returns-clause-ticks g c =
    twice_bound c.args.m.now.columns (sum_by length (take c.args.k c.args.m.now.rows)) c.args.steps.now c.any_cycle.new.steps c.most_steps-most.result c.shorter_cycle.new.steps
    (omega (arith, c.any_cycle.ensures.ticks, c.most_steps-most.ensures.ticks)) c.most_steps-most.ensures.ones (omega arith)

pub returns-clause-cycle : goal.returns-clause-cycle
returns-clause-cycle g c =
    let more = closed_more c.args.m.now.columns c.args.m.now.rows c.args.k in
    IfOk-weaker c.shorter_cycle.result _ _ (λ found x. record { closed = more found c.requires.row.1 x.closed; simple = x.simple }) c.shorter_cycle.ensures.cycle

pub returns-clause-first_rows : goal.returns-clause-first_rows
returns-clause-first_rows g c = c.shorter_cycle.ensures.cycle

pub returns-clause-short : goal.returns-clause-short
returns-clause-short g c = c.shorter_cycle.ensures.short c.in_ok-cycle.ensures.short

pub any_cycle-requires : goal.any_cycle-requires
any_cycle-requires g c = record { row = c.requires.row; order = c.requires.order; refused = c.requires.refused; most = c.most_steps-most.ensures.ones }

pub shorter_cycle-requires : goal.shorter_cycle-requires
shorter_cycle-requires g c = record { rows = c.requires.row.1; cycle = c.in_ok-cycle.ensures.cycle }
