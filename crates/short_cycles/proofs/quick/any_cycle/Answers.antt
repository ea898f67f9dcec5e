use Rattle.std.proofs.Common.{◌∙◌, ◌+◌, ◌*◌, ◌-◌, ◌≤◌, List, ℕ, IfOk, sum_by, length, take, ap, sym, subst, arith}
use Rattle.column_order.specs.Orders.{IsValidOrder}
use Rattle.column_order.proofs.Counts.{order_length}
use Rattle.row_model.specs.declared.graph.Line.{Line}
use Rattle.row_model.specs.Cycles.{IsOddWalk, IsOddCycle}
use Rattle.odd_cycle.specs.Short.{IsShort}
use Rattle.open_gaps.specs.Gaps.{AreGaps}
use Rattle.short_cycles.proofs.StepBounds.{along_bound, tried_bound}
use Rattle.short_cycles.proofs.quick.any_cycle.Given as given
use Rattle.short_cycles.proofs.quick.any_cycle.Goals as goal
use Rattle.short_cycles.proofs.quick.any_cycle.Goals.{After-new, After-walk_across, After-lines}

pub quick_cycle-requires-clause-row : goal.quick_cycle-requires-clause-row
quick_cycle-requires-clause-row g c = c.requires.row

pub quick_cycle-requires-clause-columns : goal.quick_cycle-requires-clause-columns
quick_cycle-requires-clause-columns g c =
    ap (λ (o : List ℕ). length o) c.in_ok-gaps.ensures.order ∙ order_length c.args.m.now.columns c.args.order.now c.requires.order.order

pub quick_cycle-requires-clause-order : goal.quick_cycle-requires-clause-order
quick_cycle-requires-clause-order g c = c.requires.order

pub walk_across-requires-clause-order : goal.walk_across-requires-clause-order
walk_across-requires-clause-order g c =
    subst (IsValidOrder c.args.m.now.columns (take (c.args.k - 1) c.args.m.now.rows)) (sym c.in_ok-gaps.ensures.order) c.requires.order

pub walk_across-requires-clause-row : goal.walk_across-requires-clause-row
walk_across-requires-clause-row g c = c.requires.row

pub walk_across-requires-clause-gaps : goal.walk_across-requires-clause-gaps
walk_across-requires-clause-gaps g c =
    subst (λ o. AreGaps (take (c.args.k - 1) c.args.m.now.rows) o c.in_ok-gaps.gaps.gaps) (sym c.in_ok-gaps.ensures.order) c.in_ok-gaps.ensures.gaps

pub walk_across-requires-clause-refused : goal.walk_across-requires-clause-refused
walk_across-requires-clause-refused g c = c.requires.refused

-- the walk that was found, by its lines and by the number of columns that was read
found : (g : given.Over) (c : After-lines g) → IsOddWalk c.columns.result (take c.args.k c.args.m.now.rows) c.lines.result.now
found g c =
    let rows = take c.args.k c.args.m.now.rows in
    let lines = subst (λ (ls : List Line). IsOddWalk c.args.m.now.columns rows ls) (sym c.lines.ensures.lines) c.in_ok-walk.ensures.walk in
    subst (λ (n : ℕ). IsOddWalk n rows c.lines.result.now) (sym c.columns.ensures.columns) lines

pub short_cycle-requires-clause-walk : goal.short_cycle-requires-clause-walk
short_cycle-requires-clause-walk g c = (take c.args.k c.args.m.now.rows, found g (goal.at.short_cycle-requires-clause-walk g c).After-lines)

pub short_cycle-requires-clause-few : goal.short_cycle-requires-clause-few
short_cycle-requires-clause-few g c = c.columns.ensures.range.1

-- no search among all pairs has begun
tried : (g : given.Over) (c : After-new g) (after : ℕ) → after ≤ c.new.new.steps + (2 * c.args.most - c.args.m.now.columns) →
    after + 1 ≤ c.args.steps.now + 4 * c.args.m.now.columns * (sum_by length (take c.args.k c.args.m.now.rows) + 1)
tried g c after few =
    let p = c.requires.refused.is_pair in
    tried_bound c.args.m.now.rows c.args.m.now.columns c.args.k c.args.most c.args.steps.now c.new.new.steps after (omega (arith, p.a_from, p.a_to)) c.requires.row.0 c.requires.most c.new.ensures.ticks few

pub returns-in_err-gaps-clause-ticks : goal.returns-in_err-gaps-clause-ticks
returns-in_err-gaps-clause-ticks g c = tried g (goal.at.returns-in_err-gaps-clause-ticks g c).After-new c.new.new.steps (omega arith)

pub returns-in_err-cycle-clause-ticks : goal.returns-in_err-cycle-clause-ticks
returns-in_err-cycle-clause-ticks g c = tried g (goal.at.returns-in_err-cycle-clause-ticks g c).After-new c.quick_cycle.new.steps c.quick_cycle.ensures.ticks

pub returns-in-Some-clause-ticks : goal.returns-in-Some-clause-ticks
returns-in-Some-clause-ticks g c = tried g (goal.at.returns-in-Some-clause-ticks g c).After-new c.quick_cycle.new.steps c.quick_cycle.ensures.ticks

-- and after one that found none
searched : (g : given.Over) (c : After-walk_across g) → c.walk_across.new.steps + 1 ≤ c.args.steps.now + 4 * c.args.m.now.columns * (sum_by length (take c.args.k c.args.m.now.rows) + 1)
searched g c =
    let p = c.requires.refused.is_pair in
    let two : 2 ≤ c.args.m.now.columns = omega (arith, p.a_from, p.a_to, p.b_from, p.b_to, p.distinct) in
    along_bound c.args.m.now.rows c.args.m.now.columns c.args.k c.args.most c.args.steps.now c.new.new.steps c.quick_cycle.new.steps c.walk_across.new.steps two c.requires.most c.new.ensures.ticks c.quick_cycle.ensures.ticks
    c.walk_across.ensures.ticks

pub returns-in_err-walk-clause-ticks : goal.returns-in_err-walk-clause-ticks
returns-in_err-walk-clause-ticks g c = searched g (goal.at.returns-in_err-walk-clause-ticks g c).After-walk_across

pub returns-clause-ticks : goal.returns-clause-ticks
returns-clause-ticks g c = searched g (goal.at.returns-clause-ticks g c).After-walk_across

pub returns-clause-cycle : goal.returns-clause-cycle
returns-clause-cycle g c =
    let rows = take c.args.k c.args.m.now.rows in
    subst (λ (n : ℕ). IfOk c.short_cycle.result (IsOddCycle n rows)) c.columns.ensures.columns (c.short_cycle.ensures.cycle rows (found g (goal.at.returns-clause-cycle g c).After-lines))

pub returns-clause-short : goal.returns-clause-short
returns-clause-short g c = subst (λ (n : ℕ). IfOk c.short_cycle.result (IsShort n)) c.columns.ensures.columns c.short_cycle.ensures.short

pub returns-in-Some-clause-cycle : goal.returns-in-Some-clause-cycle
returns-in-Some-clause-cycle g c = rw c.in-Some.is at c.in_ok-cycle.ensures.found

pub returns-in-Some-clause-short : goal.returns-in-Some-clause-short
returns-in-Some-clause-short g c = rw c.in-Some.is at c.in_ok-cycle.ensures.short
