use Rattle.std.proofs.Common.{◌≡◌, ◌+◌, ◌*◌, ◌≤◌, take, length, sum_by, ℕ, List, sym, subst, arith, Result, Ok, Err, OnOk}
use Rattle.std.proofs.lemmas.List.{take_all}
use Rattle.row_model.specs.declared.graph.Line.{Line}
use Rattle.row_model.specs.Cycles.{IsOddWalk}
use Rattle.short_cycles.proofs.part.lines_in.Given as given
use Rattle.short_cycles.proofs.part.lines_in.Goals as goal
use Rattle.short_cycles.proofs.part.lines_in.Goals.{After-walk_among}
use Rattle.std.proofs.lemmas.Result.{IfOk-from_err}

-- the search goes over all rows of the part
all : (g : given.Over) (c : After-walk_among g) → take c.rows.result c.args.part.now.rows ≡ c.args.part.now.rows
all g c = take_all c.rows.result c.args.part.now.rows (omega (arith, c.rows.ensures))

few : (g : given.Over) (c : After-walk_among g) → c.walk_among.new.steps ≤ c.args.steps.now + 3 * c.args.part.now.columns * (sum_by length c.args.part.now.rows + 1) + 1
few g c = subst (λ (rows : List (List ℕ)). c.walk_among.new.steps ≤ c.args.steps.now + 3 * c.args.part.now.columns * (sum_by length rows + 1) + 1) (all g c) c.walk_among.ensures.few

square : (g : given.Over) (c : After-walk_among g) → c.walk_among.new.steps ≤ c.args.steps.now + c.args.part.now.columns * (2 * sum_by length c.args.part.now.rows + c.args.part.now.columns + 3) + 1
square g c = subst (λ (rows : List (List ℕ)). c.walk_among.new.steps ≤ c.args.steps.now + c.args.part.now.columns * (2 * sum_by length rows + c.args.part.now.columns + 3) + 1) (all g c) c.walk_among.ensures.square

pub short_cycle-requires-clause-walk : goal.short_cycle-requires-clause-walk
short_cycle-requires-clause-walk g c =
    let rows = take c.rows.result c.args.part.now.rows in
    let walk = rw c.in-Some.is at c.in_ok-walk.ensures.found in
    let lines = subst (λ (ls : List Line). IsOddWalk c.args.part.now.columns rows ls) (sym c.lines.ensures.lines) walk in
    (rows, subst (λ (n : ℕ). IsOddWalk n rows c.lines.result.now) (sym c.columns.ensures.columns) lines)

pub returns-in_err-walk-clause-few : goal.returns-in_err-walk-clause-few
returns-in_err-walk-clause-few g c = few g (goal.at.returns-in_err-walk-clause-few g c).After-walk_among

pub returns-in_err-walk-clause-square : goal.returns-in_err-walk-clause-square
returns-in_err-walk-clause-square g c = square g (goal.at.returns-in_err-walk-clause-square g c).After-walk_among

pub returns-in_err-cycle-in-Some-clause-few : goal.returns-in_err-cycle-in-Some-clause-few
returns-in_err-cycle-in-Some-clause-few g c = few g (goal.at.returns-in_err-cycle-in-Some-clause-few g c).After-walk_among

pub returns-in_err-cycle-in-Some-clause-square : goal.returns-in_err-cycle-in-Some-clause-square
returns-in_err-cycle-in-Some-clause-square g c = square g (goal.at.returns-in_err-cycle-in-Some-clause-square g c).After-walk_among

pub returns-in_ok-cycle-in-Some-clause-few : goal.returns-in_ok-cycle-in-Some-clause-few
returns-in_ok-cycle-in-Some-clause-few g c = few g (goal.at.returns-in_ok-cycle-in-Some-clause-few g c).After-walk_among

pub returns-in_ok-cycle-in-Some-clause-square : goal.returns-in_ok-cycle-in-Some-clause-square
returns-in_ok-cycle-in-Some-clause-square g c = square g (goal.at.returns-in_ok-cycle-in-Some-clause-square g c).After-walk_among

pub returns-in-None-clause-few : goal.returns-in-None-clause-few
returns-in-None-clause-few g c = few g (goal.at.returns-in-None-clause-few g c).After-walk_among

pub returns-in-None-clause-square : goal.returns-in-None-clause-square
returns-in-None-clause-square g c = square g (goal.at.returns-in-None-clause-square g c).After-walk_among

pub returns-in-None-clause-turns : goal.returns-in-None-clause-turns
returns-in-None-clause-turns g c = subst (λ (rows : List (List ℕ)). c.args.steps.now + c.args.part.now.columns + sum_by length rows ≤ c.walk_among.new.steps) (all g (goal.at.returns-in-None-clause-turns g c).After-walk_among) c.in_ok-walk.ensures.reads

pub walk_among-requires : goal.walk_among-requires
walk_among-requires g c = omega (arith, c.rows.ensures)

pub short_cycle-requires-clause-few : goal.short_cycle-requires-clause-few
short_cycle-requires-clause-few g c = c.columns.ensures.range.1

-- what holds anyway
always : {T E : Type 0} (r : Result T E) (P : Type 0) → P → OnOk r P
always (Ok x) P p = p
always (Err e) P p = tt

pub returns-in_ok-cycle-in-Some-clause-turns : goal.returns-in_ok-cycle-in-Some-clause-turns
returns-in_ok-cycle-in-Some-clause-turns g c =
    let paid = subst (λ (rows : List (List ℕ)). c.args.steps.now + c.args.part.now.columns + sum_by length rows ≤ c.walk_among.new.steps) (all g (goal.at.returns-in_ok-cycle-in-Some-clause-turns g c).After-walk_among) c.in_ok-walk.ensures.reads in
    always c.lines_of.result _ paid

pub returns-in_err-walk-clause-turns : goal.returns-in_err-walk-clause-turns
returns-in_err-walk-clause-turns g c = IfOk-from_err c.from_residual.result _ c.from_residual.ensures.0
