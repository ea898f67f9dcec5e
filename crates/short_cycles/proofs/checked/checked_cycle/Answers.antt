use Rattle.std.proofs.Common.{◌≡◌, ◌+◌, ◌*◌, ◌≤◌, List, length, take, subst, arith}
use Rattle.row_model.specs.declared.graph.Line.{Line}
use Rattle.row_model.specs.Cycles.{IsOddWalk}
use Rattle.odd_cycle.specs.Short.{flips, IsFolded}
use Rattle.short_cycles.proofs.checked.checked_cycle.Goals as goal
use Rattle.std.proofs.lemmas.Result.{IfOk-from_err}

pub returns-else-branch : goal.returns-else-branch
returns-else-branch g c = record { cycle = tt; short = tt; ticks = c.is_folded_walk.ensures.ticks; less = c.is_folded_walk.ensures.less; turns = tt }

pub returns-then-branch : goal.returns-then-branch
returns-then-branch g c =
    let same : c.deref.result.now ≡ c.from_lines.result = cc in
    let yes = c.if-branch.true in
    let walk = subst (λ (ls : List Line). IsOddWalk c.args.m.now.columns (take c.args.rows c.args.m.now.rows) ls) same (c.in_ok-is_folded_walk.ensures.walk yes) in
    let folded = subst (λ (ls : List Line). IsFolded ls) same (c.in_ok-is_folded_walk.ensures.folded yes) in
    let turns = subst (λ (ls : List Line). c.args.steps.now + 3 * length ls ≤ c.is_folded_walk.new.steps + 3 * flips ls) same (c.in_ok-is_folded_walk.ensures.turns yes) in
    let law = c.short_cycle_law.ensures c.args.m.now.columns (take c.args.rows c.args.m.now.rows) c.from_lines.result walk folded in
    record { cycle = law.0; short = law.1; ticks = c.is_folded_walk.ensures.ticks; less = c.is_folded_walk.ensures.less; turns = omega (arith, turns, law.1.one_flip) }

pub returns-in_err-is_folded_walk : goal.returns-in_err-is_folded_walk
returns-in_err-is_folded_walk g c =
    let none = c.from_residual.ensures.0 in
    record { less = c.is_folded_walk.ensures.less; ticks = c.is_folded_walk.ensures.ticks; cycle = IfOk-from_err c.from_residual.result _ none; short = IfOk-from_err c.from_residual.result _ none; turns = IfOk-from_err c.from_residual.result _ none }

pub from_lines-requires : goal.from_lines-requires
from_lines-requires g c =
    let rows = take c.args.rows c.args.m.now.rows in
    let folded = subst (λ (ls : List Line). IsFolded ls) c.deref.ensures.value (c.in_ok-is_folded_walk.ensures.folded c.if-branch.true) in
    let walk = subst (λ (ls : List Line). IsOddWalk c.args.m.now.columns rows ls) c.deref.ensures.value (c.in_ok-is_folded_walk.ensures.walk c.if-branch.true) in
    (c.short_cycle_law.ensures c.args.m.now.columns rows c.args.lines.items walk folded).0.simple
