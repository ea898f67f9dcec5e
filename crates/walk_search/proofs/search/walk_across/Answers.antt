use Rattle.std.proofs.Common.{◌≡◌, ◌+◌, ◌-◌, ◌≤◌, take, drop, length, sum_by, refl, subst, arith}
use Rattle.row_model.specs.Graph.{HasOddWalk}
use Rattle.row_model.specs.Cycles.{IsOddWalk}
use Rattle.row_model.proofs.Walks.{conflict_odd}
use Rattle.walk_search.proofs.NearLaws.{near_along, first_ones, last_ones, across_early, across_bound}
use Rattle.walk_search.proofs.search.walk_across.Goals as goal

pub search_along-requires-clause-near : goal.search_along-requires-clause-near
search_along-requires-clause-near g c =
    near_along c.args.m.now c.args.k c.args.gaps.order c.args.gaps c.in_ok-holders.holders c.requires.order refl c.requires.gaps c.in_ok-holders.ensures.holders

pub returns-clause-walk : goal.returns-clause-walk
returns-clause-walk g c =
    let up : c.args.k - 1 + 1 ≡ c.args.k = omega arith in
    let walk : IsOddWalk c.args.m.now.columns (take (c.args.k - 1 + 1) c.args.m.now.rows) c.in-Some.walk = rw c.in-Some.is at c.in_ok-walk.ensures.found in
    subst (λ n. IsOddWalk c.args.m.now.columns (take n c.args.m.now.rows) c.in-Some.walk) up walk

pub unreachable-requires : goal.unreachable-requires
unreachable-requires g c =
    let up : c.args.k - 1 + 1 ≡ c.args.k = omega arith in
    let none : HasOddWalk c.args.m.now.columns (take (c.args.k - 1 + 1) c.args.m.now.rows) → ⊥ = rw c.in-None.is at c.in_ok-walk.ensures.found in
    subst (λ n. HasOddWalk c.args.m.now.columns (take n c.args.m.now.rows) → ⊥) up none ((conflict_odd c.args.m.now.columns (take c.args.k c.args.m.now.rows)).1 c.requires.refused)

pub returns-in_err-holders-clause-ticks : goal.returns-in_err-holders-clause-ticks
returns-in_err-holders-clause-ticks g c =
    let last = sum_by length (take 1 (drop (c.args.k - 1) c.args.m.now.rows)) in
    let all = first_ones c.args.m.now.rows c.args.k c.requires.row.0 in
    let p = c.requires.refused.is_pair in
    across_early c.args.m.now.columns (sum_by length (take c.args.k c.args.m.now.rows)) (sum_by length (take (c.args.k - 1) c.args.m.now.rows)) last c.args.steps.now c.rows_by_column.new.steps (omega (arith, p.a_from, p.a_to)) all c.rows_by_column.ensures.ticks

pub returns-in_err-walk-clause-ticks : goal.returns-in_err-walk-clause-ticks
returns-in_err-walk-clause-ticks g c =
    let up : c.args.k - 1 + 1 ≡ c.args.k = omega (arith, c.requires.row.0) in
    across_bound c.args.m.now.rows c.args.m.now.columns c.args.k c.args.steps.now c.rows_by_column.new.steps c.search_along.new.steps c.requires.row.0 c.rows_by_column.ensures.ticks (rw up at c.search_along.ensures.ticks)

pub returns-clause-ticks : goal.returns-clause-ticks
returns-clause-ticks g c =
    let up : c.args.k - 1 + 1 ≡ c.args.k = omega (arith, c.requires.row.0) in
    across_bound c.args.m.now.rows c.args.m.now.columns c.args.k c.args.steps.now c.rows_by_column.new.steps c.search_along.new.steps c.requires.row.0 c.rows_by_column.ensures.ticks (rw up at c.search_along.ensures.ticks)

pub returns-clause-turns : goal.returns-clause-turns
returns-clause-turns g c =
    let searched : c.rows_by_column.new.steps + 2 ≤ c.search_along.new.steps = rw c.in-Some.is at c.in_ok-walk.ensures.turns in
    omega (arith, c.in_ok-holders.ensures.turns, searched, last_ones c.args.m.now.rows c.args.k c.requires.row.0 c.requires.row.1)
