use Rattle.std.proofs.Common.{◌*◌, ◌≤◌, MatchOption, take, sum_by, length, subst, zero-add, arith, rules}
use Rattle.std.proofs.lemmas.Nat.{mul-le}
use Rattle.std.proofs.lemmas.Result.{IfOk-weaker}
use Rattle.row_model.specs.Graph.{HasOddWalk}
use Rattle.row_model.specs.Cycles.{IsOddWalk}
use Rattle.walk_search.proofs.NearLaws.{near_none, AreWithin, are_within}
use Rattle.walk_search.proofs.search.walk_among.Given as given
use Rattle.walk_search.proofs.search.walk_among.Goals as goal
use Rattle.walk_search.proofs.search.walk_among.Goals.{After-rows_by_column, After-search}

-- what is counted before the search
held : (g : given.Over) (c : After-rows_by_column g) → AreWithin c.args.m.now.columns (sum_by length (take c.args.rows c.args.m.now.rows)) c.args.steps.now c.rows_by_column.new.steps
held g c =
    let ones = sum_by length (take c.args.rows c.args.m.now.rows) in
    let some : 1 ≤ c.args.m.now.columns = omega (arith, c.columns-columns.ensures.range.0, c.columns-columns.ensures.columns) in
    let once : 1 * ones ≤ c.args.m.now.columns * ones = mul-le 1 ones c.args.m.now.columns ones some (omega arith) in
    are_within c.args.m.now.columns ones c.args.steps.now c.rows_by_column.new.steps some (omega (arith, c.rows_by_column.ensures.ticks, once)) (omega (arith, c.rows_by_column.ensures.ticks, once))

-- and with the search
searched : (g : given.Over) (c : After-search g) → AreWithin c.args.m.now.columns (sum_by length (take c.args.rows c.args.m.now.rows)) c.args.steps.now c.search.new.steps
searched g c =
    are_within c.args.m.now.columns (sum_by length (take c.args.rows c.args.m.now.rows)) c.args.steps.now c.search.new.steps
    (omega (arith, c.columns-columns.ensures.range.0, c.columns-columns.ensures.columns))
    (omega (arith, c.rows_by_column.ensures.ticks, rw (zero-add c.args.rows) at c.search.ensures.ticks))
    (omega (arith, c.rows_by_column.ensures.ticks, rw (zero-add c.args.rows) at c.search.ensures.square))

pub search-requires-clause-near : goal.search-requires-clause-near
search-requires-clause-near g c =
    near_none c.args.m.now c.args.rows c.in_ok-holders.holders c.in_ok-holders.ensures.holders

pub returns-in_err-holders : goal.returns-in_err-holders
returns-in_err-holders g c =
    let w = held g (goal.at.returns-in_err-holders g c).After-rows_by_column in
    record { found = search rules; ticks = w.ticks; few = w.few; square = w.square; reads = search rules; turns = search rules }

pub returns : goal.returns
returns g c =
    let w = searched g (goal.at.returns g c).After-search in
    let columns = c.args.m.now.columns in
    let rows = c.args.m.now.rows in
    record {
      found = IfOk-weaker c.search.result _ _ (λ found. subst (λ n. MatchOption found (HasOddWalk columns (take n rows) → ⊥) (IsOddWalk columns (take n rows))) (zero-add c.args.rows)) c.search.ensures.found;
      ticks = w.ticks;
      few = w.few;
      square = w.square;
      reads = IfOk-weaker c.search.result _ _ (λ found costs. omega (arith, c.in_ok-holders.ensures.turns, costs)) c.search.ensures.costs;
      turns = IfOk-weaker c.search.result _ _ (λ found turns none. omega (arith, c.in_ok-holders.ensures.turns, turns none)) c.search.ensures.turns;
    }
