use Rattle.std.proofs.Common.{◌≡◌, ◌∙◌, ℕ, ◌+◌, ◌-◌, ◌*◌, ◌≤◌, Vec, Global, length, take, drop, sum_by, sym, subst, inl, inr, arith, rules}
use Rattle.std.proofs.lemmas.Nat.{mul-le}
use Rattle.std.proofs.lemmas.Option.{none-some}
use Rattle.std.proofs.lemmas.List.{length-map}
use Rattle.std.proofs.lemmas.Bool.{cases_eq}
use Rattle.row_model.specs.Cycles.{IsOddWalk}
use Rattle.walk_search.specs.MarkedOnes.{marked_ones, sum_to}
use Rattle.walk_search.specs.Weights.{weight, weights, most_weight, TellsJoining}
use Rattle.walk_search.specs.Neighbours.{AreNeighbours}
use Rattle.odd_cycle.proofs.Items.{none_of}
use Rattle.walk_search.proofs.EndLaws.{IsSearched, searched_none, searched_idle, searched_again, searched_more, searched_all}
use Rattle.walk_search.proofs.NearLaws.{bounded, squared, fewer}
use Rattle.walk_search.proofs.WeightLaws.{tried_more, tried_part, all_most}
use Rattle.walk_search.proofs.TurnBounds.{idle_ticks, idle_square, grown_ticks, grown_square, all_ticks, all_square, end_ticks, end_square}
use Rattle.walk_search.proofs.search.search.Given as given
use Rattle.walk_search.proofs.search.search.Goals as goal
use Rattle.walk_search.proofs.search.search.Goals.{After-grow_from_column}
use Rattle.std.proofs.lemmas.Result.{IfOk-from_err}

-- the number of a turn, as the invariant has it
again : (turn : ℕ) → turn ≡ 0 → turn - 1 ≡ turn + 1 - 1
again turn s = omega (arith, s)

from_one : (turn : ℕ) → (turn ≡ 0 → ⊥) → 1 ≤ turn
from_one turn n = omega (arith, n)

onward : (turn : ℕ) → 1 ≤ turn → turn - 1 + 1 ≡ turn + 1 - 1
onward turn one = omega arith

back : (turn : ℕ) → 1 ≤ turn → turn - 1 + 1 ≡ turn
back turn one = omega arith

less : (turn : ℕ) → turn - 1 ≤ turn + 1 - 1
less turn = omega arith

no_turn : (turn : ℕ) (P : Type 0) → turn + 1 ≡ 0 → P
no_turn turn P e = absurd (omega (arith, e))

pub loop-turn-init : goal.loop-turn-init
loop-turn-init g c =
    let same = c.columns-columns.ensures.columns in
    record {
      searched = searched_none
          c.args.m.now
          c.args.near.now
          c.args.further
          c.in_ok-marks.marks
          c.in_ok-forest.forest
          c.requires.rows
          c.columns-columns.ensures.few_rows
          c.in_ok-marks.ensures.0
          (c.in_ok-marks.ensures.1 ∙ same)
          c.in_ok-marks.ensures.2
          (c.in_ok-forest.ensures.0 ∙ same)
          c.in_ok-forest.ensures.1
          c.in_ok-forest.ensures.2
          c.in_ok-forest.ensures.3;
      first = λ e. omega arith;
      turns = omega arith;
      ticks = omega arith;
      square = omega arith;
    }

pub can_join-requires-clause-gaps : goal.can_join-requires-clause-gaps
can_join-requires-clause-gaps g c = λ t e. absurd (none-some t (sym c.requires.none ∙ e))

pub can_join-requires-clause-column : goal.can_join-requires-clause-column
can_join-requires-clause-column g c =
    let near = c.args.near.now in
    let wide : length near.holders.items ≡ c.args.m.now.columns = omega (arith, c.requires.near.holders.columns, length-map near.holders.items (λ (list : Vec ℕ Global). list.items)) in
    let range = c.columns-columns.ensures in
    elim (cases_eq c.loop-turn.turn 0) [
      | inl s ↦ (omega (arith, c.column_in_turn-a.ensures.first s, range.range.0), omega (arith, c.column_in_turn-a.ensures.first s, range.columns, wide))
      | inr n ↦
          let same = c.column_in_turn-a.ensures.later (omega (arith, n)) in
          (omega (arith, same, n), omega (arith, same, c.loop-turn-test.true, range.columns, wide))
    ]

pub loop-turn-preserved-then-not-can_join : goal.loop-turn-preserved-then-not-can_join
loop-turn-preserved-then-not-can_join g c =
    let m = c.args.m.now in
    let near = c.args.near.now in
    let turn = c.loop-turn.turn in
    let x = c.loop-turn.invariant.searched in
    let tells = c.can_join.ensures m c.args.further c.requires.near in
    let next : IsSearched m near c.args.further c.loop-turn.marks c.loop-turn.forest (turn + 1 - 1) = elim (cases_eq turn 0) [
      | inl s ↦ subst (IsSearched m near c.args.further c.loop-turn.marks c.loop-turn.forest) (again turn s) x
      | inr n ↦
          let one = from_one turn n in
          let same : c.column_in_turn-a.result ≡ turn - 1 + 1 = c.column_in_turn-a.ensures.later one ∙ sym (back turn one) in
          subst (IsSearched m near c.args.further c.loop-turn.marks c.loop-turn.forest) (onward turn one)
          (searched_idle m near c.args.further c.loop-turn.marks c.loop-turn.forest (turn - 1) c.can_join.result x (subst (λ a. TellsJoining m near a c.can_join.result) same tells) c.if-not-can_join.true)
    ] in
    record {
      searched = next;
      first = λ e. no_turn turn _ e;
      turns = omega (arith, c.loop-turn.invariant.turns, c.tick.ensures);
      ticks = idle_ticks _ _ _ _ _ _ _ _ _ c.loop-turn.invariant.ticks c.tick.ensures (tried_part (weight m near) m.columns (turn - 1) (turn + 1 - 1) (less turn));
      square = idle_square _ _ _ _ _ _ _ c.loop-turn.invariant.square c.tick.ensures;
    }

pub grow_from_column-requires-clause-near : goal.grow_from_column-requires-clause-near
grow_from_column-requires-clause-near g c = subst (λ n. AreNeighbours c.args.m.now n c.args.near.now) (sym c.loop-turn.invariant.searched.count) c.requires.near

pub grow_from_column-requires-clause-weighty : goal.grow_from_column-requires-clause-weighty
grow_from_column-requires-clause-weighty g c = (c.can_join.ensures c.args.m.now c.args.further c.requires.near).held c.if-not-can_join.false

-- the steps of one more turn in which trees are grown
module _ (g : given.Over) (c : After-grow_from_column g) where
  some : 1 ≤ weight c.args.m.now c.args.near.now c.column_in_turn-a.result
  some = (c.can_join.ensures c.args.m.now c.args.further c.requires.near).held c.if-not-can_join.false

  -- what was tried before and the pairs of this turn
  pub tried : c.loop-turn.steps + c.args.m.now.columns
      ≤ c.args.steps.now + c.loop-turn.turn + (c.args.m.now.columns + c.args.m.now.columns * sum_to (weight c.args.m.now c.args.near.now) (c.loop-turn.turn + 1 - 1)) + marked_ones (drop c.args.near.now.first c.args.m.now.rows) c.loop-turn.marks
      + weights c.args.m.now c.args.near.now c.loop-turn.forest.nodes.items
  tried =
      let w = weight c.args.m.now c.args.near.now in
      let turn = c.loop-turn.turn in
      elim (cases_eq turn 0) [
        | inl s ↦ omega (arith, c.loop-turn.invariant.first s)
        | inr n ↦
            let one = from_one turn n in
            let same = c.column_in_turn-a.ensures.later one in
            let up = sym (onward turn one) ∙ back turn one in
            let more = tried_more w c.args.m.now.columns turn one (subst (λ a. 1 ≤ w a) same some) in
            rw up (omega (arith, c.loop-turn.invariant.ticks, more))
      ]

  pub in_all : c.grow_from_column.new.steps
      ≤ c.args.steps.now + (c.args.m.now.columns + 1) + (c.args.m.now.columns + c.args.m.now.columns * sum_to (weight c.args.m.now c.args.near.now) c.args.m.now.columns)
      + marked_ones (drop c.args.near.now.first c.args.m.now.rows) c.grow_from_column.new.marks + most_weight c.args.m.now c.args.near.now
  in_all =
      let part = tried_part (weight c.args.m.now c.args.near.now) c.args.m.now.columns (c.loop-turn.turn + 1 - 1) c.args.m.now.columns (omega (arith, c.loop-turn-test.true, c.columns-columns.ensures.columns)) in
      all_ticks _ _ _ _ _ _ _ _ _ _ _ _ tried c.tick.ensures c.grow_from_column.ensures.ticks part (omega (arith, c.loop-turn-test.true, c.columns-columns.ensures.columns))

  pub in_square : c.grow_from_column.new.steps
      ≤ c.args.steps.now + (c.args.m.now.columns + 1) + (c.args.m.now.columns * c.args.m.now.columns + c.args.m.now.columns) + marked_ones (drop c.args.near.now.first c.args.m.now.rows) c.grow_from_column.new.marks
      + most_weight c.args.m.now c.args.near.now
  in_square =
      let few : c.loop-turn.turn * c.args.m.now.columns ≤ c.args.m.now.columns * c.args.m.now.columns = mul-le c.loop-turn.turn c.args.m.now.columns c.args.m.now.columns c.args.m.now.columns (omega (arith, c.loop-turn-test.true, c.columns-columns.ensures.columns)) (omega arith) in
      all_square _ _ _ _ _ _ _ _ _ _ c.loop-turn.invariant.square c.tick.ensures c.grow_from_column.ensures.ticks (omega (arith, c.loop-turn-test.true, c.columns-columns.ensures.columns)) few

-- the same after a turn in which trees were grown
module _ (g : given.Over) (c : After-grow_from_column g) where
  rows_same : c.grow_from_column.new.marks.rows ≡ c.args.further
  rows_same = c.grow_from_column.ensures.sizes.0 ∙ c.loop-turn.invariant.searched.count

  columns_same : c.grow_from_column.new.marks.columns ≡ c.args.m.now.columns
  columns_same = c.grow_from_column.ensures.sizes.1 ∙ c.loop-turn.invariant.searched.search.columns

  has_columns : 1 ≤ c.args.m.now.columns
  has_columns = omega (arith, c.columns-columns.ensures.range.0, c.columns-columns.ensures.columns)

  pub turn_ticks : c.grow_from_column.new.steps + sum_by length (take (c.args.near.now.first + c.args.further) c.args.m.now.rows)
      ≤ c.args.steps.now + 3 * (c.args.m.now.columns * sum_by length (take (c.args.near.now.first + c.args.further) c.args.m.now.rows)) + 2 * c.args.m.now.columns + 1
  turn_ticks = bounded c.args.m.now c.args.near.now c.args.further c.requires.near c.requires.rows has_columns c.grow_from_column.new.marks rows_same columns_same c.args.steps.now c.grow_from_column.new.steps (in_all g c)

  pub turn_square : c.grow_from_column.new.steps + sum_by length (take (c.args.near.now.first + c.args.further) c.args.m.now.rows)
      ≤ c.args.steps.now + 2 * (c.args.m.now.columns * sum_by length (take (c.args.near.now.first + c.args.further) c.args.m.now.rows)) + c.args.m.now.columns * c.args.m.now.columns + 2 * c.args.m.now.columns + 1
  turn_square = squared c.args.m.now c.args.near.now c.args.further c.requires.near c.requires.rows has_columns c.grow_from_column.new.marks rows_same columns_same c.args.steps.now c.grow_from_column.new.steps (in_square g c)

pub loop-turn-preserved : goal.loop-turn-preserved
loop-turn-preserved g c =
    let m = c.args.m.now in
    let near = c.args.near.now in
    let turn = c.loop-turn.turn in
    let marks = c.grow_from_column.new.marks in
    let forest = c.grow_from_column.new.forest in
    let none = none_of c.in_ok-conflict.field-0 c.in_default.not-Some in
    let grown = rw none at c.in_ok-conflict.ensures.found in
    let x = c.loop-turn.invariant.searched in
    let next : IsSearched m near c.args.further marks forest (turn + 1 - 1) = elim (cases_eq turn 0) [
      | inl s ↦ subst (IsSearched m near c.args.further marks forest) (again turn s) (searched_again m near c.args.further c.loop-turn.marks marks c.loop-turn.forest forest (turn - 1) c.column_in_turn-a.result x grown)
      | inr n ↦
          let one = from_one turn n in
          subst (IsSearched m near c.args.further marks forest) (onward turn one) (searched_more m near c.args.further c.loop-turn.marks marks c.loop-turn.forest forest (turn - 1) c.column_in_turn-a.result x grown (c.column_in_turn-a.ensures.later one ∙ sym (back turn one)))
    ] in
    let spent = c.in_ok-conflict.ensures.spent none in
    record {
      searched = next;
      first = λ e. no_turn turn _ e;
      turns = omega (arith, c.loop-turn.invariant.turns, c.tick.ensures, c.in_ok-conflict.ensures.costs);
      ticks = grown_ticks _ _ _ _ _ _ _ _ _ _ _ (tried g (goal.at.loop-turn-preserved g c).After-grow_from_column) c.tick.ensures spent;
      square = grown_square _ _ _ _ _ _ _ _ _ _ c.loop-turn.invariant.square c.tick.ensures spent;
    }

pub returns-in-Some-clause-found : goal.returns-in-Some-clause-found
returns-in-Some-clause-found g c =
    let shows = rw c.in-Some.is at c.in_ok-conflict.ensures.found in
    subst
    (λ n. IsOddWalk c.args.m.now.columns (take (c.args.near.now.first + n) c.args.m.now.rows) c.in_ok-closed_walk.field-0)
    c.loop-turn.invariant.searched.count
    (c.in_ok-closed_walk.ensures c.args.m.now.columns (take (c.args.near.now.first + c.loop-turn.marks.rows) c.args.m.now.rows) shows)

pub returns-clause-found : goal.returns-clause-found
returns-clause-found g c =
    searched_all c.gap_law.ensures c.args.m.now c.args.near.now c.args.further c.loop-turn.marks c.loop-turn.forest (c.loop-turn.turn - 1) c.requires.near c.requires.none c.loop-turn.invariant.searched (omega (arith, c.columns-columns.ensures.columns))

pub returns-in-Some-clause-costs : goal.returns-in-Some-clause-costs
returns-in-Some-clause-costs g c = omega (arith, c.loop-turn.invariant.turns, c.tick.ensures, c.in_ok-conflict.ensures.costs)

pub returns-clause-costs : goal.returns-clause-costs
returns-clause-costs g c = omega (arith, c.loop-turn.invariant.turns, c.loop-turn-test.false, c.loop-turn.auto.turn-end)

pub returns-clause-turns : goal.returns-clause-turns
returns-clause-turns g c = λ _. omega (arith, c.loop-turn.invariant.turns, c.loop-turn-test.false, c.loop-turn.auto.turn-end, c.columns-columns.ensures.columns)

pub returns-in_err-conflict : goal.returns-in_err-conflict
returns-in_err-conflict g c =
    let at = (goal.at.returns-in_err-conflict g c).After-grow_from_column in
    record { found = search rules; ticks = turn_ticks g at; square = turn_square g at; costs = search rules; turns = search rules }

pub returns-in_err-closed_walk : goal.returns-in_err-closed_walk
returns-in_err-closed_walk g c =
    let at = (goal.at.returns-in_err-closed_walk g c).After-grow_from_column in
    record { found = search rules; ticks = turn_ticks g at; square = turn_square g at; costs = search rules; turns = search rules }

pub returns-in-Some-clause-ticks : goal.returns-in-Some-clause-ticks
returns-in-Some-clause-ticks g c = turn_ticks g (goal.at.returns-in-Some-clause-ticks g c).After-grow_from_column

pub returns-in-Some-clause-square : goal.returns-in-Some-clause-square
returns-in-Some-clause-square g c = turn_square g (goal.at.returns-in-Some-clause-square g c).After-grow_from_column

pub returns-clause-ticks : goal.returns-clause-ticks
returns-clause-ticks g c =
    let x = c.loop-turn.invariant.searched in
    let range = c.columns-columns.ensures in
    let part = tried_part (weight c.args.m.now c.args.near.now) c.args.m.now.columns (c.loop-turn.turn - 1) c.args.m.now.columns (omega (arith, c.loop-turn.auto.turn-end, range.columns)) in
    bounded c.args.m.now c.args.near.now c.args.further c.requires.near c.requires.rows (omega (arith, range.range.0, range.columns)) c.loop-turn.marks x.count x.search.columns c.args.steps.now c.loop-turn.steps
    (end_ticks _ _ _ _ _ _ _ _ _ c.loop-turn.invariant.ticks (all_most c.args.m.now c.args.near.now (take (c.args.near.now.first + c.loop-turn.marks.rows) c.args.m.now.rows) c.loop-turn.forest x.search.is_forest) part (omega (arith, c.loop-turn.auto.turn-end, range.columns)))

pub returns-clause-square : goal.returns-clause-square
returns-clause-square g c =
    let x = c.loop-turn.invariant.searched in
    let range = c.columns-columns.ensures in
    let few : c.loop-turn.turn * c.args.m.now.columns ≤ (c.args.m.now.columns + 1) * c.args.m.now.columns = mul-le c.loop-turn.turn c.args.m.now.columns (c.args.m.now.columns + 1) c.args.m.now.columns (omega (arith, c.loop-turn.auto.turn-end, range.columns)) (omega arith) in
    squared c.args.m.now c.args.near.now c.args.further c.requires.near c.requires.rows (omega (arith, range.range.0, range.columns)) c.loop-turn.marks x.count x.search.columns c.args.steps.now c.loop-turn.steps
    (end_square _ _ _ _ _ _ _ c.loop-turn.invariant.square (all_most c.args.m.now c.args.near.now (take (c.args.near.now.first + c.loop-turn.marks.rows) c.args.m.now.rows) c.loop-turn.forest x.search.is_forest) few (omega (arith, c.loop-turn.auto.turn-end, range.columns)))

pub grow_from_column-requires-clause-search : goal.grow_from_column-requires-clause-search
grow_from_column-requires-clause-search g c = c.loop-turn.invariant.searched.search

pub grow_from_column-requires-clause-taken : goal.grow_from_column-requires-clause-taken
grow_from_column-requires-clause-taken g c = c.loop-turn.invariant.searched.taken

pub closed_walk-requires-clause-tree : goal.closed_walk-requires-clause-tree
closed_walk-requires-clause-tree g c = (rw c.in-Some.is at c.in_ok-conflict.ensures.found).is_forest.tree

pub closed_walk-requires-clause-ends : goal.closed_walk-requires-clause-ends
closed_walk-requires-clause-ends g c = (rw c.in-Some.is at c.in_ok-conflict.ensures.found).is_conflict.ends

pub returns-in_err-marks : goal.returns-in_err-marks
returns-in_err-marks g c =
    let none = c.from_residual.ensures.0 in
    let once = fewer c.args.m.now.columns (sum_by length (take (c.args.near.now.first + c.args.further) c.args.m.now.rows)) (omega (arith, c.columns-columns.ensures.range.0, c.columns-columns.ensures.columns)) in
    record { ticks = omega (arith, once); square = omega (arith, once); found = IfOk-from_err c.from_residual.result _ none; costs = IfOk-from_err c.from_residual.result _ none; turns = IfOk-from_err c.from_residual.result _ none }

pub grow_from_column-requires-clause-column : goal.grow_from_column-requires-clause-column
grow_from_column-requires-clause-column g c =
    let range = c.columns-columns.ensures in
    elim (cases_eq c.loop-turn.turn 0) [
      | inl s ↦ (let same = c.column_in_turn-a.ensures.first s in (omega (arith, same, range.range.0), omega (arith, same, range.columns)))
      | inr n ↦ (let same = c.column_in_turn-a.ensures.later (omega (arith, n)) in (omega (arith, same, n), omega (arith, same, c.loop-turn-test.true, range.columns)))
    ]

pub returns-in_err-forest : goal.returns-in_err-forest
returns-in_err-forest g c =
    let once = fewer c.args.m.now.columns (sum_by length (take (c.args.near.now.first + c.args.further) c.args.m.now.rows)) (omega (arith, c.columns-columns.ensures.range.0, c.columns-columns.ensures.columns)) in
    record { found = search rules; ticks = omega (arith, once); square = omega (arith, once); costs = search rules; turns = search rules }
