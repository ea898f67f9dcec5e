use Rattle.std.proofs.Common.{◌≡◌, ◌∙◌, ◌+◌, ◌*◌, ◌≤◌, sum_by, [], length, take, drop, IsTrue, sym, subst, arith}
use Rattle.std.proofs.lemmas.List.{nil_from_length}
use Rattle.column_order.specs.Orders.{has}
use Rattle.row_model.specs.Graph.{row_at, HasOddWalk}
use Rattle.row_model.specs.Cycles.{IsOddWalk}
use Rattle.walk_search.specs.Neighbours.{AreNeighbours}
use Rattle.odd_cycle.proofs.Items.{none_of, item_end, has_item}
use Rattle.walk_search.proofs.HolderLaws.{further_same}
use Rattle.walk_search.proofs.WeightLaws.{row_weighty}
use Rattle.walk_search.proofs.NearLaws.{followed, fewer}
use Rattle.walk_search.proofs.EndLaws.{IsSearched, searched_none, along_none, along_all}
use Rattle.walk_search.proofs.search.search_along.Given as given
use Rattle.walk_search.proofs.search.search_along.Goals as goal
use Rattle.walk_search.proofs.search.search_along.Goals.{In_ok-forest, After-grow_from_column}

-- nothing is reached yet
begun : (g : given.Over) (c : In_ok-forest g) → IsSearched c.args.m.now c.args.near.now 1 c.in_ok-marks.marks c.in_ok-forest.forest 0
begun g c =
    let same = c.columns-columns.ensures.columns in
    searched_none c.args.m.now c.args.near.now 1 c.in_ok-marks.marks c.in_ok-forest.forest c.requires.rows c.columns-columns.ensures.few_rows c.in_ok-marks.ensures.0 (c.in_ok-marks.ensures.1 ∙ same) c.in_ok-marks.ensures.2 (c.in_ok-forest.ensures.0 ∙ same)
    c.in_ok-forest.ensures.1 c.in_ok-forest.ensures.2 c.in_ok-forest.ensures.3

pub returns-in_default-clause-found : goal.returns-in_default-clause-found
returns-in_default-clause-found g c =
    let m = c.args.m.now in
    let near = c.args.near.now in
    let x = begun g (goal.at.returns-in_default-clause-found g c).In_ok-forest in
    let row = row_at m.rows (near.first + 1) in
    let none = none_of c.next_counted.result c.in_default.not-Some in
    let empty : row_at (drop near.first m.rows) 1 ≡ [] = further_same m.rows near.first 1 (near.first + 1) (omega arith) (omega arith) ∙ nil_from_length row (omega (arith, item_end row 0 (c.next_counted.ensures.column ∙ none))) in
    let is : AreNeighbours m c.in_ok-marks.marks.rows near = subst (λ n. AreNeighbours m n near) (sym x.count) c.requires.near in
    λ odd. along_none c.gap_law.ensures m near c.in_ok-marks.marks c.in_ok-forest.forest is x.search x.taken x.count empty (subst (λ n. HasOddWalk m.columns (take (near.first + n) m.rows)) (sym x.count) odd)

pub grow_from_column-requires-clause-weighty : goal.grow_from_column-requires-clause-weighty
grow_from_column-requires-clause-weighty g c =
    let near = c.args.near.now in
    let range = c.in-Some.ensures.range in
    row_weighty c.args.m.now near 1 c.requires.rows c.requires.near (near.first + 1) c.in-Some.a (omega arith) (omega arith) range.0 range.1 (has_item (row_at c.args.m.now.rows (near.first + 1)) 0 c.in-Some.a c.in-Some.ensures.column)

pub returns-in-None-clause-found : goal.returns-in-None-clause-found
returns-in-None-clause-found g c =
    let m = c.args.m.now in
    let near = c.args.near.now in
    let marks = c.grow_from_column.new.marks in
    let r = rw c.in-None.is at c.in_ok-grow_from_column.ensures.found in
    let count : marks.rows ≡ 1 = c.grow_from_column.ensures.sizes.0 ∙ c.in_ok-marks.ensures.0 in
    let is : AreNeighbours m marks.rows near = subst (λ n. AreNeighbours m n near) (sym count) c.requires.near in
    let range = c.in-Some.ensures.range in
    let there = has_item (row_at m.rows (near.first + 1)) 0 c.in-Some.a c.in-Some.ensures.column in
    let held : IsTrue (has (row_at (drop near.first m.rows) 1) c.in-Some.a) = subst (λ row. IsTrue (has row c.in-Some.a)) (sym (further_same m.rows near.first 1 (near.first + 1) (omega arith) (omega arith))) there in
    λ odd. along_all c.gap_law.ensures m near marks c.grow_from_column.new.forest is r.0 r.2 count c.in-Some.a range.0 range.1 held r.3 (subst (λ n. HasOddWalk m.columns (take (near.first + n) m.rows)) (sym count) odd)

-- the bound, where a tree was grown
ended : (g : given.Over) (c : After-grow_from_column g) →
    c.grow_from_column.new.steps + sum_by length (take (c.args.near.now.first + 1) c.args.m.now.rows) ≤ c.args.steps.now + c.args.m.now.columns * sum_by length (take (c.args.near.now.first + 1) c.args.m.now.rows)
    + c.args.m.now.columns * sum_by length (take 1 (drop c.args.near.now.first c.args.m.now.rows)) + c.args.m.now.columns + 1
ended g c =
    let same = c.columns-columns.ensures in
    followed c.args.m.now c.args.near.now 1 c.requires.near c.requires.rows (omega (arith, same.range.0, same.columns)) c.grow_from_column.new.marks (c.grow_from_column.ensures.sizes.0 ∙ c.in_ok-marks.ensures.0)
    (c.grow_from_column.ensures.sizes.1 ∙ c.in_ok-marks.ensures.1 ∙ same.columns) c.args.steps.now c.grow_from_column.new.steps (omega (arith, c.grow_from_column.ensures.ticks, c.in-Some.ensures.ticks))

pub returns-in_err-grow_from_column-clause-ticks : goal.returns-in_err-grow_from_column-clause-ticks
returns-in_err-grow_from_column-clause-ticks g c = ended g (goal.at.returns-in_err-grow_from_column-clause-ticks g c).After-grow_from_column

pub returns-in-None-clause-ticks : goal.returns-in-None-clause-ticks
returns-in-None-clause-ticks g c = ended g (goal.at.returns-in-None-clause-ticks g c).After-grow_from_column

pub returns-in_err-closed_walk-in-Some-2-clause-ticks : goal.returns-in_err-closed_walk-in-Some-2-clause-ticks
returns-in_err-closed_walk-in-Some-2-clause-ticks g c = ended g (goal.at.returns-in_err-closed_walk-in-Some-2-clause-ticks g c).After-grow_from_column

pub returns-clause-ticks : goal.returns-clause-ticks
returns-clause-ticks g c = ended g (goal.at.returns-clause-ticks g c).After-grow_from_column

pub returns-clause-found : goal.returns-clause-found
returns-clause-found g c =
    let count : c.grow_from_column.new.marks.rows ≡ 1 = c.grow_from_column.ensures.sizes.0 ∙ c.in_ok-marks.ensures.0 in
    let start : c.in_ok-marks.marks.rows ≡ 1 = c.in_ok-marks.ensures.0 in
    let shows = rw c.in-Some-2.is at c.in_ok-grow_from_column.ensures.found in
    subst (λ n. IsOddWalk c.args.m.now.columns (take (c.args.near.now.first + n) c.args.m.now.rows) c.in_ok-closed_walk-in-Some-2.field-0) start
    (c.in_ok-closed_walk-in-Some-2.ensures c.args.m.now.columns (take (c.args.near.now.first + c.in_ok-marks.marks.rows) c.args.m.now.rows) shows)

pub grow_from_column-requires-clause-search : goal.grow_from_column-requires-clause-search
grow_from_column-requires-clause-search g c = (begun g (goal.at.grow_from_column-requires-clause-search g c).In_ok-forest).search

pub grow_from_column-requires-clause-near : goal.grow_from_column-requires-clause-near
grow_from_column-requires-clause-near g c = subst (λ n. AreNeighbours c.args.m.now n c.args.near.now) (sym c.in_ok-marks.ensures.0) c.requires.near

pub grow_from_column-requires-clause-taken : goal.grow_from_column-requires-clause-taken
grow_from_column-requires-clause-taken g c = (begun g (goal.at.grow_from_column-requires-clause-taken g c).In_ok-forest).taken

pub closed_walk-requires-clause-tree : goal.closed_walk-requires-clause-tree
closed_walk-requires-clause-tree g c = (rw c.in-Some-2.is at c.in_ok-grow_from_column.ensures.found).is_forest.tree

pub closed_walk-requires-clause-ends : goal.closed_walk-requires-clause-ends
closed_walk-requires-clause-ends g c = (rw c.in-Some-2.is at c.in_ok-grow_from_column.ensures.found).is_conflict.ends

pub returns-in_err-marks-clause-ticks : goal.returns-in_err-marks-clause-ticks
returns-in_err-marks-clause-ticks g c = omega (arith, fewer c.args.m.now.columns (sum_by length (take (c.args.near.now.first + 1) c.args.m.now.rows)) (omega (arith, c.columns-columns.ensures.range.0, c.columns-columns.ensures.columns)))

pub next_counted-requires : goal.next_counted-requires
next_counted-requires g c = (omega arith, c.requires.rows)

pub returns-in_err-forest-clause-ticks : goal.returns-in_err-forest-clause-ticks
returns-in_err-forest-clause-ticks g c = omega (arith, fewer c.args.m.now.columns (sum_by length (take (c.args.near.now.first + 1) c.args.m.now.rows)) (omega (arith, c.columns-columns.ensures.range.0, c.columns-columns.ensures.columns)))

pub grow_from_column-requires-clause-column : goal.grow_from_column-requires-clause-column
grow_from_column-requires-clause-column g c = c.in-Some.ensures.range

pub returns-in_default-clause-ticks : goal.returns-in_default-clause-ticks
returns-in_default-clause-ticks g c =
    let calm = rw (none_of c.next_counted.result c.in_default.not-Some) at c.next_counted.ensures.ticks in
    omega (arith, calm, fewer c.args.m.now.columns (sum_by length (take (c.args.near.now.first + 1) c.args.m.now.rows)) (omega (arith, c.columns-columns.ensures.range.0, c.columns-columns.ensures.columns)))

pub returns-clause-turns : goal.returns-clause-turns
returns-clause-turns g c = omega (arith, c.in-Some.ensures.ticks, c.in_ok-grow_from_column.ensures.costs)
