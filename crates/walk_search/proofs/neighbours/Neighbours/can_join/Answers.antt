use Rattle.std.proofs.Common.{◌≡◌, ◌∙◌, ℕ, ◌≤◌, true, false, eqb-true, take, sym, arith}
use Rattle.std.proofs.lemmas.Bool.{eqb-false}
use Rattle.row_model.specs.Rows.{RowList}
use Rattle.walk_search.specs.Neighbours.{AreNeighbours}
use Rattle.walk_search.specs.Weights.{held_for}
use Rattle.walk_search.proofs.WeightLaws.{held_is, joining_held, joining_none, joining_gap}
use Rattle.walk_search.proofs.neighbours.Neighbours.can_join.Goals as goal
use Rattle.walk_search.proofs.neighbours.Neighbours.can_join.Goals.{After-is_empty}

-- the list that is asked has the further rows that are held for the column
module _ (c : After-is_empty) (m : RowList) (further : ℕ) (is : AreNeighbours m further c.args.self.now) where
  held : held_for c.args.self.now c.args.column ≡ c.index.result.now.len
  held = omega (arith, held_is m c.args.self.now further is c.args.column c.requires.column.0 c.requires.column.1 c.index.result.now c.index.ensures, c.index.result.now.ok.0)

  pub some_held : c.is_empty.result ≡ false → 1 ≤ held_for c.args.self.now c.args.column
  some_held more = omega (arith, held, eqb-false c.index.result.now.len 0 (sym c.is_empty.ensures ∙ more))

  pub none_held : c.is_empty.result ≡ true → held_for c.args.self.now c.args.column ≡ 0
  none_held done = omega (arith, held, eqb-true c.index.result.now.len 0 (sym c.is_empty.ensures ∙ done))

pub returns-then-not-is_empty : goal.returns-then-not-is_empty
returns-then-not-is_empty c = λ m further is.
    joining_held m c.args.self.now further is c.args.column c.requires.column.0 c.requires.column.1
    (some_held (goal.at.returns-then-not-is_empty c).After-is_empty m further is c.if-not-is_empty.true)

pub returns-in-None : goal.returns-in-None
returns-in-None c = λ m further is.
    joining_none m c.args.self.now further is c.args.column c.requires.column.0 c.requires.column.1
    (none_held (goal.at.returns-in-None c).After-is_empty m further is c.if-not-is_empty.false) c.in-None.is

pub returns-in-Some : goal.returns-in-Some
returns-in-Some c = λ m further is.
    joining_gap m c.args.self.now further is c.args.column c.requires.column.0 c.requires.column.1 c.in-Some.gaps c.is_at_open_gap.result
    (none_held (goal.at.returns-in-Some c).After-is_empty m further is c.if-not-is_empty.false) c.in-Some.is
    (c.is_at_open_gap.ensures (take c.args.self.now.first m.rows) (is.gaps c.in-Some.gaps c.in-Some.is).gaps)
