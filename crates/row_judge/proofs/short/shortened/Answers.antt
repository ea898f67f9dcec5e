use Rattle.std.proofs.Common.{◌≡◌, ℕ, List, IfOk, sym, subst}
use Rattle.row_model.specs.declared.graph.Line.{Line}
use Rattle.row_model.specs.Cycles.{IsOddCycle, IsOddWalk}
use Rattle.odd_cycle.specs.Short.{IsShort}
use Rattle.row_judge.proofs.short.shortened.Goals as goal

pub short_cycle-requires-clause-walk : goal.short_cycle-requires-clause-walk
short_cycle-requires-clause-walk c =
    let m = c.args.m.now in
    let walk : IsOddWalk m.columns m.rows c.args.cycle = record { closed = c.requires.closed; odd = c.requires.simple.odd } in
    let columns = subst (λ (n : ℕ). IsOddWalk n m.rows c.args.cycle) (sym c.columns.ensures.columns) walk in
    (m.rows, subst (λ (ls : List Line). IsOddWalk c.columns.result m.rows ls) (sym c.lines-2.ensures.lines) columns)

pub returns : goal.returns
returns c =
    let m = c.args.m.now in
    let made = c.short_cycle.result in
    let columns : c.columns.result ≡ m.columns = c.columns.ensures.columns in
    record {
      cycle = λ rows cycle.
          let walk : IsOddWalk m.columns rows c.args.cycle = record { closed = cycle.closed; odd = cycle.simple.odd } in
          let there = subst (λ (n : ℕ). IsOddWalk n rows c.args.cycle) (sym columns) walk in
          subst (λ (n : ℕ). IfOk made (IsOddCycle n rows)) columns (c.short_cycle.ensures.cycle rows (subst (λ (ls : List Line). IsOddWalk c.columns.result rows ls) (sym c.lines-2.ensures.lines) there));
      short = subst (λ (n : ℕ). IfOk made (IsShort n)) columns c.short_cycle.ensures.short;
    }
