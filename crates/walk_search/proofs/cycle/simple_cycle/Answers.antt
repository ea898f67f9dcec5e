use Rattle.std.proofs.Common.{ℕ, List, sym, subst}
use Rattle.row_model.specs.declared.graph.Line.{Line}
use Rattle.row_model.specs.Cycles.{IsClosedWalk}
use Rattle.walk_search.proofs.cycle.simple_cycle.Goals as goal

pub short_cycle-requires-clause-walk : goal.short_cycle-requires-clause-walk
short_cycle-requires-clause-walk c =
    let rows = c.args.m.now.rows in
    let columns = subst (λ (n : ℕ). IsClosedWalk n rows c.args.walk.now) (sym c.columns.ensures.columns) c.requires in (
      rows,
      record {
        closed = subst (λ (ls : List Line). IsClosedWalk c.columns.result rows ls) (sym c.lines.ensures.lines) columns;
        odd = c.lines.ensures.odd;
      },
    )
