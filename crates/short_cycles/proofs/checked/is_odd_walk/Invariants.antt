use Rattle.std.proofs.Common.{◌+◌, ◌*◌, ◌≤◌, take}
use Rattle.odd_cycle.specs.Short.{flips}
use Rattle.short_cycles.proofs.CheckedLaws.{IsLed}
use Rattle.short_cycles.proofs.checked.is_odd_walk.Given as goal

abbrev pub invariant-loop-i : goal.invariant-loop-i
invariant-loop-i g l =
    record {
      led : IsLed l.m.columns (take l.rows l.m.rows) l.lines l.i;
      ticks : l.steps ≤ l.fn.steps + 3 * l.i;
      turns : l.fn.steps + 3 * l.i ≤ l.steps + 3 * flips (take l.i l.lines);
    }
