use Rattle.std.proofs.Common.{ℕ, List}
use Rattle.row_model.specs.Cycles.{IsClosedWalk}
use Rattle.odd_cycle.proofs.FoldLaws.{IsKept, Follows}
use Rattle.odd_cycle.proofs.fold.short_cycle.Given as goal

abbrev pub invariant-loop-line : goal.invariant-loop-line
invariant-loop-line l =
    record {
      kept : IsKept l.columns l.walk l.numbers l.path.items;
      follows : (rows : List (List ℕ)) → IsClosedWalk l.columns rows l.walk → Follows l.columns rows l.walk l.line-index l.path.items l.turned;
    }
