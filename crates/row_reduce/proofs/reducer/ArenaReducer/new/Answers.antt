use Rattle.std.proofs.Common.{◌≡◌, ◌+◌, ◌*◌, length, arith}
use Rattle.std.proofs.lemmas.Result.{IfOk-from_err}
use Rattle.row_reduce.proofs.Staying.{new_proper}
use Rattle.row_reduce.proofs.reducer.ArenaReducer.new.Goals as goal

pub returns-in_err-arena : goal.returns-in_err-arena
returns-in_err-arena c =
    record { columns = IfOk-from_err c.from_residual.result _ c.from_residual.ensures.0; tree = IfOk-from_err c.from_residual.result _ c.from_residual.ensures.0; tied = IfOk-from_err c.from_residual.result _ c.from_residual.ensures.0 }

pub returns-in_err-full : goal.returns-in_err-full
returns-in_err-full c =
    record { columns = IfOk-from_err c.from_residual-in_err-full.result _ c.from_residual-in_err-full.ensures.0; tree = IfOk-from_err c.from_residual-in_err-full.result _ c.from_residual-in_err-full.ensures.0; tied = IfOk-from_err c.from_residual-in_err-full.result _ c.from_residual-in_err-full.ensures.0 }

pub invariant_of-result : goal.invariant_of-result
invariant_of-result c =
    let slots : length c.in_ok-arena.arena.slots ≡ 2 * c.in_ok-arena.arena.columns + 4 = c.layout_law.ensures.size in
    let columns : c.in_ok-arena.arena.columns ≡ c.args.columns = c.in_ok-arena.ensures.columns in
    record {
      one = c.in_ok-arena.ensures.one;
      proper = new_proper c.in_ok-arena.arena c.args.columns columns c.in_ok-arena.ensures.tree (c.universal_law.ensures c.args.columns c.requires.0).0;
      full = omega (arith, c.in_ok-full.ensures.0);
      room = omega (arith, c.in_ok-work.ensures.1);
      chosen = omega (arith, c.in_ok-chosen.ensures.len);
    }

pub returns-in_err-work : goal.returns-in_err-work
returns-in_err-work c =
    record { columns = IfOk-from_err c.from_residual-in_err-work.result _ c.from_residual-in_err-work.ensures.0; tree = IfOk-from_err c.from_residual-in_err-work.result _ c.from_residual-in_err-work.ensures.0; tied = IfOk-from_err c.from_residual-in_err-work.result _ c.from_residual-in_err-work.ensures.0 }

pub new-requires-clause-from : goal.new-requires-clause-from
new-requires-clause-from c = c.requires.0

pub returns-in_err-chosen : goal.returns-in_err-chosen
returns-in_err-chosen c =
    record { columns = IfOk-from_err c.from_residual-in_err-chosen.result _ c.from_residual-in_err-chosen.ensures.0; tree = IfOk-from_err c.from_residual-in_err-chosen.result _ c.from_residual-in_err-chosen.ensures.0; tied = IfOk-from_err c.from_residual-in_err-chosen.result _ c.from_residual-in_err-chosen.ensures.0 }

pub new-requires-clause-to : goal.new-requires-clause-to
new-requires-clause-to c = c.requires.1
