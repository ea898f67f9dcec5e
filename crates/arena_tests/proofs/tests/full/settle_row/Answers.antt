use Rattle.std.proofs.Common.{rules, ◌≡◌, ◌+◌, ◌*◌, length, IsTrue, arith}
use Rattle.arena_tests.proofs.tests.full.settle_row.Goals as goal

pub settle-requires-clause-room : goal.settle-requires-clause-room
settle-requires-clause-room g c =
    let t : IsTrue c.is_for.result = search rules in
    let e : c.args.work.now.size ≡ 2 * c.args.m.now.columns + 4 = search rules in
    let l : length c.args.arena.now.slots ≡ 2 * c.args.arena.now.columns + 4 = c.layout_law.ensures.size in
    let k : c.args.arena.now.columns ≡ c.args.m.now.columns = search rules in
    omega arith
