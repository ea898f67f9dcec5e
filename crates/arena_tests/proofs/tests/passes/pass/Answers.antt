use Rattle.std.proofs.Common.{rules, ◌≡◌, ◌∙◌, ◌+◌, ◌-◌, ◌*◌, ◌≤◌, length, [], IsTrue, ap, sym, arith}
use Rattle.std.proofs.lemmas.Option.{get_or_from_slice_get}
use Rattle.row_model.specs.Graph.{row_at}
use Rattle.bubble_pass.specs.Marks.{size_of}
use Rattle.arena_tests.proofs.tests.passes.pass.Goals as goal

pub bubble-requires-clause-room : goal.bubble-requires-clause-room
bubble-requires-clause-room g c =
    let t : IsTrue c.is_for.result = search rules in
    let e : size_of c.args.work.now ≡ 2 * c.args.m.now.columns + 4 = search rules in
    let l : length c.args.arena.now.slots ≡ 2 * c.args.arena.now.columns + 4 = c.layout_law.ensures.size in
    let k : c.args.arena.now.columns ≡ c.args.m.now.columns = search rules in
    omega arith

pub bubble-requires-clause-some : goal.bubble-requires-clause-some
bubble-requires-clause-some g c = λ e.
    let same : row_at c.args.m.now.rows c.args.k ≡ c.row.result.now = get_or_from_slice_get c.args.m.now.rows (c.args.k - 1) c.row.result.now [] c.row.ensures.row in
    let some : 1 ≤ length c.row.result.now = search rules in
    let none : length c.row.result.now ≡ 0 = ap length (sym same ∙ e) in
    omega arith
