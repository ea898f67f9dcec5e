use Rattle.std.proofs.Common.{◌≤◌, ◌*◌, length, arith, add-one}
use Rattle.robinson_balls.proofs.RowLemmas.{few_balls, room_for}
use Rattle.robinson_balls.proofs.rows.balls.Goals as goal

pub push_balls-requires-clause-room : goal.push_balls-requires-clause-room
push_balls-requires-clause-room c =
    let d = c.args.d.now in
    let before = c.loop-before.before in
    let rows : length c.loop-before.balls.rows ≤ before * d.items = rw c.loop-before.invariant (few_balls d before) in
    omega (arith, rows, room_for before d.items (omega arith) c.items.ensures.distances.items.1)

pub loop-before-preserved : goal.loop-before-preserved
loop-before-preserved c =
    let next = add-one c.loop-before.before in
    rw next (rw (c.loop-before.invariant, next) at c.in_ok-push_balls.ensures)
