use Rattle.std.proofs.Common.{◌≡◌, ◌+◌, ◌<◌, length, get_or, arith}
use Rattle.circular_ones.proofs.Outside.{inside_more, outside_more}
use Rattle.circular_ones.proofs.cut.list_outside.Goals as goal
use Rattle.circular_ones.proofs.cut.list_outside.Goals.{then-inside-row+then-row-inside, else-inside-row+in_ok-push, else-inside-row-via-then-inside-row+else-row-inside, else-inside-row-via-else-inside-row}

pub loop-before-preserved : goal.loop-before-preserved
loop-before-preserved c =
    let row = c.args.row.now in
    let inside = c.loop-before.inside in
    let outside = c.loop-before.outside.items in
    elim c.if-inside-row.branch [
      | then-inside-row+then-row-inside w ↦
          rw (w.outside-is, w.inside-is) (inside_more c.args.columns row inside c.loop-before.before outside c.loop-before.invariant w.if-inside-row.true w.if-row-inside.true)
      | else-inside-row+in_ok-push w ↦
          let differs : inside < length row → get_or row inside 0 ≡ c.loop-before.before + 1 → ⊥ =
          λ l e. elim w.else-inside-row.branch [
            | else-inside-row-via-then-inside-row+else-row-inside w' ↦ w'.if-row-inside.false e
            | else-inside-row-via-else-inside-row w' ↦ absurd (omega (arith, l, w'.if-inside-row.false))
          ] in
          rw (w.outside-is, w.inside-is, w.in_ok-push.ensures.items) (outside_more c.args.columns row inside c.loop-before.before outside c.loop-before.invariant differs)
    ]
