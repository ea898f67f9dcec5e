use Rattle.std.proofs.Common.{◌≡◌, ◌∙◌, ◌<◌, ◌≤◌, ◌+◌, ◌++◌, [], ◌∷◌, length, map, drop, get_or, slice_range, leb, sym, ap, subst, arith, append-nil, length-append}
use Rattle.row_model.proofs.Filtered.{filtered_row}
use Rattle.row_model.specs.Rows.{RowList}
use Rattle.robinson_balls.specs.Balls.{between, ball}
use Rattle.robinson_balls.specs.Neighbours.{with_items, EndsBall, GoesOn}
use Rattle.robinson_balls.proofs.Growing.{AreNearest, nearest_to, grown_ball}
use Rattle.robinson_balls.proofs.Rims.{rims, rims_are, as_many, rim_here, no_rim_here, behind}
use Rattle.robinson_balls.proofs.RowLemmas.{pushed, same_matrix}
use Rattle.robinson_balls.proofs.rows.push_balls.Goals as goal
use Rattle.robinson_balls.proofs.rows.push_balls.Goals.{then-ends_ball+in_ok-grow+in_ok-push_row, else-ends_ball}

pub grow-requires-clause-lacks : goal.grow-requires-clause-lacks
grow-requires-clause-lacks c =
    let near = c.in_ok-neighbours.neighbours.items in
    let k = c.loop-k.k in
    let p = c.index.result.now in
    let l : k < length near = omega arith in
    let ends : EndsBall near k = rw c.deref.ensures.value at (c.ends_ball.ensures.ends c.if-ends_ball.true) in
    let grown = nearest_to near p c.loop-k.first k c.loop-k.ball.items c.loop-k.invariant.begun l c.loop-k.invariant.grown in
    rw c.deref-then-ends_ball.ensures.value
    (grown_ball c.args.d.now c.args.x near c.in_ok-neighbours.ensures k p (with_items (slice_range near c.loop-k.first (k + 1)) c.loop-k.ball.items) l c.index.ensures ends grown)

pub push_row-requires-clause-row : goal.push_row-requires-clause-row
push_row-requires-clause-row c =
    let columns : c.loop-k.balls.columns ≡ c.args.d.now.items = c.loop-k.invariant.columns ∙ c.requires.columns in
    rw (columns, c.deref-then-ends_ball-2.ensures.value, c.in_ok-grow.ensures) (filtered_row (λ y. leb (between c.args.d.now c.args.x y) c.index.result.now.distance) c.args.d.now.items)

pub push_row-requires-clause-room : goal.push_row-requires-clause-room
push_row-requires-clause-room c =
    let near = c.in_ok-neighbours.neighbours.items in
    let l : c.loop-k.k < length near = omega arith in
    omega (arith, l, c.loop-k.invariant.few, as_many c.args.d.now c.args.x near c.in_ok-neighbours.ensures)

pub loop-k-preserved : goal.loop-k-preserved
loop-k-preserved c =
    let d = c.args.d.now in
    let near = c.in_ok-neighbours.neighbours.items in
    let x = c.args.x in
    let k = c.loop-k.k in
    let l : k < length near = omega arith in
    elim c.if-ends_ball.branch [
      | then-ends_ball+in_ok-grow+in_ok-push_row w ↦
          let p = w.index.result.now in
          let is : p ≡ get_or near k p = w.index.ensures in
          let ends : EndsBall near k = rw c.deref.ensures.value at (c.ends_ball.ensures.ends w.if-ends_ball.true) in
          let grown = nearest_to near p c.loop-k.first k c.loop-k.ball.items c.loop-k.invariant.begun l c.loop-k.invariant.grown in
          let whole : with_items (slice_range near c.loop-k.first (k + 1)) c.loop-k.ball.items ≡ ball d x p.distance =
          grown_ball d x near c.in_ok-neighbours.ensures k p (with_items (slice_range near c.loop-k.first (k + 1)) c.loop-k.ball.items) l is ends grown in
          let items : c.if-ends_ball.ball.items ≡ ball d x p.distance = rw w.ball-is w.in_ok-grow.ensures in
          let row : w.deref-then-ends_ball-2.result.now ≡ ball d x p.distance = w.deref-then-ends_ball-2.ensures.value ∙ w.in_ok-grow.ensures in
          let after : c.if-ends_ball.balls ≡ record c.loop-k.balls { rows = c.loop-k.balls.rows ++ w.deref-then-ends_ball-2.result.now ∷ [] } = w.balls-is ∙ w.in_ok-push_row.ensures.ok in
          record {
            begun = omega (arith, w.first-is);
            grown = rw w.first-is (subst (AreNearest near (k + 1)) (whole ∙ sym items) grown);
            row = rw items (filtered_row (λ y. leb (between d x y) p.distance) d.items);
            columns = ap (λ (m : RowList). m.columns) after ∙ c.loop-k.invariant.columns;
            rest = pushed c.loop-k.balls c.if-ends_ball.balls (ball d x) w.deref-then-ends_ball-2.result.now p.distance (rims (drop k near)) (rims (drop (k + 1) near)) _ after row
                (rim_here near k p l is ends) c.loop-k.invariant.rest;
            few = omega (arith, c.loop-k.invariant.few, ap (λ (m : RowList). length m.rows) after, length-append c.loop-k.balls.rows (w.deref-then-ends_ball-2.result.now ∷ []));
          }
      | else-ends_ball w ↦
          let on : GoesOn near k = rw c.deref.ensures.value at (c.ends_ball.ensures.goes_on w.if-ends_ball.false) in
          record {
            begun = omega (arith, c.loop-k.invariant.begun, w.first-is);
            grown = rw (w.first-is, w.ball-is) c.loop-k.invariant.grown;
            row = rw w.ball-is c.loop-k.invariant.row;
            columns = ap (λ (m : RowList). m.columns) w.balls-is ∙ c.loop-k.invariant.columns;
            rest = rw (w.balls-is, ← no_rim_here near k (record { item = 0; distance = 0 }) on) c.loop-k.invariant.rest;
            few = omega (arith, c.loop-k.invariant.few, ap (λ (m : RowList). length m.rows) w.balls-is);
          }
    ]

pub returns : goal.returns
returns c =
    let d = c.args.d.now in
    let x = c.args.x in
    let near = c.in_ok-neighbours.neighbours.items in
    let end : length near ≤ c.loop-k.k = omega arith in
    let rows : c.loop-k.balls.rows ≡ c.args.balls.now.rows ++ map (ball d x) (rims near) =
    sym (append-nil c.loop-k.balls.rows) ∙ sym (ap (λ l. c.loop-k.balls.rows ++ map (ball d x) (rims l)) (behind near c.loop-k.k end)) ∙ c.loop-k.invariant.rest in
    same_matrix c.loop-k.balls c.args.balls.now.columns _ c.loop-k.invariant.columns
    (rows ∙ ap (λ l. c.args.balls.now.rows ++ map (ball d x) l) (rims_are d x near c.in_ok-neighbours.ensures))
