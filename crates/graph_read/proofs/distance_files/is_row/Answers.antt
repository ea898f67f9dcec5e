use Rattle.std.proofs.Common.{◌≡◌, ◌≢◌, ◌-◌, ◌==◌, suc, sym, arith}
use Rattle.std.proofs.lemmas.Bool.{ne_eqb, and_right}
use Rattle.graph_model.specs.Distances.{distance}
use Rattle.graph_read.specs.DistanceSteps.{is_symmetric_at}
use Rattle.graph_read.proofs.DistanceLemmas.{not_symmetric}
use Rattle.graph_read.proofs.PlaceLemmas.{place_within}
use Rattle.graph_read.proofs.distance_files.is_row.Goals as goal

pub returns-then-values-x : goal.returns-then-values-x
returns-then-values-x c =
    let values = c.args.values.now in
    let n = c.args.n in
    let x = c.args.x in
    let y = c.loop-y.y in
    let at : suc y - 1 ≡ y = omega arith in
    let apart : distance n values x (suc y) ≢ distance n values (suc y) x = rw at c.if-values-x.true in
    sym (and_right (distance n values x x == 0) (is_symmetric_at n values x (x - 1)) (not_symmetric n values x y (x - 1) (ne_eqb _ _ apart) c.loop-y-test.true))

pub bounds-values-x : goal.bounds-values-x
bounds-values-x c = rw c.requires.whole (place_within c.args.x c.args.n (c.args.x - 1) (c.args.x - 1) (omega (arith, c.requires.row.0)) (omega (arith, c.requires.row.0, c.requires.row.1)))

pub bounds-values-y : goal.bounds-values-y
bounds-values-y c = rw c.requires.whole (place_within c.args.x c.args.n c.loop-y.y (c.args.x - 1) (omega (arith, c.loop-y-test.true)) (omega (arith, c.requires.row.0, c.requires.row.1)))

pub bounds-values-x-in-loop-y : goal.bounds-values-x-in-loop-y
bounds-values-x-in-loop-y c = rw c.requires.whole (place_within c.args.x c.args.n (c.args.x - 1) c.loop-y.y (omega (arith, c.requires.row.0)) (omega (arith, c.loop-y-test.true, c.requires.row.1)))
