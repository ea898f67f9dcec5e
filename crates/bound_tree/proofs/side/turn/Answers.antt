use Rattle.std.proofs.Common.{◌∙◌, slice_index_or, set, ap}
use Rattle.std.proofs.lemmas.List.{get_or_default}
use Rattle.std.proofs.lemmas.List.Edits.{map_over_more}
use Rattle.bound_tree.specs.declared.stretch.Stretch.{Stretch}
use Rattle.bound_tree.specs.Stretches.{stretch}
use Rattle.bound_tree.specs.Sides.{turned_stretch}
use Rattle.bound_tree.proofs.side.turn.Goals as goal

pub loop-stretch-preserved : goal.loop-stretch-preserved
loop-stretch-preserved c =
    let ys = c.loop-stretch.stretches in
    let i = c.loop-stretch.stretch-index in
    let x : Stretch = slice_index_or ys i (stretch 0 0 0) in
    ap (set ys i) c.turned.ensures ∙
    map_over_more (turned_stretch c.args.columns) c.args.stretches.now ys i x c.loop-stretch-test.true c.loop-stretch.invariant
    (get_or_default ys i (stretch 0 0 0) x (rw c.loop-stretch.auto.stretches c.loop-stretch-test.true))
