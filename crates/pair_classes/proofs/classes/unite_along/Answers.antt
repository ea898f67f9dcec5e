use Rattle.std.proofs.Common.{◌≡◌, ◌∙◌, ◌+◌, IsTrue, sym, subst, arith}
use Rattle.std.proofs.lemmas.Grind.{common_steps}
use Rattle.column_order.specs.Orders.{has}
use Rattle.row_model.specs.Graph.{row_at}
use Rattle.pair_classes.proofs.ClassLaws.{IsUnitingAlong, along_held, along_lacking}
use Rattle.pair_classes.proofs.classes.unite_along.Goals as goal
use Rattle.pair_classes.proofs.classes.unite_along.Goals.{then-not-has_counted, else-not-has_counted}

pub loop-d-preserved : goal.loop-d-preserved
loop-d-preserved g c =
    let k = c.args.k in
    let columns = c.args.m.now.columns in
    let row = row_at c.args.m.now.rows k in
    let d = c.loop-d.d + 1 in
    let ps = c.loop-d.parents in
    let before = c.loop-d.invariant.along in
    elim c.if-not-has_counted.branch [
      | then-not-has_counted w ↦
          let made = w.unite_with.ensures in
          let next = along_lacking columns k row c.args.parents.now ps c.loop-d.d d before (omega arith) w.unite_with.new.parents made.parents made.labels made.even in
          record { along = subst (λ x. IsUnitingAlong columns k row c.args.parents.now x d) (sym w.parents-is) next; counted = omega (arith, w.steps-is, made.ticks, c.has_counted.ensures.ticks, c.loop-d.invariant.counted); turns = omega (arith, w.steps-is, made.ticks, c.has_counted.ensures.ticks, c.loop-d.invariant.turns) }
      | else-not-has_counted w ↦
          let held : IsTrue (has row d) = sym c.has_counted.ensures.has ∙ w.if-not-has_counted.false in
          let next = along_held columns k row c.args.parents.now ps c.loop-d.d d before (omega arith) held in
          record { along = subst (λ x. IsUnitingAlong columns k row c.args.parents.now x d) (sym w.parents-is) next; counted = omega (arith, w.steps-is, c.has_counted.ensures.ticks, c.loop-d.invariant.counted); turns = omega (arith, w.steps-is, c.has_counted.ensures.ticks, c.loop-d.invariant.turns) }
    ]

pub returns-clause-labels : goal.returns-clause-labels
returns-clause-labels g c =
    let end : c.loop-d.d ≡ c.args.m.now.columns = omega (arith, c.columns-d-end.ensures.columns, c.loop-d-test.false, c.loop-d.auto.d-end) in
    let all = subst (IsUnitingAlong c.args.m.now.columns c.args.k (row_at c.args.m.now.rows c.args.k) c.args.parents.now c.loop-d.parents) end c.loop-d.invariant.along in
    λ label u. all.labels label u

pub returns-clause-ticks : goal.returns-clause-ticks
returns-clause-ticks g c = grind (arith, common_steps)
