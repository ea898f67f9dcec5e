use Rattle.std.proofs.Common.{ℕ, ◌+◌, List, [], ◌∷◌, length, sym, ap, subst, arith, length-append}
use Rattle.column_order.proofs.Counts.{order_length}
use Rattle.row_model.specs.declared.lists.Interval.{Interval}
use Rattle.proper_interval.specs.Reaches.{ArePositionsOf, IsIntervalBy}
use Rattle.column_order.proofs.Counts.{order_own}
use Rattle.proper_interval.proofs.ReachLemmas.{one_more, all_intervals}
use Rattle.proper_interval.proofs.FormulaLaws.{intervals_fit}
use Rattle.proper_interval.proofs.formula.intervals.Goals as goal

pub positions-requires-clause-order : goal.positions-requires-clause-order
positions-requires-clause-order c = order_own c.args.g.now.vertices c.args.order.now c.requires.order

pub positions-requires-clause-few : goal.positions-requires-clause-few
positions-requires-clause-few c = omega (arith, order_length c.args.g.now.vertices c.args.order.now c.requires.order, c.vertices-n.ensures.graph.vertices.1)

pub interval_by-requires-clause-positions : goal.interval_by-requires-clause-positions
interval_by-requires-clause-positions c =
    subst (ArePositionsOf c.args.g.now) (sym c.deref.ensures.value) (record { o = c.args.order.now; order = c.requires.order; places = c.in_ok-positions.ensures })

pub loop-before-preserved : goal.loop-before-preserved
loop-before-preserved c =
    let g = c.args.g.now in
    let n = c.loop-before.before in
    let list = c.loop-before.list in
    let a = c.interval_by.result in
    let more = c.in_ok-push.ensures.ok in
    record {
      count = omega (arith, ap (λ (xs : List Interval). length xs) more, length-append list (a ∷ []), c.loop-before.invariant.count);
      each = one_more g c.in_ok-positions.positions.items list c.push.new.self n a c.loop-before.invariant.count more c.loop-before.invariant.each
          (subst (λ (p : List ℕ). IsIntervalBy g p (n + 1) a) c.deref.ensures.value c.interval_by.ensures);
    }

pub returns-clause-formula : goal.returns-clause-formula
returns-clause-formula c =
    all_intervals c.args.g.now c.args.order.now c.in_ok-positions.positions.items c.requires.order c.in_ok-positions.ensures c.vertices-n.ensures.graph c.loop-before.list
    (omega (arith, c.loop-before.invariant.count, c.vertices-n.ensures.vertices)) (λ k l. c.loop-before.invariant.each k (omega (arith, c.vertices-n.ensures.vertices)))

pub returns-clause-model : goal.returns-clause-model
returns-clause-model c = intervals_fit c.args.g.now c.args.order.now c.loop-before.list c.vertices-n.ensures.graph c.requires (returns-clause-formula c)
