use Rattle.std.proofs.Common.{◌≡◌, ◌∙◌, ℕ, ◌+◌, ◌-◌, ◌*◌, ◌<◌, length, get_or, refl, ap, arith}
use Rattle.std.proofs.lemmas.List.{length-replicate}
use Rattle.column_order.proofs.Counts.{order_length, order_own}
use Rattle.unit_model.specs.Models.{at_vertex}
use Rattle.unit_model.proofs.LinkLemmas.{vertex_read}
use Rattle.unit_model.proofs.WalkLemmas.{vertex, place_is, cut_there}
use Rattle.unit_model.proofs.DrawnLemmas.{none_small, linked_here, drawn_begin, drawn_put}
use Rattle.unit_model.proofs.FinishLemmas.{next_base, drawn_done, none_done, cut_none, base_none, all_drawn}
use Rattle.unit_model.proofs.rule.left_ends.Goals.{in-Some, in-None}
use Rattle.unit_model.proofs.rule.left_ends.Goals as goal

pub positions-requires-clause-order : goal.positions-requires-clause-order
positions-requires-clause-order c = order_own c.args.g.now.vertices c.args.order.now c.requires.order

pub positions-requires-clause-few : goal.positions-requires-clause-few
positions-requires-clause-few c = omega (arith, order_length c.args.g.now.vertices c.args.order.now c.requires.order, c.vertices.ensures.graph.vertices.1)

pub bounds-order-0 : goal.bounds-order-0
bounds-order-0 c = omega (arith, order_length c.args.g.now.vertices c.args.order.now c.requires.order, c.vertices.ensures.graph.vertices.0)

pub begin-requires : goal.begin-requires
begin-requires c =
    let some = order_length c.args.g.now.vertices c.args.order.now c.requires.order in
    let first = vertex c.args.g.now c.args.order.now c.vertices.ensures.graph c.requires 0 (omega (arith, some, c.vertices.ensures.graph.vertices.0)) in
    record { vertex = (first.0, omega (arith, ap length c.in_ok-drawing.ensures.levels, length-replicate {A = ℕ} (length c.args.order.now) 0, first.1, some)) }

pub loop-i-init : goal.loop-i-init
loop-i-init c =
    let g = c.args.g.now in
    let o = c.args.order.now in
    let h = c.vertices.ensures.graph in
    let some = order_length g.vertices o c.requires.order in
    let l : 0 < length o = omega (arith, some, h.vertices.0) in
    let made = c.in_ok-drawing.ensures in
    drawn_begin g o h c.requires c.in_ok-drawing.drawing.levels.items c.begin.new.self.levels.items c.begin.new.self.before.items c.begin.new.self.lefts.items 0 0 l (cut_none g o h c.requires)
    (none_done g o h c.requires c.begin.new.self.lefts.items (ap length c.begin.ensures.lefts ∙ made.lefts ∙ some)) (base_none g o h c.requires l)
    (ap length made.levels ∙ length-replicate {A = ℕ} (length o) 0 ∙ some) (ap length c.begin.ensures.before ∙ made.before ∙ some)
    (λ v. none_small c.in_ok-drawing.drawing.levels.items (length o) v made.levels) c.begin.ensures.levels

pub put_before-requires-clause-v : goal.put_before-requires-clause-v
put_before-requires-clause-v c =
    let v = vertex c.args.g.now c.args.order.now c.vertices.ensures.graph c.requires c.loop-i.i c.loop-i-test.true in
    (v.0, omega (arith, v.1, c.loop-i.invariant.long_levels))

pub put_before-requires-clause-room : goal.put_before-requires-clause-room
put_before-requires-clause-room c =
    omega (
      arith,
      c.loop-i.invariant.small c.in-Some.u,
      c.from-step.ensures,
      c.vertices.ensures.vertices,
      c.loop-i-test.true,
      order_length c.args.g.now.vertices c.args.order.now c.requires.order,
      c.vertices.ensures.graph.vertices.1,
    )

pub overflow_sub-order : goal.overflow_sub-order
overflow_sub-order c =
    let v = vertex c.args.g.now c.args.order.now c.vertices.ensures.graph c.requires (c.loop-i.i - 1) (omega (arith, c.loop-i-test.true)) in
    v.0

pub index-requires : goal.index-requires
index-requires c =
    let v = vertex c.args.g.now c.args.order.now c.vertices.ensures.graph c.requires (c.loop-i.i - 1) (omega (arith, c.loop-i-test.true)) in
    omega (arith, v.0, v.1, c.loop-i.invariant.long_levels)

pub overflow_add-level : goal.overflow_add-level
overflow_add-level c =
    let v = vertex c.args.g.now c.args.order.now c.vertices.ensures.graph c.requires (c.loop-i.i - 1) (omega (arith, c.loop-i-test.true)) in
    omega (
      arith,
      vertex_read c.loop-i.drawing.levels.items c.loop-i.drawing.levels.items (get_or c.args.order.now (c.loop-i.i - 1) 0) c.index.result.now (omega (arith, v.0, v.1, c.loop-i.invariant.long_levels)) c.index.ensures refl,
      c.loop-i.invariant.small (get_or c.args.order.now (c.loop-i.i - 1) 0),
      c.from-step.ensures,
      c.vertices.ensures.vertices,
      c.loop-i-test.true,
      order_length c.args.g.now.vertices c.args.order.now c.requires.order,
      c.vertices.ensures.graph.vertices.1,
    )

pub number-requires-clause-low : goal.number-requires-clause-low
number-requires-clause-low c = λ v.
    omega (arith, c.loop-i.invariant.small v, c.loop-i-test.true, order_length c.args.g.now.vertices c.args.order.now c.requires.order, c.vertices.ensures.graph.vertices.1)

pub begin-requires-in-None : goal.begin-requires-in-None
begin-requires-in-None c =
    let v = vertex c.args.g.now c.args.order.now c.vertices.ensures.graph c.requires c.loop-i.i c.loop-i-test.true in
    record { vertex = (v.0, omega (arith, v.1, ap length c.number.ensures.levels, c.loop-i.invariant.long_levels)) }

pub loop-i-preserved : goal.loop-i-preserved
loop-i-preserved c =
    let g = c.args.g.now in
    let o = c.args.order.now in
    let h = c.vertices.ensures.graph in
    let r = c.requires in
    let i = c.loop-i.i in
    let l = c.loop-i-test.true in
    let d = c.loop-i.invariant in
    let levels = c.loop-i.drawing.levels.items in
    let before = c.loop-i.drawing.before.items in
    let lefts = c.loop-i.drawing.lefts.items in
    let step : c.from-step.result ≡ g.vertices = omega (arith, c.from-step.ensures, c.vertices.ensures.vertices) in
    elim c.match-first_before.branch [
      | in-Some w ↦
          let new = w.put_before.ensures in
          rw (w.drawing-is, w.start-is, new.lefts) (
          drawn_put g o h r levels before lefts c.loop-i.start i w.in-Some.u d l w.in-Some.ensures.some w.put_before.new.self.levels.items w.put_before.new.self.before.items
          (rw (← step) new.levels) new.before
          )
      | in-None w ↦
          let vi = vertex g o h r i l in
          let cut = cut_there g o h r i (get_or o i 0) vi (place_is g o h r i l) w.in-None.ensures.none in
          let linked = linked_here g o levels before lefts c.loop-i.start i d in
          let numbered = w.number.ensures.lefts d.list linked in
          let last = vertex g o h r (i - 1) (omega (arith, l)) in
          let level = vertex_read levels levels (get_or o (i - 1) 0) w.index.result.now (omega (arith, last.0, last.1, d.long_levels)) w.index.ensures refl in
          let base : w.index.result.now + 2 * c.from-step.result ≡ at_vertex levels (get_or o (i - 1) 0) + 2 * g.vertices = omega (arith, level, step) in
          let next = w.begin-in-None.ensures in
          rw (w.drawing-is, w.start-is, next.before, next.lefts, w.number.ensures.before) (
          drawn_begin g o h r levels w.begin-in-None.new.self.levels.items before w.number.new.self.lefts.items i (at_vertex levels (get_or o (i - 1) 0) + 2 * g.vertices) l cut
          (drawn_done g o h r levels before lefts c.loop-i.start i d cut w.number.new.self.lefts.items numbered)
          (next_base g o h r levels before lefts c.loop-i.start i d cut l) d.long_levels d.long_before d.small
          (rw (← base, ← w.number.ensures.levels) next.levels)
          )
    ]

pub number-requires-2-clause-low : goal.number-requires-2-clause-low
number-requires-2-clause-low c = λ v.
    omega (arith, c.loop-i.invariant.small v, c.loop-i.invariant.inside, order_length c.args.g.now.vertices c.args.order.now c.requires.order, c.vertices.ensures.graph.vertices.1)

pub returns-clause-ends : goal.returns-clause-ends
returns-clause-ends c =
    (all_drawn c.args.g.now c.args.order.now c.vertices.ensures.graph c.requires c.loop-i.drawing.levels.items c.loop-i.drawing.before.items c.loop-i.drawing.lefts.items c.loop-i.start c.loop-i.i
    c.loop-i.invariant c.loop-i-test.false c.number-2.new.self.lefts.items c.number-2.ensures.lefts).ends

pub returns-clause-model : goal.returns-clause-model
returns-clause-model c =
    (all_drawn c.args.g.now c.args.order.now c.vertices.ensures.graph c.requires c.loop-i.drawing.levels.items c.loop-i.drawing.before.items c.loop-i.drawing.lefts.items c.loop-i.start c.loop-i.i
    c.loop-i.invariant c.loop-i-test.false c.number-2.new.self.lefts.items c.number-2.ensures.lefts).near

pub returns-clause-low : goal.returns-clause-low
returns-clause-low c =
    (all_drawn c.args.g.now c.args.order.now c.vertices.ensures.graph c.requires c.loop-i.drawing.levels.items c.loop-i.drawing.before.items c.loop-i.drawing.lefts.items c.loop-i.start c.loop-i.i
    c.loop-i.invariant c.loop-i-test.false c.number-2.new.self.lefts.items c.number-2.ensures.lefts).low
