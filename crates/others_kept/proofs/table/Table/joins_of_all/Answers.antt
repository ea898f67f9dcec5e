use Rattle.std.proofs.Common.{◌≡◌, ℕ, suc, ◌+◌, ◌-◌, drop, get_or, ap, inl, inr, arith}
use Rattle.column_order.proofs.Lists.{has_at, place_at}
use Rattle.column_order.proofs.Counts.{order_length, order_once, order_within}
use Rattle.column_order.specs.Orders.{place}
use Rattle.others_kept.specs.Counts.{rows_with}
use Rattle.others_kept.proofs.Sums.{sum_below-next}
use Rattle.others_kept.proofs.table.Table.joins_of_all.Goals as goal

pub rows_with-requires-clause-first : goal.rows_with-requires-clause-first
rows_with-requires-clause-first c =
    order_within c.args.m.now.columns c.args.order.now c.requires.order _ (has_at c.args.order.now (c.loop-i.i - 1) (omega (arith, c.loop-i-test.true)))

pub rows_with-requires-clause-second : goal.rows_with-requires-clause-second
rows_with-requires-clause-second c =
    order_within c.args.m.now.columns c.args.order.now c.requires.order _ (has_at c.args.order.now c.loop-i.i (omega (arith, c.loop-i-test.true)))

pub rows_with-requires-clause-other : goal.rows_with-requires-clause-other
rows_with-requires-clause-other c e =
    let o = c.args.order.now in
    let once = order_once c.args.m.now.columns o c.requires.order in
    let first : place o (get_or o (c.loop-i.i - 1) 0) ≡ c.loop-i.i - 1 = place_at o once (c.loop-i.i - 1) (omega (arith, c.loop-i-test.true)) in
    let second : place o (get_or o c.loop-i.i 0) ≡ c.loop-i.i = place_at o once c.loop-i.i (omega (arith, c.loop-i-test.true)) in
    omega (arith, first, second, ap (place o) e, c.loop-i.auto.i)

pub overflow_add-count : goal.overflow_add-count
overflow_add-count c =
    omega (arith, c.loop-i.invariant.few, c.loop-i-test.true, order_length c.args.m.now.columns c.args.order.now c.requires.order, c.columns-columns.ensures.columns, c.columns-columns.ensures.range)

pub loop-i-preserved : goal.loop-i-preserved
loop-i-preserved c =
    let i = c.loop-i.i in
    let o = c.args.order.now in
    let f : ℕ → ℕ = λ k. rows_with c.args.m.now.rows (drop 1 c.args.rows.now) (get_or o k 0) (get_or o (suc k) 0) in
    let next : suc (i - 1) ≡ i = omega (arith, c.loop-i.auto.i) in
    let here : f (i - 1) ≡ rows_with c.args.m.now.rows (drop 1 c.args.rows.now) (get_or o (i - 1) 0) (get_or o i 0) =
    ap (λ k. rows_with c.args.m.now.rows (drop 1 c.args.rows.now) (get_or o (i - 1) 0) (get_or o k 0)) next in
    record {
      count = omega (arith, c.loop-i.invariant.count, sum_below-next (i + 1 - 1) (i - 1) f (omega (arith, c.loop-i.auto.i)), here, c.rows_with.ensures);
      few = omega (arith, c.loop-i.invariant.few, c.loop-i.auto.i);
      within = inr (omega (arith, c.loop-i-test.true));
    }

pub returns-clause-few : goal.returns-clause-few
returns-clause-few c =
    let long = order_length c.args.m.now.columns c.args.order.now c.requires.order in
    elim c.loop-i.invariant.within [
      | inl l ↦ omega (arith, c.loop-i.invariant.few, l)
      | inr l ↦ omega (arith, c.loop-i.invariant.few, l, long, c.columns-columns.ensures.columns, c.columns-columns.ensures.range)
    ]
