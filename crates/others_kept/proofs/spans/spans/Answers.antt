use Rattle.std.proofs.Common.{◌≡◌, [], ◌∷◌, ◌++◌, length, get_or, sym, subst, arith}
use Rattle.std.proofs.lemmas.Grind.{common_steps}
use Rattle.column_order.specs.Orders.{IsOrder, Keeps}
use Rattle.column_order.proofs.Lists.{has_at}
use Rattle.column_order.proofs.Counts.{order_length, order_own}
use Rattle.row_model.specs.Rows.{IsRow}
use Rattle.row_model.proofs.Ascending.{row_within}
use Rattle.others_kept.specs.Others.{numbered}
use Rattle.others_kept.specs.Counts.{IsSpanOf}
use Rattle.others_kept.proofs.EachRow.{row_read, long, now_positions}
use Rattle.others_kept.proofs.Tables.{spans_more}
use Rattle.others_kept.proofs.spans.spans.Goals as goal

pub positions-requires-clause-order : goal.positions-requires-clause-order
positions-requires-clause-order c = order_own c.args.m.now.columns c.args.order.now c.requires.order

pub positions-requires-clause-few : goal.positions-requires-clause-few
positions-requires-clause-few c = omega (arith, order_length c.args.m.now.columns c.args.order.now c.requires.order, c.columns-columns.ensures.columns, c.columns-columns.ensures.range)

pub row-requires : goal.row-requires
row-requires c = row_within (length c.args.m.now.rows) c.args.rows.now c.requires.rows (get_or c.args.rows.now c.loop-k.k-index 0) (has_at c.args.rows.now c.loop-k.k-index c.loop-k-test.true)

pub span_in-requires : goal.span_in-requires
span_in-requires c =
    subst (λ n. IsRow n c.row.result.now) (long c.args.m.now.columns c.args.order.now c.in_ok-positions.positions.items c.deref.result.now c.requires.order c.in_ok-positions.ensures c.deref.ensures.value) c.row.ensures.ascending

pub loop-k-preserved : goal.loop-k-preserved
loop-k-preserved c =
    let i = c.loop-k.k-index in
    let row = c.row.result.now in
    let rows = c.args.m.now.rows in
    let numbers = c.args.rows.now in
    let o = c.args.order.now in
    let found : numbered rows numbers i ≡ row = row_read rows numbers i row c.row.ensures.row in
    let wide : c.args.m.now.columns ≡ length c.deref.result.now = long c.args.m.now.columns o c.in_ok-positions.positions.items c.deref.result.now c.requires.order c.in_ok-positions.ensures c.deref.ensures.value in
    let is : IsSpanOf c.args.m.now.columns o (numbered rows numbers i) c.span_in.result =
    subst (λ r. IsSpanOf c.args.m.now.columns o r c.span_in.result) (sym found)
    (subst (λ n. IsSpanOf n o row c.span_in.result) (sym wide)
    (c.span_in.ensures o (subst (λ n. IsOrder n o) wide c.requires.order)
    (now_positions c.args.m.now.columns o c.in_ok-positions.positions.items c.deref.result.now c.requires.order c.in_ok-positions.ensures c.deref.ensures.value)
    (subst (λ r. Keeps o r) found (c.requires.kept i c.loop-k-test.true)))) in
    let pushed : c.push.new.self.items ≡ c.loop-k.spans.items ++ c.span_in.result ∷ [] = grind (arith, common_steps) in
    spans_more c.args.m.now numbers o i c.loop-k.spans.items c.push.new.self.items c.span_in.result pushed is c.loop-k.invariant
