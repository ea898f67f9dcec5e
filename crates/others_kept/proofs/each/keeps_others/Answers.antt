use Rattle.std.proofs.Common.{◌≡◌, sym, subst, refl, arith, get_or, below_more, length}
use Rattle.std.proofs.lemmas.Bool.{both_ways}
use Rattle.column_order.specs.Orders.{IsOrder, Keeps}
use Rattle.column_order.proofs.Counts.{order_length}
use Rattle.row_model.specs.Graph.{row_at}
use Rattle.row_model.specs.Rows.{IsRow}
use Rattle.column_order.proofs.Lists.{has_at}
use Rattle.row_model.proofs.Ascending.{ascends_within}
use Rattle.others_kept.proofs.EachRow.{long, kept_row}
use Rattle.others_kept.proofs.each.keeps_others.Goals as goal
use Rattle.others_kept.proofs.each.keeps_others.Goals.{else-j-i-via-then-j-i+else-not-is_kept, else-j-i-via-else-j-i}

pub positions-requires-clause-order : goal.positions-requires-clause-order
positions-requires-clause-order c =
    let is = c.in_ok-is_order.ensures.0 c.if-not-branch.false in
    subst (λ n. IsOrder n c.args.order.now) (sym (order_length c.columns.result c.args.order.now is)) is

pub positions-requires-clause-few : goal.positions-requires-clause-few
positions-requires-clause-few c =
    let is = c.in_ok-is_order.ensures.0 c.if-not-branch.false in
    omega (arith, order_length c.columns.result c.args.order.now is, c.columns.ensures.range)

pub row-requires : goal.row-requires
row-requires c =
    let w = ascends_within (length c.args.m.now.rows) 0 (get_or c.args.rows.now c.loop-j.j 0) c.args.rows.now c.requires.rows (has_at c.args.rows.now c.loop-j.j c.loop-j-test.true) in
    (omega (arith, w.0), w.1)

pub is_kept-requires : goal.is_kept-requires
is_kept-requires c =
    let is = subst (λ n. IsOrder n c.args.order.now) c.columns.ensures.columns (c.in_ok-is_order.ensures.0 c.if-not-branch.false) in
    subst (λ n. IsRow n c.row.result.now) (long c.args.m.now.columns c.args.order.now c.in_ok-positions.positions.items c.deref.result.now is c.in_ok-positions.ensures c.deref.ensures.value) c.row.ensures.ascending

pub returns-then-not-is_kept : goal.returns-then-not-is_kept
returns-then-not-is_kept c =
    let is = subst (λ n. IsOrder n c.args.order.now) c.columns.ensures.columns (c.in_ok-is_order.ensures.0 c.if-not-branch.false) in
    let k = kept_row c.args.m.now.columns c.args.order.now c.in_ok-positions.positions.items c.deref.result.now is c.in_ok-positions.ensures c.deref.ensures.value c.args.m.now.rows
    (get_or c.args.rows.now c.loop-j.j 0) c.row.result.now c.is_kept.result c.is_kept.ensures c.row.ensures.row in (
      λ h. absurd (both_ways _ refl h),
      λ v. absurd (both_ways c.is_kept.result c.if-not-is_kept.true (k.1 (v.kept c.loop-j.j c.loop-j-test.true (λ e. omega (arith, e, c.if-j-i.true))))),
    )

pub loop-j-preserved : goal.loop-j-preserved
loop-j-preserved c =
    let is = subst (λ n. IsOrder n c.args.order.now) c.columns.ensures.columns (c.in_ok-is_order.ensures.0 c.if-not-branch.false) in
    let here : (c.loop-j.j ≡ c.args.i → ⊥) → Keeps c.args.order.now (row_at c.args.m.now.rows (get_or c.args.rows.now c.loop-j.j 0)) =
    elim c.else-j-i.branch [
      | else-j-i-via-then-j-i+else-not-is_kept w ↦ λ n. (kept_row c.args.m.now.columns c.args.order.now c.in_ok-positions.positions.items w.deref.result.now is c.in_ok-positions.ensures w.deref.ensures.value c.args.m.now.rows
          (get_or c.args.rows.now c.loop-j.j 0) w.row.result.now w.is_kept.result w.is_kept.ensures w.row.ensures.row).0 w.if-not-is_kept.false
      | else-j-i-via-else-j-i w ↦ λ n. absurd (n (omega (arith, w.if-j-i.false)))
    ] in
    λ j l n. below_more (λ k. (k ≡ c.args.i → ⊥) → Keeps c.args.order.now (row_at c.args.m.now.rows (get_or c.args.rows.now k 0))) c.loop-j.j c.loop-j.invariant here j l n

pub returns : goal.returns
returns c =
    let is = subst (λ n. IsOrder n c.args.order.now) c.columns.ensures.columns (c.in_ok-is_order.ensures.0 c.if-not-branch.false) in (
      λ t. record { order = is; kept = λ j l n. c.loop-j.invariant j (omega (arith, l, c.loop-j-test.false)) n },
      λ v. refl,
    )
