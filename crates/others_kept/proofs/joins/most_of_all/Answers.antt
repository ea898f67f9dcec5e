use Rattle.std.proofs.Common.{◌≡◌, ◌+◌, ◌-◌, ℕ, List, length, get_or, ap, sym, subst, arith, below_more}
use Rattle.column_order.proofs.Lists.{has_at}
use Rattle.row_model.specs.Rows.{IsRow}
use Rattle.row_model.proofs.Ascending.{row_within, ascends_few}
use Rattle.others_kept.specs.Others.{numbered}
use Rattle.others_kept.proofs.EachRow.{row_read}
use Rattle.others_kept.proofs.Sums.{sum_below-next}
use Rattle.others_kept.proofs.joins.most_of_all.Goals as goal

pub row-requires : goal.row-requires
row-requires c = row_within (length c.args.m.now.rows) c.args.rows.now c.requires (get_or c.args.rows.now c.loop-k.k-index 0) (has_at c.args.rows.now c.loop-k.k-index c.loop-k-test.true)

pub overflow_add-count : goal.overflow_add-count
overflow_add-count c =
    omega (
      arith,
      c.loop-k.invariant.few,
      c.most-count.ensures,
      ascends_few c.args.m.now.columns 0 c.row.result.now c.row.ensures.ascending,
      c.columns-columns.ensures.columns,
      c.columns-columns.ensures.range,
      c.columns-columns.ensures.few_rows,
      ascends_few (length c.args.m.now.rows) 0 c.args.rows.now c.requires,
      c.loop-k-test.true,
    )

pub loop-k-preserved : goal.loop-k-preserved
loop-k-preserved c =
    let i = c.loop-k.k-index in
    let row = c.row.result.now in
    let all : ℕ → List ℕ = numbered c.args.m.now.rows c.args.rows.now in
    let found : all i ≡ row = row_read c.args.m.now.rows c.args.rows.now i row c.row.ensures.row in
    let long : length (all i) - 1 ≡ length row - 1 = ap (λ (r : List ℕ). length r - 1) found in
    record {
      count = omega (arith, c.loop-k.invariant.count, sum_below-next (i + 1) i (λ j. length (all j) - 1) (omega arith), c.most-count.ensures, long);
      few = omega (arith, c.loop-k.invariant.few, c.most-count.ensures, ascends_few c.args.m.now.columns 0 row c.row.ensures.ascending, c.columns-columns.ensures.columns, c.columns-columns.ensures.range);
      rows = below_more (λ j. IsRow c.args.m.now.columns (all j)) i c.loop-k.invariant.rows (subst (IsRow c.args.m.now.columns) (sym found) c.row.ensures.ascending);
    }

pub returns-clause-few : goal.returns-clause-few
returns-clause-few c =
    omega (arith, c.loop-k.invariant.few, c.columns-columns.ensures.few_rows, ascends_few (length c.args.m.now.rows) 0 c.args.rows.now c.requires, c.loop-k.auto.k-index-end)
