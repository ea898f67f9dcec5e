use Rattle.std.proofs.Common.{◌+◌, get_or, length, arith, eq-eqb, eqb-true}
use Rattle.column_order.proofs.Lists.{has_at}
use Rattle.row_model.proofs.Ascending.{row_within}
use Rattle.row_model.proofs.PieceLemmas.{ascends_rises}
use Rattle.others_kept.proofs.Tables.{counts_exactly}
use Rattle.others_kept.proofs.table.Table.keeps_others.Goals as goal

pub row-own-requires : goal.row-own-requires
row-own-requires c = row_within (length c.args.m.now.rows) c.args.rows.now c.requires.rows (get_or c.args.rows.now c.args.i 0) (has_at c.args.rows.now c.args.i c.requires.within.1)

pub joins-requires : goal.joins-requires
joins-requires c = record { row = λ i j d le lt. ascends_rises c.args.m.now.columns 0 c.row-first.result.now i j d c.row-first.ensures.ascending le lt }

pub joins-requires-then-joins-most : goal.joins-requires-then-joins-most
joins-requires-then-joins-most c = record { row = λ i j d le lt. ascends_rises c.args.m.now.columns 0 c.row-own.result.now i j d c.row-own.ensures.ascending le lt }

pub returns-then-joins-most : goal.returns-then-joins-most
returns-then-joins-most c =
    let exactly = counts_exactly c.args.m.now c.args.rows.now c.args.self.now c.requires.counts c.args.order.now c.requires.order c.args.i c.requires.within.0 c.requires.within.1
    c.row-first.result.now c.row-own.result.now c.row-first.ensures.row c.row-own.ensures.row c.row-first.ensures.ascending in (
      λ e. exactly.0 (
        omega (arith, c.if-joins-most.true, c.joins.ensures.joins, c.most-2.ensures),
        omega (arith, eqb-true (c.joins_of_all.result + c.most.result) (c.args.self.now.wanted + c.joins-then-joins-most.result) e, c.joins_of_all.ensures.joins, c.most.ensures, c.joins-then-joins-most.ensures.joins),
      ),
      λ v. eq-eqb (c.joins_of_all.result + c.most.result) (c.args.self.now.wanted + c.joins-then-joins-most.result)
          (let both = exactly.1 v in omega (arith, both.1, c.joins_of_all.ensures.joins, c.most.ensures, c.joins-then-joins-most.ensures.joins)),
    )

pub returns-else-joins-most : goal.returns-else-joins-most
returns-else-joins-most c =
    let exactly = counts_exactly c.args.m.now c.args.rows.now c.args.self.now c.requires.counts c.args.order.now c.requires.order c.args.i c.requires.within.0 c.requires.within.1
    c.row-first.result.now c.row-own.result.now c.row-first.ensures.row c.row-own.ensures.row c.row-first.ensures.ascending in (
      λ e. absurd (c.if-joins-most.false (eqb-true c.joins.result c.most-2.result e)),
      λ v. eq-eqb c.joins.result c.most-2.result (let both = exactly.1 v in omega (arith, both.0, c.joins.ensures.joins, c.most-2.ensures)),
    )
