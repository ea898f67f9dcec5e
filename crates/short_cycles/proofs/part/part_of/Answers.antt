use Rattle.std.proofs.Common.{◌≡◌, ◌+◌, ◌*◌, ◌≤◌, ℕ, List, length, ap, sym, subst, arith}
use Rattle.std.proofs.lemmas.Grind.{common_steps}
use Rattle.row_model.specs.Rows.{IsRow, RowList}
use Rattle.short_cycles.proofs.PartLaws.{row_paid}
use Rattle.short_cycles.proofs.part.part_of.Goals as goal
use Rattle.short_cycles.proofs.part.part_of.Goals.{then-k-ge1+then-k-rows+else-not-take_from+in_ok-row+in_ok-push_row, else-k-ge1}

pub loop-k-preserved : goal.loop-k-preserved
loop-k-preserved g c =
    let x = c.loop-k.invariant in
    let wide = length c.args.columns.now in
    elim c.if-k-ge1.branch [
      | then-k-ge1+then-k-rows+else-not-take_from+in_ok-row+in_ok-push_row w ↦
          let count : length c.if-k-ge1.part.rows ≡ length c.loop-k.part.rows + 1 = grind (arith, common_steps) in
          let row : c.loop-k.steps + wide ≤ c.if-k-ge1.steps = omega (arith, w.steps-is, w.in_ok-row.ensures.turns) in
          record {
            columns = grind (arith, common_steps);
            rows = omega (arith, count, x.rows);
            less = omega (arith, w.left-is, w.take_from.ensures.less, x.less);
            ticks = omega (arith, w.left-is, w.steps-is, w.take_from.ensures.paid w.if-not-take_from.false, w.row_of.ensures.ticks, x.ticks);
            turns = subst (λ n. c.args.steps.now + n * wide ≤ c.if-k-ge1.steps) (sym count) (row_paid (length c.loop-k.part.rows) wide c.args.steps.now c.loop-k.steps c.if-k-ge1.steps x.turns row);
          }
      | else-k-ge1 w ↦ record {
        columns = grind (arith, common_steps);
        rows = grind (arith, common_steps);
        less = omega (arith, w.left-is, x.less);
        ticks = omega (arith, w.left-is, w.steps-is, x.ticks);
        turns = subst (λ p. c.args.steps.now + length p.rows * wide ≤ c.if-k-ge1.steps) (sym w.part-is) (omega (arith, w.steps-is, x.turns));
      }
    ]

pub returns : goal.returns
returns g c = record { ticks = c.loop-k.invariant.ticks; less = c.loop-k.invariant.less; turns = c.loop-k.invariant.turns }

pub returns-in_err-row-clause-ticks : goal.returns-in_err-row-clause-ticks
returns-in_err-row-clause-ticks g c = omega (arith, c.take_from.ensures.paid c.if-not-take_from.false, c.row_of.ensures.ticks, c.loop-k.invariant.ticks)

pub returns-in_err-row-clause-less : goal.returns-in_err-row-clause-less
returns-in_err-row-clause-less g c = omega (arith, c.take_from.ensures.less, c.loop-k.invariant.less)

pub returns-in_err-push_row-clause-ticks : goal.returns-in_err-push_row-clause-ticks
returns-in_err-push_row-clause-ticks g c = omega (arith, c.take_from.ensures.paid c.if-not-take_from.false, c.row_of.ensures.ticks, c.loop-k.invariant.ticks)

pub returns-in_err-push_row-clause-less : goal.returns-in_err-push_row-clause-less
returns-in_err-push_row-clause-less g c = omega (arith, c.take_from.ensures.less, c.loop-k.invariant.less)

pub returns-then-not-take_from : goal.returns-then-not-take_from
returns-then-not-take_from g c = record {
  ticks = omega (arith, c.take_from.ensures.less, c.loop-k.invariant.ticks);
  less = omega (arith, c.take_from.ensures.less, c.loop-k.invariant.less);
  turns = c.loop-k.invariant.turns;
}

pub push_row-requires : goal.push_row-requires
push_row-requires g c = record {
  row = subst (λ (n : ℕ). IsRow n c.deref.result.now) (sym c.loop-k.invariant.columns) (subst (λ (row : List ℕ). IsRow (length c.args.columns.now) row) (sym c.deref.ensures.value) c.in_ok-row.ensures.row);
  room = omega (arith, c.loop-k.invariant.rows, c.loop-k-test.true, c.requires.rows);
}

pub loop-k-init : goal.loop-k-init
loop-k-init g c = record {
  columns = ap (λ (p : RowList). p.columns) c.in_ok-part.ensures;
  rows = omega (arith, ap (λ (p : RowList). length p.rows) c.in_ok-part.ensures);
  less = omega arith;
  ticks = omega arith;
  turns = subst (λ (p : RowList). c.args.steps.now + length p.rows * length c.args.columns.now ≤ c.args.steps.now) (sym c.in_ok-part.ensures) (omega arith);
}
