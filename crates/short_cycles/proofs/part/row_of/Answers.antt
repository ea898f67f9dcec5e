use Rattle.std.proofs.Common.{length, ◌≡◌, ◌+◌, ◌∷◌, ◌++◌, [], ℕ, Vec, Global, sym, ap, subst, arith}
use Rattle.std.proofs.lemmas.Grind.{common_steps}
use Rattle.row_model.specs.Rows.{IsRow}
use Rattle.row_model.proofs.Ascending.{ascends_longer, ascends_wider}
use Rattle.short_cycles.proofs.part.row_of.Goals as goal
use Rattle.short_cycles.proofs.part.row_of.Goals.{then-has_counted+in_ok-push, else-has_counted}

pub loop-i-preserved : goal.loop-i-preserved
loop-i-preserved g c =
    let row : IsRow (c.loop-i.i + 1) c.if-has_counted.row.items =
    elim c.if-has_counted.branch [
      | then-has_counted+in_ok-push w ↦
          let e : c.if-has_counted.row.items ≡ c.loop-i.row.items ++ (c.loop-i.i + 1) ∷ [] = grind (arith, common_steps) in
          subst (IsRow (c.loop-i.i + 1)) (sym e) (ascends_longer c.loop-i.i 0 (c.loop-i.i + 1) c.loop-i.row.items (omega arith) (omega arith) c.loop-i.invariant.row)
      | else-has_counted w ↦
          let e : c.if-has_counted.row.items ≡ c.loop-i.row.items = ap (λ (v : Vec ℕ Global). v.items) w.row-is in
          subst (IsRow (c.loop-i.i + 1)) (sym e) (ascends_wider c.loop-i.i (c.loop-i.i + 1) 0 c.loop-i.row.items (omega arith) c.loop-i.invariant.row)
    ] in
    record { row = row; ticks = omega (arith, c.loop-i.invariant.ticks, c.has_counted.ensures.ticks) }

pub loop-i-init : goal.loop-i-init
loop-i-init g c = record { row = subst (IsRow 0) (sym c.new-row.ensures.items) tt; ticks = omega arith }

pub overflow_cast-i : goal.overflow_cast-i
overflow_cast-i g c = omega (arith, c.loop-i-test.true, c.requires.few)

pub overflow_add-i : goal.overflow_add-i
overflow_add-i g c = omega (arith, c.loop-i-test.true, c.requires.few)

pub has_counted-requires : goal.has_counted-requires
has_counted-requires g c = c.requires.row

pub returns-in_err-push-clause-ticks : goal.returns-in_err-push-clause-ticks
returns-in_err-push-clause-ticks g c = omega (arith, c.loop-i.invariant.ticks, c.has_counted.ensures.ticks, c.loop-i-test.true)

pub returns : goal.returns
returns g c = record {
  row = ascends_wider c.loop-i.i (length c.args.columns.now) 0 c.loop-i.row.items (omega (arith, c.loop-i.auto.i-end)) c.loop-i.invariant.row;
  ticks = omega (arith, c.loop-i.invariant.ticks, c.loop-i.auto.i-end);
  turns = omega (arith, c.loop-i.invariant.ticks, c.loop-i-test.false);
}
