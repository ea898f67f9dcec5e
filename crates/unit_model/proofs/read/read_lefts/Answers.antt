use Rattle.std.proofs.Common.{[], ◌∷◌, length, sym, ap, arith, length-append}
use Rattle.unit_model.proofs.TextLaws.{lefts_step, lefts_stop, lefts_end}
use Rattle.unit_model.proofs.read.read_lefts.Goals as goal

pub returns-in_default-clause-read : goal.returns-in_default-clause-read
returns-in_default-clause-read c = sym (lefts_stop _ _ _ _ _ c.lines-test.true (sym c.in_default.ensures) c.lines.invariant.read)

pub lines-preserved : goal.lines-preserved
lines-preserved c = record {
  read = lefts_step _ _ _ _ _ _ _ _ c.lines-test.true (sym c.in-Some.ensures) c.in_ok-push.ensures.items c.lines.invariant.read;
  many = omega (arith, ap length c.in_ok-push.ensures.items, length-append c.lines.lefts.items (c.in-Some.left ∷ []), c.lines.invariant.many);
}

pub returns-clause-read : goal.returns-clause-read
returns-clause-read c = sym (lefts_end _ _ _ _ _ c.lines-test.false c.lines.invariant.read)
