use Rattle.std.proofs.Common.{ℕ, get_or, refl, subst, arith, below_more}
use Rattle.std.proofs.lemmas.Bool.{iff_false}
use Rattle.std.proofs.lemmas.List.{get_or_default}
use Rattle.row_model.specs.declared.lists.Interval.{Interval}
use Rattle.proper_interval.specs.Models.{ShareNumber}
use Rattle.proper_interval.specs.Fitting.{AreApart}
use Rattle.proper_interval.proofs.model.lies_apart.Goals as goal

pub returns-then-meet : goal.returns-then-meet
returns-then-meet c = (
  λ t. absurd (cc),
  λ h. absurd (h c.loop-b.b-index (record { left = 0; right = 0 }) c.loop-b-test.true (c.meet.ensures.0 c.if-meet.true)),
)

pub loop-b-preserved : goal.loop-b-preserved
loop-b-preserved c =
    let others = c.args.others.now in
    let none : Interval = record { left = 0; right = 0 } in
    below_more (λ (k : ℕ). (d : Interval) → AreApart c.args.a (get_or others k d)) c.loop-b.b-index c.loop-b.invariant
    (λ d s. iff_false c.meet.ensures c.if-meet.false (subst (ShareNumber c.args.a) (get_or_default others c.loop-b.b-index d none c.loop-b-test.true) s))

pub returns : goal.returns
returns c = (λ t k d l. c.loop-b.invariant k (omega arith) d, λ h. refl)
