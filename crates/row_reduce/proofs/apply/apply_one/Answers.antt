use Rattle.std.proofs.Common.{◌≡◌, ℕ, ap, subst, true, arith}
use Rattle.arena_model.specs.Layout.{Layout}
use Rattle.bubble_pass.specs.Marks.{Marks}
use Rattle.templates_q.specs.Span.{IsRunMeant}
use Rattle.row_reduce.specs.declared.template.Template.{Template}
use Rattle.row_reduce.specs.declared.template.Template.TheVariants.{L1, P1, P2, P3, P4, P5, P6, Q1, Q2, Q3}
use Rattle.row_reduce.proofs.OneApplied.{same_treated, by_name, stands_p2, stands_p3, stands_p4, stands_p5, stands_p6, stands_q2, stands_q3}
use Rattle.row_reduce.specs.Becomes.{CanApply}
use Rattle.row_reduce.proofs.Quiet.{IsQuiet, is_quiet}
use Rattle.row_reduce.proofs.Unmoved.{not_meant}
use Rattle.row_reduce.proofs.apply.apply_one.Goals as goal

pub returns-in-L1-clause-treated : goal.returns-in-L1-clause-treated
returns-in-L1-clause-treated g c = same_treated _ _ _ _ _ _ c.layout_law.ensures c.requires.ready c.apply_l1.ensures.arena c.apply_l1.ensures.work (ap (λ x. x.index) c.apply_l1.ensures.answer)

pub returns-in-P1-clause-treated : goal.returns-in-P1-clause-treated
returns-in-P1-clause-treated g c = same_treated _ _ _ _ _ _ c.layout_law.ensures c.requires.ready c.apply_p1.ensures.arena c.apply_p1.ensures.work (ap (λ x. x.index) c.apply_p1.ensures.answer)

pub returns-in-Q1-clause-treated : goal.returns-in-Q1-clause-treated
returns-in-Q1-clause-treated g c = same_treated _ _ _ _ _ _ c.layout_law.ensures c.requires.ready c.apply_q1.ensures.arena c.apply_q1.ensures.work (ap (λ x. x.index) c.apply_q1.ensures.node)

pub returns-in-P2-clause-becomes : goal.returns-in-P2-clause-becomes
returns-in-P2-clause-becomes g c = by_name _ _ _ _ _ _ P2 c.args.template c.in-P2.is (λ ps m s u p. c.apply_p2.ensures.becomes ps u m s p)

pub returns-in-P3-clause-becomes : goal.returns-in-P3-clause-becomes
returns-in-P3-clause-becomes g c = by_name _ _ _ _ _ _ P3 c.args.template c.in-P3.is (λ ps m s u p. c.apply_p3.ensures.becomes ps u m s p)

pub returns-in-P4-clause-becomes : goal.returns-in-P4-clause-becomes
returns-in-P4-clause-becomes g c = by_name _ _ _ _ _ _ P4 c.args.template c.in-P4.is (λ ps m s u p. c.apply_p4.ensures.becomes ps u m s p)

pub returns-in-P5-clause-becomes : goal.returns-in-P5-clause-becomes
returns-in-P5-clause-becomes g c = by_name _ _ _ _ _ _ P5 c.args.template c.in-P5.is (λ ps m s u p. c.apply_p5.ensures.becomes ps u m s p)

pub returns-in-P6-clause-becomes : goal.returns-in-P6-clause-becomes
returns-in-P6-clause-becomes g c = by_name _ _ _ _ _ _ P6 c.args.template c.in-P6.is (λ ps m s u p. c.apply_p6.ensures.becomes ps u m s p)

pub returns-in-Q2-clause-becomes : goal.returns-in-Q2-clause-becomes
returns-in-Q2-clause-becomes g c = by_name _ _ _ _ _ _ Q2 c.args.template c.in-Q2.is (λ ps m s u p. c.apply_q2.ensures.becomes ps u m s p)

pub returns-in-P2-clause-still : goal.returns-in-P2-clause-still
returns-in-P2-clause-still g c = λ still. absurd (subst IsQuiet c.in-P2.is (is_quiet c.requires.stands still))

pub returns-in-P3-clause-still : goal.returns-in-P3-clause-still
returns-in-P3-clause-still g c = λ still. absurd (subst IsQuiet c.in-P3.is (is_quiet c.requires.stands still))

pub returns-in-P4-clause-still : goal.returns-in-P4-clause-still
returns-in-P4-clause-still g c = λ still. absurd (subst IsQuiet c.in-P4.is (is_quiet c.requires.stands still))

pub returns-in-P5-clause-still : goal.returns-in-P5-clause-still
returns-in-P5-clause-still g c = λ still. absurd (subst IsQuiet c.in-P5.is (is_quiet c.requires.stands still))

pub returns-in-P6-clause-still : goal.returns-in-P6-clause-still
returns-in-P6-clause-still g c = λ still. absurd (subst IsQuiet c.in-P6.is (is_quiet c.requires.stands still))

pub returns-in-Q2-clause-still : goal.returns-in-Q2-clause-still
returns-in-Q2-clause-still g c = λ still. (c.apply_q2.ensures.unchanged still.plain, c.apply_q2.ensures.work)

-- Q3 stands at the node
at_node : (t : Template) (f : Layout) (v : Marks) (n : ℕ) → t ≡ Q3 → CanApply t f v n → IsRunMeant v true → ⊥
at_node t f v n is can = not_meant (subst (λ t. CanApply t f v n) is can)

pub returns-in-Q3-clause-treated : goal.returns-in-Q3-clause-treated
returns-in-Q3-clause-treated g c = c.apply_q3.ensures.treated (at_node _ _ _ _ c.in-Q3.is c.requires.stands)

pub returns-in-Q3-clause-still : goal.returns-in-Q3-clause-still
returns-in-Q3-clause-still g c = λ still. (c.apply_q3.ensures.unchanged (at_node _ _ _ _ c.in-Q3.is c.requires.stands) still.plain, c.apply_q3.ensures.work)

pub apply_l1-requires-clause-ready : goal.apply_l1-requires-clause-ready
apply_l1-requires-clause-ready g c = c.requires.ready

pub apply_l1-requires-clause-stands : goal.apply_l1-requires-clause-stands
apply_l1-requires-clause-stands g c =
    (subst (λ t. CanApply t c.args.arena.now c.args.work.now c.args.node.index) c.in-L1.is c.requires.stands).stands.fits

pub apply_p1-requires-clause-ready : goal.apply_p1-requires-clause-ready
apply_p1-requires-clause-ready g c = c.requires.ready

pub apply_p1-requires-clause-stands : goal.apply_p1-requires-clause-stands
apply_p1-requires-clause-stands g c =
    let s = (subst (λ t. CanApply t c.args.arena.now c.args.work.now c.args.node.index) c.in-P1.is c.requires.stands).stands in (s.ps, s.marked, s.shapes, s.fits)

pub apply_p2-requires-clause-ready : goal.apply_p2-requires-clause-ready
apply_p2-requires-clause-ready g c = c.requires.ready

pub apply_p2-requires-clause-stands : goal.apply_p2-requires-clause-stands
apply_p2-requires-clause-stands g c =
    stands_p2 (subst (λ t. CanApply t c.args.arena.now c.args.work.now c.args.node.index) c.in-P2.is c.requires.stands)

pub apply_p3-requires-clause-ready : goal.apply_p3-requires-clause-ready
apply_p3-requires-clause-ready g c = c.requires.ready

pub apply_p3-requires-clause-stands : goal.apply_p3-requires-clause-stands
apply_p3-requires-clause-stands g c =
    stands_p3 (subst (λ t. CanApply t c.args.arena.now c.args.work.now c.args.node.index) c.in-P3.is c.requires.stands)

pub apply_p4-requires-clause-ready : goal.apply_p4-requires-clause-ready
apply_p4-requires-clause-ready g c = c.requires.ready

pub apply_p4-requires-clause-stands : goal.apply_p4-requires-clause-stands
apply_p4-requires-clause-stands g c =
    stands_p4 (subst (λ t. CanApply t c.args.arena.now c.args.work.now c.args.node.index) c.in-P4.is c.requires.stands)

pub apply_p5-requires-clause-ready : goal.apply_p5-requires-clause-ready
apply_p5-requires-clause-ready g c = c.requires.ready

pub apply_p5-requires-clause-stands : goal.apply_p5-requires-clause-stands
apply_p5-requires-clause-stands g c =
    stands_p5 (subst (λ t. CanApply t c.args.arena.now c.args.work.now c.args.node.index) c.in-P5.is c.requires.stands)

pub apply_p6-requires-clause-ready : goal.apply_p6-requires-clause-ready
apply_p6-requires-clause-ready g c = c.requires.ready

pub apply_p6-requires-clause-stands : goal.apply_p6-requires-clause-stands
apply_p6-requires-clause-stands g c =
    stands_p6 (subst (λ t. CanApply t c.args.arena.now c.args.work.now c.args.node.index) c.in-P6.is c.requires.stands)

pub apply_q2-requires-clause-ready : goal.apply_q2-requires-clause-ready
apply_q2-requires-clause-ready g c = c.requires.ready

pub apply_q2-requires-clause-stands : goal.apply_q2-requires-clause-stands
apply_q2-requires-clause-stands g c =
    stands_q2 (subst (λ t. CanApply t c.args.arena.now c.args.work.now c.args.node.index) c.in-Q2.is c.requires.stands)

pub apply_q3-requires-clause-ready : goal.apply_q3-requires-clause-ready
apply_q3-requires-clause-ready g c =
    record { at = λ apart. c.requires.ready; inside = λ meant. absurd (at_node _ _ _ _ c.in-Q3.is c.requires.stands meant) }

pub apply_q3-requires-clause-stands : goal.apply_q3-requires-clause-stands
apply_q3-requires-clause-stands g c =
    stands_q3 (subst (λ t. CanApply t c.args.arena.now c.args.work.now c.args.node.index) c.in-Q3.is c.requires.stands)

pub returns-in-L1-clause-becomes : goal.returns-in-L1-clause-becomes
returns-in-L1-clause-becomes g c =
    by_name _ _ _ _ _ _ L1 c.args.template c.in-L1.is (λ ps m s. (c.apply_l1.ensures.arena, c.apply_l1.ensures.work, ap (λ x. x.index) c.apply_l1.ensures.answer))

pub returns-in-L1-clause-still : goal.returns-in-L1-clause-still
returns-in-L1-clause-still g c = λ still. (c.apply_l1.ensures.arena, c.apply_l1.ensures.work)

pub returns-in-L1-clause-ticks : goal.returns-in-L1-clause-ticks
returns-in-L1-clause-ticks g c = omega (arith, c.apply_l1.ensures.few)

pub returns-in-P1-clause-becomes : goal.returns-in-P1-clause-becomes
returns-in-P1-clause-becomes g c =
    by_name _ _ _ _ _ _ P1 c.args.template c.in-P1.is (λ ps m s. (c.apply_p1.ensures.arena, c.apply_p1.ensures.work, ap (λ x. x.index) c.apply_p1.ensures.answer))

pub returns-in-P1-clause-still : goal.returns-in-P1-clause-still
returns-in-P1-clause-still g c = λ still. (c.apply_p1.ensures.arena, c.apply_p1.ensures.work)

pub returns-in-P1-clause-ticks : goal.returns-in-P1-clause-ticks
returns-in-P1-clause-ticks g c = omega (arith, c.apply_p1.ensures.few)

pub returns-in-Q1-clause-becomes : goal.returns-in-Q1-clause-becomes
returns-in-Q1-clause-becomes g c =
    by_name _ _ _ _ _ _ Q1 c.args.template c.in-Q1.is (λ ps m s. (c.apply_q1.ensures.arena, c.apply_q1.ensures.work, ap (λ x. x.index) c.apply_q1.ensures.node))

pub returns-in-Q1-clause-still : goal.returns-in-Q1-clause-still
returns-in-Q1-clause-still g c = λ still. (c.apply_q1.ensures.arena, c.apply_q1.ensures.work)

pub returns-in-Q1-clause-ticks : goal.returns-in-Q1-clause-ticks
returns-in-Q1-clause-ticks g c = omega (arith, c.apply_q1.ensures.ticks)

pub returns-in-P2-clause-treated : goal.returns-in-P2-clause-treated
returns-in-P2-clause-treated g c = c.apply_p2.ensures.treated

pub returns-in-P2-clause-ticks : goal.returns-in-P2-clause-ticks
returns-in-P2-clause-ticks g c = omega (arith, c.apply_p2.ensures.few)

pub returns-in-P3-clause-treated : goal.returns-in-P3-clause-treated
returns-in-P3-clause-treated g c = c.apply_p3.ensures.treated

pub returns-in-P3-clause-ticks : goal.returns-in-P3-clause-ticks
returns-in-P3-clause-ticks g c = omega (arith, c.apply_p3.ensures.few)

pub returns-in-P4-clause-treated : goal.returns-in-P4-clause-treated
returns-in-P4-clause-treated g c = c.apply_p4.ensures.treated

pub returns-in-P4-clause-ticks : goal.returns-in-P4-clause-ticks
returns-in-P4-clause-ticks g c = omega (arith, c.apply_p4.ensures.few)

pub returns-in-P5-clause-treated : goal.returns-in-P5-clause-treated
returns-in-P5-clause-treated g c = c.apply_p5.ensures.treated

pub returns-in-P5-clause-ticks : goal.returns-in-P5-clause-ticks
returns-in-P5-clause-ticks g c = omega (arith, c.apply_p5.ensures.few)

pub returns-in-P6-clause-treated : goal.returns-in-P6-clause-treated
returns-in-P6-clause-treated g c = c.apply_p6.ensures.treated

pub returns-in-P6-clause-ticks : goal.returns-in-P6-clause-ticks
returns-in-P6-clause-ticks g c = omega (arith, c.apply_p6.ensures.few)

pub returns-in-Q2-clause-treated : goal.returns-in-Q2-clause-treated
returns-in-Q2-clause-treated g c = c.apply_q2.ensures.treated

pub returns-in-Q2-clause-ticks : goal.returns-in-Q2-clause-ticks
returns-in-Q2-clause-ticks g c = omega (arith, c.apply_q2.ensures.few)

pub returns-in-Q3-clause-becomes : goal.returns-in-Q3-clause-becomes
returns-in-Q3-clause-becomes g c =
    by_name _ _ _ _ _ _ Q3 c.args.template c.in-Q3.is (c.apply_q3.ensures.becomes (at_node _ _ _ _ c.in-Q3.is c.requires.stands))

pub returns-in-Q3-clause-ticks : goal.returns-in-Q3-clause-ticks
returns-in-Q3-clause-ticks g c = omega (arith, c.apply_q3.ensures.few (at_node _ _ _ _ c.in-Q3.is c.requires.stands))

pub apply_q1-requires : goal.apply_q1-requires
apply_q1-requires g c = c.requires.ready
