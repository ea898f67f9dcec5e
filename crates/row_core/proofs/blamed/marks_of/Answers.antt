use Rattle.std.proofs.Common.{◌≡◌, ◌∙◌, ℕ, zero, suc, false, length, replicate, get_or, refl, ap, subst, sym, arith}
use Rattle.std.proofs.lemmas.List.{take_all, length-replicate}
use Rattle.std.proofs.lemmas.Result.{IfOk-from_err}
use Rattle.row_model.specs.declared.graph.Line.{Line}
use Rattle.row_model.specs.declared.graph.Why.TheVariants.{Flip}
use Rattle.row_model.specs.Graph.{pair}
use Rattle.row_core.specs.Blamed.{IsReasonWithin, AreReasonsWithin, AreMarked}
use Rattle.row_core.proofs.Marks.{reason_at, marks_more, unmarked_more}
use Rattle.row_core.proofs.blamed.marks_of.Goals as goal

pub mark-requires : goal.mark-requires
mark-requires c =
    let lines = c.args.lines.now in
    let past : Line = record { pair = pair 0 0; why = Flip } in
    subst (λ n. IsReasonWithin n (get_or lines c.loop-line.line-index past).why) (sym c.loop-line.invariant.size) (reason_at c.args.count lines c.loop-line.line-index past c.loop-line-test.true c.requires)

pub loop-line-preserved : goal.loop-line-preserved
loop-line-preserved c =
    let more = marks_more _ _ _ _ _ _ c.mark.ensures c.loop-line-test.true c.loop-line.invariant.size c.requires c.loop-line.invariant.marked in
    record { size = more.0; marked = more.1; others = unmarked_more _ _ _ _ _ c.mark.ensures c.loop-line-test.true c.loop-line.invariant.others }

-- at first there is no mark
unmarked : (n i : ℕ) → get_or (replicate n false) i false ≡ false
unmarked zero i = refl
unmarked (suc n) zero = refl
unmarked (suc n) (suc i) = unmarked n i

pub loop-line-init : goal.loop-line-init
loop-line-init c =
    let none : c.in_ok-marks.marks.items ≡ replicate c.args.count false = c.in_ok-marks.ensures.items_if_clones_equal (λ y e. e) in
    record {
      size = ap length none ∙ length-replicate c.args.count false;
      marked = tt;
      others = λ n few i l. ap (λ marks. get_or marks i false) none ∙ unmarked c.args.count i;
    }

pub returns-clause-marked : goal.returns-clause-marked
returns-clause-marked c = subst (AreMarked c.loop-line.marks.items) (take_all c.loop-line.line-index c.args.lines.now (omega arith)) c.loop-line.invariant.marked

pub returns-clause-others : goal.returns-clause-others
returns-clause-others c = λ n within. c.loop-line.invariant.others n (subst (AreReasonsWithin n) (sym (take_all c.loop-line.line-index c.args.lines.now (omega arith))) within)

pub returns-clause-size : goal.returns-clause-size
returns-clause-size c = c.loop-line.invariant.size

pub returns-in_err-marks : goal.returns-in_err-marks
returns-in_err-marks c =
    let made = c.from_residual.result in
    let none = c.from_residual.ensures.0 in
    record { marked = IfOk-from_err made _ none; others = IfOk-from_err made _ none; size = IfOk-from_err made _ none }
