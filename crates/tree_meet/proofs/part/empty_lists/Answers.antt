use Rattle.std.proofs.Common.{◌≡◌, [], replicate, ap, subst, arith}
use Rattle.std.proofs.lemmas.Result.{IfOk-from_err}
use Rattle.tree_meet.specs.Marks.{lists_of}
use Rattle.tree_meet.proofs.part.empty_lists.Goals as goal

pub returns-in_err-lists : goal.returns-in_err-lists
returns-in_err-lists c = IfOk-from_err c.from_residual.result _ c.from_residual.ensures.0

pub loop-init : goal.loop-init
loop-init c = ap lists_of c.in_ok-lists.ensures.items

pub returns-in_err-push : goal.returns-in_err-push
returns-in_err-push c = IfOk-from_err c.from_residual-in_err-push.result _ c.from_residual-in_err-push.ensures.0

pub returns : goal.returns
returns c =
    subst (λ k. lists_of c.loop.lists.items ≡ replicate k []) (omega (arith, c.loop-test.false, c.loop.auto.counter-end)) c.loop.invariant
