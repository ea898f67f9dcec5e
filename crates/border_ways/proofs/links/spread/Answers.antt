use Rattle.std.proofs.Common.{◌<◌, ◌≤◌, List, IfSome, length, subst, sym}
use Rattle.border_ways.specs.declared.links.Reached.{Reached}
use Rattle.border_ways.proofs.links.spread.Goals as goal
use Rattle.border_ways.proofs.links.spread.Goals.{then-eq+in_ok-odd+in_default-2, else-eq}

pub loop-way-init : goal.loop-way-init
loop-way-init c = c.requires.few.1

pub loop-way-preserved : goal.loop-way-preserved
loop-way-preserved c = c.loop-other.invariant

pub loop-other-init : goal.loop-other-init
loop-other-init c = c.loop-way.invariant

pub loop-other-preserved : goal.loop-other-preserved
loop-other-preserved c = elim c.if-eq.branch [
  | then-eq+in_ok-odd+in_default-2 w ↦ subst (λ r. length r.items ≤ 32) (sym w.reached-is) w.reach.ensures.few
  | else-eq w ↦ subst (λ r. length r.items ≤ 32) (sym w.reached-is) c.loop-other.invariant
]

pub returns : goal.returns
returns c = record { few = c.loop-way.invariant; within = tt }

pub returns-in_default : goal.returns-in_default
returns-in_default c = record { few = c.requires.few.1; within = tt }

pub returns-in-Some-2-clause-few : goal.returns-in-Some-2-clause-few
returns-in-Some-2-clause-few c = c.reach.ensures.few

pub returns-in_err-odd-clause-few : goal.returns-in_err-odd-clause-few
returns-in_err-odd-clause-few c = c.reach.ensures.few

pub returns-in-Some-2-clause-within : goal.returns-in-Some-2-clause-within
returns-in-Some-2-clause-within c = rw c.in-Some-2.is at c.in_ok-odd.ensures.within

pub reach-requires-clause-place : goal.reach-requires-clause-place
reach-requires-clause-place c =
    subst (λ (rs : List Reached). IfSome c.place_among-place.result (λ place. place < length rs)) c.deref-then-eq.ensures.value c.place_among-place.ensures
