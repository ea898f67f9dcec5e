use Rattle.std.proofs.Common.{◌≡◌, ◌+◌, ◌≤◌, length, ap, sym, subst, arith}
use Rattle.std.proofs.lemmas.Grind.{common_steps}
use Rattle.std.proofs.lemmas.Result.{IfOk-weaker}
use Rattle.border_ways.proofs.links.odd_circle.Goals as goal
use Rattle.border_ways.proofs.links.odd_circle.Goals.{then-head-len+in-Some+in_ok-push-in-Some, else-head-len}

pub loop-head-preserved : goal.loop-head-preserved
loop-head-preserved c = c.spread.ensures.few

pub spread-requires : goal.spread-requires
spread-requires c = record {
  few = (
    c.requires.few.1,
    elim c.if-head-len.branch [
      | then-head-len+in-Some+in_ok-push-in-Some w ↦
          let count : length c.if-head-len.reached.items ≡ length c.loop-head.reached.items + 1 = grind (arith, common_steps) in
          omega (arith, count, w.if-head-len.true, c.len.ensures, c.loop-head-test.true, c.requires.few.0)
      | else-head-len w ↦ subst (λ r. length r.items ≤ 32) (sym w.reached-is) c.loop-head.invariant
    ],
  );
}

pub returns : goal.returns
returns c = record { few = omega (arith, ap length c.new-2.ensures.items) }

pub loop-head-init : goal.loop-head-init
loop-head-init c = omega (arith, ap length c.new-reached.ensures.items)

pub returns-in-None : goal.returns-in-None
returns-in-None c = record { few = omega (arith, ap length c.new.ensures.items) }

pub returns-in-Some-2 : goal.returns-in-Some-2
returns-in-Some-2 c =
    let within = rw c.in-Some-2.is at c.in_ok-odd.ensures.within in
    record { few = IfOk-weaker c.circle_by.result _ _ (λ links few. omega (arith, few, within)) c.circle_by.ensures.few }
