use Rattle.std.proofs.Common.{◌≡◌, ◌≤◌, ◌+◌, ◌-◌, ap, arith, length, refl}
use Rattle.std.proofs.lemmas.List.{length-reverse}
use Rattle.pq_plain.proofs.Runs.{to_end}
use Rattle.pq_plain.proofs.QLabels.{right_none, right_few, right_label}
use Rattle.pq_plain.proofs.below.label_turned.Goals as goal

pub returns-in-None : goal.returns-in-None
returns-in-None c =
    right_none c.args.children.now c.args.labels.items _ _ c.requires c.reverse.ensures.items c.deref.ensures.value c.in-None.ensures.cut

pub label_run-requires : goal.label_run-requires
label_run-requires c =
    right_few c.args.children.now c.args.labels.items _ _ c.requires c.reverse.ensures.items c.deref.ensures.value _ c.in-Some.ensures.cut

pub returns-in_ok-label-in-Some : goal.returns-in_ok-label-in-Some
returns-in_ok-label-in-Some c =
    let ts = c.args.children.now in
    let b = c.in-Some.run'.before in
    let e = c.in-Some.run'.behind in
    let few : e ≤ length ts =
    omega (arith, c.in-Some.ensures.within.1, ap length c.deref.ensures.value, ap length c.reverse.ensures.items, length-reverse c.args.labels.items, c.requires) in
    let front : length ts - b + b ≡ length ts = omega (arith, few, c.in-Some.ensures.within.0) in
    let rest : length ts - e + e ≡ length ts = omega (arith, few) in
    right_label ts c.args.labels.items _ _ c.requires c.reverse.ensures.items c.deref.ensures.value _ c.in-Some.ensures.cut _ _ _ _ (length ts - b) (length ts - e) _ (to_end (length ts - b) ts) front
    refl rest
    c.in_ok-empty-in-Some.ensures c.in_ok-full-in-Some.ensures c.in_ok-label-in-Some.ensures
