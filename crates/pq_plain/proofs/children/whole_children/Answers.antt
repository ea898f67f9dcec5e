use Rattle.std.proofs.Common.{◌≡◌, true, false, sym, ap, ◌∙◌}
use Rattle.pq_plain.specs.Seen.{outlines}
use Rattle.pq_plain.proofs.Picked.{pick_of, picked, passed}
use Rattle.pq_plain.proofs.children.whole_children.Goals as goal
use Rattle.pq_plain.proofs.children.whole_children.Goals.{then-is+in_ok-copied+in_ok-push, else-is}

pub loop-i-preserved : goal.loop-i-preserved
loop-i-preserved c =
    let pick = pick_of c.args.wanted in
    let at = sym c.index-labels-i.is in
    elim c.if-is.branch [
      | then-is+in_ok-copied+in_ok-push w ↦
          picked pick _ _ _ _ _ _ _ _ c.loop-i-test.true c.requires w.index-children-i.is (at ∙ c.is.ensures.0 w.if-is.true) (ap (λ v. v.items) w.copies-is ∙ w.in_ok-push.ensures.items) w.in_ok-copied.ensures c.loop-i.invariant
      | else-is w ↦ ap (λ v. outlines v.items) w.copies-is ∙ passed pick _ _ _ _ _ c.loop-i-test.true c.requires (λ e. let z : false ≡ true = w.if-is.ensures.1 (sym at ∙ e) in cc) c.loop-i.invariant
    ]
