use Rattle.std.proofs.Common.{refl}
use Rattle.std.proofs.lemmas.Result.{IfOk-weaker}
use Rattle.tree_theory.proofs.Finding.{q_finds}
use Rattle.pq_plain.proofs.Marks.{marks_long}
use Rattle.pq_plain.proofs.Runs.{to_end}
use Rattle.pq_plain.proofs.QLabels.{q_all_full, q_all_empty, left_none, left_few, left_label}
use Rattle.pq_plain.proofs.below.label_q.Goals as goal

pub returns-in-0-eq0-default : goal.returns-in-0-eq0-default
returns-in-0-eq0-default c =
    let k = c.count_kinds-kinds.ensures in
    q_finds _ _ _ (marks_long _ _ c.requires)
    (q_all_full c.args.children.now c.args.labels.items _ _ _ c.requires c.deref.ensures.value k.empty k.partial c.in-0-eq0-default.is-0 c.in-0-eq0-default.is-1)

pub returns-in-0-default-eq0 : goal.returns-in-0-default-eq0
returns-in-0-default-eq0 c =
    let k = c.count_kinds-kinds.ensures in
    q_finds _ _ _ (marks_long _ _ c.requires)
    (q_all_empty c.args.children.now c.args.labels.items _ _ _ _ c.requires c.deref.ensures.value k.empty k.full k.partial c.in-0-default-eq0.is-0 c.in-0-default-eq0.is-1.1 c.in-0-default-eq0.is-2)

pub returns-in-None : goal.returns-in-None
returns-in-None c =
    IfOk-weaker c.label_turned.result _ _
    (λ o h. left_none c.args.children.now c.args.labels.items _ c.requires c.deref-in_default.ensures.value c.in-None.ensures.cut _ h)
    c.label_turned.ensures

pub label_run-requires : goal.label_run-requires
label_run-requires c =
    left_few c.args.children.now c.args.labels.items _ c.requires c.deref-in_default.ensures.value _ c.in-Some.ensures.cut

pub returns-in_ok-label-in-Some : goal.returns-in_ok-label-in-Some
returns-in_ok-label-in-Some c =
    left_label c.args.children.now c.args.labels.items _ c.requires c.deref-in_default.ensures.value _ c.in-Some.ensures.cut _ _ _ _ _ refl (to_end c.in-Some.run'.behind c.args.children.now)
    c.in_ok-empty-in-Some.ensures c.in_ok-full-in-Some.ensures c.in_ok-label-in-Some.ensures
