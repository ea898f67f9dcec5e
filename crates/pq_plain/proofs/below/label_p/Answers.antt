use Rattle.std.proofs.Common.{◌∙◌, Some, None, sym}
use Rattle.pq_plain.specs.Seen.{outlines}
use Rattle.pq_plain.proofs.Counted.{IsCounted, counted, p_all_full, p_all_empty, p_three, last_of_one, p_five, p_many}
use Rattle.tree_theory.proofs.Finding.{p_finds}
use Rattle.pq_plain.proofs.Marks.{marks_long}
use Rattle.pq_plain.proofs.below.label_p.Goals as goal

pub returns-in-0-eq0-default : goal.returns-in-0-eq0-default
returns-in-0-eq0-default c =
    let k = c.count_kinds-kinds.ensures in
    let n : IsCounted c.args.children.now c.args.labels.items c.count_kinds-kinds.result.empty c.count_kinds-kinds.result.full c.count_kinds-kinds.result.partial =
    counted _ _ _ _ _ _ c.requires c.deref.ensures.value k.empty k.full k.partial in
    p_finds _ _ _ (marks_long _ _ c.requires) (p_all_full _ _ _ _ _ n c.in-0-eq0-default.is-0 c.in-0-eq0-default.is-1)

pub returns-in-0-default-eq0 : goal.returns-in-0-default-eq0
returns-in-0-default-eq0 c =
    let k = c.count_kinds-kinds.ensures in
    let n : IsCounted c.args.children.now c.args.labels.items c.count_kinds-kinds.result.empty c.count_kinds-kinds.result.full c.count_kinds-kinds.result.partial =
    counted _ _ _ _ _ _ c.requires c.deref.ensures.value k.empty k.full k.partial in
    p_finds _ _ _ (marks_long _ _ c.requires) (p_all_empty _ _ _ _ _ n c.in-0-default-eq0.is-0 c.in-0-default-eq0.is-1.1 c.in-0-default-eq0.is-2)

pub returns-in-0-default-default : goal.returns-in-0-default-default
returns-in-0-default-default c =
    let k = c.count_kinds-kinds.ensures in
    let n : IsCounted c.args.children.now c.args.labels.items c.count_kinds-kinds.result.empty c.count_kinds-kinds.result.full c.count_kinds-kinds.result.partial =
    counted _ _ _ _ _ _ c.requires c.deref.ensures.value k.empty k.full k.partial in
    p_finds _ _ _ (marks_long _ _ c.requires)
    (p_three _ _ _ _ _ _ _ _ _ _ n c.in-0-default-default.is-0 c.in-0-default-default.is-1.1 c.in-0-default-default.is-2.1 c.deref-in-0-default-default.ensures.value c.deref-in-0-default-default-2.ensures.value
    c.in_ok-empty-in-0-default-default.ensures c.in_ok-full-in-0-default-default.ensures c.in_ok-halves-in-0-default-default.ensures
    )

pub returns-in-1-default-default : goal.returns-in-1-default-default
returns-in-1-default-default c =
    p_finds (outlines c.args.children.now) _ (Some _) (marks_long _ _ c.requires)
    (let k = c.count_kinds-kinds.ensures in
    let n : IsCounted c.args.children.now c.args.labels.items c.count_kinds-kinds.result.empty c.count_kinds-kinds.result.full c.count_kinds-kinds.result.partial =
    counted _ _ _ _ _ _ c.requires c.deref.ensures.value k.empty k.full k.partial in
    p_five c.args.children.now c.args.labels.items _ _ c.count_kinds-kinds.result.empty c.count_kinds-kinds.result.full c.count_kinds-kinds.result.partial _ _ _ _ c.deref-in-1-default-default.ensures.value c.deref-in-1-default-default-2.ensures.value
    (last_of_one _ c.in_ok-partials-in-1-default-default.partials.items c.in-Some.partial _ c.in-Some.ensures.items c.in_ok-partials-in-1-default-default.ensures (sym n.partial ∙ c.in-1-default-default.is-0))
    c.in_ok-empty-in-1-default-default.ensures c.in_ok-full-in-1-default-default.ensures c.in_ok-halves-in-Some.ensures)

pub returns : goal.returns
returns c =
    p_finds (outlines c.args.children.now) _ None (marks_long _ _ c.requires)
    (let k = c.count_kinds-kinds.ensures in
    let n : IsCounted c.args.children.now c.args.labels.items c.count_kinds-kinds.result.empty c.count_kinds-kinds.result.full c.count_kinds-kinds.result.partial =
    counted _ _ _ _ _ _ c.requires c.deref.ensures.value k.empty k.full k.partial in
    p_many _ _ _ _ _ n c.in_default.is-0.0.1 c.in_default.is-0.1)
