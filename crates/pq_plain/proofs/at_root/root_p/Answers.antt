use Rattle.pq_plain.proofs.Counted.{counted}
use Rattle.tree_theory.proofs.Finding.{p_root_finds}
use Rattle.std.proofs.Common.{None}
use Rattle.pq_plain.specs.Seen.{outlines}
use Rattle.pq_plain.proofs.RootMade.{p_many, p_unchanged, p_no_full, p_lone, p_two, p_four, p_six}
use Rattle.pq_plain.proofs.at_root.root_p.Goals as goal

pub returns-in-0-eq0-default : goal.returns-in-0-eq0-default
returns-in-0-eq0-default c =
    let k = c.count_kinds-kinds.ensures in
    let n = counted _ _ _ _ _ _ c.requires.length c.deref.ensures.value k.empty k.full k.partial in
    p_root_finds _ _ _ c.requires.root (p_unchanged _ _ _ _ _ n c.in-0-eq0-default.is-0 c.in-0-eq0-default.is-1)

pub returns-in-0-default-eq0 : goal.returns-in-0-default-eq0
returns-in-0-default-eq0 c =
    let k = c.count_kinds-kinds.ensures in
    let n = counted _ _ _ _ _ _ c.requires.length c.deref.ensures.value k.empty k.full k.partial in
    p_root_finds _ _ _ c.requires.root (p_no_full _ _ _ _ _ n c.in-0-default-eq0.is-0 c.in-0-default-eq0.is-1.1 c.in-0-default-eq0.is-2)

pub returns-in_ok-tree-in-0-default-default : goal.returns-in_ok-tree-in-0-default-default
returns-in_ok-tree-in-0-default-default c =
    let k = c.count_kinds-kinds.ensures in
    let n = counted _ _ _ _ _ _ c.requires.length c.deref.ensures.value k.empty k.full k.partial in
    p_root_finds _ _ _ c.requires.root (p_two _ _ _ _ _ n _ c.in_ok-tree-in-0-default-default.ensures c.in-0-default-default.is-0 c.in-0-default-default.is-1.1 c.in-0-default-default.is-2.1)

pub returns-in-1-default-eq0 : goal.returns-in-1-default-eq0
returns-in-1-default-eq0 c =
    let k = c.count_kinds-kinds.ensures in
    let n = counted _ _ _ _ _ _ c.requires.length c.deref.ensures.value k.empty k.full k.partial in
    p_root_finds _ _ _ c.requires.root (p_lone _ _ _ _ _ n c.in-1-default-eq0.is-0 c.in-1-default-eq0.is-2)

pub returns-in_ok-tree-in-1-default-default : goal.returns-in_ok-tree-in-1-default-default
returns-in_ok-tree-in-1-default-default c =
    let k = c.count_kinds-kinds.ensures in
    let n = counted _ _ _ _ _ _ c.requires.length c.deref.ensures.value k.empty k.full k.partial in
    p_root_finds _ _ _ c.requires.root (p_four _ _ _ _ _ n _ c.in_ok-tree-in-1-default-default.ensures c.in-1-default-default.is-0 c.in-1-default-default.is-2.1)

pub returns-in_ok-tree-in-2-default-default : goal.returns-in_ok-tree-in-2-default-default
returns-in_ok-tree-in-2-default-default c =
    let k = c.count_kinds-kinds.ensures in
    let n = counted _ _ _ _ _ _ c.requires.length c.deref.ensures.value k.empty k.full k.partial in
    p_root_finds _ _ _ c.requires.root (p_six _ _ _ _ _ n _ c.in_ok-tree-in-2-default-default.ensures c.in-2-default-default.is-0)

pub returns-in_default : goal.returns-in_default
returns-in_default c =
    let k = c.count_kinds-kinds.ensures in
    let n = counted _ _ _ _ _ _ c.requires.length c.deref.ensures.value k.empty k.full k.partial in
    let h = c.in_default.is-0 in
    p_root_finds (outlines c.args.children.now) _ None c.requires.root (p_many _ _ _ _ _ n h.0.0.1 h.0.1 h.1)
