use Rattle.pq_plain.proofs.RootMade.{q_unchanged, q_lone, q_one_made, q_two_made}
use Rattle.pq_plain.proofs.Choosing.{q_chosen, q_unfit}
use Rattle.pq_plain.proofs.at_root.root_q.Goals as goal
use Rattle.pq_plain.proofs.at_root.root_q.Goals.{in_default-via-in-1+in_default, in_default-via-in_default}

pub returns-in-None : goal.returns-in-None
returns-in-None c = q_unfit c.args.children.now c.args.labels.items _ c.requires.length c.deref.ensures.value c.in-None.ensures.cut

pub returns-in-0-default : goal.returns-in-0-default
returns-in-0-default c =
    q_chosen c.args.children.now c.args.labels.items _ c.requires.length c.deref.ensures.value _ c.in-Some.ensures.cut c.requires.root _
    (q_unchanged c.args.children.now c.args.labels.items _ _ c.requires.length c.deref.ensures.value c.in-Some.ensures.partials c.in-Some.ensures.within c.in-0-default.is-0)

pub returns-in-1-eq0 : goal.returns-in-1-eq0
returns-in-1-eq0 c =
    q_chosen c.args.children.now c.args.labels.items _ c.requires.length c.deref.ensures.value _ c.in-Some.ensures.cut c.requires.root _
    (q_lone c.args.children.now c.args.labels.items _ _ c.requires.length c.deref.ensures.value c.in-Some.ensures.partials c.in-Some.ensures.within c.in-1-eq0.is-0 c.in-1-eq0.is-1)

pub returns-in_ok-tree-in_default : goal.returns-in_ok-tree-in_default
returns-in_ok-tree-in_default c =
    q_chosen c.args.children.now c.args.labels.items _ c.requires.length c.deref.ensures.value _ c.in-Some.ensures.cut c.requires.root _
    (elim c.in_default.branch [
      | in_default-via-in-1+in_default w ↦ q_one_made c.args.children.now c.args.labels.items _ _ c.requires.length c.deref.ensures.value c.in-Some.ensures.partials c.in-Some.ensures.within _ c.in_ok-tree-in_default.ensures w.in_default.is-0 w.in_default.is-1.1
      | in_default-via-in_default w ↦ q_two_made c.args.children.now c.args.labels.items _ _ c.requires.length c.deref.ensures.value c.in-Some.ensures.partials c.in-Some.ensures.within _ c.in_ok-tree-in_default.ensures w.in_default.is-0.0.1 w.in_default.is-0.1
    ])
