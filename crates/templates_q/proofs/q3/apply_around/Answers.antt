use Rattle.std.proofs.Common.{◌≡◌, ◌+◌, ◌*◌, ◌≤◌, [], ◌++◌, sym, subst, ◌∙◌, arith}
use Rattle.arena_model.specs.Layout.{children_at}
use Rattle.templates_q.specs.Walk.{AreChildren}
use Rattle.templates_q.specs.Span.{labelled_in}
use Rattle.templates_q.proofs.Spanning.{run_marked, run_inner}
use Rattle.templates_q.proofs.Laying.{named_last, unnamed_last}
use Rattle.templates_q.proofs.Done.{all_shaped, done_around, standing}
use Rattle.templates_q.proofs.Plain.{plain_unopened}
use Rattle.templates_q.proofs.q3.apply_around.Goals as goal

pub stretch_around-seen-requires-clause-child : goal.stretch_around-seen-requires-clause-child
stretch_around-seen-requires-clause-child g c = let st = c.requires.stands in (st.0, run_marked c.args.arena.now c.args.work.now st.0 c.args.node.index st.1)

pub open_ends-requires-clause-stretch : goal.open_ends-requires-clause-stretch
open_ends-requires-clause-stretch g c = let st = c.requires.stands in
    let f = c.args.arena.now in let w = c.args.work.now in
    (st.0, c.stretch_around-seen.ensures.stretch st.0 (run_marked f w st.0 c.args.node.index st.1), all_shaped f w st.0 st.2)

pub unreachable-requires : goal.unreachable-requires
unreachable-requires g c = let st = c.requires.stands in
    let f = c.args.arena.now in let w = c.args.work.now in let q = st.0 in
    let r = c.stretch_around-seen.ensures.stretch q (run_marked f w q c.args.node.index st.1) in
    let e : r.us ≡ [] = unnamed_last f q r.us r.vs c.layout_law.ensures r.passed.from.children (sym r.passed.from.before ∙ c.in_default.is) in
    run_inner f w q c.args.node.index r.vs st.1 (subst (λ z. AreChildren f q (z ++ r.vs)) e r.passed.from.children) r.some

pub returns-clause-replaced : goal.returns-clause-replaced
returns-clause-replaced g c = λ q run. (done_around _ _ _ _ q _ c.layout_law.ensures c.layout_law-2.ensures c.requires.ready c.requires.stands c.stretch_around-seen.ensures.stretch c.open_ends.ensures.opened run).1.treated.arena

pub returns-clause-kept : goal.returns-clause-kept
returns-clause-kept g c = λ q run. (done_around _ _ _ _ q _ c.layout_law.ensures c.layout_law-2.ensures c.requires.ready c.requires.stands c.stretch_around-seen.ensures.stretch c.open_ends.ensures.opened run).1.below

pub returns-clause-child : goal.returns-clause-child
returns-clause-child g c = λ q run.
    let d = (done_around _ _ _ _ q _ c.layout_law.ensures c.layout_law-2.ensures c.requires.ready c.requires.stands c.stretch_around-seen.ensures.stretch c.open_ends.ensures.opened run) in
    d.1.left c.in-Some.beside.index (named_last d.0.us c.in-Some.beside (sym d.0.passed.from.before ∙ c.in-Some.is))

pub returns-clause-becomes : goal.returns-clause-becomes
returns-clause-becomes g c = λ q run. (done_around _ _ _ _ q _ c.layout_law.ensures c.layout_law-2.ensures c.requires.ready c.requires.stands c.stretch_around-seen.ensures.stretch c.open_ends.ensures.opened run).1.becomes

pub returns-clause-ticks : goal.returns-clause-ticks
returns-clause-ticks g c = λ q run.
    let f = c.args.arena.now in let w = c.args.work.now in
    let t : c.stretch_around-seen.new.steps ≤ c.args.steps.now + 2 * labelled_in w (children_at f q) = c.stretch_around-seen.ensures.ticks q (run_marked f w q c.args.node.index run) in
    omega (arith, c.open_ends.ensures.ticks)

pub returns-clause-unchanged : goal.returns-clause-unchanged
returns-clause-unchanged g c = λ q run plain.
    let f = c.args.arena.now in let w = c.args.work.now in
    let r = c.stretch_around-seen.ensures.stretch q (run_marked f w q c.args.node.index run) in
    plain_unopened f c.open_ends.new.arena w q c.stretch_around-seen.result r plain
    (c.open_ends.ensures.opened q r (all_shaped f w q (standing f w c.args.node.index q c.layout_law.ensures c.requires.stands run)))
