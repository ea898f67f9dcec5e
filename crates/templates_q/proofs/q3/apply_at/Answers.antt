use Rattle.std.proofs.Common.{◌+◌, ◌*◌, ◌≤◌, sym, ◌∙◌, arith}
use Rattle.std.proofs.lemmas.Grind.{common_steps}
use Rattle.arena_model.specs.Layout.{children_at}
use Rattle.template_model.proofs.Unchanged.{unchanged}
use Rattle.templates_q.specs.Span.{labelled_in}
use Rattle.templates_q.proofs.Spanning.{first_marked, none_marked}
use Rattle.templates_q.proofs.Laying.{none_becomes}
use Rattle.templates_q.proofs.Done.{all_shaped, done_at}
use Rattle.templates_q.proofs.Plain.{plain_unopened}
use Rattle.templates_q.proofs.q3.apply_at.Goals as goal

pub stretch_around-seen-requires-clause-child : goal.stretch_around-seen-requires-clause-child
stretch_around-seen-requires-clause-child g c =
    (c.args.node.index, first_marked c.args.arena.now c.args.work.now c.args.node.index c.in-Some.x c.requires.stands.fits.0 c.requires.ready.right (sym c.first_child.ensures ∙ c.in-Some.is))

pub open_ends-requires-clause-stretch : goal.open_ends-requires-clause-stretch
open_ends-requires-clause-stretch g c =
    let f = c.args.arena.now in let w = c.args.work.now in let n = c.args.node.index in
    let x = first_marked f w n c.in-Some.x c.requires.stands.fits.0 c.requires.ready.right (sym c.first_child.ensures ∙ c.in-Some.is) in
    (n, c.stretch_around-seen.ensures.stretch n x, all_shaped f w n c.requires.stands)

pub returns-in-Some-clause-treated : goal.returns-in-Some-clause-treated
returns-in-Some-clause-treated g c =
    let x = first_marked _ _ c.args.node.index c.in-Some.x c.requires.stands.fits.0 c.requires.ready.right (sym c.first_child.ensures ∙ c.in-Some.is) in
    (done_at _ _ _ _ _ (c.stretch_around-seen.ensures.stretch _ x) c.layout_law.ensures c.layout_law-in-Some.ensures c.requires.ready c.requires.stands c.open_ends.ensures.opened).treated

pub returns-in-Some-clause-becomes : goal.returns-in-Some-clause-becomes
returns-in-Some-clause-becomes g c =
    let x = first_marked _ _ c.args.node.index c.in-Some.x c.requires.stands.fits.0 c.requires.ready.right (sym c.first_child.ensures ∙ c.in-Some.is) in
    (done_at _ _ _ _ _ (c.stretch_around-seen.ensures.stretch _ x) c.layout_law.ensures c.layout_law-in-Some.ensures c.requires.ready c.requires.stands c.open_ends.ensures.opened).becomes

pub returns-in-Some-clause-ticks : goal.returns-in-Some-clause-ticks
returns-in-Some-clause-ticks g c =
    let f = c.args.arena.now in let w = c.args.work.now in let n = c.args.node.index in
    let x = first_marked f w n c.in-Some.x c.requires.stands.fits.0 c.requires.ready.right (sym c.first_child.ensures ∙ c.in-Some.is) in
    let t : c.stretch_around-seen.new.steps ≤ c.args.steps.now + 2 * labelled_in w (children_at f n) = c.stretch_around-seen.ensures.ticks n x in
    omega (arith, c.open_ends.ensures.ticks, c.requires.ready.right.full, c.requires.ready.right.partial)

pub returns-in_default-clause-treated : goal.returns-in_default-clause-treated
returns-in_default-clause-treated g c =
    unchanged c.args.arena.now c.args.work.now c.args.node.index c.layout_law.ensures c.requires.ready.one c.requires.ready.two c.requires.ready.used

pub returns-in_default-clause-becomes : goal.returns-in_default-clause-becomes
returns-in_default-clause-becomes g c =
    let f = c.args.arena.now in let w = c.args.work.now in let n = c.args.node.index in
    none_becomes f w n c.layout_law.ensures c.requires.stands.fits.0 (none_marked f w n c.requires.ready.right (sym c.first_child.ensures ∙ c.in_default.is))

pub returns-in-Some-clause-unchanged : goal.returns-in-Some-clause-unchanged
returns-in-Some-clause-unchanged g c = λ plain.
    let f = c.args.arena.now in let w = c.args.work.now in let n = c.args.node.index in
    let x = first_marked f w n c.in-Some.x c.requires.stands.fits.0 c.requires.ready.right (sym c.first_child.ensures ∙ c.in-Some.is) in
    let r = c.stretch_around-seen.ensures.stretch n x in
    plain_unopened f c.open_ends.new.arena w n c.stretch_around-seen.result r plain (c.open_ends.ensures.opened n r (all_shaped f w n c.requires.stands))

pub first_child-requires : goal.first_child-requires
first_child-requires g c = grind (arith, common_steps)
