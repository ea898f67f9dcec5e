use Rattle.std.proofs.Common.{◌≡◌, ◌+◌, ◌≤◌, ◌*◌, true, false, Some, refl, sym, ap, ◌∙◌, arith}
use Rattle.std.proofs.lemmas.Grind.{common_steps}
use Rattle.arena_model.specs.declared.Shape.TheVariants.{Q}
use Rattle.arena_model.specs.Layout.{shape_at, children_at}
use Rattle.templates_q.specs.Span.{labelled_in}
use Rattle.templates_q.proofs.Fitting.{fitting_some}
use Rattle.templates_q.proofs.Spans.{span_all_empty}
use Rattle.templates_q.proofs.Spanning.{first_marked, none_marked, counted_fits, fits_counted, line_fits3}
use Rattle.templates_q.proofs.q3.has_q3.Goals as goal

pub stretch_around-seen-requires-clause-child : goal.stretch_around-seen-requires-clause-child
stretch_around-seen-requires-clause-child g c =
    (c.args.node.index, first_marked c.args.arena.now c.args.work.now c.args.node.index c.in-Some.x (c.requires.shown.shape_is ∙ ap Some c.requires.q) c.requires.ready.right (sym c.first_child.ensures ∙ c.in-Some.is))

pub returns-then-spans-clause-fits : goal.returns-then-spans-clause-fits
returns-then-spans-clause-fits g c = λ ps m.
    let e = c.are_counts-spans.ensures.0 c.if-spans.true in
    counted_fits _ _ _ _ _ _ _ (c.requires.shown.shape_is ∙ ap Some c.requires.q) c.requires.ready (sym c.first_child.ensures ∙ c.in-Some.is)
    c.stretch_around-seen.ensures.stretch c.counts-counts.ensures.full c.counts-counts.ensures.partial ps m e.0 e.1 c.has_q2.result (c.has_q2.ensures.fits ps m)

pub returns-else-spans-clause-fits : goal.returns-else-spans-clause-fits
returns-else-spans-clause-fits g c = λ ps m. (
  (λ t. absurd (let no : c.are_counts-spans.result ≡ false = c.if-spans.false in let z : c.are_counts-spans.result ≡ true = t in cc)),
  (λ fits. c.are_counts-spans.ensures.1
      (fits_counted _ _ _ _ _ _ _ (c.requires.shown.shape_is ∙ ap Some c.requires.q) c.requires.ready (sym c.first_child.ensures ∙ c.in-Some.is)
      c.stretch_around-seen.ensures.stretch c.counts-counts.ensures.full c.counts-counts.ensures.partial ps m fits)),
)

pub returns-in-None-clause-fits : goal.returns-in-None-clause-fits
returns-in-None-clause-fits g c = λ ps m.
    let f = c.args.arena.now in let w = c.args.work.now in let n = c.args.node.index in
    let is_q : shape_at f n ≡ Some Q = c.requires.shown.shape_is ∙ ap Some c.requires.q in
    let e = none_marked f w n c.requires.ready.right (sym c.first_child.ensures ∙ c.in-None.is) in (
      (λ t. line_fits3 f w n ps is_q m (span_all_empty w (children_at f n) e) (λ z. fitting_some f w n ps m z e)),
      (λ fits. refl),
    )

pub returns-then-spans-clause-ticks : goal.returns-then-spans-clause-ticks
returns-then-spans-clause-ticks g c =
    let f = c.args.arena.now in let w = c.args.work.now in let n = c.args.node.index in
    let x = first_marked f w n c.in-Some.x (c.requires.shown.shape_is ∙ ap Some c.requires.q) c.requires.ready.right (sym c.first_child.ensures ∙ c.in-Some.is) in
    let t : c.stretch_around-seen.new.steps ≤ c.args.steps.now + 2 * labelled_in w (children_at f n) = c.stretch_around-seen.ensures.ticks n x in
    omega (arith, c.has_q2.ensures.ticks, c.requires.ready.right.full, c.requires.ready.right.partial)

pub returns-else-spans-clause-ticks : goal.returns-else-spans-clause-ticks
returns-else-spans-clause-ticks g c =
    let f = c.args.arena.now in let w = c.args.work.now in let n = c.args.node.index in
    let x = first_marked f w n c.in-Some.x (c.requires.shown.shape_is ∙ ap Some c.requires.q) c.requires.ready.right (sym c.first_child.ensures ∙ c.in-Some.is) in
    let t : c.stretch_around-seen.new.steps ≤ c.args.steps.now + 2 * labelled_in w (children_at f n) = c.stretch_around-seen.ensures.ticks n x in
    omega (arith, c.requires.ready.right.full, c.requires.ready.right.partial)

pub first_child-requires : goal.first_child-requires
first_child-requires g c = grind (arith, common_steps)

pub counts-counts-requires : goal.counts-counts-requires
counts-counts-requires g c = grind (arith, common_steps)
