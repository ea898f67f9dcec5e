use Rattle.std.proofs.Common.{◌≡◌, true, false, inl, inr, sym, ◌∙◌, reverse, arith}
use Rattle.std.proofs.lemmas.Grind.{common_steps}
use Rattle.arena_model.specs.declared.Shape.TheVariants.{Q}
use Rattle.arena_model.specs.Layout.{children_at}
use Rattle.arena_model.proofs.Slots.{some_inj}
use Rattle.templates_q.proofs.Walks.{front_gap, back_gap}
use Rattle.templates_q.proofs.Fitting.{fitting_line, counted_at}
use Rattle.templates_q.proofs.q2.full_side.Goals as goal

pub is_run_from-requires-clause-place : goal.is_run_from-requires-clause-place
is_run_from-requires-clause-place g c =
    let f = c.args.arena.now in let w = c.args.work.now in let n = c.args.node.index in let view = c.args.view.now in
    let q : view.shape ≡ Q = some_inj view.shape Q (sym c.requires.shown.shape_is ∙ c.requires.fits.2.0) in
    let counted = counted_at f w n _ _ c.requires.ready c.counts-counts.ensures.full c.counts-counts.ensures.partial in
    (n, children_at f n, front_gap f n view c.requires.shown q, counted)

pub returns-then-is_run_from-clause-side : goal.returns-then-is_run_from-clause-side
returns-then-is_run_from-clause-side g c =
    let f = c.args.arena.now in let w = c.args.work.now in let n = c.args.node.index in let view = c.args.view.now in
    let q : view.shape ≡ Q = some_inj view.shape Q (sym c.requires.shown.shape_is ∙ c.requires.fits.2.0) in
    let counted = counted_at f w n _ _ c.requires.ready c.counts-counts.ensures.full c.counts-counts.ensures.partial in
    let gap = front_gap f n view c.requires.shown q in let run = c.is_run_from.ensures.run n (children_at f n) gap counted in
    (children_at f n, gap, run.0 c.if-is_run_from.true)

pub returns-clause-side : goal.returns-clause-side
returns-clause-side g c =
    let f = c.args.arena.now in let w = c.args.work.now in let n = c.args.node.index in let view = c.args.view.now in
    let q : view.shape ≡ Q = some_inj view.shape Q (sym c.requires.shown.shape_is ∙ c.requires.fits.2.0) in
    let counted = counted_at f w n _ _ c.requires.ready c.counts-counts.ensures.full c.counts-counts.ensures.partial in
    let run = c.is_run_from.ensures.run n (children_at f n) (front_gap f n view c.requires.shown q) counted in (
      reverse (children_at f n),
      back_gap f n view c.requires.shown q,
      elim (fitting_line f w n c.requires.fits.0 c.requires.fits.1 c.requires.fits.2) [
        | inl r ↦ absurd (let a : c.is_run_from.result ≡ true = run.1 r in let b : c.is_run_from.result ≡ false = c.if-is_run_from.false in cc)
        | inr r ↦ r
      ],
    )

pub counts-counts-requires : goal.counts-counts-requires
counts-counts-requires g c = grind (arith, common_steps)
