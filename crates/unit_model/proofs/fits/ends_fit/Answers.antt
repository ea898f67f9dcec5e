use Rattle.std.proofs.Common.{ℕ, [], get_or, refl, arith, below_more}
use Rattle.std.proofs.lemmas.Bool.{iff_false}
use Rattle.unit_model.specs.Fitting.{EndFits}
use Rattle.unit_model.proofs.FitLemmas.{model_fits, model_from, fits_there}
use Rattle.unit_model.proofs.fits.ends_fit.Goals as goal

pub returns-then-not-end_fits : goal.returns-then-not-end_fits
returns-then-not-end_fits c =
    let g = c.args.g.now in
    let there = fits_there c.args.lefts.now c.args.length c.loop-before.before g.neighbours c.neighbours.result.now c.neighbours.ensures.list in (
      λ t. absurd (cc),
      λ m. absurd (iff_false c.end_fits.ensures c.if-not-end_fits.true (there.1 (model_fits g c.args.length c.args.lefts.now m c.loop-before.before (omega arith)))),
    )

pub loop-before-preserved : goal.loop-before-preserved
loop-before-preserved c =
    let there = fits_there c.args.lefts.now c.args.length c.loop-before.before c.args.g.now.neighbours c.neighbours.result.now c.neighbours.ensures.list in
    below_more (λ (i : ℕ). EndFits c.args.lefts.now c.args.length i (get_or c.args.g.now.neighbours i [])) c.loop-before.before c.loop-before.invariant (there.0 (c.end_fits.ensures.0 c.if-not-end_fits.false))

pub returns : goal.returns
returns c = (
  λ t. model_from c.args.g.now c.args.length c.args.lefts.now c.requires.positive c.requires.count (λ k l. c.loop-before.invariant k (omega arith)),
  λ m. refl,
)
