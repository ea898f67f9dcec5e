use Rattle.std.proofs.Common.{ℕ, [], get_or, refl, sym, arith, below_more, subst}
use Rattle.std.proofs.lemmas.Bool.{iff_false}
use Rattle.proper_interval.specs.Fitting.{FitsLater}
use Rattle.proper_interval.proofs.IntervalLemmas.{model_ends, model_fits, model_from, row_there}
use Rattle.proper_interval.proofs.model.fits.Goals as goal

pub returns-then-not-are_in_order : goal.returns-then-not-are_in_order
returns-then-not-are_in_order c = (
  λ t. absurd (cc),
  λ m. absurd (iff_false c.are_in_order.ensures c.if-not-are_in_order.true (model_ends c.args.g.now c.args.list.now m)),
)

pub returns-then-not-fits_later : goal.returns-then-not-fits_later
returns-then-not-fits_later c =
    let g = c.args.g.now in
    let list = c.args.list.now in
    let k = c.loop-before.before in
    let row = row_there g.neighbours k c.neighbours.result.now c.neighbours.ensures.list in (
      λ t. absurd (cc),
      λ m. absurd (iff_false c.fits_later.ensures c.if-not-fits_later.true (subst (FitsLater list k) (sym row) (model_fits g list m k (omega arith)))),
    )

pub loop-before-preserved : goal.loop-before-preserved
loop-before-preserved c =
    let g = c.args.g.now in
    let list = c.args.list.now in
    let k = c.loop-before.before in
    let row = row_there g.neighbours k c.neighbours.result.now c.neighbours.ensures.list in
    below_more (λ (i : ℕ). FitsLater list i (get_or g.neighbours i [])) k c.loop-before.invariant (subst (FitsLater list k) row (c.fits_later.ensures.0 c.if-not-fits_later.false))

pub returns : goal.returns
returns c = (
  λ t. model_from c.args.g.now c.args.list.now c.vertices-before-end.ensures.graph c.requires (c.are_in_order.ensures.0 c.if-not-are_in_order.false) (λ k l. c.loop-before.invariant k (omega arith)),
  λ m. refl,
)
