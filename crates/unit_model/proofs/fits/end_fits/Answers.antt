use Rattle.std.proofs.Common.{◌-◌, get_or, refl, arith}
use Rattle.std.proofs.lemmas.Bool.{iff_false}
use Rattle.column_order.proofs.Lists.{has_at}
use Rattle.unit_model.specs.Models.{DifferByAtMost}
use Rattle.unit_model.proofs.NearCounts.{near_known, fits_count, fits_near, count_fits, neighbour_within, each_neighbour}
use Rattle.unit_model.proofs.fits.end_fits.Goals as goal

pub returns-then-near-neighbours : goal.returns-then-near-neighbours
returns-then-near-neighbours c =
    let known = near_known c.args.lefts.now c.args.length c.args.at c.args.neighbours.now c.args.near c.requires.at c.requires.near c.requires.neighbours c.requires.others in
    (λ t. absurd (cc), λ f. absurd (c.if-near-neighbours.true (fits_count _ _ _ _ _ known f)))

pub overflow_sub-neighbour : goal.overflow_sub-neighbour
overflow_sub-neighbour c = (neighbour_within _ _ c.loop-neighbour.neighbour-index c.requires.neighbours c.loop-neighbour-test.true).0

pub bounds-lefts-neighbour : goal.bounds-lefts-neighbour
bounds-lefts-neighbour c = let within = neighbour_within _ _ c.loop-neighbour.neighbour-index c.requires.neighbours c.loop-neighbour-test.true in omega (arith, within.0, within.1)

pub returns-then-not-are_near : goal.returns-then-not-are_near
returns-then-not-are_near c =
    let known = near_known c.args.lefts.now c.args.length c.args.at c.args.neighbours.now c.args.near c.requires.at c.requires.near c.requires.neighbours c.requires.others in (
      λ t. absurd (cc),
      λ f. absurd (iff_false c.are_near.ensures c.if-not-are_near.true
          (fits_near _ _ _ _ _ known f (get_or c.args.neighbours.now c.loop-neighbour.neighbour-index 0) (has_at c.args.neighbours.now c.loop-neighbour.neighbour-index c.loop-neighbour-test.true))),
    )

pub returns : goal.returns
returns c =
    let lefts = c.args.lefts.now in
    let known = near_known lefts c.args.length c.args.at c.args.neighbours.now c.args.near c.requires.at c.requires.near c.requires.neighbours c.requires.others in (
      λ t. count_fits lefts c.args.length c.args.at c.args.neighbours.now c.args.near known c.if-near-neighbours.false
          (each_neighbour (λ v. DifferByAtMost c.args.length (get_or lefts c.args.at 0) (get_or lefts (v - 1) 0)) c.args.neighbours.now (λ k l. c.loop-neighbour.invariant k (omega (arith, l, c.loop-neighbour-test.false)))),
      λ f. refl,
    )
