use Rattle.std.proofs.Common.{◌≡◌, ◌+◌, ◌-◌, ◌≤◌, length, get_or, refl, subst, inl, inr, arith}
use Rattle.std.proofs.lemmas.Bool.{cases_lt, iff_false}
use Rattle.row_model.specs.declared.lists.Interval.{Interval}
use Rattle.proper_interval.specs.Models.{interval_of}
use Rattle.proper_interval.proofs.IntervalLemmas.{Fits, interval_there, passed_more, number_within, between_fits, between_apart, here_fits, here_overlaps}
use Rattle.proper_interval.proofs.model.fits_later.Goals as goal
use Rattle.proper_interval.proofs.model.fits_later.Goals.{then-not-lies_apart-via-then-not-lies_apart, then-not-lies_apart-via-else-not-lies_apart+then-not-overlap}
use Rattle.proper_interval.proofs.model.fits_later.Goals.{then-end-from+else-not-lies_apart+else-not-overlap, else-end-from}

pub slice_bounds-lies_apart-end : goal.slice_bounds-lies_apart-end
slice_bounds-lies_apart-end c =
    omega (arith, number_within (length c.args.list.now) c.args.neighbours.now c.loop-neighbour.neighbour-index c.requires.neighbours c.loop-neighbour-test.true)

pub bounds-list-end : goal.bounds-list-end
bounds-list-end c =
    omega (arith, number_within (length c.args.list.now) c.args.neighbours.now c.loop-neighbour.neighbour-index c.requires.neighbours c.loop-neighbour-test.true)

pub returns-then-not-lies_apart : goal.returns-then-not-lies_apart
returns-then-not-lies_apart c =
    let list = c.args.list.now in
    let row = c.args.neighbours.now in
    let k = c.loop-neighbour.neighbour-index in
    let from = c.loop-neighbour.from in
    let end = get_or row k 0 in
    let none : Interval = record { left = 0; right = 0 } in
    let a = get_or list c.args.at none in
    let within : end ≤ length list = number_within (length list) row k c.requires.neighbours c.loop-neighbour-test.true in
    let is : a ≡ interval_of list (c.args.at + 1) = interval_there list c.args.at none a c.requires.at refl in (
      λ t. absurd (cc),
      λ fits. absurd (elim c.then-not-lies_apart.branch [
        | then-not-lies_apart-via-then-not-lies_apart w ↦
            iff_false c.lies_apart.ensures w.if-not-lies_apart.true
            (between_apart list c.requires.ordered c.args.at a is (c.requires.ordered c.args.at none c.requires.at) (length list) row c.requires.neighbours from (end - 1) k c.loop-neighbour.invariant.behind
            (omega arith) c.loop-neighbour.invariant.passed (λ more. omega arith) fits)
        | then-not-lies_apart-via-else-not-lies_apart+then-not-overlap w ↦
            iff_false w.overlap.ensures w.if-not-overlap.true
            (here_overlaps list c.requires.ordered c.args.at a is (c.requires.ordered c.args.at none c.requires.at) (length list) row c.requires.neighbours (end - 1) k (get_or list (end - 1) none)
            c.loop-neighbour-test.true (omega arith) (interval_there list (end - 1) none (get_or list (end - 1) none) (omega arith) refl) (fits (end - 1) (omega arith) (omega arith)))
      ]),
    )

pub loop-neighbour-preserved : goal.loop-neighbour-preserved
loop-neighbour-preserved c =
    let list = c.args.list.now in
    let row = c.args.neighbours.now in
    let at = c.args.at in
    let k = c.loop-neighbour.neighbour-index in
    let from = c.loop-neighbour.from in
    let end = get_or row k 0 in
    let none : Interval = record { left = 0; right = 0 } in
    let a = get_or list at none in
    let within : end ≤ length list = number_within (length list) row k c.requires.neighbours c.loop-neighbour-test.true in
    let is : a ≡ interval_of list (at + 1) = interval_there list at none a c.requires.at refl in
    let inv = c.loop-neighbour.invariant in
    elim c.if-end-from.branch [
      | then-end-from+else-not-lies_apart+else-not-overlap w ↦ record {
        behind = omega arith;
        within = omega arith;
        passed = passed_more row k from c.if-end-from.from inv.passed (omega arith) (omega arith);
        fits = λ i l u. elim (cases_lt i from) [
          | inl before ↦ inv.fits i l before
          | inr behind ↦ elim (cases_lt i (end - 1)) [
            | inl between ↦
                between_fits list c.requires.ordered at a is (c.requires.ordered at none c.requires.at) (length list) row c.requires.neighbours from (end - 1) k (omega arith) inv.passed (λ more. omega arith)
                (w.lies_apart.ensures.0 w.if-not-lies_apart.false) i behind between
            | inr last ↦
                let here : end - 1 ≡ i = omega arith in
                subst (Fits list at row) here
                (here_fits list c.requires.ordered at a is (c.requires.ordered at none c.requires.at) (length list) row c.requires.neighbours (end - 1) k (get_or list (end - 1) none) c.loop-neighbour-test.true
                (omega arith) (interval_there list (end - 1) none (get_or list (end - 1) none) (omega arith) refl) (w.overlap.ensures.0 w.if-not-overlap.false))
          ]
        ];
      }
      | else-end-from w ↦ record {
        behind = omega arith;
        within = omega arith;
        passed = passed_more row k from c.if-end-from.from inv.passed (omega arith) (omega arith);
        fits = λ i l u. inv.fits i l (omega arith);
      }
    ]

pub returns : goal.returns
returns c =
    let list = c.args.list.now in
    let row = c.args.neighbours.now in
    let at = c.args.at in
    let k = c.loop-neighbour.neighbour-index in
    let from = c.loop-neighbour.from in
    let none : Interval = record { left = 0; right = 0 } in
    let a = get_or list at none in
    let is : a ≡ interval_of list (at + 1) = interval_there list at none a c.requires.at refl in
    let inv = c.loop-neighbour.invariant in (
      λ t i l u. elim (cases_lt i from) [
        | inl before ↦ inv.fits i l before
        | inr behind ↦
            between_fits list c.requires.ordered at a is (c.requires.ordered at none c.requires.at) (length list) row c.requires.neighbours from (length list) k (omega arith) inv.passed (λ more. absurd (omega arith))
            (c.lies_apart-2.ensures.0 t) i behind u
      ],
      λ fits. c.lies_apart-2.ensures.1
          (between_apart list c.requires.ordered at a is (c.requires.ordered at none c.requires.at) (length list) row c.requires.neighbours from (length list) k inv.behind (omega arith) inv.passed (λ more. absurd (omega arith)) fits),
    )
