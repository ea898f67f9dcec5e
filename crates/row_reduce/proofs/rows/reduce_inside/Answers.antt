use Rattle.std.proofs.Common.{◌≡◌, ◌-◌, length, refl, sym, ◌∙◌, arith}
use Rattle.std.proofs.lemmas.Bool.{false≢true}
use Rattle.row_reduce.proofs.AtInside.{refused_below}
use Rattle.row_reduce.proofs.Finding.{labelled_ready}
use Rattle.row_reduce.proofs.Grounds.{node_labelled}
use Rattle.row_reduce.proofs.InsideDone.{some_items, last_first, can_ask, refused_run, first_chosen, last_turn, done_at, run_ready, run_stands, run_taken, run_unmoved, run_room, run_ticks}
use Rattle.row_reduce.proofs.Applying.{turn_ready, turn_stands}
use Rattle.row_reduce.proofs.Unmoved.{still_inside, run_still, still_now}
use Rattle.row_reduce.proofs.Ticks.{decide_few, asked_few}
use Rattle.row_reduce.proofs.Turning.{items_long, item_at}
use Rattle.row_reduce.proofs.rows.reduce_inside.Goals as goal

pub overflow_sub-last : goal.overflow_sub-last
overflow_sub-last g c = some_items c.nodes-nodes.result.now c.nodes-nodes.ensures c.requires.found.1

pub bounds-nodes-last : goal.bounds-nodes-last
bounds-nodes-last g c = let some = some_items c.nodes-nodes.result.now c.nodes-nodes.ensures c.requires.found.1 in omega (arith, some)

pub decide-requires-clause-ready : goal.decide-requires-clause-ready
decide-requires-clause-ready g c = let s = c.requires.found.1 in λ i l. labelled_ready s.ground _ (node_labelled s.ground i l)

pub returns-then-not-decide-clause-outcome : goal.returns-then-not-decide-clause-outcome
returns-then-not-decide-clause-outcome g c = λ row s. (refused_below s (c.decide.ensures.stopped c.if-not-decide.true), refl)

pub returns-then-not-decide-clause-ticks : goal.returns-then-not-decide-clause-ticks
returns-then-not-decide-clause-ticks g c = let few = decide_few c.requires.found.1.ground _ _ c.decide.ensures.ticks in omega (arith, few)

pub fits_q3-requires : goal.fits_q3-requires
fits_q3-requires g c = can_ask c.requires.found.1 _ (last_first c.nodes-nodes.result.now c.nodes-nodes.ensures c.requires.found.1 _ (item_at c.args.work.now c.nodes-nodes.result.now (length c.nodes-nodes.result.now - 1) c.nodes-nodes.ensures (let some = some_items c.nodes-nodes.result.now c.nodes-nodes.ensures c.requires.found.1 in omega (arith, some))))

pub returns-then-not-fits_q3-clause-outcome : goal.returns-then-not-fits_q3-clause-outcome
returns-then-not-fits_q3-clause-outcome g c = λ row s. (
  refused_run _ s (c.decide.ensures.decided c.if-not-decide.false) (λ ps m fit. false≢true (sym c.if-not-fits_q3.true ∙ (c.fits_q3.ensures.run (s.found.inside, refl) s.found.run.q (last_first c.nodes-nodes.result.now c.nodes-nodes.ensures s _ (item_at c.args.work.now c.nodes-nodes.result.now (length c.nodes-nodes.result.now - 1) c.nodes-nodes.ensures (let some = some_items c.nodes-nodes.result.now c.nodes-nodes.ensures s in omega (arith, some)))) ps m).1 fit)),
  refl,
)

pub returns-then-not-fits_q3-clause-ticks : goal.returns-then-not-fits_q3-clause-ticks
returns-then-not-fits_q3-clause-ticks g c =
    let s = c.requires.found.1 in asked_few s.ground s.found.top _ _ _ c.decide.ensures.ticks (c.fits_q3.ensures.run_few (s.found.inside, refl) s.found.run.q (last_first c.nodes-nodes.result.now c.nodes-nodes.ensures s _ (item_at c.args.work.now c.nodes-nodes.result.now (length c.nodes-nodes.result.now - 1) c.nodes-nodes.ensures (let some = some_items c.nodes-nodes.result.now c.nodes-nodes.ensures s in omega (arith, some)))))

pub apply_chosen-requires : goal.apply_chosen-requires
apply_chosen-requires g c = let s = c.requires.found.1 in record {
  chosen = (c.requires.found.0, s.found.run.q, first_chosen _ c.nodes-nodes.result.now c.nodes-nodes.ensures s (let long : length c.decide.new.chosen ≡ length c.args.chosen.now = c.decide.auto.chosen in omega (arith, c.requires.chosen)) (c.decide.ensures.decided c.if-not-decide.false));
}

pub slice_copy_out-apply_one : goal.slice_copy_out-apply_one
slice_copy_out-apply_one g c =
    let long : length c.decide.new.chosen ≡ length c.args.chosen.now = c.decide.auto.chosen in
    let some = some_items c.nodes-nodes.result.now c.nodes-nodes.ensures c.requires.found.1 in
    omega (arith, some, items_long c.args.work.now c.nodes-nodes.result.now c.nodes-nodes.ensures, c.requires.chosen)

pub apply_one-child-requires-clause-ready : goal.apply_one-child-requires-clause-ready
apply_one-child-requires-clause-ready g c =
    let t = (last_turn c.nodes-nodes.result.now _ c.nodes-nodes.ensures c.requires.found.1 (let long : length c.decide.new.chosen ≡ length c.args.chosen.now = c.decide.auto.chosen in omega (arith, c.requires.chosen)) (c.decide.ensures.decided c.if-not-decide.false)
    (λ ps m. (c.fits_q3.ensures.run (c.requires.found.1.found.inside, refl) c.requires.found.1.found.run.q (last_first c.nodes-nodes.result.now c.nodes-nodes.ensures c.requires.found.1 _ (item_at c.args.work.now c.nodes-nodes.result.now (length c.nodes-nodes.result.now - 1) c.nodes-nodes.ensures (let some = some_items c.nodes-nodes.result.now c.nodes-nodes.ensures c.requires.found.1 in omega (arith, some)))) ps m).0 c.if-not-fits_q3.false) c.layout_law.ensures c.apply_chosen.ensures.applied (item_at c.args.work.now c.nodes-nodes.result.now (length c.nodes-nodes.result.now - 1) c.nodes-nodes.ensures (let some = some_items c.nodes-nodes.result.now c.nodes-nodes.ensures c.requires.found.1 in omega (arith, some)))) in
    turn_ready t.1.turn

pub apply_one-child-requires-clause-stands : goal.apply_one-child-requires-clause-stands
apply_one-child-requires-clause-stands g c =
    let t = (last_turn c.nodes-nodes.result.now _ c.nodes-nodes.ensures c.requires.found.1 (let long : length c.decide.new.chosen ≡ length c.args.chosen.now = c.decide.auto.chosen in omega (arith, c.requires.chosen)) (c.decide.ensures.decided c.if-not-decide.false)
    (λ ps m. (c.fits_q3.ensures.run (c.requires.found.1.found.inside, refl) c.requires.found.1.found.run.q (last_first c.nodes-nodes.result.now c.nodes-nodes.ensures c.requires.found.1 _ (item_at c.args.work.now c.nodes-nodes.result.now (length c.nodes-nodes.result.now - 1) c.nodes-nodes.ensures (let some = some_items c.nodes-nodes.result.now c.nodes-nodes.ensures c.requires.found.1 in omega (arith, some)))) ps m).0 c.if-not-fits_q3.false) c.layout_law.ensures c.apply_chosen.ensures.applied (item_at c.args.work.now c.nodes-nodes.result.now (length c.nodes-nodes.result.now - 1) c.nodes-nodes.ensures (let some = some_items c.nodes-nodes.result.now c.nodes-nodes.ensures c.requires.found.1 in omega (arith, some)))) in
    turn_stands t.1.turn

pub apply_q3-requires-clause-ready : goal.apply_q3-requires-clause-ready
apply_q3-requires-clause-ready g c =
    let t = (last_turn c.nodes-nodes.result.now _ c.nodes-nodes.ensures c.requires.found.1 (let long : length c.decide.new.chosen ≡ length c.args.chosen.now = c.decide.auto.chosen in omega (arith, c.requires.chosen)) (c.decide.ensures.decided c.if-not-decide.false)
    (λ ps m. (c.fits_q3.ensures.run (c.requires.found.1.found.inside, refl) c.requires.found.1.found.run.q (last_first c.nodes-nodes.result.now c.nodes-nodes.ensures c.requires.found.1 _ (item_at c.args.work.now c.nodes-nodes.result.now (length c.nodes-nodes.result.now - 1) c.nodes-nodes.ensures (let some = some_items c.nodes-nodes.result.now c.nodes-nodes.ensures c.requires.found.1 in omega (arith, some)))) ps m).0 c.if-not-fits_q3.false) c.layout_law.ensures c.apply_chosen.ensures.applied (item_at c.args.work.now c.nodes-nodes.result.now (length c.nodes-nodes.result.now - 1) c.nodes-nodes.ensures (let some = some_items c.nodes-nodes.result.now c.nodes-nodes.ensures c.requires.found.1 in omega (arith, some)))) in
    run_ready (done_at t.1 c.layout_law-2.ensures c.apply_one-child.ensures.treated c.apply_one-child.ensures.becomes)

pub apply_q3-requires-clause-stands : goal.apply_q3-requires-clause-stands
apply_q3-requires-clause-stands g c =
    let t = (last_turn c.nodes-nodes.result.now _ c.nodes-nodes.ensures c.requires.found.1 (let long : length c.decide.new.chosen ≡ length c.args.chosen.now = c.decide.auto.chosen in omega (arith, c.requires.chosen)) (c.decide.ensures.decided c.if-not-decide.false)
    (λ ps m. (c.fits_q3.ensures.run (c.requires.found.1.found.inside, refl) c.requires.found.1.found.run.q (last_first c.nodes-nodes.result.now c.nodes-nodes.ensures c.requires.found.1 _ (item_at c.args.work.now c.nodes-nodes.result.now (length c.nodes-nodes.result.now - 1) c.nodes-nodes.ensures (let some = some_items c.nodes-nodes.result.now c.nodes-nodes.ensures c.requires.found.1 in omega (arith, some)))) ps m).0 c.if-not-fits_q3.false) c.layout_law.ensures c.apply_chosen.ensures.applied (item_at c.args.work.now c.nodes-nodes.result.now (length c.nodes-nodes.result.now - 1) c.nodes-nodes.ensures (let some = some_items c.nodes-nodes.result.now c.nodes-nodes.ensures c.requires.found.1 in omega (arith, some)))) in
    run_stands (done_at t.1 c.layout_law-2.ensures c.apply_one-child.ensures.treated c.apply_one-child.ensures.becomes)

pub returns-clause-outcome : goal.returns-clause-outcome
returns-clause-outcome g c = λ row s.
    let t = (last_turn c.nodes-nodes.result.now _ c.nodes-nodes.ensures s (let long : length c.decide.new.chosen ≡ length c.args.chosen.now = c.decide.auto.chosen in omega (arith, c.requires.chosen)) (c.decide.ensures.decided c.if-not-decide.false)
    (λ ps m. (c.fits_q3.ensures.run (s.found.inside, refl) s.found.run.q (last_first c.nodes-nodes.result.now c.nodes-nodes.ensures s _ (item_at c.args.work.now c.nodes-nodes.result.now (length c.nodes-nodes.result.now - 1) c.nodes-nodes.ensures (let some = some_items c.nodes-nodes.result.now c.nodes-nodes.ensures s in omega (arith, some)))) ps m).0 c.if-not-fits_q3.false) c.layout_law.ensures c.apply_chosen.ensures.applied (item_at c.args.work.now c.nodes-nodes.result.now (length c.nodes-nodes.result.now - 1) c.nodes-nodes.ensures (let some = some_items c.nodes-nodes.result.now c.nodes-nodes.ensures s in omega (arith, some)))) in
    run_taken (done_at t.1 c.layout_law-2.ensures c.apply_one-child.ensures.treated c.apply_one-child.ensures.becomes) c.turned_law.ensures.root _ c.layout_law-3.ensures
    c.apply_q3.ensures.replaced c.apply_q3.ensures.run_becomes

pub returns-clause-room : goal.returns-clause-room
returns-clause-room g c =
    let t = (last_turn c.nodes-nodes.result.now _ c.nodes-nodes.ensures c.requires.found.1 (let long : length c.decide.new.chosen ≡ length c.args.chosen.now = c.decide.auto.chosen in omega (arith, c.requires.chosen)) (c.decide.ensures.decided c.if-not-decide.false)
    (λ ps m. (c.fits_q3.ensures.run (c.requires.found.1.found.inside, refl) c.requires.found.1.found.run.q (last_first c.nodes-nodes.result.now c.nodes-nodes.ensures c.requires.found.1 _ (item_at c.args.work.now c.nodes-nodes.result.now (length c.nodes-nodes.result.now - 1) c.nodes-nodes.ensures (let some = some_items c.nodes-nodes.result.now c.nodes-nodes.ensures c.requires.found.1 in omega (arith, some)))) ps m).0 c.if-not-fits_q3.false) c.layout_law.ensures c.apply_chosen.ensures.applied (item_at c.args.work.now c.nodes-nodes.result.now (length c.nodes-nodes.result.now - 1) c.nodes-nodes.ensures (let some = some_items c.nodes-nodes.result.now c.nodes-nodes.ensures c.requires.found.1 in omega (arith, some)))) in
    run_room (done_at t.1 c.layout_law-2.ensures c.apply_one-child.ensures.treated c.apply_one-child.ensures.becomes) _ _ c.apply_q3.ensures.kept

pub returns-clause-ticks : goal.returns-clause-ticks
returns-clause-ticks g c =
    let s = c.requires.found.1 in
    let t = (last_turn c.nodes-nodes.result.now _ c.nodes-nodes.ensures s (let long : length c.decide.new.chosen ≡ length c.args.chosen.now = c.decide.auto.chosen in omega (arith, c.requires.chosen)) (c.decide.ensures.decided c.if-not-decide.false)
    (λ ps m. (c.fits_q3.ensures.run (s.found.inside, refl) s.found.run.q (last_first c.nodes-nodes.result.now c.nodes-nodes.ensures s _ (item_at c.args.work.now c.nodes-nodes.result.now (length c.nodes-nodes.result.now - 1) c.nodes-nodes.ensures (let some = some_items c.nodes-nodes.result.now c.nodes-nodes.ensures s in omega (arith, some)))) ps m).0 c.if-not-fits_q3.false) c.layout_law.ensures c.apply_chosen.ensures.applied (item_at c.args.work.now c.nodes-nodes.result.now (length c.nodes-nodes.result.now - 1) c.nodes-nodes.ensures (let some = some_items c.nodes-nodes.result.now c.nodes-nodes.ensures s in omega (arith, some)))) in
    run_ticks (done_at t.1 c.layout_law-2.ensures c.apply_one-child.ensures.treated c.apply_one-child.ensures.becomes) c.nodes-nodes.result.now _ c.nodes-nodes.ensures
    (item_at c.args.work.now c.nodes-nodes.result.now (length c.nodes-nodes.result.now - 1) c.nodes-nodes.ensures (let some = some_items c.nodes-nodes.result.now c.nodes-nodes.ensures s in omega (arith, some)))
    _ _ _ _ _ _ c.decide.ensures.ticks c.fits_q3.ensures.run_few c.apply_chosen.ensures.ticks c.apply_one-child.ensures.ticks c.apply_q3.ensures.run_few

pub returns-then-not-decide-clause-kept : goal.returns-then-not-decide-clause-kept
returns-then-not-decide-clause-kept g c = λ row s kept. refl

pub returns-then-not-fits_q3-clause-kept : goal.returns-then-not-fits_q3-clause-kept
returns-then-not-fits_q3-clause-kept g c = λ row s kept. refl

pub returns-clause-kept : goal.returns-clause-kept
returns-clause-kept g c = λ row s kept.
    let items = c.nodes-nodes.result.now in
    let some = some_items items c.nodes-nodes.ensures s in
    let long = items_long c.args.work.now items c.nodes-nodes.ensures in
    let is = item_at c.args.work.now items (length items - 1) c.nodes-nodes.ensures (omega (arith, some)) in
    let t = (last_turn items _ c.nodes-nodes.ensures s (let room : length c.decide.new.chosen ≡ length c.args.chosen.now = c.decide.auto.chosen in omega (arith, c.requires.chosen)) (c.decide.ensures.decided c.if-not-decide.false)
    (λ ps m. (c.fits_q3.ensures.run (s.found.inside, refl) s.found.run.q (last_first items c.nodes-nodes.ensures s _ is) ps m).0 c.if-not-fits_q3.false) c.layout_law.ensures c.apply_chosen.ensures.applied is) in
    let a = c.apply_chosen.ensures.still (λ i l. still_inside s kept i (omega (arith, l, long, some))) in
    let b = c.apply_one-child.ensures.still (still_now _ _ _ _ _ _ a.0 a.1 is (still_inside s kept (length items - 1) (omega (arith, long, some)))) in
    run_unmoved (done_at t.1 c.layout_law-2.ensures c.apply_one-child.ensures.treated c.apply_one-child.ensures.becomes) _ c.apply_q3.ensures.run_unchanged
    (λ r. (still_now _ _ _ _ _ _ (b.0 ∙ a.0) (b.1 ∙ a.1) refl (run_still r kept)).plain) ∙ b.0 ∙ a.0
