use Rattle.std.proofs.Common.{◌≡◌, length, refl, ◌∙◌, arith}
use Rattle.row_reduce.proofs.AtRoot.{refused, root_ready}
use Rattle.row_reduce.proofs.Finding.{labelled_ready}
use Rattle.row_reduce.proofs.Grounds.{node_labelled}
use Rattle.row_reduce.proofs.RootDone.{last_turn, last_now, last_stands, last_taken, last_ticks, first_chosen, some_items}
use Rattle.row_reduce.proofs.Unmoved.{still_before, root_still, still_now}
use Rattle.row_reduce.proofs.Ticks.{decide_few}
use Rattle.row_reduce.proofs.Turning.{items_long}
use Rattle.row_reduce.proofs.rows.reduce_root.Goals as goal

pub decide-requires-clause-ready : goal.decide-requires-clause-ready
decide-requires-clause-ready g c = let s = c.requires.found.1 in λ i l. labelled_ready s.ground _ (node_labelled s.ground i l)

pub returns-then-not-decide-clause-outcome : goal.returns-then-not-decide-clause-outcome
returns-then-not-decide-clause-outcome g c = λ row s. (refused c.args.root s (c.decide.ensures.stopped c.if-not-decide.true), refl)

pub returns-then-not-decide-clause-ticks : goal.returns-then-not-decide-clause-ticks
returns-then-not-decide-clause-ticks g c = decide_few c.requires.found.1.ground _ _ c.decide.ensures.ticks

pub overflow_sub-last : goal.overflow_sub-last
overflow_sub-last g c = some_items c.nodes.result.now c.nodes.ensures c.requires.found.1

pub apply_chosen-requires : goal.apply_chosen-requires
apply_chosen-requires g c = record {
  chosen = (
    c.requires.found.0,
    c.args.root.index,
    first_chosen c.nodes.result.now c.nodes.ensures c.requires.found.1 (let long : length c.decide.new.chosen ≡ length c.args.chosen.now = c.decide.auto.chosen in omega (arith, c.requires.chosen))
        (c.decide.ensures.decided c.if-not-decide.false),
  );
}

pub slice_copy_out-apply_one : goal.slice_copy_out-apply_one
slice_copy_out-apply_one g c =
    let long : length c.decide.new.chosen ≡ length c.args.chosen.now = c.decide.auto.chosen in
    let some = some_items c.nodes.result.now c.nodes.ensures c.requires.found.1 in
    omega (arith, some, items_long c.args.work.now c.nodes.result.now c.nodes.ensures, c.requires.chosen)

pub apply_one-requires-clause-ready : goal.apply_one-requires-clause-ready
apply_one-requires-clause-ready g c =
    let t = last_turn c.nodes.result.now c.nodes.ensures c.requires.found.1 (let long : length c.decide.new.chosen ≡ length c.args.chosen.now = c.decide.auto.chosen in omega (arith, c.requires.chosen))
    (c.decide.ensures.decided c.if-not-decide.false) c.layout_law.ensures c.apply_chosen.ensures.applied in
    root_ready (last_now t.1)

pub apply_one-requires-clause-stands : goal.apply_one-requires-clause-stands
apply_one-requires-clause-stands g c =
    let t = last_turn c.nodes.result.now c.nodes.ensures c.requires.found.1 (let long : length c.decide.new.chosen ≡ length c.args.chosen.now = c.decide.auto.chosen in omega (arith, c.requires.chosen))
    (c.decide.ensures.decided c.if-not-decide.false) c.layout_law.ensures c.apply_chosen.ensures.applied in
    last_stands t.1

pub returns-clause-outcome : goal.returns-clause-outcome
returns-clause-outcome g c = λ row s.
    let t = last_turn c.nodes.result.now c.nodes.ensures s (let long : length c.decide.new.chosen ≡ length c.args.chosen.now = c.decide.auto.chosen in omega (arith, c.requires.chosen))
    (c.decide.ensures.decided c.if-not-decide.false) c.layout_law.ensures c.apply_chosen.ensures.applied in
    last_taken t.1 c.turned_law.ensures.root _ _ _ c.layout_law-2.ensures c.apply_one.ensures.treated c.apply_one.ensures.becomes

pub returns-clause-room : goal.returns-clause-room
returns-clause-room g c =
    let t = last_turn c.nodes.result.now c.nodes.ensures c.requires.found.1 (let long : length c.decide.new.chosen ≡ length c.args.chosen.now = c.decide.auto.chosen in omega (arith, c.requires.chosen))
    (c.decide.ensures.decided c.if-not-decide.false) c.layout_law.ensures c.apply_chosen.ensures.applied in
    c.apply_one.ensures.treated.marks.room ∙ t.1.applied.room

pub returns-clause-ticks : goal.returns-clause-ticks
returns-clause-ticks g c =
    let t = last_turn c.nodes.result.now c.nodes.ensures c.requires.found.1 (let long : length c.decide.new.chosen ≡ length c.args.chosen.now = c.decide.auto.chosen in omega (arith, c.requires.chosen))
    (c.decide.ensures.decided c.if-not-decide.false) c.layout_law.ensures c.apply_chosen.ensures.applied in
    last_ticks t.1 c.nodes.result.now c.nodes.ensures _ _ _ _ c.decide.ensures.ticks c.apply_chosen.ensures.ticks c.apply_one.ensures.ticks

pub returns-then-not-decide-clause-kept : goal.returns-then-not-decide-clause-kept
returns-then-not-decide-clause-kept g c = λ row s kept. refl

pub returns-clause-kept : goal.returns-clause-kept
returns-clause-kept g c = λ row s kept.
    let a = c.apply_chosen.ensures.still (still_before c.nodes.result.now c.nodes.ensures s kept) in
    (c.apply_one.ensures.still (still_now _ _ _ _ _ _ a.0 a.1 refl (root_still s kept))).0 ∙ a.0
