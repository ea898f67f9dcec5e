use Rattle.std.proofs.Common.{◌≡◌, ◌∙◌, ℕ, List, ◌+◌, ◌*◌, ◌<◌, ◌≤◌, length, take, sum_by, refl, sym, ap, subst, arith}
use Rattle.std.proofs.lemmas.List.{length-map}
use Rattle.arena_model.specs.Layout.{Layout}
use Rattle.pq_arena.specs.RowNodes.{indices}
use Rattle.pq_arena.specs.declared.node.NodeId.{NodeId}
use Rattle.bubble_pass.specs.Marks.{Marks}
use Rattle.row_reduce.specs.Applying.{AreApplied}
use Rattle.row_reduce.specs.Decided.{labelled_at}
use Rattle.row_reduce.proofs.Applying.{turn_of, turn_ready, turn_stands, turned, turn_ticks}
use Rattle.row_reduce.proofs.Begin.{begin}
use Rattle.row_reduce.proofs.Unmoved.{still_now}
use Rattle.row_reduce.proofs.apply.apply_chosen.Goals as goal

pub loop-i-init : goal.loop-i-init
loop-i-init g c = record {
  applied = λ row q chosen. begin c.args.arena.now c.args.work.now row q chosen.ground;
  layout = c.layout_law.ensures;
  still = λ all. (refl, refl);
  ticks = omega arith;
}

pub apply_at-requires-clause-ready : goal.apply_at-requires-clause-ready
apply_at-requires-clause-ready g c =
    let r = c.requires.chosen in
    let a = c.loop-i.invariant.applied r.0 r.1 r.2 in
    turn_ready (turn_of _ _ _ _ r.0 r.1 _ _ c.loop-i.i a.0 c.nodes.result.now r.2 c.loop-i-test.true c.loop-i.invariant.layout a.1 c.nodes.ensures)

pub apply_at-requires-clause-stands : goal.apply_at-requires-clause-stands
apply_at-requires-clause-stands g c =
    let r = c.requires.chosen in
    let a = c.loop-i.invariant.applied r.0 r.1 r.2 in
    turn_stands (turn_of _ _ _ _ r.0 r.1 _ _ c.loop-i.i a.0 c.nodes.result.now r.2 c.loop-i-test.true c.loop-i.invariant.layout a.1 c.nodes.ensures)

pub bounds-chosen-i : goal.bounds-chosen-i
bounds-chosen-i g c =
    let room : c.args.count ≤ length c.args.chosen.now = c.requires.chosen.2.room in
    omega (arith, c.loop-i-test.true, room)

-- a node that is labelled before the pass is still in the list
within : (f g : Layout) (v w : Marks) (row ds : List ℕ) (place : ℕ → ℕ) (nodes : List NodeId) (i count : ℕ) → AreApplied f v row ds place g w → indices nodes ≡ w.nodes → count ≤ length v.nodes → i < count →
    i < length nodes
within f g v w row ds place nodes i count a same few some =
    let long : length nodes ≡ length v.nodes = sym (length-map nodes (λ n. n.index)) ∙ ap length (same ∙ a.nodes) in
    omega (arith, some, few, long)

pub offset_bounds-nodes-i : goal.offset_bounds-nodes-i
offset_bounds-nodes-i g c =
    let r = c.requires.chosen in
    let here = within _ _ _ _ _ _ _ c.nodes.result.now _ _ (c.loop-i.invariant.applied r.0 r.1 r.2).1 c.nodes.ensures r.2.few c.loop-i-test.true in
    omega (arith, here, c.nodes.type_inv.1)

pub bounds-nodes-i : goal.bounds-nodes-i
bounds-nodes-i g c =
    let r = c.requires.chosen in
    within _ _ _ _ _ _ _ c.nodes.result.now _ _ (c.loop-i.invariant.applied r.0 r.1 r.2).1 c.nodes.ensures r.2.few c.loop-i-test.true

pub loop-i-preserved : goal.loop-i-preserved
loop-i-preserved g c = record {
  applied = λ row q chosen.
      let a = c.loop-i.invariant.applied row q chosen in
      turned (turn_of _ _ _ _ row q _ _ c.loop-i.i a.0 c.nodes.result.now chosen c.loop-i-test.true c.loop-i.invariant.layout a.1 c.nodes.ensures)
      _ _ _ c.layout_law-in-loop-i.ensures c.apply_at.ensures.treated c.apply_at.ensures.becomes;
  layout = c.layout_law-in-loop-i.ensures;
  still = λ all.
      let r = c.requires.chosen in
      let a = c.loop-i.invariant.applied r.0 r.1 r.2 in
      let t = turn_of _ _ _ _ r.0 r.1 _ _ c.loop-i.i a.0 c.nodes.result.now r.2 c.loop-i-test.true c.loop-i.invariant.layout a.1 c.nodes.ensures in
      let b = c.loop-i.invariant.still all in
      let e = c.apply_at.ensures.still (still_now _ _ _ _ _ _ b.0 b.1 t.node (all c.loop-i.i c.loop-i-test.true)) in
      (e.0 ∙ b.0, e.1 ∙ b.1);
  ticks =
      let r = c.requires.chosen in
      let a = c.loop-i.invariant.applied r.0 r.1 r.2 in
      turn_ticks (turn_of _ _ _ _ r.0 r.1 _ _ c.loop-i.i a.0 c.nodes.result.now r.2 c.loop-i-test.true c.loop-i.invariant.layout a.1 c.nodes.ensures)
      _ _ _ c.loop-i.invariant.ticks c.apply_at.ensures.ticks;
}

pub returns-clause-applied : goal.returns-clause-applied
returns-clause-applied g c =
    let all : c.loop-i.i ≡ c.args.count = omega (arith, c.loop-i-test.false, c.loop-i.auto.i-end) in
    λ row q chosen. subst (λ k. (place : ℕ → ℕ) × AreApplied c.args.arena.now c.args.work.now row (take k c.args.work.now.nodes) place c.loop-i.arena c.loop-i.work) all
    (c.loop-i.invariant.applied row q chosen)

pub returns-clause-ticks : goal.returns-clause-ticks
returns-clause-ticks g c =
    let all : c.loop-i.i ≡ c.args.count = omega (arith, c.loop-i-test.false, c.loop-i.auto.i-end) in
    subst (λ k. c.loop-i.steps ≤ c.args.steps.now + sum_by (λ n. 2 * labelled_at c.args.work.now n + 15) (take k c.args.work.now.nodes)) all c.loop-i.invariant.ticks
