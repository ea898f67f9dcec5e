use Rattle.std.proofs.Common.{◌≡◌, ℕ, ◌+◌, ◌*◌, ◌≤◌, length, Option, Some, None, true, false, refl, sym, ◌∙◌, subst, arith}
use Rattle.std.proofs.lemmas.Bool.{false≢true}
use Rattle.pq_arena.specs.declared.node.NodeId.{NodeId}
use Rattle.bubble_pass.specs.Marks.{Marks}
use Rattle.row_reduce.specs.Decided.{is_top, labelled_at, asking, AreDecided}
use Rattle.row_reduce.proofs.Asking.{asking_more}
use Rattle.row_reduce.proofs.Loops.{decided_more, stopped_at, sum_step, sum_stop}
use Rattle.row_reduce.proofs.Turning.{few_items, item_at, item_ready, items_long}
use Rattle.row_reduce.proofs.decide.decide.Given.{Over}
use Rattle.row_reduce.proofs.decide.decide.Goals as goal

pub choose-requires-clause-ready : goal.choose-requires-clause-ready
choose-requires-clause-ready g c =
    item_ready c.args.arena.now c.args.work.now c.nodes-node-items.result.now c.loop-i.i c.nodes-node-items.ensures c.loop-i-test.true c.requires.ready

pub returns-in-None-clause-stopped : goal.returns-in-None-clause-stopped
returns-in-None-clause-stopped g c =
    let xs = c.nodes-node-items.result.now in let v = c.args.work.now in
    λ e. stopped_at c.args.arena.now v c.args.root c.loop-i.chosen c.loop-i.i _ _ c.loop-i.invariant.decided
    (few_items v xs c.loop-i.i c.nodes-node-items.ensures c.loop-i-test.true) (item_at v xs c.loop-i.i c.nodes-node-items.ensures c.loop-i-test.true) c.is_top.ensures c.in-None.ensures.choice

pub returns-in-None-clause-ticks : goal.returns-in-None-clause-ticks
returns-in-None-clause-ticks g c =
    let xs = c.nodes-node-items.result.now in let v = c.args.work.now in
    sum_stop (λ n. 7 * (labelled_at v n + 1)) v.nodes c.loop-i.i _ _ _ _ (few_items v xs c.loop-i.i c.nodes-node-items.ensures c.loop-i-test.true)
    (item_at v xs c.loop-i.i c.nodes-node-items.ensures c.loop-i-test.true) c.loop-i.invariant.ticks c.choose.ensures.few

pub loop-i-preserved : goal.loop-i-preserved
loop-i-preserved g c =
    let xs = c.nodes-node-items.result.now in let v = c.args.work.now in
    record {
      decided = decided_more c.args.arena.now v c.args.root c.loop-i.chosen c.loop-i.i c.in-Some.template _ _ c.loop-i.invariant.decided (
          let few = few_items v xs c.loop-i.i c.nodes-node-items.ensures c.loop-i-test.true in
          let long : length c.loop-i.chosen ≡ length c.args.chosen.now = c.loop-i.auto.chosen in
          omega (arith, few, c.requires.room))
          (item_at v xs c.loop-i.i c.nodes-node-items.ensures c.loop-i-test.true) c.is_top.ensures c.in-Some.ensures.choice;
      asking = asking_more c.args.arena.now v c.loop-i.chosen c.loop-i.i c.choose.result c.in-Some.template _ _ _ _ (
          let few = few_items v xs c.loop-i.i c.nodes-node-items.ensures c.loop-i-test.true in
          let long : length c.loop-i.chosen ≡ length c.args.chosen.now = c.loop-i.auto.chosen in
          omega (arith, few, c.requires.room))
          c.in-Some.is (item_at v xs c.loop-i.i c.nodes-node-items.ensures c.loop-i-test.true) c.loop-i.invariant.asking c.choose.ensures.ticks;
      ticks = sum_step (λ n. 7 * (labelled_at v n + 1)) v.nodes c.loop-i.i _ _ _ _ (few_items v xs c.loop-i.i c.nodes-node-items.ensures c.loop-i-test.true)
          (item_at v xs c.loop-i.i c.nodes-node-items.ensures c.loop-i-test.true) c.loop-i.invariant.ticks c.choose.ensures.few;
    }

pub loop-i-init : goal.loop-i-init
loop-i-init g c = record {
  decided = record { fits = λ i none. absurd (omega (arith, none)) };
  asking = omega arith;
  ticks = omega arith;
}

-- the pertinent root is above no run that the pass has found
top_outside : (v : Marks) (top : Option NodeId) (n : ℕ) → ((r : NodeId) → top ≡ Some r → v.inside ≡ false) → is_top top n ≡ true → v.inside ≡ false
top_outside v None n outside e = absurd (false≢true e)
top_outside v (Some r) n outside e = outside r refl

pub choose-requires-clause-outside : goal.choose-requires-clause-outside
choose-requires-clause-outside g c = λ e. top_outside c.args.work.now c.args.root _ c.requires.outside (sym c.is_top.ensures ∙ e)

-- behind the loop all labelled nodes are gone through
at_end : (g : Over) (c : goal.After-loop-i g) → c.loop-i.i ≡ length c.args.work.now.nodes
at_end g c = omega (arith, c.loop-i-test.false, c.loop-i.auto.i-end, items_long c.args.work.now c.nodes-node-items.result.now c.nodes-node-items.ensures)

pub returns-clause-decided : goal.returns-clause-decided
returns-clause-decided g c = λ e. subst (λ k. AreDecided c.args.arena.now c.args.work.now c.args.root c.loop-i.chosen k) (at_end g c) c.loop-i.invariant.decided

pub returns-clause-asking : goal.returns-clause-asking
returns-clause-asking g c = λ e. subst (λ k. c.loop-i.steps ≤ c.args.steps.now + asking c.args.arena.now c.args.work.now c.loop-i.chosen k) (at_end g c) c.loop-i.invariant.asking

pub bounds-chosen-i : goal.bounds-chosen-i
bounds-chosen-i g c =
    let few = few_items c.args.work.now c.nodes-node-items.result.now c.loop-i.i c.nodes-node-items.ensures c.loop-i-test.true in
    let long : length c.loop-i.chosen ≡ length c.args.chosen.now = c.loop-i.auto.chosen in
    omega (arith, few, c.requires.room)

pub returns-in-None-clause-decided : goal.returns-in-None-clause-decided
returns-in-None-clause-decided g c = λ e. absurd (false≢true e)

pub returns-in-None-clause-asking : goal.returns-in-None-clause-asking
returns-in-None-clause-asking g c = λ e. absurd (false≢true e)

pub returns-clause-stopped : goal.returns-clause-stopped
returns-clause-stopped g c = λ e. absurd (false≢true (sym e))
