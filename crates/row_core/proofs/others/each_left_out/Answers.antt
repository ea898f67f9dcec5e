use Rattle.std.proofs.Common.{◌≡◌, ◌∙◌, ◌+◌, ◌-◌, ◌<◌, ◌++◌, [], length, take, drop, get_or, ap, sym, subst, refl, arith}
use Rattle.std.proofs.lemmas.List.{append-nil}
use Rattle.std.proofs.lemmas.Option.{get_or_from_slice_get}
use Rattle.std.proofs.lemmas.Result.{IfOk-from_err}
use Rattle.row_judge.specs.Costs.{AreJudgements}
use Rattle.core_text.specs.Cores.{AreRowNumbers}
use Rattle.core_text.specs.Told.{IsOrderWithout}
use Rattle.pq_tree.specs.Outline.{leaves}
use Rattle.pq_tree.specs.PqTree.{outline}
use Rattle.row_core.specs.Blamed.{rotated}
use Rattle.row_core.proofs.Judgements.{none_judged, more_judged, fewer_judged}
use Rattle.row_core.proofs.Needed.{length-others, needed_valid}
use Rattle.row_core.proofs.Numbers.{ascends_without}
use Rattle.row_core.proofs.Told.{order_without, order_more}
use Rattle.row_core.proofs.others.each_left_out.Given as given
use Rattle.row_core.proofs.others.each_left_out.Goals as goal
use Rattle.row_core.proofs.others.each_left_out.Goals.{After-deref-in-loop-i, After-judged}

-- the rows that are judged are the others
module _ (g : given.Over) (c : After-deref-in-loop-i g) where
  pub rotated_is : rotated 0 c.deref-in-loop-i.result.now ≡ take c.loop-i.i c.args.set.now.rows.items ++ drop (c.loop-i.i + 1) c.args.set.now.rows.items
  rotated_is =
      append-nil c.deref-in-loop-i.result.now ∙ c.deref-in-loop-i.ensures.value ∙ c.in_ok-others.ensures ∙ ap (λ xs. take c.loop-i.i xs ++ drop (c.loop-i.i + 1) xs) c.deref.ensures.value

-- the judgements of this turn and those before it
module _ (g : given.Over) (c : After-judged g) where
  pub one_more : AreJudgements g.J.Judge.costs c.args.m.now (c.loop-i.i + 1) c.args.steps.now c.judged.new.steps
  one_more = more_judged g.J.Judge.costs c.args.m.now c.loop-i.i 1 c.args.steps.now c.loop-i.steps c.judged.new.steps c.loop-i.invariant.judgements c.judged.ensures.judgements

  pub within : AreJudgements g.J.Judge.costs c.args.m.now (length c.args.set.now.rows.items) c.args.steps.now c.judged.new.steps
  within = fewer_judged g.J.Judge.costs c.args.m.now (c.loop-i.i + 1) (length c.args.set.now.rows.items) c.args.steps.now c.judged.new.steps (omega arith) one_more

pub judged-requires-clause-rows : goal.judged-requires-clause-rows
judged-requires-clause-rows g c =
    subst (AreRowNumbers (length c.args.m.now.rows)) (sym (rotated_is g (goal.at.judged-requires-clause-rows g c).After-deref-in-loop-i))
    (ascends_without (length c.args.m.now.rows) 0 c.loop-i.i (c.loop-i.i + 1) c.args.set.now.rows.items (omega arith) c.requires.rows)

pub loop-i-preserved-then-i-set : goal.loop-i-preserved-then-i-set
loop-i-preserved-then-i-set g c =
    let m = c.args.m.now in
    let set = c.args.set.now.rows.items in
    let i = c.loop-i.i in
    let at : get_or c.args.set.now.orders (c.args.set.now.told - 1 - i) [] ≡ c.get.result.now = get_or_from_slice_get c.args.set.now.orders (c.args.set.now.told - 1 - i) c.get.result.now [] c.get.ensures in
    let row : 0 + i ≡ i = omega arith in
    let told = c.requires.orders.each i c.if-i-set.true in
    let one : IsOrderWithout m set (get_or set i 0) c.get.result.now = subst (λ k. IsOrderWithout m set (get_or set k 0) c.get.result.now) row (subst (IsOrderWithout m set (get_or set (0 + i) 0)) at told) in
    let more = order_more m set c.get.result.now c.loop-i.orders c.push.new.self i one c.in_ok-push.ensures.ok c.loop-i.invariant.count c.loop-i.invariant.orders in
    record { count = more.0; orders = more.1; asked = omega (arith, c.loop-i.invariant.asked); judgements = fewer_judged g.J.Judge.costs m i (i + 1) c.args.steps.now c.loop-i.steps (omega arith) c.loop-i.invariant.judgements }

pub loop-i-preserved : goal.loop-i-preserved
loop-i-preserved g c =
    let m = c.args.m.now in
    let set = c.args.set.now.rows.items in
    let i = c.loop-i.i in
    let l : i < length set = omega arith in
    let t = c.in-Ordered.tree in
    let found = rw (c.in-Ordered.is, rotated_is g (goal.at.loop-i-preserved g c).After-deref-in-loop-i) at c.in_ok-tree.ensures.finding in
    let pushed = c.in_ok-push_leaves-in-Ordered.ensures in
    let one : IsOrderWithout m set (get_or set i 0) (leaves (outline t)) = order_without m set (take i set ++ drop (i + 1) set) (leaves (outline t)) i t c.requires.rows l refl found refl pushed.frontier in
    let more = order_more m set (leaves (outline t)) c.loop-i.orders c.push_leaves.new.orders i one pushed.ok c.loop-i.invariant.count c.loop-i.invariant.orders in
    record { count = more.0; orders = more.1; asked = omega (arith, c.loop-i.invariant.asked, c.judged.ensures.asked); judgements = one_more g (goal.at.loop-i-preserved g c).After-judged }

pub returns-in-Refused-clause-tried : goal.returns-in-Refused-clause-tried
returns-in-Refused-clause-tried g c =
    let m = c.args.m.now in
    let set = c.args.set.now.rows.items in
    let i = c.loop-i.i in
    let l : i < length set = omega arith in
    let found = rw (c.in-Refused.is, rotated_is g (goal.at.returns-in-Refused-clause-tried g c).After-deref-in-loop-i) at c.in_ok-tree.ensures.finding in
    (found.0, omega (arith, found.2, length-others i set l), λ needed. found.1 (needed_valid m i set c.requires.rows l (needed i (omega arith) l)))

pub returns-in-Refused-clause-judgements : goal.returns-in-Refused-clause-judgements
returns-in-Refused-clause-judgements g c = within g (goal.at.returns-in-Refused-clause-judgements g c).After-judged

-- an error comes after no more judgements than there are rows
pub returns-in_err-push-clause-judgements : goal.returns-in_err-push-clause-judgements
returns-in_err-push-clause-judgements g c =
    fewer_judged g.J.Judge.costs c.args.m.now c.loop-i.i (length c.args.set.now.rows.items) c.args.steps.now c.loop-i.steps (omega arith) c.loop-i.invariant.judgements

pub returns-in_err-push-clause-tried : goal.returns-in_err-push-clause-tried
returns-in_err-push-clause-tried g c = IfOk-from_err c.from_residual.result _ c.from_residual.ensures.0

pub returns-in_err-push-clause-asked : goal.returns-in_err-push-clause-asked
returns-in_err-push-clause-asked g c = omega (arith, c.loop-i.invariant.asked, c.loop-i-test.true, c.len-i-end.ensures, c.args.set.now.rows.ok)

pub returns-in_err-others-clause-judgements : goal.returns-in_err-others-clause-judgements
returns-in_err-others-clause-judgements g c =
    fewer_judged g.J.Judge.costs c.args.m.now c.loop-i.i (length c.args.set.now.rows.items) c.args.steps.now c.loop-i.steps (omega arith) c.loop-i.invariant.judgements

pub returns-in_err-others-clause-tried : goal.returns-in_err-others-clause-tried
returns-in_err-others-clause-tried g c = IfOk-from_err c.from_residual-in_err-others.result _ c.from_residual-in_err-others.ensures.0

pub returns-in_err-others-clause-asked : goal.returns-in_err-others-clause-asked
returns-in_err-others-clause-asked g c = omega (arith, c.loop-i.invariant.asked, c.loop-i-test.true, c.len-i-end.ensures, c.args.set.now.rows.ok)

pub returns-in_err-tree-clause-judgements : goal.returns-in_err-tree-clause-judgements
returns-in_err-tree-clause-judgements g c = within g (goal.at.returns-in_err-tree-clause-judgements g c).After-judged

pub returns-in_err-tree-clause-tried : goal.returns-in_err-tree-clause-tried
returns-in_err-tree-clause-tried g c = IfOk-from_err c.from_residual-in_err-tree.result _ c.from_residual-in_err-tree.ensures.0

pub returns-in_err-tree-clause-asked : goal.returns-in_err-tree-clause-asked
returns-in_err-tree-clause-asked g c = omega (arith, c.loop-i.invariant.asked, c.judged.ensures.asked, c.loop-i-test.true, c.len-i-end.ensures, c.args.set.now.rows.ok)

pub returns-in_err-push_leaves-in-Ordered-clause-judgements : goal.returns-in_err-push_leaves-in-Ordered-clause-judgements
returns-in_err-push_leaves-in-Ordered-clause-judgements g c = within g (goal.at.returns-in_err-push_leaves-in-Ordered-clause-judgements g c).After-judged

pub returns-in_err-push_leaves-in-Ordered-clause-tried : goal.returns-in_err-push_leaves-in-Ordered-clause-tried
returns-in_err-push_leaves-in-Ordered-clause-tried g c = IfOk-from_err c.from_residual-in_err-push_leaves-in-Ordered.result _ c.from_residual-in_err-push_leaves-in-Ordered.ensures.0

pub returns-in_err-push_leaves-in-Ordered-clause-asked : goal.returns-in_err-push_leaves-in-Ordered-clause-asked
returns-in_err-push_leaves-in-Ordered-clause-asked g c = omega (arith, c.loop-i.invariant.asked, c.judged.ensures.asked, c.loop-i-test.true, c.len-i-end.ensures, c.args.set.now.rows.ok)

pub loop-i-init : goal.loop-i-init
loop-i-init g c = record {
  count = ap length c.new-orders.ensures;
  orders = λ j l. absurd (omega (arith, l));
  asked = omega arith;
  judgements = none_judged g.J.Judge.costs c.args.m.now c.args.steps.now;
}

pub returns-clause-tried : goal.returns-clause-tried
returns-clause-tried g c =
    let all : c.loop-i.i ≡ length c.args.set.now.rows.items = omega (arith, c.loop-i.auto.i-end, c.loop-i-test.false, c.args.set.now.rows.ok) in
    (c.loop-i.invariant.count ∙ all, λ i l. c.loop-i.invariant.orders i (omega (arith, l, all)))

pub returns-clause-asked : goal.returns-clause-asked
returns-clause-asked g c = omega (arith, c.loop-i.invariant.asked, c.loop-i.auto.i-end, c.len-i-end.ensures, c.args.set.now.rows.ok)

pub returns-clause-judgements : goal.returns-clause-judgements
returns-clause-judgements g c =
    fewer_judged g.J.Judge.costs c.args.m.now c.loop-i.i (length c.args.set.now.rows.items) c.args.steps.now c.loop-i.steps (omega (arith, c.loop-i.auto.i-end, c.len-i-end.ensures, c.args.set.now.rows.ok)) c.loop-i.invariant.judgements

pub judged-requires-clause-needed : goal.judged-requires-clause-needed
judged-requires-clause-needed g c = omega arith

pub without-requires : goal.without-requires
without-requires g c = omega (arith, c.loop-i-test.true, c.len-i-end.ensures, c.args.set.now.rows.ok, ap length c.deref.ensures.value)

pub returns-in-Refused-clause-asked : goal.returns-in-Refused-clause-asked
returns-in-Refused-clause-asked g c = omega (arith, c.loop-i.invariant.asked, c.judged.ensures.asked, c.loop-i-test.true, c.len-i-end.ensures, c.args.set.now.rows.ok)
