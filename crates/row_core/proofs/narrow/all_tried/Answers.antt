use Rattle.std.proofs.Common.{◌≡◌, ◌∙◌, ◌+◌, ◌-◌, ◌<◌, ◌++◌, length, take, drop, ap, sym, subst, refl, rules, arith}
use Rattle.std.proofs.lemmas.List.{length-append, length-drop, length-take-le}
use Rattle.std.proofs.lemmas.Result.{IfOk-from_err}
use Rattle.core_text.specs.Cores.{AreRowNumbers}
use Rattle.core_text.specs.Told.{IsOrderWithout}
use Rattle.pq_tree.specs.Outline.{leaves}
use Rattle.pq_tree.specs.PqTree.{outline}
use Rattle.row_core.specs.Blamed.{rotated, IsBlamed, AreNeeded, AreTold}
use Rattle.row_core.specs.declared.blamed.Blamed.{Blamed}
use Rattle.row_core.proofs.Judgements.{none_judged, more_judged, fewer_judged, judged_within}
use Rattle.row_core.proofs.Needed.{needed_others, needed_more, rotated_others, length-others}
use Rattle.row_core.proofs.Numbers.{ascends_without}
use Rattle.row_core.proofs.Rounds.{tried_all, tried_one}
use Rattle.row_core.proofs.Told.{order_without, told_more, none_told}
use Rattle.row_core.proofs.narrow.all_tried.Given as given
use Rattle.row_core.proofs.narrow.all_tried.Goals.{After-deref-in-rounds, in-Ordered+in_ok-push_leaves-in-Ordered, in-Refused}
use Rattle.row_core.proofs.narrow.all_tried.Goals as goal

-- the rows that are judged are the others, and so many of them stand behind the row that is left out
module _ (g : given.Over) (c : After-deref-in-rounds g) where
  pub inside : c.rounds.blamed.untried - 1 < length c.rounds.blamed.rows.items
  inside = omega (arith, c.rounds-test.true, c.rounds.invariant.blamed.few)

  pub listed : c.deref-in-rounds.result.now ≡ drop (c.rounds.blamed.untried - 1 + 1) c.rounds.blamed.rows.items ++ take (c.rounds.blamed.untried - 1) c.rounds.blamed.rows.items
  listed =
      let i = c.rounds.blamed.untried - 1 in
      c.deref-in-rounds.ensures.value ∙ c.in_ok-others.ensures ∙ ap (λ xs. drop (i + 1) xs ++ take i xs) c.deref.ensures.value

  pub back : c.len.result - c.rounds.blamed.untried ≡ length c.rounds.blamed.rows.items - (c.rounds.blamed.untried - 1 + 1)
  back = omega (arith, c.len.ensures, c.rounds.blamed.rows.ok, c.rounds-test.true)

  pub turned : rotated (c.len.result - c.rounds.blamed.untried) c.deref-in-rounds.result.now ≡ take (c.rounds.blamed.untried - 1) c.rounds.blamed.rows.items ++ drop (c.rounds.blamed.untried - 1 + 1) c.rounds.blamed.rows.items
  turned = rotated_others (c.rounds.blamed.untried - 1) (c.len.result - c.rounds.blamed.untried) c.rounds.blamed.rows.items c.deref-in-rounds.result.now inside listed back

pub judged-requires-clause-rows : goal.judged-requires-clause-rows
judged-requires-clause-rows g c =
    let at = (goal.at.judged-requires-clause-rows g c).After-deref-in-rounds in
    let set = c.rounds.blamed.rows.items in
    let i = c.rounds.blamed.untried - 1 in
    subst (AreRowNumbers (length c.args.m.now.rows)) (sym (turned g at))
    (ascends_without (length c.args.m.now.rows) 0 i (i + 1) set (omega arith) c.rounds.invariant.blamed.rows)

pub rounds-init : goal.rounds-init
rounds-init g c = record {
  blamed = c.requires;
  few = omega arith;
  orders = search rules;
  needed = λ turn start. start;
  asked = λ some. omega arith;
  asked_most = omega arith;
  judgements = (0, λ some. omega arith, omega arith, none_judged g.J.Judge.costs c.args.m.now c.args.steps.now);
}

pub rounds-smaller : goal.rounds-smaller
rounds-smaller g c =
    let at = (goal.at.rounds-smaller g c).After-deref-in-rounds in
    let set = c.rounds.blamed.rows.items in
    let i = c.rounds.blamed.untried - 1 in
    let l = inside g at in
    let size = back g at in
    let rotated_is = turned g at in
    elim c.match-branch-3.branch [
      | in-Ordered+in_ok-push_leaves-in-Ordered w ↦ omega (arith, ap (λ (b : Blamed). b.untried) w.blamed-is, c.rounds-test.true)
      | in-Refused w ↦
          let found = rw (w.in-Refused.is, rotated_is) at c.in_ok-tree.ensures.finding in
          omega (arith, found.2, found.4, ap (λ (b : Blamed). b.untried) w.blamed-is, c.rounds-test.true, length-others i set l, size)
    ]

pub rounds-preserved : goal.rounds-preserved
rounds-preserved g c =
    let at = (goal.at.rounds-preserved g c).After-deref-in-rounds in
    let m = c.args.m.now in
    let set = c.rounds.blamed.rows.items in
    let i = c.rounds.blamed.untried - 1 in
    let next : i + 1 ≡ c.rounds.blamed.untried = omega (arith, c.rounds-test.true) in
    let l = inside g at in
    let list = listed g at in
    let size = back g at in
    let rotated_is = turned g at in
    elim c.match-branch-3.branch [
      | in-Ordered+in_ok-push_leaves-in-Ordered w ↦
          let t = w.in-Ordered.tree in
          let found = rw (w.in-Ordered.is, rotated_is) at c.in_ok-tree.ensures.finding in
          let pushed = w.in_ok-push_leaves-in-Ordered.ensures in
          let one : IsOrderWithout m set _ (leaves (outline t)) = order_without m set (take i set ++ drop (i + 1) set) (leaves (outline t)) i t c.rounds.invariant.blamed.rows l refl found refl pushed.frontier in
          let before : AreTold m set (i + 1) c.rounds.told c.rounds.orders = subst (λ k. AreTold m set k c.rounds.told c.rounds.orders) (sym next) c.rounds.invariant.orders in
          let untried = ap (λ (b : Blamed). b.untried) w.blamed-is in
          let same = ap (λ (b : Blamed). length b.rows.items) w.blamed-is in
          let more = told_more m set c.rounds.orders w.push_leaves.new.orders (leaves (outline t)) i c.rounds.told l one pushed.ok before in
          record {
            blamed = subst (IsBlamed m) (sym w.blamed-is) (record {
              rows = c.rounds.invariant.blamed.rows;
              few = omega (arith, l);
              cycle = c.rounds.invariant.blamed.cycle;
              short = c.rounds.invariant.blamed.short;
              among = c.rounds.invariant.blamed.among;
            });
            few = omega (arith, same, c.rounds.invariant.few);
            orders = rw (w.blamed-is, w.told-is, w.orders-is) more;
            needed = λ turn start.
                let there : AreNeeded m set (i + 1) = subst (AreNeeded m set) (sym next) (c.rounds.invariant.needed turn start) in
                subst (λ (b : Blamed). AreNeeded m b.rows.items b.untried) (sym w.blamed-is) (needed_more m i set (leaves (outline t), one.valid) there);
            asked = λ some. omega (arith, same, untried, next, l, c.judged.ensures.asked, c.rounds.invariant.asked c.rounds-test.true);
            asked_most = omega (arith, same, untried, next, l, c.judged.ensures.asked, c.rounds.invariant.asked c.rounds-test.true);
            judgements =
                let before = c.rounds.invariant.judgements in
                let few = before.1 c.rounds-test.true in (
                  before.0 + 1,
                  λ some. omega (arith, same, untried, next, l, few),
                  omega (arith, same, untried, next, l, few),
                  more_judged g.J.Judge.costs m before.0 1 c.args.steps.now c.rounds.steps c.judged.new.steps before.3 c.judged.ensures.judgements,
                );
          }
      | in-Refused w ↦
          let found = rw (w.in-Refused.is, rotated_is) at c.in_ok-tree.ensures.finding in
          let untried = ap (λ (b : Blamed). b.untried) w.blamed-is in
          let same = ap (λ (b : Blamed). length b.rows.items) w.blamed-is in
          let shorter = length-others i set l in
          let size_list = ap length list in
          record {
            blamed = subst (IsBlamed m) (sym w.blamed-is) found.0;
            few = omega (arith, same, found.2, shorter, c.rounds.invariant.few);
            orders = rw (w.blamed-is, w.told-is, w.orders-is, w.new-orders-in-Refused.ensures) (none_told m w.in-Refused.fewer.rows.items w.in-Refused.fewer.untried found.0.few);
            needed = λ turn start.
                let there : AreNeeded m set (i + 1) = subst (AreNeeded m set) (sym next) (c.rounds.invariant.needed turn start) in
                let left = needed_others m i set l there in
                let from : length c.deref-in-rounds.result.now - (c.len.result - c.rounds.blamed.untried) ≡ i =
                omega (arith, size, l, size_list, length-append (drop (i + 1) set) (take i set), length-drop (i + 1) set, length-take-le i set (omega (arith, l))) in
                let fewer = rw w.in-Refused.is at (c.in_ok-tree.ensures.in_turn turn (rw (rotated_is, from) left)) in
                subst (λ (b : Blamed). AreNeeded m b.rows.items b.untried) (sym w.blamed-is) fewer;
            asked = λ some. omega (arith, some, same, untried, next, l, size, found.3, found.4, c.judged.ensures.asked, c.rounds.invariant.asked c.rounds-test.true);
            asked_most = omega (arith, same, untried, next, l, size, found.3, found.4, c.judged.ensures.asked, c.rounds.invariant.asked c.rounds-test.true);
            judgements =
                let before = c.rounds.invariant.judgements in
                let few = before.1 c.rounds-test.true in (
                  before.0 + 1,
                  λ some. omega (arith, some, same, untried, next, l, size, found.3, found.4, few),
                  omega (arith, same, untried, next, l, size, found.3, found.4, few),
                  more_judged g.J.Judge.costs m before.0 1 c.args.steps.now c.rounds.steps c.judged.new.steps before.3 c.judged.ensures.judgements,
                );
          }
    ]

pub returns-clause-narrowed : goal.returns-clause-narrowed
returns-clause-narrowed g c =
    let none : c.rounds.blamed.untried ≡ 0 = omega (arith, c.rounds-test.false) in
    record {
      rows = c.rounds.invariant.blamed.rows;
      cycle = c.rounds.invariant.blamed.cycle;
      short = c.rounds.invariant.blamed.short;
      among = c.rounds.invariant.blamed.among;
      orders = subst (λ k. AreTold c.args.m.now c.rounds.blamed.rows.items k c.rounds.told c.rounds.orders) none c.rounds.invariant.orders;
    }

-- each judgement leaves a row untried less
pub returns-clause-any : goal.returns-clause-any
returns-clause-any g c =
    let before = c.rounds.invariant.judgements in
    fewer_judged g.J.Judge.costs c.args.m.now before.0 (c.args.blamed.untried + 1) c.args.steps.now c.rounds.steps (tried_all before.0 _ _ _ _ before.2 c.rounds.invariant.few c.requires.few) before.3

pub returns-in_err-others-clause-any : goal.returns-in_err-others-clause-any
returns-in_err-others-clause-any g c =
    let before = c.rounds.invariant.judgements in
    fewer_judged g.J.Judge.costs c.args.m.now before.0 (c.args.blamed.untried + 1) c.args.steps.now c.rounds.steps (tried_all before.0 _ _ _ _ before.2 c.rounds.invariant.few c.requires.few) before.3

pub returns-in_err-tree-clause-any : goal.returns-in_err-tree-clause-any
returns-in_err-tree-clause-any g c =
    let before = c.rounds.invariant.judgements in
    judged_within g.J.Judge.costs c.args.m.now before.0 1 (c.args.blamed.untried + 1) c.args.steps.now c.rounds.steps c.judged.new.steps
    (tried_one before.0 _ _ _ _ (before.1 c.rounds-test.true) c.rounds-test.true c.rounds.invariant.few c.requires.few) before.3 c.judged.ensures.judgements

pub returns-in_err-push_leaves-in-Ordered-clause-any : goal.returns-in_err-push_leaves-in-Ordered-clause-any
returns-in_err-push_leaves-in-Ordered-clause-any g c =
    let before = c.rounds.invariant.judgements in
    judged_within g.J.Judge.costs c.args.m.now before.0 1 (c.args.blamed.untried + 1) c.args.steps.now c.rounds.steps c.judged.new.steps
    (tried_one before.0 _ _ _ _ (before.1 c.rounds-test.true) c.rounds-test.true c.rounds.invariant.few c.requires.few) before.3 c.judged.ensures.judgements

pub returns-clause-needed : goal.returns-clause-needed
returns-clause-needed g c = λ turn start.
    let none : c.rounds.blamed.untried ≡ 0 = omega (arith, c.rounds-test.false) in
    subst (AreNeeded c.args.m.now c.rounds.blamed.rows.items) none (c.rounds.invariant.needed turn start)

pub returns-clause-judgements : goal.returns-clause-judgements
returns-clause-judgements g c =
    let judged = c.rounds.invariant.judgements in
    (judged.0, omega (arith, judged.2, c.rounds-test.false), judged.3)

pub rotated_without-requires : goal.rotated_without-requires
rotated_without-requires g c = omega (arith, c.rounds-test.true, c.rounds.invariant.blamed.few, ap length c.deref.ensures.value)

pub judged-requires-clause-needed : goal.judged-requires-clause-needed
judged-requires-clause-needed g c =
    let set = c.rounds.blamed.rows.items in
    let i = c.rounds.blamed.untried - 1 in
    let list = listed g (goal.at.judged-requires-clause-needed g c).After-deref-in-rounds in
    omega (arith, ap length list, length-append (drop (i + 1) set) (take i set), length-drop (i + 1) set, c.len.ensures, c.rounds.blamed.rows.ok, c.rounds-test.true)

pub returns-in_err-others-clause-narrowed : goal.returns-in_err-others-clause-narrowed
returns-in_err-others-clause-narrowed g c = IfOk-from_err c.from_residual.result _ c.from_residual.ensures.0

pub returns-in_err-others-clause-few : goal.returns-in_err-others-clause-few
returns-in_err-others-clause-few g c = IfOk-from_err c.from_residual.result _ c.from_residual.ensures.0

pub returns-in_err-others-clause-needed : goal.returns-in_err-others-clause-needed
returns-in_err-others-clause-needed g c = λ turn start. IfOk-from_err c.from_residual.result _ c.from_residual.ensures.0

pub returns-in_err-others-clause-asked : goal.returns-in_err-others-clause-asked
returns-in_err-others-clause-asked g c = IfOk-from_err c.from_residual.result _ c.from_residual.ensures.0

pub returns-in_err-others-clause-judgements : goal.returns-in_err-others-clause-judgements
returns-in_err-others-clause-judgements g c = IfOk-from_err c.from_residual.result _ c.from_residual.ensures.0

pub returns-in_err-tree-clause-narrowed : goal.returns-in_err-tree-clause-narrowed
returns-in_err-tree-clause-narrowed g c = IfOk-from_err c.from_residual-in_err-tree.result _ c.from_residual-in_err-tree.ensures.0

pub returns-in_err-tree-clause-few : goal.returns-in_err-tree-clause-few
returns-in_err-tree-clause-few g c = IfOk-from_err c.from_residual-in_err-tree.result _ c.from_residual-in_err-tree.ensures.0

pub returns-in_err-tree-clause-needed : goal.returns-in_err-tree-clause-needed
returns-in_err-tree-clause-needed g c = λ turn start. IfOk-from_err c.from_residual-in_err-tree.result _ c.from_residual-in_err-tree.ensures.0

pub returns-in_err-tree-clause-asked : goal.returns-in_err-tree-clause-asked
returns-in_err-tree-clause-asked g c = IfOk-from_err c.from_residual-in_err-tree.result _ c.from_residual-in_err-tree.ensures.0

pub returns-in_err-tree-clause-judgements : goal.returns-in_err-tree-clause-judgements
returns-in_err-tree-clause-judgements g c = IfOk-from_err c.from_residual-in_err-tree.result _ c.from_residual-in_err-tree.ensures.0

pub returns-in_err-push_leaves-in-Ordered-clause-narrowed : goal.returns-in_err-push_leaves-in-Ordered-clause-narrowed
returns-in_err-push_leaves-in-Ordered-clause-narrowed g c = IfOk-from_err c.from_residual-in_err-push_leaves-in-Ordered.result _ c.from_residual-in_err-push_leaves-in-Ordered.ensures.0

pub returns-in_err-push_leaves-in-Ordered-clause-few : goal.returns-in_err-push_leaves-in-Ordered-clause-few
returns-in_err-push_leaves-in-Ordered-clause-few g c = IfOk-from_err c.from_residual-in_err-push_leaves-in-Ordered.result _ c.from_residual-in_err-push_leaves-in-Ordered.ensures.0

pub returns-in_err-push_leaves-in-Ordered-clause-needed : goal.returns-in_err-push_leaves-in-Ordered-clause-needed
returns-in_err-push_leaves-in-Ordered-clause-needed g c = λ turn start. IfOk-from_err c.from_residual-in_err-push_leaves-in-Ordered.result _ c.from_residual-in_err-push_leaves-in-Ordered.ensures.0

pub returns-in_err-push_leaves-in-Ordered-clause-asked : goal.returns-in_err-push_leaves-in-Ordered-clause-asked
returns-in_err-push_leaves-in-Ordered-clause-asked g c = IfOk-from_err c.from_residual-in_err-push_leaves-in-Ordered.result _ c.from_residual-in_err-push_leaves-in-Ordered.ensures.0

pub returns-in_err-push_leaves-in-Ordered-clause-judgements : goal.returns-in_err-push_leaves-in-Ordered-clause-judgements
returns-in_err-push_leaves-in-Ordered-clause-judgements g c = IfOk-from_err c.from_residual-in_err-push_leaves-in-Ordered.result _ c.from_residual-in_err-push_leaves-in-Ordered.ensures.0

pub returns-in_err-others-clause-asked_any : goal.returns-in_err-others-clause-asked_any
returns-in_err-others-clause-asked_any g c = omega (arith, c.rounds.invariant.asked_most, c.rounds.invariant.few, c.requires.few)

pub returns-in_err-tree-clause-asked_any : goal.returns-in_err-tree-clause-asked_any
returns-in_err-tree-clause-asked_any g c = omega (arith, c.judged.ensures.asked, c.rounds.invariant.asked c.rounds-test.true, c.rounds-test.true, c.rounds.invariant.few, c.rounds.invariant.blamed.few, c.requires.few)

pub returns-in_err-push_leaves-in-Ordered-clause-asked_any : goal.returns-in_err-push_leaves-in-Ordered-clause-asked_any
returns-in_err-push_leaves-in-Ordered-clause-asked_any g c = omega (arith, c.judged.ensures.asked, c.rounds.invariant.asked c.rounds-test.true, c.rounds-test.true, c.rounds.invariant.few, c.rounds.invariant.blamed.few, c.requires.few)

pub returns-clause-few : goal.returns-clause-few
returns-clause-few g c = c.rounds.invariant.few

pub returns-clause-asked : goal.returns-clause-asked
returns-clause-asked g c = omega (arith, c.rounds.invariant.asked_most)

pub returns-clause-asked_any : goal.returns-clause-asked_any
returns-clause-asked_any g c = omega (arith, c.rounds.invariant.asked_most, c.rounds.invariant.few, c.requires.few)
