use Rattle.std.proofs.Common.{◌∙◌, ◌++◌, ap, sym}
use Rattle.std.proofs.lemmas.List.{append-nil}
use Rattle.pq_tree.specs.Text.{tree_text}
use Rattle.pq_tree.proofs.Shown.{outline_of-Leaf}
use Rattle.pq_tree.proofs.Texts.{texts_step, printed_P, printed_Q, no_texts, unchanged, extends_after, on_err}
use Rattle.pq_tree.proofs.write.+write.Goals as goal

pub push_tree-returns-in-Leaf-clause-ok : goal.push_tree-returns-in-Leaf-clause-ok
unfolding tree_text
push_tree-returns-in-Leaf-clause-ok t c = rw (c.in-Leaf.is, outline_of-Leaf) (rw c.from.ensures at c.push_number.ensures.ok)

pub push_tree-returns-in_ok-push-in-P-2-clause-ok : goal.push_tree-returns-in_ok-push-in-P-2-clause-ok
push_tree-returns-in_ok-push-in-P-2-clause-ok t c =
    printed_P _ _ _ _ _ _ _ c.in-P.is c.deref.ensures.value c.in_ok-push-in-P.ensures.items c.in_ok-push_trees-in-P.ensures.ok c.in_ok-push-in-P-2.ensures.items

pub push_tree-returns-in_ok-push-in-Q-2-clause-ok : goal.push_tree-returns-in_ok-push-in-Q-2-clause-ok
push_tree-returns-in_ok-push-in-Q-2-clause-ok t c =
    printed_Q _ _ _ _ _ _ _ c.in-Q.is c.deref-in-Q.ensures.value c.in_ok-push-in-Q.ensures.items c.in_ok-push_trees-in-Q.ensures.ok c.in_ok-push-in-Q-2.ensures.items

pub push_trees-loop-i-init : goal.push_trees-loop-i-init
push_trees-loop-i-init t c = sym (ap (λ x. c.args.text.now.items ++ x) no_texts ∙ append-nil c.args.text.now.items)

pub push_trees-loop-i-preserved : goal.push_trees-loop-i-preserved
push_trees-loop-i-preserved t c = texts_step _ _ _ _ _ _ _ c.loop-i-test.true c.index-trees-i.is c.loop-i.invariant c.in_ok-push_gap.ensures.ok c.in_ok-push_tree.ensures.ok

pub push_tree-returns-in_err-push-in-P-clause-err : goal.push_tree-returns-in_err-push-in-P-clause-err
push_tree-returns-in_err-push-in-P-clause-err t c = on_err _ (unchanged c.in_err-push-in-P.ensures.items)

pub push_tree-returns-in_err-push-in-Q-clause-err : goal.push_tree-returns-in_err-push-in-Q-clause-err
push_tree-returns-in_err-push-in-Q-clause-err t c = on_err _ (unchanged c.in_err-push-in-Q.ensures.items)

pub push_tree-returns-in_err-push_trees-in-P-clause-err : goal.push_tree-returns-in_err-push_trees-in-P-clause-err
push_tree-returns-in_err-push_trees-in-P-clause-err t c = on_err _ (extends_after _ _ _ _ c.in_ok-push-in-P.ensures.items c.in_err-push_trees-in-P.ensures.err)

pub push_tree-returns-in_err-push_trees-in-Q-clause-err : goal.push_tree-returns-in_err-push_trees-in-Q-clause-err
push_tree-returns-in_err-push_trees-in-Q-clause-err t c = on_err _ (extends_after _ _ _ _ c.in_ok-push-in-Q.ensures.items c.in_err-push_trees-in-Q.ensures.err)

pub push_tree-returns-in_err-push-in-P-2-clause-err : goal.push_tree-returns-in_err-push-in-P-2-clause-err
push_tree-returns-in_err-push-in-P-2-clause-err t c = on_err _ (extends_after _ _ _ _ c.in_ok-push-in-P.ensures.items (extends_after _ _ _ _ c.in_ok-push_trees-in-P.ensures.ok (unchanged c.in_err-push-in-P-2.ensures.items)))

pub push_tree-returns-in_err-push-in-Q-2-clause-err : goal.push_tree-returns-in_err-push-in-Q-2-clause-err
push_tree-returns-in_err-push-in-Q-2-clause-err t c = on_err _ (extends_after _ _ _ _ c.in_ok-push-in-Q.ensures.items (extends_after _ _ _ _ c.in_ok-push_trees-in-Q.ensures.ok (unchanged c.in_err-push-in-Q-2.ensures.items)))

pub push_trees-returns-in_err-push_gap-clause-err : goal.push_trees-returns-in_err-push_gap-clause-err
push_trees-returns-in_err-push_gap-clause-err t c = on_err _ (extends_after _ _ _ _ c.loop-i.invariant (unchanged c.in_err-push_gap.ensures.err))

pub push_trees-returns-in_err-push_tree-clause-err : goal.push_trees-returns-in_err-push_tree-clause-err
push_trees-returns-in_err-push_tree-clause-err t c = on_err _ (extends_after _ _ _ _ c.loop-i.invariant (extends_after _ _ _ _ c.in_ok-push_gap.ensures.ok c.in_err-push_tree.ensures.err))
