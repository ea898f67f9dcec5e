use Rattle.std.proofs.Common.{rules, ◌∙◌, ◌+◌, List, ℕ, ◌++◌, map, length, append-nil, ap, sym, inl, inr, arith}
use Rattle.pq_tree.specs.Outline.{leaves}
use Rattle.pq_tree.specs.Proper.{outline_of, forest}
use Rattle.pq_tree.specs.declared.Tree.TheViews.{the_lemmas}
use Rattle.pq_tree.proofs.Shown.{outline_of-Leaf}
use Rattle.bound_tree.specs.Stretches.{stretches}
use Rattle.bound_tree.proofs.Push.{front_length, front_short, starts_next, stretches_next, node_length, node_end, over_P, over_Q}
use Rattle.bound_tree.proofs.Starts.{starts_length}
use Rattle.bound_tree.proofs.stretch.+push.Goals as goal

pub push_tree-overflow_add-result : goal.push_tree-overflow_add-result
push_tree-overflow_add-result t c =
    omega (arith, ap (λ x. length (leaves (outline_of x))) c.in-Leaf.is ∙ ap (λ x. length (leaves x)) (outline_of-Leaf c.in-Leaf.field-0), c.requires)

pub push_tree-push_trees-requires : goal.push_tree-push_trees-requires
push_tree-push_trees-requires t c =
    (search (rules, the_lemmas), omega (arith, node_length c.args.tree.now c.in-P.children c.deref.result.now (inl c.in-P.is) c.deref.ensures.value, c.requires))

pub push_tree-push_whole-requires : goal.push_tree-push_whole-requires
push_tree-push_whole-requires t c =
    omega (arith, ap (λ (l : List ℕ). length l) (c.deref-in-P.ensures.value ∙ c.in_ok-starts-in-P.ensures.starts), starts_length c.args.from (forest (map outline_of c.deref.result.now)))

pub push_tree-overflow_sub-len : goal.push_tree-overflow_sub-len
push_tree-overflow_sub-len t c =
    omega (arith, c.len.ensures, c.deref-in-P.ensures.len, ap (λ (l : List ℕ). length l) (c.deref-in-P.ensures.value ∙ c.in_ok-starts-in-P.ensures.starts), starts_length c.args.from (forest (map outline_of c.deref.result.now)))

pub push_tree-index-requires : goal.push_tree-index-requires
push_tree-index-requires t c =
    omega (arith, c.len.ensures, c.deref-in-P.ensures.len, ap (λ (l : List ℕ). length l) (c.deref-in-P.ensures.value ∙ c.in_ok-starts-in-P.ensures.starts), starts_length c.args.from (forest (map outline_of c.deref.result.now)))

pub push_tree-push_trees-requires-in-Q : goal.push_tree-push_trees-requires-in-Q
push_tree-push_trees-requires-in-Q t c =
    (search (rules, the_lemmas), omega (arith, node_length c.args.tree.now c.in-Q.children c.deref-in-Q.result.now (inr c.in-Q.is) c.deref-in-Q.ensures.value, c.requires))

pub push_tree-push_near-requires : goal.push_tree-push_near-requires
push_tree-push_near-requires t c =
    omega (arith, ap (λ (l : List ℕ). length l) (c.deref-in-Q-2.ensures.value ∙ c.in_ok-starts-in-Q.ensures.starts), starts_length c.args.from (forest (map outline_of c.deref-in-Q.result.now)))

pub push_tree-overflow_sub-len-in-Q : goal.push_tree-overflow_sub-len-in-Q
push_tree-overflow_sub-len-in-Q t c =
    omega (arith, c.len-in-Q.ensures, c.deref-in-Q-2.ensures.len, ap (λ (l : List ℕ). length l) (c.deref-in-Q-2.ensures.value ∙ c.in_ok-starts-in-Q.ensures.starts), starts_length c.args.from (forest (map outline_of c.deref-in-Q.result.now)))

pub push_tree-index-requires-in-Q : goal.push_tree-index-requires-in-Q
push_tree-index-requires-in-Q t c =
    omega (arith, c.len-in-Q.ensures, c.deref-in-Q-2.ensures.len, ap (λ (l : List ℕ). length l) (c.deref-in-Q-2.ensures.value ∙ c.in_ok-starts-in-Q.ensures.starts), starts_length c.args.from (forest (map outline_of c.deref-in-Q.result.now)))

pub push_tree-returns-in-Leaf-clause-end : goal.push_tree-returns-in-Leaf-clause-end
push_tree-returns-in-Leaf-clause-end t c =
    ap (λ x. c.args.from + x) (sym (ap (λ x. length (leaves (outline_of x))) c.in-Leaf.is ∙ ap (λ x. length (leaves x)) (outline_of-Leaf c.in-Leaf.field-0)))

pub push_tree-returns-in-Leaf-clause-all : goal.push_tree-returns-in-Leaf-clause-all
push_tree-returns-in-Leaf-clause-all t c =
    sym (ap (λ x. c.args.all.now.items ++ stretches c.args.from x) (ap outline_of c.in-Leaf.is ∙ outline_of-Leaf c.in-Leaf.field-0) ∙ append-nil c.args.all.now.items)

pub push_tree-returns-in_ok-push_whole-in-P-clause-end : goal.push_tree-returns-in_ok-push_whole-in-P-clause-end
push_tree-returns-in_ok-push_whole-in-P-clause-end t c =
    node_end c.args.tree.now c.in-P.children c.deref.result.now c.args.from c.len.result c.index.result.now c.in_ok-starts-in-P.starts.items (inl c.in-P.is) c.deref.ensures.value
    c.in_ok-starts-in-P.ensures.starts (omega (arith, c.len.ensures, c.deref-in-P.ensures.len, ap (λ (l : List ℕ). length l) c.deref-in-P.ensures.value)) c.index.ensures

pub push_tree-returns-in_ok-push_whole-in-P-clause-all : goal.push_tree-returns-in_ok-push_whole-in-P-clause-all
push_tree-returns-in_ok-push_whole-in-P-clause-all t c =
    over_P c.args.tree.now c.in-P.children c.deref.result.now c.args.from c.deref-in-P.result.now c.args.all.now.items c.push_trees.new.all.items c.push_whole.new.all.items c.in-P.is c.deref.ensures.value
    (c.deref-in-P.ensures.value ∙ c.in_ok-starts-in-P.ensures.starts) c.in_ok-starts-in-P.ensures.all c.in_ok-push_whole-in-P.ensures

pub push_tree-returns-in_ok-push_near-in-Q-clause-end : goal.push_tree-returns-in_ok-push_near-in-Q-clause-end
push_tree-returns-in_ok-push_near-in-Q-clause-end t c =
    node_end c.args.tree.now c.in-Q.children c.deref-in-Q.result.now c.args.from c.len-in-Q.result c.index-in-Q.result.now c.in_ok-starts-in-Q.starts.items (inr c.in-Q.is) c.deref-in-Q.ensures.value
    c.in_ok-starts-in-Q.ensures.starts (omega (arith, c.len-in-Q.ensures, c.deref-in-Q-2.ensures.len, ap (λ (l : List ℕ). length l) c.deref-in-Q-2.ensures.value)) c.index-in-Q.ensures

pub push_tree-returns-in_ok-push_near-in-Q-clause-all : goal.push_tree-returns-in_ok-push_near-in-Q-clause-all
push_tree-returns-in_ok-push_near-in-Q-clause-all t c =
    over_Q c.args.tree.now c.in-Q.children c.deref-in-Q.result.now c.args.from c.deref-in-Q-2.result.now c.args.all.now.items c.push_trees-in-Q.new.all.items c.push_near.new.all.items c.in-Q.is c.deref-in-Q.ensures.value
    (c.deref-in-Q-2.ensures.value ∙ c.in_ok-starts-in-Q.ensures.starts) c.in_ok-starts-in-Q.ensures.all c.in_ok-push_near-in-Q.ensures

pub push_trees-push_tree-requires : goal.push_trees-push_tree-requires
push_trees-push_tree-requires t c =
    (search (rules, the_lemmas), omega (arith, c.loop-tree.invariant.at, front_length c.args.trees.now c.loop-tree.tree-index c.tree-item.result c.loop-tree-test.true c.tree-item.is, front_short c.args.trees.now (c.loop-tree.tree-index + 1), c.requires))

pub push_trees-loop-tree-preserved : goal.push_trees-loop-tree-preserved
push_trees-loop-tree-preserved t c =
    let ts = c.args.trees.now in
    let i = c.loop-tree.tree-index in
    record {
      at = omega (arith, c.in_ok-at.ensures.end, c.loop-tree.invariant.at, front_length ts i c.tree-item.result c.loop-tree-test.true c.tree-item.is);
      starts = starts_next ts i c.tree-item.result c.loop-tree-test.true c.tree-item.is c.args.from c.loop-tree.at c.in_ok-at.at c.loop-tree.starts.items c.push.new.self.items
          c.loop-tree.invariant.at c.in_ok-at.ensures.end c.loop-tree.invariant.starts c.in_ok-push.ensures.items;
      all = stretches_next ts i c.tree-item.result c.loop-tree-test.true c.tree-item.is c.args.from c.loop-tree.at c.args.all.now.items c.loop-tree.all.items c.push_tree.new.all.items
          c.loop-tree.invariant.at c.loop-tree.invariant.all c.in_ok-at.ensures.all;
    }
