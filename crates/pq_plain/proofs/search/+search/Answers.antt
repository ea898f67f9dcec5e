use Rattle.std.proofs.Common.{◌∙◌, ◌≤◌, ◌+◌, length, rules, arith}
use Rattle.std.proofs.lemmas.List.{length-set, get_or-set_other}
use Rattle.std.proofs.lemmas.Result.{IfOk-weaker, on_err_weaker}
use Rattle.pq_tree.specs.declared.Tree.TheViews.{the_lemmas}
use Rattle.pq_plain.proofs.Searched.{child_tree, in_root, same_after, none_after, count_after, count_few, leaf_found, P_trees, Q_trees, here_lowest, P_found, Q_found, P_same, Q_same, root_here, child_same, on_err_always}
use Rattle.pq_plain.proofs.search.+search.Goals as goal

pub reduce_children-reduce_tree-requires : goal.reduce_children-reduce_tree-requires
reduce_children-reduce_tree-requires t c = (
  search (rules, the_lemmas),
  (
    c.requires.row,
    child_tree c.args.row.now c.args.children.now c.loop-i.children c.loop-i.i _ c.loop-i-test.true c.loop-i.invariant.same c.requires.trees,
  ),
)

pub reduce_children-returns-in_err-step-clause-err : goal.reduce_children-returns-in_err-step-clause-err
reduce_children-returns-in_err-step-clause-err t c =
    on_err_always c.from_residual.result (child_same c.args.children.now c.loop-i.children c.loop-i.i _ _ c.loop-i.invariant.same c.in_err-step.ensures.err)

pub reduce_children-returns-in-Root-clause-found : goal.reduce_children-returns-in-Root-clause-found
reduce_children-returns-in-Root-clause-found t c =
    in_root c.args.row.now c.args.children.now c.loop-i.children c.loop-i.i _ c.loop-i-test.true c.loop-i.invariant.same c.requires.trees c.requires.row.distinct c.loop-i.invariant.none
    _ _ c.in_ok-step.ensures.found _ c.in-Root.is

pub reduce_children-overflow_add-count : goal.reduce_children-overflow_add-count
reduce_children-overflow_add-count t c =
    let few : c.loop-i.count + c.in-Columns.columns ≤ length c.args.row.now =
    count_few c.args.row.now c.args.children.now c.loop-i.children c.loop-i.i _ c.loop-i-test.true c.loop-i.invariant.same c.requires.trees c.requires.row.distinct c.loop-i.invariant.none
    _ _ c.in_ok-step.ensures.found _ _ c.in-Columns.is c.loop-i.invariant.count in
    omega (arith, few)

pub reduce_children-loop-i-preserved : goal.reduce_children-loop-i-preserved
reduce_children-loop-i-preserved t c =
    record {
      unvisited = (
        length-set _ _ _ ∙ c.loop-i.invariant.unvisited.0,
        λ k d l. get_or-set_other c.loop-i.children c.loop-i.i k _ d (omega (arith, l)) ∙ c.loop-i.invariant.unvisited.1 k d (omega (arith, l)),
      );
      same =
          same_after c.args.row.now c.args.children.now c.loop-i.children c.loop-i.i _ c.loop-i-test.true c.loop-i.invariant.same c.requires.trees c.requires.row.distinct c.loop-i.invariant.none
          _ _ c.in_ok-step.ensures.found _ _ c.in-Columns.is c.loop-i.invariant.count;
      none =
          none_after c.args.row.now c.args.children.now c.loop-i.children c.loop-i.i _ c.loop-i-test.true c.loop-i.invariant.same c.requires.trees c.requires.row.distinct c.loop-i.invariant.none
          _ _ c.in_ok-step.ensures.found _ _ c.in-Columns.is c.loop-i.invariant.count;
      count =
          count_after c.args.row.now c.args.children.now c.loop-i.children c.loop-i.i _ c.loop-i-test.true c.loop-i.invariant.same c.requires.trees c.requires.row.distinct c.loop-i.invariant.none
          _ _ c.in_ok-step.ensures.found _ _ c.in-Columns.is c.loop-i.invariant.count;
    }

pub reduce_tree-reduce_here-requires-clause-lowest : goal.reduce_tree-reduce_here-requires-clause-lowest
reduce_tree-reduce_here-requires-clause-lowest t c =
    here_lowest c.args.row.now _ _ _ _ c.requires.row.distinct c.requires.tree c.in_ok-step.ensures.found c.in-Columns.is c.if-count-row.false

pub reduce_tree-returns-in_ok-step-in-Columns-clause-found : goal.reduce_tree-returns-in_ok-step-in-Columns-clause-found
reduce_tree-returns-in_ok-step-in-Columns-clause-found t c =
    root_here c.args.row.now _ _ _ _ c.requires.row.distinct c.requires.tree c.in_ok-step.ensures.found c.in-Columns.is c.if-count-row.false _ _ c.in_ok-step-in-Columns.ensures.step

pub reduce_below-returns-in-Leaf-clause-found : goal.reduce_below-returns-in-Leaf-clause-found
reduce_below-returns-in-Leaf-clause-found t c = leaf_found c.args.row.now _ _ _ _ c.replace.ensures.value c.in-Leaf.is c.count_leaf.ensures

pub reduce_below-reduce_children-found-requires : goal.reduce_below-reduce_children-found-requires
reduce_below-reduce_children-found-requires t c = (
  search (rules, the_lemmas),
  (
    c.requires.row,
    P_trees _ _ _ _ c.replace.ensures.value c.deref_mut.ensures.value c.in-P.is c.requires.tree,
  ),
)

pub reduce_below-reduce_children-found-requires-in-Q : goal.reduce_below-reduce_children-found-requires-in-Q
reduce_below-reduce_children-found-requires-in-Q t c = (
  search (rules, the_lemmas),
  (
    c.requires.row,
    Q_trees _ _ _ _ c.replace.ensures.value c.deref_mut-in-Q.ensures.value c.in-Q.is c.requires.tree,
  ),
)

pub reduce_below-returns-in-P-clause-found : goal.reduce_below-returns-in-P-clause-found
reduce_below-returns-in-P-clause-found t c =
    IfOk-weaker c.reduce_children-found.result _ _
    (P_found _ _ c.in-P.children _ c.replace.ensures.value c.deref_mut.ensures.value c.reduce_children-found.new.children (search rules) c.in-P.is c.args.row.now)
    c.reduce_children-found.ensures.found

pub reduce_below-returns-in-P-clause-err : goal.reduce_below-returns-in-P-clause-err
reduce_below-returns-in-P-clause-err t c =
    on_err_weaker c.reduce_children-found.result
    (P_same _ _ c.in-P.children _ c.replace.ensures.value c.deref_mut.ensures.value c.reduce_children-found.new.children (search rules) c.in-P.is)
    c.reduce_children-found.ensures.err

pub reduce_below-returns-in-Q-clause-found : goal.reduce_below-returns-in-Q-clause-found
reduce_below-returns-in-Q-clause-found t c =
    IfOk-weaker c.reduce_children-found-in-Q.result _ _
    (Q_found _ _ c.in-Q.children _ c.replace.ensures.value c.deref_mut-in-Q.ensures.value c.reduce_children-found-in-Q.new.children (search rules) c.in-Q.is c.args.row.now)
    c.reduce_children-found-in-Q.ensures.found

pub reduce_below-returns-in-Q-clause-err : goal.reduce_below-returns-in-Q-clause-err
reduce_below-returns-in-Q-clause-err t c =
    on_err_weaker c.reduce_children-found-in-Q.result
    (Q_same _ _ c.in-Q.children _ c.replace.ensures.value c.deref_mut-in-Q.ensures.value c.reduce_children-found-in-Q.new.children (search rules) c.in-Q.is)
    c.reduce_children-found-in-Q.ensures.err
