use Rattle.std.proofs.Common.{rules, ◌≡◌, ◌≢◌, ◌∙◌, ◌+◌, [], ◌∷◌, ◌++◌, map, reverse, length, get_or, refl, sym, ap, subst, arith, vec_len, eqb-true}
use Rattle.pq_tree.specs.Outline.{leaf, p_node, no_tree}
use Rattle.pq_tree.proofs.Shown.{outline_of-Leaf}
use Rattle.pq_tree.specs.Proper.{outline_of, forest}
use Rattle.order_list.specs.Coming.{outlines, coming_trees, trees_within}
use Rattle.order_list.specs.Gains.{Gains, from_column}
use Rattle.order_list.specs.Listed.{added}
use Rattle.order_list.specs.Reading.{Reads, CanBegin}
use Rattle.order_list.specs.Ways.{Leads}
use Rattle.order_list.proofs.Links.{trees-Nothing, trees-InAnyOrder, within-InAnyOrder, weight-InAnyOrder, within-Forwards, weight-Forwards, within-Backwards, weight-Backwards}
use Rattle.order_list.specs.declared.walk.Coming.{Forwards, Backwards}
use Rattle.std.proofs.lemmas.Result.{on_ok_weaker, IfOk-from_err}
use Rattle.order_list.specs.Weights.{walk_weight, walk_weights, weight_within}
use Rattle.order_list.proofs.Gaining.{Below, gains_same, gains_only, gains_none, gains_one, ready_pushed}
use Rattle.order_list.proofs.Steps.{popped, pushed_on, next_gains, last_gains, all_gains, ready_moved, gains_moved, same_trees, same_leaf, same_none, same_one, same_bag, leaf_first, same_p}
use Rattle.order_list.proofs.Openings.{one_outline, one_trees, one_within, one_weight, step_place, first_opened, other_opened, bag_sound, taken_same, taken_goes_on, forward_way, forward_same, forward_goes_on, backward_way, backward_same, backward_goes_on, none_trees, no_first, no_last, first_link, last_link}
use Rattle.order_list.proofs.Children.{outlines_length}
use Rattle.order_list.proofs.LeastFirst.{low_same, one_low}
use Rattle.std.proofs.lemmas.Bool.{eqb-false}
use Rattle.order_list.proofs.Ways.{leads_begin, p_some_place, q_some_place}
use Rattle.order_list.proofs.Taking.{sound_left, sound_right, sound_same}
use Rattle.order_list.proofs.walk.+walk.Goals as goal

pub each_next-loop-next-init : goal.each_next-loop-next-init
each_next-loop-next-init t c =
    record {
      columns = refl;
      small = omega arith;
      fresh = c.requires.ready.fresh;
      gains = gains_none (Reads (p_node (forest (outlines c.args.trees.now)) ∷ coming_trees c.args.rest.now)) c.args.columns.now.items c.args.limit c.args.found.now c.requires.ready.fresh c.requires.ready.few;
    }

pub each_next-next_of-requires : goal.each_next-next_of-requires
each_next-next_of-requires t c =
    record {
      some = c.requires.some;
      arities = (sound_left (outlines c.args.trees.now) (trees_within c.args.rest.now) c.requires.trees).0;
      low = c.requires.low.0;
    }

pub each_next-way_to-requires : goal.each_next-way_to-requires
each_next-way_to-requires t c =
    record {
      arities = (sound_left (outlines c.args.trees.now) (trees_within c.args.rest.now) c.requires.trees).0;
      place = c.in-Some.ensures.0;
      begins = c.in-Some.ensures.1;
    }

pub each_next-take-requires : goal.each_next-take-requires
each_next-take-requires t c =
    let i = c.loop-next.invariant in
    let S = Reads (p_node (forest (outlines c.args.trees.now)) ∷ coming_trees c.args.rest.now) in
    let pushed = pushed_on c.args.columns.now.items c.loop-next.columns.items c.push.new.self.items c.in-Some.next.column i.columns c.in_ok-push.ensures.items in (
      omega (arith, c.decreases),
      (
        subst (λ ps. Leads (reverse ps) (p_node (forest (outlines c.args.trees.now))) c.in-Some.next.column) (sym c.deref.ensures.value) c.in_ok-places.ensures,
        (
          c.requires.trees,
          (
            c.requires.low,
            ready_pushed S c.args.columns.now.items c.push.new.self.items c.args.limit c.in-Some.next.column c.args.found.now c.loop-next.found pushed c.requires.ready i.gains.width i.fresh i.gains.few,
          ),
        ),
      ),
    )

pub each_next-loop-next-preserved : goal.each_next-loop-next-preserved
each_next-loop-next-preserved t c =
    let ts = outlines c.args.trees.now in
    let us = coming_trees c.args.rest.now in
    let i = c.loop-next.invariant in
    let x = c.in-Some.next.column in
    let pushed = pushed_on c.args.columns.now.items c.loop-next.columns.items c.push.new.self.items x i.columns c.in_ok-push.ensures.items in
    record {
      columns =
          popped c.args.columns.now.items c.pop.new.self.items c.take.new.columns.items c.push.new.self.items x (vec_len c.take.new.columns) c.in_ok-take.ensures.columns pushed
          (omega (arith, c.take.new.columns.ok.0)) c.pop.ensures.rest;
      small = omega arith;
      fresh = sym c.more.ensures ∙ c.if-more.false;
      gains =
          subst (λ m. Gains (Below (Reads (p_node (forest ts) ∷ us)) (m + 1)) c.args.columns.now.items c.args.limit c.args.found.now c.take.new.found) (sym c.from-from.ensures)
          (next_gains ts us c.args.columns.now.items c.args.limit c.loop-next.from c.args.found.now c.loop-next.found (length c.args.trees.now) c.requires.some (sym (outlines_length c.args.trees.now))
          (sound_left ts (trees_within c.args.rest.now) c.requires.trees) c.in-Some.next c.take.new.found c.push.new.self.items c.in-Some.ensures i.gains i.fresh pushed c.in_ok-take.ensures.found);
    }

pub each_next-returns-then-more-clause-found : goal.each_next-returns-then-more-clause-found
each_next-returns-then-more-clause-found t c =
    let ts = outlines c.args.trees.now in
    let us = coming_trees c.args.rest.now in
    let i = c.loop-next.invariant in
    let x = c.in-Some.next.column in
    let pushed = pushed_on c.args.columns.now.items c.loop-next.columns.items c.push.new.self.items x i.columns c.in_ok-push.ensures.items in
    let sound = sound_left ts (trees_within c.args.rest.now) c.requires.trees in
    let n : length c.args.trees.now ≡ length ts = sym (outlines_length c.args.trees.now) in
    last_gains ts us c.args.columns.now.items c.args.limit (x + 1) c.args.found.now c.take.new.found (length c.args.trees.now) c.requires.some n sound
    (next_gains ts us c.args.columns.now.items c.args.limit c.loop-next.from c.args.found.now c.loop-next.found (length c.args.trees.now) c.requires.some n
    sound c.in-Some.next c.take.new.found c.push.new.self.items c.in-Some.ensures i.gains i.fresh pushed c.in_ok-take.ensures.found)
    (sym c.more.ensures ∙ c.if-more.true)

pub each_next-returns-in_default-clause-found : goal.each_next-returns-in_default-clause-found
each_next-returns-in_default-clause-found t c =
    let ts = outlines c.args.trees.now in
    let us = coming_trees c.args.rest.now in
    all_gains ts us c.args.columns.now.items c.args.limit c.loop-next.from c.args.found.now c.loop-next.found (length c.args.trees.now) c.requires.some (sym (outlines_length c.args.trees.now))
    (sound_left ts (trees_within c.args.rest.now) c.requires.trees) c.in_default.ensures c.loop-next.invariant.gains

-- a leaf
pub open-read_on-requires : goal.open-read_on-requires
open-read_on-requires t c =
    let u = outline_of c.args.tree.now in
    let us = coming_trees c.args.rest.now in
    let b : CanBegin u c.args.way.column = leads_begin _ u c.args.way.column c.requires.trees.0.0 c.requires.way in (
      omega (arith, ap walk_weight c.in-Leaf.ensures.outline, c.decreases),
      (
        sound_right (u ∷ []) (trees_within c.args.rest.now) c.requires.trees,
        (
          c.requires.low.1,
          ready_moved (Reads us) (from_column c.args.way.column (Reads (u ∷ us))) c.args.columns.now.items c.args.limit c.args.found.now
              (same_leaf u c.in-Leaf.field-0 c.args.way.column us c.in-Leaf.ensures.outline b) c.requires.ready,
        ),
      ),
    )

pub open-returns-in-Leaf-clause-found : goal.open-returns-in-Leaf-clause-found
open-returns-in-Leaf-clause-found t c =
    let u = outline_of c.args.tree.now in
    let us = coming_trees c.args.rest.now in
    gains_moved c.read_on.result (Reads us) (from_column c.args.way.column (Reads (u ∷ us))) c.args.columns.now.items c.args.limit c.args.found.now c.read_on.new.found
    (same_leaf u c.in-Leaf.field-0 c.args.way.column us c.in-Leaf.ensures.outline (leads_begin _ u c.args.way.column c.requires.trees.0.0 c.requires.way)) c.read_on.ensures.found

-- a bag that is used up
pub read_on-read_on-requires : goal.read_on-read_on-requires
read_on-read_on-requires t c =
    let bag = c.in-InAnyOrder.bag in
    let rest = c.in-InAnyOrder.rest in
    let coming = c.args.coming.now in
    let none : length bag.trees.now ≡ 0 = eqb-true (length bag.trees.now) 0 (sym c.is_empty.ensures ∙ c.if-is_empty.true) in (
      omega (arith, ap weight_within c.in-InAnyOrder.is, weight-InAnyOrder bag rest, c.decreases),
      (
        sound_right (outlines bag.trees.now) (trees_within rest.now)
            (sound_same (trees_within coming) (outlines bag.trees.now ++ trees_within rest.now) (ap trees_within c.in-InAnyOrder.is ∙ within-InAnyOrder bag rest) c.requires.trees),
        (
          (low_same (coming_trees coming) (p_node no_tree ∷ coming_trees rest.now) (none_trees coming bag rest c.in-InAnyOrder.is none) c.requires.low).1,
          ready_moved (Reads (coming_trees rest.now)) (Reads (coming_trees coming)) c.args.columns.now.items c.args.limit c.args.found.now
              (same_none (coming_trees rest.now) (coming_trees coming) (none_trees coming bag rest c.in-InAnyOrder.is none)) c.requires.ready,
        ),
      ),
    )

pub read_on-returns-then-is_empty-clause-found : goal.read_on-returns-then-is_empty-clause-found
read_on-returns-then-is_empty-clause-found t c =
    let bag = c.in-InAnyOrder.bag in
    let rest = c.in-InAnyOrder.rest in
    let coming = c.args.coming.now in
    let none : length bag.trees.now ≡ 0 = eqb-true (length bag.trees.now) 0 (sym c.is_empty.ensures ∙ c.if-is_empty.true) in
    gains_moved c.read_on.result (Reads (coming_trees rest.now)) (Reads (coming_trees coming)) c.args.columns.now.items c.args.limit c.args.found.now c.read_on.new.found
    (same_none (coming_trees rest.now) (coming_trees coming) (none_trees coming bag rest c.in-InAnyOrder.is none)) c.read_on.ensures.found

-- a bag of one tree
pub read_on-read_tree-requires : goal.read_on-read_tree-requires
read_on-read_tree-requires t c =
    let bag = c.in-InAnyOrder.bag in
    let rest = c.in-InAnyOrder.rest in
    let coming = c.args.coming.now in
    let u = outline_of (get_or bag.trees.now 0 c.index-bag-0.result).now in
    let one : outlines bag.trees.now ≡ u ∷ [] = one_outline bag.trees.now c.index-bag-0.result c.if-bag-eq1.true in (
      omega (arith, one_weight coming bag rest u c.in-InAnyOrder.is one, c.decreases),
      (
        sound_same (trees_within coming) (u ∷ trees_within rest.now) (one_within coming bag rest u c.in-InAnyOrder.is one) c.requires.trees,
        (
          one_low u (coming_trees rest.now) (low_same (coming_trees coming) (p_node (forest (u ∷ [])) ∷ coming_trees rest.now) (one_trees coming bag rest u c.in-InAnyOrder.is one) c.requires.low),
          ready_moved (Reads (u ∷ coming_trees rest.now)) (Reads (coming_trees coming)) c.args.columns.now.items c.args.limit c.args.found.now
              (same_bag u (coming_trees rest.now) (coming_trees coming) (one_trees coming bag rest u c.in-InAnyOrder.is one)) c.requires.ready,
        ),
      ),
    )

pub read_on-returns-then-bag-eq1-clause-found : goal.read_on-returns-then-bag-eq1-clause-found
read_on-returns-then-bag-eq1-clause-found t c =
    let bag = c.in-InAnyOrder.bag in
    let rest = c.in-InAnyOrder.rest in
    let coming = c.args.coming.now in
    let u = outline_of (get_or bag.trees.now 0 c.index-bag-0.result).now in
    let one : outlines bag.trees.now ≡ u ∷ [] = one_outline bag.trees.now c.index-bag-0.result c.if-bag-eq1.true in
    gains_moved c.read_tree.result (Reads (u ∷ coming_trees rest.now)) (Reads (coming_trees coming)) c.args.columns.now.items c.args.limit c.args.found.now c.read_tree.new.found
    (same_bag u (coming_trees rest.now) (coming_trees coming) (one_trees coming bag rest u c.in-InAnyOrder.is one)) c.read_tree.ensures.found

-- one tree: a node
pub read_tree-each_next-requires : goal.read_tree-each_next-requires
read_tree-each_next-requires t c =
    let u = outline_of c.args.tree.now in
    let us = coming_trees c.args.rest.now in (
      omega (arith, c.decreases),
      (
        omega arith,
        (
          c.requires.trees,
          (
            (((tt, tt), (c.requires.low.0, tt)), c.requires.low.1),
            ready_moved (Reads (p_node (forest (u ∷ [])) ∷ us)) (Reads (u ∷ us)) c.args.columns.now.items c.args.limit c.args.found.now (same_one u us (u ∷ us) refl) c.requires.ready,
          ),
        ),
      ),
    )

pub read_tree-returns-in_default : goal.read_tree-returns-in_default
read_tree-returns-in_default t c =
    let u = outline_of c.args.tree.now in
    let us = coming_trees c.args.rest.now in
    record {
      columns = c.each_next.ensures.columns;
      found =
          gains_moved c.each_next.result (Reads (p_node (forest (u ∷ [])) ∷ us)) (Reads (u ∷ us)) c.args.columns.now.items c.args.limit c.args.found.now c.each_next.new.found (same_one u us (u ∷ us) refl)
          c.each_next.ensures.found;
    }

-- one tree: a leaf
pub read_tree-read_on-requires : goal.read_tree-read_on-requires
read_tree-read_on-requires t c =
    let u = outline_of c.args.tree.now in
    let us = coming_trees c.args.rest.now in
    let a = c.in-Leaf.column in
    let is : u ≡ leaf a = ap outline_of c.in-Leaf.is ∙ outline_of-Leaf a in
    let pushed = c.push.new.self.items in (
      omega (arith, ap walk_weight is, c.decreases),
      (
        sound_right (u ∷ []) (trees_within c.args.rest.now) c.requires.trees,
        (
          c.requires.low.1,
          ready_moved (Reads us) (from_column a (Reads (u ∷ us))) pushed c.args.limit c.args.found.now (same_leaf u a a us is (subst (λ v. CanBegin v a) (sym is) ([], refl)))
              (ready_pushed (Reads (u ∷ us)) c.args.columns.now.items pushed c.args.limit a c.args.found.now c.args.found.now c.in_ok-push.ensures.items c.requires.ready refl c.requires.ready.fresh c.requires.ready.few),
        ),
      ),
    )

pub read_tree-returns-clause-found : goal.read_tree-returns-clause-found
read_tree-returns-clause-found t c =
    let u = outline_of c.args.tree.now in
    let us = coming_trees c.args.rest.now in
    let a = c.in-Leaf.column in
    let is : u ≡ leaf a = ap outline_of c.in-Leaf.is ∙ outline_of-Leaf a in
    let same = same_leaf u a a us is (subst (λ v. CanBegin v a) (sym is) ([], refl)) in
    gains_only (Reads (u ∷ us)) c.args.columns.now.items c.push.new.self.items c.args.limit a c.args.found.now c.read_on.new.found c.requires.ready.fresh c.requires.ready.few c.in_ok-push.ensures.items
    (leaf_first u a us is)
    (gains_same (Reads us) (from_column a (Reads (u ∷ us))) c.push.new.self.items c.args.limit c.args.found.now c.read_on.new.found same.0 same.1 c.in_ok-read_on.ensures.found)

-- trees in turn
pub read_on-read_tree-requires-in-Some : goal.read_on-read_tree-requires-in-Some
read_on-read_tree-requires-in-Some t c =
    let coming = c.args.coming.now in
    let us = outline_of c.in-Some.tree.now ∷ coming_trees (Forwards c.in-Some.others c.in-Forwards.rest) in
    let link = first_link coming c.in-Forwards.trees c.in-Forwards.rest c.in-Some.tree.now c.in-Some.others c.in-Forwards.is c.in-Some.ensures.cases in (
      omega (arith, link.weighs, c.decreases),
      (
        sound_same (trees_within coming) _ link.within c.requires.trees,
        (
          low_same (coming_trees coming) us link.trees c.requires.low,
          ready_moved (Reads us) (Reads (coming_trees coming)) c.args.columns.now.items c.args.limit c.args.found.now (same_trees us (coming_trees coming) (sym link.trees)) c.requires.ready,
        ),
      ),
    )

pub read_on-returns-in-Some-clause-found : goal.read_on-returns-in-Some-clause-found
read_on-returns-in-Some-clause-found t c =
    let coming = c.args.coming.now in
    let us = outline_of c.in-Some.tree.now ∷ coming_trees (Forwards c.in-Some.others c.in-Forwards.rest) in
    let link = first_link coming c.in-Forwards.trees c.in-Forwards.rest c.in-Some.tree.now c.in-Some.others c.in-Forwards.is c.in-Some.ensures.cases in
    gains_moved c.read_tree-in-Some.result (Reads us) (Reads (coming_trees coming)) c.args.columns.now.items c.args.limit c.args.found.now c.read_tree-in-Some.new.found
    (same_trees us (coming_trees coming) (sym link.trees)) c.read_tree-in-Some.ensures.found

pub read_on-returns-in-None-clause-found : goal.read_on-returns-in-None-clause-found
read_on-returns-in-None-clause-found t c =
    let coming = c.args.coming.now in
    let rest = c.in-Forwards.rest in
    gains_moved c.read_on-in-None.result (Reads (coming_trees rest.now)) (Reads (coming_trees coming)) c.args.columns.now.items c.args.limit c.args.found.now c.read_on-in-None.new.found
    (same_trees (coming_trees rest.now) (coming_trees coming) (no_first coming c.in-Forwards.trees rest c.in-Forwards.is c.in-None.ensures.cases)) c.read_on-in-None.ensures.found

-- the same backwards
pub read_on-read_tree-requires-in-Some-split_last : goal.read_on-read_tree-requires-in-Some-split_last
read_on-read_tree-requires-in-Some-split_last t c =
    let coming = c.args.coming.now in
    let found = c.in-Some-split_last in
    let us = outline_of found.tree.now ∷ coming_trees (Backwards found.others c.in-Backwards.rest) in
    let link = last_link coming c.in-Backwards.trees c.in-Backwards.rest found.tree.now found.others c.in-Backwards.is found.ensures.cases in (
      omega (arith, link.weighs, c.decreases),
      (
        sound_same (trees_within coming) _ link.within c.requires.trees,
        (
          low_same (coming_trees coming) us link.trees c.requires.low,
          ready_moved (Reads us) (Reads (coming_trees coming)) c.args.columns.now.items c.args.limit c.args.found.now (same_trees us (coming_trees coming) (sym link.trees)) c.requires.ready,
        ),
      ),
    )

pub read_on-returns-in-Some-split_last-clause-found : goal.read_on-returns-in-Some-split_last-clause-found
read_on-returns-in-Some-split_last-clause-found t c =
    let coming = c.args.coming.now in
    let found = c.in-Some-split_last in
    let us = outline_of found.tree.now ∷ coming_trees (Backwards found.others c.in-Backwards.rest) in
    let link = last_link coming c.in-Backwards.trees c.in-Backwards.rest found.tree.now found.others c.in-Backwards.is found.ensures.cases in
    gains_moved c.read_tree-in-Some-split_last.result (Reads us) (Reads (coming_trees coming)) c.args.columns.now.items c.args.limit c.args.found.now c.read_tree-in-Some-split_last.new.found
    (same_trees us (coming_trees coming) (sym link.trees)) c.read_tree-in-Some-split_last.ensures.found

pub read_on-returns-in-None-split_last-clause-found : goal.read_on-returns-in-None-split_last-clause-found
read_on-returns-in-None-split_last-clause-found t c =
    let coming = c.args.coming.now in
    let rest = c.in-Backwards.rest in
    gains_moved c.read_on-in-None-split_last.result (Reads (coming_trees rest.now)) (Reads (coming_trees coming)) c.args.columns.now.items c.args.limit c.args.found.now c.read_on-in-None-split_last.new.found
    (same_trees (coming_trees rest.now) (coming_trees coming) (no_last coming c.in-Backwards.trees rest c.in-Backwards.is c.in-None-split_last.ensures.cases)) c.read_on-in-None-split_last.ensures.found

pub read_on-returns-in-Nothing-clause-found : goal.read_on-returns-in-Nothing-clause-found
read_on-returns-in-Nothing-clause-found t c =
    gains_moved c.add.result (λ f. f ≡ []) (Reads (coming_trees c.args.coming.now)) c.args.columns.now.items c.args.limit c.args.found.now c.add.new.self
    (same_trees [] (coming_trees c.args.coming.now) (sym (ap coming_trees c.in-Nothing.is ∙ trees-Nothing)))
    (on_ok_weaker c.add.result
    (λ e. gains_one c.args.columns.now.items c.args.limit c.args.found.now c.add.new.self c.requires.ready.fresh c.requires.ready.few
    (e ∙ ap (λ l. added c.args.limit l c.args.found.now) c.deref.ensures.value)) c.add.ensures)

-- the first tree of a bag
pub take-open-requires : goal.take-open-requires
take-open-requires t c =
    let x = c.args.way.column in
    let s = first_opened c.args.trees.now c.args.way.places.now x (trees_within c.args.rest.now) c.requires.way c.requires.trees c.index-trees-0.result c.if-place-eq0.true c.index-trees-0.is in
    taken_goes_on (outlines c.args.trees.now) _ x _ _ _ c.args.rest s t (omega (arith, c.decreases)) c.requires.trees c.requires.low c.args.columns.now.items c.args.limit c.args.found.now c.requires.ready

pub take-returns-then-place-eq0-clause-found : goal.take-returns-then-place-eq0-clause-found
take-returns-then-place-eq0-clause-found t c =
    let ts = outlines c.args.trees.now in
    let x = c.args.way.column in
    let s = first_opened c.args.trees.now c.args.way.places.now x (trees_within c.args.rest.now) c.requires.way c.requires.trees c.index-trees-0.result c.if-place-eq0.true c.index-trees-0.is in
    gains_moved c.open.result _ (from_column x (Reads (p_node (forest ts) ∷ coming_trees c.args.rest.now))) c.args.columns.now.items c.args.limit c.args.found.now c.open.new.found
    (taken_same ts _ x _ _ _ c.args.rest s c.requires.trees) c.open.ensures.found

-- another tree of a bag
pub take-without-requires : goal.take-without-requires
take-without-requires t c = step_place c.args.trees.now c.args.way.places.now c.args.way.column (trees_within c.args.rest.now) c.requires.way c.requires.trees

pub take-bounds-trees-place : goal.take-bounds-trees-place
take-bounds-trees-place t c = step_place c.args.trees.now c.args.way.places.now c.args.way.column (trees_within c.args.rest.now) c.requires.way c.requires.trees

pub take-offset_bounds-trees-place : goal.take-offset_bounds-trees-place
take-offset_bounds-trees-place t c =
    let inside = step_place c.args.trees.now c.args.way.places.now c.args.way.column (trees_within c.args.rest.now) c.requires.way c.requires.trees in
    search (rules, inside)

pub take-open-requires-else-place-eq0 : goal.take-open-requires-else-place-eq0
take-open-requires-else-place-eq0 t c =
    let x = c.args.way.column in
    let s = other_opened c.args.trees.now c.args.way.places.now x (trees_within c.args.rest.now) c.requires.way c.requires.trees c.index-trees-place.result c.deref.result.now c.index-trees-place.is (c.deref.ensures.value ∙ c.in_ok-others.ensures) in
    taken_goes_on (outlines c.args.trees.now) _ x _ _ _ c.args.rest s t (omega (arith, c.decreases)) c.requires.trees c.requires.low c.args.columns.now.items c.args.limit c.args.found.now c.requires.ready

pub take-returns-in_ok-others-clause-found : goal.take-returns-in_ok-others-clause-found
take-returns-in_ok-others-clause-found t c =
    let ts = outlines c.args.trees.now in
    let x = c.args.way.column in
    let s = other_opened c.args.trees.now c.args.way.places.now x (trees_within c.args.rest.now) c.requires.way c.requires.trees c.index-trees-place.result c.deref.result.now c.index-trees-place.is (c.deref.ensures.value ∙ c.in_ok-others.ensures) in
    gains_moved c.open-else-place-eq0.result _ (from_column x (Reads (p_node (forest ts) ∷ coming_trees c.args.rest.now))) c.args.columns.now.items c.args.limit c.args.found.now c.open-else-place-eq0.new.found
    (taken_same ts _ x _ _ _ c.args.rest s c.requires.trees) c.open-else-place-eq0.ensures.found

-- a P-node
pub open-take-requires : goal.open-take-requires
open-take-requires t c =
    let u = outline_of c.args.tree.now in
    let ts = map outline_of c.in-P.children.now in
    let bag = outlines c.as_slice.result.now in
    let us = coming_trees c.args.rest.now in
    let x = c.args.way.column in
    let is : bag ≡ ts = ap outlines c.as_slice.ensures.value ∙ c.in_ok-trees-in-P.ensures in
    let same : u ≡ p_node (forest bag) = c.in-P.ensures.outline ∙ ap (λ vs. p_node (forest vs)) (sym is) in (
      omega (arith, ap walk_weight c.in-P.ensures.outline, ap (λ vs. walk_weights (forest vs)) is, c.decreases),
      (
        subst (λ v. Leads (reverse c.args.way.places.now) v x) same c.requires.way,
        (
          bag_sound u ts bag (trees_within c.args.rest.now) c.in-P.ensures.outline is c.requires.trees,
          (
            low_same (u ∷ us) (p_node (forest bag) ∷ us) (ap (λ v. v ∷ us) same) c.requires.low,
            ready_moved (from_column x (Reads (p_node (forest bag) ∷ us))) (from_column x (Reads (u ∷ us))) c.args.columns.now.items c.args.limit c.args.found.now
                (same_p u ts bag us x x c.in-P.ensures.outline is refl) c.requires.ready,
          ),
        ),
      ),
    )

pub open-returns-in_ok-trees-in-P-clause-found : goal.open-returns-in_ok-trees-in-P-clause-found
open-returns-in_ok-trees-in-P-clause-found t c =
    let u = outline_of c.args.tree.now in
    let bag = outlines c.as_slice.result.now in
    let us = coming_trees c.args.rest.now in
    let x = c.args.way.column in
    gains_moved c.take.result (from_column x (Reads (p_node (forest bag) ∷ us))) (from_column x (Reads (u ∷ us))) c.args.columns.now.items c.args.limit c.args.found.now c.take.new.found
    (same_p u (map outline_of c.in-P.children.now) bag us x x c.in-P.ensures.outline (ap outlines c.as_slice.ensures.value ∙ c.in_ok-trees-in-P.ensures) refl) c.take.ensures.found

-- a Q-node, from the first child on
pub open-open-requires : goal.open-open-requires
open-open-requires t c =
    let u = outline_of c.args.tree.now in
    let ts = c.in-Q.children.now in
    let x = c.args.way.column in
    let w = forward_way u ts c.args.rest x c.in-Q.ensures.outline c.requires.trees c.args.way.places.now c.requires.way c.index-children-0.result c.index-children-0.is c.if-way-end-eq0.true in
    forward_goes_on u ts c.args.rest x c.in-Q.ensures.outline c.requires.trees c.index-children-0.result _ c.index-children-0.is refl w.1 _ w.0 t (omega (arith, c.decreases)) c.requires.low c.args.columns.now.items c.args.limit
    c.args.found.now c.requires.ready

pub open-returns-then-way-end-eq0-clause-found : goal.open-returns-then-way-end-eq0-clause-found
open-returns-then-way-end-eq0-clause-found t c =
    let u = outline_of c.args.tree.now in
    let w = forward_way u c.in-Q.children.now c.args.rest c.args.way.column c.in-Q.ensures.outline c.requires.trees c.args.way.places.now c.requires.way c.index-children-0.result c.index-children-0.is c.if-way-end-eq0.true in
    gains_moved c.open.result _ (from_column c.args.way.column (Reads (u ∷ coming_trees c.args.rest.now))) c.args.columns.now.items c.args.limit c.args.found.now c.open.new.found
    (forward_same u c.in-Q.children.now c.args.rest c.args.way.column c.in-Q.ensures.outline c.requires.trees c.index-children-0.result _ c.index-children-0.is refl w.1) c.open.ensures.found

-- a Q-node, from the last child on
pub open-open-requires-else-way-end-eq0 : goal.open-open-requires-else-way-end-eq0
open-open-requires-else-way-end-eq0 t c =
    let u = outline_of c.args.tree.now in
    let ts = c.in-Q.children.now in
    let x = c.args.way.column in
    let w = backward_way u ts c.args.rest x c.in-Q.ensures.outline c.requires.trees c.args.way.places.now c.requires.way c.index-children-last.result c.index-children-last.is c.if-way-end-eq0.false in
    backward_goes_on u ts c.args.rest x c.in-Q.ensures.outline c.requires.trees c.index-children-last.result _ c.index-children-last.is refl w.1 _ w.0 t (omega (arith, c.decreases)) c.requires.low c.args.columns.now.items c.args.limit
    c.args.found.now c.requires.ready

pub open-returns-else-way-end-eq0-clause-found : goal.open-returns-else-way-end-eq0-clause-found
open-returns-else-way-end-eq0-clause-found t c =
    let u = outline_of c.args.tree.now in
    let w = backward_way u c.in-Q.children.now c.args.rest c.args.way.column c.in-Q.ensures.outline c.requires.trees c.args.way.places.now c.requires.way c.index-children-last.result c.index-children-last.is c.if-way-end-eq0.false in
    gains_moved c.open-else-way-end-eq0.result _ (from_column c.args.way.column (Reads (u ∷ coming_trees c.args.rest.now))) c.args.columns.now.items c.args.limit c.args.found.now c.open-else-way-end-eq0.new.found
    (backward_same u c.in-Q.children.now c.args.rest c.args.way.column c.in-Q.ensures.outline c.requires.trees c.index-children-last.result _ c.index-children-last.is refl w.1) c.open-else-way-end-eq0.ensures.found

-- a bag of two trees or more
pub read_on-each_next-requires : goal.read_on-each_next-requires
read_on-each_next-requires t c =
    let bag = c.in-InAnyOrder.bag in
    let rest = c.in-InAnyOrder.rest in
    let coming = c.args.coming.now in
    let some : length bag.trees.now ≢ 0 = eqb-false (length bag.trees.now) 0 (sym c.is_empty.ensures ∙ c.if-is_empty.false) in
    let trees : coming_trees coming ≡ p_node (forest (outlines bag.trees.now)) ∷ coming_trees rest.now = ap coming_trees c.in-InAnyOrder.is ∙ trees-InAnyOrder bag rest in (
      omega (arith, ap weight_within c.in-InAnyOrder.is, weight-InAnyOrder bag rest, c.decreases),
      (
        omega (arith, some),
        (
          sound_same (trees_within coming) (outlines bag.trees.now ++ trees_within rest.now) (ap trees_within c.in-InAnyOrder.is ∙ within-InAnyOrder bag rest) c.requires.trees,
          (
            low_same (coming_trees coming) (p_node (forest (outlines bag.trees.now)) ∷ coming_trees rest.now) trees c.requires.low,
            ready_moved (Reads (p_node (forest (outlines bag.trees.now)) ∷ coming_trees rest.now)) (Reads (coming_trees coming)) c.args.columns.now.items c.args.limit c.args.found.now
                (same_trees (p_node (forest (outlines bag.trees.now)) ∷ coming_trees rest.now) (coming_trees coming) (sym trees)) c.requires.ready,
          ),
        ),
      ),
    )

pub read_on-returns-else-bag-eq1-clause-found : goal.read_on-returns-else-bag-eq1-clause-found
read_on-returns-else-bag-eq1-clause-found t c =
    let bag = c.in-InAnyOrder.bag in
    let rest = c.in-InAnyOrder.rest in
    let coming = c.args.coming.now in
    let trees : coming_trees coming ≡ p_node (forest (outlines bag.trees.now)) ∷ coming_trees rest.now = ap coming_trees c.in-InAnyOrder.is ∙ trees-InAnyOrder bag rest in
    gains_moved c.each_next.result (Reads (p_node (forest (outlines bag.trees.now)) ∷ coming_trees rest.now)) (Reads (coming_trees coming)) c.args.columns.now.items c.args.limit c.args.found.now c.each_next.new.found
    (same_trees (p_node (forest (outlines bag.trees.now)) ∷ coming_trees rest.now) (coming_trees coming) (sym trees)) c.each_next.ensures.found

pub read_tree-returns-in_err-read_on : goal.read_tree-returns-in_err-read_on
read_tree-returns-in_err-read_on t c =
    let none = c.from_residual-in_err-read_on.ensures.0 in
    record { columns = IfOk-from_err c.from_residual-in_err-read_on.result _ none; found = IfOk-from_err c.from_residual-in_err-read_on.result _ none }

-- trees in turn that are used up
pub read_on-read_on-requires-in-None : goal.read_on-read_on-requires-in-None
read_on-read_on-requires-in-None t c =
    let coming = c.args.coming.now in
    let trees = c.in-Forwards.trees in
    let rest = c.in-Forwards.rest in
    let same : coming_trees rest.now ≡ coming_trees coming = no_first coming trees rest c.in-Forwards.is c.in-None.ensures.cases in (
      omega (arith, ap weight_within c.in-Forwards.is, weight-Forwards trees rest, c.decreases),
      (
        sound_right (map outline_of trees.now) (trees_within rest.now)
            (sound_same (trees_within coming) (map outline_of trees.now ++ trees_within rest.now) (ap trees_within c.in-Forwards.is ∙ within-Forwards trees rest) c.requires.trees),
        (
          low_same (coming_trees coming) (coming_trees rest.now) (sym same) c.requires.low,
          ready_moved (Reads (coming_trees rest.now)) (Reads (coming_trees coming)) c.args.columns.now.items c.args.limit c.args.found.now
              (same_trees (coming_trees rest.now) (coming_trees coming) same) c.requires.ready,
        ),
      ),
    )

pub read_tree-returns-in_err-push : goal.read_tree-returns-in_err-push
read_tree-returns-in_err-push t c =
    let none = c.from_residual.ensures.0 in
    record { columns = IfOk-from_err c.from_residual.result _ none; found = IfOk-from_err c.from_residual.result _ none }

pub read_on-read_on-requires-in-None-split_last : goal.read_on-read_on-requires-in-None-split_last
read_on-read_on-requires-in-None-split_last t c =
    let coming = c.args.coming.now in
    let trees = c.in-Backwards.trees in
    let rest = c.in-Backwards.rest in
    let same : coming_trees rest.now ≡ coming_trees coming = no_last coming trees rest c.in-Backwards.is c.in-None-split_last.ensures.cases in (
      omega (arith, ap weight_within c.in-Backwards.is, weight-Backwards trees rest, c.decreases),
      (
        sound_right (reverse (map outline_of trees.now)) (trees_within rest.now)
            (sound_same (trees_within coming) (reverse (map outline_of trees.now) ++ trees_within rest.now) (ap trees_within c.in-Backwards.is ∙ within-Backwards trees rest) c.requires.trees),
        (
          low_same (coming_trees coming) (coming_trees rest.now) (sym same) c.requires.low,
          ready_moved (Reads (coming_trees rest.now)) (Reads (coming_trees coming)) c.args.columns.now.items c.args.limit c.args.found.now
              (same_trees (coming_trees rest.now) (coming_trees coming) same) c.requires.ready,
        ),
      ),
    )

-- the last place of a way
pub take-overflow_sub-last : goal.take-overflow_sub-last
take-overflow_sub-last t c = p_some_place c.args.way.places.now (outlines c.args.trees.now) c.args.way.column c.requires.way

pub take-bounds-way-last : goal.take-bounds-way-last
take-bounds-way-last t c = omega (arith, p_some_place c.args.way.places.now (outlines c.args.trees.now) c.args.way.column c.requires.way)

pub take-offset_bounds-way-last : goal.take-offset_bounds-way-last
take-offset_bounds-way-last t c = omega (arith, c.ranges.way.1)

pub open-overflow_sub-end : goal.open-overflow_sub-end
open-overflow_sub-end t c =
    q_some_place c.args.way.places.now (map outline_of c.in-Q.children.now) c.args.way.column
    (subst (λ v. Leads (reverse c.args.way.places.now) v c.args.way.column) c.in-Q.ensures.outline c.requires.way)

pub each_next-returns-in_err-push : goal.each_next-returns-in_err-push
each_next-returns-in_err-push t c =
    let none = c.from_residual.ensures.0 in
    record { columns = IfOk-from_err c.from_residual.result _ none; found = IfOk-from_err c.from_residual.result _ none }

pub open-bounds-way-end : goal.open-bounds-way-end
open-bounds-way-end t c =
    omega (
      arith,
      q_some_place c.args.way.places.now (map outline_of c.in-Q.children.now) c.args.way.column
          (subst (λ v. Leads (reverse c.args.way.places.now) v c.args.way.column) c.in-Q.ensures.outline c.requires.way),
    )

pub open-offset_bounds-way-end : goal.open-offset_bounds-way-end
open-offset_bounds-way-end t c = omega (arith, c.ranges.way.1)

pub each_next-returns-in_err-places : goal.each_next-returns-in_err-places
each_next-returns-in_err-places t c =
    let none = c.from_residual-in_err-places.ensures.0 in
    record { columns = IfOk-from_err c.from_residual-in_err-places.result _ none; found = IfOk-from_err c.from_residual-in_err-places.result _ none }

-- the columns, as the call that was made last left them
pub open-returns-in-Leaf-clause-columns : goal.open-returns-in-Leaf-clause-columns
open-returns-in-Leaf-clause-columns t c = c.read_on.ensures.columns

pub open-returns-in_ok-trees-in-P-clause-columns : goal.open-returns-in_ok-trees-in-P-clause-columns
open-returns-in_ok-trees-in-P-clause-columns t c = c.take.ensures.columns

pub open-returns-then-way-end-eq0-clause-columns : goal.open-returns-then-way-end-eq0-clause-columns
open-returns-then-way-end-eq0-clause-columns t c = c.open.ensures.columns

pub open-returns-else-way-end-eq0-clause-columns : goal.open-returns-else-way-end-eq0-clause-columns
open-returns-else-way-end-eq0-clause-columns t c = c.open-else-way-end-eq0.ensures.columns

pub read_on-returns-then-is_empty-clause-columns : goal.read_on-returns-then-is_empty-clause-columns
read_on-returns-then-is_empty-clause-columns t c = c.read_on.ensures.columns

pub read_on-returns-then-bag-eq1-clause-columns : goal.read_on-returns-then-bag-eq1-clause-columns
read_on-returns-then-bag-eq1-clause-columns t c = c.read_tree.ensures.columns

pub read_on-returns-else-bag-eq1-clause-columns : goal.read_on-returns-else-bag-eq1-clause-columns
read_on-returns-else-bag-eq1-clause-columns t c = c.each_next.ensures.columns

pub read_on-returns-in-None-clause-columns : goal.read_on-returns-in-None-clause-columns
read_on-returns-in-None-clause-columns t c = c.read_on-in-None.ensures.columns

pub read_on-returns-in-Some-clause-columns : goal.read_on-returns-in-Some-clause-columns
read_on-returns-in-Some-clause-columns t c = c.read_tree-in-Some.ensures.columns

pub read_on-returns-in-None-split_last-clause-columns : goal.read_on-returns-in-None-split_last-clause-columns
read_on-returns-in-None-split_last-clause-columns t c = c.read_on-in-None-split_last.ensures.columns

pub read_on-returns-in-Some-split_last-clause-columns : goal.read_on-returns-in-Some-split_last-clause-columns
read_on-returns-in-Some-split_last-clause-columns t c = c.read_tree-in-Some-split_last.ensures.columns

pub take-returns-then-place-eq0-clause-columns : goal.take-returns-then-place-eq0-clause-columns
take-returns-then-place-eq0-clause-columns t c = c.open.ensures.columns

pub take-returns-in_ok-others-clause-columns : goal.take-returns-in_ok-others-clause-columns
take-returns-in_ok-others-clause-columns t c = c.open-else-place-eq0.ensures.columns

pub read_tree-returns-clause-columns : goal.read_tree-returns-clause-columns
read_tree-returns-clause-columns t c =
    popped c.args.columns.now.items c.pop.new.self.items c.read_on.new.columns.items c.push.new.self.items c.in-Leaf.column (vec_len c.read_on.new.columns)
    c.in_ok-read_on.ensures.columns c.in_ok-push.ensures.items (omega (arith, c.read_on.new.columns.ok.0)) c.pop.ensures.rest

pub each_next-returns-in_err-take : goal.each_next-returns-in_err-take
each_next-returns-in_err-take t c =
    let none = c.from_residual-in_err-take.ensures.0 in
    record { columns = IfOk-from_err c.from_residual-in_err-take.result _ none; found = IfOk-from_err c.from_residual-in_err-take.result _ none }

pub each_next-returns-then-more-clause-columns : goal.each_next-returns-then-more-clause-columns
each_next-returns-then-more-clause-columns t c =
    let x = c.in-Some.next.column in
    let pushed = pushed_on c.args.columns.now.items c.loop-next.columns.items c.push.new.self.items x c.loop-next.invariant.columns c.in_ok-push.ensures.items in
    popped c.args.columns.now.items c.pop.new.self.items c.take.new.columns.items c.push.new.self.items x (vec_len c.take.new.columns) c.in_ok-take.ensures.columns pushed
    (omega (arith, c.take.new.columns.ok.0)) c.pop.ensures.rest

pub take-returns-in_err-others : goal.take-returns-in_err-others
take-returns-in_err-others t c =
    let none = c.from_residual.ensures.0 in
    record { columns = IfOk-from_err c.from_residual.result _ none; found = IfOk-from_err c.from_residual.result _ none }

pub each_next-returns-in_default-clause-columns : goal.each_next-returns-in_default-clause-columns
each_next-returns-in_default-clause-columns t c = c.loop-next.invariant.columns

pub open-returns-in_err-trees-in-P : goal.open-returns-in_err-trees-in-P
open-returns-in_err-trees-in-P t c =
    let none = c.from_residual.ensures.0 in
    record { columns = IfOk-from_err c.from_residual.result _ none; found = IfOk-from_err c.from_residual.result _ none }
