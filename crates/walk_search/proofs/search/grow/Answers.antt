use Rattle.std.proofs.Common.{◌≡◌, ◌∙◌, ◌+◌, ◌*◌, ◌<◌, ◌≤◌, length, take, drop, sym, ap, subst, arith, refl}
use Rattle.walk_search.specs.MarkedOnes.{marked_ones}
use Rattle.walk_search.specs.Neighbours.{AreNeighbours}
use Rattle.walk_search.specs.Weights.{weights, most_weight, IsWeighty}
use Rattle.walk_search.specs.Search.{pair_of_node, ShowsConflict}
use Rattle.odd_cycle.proofs.Items.{none_of, item_at}
use Rattle.odd_cycle.proofs.NumberLaws.{indexed_room, indexed_few}
use Rattle.walk_search.proofs.TakenLaws.{growing_more, growing_all, growing_none}
use Rattle.walk_search.proofs.ForestLaws.{grown_long}
use Rattle.walk_search.proofs.WeightLaws.{node_weighty, weights_more, weights_same, weights_part, weights_most, weighty_grown}
use Rattle.walk_search.proofs.search.grow.Given as given
use Rattle.walk_search.proofs.search.grow.Goals as goal
use Rattle.walk_search.proofs.search.grow.Goals.{After-expand}

pub loop-head-smaller : goal.loop-head-smaller
loop-head-smaller g c =
    let forest = c.loop-head.invariant.growing.search.is_forest in
    let room = subst (λ n. length c.loop-head.forest.nodes.items ≤ n * n) forest.columns (indexed_room pair_of_node c.loop-head.forest.numbers c.loop-head.forest.nodes.items forest.indexed) in
    let lt : c.loop-head.head < c.args.m.now.columns * c.args.m.now.columns = omega (arith, room) in
    omega (arith, lt)

pub expand-requires-clause-weighty : goal.expand-requires-clause-weighty
expand-requires-clause-weighty g c =
    let m = c.args.m.now in
    let near = c.args.near.now in
    let x = c.loop-head.invariant.growing in
    let is : AreNeighbours m c.loop-head.marks.rows near = subst (λ n. AreNeighbours m n near) (sym x.grows.rows) c.requires.near in
    node_weighty m near c.loop-head.marks.rows x.search.few is c.loop-head.forest c.loop-head.head x.search.is_forest c.loop-head.invariant.weighty x.within

-- the steps of one more node that is taken
module _ (g : given.Over) (c : After-expand g) where
  lt : c.loop-head.head < length c.loop-head.forest.nodes.items
  lt = omega (arith, c.loop-head-test.true)

  pub once_more : c.expand.new.steps + marked_ones (drop c.args.near.now.first c.args.m.now.rows) c.args.marks.now + weights c.args.m.now c.args.near.now (take c.args.forest.now.root c.args.forest.now.nodes.items)
      ≤ c.args.steps.now + marked_ones (drop c.args.near.now.first c.args.m.now.rows) c.expand.new.marks + weights c.args.m.now c.args.near.now (take (c.loop-head.head + 1) c.loop-head.forest.nodes.items)
  once_more =
      let node = item_at c.loop-head.forest.nodes.items c.loop-head.head lt in
      let more = weights_more c.args.m.now c.args.near.now c.loop-head.forest.nodes.items c.loop-head.head node.0 node.1 in
      omega (arith, c.expand.ensures.ticks node.0 node.1, more, c.loop-head.invariant.ticks)

  pub at_most : c.expand.new.steps + marked_ones (drop c.args.near.now.first c.args.m.now.rows) c.args.marks.now + weights c.args.m.now c.args.near.now (take c.args.forest.now.root c.args.forest.now.nodes.items)
      ≤ c.args.steps.now + marked_ones (drop c.args.near.now.first c.args.m.now.rows) c.expand.new.marks + most_weight c.args.m.now c.args.near.now
  at_most =
      let x = c.loop-head.invariant.growing.search in
      omega (arith, once_more, weights_most c.args.m.now c.args.near.now (take (c.args.near.now.first + c.loop-head.marks.rows) c.args.m.now.rows) c.loop-head.forest (c.loop-head.head + 1) x.is_forest)

pub loop-head-preserved : goal.loop-head-preserved
loop-head-preserved g c =
    let m = c.args.m.now in
    let near = c.args.near.now in
    let none = none_of c.in_ok-conflict.field-0 c.in_default.not-Some in
    let lt : c.loop-head.head < length c.loop-head.forest.nodes.items = omega arith in
    let r = rw none at c.in_ok-conflict.ensures.found in
    let same : weights m near (take (c.loop-head.head + 1) c.expand.new.forest.nodes.items) ≡ weights m near (take (c.loop-head.head + 1) c.loop-head.forest.nodes.items) =
    ap (λ ns. weights m near (take (c.loop-head.head + 1) ns)) r.1.appended ∙ weights_same m near c.loop-head.forest.nodes.items r.1.more (c.loop-head.head + 1) (omega (arith, lt)) in
    record {
      growing = growing_more m near c.args.marks.now c.loop-head.marks c.expand.new.marks c.args.forest.now c.loop-head.forest c.expand.new.forest c.loop-head.head c.loop-head.invariant.growing lt r;
      weighty = subst (IsWeighty m near c.expand.new.forest.nodes.items) (sym r.2) (weighty_grown m near c.loop-head.marks c.expand.new.marks c.loop-head.forest.nodes.items c.expand.new.forest.nodes.items c.loop-head.forest.root r.1 c.loop-head.invariant.tree c.loop-head.invariant.weighty);
      tree = omega (arith, r.2, c.loop-head.invariant.tree, grown_long c.loop-head.marks c.expand.new.marks c.loop-head.forest.nodes.items c.expand.new.forest.nodes.items r.1);
      same = r.2 ∙ c.loop-head.invariant.same;
      costs = omega (arith, c.loop-head.invariant.costs, c.in_ok-conflict.ensures.costs);
      ticks = omega (arith, same, once_more g (goal.at.loop-head-preserved g c).After-expand);
    }

pub returns-in_err-conflict-clause-ticks : goal.returns-in_err-conflict-clause-ticks
returns-in_err-conflict-clause-ticks g c = at_most g (goal.at.returns-in_err-conflict-clause-ticks g c).After-expand

pub returns-in-Some-clause-ticks : goal.returns-in-Some-clause-ticks
returns-in-Some-clause-ticks g c = at_most g (goal.at.returns-in-Some-clause-ticks g c).After-expand

pub returns-clause-ticks : goal.returns-clause-ticks
returns-clause-ticks g c =
    let x = c.loop-head.invariant.growing.search in
    omega (arith, c.loop-head.invariant.ticks, weights_most c.args.m.now c.args.near.now (take (c.args.near.now.first + c.loop-head.marks.rows) c.args.m.now.rows) c.loop-head.forest c.loop-head.head x.is_forest)

pub returns-clause-spent : goal.returns-clause-spent
returns-clause-spent g c = λ e. omega (arith, c.loop-head.invariant.ticks, weights_part c.args.m.now c.args.near.now c.loop-head.forest.nodes.items c.loop-head.head)

pub returns-clause-found : goal.returns-clause-found
returns-clause-found g c = growing_all c.args.m.now c.args.near.now c.args.marks.now c.loop-head.marks c.args.forest.now c.loop-head.forest c.loop-head.head c.loop-head.invariant.growing (omega arith)

pub overflow_add-head : goal.overflow_add-head
overflow_add-head g c = omega (arith, indexed_few pair_of_node c.loop-head.forest.numbers c.loop-head.forest.nodes.items c.loop-head.invariant.growing.search.is_forest.indexed)

pub returns-in-Some-clause-costs : goal.returns-in-Some-clause-costs
returns-in-Some-clause-costs g c = omega (arith, c.loop-head.invariant.costs, c.loop-head.invariant.growing.within, c.loop-head.invariant.same, c.in_ok-conflict.ensures.costs)

pub returns-clause-costs : goal.returns-clause-costs
returns-clause-costs g c = omega (arith, c.loop-head.invariant.costs, c.loop-head.invariant.same, c.loop-head.invariant.tree, c.loop-head-test.false)

pub loop-head-init : goal.loop-head-init
loop-head-init g c = record {
  growing = growing_none c.args.m.now c.args.near.now c.args.marks.now c.args.forest.now c.requires.search c.requires.taken;
  weighty = c.requires.weighty;
  tree = c.requires.tree;
  same = refl;
  costs = omega arith;
  ticks = omega arith;
}

pub expand-requires-clause-search : goal.expand-requires-clause-search
expand-requires-clause-search g c = c.loop-head.invariant.growing.search

pub expand-requires-clause-near : goal.expand-requires-clause-near
expand-requires-clause-near g c = subst (λ n. AreNeighbours c.args.m.now n c.args.near.now) (sym c.loop-head.invariant.growing.grows.rows) c.requires.near

pub expand-requires-clause-from : goal.expand-requires-clause-from
expand-requires-clause-from g c = (c.loop-head.invariant.growing.within, omega (arith, c.loop-head-test.true))

pub returns-in_err-conflict-clause-sizes : goal.returns-in_err-conflict-clause-sizes
returns-in_err-conflict-clause-sizes g c = (c.expand.ensures.sizes.0 ∙ c.loop-head.invariant.growing.grows.rows, c.expand.ensures.sizes.1 ∙ c.loop-head.invariant.growing.grows.columns)

pub returns-in-Some-clause-found : goal.returns-in-Some-clause-found
returns-in-Some-clause-found g c =
    let m = c.args.m.now in
    subst (λ n. ShowsConflict m.columns (take (c.args.near.now.first + n) m.rows) c.expand.new.forest c.in-Some.conflict) c.loop-head.invariant.growing.grows.rows (rw c.in-Some.is at c.in_ok-conflict.ensures.found)

pub returns-in-Some-clause-sizes : goal.returns-in-Some-clause-sizes
returns-in-Some-clause-sizes g c = (c.expand.ensures.sizes.0 ∙ c.loop-head.invariant.growing.grows.rows, c.expand.ensures.sizes.1 ∙ c.loop-head.invariant.growing.grows.columns)

pub returns-clause-sizes : goal.returns-clause-sizes
returns-clause-sizes g c = (c.loop-head.invariant.growing.grows.rows, c.loop-head.invariant.growing.grows.columns)
