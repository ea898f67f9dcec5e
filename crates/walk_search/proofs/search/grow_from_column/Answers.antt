use Rattle.std.proofs.Common.{◌≡◌, ◌∙◌, ℕ, ◌+◌, Vec, Global, Some, [], ◌∷◌, ◌++◌, length, take, slice_get, sym, ap, subst, arith}
use Rattle.std.proofs.lemmas.List.{length-map, take_at}
use Rattle.std.proofs.lemmas.Option.{same_Some}
use Rattle.column_order.proofs.Counts.{order_length}
use Rattle.row_model.specs.Graph.{pair, IsPair}
use Rattle.walk_search.specs.declared.forest.Node.{Node}
use Rattle.walk_search.specs.Neighbours.{AreNeighbours}
use Rattle.walk_search.specs.Search.{root_node, ShowsConflict, AreReachedFrom}
use Rattle.walk_search.specs.Weights.{weights, AreWeighty}
use Rattle.odd_cycle.proofs.Items.{none_of, item_last}
use Rattle.walk_search.proofs.SettledLaws.{grown_from_none, grown_from_same, grown_from_idle, grown_from_reached, grown_from_tree, planted_search, planted_taken}
use Rattle.walk_search.proofs.WeightLaws.{all_most}
use Rattle.walk_search.proofs.search.grow_from_column.Given as given
use Rattle.walk_search.proofs.search.grow_from_column.Goals as goal
use Rattle.walk_search.proofs.search.grow_from_column.Goals.{After-grow}

pub loop-b-init : goal.loop-b-init
loop-b-init g c = record { grown = grown_from_none c.args.m.now c.args.near.now c.args.marks.now c.args.forest.now c.args.a c.requires.search c.requires.taken; ticks = omega arith; costs = omega arith }

pub grow-requires-clause-search : goal.grow-requires-clause-search
grow-requires-clause-search g c =
    planted_search c.gap_law.ensures c.args.m.now c.args.near.now c.loop-b.marks c.loop-b.forest (subst (λ n. AreNeighbours c.args.m.now n c.args.near.now) (sym c.loop-b.invariant.grown.grows.rows) c.requires.near) c.loop-b.invariant.grown.search c.loop-b.invariant.grown.taken c.plant.new.self (pair c.args.a (c.loop-b.b + 1)) c.in_ok-plant.ensures

pub grow-requires-clause-taken : goal.grow-requires-clause-taken
grow-requires-clause-taken g c =
    planted_taken c.gap_law.ensures c.args.m.now c.args.near.now c.loop-b.marks c.loop-b.forest (subst (λ n. AreNeighbours c.args.m.now n c.args.near.now) (sym c.loop-b.invariant.grown.grows.rows) c.requires.near) c.loop-b.invariant.grown.search c.loop-b.invariant.grown.taken c.plant.new.self (pair c.args.a (c.loop-b.b + 1)) c.in_ok-plant.ensures

pub can_join-requires-clause-gaps : goal.can_join-requires-clause-gaps
can_join-requires-clause-gaps g c =
    let near = c.args.near.now in
    λ t e. omega (arith, order_length c.args.m.now.columns t.order (c.requires.near.gaps t e).valid.order, c.requires.near.holders.columns, length-map near.holders.items (λ (list : Vec ℕ Global). list.items))

pub loop-b-preserved-then-get-gt0 : goal.loop-b-preserved-then-get-gt0
loop-b-preserved-then-get-gt0 g c =
    let range = c.columns-b-end.ensures in
    let p : IsPair c.args.m.now.columns (pair c.args.a (c.loop-b.b + 1)) = record { a_from = c.requires.column.0; a_to = c.requires.column.1; b_from = omega arith; b_to = omega (arith, c.loop-b-test.true, range.columns); distinct = c.if-pair.false } in
    record {
      grown = grown_from_reached c.args.m.now c.args.near.now c.args.marks.now c.loop-b.marks c.args.forest.now c.loop-b.forest c.args.a c.loop-b.b c.loop-b.invariant.grown p (omega (arith, c.get.ensures, c.if-get-gt0.true));
      ticks = omega (arith, c.loop-b.invariant.ticks, c.tick.ensures);
      costs = omega (arith, c.loop-b.invariant.costs, c.tick.ensures);
    }

pub loop-b-preserved-then-pair : goal.loop-b-preserved-then-pair
loop-b-preserved-then-pair g c =
    record {
      grown = grown_from_same c.args.m.now c.args.near.now c.args.marks.now c.loop-b.marks c.args.forest.now c.loop-b.forest c.args.a c.loop-b.b c.loop-b.invariant.grown c.if-pair.true;
      ticks = omega (arith, c.loop-b.invariant.ticks, c.tick.ensures);
      costs = omega (arith, c.loop-b.invariant.costs, c.tick.ensures);
    }

pub loop-b-preserved-then-not-can_join : goal.loop-b-preserved-then-not-can_join
loop-b-preserved-then-not-can_join g c =
    let tells = c.can_join.ensures c.args.m.now c.args.marks.now.rows c.requires.near in
    record {
      grown = grown_from_idle c.args.m.now c.args.near.now c.args.marks.now c.loop-b.marks c.args.forest.now c.loop-b.forest c.args.a c.loop-b.b c.loop-b.invariant.grown c.can_join.result tells c.if-not-can_join.true;
      ticks = omega (arith, c.loop-b.invariant.ticks, c.tick.ensures);
      costs = omega (arith, c.loop-b.invariant.costs, c.tick.ensures);
    }

pub grow-requires-clause-near : goal.grow-requires-clause-near
grow-requires-clause-near g c = subst (λ n. AreNeighbours c.args.m.now n c.args.near.now) (sym c.loop-b.invariant.grown.grows.rows) c.requires.near

pub returns-in-Some-clause-found : goal.returns-in-Some-clause-found
returns-in-Some-clause-found g c =
    let m = c.args.m.now in
    let shows = rw c.in-Some.is at c.in_ok-conflict.ensures.found in
    subst (λ n. ShowsConflict m.columns (take (c.args.near.now.first + n) m.rows) c.grow.new.forest c.in-Some.conflict) c.loop-b.invariant.grown.grows.rows shows

pub returns-in_err-plant-clause-ticks : goal.returns-in_err-plant-clause-ticks
returns-in_err-plant-clause-ticks g c =
    let most = all_most c.args.m.now c.args.near.now (take (c.args.near.now.first + c.loop-b.marks.rows) c.args.m.now.rows) c.loop-b.forest c.loop-b.invariant.grown.search.is_forest in
    omega (arith, c.loop-b.invariant.ticks, c.tick.ensures, most, c.loop-b-test.true, c.columns-b-end.ensures.columns)

pub grow-requires-clause-weighty : goal.grow-requires-clause-weighty
grow-requires-clause-weighty g c =
    let m = c.args.m.now in
    let near = c.args.near.now in
    let plants = c.in_ok-plant.ensures in
    let old = c.loop-b.forest.nodes.items in
    let first = root_node (pair c.args.a (c.loop-b.b + 1)) (length old) in
    let there : slice_get c.plant.new.self.nodes.items c.plant.new.self.root ≡ Some first = ap (λ ns. slice_get ns c.plant.new.self.root) plants.nodes ∙ ap (slice_get (old ++ first ∷ [])) plants.root ∙ item_last old first in
    let held = (c.can_join.ensures m c.args.marks.now.rows c.requires.near).held c.if-not-can_join.false in
    λ node e. subst (λ (n : Node). AreWeighty m near n.pair) (same_Some first node (sym there ∙ e)) (c.requires.weighty, held)

-- the nodes before the tree are those that were there
before_tree : (g : given.Over) (c : After-grow g) → weights c.args.m.now c.args.near.now (take c.plant.new.self.root c.plant.new.self.nodes.items) ≡ weights c.args.m.now c.args.near.now c.loop-b.forest.nodes.items
before_tree g c =
    let plants = c.in_ok-plant.ensures in
    let old = c.loop-b.forest.nodes.items in
    let first = root_node (pair c.args.a (c.loop-b.b + 1)) (length old) in
    ap (λ ns. weights c.args.m.now c.args.near.now ns) (ap (take c.plant.new.self.root) plants.nodes ∙ take_at old (first ∷ []) c.plant.new.self.root (sym plants.root))

pub returns-in_err-conflict-clause-ticks : goal.returns-in_err-conflict-clause-ticks
returns-in_err-conflict-clause-ticks g c =
    omega (arith, c.loop-b.invariant.ticks, c.tick.ensures, c.grow.ensures.ticks, before_tree g (goal.at.returns-in_err-conflict-clause-ticks g c).After-grow, c.loop-b-test.true, c.columns-b-end.ensures.columns)

pub returns-in-Some-clause-ticks : goal.returns-in-Some-clause-ticks
returns-in-Some-clause-ticks g c =
    omega (arith, c.loop-b.invariant.ticks, c.tick.ensures, c.grow.ensures.ticks, before_tree g (goal.at.returns-in-Some-clause-ticks g c).After-grow, c.loop-b-test.true, c.columns-b-end.ensures.columns)

pub returns-in-Some-clause-costs : goal.returns-in-Some-clause-costs
returns-in-Some-clause-costs g c = omega (arith, c.loop-b.invariant.costs, c.tick.ensures, c.in_ok-conflict.ensures.costs)

pub returns-clause-ticks : goal.returns-clause-ticks
returns-clause-ticks g c =
    let most = all_most c.args.m.now c.args.near.now (take (c.args.near.now.first + c.loop-b.marks.rows) c.args.m.now.rows) c.loop-b.forest c.loop-b.invariant.grown.search.is_forest in
    omega (arith, c.loop-b.invariant.ticks, most, c.loop-b.auto.b-end, c.columns-b-end.ensures.columns)

pub loop-b-preserved : goal.loop-b-preserved
loop-b-preserved g c =
    let none = none_of c.in_ok-conflict.field-0 c.in_default.not-Some in
    record {
      grown = grown_from_tree
          c.args.m.now
          c.args.near.now
          c.args.marks.now
          c.loop-b.marks
          c.args.forest.now
          c.loop-b.forest
          c.args.a
          c.loop-b.b
          c.loop-b.invariant.grown
          c.gap_law.ensures
          (subst (λ n. AreNeighbours c.args.m.now n c.args.near.now) (sym c.loop-b.invariant.grown.grows.rows) c.requires.near)
          c.plant.new.self
          c.grow.new.forest
          c.grow.new.marks
          c.in_ok-plant.ensures
          (rw none at c.in_ok-conflict.ensures.found);
      ticks = omega (arith, c.loop-b.invariant.ticks, c.tick.ensures, c.in_ok-conflict.ensures.spent none, before_tree g (goal.at.loop-b-preserved g c).After-grow);
      costs = omega (arith, c.loop-b.invariant.costs, c.tick.ensures, c.in_ok-conflict.ensures.costs);
    }

pub can_join-requires-clause-column : goal.can_join-requires-clause-column
can_join-requires-clause-column g c =
    let near = c.args.near.now in
    (omega arith, omega (arith, c.loop-b-test.true, c.columns-b-end.ensures.columns, c.requires.near.holders.columns, length-map near.holders.items (λ (list : Vec ℕ Global). list.items)))

pub plant-requires : goal.plant-requires
plant-requires g c =
    let p : IsPair c.args.m.now.columns (pair c.args.a (c.loop-b.b + 1)) = record { distinct = c.if-pair.false; a_from = c.requires.column.0; a_to = c.requires.column.1; b_from = omega arith; b_to = omega (arith, c.loop-b-test.true, c.columns-b-end.ensures.columns) } in
    record {
      indexed = c.loop-b.invariant.grown.search.is_forest.indexed;
      fresh = omega (arith, c.get.ensures, c.if-get-gt0.false);
      pair = subst (λ n. IsPair n (pair c.args.a (c.loop-b.b + 1))) (sym c.loop-b.invariant.grown.search.is_forest.columns) p;
    }

pub returns-in_err-plant-clause-sizes : goal.returns-in_err-plant-clause-sizes
returns-in_err-plant-clause-sizes g c = (c.loop-b.invariant.grown.grows.rows, c.loop-b.invariant.grown.grows.columns)

pub returns-in_err-conflict-clause-sizes : goal.returns-in_err-conflict-clause-sizes
returns-in_err-conflict-clause-sizes g c = (c.grow.ensures.sizes.0 ∙ c.loop-b.invariant.grown.grows.rows, c.grow.ensures.sizes.1 ∙ c.loop-b.invariant.grown.grows.columns)

pub returns-in-Some-clause-sizes : goal.returns-in-Some-clause-sizes
returns-in-Some-clause-sizes g c = (c.grow.ensures.sizes.0 ∙ c.loop-b.invariant.grown.grows.rows, c.grow.ensures.sizes.1 ∙ c.loop-b.invariant.grown.grows.columns)

-- each column was gone through
pub returns-clause-found : goal.returns-clause-found
returns-clause-found g c =
    let x = c.loop-b.invariant.grown in
    let all : c.loop-b.b ≡ c.args.m.now.columns = omega (arith, c.loop-b-test.false, c.loop-b.auto.b-end, c.columns-b-end.ensures.columns) in
    (x.search, x.grows, x.taken, subst (λ n. AreReachedFrom c.args.m.now c.args.near.now c.loop-b.forest.nodes.items c.args.a n) all x.reached)

pub returns-clause-sizes : goal.returns-clause-sizes
returns-clause-sizes g c = (c.loop-b.invariant.grown.grows.rows, c.loop-b.invariant.grown.grows.columns)

pub returns-clause-spent : goal.returns-clause-spent
returns-clause-spent g c = λ e. omega (arith, c.loop-b.invariant.ticks, c.loop-b.auto.b-end, c.columns-b-end.ensures.columns)

pub returns-clause-costs : goal.returns-clause-costs
returns-clause-costs g c = omega (arith, c.loop-b.invariant.costs, c.loop-b-test.false, c.columns-b-end.ensures.range.0)

pub returns-clause-turns : goal.returns-clause-turns
returns-clause-turns g c = λ e. omega (arith, c.loop-b.invariant.costs, c.loop-b-test.false, c.columns-b-end.ensures.columns)
