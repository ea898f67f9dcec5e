use Rattle.std.proofs.Common.{rules, ◌≡◌, ◌∙◌, ℕ, ◌+◌, ◌-◌, ◌<◌, ◌≤◌, not, Vec, Global, Some, length, take, drop, get_or, slice_get, IsTrue, refl, sym, ap, inl, inr, subst, arith}
use Rattle.std.proofs.lemmas.Option.{slice_get_read, slice_get_within, slice_get-get_or, same_Some}
use Rattle.std.proofs.lemmas.Bool.{cases_lt}
use Rattle.std.proofs.lemmas.Grind.{common_steps}
use Rattle.std.proofs.lemmas.List.{length-map}
use Rattle.column_order.specs.Orders.{has}
use Rattle.column_order.proofs.Counts.{order_length}
use Rattle.row_model.specs.Graph.{row_at, turned}
use Rattle.walk_search.specs.declared.forest.Node.{Node}
use Rattle.walk_search.specs.Holders.{holders_of}
use Rattle.walk_search.specs.Search.{IsReached, ShowsConflict}
use Rattle.walk_search.specs.Weights.{held_for, weight}
use Rattle.odd_cycle.proofs.Items.{none_of}
use Rattle.walk_search.proofs.HolderLaws.{lists_of, holder_at}
use Rattle.walk_search.proofs.ForestLaws.{grown_item}
use Rattle.walk_search.proofs.SearchLaws.{joined_front}
use Rattle.walk_search.proofs.TakenLaws.{taken_pair, expanding_none, expanding_row, expanding_more, expanding_all}
use Rattle.walk_search.proofs.search.expand.Given as given
use Rattle.walk_search.proofs.search.expand.Goals as goal
use Rattle.walk_search.proofs.search.expand.Goals.{After-index-node, After-deref-row-items}
use Rattle.std.proofs.lemmas.Result.{IfOk-from_err}

pub leave-requires-clause-gaps : goal.leave-requires-clause-gaps
leave-requires-clause-gaps g c =
    let near = c.args.near.now in
    λ t e. (let x = c.requires.near.gaps t e in (order_length c.args.m.now.columns t.order x.valid.order ∙ sym c.requires.search.is_forest.columns, (take near.first c.args.m.now.rows, x.gaps)))

-- the node that is taken: it stands at its index, and its first column has a list of rows
record Takes (g : given.Over) (c : After-index-node g) : Type 0 where
  there : slice_get c.args.forest.now.nodes.items c.args.from ≡ Some c.index-node.result.now
  from_1 : 1 ≤ c.index-node.result.now.pair.a
  within : c.index-node.result.now.pair.a - 1 < length c.args.near.now.holders.items

takes : (g : given.Over) (c : After-index-node g) → Takes g c
takes g c =
    let nodes = c.args.forest.now.nodes.items in
    let near = c.args.near.now in
    let node : Node = c.index-node.result.now in
    let there : slice_get nodes c.args.from ≡ Some node = slice_get_read nodes (length nodes) c.args.from node refl c.requires.from.1 c.index-node.ensures in
    let p = taken_pair c.args.m.now near c.args.marks.now c.args.forest.now c.args.from node c.requires.search there in
    record {
      there = there;
      from_1 = p.a_from;
      within = omega (arith, p.a_from, p.a_to, c.requires.near.holders.columns, length-map near.holders.items (λ (list : Vec ℕ Global). list.items));
    }

-- the rows that are gone through are those that have its first column
rows_of_first : (g : given.Over) (c : After-deref-row-items g) → c.index-node.result.now.pair.a - 1 < length c.args.near.now.holders.items →
    c.deref-row-items.result.now ≡ holders_of (lists_of c.args.near.now.holders.items) c.index-node.result.now.pair.a
rows_of_first g c within = c.deref-row-items.ensures.value ∙ sym (holder_at c.args.near.now.holders.items (c.index-node.result.now.pair.a - 1) c.index-rows.result.now within c.index-rows.ensures)

pub returns-in-Some-clause-found : goal.returns-in-Some-clause-found
returns-in-Some-clause-found g c =
    let m = c.args.m.now in
    let near = c.args.near.now in
    let graph = take (near.first + c.args.marks.now.rows) m.rows in
    let front = joined_front m.columns m.rows near.first (near.first + c.args.marks.now.rows) (omega arith) c.requires.search.few in
    rw c.in-Some.is at (c.in_ok-conflict.ensures m.columns (take near.first m.rows) graph c.requires.search.is_forest c.requires.from.0 (λ t e. (c.requires.near.gaps t e).gaps) front)

pub overflow_sub-node : goal.overflow_sub-node
overflow_sub-node g c = (takes g (goal.at.overflow_sub-node g c).After-index-node).from_1

pub index-rows-requires : goal.index-rows-requires
index-rows-requires g c =
    let within = (takes g (goal.at.index-rows-requires g c).After-index-node).within in
    first_of (omega (arith, within), grind (arith, common_steps, within), search (rules, within))

pub loop-row-init : goal.loop-row-init
loop-row-init g c =
    let m = c.args.m.now in
    let near = c.args.near.now in
    let graph = take (near.first + c.args.marks.now.rows) m.rows in
    let front = joined_front m.columns m.rows near.first (near.first + c.args.marks.now.rows) (omega arith) c.requires.search.few in
    let none = none_of c.in_ok-conflict.field-0 c.in_default.not-Some in
    let left = rw none at (c.in_ok-conflict.ensures m.columns (take near.first m.rows) graph c.requires.search.is_forest c.requires.from.0 (λ t e. (c.requires.near.gaps t e).gaps) front) in
    record { expanding = expanding_none m near c.args.marks.now c.args.forest.now c.leave.new.forest c.args.from c.deref-row-items.result.now c.requires.search left; ticks = omega arith; costs = omega arith }

pub look-requires-clause-row : goal.look-requires-clause-row
look-requires-clause-row g c =
    let near = c.args.near.now in
    let node : Node = c.index-node.result.now in
    let t = takes g (goal.at.look-requires-clause-row g c).After-index-node in
    let is = rows_of_first g (goal.at.look-requires-clause-row g c).After-deref-row-items t.within in
    let rows = c.deref-row-items.result.now in
    let at = slice_get-get_or rows c.loop-row.row-index 0 c.loop-row-test.true in
    let r = expanding_row c.args.m.now near c.args.marks.now c.args.forest.now c.args.from node c.requires.search t.there (lists_of near.holders.items) c.requires.near.holders rows is
    c.loop-row.marks c.loop-row.forest c.loop-row.row-index c.loop-row.invariant.expanding (get_or rows c.loop-row.row-index 0) at in
    (r.0, r.1)

pub look-requires-clause-node : goal.look-requires-clause-node
look-requires-clause-node g c =
    let near = c.args.near.now in
    let old = c.args.forest.now in
    let node : Node = c.index-node.result.now in
    let t = takes g (goal.at.look-requires-clause-node g c).After-index-node in
    let is = rows_of_first g (goal.at.look-requires-clause-node g c).After-deref-row-items t.within in
    let rows = c.deref-row-items.result.now in
    let row = get_or rows c.loop-row.row-index 0 in
    let at = slice_get-get_or rows c.loop-row.row-index 0 c.loop-row-test.true in
    let x = c.loop-row.invariant.expanding in
    let r = expanding_row c.args.m.now near c.args.marks.now old c.args.from node c.requires.search t.there (lists_of near.holders.items) c.requires.near.holders rows is
    c.loop-row.marks c.loop-row.forest c.loop-row.row-index x row at in
    let now : slice_get c.loop-row.forest.nodes.items c.args.from ≡ Some node = grown_item c.args.marks.now c.loop-row.marks old.nodes.items c.loop-row.forest.nodes.items c.args.from node x.grows t.there in
    λ other e. subst (λ (n : Node). IsTrue (has (row_at (drop near.first c.args.m.now.rows) row) n.pair.a) × IsReached c.loop-row.forest.nodes.items (turned n.pair) (not n.odd)) (same_Some node other (sym now ∙ e)) (r.2, x.exchanged node t.there)

pub loop-row-preserved : goal.loop-row-preserved
loop-row-preserved g c =
    let rows = c.deref-row-items.result.now in
    let at = slice_get-get_or rows c.loop-row.row-index 0 c.loop-row-test.true in
    let none = none_of c.in_ok-conflict-2.field-0 c.in_default-2.not-Some in
    record {
      expanding = expanding_more c.args.m.now c.args.near.now c.args.marks.now c.loop-row.marks c.look.new.marks c.args.forest.now c.loop-row.forest c.look.new.forest c.args.from rows c.loop-row.row-index
          (get_or rows c.loop-row.row-index 0) c.loop-row.invariant.expanding at (rw none at c.in_ok-conflict-2.ensures.found);
      ticks = omega (arith, c.loop-row.invariant.ticks, c.look.ensures.ticks);
      costs = omega (arith, c.loop-row.invariant.costs, c.look.ensures.costs);
    }

pub returns-clause-found : goal.returns-clause-found
returns-clause-found g c =
    let near = c.args.near.now in
    let t = takes g (goal.at.returns-clause-found g c).After-index-node in
    let is = rows_of_first g (goal.at.returns-clause-found g c).After-deref-row-items t.within in
    let x = c.loop-row.invariant.expanding in (
      x.search,
      x.grows,
      x.root,
      expanding_all c.args.m.now near c.args.marks.now c.args.forest.now c.args.from c.index-node.result.now c.requires.search t.there (lists_of near.holders.items) c.requires.near.holders
          c.deref-row-items.result.now is c.loop-row.marks c.loop-row.forest c.loop-row.row-index x c.loop-row-test.false,
    )

-- the step that is counted where there is no row, and one for each row, are within the weight of the node's first column
idle : (g : given.Over) (c : After-deref-row-items g) → slice_get c.args.forest.now.nodes.items c.args.from ≡ Some c.index-node.result.now → c.index-node.result.now.pair.a - 1 < length c.args.near.now.holders.items →
    (node : Node) → slice_get c.args.forest.now.nodes.items c.args.from ≡ Some node → c.tick_if_none.new.steps + length c.deref-row-items.result.now ≤ c.args.steps.now + weight c.args.m.now c.args.near.now node.pair.a
idle g c there within node e =
    let near = c.args.near.now in
    let taken : Node = c.index-node.result.now in
    let rows = c.deref-row-items.result.now in
    let len : length rows ≡ held_for near taken.pair.a = ap length (rows_of_first g c within) in
    let both : length c.deref.result.now ≡ length rows = ap length (c.deref.ensures.value ∙ sym c.deref-row-items.ensures.value) in
    let some = (c.requires.weighty taken there).0 in
    let here : c.tick_if_none.new.steps + length rows ≤ c.args.steps.now + weight c.args.m.now near taken.pair.a = elim (cases_lt 0 (length rows)) [
      | inl l ↦ omega (arith, c.tick_if_none.ensures.some (omega (arith, l, both)), len)
      | inr l ↦ omega (arith, c.tick_if_none.ensures.none (omega (arith, l, both)), len, some, l)
    ] in
    subst (λ (n : Node). c.tick_if_none.new.steps + length rows ≤ c.args.steps.now + weight c.args.m.now near n.pair.a) (same_Some taken node (sym there ∙ e)) here

pub returns-in_err-conflict-2-clause-ticks : goal.returns-in_err-conflict-2-clause-ticks
returns-in_err-conflict-2-clause-ticks g c =
    let place = goal.at.returns-in_err-conflict-2-clause-ticks g c in
    let t = takes g place.After-index-node in
    λ node e. omega (arith, idle g place.After-deref-row-items t.there t.within node e, c.loop-row.invariant.ticks, c.look.ensures.ticks, c.loop-row-test.true)

pub returns-in-Some-2-clause-ticks : goal.returns-in-Some-2-clause-ticks
returns-in-Some-2-clause-ticks g c =
    let place = goal.at.returns-in-Some-2-clause-ticks g c in
    let t = takes g place.After-index-node in
    λ node e. omega (arith, idle g place.After-deref-row-items t.there t.within node e, c.loop-row.invariant.ticks, c.look.ensures.ticks, c.loop-row-test.true)

pub returns-clause-ticks : goal.returns-clause-ticks
returns-clause-ticks g c =
    let place = goal.at.returns-clause-ticks g c in
    let t = takes g place.After-index-node in
    λ node e. omega (arith, idle g place.After-deref-row-items t.there t.within node e, c.loop-row.invariant.ticks, c.loop-row.auto.row-index-end)

pub returns-clause-turns : goal.returns-clause-turns
returns-clause-turns g c = λ _ node e.
    let near = c.args.near.now in
    let place = goal.at.returns-clause-turns g c in
    let t = takes g place.After-index-node in
    let taken : Node = c.index-node.result.now in
    let rows = c.deref-row-items.result.now in
    let len : length rows ≡ held_for near taken.pair.a = ap length (rows_of_first g place.After-deref-row-items t.within) in
    let both : length c.deref.result.now ≡ length rows = ap length (c.deref.ensures.value ∙ sym c.deref-row-items.ensures.value) in
    let more : c.args.steps.now ≤ c.tick_if_none.new.steps = elim (cases_lt 0 (length rows)) [
      | inl l ↦ omega (arith, c.tick_if_none.ensures.some (omega (arith, l, both)))
      | inr l ↦ omega (arith, c.tick_if_none.ensures.none (omega (arith, l, both)))
    ] in
    let here : c.args.steps.now + held_for near taken.pair.a ≤ c.loop-row.steps = omega (arith, len, more, c.loop-row.invariant.costs, c.loop-row-test.false) in
    subst (λ (n : Node). c.args.steps.now + held_for near n.pair.a ≤ c.loop-row.steps) (same_Some taken node (sym t.there ∙ e)) here

pub look-requires-clause-search : goal.look-requires-clause-search
look-requires-clause-search g c = c.loop-row.invariant.expanding.search

pub look-requires-clause-from : goal.look-requires-clause-from
look-requires-clause-from g c =
    let old = c.args.forest.now.nodes.items in
    let nodes = c.loop-row.forest.nodes.items in
    let node : Node = c.index-node.result.now in
    let x = c.loop-row.invariant.expanding in
    let there = (takes g (goal.at.look-requires-clause-from g c).After-index-node).there in
    let now : slice_get nodes c.args.from ≡ Some node = grown_item c.args.marks.now c.loop-row.marks old nodes c.args.from node x.grows there in
    (omega (arith, x.root, c.requires.from.0), slice_get_within nodes c.args.from node now)

pub returns-in-Some-2-clause-found : goal.returns-in-Some-2-clause-found
returns-in-Some-2-clause-found g c =
    let m = c.args.m.now in
    let shows = rw c.in-Some-2.is at c.in_ok-conflict-2.ensures.found in
    subst (λ n. ShowsConflict m.columns (take (c.args.near.now.first + n) m.rows) c.look.new.forest c.in-Some-2.conflict) c.loop-row.invariant.expanding.grows.rows shows

pub leave-requires-clause-from : goal.leave-requires-clause-from
leave-requires-clause-from g c = c.requires.from.1

pub leave-requires-clause-indexed : goal.leave-requires-clause-indexed
leave-requires-clause-indexed g c = c.requires.search.is_forest.indexed

pub returns-in_err-conflict : goal.returns-in_err-conflict
returns-in_err-conflict g c =
    let none = c.from_residual.ensures.0 in
    record { sizes = (refl, refl); ticks = λ node e. omega arith; found = IfOk-from_err c.from_residual.result _ none; costs = IfOk-from_err c.from_residual.result _ none; turns = IfOk-from_err c.from_residual.result _ none }

pub returns-in-Some-clause-ticks : goal.returns-in-Some-clause-ticks
returns-in-Some-clause-ticks g c =
    let t = takes g (goal.at.returns-in-Some-clause-ticks g c).After-index-node in
    λ node e. omega (arith, c.tick.ensures, subst (λ (n : Node). 1 ≤ weight c.args.m.now c.args.near.now n.pair.a) (same_Some c.index-node.result.now node (sym t.there ∙ e)) (c.requires.weighty c.index-node.result.now t.there).0)

pub returns-in_err-conflict-2-clause-sizes : goal.returns-in_err-conflict-2-clause-sizes
returns-in_err-conflict-2-clause-sizes g c = (c.look.ensures.sizes.0 ∙ c.loop-row.invariant.expanding.grows.rows, c.look.ensures.sizes.1 ∙ c.loop-row.invariant.expanding.grows.columns)

pub returns-in-Some-2-clause-sizes : goal.returns-in-Some-2-clause-sizes
returns-in-Some-2-clause-sizes g c = (c.look.ensures.sizes.0 ∙ c.loop-row.invariant.expanding.grows.rows, c.look.ensures.sizes.1 ∙ c.loop-row.invariant.expanding.grows.columns)

pub returns-clause-sizes : goal.returns-clause-sizes
returns-clause-sizes g c = (c.loop-row.invariant.expanding.grows.rows, c.loop-row.invariant.expanding.grows.columns)
