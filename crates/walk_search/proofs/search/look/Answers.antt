use Rattle.std.proofs.Common.{◌≡◌, ◌∙◌, ℕ, ◌+◌, ◌<◌, ◌≤◌, true, false, Some, List, length, take, drop, slice_get, IsTrue, IsFalse, refl, ap, sym, subst, arith}
use Rattle.std.proofs.lemmas.Option.{same_Some, slice_get_read, slice_get_within}
use Rattle.std.proofs.lemmas.Bool.{both_ways}
use Rattle.column_order.specs.Orders.{has}
use Rattle.row_model.specs.Graph.{pair, row_at, IsPair}
use Rattle.walk_search.specs.declared.forest.Node.{Node}
use Rattle.walk_search.specs.MarkedOnes.{marked_ones}
use Rattle.walk_search.specs.Search.{IsSearch, IsReachedAlong, Grows}
use Rattle.odd_cycle.specs.Marks.{is_marked}
use Rattle.odd_cycle.proofs.Items.{held_some, item_end, none_of}
use Rattle.walk_search.proofs.MarkedOnes.{marked_again, marked_anew}
use Rattle.walk_search.proofs.ForestLaws.{grown_refl, grown_there}
use Rattle.walk_search.proofs.HolderLaws.{further_member}
use Rattle.walk_search.proofs.SearchLaws.{IsSpreading, spreading_none, spreading_turned, next_pair, crossed, spreading_more, looked, spreading_all, further_row}
use Rattle.walk_search.proofs.search.look.Given as given
use Rattle.walk_search.proofs.search.look.Goals as goal
use Rattle.walk_search.proofs.search.look.Goals.{After-mark, After-has_counted, In-Some, After-next_counted}

-- what is known where a node is taken and a further row is looked at: the node stands at its index, its pair is within the tables, the
-- row is one of those that are searched, and has the pair's first column
record Looks (g : given.Over) (c : After-mark g) : Type 0 where
  there : slice_get c.args.forest.now.nodes.items c.args.from ≡ Some c.index-node.result.now
  from_1 : 1 ≤ c.index-node.result.now.pair.b
  to_last : c.index-node.result.now.pair.b ≤ c.args.marks.now.columns
  behind : row_at (drop c.args.near.now.first c.args.m.now.rows) c.args.further ≡ row_at c.args.m.now.rows (c.args.near.now.first + c.args.further)
  searched : row_at (take (c.args.near.now.first + c.args.marks.now.rows) c.args.m.now.rows) (c.args.near.now.first + c.args.further)
      ≡ row_at (drop c.args.near.now.first c.args.m.now.rows) c.args.further
  within : c.args.near.now.first + c.args.further ≤ length (take (c.args.near.now.first + c.args.marks.now.rows) c.args.m.now.rows)
  held : IsTrue (has (row_at (drop c.args.near.now.first c.args.m.now.rows) c.args.further) c.index-node.result.now.pair.a)

looks : (g : given.Over) (c : After-mark g) → Looks g c
looks g c =
    let nodes = c.args.forest.now.nodes.items in
    let node : Node = c.index-node.result.now in
    let there : slice_get nodes c.args.from ≡ Some node = slice_get_read nodes (length nodes) c.args.from node refl c.requires.from.1 c.index-node.ensures in
    let here = (c.requires.search.is_forest.indexed.pairs c.args.from node there).0 in
    let row = further_row c.args.m.now.rows c.args.near.now.first c.args.marks.now.rows c.args.further c.requires.search.few c.requires.row.0 c.requires.row.1 in
    record {
      there = there;
      from_1 = here.b_from;
      to_last = omega (arith, here.b_to, c.requires.search.is_forest.columns, c.requires.search.columns);
      behind = row.0;
      searched = row.1;
      within = row.2;
      held = (c.requires.node node there).0;
    }

-- a first look at a row for a column counts its ones, of which there are some
first_look : (g : given.Over) (c : After-mark g) → c.mark.result ≡ false →
    (marked_ones (drop c.args.near.now.first c.args.m.now.rows) c.mark.new.self
    ≡ marked_ones (drop c.args.near.now.first c.args.m.now.rows) c.args.marks.now + length (row_at c.args.m.now.rows (c.args.near.now.first + c.args.further)))
    × (1 ≤ length (row_at c.args.m.now.rows (c.args.near.now.first + c.args.further)))
first_look g c new =
    let rest = drop c.args.near.now.first c.args.m.now.rows in
    let node : Node = c.index-node.result.now in
    let k = looks g c in
    let ones = marked_anew rest c.args.marks.now c.mark.new.self c.args.further node.pair.b c.mark.ensures.after c.requires.row.0 c.requires.row.1 k.from_1 k.to_last (sym c.mark.ensures.before ∙ new) in
    let some = held_some (row_at rest c.args.further) node.pair.a k.held in
    (omega (arith, ones, ap length k.behind), omega (arith, some, ap length k.behind))

-- where the row is read no further, the search stays as it is, if there is nothing more to reach
stays : (g : given.Over) (c : After-mark g) → (IsFalse (has (row_at (drop c.args.near.now.first c.args.m.now.rows) c.args.further) c.index-node.result.now.pair.b)
    → IsReachedAlong c.args.forest.now.nodes.items c.index-node.result.now.pair.b (row_at (drop c.args.near.now.first c.args.m.now.rows) c.args.further)) →
    IsSearch c.args.m.now c.args.near.now.first c.mark.new.self c.args.forest.now × Grows c.args.marks.now c.mark.new.self c.args.forest.now.nodes.items c.args.forest.now.nodes.items × (c.args.forest.now.root ≡ c.args.forest.now.root)
    × ((other : Node) → slice_get c.args.forest.now.nodes.items c.args.from ≡ Some other → is_marked c.mark.new.self c.args.further other.pair.b ≡ true)
stays g c along =
    let old = c.args.forest.now in
    let same = grown_refl c.args.m.now.columns (take (c.args.near.now.first + c.args.marks.now.rows) c.args.m.now.rows) old c.requires.search.is_forest in
    looked c.args.m.now c.args.near.now.first c.args.marks.now c.mark.new.self old old c.args.from c.args.further c.index-node.result.now c.requires.search (looks g c).there c.requires.row.0 c.requires.row.1 c.mark.ensures.after same along

-- where the row has the column, this was seen by a read
has_column : (g : given.Over) (c : After-has_counted g) → row_at (drop c.args.near.now.first c.args.m.now.rows) c.args.further ≡ row_at c.args.m.now.rows (c.args.near.now.first + c.args.further) → c.has_counted.result ≡ true →
    IsTrue (has (row_at (drop c.args.near.now.first c.args.m.now.rows) c.args.further) c.index-node.result.now.pair.b)
has_column g c behind seen = ap (λ (r : List ℕ). has r c.index-node.result.now.pair.b) behind ∙ sym c.has_counted.ensures.has ∙ seen

pub returns-then-mark-clause-found : goal.returns-then-mark-clause-found
returns-then-mark-clause-found g c =
    let place = (goal.at.returns-then-mark-clause-found g c).After-mark in
    let was = sym c.mark.ensures.before ∙ c.if-mark.true in
    stays g place (c.requires.search.spread c.args.further c.index-node.result.now.pair.b c.requires.row.0 c.requires.row.1 (looks g place).from_1 was)

pub returns-then-has_counted-clause-found : goal.returns-then-has_counted-clause-found
returns-then-has_counted-clause-found g c =
    let place = goal.at.returns-then-has_counted-clause-found g c in
    let held = row_at (drop c.args.near.now.first c.args.m.now.rows) c.args.further in
    stays g place.After-mark (λ n. absurd (both_ways (has held c.index-node.result.now.pair.b) n (has_column g place.After-has_counted (looks g place.After-mark).behind c.if-has_counted.true)))

-- the column that is read is the next one of the row
read_next : (g : given.Over) (c : In-Some g) → slice_get (row_at (drop c.args.near.now.first c.args.m.now.rows) c.args.further) c.loop-column.i ≡ Some c.in-Some.column
read_next g c =
    let first = c.args.near.now.first in
    further_member c.args.m.now.rows first c.args.further (first + c.args.further) c.loop-column.i c.in-Some.column c.requires.row.0 refl c.in-Some.ensures.column

-- a column that is read stands within the row
read_within : (g : given.Over) (c : In-Some g) → c.loop-column.i < length (row_at c.args.m.now.rows (c.args.near.now.first + c.args.further))
read_within g c = slice_get_within (row_at c.args.m.now.rows (c.args.near.now.first + c.args.further)) c.loop-column.i c.in-Some.column c.in-Some.ensures.column

-- where the row has no further column, all of them are read
at_end : (g : given.Over) (c : After-next_counted g) → row_at (drop c.args.near.now.first c.args.m.now.rows) c.args.further ≡ row_at c.args.m.now.rows (c.args.near.now.first + c.args.further)
    → slice_get (row_at c.args.m.now.rows (c.args.near.now.first + c.args.further)) c.loop-column.i ≡ c.next_counted.result → ((d : ℕ) → c.next_counted.result ≡ Some d → ⊥)
    → c.loop-column.i ≡ length (row_at (drop c.args.near.now.first c.args.m.now.rows) c.args.further)
at_end g c behind at none =
    let row = row_at c.args.m.now.rows (c.args.near.now.first + c.args.further) in
    omega (arith, item_end row c.loop-column.i (at ∙ none_of c.next_counted.result none), ap length behind, c.loop-column.invariant.within)

pub loop-column-preserved-then-column-node : goal.loop-column-preserved-then-column-node
loop-column-preserved-then-column-node g c =
    let m = c.args.m.now in
    let first = c.args.near.now.first in
    let node : Node = c.index-node.result.now in
    let k = looks g (goal.at.loop-column-preserved-then-column-node g c).After-mark in
    let at = read_next g (goal.at.loop-column-preserved-then-column-node g c).In-Some in
    record {
      spreading = spreading_turned m.columns (take (first + c.args.marks.now.rows) m.rows) (row_at (drop first m.rows) c.args.further) c.args.forest.now c.loop-column.forest node c.args.from c.loop-column.i c.in-Some.column
          c.loop-column.invariant.spreading k.there at c.if-column-node.true (c.requires.node node k.there).1;
      within = omega (arith, slice_get_within (row_at (drop c.args.near.now.first c.args.m.now.rows) c.args.further) c.loop-column.i c.in-Some.column at);
      ticks = omega (arith, c.in-Some.ensures.ticks);
    }

pub step-requires-clause-from : goal.step-requires-clause-from
step-requires-clause-from g c =
    let m = c.args.m.now in
    let node : Node = c.index-node.result.now in
    let k = looks g (goal.at.step-requires-clause-from g c).After-mark in
    slice_get_within c.loop-column.forest.nodes.items c.args.from node
    (grown_there m.columns (take (c.args.near.now.first + c.args.marks.now.rows) m.rows) c.args.forest.now c.loop-column.forest c.args.from node c.loop-column.invariant.spreading.grown k.there)

pub step-requires-clause-pair : goal.step-requires-clause-pair
step-requires-clause-pair g c =
    let m = c.args.m.now in
    let first = c.args.near.now.first in
    let node : Node = c.index-node.result.now in
    let k = looks g (goal.at.step-requires-clause-pair g c).After-mark in
    let at = read_next g (goal.at.step-requires-clause-pair g c).In-Some in
    let lacks_b = ap (λ (r : List ℕ). has r node.pair.b) k.behind ∙ sym c.has_counted.ensures.has ∙ c.if-has_counted.false in
    let next = next_pair m.columns (take (first + c.args.marks.now.rows) m.rows) (row_at (drop first m.rows) c.args.further) c.args.forest.now c.loop-column.forest node c.args.from c.loop-column.i c.in-Some.column
    c.loop-column.invariant.spreading k.there at c.in-Some.ensures.range (first + c.args.further) (omega (arith, c.requires.row.0)) k.within k.searched k.held lacks_b c.if-column-node.false in
    subst (λ n. IsPair n (pair node.pair.b c.in-Some.column)) (sym c.loop-column.invariant.spreading.grown.is_forest.columns) next

pub returns-in-Some-2-clause-found : goal.returns-in-Some-2-clause-found
returns-in-Some-2-clause-found g c =
    let m = c.args.m.now in
    let first = c.args.near.now.first in
    let node : Node = c.index-node.result.now in
    let k = looks g (goal.at.returns-in-Some-2-clause-found g c).After-mark in
    let at = read_next g (goal.at.returns-in-Some-2-clause-found g c).In-Some in
    let lacks_b = ap (λ (r : List ℕ). has r node.pair.b) k.behind ∙ sym c.has_counted.ensures.has ∙ c.if-has_counted.false in
    let next = crossed m.columns (take (first + c.args.marks.now.rows) m.rows) (row_at (drop first m.rows) c.args.further) c.args.forest.now c.loop-column.forest node c.args.from c.loop-column.i c.in-Some.column
    c.loop-column.invariant.spreading k.there at c.in-Some.ensures.range (first + c.args.further) (omega (arith, c.requires.row.0)) k.within k.searched k.held lacks_b c.if-column-node.false in
    rw c.in-Some-2.is at (c.in_ok-conflict.ensures.stepped m.columns (take (first + c.args.marks.now.rows) m.rows) c.loop-column.invariant.spreading.grown.is_forest (omega (arith, c.loop-column.invariant.spreading.grown.root, c.requires.from.0)) next)

pub loop-column-preserved : goal.loop-column-preserved
loop-column-preserved g c =
    let m = c.args.m.now in
    let first = c.args.near.now.first in
    let node : Node = c.index-node.result.now in
    let k = looks g (goal.at.loop-column-preserved g c).After-mark in
    let at = read_next g (goal.at.loop-column-preserved g c).In-Some in
    let lacks_b = ap (λ (r : List ℕ). has r node.pair.b) k.behind ∙ sym c.has_counted.ensures.has ∙ c.if-has_counted.false in
    let next = crossed m.columns (take (first + c.args.marks.now.rows) m.rows) (row_at (drop first m.rows) c.args.further) c.args.forest.now c.loop-column.forest node c.args.from c.loop-column.i c.in-Some.column
    c.loop-column.invariant.spreading k.there at c.in-Some.ensures.range (first + c.args.further) (omega (arith, c.requires.row.0)) k.within k.searched k.held lacks_b c.if-column-node.false in
    let none = none_of c.in_ok-conflict.field-0 c.in_default-2.not-Some in
    let stepped = rw none at (c.in_ok-conflict.ensures.stepped m.columns (take (first + c.args.marks.now.rows) m.rows) c.loop-column.invariant.spreading.grown.is_forest (omega (arith, c.loop-column.invariant.spreading.grown.root, c.requires.from.0)) next) in
    record {
      spreading = spreading_more m.columns (take (first + c.args.marks.now.rows) m.rows) (row_at (drop first m.rows) c.args.further) c.args.forest.now c.loop-column.forest node c.args.from c.loop-column.i c.in-Some.column
          c.loop-column.invariant.spreading k.there at c.step.new.self stepped;
      within = omega (arith, slice_get_within (row_at (drop c.args.near.now.first c.args.m.now.rows) c.args.further) c.loop-column.i c.in-Some.column at);
      ticks = omega (arith, c.in-Some.ensures.ticks);
    }

pub returns-clause-found : goal.returns-clause-found
returns-clause-found g c =
    let m = c.args.m.now in
    let first = c.args.near.now.first in
    let old = c.args.forest.now in
    let node : Node = c.index-node.result.now in
    let k = looks g (goal.at.returns-clause-found g c).After-mark in
    let held = row_at (drop first m.rows) c.args.further in
    let graph = take (first + c.args.marks.now.rows) m.rows in
    let all = at_end g (goal.at.returns-clause-found g c).After-next_counted k.behind c.next_counted.ensures.column c.in_default.not-Some in
    let spread = subst (IsSpreading m.columns graph held old c.loop-column.forest node) all c.loop-column.invariant.spreading in
    looked m first c.args.marks.now c.mark.new.self old c.loop-column.forest c.args.from c.args.further node c.requires.search k.there c.requires.row.0 c.requires.row.1 c.mark.ensures.after spread.grown
    (λ n. spreading_all m.columns graph held old c.loop-column.forest node spread)

pub returns-then-mark-clause-ticks : goal.returns-then-mark-clause-ticks
returns-then-mark-clause-ticks g c =
    let node : Node = c.index-node.result.now in
    let k = looks g (goal.at.returns-then-mark-clause-ticks g c).After-mark in
    let was = sym c.mark.ensures.before ∙ c.if-mark.true in
    let ones = marked_again (drop c.args.near.now.first c.args.m.now.rows) c.args.marks.now c.mark.new.self c.args.further node.pair.b c.mark.ensures.after c.requires.row.0 c.requires.row.1 k.from_1 k.to_last was in
    omega (arith, ones)

pub returns-then-has_counted-clause-ticks : goal.returns-then-has_counted-clause-ticks
returns-then-has_counted-clause-ticks g c = omega (arith, first_look g (goal.at.returns-then-has_counted-clause-ticks g c).After-mark c.if-mark.false)

pub returns-in_err-conflict-clause-ticks : goal.returns-in_err-conflict-clause-ticks
returns-in_err-conflict-clause-ticks g c =
    let place = goal.at.returns-in_err-conflict-clause-ticks g c in
    omega (arith, first_look g place.After-mark c.if-mark.false, read_within g place.In-Some, c.in-Some.ensures.ticks)

pub returns-in-Some-2-clause-ticks : goal.returns-in-Some-2-clause-ticks
returns-in-Some-2-clause-ticks g c =
    let place = goal.at.returns-in-Some-2-clause-ticks g c in
    omega (arith, first_look g place.After-mark c.if-mark.false, read_within g place.In-Some, c.in-Some.ensures.ticks)

pub returns-clause-ticks : goal.returns-clause-ticks
returns-clause-ticks g c =
    let place = goal.at.returns-clause-ticks g c in
    let k = looks g place.After-mark in
    let all = at_end g place.After-next_counted k.behind c.next_counted.ensures.column c.in_default.not-Some in
    let calm = rw (none_of c.next_counted.result c.in_default.not-Some) at c.next_counted.ensures.ticks in
    omega (arith, first_look g place.After-mark c.if-mark.false, all, calm, ap length k.behind)

-- the node is the one that stands there
the_node : (g : given.Over) (c : After-mark g) → (node : Node) → slice_get c.args.forest.now.nodes.items c.args.from ≡ Some node → c.index-node.result.now ≡ node
the_node g c node e = same_Some c.index-node.result.now node (sym (looks g c).there ∙ e)

pub returns-then-mark-clause-turns : goal.returns-then-mark-clause-turns
returns-then-mark-clause-turns g c = λ _ node e fresh lacks.
    let same = the_node g (goal.at.returns-then-mark-clause-turns g c).After-mark node e in
    let was = subst (λ (n : Node). is_marked c.args.marks.now c.args.further n.pair.b ≡ true) same (sym c.mark.ensures.before ∙ c.if-mark.true) in
    absurd (both_ways (is_marked c.args.marks.now c.args.further node.pair.b) fresh was)

pub returns-then-has_counted-clause-turns : goal.returns-then-has_counted-clause-turns
returns-then-has_counted-clause-turns g c = λ _ node e fresh lacks.
    let place = goal.at.returns-then-has_counted-clause-turns g c in
    let same = the_node g place.After-mark node e in
    let held = row_at (drop c.args.near.now.first c.args.m.now.rows) c.args.further in
    absurd (both_ways (has held node.pair.b) lacks (subst (λ (n : Node). IsTrue (has held n.pair.b)) same (has_column g place.After-has_counted (looks g place.After-mark).behind c.if-has_counted.true)))

pub returns-clause-turns : goal.returns-clause-turns
returns-clause-turns g c = λ _ node e fresh lacks.
    let place = goal.at.returns-clause-turns g c in
    let all = at_end g place.After-next_counted (looks g place.After-mark).behind c.next_counted.ensures.column c.in_default.not-Some in
    let calm = rw (none_of c.next_counted.result c.in_default.not-Some) at c.next_counted.ensures.ticks in
    omega (arith, all, calm, c.loop-column.invariant.ticks)

pub loop-column-smaller : goal.loop-column-smaller
loop-column-smaller g c = omega (arith, read_within g (goal.at.loop-column-smaller g c).In-Some)

pub loop-column-smaller-then-column-node : goal.loop-column-smaller-then-column-node
loop-column-smaller-then-column-node g c = omega (arith, read_within g (goal.at.loop-column-smaller-then-column-node g c).In-Some)

pub overflow_add-row : goal.overflow_add-row
overflow_add-row g c = omega (arith, c.requires.search.few, c.requires.search.small)

pub step-requires-clause-indexed : goal.step-requires-clause-indexed
step-requires-clause-indexed g c = c.loop-column.invariant.spreading.grown.is_forest.indexed

pub loop-column-init : goal.loop-column-init
loop-column-init g c =
    let m = c.args.m.now in
    let first = c.args.near.now.first in
    record {
      spreading = spreading_none m.columns (take (first + c.args.marks.now.rows) m.rows) (row_at (drop first m.rows) c.args.further) c.args.forest.now c.index-node.result.now c.requires.search.is_forest;
      within = omega arith;
      ticks = omega (arith, c.has_counted.ensures.ticks);
    }

pub mark-requires : goal.mark-requires
mark-requires g c =
    let nodes = c.args.forest.now.nodes.items in
    let there : slice_get nodes c.args.from ≡ Some c.index-node.result.now = slice_get_read nodes (length nodes) c.args.from c.index-node.result.now refl c.requires.from.1 c.index-node.ensures in
    let here = (c.requires.search.is_forest.indexed.pairs c.args.from c.index-node.result.now there).0 in
    record { row = c.requires.row; column = (here.b_from, omega (arith, here.b_to, c.requires.search.is_forest.columns, c.requires.search.columns)) }

pub has_counted-requires : goal.has_counted-requires
has_counted-requires g c = (omega arith, omega (arith, c.requires.search.few, c.requires.row.1))

pub returns-then-mark-clause-sizes : goal.returns-then-mark-clause-sizes
returns-then-mark-clause-sizes g c = (c.mark.ensures.after.rows, c.mark.ensures.after.columns)

pub next_counted-requires : goal.next_counted-requires
next_counted-requires g c = (omega arith, omega (arith, c.requires.search.few, c.requires.row.1))

pub returns-then-has_counted-clause-sizes : goal.returns-then-has_counted-clause-sizes
returns-then-has_counted-clause-sizes g c = (c.mark.ensures.after.rows, c.mark.ensures.after.columns)

pub returns-in_err-conflict-clause-sizes : goal.returns-in_err-conflict-clause-sizes
returns-in_err-conflict-clause-sizes g c = (c.mark.ensures.after.rows, c.mark.ensures.after.columns)

pub returns-in_err-conflict-clause-costs : goal.returns-in_err-conflict-clause-costs
returns-in_err-conflict-clause-costs g c = omega (arith, c.loop-column.invariant.ticks, c.in-Some.ensures.ticks)

pub returns-in-Some-2-clause-sizes : goal.returns-in-Some-2-clause-sizes
returns-in-Some-2-clause-sizes g c = (c.mark.ensures.after.rows, c.mark.ensures.after.columns)

pub returns-in-Some-2-clause-costs : goal.returns-in-Some-2-clause-costs
returns-in-Some-2-clause-costs g c = omega (arith, c.loop-column.invariant.ticks, c.in-Some.ensures.ticks)

pub returns-clause-sizes : goal.returns-clause-sizes
returns-clause-sizes g c = (c.mark.ensures.after.rows, c.mark.ensures.after.columns)

pub returns-clause-costs : goal.returns-clause-costs
returns-clause-costs g c =
    omega (arith, c.loop-column.invariant.ticks, rw (none_of c.next_counted.result c.in_default.not-Some) at c.next_counted.ensures.ticks)
