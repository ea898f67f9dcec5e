use Rattle.std.proofs.Common.{◌≡◌, ◌∙◌, ◌≤◌, ℕ, length, slice_get, Some, ap, sym, subst, arith}
use Rattle.std.proofs.lemmas.Option.{slice_get_within}
use Rattle.row_model.specs.Graph.{pair, row_at, IsPair}
use Rattle.odd_cycle.specs.Numbers.{place_of}
use Rattle.odd_cycle.proofs.Items.{has_item, item_end, none_of}
use Rattle.pair_classes.proofs.ClassLaws.{IsUniting, uniting_more, uniting_all, row_pair}
use Rattle.pair_classes.proofs.classes.unite_with.Given as given
use Rattle.pair_classes.proofs.classes.unite_with.Goals as goal
use Rattle.pair_classes.proofs.classes.unite_with.Goals.{After-columns-columns, After-next_counted}

-- a column of the row and the one that it lacks are a pair of the columns that were read
paired : (g : given.Over) (c : After-columns-columns g) (i a : ℕ) → slice_get (row_at c.args.m.now.rows c.args.k) i ≡ Some a → (1 ≤ a) × (a ≤ c.args.m.now.columns)
    → IsPair c.columns-columns.result (pair a c.args.d) × IsPair c.columns-columns.result (pair c.args.d a)
paired g c i a at range =
    let row = row_at c.args.m.now.rows c.args.k in
    let back = sym c.columns-columns.ensures.columns in
    let both = row_pair c.args.m.now.columns row a c.args.d range (has_item row i a at) c.requires.column.2 c.requires.column.0 c.requires.column.1 in
    (subst (λ n. IsPair n (pair a c.args.d)) back both.0, subst (λ n. IsPair n (pair c.args.d a)) back both.1)

pub place-requires-clause-pair : goal.place-requires-clause-pair
place-requires-clause-pair g c = (paired g (goal.at.place-requires-clause-pair g c).After-columns-columns 0 c.args.first c.requires.first c.requires.range).0

pub place-requires-in-Some-clause-pair : goal.place-requires-in-Some-clause-pair
place-requires-in-Some-clause-pair g c = (paired g (goal.at.place-requires-in-Some-clause-pair g c).After-columns-columns c.loop-a.i c.in-Some.a c.in-Some.ensures.column c.in-Some.ensures.range).0

pub place-requires-in-Some-2-clause-pair : goal.place-requires-in-Some-2-clause-pair
place-requires-in-Some-2-clause-pair g c = (paired g (goal.at.place-requires-in-Some-2-clause-pair g c).After-columns-columns 0 c.args.first c.requires.first c.requires.range).1

pub place-requires-in-Some-3-clause-pair : goal.place-requires-in-Some-3-clause-pair
place-requires-in-Some-3-clause-pair g c = (paired g (goal.at.place-requires-in-Some-3-clause-pair g c).After-columns-columns c.loop-a.i c.in-Some.a c.in-Some.ensures.column c.in-Some.ensures.range).1

pub loop-a-smaller : goal.loop-a-smaller
loop-a-smaller g c = omega (arith, slice_get_within (row_at c.args.m.now.rows c.args.k) c.loop-a.i c.in-Some.a c.in-Some.ensures.column)

pub loop-a-preserved : goal.loop-a-preserved
loop-a-preserved g c =
    let row = row_at c.args.m.now.rows c.args.k in
    let columns = c.columns-columns.ensures.columns in
    let here : (n : ℕ) (a b : ℕ) → n ≡ place_of c.columns-columns.result (pair a b) → n ≡ place_of c.args.m.now.columns (pair a b) = λ n a b e. e ∙ ap (λ (x : ℕ). place_of x (pair a b)) columns in
    let within = slice_get_within row c.loop-a.i c.in-Some.a c.in-Some.ensures.column in
    record {
      uniting = uniting_more
          c.args.m.now.columns
          row
          c.args.d
          c.args.first
          c.requires.range
          c.requires.column.0
          c.requires.column.1
          c.requires.column.2
          (has_item row 0 c.args.first c.requires.first)
          c.args.parents.now
          c.loop-a.parents
          c.unite.new.parents
          c.unite-in-Some.new.parents
          c.loop-a.i
          c.in-Some.a
          c.place.result
          c.place-in-Some.result
          c.place-in-Some-2.result
          c.place-in-Some-3.result
          c.loop-a.invariant.uniting
          c.in-Some.ensures.column
          c.in-Some.ensures.range
          (here c.place.result c.args.first c.args.d c.place.ensures.place)
          (here c.place-in-Some.result c.in-Some.a c.args.d c.place-in-Some.ensures.place)
          (here c.place-in-Some-2.result c.args.d c.args.first c.place-in-Some-2.ensures.place)
          (here c.place-in-Some-3.result c.args.d c.in-Some.a c.place-in-Some-3.ensures.place)
          c.unite.ensures
          c.unite-in-Some.ensures;
      within = omega (arith, within);
      counted = omega (arith, c.loop-a.invariant.counted, c.in-Some.ensures.ticks);
    }

-- all columns of the row are read
all : (g : given.Over) (c : After-next_counted g) → slice_get (row_at c.args.m.now.rows c.args.k) c.loop-a.i ≡ c.next_counted.result → ((a : ℕ) → c.next_counted.result ≡ Some a → ⊥)
    → c.loop-a.i ≡ length (row_at c.args.m.now.rows c.args.k)
all g c at none =
    let row = row_at c.args.m.now.rows c.args.k in
    omega (arith, item_end row c.loop-a.i (at ∙ none_of c.next_counted.result none), c.loop-a.invariant.within)

pub returns-clause-labels : goal.returns-clause-labels
returns-clause-labels g c =
    let m = c.args.m.now in
    let row = row_at m.rows c.args.k in
    let end = all g (goal.at.returns-clause-labels g c).After-next_counted c.next_counted.ensures.column c.in_default.not-Some in
    uniting_all m.columns row c.args.d c.args.first c.args.parents.now c.loop-a.parents (subst (IsUniting m.columns row c.args.d c.args.first c.args.parents.now c.loop-a.parents) end c.loop-a.invariant.uniting)

pub returns-clause-ticks : goal.returns-clause-ticks
returns-clause-ticks g c =
    let end = all g (goal.at.returns-clause-ticks g c).After-next_counted c.next_counted.ensures.column c.in_default.not-Some in
    let calm = rw (none_of c.next_counted.result c.in_default.not-Some) at c.next_counted.ensures.ticks in
    omega (arith, end, calm, c.loop-a.invariant.counted)
