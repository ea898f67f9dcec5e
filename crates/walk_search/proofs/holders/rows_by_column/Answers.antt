use Rattle.std.proofs.Common.{◌≡◌, ◌∙◌, ◌+◌, ◌∷◌, ◌++◌, [], ℕ, List, Vec, Global, drop, length, replicate, slice_get, Some, refl, ap, subst, arith, take, sum_by}
use Rattle.std.proofs.lemmas.Grind.{common_steps}
use Rattle.std.proofs.lemmas.List.{length-map, map-append, replicate_more}
use Rattle.std.proofs.lemmas.Option.{slice_get_within}
use Rattle.row_model.specs.Graph.{row_at}
use Rattle.walk_search.specs.Holders.{without, AreHolders}
use Rattle.walk_search.proofs.HolderLaws.{lists_of, HoldersSoFar, holders_none, holders_begin, holders_end, holders_more, further_same, further_member, further_there, ones_part}
use Rattle.odd_cycle.proofs.Items.{item_end, none_of}
use Rattle.odd_cycle.proofs.RowOnes.{ones_more}
use Rattle.walk_search.proofs.holders.rows_by_column.Goals as goal
use Rattle.std.proofs.lemmas.Result.{IfOk-from_err}

pub loop-preserved : goal.loop-preserved
loop-preserved g c =
    let none : List ℕ = [] in
    let pushed = map-append (λ (list : Vec ℕ Global). list.items) c.loop.holders.items (c.new.result ∷ []) in
    record {
      lists = ap lists_of c.in_ok-push.ensures.items ∙ pushed ∙ ap (λ (ls : List (List ℕ)). ls ++ c.new.result.items ∷ []) c.loop.invariant.lists
          ∙ ap (λ (x : List ℕ). replicate c.loop.counter none ++ x ∷ []) c.new.ensures.items ∙ replicate_more c.loop.counter none;
      counted = omega arith;
    }

pub loop-k-init : goal.loop-k-init
loop-k-init g c =
    let none : List ℕ = [] in
    let all : c.loop.counter ≡ c.args.m.now.columns = omega (arith, c.loop.auto.counter-end, c.loop-test.false, c.columns-end.ensures.columns) in
    record {
      holders = holders_none (without c.args.first c.args.m.now) (lists_of c.loop.holders.items) (c.loop.invariant.lists ∙ ap (λ n. replicate n none) all);
      counted = omega arith;
    }

pub loop-column-init : goal.loop-column-init
loop-column-init g c =
    let held = row_at (drop c.args.first c.args.m.now.rows) (c.loop-k.k + 1) in
    record { holders = holders_begin (without c.args.first c.args.m.now) c.loop-k.k held (lists_of c.loop-k.holders.items) c.loop-k.invariant.holders; within = omega arith; counted = omega arith }

pub add_holder-requires : goal.add_holder-requires
add_holder-requires g c =
    let range = c.in-Some.ensures.range in
    (range.0, omega (arith, range.1, c.loop-column.invariant.holders.columns, length-map c.loop-column.holders.items (λ list. list.items)))

pub loop-column-preserved : goal.loop-column-preserved
loop-column-preserved g c =
    let rows = c.args.m.now.rows in
    let held = row_at (drop c.args.first rows) (c.loop-k.k + 1) in
    let column = c.in-Some.column in
    let range = c.in-Some.ensures.range in
    let at : slice_get held c.loop-column.i ≡ Some column = further_member rows c.args.first (c.loop-k.k + 1) (c.args.first + c.loop-k.k + 1) c.loop-column.i column (omega arith) (omega arith) c.in-Some.ensures.column in
    record {
      holders = holders_more
          (without c.args.first c.args.m.now)
          c.loop-k.k
          held
          c.loop-column.i
          (lists_of c.loop-column.holders.items)
          (lists_of c.add_holder.new.holders.items)
          column
          refl
          c.loop-column.invariant.holders
          at
          range.0
          (omega (arith, range.1, c.loop-column.invariant.holders.columns))
          c.in_ok-add_holder.ensures;
      within = omega (arith, slice_get_within held c.loop-column.i column at);
      counted = omega (arith, c.in-Some.ensures.ticks);
    }

pub loop-column-smaller : goal.loop-column-smaller
loop-column-smaller g c = omega (arith, slice_get_within (row_at c.args.m.now.rows (c.args.first + c.loop-k.k + 1)) c.loop-column.i c.in-Some.column c.in-Some.ensures.column)

pub loop-k-preserved : goal.loop-k-preserved
loop-k-preserved g c =
    let rows = c.args.m.now.rows in
    let held = row_at (drop c.args.first rows) (c.loop-k.k + 1) in
    let row = row_at rows (c.args.first + c.loop-k.k + 1) in
    let none = none_of c.next_counted.result c.in_default.not-Some in
    let same : held ≡ row = further_same rows c.args.first (c.loop-k.k + 1) (c.args.first + c.loop-k.k + 1) (omega arith) (omega arith) in
    let end : c.loop-column.i ≡ length held = omega (arith, item_end row c.loop-column.i (c.next_counted.ensures.column ∙ none), ap length same, c.loop-column.invariant.within) in
    let calm = rw none at c.next_counted.ensures.ticks in
    let ones = ones_more (drop c.args.first rows) c.loop-k.k held (further_there rows c.args.first c.loop-k.k (omega arith)) in
    record { holders = holders_end (without c.args.first c.args.m.now) c.loop-k.k held (lists_of c.loop-column.holders.items) refl ones (subst (λ n. HoldersSoFar (without c.args.first c.args.m.now) c.loop-k.k held n (lists_of c.loop-column.holders.items)) end c.loop-column.invariant.holders); counted = omega (arith, ones, end, calm, c.loop-k.invariant.counted, c.loop-column.invariant.counted) }

pub returns-in_err-add_holder-clause-ticks : goal.returns-in_err-add_holder-clause-ticks
returns-in_err-add_holder-clause-ticks g c =
    let rows = c.args.m.now.rows in
    let held = row_at (drop c.args.first rows) (c.loop-k.k + 1) in
    let row = row_at rows (c.args.first + c.loop-k.k + 1) in
    let same : held ≡ row = further_same rows c.args.first (c.loop-k.k + 1) (c.args.first + c.loop-k.k + 1) (omega arith) (omega arith) in
    let within = slice_get_within row c.loop-column.i c.in-Some.column c.in-Some.ensures.column in
    let more = ones_more (drop c.args.first rows) c.loop-k.k held (further_there rows c.args.first c.loop-k.k (omega arith)) in
    let all = ones_part (drop c.args.first rows) (c.loop-k.k + 1) c.args.rows (omega arith) in
    omega (arith, within, ap length same, more, all, c.loop-k.invariant.counted, c.loop-column.invariant.counted, c.in-Some.ensures.ticks)

pub loop-init : goal.loop-init
loop-init g c = record { lists = ap lists_of c.new-holders.ensures.items; counted = omega arith }

pub next_counted-requires : goal.next_counted-requires
next_counted-requires g c = (omega arith, omega (arith, c.loop-k-test.true, c.requires))

pub returns-in_err-push : goal.returns-in_err-push
returns-in_err-push g c =
    let none = c.from_residual.ensures.0 in
    record { ticks = omega (arith, c.loop.invariant.counted, c.tick.ensures, c.loop-test.true, c.columns-end.ensures.columns); holders = IfOk-from_err c.from_residual.result _ none; turns = IfOk-from_err c.from_residual.result _ none }

-- all columns and all rows were gone through
pub returns : goal.returns
returns g c =
    let same : c.loop-k.k ≡ c.args.rows = omega (arith, c.loop-k-test.false, c.loop-k.auto.k-end) in
    let ones = ap (λ n. sum_by length (take n (drop c.args.first c.args.m.now.rows))) same in
    let all : c.loop.counter ≡ c.args.m.now.columns = omega (arith, c.loop.auto.counter-end, c.loop-test.false, c.columns-end.ensures.columns) in
    record {
      turns = omega (arith, c.loop.invariant.counted, c.loop-k.invariant.counted, ones, all);
      ticks = omega (arith, c.loop.invariant.counted, c.loop-k.invariant.counted, ones, all);
      holders = subst (λ n. AreHolders (without c.args.first c.args.m.now) n (lists_of c.loop-k.holders.items)) same c.loop-k.invariant.holders;
    }

pub overflow_add-i : goal.overflow_add-i
overflow_add-i g c = grind (arith, common_steps)
