use Rattle.std.proofs.Common.{◌≡◌, ◌∙◌, ℕ, ◌-◌, ◌<◌, ◌≤◌, List, length, slice_index, slice_index_or, ap, sym, subst, arith, below_more}
use Rattle.std.specs.Prelude.{All}
use Rattle.std.proofs.lemmas.List.{get_or_default}
use Rattle.std.proofs.lemmas.List.Sums.{sum_by-take-le, sum_by_more_le}
use Rattle.bound_tree.specs.declared.stretch.Stretch.{Stretch}
use Rattle.bound_tree.specs.Stretches.{stretch}
use Rattle.bound_tree.specs.Sides.{IsFreeFrom, IsPassed}
use Rattle.bound_tree.proofs.Looks.{looks_before, looks_next}
use Rattle.bound_tree.proofs.Loops.{refuted}
use Rattle.bound_tree.proofs.Passing.{passed_later, skips_more, skips_none, down_none}
use Rattle.bound_tree.proofs.free.are_free_from.Goals as goal

pub loop-stretch-init : goal.loop-stretch-init
loop-stretch-init g c =
    let long : length c.as_mut_slice-before.result.now ≡ c.columns.result = ap (λ (l : List ℕ). length l) c.as_mut_slice-before.ensures.value ∙ c.in_ok-table.ensures.0 in
    let each : (i : ℕ) → i < c.columns.result → slice_index c.as_mut_slice-before.result.now i ≡ i - 1 =
    subst (λ (l : List ℕ). (i : ℕ) → i < c.columns.result → slice_index l i ≡ i - 1) (sym c.as_mut_slice-before.ensures.value) c.in_ok-table.ensures.1 in
    record {
      long = long ∙ c.columns.ensures.columns;
      down = down_none c.as_mut_slice-before.result.now c.columns.result long each;
      free = λ rows are k d l. absurd (omega arith);
      skips = λ rows are k d l u.
          skips_none (IsPassed c.args.side rows c.args.gaps.now.order (slice_index_or c.args.stretches.now k d).at) c.as_mut_slice-before.result.now c.columns.result long each;
      ticks = omega arith;
    }

pub returns-then-not-is_free_from-clause-free : goal.returns-then-not-is_free_from-clause-free
returns-then-not-is_free_from-clause-free g c =
    λ rows are.
    let o = c.args.gaps.now.order in
    let i : ℕ = c.loop-stretch.stretch-index in
    refuted c.is_free_from.result (IsFreeFrom c.args.side rows o (slice_index_or c.args.stretches.now i (stretch 0 0 0))) (All (IsFreeFrom c.args.side rows o) c.args.stretches.now)
    c.if-not-is_free_from.true (c.is_free_from.ensures.free rows are (c.loop-stretch.invariant.skips rows are i (stretch 0 0 0) (omega arith) c.loop-stretch-test.true))
    (λ all. all i (stretch 0 0 0) c.loop-stretch-test.true)

pub returns-then-not-is_free_from-clause-ticks : goal.returns-then-not-is_free_from-clause-ticks
returns-then-not-is_free_from-clause-ticks g c =
    omega (arith, c.loop-stretch.invariant.ticks, c.is_free_from.ensures.ticks, sum_by_more_le looks_before c.args.stretches.now c.loop-stretch.stretch-index (stretch 0 0 0) c.loop-stretch-test.true)

pub returns-clause-ticks : goal.returns-clause-ticks
returns-clause-ticks g c = omega (arith, c.loop-stretch.invariant.ticks, sum_by-take-le looks_before c.args.stretches.now c.loop-stretch.stretch-index)

pub loop-stretch-preserved : goal.loop-stretch-preserved
loop-stretch-preserved g c =
    let o = c.args.gaps.now.order in
    let side = c.args.side in
    let xs = c.args.stretches.now in
    let i : ℕ = c.loop-stretch.stretch-index in
    let z : Stretch = stretch 0 0 0 in
    let here : Stretch = slice_index_or xs i z in
    record {
      long = c.is_free_from.ensures.table.0;
      down = c.is_free_from.ensures.table.1;
      free = λ rows are k d l.
          below_more (λ j. IsFreeFrom side rows o (slice_index_or xs j d)) i (λ j u. c.loop-stretch.invariant.free rows are j d u)
          (subst (IsFreeFrom side rows o) (get_or_default xs i z d c.loop-stretch-test.true)
          ((c.is_free_from.ensures.free rows are (c.loop-stretch.invariant.skips rows are i z (omega arith) c.loop-stretch-test.true)).0 c.if-not-is_free_from.false)) k l;
      skips = λ rows are k d l u.
          let there : Stretch = slice_index_or xs k d in
          let later : here.at ≤ there.at = omega (arith, c.requires.rising i k z (omega arith) u, ap (λ (s : Stretch). s.at) (get_or_default xs k z d u)) in
          let round = c.requires.round k d u in
          skips_more (IsPassed side rows o here.at) (IsPassed side rows o there.at) c.is_free_from.new.before
          (λ p h. passed_later rows o c.args.gaps.now.gaps are side here.at there.at p later (omega (arith, round.behind, round.inside)) h)
          (c.is_free_from.ensures.skips rows are (c.loop-stretch.invariant.skips rows are i z (omega arith) c.loop-stretch-test.true));
      ticks = omega (arith, c.loop-stretch.invariant.ticks, c.is_free_from.ensures.ticks, looks_next xs i z c.loop-stretch-test.true);
    }
