use Rattle.std.proofs.Common.{◌≡◌, ℕ, get_or, None, false, refl, rules, arith, ap, sym, ◌∙◌, replicate, ◌+◌}
use Rattle.std.specs.Prelude.{option_and_then}
use Rattle.std.proofs.lemmas.Grind.{common_steps}
use Rattle.std.proofs.lemmas.Result.{IfOk-weaker}
use Rattle.pq_tree.specs.Reading.{step, finished, settled}
use Rattle.pq_tree.specs.Seen.{IsMoved, seen}
use Rattle.pq_tree.proofs.Runs.{run_byte, run_stopped, run_ended, run_start, moved, not_moved, kept_start, seen_start}
use Rattle.pq_tree.proofs.parse.tree_of.Goals as goal

pub loop-byte-preserved : goal.loop-byte-preserved
loop-byte-preserved c =
    let a = c.loop-byte.parser in
    let b : ℕ = get_or c.args.bytes.now c.loop-byte.byte-index 0 in
    let m : IsMoved a c.take.new.self (step a.columns (seen a) b) = moved c.in_ok-take.field-0 _ _ _ c.in_ok-take.ensures (search rules) in
    record {
      kept = m.kept;
      columns = m.columns ∙ c.loop-byte.invariant.columns;
      runs =
          run_byte c.args.c c.loop-byte.byte-index c.args.bytes.now (seen a) (seen c.take.new.self) _ c.loop-byte-test.true c.loop-byte.invariant.runs
          (ap (λ k. step k (seen a) b) (sym c.loop-byte.invariant.columns) ∙ m.seen_is);
    }

pub returns-then-not-branch : goal.returns-then-not-branch
returns-then-not-branch c =
    let a = c.loop-byte.parser in
    let b : ℕ = get_or c.args.bytes.now c.loop-byte.byte-index 0 in
    let m : step a.columns (seen a) b ≡ None = not_moved c.in_ok-take.field-0 _ _ _ c.in_ok-take.ensures (search rules) in
    run_stopped c.args.c c.loop-byte.byte-index c.args.bytes.now (seen a) _ c.loop-byte-test.true c.loop-byte.invariant.runs
    (ap (λ k. step k (seen a) b) (sym c.loop-byte.invariant.columns) ∙ m)

pub returns : goal.returns
returns c =
    let a = c.loop-byte.parser in
    IfOk-weaker c.finish.result _ _ (λ o e. e ∙ ap (λ k. option_and_then (finished k) (settled (seen a))) c.loop-byte.invariant.columns
    ∙ run_ended c.args.c c.loop-byte.byte-index c.args.bytes.now (seen a) _ c.loop-byte-test.false c.loop-byte.invariant.runs) c.finish.ensures

pub loop-byte-init : goal.loop-byte-init
loop-byte-init c =
    let marks : c.in_ok-vec.field-0.items ≡ replicate (c.args.c + 1) false = grind (arith, common_steps) in
    record {
      kept = kept_start _ c.requires refl c.new.ensures.items c.new-2.ensures.items marks;
      columns = refl;
      runs = run_start c.args.c c.args.bytes.now _ (seen_start _ refl c.new.ensures.items c.new-2.ensures.items);
    }
