use Rattle.std.proofs.Common.{◌≡◌, ◌<◌, ℕ, ◌+◌, ◌-◌, List, length, take, set, get_or, ap, ◌∙◌, inl, inr, arith}
use Rattle.std.proofs.lemmas.List.{take-set, take_more_set}
use Rattle.row_model.specs.Positions.{position_of}
use Rattle.solve_replies.proofs.Drawn.{run_with, run_without}
use Rattle.solve_replies.proofs.draws.list_run.Goals.{then-first-position+then-position-last, else-first-position, else-first-position-via-then-first-position+else-position-last, else-first-position-via-else-first-position}
use Rattle.solve_replies.proofs.draws.list_run.Goals as goal

-- the place of a column behind so many
place_behind : (n : ℕ) → n ≡ n + 1 - 1
place_behind n = omega arith

pub loop-before-preserved : goal.loop-before-preserved
loop-before-preserved c =
    let ps : List ℕ = c.args.positions.now in
    let n : ℕ = c.loop-before.before in
    let row : List ℕ = c.loop-before.row in
    let k : ℕ = c.loop-before.count in
    let at : get_or ps n 0 ≡ position_of ps (n + 1) = ap (λ i. get_or ps i 0) (place_behind n) in
    let within : k < length row = omega (arith, c.loop-before.invariant.few, c.loop-before-test.true, c.loop-before.auto.row, c.requires.room) in
    elim c.if-first-position.branch [
      | then-first-position+then-position-last w ↦ record {
        few = omega (arith, w.count-is, c.loop-before.invariant.few);
        run = ap (λ i. take i (set row k (n + 1))) w.count-is ∙ take_more_set row k (n + 1) within
            ∙ run_with ps (take k row) c.args.first c.args.last n c.loop-before.invariant.run (omega (arith, at, w.if-first-position.true)) (omega (arith, at, w.if-position-last.true));
      }
      | else-first-position w ↦ record {
        few = omega (arith, w.count-is, c.loop-before.invariant.few);
        run = ap (λ i. take i (set row k (n + 1))) w.count-is ∙ take-set row k (n + 1)
            ∙ run_without ps (take k row) c.args.first c.args.last n c.loop-before.invariant.run (elim w.else-first-position.branch [ else-first-position-via-then-first-position+else-position-last v ↦ inr (omega (arith, at, v.if-position-last.false)) | else-first-position-via-else-first-position v ↦ inl (omega (arith, at, v.if-first-position.false)) ]);
      }
    ]
