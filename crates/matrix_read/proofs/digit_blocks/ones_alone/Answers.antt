use Rattle.std.proofs.Common.{◌≡◌, ◌∙◌, ◌+◌, ◌++◌, ◌==◌, [], List, ℕ, drop, take, sym, ap, arith, append_assoc}
use Rattle.std.proofs.Math.ListN.{drop_of_length-le}
use Rattle.std.proofs.lemmas.List.{append-nil}
use Rattle.std.proofs.lemmas.Grind.{common_steps}
use Rattle.matrix_read.specs.BitPlaces.{bit_places}
use Rattle.matrix_read.proofs.PlaceLemmas.{places_columns}
use Rattle.matrix_read.proofs.DenseLemmas.{ones_from}
use Rattle.matrix_read.proofs.BitPlaceLemmas.{digits_behind, ones_behind}
use Rattle.matrix_read.proofs.digit_blocks.ones_alone.Goals as goal

pub loop-at-preserved : goal.loop-at-preserved
loop-at-preserved c =
    let line : List ℕ = c.args.line.now in
    let at : ℕ = c.loop-at.at in
    let before = c.loop-at.invariant in
    let written : List ℕ = take c.loop-at.ones c.loop-at.columns in
    let rest : List ℕ = ones_from (at + 64 + 1) (drop (at + 64) line) in
    record {
      within = omega arith;
      few = omega (arith, c.put_ones-ones.ensures.within);
      digits = digits_behind line at (omega arith) c.in_ok-mask.ensures.digits ∙ before.digits;
      so_far =
          ap (λ l. l ++ rest) c.put_ones-ones.ensures.columns
          ∙ append_assoc written (bit_places 64 (at + 1) c.in_ok-mask.mask) rest
          ∙ ap (λ mask. written ++ (bit_places 64 (at + 1) mask ++ rest)) c.in_ok-mask.ensures.mask
          ∙ ap (λ l. written ++ l) (sym (ones_behind line at (omega arith)))
          ∙ before.so_far;
    }

pub loop-j-init : goal.loop-j-init
loop-j-init c = record { few = c.loop-at.invariant.few; digits = c.loop-at.invariant.digits; so_far = c.loop-at.invariant.so_far }

pub loop-j-preserved : goal.loop-j-preserved
loop-j-preserved c = record { few = omega arith; digits = grind (arith, common_steps); so_far = grind (arith, common_steps) }

pub returns-clause-columns : goal.returns-clause-columns
returns-clause-columns c =
    let line : List ℕ = c.args.line.now in
    let none : drop c.loop-j.j line ≡ [] = drop_of_length-le line (omega arith) in
    sym (append-nil (take c.loop-j.ones c.loop-j.columns))
    ∙ ap (λ (rest : List ℕ). take c.loop-j.ones c.loop-j.columns ++ ones_from (c.loop-j.j + 1) rest) (sym none)
    ∙ c.loop-j.invariant.so_far
    ∙ places_columns (λ digit. digit == 49) 0 line
