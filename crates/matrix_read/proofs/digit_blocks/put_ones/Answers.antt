use Rattle.std.proofs.Common.{◌≡◌, ◌∙◌, ◌+◌, ◌-◌, ◌*◌, ◌++◌, ℕ, take, ap, sym, arith}
use Rattle.std.proofs.lemmas.List.{append-nil}
use Rattle.matrix_read.specs.BitPlaces.{bit_places}
use Rattle.matrix_read.proofs.BitPlaceLemmas.{byte_put, no_bits}
use Rattle.matrix_read.proofs.digit_blocks.put_ones.Goals as goal

pub loop-k-init : goal.loop-k-init
loop-k-init c =
    let place : c.args.first + 8 * 0 ≡ c.args.first = omega arith in record {
      few = omega arith;
      so_far = ap (λ p. take c.args.count c.args.columns.now ++ bit_places 64 p c.args.mask) place;
    }

pub loop-k-preserved : goal.loop-k-preserved
loop-k-preserved c =
    let k : ℕ = c.loop-k.k in record {
      few = omega (arith, c.put-ones.ensures.within, c.loop-k.invariant.few);
      so_far =
          byte_put _ (take c.loop-k.ones c.loop-k.columns) _ (64 - 8 * k) (64 - 8 * (k + 1)) (c.args.first + 8 * k) (c.args.first + 8 * (k + 1)) c.loop-k.rest
          (omega arith) (omega arith) c.loop-k.invariant.so_far c.put-ones.ensures.columns;
    }

pub returns-clause-columns : goal.returns-clause-columns
returns-clause-columns c =
    let done : 64 - 8 * c.loop-k.k ≡ 0 = omega arith in
    sym (append-nil (take c.loop-k.ones c.loop-k.columns))
    ∙ ap (λ rest. take c.loop-k.ones c.loop-k.columns ++ rest) (sym (ap (λ n. bit_places n (c.args.first + 8 * c.loop-k.k) c.loop-k.rest) done ∙ no_bits (c.args.first + 8 * c.loop-k.k) c.loop-k.rest))
    ∙ c.loop-k.invariant.so_far
