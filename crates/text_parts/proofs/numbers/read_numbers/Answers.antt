use Rattle.std.proofs.Common.{◌≡◌, sym, arith, rules, Some, None, [], ◌∷◌}
use Rattle.std.proofs.lemmas.Result.{err_from_is_err_and}
use Rattle.plain_text.specs.Words.{word_at}
use Rattle.text_parts.proofs.NumberLoop.{numbers_step, numbers_stop, numbers_end, number_short, space_short}
use Rattle.text_parts.proofs.LoopLaws.{stops}
use Rattle.text_parts.proofs.numbers.read_numbers.Goals as goal

pub numbers-preserved : goal.numbers-preserved
numbers-preserved c =
    let space : word_at (32 ∷ []) c.numbers.rest.now ≡ Some c.in-Some.space.now = sym c.in-Some.ensures.value in
    numbers_step _ _ _ _ _ _ _ space c.in_ok-n.ensures c.in_ok-push.ensures.items c.numbers.invariant

pub numbers-smaller : goal.numbers-smaller
numbers-smaller c =
    let space : word_at (32 ∷ []) c.numbers.rest.now ≡ Some c.in-Some.space.now = sym c.in-Some.ensures.value in
    let s = space_short c.numbers.rest.now c.in-Some.space.now space in
    let n = number_short c.in-Some.space.now c.in_ok-n.n c.in_ok-n.after.now c.in_ok-n.ensures in
    omega arith

pub returns : goal.returns
returns c =
    let space : word_at (32 ∷ []) c.numbers.rest.now ≡ None = search rules in
    numbers_end _ _ _ space c.numbers.invariant

pub returns-in_err-n : goal.returns-in_err-n
returns-in_err-n c =
    let space : word_at (32 ∷ []) c.numbers.rest.now ≡ Some c.in-Some.space.now = sym c.in-Some.ensures.value in
    let p = err_from_is_err_and c.from_residual.result c.from_residual.ensures.1 in
    rw (p.1, p.2) (stops _ _ _ c.in_err-n.ensures (λ h. numbers_stop _ _ _ _ space h c.numbers.invariant))
