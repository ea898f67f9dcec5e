use Rattle.std.proofs.Common.{◌≡◌, length, vec_len, refl, arith}
use Rattle.verdict_text.specs.Reading.{order_at}
use Rattle.verdict_text.proofs.read.yes.read_order.Goals as goal

pub returns : goal.returns
unfolding order_at
returns c =
    let count : length c.in_ok-order.order.items ≡ vec_len c.in_ok-order.order = omega (arith, c.in_ok-order.order.ok) in
    rw (c.in_ok-rest.ensures, c.in_ok-order.ensures, c.in_ok-rest-2.ensures, count, ← c.if-is_empty.ensures) refl

pub returns-then-is_empty : goal.returns-then-is_empty
unfolding order_at
returns-then-is_empty c =
    let count : length c.in_ok-order.order.items ≡ vec_len c.in_ok-order.order = omega (arith, c.in_ok-order.order.ok) in
    rw (c.in_ok-rest.ensures, c.in_ok-order.ensures, c.in_ok-rest-2.ensures, count, ← c.if-is_empty.ensures) refl
