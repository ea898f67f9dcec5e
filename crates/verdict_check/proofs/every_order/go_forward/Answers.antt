use Rattle.std.proofs.Common.{ℕ, ◌-◌, ◌<◌, ◌≤◌, arith}
use Rattle.verdict_check.specs.Complete.{pair_at}
use Rattle.verdict_check.proofs.Looks.{looks_more, looks_fail, looks_all}
use Rattle.verdict_check.proofs.every_order.go_forward.Goals as goal

pub returns-then-not-goes_forward : goal.returns-then-not-goes_forward
returns-then-not-goes_forward c =
    looks_fail c.args.classes.now (λ R x. (y : ℕ) → c.args.next ≤ y → y < c.args.end → R (pair_at c.args.line.now c.args.start (c.args.end - 1)) (pair_at c.args.line.now x y)) c.args.at c.loop-x.x c.goes_forward.result c.args.next
    (omega arith) (omega arith) c.goes_forward.ensures c.if-not-goes_forward.true

pub loop-x-preserved : goal.loop-x-preserved
loop-x-preserved c =
    looks_more c.args.classes.now (λ R x. (y : ℕ) → c.args.next ≤ y → y < c.args.end → R (pair_at c.args.line.now c.args.start (c.args.end - 1)) (pair_at c.args.line.now x y)) c.args.at c.loop-x.x c.goes_forward.result
    c.loop-x.invariant c.goes_forward.ensures c.if-not-goes_forward.false

pub returns : goal.returns
returns c =
    looks_all c.args.classes.now (λ R x. (y : ℕ) → c.args.next ≤ y → y < c.args.end → R (pair_at c.args.line.now c.args.start (c.args.end - 1)) (pair_at c.args.line.now x y)) c.args.at c.loop-x.x c.args.next c.loop-x-test.false
    c.loop-x.invariant
