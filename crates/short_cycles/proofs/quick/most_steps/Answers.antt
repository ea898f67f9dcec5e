use Rattle.std.proofs.Common.{◌≡◌, ◌*◌, ◌+◌, ◌≤◌, ap, length, take, sum_by, arith}
use Rattle.std.proofs.lemmas.Nat.{mul-le}
use Rattle.short_cycles.proofs.quick.most_steps.Goals as goal

pub returns-clause-ones : goal.returns-clause-ones
returns-clause-ones g c =
    let ones = sum_by length (take c.args.k c.args.m.now.rows) in
    let more = c.saturating_add.result in
    let each : c.from-each.result ≡ c.args.m.now.columns = omega (arith, c.from-each.ensures, c.columns.ensures.columns) in
    let product : c.saturating_mul.result ≤ c.from-each.result * more = omega (arith, c.saturating_mul.ensures) in
    let same : c.from-each.result * more ≡ c.args.m.now.columns * more = ap (λ n. n * more) each in
    let fewer : more ≤ ones + 1 = omega (arith, c.saturating_add.ensures, c.ones_counted-ones.ensures.ones) in
    let few : c.args.m.now.columns * more ≤ c.args.m.now.columns * (ones + 1) = mul-le c.args.m.now.columns more c.args.m.now.columns (ones + 1) (omega arith) fewer in
    omega (arith, c.min.ensures, product, same, few)
