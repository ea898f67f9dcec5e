-- Judgements of rounds, each of which leaves fewer rows.
use Rattle.std.proofs.Common.{◌≡◌, ℕ, ◌+◌, ◌-◌, ◌*◌, ◌<◌, ◌≤◌, arith}
use Rattle.std.proofs.Math.Nat.{mul-le-mul_right, mul_comm}

-- A round costs no more than one for each two of the n rows at first and one more; it leaves k' rows of k.
pub one_round : (asked new first k' n k : ℕ) → k' < k → new ≤ asked + (2 * n + 1) → asked + k * (2 * n + 1) ≤ first + n * (2 * n + 1) → new + k' * (2 * n + 1) ≤ first + n * (2 * n + 1)
one_round asked new first k' n k less round h =
    let times : (k' + 1) * (2 * n + 1) ≤ k * (2 * n + 1) = mul-le-mul_right (2 * n + 1) (omega (arith, less)) in
    omega (arith, times, round, h)

-- the last round
pub last_round : (asked new first k n : ℕ) → new ≤ asked + (2 * n + 1) → asked + k * (2 * n + 1) ≤ first + n * (2 * n + 1) → new ≤ first + (n + 1) * (2 * n + 1)
last_round asked new first k n round h = omega (arith, round, h)

-- with the first judgement, of n rows of which some are left
pub all_rounds : (new old first k n : ℕ) → k ≤ n → old ≤ first + 1 → new ≤ old + (k + 1) * (2 * k + 1) → new ≤ first + ((n + 1) * (2 * n + 1) + 1)
all_rounds new old first k n few one h =
    let times : (k + 1) * (2 * k + 1) ≤ (n + 1) * (2 * k + 1) = mul-le-mul_right (2 * k + 1) (omega (arith, few)) in
    let more : (2 * k + 1) * (n + 1) ≤ (2 * n + 1) * (n + 1) = mul-le-mul_right (n + 1) (omega (arith, few)) in
    omega (arith, times, more, mul_comm (n + 1) (2 * k + 1), mul_comm (n + 1) (2 * n + 1), one, h)

-- At most so many judgements, of r rows with u untried that are left of R with U untried at first. All k judgements before found a row that is
-- needed, but for one at most.
pub tried_all : (k u r R U : ℕ) → k + (R - U) ≤ r - u + 1 → r ≤ R → U ≤ R → k ≤ U + 1
tried_all k u r R U so_far few untried = omega arith

pub tried_one : (k u r R U : ℕ) → k + (R - U) ≤ r - u → 0 < u → r ≤ R → U ≤ R → k + 1 ≤ U + 1
tried_one k u r R U so_far some few untried = omega arith

-- and with each of l rows left out once more
pub round_fails : (k u r R U : ℕ) → k + (R - U) ≤ r - u → u ≤ r → r ≤ R → U ≤ R → k + (u + 1) ≤ R + U + 1
round_fails k u r R U so_far left few untried = omega arith

pub round_ends : (k j l u r R U : ℕ) → k + (R - U) ≤ r - u → j + (r - u) ≤ l + 1 → l ≤ r → u ≤ r → r ≤ R → U ≤ R → k + j + l ≤ R + U + 1
round_ends k j l u r R U so_far round fewer left few untried = omega arith

-- with the first judgement, of n rows of which r are left
pub rows_twice : (r u n : ℕ) → 1 ≤ n → r ≤ n → u ≡ r - 0 - 1 → 1 + (r + u + 1) ≤ 2 * n + 1
rows_twice r u n some few untried = omega arith
