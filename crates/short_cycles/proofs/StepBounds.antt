-- The steps of an attempt, of a search after it, and of one for a shorter cycle.
use Rattle.std.proofs.Common.{◌≡◌, ℕ, ◌+◌, ◌-◌, ◌*◌, ◌≤◌, List, length, take, sum_by, subst, arith}
use Rattle.std.proofs.lemmas.List.Sums.{sum_by-take-le}
use Rattle.std.proofs.lemmas.List.{take-take}
use Rattle.std.proofs.lemmas.Nat.{mul-le}

-- the rows before a row have no more ones than those with it
fewer_ones : (rows : List (List ℕ)) (k : ℕ) → sum_by length (take (k - 1) rows) ≤ sum_by length (take k rows)
fewer_ones rows k =
    subst (λ (front : List (List ℕ)). sum_by length front ≤ sum_by length (take k rows)) (take-take (k - 1) k rows (omega arith)) (sum_by-take-le length (take k rows) (k - 1))

spent : (c ones first before gapped tried after : ℕ) → 2 ≤ c → gapped ≤ before + first → tried ≤ gapped + (2 * (c * (ones + 1)) - c) → after + first ≤ tried + 2 * c * (ones + 1) + 1 → after + 1 ≤ before + 4 * c * (ones + 1)
spent c ones first before gapped tried after some g t a =
    let bound1 : c * (ones + 1) ≡ c * ones + c = grind arith in
    let bound2 : 2 * c * (ones + 1) ≡ 2 * (c * ones) + 2 * c = grind arith in
    let bound4 : 4 * c * (ones + 1) ≡ 4 * (c * ones) + 4 * c = grind arith in
    omega (arith, some, g, t, a, bound1, bound2, bound4)

stopped : (c ones first before after : ℕ) → 1 ≤ c → first ≤ ones → after ≤ before + first + (2 * (c * (ones + 1)) - c) → after + 1 ≤ before + 4 * c * (ones + 1)
stopped c ones first before after some fewer a =
    let once : 1 * (ones + 1) ≤ c * (ones + 1) = mul-le 1 (ones + 1) c (ones + 1) some (omega arith) in
    let bound1 : c * (ones + 1) ≡ c * ones + c = grind arith in
    let bound4 : 4 * c * (ones + 1) ≡ 4 * (c * ones) + 4 * c = grind arith in
    omega (arith, fewer, a, once, bound1, bound4)

-- a step for each one of the first rows, then an attempt, then a search
pub along_bound : (rows : List (List ℕ)) (c k most before gapped tried after : ℕ) → 2 ≤ c → most ≤ c * (sum_by length (take k rows) + 1) → gapped ≤ before + sum_by length (take (k - 1) rows) → tried ≤ gapped + (2 * most - c) →
    after + sum_by length (take (k - 1) rows) ≤ tried + 2 * c * (sum_by length (take k rows) + 1) + 1 → after + 1 ≤ before + 4 * c * (sum_by length (take k rows) + 1)
along_bound rows c k most before gapped tried after some few g t a = spent c (sum_by length (take k rows)) (sum_by length (take (k - 1) rows)) before gapped tried after some g (omega (arith, t, few)) a

-- without the search
pub tried_bound : (rows : List (List ℕ)) (c k most before gapped after : ℕ) → 1 ≤ c → 1 ≤ k → most ≤ c * (sum_by length (take k rows) + 1) → gapped ≤ before + sum_by length (take (k - 1) rows) → after ≤ gapped + (2 * most - c) →
    after + 1 ≤ before + 4 * c * (sum_by length (take k rows) + 1)
tried_bound rows c k most before gapped after some from few g a =
    stopped c (sum_by length (take k rows)) (sum_by length (take (k - 1) rows)) before after some (fewer_ones rows k) (omega (arith, g, a, few))

-- and as much again for a shorter cycle
pub twice_bound : (c ones before found most after : ℕ) → found ≤ before + 4 * c * (ones + 1) → most ≤ c * (ones + 1) → after ≤ found + 4 * most → after ≤ before + 8 * c * (ones + 1)
twice_bound c ones before found most after f m a =
    let bound1 : c * (ones + 1) ≡ c * ones + c = grind arith in
    let bound4 : 4 * c * (ones + 1) ≡ 4 * (c * ones) + 4 * c = grind arith in
    let bound8 : 8 * c * (ones + 1) ≡ 8 * (c * ones) + 8 * c = grind arith in
    omega (arith, f, m, a, bound1, bound4, bound8)
