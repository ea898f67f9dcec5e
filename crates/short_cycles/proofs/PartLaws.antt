-- What the rows of a part cost.
use Rattle.std.proofs.Common.{◌≡◌, ℕ, ◌+◌, ◌*◌, ◌≤◌, arith}

-- one row more that is paid for
pub row_paid : (rows columns begun before after : ℕ) → begun + rows * columns ≤ before → before + columns ≤ after → begun + (rows + 1) * columns ≤ after
row_paid rows columns begun before after paid row =
    let more : (rows + 1) * columns ≡ rows * columns + columns = grind arith in
    omega (arith, paid, row, more)
