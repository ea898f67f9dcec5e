-- Plain numbers at the front of bytes: decimal digits without leading zeros, 0 as a single `0`.
use Rattle.std.specs.Prelude.{◌≡◌, false, ℕ, ◌+◌, ◌-◌, ◌*◌, ◌==◌, List, [], ◌∷◌, if◌then◌else◌, nat_le, Option, Some, None}
use Rattle.std.specs.Char.{is_ascii_digit}

-- the number that digits at the front go on with, and the bytes after them; none where it passes the limit
abbrev pub digits_on : ℕ → ℕ → List ℕ → Option (ℕ × List ℕ)
digits_on limit n [] = Some (n, [])
digits_on limit n (b ∷ bytes) =
    if is_ascii_digit b then (if nat_le (n * 10 + (b - 48)) limit then digits_on limit (n * 10 + (b - 48)) bytes else None)
    else Some (n, b ∷ bytes)

-- the plain number at the front, at most a limit, and the bytes after it
unfoldable pub number_at : ℕ → List ℕ → Option (ℕ × List ℕ)
number_at limit [] = None
number_at limit (b ∷ bytes) =
    if b == 48 then Some (0, bytes)
    else if is_ascii_digit b then (if nat_le (b - 48) limit then digits_on limit (b - 48) bytes else None)
    else None

-- no digit stands at the front
abbrev pub NoDigitFirst : List ℕ → Type 0
NoDigitFirst [] = Unit {0}
NoDigitFirst (b ∷ bytes) = is_ascii_digit b ≡ false
