-- Marks in a block of a text, which tell where digits end.
use Rattle.std.specs.Prelude.{◌≡◌, ◌+◌, ◌<◌, ◌≤◌, ℕ, List, true, length, slice_index, slice_range}
use Rattle.std.specs.Char.{is_ascii_digit}
use Rattle.std.specs.Int.{bit_at}
use Rattle.std.specs.List.{list_all}
use Rattle.text_lines.specs.Words.{number_after}

-- which bits are marks of a text from a place on, in the block that begins at another place: each is at a byte from there
-- on, with three bytes behind it or more, and the bytes without a mark before one that has one are digits
pub record AreDigitEnds (text : List ℕ) (at block marks : ℕ) : Type 0 where
  pub begun : block ≤ at
  pub ahead : (k : ℕ) → bit_at marks k ≡ 1 → (at ≤ block + k) × (block + k + 4 ≤ length text)
  pub digits : (i k : ℕ) → i < k → bit_at marks k ≡ 1 → bit_at marks i ≡ 0 → at ≤ block + i → is_ascii_digit (slice_index text (block + i)) ≡ true

-- the digits of a text from a place to another write this number, and these are marks from behind the byte at their end
pub record AreNextDigits (text : List ℕ) (at number end block marks : ℕ) : Type 0 where
  pub range : (at ≤ end) × (end ≤ length text)
  pub digits : list_all is_ascii_digit (slice_range text at end) ≡ true
  pub value : number ≡ number_after 0 (slice_range text at end)
  pub ends : AreDigitEnds text (end + 1) block marks
