-- The places of the bits of a number that are 1.
use Rattle.std.specs.Prelude.{◌≡◌, ℕ, zero, suc, ◌+◌, ◌*◌, ◌/◌, ◌%◌, ◌≤◌, ◌==◌, List, [], ◌∷◌, if◌then◌else◌, take, drop, slice_index}

-- the places of the ones among so many bits of a number, where the lowest bit has this place
unfoldable pub bit_places : ℕ → ℕ → ℕ → List ℕ
bit_places zero place n = []
bit_places (suc bits) place n = if n % 2 == 1 then place ∷ bit_places bits (place + 1) (n / 2) else bit_places bits (place + 1) (n / 2)

-- among the eight entries of a byte those at the front are the places of its ones
pub record ListsOnes (places counts : List ℕ) (byte : ℕ) : Type 0 where
  pub few : slice_index counts byte ≤ 8
  pub are : take (slice_index counts byte) (drop (8 * byte) places) ≡ bit_places 8 0 byte
