-- When the left end of one vertex fits those of the others.
use Rattle.std.specs.Prelude.{◌≢◌, ◌↔◌, ℕ, ◌+◌, ◌<◌, ◌&&◌, nat_le, Bool, List, length, slice_index, IsTrue}
use Rattle.column_order.specs.Orders.{has}
use Rattle.unit_model.specs.Models.{DifferByAtMost}

-- the left end at a place, of a vertex with these neighbours, and that at each other place differ by at most the length
-- exactly where the vertices are adjacent
abbrev pub EndFits : List ℕ → ℕ → ℕ → List ℕ → Type 0
EndFits lefts m at neighbours =
    (i : ℕ) → i < length lefts → i ≢ at → DifferByAtMost m (slice_index lefts at) (slice_index lefts i) ↔ IsTrue (has neighbours (i + 1))

-- whether two left ends differ by at most the length
abbrev pub is_near : ℕ → ℕ → ℕ → Bool
is_near m a b = nat_le a (b + m) && nat_le b (a + m)
