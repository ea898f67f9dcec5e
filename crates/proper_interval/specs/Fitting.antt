-- When the interval of one vertex fits those of all later ones.
use Rattle.std.specs.Prelude.{◌≡◌, ◌↔◌, ℕ, ◌+◌, ◌<◌, List, length, IsTrue}
use Rattle.column_order.specs.Orders.{has}
use Rattle.row_model.specs.declared.lists.Interval.{Interval}
use Rattle.proper_interval.specs.Models.{interval_of, ShareNumber, ContainsInterval}

-- no number lies in both intervals
abbrev pub AreApart : Interval → Interval → Type 0
AreApart a b = ShareNumber a b → ⊥

-- neither interval contains the other unless they are equal
pub record IsProperPair (a b : Interval) : Type 0 where
  pub first : ContainsInterval a b → a ≡ b
  pub second : ContainsInterval b a → a ≡ b

-- two intervals share a number exactly where their vertices are adjacent, and neither contains the other unless they are
-- equal
pub record PairFits (a b : Interval) (adjacent : Type 0) : Type 0 where
  pub meet : ShareNumber a b ↔ adjacent
  pub proper : IsProperPair a b

-- the interval at a place, of a vertex with these neighbours, fits that at each later place
abbrev pub FitsLater : List Interval → ℕ → List ℕ → Type 0
FitsLater list at neighbours =
    (i : ℕ) → at < i → i < length list → PairFits (interval_of list (at + 1)) (interval_of list (i + 1)) (IsTrue (has neighbours (i + 1)))
