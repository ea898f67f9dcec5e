-- What a part of the walk adds to the orders that are found.
use Rattle.std.specs.Prelude.{◌≡◌, ◌⊎◌, ℕ, ◌+◌, ◌≤◌, false, List, [], ◌∷◌, ◌++◌, length, map, IsTrue}
use Rattle.std.specs.List.{AllByRecursion}
use Rattle.order_list.specs.First.{IsBefore}
use Rattle.order_list.specs.Listed.{OrderList}

-- each list stands before all later ones
abbrev pub AreRising : List (List ℕ) → Type 0
AreRising [] = Unit {0}
AreRising (r ∷ rs) = AllByRecursion (IsBefore r) rs × AreRising rs

-- f is one of the lists
abbrev pub IsAmong : List ℕ → List (List ℕ) → Type 0
IsAmong f [] = ⊥
IsAmong f (r ∷ rs) = (r ≡ f) ⊎ IsAmong f rs

-- each of the lists stands before f
abbrev pub AllBefore : List (List ℕ) → List ℕ → Type 0
AllBefore rs f = AllByRecursion (λ r. IsBefore r f) rs

-- the lists of a set that begin with the column, without it
abbrev pub from_column : ℕ → (List ℕ → Type 0) → List ℕ → Type 0
from_column x S f = S (x ∷ f)

-- the walk may go on: there is no news of others yet, and each list of the set behind the columns so far is as long as an
-- order
pub record IsReady (S : List ℕ → Type 0) (columns : List ℕ) (limit : ℕ) (list : OrderList) : Type 0 where
  pub fresh : list.more ≡ false
  pub few : length list.orders ≤ limit
  pub wide : (f : List ℕ) → S f → length columns + length f ≡ list.columns

-- The orders that begin with the columns and go on with a list of the set were added, from the least on: all of them, or
-- the list is full and one more was seen.
pub record Gains (S : List ℕ → Type 0) (columns : List ℕ) (limit : ℕ) (old new : OrderList) : Type 0 where
  pub rests : List (List ℕ)
  pub width : new.columns ≡ old.columns
  pub orders : new.orders ≡ old.orders ++ map (λ f. columns ++ f) rests
  pub few : length new.orders ≤ limit
  pub members : AllByRecursion S rests
  pub rising : AreRising rests
  pub each : (f : List ℕ) → S f → IsAmong f rests ⊎ (IsTrue new.more × AllBefore rests f)
  pub other : IsTrue new.more → (length new.orders ≡ limit) × (f : List ℕ) × S f × AllBefore rests f
