-- The incompatibility graph: its vertices are the ordered pairs of distinct columns.
use Rattle.std.specs.Prelude.{◌≡◌, ◌≢◌, ◌⊎◌, ℕ, ◌+◌, ◌-◌, ◌≤◌, List, [], ◌∷◌, length, slice_index_or, IsTrue, IsFalse}
use Rattle.row_model.specs.declared.graph.Pair.{Pair}
use Rattle.row_model.specs.declared.graph.Why.{Why}
use Rattle.row_model.specs.declared.graph.Why.TheVariants.{Flip, Row}
use Rattle.column_order.specs.Orders.{has}

abbrev pub pair : ℕ → ℕ → Pair
pair a b = record { a = a; b = b }

-- an ordered pair of distinct columns
pub record IsPair (c : ℕ) (v : Pair) : Type 0 where
  pub a_from : 1 ≤ v.a
  pub a_to : v.a ≤ c
  pub b_from : 1 ≤ v.b
  pub b_to : v.b ≤ c
  pub distinct : v.a ≢ v.b

-- v is (a,b) and w is (b,d), a and d are distinct, and the row has a and d and lacks b
pub record Crosses (row : List ℕ) (v w : Pair) : Type 0 where
  pub middle : v.b ≡ w.a
  pub ends : v.a ≢ w.b
  pub has_first : IsTrue (has row v.a)
  pub has_last : IsTrue (has row w.b)
  pub lacks_middle : IsFalse (has row v.b)

-- row k, from 1
abbrev pub row_at : List (List ℕ) → ℕ → List ℕ
row_at rows k = slice_index_or rows (k - 1) []

-- what the reason says of the two pairs
abbrev pub Fits : List (List ℕ) → Why → Pair → Pair → Type 0
Fits rows Flip v w = (v.a ≡ w.b) × (v.b ≡ w.a)
Fits rows (Row k) v w = (1 ≤ k) × (k ≤ length rows) × (Crosses (row_at rows k) v w ⊎ Crosses (row_at rows k) w v)

-- the pairs are joined for this reason in these rows
pub record JoinedBy (c : ℕ) (rows : List (List ℕ)) (v w : Pair) (why : Why) : Type 0 where
  pub from : IsPair c v
  pub to : IsPair c w
  pub fits : Fits rows why v w

-- they are joined
abbrev pub Joined : ℕ → List (List ℕ) → Pair → Pair → Type 0
Joined c rows v w = (why : Why) × JoinedBy c rows v w why

-- from v each pair is joined to the next of the list, and the last is w
abbrev pub IsWalk : (Pair → Pair → Type 0) → Pair → List Pair → Pair → Type 0
IsWalk J v [] w = v ≡ w
IsWalk J v (u ∷ us) w = J v u × IsWalk J u us w

-- there is a walk from v to w with an even number of steps
pub record IsEvenly (J : Pair → Pair → Type 0) (v w : Pair) : Type 0 where
  pub steps : List Pair
  pub walk : IsWalk J v steps w
  pub half : ℕ
  pub even : length steps ≡ half + half

-- there is a walk from v to w with an odd number of steps
pub record IsOddly (J : Pair → Pair → Type 0) (v w : Pair) : Type 0 where
  pub steps : List Pair
  pub walk : IsWalk J v steps w
  pub half : ℕ
  pub odd : length steps ≡ half + half + 1

-- the pair with its columns exchanged
abbrev pub turned : Pair → Pair
turned v = pair v.b v.a

-- a walk of even length leads from v to w in the graph of these rows
abbrev pub Evenly : ℕ → List (List ℕ) → Pair → Pair → Type 0
Evenly c rows = IsEvenly (Joined c rows)

-- a walk of odd length leads from some pair back to it
pub record HasOddWalk (c : ℕ) (rows : List (List ℕ)) : Type 0 where
  pub start : Pair
  pub walk : IsOddly (Joined c rows) start start

-- a walk of even length leads from some pair of distinct columns to the same pair with its columns exchanged
pub record HasConflict (c : ℕ) (rows : List (List ℕ)) : Type 0 where
  pub start : Pair
  pub is_pair : IsPair c start
  pub walk : Evenly c rows start (turned start)
