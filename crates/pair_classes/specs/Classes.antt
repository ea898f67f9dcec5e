-- The classes of pairs that walks of even length join.
use Rattle.std.specs.Prelude.{◌≡◌, ◌↔◌, ℕ, ◌+◌, ◌/◌, ◌%◌, ◌≤◌, List, IsTrue, IsFalse}
use Rattle.column_order.specs.Orders.{has}
use Rattle.row_model.specs.declared.graph.Pair.{Pair}
use Rattle.row_model.specs.Graph.{pair, IsPair, Evenly}
use Rattle.odd_cycle.specs.Numbers.{Numbering, number_of, place_of}

-- two pairs have one number exactly where a walk of even length leads from the one to the other in the graph of these rows
pub record TellsClasses (c : ℕ) (rows : List (List ℕ)) (t : Numbering) : Type 0 where
  pub columns : t.columns ≡ c
  pub numbered : (v w : Pair) → IsPair c v → IsPair c w → (number_of t v ≡ number_of t w) ↔ Evenly c rows v w

-- the pair at a place of the table
abbrev pub pair_of_place : ℕ → ℕ → Pair
pair_of_place c i = pair (i / c + 1) (i % c + 1)

-- all pairs (a,d) of the columns a of the row have one label, and all pairs (d,a)
abbrev pub AgreesWith : ℕ → (ℕ → ℕ) → List ℕ → ℕ → Type 0
AgreesWith c label row d =
    (a e : ℕ) →
    IsTrue (has row a) →
    IsTrue (has row e) →
    (label (place_of c (pair a d)) ≡ label (place_of c (pair e d))) × (label (place_of c (pair d a)) ≡ label (place_of c (pair d e)))

-- so they have with each column that the row lacks
abbrev pub AgreesAlong : ℕ → (ℕ → ℕ) → List ℕ → Type 0
AgreesAlong c label row = (d : ℕ) → 1 ≤ d → d ≤ c → IsFalse (has row d) → AgreesWith c label row d
