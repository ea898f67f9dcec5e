-- What the incompatibility graph says of the valid orders.
use Rattle.std.specs.Prelude.{◌⊎◌, ◌↔◌, ◌<◌, List, ℕ, ◌++◌}
use Rattle.row_model.specs.declared.graph.Pair.{Pair}
use Rattle.column_order.specs.Orders.{place, IsValidOrder, HasValidOrder}
use Rattle.row_model.specs.declared.graph.Line.{Line}
use Rattle.row_model.specs.Cycles.{IsOddWalk}
use Rattle.row_model.specs.Graph.{Joined, Evenly, HasOddWalk, HasConflict}

-- in the order the pair's first column stands before its second
abbrev pub IsBefore : List ℕ → Pair → Type 0
IsBefore o v = place o v.a < place o v.b

-- in a valid order exactly one of two joined pairs has its first column before its second
abbrev pub JoinedLaw : Type 0
JoinedLaw =
    (c : ℕ) (rows : List (List ℕ)) (o : List ℕ) (v w : Pair) →
    IsValidOrder c rows o →
    Joined c rows v w →
    (IsBefore o v × (IsBefore o w → ⊥)) ⊎ (IsBefore o w × (IsBefore o v → ⊥))

-- in a valid order both or neither of two pairs with a walk of even length between them have their first column before their second
abbrev pub EvenWalkLaw : Type 0
EvenWalkLaw =
    (c : ℕ) (rows : List (List ℕ)) (o : List ℕ) (v w : Pair) →
    IsValidOrder c rows o →
    Evenly c rows v w →
    IsBefore o v ↔ IsBefore o w

-- a closed walk of odd length leaves no valid order
abbrev pub OddWalkLaw : Type 0
OddWalkLaw = (c : ℕ) (rows : List (List ℕ)) → HasOddWalk c rows → HasValidOrder c rows → ⊥

-- a closed walk of odd length exists exactly where a walk of even length leads from a pair to itself with its columns exchanged
abbrev pub ConflictLaw : Type 0
ConflictLaw = (c : ℕ) (rows : List (List ℕ)) → HasOddWalk c rows ↔ HasConflict c rows

-- a list of lines that is a closed walk of odd length exists exactly where one of pairs does
abbrev pub LinesLaw : Type 0
LinesLaw = (c : ℕ) (rows : List (List ℕ)) → ((lines : List Line) × IsOddWalk c rows lines) ↔ HasOddWalk c rows

-- further rows leave joined pairs joined
abbrev pub MoreRowsLaw : Type 0
MoreRowsLaw = (c : ℕ) (rows more : List (List ℕ)) (v w : Pair) → Joined c rows v w → Joined c (rows ++ more) v w
