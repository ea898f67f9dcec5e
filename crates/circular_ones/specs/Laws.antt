-- What the cut rows say of the circular orders.
use Rattle.std.specs.Prelude.{◌↔◌, ℕ, List}
use Rattle.column_order.specs.Orders.{IsValidOrder, HasValidOrder}
use Rattle.circular_ones.specs.Circular.{IsCircularOrder, HasCircularOrder, cut_rows, IsRotation, IsTurned}

-- every valid order of the cut rows is a circular order of the rows
abbrev pub CutLaw : Type 0
CutLaw = (c : ℕ) (rows : List (List ℕ)) (o : List ℕ) → IsValidOrder c (cut_rows c rows) o → IsCircularOrder c rows o

-- the rotations of a circular order are circular orders
abbrev pub RotationLaw : Type 0
RotationLaw =
    (c : ℕ) (rows : List (List ℕ)) (o turned : List ℕ) →
    IsRotation o turned →
    IsCircularOrder c rows o →
    IsCircularOrder c rows turned

-- an order is circular exactly where its rotation that begins with column 1 is a valid order of the cut rows
abbrev pub TurnedLaw : Type 0
TurnedLaw =
    (c : ℕ) (rows : List (List ℕ)) (o turned : List ℕ) →
    IsTurned o turned →
    IsCircularOrder c rows o ↔ IsValidOrder c (cut_rows c rows) turned

-- a circular order exists exactly where the cut rows have a valid order
abbrev pub CircularExistsLaw : Type 0
CircularExistsLaw = (c : ℕ) (rows : List (List ℕ)) → HasCircularOrder c rows ↔ HasValidOrder c (cut_rows c rows)
