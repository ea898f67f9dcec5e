-- What the derived matrices say of the textbook orders.
use Rattle.std.specs.Prelude.{◌↔◌, ◌≤◌, ℕ, List, length}
use Rattle.column_order.specs.Orders.{IsValidOrder, HasValidOrder}
use Rattle.row_model.specs.declared.TheConstants.{MAX_COLUMNS, MAX_ROWS}
use Rattle.row_model.specs.Rows.{RowList}
use Rattle.circular_ones.specs.Circular.{IsTurned}
use Rattle.instance_model.specs.Instance.{InstanceValue, circular, IsSideOf, IsTextbookOrder, derived_matrix, IsInstance, IsWellFormed}

-- an order is a valid order of a matrix
abbrev pub IsValidFor : RowList → List ℕ → Type 0
IsValidFor m o = IsValidOrder m.columns m.rows o

-- These are exactly the textbook orders of a side. Circular orders are told up to rotation: each of these is a textbook order, and an order is
-- a textbook order exactly where its rotation that begins with column 1 is one of these.
abbrev pub AreTextbookOrders : InstanceValue → ℕ → (List ℕ → Type 0) → Type 0
AreTextbookOrders (circular m) s P =
    ((o : List ℕ) → P o → IsTextbookOrder (circular m) s o) ×
    ((o turned : List ℕ) → IsTurned o turned → IsTextbookOrder (circular m) s o ↔ P turned)
AreTextbookOrders i s P = (o : List ℕ) → IsTextbookOrder i s o ↔ P o

-- the valid orders of the derived matrix of a side are exactly its textbook orders
abbrev pub DerivedLaw : Type 0
DerivedLaw = (i : InstanceValue) (s : ℕ) → IsWellFormed i → IsSideOf i s → AreTextbookOrders i s (IsValidFor (derived_matrix i s))

-- of an instance within the limits the derived matrix of a side has no more columns than a matrix may have
abbrev pub FewColumnsLaw : Type 0
FewColumnsLaw = (i : InstanceValue) (s : ℕ) → IsInstance i → IsSideOf i s → (derived_matrix i s).columns ≤ MAX_COLUMNS

-- nor more rows
abbrev pub FewRowsLaw : Type 0
FewRowsLaw =
    (i : InstanceValue) (s : ℕ) →
    IsInstance i →
    IsWellFormed i →
    IsSideOf i s →
    length (derived_matrix i s).rows ≤ MAX_ROWS

-- each valid order of the derived matrix of a side is a textbook order
abbrev pub ValidLaw : Type 0
ValidLaw = (i : InstanceValue) (s : ℕ) (o : List ℕ) → IsWellFormed i → IsSideOf i s → IsValidFor (derived_matrix i s) o → IsTextbookOrder i s o

-- a side has a textbook order exactly where its derived matrix has a valid order
abbrev pub ExistsLaw : Type 0
ExistsLaw =
    (i : InstanceValue) (s : ℕ) →
    IsWellFormed i →
    IsSideOf i s →
    ((o : List ℕ) × IsTextbookOrder i s o) ↔ HasValidOrder (derived_matrix i s).columns (derived_matrix i s).rows
