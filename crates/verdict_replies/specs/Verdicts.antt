-- The verdict on an instance, and the reply that tells it.
use Rattle.std.specs.Prelude.{◌≡◌, ◌↔◌, ℕ, ◌-◌, ◌<◌, ◌≤◌, List, [], length, slice_get, IsSomeAnd}
use Rattle.row_model.specs.declared.kind.Kind.TheVariants.{Clones}
use Rattle.row_model.specs.Rows.{RowList}
use Rattle.row_model.specs.Cycles.{IsOddCycle}
use Rattle.column_order.specs.Orders.{IsValidOrder, HasValidOrder}
use Rattle.clone_map.specs.Places.{ArePlaces}
use Rattle.clone_map.specs.Contigs.{AreContigs}
use Rattle.proper_interval.specs.Formula.{AreIntervals}
use Rattle.pq_tree.specs.Outline.{IsFrontier, leaves}
use Rattle.pq_tree.specs.Proper.{IsProper}
use Rattle.pq_tree.specs.Canonical.{IsCanonical}
use Rattle.odd_cycle.specs.Short.{IsShort}
use Rattle.row_judge.specs.Judges.{IsFirstConflict}
use Rattle.verdict_text.specs.Verdict.{SideValue, AddedValue, Claim, yes_claim, no_claim, VerdictValue}
use Rattle.verdict_text.specs.declared.verdict.Version.TheVariants.{Two}
use Rattle.verdict_text.specs.Grammar.{AreColumnCounts, IsVerdict}
use Rattle.verdict_text.specs.Text.{verdict_text}
use Rattle.instance_model.specs.Instance.{InstanceValue, plain, proper, instance_kind, instance_columns, IsSideOf, derived_matrix, IsInstance, IsWellFormed}
use Rattle.verdict_replies.specs.declared.TheConstants.{MAX_VERDICT_BYTES}

-- The tree is a canonical PQ-tree over the columns of the matrix, and its frontiers are exactly the valid orders. The order
-- is its leaves from left to right.
pub record ShowsAllOrders (m : RowList) (side : SideValue) : Type 0 where
  pub proper : IsProper m.columns side.tree
  pub canonical : IsCanonical side.tree
  pub orders : (o : List ℕ) → IsFrontier side.tree o ↔ IsValidOrder m.columns m.rows o
  pub leaves : side.order ≡ leaves side.tree

-- so the order is a valid order
abbrev pub ShownOrderLaw : Type 0
ShownOrderLaw = (m : RowList) (side : SideValue) → ShowsAllOrders m side → IsValidOrder m.columns m.rows side.order

-- a side of the instance shows the orders of its derived matrix
abbrev pub ShowsSide : InstanceValue → ℕ → SideValue → Type 0
ShowsSide i s side = ShowsAllOrders (derived_matrix i s) side

-- each side of the instance shows its orders, and there are no other sides
pub record ShowsSides (i : InstanceValue) (sides : List SideValue) : Type 0 where
  pub count : length sides ≡ length (instance_columns i)
  pub each : (s : ℕ) → IsSideOf i s → IsSomeAnd (slice_get sides (s - 1)) (ShowsAllOrders (derived_matrix i s))

-- nothing is added
abbrev pub AddsNothing : AddedValue → Type 0
AddsNothing added = (added.intervals ≡ []) × (added.places ≡ []) × (added.contigs ≡ [])

-- What an instance adds to an order of its first side: clones where they stand, and the contigs that they make up, from
-- left to right; a graph the intervals of its vertices; and every other kind nothing.
abbrev pub AddsToOrder : InstanceValue → List ℕ → AddedValue → Type 0
AddsToOrder (plain Clones m) order added = (added.intervals ≡ []) × ArePlaces order m.rows added.places × AreContigs m.rows order added.contigs
AddsToOrder (proper g) order added = AreIntervals g order added.intervals × (added.places ≡ []) × (added.contigs ≡ [])
AddsToOrder other order added = AddsNothing added

-- the derived matrix of a side has a valid order
abbrev pub HasOrder : InstanceValue → ℕ → Type 0
HasOrder i s = HasValidOrder (derived_matrix i s).columns (derived_matrix i s).rows

-- the first side whose derived matrix has no valid order
pub record IsFirstWithout (i : InstanceValue) (s : ℕ) : Type 0 where
  pub side : IsSideOf i s
  pub before : (earlier : ℕ) → 1 ≤ earlier → earlier < s → HasValidOrder (derived_matrix i earlier).columns (derived_matrix i earlier).rows
  pub none : HasValidOrder (derived_matrix i s).columns (derived_matrix i s).rows → ⊥

-- What is claimed is true of the instance. Yes: its sides, each of which shows the valid orders of its derived matrix,
-- and what the kind adds to the order of the first. No: the first side that has none, and a short odd cycle of
-- its incompatibility graph, which shows it. It is one of the rows up to the first that leaves no valid order with
-- those before it.
abbrev pub IsClaimOf : InstanceValue → Claim → Type 0
IsClaimOf i (yes_claim value) = ShowsSides i value.sides × IsSomeAnd (slice_get value.sides 0) (λ side. AddsToOrder i side.order value.added)
IsClaimOf i (no_claim s lines) =
    IsFirstWithout i s × IsOddCycle (derived_matrix i s).columns (derived_matrix i s).rows lines × IsShort (derived_matrix i s).columns lines × IsFirstConflict (derived_matrix i s) lines

-- a verdict on an instance is of version 2, and true of it
pub record IsVerdictOf (i : InstanceValue) (v : VerdictValue) : Type 0 where
  pub version : v.version ≡ Two
  pub kind : v.kind ≡ instance_kind i
  pub columns : v.columns ≡ instance_columns i
  pub claim : IsClaimOf i v.claim

-- the status that goes with a claim: 0 for yes, 1 for no
abbrev pub status_of : Claim → ℕ
status_of (yes_claim _) = 0
status_of (no_claim _ _) = 1

-- the status and the text are those of a verdict with some columns, within the limit, that is true of the instance
pub record IsVerdictReply (i : InstanceValue) (status : ℕ) (text : List ℕ) : Type 0 where
  pub verdict : VerdictValue
  pub counts : AreColumnCounts verdict.columns
  pub holds : IsVerdictOf i verdict
  pub status_is : status ≡ status_of verdict.claim
  pub text_is : text ≡ verdict_text verdict

-- a verdict of an instance within the limits is in the grammar
abbrev pub GrammarLaw : Type 0
GrammarLaw = (i : InstanceValue) (v : VerdictValue) → IsInstance i → IsWellFormed i → AreColumnCounts v.columns → IsVerdictOf i v → IsVerdict v

-- its text has no more bytes than a verdict that is judged
abbrev pub LengthLaw : Type 0
LengthLaw = (i : InstanceValue) (v : VerdictValue) → IsInstance i → IsWellFormed i → IsVerdict v → IsVerdictOf i v → length (verdict_text v) ≤ MAX_VERDICT_BYTES
