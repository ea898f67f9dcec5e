-- What the tests of a yes ask.
use Rattle.std.specs.Prelude.{ℕ, ◌-◌, List, slice_get, IsSomeAnd}
use Rattle.row_model.specs.Graph.{row_at}
use Rattle.column_order.specs.Orders.{Keeps}
use Rattle.pq_tree.specs.Outline.{Outline, IsFrontier}
use Rattle.tree_theory.specs.Tied.{IsTied}
use Rattle.verdict_text.specs.Verdict.{SideValue, YesValue}
use Rattle.clone_map.specs.Places.{ArePlaces}
use Rattle.clone_map.specs.Contigs.{AreContigs}
use Rattle.proper_interval.specs.Models.{IsProperModel}
use Rattle.instance_model.specs.Instance.{InstanceValue, plain, proper, IsTextbookOrder, derived_matrix}
use Rattle.verdict_judge.specs.declared.outcome.Reason.{Reason}
use Rattle.verdict_judge.specs.declared.outcome.Reason.TheVariants as reason

-- each frontier of the tree keeps the row
abbrev pub AllKeep : Outline → List ℕ → Type 0
AllKeep t row = (o : List ℕ) → IsFrontier t o → Keeps o row

-- the yes has a side of this number, from 1, of which P holds
abbrev pub HasSide : YesValue → ℕ → (SideValue → Type 0) → Type 0
HasSide value s P = IsSomeAnd (slice_get value.sides (s - 1)) P

-- `order S`: the order of side S is a textbook order of that side
abbrev pub PassesOrder : InstanceValue → YesValue → ℕ → Type 0
PassesOrder i value s = HasSide value s (λ side. IsTextbookOrder i s side.order)

-- `tree S K`: each frontier of the tree of side S keeps derived row K
abbrev pub PassesTree : InstanceValue → YesValue → ℕ → ℕ → Type 0
PassesTree i value s k = HasSide value s (λ side. AllKeep side.tree (row_at (derived_matrix i s).rows k))

-- `complete S`: the tree of side S is tied to all derived rows
abbrev pub PassesComplete : InstanceValue → YesValue → ℕ → Type 0
PassesComplete i value s = HasSide value s (λ side. IsTied (derived_matrix i s).columns (derived_matrix i s).rows side.tree)

-- `intervals`: the intervals are a proper model of the graph; nothing else has such a model
abbrev pub PassesIntervals : InstanceValue → YesValue → Type 0
PassesIntervals (proper graph) value = IsProperModel graph value.added.intervals
PassesIntervals other value = ⊥

-- `places`: the places are those of the clones in the order; only a matrix has clones
abbrev pub PassesPlaces : InstanceValue → YesValue → Type 0
PassesPlaces (plain kind matrix) value = HasSide value 1 (λ side. ArePlaces side.order matrix.rows value.added.places)
PassesPlaces other value = ⊥

-- `contigs`: the contigs are those of the clones in the order, from left to right
abbrev pub PassesContigs : InstanceValue → YesValue → Type 0
PassesContigs (plain kind matrix) value = HasSide value 1 (λ side. AreContigs matrix.rows side.order value.added.contigs)
PassesContigs other value = ⊥

-- the tests by their names; a yes passes no other
abbrev pub PassesYes : InstanceValue → YesValue → Reason → Type 0
PassesYes i value (reason.Order s) = PassesOrder i value s
PassesYes i value (reason.Tree s k) = PassesTree i value s k
PassesYes i value (reason.Complete s) = PassesComplete i value s
PassesYes i value reason.Intervals = PassesIntervals i value
PassesYes i value reason.Places = PassesPlaces i value
PassesYes i value reason.Contigs = PassesContigs i value
PassesYes i value other = ⊥
