-- When a verdict is true of an instance.
use Rattle.std.specs.Prelude.{ℕ, ◌-◌, List, slice_get, IsSomeAnd}
use Rattle.pq_tree.specs.Outline.{Outline, IsFrontier}
use Rattle.verdict_text.specs.Verdict.{SideValue, YesValue, Claim, yes_claim, no_claim, VerdictValue}
use Rattle.verdict_text.specs.declared.verdict.Version.{Version}
use Rattle.verdict_text.specs.declared.verdict.Version.TheVariants.{One, Two}
use Rattle.row_model.specs.declared.kind.Kind.{Kind}
use Rattle.row_model.specs.declared.kind.Kind.TheVariants.{Clones}
use Rattle.clone_map.specs.Places.{ArePlaces}
use Rattle.clone_map.specs.Contigs.{AreContigs}
use Rattle.circular_ones.specs.Circular.{IsTurned}
use Rattle.proper_interval.specs.Models.{IsProperModel}
use Rattle.instance_model.specs.Instance.{InstanceValue, plain, circular, proper, IsSideOf, IsTextbookOrder}

-- the order is a textbook order of the side, and so is each frontier of the tree
abbrev pub ShowsOrders : InstanceValue → ℕ → SideValue → Type 0
ShowsOrders i s side = IsTextbookOrder i s side.order × ((o : List ℕ) → IsFrontier side.tree o → IsTextbookOrder i s o)

-- each textbook order of the side is a frontier of the tree; of a circular order its rotation that begins with column 1 is
abbrev pub HasEveryOrder : InstanceValue → ℕ → Outline → Type 0
HasEveryOrder (circular m) s t = (o turned : List ℕ) → IsTurned o turned → IsTextbookOrder (circular m) s o → IsFrontier t turned
HasEveryOrder i s t = (o : List ℕ) → IsTextbookOrder i s o → IsFrontier t o

-- the side shows orders, and in version 2 its tree has every order
abbrev pub IsTrueSide : Version → InstanceValue → ℕ → SideValue → Type 0
IsTrueSide One i s side = ShowsOrders i s side
IsTrueSide Two i s side = ShowsOrders i s side × HasEveryOrder i s side.tree

-- what clones add is where they stand, and what they make up, in the order; no other kind of matrix adds anything
abbrev pub IsTrueAddedTo : Kind → List (List ℕ) → YesValue → SideValue → Type 0
IsTrueAddedTo Clones rows value side = ArePlaces side.order rows value.added.places × AreContigs rows side.order value.added.contigs
IsTrueAddedTo kind rows value side = Unit {0}

-- what the kind adds is true of the order: of a graph, its intervals are a proper model
abbrev pub IsTrueAdded : InstanceValue → YesValue → Type 0
IsTrueAdded (plain kind matrix) value = IsSomeAnd (slice_get value.sides 0) (IsTrueAddedTo kind matrix.rows value)
IsTrueAdded (proper graph) value = IsProperModel graph value.added.intervals
IsTrueAdded other value = Unit {0}

-- each side of the instance is true, and so is what the kind adds
pub record IsTrueYes (version : Version) (i : InstanceValue) (value : YesValue) : Type 0 where
  pub sides : (s : ℕ) → IsSideOf i s → IsSomeAnd (slice_get value.sides (s - 1)) (IsTrueSide version i s)
  pub added : IsTrueAdded i value

-- a yes is true by its sides, and a no where the side that it names has no textbook order
abbrev pub IsTrueClaim : Version → InstanceValue → Claim → Type 0
IsTrueClaim version i (yes_claim value) = IsTrueYes version i value
IsTrueClaim version i (no_claim side lines) = (o : List ℕ) → IsTextbookOrder i side o → ⊥

-- a verdict is true where its claim is
abbrev pub IsTrueVerdict : InstanceValue → VerdictValue → Type 0
IsTrueVerdict i v = IsTrueClaim v.version i v.claim
