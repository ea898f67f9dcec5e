-- The children of a node by their labels, and what is seen of them.
use Rattle.std.specs.Prelude.{◌≡◌, ℕ, ◌≤◌, ◌<◌, List, [], ◌∷◌, Option, Some, None, length}
use Rattle.arena_model.specs.declared.Shape.TheVariants.{P}
use Rattle.arena_model.specs.Layout.{Layout, shape_at, children_at}
use Rattle.bubble_pass.specs.declared.labels.Label.{Label as Mark}
use Rattle.bubble_pass.specs.declared.labels.Label.TheVariants.{Empty, Partial, Full}
use Rattle.bubble_pass.specs.Marks.{Marks, label_at, fulls_at, partials_at}
use Rattle.templates_p.specs.declared.sight.Sight.{Sight}

-- k before ks where the mark is full
abbrev pub full_then : Mark → ℕ → List ℕ → List ℕ
full_then Empty k ks = ks
full_then Partial k ks = ks
full_then Full k ks = k ∷ ks

-- k before ks where the mark is empty
abbrev pub empty_then : Mark → ℕ → List ℕ → List ℕ
empty_then Empty k ks = k ∷ ks
empty_then Partial k ks = ks
empty_then Full k ks = ks

-- k before ks where the mark is partial
abbrev pub partial_then : Mark → ℕ → List ℕ → List ℕ
partial_then Empty k ks = ks
partial_then Partial k ks = k ∷ ks
partial_then Full k ks = ks

-- the full ones of the nodes, in their order
abbrev pub full_nodes : Marks → List ℕ → List ℕ
full_nodes w [] = []
full_nodes w (k ∷ ks) = full_then (label_at w k) k (full_nodes w ks)

-- the empty ones of the nodes, in their order
abbrev pub empty_nodes : Marks → List ℕ → List ℕ
empty_nodes w [] = []
empty_nodes w (k ∷ ks) = empty_then (label_at w k) k (empty_nodes w ks)

-- the partial ones of the nodes, in their order
abbrev pub partial_nodes : Marks → List ℕ → List ℕ
partial_nodes w [] = []
partial_nodes w (k ∷ ks) = partial_then (label_at w k) k (partial_nodes w ks)

-- what was seen of the node n: its numbers of children where it is a P-node, and nothing of another node
abbrev pub IsSeenAs : Layout → Marks → ℕ → Option Sight → Type 0
IsSeenAs f w n None = shape_at f n ≡ Some P → ⊥
IsSeenAs f w n (Some s) = (shape_at f n ≡ Some P) × (s.full ≡ fulls_at w n) × (s.partial ≡ partials_at w n) × (s.children ≡ length (children_at f n))

-- a P-node was seen, whose children are all full
abbrev pub AllAreFull : Option Sight → Type 0
AllAreFull None = ⊥
AllAreFull (Some s) = (s.partial ≡ 0) × (s.full ≡ s.children)

-- a P-node was seen with full and empty children and no other
abbrev pub AreFullAndEmpty : Option Sight → Type 0
AreFullAndEmpty None = ⊥
AreFullAndEmpty (Some s) = (s.partial ≡ 0) × (1 ≤ s.full) × (s.full < s.children)

-- a P-node was seen with so many partial children
abbrev pub HasPartials : ℕ → Option Sight → Type 0
HasPartials k None = ⊥
HasPartials k (Some s) = s.partial ≡ k
