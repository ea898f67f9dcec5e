-- Places on walks along the children of a Q-node.
use Rattle.std.specs.Prelude.{◌≡◌, ◌≢◌, ◌⊎◌, ℕ, ◌<◌, Bool, true, false, if◌then◌else◌, List, [], ◌∷◌, ◌++◌, reverse, length, Option, Some, None}
use Rattle.arena_model.specs.declared.Shape.TheVariants.{Q}
use Rattle.arena_model.specs.ChildLists.{head_or, last_or, none}
use Rattle.arena_model.specs.Layout.{Layout, shape_at, children_at}
use Rattle.pq_arena.specs.declared.node.NodeId.{NodeId}
use Rattle.pq_arena.specs.Looks.{node_named}
use Rattle.bubble_pass.specs.declared.labels.Label.{Label as Mark}
use Rattle.bubble_pass.specs.declared.labels.Label.TheVariants.{Empty, Partial, Full}
use Rattle.bubble_pass.specs.Marks.{Marks, label_at, size_of}
use Rattle.templates_q.specs.declared.walk.ChildGap.{ChildGap}
use Rattle.templates_q.specs.declared.walk.Passed.{Passed}
use Rattle.templates_q.specs.declared.walk.Wanted.{Wanted}
use Rattle.templates_q.specs.declared.walk.Wanted.TheVariants.{Fulls, Partials, Labelled}

-- the children of n are these, in this order or turned
abbrev pub AreChildren : Layout → ℕ → List ℕ → Type 0
AreChildren f n ks = (children_at f n ≡ ks) ⊎ (children_at f n ≡ reverse ks)

-- the place between us and vs, which are the children of the Q-node q in the order of the walk
pub record IsChildGap (f : Layout) (q : ℕ) (us vs : List ℕ) (gap : ChildGap) : Type 0 where
  pub is_q : shape_at f q ≡ Some Q
  pub children : AreChildren f q (us ++ vs)
  pub before : gap.before ≡ node_named (last_or us none)
  pub next : gap.next ≡ node_named (head_or vs none)

-- the place before x, which is next
abbrev pub IsFirst : Layout → ℕ → List ℕ → ℕ → List ℕ → ChildGap → Type 0
IsFirst f q us x vs gap = IsChildGap f q us (x ∷ vs) gap

-- H holds of the label of each of these nodes
abbrev pub AreThose : (Mark → Type 0) → Marks → List ℕ → Type 0
AreThose H w [] = Unit {0}
AreThose H w (x ∷ xs) = H (label_at w x) × AreThose H w xs

-- each of these nodes has this label
abbrev pub AreAll : Mark → Marks → List ℕ → Type 0
AreAll l w ks = AreThose (λ m. m ≡ l) w ks

-- each of these nodes has a label
abbrev pub AreLabelled : Marks → List ℕ → Type 0
AreLabelled w ks = AreThose (λ m. m ≢ Empty) w ks

-- a node with this label is one that the walk passes
abbrev pub IsWanted : Wanted → Mark → Type 0
IsWanted Fulls m = m ≡ Full
IsWanted Partials m = m ≡ Partial
IsWanted Labelled m = m ≢ Empty

-- from the place between us and vs the walk passed the first of vs, all of them wanted
pub record IsPassed (t : Wanted) (f : Layout) (w : Marks) (q : ℕ) (us vs : List ℕ) (p : Passed) : Type 0 where
  pub ks : List ℕ
  pub rest : List ℕ
  pub is : vs ≡ ks ++ rest
  pub marked : AreThose (IsWanted t) w ks
  pub count : length ks ≡ p.count
  pub gap : IsChildGap f q (us ++ ks) rest p.gap

-- H does not hold of the label of the first of vs, or there is none
abbrev pub EndsBefore : (Mark → Type 0) → Marks → List ℕ → Type 0
EndsBefore H w [] = Unit {0}
EndsBefore H w (x ∷ xs) = H (label_at w x) → ⊥

-- the first of vs has another label, or there is none
abbrev pub EndsWithout : Mark → Marks → List ℕ → Type 0
EndsWithout l w vs = EndsBefore (λ m. m ≡ l) w vs

-- there is room for this node, if it is one
abbrev pub IsInRoom : Marks → Option NodeId → Type 0
IsInRoom w None = Unit {0}
IsInRoom w (Some x) = x.index < size_of w

-- whether a node with this label is wanted
abbrev pub wants : Wanted → Mark → Bool
wants Fulls Full = true
wants Partials Partial = true
wants Labelled Partial = true
wants Labelled Full = true
wants t m = false

-- this node, if it is wanted
abbrev pub wanted_one : Wanted → Marks → Option NodeId → Option NodeId
wanted_one t w None = None
wanted_one t w (Some x) = if wants t (label_at w x.index) then Some x else None
