-- The templates that were chosen for the labelled nodes.
use Rattle.std.specs.Prelude.{◌≢◌, ℕ, zero, suc, ◌+◌, ◌*◌, ◌≤◌, ◌<◌, ◌==◌, Bool, false, List, length, Option, Some, None, slice_index_or}
use Rattle.arena_model.specs.Layout.{Layout, shape_at}
use Rattle.pq_arena.specs.declared.node.NodeId.{NodeId}
use Rattle.bubble_pass.specs.Marks.{Marks, fulls_at, partials_at}
use Rattle.bubble_pass.specs.Pass.{node_in}
use Rattle.row_reduce.specs.declared.template.Template.{Template}
use Rattle.row_reduce.specs.declared.template.Template.TheVariants.{L1}
use Rattle.row_reduce.specs.Asked.{asked}
use Rattle.row_reduce.specs.Fits.{IsFit, IsChoice}
use Rattle.row_reduce.specs.Ground.{IsGround}

-- whether n is the pertinent root, if that is labelled
abbrev pub is_top : Option NodeId → ℕ → Bool
is_top None n = false
is_top (Some r) n = n == r.index

-- the template at this place
abbrev pub template_in : List Template → ℕ → Template
template_in ts i = slice_index_or ts i L1

-- the number of labelled children of n
abbrev pub labelled_at : Marks → ℕ → ℕ
labelled_at w n = fulls_at w n + partials_at w n

-- the ticks of the patterns that are asked at the first n nodes until these templates are found, with a look at each node
unfoldable pub asking : Layout → Marks → List Template → ℕ → ℕ
asking f v ts zero = 0
asking f v ts (suc n) = asking f v ts n + (1 + 4 * asked (shape_at f (node_in v n)) (Some (template_in ts n)) * (labelled_at v (node_in v n) + 1))

-- each of the first n nodes has a template that stands there
pub record AreDecided (f : Layout) (v : Marks) (top : Option NodeId) (ts : List Template) (n : ℕ) : Type 0 where
  pub fits : (i : ℕ) → i < n → IsFit f v (node_in v i) (is_top top (node_in v i)) (template_in ts i)

-- at some node no template stands, and at each node before it one does
pub record IsStopped (f : Layout) (v : Marks) (top : Option NodeId) : Type 0 where
  pub i : ℕ
  pub some : i < length v.nodes
  pub none : IsChoice f v (node_in v i) (is_top top (node_in v i)) None
  pub before : (j : ℕ) → j < i → (t : Template) × IsFit f v (node_in v j) (is_top top (node_in v j)) t

-- the first n nodes are below the pertinent root q, and at each of them its template stands
pub record AreChosen (f : Layout) (v : Marks) (row : List ℕ) (q : ℕ) (ts : List Template) (n : ℕ) : Type 0 where
  pub ground : IsGround f v row q
  pub few : n ≤ length v.nodes
  pub room : n ≤ length ts
  pub below : (i : ℕ) → i < n → node_in v i ≢ q
  pub fits : (i : ℕ) → i < n → IsFit f v (node_in v i) false (template_in ts i)
