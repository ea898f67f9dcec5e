-- What the program finds in a tree, and makes of it.
use Rattle.std.specs.Prelude.{◌≡◌, ℕ, ◌+◌, ◌<◌, ◌≤◌, cond, List, [], ◌∷◌, length}
use Rattle.std.specs.List.Sorted.{IsNonDecreasing}
use Rattle.column_order.specs.Orders.{has, occurs}
use Rattle.pq_tree.specs.Outline.{Outline, Forest, leaves, leaves_of}
use Rattle.pq_tree.specs.Forests.{join}
use Rattle.pq_tree.specs.Outline.{tree_and}
use Rattle.pq_tree.specs.Nodes.{children, IsNodeOf, NoneHolds}
use Rattle.tree_theory.specs.Reduced.{IsRootMade, IsReplaced}
use Rattle.tree_theory.specs.Refused.{IsStuck, IsRefused}
use Rattle.tree_theory.specs.Outcomes.{IsLowest}
use Rattle.tree_theory.specs.declared.reducer.Step.{Step}
use Rattle.tree_theory.specs.declared.reducer.Step.TheVariants.{Taken, Refused}
use Rattle.pq_plain.specs.declared.search.Found.{Found}
use Rattle.pq_plain.specs.declared.search.Found.TheVariants.{Columns, Root}

-- a row to search for: its columns ascend, each stands once, and there is one
pub record IsSought (row : List ℕ) : Type 0 where
  pub ascending : IsNonDecreasing row
  pub distinct : (a : ℕ) → occurs row a ≤ 1
  pub some : 0 < length row

-- the pertinent root x became y, or no template fits there and it is unchanged
abbrev pub IsRootStep : List ℕ → Outline → Outline → Step → Type 0
IsRootStep row x y Taken = IsRootMade row x y
IsRootStep row x y Refused = IsStuck row x × (y ≡ x)

-- u is t with its pertinent root x replaced by what a template makes of it
pub record IsRootReplaced (row : List ℕ) (t u : Outline) : Type 0 where
  pub x : Outline
  pub y : Outline
  pub lowest : IsLowest row x
  pub made : IsRootMade row x y
  pub replaced : IsReplaced x y t u

-- the trees ts with one of them so replaced are us
pub record IsRootReplacedIn (row : List ℕ) (ts us : Forest) : Type 0 where
  pub before : Forest
  pub t : Outline
  pub u : Outline
  pub behind : Forest
  pub old : join before (tree_and t behind) ≡ ts
  pub new : join before (tree_and u behind) ≡ us
  pub root : IsRootReplaced row t u

-- the tree t became u, or no template fits and it is unchanged
abbrev pub IsStep : List ℕ → Outline → Outline → Step → Type 0
IsStep row t u Taken = IsRootReplaced row t u
IsStep row t u Refused = IsRefused row t × (u ≡ t)

-- so one of the trees ts, which became us
abbrev pub IsStepIn : List ℕ → Forest → Forest → Step → Type 0
IsStepIn row ts us Taken = IsRootReplacedIn row ts us
IsStepIn row ts us Refused = ((x : Outline) × IsNodeOf x ts × IsLowest row x × IsStuck row x) × (us ≡ ts)

-- how many numbers of the list are in the row
abbrev pub hits : List ℕ → List ℕ → ℕ
hits row [] = 0
hits row (x ∷ xs) = cond (has row x) 1 0 + hits row xs

-- in t, now u, so many columns of the row were found, and not all; or all, and t was reduced
abbrev pub IsFound : List ℕ → Outline → Outline → Found → Type 0
IsFound row t u (Columns n) = (u ≡ t) × (n ≡ hits row (leaves t)) × (n < length row)
IsFound row t u (Root step) = IsStep row t u step

-- the same, where no child holds the whole row
abbrev pub IsFoundBelow : List ℕ → Outline → Outline → Found → Type 0
IsFoundBelow row t u (Columns n) = (u ≡ t) × (n ≡ hits row (leaves t)) × NoneHolds row (children t)
IsFoundBelow row t u (Root step) = IsStep row t u step

-- in the trees ts, now us, none holds the whole row; or one does, and was reduced
abbrev pub IsFoundIn : List ℕ → Forest → Forest → Found → Type 0
IsFoundIn row ts us (Columns n) = (us ≡ ts) × (n ≡ hits row (leaves_of ts)) × NoneHolds row ts
IsFoundIn row ts us (Root step) = IsStepIn row ts us step
