-- Lists of columns that are read from trees.
use Rattle.std.specs.Prelude.{◌≡◌, ℕ, List, [], ◌∷◌, ◌++◌, slice_index_or}
use Rattle.pq_tree.specs.Outline.{Outline, leaf, IsFrontier}

-- f is read from the trees: it is one frontier of each, from the first tree to the last
abbrev pub Reads : List Outline → List ℕ → Type 0
Reads [] f = f ≡ []
Reads (t ∷ ts) f = (g : List ℕ) × (h : List ℕ) × IsFrontier t g × Reads ts h × (f ≡ g ++ h)

-- some frontier of the tree begins with the column
abbrev pub CanBegin : Outline → ℕ → Type 0
CanBegin t x = (f : List ℕ) × IsFrontier t (x ∷ f)

-- the tree at a place, from 0
abbrev pub tree_at : List Outline → ℕ → Outline
tree_at ts k = slice_index_or ts k (leaf 0)
