-- Frontiers that a tree has as it stands: its leaves from left to right and from right to left.
pub use Rattle.pq_tree.proofs.Frontiers.{leaves_are_frontier}
use Rattle.std.proofs.Common.{◌≡◌, ◌∙◌, ℕ, ◌≤◌, List, [], ◌∷◌, ◌++◌, reverse, refl, sym, ap, inl, inr, arith, append-nil}
use Rattle.std.proofs.lemmas.List.{reverse-append}
use Rattle.std.proofs.lemmas.List.Sorted.{IsPermutation-refl, IsPermutation-reverse}
use Rattle.std.specs.List.{concat}
use Rattle.pq_tree.specs.Outline.{Outline, Forest, leaf, p_node, q_node, no_tree, tree_and, leaves, leaves_of, IsFrontier, AreFrontiers}
use Rattle.pq_tree.specs.Forests.{count}
use Rattle.pq_tree.specs.Nodes.{children}
use Rattle.tree_theory.proofs.Frontiers.{concat-append}

-- the leaves of each tree, tree by tree
abbrev pub lists : Forest → List (List ℕ)
lists no_tree = []
lists (tree_and t ts) = leaves t ∷ lists ts

pub lists_joined : (ts : Forest) → leaves_of ts ≡ concat (lists ts)
lists_joined no_tree = refl
lists_joined (tree_and t ts) = ap (λ x. leaves t ++ x) (lists_joined ts)

pub lists_are : (ts : Forest) → AreFrontiers ts (lists ts)
lists_are no_tree = tt
lists_are (tree_and t ts) = (leaves_are_frontier t, lists_are ts)

-- a join of frontiers of the children as they stand is a frontier
pub in_turn : (t : Outline) (fs : List (List ℕ)) → 1 ≤ count (children t) → AreFrontiers (children t) fs → IsFrontier t (concat fs)
in_turn (leaf a) fs n h = absurd (omega arith)
in_turn (p_node ts) fs n h = (fs, fs, h, IsPermutation-refl fs, refl)
in_turn (q_node ts) fs n h = (fs, h, inl refl)

-- the same lists, each from its last column to its first
abbrev mirrors : Forest → List (List ℕ)
mirrors no_tree = []
mirrors (tree_and t ts) = reverse (leaves t) ∷ mirrors ts

mirrors_joined : (ts : Forest) → reverse (leaves_of ts) ≡ concat (reverse (mirrors ts))
mirrors_joined no_tree = refl
mirrors_joined (tree_and t ts) =
    let m : List ℕ = reverse (leaves t) in
    let back : concat (reverse (m ∷ mirrors ts)) ≡ concat (reverse (mirrors ts)) ++ m =
    ap concat (reverse-append (m ∷ []) (mirrors ts)) ∙ concat-append (reverse (mirrors ts)) (m ∷ []) ∙ ap (λ x. concat (reverse (mirrors ts)) ++ x) (append-nil m) in
    reverse-append (leaves t) (leaves_of ts) ∙ ap (λ l. l ++ m) (mirrors_joined ts) ∙ sym back

mutual
  pub mirrored : (t : Outline) → IsFrontier t (reverse (leaves t))
  mirrored (leaf a) = refl
  mirrored (p_node ts) = (mirrors ts, reverse (mirrors ts), are_mirrored ts, IsPermutation-reverse (mirrors ts), mirrors_joined ts)
  mirrored (q_node ts) = (mirrors ts, are_mirrored ts, inr (mirrors_joined ts))

  are_mirrored : (ts : Forest) → AreFrontiers ts (mirrors ts)
  are_mirrored no_tree = tt
  are_mirrored (tree_and t ts) = (mirrored t, are_mirrored ts)
