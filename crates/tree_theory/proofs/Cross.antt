-- Columns of different children of the root of one tree are in no common child of the root of a tree with the same frontiers.
use Rattle.std.proofs.Common.{◌≡◌, ◌∙◌, ℕ, List, [], ◌∷◌, ◌++◌, reverse, IsTrue, IsPermutation, subst, inl, inr, arith}
use Rattle.std.proofs.lemmas.List.Elements.{All-from_recursion, recursion_from_All}
use Rattle.std.proofs.lemmas.List.Sorted.{All-permutation, IsPermutation-sym, IsPermutation-reverse}
use Rattle.std.specs.List.{AllByRecursion}
use Rattle.row_model.specs.Graph.{pair}
use Rattle.column_order.specs.Orders.{has}
use Rattle.pq_tree.specs.Outline.{Outline, Forest, leaf, p_node, q_node, no_tree, tree_and, leaves, leaves_of}
use Rattle.pq_tree.specs.Forests.{forest}
use Rattle.pq_tree.specs.Proper.{HasArities}
use Rattle.pq_tree.specs.Nodes.{children}
use Rattle.pq_tree.specs.Equivalent.{IsEquivalent, AreEquivalent}
use Rattle.pq_tree.proofs.Frontiers.{same_frontiers}
use Rattle.pq_tree.proofs.Equivalent.{equivalent_occurs, equivalent_arities}
use Rattle.tree_theory.specs.Tied.{IsForward}
use Rattle.tree_theory.proofs.Frontiers.{has_same}
use Rattle.tree_theory.specs.CanonicalLaws.{HaveSameFrontiers}
use Rattle.tree_theory.proofs.Shown.{Shown, shown}
use Rattle.tree_theory.proofs.Ends.{IsOnce, IsForced, Ended, ended, ends_forward}
use Rattle.tree_theory.proofs.Flip.{IsParted, parted}

-- the tree has not both columns
abbrev Lacks : ℕ → ℕ → Outline → Type 0
Lacks a b t = IsTrue (has (leaves t) a) → IsTrue (has (leaves t) b) → ⊥

each_parted : (a b : ℕ) (ts : List Outline) → IsParted (forest ts) a b → AllByRecursion (Lacks a b) ts
each_parted a b [] h = tt
each_parted a b (t ∷ ts) h = (h.0, each_parted a b ts h.1)

all_parted : (a b : ℕ) (ts : List Outline) → AllByRecursion (Lacks a b) ts → IsParted (forest ts) a b
all_parted a b [] h = tt
all_parted a b (t ∷ ts) h = (h.0, all_parted a b ts h.1)

moved_parted : (a b : ℕ) (us vs : List Outline) → IsPermutation us vs → IsParted (forest vs) a b → IsParted (forest us) a b
moved_parted a b us vs m h =
    all_parted a b us
    (recursion_from_All (Lacks a b) us
    (All-permutation (Lacks a b) vs us (IsPermutation-sym us vs m) (All-from_recursion (Lacks a b) vs (each_parted a b vs h))))

turned_has : (t u : Outline) → IsEquivalent t u → (a : ℕ) → IsTrue (has (leaves t) a) → IsTrue (has (leaves u) a)
turned_has t u h a k = has_same (leaves u) (leaves t) a (equivalent_occurs t u a h) ∙ k

turned_parted : (a b : ℕ) (ts : Forest) (us : List Outline) → AreEquivalent ts us → IsParted (forest us) a b → IsParted ts a b
turned_parted a b no_tree us h k = tt
turned_parted a b (tree_and t ts) [] h k = absurd h
turned_parted a b (tree_and t ts) (u ∷ us) h k =
    (λ ha hb. k.0 (turned_has t u h.0 a ha) (turned_has t u h.0 b hb), turned_parted a b ts us h.1 k.1)

parted_back : (a b : ℕ) (t u : Outline) → IsEquivalent t u → IsParted (children u) a b → IsParted (children t) a b
parted_back a b (leaf x) u h k = tt
parted_back a b (p_node ts) u h k =
    turned_parted a b ts h.0 h.2 (moved_parted a b h.0 h.1 h.3 (subst (λ x. IsParted (children x) a b) h.4 k))
parted_back a b (q_node ts) u h k =
    turned_parted a b ts h.0 h.1
    (elim h.2 [
      | inl e ↦ subst (λ x. IsParted (children x) a b) e k
      | inr e ↦ moved_parted a b h.0 (reverse h.0) (IsPermutation-reverse h.0) (subst (λ x. IsParted (children x) a b) e k)
    ])

-- the first and the last leaf of a tree are in different children
tree_ends : (t : Outline) → HasArities t → (c : ℕ) (m : List ℕ) (d : ℕ) → leaves t ≡ c ∷ (m ++ d ∷ []) → IsForward (children t) (pair c d)
tree_ends (leaf a) h c [] d e = let none : [] ≡ d ∷ [] = cc in absurd (nil_cons d [] none)
  where
    nil_cons : (x : ℕ) (xs : List ℕ) → [] ≡ x ∷ xs → ⊥
    nil_cons x xs e = cc
tree_ends (leaf a) h c (x ∷ m) d e = cc
tree_ends (p_node ts) h c m d e = ends_forward ts h.0 h.1 c m d e
tree_ends (q_node ts) h c m d e = ends_forward ts (omega (arith, h.0)) h.1 c m d e

once_children : (t : Outline) → IsOnce (leaves t) → IsOnce (leaves_of (children t))
once_children (leaf a) once x = omega arith
once_children (p_node ts) once x = once x
once_children (q_node ts) once x = once x

pub crossed : (t u : Outline) → HasArities t → HasArities u → IsOnce (leaves t) → IsOnce (leaves u) → HaveSameFrontiers t u → (a b : ℕ) → IsForward (children t) (pair a b) →
    IsParted (children u) a b
crossed t u ht hu once_t once_u same a b h =
    let e : Ended t a b = ended t ht once_t a b h in
    let s : Shown u e.order = shown u e.order ((same e.order).0 e.frontier) in
    let once : IsOnce (leaves s.tree) = λ x. omega (arith, once_u x, equivalent_occurs u s.tree x s.turned) in
    let fw : IsForward (children s.tree) (pair e.front e.rear) =
    tree_ends s.tree (equivalent_arities u s.tree s.turned hu) e.front e.middle e.rear (s.leaves_are ∙ e.is) in
    let forced : IsForced s.tree (pair a b) (pair e.front e.rear) =
    λ f k. e.forced f ((same f).1 ((same_frontiers u s.tree s.turned f).1 k)) in
    parted_back a b u s.tree s.turned (parted s.tree (once_children s.tree once) a b e.front e.rear fw forced)
