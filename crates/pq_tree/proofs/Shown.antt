-- What the outline of a tree is at each of its cases.
use Rattle.std.proofs.Common.{◌≡◌, ◌∙◌, ◌+◌, ◌<◌, ℕ, ◌⊎◌, inl, inr, ◌≤◌, List, [], ◌∷◌, ◌++◌, map, refl, sym, ap, take, drop, drop-cons, length, get_or, suc, add-one}
use Rattle.std.proofs.lemmas.List.{map-append, map_more, append_assoc, append-nil, take_all}
use Rattle.std.specs.declared.vec.Vec.{Vec}
use Rattle.std.specs.declared.alloc.Global.{Global}
use Rattle.pq_tree.specs.Outline.{Outline, leaf, p_node, q_node, tree_and, leaves, leaves_of}
use Rattle.pq_tree.specs.Proper.{outline_of, forest_of, forest, columns}
use Rattle.pq_tree.specs.declared.Tree.{Tree, Leaf, P, Q, Row_of-Tree, end_of-Tree, more_of-Tree, items-the_row-Tree, items_hidden-the_row-Tree-0}
use Rattle.pq_tree.specs.declared.Tree.TheBlock.{hidden-the_row-Tree-0}

pub forest_of_row : {n : _} (k : Row_of-Tree n) → forest_of k ≡ forest (map outline_of (items-the_row-Tree n k))
unfolding outline_of forest_of
forest_of_row end_of-Tree = refl
forest_of_row (more_of-Tree t rest) = ap (tree_and (outline_of t)) (forest_of_row rest)

pub outline_of-Leaf : (a : ℕ) → outline_of (Leaf a) ≡ leaf a
unfolding outline_of forest_of
outline_of-Leaf a = refl

pub outline_of-P : (v : Vec Tree Global) → outline_of (P v) ≡ p_node (forest (map outline_of v.items))
unfolding outline_of forest_of
outline_of-P v = ap p_node (forest_of_row (hidden-the_row-Tree-0 v) ∙ ap (λ ts. forest (map outline_of ts)) (items_hidden-the_row-Tree-0 v))

pub outline_of-Q : (v : Vec Tree Global) → outline_of (Q v) ≡ q_node (forest (map outline_of v.items))
unfolding outline_of forest_of
outline_of-Q v = ap q_node (forest_of_row (hidden-the_row-Tree-0 v) ∙ ap (λ ts. forest (map outline_of ts)) (items_hidden-the_row-Tree-0 v))

pub leaves_of-append : (ss ts : List Outline) → leaves_of (forest (ss ++ ts)) ≡ leaves_of (forest ss) ++ leaves_of (forest ts)
leaves_of-append [] ts = refl
leaves_of-append (s ∷ ss) ts = ap (λ x. leaves s ++ x) (leaves_of-append ss ts) ∙ sym (append_assoc (leaves s) (leaves_of (forest ss)) (leaves_of (forest ts)))

-- the columns of the first children, with one child more
pub front_more : (ts : List Tree) (i : ℕ) (d : Tree) → i < length ts →
    leaves_of (forest (map outline_of (take (i + 1) ts))) ≡ leaves_of (forest (map outline_of (take i ts))) ++ leaves (outline_of (get_or ts i d))
front_more ts i d h =
    ap (λ x. leaves_of (forest x)) (map_more outline_of ts i d h) ∙
    leaves_of-append (map outline_of (take i ts)) (outline_of (get_or ts i d) ∷ []) ∙
    ap (λ x. leaves_of (forest (map outline_of (take i ts))) ++ x) (append-nil (leaves (outline_of (get_or ts i d))))

-- the loop over the children: one child more, and all of them
pub push_step : (old cols new : List ℕ) (ts : List Tree) (i : ℕ) (child : Tree) → i < length ts → child ≡ get_or ts i child →
    cols ≡ old ++ leaves_of (forest (map outline_of (take i ts))) → new ≡ cols ++ leaves (outline_of child) →
    new ≡ old ++ leaves_of (forest (map outline_of (take (i + 1) ts)))
push_step old cols new ts i child h r e k =
    rw (front_more ts i child h, ← r, ← append_assoc, ← e) k

pub leaves_of_node : (t : Tree) (v : Vec Tree Global) → (t ≡ P v) ⊎ (t ≡ Q v) → leaves (outline_of t) ≡ leaves_of (forest (map outline_of v.items))
leaves_of_node t v h =
    elim h [
      | inl e ↦ ap (λ x. leaves (outline_of x)) e ∙ ap leaves (outline_of-P v)
      | inr e ↦ ap (λ x. leaves (outline_of x)) e ∙ ap leaves (outline_of-Q v)
    ]

pub push_all : (old cols : List ℕ) (ts : List Tree) (i : ℕ) (t : Tree) (v : Vec Tree Global) → (t ≡ P v) ⊎ (t ≡ Q v) → ts ≡ v.items →
    length ts ≤ i → cols ≡ old ++ leaves_of (forest (map outline_of (take i ts))) → cols ≡ old ++ leaves (outline_of t)
push_all old cols ts i t v h s l e = rw (leaves_of_node t v h, ← s) (rw (take_all i ts l) at e)

-- the children of the universal tree, one more at a time
pub leaf_more : (ts new : List Tree) (i : ℕ) → map outline_of ts ≡ map leaf (columns i) → new ≡ ts ++ Leaf (i + 1) ∷ [] → map outline_of new ≡ map leaf (columns (i + 1))
leaf_more ts new i e k =
    rw (k, map-append outline_of ts (Leaf (i + 1) ∷ []), outline_of-Leaf (i + 1), e, add-one, map-append leaf (columns i) (suc i ∷ [])) refl

-- the outline of a node over its children
pub outline_p : (t : Tree) (v : Vec Tree Global) (ts : List Tree) → t ≡ P v → ts ≡ v.items → outline_of t ≡ p_node (forest (map outline_of ts))
outline_p t v ts e s = ap outline_of e ∙ outline_of-P v ∙ ap (λ x. p_node (forest (map outline_of x))) (sym s)

pub outline_q : (t : Tree) (v : Vec Tree Global) (ts : List Tree) → t ≡ Q v → ts ≡ v.items → outline_of t ≡ q_node (forest (map outline_of ts))
outline_q t v ts e s = ap outline_of e ∙ outline_of-Q v ∙ ap (λ x. q_node (forest (map outline_of x))) (sym s)

-- the children from an index on are the child there and the others
pub rest_at : (ts : List Tree) (i : ℕ) (t : Tree) → i < length ts → t ≡ get_or ts i t → forest (map outline_of (drop i ts)) ≡ tree_and (outline_of t) (forest (map outline_of (drop (i + 1) ts)))
rest_at ts i t l e =
    ap (λ x. forest (map outline_of x)) (drop-cons ts i t l) ∙
    ap (λ x. tree_and (outline_of x) (forest (map outline_of (drop (suc i) ts)))) (sym e) ∙
    ap (λ k. tree_and (outline_of t) (forest (map outline_of (drop k ts)))) (sym (add-one i))
