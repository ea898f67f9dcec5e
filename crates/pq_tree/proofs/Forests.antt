-- Joined and reversed lists of trees: their columns, their number and the children of their nodes.
use Rattle.std.proofs.Common.{◌≡◌, ◌⊎◌, ◌∙◌, ◌+◌, ◌≤◌, ℕ, List, [], ◌∷◌, ◌++◌, map, reverse, length, IsTrue, refl, sym, ap, arith, append_assoc}
use Rattle.std.proofs.lemmas.List.{map-append, reverse-append, length-append}
use Rattle.column_order.specs.Orders.{has, occurs}
use Rattle.column_order.proofs.Lists.{has_head, has_append_cases, has_append_left, has_append_right, has_same, occurs-append}
use Rattle.pq_tree.specs.Outline.{Outline, Forest, leaf, p_node, q_node, no_tree, tree_and, leaves, leaves_of}
use Rattle.pq_tree.specs.Forests.{forest, trees, count, join, back}
use Rattle.pq_tree.specs.Proper.{HasArities, HaveArities}

-- a reversed list of values
pub map-reverse : {A B : Type 0} (f : A → B) (xs : List A) → map f (reverse xs) ≡ reverse (map f xs)
map-reverse f [] = refl
map-reverse f (x ∷ xs) =
    ap (map f) (reverse-append (x ∷ []) xs) ∙ map-append f (reverse xs) (x ∷ []) ∙ ap (λ ys. ys ++ f x ∷ []) (map-reverse f xs) ∙ sym (reverse-append (f x ∷ []) (map f xs))

-- a forest and its list
pub forest-trees : (ts : Forest) → forest (trees ts) ≡ ts
forest-trees no_tree = refl
forest-trees (tree_and t ts) = ap (tree_and t) (forest-trees ts)

pub trees-forest : (ts : List Outline) → trees (forest ts) ≡ ts
trees-forest [] = refl
trees-forest (t ∷ ts) = ap (λ us. t ∷ us) (trees-forest ts)

pub forest_append : (xs ys : List Outline) → forest (xs ++ ys) ≡ join (forest xs) (forest ys)
forest_append [] ys = refl
forest_append (x ∷ xs) ys = ap (tree_and x) (forest_append xs ys)

pub forest_reverse : (xs : List Outline) → forest (reverse xs) ≡ back (forest xs)
forest_reverse [] = refl
forest_reverse (x ∷ xs) =
    ap forest (reverse-append (x ∷ []) xs) ∙ forest_append (reverse xs) (x ∷ []) ∙ ap (λ ts. join ts (tree_and x no_tree)) (forest_reverse xs)

-- joins and turns
pub join_no_tree : (xs : Forest) → join xs no_tree ≡ xs
join_no_tree no_tree = refl
join_no_tree (tree_and t ts) = ap (tree_and t) (join_no_tree ts)

pub join_assoc : (xs ys zs : Forest) → join (join xs ys) zs ≡ join xs (join ys zs)
join_assoc no_tree ys zs = refl
join_assoc (tree_and t ts) ys zs = ap (tree_and t) (join_assoc ts ys zs)

pub back-join : (xs ys : Forest) → back (join xs ys) ≡ join (back ys) (back xs)
back-join no_tree ys = sym (join_no_tree (back ys))
back-join (tree_and t ts) ys = ap (λ ws. join ws (tree_and t no_tree)) (back-join ts ys) ∙ join_assoc (back ys) (back ts) (tree_and t no_tree)

pub back-back : (xs : Forest) → back (back xs) ≡ xs
back-back no_tree = refl
back-back (tree_and t ts) = back-join (back ts) (tree_and t no_tree) ∙ ap (tree_and t) (back-back ts)

-- the number of trees
pub count_forest : (ts : List Outline) → count (forest ts) ≡ length ts
count_forest [] = refl
count_forest (t ∷ ts) = omega (arith, count_forest ts)

pub count_join : (xs ys : Forest) → count (join xs ys) ≡ count xs + count ys
count_join no_tree ys = omega arith
count_join (tree_and t ts) ys = omega (arith, count_join ts ys)

pub count_back : (ts : Forest) → count (back ts) ≡ count ts
count_back no_tree = refl
count_back (tree_and t ts) = omega (arith, count_join (back ts) (tree_and t no_tree), count_back ts)

-- enough children
pub arities_join : (xs ys : Forest) → HaveArities xs → HaveArities ys → HaveArities (join xs ys)
arities_join no_tree ys h k = k
arities_join (tree_and t ts) ys h k = (h.0, arities_join ts ys h.1 k)

pub arities_join_left : (xs ys : Forest) → HaveArities (join xs ys) → HaveArities xs
arities_join_left no_tree ys h = tt
arities_join_left (tree_and t ts) ys h = (h.0, arities_join_left ts ys h.1)

pub arities_join_right : (xs ys : Forest) → HaveArities (join xs ys) → HaveArities ys
arities_join_right no_tree ys h = h
arities_join_right (tree_and t ts) ys h = arities_join_right ts ys h.1

pub arities_back : (ts : Forest) → HaveArities ts → HaveArities (back ts)
arities_back no_tree h = tt
arities_back (tree_and t ts) h = arities_join (back ts) (tree_and t no_tree) (arities_back ts h.1) (h.0, tt)

-- the columns
pub leaves_of-join : (xs ys : Forest) → leaves_of (join xs ys) ≡ leaves_of xs ++ leaves_of ys
leaves_of-join no_tree ys = refl
leaves_of-join (tree_and t ts) ys = ap (λ l. leaves t ++ l) (leaves_of-join ts ys) ∙ sym (append_assoc (leaves t) (leaves_of ts) (leaves_of ys))

pub has_join_cases : (xs ys : Forest) (a : ℕ) → IsTrue (has (leaves_of (join xs ys)) a) → IsTrue (has (leaves_of xs) a) ⊎ IsTrue (has (leaves_of ys) a)
has_join_cases xs ys a h = has_append_cases (leaves_of xs) (leaves_of ys) a (rw leaves_of-join at h)

pub has_join_left : (xs ys : Forest) (a : ℕ) → IsTrue (has (leaves_of xs) a) → IsTrue (has (leaves_of (join xs ys)) a)
has_join_left xs ys a h = rw leaves_of-join (has_append_left (leaves_of xs) (leaves_of ys) a h)

pub has_join_right : (xs ys : Forest) (a : ℕ) → IsTrue (has (leaves_of ys) a) → IsTrue (has (leaves_of (join xs ys)) a)
has_join_right xs ys a h = rw leaves_of-join (has_append_right (leaves_of xs) (leaves_of ys) a h)

pub back_occurs : (ts : Forest) (a : ℕ) → occurs (leaves_of (back ts)) a ≡ occurs (leaves_of ts) a
back_occurs no_tree a = refl
back_occurs (tree_and t ts) a =
    rw (leaves_of-join (back ts) (tree_and t no_tree))
    (omega (arith, occurs-append (leaves_of (back ts)) (leaves t ++ []) a, occurs-append (leaves t) [] a, occurs-append (leaves t) (leaves_of ts) a, back_occurs ts a))

pub back_has : (ts : Forest) (a : ℕ) → has (leaves_of (back ts)) a ≡ has (leaves_of ts) a
back_has ts a = has_same (leaves_of (back ts)) (leaves_of ts) a (back_occurs ts a)

-- a tree whose nodes have enough children has a column
mutual
  pub some_leaf : (t : Outline) → HasArities t → (a : ℕ) × IsTrue (has (leaves t) a)
  some_leaf (leaf a) h = (a, has_head a [])
  some_leaf (p_node ts) h = some_leaf_of ts (omega (arith, h.0)) h.1
  some_leaf (q_node ts) h = some_leaf_of ts (omega (arith, h.0)) h.1

  pub some_leaf_of : (ts : Forest) → 1 ≤ count ts → HaveArities ts → (a : ℕ) × IsTrue (has (leaves_of ts) a)
  some_leaf_of no_tree n h = absurd (omega arith)
  some_leaf_of (tree_and t ts) n h =
      let k : (a : ℕ) × IsTrue (has (leaves t) a) = some_leaf t h.0 in
      (k.0, has_append_left (leaves t) (leaves_of ts) k.0 k.1)

-- proper trees have leaves
mutual
  pub leaves_some : (t : Outline) → HasArities t → 1 ≤ length (leaves t)
  leaves_some (leaf a) h = omega arith
  leaves_some (p_node ts) h = omega (arith, leaves_count ts h.1, h.0)
  leaves_some (q_node ts) h = omega (arith, leaves_count ts h.1, h.0)

  pub leaves_count : (ts : Forest) → HaveArities ts → count ts ≤ length (leaves_of ts)
  leaves_count no_tree h = omega arith
  leaves_count (tree_and t ts) h = omega (arith, leaves_some t h.0, leaves_count ts h.1, length-append (leaves t) (leaves_of ts))
