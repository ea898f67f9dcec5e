-- The children of a node of the program, and the first of them.
use Rattle.std.proofs.Common.{◌≡◌, ◌⊎◌, ◌∙◌, ℕ, zero, suc, ◌+◌, ◌-◌, ◌<◌, ◌≤◌, List, [], ◌∷◌, ◌++◌, length, map, take, get_or, IsTrue, sym, ap, subst, arith, length-append}
use Rattle.std.proofs.lemmas.List.{get_or-map, length-map, length-take-le, map_more, take_all}
use Rattle.std.specs.declared.vec.Vec.{Vec}
use Rattle.std.specs.declared.alloc.Global.{Global}
use Rattle.column_order.specs.Orders.{has, occurs}
use Rattle.column_order.proofs.Lists.{has_from_occurs, occurs_from_has, occurs-append}
use Rattle.pq_tree.specs.Outline.{Outline, leaf, p_node, q_node, leaves, leaves_of}
use Rattle.pq_tree.specs.Proper.{outline_of, forest, HasArities, HaveArities}
use Rattle.pq_tree.specs.declared.Tree.{Tree, Leaf, P, Q}
use Rattle.pq_tree.proofs.Forests.{count_forest}
use Rattle.pq_tree.proofs.Shown.{outline_of-Leaf, outline_of-P, outline_of-Q, leaves_of_node, front_more}
use Rattle.tree_meet.specs.TreeRows.{neighbours, groups, groups_of}
use Rattle.tree_meet.proofs.Walked.{tree_part, groups_push, neighbours_count}

-- the leaves of a leaf, and of a node over some children
pub leaf_leaves : (t : Tree) (a : ℕ) → t ≡ Leaf a → leaves (outline_of t) ≡ a ∷ []
leaf_leaves t a e = ap (λ x. leaves (outline_of x)) e ∙ ap leaves (outline_of-Leaf a)

pub node_leaves : (t : Tree) (v : Vec Tree Global) (ts : List Tree) → (t ≡ P v) ⊎ (t ≡ Q v) → ts ≡ v.items → leaves (outline_of t) ≡ leaves_of (forest (map outline_of ts))
node_leaves t v ts h e = leaves_of_node t v h ∙ ap (λ (xs : List Tree). leaves_of (forest (map outline_of xs))) (sym e)

-- a column of a child stands no more often in it than in all children
pub child_occurs : (ts : List Tree) (i : ℕ) (t : Tree) → i < length ts → t ≡ get_or ts i t → (a : ℕ) → occurs (leaves (outline_of t)) a ≤ occurs (leaves_of (forest (map outline_of ts))) a
child_occurs ts i t h e a =
    let same : get_or (map outline_of ts) i (leaf 0) ≡ outline_of t = get_or-map outline_of ts i t (leaf 0) h ∙ ap outline_of (sym e) in
    omega (arith, tree_part (map outline_of ts) i (leaf 0) (omega (arith, h, length-map ts outline_of)) a, ap (λ (x : Outline). occurs (leaves x) a) same)

pub child_has : (ts : List Tree) (i : ℕ) (t : Tree) → i < length ts → t ≡ get_or ts i t → (a : ℕ) → IsTrue (has (leaves (outline_of t)) a) → IsTrue (has (leaves_of (forest (map outline_of ts))) a)
child_has ts i t h e a k =
    has_from_occurs (leaves_of (forest (map outline_of ts))) a (omega (arith, child_occurs ts i t h e a, occurs_from_has (leaves (outline_of t)) a k))

-- one child more
pub leaves_more : (ts : List Tree) (i : ℕ) (t : Tree) → i < length ts → t ≡ get_or ts i t →
    leaves_of (forest (map outline_of (take (i + 1) ts))) ≡ leaves_of (forest (map outline_of (take i ts))) ++ leaves (outline_of t)
leaves_more ts i t h e = front_more ts i t h ∙ ap (λ x. leaves_of (forest (map outline_of (take i ts))) ++ leaves (outline_of x)) (sym e)

pub outlines_more : (ts : List Tree) (i : ℕ) (t : Tree) → i < length ts → t ≡ get_or ts i t → map outline_of (take (i + 1) ts) ≡ map outline_of (take i ts) ++ outline_of t ∷ []
outlines_more ts i t h e = map_more outline_of ts i t h ∙ ap (λ x. map outline_of (take i ts) ++ outline_of x ∷ []) (sym e)

pub front_length : (ts : List Tree) (i : ℕ) → i < length ts → length (map outline_of (take i ts)) ≡ i
front_length ts i h = length-map (take i ts) outline_of ∙ length-take-le i ts (omega arith)

-- the leaves of the first children stand no more often in them than in all
pub front_occurs : (ts : List Tree) (k a : ℕ) → occurs (leaves_of (forest (map outline_of (take k ts)))) a ≤ occurs (leaves_of (forest (map outline_of ts))) a
front_occurs [] k a = omega (arith, ap (λ (x : List Tree). occurs (leaves_of (forest (map outline_of x))) a) (take_all k [] (omega arith)))
front_occurs (t ∷ ts) zero a = omega arith
front_occurs (t ∷ ts) (suc k) a =
    omega (arith, front_occurs ts k a, occurs-append (leaves (outline_of t)) (leaves_of (forest (map outline_of (take k ts)))) a, occurs-append (leaves (outline_of t)) (leaves_of (forest (map outline_of ts))) a)

-- no column stands twice in the first children and the next one together
pub front_once : (ts : List Tree) (i : ℕ) (t : Tree) → i < length ts → t ≡ get_or ts i t → ((a : ℕ) → occurs (leaves_of (forest (map outline_of ts))) a ≤ 1) →
    (a : ℕ) → occurs (leaves_of (forest (map outline_of (take i ts))) ++ leaves (outline_of t)) a ≤ 1
front_once ts i t h e once a =
    omega (arith, ap (λ (l : List ℕ). occurs l a) (leaves_more ts i t h e), front_occurs ts (i + 1) a, once a)

-- the groups of a node over some children
pub groups_P : (t : Tree) (v : Vec Tree Global) (ts : List Tree) → t ≡ P v → ts ≡ v.items →
    groups (outline_of t) ≡ leaves_of (forest (map outline_of ts)) ∷ groups_of (forest (map outline_of ts))
groups_P t v ts h e =
    ap (λ x. groups (outline_of x)) h ∙ ap groups (outline_of-P v) ∙
    ap (λ (xs : List Tree). leaves_of (forest (map outline_of xs)) ∷ groups_of (forest (map outline_of xs))) (sym e)

pub groups_Q : (t : Tree) (v : Vec Tree Global) (ts : List Tree) → t ≡ Q v → ts ≡ v.items →
    groups (outline_of t) ≡ leaves_of (forest (map outline_of ts)) ∷ (neighbours (forest (map outline_of ts)) ++ groups_of (forest (map outline_of ts)))
groups_Q t v ts h e =
    ap (λ x. groups (outline_of x)) h ∙ ap groups (outline_of-Q v) ∙
    ap (λ (xs : List Tree). leaves_of (forest (map outline_of xs)) ∷ (neighbours (forest (map outline_of xs)) ++ groups_of (forest (map outline_of xs)))) (sym e)

-- how many they are: between the children of a Q-node there is one more for each two neighbours
pub count_P : (t : Tree) (v : Vec Tree Global) (ts : List Tree) → t ≡ P v → ts ≡ v.items → length (groups (outline_of t)) ≡ 1 + length (groups_of (forest (map outline_of ts)))
count_P t v ts h e = omega (arith, ap (λ (l : List (List ℕ)). length l) (groups_P t v ts h e))

pub count_Q : (t : Tree) (v : Vec Tree Global) (ts : List Tree) → t ≡ Q v → ts ≡ v.items →
    length (groups (outline_of t)) ≡ 1 + ((length ts - 1) + length (groups_of (forest (map outline_of ts))))
count_Q t v ts h e =
    let F = forest (map outline_of ts) in
    omega (arith, ap (λ (l : List (List ℕ)). length l) (groups_Q t v ts h e), length-append (neighbours F) (groups_of F), neighbours_count (map outline_of ts), length-map ts outline_of)

pub groups_leaf : (t : Tree) (a : ℕ) → t ≡ Leaf a → groups (outline_of t) ≡ []
groups_leaf t a e = ap (λ x. groups (outline_of x)) e ∙ ap groups (outline_of-Leaf a)

-- one child more, and all of them
pub groups_more_exact : (ts : List Tree) (i : ℕ) (t : Tree) → i < length ts → t ≡ get_or ts i t →
    length (groups_of (forest (map outline_of (take (i + 1) ts)))) ≡ length (groups_of (forest (map outline_of (take i ts)))) + length (groups (outline_of t))
groups_more_exact ts i t h e =
    ap (λ (l : List (List ℕ)). length l) (ap (λ x. groups_of (forest x)) (outlines_more ts i t h e) ∙ groups_push (map outline_of (take i ts)) (outline_of t)) ∙
    length-append (groups_of (forest (map outline_of (take i ts)))) (groups (outline_of t))

pub groups_more : (ts : List Tree) (i : ℕ) (t : Tree) → i < length ts → t ≡ get_or ts i t →
    length (groups_of (forest (map outline_of (take i ts)))) + length (groups (outline_of t)) ≤ length (groups_of (forest (map outline_of ts)))
groups_more ts i t h e = omega (arith, groups_more_exact ts i t h e, groups_first ts (i + 1))
  where
    groups_first : (ts : List Tree) (k : ℕ) → length (groups_of (forest (map outline_of (take k ts)))) ≤ length (groups_of (forest (map outline_of ts)))
    groups_first [] k = omega (arith, ap (λ (x : List Tree). length (groups_of (forest (map outline_of x)))) (take_all k [] (omega arith)))
    groups_first (t ∷ ts) zero = omega arith
    groups_first (t ∷ ts) (suc k) =
        omega (arith, groups_first ts k, length-append (groups (outline_of t)) (groups_of (forest (map outline_of (take k ts)))), length-append (groups (outline_of t)) (groups_of (forest (map outline_of ts))))

-- the children of a node of a tree with enough children everywhere
pub arities_P : (t : Tree) (v : Vec Tree Global) (ts : List Tree) → t ≡ P v → ts ≡ v.items → HasArities (outline_of t) → HaveArities (forest (map outline_of ts))
arities_P t v ts h e a =
    let same : outline_of t ≡ p_node (forest (map outline_of ts)) = ap outline_of h ∙ outline_of-P v ∙ ap (λ (xs : List Tree). p_node (forest (map outline_of xs))) (sym e) in
    let all : HasArities (p_node (forest (map outline_of ts))) = subst HasArities same a in
    all.1

pub arities_Q : (t : Tree) (v : Vec Tree Global) (ts : List Tree) → t ≡ Q v → ts ≡ v.items → HasArities (outline_of t) → (3 ≤ length ts) × HaveArities (forest (map outline_of ts))
arities_Q t v ts h e a =
    let same : outline_of t ≡ q_node (forest (map outline_of ts)) = ap outline_of h ∙ outline_of-Q v ∙ ap (λ (xs : List Tree). q_node (forest (map outline_of xs))) (sym e) in
    let all : HasArities (q_node (forest (map outline_of ts))) = subst HasArities same a in
    (omega (arith, all.0, count_forest (map outline_of ts), length-map ts outline_of), all.1)

-- a Q-node has a group for each child, besides those of the children
pub counted_Q : (t : Tree) (v : Vec Tree Global) (ts : List Tree) → t ≡ Q v → ts ≡ v.items → HasArities (outline_of t) →
    length (groups (outline_of t)) ≡ length ts + length (groups_of (forest (map outline_of ts)))
counted_Q t v ts h e a = omega (arith, count_Q t v ts h e, (arities_Q t v ts h e a).0)

pub child_arities : (ts : List Tree) (i : ℕ) (t : Tree) → i < length ts → t ≡ get_or ts i t → HaveArities (forest (map outline_of ts)) → HasArities (outline_of t)
child_arities [] i t h e a = absurd (omega arith)
child_arities (u ∷ ts) zero t h e a = subst (λ (x : Tree). HasArities (outline_of x)) (sym e) a.0
child_arities (u ∷ ts) (suc i) t h e a = child_arities ts i t (omega arith) e a.1
