-- The least column, and trees in canonical order.
use Rattle.std.proofs.Common.{◌≡◌, ◌≢◌, ◌∙◌, ◌+◌, ◌<◌, ◌≤◌, ℕ, zero, suc, min, List, [], ◌∷◌, ◌++◌, map, take, length, get_or, fold, IsTrue, IsFalse, IsPermutation, sym, ap, subst, inl, inr, arith}
use Rattle.std.proofs.lemmas.Bool.{both_ways, cases_Bool, cases_lt}
use Rattle.std.proofs.lemmas.List.{map_more, map-append, take_all}
use Rattle.std.proofs.lemmas.List.Sums.{fold-append}
use Rattle.std.proofs.lemmas.List.Sorted.{IsPermutation-map}
use Rattle.std.specs.List.Sorted.{IsNonDecreasingBy, IsStrictlyIncreasing}
use Rattle.std.specs.declared.vec.Vec.{Vec}
use Rattle.std.specs.declared.alloc.Global.{Global}
use Rattle.column_order.specs.Orders.{has}
use Rattle.column_order.proofs.Lists.{has_head, has_append_left, has_append_right, occurs-append, apart}
use Rattle.pq_tree.specs.Outline.{Outline, Forest, leaf, p_node, q_node, no_tree, tree_and, leaves, leaves_of}
use Rattle.pq_tree.specs.Proper.{outline_of, forest, count, HasArities, HaveArities, IsTree, AreTrees}
use Rattle.pq_tree.specs.Equivalent.{IsEquivalent, AreEquivalent}
use Rattle.pq_tree.specs.Canonical.{least, least_of, leasts, CanonicalIfTree, AreCanonicalIfTrees, AreCanonical}
use Rattle.pq_tree.specs.Arranged.{outline_in}
use Rattle.pq_tree.specs.declared.Tree.{Tree, Leaf, P, Q}
use Rattle.pq_tree.specs.declared.arranged.Arranged.{Arranged}
use Rattle.pq_tree.proofs.Forests.{trees-forest}
use Rattle.pq_tree.proofs.Shown.{outline_of-Leaf, outline_of-P, outline_of-Q}
use Rattle.pq_tree.proofs.Turnings.{are_equivalent_refl, turned_P, turned_Q}

-- the first of the trees, and the others
first_tree : (t : Outline) (ts : Forest) → AreTrees (tree_and t ts) → IsTree t
first_tree t ts h = (h.0.0, λ a. omega (arith, h.1 a, occurs-append (leaves t) (leaves_of ts) a))

other_trees : (t : Outline) (ts : Forest) → AreTrees (tree_and t ts) → AreTrees ts
other_trees t ts h = (h.0.1, λ a. omega (arith, h.1 a, occurs-append (leaves t) (leaves_of ts) a))

-- the least column is a column
mutual
  pub least_has : (t : Outline) → HasArities t → IsTrue (has (leaves t) (least t))
  least_has (leaf a) h = has_head a []
  least_has (p_node ts) h = least_have ts (omega (arith, h.0)) h.1
  least_has (q_node ts) h = least_have ts (omega (arith, h.0)) h.1

  least_have : (ts : Forest) → 1 ≤ count ts → HaveArities ts → IsTrue (has (leaves_of ts) (least_of ts))
  least_have no_tree l h = absurd (omega (arith, l))
  least_have (tree_and t no_tree) l h = has_append_left (leaves t) [] (least t) (least_has t h.0)
  least_have (tree_and t (tree_and u us)) l h =
      let r = least_have (tree_and u us) (omega arith) h.1 in
      let m = least_of (tree_and u us) in
      elim (cases_lt m (least t)) [
        | inl k ↦
            let e : min (least t) m ≡ m = omega arith in
            rw e (has_append_right (leaves t) (leaves_of (tree_and u us)) m r)
        | inr k ↦
            let e : min (least t) m ≡ least t = omega arith in
            rw e (has_append_left (leaves t) (leaves_of (tree_and u us)) (least t) (least_has t h.0))
      ]

-- a number that is no column of the tree is not its least column
pub not_least : (m : ℕ) (t : Outline) → HasArities t → IsFalse (has (leaves t) m) → m ≢ least t
not_least m t h lacks e = both_ways (has (leaves t) m) lacks (subst (λ n. IsTrue (has (leaves t) n)) (sym e) (least_has t h))

pub lacks_first : (xs ys : List ℕ) (m : ℕ) → IsFalse (has (xs ++ ys) m) → IsFalse (has xs m)
lacks_first xs ys m h = elim (cases_Bool (has xs m)) [ inl k ↦ absurd (both_ways (has (xs ++ ys) m) h (has_append_left xs ys m k)) | inr k ↦ k ]

pub lacks_others : (xs ys : List ℕ) (m : ℕ) → IsFalse (has (xs ++ ys) m) → IsFalse (has ys m)
lacks_others xs ys m h = elim (cases_Bool (has ys m)) [ inl k ↦ absurd (both_ways (has (xs ++ ys) m) h (has_append_right xs ys m k)) | inr k ↦ k ]

-- the later trees lack the least column of the first
pub others_lack : (t : Outline) (ts : Forest) → AreTrees (tree_and t ts) → IsFalse (has (leaves_of ts) (least t))
others_lack t ts h = apart (leaves t) (leaves_of ts) (least t) (h.1 (least t)) (least_has t h.0.0)

-- each of the trees is canonical
pub all_canonical : (ts : Forest) → AreCanonicalIfTrees ts → AreTrees ts → AreCanonical ts
all_canonical no_tree k h = tt
all_canonical (tree_and t ts) k h = (k.0 (first_tree t ts h), all_canonical ts k.1 (other_trees t ts h))

each_canonical : (xs : List Arranged) → AreCanonicalIfTrees (forest (map outline_in xs))
each_canonical [] = tt
each_canonical (x ∷ xs) = (x.canonical, each_canonical xs)

-- nodes over such trees
pub canonical_leaf : (a : ℕ) → CanonicalIfTree (outline_of (Leaf a))
canonical_leaf a = rw (outline_of-Leaf a) (λ h. tt)

pub least_leaf : (a : ℕ) → a ≡ least (outline_of (Leaf a))
least_leaf a = sym (ap least (outline_of-Leaf a))

pub outline_over_P : (v : Vec Tree Global) (xs : List Arranged) → map outline_of v.items ≡ map outline_in xs → outline_of (P v) ≡ p_node (forest (map outline_in xs))
outline_over_P v xs e = outline_of-P v ∙ ap (λ ts. p_node (forest ts)) e

pub canonical_P : (v : Vec Tree Global) (xs : List Arranged) → map outline_of v.items ≡ map outline_in xs →
    (AreTrees (forest (map outline_in xs)) → IsStrictlyIncreasing (leasts (forest (map outline_in xs)))) → CanonicalIfTree (outline_of (P v))
canonical_P v xs e h =
    subst CanonicalIfTree (sym (outline_over_P v xs e)) (λ t. let ts : AreTrees (forest (map outline_in xs)) = (t.0.1, t.1) in (h ts, all_canonical (forest (map outline_in xs)) (each_canonical xs) ts))

pub least_P : (v : Vec Tree Global) (xs : List Arranged) (m : ℕ) → map outline_of v.items ≡ map outline_in xs → m ≡ least_of (forest (map outline_in xs)) → m ≡ least (outline_of (P v))
least_P v xs m e h = h ∙ sym (ap least (outline_over_P v xs e))

-- the least of the least columns
abbrev pub key : Arranged → ℕ
key x = x.least_column

fold_least : (m : ℕ) (x : Arranged) (xs : List Arranged) → fold min m (map key (x ∷ xs)) ≡ min m (least_of (forest (map outline_in (x ∷ xs))))
fold_least m x [] = ap (min m) x.is_least
fold_least m x (y ∷ ys) = omega (arith, fold_least (min m x.least_column) y ys, x.is_least)

pub fold_step : (xs : List Arranged) (i : ℕ) (x : Arranged) (m old new : ℕ) → i < length xs → x ≡ get_or xs i x →
    old ≡ fold min m (map key (take i xs)) → new ≡ min old (key x) → new ≡ fold min m (map key (take (i + 1) xs))
fold_step xs i x m old new h r e k =
    k ∙
    ap (λ n. min n (key x)) e ∙
    ap (λ y. min (fold min m (map key (take i xs))) (key y)) r ∙
    sym (fold-append min m (map key (take i xs)) (key (get_or xs i x) ∷ [])) ∙
    ap (fold min m) (sym (map_more key xs i x h))

pub fold_all : (all : List Arranged) (x : Arranged) (xs : List Arranged) (i m : ℕ) → all ≡ x ∷ xs → length xs ≤ i → m ≡ fold min (key x) (map key (take i xs)) →
    m ≡ least_of (forest (map outline_in all))
fold_all all x xs i m e l h =
    h ∙ ap (λ ys. fold min (key x) (map key ys)) (take_all i xs l) ∙ folded x xs ∙ ap (λ ys. least_of (forest (map outline_in ys))) (sym e)
  where
    folded : (x : Arranged) (xs : List Arranged) → fold min (key x) (map key xs) ≡ least_of (forest (map outline_in (x ∷ xs)))
    folded x [] = x.is_least
    folded x (y ∷ ys) = fold_least (key x) y ys ∙ ap (λ n. min n (least_of (forest (map outline_in (y ∷ ys))))) x.is_least

-- by the sort
rise_more : (m n : ℕ) (ms : List ℕ) → m < n → IsStrictlyIncreasing (n ∷ ms) → IsStrictlyIncreasing (m ∷ n ∷ ms)
rise_more m n ms l h zero k = l
rise_more m n ms l h (suc i) k =
    let e : suc (i + 1) ≡ suc i + 1 = omega arith in
    subst (λ j. get_or (n ∷ ms) i 0 < get_or (m ∷ n ∷ ms) j 0) e (h i (omega arith))

pub rising : (xs : List Arranged) → IsNonDecreasingBy key xs → AreTrees (forest (map outline_in xs)) →
    IsStrictlyIncreasing (leasts (forest (map outline_in xs)))
rising [] h k = λ i l. absurd (omega arith)
rising (x ∷ []) h k = λ i l. absurd (omega arith)
rising (x ∷ y ∷ ys) h k =
    let ts = forest (map outline_in ys) in
    let m = least (outline_in x) in
    let other : m ≢ least (outline_in y) =
    not_least m (outline_in y) k.0.1.0 (lacks_first (leaves (outline_in y)) (leaves_of ts) m (others_lack (outline_in x) (tree_and (outline_in y) ts) k)) in
    rise_more m (least (outline_in y)) (leasts ts)
    (omega (arith, h 0 1 x (omega arith) (omega arith), x.is_least, y.is_least, other))
    (rising (y ∷ ys) (λ i j d l n. h (suc i) (suc j) d (omega arith) (omega arith)) (other_trees (outline_in x) (tree_and (outline_in y) ts) k))

-- the walk
pub equivalent_push : (ts us : List Outline) (t u : Outline) → AreEquivalent (forest ts) us → IsEquivalent t u → AreEquivalent (forest (ts ++ t ∷ [])) (us ++ u ∷ [])
equivalent_push [] [] t u h k = (k, tt)
equivalent_push [] (v ∷ us) t u h k = absurd h
equivalent_push (s ∷ ts) [] t u h k = absurd h
equivalent_push (s ∷ ts) (v ∷ us) t u h k = (h.0, equivalent_push ts us t u h.1 k)

pub equivalent_more : {B : Type 0} (g : B → Outline) (ts : List B) (us new : List Outline) (i : ℕ) (d t : B) (u : Outline) → i < length ts → t ≡ get_or ts i d →
    new ≡ us ++ u ∷ [] → AreEquivalent (forest (map g (take i ts))) us → IsEquivalent (g t) u → AreEquivalent (forest (map g (take (i + 1) ts))) new
equivalent_more g ts us new i d t u h r e k m =
    subst (λ ss. AreEquivalent (forest ss) new) (sym (map_more g ts i d h))
    (subst (AreEquivalent (forest (map g (take i ts) ++ g (get_or ts i d) ∷ []))) (sym e)
    (equivalent_push (map g (take i ts)) us (g (get_or ts i d)) u k (subst (λ c. IsEquivalent (g c) u) r m)))

pub equivalent_step : {A : Type 0} (f : A → Outline) (ts : List Tree) (xs new : List A) (i : ℕ) (t : Tree) (x : A) → i < length ts → t ≡ get_or ts i t → new ≡ xs ++ x ∷ [] →
    AreEquivalent (forest (map outline_of (take i ts))) (map f xs) → IsEquivalent (outline_of t) (f x) → AreEquivalent (forest (map outline_of (take (i + 1) ts))) (map f new)
equivalent_step f ts xs new i t x h r e =
    equivalent_more outline_of ts (map f xs) (map f new) i t t (f x) h r (ap (map f) e ∙ map-append f xs (x ∷ []))

pub equivalent_leaf : (t : Tree) (u : Outline) (a : ℕ) → t ≡ Leaf a → u ≡ leaf a → IsEquivalent (outline_of t) u
equivalent_leaf t u a e k = rw (e, outline_of-Leaf a) k

pub equivalent_P : (t : Tree) (u : Outline) (v : Vec Tree Global) (ts : List Tree) (us : List Outline) → t ≡ P v → ts ≡ v.items →
    AreEquivalent (forest (map outline_of ts)) us → IsEquivalent (p_node (forest us)) u → IsEquivalent (outline_of t) u
equivalent_P t u v ts us e s h k = rw (e, outline_of-P v, ← s) (turned_P (forest (map outline_of ts)) us u h k)

pub equivalent_Q : (t : Tree) (u : Outline) (v : Vec Tree Global) (ts : List Tree) (us : List Outline) → t ≡ Q v → ts ≡ v.items →
    AreEquivalent (forest (map outline_of ts)) us → IsEquivalent (q_node (forest us)) u → IsEquivalent (outline_of t) u
equivalent_Q t u v ts us e s h k = rw (e, outline_of-Q v, ← s) (turned_Q (forest (map outline_of ts)) us u h k)

-- the P-node over trees that have been put in order
pub sorted_P : (xs ys : List Arranged) (u : Outline) → IsPermutation xs ys → u ≡ p_node (forest (map outline_in ys)) → IsEquivalent (p_node (forest (map outline_in xs))) u
sorted_P xs ys u m k =
    let us = map outline_in xs in
    (us, map outline_in ys, subst (AreEquivalent (forest us)) (trees-forest us) (are_equivalent_refl (forest us)), IsPermutation-map outline_in xs ys m, k)
