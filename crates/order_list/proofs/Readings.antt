-- What is read from trees: its columns, its parts, and the tree from which the first column is read.
use Rattle.std.proofs.Common.{◌≡◌, ◌∙◌, ◌<◌, ◌≤◌, ℕ, zero, suc, List, [], ◌∷◌, ◌++◌, reverse, length, IsTrue, refl, sym, ap, subst, arith, append_assoc}
use Rattle.std.proofs.lemmas.Bool.{both_ways}
use Rattle.std.proofs.lemmas.List.{reverse-append}
use Rattle.std.proofs.lemmas.List.Folds.{concat-append}
use Rattle.std.specs.List.{concat}
use Rattle.column_order.specs.Orders.{has, occurs}
use Rattle.column_order.proofs.Lists.{has_head, has_same, has_append_left, has_append_right, occurs-append, occurs_from_has, apart}
use Rattle.pq_tree.specs.Outline.{Outline, leaves, leaves_of, IsFrontier, AreFrontiers}
use Rattle.pq_tree.specs.Proper.{forest, HasArities, HaveArities}
use Rattle.pq_tree.proofs.Forests.{count_forest, some_leaf, some_leaf_of}
use Rattle.pq_tree.proofs.Frontiers.{frontier_occurs}
use Rattle.order_list.specs.Reading.{Reads, CanBegin, tree_at}

pub reads_occurs : (ts : List Outline) (f : List ℕ) (a : ℕ) → Reads ts f → occurs f a ≡ occurs (leaves_of (forest ts)) a
reads_occurs [] f a r = ap (λ x. occurs x a) r
reads_occurs (t ∷ ts) f a r =
    ap (λ x. occurs x a) r.4 ∙
    omega (arith, occurs-append r.0 r.1 a, occurs-append (leaves t) (leaves_of (forest ts)) a, frontier_occurs t r.0 a r.2, reads_occurs ts r.1 a r.3)

-- reading goes on from one list of trees to the next
pub reads_append : (ts us : List Outline) (g h : List ℕ) → Reads ts g → Reads us h → Reads (ts ++ us) (g ++ h)
reads_append [] us g h r s = subst (λ x. Reads us (x ++ h)) (sym r) s
reads_append (t ∷ ts) us g h r s = (r.0, r.1 ++ h, r.2, reads_append ts us r.1 h r.3 s, ap (λ x. x ++ h) r.4 ∙ append_assoc r.0 r.1 h)

pub reads_parted : (ts us : List Outline) (f : List ℕ) → Reads (ts ++ us) f → (g : List ℕ) × (h : List ℕ) × Reads ts g × Reads us h × (f ≡ g ++ h)
reads_parted [] us f r = ([], f, refl, r, refl)
reads_parted (t ∷ ts) us f r =
    let s : (g : List ℕ) × (h : List ℕ) × Reads ts g × Reads us h × (r.1 ≡ g ++ h) = reads_parted ts us r.1 r.3 in
    (r.0 ++ s.0, s.1, (r.0, s.0, r.2, s.2, refl), s.3, r.4 ∙ ap (λ x. r.0 ++ x) s.4 ∙ sym (append_assoc r.0 s.0 s.1))

-- one frontier of each tree is a reading, and the other way round
pub read_lists : (ts : List Outline) (fs : List (List ℕ)) → AreFrontiers (forest ts) fs → Reads ts (concat fs)
read_lists [] [] h = refl
read_lists [] (f ∷ fs) h = absurd h
read_lists (t ∷ ts) [] h = absurd h
read_lists (t ∷ ts) (f ∷ fs) h = (f, concat fs, h.0, read_lists ts fs h.1, refl)

pub lists_read : (ts : List Outline) (f : List ℕ) → Reads ts f → (fs : List (List ℕ)) × AreFrontiers (forest ts) fs × (f ≡ concat fs)
lists_read [] f r = ([], tt, r)
lists_read (t ∷ ts) f r =
    let s : (fs : List (List ℕ)) × AreFrontiers (forest ts) fs × (r.1 ≡ concat fs) = lists_read ts r.1 r.3 in
    (r.0 ∷ s.0, (r.2, s.1), r.4 ∙ ap (λ x. r.0 ++ x) s.2)

pub read_turned : (ts : List Outline) (fs : List (List ℕ)) → AreFrontiers (forest ts) fs → Reads (reverse ts) (concat (reverse fs))
read_turned [] [] h = refl
read_turned [] (f ∷ fs) h = absurd h
read_turned (t ∷ ts) [] h = absurd h
read_turned (t ∷ ts) (f ∷ fs) h =
    let one : Reads (t ∷ []) (f ++ []) = (f, [], h.0, refl, refl) in
    let all : Reads (reverse ts ++ t ∷ []) (concat (reverse fs) ++ (f ++ [])) = reads_append (reverse ts) (t ∷ []) (concat (reverse fs)) (f ++ []) (read_turned ts fs h.1) one in
    let e : concat (reverse (f ∷ fs)) ≡ concat (reverse fs) ++ (f ++ []) = ap concat (reverse-append (f ∷ []) fs) ∙ concat-append (reverse fs) (f ∷ []) in
    subst (λ x. Reads x (concat (reverse (f ∷ fs)))) (sym (reverse-append (t ∷ []) ts)) (subst (Reads (reverse ts ++ t ∷ [])) (sym e) all)

-- a reading's first column is of the first tree, as each tree has a column
pub tree_head : (t : Outline) (g h f : List ℕ) (x : ℕ) → HasArities t → IsFrontier t g → g ++ h ≡ x ∷ f → (g' : List ℕ) × (g ≡ x ∷ g') × (f ≡ g' ++ h)
tree_head t [] h f x k fr e =
    let some : (a : ℕ) × IsTrue (has (leaves t) a) = some_leaf t k in
    absurd (omega (arith, frontier_occurs t [] some.0 fr, occurs_from_has (leaves t) some.0 some.1))
tree_head t (y ∷ g) h f x k fr e = (g, (cc), (cc))

pub reads_head : (ts : List Outline) (g h f : List ℕ) (x : ℕ) → HaveArities (forest ts) → 1 ≤ length ts → Reads ts g → g ++ h ≡ x ∷ f → IsTrue (has (leaves_of (forest ts)) x)
reads_head ts [] h f x k n r e =
    let some : (a : ℕ) × IsTrue (has (leaves_of (forest ts)) a) = some_leaf_of (forest ts) (omega (arith, count_forest ts, n)) k in
    absurd (omega (arith, reads_occurs ts [] some.0 r, occurs_from_has (leaves_of (forest ts)) some.0 some.1))
reads_head ts (y ∷ g) h f x k n r e =
    let same : y ≡ x = cc in
    subst (λ z. IsTrue (has (leaves_of (forest ts)) z)) same (sym (has_same (y ∷ g) (leaves_of (forest ts)) y (reads_occurs ts (y ∷ g) y r)) ∙ has_head y g)

pub begin_leaf : (t : Outline) (x : ℕ) → CanBegin t x → IsTrue (has (leaves t) x)
begin_leaf t x b = sym (has_same (x ∷ b.0) (leaves t) x (frontier_occurs t (x ∷ b.0) x b.1)) ∙ has_head x b.0

-- the tree at a place
pub arities_at : (ts : List Outline) (k : ℕ) → HaveArities (forest ts) → k < length ts → HasArities (tree_at ts k)
arities_at [] k h l = absurd (omega arith)
arities_at (t ∷ ts) zero h l = h.0
arities_at (t ∷ ts) (suc k) h l = arities_at ts k h.1 (omega arith)

within_at : (ts : List Outline) (k a : ℕ) → k < length ts → IsTrue (has (leaves (tree_at ts k)) a) → IsTrue (has (leaves_of (forest ts)) a)
within_at [] k a l h = absurd (omega arith)
within_at (t ∷ ts) zero a l h = has_append_left (leaves t) (leaves_of (forest ts)) a h
within_at (t ∷ ts) (suc k) a l h = has_append_right (leaves t) (leaves_of (forest ts)) a (within_at ts k a (omega arith) h)

pub once_rest : (t : Outline) (ts : List Outline) → ((b : ℕ) → occurs (leaves_of (forest (t ∷ ts))) b ≤ 1) → (b : ℕ) → occurs (leaves_of (forest ts)) b ≤ 1
once_rest t ts once b = omega (arith, once b, occurs-append (leaves t) (leaves_of (forest ts)) b)

-- a column of trees that share none has one place
pub same_place : (ts : List Outline) (i j a : ℕ) → ((b : ℕ) → occurs (leaves_of (forest ts)) b ≤ 1) → i < length ts → j < length ts →
    IsTrue (has (leaves (tree_at ts i)) a) → IsTrue (has (leaves (tree_at ts j)) a) → i ≡ j
same_place [] i j a once l m h k = absurd (omega arith)
same_place (t ∷ ts) zero zero a once l m h k = refl
same_place (t ∷ ts) zero (suc j) a once l m h k =
    absurd (both_ways (has (leaves_of (forest ts)) a) (apart (leaves t) (leaves_of (forest ts)) a (once a) h) (within_at ts j a (omega arith) k))
same_place (t ∷ ts) (suc i) zero a once l m h k =
    absurd (both_ways (has (leaves_of (forest ts)) a) (apart (leaves t) (leaves_of (forest ts)) a (once a) k) (within_at ts i a (omega arith) h))
same_place (t ∷ ts) (suc i) (suc j) a once l m h k = ap suc (same_place ts i j a (once_rest t ts once) (omega arith) (omega arith) h k)
