-- The columns of a frontier, a frontier that each tree has, and the frontiers of equivalent trees.
use Rattle.std.proofs.Common.{◌≡◌, ◌⊎◌, ◌↔◌, ◌∙◌, ℕ, List, [], ◌∷◌, ◌++◌, reverse, map, length, get_or, set, swap, IsPermutation, refl, sym, ap, subst, inl, inr, arith}
use Rattle.std.proofs.lemmas.List.{reverse-append, reverse-reverse, length-map, map-set}
use Rattle.std.proofs.Math.ListN.{get_or-map}
use Rattle.std.proofs.lemmas.List.Elements.{All-from_recursion, recursion_from_All}
use Rattle.std.proofs.lemmas.List.Sorted.{All-permutation, IsPermutation-keeps, IsPermutation-refl, IsPermutation-swap, IsPermutation-sym, IsPermutation-trans, IsPermutation-map, IsPermutation-reverse, sum_by-IsPermutation}
use Rattle.std.specs.List.{AllByRecursion, concat}
use Rattle.column_order.specs.Orders.{occurs}
use Rattle.column_order.proofs.Lists.{occurs-append, occurs-concat}
use Rattle.pq_tree.specs.Outline.{Outline, Forest, leaf, p_node, q_node, no_tree, tree_and, leaves, leaves_of, IsFrontier, AreFrontiers}
use Rattle.pq_tree.specs.Proper.{forest}
use Rattle.pq_tree.specs.Equivalent.{IsEquivalent, AreEquivalent}
use Rattle.pq_tree.proofs.Turnings.{equivalent_sym}

pub occurs-permutation : (fs gs : List (List ℕ)) (a : ℕ) → IsPermutation fs gs → occurs (concat gs) a ≡ occurs (concat fs) a
occurs-permutation fs gs a h = occurs-concat gs a ∙ sum_by-IsPermutation (λ f. occurs f a) fs gs h ∙ sym (occurs-concat fs a)

-- a frontier has the columns of its tree, each as often
mutual
  pub frontier_occurs : (t : Outline) (f : List ℕ) (a : ℕ) → IsFrontier t f → occurs f a ≡ occurs (leaves t) a
  frontier_occurs (leaf b) f a h = ap (λ x. occurs x a) h
  frontier_occurs (p_node ts) f a h = ap (λ x. occurs x a) h.4 ∙ occurs-permutation h.0 h.1 a h.3 ∙ frontiers_occur ts h.0 a h.2
  frontier_occurs (q_node ts) f a h =
      elim h.2 [
        | inl e ↦ ap (λ x. occurs x a) e ∙ frontiers_occur ts h.0 a h.1
        | inr e ↦ ap (λ x. occurs x a) e ∙ occurs-permutation h.0 (reverse h.0) a (IsPermutation-reverse h.0) ∙ frontiers_occur ts h.0 a h.1
      ]

  pub frontiers_occur : (ts : Forest) (fs : List (List ℕ)) (a : ℕ) → AreFrontiers ts fs → occurs (concat fs) a ≡ occurs (leaves_of ts) a
  frontiers_occur no_tree [] a h = refl
  frontiers_occur no_tree (f ∷ fs) a h = absurd h
  frontiers_occur (tree_and t ts) [] a h = absurd h
  frontiers_occur (tree_and t ts) (f ∷ fs) a h =
      omega (arith, occurs-append f (concat fs) a, occurs-append (leaves t) (leaves_of ts) a, frontier_occurs t f a h.0, frontiers_occur ts fs a h.1)

-- the leaves of each tree, tree by tree
abbrev leaf_lists : Forest → List (List ℕ)
leaf_lists no_tree = []
leaf_lists (tree_and t ts) = leaves t ∷ leaf_lists ts

leaves_joined : (ts : Forest) → leaves_of ts ≡ concat (leaf_lists ts)
leaves_joined no_tree = refl
leaves_joined (tree_and t ts) = ap (λ x. leaves t ++ x) (leaves_joined ts)

-- the leaves from left to right are a frontier
mutual
  pub leaves_are_frontier : (t : Outline) → IsFrontier t (leaves t)
  leaves_are_frontier (leaf a) = refl
  leaves_are_frontier (p_node ts) = (leaf_lists ts, leaf_lists ts, leaves_are_frontiers ts, IsPermutation-refl (leaf_lists ts), leaves_joined ts)
  leaves_are_frontier (q_node ts) = (leaf_lists ts, leaves_are_frontiers ts, inl (leaves_joined ts))

  leaves_are_frontiers : (ts : Forest) → AreFrontiers ts (leaf_lists ts)
  leaves_are_frontiers no_tree = tt
  leaves_are_frontiers (tree_and t ts) = (leaves_are_frontier t, leaves_are_frontiers ts)

map-swap : {A B : Type 0} (f : A → B) (xs : List A) (i j : ℕ) → map f (swap xs i j) ≡ swap (map f xs) i j
map-swap f [] i j = refl
map-swap {A} {B} f (x ∷ xs) i j =
    let l : List A = x ∷ xs in
    let m : List B = map f l in
    let a : A = get_or l i x in
    let b : A = get_or l j x in
    map-set f (set l i b) j a ∙
    ap (λ k. set k j (f a)) (map-set f l i b) ∙
    ap (λ y. set (set m i y) j (f a)) (sym (get_or-map f l j x)) ∙
    ap (λ y. set (set m i (get_or m j (f x))) j y) (sym (get_or-map f l i x))

-- a permutation of images is the image of a permutation
pub permuted_map : {A B : Type 0} (f : A → B) (xs : List A) (ys : List B) → IsPermutation (map f xs) ys → (zs : List A) × IsPermutation xs zs × (ys ≡ map f zs)
permuted_map {A} {B} f xs ys h =
    IsPermutation-keeps (map f xs) (λ l. (zs : List A) × IsPermutation xs zs × (l ≡ map f zs)) (xs, IsPermutation-refl xs, refl)
    (λ l i j m n w.
    let long : length l ≡ length w.0 = ap length w.2 ∙ length-map w.0 f in (
      swap w.0 i j,
      IsPermutation-trans xs w.0 (swap w.0 i j) w.1 (IsPermutation-swap w.0 (swap w.0 i j) i j (omega arith) (omega arith) refl),
      ap (λ k. swap k i j) w.2 ∙ sym (map-swap f w.0 i j),
    )) ys h

-- trees, each beside one of its frontiers
abbrev Pair : Type 0
Pair = Outline × List ℕ

abbrev tree_in : Pair → Outline
tree_in z = z.0

abbrev list_in : Pair → List ℕ
list_in z = z.1

abbrev Fits : Pair → Type 0
Fits z = IsFrontier z.0 z.1

record ArePaired (ts : List Outline) (fs : List (List ℕ)) : Type 0 where
  pairs : List Pair
  trees : map tree_in pairs ≡ ts
  lists : map list_in pairs ≡ fs
  fit : AllByRecursion Fits pairs

paired : (ts : List Outline) (fs : List (List ℕ)) → AreFrontiers (forest ts) fs → ArePaired ts fs
paired [] [] h = record { pairs = []; trees = refl; lists = refl; fit = tt }
paired [] (f ∷ fs) h = absurd h
paired (t ∷ ts) [] h = absurd h
paired (t ∷ ts) (f ∷ fs) h =
    let r = paired ts fs h.1 in
    record { pairs = (t, f) ∷ r.pairs; trees = ap (λ x. t ∷ x) r.trees; lists = ap (λ x. f ∷ x) r.lists; fit = (h.0, r.fit) }

unpaired : (zs : List Pair) → AllByRecursion Fits zs → AreFrontiers (forest (map tree_in zs)) (map list_in zs)
unpaired [] h = tt
unpaired (z ∷ zs) h = (h.0, unpaired zs h.1)

-- permuted trees have permuted frontiers
permuted : (ts us : List Outline) (fs : List (List ℕ)) → IsPermutation ts us → AreFrontiers (forest ts) fs →
    (gs : List (List ℕ)) × AreFrontiers (forest us) gs × IsPermutation fs gs
permuted ts us fs m h =
    let r = paired ts fs h in
    let w = permuted_map tree_in r.pairs us (subst (λ x. IsPermutation x us) (sym r.trees) m) in
    let fit : AllByRecursion Fits w.0 = recursion_from_All Fits w.0 (All-permutation Fits r.pairs w.0 w.1 (All-from_recursion Fits r.pairs r.fit)) in (
      map list_in w.0,
      subst (λ x. AreFrontiers (forest x) (map list_in w.0)) (sym w.2) (unpaired w.0 fit),
      subst (λ x. IsPermutation x (map list_in w.0)) r.lists (IsPermutation-map list_in r.pairs w.0 w.1),
    )

pushed : (ts : List Outline) (fs : List (List ℕ)) (t : Outline) (f : List ℕ) → AreFrontiers (forest ts) fs → IsFrontier t f →
    AreFrontiers (forest (ts ++ t ∷ [])) (fs ++ f ∷ [])
pushed [] [] t f h k = (k, tt)
pushed [] (g ∷ fs) t f h k = absurd h
pushed (u ∷ ts) [] t f h k = absurd h
pushed (u ∷ ts) (g ∷ fs) t f h k = (h.0, pushed ts fs t f h.1 k)

-- reversed trees have reversed frontiers
reversed : (ts : List Outline) (fs : List (List ℕ)) → AreFrontiers (forest ts) fs → AreFrontiers (forest (reverse ts)) (reverse fs)
reversed [] [] h = tt
reversed [] (f ∷ fs) h = absurd h
reversed (t ∷ ts) [] h = absurd h
reversed (t ∷ ts) (f ∷ fs) h =
    subst (λ x. AreFrontiers (forest x) (reverse (f ∷ fs))) (sym (reverse-append (t ∷ []) ts))
    (subst (AreFrontiers (forest (reverse ts ++ t ∷ []))) (sym (reverse-append (f ∷ []) fs)) (pushed (reverse ts) (reverse fs) t f (reversed ts fs h.1) h.0))

either_way : (f : List ℕ) (fs : List (List ℕ)) → (f ≡ concat fs) ⊎ (f ≡ concat (reverse fs)) → (f ≡ concat (reverse fs)) ⊎ (f ≡ concat (reverse (reverse fs)))
either_way f fs h = elim h [ inl e ↦ inr (e ∙ ap concat (sym (reverse-reverse fs))) | inr e ↦ inl e ]

mutual
  pub kept : (t u : Outline) → IsEquivalent t u → (f : List ℕ) → IsFrontier t f → IsFrontier u f
  kept (leaf a) u h f k = subst (λ x. IsFrontier x f) (sym h) k
  kept (p_node ts) u h f k =
      let m = permuted h.0 h.1 k.0 h.3 (all_kept ts h.0 h.2 k.0 k.2) in
      subst (λ x. IsFrontier x f) (sym h.4) (m.0, k.1, m.1, IsPermutation-trans m.0 k.0 k.1 (IsPermutation-sym k.0 m.0 m.2) k.3, k.4)
  kept (q_node ts) u h f k =
      elim h.2 [
        | inl e ↦ subst (λ x. IsFrontier x f) (sym e) (k.0, all_kept ts h.0 h.1 k.0 k.1, k.2)
        | inr e ↦ subst (λ x. IsFrontier x f) (sym e) (reverse k.0, reversed h.0 k.0 (all_kept ts h.0 h.1 k.0 k.1), either_way f k.0 k.2)
      ]

  all_kept : (ts : Forest) (us : List Outline) → AreEquivalent ts us → (fs : List (List ℕ)) → AreFrontiers ts fs → AreFrontiers (forest us) fs
  all_kept no_tree [] h [] k = tt
  all_kept no_tree [] h (f ∷ fs) k = absurd k
  all_kept no_tree (u ∷ us) h fs k = absurd h
  all_kept (tree_and t ts) [] h fs k = absurd h
  all_kept (tree_and t ts) (u ∷ us) h [] k = absurd k
  all_kept (tree_and t ts) (u ∷ us) h (f ∷ fs) k = (kept t u h.0 f k.0, all_kept ts us h.1 fs k.1)

pub same_frontiers : (t u : Outline) → IsEquivalent t u → (f : List ℕ) → IsFrontier t f ↔ IsFrontier u f
same_frontiers t u h f = (kept t u h f, kept u t (equivalent_sym t u h) f)
