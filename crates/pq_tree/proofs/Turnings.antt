-- Turning a tree is an equivalence, and a tree may be turned at the place of a node.
use Rattle.std.proofs.Common.{◌≡◌, ◌∙◌, ◌<◌, ℕ, zero, suc, List, [], ◌∷◌, ◌++◌, reverse, length, set, get_or, IsPermutation, refl, sym, ap, subst, inl, inr, arith}
use Rattle.std.proofs.lemmas.List.{reverse-append, reverse-reverse}
use Rattle.std.proofs.lemmas.List.Edits.{swap_is}
use Rattle.std.proofs.lemmas.List.Sorted.{IsPermutation-refl, IsPermutation-sym, IsPermutation-trans, length_permutation}
use Rattle.std.specs.List.Sorted.{apply_swaps, SwapsInRange}
use Rattle.pq_tree.specs.Outline.{Outline, Forest, leaf, p_node, q_node, no_tree, tree_and}
use Rattle.pq_tree.specs.Forests.{forest, trees, join}
use Rattle.pq_tree.specs.Equivalent.{IsEquivalent, AreEquivalent}
use Rattle.pq_tree.proofs.Forests.{forest-trees, trees-forest}

-- a tree is turned into itself
mutual
  pub equivalent_refl : (t : Outline) → IsEquivalent t t
  equivalent_refl (leaf a) = refl
  equivalent_refl (p_node ts) = (trees ts, trees ts, are_equivalent_refl ts, IsPermutation-refl (trees ts), ap p_node (sym (forest-trees ts)))
  equivalent_refl (q_node ts) = (trees ts, are_equivalent_refl ts, inl (ap q_node (sym (forest-trees ts))))

  pub are_equivalent_refl : (ts : Forest) → AreEquivalent ts (trees ts)
  are_equivalent_refl no_tree = tt
  are_equivalent_refl (tree_and t ts) = (equivalent_refl t, are_equivalent_refl ts)

-- one tree of each list
equivalent_at : (xs ys : List Outline) (i : ℕ) (d e : Outline) → AreEquivalent (forest xs) ys → i < length xs → IsEquivalent (get_or xs i d) (get_or ys i e)
equivalent_at [] ys i d e h l = absurd (omega arith)
equivalent_at (x ∷ xs) [] i d e h l = absurd h
equivalent_at (x ∷ xs) (y ∷ ys) zero d e h l = h.0
equivalent_at (x ∷ xs) (y ∷ ys) (suc i) d e h l = equivalent_at xs ys i d e h.1 (omega arith)

equivalent_set : (xs ys : List Outline) (i : ℕ) (x y : Outline) → AreEquivalent (forest xs) ys → IsEquivalent x y → AreEquivalent (forest (set xs i x)) (set ys i y)
equivalent_set [] [] i x y h k = tt
equivalent_set [] (z ∷ ys) i x y h k = absurd h
equivalent_set (w ∷ xs) [] i x y h k = absurd h
equivalent_set (w ∷ xs) (z ∷ ys) zero x y h k = (k, h.1)
equivalent_set (w ∷ xs) (z ∷ ys) (suc i) x y h k = (h.0, equivalent_set xs ys i x y h.1 k)

equivalent_length : (xs ys : List Outline) → AreEquivalent (forest xs) ys → length ys ≡ length xs
equivalent_length [] [] h = refl
equivalent_length [] (y ∷ ys) h = absurd h
equivalent_length (x ∷ xs) [] h = absurd h
equivalent_length (x ∷ xs) (y ∷ ys) h = ap suc (equivalent_length xs ys h.1)

-- the same exchanges in both lists
exchanged : (xs ys : List Outline) (moves : List (ℕ × ℕ)) → SwapsInRange (length xs) moves → AreEquivalent (forest xs) ys → AreEquivalent (forest (apply_swaps xs moves)) (apply_swaps ys moves)
exchanged xs ys [] b h = h
exchanged xs ys (p ∷ moves) b h =
    let k : AreEquivalent (forest (apply_swaps xs moves)) (apply_swaps ys moves) = exchanged xs ys moves b.2 h in
    let n : length (apply_swaps xs moves) ≡ length xs = length_permutation xs (apply_swaps xs moves) (record { moves = moves; below = b.2; is = refl }) in
    let m : length (apply_swaps ys moves) ≡ length (apply_swaps xs moves) = equivalent_length (apply_swaps xs moves) (apply_swaps ys moves) k in
    let d : Outline = leaf 0 in
    subst (λ us. AreEquivalent (forest us) (apply_swaps ys (p ∷ moves))) (swap_is (apply_swaps xs moves) p.0 p.1 d (omega (arith, b.0, n)) (omega (arith, b.1, n)))
    (subst (AreEquivalent (forest (set (set (apply_swaps xs moves) p.0 (get_or (apply_swaps xs moves) p.1 d)) p.1 (get_or (apply_swaps xs moves) p.0 d))))
    (swap_is (apply_swaps ys moves) p.0 p.1 d (omega (arith, b.0, n, m)) (omega (arith, b.1, n, m)))
    (equivalent_set (set (apply_swaps xs moves) p.0 (get_or (apply_swaps xs moves) p.1 d)) (set (apply_swaps ys moves) p.0 (get_or (apply_swaps ys moves) p.1 d)) p.1
    (get_or (apply_swaps xs moves) p.0 d) (get_or (apply_swaps ys moves) p.0 d)
    (equivalent_set (apply_swaps xs moves) (apply_swaps ys moves) p.0 (get_or (apply_swaps xs moves) p.1 d) (get_or (apply_swaps ys moves) p.1 d) k
    (equivalent_at (apply_swaps xs moves) (apply_swaps ys moves) p.1 d d k (omega (arith, b.1, n))))
    (equivalent_at (apply_swaps xs moves) (apply_swaps ys moves) p.0 d d k (omega (arith, b.0, n)))))

-- trees turned each, after they were permuted, may be turned before
record TurnedBefore (us ws : List Outline) : Type 0 where
  turned : List Outline
  each : AreEquivalent (forest us) turned
  permuted : IsPermutation turned ws

turned_before : (us vs ws : List Outline) → IsPermutation us vs → AreEquivalent (forest vs) ws → TurnedBefore us ws
turned_before us vs ws h k =
    let b : IsPermutation vs us = IsPermutation-sym us vs h in
    let n : length ws ≡ length vs = equivalent_length vs ws k in
    record {
      turned = apply_swaps ws b.moves;
      each = subst (λ xs. AreEquivalent (forest xs) (apply_swaps ws b.moves)) (sym b.is) (exchanged vs ws b.moves b.below k);
      permuted =
          IsPermutation-sym ws (apply_swaps ws b.moves)
          (record { moves = b.moves; below = subst (λ m. SwapsInRange m b.moves) (sym n) b.below; is = refl });
    }

equivalent_append : (xs ys us vs : List Outline) → AreEquivalent (forest xs) us → AreEquivalent (forest ys) vs → AreEquivalent (forest (xs ++ ys)) (us ++ vs)
equivalent_append [] ys [] vs h k = k
equivalent_append [] ys (u ∷ us) vs h k = absurd h
equivalent_append (x ∷ xs) ys [] vs h k = absurd h
equivalent_append (x ∷ xs) ys (u ∷ us) vs h k = (h.0, equivalent_append xs ys us vs h.1 k)

-- both lists from the last to the first
equivalent_reverse : (xs ys : List Outline) → AreEquivalent (forest xs) ys → AreEquivalent (forest (reverse xs)) (reverse ys)
equivalent_reverse [] [] h = tt
equivalent_reverse [] (y ∷ ys) h = absurd h
equivalent_reverse (x ∷ xs) [] h = absurd h
equivalent_reverse (x ∷ xs) (y ∷ ys) h =
    subst (λ us. AreEquivalent (forest us) (reverse (y ∷ ys))) (sym (reverse-append (x ∷ []) xs))
    (subst (AreEquivalent (forest (reverse xs ++ x ∷ []))) (sym (reverse-append (y ∷ []) ys))
    (equivalent_append (reverse xs) (x ∷ []) (reverse ys) (y ∷ []) (equivalent_reverse xs ys h.1) (h.0, tt)))

unreversed : (us ws : List Outline) → AreEquivalent (forest (reverse us)) ws → AreEquivalent (forest us) (reverse ws)
unreversed us ws h = subst (λ xs. AreEquivalent (forest xs) (reverse ws)) (reverse-reverse us) (equivalent_reverse (reverse us) ws h)

-- a tree that is turned twice
mutual
  pub equivalent_trans : (t u v : Outline) → IsEquivalent t u → IsEquivalent u v → IsEquivalent t v
  equivalent_trans (leaf a) u v h k = subst (λ x. IsEquivalent x v) h k
  equivalent_trans (p_node ts) u v h k =
      let l : IsEquivalent (p_node (forest h.1)) v = subst (λ x. IsEquivalent x v) h.4 k in
      let b : TurnedBefore h.0 l.0 = turned_before h.0 h.1 l.0 h.3 l.2 in
      (b.turned, l.1, are_equivalent_trans ts h.0 b.turned h.2 b.each, IsPermutation-trans b.turned l.0 l.1 b.permuted l.3, l.4)
  equivalent_trans (q_node ts) u v h k =
      elim h.2 [
        | inl e ↦
            let l : IsEquivalent (q_node (forest h.0)) v = subst (λ x. IsEquivalent x v) e k in
            (l.0, are_equivalent_trans ts h.0 l.0 h.1 l.1, l.2)
        | inr e ↦
            let l : IsEquivalent (q_node (forest (reverse h.0))) v = subst (λ x. IsEquivalent x v) e k in (
              reverse l.0,
              are_equivalent_trans ts h.0 (reverse l.0) h.1 (unreversed h.0 l.0 l.1),
              elim l.2 [
                | inl f ↦ inr (f ∙ ap (λ xs. q_node (forest xs)) (sym (reverse-reverse l.0)))
                | inr f ↦ inl f
              ],
            )
      ]

  pub are_equivalent_trans : (ts : Forest) (us vs : List Outline) → AreEquivalent ts us → AreEquivalent (forest us) vs → AreEquivalent ts vs
  are_equivalent_trans no_tree [] vs h k = k
  are_equivalent_trans no_tree (u ∷ us) vs h k = absurd h
  are_equivalent_trans (tree_and t ts) [] vs h k = absurd h
  are_equivalent_trans (tree_and t ts) (u ∷ us) [] h k = absurd k
  are_equivalent_trans (tree_and t ts) (u ∷ us) (v ∷ vs) h k = (equivalent_trans t u v h.0 k.0, are_equivalent_trans ts us vs h.1 k.1)

-- a node over trees that are turned each
pub turned_P : (ts : Forest) (us : List Outline) (u : Outline) → AreEquivalent ts us → IsEquivalent (p_node (forest us)) u → IsEquivalent (p_node ts) u
turned_P ts us u h k = equivalent_trans (p_node ts) (p_node (forest us)) u (us, us, h, IsPermutation-refl us, refl) k

pub turned_Q : (ts : Forest) (us : List Outline) (u : Outline) → AreEquivalent ts us → IsEquivalent (q_node (forest us)) u → IsEquivalent (q_node ts) u
turned_Q ts us u h k = equivalent_trans (q_node ts) (q_node (forest us)) u (us, h, inl refl) k

-- a turned tree may be turned back
mutual
  pub equivalent_sym : (t u : Outline) → IsEquivalent t u → IsEquivalent u t
  equivalent_sym (leaf a) u h = subst (λ x. IsEquivalent x (leaf a)) (sym h) refl
  equivalent_sym (p_node ts) u h =
      let b : TurnedBefore h.1 (trees ts) = turned_before h.1 h.0 (trees ts) (IsPermutation-sym h.0 h.1 h.3) (are_equivalent_sym ts h.0 h.2) in
      subst (λ x. IsEquivalent x (p_node ts)) (sym h.4) (b.turned, trees ts, b.each, b.permuted, ap p_node (sym (forest-trees ts)))
  equivalent_sym (q_node ts) u h =
      elim h.2 [
        | inl e ↦ subst (λ x. IsEquivalent x (q_node ts)) (sym e) (trees ts, are_equivalent_sym ts h.0 h.1, inl (ap q_node (sym (forest-trees ts))))
        | inr e ↦
            subst (λ x. IsEquivalent x (q_node ts)) (sym e) (
              reverse (trees ts),
              equivalent_reverse h.0 (trees ts) (are_equivalent_sym ts h.0 h.1),
              inr (ap q_node (sym (ap forest (reverse-reverse (trees ts)) ∙ forest-trees ts))),
            )
      ]

  pub are_equivalent_sym : (ts : Forest) (us : List Outline) → AreEquivalent ts us → AreEquivalent (forest us) (trees ts)
  are_equivalent_sym no_tree [] h = tt
  are_equivalent_sym no_tree (u ∷ us) h = absurd h
  are_equivalent_sym (tree_and t ts) [] h = absurd h
  are_equivalent_sym (tree_and t ts) (u ∷ us) h = (equivalent_sym t u h.0, are_equivalent_sym ts us h.1)

-- one child turned
one_turned : (ts us : Forest) (t u : Outline) → IsEquivalent t u → AreEquivalent (join ts (tree_and t us)) (trees (join ts (tree_and u us)))
one_turned no_tree us t u h = (h, are_equivalent_refl us)
one_turned (tree_and s ts) us t u h = (equivalent_refl s, one_turned ts us t u h)

pub p_child_turned : (ts us : Forest) (t u : Outline) → IsEquivalent t u → IsEquivalent (p_node (join ts (tree_and t us))) (p_node (join ts (tree_and u us)))
p_child_turned ts us t u h =
    let vs : List Outline = trees (join ts (tree_and u us)) in
    (vs, vs, one_turned ts us t u h, IsPermutation-refl vs, ap p_node (sym (forest-trees (join ts (tree_and u us)))))

pub q_child_turned : (ts us : Forest) (t u : Outline) → IsEquivalent t u → IsEquivalent (q_node (join ts (tree_and t us))) (q_node (join ts (tree_and u us)))
q_child_turned ts us t u h =
    (trees (join ts (tree_and u us)), one_turned ts us t u h, inl (ap q_node (sym (forest-trees (join ts (tree_and u us))))))

-- a P-node with its children in another order
pub p_permuted : (us vs : List Outline) → IsPermutation us vs → IsEquivalent (p_node (forest us)) (p_node (forest vs))
p_permuted us vs h = (us, vs, subst (AreEquivalent (forest us)) (trees-forest us) (are_equivalent_refl (forest us)), h, refl)
