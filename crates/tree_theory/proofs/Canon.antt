-- Two equivalent trees that are canonical are equal.
use Rattle.std.proofs.Common.{◌≡◌, ◌⊎◌, ◌∙◌, ℕ, suc, ◌+◌, ◌-◌, ◌<◌, ◌≤◌, List, [], ◌∷◌, reverse, map, length, get_or, IsPermutation, refl, sym, ap, subst, inl, inr, arith}
use Rattle.std.proofs.lemmas.List.{length-reverse, get_or-reverse}
use Rattle.std.proofs.lemmas.List.Elements.{All-from_recursion, recursion_from_All}
use Rattle.std.proofs.lemmas.List.Sorted.{All-permutation, IsPermutation-sym}
use Rattle.std.specs.List.{AllByRecursion}
use Rattle.std.specs.List.Sorted.{IsStrictlyIncreasing}
use Rattle.pq_tree.specs.Outline.{Outline, Forest, leaf, p_node, q_node, no_tree, tree_and}
use Rattle.pq_tree.specs.Forests.{forest, trees, count}
use Rattle.pq_tree.specs.Proper.{HasArities, HaveArities}
use Rattle.pq_tree.specs.Equivalent.{IsEquivalent, AreEquivalent}
use Rattle.pq_tree.specs.Canonical.{least, EndsRise, IsCanonical, AreCanonical}
use Rattle.pq_tree.proofs.Forests.{trees-forest, map-reverse}
use Rattle.tree_theory.proofs.Least.{turned_leasts}

-- the least column of each tree is below that of each later one
abbrev Ascends : List Outline → Type 0
Ascends [] = Unit {0}
Ascends (t ∷ ts) = AllByRecursion (λ u. least t < least u) ts × Ascends ts

above : (m : ℕ) (t : Outline) (ts : List Outline) → m < least t → AllByRecursion (λ u. least t < least u) ts → AllByRecursion (λ u. m < least u) ts
above m t [] l h = tt
above m t (u ∷ us) l h = (omega (arith, h.0), above m t us l h.1)

ascends : (ts : List Outline) → IsStrictlyIncreasing (map least ts) → Ascends ts
ascends [] h = tt
ascends (t ∷ []) h = (tt, tt)
ascends (t ∷ u ∷ us) h =
    let first : least t < least u = h 0 (omega arith) in
    let rest : Ascends (u ∷ us) = ascends (u ∷ us) (λ k l.
    let e : suc k + 1 ≡ suc (k + 1) = omega arith in
    subst (λ j. get_or (map least (u ∷ us)) k 0 < get_or (map least (t ∷ u ∷ us)) j 0) e (h (suc k) (omega arith))) in
    ((first, above (least t) u us first rest.0), rest)

-- what holds of each tree of the one list holds of each of the other
abbrev IsCovered : List Outline → List Outline → Type 1
IsCovered ts us = (P : Outline → Type 0) → AllByRecursion P ts → AllByRecursion P us

covered : (ts us : List Outline) → IsPermutation ts us → IsCovered ts us
covered ts us m P h = recursion_from_All P us (All-permutation P ts us m (All-from_recursion P ts h))

each : (P Q : Outline → Type 0) → ((t : Outline) → P t → Q t) → (ts : List Outline) → AllByRecursion P ts → AllByRecursion Q ts
each P Q f [] h = tt
each P Q f (t ∷ ts) h = (f t h.0, each P Q f ts h.1)

both : (P Q : Outline → Type 0) (ts : List Outline) → AllByRecursion P ts → AllByRecursion Q ts → AllByRecursion (λ t. P t × Q t) ts
both P Q [] h k = tt
both P Q (t ∷ ts) h k = ((h.0, k.0), both P Q ts h.1 k.1)

-- the head of the one list is at most that of the other
head_low : (t u : Outline) (ts us : List Outline) → Ascends (t ∷ ts) → IsCovered (t ∷ ts) (u ∷ us) → (u ≡ t) ⊎ (least t < least u)
head_low t u ts us h c = (c (λ v. (v ≡ t) ⊎ (least t < least v)) (inl refl, each (λ v. least t < least v) (λ v. (v ≡ t) ⊎ (least t < least v)) (λ v k. inr k) ts h.0)).0

heads_same : (t u : Outline) (ts us : List Outline) → Ascends (t ∷ ts) → Ascends (u ∷ us) → IsCovered (t ∷ ts) (u ∷ us) → IsCovered (u ∷ us) (t ∷ ts) → t ≡ u
heads_same t u ts us h k c d =
    elim (head_low t u ts us h c) [
      | inl e ↦ sym e
      | inr l ↦ elim (head_low u t us ts k d) [ inl e ↦ e | inr m ↦ absurd (omega arith) ]
    ]

tails_covered : (t u : Outline) (ts us : List Outline) → t ≡ u → Ascends (u ∷ us) → IsCovered (t ∷ ts) (u ∷ us) → IsCovered ts us
tails_covered t u ts us e k c P h =
    each (λ v. (least u < least v) × ((v ≡ t) ⊎ P v)) P
    (λ v w. elim w.1 [ inl f ↦ absurd (omega (arith, w.0, ap least (f ∙ e))) | inr p ↦ p ])
    us (both (λ v. least u < least v) (λ v. (v ≡ t) ⊎ P v) us k.0 (c (λ v. (v ≡ t) ⊎ P v) (inl refl, each P (λ v. (v ≡ t) ⊎ P v) (λ v p. inr p) ts h)).1)

-- two such lists of the same trees are equal
ascends_same : (ts us : List Outline) → Ascends ts → Ascends us → IsCovered ts us → IsCovered us ts → ts ≡ us
ascends_same [] [] h k c d = refl
ascends_same [] (u ∷ us) h k c d = absurd (c (λ v. ⊥) tt).0
ascends_same (t ∷ ts) [] h k c d = absurd (d (λ v. ⊥) tt).0
ascends_same (t ∷ ts) (u ∷ us) h k c d =
    let e : t ≡ u = heads_same t u ts us h k c d in
    let f : ts ≡ us = ascends_same ts us h.1 k.1 (tails_covered t u ts us e k c) (tails_covered u t us ts (sym e) h d) in
    ap (λ v. v ∷ ts) e ∙ ap (λ vs. u ∷ vs) f

permuted_same : (us vs : List Outline) → IsPermutation us vs → IsStrictlyIncreasing (map least us) → IsStrictlyIncreasing (map least vs) → us ≡ vs
permuted_same us vs m h k = ascends_same us vs (ascends us h) (ascends vs k) (covered us vs m) (covered vs us (IsPermutation-sym us vs m))

-- not both a list and its reverse begin lower than they end
ends_turned : (ms : List ℕ) → 1 ≤ length ms → EndsRise ms → EndsRise (reverse ms) → ⊥
ends_turned ms n h k =
    let zero_end : length ms - 1 - 0 ≡ length ms - 1 = omega arith in
    let last_end : length ms - 1 - (length ms - 1) ≡ 0 = omega arith in
    let first : get_or (reverse ms) 0 0 ≡ get_or ms (length ms - 1) 0 = get_or-reverse ms 0 0 n ∙ ap (λ i. get_or ms i 0) zero_end in
    let last : get_or (reverse ms) (length (reverse ms) - 1) 0 ≡ get_or ms 0 0 =
    ap (λ m. get_or (reverse ms) (m - 1) 0) (length-reverse ms) ∙ get_or-reverse ms (length ms - 1) 0 (omega arith) ∙ ap (λ i. get_or ms i 0) last_end in
    omega (arith, first, last, h, k)

leasts_length : (ts : Forest) → length (map least (trees ts)) ≡ count ts
leasts_length no_tree = refl
leasts_length (tree_and t ts) = omega (arith, leasts_length ts)

mutual
  pub one_canonical : (t u : Outline) → IsEquivalent t u → HasArities t → IsCanonical t → IsCanonical u → t ≡ u
  one_canonical (leaf a) u e h p q = sym e
  one_canonical (p_node ts) u e h p q =
      let us : List Outline = e.0 in
      let vs : List Outline = e.1 in
      let r : IsCanonical (p_node (forest vs)) = subst IsCanonical e.4 q in
      let same : us ≡ vs =
      permuted_same us vs e.3 (subst IsStrictlyIncreasing (turned_leasts ts us h.1 e.2) p.0)
      (subst (λ l. IsStrictlyIncreasing (map least l)) (trees-forest vs) r.0) in
      let all : ts ≡ forest us = all_canonical ts us e.2 h.1 p.1 (subst (λ l. AreCanonical (forest l)) (sym same) r.1) in
      ap p_node (all ∙ ap forest same) ∙ sym e.4
  one_canonical (q_node ts) u e h p q =
      let us : List Outline = e.0 in
      let up : map least (trees ts) ≡ map least us = turned_leasts ts us h.1 e.1 in
      elim e.2 [
        | inl w ↦
            let r : IsCanonical (q_node (forest us)) = subst IsCanonical w q in
            ap q_node (all_canonical ts us e.1 h.1 p.1 r.1) ∙ sym w
        | inr w ↦
            let r : IsCanonical (q_node (forest (reverse us))) = subst IsCanonical w q in
            let down : map least (trees (forest (reverse us))) ≡ reverse (map least us) = ap (map least) (trees-forest (reverse us)) ∙ map-reverse least us in
            absurd (ends_turned (map least us) (omega (arith, ap length up, leasts_length ts, h.0)) (subst EndsRise up p.0) (subst EndsRise down r.0))
      ]

  all_canonical : (ts : Forest) (us : List Outline) → AreEquivalent ts us → HaveArities ts → AreCanonical ts → AreCanonical (forest us) → ts ≡ forest us
  all_canonical no_tree [] e h p q = refl
  all_canonical no_tree (u ∷ us) e h p q = absurd e
  all_canonical (tree_and t ts) [] e h p q = absurd e
  all_canonical (tree_and t ts) (u ∷ us) e h p q =
      ap (λ v. tree_and v ts) (one_canonical t u e.0 h.0 p.0 q.0) ∙ ap (tree_and u) (all_canonical ts us e.1 h.1 p.1 q.1)
