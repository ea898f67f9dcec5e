-- Measures of trees: each leaf counts nothing, each Q-node one, and each P-node what the number of its children says.
use Rattle.std.proofs.Common.{◌≡◌, ◌∙◌, ℕ, ◌+◌, ◌≤◌, List, [], ◌∷◌, ◌++◌, map, reverse, length, IsPermutation, sum_by, Option, Some, None, refl, sym, ap, inl, inr, arith}
use Rattle.std.proofs.lemmas.List.{length-map}
use Rattle.std.proofs.lemmas.List.Sorted.{IsPermutation-reverse, sum_by-IsPermutation, length_permutation}
use Rattle.std.proofs.lemmas.List.Sums.{sum_by-cons}
use Rattle.column_order.proofs.Counts.{order_length}
use Rattle.pq_tree.specs.Outline.{Outline, Forest, leaf, p_node, q_node, no_tree, tree_and}
use Rattle.pq_tree.specs.Forests.{join, back}
use Rattle.pq_tree.specs.Proper.{forest, trees, count, columns, universal}
use Rattle.pq_tree.specs.Equivalent.{IsEquivalent, AreEquivalent}
use Rattle.pq_tree.proofs.Forests.{count_forest, forest-trees}
use Rattle.pq_tree.proofs.Universal.{universal_many, columns_order}
use Rattle.tree_theory.specs.Templates.{Partial, star, under, line, line_if, p4, p6, q2, q3, IsShape}
use Rattle.tree_theory.proofs.Sorts.{listed}

-- w measures a tree and ws trees together, and a P-node with n children counts f n
pub record IsMeasure (w : Outline → ℕ) (ws : Forest → ℕ) (f : ℕ → ℕ) : Type 0 where
  pub of_leaf : (a : ℕ) → w (leaf a) ≡ 0
  pub of_p : (ts : Forest) → w (p_node ts) ≡ f (count ts) + ws ts
  pub of_q : (ts : Forest) → w (q_node ts) ≡ 1 + ws ts
  pub of_none : ws no_tree ≡ 0
  pub of_more : (t : Outline) (ts : Forest) → ws (tree_and t ts) ≡ w t + ws ts

-- the measure of the trees of some partials
abbrev pub measure_parts : (Forest → ℕ) → List Partial → ℕ
measure_parts ws [] = 0
measure_parts ws (h ∷ hs) = ws h.e + ws h.f + measure_parts ws hs

pub parts-append : (ws : Forest → ℕ) (hs ks : List Partial) → measure_parts ws (hs ++ ks) ≡ measure_parts ws hs + measure_parts ws ks
parts-append ws [] ks = omega arith
parts-append ws (h ∷ hs) ks = omega (arith, parts-append ws hs ks)

module _ {w : Outline → ℕ} {ws : Forest → ℕ} {f : ℕ → ℕ} (m : IsMeasure w ws f) where
  pub measure-join : (ts us : Forest) → ws (join ts us) ≡ ws ts + ws us
  measure-join no_tree us = omega (arith, m.of_none)
  measure-join (tree_and t ts) us = omega (arith, m.of_more t (join ts us), m.of_more t ts, measure-join ts us)

  pub measure-back : (ts : Forest) → ws (back ts) ≡ ws ts
  measure-back no_tree = refl
  measure-back (tree_and t ts) = omega (arith, measure-join (back ts) (tree_and t no_tree), m.of_more t no_tree, m.of_none, m.of_more t ts, measure-back ts)

  measure_sum : (ts : List Outline) → ws (forest ts) ≡ sum_by w ts
  measure_sum [] = m.of_none
  measure_sum (t ∷ ts) = omega (arith, measure_sum ts, m.of_more t (forest ts), sum_by-cons w t ts)

  moved_measure : (us vs : List Outline) → IsPermutation us vs → ws (forest vs) ≡ ws (forest us)
  moved_measure us vs h = measure_sum vs ∙ sum_by-IsPermutation w us vs h ∙ sym (measure_sum us)

  -- turning the nodes of a tree leaves its measure
  mutual
    pub equivalent_measure : (t u : Outline) → IsEquivalent t u → w u ≡ w t
    equivalent_measure (leaf b) u h = ap w h
    equivalent_measure (p_node ts) u h =
        let k : (length h.0 ≡ count ts) × (ws (forest h.0) ≡ ws ts) = equivalent_measures ts h.0 h.2 in
        let size : count (forest h.1) ≡ count ts = omega (arith, count_forest h.1, length_permutation h.0 h.1 h.3, k.0) in
        omega (arith, ap w h.4, m.of_p (forest h.1), m.of_p ts, ap f size, moved_measure h.0 h.1 h.3, k.1)
    equivalent_measure (q_node ts) u h =
        let k : (length h.0 ≡ count ts) × (ws (forest h.0) ≡ ws ts) = equivalent_measures ts h.0 h.1 in
        elim h.2 [
          | inl e ↦ omega (arith, ap w e, m.of_q (forest h.0), m.of_q ts, k.1)
          | inr e ↦ omega (arith, ap w e, m.of_q (forest (reverse h.0)), m.of_q ts, moved_measure h.0 (reverse h.0) (IsPermutation-reverse h.0), k.1)
        ]

    equivalent_measures : (ts : Forest) (us : List Outline) → AreEquivalent ts us → (length us ≡ count ts) × (ws (forest us) ≡ ws ts)
    equivalent_measures no_tree [] h = (refl, refl)
    equivalent_measures no_tree (u ∷ us) h = absurd h
    equivalent_measures (tree_and t ts) [] h = absurd h
    equivalent_measures (tree_and t ts) (u ∷ us) h =
        let k : (length us ≡ count ts) × (ws (forest us) ≡ ws ts) = equivalent_measures ts us h.1 in
        (omega (arith, k.0), omega (arith, k.1, m.of_more u (forest us), m.of_more t ts, equivalent_measure t u h.0))

  -- so for trees in a line
  pub turned_measure : (ts us : Forest) → AreEquivalent ts (trees us) → ws us ≡ ws ts
  turned_measure ts us h = ap ws (sym (forest-trees us)) ∙ (equivalent_measures ts (trees us) h).1

  -- the universal tree over two columns or more
  leaves_measure : (xs : List ℕ) → ws (forest (map leaf xs)) ≡ 0
  leaves_measure [] = m.of_none
  leaves_measure (x ∷ xs) = omega (arith, leaves_measure xs, m.of_more (leaf x) (forest (map leaf xs)), m.of_leaf x)

  pub universal_measure : (c : ℕ) → 2 ≤ c → w (universal c) ≡ f c
  universal_measure c h =
      let size : count (forest (map leaf (columns c))) ≡ c = omega (arith, count_forest (map leaf (columns c)), length-map (columns c) leaf, order_length c (columns c) (columns_order c)) in
      omega (arith, ap w (universal_many c h), m.of_p (forest (map leaf (columns c))), ap f size, leaves_measure (columns c))

  -- what templates put together
  pub star_measure : (xs : Forest) → ws (star xs) ≤ f (count xs) + ws xs
  star_measure no_tree = omega arith
  star_measure (tree_and t no_tree) = omega arith
  star_measure (tree_and t (tree_and u us)) = omega (arith, m.of_more (p_node (tree_and t (tree_and u us))) no_tree, m.of_p (tree_and t (tree_and u us)), m.of_none)

  under_measure : (es : Forest) (x : Outline) → w (under es x) ≤ f (1 + count es) + ws es + w x
  under_measure no_tree x = omega arith
  under_measure (tree_and e es) x = omega (arith, m.of_p (tree_and x (tree_and e es)), m.of_more x (tree_and e es))

  line_measure : (h : Partial) → ws (line h) ≡ ws h.e + ws h.f
  line_measure h = measure-join h.e h.f

  line_if_measure : (h : Option Partial) → ws (line_if h) ≡ measure_parts ws (listed h)
  line_if_measure None = m.of_none
  line_if_measure (Some h) = omega (arith, line_measure h)

  pub shape_measure : (x : Partial) (u : Outline) → IsShape x u → w u ≡ 1 + (ws x.e + ws x.f)
  shape_measure x u s =
      elim s [
        | inl e ↦ omega (arith, ap w e, m.of_q (line x), line_measure x)
        | inr e ↦ omega (arith, ap w e, m.of_q (back (line x)), measure-back (line x), line_measure x)
      ]

  pub p4_measure : (es : Forest) (h : Partial) (fs : Forest) → w (p4 es h fs) ≤ f (1 + count es) + ws es + (1 + measure_parts ws (h ∷ [])) + (f (count fs) + ws fs)
  p4_measure es h fs =
      omega (arith, under_measure es (q_node (join (line h) (star fs))), m.of_q (join (line h) (star fs)), measure-join (line h) (star fs), line_measure h, star_measure fs)

  pub p6_measure : (es : Forest) (h : Partial) (fs : Forest) (k : Partial) → w (p6 es h fs k) ≤ f (1 + count es) + ws es + (1 + measure_parts ws (h ∷ k ∷ [])) + (f (count fs) + ws fs)
  p6_measure es h fs k =
      let middle : Forest = join (star fs) (back (line k)) in
      omega (
        arith,
        under_measure es (q_node (join (line h) middle)),
        m.of_q (join (line h) middle),
        measure-join (line h) middle,
        measure-join (star fs) (back (line k)),
        measure-back (line k),
        line_measure h,
        line_measure k,
        star_measure fs,
      )

  pub q2_measure : (es fs : Forest) (h : Option Partial) → ws (q2 es h fs).e + ws (q2 es h fs).f ≡ ws es + ws fs + measure_parts ws (listed h)
  q2_measure es fs None = omega arith
  q2_measure es fs (Some h) = omega (arith, measure-join es h.e, measure-join h.f fs)

  pub q3_measure : (es fs gs : Forest) (h k : Option Partial) → ws (q3 es h fs k gs) ≡ ws (join es gs) + ws fs + measure_parts ws (listed h ++ listed k)
  q3_measure es fs gs h k =
      let right : Forest = join (back (line_if k)) gs in
      omega (
        arith,
        measure-join es (join (line_if h) (join fs right)),
        measure-join (line_if h) (join fs right),
        measure-join fs right,
        measure-join (back (line_if k)) gs,
        measure-back (line_if k),
        line_if_measure h,
        line_if_measure k,
        measure-join es gs,
        parts-append ws (listed h) (listed k),
      )
