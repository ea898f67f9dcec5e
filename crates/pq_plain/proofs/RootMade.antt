-- The templates at the pertinent root, by the counts of its children's labels.
use Rattle.std.proofs.Common.{◌≡◌, ◌⊎◌, ◌∙◌, ◌+◌, ◌-◌, ◌≤◌, ℕ, zero, suc, List, [], ◌∷◌, Some, None, map, take, drop, length, refl, sym, ap, ap₂, subst, inl, inr, arith}
use Rattle.std.proofs.lemmas.List.{length-map, length-take, length-drop}
use Rattle.pq_tree.specs.Outline.{Outline, Forest, p_node, q_node, no_tree, tree_and}
use Rattle.pq_tree.specs.Proper.{outline_of}
use Rattle.pq_tree.specs.Forests.{forest, count}
use Rattle.pq_tree.specs.declared.Tree.{Tree}
use Rattle.tree_theory.specs.Templates.{p2, q3}
use Rattle.tree_theory.specs.Labels.{Partial, partials, first_of, empty_trees, full_trees}
use Rattle.tree_theory.proofs.Computed.{root_p, root_q, at_span, p_outcome}
use Rattle.pq_plain.proofs.Places.{span_seen}
use Rattle.pq_plain.specs.Seen.{outlines, label_seen}
use Rattle.pq_plain.specs.AtRoot.{p_made, PartialsAt, q_made}
use Rattle.pq_plain.specs.declared.label.Label.{Label as Marked}
use Rattle.pq_plain.specs.declared.at_root.Span.{Span as Places}
use Rattle.pq_plain.proofs.Counted.{IsCounted, HasTree, count_none, count_some, no_partial}

-- the templates of a P-node
root_two : (hs : List Partial) (es fs ts : Forest) → hs ≡ [] → HasTree es → HasTree fs → Some (p_made hs es fs) ≡ root_p hs es fs ts
root_two hs es fs ts h e f =
    ap₂ (λ x y. Some (p_made x y fs)) h e.is ∙
    ap (λ y. Some (p2 (tree_and e.t e.us) y)) f.is ∙
    sym (ap₂ (λ x y. root_p x y fs ts) h e.is ∙ ap (λ y. root_p [] (tree_and e.t e.us) y ts) f.is)

root_none : (hs : List Partial) (es fs ts : Forest) → hs ≡ [] → HasTree es → fs ≡ no_tree → None ≡ root_p hs es fs ts
root_none hs es fs ts h e f = sym (ap₂ (λ x y. root_p x y fs ts) h e.is ∙ ap (λ y. root_p [] (tree_and e.t e.us) y ts) f)

root_four : (hs : List Partial) (es fs ts : Forest) → length hs ≡ 1 → HasTree fs → Some (p_made hs es fs) ≡ root_p hs es fs ts
root_four [] es fs ts n f = absurd (omega arith)
root_four (h ∷ []) es fs ts n f = ap (λ y. Some (p_made (h ∷ []) es y)) f.is ∙ sym (ap (λ y. root_p (h ∷ []) es y ts) f.is)
root_four (h ∷ k ∷ hs) es fs ts n f = absurd (omega arith)

root_lone : (hs : List Partial) (es fs ts : Forest) → length hs ≡ 1 → fs ≡ no_tree → None ≡ root_p hs es fs ts
root_lone [] es fs ts n f = absurd (omega arith)
root_lone (h ∷ []) es fs ts n f = sym (ap (λ y. root_p (h ∷ []) es y ts) f)
root_lone (h ∷ k ∷ hs) es fs ts n f = absurd (omega arith)

root_six : (hs : List Partial) (es fs ts : Forest) → length hs ≡ 2 → Some (p_made hs es fs) ≡ root_p hs es fs ts
root_six [] es fs ts n = absurd (omega arith)
root_six (h ∷ []) es fs ts n = absurd (omega arith)
root_six (h ∷ k ∷ []) es fs ts n = refl
root_six (h ∷ k ∷ l ∷ hs) es fs ts n = absurd (omega arith)

root_many : (hs : List Partial) (es fs ts : Forest) → 3 ≤ length hs → None ≡ root_p hs es fs ts
root_many [] es fs ts n = absurd (omega arith)
root_many (h ∷ []) es fs ts n = absurd (omega arith)
root_many (h ∷ k ∷ []) es fs ts n = absurd (omega arith)
root_many (h ∷ k ∷ l ∷ hs) es fs ts n = refl

module _ (ts : List Tree) (ls : List Marked) (e f p : ℕ) (n : IsCounted ts ls e f p) where
  hs : List Partial
  hs = partials (map label_seen ls)

  no_hs : p ≡ 0 → partials (map label_seen ls) ≡ []
  no_hs z = no_partial (partials (map label_seen ls)) (sym n.partial ∙ z)

  some_empty : (e ≡ 0 → ⊥) → HasTree (empty_trees (outlines ts) (map label_seen ls))
  some_empty x = count_some (empty_trees (outlines ts) (map label_seen ls)) (λ k. x (n.empty ∙ k))

  some_full : (f ≡ 0 → ⊥) → HasTree (full_trees (outlines ts) (map label_seen ls))
  some_full x = count_some (full_trees (outlines ts) (map label_seen ls)) (λ k. x (n.full ∙ k))

  no_full : f ≡ 0 → full_trees (outlines ts) (map label_seen ls) ≡ no_tree
  no_full x = count_none (full_trees (outlines ts) (map label_seen ls)) (sym n.full ∙ x)

  pub p_unchanged : p ≡ 0 → e ≡ 0 → Some (p_node (outlines ts)) ≡ p_outcome (outlines ts) (map label_seen ls)
  p_unchanged z x =
      sym
      (ap₂ (λ a b. root_p a b (full_trees (outlines ts) (map label_seen ls)) (outlines ts)) (no_hs z)
      (count_none (empty_trees (outlines ts) (map label_seen ls)) (sym n.empty ∙ x)))

  pub p_no_full : p ≡ 0 → (e ≡ 0 → ⊥) → f ≡ 0 → None ≡ p_outcome (outlines ts) (map label_seen ls)
  p_no_full z x y =
      root_none (partials (map label_seen ls)) (empty_trees (outlines ts) (map label_seen ls)) (full_trees (outlines ts) (map label_seen ls)) (outlines ts) (no_hs z) (some_empty x) (no_full y)

  pub p_lone : p ≡ 1 → f ≡ 0 → None ≡ p_outcome (outlines ts) (map label_seen ls)
  p_lone z y =
      root_lone (partials (map label_seen ls)) (empty_trees (outlines ts) (map label_seen ls)) (full_trees (outlines ts) (map label_seen ls)) (outlines ts) (sym n.partial ∙ z) (no_full y)

  pub p_many : (p ≡ 0 → ⊥) → (p ≡ 1 → ⊥) → (p ≡ 2 → ⊥) → None ≡ p_outcome (outlines ts) (map label_seen ls)
  p_many x y z =
      root_many (partials (map label_seen ls)) (empty_trees (outlines ts) (map label_seen ls)) (full_trees (outlines ts) (map label_seen ls)) (outlines ts) (more p n.partial x y z)
    where
      more : (k : ℕ) → k ≡ length (partials (map label_seen ls)) → (k ≡ 0 → ⊥) → (k ≡ 1 → ⊥) → (k ≡ 2 → ⊥) → 3 ≤ length (partials (map label_seen ls))
      more zero e x y z = absurd (x refl)
      more (suc zero) e x y z = absurd (y refl)
      more (suc (suc zero)) e x y z = absurd (z refl)
      more (suc (suc (suc k))) e x y z = omega arith

  module _ (u : Outline) (is : u ≡ p_made (partials (map label_seen ls)) (empty_trees (outlines ts) (map label_seen ls)) (full_trees (outlines ts) (map label_seen ls))) where
    pub p_two : p ≡ 0 → (e ≡ 0 → ⊥) → (f ≡ 0 → ⊥) → Some u ≡ p_outcome (outlines ts) (map label_seen ls)
    p_two z x y =
        ap Some is ∙
        root_two (partials (map label_seen ls)) (empty_trees (outlines ts) (map label_seen ls)) (full_trees (outlines ts) (map label_seen ls)) (outlines ts) (no_hs z) (some_empty x) (some_full y)

    pub p_four : p ≡ 1 → (f ≡ 0 → ⊥) → Some u ≡ p_outcome (outlines ts) (map label_seen ls)
    p_four z y =
        ap Some is ∙
        root_four (partials (map label_seen ls)) (empty_trees (outlines ts) (map label_seen ls)) (full_trees (outlines ts) (map label_seen ls)) (outlines ts) (sym n.partial ∙ z) (some_full y)

    pub p_six : p ≡ 2 → Some u ≡ p_outcome (outlines ts) (map label_seen ls)
    p_six z =
        ap Some is ∙
        root_six (partials (map label_seen ls)) (empty_trees (outlines ts) (map label_seen ls)) (full_trees (outlines ts) (map label_seen ls)) (outlines ts) (sym n.partial ∙ z)

-- the templates of a Q-node
q_of : List Partial → List Partial → Forest → Forest → Forest → Outline
q_of hs ks fs es gs = q_node (q3 es (first_of hs) fs (first_of ks) gs)

left_only : (hs ks : List Partial) (fs es gs ts : Forest) → length hs ≡ 1 → ks ≡ [] → HasTree fs → Some (q_of hs ks fs es gs) ≡ root_q hs ks fs es gs ts
unfolding q_of
left_only [] ks fs es gs ts n k f = absurd (omega arith)
left_only (h ∷ hs) ks fs es gs ts n k f =
    ap₂ (λ x y. Some (q_node (q3 es (Some h) y (first_of x) gs))) k f.is ∙ sym (ap₂ (λ x y. root_q (h ∷ hs) x y es gs ts) k f.is)

right_only : (hs ks : List Partial) (fs es gs ts : Forest) → hs ≡ [] → length ks ≡ 1 → HasTree fs → Some (q_of hs ks fs es gs) ≡ root_q hs ks fs es gs ts
unfolding q_of
right_only hs [] fs es gs ts h n f = absurd (omega arith)
right_only hs (k ∷ ks) fs es gs ts h n f =
    ap₂ (λ x y. Some (q_node (q3 es (first_of x) y (Some k) gs))) h f.is ∙ sym (ap₂ (λ x y. root_q x (k ∷ ks) y es gs ts) h f.is)

both_sides : (hs ks : List Partial) (fs es gs ts : Forest) → length hs ≡ 1 → length ks ≡ 1 → Some (q_of hs ks fs es gs) ≡ root_q hs ks fs es gs ts
unfolding q_of
both_sides [] ks fs es gs ts n m = absurd (omega arith)
both_sides (h ∷ hs) [] fs es gs ts n m = absurd (omega arith)
both_sides (h ∷ hs) (k ∷ ks) fs es gs ts n m = refl

left_lone : (hs ks : List Partial) (fs es gs ts : Forest) → length hs ≡ 1 → ks ≡ [] → fs ≡ no_tree → None ≡ root_q hs ks fs es gs ts
left_lone [] ks fs es gs ts n k f = absurd (omega arith)
left_lone (h ∷ hs) ks fs es gs ts n k f = sym (ap₂ (λ x y. root_q (h ∷ hs) x y es gs ts) k f)

right_lone : (hs ks : List Partial) (fs es gs ts : Forest) → hs ≡ [] → length ks ≡ 1 → fs ≡ no_tree → None ≡ root_q hs ks fs es gs ts
right_lone hs [] fs es gs ts h n f = absurd (omega arith)
right_lone hs (k ∷ ks) fs es gs ts h n f = sym (ap₂ (λ x y. root_q x (k ∷ ks) y es gs ts) h f)

no_sides : (hs ks : List Partial) (fs es gs ts : Forest) → hs ≡ [] → ks ≡ [] → Some (q_node ts) ≡ root_q hs ks fs es gs ts
no_sides hs ks fs es gs ts h k = sym (ap₂ (λ x y. root_q x y fs es gs ts) h k)

zero_or_not : (n : ℕ) → (n ≡ 0) ⊎ (n ≡ 0 → ⊥)
zero_or_not zero = inl refl
zero_or_not (suc n) = inr (λ e. absurd (omega (arith, e)))

nonzero : (n : ℕ) → (n ≡ 0 → ⊥) → 1 ≤ n
nonzero zero h = absurd (h refl)
nonzero (suc n) h = omega arith

-- two sides, one with nothing and the other with at most one
few : (m n : ℕ) → m ≡ 0 → n ≤ 1 → (m + n ≡ 0 → ⊥) → (m + n ≡ 1 → ⊥) → ⊥
few m zero z l x y = x (omega (arith, z))
few m (suc zero) z l x y = y (omega (arith, z))
few m (suc (suc n)) z l x y = omega (arith, l)

forest_count : (xs : List Outline) → count (forest xs) ≡ length xs
forest_count [] = refl
forest_count (x ∷ xs) = omega (arith, forest_count xs)

module _ (ts : List Tree) (ls ms : List Marked) (s : Places) (size : length ls ≡ length ts) (same : ms ≡ ls)
    (at : PartialsAt (map label_seen ms) s)
    (within : (s.before ≤ s.full_from) × (s.full_from ≤ s.full_to) × (s.full_to ≤ s.behind) × (s.behind ≤ length ms)) where
  pub root_labels : length ls ≡ length ms
  root_labels = ap length (sym same)

  pub root_at : PartialsAt (map label_seen ls) s
  root_at = subst (λ l. PartialsAt (map label_seen l) s) same at

  left_size : length (partials (take s.full_from (map label_seen ls))) ≡ s.full_from - s.before
  left_size = root_at.left

  right_size : length (partials (drop s.full_from (map label_seen ls))) ≡ s.behind - s.full_to
  right_size = root_at.right

  width : count (forest (take (s.full_to - s.full_from) (drop s.full_from (map outline_of ts)))) ≡ s.full_to - s.full_from
  width =
      omega
      (arith, within.1, within.2, within.3, size, root_labels, forest_count (take (s.full_to - s.full_from) (drop s.full_from (map outline_of ts))), length-take (s.full_to - s.full_from) (drop s.full_from (map outline_of ts)), length-drop s.full_from (map outline_of ts), length-map ts outline_of)

  some_middle : (s.full_to - s.full_from ≡ 0 → ⊥) → HasTree (forest (take (s.full_to - s.full_from) (drop s.full_from (map outline_of ts))))
  some_middle x = count_some (forest (take (s.full_to - s.full_from) (drop s.full_from (map outline_of ts)))) (λ k. x (sym width ∙ k))

  no_middle : s.full_to - s.full_from ≡ 0 → forest (take (s.full_to - s.full_from) (drop s.full_from (map outline_of ts))) ≡ no_tree
  no_middle x = count_none (forest (take (s.full_to - s.full_from) (drop s.full_from (map outline_of ts)))) (width ∙ x)

  one : (n : ℕ) → n ≤ 1 → (n ≡ 0 → ⊥) → n ≡ 1
  one zero l x = absurd (x refl)
  one (suc zero) l x = refl
  one (suc (suc n)) l x = absurd (omega arith)

  one_left : (s.full_from - s.before ≡ 0 → ⊥) → length (partials (take s.full_from (map label_seen ls))) ≡ 1
  one_left x = left_size ∙ one (s.full_from - s.before) root_at.few_left x

  one_right : (s.behind - s.full_to ≡ 0 → ⊥) → length (partials (drop s.full_from (map label_seen ls))) ≡ 1
  one_right x = right_size ∙ one (s.behind - s.full_to) root_at.few_right x

  no_left : s.full_from - s.before ≡ 0 → partials (take s.full_from (map label_seen ls)) ≡ []
  no_left x = no_partial (partials (take s.full_from (map label_seen ls))) (left_size ∙ x)

  no_right : s.behind - s.full_to ≡ 0 → partials (drop s.full_from (map label_seen ls)) ≡ []
  no_right x = no_partial (partials (drop s.full_from (map label_seen ls))) (right_size ∙ x)

  no_partials : s.full_from - s.before ≡ 0 → s.behind - s.full_to ≡ 0 → Some (q_node (outlines ts)) ≡ at_span (outlines ts) (span_seen (map outline_of ts) (map label_seen ls) s)
  no_partials x y =
      no_sides (partials (take s.full_from (map label_seen ls))) (partials (drop s.full_from (map label_seen ls))) (forest (take (s.full_to - s.full_from) (drop s.full_from (map outline_of ts)))) (forest (take s.before (map outline_of ts))) (forest (drop s.behind (map outline_of ts))) (outlines ts)
      (no_left x) (no_right y)

  q_right_lone : s.full_from - s.before ≡ 0 → (s.behind - s.full_to ≡ 0 → ⊥) → s.full_to - s.full_from ≡ 0 → None ≡ at_span (outlines ts) (span_seen (map outline_of ts) (map label_seen ls) s)
  q_right_lone x y z =
      right_lone (partials (take s.full_from (map label_seen ls))) (partials (drop s.full_from (map label_seen ls))) (forest (take (s.full_to - s.full_from) (drop s.full_from (map outline_of ts)))) (forest (take s.before (map outline_of ts))) (forest (drop s.behind (map outline_of ts))) (outlines ts)
      (no_left x) (one_right y) (no_middle z)

  q_left_lone : (s.full_from - s.before ≡ 0 → ⊥) → s.behind - s.full_to ≡ 0 → s.full_to - s.full_from ≡ 0 → None ≡ at_span (outlines ts) (span_seen (map outline_of ts) (map label_seen ls) s)
  q_left_lone x y z =
      left_lone (partials (take s.full_from (map label_seen ls))) (partials (drop s.full_from (map label_seen ls))) (forest (take (s.full_to - s.full_from) (drop s.full_from (map outline_of ts)))) (forest (take s.before (map outline_of ts))) (forest (drop s.behind (map outline_of ts))) (outlines ts)
      (one_left x) (no_right y) (no_middle z)

  pub q_unchanged : s.full_from - s.before + (s.behind - s.full_to) ≡ 0 → Some (q_node (outlines ts)) ≡ at_span (outlines ts) (span_seen (map outline_of ts) (map label_seen ls) s)
  q_unchanged x = no_partials (omega arith) (omega arith)

  pub q_lone : s.full_from - s.before + (s.behind - s.full_to) ≡ 1 → s.full_to - s.full_from ≡ 0 → None ≡ at_span (outlines ts) (span_seen (map outline_of ts) (map label_seen ls) s)
  q_lone x z =
      elim (zero_or_not (s.full_from - s.before)) [
        | inl y ↦ q_right_lone y (λ w. absurd (omega (arith, x, y, w))) z
        | inr y ↦ q_left_lone y (omega (arith, x, nonzero (s.full_from - s.before) y)) z
      ]

  module _ (u : Outline) (is : u ≡ q_made (map outline_of ts) (map label_seen ls) s) where
    q_left_made : (s.full_from - s.before ≡ 0 → ⊥) → s.behind - s.full_to ≡ 0 → (s.full_to - s.full_from ≡ 0 → ⊥) → Some u ≡ at_span (outlines ts) (span_seen (map outline_of ts) (map label_seen ls) s)
    unfolding q_of
    q_left_made x y z =
        ap Some is ∙
        left_only (partials (take s.full_from (map label_seen ls))) (partials (drop s.full_from (map label_seen ls))) (forest (take (s.full_to - s.full_from) (drop s.full_from (map outline_of ts)))) (forest (take s.before (map outline_of ts))) (forest (drop s.behind (map outline_of ts))) (outlines ts)
        (one_left x) (no_right y) (some_middle z)

    q_right_made : s.full_from - s.before ≡ 0 → (s.behind - s.full_to ≡ 0 → ⊥) → (s.full_to - s.full_from ≡ 0 → ⊥) → Some u ≡ at_span (outlines ts) (span_seen (map outline_of ts) (map label_seen ls) s)
    unfolding q_of
    q_right_made x y z =
        ap Some is ∙
        right_only (partials (take s.full_from (map label_seen ls))) (partials (drop s.full_from (map label_seen ls))) (forest (take (s.full_to - s.full_from) (drop s.full_from (map outline_of ts)))) (forest (take s.before (map outline_of ts))) (forest (drop s.behind (map outline_of ts))) (outlines ts)
        (no_left x) (one_right y) (some_middle z)

    q_both_made : (s.full_from - s.before ≡ 0 → ⊥) → (s.behind - s.full_to ≡ 0 → ⊥) → Some u ≡ at_span (outlines ts) (span_seen (map outline_of ts) (map label_seen ls) s)
    unfolding q_of
    q_both_made x y =
        ap Some is ∙
        both_sides (partials (take s.full_from (map label_seen ls))) (partials (drop s.full_from (map label_seen ls))) (forest (take (s.full_to - s.full_from) (drop s.full_from (map outline_of ts)))) (forest (take s.before (map outline_of ts))) (forest (drop s.behind (map outline_of ts))) (outlines ts)
        (one_left x) (one_right y)

    pub q_one_made : s.full_from - s.before + (s.behind - s.full_to) ≡ 1 → (s.full_to - s.full_from ≡ 0 → ⊥) → Some u ≡ at_span (outlines ts) (span_seen (map outline_of ts) (map label_seen ls) s)
    q_one_made x z =
        elim (zero_or_not (s.full_from - s.before)) [
          | inl y ↦ q_right_made y (λ w. absurd (omega (arith, x, y, w))) z
          | inr y ↦ q_left_made y (omega (arith, x, nonzero (s.full_from - s.before) y)) z
        ]

    pub q_two_made : (s.full_from - s.before + (s.behind - s.full_to) ≡ 0 → ⊥) → (s.full_from - s.before + (s.behind - s.full_to) ≡ 1 → ⊥) → Some u ≡ at_span (outlines ts) (span_seen (map outline_of ts) (map label_seen ls) s)
    q_two_made x y =
        q_both_made (λ z. few (s.full_from - s.before) (s.behind - s.full_to) z root_at.few_right x y)
        (λ z. few (s.behind - s.full_to) (s.full_from - s.before) z root_at.few_left (λ w. x (omega (arith, w))) (λ w. y (omega (arith, w))))
