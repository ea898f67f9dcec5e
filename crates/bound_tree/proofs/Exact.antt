-- The leaves of a tree are free outside its stretches exactly where its nodes stay together and its Q-nodes stand in line.
use Rattle.std.proofs.Common.{◌≡◌, ◌⊎◌, ◌↔◌, ℕ, ◌+◌, ◌-◌, ◌<◌, ◌≤◌, List, length, slice_index_or, sym, subst, inl, inr, arith}
use Rattle.std.specs.Prelude.{All}
use Rattle.std.proofs.lemmas.Bool.{cases_lt}
use Rattle.column_order.specs.Orders.{IsValidOrder}
use Rattle.column_order.proofs.Counts.{order_once}
use Rattle.row_model.specs.Graph.{Evenly}
use Rattle.pq_tree.specs.Outline.{Outline, q_node, leaves}
use Rattle.pq_tree.specs.Proper.{HasArities}
use Rattle.open_gaps.specs.declared.gap.Gap.{Gap}
use Rattle.open_gaps.specs.Gaps.{IsOpen, IsGap, AreGaps}
use Rattle.tree_theory.specs.Tied.{AreTogether, AreInLine}
use Rattle.tree_theory.proofs.Bridge.{evenly_eq}
use Rattle.bound_tree.specs.declared.stretch.Stretch.{Stretch}
use Rattle.bound_tree.specs.Stretches.{stretches}
use Rattle.bound_tree.specs.Free.{IsRoundGap, IsFree, LeadsBehind, LeadsBefore}
use Rattle.bound_tree.proofs.Alike.{IsAlike, closed, lined}
use Rattle.bound_tree.proofs.Blocked.{blocked}
use Rattle.bound_tree.proofs.Bound.{tree_gaps}
use Rattle.bound_tree.proofs.Cells.{cell}
use Rattle.bound_tree.proofs.Lists.{node_placed}
use Rattle.bound_tree.proofs.Parts.{whole_part}
use Rattle.bound_tree.proofs.Paths.{alike_behind, alike_before}
use Rattle.bound_tree.proofs.Within.{tree_within}

fresh : Gap
fresh = record { last = 0; last_row = 0; first = 0; first_row = 0 }

-- a gap is open for a column or not
abbrev IsKnown : List (List ℕ) → List ℕ → ℕ → ℕ → Type 0
IsKnown rows o q p = IsOpen rows o q p ⊎ (IsOpen rows o q p → ⊥)

known_behind : (rows : List (List ℕ)) (o : List ℕ) (gaps : List Gap) → AreGaps rows o gaps → (q p : ℕ) → q + 1 < p → p < length o → IsKnown rows o q p
known_behind rows o gaps are q p l u =
    let g : Gap = slice_index_or gaps q fresh in
    let is : IsGap rows o q g = are q fresh (omega arith) in
    elim (cases_lt g.last p) [
      | inl m ↦ inl (g.last_row, is.right.opens p l m u)
      | inr m ↦ inr (λ h. absurd (omega (arith, m, is.right.no_other h.0 p l u h.1)))
    ]

known_before : (rows : List (List ℕ)) (o : List ℕ) (gaps : List Gap) → AreGaps rows o gaps → (q p : ℕ) → p < q → q + 1 < length o → IsKnown rows o q p
known_before rows o gaps are q p l u =
    let g : Gap = slice_index_or gaps q fresh in
    let is : IsGap rows o q g = are q fresh u in
    elim (cases_lt p g.first) [
      | inl m ↦ inl (g.first_row, is.left.opens p l m)
      | inr m ↦ inr (λ h. absurd (omega (arith, m, is.left.no_other h.0 p l h.1)))
    ]

module _ (c : ℕ) (rows : List (List ℕ)) (o : List ℕ) (valid : IsValidOrder c rows o) where
  -- a free stretch: the columns next to its gap make pairs with walks of even length between them
  free_alike : (s : Stretch) → IsRoundGap (length o) s → IsFree rows o s → IsAlike (Evenly c rows) o s
  free_alike s w f =
      let e : s.at - 1 + 1 ≡ s.at = omega (arith, w.before) in
      record {
        behind = λ p l u.
            subst (λ x. Evenly c rows (cell o (s.at - 1) p) (cell o x p)) e
            (alike_behind c rows o valid (s.at - 1) s.to (omega (arith, w.before, w.behind)) (λ r a b. subst (λ x. LeadsBehind rows o x r) (sym e) (f.behind r a b)) p l u);
        before = λ p l.
            subst (λ x. Evenly c rows (cell o (s.at - 1) p) (cell o x p)) e
            (alike_before c rows o valid (s.at - 1) s.from (omega (arith, w.before)) (omega (arith, w.before, w.behind, w.inside))
            (λ r a. subst (λ x. LeadsBefore rows o x r) (sym e) (f.before r a)) p l);
      }

  module _ (gaps : List Gap) (are : AreGaps rows o gaps) where
    -- and the other way round: else no walk would lead out of the columns between the two
    alike_free : (s : Stretch) → IsRoundGap (length o) s → IsAlike (Evenly c rows) o s → IsFree rows o s
    alike_free s w h =
        let e : s.at - 1 + 1 ≡ s.at = omega (arith, w.before) in
        record {
          behind = λ p l u.
              let leads : (IsOpen rows o (s.at - 1) p → ⊥) → (p + 1 < length o → IsOpen rows o p s.at → ⊥) → ⊥ =
              λ m n. blocked c rows o valid s.at p u (λ q a k. m (subst (λ x. IsOpen rows o x p) (omega arith) k)) n (s.at - 1) p
              (omega (arith, w.behind)) (omega (arith, w.behind, w.inside)) u (inl (omega (arith, w.before)))
              ((evenly_eq c rows).turn (cell o (s.at - 1) p) (cell o s.at p) (h.behind p l u)) in
              elim (known_behind rows o gaps are (s.at - 1) p (omega (arith, w.before, w.behind)) u) [
                | inl k ↦ inl k
                | inr m ↦ elim (cases_lt (p + 1) (length o)) [
                  | inl a ↦ elim (known_before rows o gaps are p s.at (omega (arith, w.behind)) a) [
                    | inl k ↦ inr (a, k)
                    | inr n ↦ absurd (leads m (λ b k. n k))
                  ]
                  | inr a ↦ absurd (leads m (λ b k. absurd (omega arith)))
                ]
              ];
          before = λ p l.
              let leads : (IsOpen rows o (s.at - 1) p → ⊥) → (1 ≤ p → IsOpen rows o (p - 1) (s.at - 1) → ⊥) → ⊥ =
              λ m n. blocked c rows o valid p (s.at - 1) (omega (arith, w.behind, w.inside)) (λ q a k. n (omega arith) (subst (λ x. IsOpen rows o x (s.at - 1)) (omega arith) k)) (λ b k. m k) p s.at
              (omega (arith, w.before)) (omega (arith, w.before, w.behind, w.inside)) (omega (arith, w.behind, w.inside)) (inr (omega (arith, w.before)))
              ((evenly_eq c rows).flip (cell o (s.at - 1) p) (cell o s.at p) (h.before p l)) in
              elim (known_before rows o gaps are (s.at - 1) p (omega (arith, w.before)) (omega (arith, w.behind, w.inside))) [
                | inl k ↦ inl k
                | inr m ↦ elim (cases_lt 0 p) [
                  | inl a ↦ elim (known_behind rows o gaps are (p - 1) (s.at - 1) (omega (arith, w.before)) (omega (arith, w.behind, w.inside))) [
                    | inl k ↦ inr (a, k)
                    | inr n ↦ absurd (leads m (λ b k. n k))
                  ]
                  | inr a ↦ absurd (leads m (λ b k. absurd (omega arith)))
                ]
              ];
        }

-- free stretches decide whether the nodes stay together and the Q-nodes stand in line
pub exact : (c : ℕ) (rows : List (List ℕ)) (t : Outline) (gaps : List Gap) → HasArities t → IsValidOrder c rows (leaves t) → AreGaps rows (leaves t) gaps →
    All (IsFree rows (leaves t)) (stretches 0 t) ↔ (AreTogether c rows t × AreInLine c rows t)
exact c rows t gaps h valid are =
    let o : List ℕ = leaves t in
    let once = order_once c o valid.order in
    let within : All (IsRoundGap (length o)) (stretches 0 t) = tree_within (length o) t 0 h (omega arith) in (
      λ free.
          let alike : All (IsAlike (Evenly c rows) o) (stretches 0 t) = λ k d l. free_alike c rows o valid (slice_index_or (stretches 0 t) k d) (within k d l) (free k d l) in (
            λ x n. closed (Evenly c rows) (evenly_eq c rows) o once x (node_placed (IsAlike (Evenly c rows) o) o t 0 (whole_part o) alike x n),
            λ ts n. lined (Evenly c rows) (evenly_eq c rows) o ts (node_placed (IsAlike (Evenly c rows) o) o t 0 (whole_part o) alike (q_node ts) n),
          ),
      λ tied.
          let alike : All (IsAlike (Evenly c rows) o) (stretches 0 t) = tree_gaps (Evenly c rows) (evenly_eq c rows) o once t tied.0 tied.1 t 0 h (whole_part o) (λ x n. n) in
          λ k d l. alike_free c rows o valid gaps are (slice_index_or (stretches 0 t) k d) (within k d l) (alike k d l),
    )
