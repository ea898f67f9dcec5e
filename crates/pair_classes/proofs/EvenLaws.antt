-- Walks of even length: back, along a row, and what they leave alike.
use Rattle.std.proofs.Common.{◌≡◌, ◌≢◌, ◌∙◌, ℕ, zero, suc, ◌+◌, ◌≤◌, List, [], ◌∷◌, length, IsTrue, IsFalse, refl, ap, subst, inl, inr, arith}
use Rattle.std.proofs.lemmas.Bool.{cases_eq}
use Rattle.column_order.specs.Orders.{has}
use Rattle.row_model.specs.declared.graph.Pair.{Pair}
use Rattle.row_model.specs.declared.graph.Why.TheVariants.{Row}
use Rattle.row_model.specs.Graph.{pair, turned, row_at, IsPair, Joined, IsWalk, IsEvenly, Evenly}
use Rattle.row_model.proofs.CycleLaws.{joined_by_sym}
use Rattle.row_model.proofs.Walks.{evenly-refl, evenly-two, evenly-sym, turned_joined, is_pair_turned}

pub evenly_back : (c : ℕ) (rows : List (List ℕ)) (v w : Pair) → Evenly c rows v w → Evenly c rows w v
evenly_back c rows = evenly-sym (Joined c rows) (λ v w j. (j.0, joined_by_sym c rows v w j.0 j.1))

-- two columns of a row and a column d that it lacks
module _ (c : ℕ) (rows : List (List ℕ)) (k a e d : ℕ) (from : 1 ≤ k) (to : k ≤ length rows) (has_a : IsTrue (has (row_at rows k) a)) (has_e : IsTrue (has (row_at rows k) e)) (lacks : IsFalse (has (row_at rows k) d))
    (one : IsPair c (pair a d)) (other : IsPair c (pair e d)) where
  -- (a,d) is joined to (d,e), where a and e are distinct
  crossed : a ≢ e → Joined c rows (pair a d) (pair d e)
  crossed n = (
    Row k,
    record {
      from = one;
      to = is_pair_turned c (pair e d) other;
      fits = (from, to, inl (record { middle = refl; ends = n; has_first = has_a; has_last = has_e; lacks_middle = lacks }));
    },
  )

  pub evenly_first : Evenly c rows (pair a d) (pair e d)
  evenly_first =
      elim (cases_eq a e) [
        | inl s ↦ subst (λ x. Evenly c rows (pair a d) (pair x d)) s (evenly-refl (Joined c rows) (pair a d))
        | inr n ↦ evenly-two (Joined c rows) (pair a d) (pair d e) (pair e d) (crossed n) (turned_joined c rows (pair e d) other)
      ]

  pub evenly_second : Evenly c rows (pair d a) (pair d e)
  evenly_second =
      elim (cases_eq a e) [
        | inl s ↦ subst (λ x. Evenly c rows (pair d a) (pair d x)) s (evenly-refl (Joined c rows) (pair d a))
        | inr n ↦ evenly-two (Joined c rows) (pair d a) (pair a d) (pair d e) (turned_joined c rows (pair a d) one) (crossed n)
      ]

-- a pair has the label of the other with its columns exchanged, and so has the pair with its own columns exchanged
abbrev pub IsTurnedAlike : (Pair → ℕ) → Pair → Pair → Type 0
IsTurnedAlike label v w = (label v ≡ label (turned w)) × (label (turned v) ≡ label (turned (turned w)))

-- labels that are so at all pairs that are joined are one along a walk of even length
module _ (J : Pair → Pair → Type 0) (label : Pair → ℕ) (alike : (v w : Pair) → J v w → IsTurnedAlike label v w) where
  walk_label : (half : ℕ) (us : List Pair) (v w : Pair) → length us ≡ half + half → IsWalk J v us w → label v ≡ label w
  walk_label zero [] v w e h = ap label h
  walk_label zero (u ∷ us) v w e h = absurd (omega arith)
  walk_label (suc half) [] v w e h = absurd (omega arith)
  walk_label (suc half) (u ∷ []) v w e h = absurd (omega arith)
  walk_label (suc half) (u ∷ (x ∷ us)) v w e h =
      (alike v u h.0).0 ∙ (alike u x h.1.0).1 ∙ walk_label half us x w (omega (arith, e)) h.1.1

  pub evenly_label : (v w : Pair) → IsEvenly J v w → label v ≡ label w
  evenly_label v w h = walk_label h.half h.steps v w h.even h.walk
