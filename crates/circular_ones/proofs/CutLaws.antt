-- Circular orders and the cut rows.
use Rattle.std.proofs.Common.{◌≡◌, ◌⊎◌, ◌∙◌, ℕ, not, List, [], ◌∷◌, ◌++◌, length, take, drop, get_or, All, refl, sym, ap, subst, inl, inr, arith}
use Rattle.std.proofs.lemmas.Bool.{cases_Bool, cond-true, cond-false}
use Rattle.std.proofs.lemmas.List.{get_or-map, length-map}
use Rattle.std.proofs.lemmas.List.Elements.{All-map}
use Rattle.column_order.specs.Orders.{has, place, IsOrder, Keeps, IsValidOrder, HasValidOrder}
use Rattle.column_order.proofs.Lists.{at_place, occurs-append}
use Rattle.column_order.proofs.Counts.{order_length, order_has}
use Rattle.circular_ones.specs.Circular.{complement, cut_row, cut_rows, IsCircularOrder, IsRotation, BeginsWithOne}
use Rattle.circular_ones.specs.Laws.{CutLaw, RotationLaw, TurnedLaw, CircularExistsLaw}
use Rattle.circular_ones.proofs.Rotations.{opposite_back, together_turned, keeps_rest}
use Rattle.circular_ones.proofs.Complements.{complement_opposite}
use Rattle.circular_ones.proofs.Turns.{turned_at}

-- what holds of each cut row
cut_at : (P : List ℕ → Type 0) (c : ℕ) (rows : List (List ℕ)) → All P (cut_rows c rows) → All (λ row. P (cut_row c row)) rows
cut_at P c rows h k d l = subst P (get_or-map (cut_row c) rows k d (cut_row c d) l) (h k (cut_row c d) (omega (arith, l, length-map rows (cut_row c))))

pub valid_circular : CutLaw
valid_circular c rows o valid = record { order = valid.order; together = λ k d l. either (get_or rows k d) (cut_at (Keeps o) c rows valid.kept k d l) }
  where
    either : (row : List ℕ) → Keeps o (cut_row c row) → Keeps o row ⊎ Keeps o (complement c row)
    either row h =
        elim (cases_Bool (has row 1)) [
          | inl t ↦ inr (subst (Keeps o) (cond-true (has row 1) (complement c row) row t) h)
          | inr f ↦ inl (subst (Keeps o) (cond-false (has row 1) (complement c row) row f) h)
        ]

order_turned : (c : ℕ) (front back : List ℕ) → IsOrder c (front ++ back) → IsOrder c (back ++ front)
order_turned c front back h a = omega (arith, occurs-append back front a, occurs-append front back a) ∙ h a

pub circular_turned : RotationLaw
circular_turned c rows o turned r circular =
    let order : IsOrder c (r.front ++ r.back) = subst (IsOrder c) r.before circular.order in
    record {
      order = subst (IsOrder c) (sym r.after) (order_turned c r.front r.back order);
      together = λ k d l.
          let row = get_or rows k d in
          let h : Keeps (r.front ++ r.back) row ⊎ Keeps (r.front ++ r.back) (complement c row) =
          subst (λ p. Keeps p row ⊎ Keeps p (complement c row)) r.before (circular.together k d l) in
          subst (λ p. Keeps p row ⊎ Keeps p (complement c row)) (sym r.after)
          (together_turned r.front r.back row (complement c row) (complement_opposite c row (r.front ++ r.back) order) h);
    }

-- round a circle that begins with column 1 a cut row is a run
cut_kept : (c : ℕ) (row rest : List ℕ) → IsOrder c (1 ∷ rest) → Keeps (1 ∷ rest) row ⊎ Keeps (1 ∷ rest) (complement c row) → Keeps (1 ∷ rest) (cut_row c row)
cut_kept c row rest order h =
    let opposite = complement_opposite c row (1 ∷ rest) order in
    let back = opposite_back (1 ∷ rest) row (complement c row) opposite in
    elim (cases_Bool (has row 1)) [
      | inl t ↦ subst (Keeps (1 ∷ rest)) (sym (cond-true (has row 1) (complement c row) row t))
          (elim h [ inl k ↦ keeps_rest (1 ∷ rest) row (complement c row) opposite (omega arith) t k | inr k ↦ k ])
      | inr f ↦ subst (Keeps (1 ∷ rest)) (sym (cond-false (has row 1) (complement c row) row f))
          (elim h [ inl k ↦ k | inr k ↦ keeps_rest (1 ∷ rest) (complement c row) row back (omega arith) (opposite 1 refl ∙ ap not f) k ])
    ]

circular_valid : (c : ℕ) (rows : List (List ℕ)) (turned : List ℕ) → BeginsWithOne turned → IsCircularOrder c rows turned → IsValidOrder c (cut_rows c rows) turned
circular_valid c rows [] b h = record { order = h.order; kept = λ k d l i j n ij jk u. absurd (omega (arith, u)) }
circular_valid c rows (x ∷ rest) b h =
    subst (IsValidOrder c (cut_rows c rows)) (ap (λ a. a ∷ rest) (sym b))
    (from (subst (IsCircularOrder c rows) (ap (λ a. a ∷ rest) b) h))
  where
    from : IsCircularOrder c rows (1 ∷ rest) → IsValidOrder c (cut_rows c rows) (1 ∷ rest)
    from h =
        record {
          order = h.order;
          kept = All-map (Keeps (1 ∷ rest)) (cut_row c) rows (λ k d l. cut_kept c (get_or rows k d) rest h.order (h.together k d l));
        }

rotation_back : (o turned : List ℕ) → IsRotation o turned → IsRotation turned o
rotation_back o turned r = record { front = r.back; back = r.front; before = r.after; after = r.before }

pub turned_exactly : TurnedLaw
turned_exactly c rows o turned t = (
  λ h. circular_valid c rows turned t.begins (circular_turned c rows o turned t.rotation h),
  λ h. circular_turned c rows turned o (rotation_back o turned t.rotation) (valid_circular c rows turned h),
)

pub exists_exactly : CircularExistsLaw
exists_exactly c rows = (λ h. there h.0 h.1, λ h. (h.0, valid_circular c rows h.0 h.1))
  where
    there : (o : List ℕ) → IsCircularOrder c rows o → HasValidOrder c (cut_rows c rows)
    there [] h = ([], circular_valid c rows [] tt h)
    there (x ∷ xs) h =
        let many : length (x ∷ xs) ≡ c = order_length c (x ∷ xs) h.order in
        let at = at_place (x ∷ xs) 1 (order_has c (x ∷ xs) h.order 1 (omega arith) (omega (arith, many))) in
        let n = place (x ∷ xs) 1 in
        let turned = drop n (x ∷ xs) ++ take n (x ∷ xs) in
        (turned, (turned_exactly c rows (x ∷ xs) turned (turned_at (x ∷ xs) n at.0 at.1)).0 h)
