-- Pairs with their columns exchanged.
use Rattle.std.proofs.Common.{◌≡◌, ◌≢◌, ◌⊎◌, ◌∙◌, ℕ, ◌<◌, ◌≤◌, Bool, true, false, not, nat_lt, if◌then◌else◌, List, refl, inl, inr, sym, ap, subst, arith}
use Rattle.std.proofs.lemmas.Bool.{cases_Bool, ltb-true, ltb-false}
use Rattle.row_model.specs.declared.graph.Pair.{Pair}
use Rattle.row_model.specs.declared.graph.Why.TheVariants.{Row}
use Rattle.row_model.specs.Graph.{IsPair, Crosses, JoinedBy, turned}
use Rattle.row_model.proofs.Pairs.{same_pair}
use Rattle.odd_cycle.specs.Short.{turned_if, lesser_first}

pub turned_pair : (c : ℕ) (v : Pair) → IsPair c v → IsPair c (turned v)
turned_pair c v p = record { a_from = p.b_from; a_to = p.b_to; b_from = p.a_from; b_to = p.a_to; distinct = λ e. p.distinct (sym e) }

pub turned_if_pair : (c : ℕ) (t : Bool) (v : Pair) → IsPair c v → IsPair c (turned_if t v)
turned_if_pair c true v p = turned_pair c v p
turned_if_pair c false v p = p

lesser_cases : (v : Pair) → ((v.b < v.a) × (lesser_first v ≡ turned v)) ⊎ ((v.a ≤ v.b) × (lesser_first v ≡ v))
lesser_cases v =
    elim (cases_Bool (nat_lt v.b v.a)) [
      | inl t ↦ inl (ltb-true v.b v.a t, ap (λ x. if x then turned v else v) t)
      | inr t ↦ inr (ltb-false v.b v.a t, ap (λ x. if x then turned v else v) t)
    ]

pub lesser_pair : (c : ℕ) (v : Pair) → IsPair c v → IsPair c (lesser_first v)
lesser_pair c v p =
    elim (lesser_cases v) [
      | inl t ↦ subst (IsPair c) (sym t.1) (turned_pair c v p)
      | inr t ↦ subst (IsPair c) (sym t.1) p
    ]

-- pairs with the same columns are one pair, or one is the other turned
pub same_columns : (v w : Pair) → lesser_first v ≡ lesser_first w → (v ≡ w) ⊎ (v ≡ turned w)
same_columns v w e =
    elim (lesser_cases v) [
      | inl t ↦ elim (lesser_cases w) [
        | inl u ↦ inl (ap turned (sym t.1 ∙ e ∙ u.1))
        | inr u ↦ inr (ap turned (sym t.1 ∙ e ∙ u.1))
      ]
      | inr t ↦ elim (lesser_cases w) [
        | inl u ↦ inr (sym t.1 ∙ e ∙ u.1)
        | inr u ↦ inl (sym t.1 ∙ e ∙ u.1)
      ]
    ]

pub columns_turned : (v : Pair) → v.a ≢ v.b → lesser_first (turned v) ≡ lesser_first v
columns_turned v n =
    elim (lesser_cases v) [
      | inl t ↦ elim (lesser_cases (turned v)) [ inl u ↦ absurd (omega (arith, t.0, u.0)) | inr u ↦ u.1 ∙ sym t.1 ]
      | inr t ↦ elim (lesser_cases (turned v)) [ inl u ↦ u.1 ∙ sym t.1 | inr u ↦ absurd (n (omega (arith, t.0, u.0))) ]
    ]

pub columns_turned_if : (t : Bool) (v : Pair) → v.a ≢ v.b → lesser_first (turned_if t v) ≡ lesser_first v
columns_turned_if true v n = columns_turned v n
columns_turned_if false v n = refl

-- no pair is itself turned
pub never_turned : (v : Pair) → v.a ≢ v.b → v ≢ turned v
never_turned v n e = n (ap (λ (x : Pair). x.a) e)

pub turned_twice : (t : Bool) (v : Pair) → turned_if t (turned_if t v) ≡ v
turned_twice true v = refl
turned_twice false v = refl

-- what a flip joins to a pair is the pair turned
pub flipped : (t : Bool) (v w : Pair) → v.a ≡ w.b → v.b ≡ w.a → turned_if (not t) w ≡ turned_if t v
flipped true v w e f = same_pair w (turned v) (sym f) (sym e)
flipped false v w e f = same_pair (turned w) v (sym e) (sym f)

crosses_turned : (row : List ℕ) (v w : Pair) → Crosses row v w → Crosses row (turned w) (turned v)
crosses_turned row v w x =
    record {
      middle = sym x.middle;
      ends = λ e. x.ends (sym e);
      has_first = x.has_last;
      has_last = x.has_first;
      lacks_middle = rw (sym x.middle) x.lacks_middle;
    }

-- where a row joins two pairs it joins the two turned
pub joined_turned : (c : ℕ) (rows : List (List ℕ)) (v w : Pair) (k : ℕ) → JoinedBy c rows v w (Row k) → JoinedBy c rows (turned v) (turned w) (Row k)
joined_turned c rows v w k j =
    record {
      from = turned_pair c v j.from;
      to = turned_pair c w j.to;
      fits = (
        j.fits.0,
        j.fits.1,
        elim j.fits.2 [ inl x ↦ inr (crosses_turned _ v w x) | inr x ↦ inl (crosses_turned _ w v x) ],
      );
    }

pub joined_turned_if : (c : ℕ) (rows : List (List ℕ)) (t : Bool) (v w : Pair) (k : ℕ) → JoinedBy c rows v w (Row k) → JoinedBy c rows (turned_if t v) (turned_if t w) (Row k)
joined_turned_if c rows true v w k j = joined_turned c rows v w k j
joined_turned_if c rows false v w k j = j
