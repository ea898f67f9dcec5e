-- Columns that were seen in a list.
use Rattle.std.proofs.Common.{◌≡◌, ◌≢◌, ◌⊎◌, ◌∙◌, ℕ, ◌+◌, ◌-◌, ◌<◌, ◌≤◌, Bool, true, false, cond, List, [], ◌∷◌, ◌++◌, length, take, drop, get_or, set, refl, sym, ap, inl, inr, arith, length-set, get_or-set_same, get_or-set_other, eq-eqb}
use Rattle.std.proofs.lemmas.Bool.{cases_eq, ne_eqb, both_ways}
use Rattle.std.proofs.lemmas.List.{take_more, take-append-drop, get_or_default}
use Rattle.std.proofs.Math.Bool.{or-true, or-false}
use Rattle.column_order.specs.Orders.{has, occurs, IsOrder, IsWithin}
use Rattle.column_order.proofs.Lists.{has-append, has_append_cases, has_cases, occurs-append, has_at, has_from_occurs, occurs_from_has}
use Rattle.column_order.proofs.Counts.{order_once, order_within}

-- different columns of 1 to c, which are the marked ones
pub record IsSeen (c : ℕ) (seen : List Bool) (xs : List ℕ) : Type 0 where
  pub long : length seen ≡ c
  pub marked : (a : ℕ) → 1 ≤ a → a ≤ c → get_or seen (a - 1) false ≡ has xs a
  pub inside : IsWithin c xs
  pub once : (a : ℕ) → occurs xs a ≤ 1

one : (x a : ℕ) → x ≡ a → occurs (x ∷ []) a ≡ 1
one x a e = ap (λ b. cond {A = ℕ} b 1 0 + 0) (eq-eqb x a e)

another : (x a : ℕ) → x ≢ a → occurs (x ∷ []) a ≡ 0
another x a n = ap (λ b. cond {A = ℕ} b 1 0 + 0) (ne_eqb x a n)

none_seen : (b : Bool) (xs : List ℕ) (a : ℕ) → b ≡ false → b ≡ has xs a → occurs xs a ≡ 0
none_seen b xs a f e =
    elim (cases_eq (occurs xs a) 0) [
      | inl z ↦ z
      | inr n ↦ absurd (both_ways (has xs a) (sym e ∙ f) (has_from_occurs xs a (omega arith)))
    ]

module _ (c : ℕ) (seen : List Bool) (list : List ℕ) (i : ℕ) (lt : i < length list) (h : IsSeen c seen (take i list)) where
  x : ℕ
  x = get_or list i 0

  next : take (i + 1) list ≡ take i list ++ x ∷ []
  unfolding x
  next = take_more list i 0 lt

  pub seen_more : 1 ≤ get_or list i 0 → get_or list i 0 ≤ c → get_or seen (get_or list i 0 - 1) false ≡ false → IsSeen c (set seen (get_or list i 0 - 1) true) (take (i + 1) list)
  unfolding x
  seen_more l u new =
      let fresh : occurs (take i list) x ≡ 0 = none_seen _ (take i list) x new (h.marked x l u) in
      rw next (record {
        long = length-set seen (x - 1) true ∙ h.long;
        marked = λ a al au.
            elim (cases_eq a x) [
              | inl e ↦ rw (e, get_or-set_same seen (x - 1) true false (omega (arith, h.long)), has-append (take i list) (x ∷ []) x, eq-eqb x x refl) (sym (or-true (has (take i list) x)))
              | inr n ↦
                  get_or-set_other seen (x - 1) (a - 1) true false (omega arith) ∙ h.marked a al au
                  ∙ sym (has-append (take i list) (x ∷ []) a ∙ rw (ne_eqb x a (λ e. n (sym e))) (or-false (has (take i list) a)))
            ];
        inside = λ a k. elim (has_append_cases (take i list) (x ∷ []) a k) [
          | inl t ↦ h.inside a t
          | inr t ↦ elim (has_cases x a [] t) [ inl e ↦ (omega arith, omega arith) | inr f ↦ absurd (both_ways _ refl f) ]
        ];
        once = λ a. elim (cases_eq x a) [
          | inl e ↦ omega (arith, occurs-append (take i list) (x ∷ []) a, one x a e, rw e at fresh)
          | inr n ↦ omega (arith, occurs-append (take i list) (x ∷ []) a, another x a n, h.once a)
        ];
      })

  -- a column that was seen comes twice
  pub seen_twice : 1 ≤ get_or list i 0 → get_or list i 0 ≤ c → get_or seen (get_or list i 0 - 1) false ≡ true → IsOrder c list → ⊥
  unfolding x
  seen_twice l u old order =
      let before : 1 ≤ occurs (take i list) x = occurs_from_has (take i list) x (sym (h.marked x l u) ∙ old) in
      omega (
        arith,
        before,
        order_once c list order x,
        ap (λ ys. occurs ys x) (take-append-drop (i + 1) list),
        occurs-append (take (i + 1) list) (drop (i + 1) list) x,
        ap (λ ys. occurs ys x) next,
        occurs-append (take i list) (x ∷ []) x,
        one x x refl,
      )

  -- nor is a number out of range in an order
  pub out_of_range : (get_or list i 0 < 1) ⊎ (c < get_or list i 0) → IsOrder c list → ⊥
  out_of_range out order =
      let r = order_within c list order (get_or list i 0) (has_at list i lt) in
      elim out [ inl l ↦ omega (arith, r.0) | inr l ↦ omega (arith, r.1) ]

  -- what was read at the mark of the column
  pub seen_at : 1 ≤ get_or list i 0 → get_or list i 0 ≤ c → (d b : Bool) → b ≡ get_or seen (get_or list i 0 - 1) d → get_or seen (get_or list i 0 - 1) false ≡ b
  unfolding x
  seen_at l u d b e = get_or_default seen (x - 1) false d (omega (arith, h.long)) ∙ sym e
