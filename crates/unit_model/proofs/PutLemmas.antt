-- A list with a number put directly before another.
use Rattle.std.proofs.Common.{◌≡◌, ◌≢◌, ◌⊎◌, ◌∙◌, ℕ, suc, ◌<◌, ◌≤◌, false, cond, List, [], ◌∷◌, length, IsTrue, refl, sym, ap, inl, inr, arith, eq-eqb}
use Rattle.std.proofs.lemmas.Bool.{ne_eqb, both_ways, cases_eq}
use Rattle.column_order.specs.Orders.{has, occurs, place}
use Rattle.column_order.proofs.Lists.{has_cases, has_head, has_tail, place_head, place_tail}
use Rattle.unit_model.specs.Rule.{put_before}

-- the list lacks the number
abbrev pub Lacks : List ℕ → ℕ → Type 0
Lacks xs a = IsTrue (has xs a) → ⊥

pub put_head : (v u x : ℕ) (xs : List ℕ) → x ≡ u → put_before v u (x ∷ xs) ≡ v ∷ x ∷ xs
put_head v u x xs e = ap (λ b. cond b (v ∷ x ∷ xs) (x ∷ put_before v u xs)) (eq-eqb x u e)

pub put_tail : (v u x : ℕ) (xs : List ℕ) → x ≢ u → put_before v u (x ∷ xs) ≡ x ∷ put_before v u xs
put_tail v u x xs n = ap (λ b. cond b (v ∷ x ∷ xs) (x ∷ put_before v u xs)) (ne_eqb x u n)

rest_has : (x u : ℕ) (xs : List ℕ) → x ≢ u → IsTrue (has (x ∷ xs) u) → IsTrue (has xs u)
rest_has x u xs n h = elim (has_cases x u xs h) [ inl e ↦ absurd (n e) | inr t ↦ t ]

rest_lacks : (x v : ℕ) (xs : List ℕ) → Lacks (x ∷ xs) v → Lacks xs v
rest_lacks x v xs l t = l (has_tail x v xs t)

head_other : (x v : ℕ) (xs : List ℕ) → Lacks (x ∷ xs) v → x ≢ v
head_other x v xs l e = l (ap (λ a. has (x ∷ xs) a) (sym e) ∙ has_head x xs)

-- what is put stands where the other stood
pub put_place : (v u : ℕ) (xs : List ℕ) → IsTrue (has xs u) → Lacks xs v → place (put_before v u xs) v ≡ place xs u
put_place v u [] h l = absurd (both_ways false refl h)
put_place v u (x ∷ xs) h l =
    elim (cases_eq x u) [
      | inl e ↦ ap (λ ys. place ys v) (put_head v u x xs e) ∙ place_head v v (x ∷ xs) refl ∙ sym (place_head x u xs e)
      | inr n ↦
          ap (λ ys. place ys v) (put_tail v u x xs n) ∙ place_tail x v (put_before v u xs) (head_other x v xs l)
          ∙ ap suc (put_place v u xs (rest_has x u xs n h) (rest_lacks x v xs l)) ∙ sym (place_tail x u xs n)
    ]

-- what stood before the other stays at its place
pub put_before_it : (v u a : ℕ) (xs : List ℕ) → IsTrue (has xs u) → Lacks xs v → IsTrue (has xs a) → place xs a < place xs u → place (put_before v u xs) a ≡ place xs a
put_before_it v u a [] h l i b = absurd (both_ways false refl h)
put_before_it v u a (x ∷ xs) h l i b =
    elim (cases_eq x u) [
      | inl e ↦ absurd (omega (arith, place_head x u xs e, b))
      | inr n ↦
          ap (λ ys. place ys a) (put_tail v u x xs n) ∙
          elim (cases_eq x a) [
            | inl e ↦ place_head x a (put_before v u xs) e ∙ sym (place_head x a xs e)
            | inr m ↦
                let before : place xs a < place xs u = omega (arith, place_tail x a xs m, place_tail x u xs n, b) in
                place_tail x a (put_before v u xs) m ∙ ap suc (put_before_it v u a xs (rest_has x u xs n h) (rest_lacks x v xs l) (rest_has x a xs m i) before) ∙ sym (place_tail x a xs m)
          ]
    ]

-- the other, and what stood after it, moves by one place
pub put_after_it : (v u a : ℕ) (xs : List ℕ) → IsTrue (has xs u) → Lacks xs v → IsTrue (has xs a) → place xs u ≤ place xs a → place (put_before v u xs) a ≡ suc (place xs a)
put_after_it v u a [] h l i b = absurd (both_ways false refl h)
put_after_it v u a (x ∷ xs) h l i b =
    elim (cases_eq x u) [
      | inl e ↦
          let other : v ≢ a = λ s. l (ap (λ y. has (x ∷ xs) y) s ∙ i) in
          ap (λ ys. place ys a) (put_head v u x xs e) ∙ place_tail v a (x ∷ xs) other
      | inr n ↦
          ap (λ ys. place ys a) (put_tail v u x xs n) ∙
          elim (cases_eq x a) [
            | inl e ↦ absurd (omega (arith, place_head x a xs e, place_tail x u xs n, b))
            | inr m ↦
                let after : place xs u ≤ place xs a = omega (arith, place_tail x a xs m, place_tail x u xs n, b) in
                place_tail x a (put_before v u xs) m ∙ ap suc (put_after_it v u a xs (rest_has x u xs n h) (rest_lacks x v xs l) (rest_has x a xs m i) after ∙ sym (place_tail x a xs m))
          ]
    ]

-- what the new list has
pub put_has_new : (v u : ℕ) (xs : List ℕ) → IsTrue (has xs u) → IsTrue (has (put_before v u xs) v)
put_has_new v u [] h = absurd (both_ways false refl h)
put_has_new v u (x ∷ xs) h =
    elim (cases_eq x u) [
      | inl e ↦ ap (λ ys. has ys v) (put_head v u x xs e) ∙ has_head v (x ∷ xs)
      | inr n ↦ ap (λ ys. has ys v) (put_tail v u x xs n) ∙ has_tail x v (put_before v u xs) (put_has_new v u xs (rest_has x u xs n h))
    ]

pub put_has_old : (v u a : ℕ) (xs : List ℕ) → IsTrue (has xs a) → IsTrue (has (put_before v u xs) a)
put_has_old v u a [] h = absurd (both_ways false refl h)
put_has_old v u a (x ∷ xs) h =
    elim (cases_eq x u) [
      | inl e ↦ ap (λ ys. has ys a) (put_head v u x xs e) ∙ has_tail v a (x ∷ xs) h
      | inr n ↦ ap (λ ys. has ys a) (put_tail v u x xs n) ∙ elim (has_cases x a xs h) [
        | inl e ↦ ap (λ y. has (x ∷ put_before v u xs) y) (sym e) ∙ has_head x (put_before v u xs)
        | inr t ↦ has_tail x a (put_before v u xs) (put_has_old v u a xs t)
      ]
    ]

pub put_has_cases : (v u a : ℕ) (xs : List ℕ) → IsTrue (has (put_before v u xs) a) → (v ≡ a) ⊎ IsTrue (has xs a)
put_has_cases v u a [] h = absurd (both_ways false refl h)
put_has_cases v u a (x ∷ xs) h =
    elim (cases_eq x u) [
      | inl e ↦ has_cases v a (x ∷ xs) (ap (λ ys. has ys a) (sym (put_head v u x xs e)) ∙ h)
      | inr n ↦ elim (has_cases x a (put_before v u xs) (ap (λ ys. has ys a) (sym (put_tail v u x xs n)) ∙ h)) [
        | inl e ↦ inr (ap (λ y. has (x ∷ xs) y) (sym e) ∙ has_head x xs)
        | inr t ↦ elim (put_has_cases v u a xs t) [ inl e ↦ inl e | inr s ↦ inr (has_tail x a xs s) ]
      ]
    ]

-- how often it has a number, and how long it is
pub put_occurs : (v u a : ℕ) (xs : List ℕ) → IsTrue (has xs u) → occurs (put_before v u xs) a ≡ occurs (v ∷ xs) a
put_occurs v u a [] h = absurd (both_ways false refl h)
put_occurs v u a (x ∷ xs) h =
    elim (cases_eq x u) [
      | inl e ↦ ap (λ ys. occurs ys a) (put_head v u x xs e)
      | inr n ↦ ap (λ ys. occurs ys a) (put_tail v u x xs n) ∙ omega (arith, put_occurs v u a xs (rest_has x u xs n h))
    ]

pub put_length : (v u : ℕ) (xs : List ℕ) → IsTrue (has xs u) → length (put_before v u xs) ≡ suc (length xs)
put_length v u [] h = absurd (both_ways false refl h)
put_length v u (x ∷ xs) h =
    elim (cases_eq x u) [
      | inl e ↦ ap length (put_head v u x xs e)
      | inr n ↦ ap length (put_tail v u x xs n) ∙ ap suc (put_length v u xs (rest_has x u xs n h))
    ]
