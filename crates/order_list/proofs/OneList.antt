-- A set of orders has one list of its first orders.
use Rattle.std.proofs.Common.{◌≡◌, ◌∙◌, ◌⊎◌, inl, inr, ℕ, zero, suc, ◌-◌, List, [], ◌∷◌, refl, sym, ap, subst, arith}
use Rattle.std.specs.Prelude.{All, AllPairs, Contains}
use Rattle.std.proofs.lemmas.List.Elements.{All-head, All-tail}
use Rattle.column_order.specs.Orders.{IsValidOrder}
use Rattle.order_list.specs.First.{IsBefore, AreFirst}
use Rattle.order_list.specs.Laws.{FirstOrdersLaw}

-- of two orders each can't stand before the other
apart : (a b : List ℕ) → IsBefore a b → IsBefore b a → ⊥
apart [] [] before after = before
apart [] (y ∷ b) before after = after
apart (x ∷ a) [] before after = before
apart (x ∷ a) (y ∷ b) (inl less) (inl more) = absurd (omega (arith, less, more))
apart (x ∷ a) (y ∷ b) (inl less) (inr more) = absurd (omega (arith, less, more.0))
apart (x ∷ a) (y ∷ b) (inr less) (inl more) = absurd (omega (arith, less.0, more))
apart (x ∷ a) (y ∷ b) (inr less) (inr more) = apart a b less.1 more.1

module _ (x : List ℕ) (xs : List (List ℕ)) where
  later : AllPairs IsBefore (x ∷ xs) → All (IsBefore x) xs
  later rising k d lt = rising zero (suc k) d (omega arith) (omega (arith, lt))

  behind : AllPairs IsBefore (x ∷ xs) → AllPairs IsBefore xs
  behind rising i j d less lt = rising (suc i) (suc j) d (omega (arith, less)) (omega (arith, lt))

  -- what a list has is its first, or one of the others
  first_or : (o : List ℕ) → Contains (x ∷ xs) o → (x ≡ o) ⊎ Contains xs o
  first_or o (zero, lt, is) = inl is
  first_or o (suc k, lt, is) = inr (k, omega (arith, lt), is)

-- the orders of a set that stand behind an order
abbrev Behind : (List ℕ → Type 0) → List ℕ → List ℕ → Type 0
Behind S x o = S o × IsBefore x o

module _ (S : List ℕ → Type 0) where
  -- the first of a list stands before no order that is first too
  not_behind : (k : ℕ) (x y : List ℕ) (xs ys : List (List ℕ)) → AreFirst S k (x ∷ xs) → AreFirst S k (y ∷ ys) → (y ≡ x) ⊎ IsBefore y x
  not_behind k x y xs ys here there =
      elim (there.first x (All-head S x xs here.members)) [
        | inl among ↦ elim (first_or y ys x among) [
          | inl same ↦ inl same
          | inr rest ↦ inr (subst (IsBefore y) rest.2 (later y ys there.rising rest.0 x rest.1))
        ]
        | inr all ↦ inr (All-head (λ p. IsBefore p x) y ys all)
      ]

  same_first : (k : ℕ) (x y : List ℕ) (xs ys : List (List ℕ)) → AreFirst S k (x ∷ xs) → AreFirst S k (y ∷ ys) → y ≡ x
  same_first k x y xs ys here there =
      elim (not_behind k x y xs ys here there) [
        | inl same ↦ same
        | inr before ↦ elim (not_behind k y x ys xs there here) [
          | inl same ↦ sym same
          | inr after ↦ absurd (apart x y after before)
        ]
      ]

  -- the others are the first of those behind it
  rest_first : (k : ℕ) (x : List ℕ) (xs : List (List ℕ)) → AreFirst S k (x ∷ xs) → AreFirst (Behind S x) (k - 1) xs
  rest_first k x xs all =
      let in_rest : (o : List ℕ) → Behind S x o → Contains (x ∷ xs) o → Contains xs o =
      λ o is among. elim (first_or x xs o among) [ inl same ↦ absurd (apart x o is.1 (subst (λ p. IsBefore o p) (sym same) (subst (λ p. IsBefore p o) same is.1))) | inr rest ↦ rest ] in
      record {
        members = λ j d lt. (All-tail S x xs all.members j d lt, later x xs all.rising j d lt);
        rising = behind x xs all.rising;
        first = λ o is. elim (all.first o is.0) [
          | inl among ↦ inl (in_rest o is among)
          | inr less ↦ inr (All-tail (λ p. IsBefore p o) x xs less)
        ];
        number = elim all.number [
          | inl full ↦ inl (omega (arith, full))
          | inr few ↦ inr (omega (arith, few.0), λ o is. in_rest o is (few.1 o is.0))
        ];
      }

  -- a list that has an order isn't the empty one
  not_empty : (k : ℕ) (y : List ℕ) (ys : List (List ℕ)) → AreFirst S k [] → AreFirst S k (y ∷ ys) → ⊥
  not_empty k y ys none some =
      elim none.number [
        | inl zero_asked ↦ elim some.number [ inl full ↦ absurd (omega (arith, zero_asked, full)) | inr few ↦ absurd (omega (arith, zero_asked, few.0)) ]
        | inr few ↦ let among = few.1 y (All-head S y ys some.members) in absurd (omega (arith, among.1))
      ]

one_list : (S : List ℕ → Type 0) (k : ℕ) (xs ys : List (List ℕ)) → AreFirst S k xs → AreFirst S k ys → xs ≡ ys
one_list S k [] [] here there = refl
one_list S k [] (y ∷ ys) here there = absurd (not_empty S k y ys here there)
one_list S k (x ∷ xs) [] here there = absurd (not_empty S k x xs there here)
one_list S k (x ∷ xs) (y ∷ ys) here there =
    let same : y ≡ x = same_first S k x y xs ys here there in
    let moved : AreFirst S k (x ∷ ys) = subst (λ z. AreFirst S k (z ∷ ys)) same there in
    ap (λ zs. x ∷ zs) (one_list (Behind S x) (k - 1) xs ys (rest_first S k x xs here) (rest_first S k x ys moved)) ∙ ap (λ z. z ∷ ys) (sym same)

pub first_orders_law : FirstOrdersLaw
first_orders_law c rows k orders others here there = one_list (IsValidOrder c rows) k orders others here there
