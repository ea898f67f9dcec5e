-- Lists that rise by a rank, and joins of such lists.
use Rattle.std.proofs.Common.{◌≡◌, ◌⊎◌, ◌∙◌, ℕ, ◌<◌, false, ◌||◌, List, [], ◌∷◌, ◌++◌, IsTrue, IsFalse, IsPermutation, refl, sym, ap, inl, inr, arith, append-nil, lt_irrefl}
use Rattle.std.proofs.lemmas.Bool.{both_ways, cases_eq, ne_eqb, false_from_ne_true}
use Rattle.std.proofs.lemmas.List.Sorted.{IsPermutation-refl, IsPermutation-cons, IsPermutation-trans, IsPermutation-middle}
use Rattle.std.specs.List.{concat, AllByRecursion}
use Rattle.column_order.specs.Orders.{has}
use Rattle.column_order.proofs.Lists.{has_cases, has_head, has_tail, has_append_cases, has_append_left, has_append_right}

-- each of f below each of g
abbrev pub IsBelow : (ℕ → ℕ) → List ℕ → List ℕ → Type 0
IsBelow rank f g = (x y : ℕ) → IsTrue (has f x) → IsTrue (has g y) → rank x < rank y

abbrev pub Rises : (ℕ → ℕ) → List ℕ → Type 0
Rises rank [] = Unit {0}
Rises rank (x ∷ xs) = ((y : ℕ) → IsTrue (has xs y) → rank x < rank y) × Rises rank xs

-- one of the two is wholly below the other
abbrev pub IsBeside : (ℕ → ℕ) → List ℕ → List ℕ → Type 0
IsBeside rank f g = IsBelow rank f g ⊎ IsBelow rank g f

abbrev pub AreBeside : (ℕ → ℕ) → List ℕ → List (List ℕ) → Type 0
AreBeside rank f gs = AllByRecursion (IsBeside rank f) gs

module _ (rank : ℕ → ℕ) where
  pub rises-append : (f g : List ℕ) → Rises rank f → Rises rank g → IsBelow rank f g → Rises rank (f ++ g)
  rises-append [] g rf rg h = rg
  rises-append (x ∷ xs) g rf rg h = (
    λ y t. elim (has_append_cases xs g y t) [ inl k ↦ rf.0 y k | inr k ↦ h x y (has_head x xs) k ],
    rises-append xs g rf.1 rg (λ z y k l. h z y (has_tail x z xs k) l),
  )

  pub rises_left : (f g : List ℕ) → Rises rank (f ++ g) → Rises rank f
  rises_left [] g r = tt
  rises_left (x ∷ xs) g r = (λ y k. r.0 y (has_append_left xs g y k), rises_left xs g r.1)

  pub rises_right : (f g : List ℕ) → Rises rank (f ++ g) → Rises rank g
  rises_right [] g r = r
  rises_right (x ∷ xs) g r = rises_right xs g r.1

  pub rises_below : (f g : List ℕ) → Rises rank (f ++ g) → IsBelow rank f g
  rises_below [] g r x y h k = absurd (both_ways false refl h)
  rises_below (z ∷ zs) g r x y h k =
      elim (has_cases z x zs h) [
        | inl e ↦ rw (← e) (r.0 y (has_append_right zs g y k))
        | inr t ↦ rises_below zs g r.1 x y t k
      ]

  -- two rising lists with the same members are equal
  pub rises_same : (f g : List ℕ) → Rises rank f → Rises rank g → ((x : ℕ) → has f x ≡ has g x) → f ≡ g
  rises_same [] [] rf rg h = refl
  rises_same [] (y ∷ ys) rf rg h = absurd (both_ways false refl (h y ∙ has_head y ys))
  rises_same (x ∷ xs) [] rf rg h = absurd (both_ways false refl (sym (h x) ∙ has_head x xs))
  rises_same (x ∷ xs) (y ∷ ys) rf rg h =
      let heads : x ≡ y =
      elim (has_cases y x ys (sym (h x) ∙ has_head x xs)) [
        | inl e ↦ sym e
        | inr k ↦ elim (has_cases x y xs (h y ∙ has_head y ys)) [ inl e ↦ e | inr l ↦ absurd (omega (arith, rg.0 x k, rf.0 y l)) ]
      ] in
      let tails : (z : ℕ) → has xs z ≡ has ys z = λ z. same_tail x y xs ys heads rf.0 rg.0 z (h z) in
      rw (heads, rises_same xs ys rf.1 rg.1 tails) refl
    where
      same_tail : (x y : ℕ) (xs ys : List ℕ) → x ≡ y → ((y : ℕ) → IsTrue (has xs y) → rank x < rank y) → ((z : ℕ) → IsTrue (has ys z) → rank y < rank z) →
          (z : ℕ) → has (x ∷ xs) z ≡ has (y ∷ ys) z → has xs z ≡ has ys z
      same_tail x y xs ys e fx gy z s =
          elim (cases_eq x z) [
            | inl p ↦
                let no_x : IsFalse (has xs z) = false_from_ne_true (has xs z) (λ k. lt_irrefl (rank z) (rw p at (fx z k))) in
                let no_y : IsFalse (has ys z) = false_from_ne_true (has ys z) (λ k. lt_irrefl (rank z) (rw (sym e ∙ p) at (gy z k))) in
                no_x ∙ sym no_y
            | inr n ↦
                sym (ap (λ b. b || has xs z) (ne_eqb x z n)) ∙ s ∙ ap (λ b. b || has ys z) (ne_eqb y z (λ k. n (e ∙ k)))
          ]

  -- f put among the lists gs, each of which is wholly on one side of it
  pub record Inserted (f : List ℕ) (gs : List (List ℕ)) : Type 0 where
    pub all : List (List ℕ)
    pub moved : IsPermutation (f ∷ gs) all
    pub rises : Rises rank (concat all)
    pub members : (y : ℕ) → IsTrue (has (concat all) y) → IsTrue (has f y) ⊎ IsTrue (has (concat gs) y)

  after : (f g : List ℕ) (gs : List (List ℕ)) → Rises rank (concat (g ∷ gs)) → IsBelow rank g f → Inserted f gs → Inserted f (g ∷ gs)
  after f g gs rs low i =
      record {
        all = g ∷ i.all;
        moved = IsPermutation-trans (f ∷ g ∷ gs) (g ∷ f ∷ gs) (g ∷ i.all) (IsPermutation-middle (f ∷ []) g gs) (IsPermutation-cons g (f ∷ gs) i.all i.moved);
        rises =
            rises-append g (concat i.all) (rises_left g (concat gs) rs) i.rises
            (λ x y h k. elim (i.members y k) [ inl l ↦ low x y h l | inr l ↦ rises_below g (concat gs) rs x y h l ]);
        members =
            λ y h. elim (has_append_cases g (concat i.all) y h) [
              | inl k ↦ inr (has_append_left g (concat gs) y k)
              | inr k ↦ elim (i.members y k) [ inl l ↦ inl l | inr l ↦ inr (has_append_right g (concat gs) y l) ]
            ];
      }

  pub insert_list : (f : List ℕ) (gs : List (List ℕ)) → Rises rank f → Rises rank (concat gs) → AreBeside rank f gs → Inserted f gs
  insert_list f [] rf rs sides =
      record {
        all = f ∷ [];
        moved = IsPermutation-refl (f ∷ []);
        rises = rw append-nil rf;
        members = λ y h. has_append_cases f [] y h;
      }
  insert_list f ([] ∷ gs) rf rs sides =
      after f [] gs rs (λ x y h k. absurd (both_ways false refl h)) (insert_list f gs rf rs sides.1)
  insert_list f ((z ∷ zs) ∷ gs) rf rs sides =
      elim sides.0 [
        | inl low ↦
            record {
              all = f ∷ (z ∷ zs) ∷ gs;
              moved = IsPermutation-refl (f ∷ (z ∷ zs) ∷ gs);
              rises =
                  rises-append f (concat ((z ∷ zs) ∷ gs)) rf rs
                  (λ x y h k. elim (has_cases z y (zs ++ concat gs) k) [
                    | inl e ↦ rw (← e) (low x z h (has_head z zs))
                    | inr l ↦ omega (arith, low x z h (has_head z zs), rs.0 y l)
                  ]);
              members = λ y h. has_append_cases f (concat ((z ∷ zs) ∷ gs)) y h;
            }
        | inr high ↦ after f (z ∷ zs) gs rs high (insert_list f gs rf (rises_right (z ∷ zs) (concat gs) rs) sides.1)
      ]
