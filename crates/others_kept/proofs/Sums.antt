-- Sums over the numbers below n.
use Rattle.std.proofs.Common.{◌≡◌, ◌∙◌, ℕ, zero, suc, ◌+◌, ◌*◌, ◌<◌, ◌≤◌, refl, sym, ap, inl, inr, arith}
use Rattle.std.proofs.lemmas.Bool.{cases_eq}
use Rattle.others_kept.specs.Counts.{sum_below}

pub sum_below-le : (n : ℕ) (f g : ℕ → ℕ) → ((j : ℕ) → j < n → f j ≤ g j) → sum_below n f ≤ sum_below n g
sum_below-le zero f g h = omega arith
sum_below-le (suc n) f g h = omega (arith, h n (omega arith), sum_below-le n f g (λ j l. h j (omega arith)))

pub sum_below-same : (n : ℕ) (f g : ℕ → ℕ) → ((j : ℕ) → j < n → f j ≡ g j) → sum_below n f ≡ sum_below n g
sum_below-same zero f g h = refl
sum_below-same (suc n) f g h = omega (arith, h n (omega arith), sum_below-same n f g (λ j l. h j (omega arith)))

pub sum_below-add : (n : ℕ) (f g : ℕ → ℕ) → sum_below n (λ j. f j + g j) ≡ sum_below n f + sum_below n g
sum_below-add zero f g = refl
sum_below-add (suc n) f g = omega (arith, sum_below-add n f g)

pub sum_below-none : (n : ℕ) → sum_below n (λ j. 0) ≡ 0
sum_below-none zero = refl
sum_below-none (suc n) = omega (arith, sum_below-none n)

-- the first summand apart
pub sum_below-first : (n : ℕ) (f : ℕ → ℕ) → sum_below (suc n) f ≡ f 0 + sum_below n (λ i. f (suc i))
sum_below-first zero f = refl
sum_below-first (suc n) f = omega (arith, sum_below-first n f)

pub sum_below-bound : (n b : ℕ) (f : ℕ → ℕ) → ((j : ℕ) → j < n → f j ≤ b) → sum_below n f ≤ n * b
sum_below-bound zero b f h = omega arith
sum_below-bound (suc n) b f h = omega (arith, h n (omega arith), sum_below-bound n b f (λ j l. h j (omega arith)))

pub sum_below-next : (n i : ℕ) (f : ℕ → ℕ) → n ≡ suc i → sum_below n f ≡ f i + sum_below i f
sum_below-next n i f e = ap (λ k. sum_below k f) e

-- sums of sums, in either order
pub sum_below-swap : (n k : ℕ) (t : ℕ → ℕ → ℕ) → sum_below n (λ i. sum_below k (λ j. t i j)) ≡ sum_below k (λ j. sum_below n (λ i. t i j))
sum_below-swap zero k t = sym (sum_below-none k)
sum_below-swap (suc n) k t =
    ap (λ s. sum_below k (λ j. t n j) + s) (sum_below-swap n k t) ∙ sym (sum_below-add k (λ j. t n j) (λ j. sum_below n (λ i. t i j)))

-- sums of which no summand is more than that of the other are equal only where all summands are
all_equal : (n : ℕ) (f g : ℕ → ℕ) → ((j : ℕ) → j < n → f j ≤ g j) → sum_below n f ≡ sum_below n g → (j : ℕ) → j < n → f j ≡ g j
all_equal zero f g h e j l = absurd (omega (arith, l))
all_equal (suc n) f g h e j l =
    let less : (j : ℕ) → j < n → f j ≤ g j = λ j l. h j (omega arith) in
    elim (cases_eq j n) [
      | inl s ↦ rw s (omega (arith, h n (omega arith), sum_below-le n f g less, e))
      | inr d ↦ all_equal n f g less (omega (arith, h n (omega arith), sum_below-le n f g less, e)) j (omega arith)
    ]

-- the same of the sums without the summands at i
rest_le : (n i : ℕ) (f g : ℕ → ℕ) → i < n → ((j : ℕ) → j < n → f j ≤ g j) → sum_below n f + g i ≤ sum_below n g + f i
rest_le zero i f g l h = absurd (omega (arith, l))
rest_le (suc n) i f g l h =
    let less : (j : ℕ) → j < n → f j ≤ g j = λ j l. h j (omega arith) in
    elim (cases_eq i n) [
      | inl s ↦ rw s (omega (arith, sum_below-le n f g less))
      | inr d ↦ omega (arith, h n (omega arith), rest_le n i f g (omega arith) less)
    ]

pub others_equal : (n i : ℕ) (f g : ℕ → ℕ) → i < n → ((j : ℕ) → j < n → f j ≤ g j) → sum_below n f + g i ≡ sum_below n g + f i → (j : ℕ) → j < n → (j ≡ i → ⊥) → f j ≡ g j
others_equal zero i f g l h e j u d = absurd (omega (arith, l))
others_equal (suc n) i f g l h e j u d =
    let less : (j : ℕ) → j < n → f j ≤ g j = λ j l. h j (omega arith) in
    elim (cases_eq i n) [
      | inl s ↦
          let here : sum_below (suc n) f + g n ≡ sum_below (suc n) g + f n = rw s at e in
          let other : j ≡ n → ⊥ = λ t. d (t ∙ sym s) in
          all_equal n f g less (omega (arith, here)) j (omega (arith, u, other))
      | inr o ↦
          let rest : sum_below n f + g i ≤ sum_below n g + f i = rest_le n i f g (omega arith) less in
          elim (cases_eq j n) [
            | inl t ↦ rw t (omega (arith, h n (omega arith), rest, e))
            | inr v ↦ others_equal n i f g (omega arith) less (omega (arith, h n (omega arith), rest, e)) j (omega arith) d
          ]
    ]

pub equal_others : (n i : ℕ) (f g : ℕ → ℕ) → i < n → ((j : ℕ) → j < n → (j ≡ i → ⊥) → f j ≡ g j) → sum_below n f + g i ≡ sum_below n g + f i
equal_others zero i f g l h = absurd (omega (arith, l))
equal_others (suc n) i f g l h =
    elim (cases_eq i n) [
      | inl s ↦
          let rest : sum_below n f ≡ sum_below n g = sum_below-same n f g (λ j u. h j (omega arith) (λ t. omega (arith, t, s, u))) in
          rw s (omega (arith, rest))
      | inr d ↦
          let last : f n ≡ g n = h n (omega arith) (λ t. d (sym t)) in
          let rest : sum_below n f + g i ≡ sum_below n g + f i = equal_others n i f g (omega arith) (λ j u v. h j (omega arith) v) in
          omega (arith, last, rest)
    ]
