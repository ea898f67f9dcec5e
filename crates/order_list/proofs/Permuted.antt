-- Lists that are permutations of each other, and the first of them.
use Rattle.std.proofs.Common.{◌≡◌, ◌∙◌, ◌+◌, ◌<◌, ◌≤◌, ℕ, zero, suc, true, false, cond, List, [], ◌∷◌, length, get_or, remove, sum_by, IsPermutation, Contains, refl, sym, ap, arith}
use Rattle.std.specs.Str.{bytes_eq}
use Rattle.std.proofs.lemmas.Slice.Eq.{bytes_eq-Decides}
use Rattle.std.proofs.lemmas.List.Sorted.{IsPermutation-refl, IsPermutation-cons, IsPermutation-sym, IsPermutation-trans, IsPermutation-remove, Contains-permutation, sum_by-IsPermutation}
use Rattle.std.proofs.lemmas.List.Sums.{sum_by-cons}

-- 1 where the list is g, else 0
abbrev hit : List ℕ → List ℕ → ℕ
hit g f = cond (bytes_eq f g) 1 0

-- how often g stands among the lists
abbrev times : List (List ℕ) → List ℕ → ℕ
times fs g = sum_by (hit g) fs

times_head : (g : List ℕ) (fs : List (List ℕ)) → times (g ∷ fs) g ≡ 1 + times fs g
times_head g fs = sum_by-cons (hit g) g fs ∙ ap (λ b. cond {A = ℕ} b 1 0 + times fs g) ((bytes_eq-Decides g g).1 refl)

found : (fs : List (List ℕ)) (g : List ℕ) → 1 ≤ times fs g → (k : ℕ) × (k < length fs) × (get_or fs k g ≡ g)
found [] g h = absurd (omega arith)
found (f ∷ fs) g h =
    (elim (bytes_eq f g) as (λ v. bytes_eq f g ≡ v → (k : ℕ) × (k < length (f ∷ fs)) × (get_or (f ∷ fs) k g ≡ g)) [
      | true ↦ λ e. (zero, omega arith, (bytes_eq-Decides f g).0 e)
      | false ↦ λ e.
          let n : 1 ≤ times fs g = omega (arith, h, sum_by-cons (hit g) f fs, ap (λ b. cond {A = ℕ} b 1 0) e) in
          let r : (k : ℕ) × (k < length fs) × (get_or fs k g ≡ g) = found fs g n in
          (suc r.0, omega arith, r.2)
    ]) refl

-- lists of which each stands equally often among both are permutations of each other
permuted : (fs gs : List (List ℕ)) → ((g : List ℕ) → times fs g ≡ times gs g) → IsPermutation fs gs
permuted [] [] h = IsPermutation-refl []
permuted [] (g ∷ gs) h = absurd (omega (arith, h g, times_head g gs))
permuted (f ∷ fs) gs h =
    let p = found gs f (omega (arith, h f, times_head f fs)) in
    let m : IsPermutation gs (f ∷ remove gs p.0) = IsPermutation-remove gs p.0 f p.1 (sym p.2) in
    let rest : IsPermutation fs (remove gs p.0) =
    permuted fs (remove gs p.0)
    (λ g. omega (arith, h g, sum_by-IsPermutation (hit g) gs (f ∷ remove gs p.0) m, sum_by-cons (hit g) f fs, sum_by-cons (hit g) f (remove gs p.0))) in
    IsPermutation-trans (f ∷ fs) (f ∷ remove gs p.0) gs (IsPermutation-cons f fs (remove gs p.0) rest) (IsPermutation-sym gs (f ∷ remove gs p.0) m)

cancelled : (g : List ℕ) (fs gs : List (List ℕ)) → IsPermutation (g ∷ fs) (g ∷ gs) → IsPermutation fs gs
cancelled g fs gs h =
    permuted fs gs (λ k. omega (arith, sum_by-IsPermutation (hit k) (g ∷ fs) (g ∷ gs) h, sum_by-cons (hit k) g fs, sum_by-cons (hit k) g gs))

-- the first list of a permutation has a place, and the others are permuted behind it
pub taken_first : (fs : List (List ℕ)) (g : List ℕ) (gs : List (List ℕ)) → IsPermutation fs (g ∷ gs) →
    (k : ℕ) × (k < length fs) × (get_or fs k g ≡ g) × IsPermutation (remove fs k) gs
taken_first fs g gs h =
    let c : Contains fs g = Contains-permutation (g ∷ gs) fs g (IsPermutation-sym fs (g ∷ gs) h) (zero, omega arith, refl) in
    let m : IsPermutation fs (g ∷ remove fs c.0) = IsPermutation-remove fs c.0 g c.1 (sym c.2) in
    (c.0, c.1, c.2, cancelled g (remove fs c.0) gs (IsPermutation-trans (g ∷ remove fs c.0) fs (g ∷ gs) (IsPermutation-sym fs (g ∷ remove fs c.0) m) h))
