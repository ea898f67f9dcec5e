-- Ascending row numbers without one of them.
use Rattle.std.proofs.Common.{◌≡◌, ℕ, zero, suc, ◌+◌, ◌<◌, ◌≤◌, List, [], ◌∷◌, ◌++◌, length, take, drop, get_or, refl, ap, arith, eq-eqb}
use Rattle.std.proofs.lemmas.Bool.{ne_eqb}
use Rattle.row_model.specs.Rows.{Ascends}
use Rattle.row_model.proofs.PieceLemmas.{above_low}
use Rattle.core_text.specs.Cores.{but}

-- leaving out a number that is not above the low end leaves all
but_low : (n low k : ℕ) (set : List ℕ) → Ascends n low set → k ≤ low → but k set ≡ set
but_low n low k [] h l = refl
but_low n low k (a ∷ set) h l = rw (ne_eqb a k (λ e. absurd (omega (arith, e, h.0)))) (ap (λ xs. a ∷ xs) (but_low n a k set h.2 (omega (arith, h.0))))

-- leaving out the number at an index
pub but_at : (n low : ℕ) (set : List ℕ) (i : ℕ) → Ascends n low set → i < length set → but (get_or set i 0) set ≡ take i set ++ drop (i + 1) set
but_at n low [] i h l = absurd (omega arith)
but_at n low (a ∷ set) zero h l = rw (eq-eqb a a refl) (but_low n a a set h.2 (omega arith))
but_at n low (a ∷ set) (suc i) h l =
    let above : a < get_or set i 0 = above_low n a set i 0 h.2 (omega arith) in
    let e : suc i + 1 ≡ suc (i + 1) = omega arith in
    rw (ne_eqb a (get_or set i 0) (λ e. absurd (omega (arith, e, above))), e) (ap (λ xs. a ∷ xs) (but_at n a set i h.2 (omega arith)))
