-- Texts that are read or written piece by piece.
use Rattle.std.proofs.Common.{◌≡◌, ℕ, ◌+◌, ◌-◌, List, ◌++◌, take, drop, length, Option, subst, sym, ap, ◌∙◌, arith}
use Rattle.std.proofs.lemmas.Grind.{common_steps}
use Rattle.std.proofs.Math.Seq.{take-add}
use Rattle.std.proofs.KnownBytes.{Appends-trans, Consumes-trans}
use Rattle.std.specs.Io.KnownBytes.{Appends, Consumes}

-- a slice from a place on is the rest of the list
take-rest : (at : ℕ) (xs : List ℕ) → take (length xs - at) (drop at xs) ≡ drop at xs
take-rest at xs = grind (arith, common_steps)

-- the bytes up to a place were added, and then the next n
pub Appends-take : (a b c : Option (List ℕ)) (at n : ℕ) (xs : List ℕ) → Appends a b (take at xs) → Appends b c (take n (take (length xs - at) (drop at xs)))
    → Appends a c (take (at + n) xs)
Appends-take a b c at n xs first second =
    let next : Appends b c (take n (drop at xs)) = subst (λ rest. Appends b c (take n rest)) (take-rest at xs) second in
    subst (Appends a c) (sym (take-add at n xs)) (Appends-trans a b c (take at xs) (take n (drop at xs)) first next)

-- the first bytes were read earlier, and then the next n behind them
pub Consumes-take : (a b c : Option (List ℕ)) (at n : ℕ) (old new : List ℕ) → Consumes a b (take at old) → take at new ≡ take at old → Consumes b c (take n (drop at new))
    → Consumes a c (take (at + n) new)
Consumes-take a b c at n old new first front next =
    subst (Consumes a c) (ap (λ front. front ++ take n (drop at new)) (sym front) ∙ sym (take-add at n new)) (Consumes-trans a b c (take at old) (take n (drop at new)) first next)
