-- Pieces that are handed out one after the other.
use Rattle.std.proofs.Common.{◌≡◌, ◌≢◌, ◌≤◌, ℕ, zero, suc, ◌+◌, ◌==◌, take, drop, ◌∙◌, Bool, true, false, List, length, [], ◌∷◌, ◌++◌, Result, Ok, Err, refl, ap, subst, append-nil, append_assoc, sym, if◌then◌else◌, arith}
use Rattle.std.proofs.lemmas.Grind.{common_steps}
use Rattle.std.proofs.Math.Seq.{take-add}
use Rattle.file_io.specs.Taken.{Taken, read_on, handed_out}
use Rattle.file_io.specs.Whole.{FailsWithin}
use Rattle.file_io.specs.declared.error.ReadFail.{ReadFail}
use Rattle.file_io.specs.declared.error.ReadFail.TheVariants as fail

-- nothing more changes nothing
nil_at : (t : Taken) (e : Bool) → t.ended ≡ e → (if e then t else record { name = t.name; bytes = t.bytes ++ []; ended = false }) ≡ t
nil_at t true is = refl
nil_at t false is = ap (λ all. record { name = t.name; bytes = all; ended = false }) (append-nil t.bytes) ∙ ap (λ e. record { name = t.name; bytes = t.bytes; ended = e }) (sym is)

read_on-nil : (t : Taken) → read_on [] false t ≡ t
read_on-nil t = nil_at t t.ended refl

-- two pieces are one
more_at : (first second : List ℕ) (ended : Bool) (t : Taken) (e : Bool) → t.ended ≡ e
    → read_on second ended (if e then t else record { name = t.name; bytes = t.bytes ++ first; ended = false }) ≡ (if e then t else record { name = t.name; bytes = t.bytes ++ (first ++ second); ended = ended })
more_at first second ended t true is = ap (λ e. if e then t else record { name = t.name; bytes = t.bytes ++ second; ended = ended }) is
more_at first second ended t false is = ap (λ all. record { name = t.name; bytes = all; ended = ended }) (append_assoc t.bytes first second)

read_on-more : (first second : List ℕ) (ended : Bool) (t : Taken) → read_on second ended (read_on first false t) ≡ read_on (first ++ second) ended t
read_on-more first second ended t = more_at first second ended t t.ended refl

pub handed_out-nil : (ts : List Taken) → handed_out [] false ts ≡ ts
handed_out-nil [] = refl
handed_out-nil (t ∷ []) = ap (λ u. u ∷ []) (read_on-nil t)
handed_out-nil (t ∷ next ∷ ts) = ap (λ us. t ∷ us) (handed_out-nil (next ∷ ts))

pub handed_out-more : (first second : List ℕ) (ended : Bool) (ts : List Taken) → handed_out second ended (handed_out first false ts) ≡ handed_out (first ++ second) ended ts
handed_out-more first second ended [] = refl
handed_out-more first second ended (t ∷ []) = ap (λ u. u ∷ []) (read_on-more first second ended t)
handed_out-more first second ended (t ∷ next ∷ []) = ap (λ u. t ∷ u ∷ []) (read_on-more first second ended next)
handed_out-more first second ended (t ∷ next ∷ other ∷ ts) = ap (λ us. t ∷ us) (handed_out-more first second ended (next ∷ other ∷ ts))

-- the first bytes were handed out earlier, and then the next n behind them
pub goes_on : (a b c : List Taken) (at n : ℕ) (ended : Bool) (old new : List ℕ) → b ≡ handed_out (take at old) false a → take at new ≡ take at old
    → c ≡ handed_out (take n (drop at new)) ended b → c ≡ handed_out (take (at + n) new) ended a
goes_on a b c at n ended old new before front next =
    next ∙ ap (handed_out (take n (drop at new)) ended) (before ∙ ap (λ piece. handed_out piece false a) (sym front)) ∙ handed_out-more (take at new) (take n (drop at new)) ended a
    ∙ ap (λ piece. handed_out piece ended a) (sym (take-add at n new))

pub not_zero : (n : ℕ) → n ≢ 0 → (n == 0) ≡ false
not_zero zero more = absurd (more refl)
not_zero (suc n) more = grind (arith, common_steps)

-- a read that gave something is not at the end, and one that gave nothing is
pub goes_on-more : (a b c : List Taken) (at n : ℕ) (old new : List ℕ) → b ≡ handed_out (take at old) false a → take at new ≡ take at old
    → c ≡ handed_out (take n (drop at new)) (n == 0) b → n ≢ 0 → c ≡ handed_out (take (at + n) new) false a
goes_on-more a b c at n old new before front next more =
    goes_on a b c at n false old new before front (next ∙ ap (λ ended. handed_out (take n (drop at new)) ended b) (not_zero n more))

pub goes_on-end : (a b c : List Taken) (at n : ℕ) (old new : List ℕ) → b ≡ handed_out (take at old) false a → take at new ≡ take at old
    → c ≡ handed_out (take n (drop at new)) (n == 0) b → n ≡ 0 → c ≡ handed_out (take at new) true a
goes_on-end a b c at n old new before front next none =
    goes_on a b c at 0 true old new before front (next ∙ ap (λ k. handed_out (take k (drop at new)) (k == 0) b) none)
    ∙ ap (λ k. handed_out (take k new) true a) (omega arith)

-- a read failed when no more than the limit was handed out, and the end was not seen
pub fails_within : {T : Type 0} (limit : ℕ) (piece : List ℕ) (result : Result T ReadFail) → length piece ≤ limit → FailsWithin limit piece false result
fails_within limit piece (Ok x) few = tt
fails_within limit piece (Err fail.Fault) few = (few, refl)
fails_within limit piece (Err fail.NoMemory) few = tt

-- where memory was refused nothing is said
pub no_memory_within : {T : Type 0} (limit : ℕ) (piece : List ℕ) (ended : Bool) (result : Result T ReadFail) → (y : ReadFail) × (result ≡ Err y) × (y ≡ fail.NoMemory) → FailsWithin limit piece ended result
no_memory_within limit piece ended result p = subst (FailsWithin limit piece ended) (sym (p.1 ∙ ap Err p.2)) tt
