-- Intervals of one length from their left ends.
use Rattle.std.proofs.Common.{◌≡◌, ◌∙◌, ℕ, ◌+◌, ◌<◌, ◌≤◌, All, List, [], ◌∷◌, ◌++◌, length, take, get_or, sym, ap, subst, arith}
use Rattle.std.proofs.Math.Seq.{take-length}
use Rattle.std.proofs.lemmas.List.{map-append, take_more}
use Rattle.std.proofs.lemmas.List.Elements.{All-append, All-from_get_or}
use Rattle.row_model.specs.declared.lists.Interval.{Interval}
use Rattle.unit_model.specs.Models.{lefts_of}

-- the interval has this length
abbrev pub HasLength : ℕ → Interval → Type 0
HasLength m a = a.right ≡ a.left + m

one_is : (P : Interval → Type 0) (a : Interval) → P a → All P (a ∷ [])
one_is P a h = All-from_get_or P (a ∷ []) a (λ i l. let first : 0 ≡ i = omega arith in subst (λ k. P (get_or (a ∷ []) k a)) first h)

-- one interval more
pub lefts_more : (list more : List Interval) (lefts : List ℕ) (i : ℕ) (a : Interval) → i < length lefts → more ≡ list ++ a ∷ [] → a.left ≡ get_or lefts i 0 → lefts_of list ≡ take i lefts → lefts_of more ≡ take (i + 1) lefts
lefts_more list more lefts i a l is left e =
    ap lefts_of is ∙ map-append (λ (b : Interval). b.left) list (a ∷ []) ∙ ap (λ xs. xs ++ a.left ∷ []) e ∙ ap (λ x. take i lefts ++ x ∷ []) left ∙ sym (take_more lefts i 0 l)

pub all_more : (P : Interval → Type 0) (list more : List Interval) (a : Interval) → more ≡ list ++ a ∷ [] → P a → All P list → All P more
all_more P list more a is h all = subst (All P) (sym is) (All-append P list (a ∷ []) all (one_is P a h))

-- all of them
pub lefts_all : (list : List Interval) (lefts : List ℕ) (i : ℕ) → i ≤ length lefts → length lefts ≤ i → lefts_of list ≡ take i lefts → lefts_of list ≡ lefts
lefts_all list lefts i few all e = let same : i ≡ length lefts = omega arith in e ∙ ap (λ k. take k lefts) same ∙ take-length lefts
