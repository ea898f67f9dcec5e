-- Loops that read lists.
use Rattle.std.proofs.Common.{◌≡◌, ◌∙◌, ◌+◌, ◌-◌, ◌<◌, ◌≤◌, ℕ, suc, List, [], ◌∷◌, ◌++◌, Option, Some, None, refl, sym, ap, subst, arith}
use Rattle.std.specs.Prelude.{option_and_then}
use Rattle.std.proofs.lemmas.List.{append_assoc, append-nil}
use Rattle.text_parts.specs.Numbered.{numbered_at, with_first}
use Rattle.text_parts.specs.Seen.{Stops}
use Rattle.text_parts.specs.declared.stop.Stop.{Stop}
use Rattle.text_parts.specs.declared.stop.Stop.TheVariants as stop

-- items before those that are read, if they are
abbrev pub before_items : {A : Type 0} → List A → Option (List A × List ℕ) → Option (List A × List ℕ)
before_items front None = None
before_items front (Some x) = Some (front ++ x.0, x.1)

pub stops : {A B : Type 0} (e : Stop) (o : Option A) (p : Option B) → Stops e o → (o ≡ None → p ≡ None) → Stops e p
stops stop.NoMemory o p h f = tt
stops stop.Outside o p h f = f h

pub before_with : {A : Type 0} (front : List A) (x : A) (o : Option (List A × List ℕ)) → before_items (front ++ x ∷ []) o ≡ before_items front (option_and_then (with_first x) o)
before_with front x None = refl
before_with front x (Some y) = ap (λ ls. Some (ls, y.1)) (append_assoc front (x ∷ []) y.0)

-- one item more
pub numbered_step : {A : Type 0} (read : ℕ → List ℕ → Option (A × List ℕ)) (front new : List A) (count i : ℕ) (bytes rest : List ℕ) (x : A) (o : Option (List A × List ℕ)) → i < count
    → read (i + 1) bytes ≡ Some (x, rest) → new ≡ front ++ x ∷ [] → before_items front (numbered_at read (i + 1) (count - i) bytes) ≡ o → before_items new (numbered_at read (i + 1 + 1) (count - (i + 1)) rest) ≡ o
unfolding numbered_at
numbered_step read front new count i bytes rest x o l h n e =
    let left : count - i ≡ suc (count - (i + 1)) = omega arith in
    ap (λ f. before_items f (numbered_at read (i + 1 + 1) (count - (i + 1)) rest)) n ∙ before_with front x (numbered_at read (i + 1 + 1) (count - (i + 1)) rest)
    ∙ ap (λ y. before_items front (option_and_then (λ z. option_and_then (with_first z.0) (numbered_at read (i + 1 + 1) (count - (i + 1)) z.1)) y)) (sym h)
    ∙ ap (λ k. before_items front (numbered_at read (i + 1) k bytes)) (sym left) ∙ e

-- no item where one is due
pub numbered_stop : {A : Type 0} (read : ℕ → List ℕ → Option (A × List ℕ)) (front : List A) (count i : ℕ) (bytes : List ℕ) (o : Option (List A × List ℕ)) → i < count
    → read (i + 1) bytes ≡ None → before_items front (numbered_at read (i + 1) (count - i) bytes) ≡ o → o ≡ None
unfolding numbered_at
numbered_stop read front count i bytes o l h e =
    let left : count - i ≡ suc (count - (i + 1)) = omega arith in
    sym e ∙ ap (λ k. before_items front (numbered_at read (i + 1) k bytes)) left
    ∙ ap (λ y. before_items front (option_and_then (λ z. option_and_then (with_first z.0) (numbered_at read (i + 1 + 1) (count - (i + 1)) z.1)) y)) h

-- all items
pub numbered_end : {A : Type 0} (read : ℕ → List ℕ → Option (A × List ℕ)) (front : List A) (count i : ℕ) (bytes : List ℕ) (o : Option (List A × List ℕ)) → count ≤ i
    → before_items front (numbered_at read (i + 1) (count - i) bytes) ≡ o → o ≡ Some (front, bytes)
unfolding numbered_at
numbered_end read front count i bytes o l e =
    let left : count - i ≡ 0 = omega arith in
    sym e ∙ ap (λ k. before_items front (numbered_at read (i + 1) k bytes)) left ∙ ap (λ f. Some (f, bytes)) (append-nil front)

pub outside : {A : Type 0} (e : Stop) (o : Option A) → e ≡ stop.Outside → o ≡ None → Stops e o
outside e o is none = let P : Stop → Type 0 = λ s. Stops s o in subst P (sym is) none
