-- Loops that print lists.
use Rattle.std.proofs.Common.{◌≡◌, ◌∙◌, ◌+◌, ◌<◌, ℕ, List, [], ◌∷◌, ◌++◌, length, take, get_or, sym, ap, arith}
use Rattle.std.specs.Prelude.{Result, Ok, Err, OnErr}
use Rattle.std.proofs.lemmas.List.{append_assoc, append-nil, take_more, length-take-le}
use Rattle.plain_text.specs.Pieces.{Extends}
use Rattle.text_parts.specs.Numbered.{numbered}

-- a text that grew twice
pub extends_after : (old now new front : List ℕ) → now ≡ old ++ front → Extends now new → Extends old new
extends_after old now new front e x = (front ++ x.0, x.1 ∙ ap (λ y. y ++ x.0) e ∙ append_assoc old front x.0)

pub on_err : {T E P : Type 0} (r : Result T E) → P → OnErr r P
on_err (Ok x) h = tt
on_err (Err e) h = h

pub numbered-append : {A : Type 0} (text : ℕ → A → List ℕ) (i : ℕ) (xs : List A) (x : A) → numbered text i (xs ++ x ∷ []) ≡ numbered text i xs ++ text (i + length xs) x
numbered-append text i [] x = append-nil (text i x) ∙ ap (λ k. text k x) (omega arith)
numbered-append text i (y ∷ xs) x =
    ap (λ z. text i y ++ z) (numbered-append text (i + 1) xs x) ∙ sym (append_assoc (text i y) (numbered text (i + 1) xs) (text (i + 1 + length xs) x))
    ∙ ap (λ k. (text i y ++ numbered text (i + 1) xs) ++ text k x) (omega arith)

-- a text that did not grow
pub unchanged : {old new : List ℕ} → new ≡ old → Extends old new
unchanged {old} e = ([], e ∙ sym (append-nil old))

-- one item more
pub numbered_more : {A : Type 0} (text : ℕ → A → List ℕ) (old now new : List ℕ) (xs : List A) (i : ℕ) (x d : A) → i < length xs → x ≡ get_or xs i d → now ≡ old ++ numbered text 1 (take i xs)
    → new ≡ now ++ text (i + 1) x → new ≡ old ++ numbered text 1 (take (i + 1) xs)
numbered_more text old now new xs i x d h r e k =
    let n : 1 + length (take i xs) ≡ i + 1 = omega (arith, length-take-le i xs (omega arith)) in
    let made : numbered text 1 (take (i + 1) xs) ≡ numbered text 1 (take i xs) ++ text (i + 1) x =
    ap (numbered text 1) (take_more xs i d h) ∙ numbered-append text 1 (take i xs) (get_or xs i d) ∙ ap (λ k. numbered text 1 (take i xs) ++ text k (get_or xs i d)) n ∙ ap (λ y. numbered text 1 (take i xs) ++ text (i + 1) y) (sym r) in
    rw (made, ← append_assoc, ← e) k

-- three pieces
pub joined : (old a b new x y z : List ℕ) → a ≡ old ++ x → b ≡ a ++ y → new ≡ b ++ z → new ≡ old ++ (x ++ (y ++ z))
joined old a b new x y z e f g = g ∙ ap (λ t. t ++ z) (f ∙ ap (λ t. t ++ y) e) ∙ append_assoc (old ++ x) y z ∙ append_assoc old x (y ++ z)
