-- Steps of a chain of readers: what they took, and what they take.
use Rattle.std.proofs.Common.{◌≡◌, ◌^◌, ◌<◌, ◌≤◌, ℕ, List, ◌++◌, Option, Some, ap}
use Rattle.std.specs.Prelude.{option_and_then}
use Rattle.std.specs.Fmt.{decimal}
use Rattle.std.proofs.lemmas.Option.{option_and_then_some}
use Rattle.plain_text.specs.Numbers.{number_at, NoDigitFirst}
use Rattle.plain_text.specs.Words.{word_at}
use Rattle.plain_text.proofs.NumberLaws.{number_takes, number_again}
use Rattle.plain_text.proofs.WordLaws.{word_takes, word_again}

-- a number that was read, and the rest of the chain at it
pub after_number : {B : Type 0} (f : (ℕ × List ℕ) → Option B) (limit : ℕ) (bytes : List ℕ) (y : B) → limit < 2 ^ 64 → option_and_then f (number_at limit bytes) ≡ Some y
    → (n : ℕ) × (rest : List ℕ) × (n ≤ limit) × (bytes ≡ decimal n ++ rest) × (f (n, rest) ≡ Some y)
after_number f limit bytes y s h =
    option_and_then_some f (number_at limit bytes) y h (λ x e k.
    let t = number_takes limit bytes x.0 x.1 s e in
    (x.0, x.1, t.1, t.0, k))

-- a word that was read
pub after_word : {B : Type 0} (f : List ℕ → Option B) (word bytes : List ℕ) (y : B) → option_and_then f (word_at word bytes) ≡ Some y → (rest : List ℕ) × (bytes ≡ word ++ rest) × (f rest ≡ Some y)
after_word f word bytes y h = option_and_then_some f (word_at word bytes) y h (λ x e k. (x, word_takes word bytes x e, k))

-- a number is read from its text
pub at_number : {B : Type 0} (f : (ℕ × List ℕ) → Option B) (limit n : ℕ) (rest : List ℕ) → limit < 2 ^ 64 → n ≤ limit → NoDigitFirst rest → option_and_then f (number_at limit (decimal n ++ rest)) ≡ f (n, rest)
at_number f limit n rest s l h = ap (option_and_then f) (number_again limit n rest s l h)

-- a word is read
pub at_word : {B : Type 0} (f : List ℕ → Option B) (word rest : List ℕ) → option_and_then f (word_at word (word ++ rest)) ≡ f rest
at_word f word rest = ap (option_and_then f) (word_again word rest)
