-- Numbers, each after a space, as read.
use Rattle.std.proofs.Common.{◌≡◌, ◌∙◌, ◌+◌, ◌≤◌, ℕ, zero, suc, List, [], ◌∷◌, ◌++◌, length, Option, Some, None, refl, sym, ap, arith, length-append}
use Rattle.std.specs.Prelude.{option_and_then}
use Rattle.std.specs.Fmt.{decimal}
use Rattle.std.proofs.lemmas.List.{append-nil}
use Rattle.plain_text.specs.Numbers.{number_at}
use Rattle.plain_text.specs.Words.{word_at}
use Rattle.plain_text.proofs.NumberLaws.{number_takes}
use Rattle.plain_text.proofs.WordLaws.{word_takes}
use Rattle.text_parts.specs.Numbered.{with_first}
use Rattle.text_parts.specs.Grammar.{max_number}
use Rattle.text_parts.specs.Reading.{numbers_at, after_space}
use Rattle.text_parts.proofs.LoopLaws.{before_items, before_with}

-- what a number at the front leaves
pub number_short : (bytes : List ℕ) (n : ℕ) (rest : List ℕ) → number_at max_number bytes ≡ Some (n, rest) → length rest ≤ length bytes
number_short bytes n rest h =
    let e : length bytes ≡ length (decimal n) + length rest = ap length (number_takes max_number bytes n rest (omega arith) h).0 ∙ length-append (decimal n) rest in
    omega arith

pub space_short : (bytes space : List ℕ) → word_at (32 ∷ []) bytes ≡ Some space → suc (length space) ≡ length bytes
space_short bytes space h = sym (ap length (word_takes (32 ∷ []) bytes space h))

no_space : word_at (32 ∷ []) [] ≡ None
unfolding word_at
no_space = refl

-- the number that may be read does not matter where it is no less than that of the bytes
pub numbers_enough : (k m : ℕ) (bytes : List ℕ) → length bytes ≤ k → length bytes ≤ m → numbers_at k bytes ≡ numbers_at m bytes
unfolding numbers_at word_at
numbers_enough zero zero bytes h l = refl
numbers_enough zero (suc m) [] h l = refl
numbers_enough zero (suc m) (b ∷ bytes) h l = absurd (omega arith)
numbers_enough (suc k) zero [] h l = refl
numbers_enough (suc k) zero (b ∷ bytes) h l = absurd (omega arith)
numbers_enough (suc k) (suc m) bytes h l =
    (elim (word_at (32 ∷ []) bytes) as (λ o. word_at (32 ∷ []) bytes ≡ o → after_space o bytes (λ space. option_and_then (λ x. option_and_then (with_first x.0) (numbers_at k x.1)) (number_at max_number space))
    ≡ after_space o bytes (λ space. option_and_then (λ x. option_and_then (with_first x.0) (numbers_at m x.1)) (number_at max_number space))) [
      | None ↦ λ e. refl
      | Some space ↦ λ e.
          (elim (number_at max_number space) as (λ o. number_at max_number space ≡ o → option_and_then (λ x. option_and_then (with_first x.0) (numbers_at k x.1)) o ≡ option_and_then (λ x. option_and_then (with_first x.0) (numbers_at m x.1)) o) [
            | None ↦ λ f. refl
            | Some x ↦ λ f.
                let s = space_short bytes space e in
                let n = number_short space x.0 x.1 f in
                ap (option_and_then (with_first x.0)) (numbers_enough k m x.1 (omega arith) (omega arith))
          ]) refl
    ]) refl

-- the numbers from a place on, with all that may come
all_at : (bytes : List ℕ) (k : ℕ) → length bytes ≡ suc k → numbers_at (length bytes) bytes ≡ after_space (word_at (32 ∷ []) bytes) bytes (λ space. option_and_then (λ x. option_and_then (with_first x.0) (numbers_at k x.1)) (number_at max_number space))
unfolding numbers_at
all_at bytes k e = ap (λ n. numbers_at n bytes) e

pub numbers_step : (front new : List ℕ) (bytes space rest : List ℕ) (n : ℕ) (o : Option (List ℕ × List ℕ)) → word_at (32 ∷ []) bytes ≡ Some space → number_at max_number space ≡ Some (n, rest) → new ≡ front ++ n ∷ []
    → before_items front (numbers_at (length bytes) bytes) ≡ o → before_items new (numbers_at (length rest) rest) ≡ o
numbers_step front new bytes space rest n o w h e i =
    let s = space_short bytes space w in
    let t = number_short space n rest h in
    ap (λ f. before_items f (numbers_at (length rest) rest)) e ∙ before_with front n (numbers_at (length rest) rest)
    ∙ ap (λ x. before_items front (option_and_then (with_first n) x)) (numbers_enough (length rest) (length space) rest (omega arith) (omega arith))
    ∙ ap (λ x. before_items front (option_and_then (λ x. option_and_then (with_first x.0) (numbers_at (length space) x.1)) x)) (sym h)
    ∙ ap (λ x. before_items front (after_space x bytes (λ space'. option_and_then (λ x. option_and_then (with_first x.0) (numbers_at (length space) x.1)) (number_at max_number space')))) (sym w)
    ∙ ap (before_items front) (sym (all_at bytes (length space) (sym s))) ∙ i

pub numbers_stop : (front bytes space : List ℕ) (o : Option (List ℕ × List ℕ)) → word_at (32 ∷ []) bytes ≡ Some space → number_at max_number space ≡ None → before_items front (numbers_at (length bytes) bytes) ≡ o → o ≡ None
numbers_stop front bytes space o w h i =
    let s = space_short bytes space w in
    sym i ∙ ap (before_items front) (all_at bytes (length space) (sym s))
    ∙ ap (λ x. before_items front (after_space x bytes (λ space'. option_and_then (λ x. option_and_then (with_first x.0) (numbers_at (length space) x.1)) (number_at max_number space')))) w
    ∙ ap (λ x. before_items front (option_and_then (λ x. option_and_then (with_first x.0) (numbers_at (length space) x.1)) x)) h

numbers_none : (bytes : List ℕ) → word_at (32 ∷ []) bytes ≡ None → (k : ℕ) → numbers_at k bytes ≡ Some ([], bytes)
unfolding numbers_at
numbers_none bytes w zero = refl
numbers_none bytes w (suc k) = rw w refl

pub numbers_end : (front bytes : List ℕ) (o : Option (List ℕ × List ℕ)) → word_at (32 ∷ []) bytes ≡ None → before_items front (numbers_at (length bytes) bytes) ≡ o → o ≡ Some (front, bytes)
numbers_end front bytes o w i = sym i ∙ ap (before_items front) (numbers_none bytes w (length bytes)) ∙ ap (λ f. Some (f, bytes)) (append-nil front)
