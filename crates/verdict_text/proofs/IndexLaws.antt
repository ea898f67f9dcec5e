-- A word and a given number, and the ends of intervals.
use Rattle.std.proofs.Common.{◌≡◌, ◌∙◌, ◌^◌, ◌<◌, ◌≤◌, ℕ, List, ◌++◌, Option, Some, None, refl, ap, arith, inl, inr, eqb, cond, eq-eqb}
use Rattle.std.specs.Prelude.{option_and_then}
use Rattle.std.specs.Fmt.{decimal}
use Rattle.std.proofs.lemmas.Bool.{eqb-true}
use Rattle.std.proofs.lemmas.Option.{none-some, same_Some, option_and_then_some}
use Rattle.plain_text.specs.Numbers.{NoDigitFirst}
use Rattle.plain_text.proofs.NumberLaws.{chosen}
use Rattle.text_parts.specs.Grammar.{max_number}
use Rattle.verdict_text.specs.Grammar.{max_end}
use Rattle.verdict_text.specs.Reading.{index_at}
use Rattle.text_parts.proofs.Chains.{small, after_number, after_word, at_number, at_word}

pub large : max_end < 2 ^ 64
large = omega arith

-- a word and a given number that were read
pub after_index : {B : Type 0} (f : List ℕ → Option B) (word : List ℕ) (i : ℕ) (bytes : List ℕ) (y : B) → option_and_then f (index_at word i bytes) ≡ Some y → (rest : List ℕ) × (bytes ≡ word ++ (decimal i ++ rest)) × (f rest ≡ Some y)
unfolding index_at
after_index f word i bytes y h =
    option_and_then_some f (index_at word i bytes) y h (λ r e k.
    let a = after_word _ word bytes r e in
    let b = after_number _ max_number a.0 r small a.2 in
    elim (chosen (eqb b.0 i) _ _ _ b.4) [
      | inl z ↦ (r, a.1 ∙ ap (λ x. word ++ x) (b.3 ∙ ap (λ n. decimal n ++ b.1) (eqb-true b.0 i z.0) ∙ ap (λ x. decimal i ++ x) (same_Some b.1 r z.1)), k)
      | inr z ↦ absurd (none-some _ z.1)
    ])

-- a word and a given number are read
pub at_index : {B : Type 0} (f : List ℕ → Option B) (word : List ℕ) (i : ℕ) (rest : List ℕ) → i ≤ max_number → NoDigitFirst rest → option_and_then f (index_at word i (word ++ (decimal i ++ rest))) ≡ f rest
unfolding index_at
at_index f word i rest l s =
    let found : index_at word i (word ++ (decimal i ++ rest)) ≡ Some rest = at_word _ word (decimal i ++ rest) ∙ at_number _ max_number i rest small l s ∙ ap (λ b. cond b (Some rest) None) (eq-eqb i i refl) in
    ap (option_and_then f) found
