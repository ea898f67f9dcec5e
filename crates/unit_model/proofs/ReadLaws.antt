-- Steps of a reader.
use Rattle.std.proofs.Common.{◌≡◌, ℕ, List, Option, Some, None, sym, ap}
use Rattle.std.specs.Prelude.{option_and_then}
use Rattle.plain_text.specs.Numbers.{number_at}
use Rattle.plain_text.specs.Words.{word_at}

-- what a word and a number behind it gave, and the steps behind them
pub next_number : {C : Type 0} (word : List ℕ) (limit : ℕ) (bytes : List ℕ) (r : Option (ℕ × List ℕ)) (f : (ℕ × List ℕ) → Option C) → r ≡ option_and_then (number_at limit) (word_at word bytes)
    → option_and_then (λ x. option_and_then f (number_at limit x)) (word_at word bytes) ≡ option_and_then f r
next_number word limit bytes r f e =
    (elim (word_at word bytes) as (λ o. r ≡ option_and_then (number_at limit) o → option_and_then (λ x. option_and_then f (number_at limit x)) o ≡ option_and_then f r) [
      | None ↦ λ h. ap (option_and_then f) (sym h)
      | Some x ↦ λ h. ap (option_and_then f) (sym h)
    ]) e
