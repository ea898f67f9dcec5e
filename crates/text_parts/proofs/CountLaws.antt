-- A number of columns after a space, as a text and as read.
use Rattle.std.proofs.Common.{◌≡◌, ◌∙◌, ℕ, false, List, [], ◌∷◌, ◌++◌, Some, refl, ap, arith, inl, inr, subst, eqb}
use Rattle.std.specs.Fmt.{decimal}
use Rattle.std.proofs.lemmas.Bool.{ne_eqb}
use Rattle.std.proofs.lemmas.Option.{none-some, some_pair_parts}
use Rattle.plain_text.specs.Numbers.{NoDigitFirst}
use Rattle.plain_text.proofs.NumberLaws.{chosen}
use Rattle.row_model.specs.declared.TheConstants.{MAX_COLUMNS}
use Rattle.text_parts.specs.Text.{number_word}
use Rattle.text_parts.specs.Grammar.{IsColumnCount}
use Rattle.text_parts.specs.Reading.{column_count_at}
use Rattle.text_parts.proofs.Chains.{Takes, after_number, after_word, at_number, at_word, some_number}

pub count_takes : (bytes : List ℕ) (c : ℕ) (rest : List ℕ) → column_count_at bytes ≡ Some (c, rest) → Takes number_word IsColumnCount bytes c rest
unfolding column_count_at
count_takes bytes c rest h =
    let a = after_word _ (32 ∷ []) bytes (c, rest) h in
    let b = after_number _ MAX_COLUMNS a.0 (c, rest) (omega arith) a.2 in
    elim (chosen (eqb b.0 0) _ _ _ b.4) [
      | inl z ↦ absurd (none-some _ z.1)
      | inr z ↦
          let p = some_pair_parts b.0 c b.1 rest z.1 in
          record {
            good = subst IsColumnCount p.0 (some_number b.0 z.0, b.2);
            front = a.1 ∙ ap (λ y. 32 ∷ y) (b.3 ∙ ap (λ n. decimal n ++ b.1) p.0 ∙ ap (λ y. decimal c ++ y) p.1);
          }
    ]

pub count_again : (c : ℕ) (rest : List ℕ) → IsColumnCount c → NoDigitFirst rest → column_count_at (number_word c ++ rest) ≡ Some (c, rest)
unfolding column_count_at
count_again c rest h s =
    let z : eqb c 0 ≡ false = ne_eqb c 0 (λ e. omega (arith, h.0)) in
    at_word _ (32 ∷ []) (decimal c ++ rest) ∙ at_number _ MAX_COLUMNS c rest (omega arith) h.1 s ∙ rw z refl
