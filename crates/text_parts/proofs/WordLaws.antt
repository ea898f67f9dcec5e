-- Numbers, each after a space, as a text and as read.
use Rattle.std.proofs.Common.{◌≡◌, ◌∙◌, ◌<◌, ℕ, zero, suc, List, [], ◌∷◌, ◌++◌, length, Some, None, refl, sym, ap, arith, subst, length-append}
use Rattle.std.specs.Prelude.{option_and_then, flat_map}
use Rattle.std.specs.List.{AllByRecursion}
use Rattle.std.specs.Fmt.{decimal}
use Rattle.std.proofs.lemmas.List.{append_assoc}
use Rattle.std.proofs.lemmas.Option.{some_pair_parts, option_and_then_some}
use Rattle.plain_text.specs.Numbers.{number_at, NoDigitFirst}
use Rattle.plain_text.specs.Words.{word_at}
use Rattle.plain_text.proofs.WordLaws.{word_takes, word_again}
use Rattle.text_parts.specs.Text.{number_word}
use Rattle.text_parts.specs.Grammar.{max_number, Fits32}
use Rattle.text_parts.specs.Numbered.{with_first}
use Rattle.text_parts.specs.Reading.{numbers_at, after_space}
use Rattle.text_parts.proofs.Chains.{small, after_number, at_number}

pub record AreNumbers (bytes : List ℕ) (ns : List ℕ) (rest : List ℕ) : Type 0 where
  pub each : AllByRecursion Fits32 ns
  pub front : bytes ≡ flat_map number_word ns ++ rest

pub numbers_take : (n : ℕ) (bytes : List ℕ) (ns : List ℕ) (rest : List ℕ) → numbers_at n bytes ≡ Some (ns, rest) → AreNumbers bytes ns rest
unfolding numbers_at
numbers_take zero bytes ns rest h =
    let e' = some_pair_parts [] ns bytes rest h in
    subst (λ l. AreNumbers bytes l rest) e'.0 (record { each = tt; front = e'.1 })
numbers_take (suc n) bytes ns rest h =
    (elim (word_at (32 ∷ []) bytes) as (λ o. word_at (32 ∷ []) bytes ≡ o → after_space o bytes (λ space. option_and_then (λ x. option_and_then (with_first x.0) (numbers_at n x.1)) (number_at max_number space)) ≡ Some (ns, rest) → AreNumbers bytes ns rest) [
      | None ↦ λ e k. let e' = some_pair_parts [] ns bytes rest k in subst (λ l. AreNumbers bytes l rest) e'.0 (record { each = tt; front = e'.1 })
      | Some space ↦ λ e k.
          let a = after_number _ max_number space (ns, rest) small k in
          option_and_then_some (with_first a.0) (numbers_at n a.1) (ns, rest) a.4 (λ y f m.
          let r = numbers_take n a.1 y.0 y.1 f in
          let e' = some_pair_parts (a.0 ∷ y.0) ns y.1 rest m in
          subst (λ l. AreNumbers bytes l rest) e'.0 (record {
            each = (a.2, r.each);
            front = word_takes (32 ∷ []) bytes space e ∙ ap (λ z. 32 ∷ z) (a.3 ∙ ap (λ z. decimal a.0 ++ z) (r.front ∙ ap (λ z. flat_map number_word y.0 ++ z) e'.1) ∙ sym (append_assoc (decimal a.0) (flat_map number_word y.0) rest));
          }))
    ]) refl h

-- no space at the front of a line feed
feed_stops : (rest : List ℕ) → word_at (32 ∷ []) (10 ∷ rest) ≡ None
unfolding word_at
feed_stops rest = refl

pub words_stop : (cs : List ℕ) (rest : List ℕ) → NoDigitFirst rest → NoDigitFirst (flat_map number_word cs ++ rest)
words_stop [] rest s = s
words_stop (c ∷ cs) rest s = refl

pub numbers_again : (n : ℕ) (ns : List ℕ) (rest : List ℕ) → length ns < n → AllByRecursion Fits32 ns → numbers_at n (flat_map number_word ns ++ (10 ∷ rest)) ≡ Some (ns, 10 ∷ rest)
unfolding numbers_at
numbers_again zero ns rest l h = absurd (omega arith)
numbers_again (suc n) [] rest l h = ap (λ o. after_space o (10 ∷ rest) (λ space. option_and_then (λ x. option_and_then (with_first x.0) (numbers_at n x.1)) (number_at max_number space))) (feed_stops rest)
numbers_again (suc n) (k ∷ ns) rest l h =
    let bytes : List ℕ = 32 ∷ (decimal k ++ (flat_map number_word ns ++ (10 ∷ rest))) in
    let text : flat_map number_word (k ∷ ns) ++ (10 ∷ rest) ≡ bytes = ap (λ z. 32 ∷ z) (append_assoc (decimal k) (flat_map number_word ns) (10 ∷ rest)) in
    ap (numbers_at (suc n)) text
    ∙ ap (λ o. after_space o bytes (λ space. option_and_then (λ x. option_and_then (with_first x.0) (numbers_at n x.1)) (number_at max_number space))) (word_again (32 ∷ []) (decimal k ++ (flat_map number_word ns ++ (10 ∷ rest))))
    ∙ at_number _ max_number k (flat_map number_word ns ++ (10 ∷ rest)) small h.0 (words_stop ns (10 ∷ rest) refl)
    ∙ ap (option_and_then (with_first k)) (numbers_again n ns rest (omega arith) h.1)

pub words_long : (ns rest : List ℕ) → length ns < length (flat_map number_word ns ++ (10 ∷ rest))
words_long [] rest = omega arith
words_long (n ∷ ns) rest = omega (arith, words_long ns rest, length-append (decimal n) (flat_map number_word ns), length-append (flat_map number_word ns) (10 ∷ rest), length-append (flat_map number_word (n ∷ ns)) (10 ∷ rest))
