-- A row and its order, as text and as read.
use Rattle.std.proofs.Common.{◌≡◌, ◌∙◌, ◌*◌, ◌<◌, ◌≤◌, ℕ, false, List, [], ◌∷◌, ◌++◌, length, Some, None, refl, sym, ap, arith, inl, inr, subst, codes, eqb, length-append}
use Rattle.std.specs.Prelude.{option_and_then, flat_map}
use Rattle.std.specs.List.{AllByRecursion}
use Rattle.std.specs.Fmt.{decimal}
use Rattle.std.proofs.lemmas.Bool.{ne_eqb}
use Rattle.std.proofs.lemmas.Fmt.{decimal_nonempty}
use Rattle.std.proofs.lemmas.List.{append_assoc}
use Rattle.std.proofs.lemmas.Option.{none-some, some_pair_parts, option_and_then_some}
use Rattle.plain_text.proofs.NumberLaws.{chosen}
use Rattle.text_parts.specs.Grammar.{max_number, Fits32}
use Rattle.core_text.specs.Texts.{IsEntry, entry_text}
use Rattle.text_parts.specs.Text.{number_word}
use Rattle.text_parts.specs.Numbered.{numbered_at}
use Rattle.text_parts.specs.Reading.{numbers_at}
use Rattle.core_text.specs.Reading.{entry_at}
use Rattle.text_parts.proofs.Chains.{Takes, small, after_number, after_word, at_number, at_word, some_number}
use Rattle.text_parts.proofs.WordLaws.{numbers_take, numbers_again, words_long}
use Rattle.text_parts.proofs.NumberedLaws.{numbered_none}

entry_regroup : (entry : ℕ × List ℕ) (rest : List ℕ) → entry_text entry ++ rest ≡ codes "row " ++ (decimal entry.0 ++ (codes "\nwithout" ++ (flat_map number_word entry.1 ++ (10 ∷ rest))))
entry_regroup entry rest =
    ap (λ x. codes "row " ++ x) (append_assoc (decimal entry.0) (codes "\nwithout" ++ (flat_map number_word entry.1 ++ 10 ∷ [])) rest
    ∙ ap (λ x. decimal entry.0 ++ (codes "\nwithout" ++ x)) (append_assoc (flat_map number_word entry.1) (10 ∷ []) rest))

pub entry_takes : (i : ℕ) (bytes : List ℕ) (entry : ℕ × List ℕ) (rest : List ℕ) → entry_at i bytes ≡ Some (entry, rest) → Takes entry_text IsEntry bytes entry rest
unfolding entry_at
entry_takes i bytes entry rest h =
    let a = after_word _ (codes "row ") bytes (entry, rest) h in
    let b = after_number _ max_number a.0 (entry, rest) small a.2 in
    let d = after_word _ (codes "\nwithout") b.1 (entry, rest) b.4 in
    option_and_then_some _ (numbers_at (length d.0) d.0) (entry, rest) d.2 (λ y f m.
    let r = numbers_take (length d.0) d.0 y.0 y.1 f in
    let e = after_word _ (10 ∷ []) y.1 (entry, rest) m in
    elim (chosen (eqb (length y.0) 0) _ _ _ e.2) [
      | inl z ↦ absurd (none-some _ z.1)
      | inr z ↦
          let made : ℕ × List ℕ = (b.0, y.0) in
          let p = some_pair_parts made entry e.0 rest z.1 in
          record {
            good = subst IsEntry p.0 (b.2, (some_number (length y.0) z.0, r.each));
            front = a.1 ∙ ap (λ w. codes "row " ++ w) (b.3 ∙ ap (λ w. decimal b.0 ++ w) (d.1 ∙ ap (λ w. codes "\nwithout" ++ w) (r.front ∙ ap (λ w. flat_map number_word y.0 ++ w) (e.1 ∙ ap (λ w. 10 ∷ w) p.1))))
                ∙ sym (entry_regroup made rest) ∙ ap (λ w. entry_text w ++ rest) p.0;
          }
    ])

pub entry_again : (i : ℕ) (entry : ℕ × List ℕ) (rest : List ℕ) → i ≤ max_number → IsEntry entry → entry_at i (entry_text entry ++ rest) ≡ Some (entry, rest)
unfolding entry_at
entry_again i entry rest l h =
    let some : eqb (length entry.1) 0 ≡ false = ne_eqb (length entry.1) 0 (λ e. omega (arith, h.1.0)) in
    let words : List ℕ = flat_map number_word entry.1 ++ (10 ∷ rest) in
    ap (entry_at i) (entry_regroup entry rest)
    ∙ at_word _ (codes "row ") (decimal entry.0 ++ (codes "\nwithout" ++ words))
    ∙ at_number _ max_number entry.0 (codes "\nwithout" ++ words) small h.0 refl
    ∙ at_word _ (codes "\nwithout") words
    ∙ ap (option_and_then _) (numbers_again (length words) entry.1 rest (words_long entry.1 rest) h.1.1)
    ∙ at_word _ (10 ∷ []) rest ∙ rw some refl

-- an entry has sixteen bytes or more
pub entry_long : (entry : ℕ × List ℕ) → IsEntry entry → 16 ≤ length (entry_text entry)
entry_long entry h =
    let a = decimal_nonempty entry.0 (omega (arith, h.0)) in
    let b : 2 ≤ length (flat_map number_word entry.1) = words_two entry.1 h.1.0 h.1.1 in
    omega (arith, length-append (decimal entry.0) (codes "\nwithout" ++ (flat_map number_word entry.1 ++ 10 ∷ [])), length-append (flat_map number_word entry.1) (10 ∷ []))
  where
    words_two : (ns : List ℕ) → 1 ≤ length ns → AllByRecursion Fits32 ns → 2 ≤ length (flat_map number_word ns)
    words_two [] l h = absurd (omega arith)
    words_two (n ∷ ns) l h = omega (arith, decimal_nonempty n (omega (arith, h.0)), length-append (decimal n) (flat_map number_word ns))

-- bytes that so many entries cannot fill
pub entries_none : (n : ℕ) (bytes : List ℕ) → n ≤ max_number → length bytes < n * 16 → numbered_at entry_at 1 n bytes ≡ None
entries_none n bytes k h = numbered_none entry_at (λ i. entry_text) IsEntry 16 entry_takes (λ i x l. entry_long x) n bytes k h
