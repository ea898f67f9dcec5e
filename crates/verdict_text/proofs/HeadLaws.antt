-- The first three lines: the version, the kind and the columns.
use Rattle.std.proofs.Common.{◌≡◌, ◌∙◌, ℕ, zero, suc, List, [], ◌∷◌, ◌++◌, length, Some, None, refl, sym, ap, subst, codes}
use Rattle.std.specs.Prelude.{option_and_then, flat_map}
use Rattle.std.proofs.lemmas.List.{append_assoc}
use Rattle.std.proofs.lemmas.Option.{some_pair_parts, option_and_then_some}
use Rattle.plain_text.specs.Numbers.{NoDigitFirst}
use Rattle.plain_text.specs.Words.{word_at}
use Rattle.plain_text.proofs.WordLaws.{word_takes}
use Rattle.row_model.specs.declared.kind.Kind.{Kind}
use Rattle.verdict_text.specs.Text.{version_line, kind_line, columns_line, head_text}
use Rattle.text_parts.specs.Text.{kind_word, number_word}
use Rattle.verdict_text.specs.Grammar.{side_count, AreColumnCounts}
use Rattle.text_parts.specs.Numbered.{with_first}
use Rattle.verdict_text.specs.Reading.{version_at, with_version, columns_at, head_at}
use Rattle.text_parts.specs.Reading.{or_else, kind_at, kind_from, all_kinds, column_count_at}
use Rattle.verdict_text.specs.declared.verdict.Version.{Version}
use Rattle.verdict_text.specs.declared.verdict.Version.TheVariants.{One, Two}
use Rattle.verdict_text.proofs.PrintLaws.{subject_pieces}
use Rattle.text_parts.proofs.KindLaws.{kind_takes, kind_again}
use Rattle.text_parts.proofs.Chains.{after_word, at_word}
use Rattle.text_parts.proofs.CountLaws.{count_takes, count_again}
use Rattle.text_parts.proofs.WordLaws.{words_stop}

record AreRead (n : ℕ) (bytes : List ℕ) (cs : List ℕ) (rest : List ℕ) : Type 0 where
  each : AreColumnCounts cs
  all : length cs ≡ n
  front : bytes ≡ flat_map number_word cs ++ rest

columns_take : (n : ℕ) (bytes : List ℕ) (cs : List ℕ) (rest : List ℕ) → columns_at n bytes ≡ Some (cs, rest) → AreRead n bytes cs rest
unfolding columns_at
columns_take zero bytes cs rest h =
    let p = some_pair_parts [] cs bytes rest h in
    subst (λ l. AreRead 0 bytes l rest) p.0 (record { each = tt; all = refl; front = p.1 })
columns_take (suc n) bytes cs rest h =
    option_and_then_some _ (column_count_at bytes) (cs, rest) h (λ x e k.
    option_and_then_some (with_first x.0) (columns_at n x.1) (cs, rest) k (λ y f m.
    let l = count_takes bytes x.0 x.1 e in
    let r = columns_take n x.1 y.0 y.1 f in
    let p = some_pair_parts (x.0 ∷ y.0) cs y.1 rest m in
    subst (λ l. AreRead (suc n) bytes l rest) p.0 (record {
      each = (l.good, r.each);
      all = ap suc r.all;
      front = l.front ∙ ap (λ z. number_word x.0 ++ z) (r.front ∙ ap (λ z. flat_map number_word y.0 ++ z) p.1) ∙ sym (append_assoc (number_word x.0) (flat_map number_word y.0) rest);
    })))

columns_again : (cs : List ℕ) (rest : List ℕ) → AreColumnCounts cs → NoDigitFirst rest → columns_at (length cs) (flat_map number_word cs ++ rest) ≡ Some (cs, rest)
unfolding columns_at
columns_again [] rest h s = refl
columns_again (c ∷ cs) rest h s =
    ap (columns_at (suc (length cs))) (append_assoc (number_word c) (flat_map number_word cs) rest)
    ∙ ap (option_and_then (λ x. option_and_then (with_first x.0) (columns_at (length cs) x.1))) (count_again c (flat_map number_word cs ++ rest) h.0 (words_stop cs rest s))
    ∙ ap (option_and_then (with_first c)) (columns_again cs rest h.1 s)

-- what is read stands at the front
version_takes : (bytes : List ℕ) (version : Version) (rest : List ℕ) → version_at bytes ≡ Some (version, rest) → bytes ≡ version_line version ++ rest
unfolding version_at
version_takes bytes version rest h =
    (elim (word_at (version_line One) bytes) as (λ o. word_at (version_line One) bytes ≡ o → or_else (option_and_then (with_version One) o) (option_and_then (with_version Two) (word_at (version_line Two) bytes)) ≡ Some (version, rest) → bytes ≡ version_line version ++ rest) [
      | Some r ↦ λ e m.
          let p = some_pair_parts One version r rest m in
          word_takes (version_line One) bytes r e ∙ ap (λ x. version_line One ++ x) p.1 ∙ ap (λ x. version_line x ++ rest) p.0
      | None ↦ λ e m.
          option_and_then_some (with_version Two) (word_at (version_line Two) bytes) (version, rest) m (λ r f k.
          let p = some_pair_parts Two version r rest k in
          word_takes (version_line Two) bytes r f ∙ ap (λ x. version_line Two ++ x) p.1 ∙ ap (λ x. version_line x ++ rest) p.0)
    ]) refl h

-- no line of a version begins another
version_again : (version : Version) (rest : List ℕ) → version_at (version_line version ++ rest) ≡ Some (version, rest)
unfolding version_at word_at
version_again One rest = refl
version_again Two rest = refl

-- the lines of the kind and of the columns and what follows them, piece by piece
subject_regroup : (kind : Kind) (cs rest : List ℕ) → (kind_line kind ++ columns_line cs) ++ rest ≡ codes "kind " ++ (kind_word kind ++ (codes "\ncolumns" ++ (flat_map number_word cs ++ (10 ∷ rest))))
subject_regroup kind cs rest =
    ap (λ t. t ++ rest) (sym (subject_pieces kind cs))
    ∙ ap (λ t. codes "kind " ++ t) (append_assoc (kind_word kind) (codes "\ncolumns" ++ (flat_map number_word cs ++ 10 ∷ [])) rest ∙ ap (λ t. kind_word kind ++ (codes "\ncolumns" ++ t)) (append_assoc (flat_map number_word cs) (10 ∷ []) rest))

-- the first three lines and what follows them, piece by piece
head_regroup : (version : Version) (kind : Kind) (cs rest : List ℕ) → head_text version kind cs ++ rest ≡ version_line version ++ (codes "kind " ++ (kind_word kind ++ (codes "\ncolumns" ++ (flat_map number_word cs ++ (10 ∷ rest)))))
head_regroup version kind cs rest = append_assoc (version_line version) (kind_line kind ++ columns_line cs) rest ∙ ap (λ t. version_line version ++ t) (subject_regroup kind cs rest)

pub record IsHead (bytes : List ℕ) (version : Version) (kind : Kind) (cs rest : List ℕ) : Type 0 where
  pub columns : AreColumnCounts cs
  pub sides : length cs ≡ side_count kind
  pub front : bytes ≡ head_text version kind cs ++ rest

pub head_takes : (bytes : List ℕ) (version : Version) (kind : Kind) (cs rest : List ℕ) → head_at bytes ≡ Some ((version, kind, cs), rest) → IsHead bytes version kind cs rest
unfolding head_at kind_at
head_takes bytes version kind cs rest h =
    option_and_then_some _ (version_at bytes) ((version, kind, cs), rest) h (λ v g i.
    let a = after_word _ (codes "kind ") v.1 ((version, kind, cs), rest) i in
    option_and_then_some _ (kind_from all_kinds a.0) ((version, kind, cs), rest) a.2 (λ x e k.
    let b = after_word _ (codes "\ncolumns") x.1 ((version, kind, cs), rest) k in
    option_and_then_some _ (columns_at (side_count x.0) b.0) ((version, kind, cs), rest) b.2 (λ y f m.
    let d = after_word _ (10 ∷ []) y.1 ((version, kind, cs), rest) m in
    let r = columns_take (side_count x.0) b.0 y.0 y.1 f in
    let p = some_pair_parts (v.0, x.0, y.0) (version, kind, cs) d.0 rest d.2 in
    let made : IsHead bytes v.0 x.0 y.0 rest = record {
      columns = r.each;
      sides = r.all;
      front = version_takes bytes v.0 v.1 g ∙ ap (λ z. version_line v.0 ++ z) (a.1 ∙ ap (λ z. codes "kind " ++ z) (kind_takes all_kinds a.0 x.0 x.1 e ∙ ap (λ z. kind_word x.0 ++ z) (b.1 ∙ ap (λ z. codes "\ncolumns" ++ z) (r.front ∙ ap (λ z. flat_map number_word y.0 ++ z) (d.1 ∙ ap (λ z. 10 ∷ z) p.1))))) ∙ sym (head_regroup v.0 x.0 y.0 rest);
    } in
    let P : (Version × Kind × List ℕ) → Type 0 = λ q. IsHead bytes q.0 q.1 q.2 rest in
    subst P p.0 made)))

pub head_again : (version : Version) (kind : Kind) (cs rest : List ℕ) → AreColumnCounts cs → length cs ≡ side_count kind → head_at (head_text version kind cs ++ rest) ≡ Some ((version, kind, cs), rest)
unfolding head_at kind_at
head_again version kind cs rest h l =
    let words : List ℕ = flat_map number_word cs ++ (10 ∷ rest) in
    let columns : columns_at (side_count kind) words ≡ Some (cs, 10 ∷ rest) = ap (λ n. columns_at n words) (sym l) ∙ columns_again cs (10 ∷ rest) h refl in
    ap head_at (head_regroup version kind cs rest)
    ∙ ap (option_and_then _) (version_again version (codes "kind " ++ (kind_word kind ++ (codes "\ncolumns" ++ words))))
    ∙ at_word _ (codes "kind ") (kind_word kind ++ (codes "\ncolumns" ++ words))
    ∙ ap (option_and_then _) (kind_again kind (codes "\ncolumns" ++ words))
    ∙ at_word _ (codes "\ncolumns") words
    ∙ ap (option_and_then _) columns
    ∙ at_word _ (10 ∷ []) rest
