-- A line of a cycle, as a text and as read.
use Rattle.std.proofs.Common.{◌≡◌, ◌∙◌, ◌*◌, ◌<◌, ◌≤◌, ℕ, List, [], ◌∷◌, ◌++◌, length, Some, None, refl, sym, ap, arith, subst, codes, length-append}
use Rattle.std.specs.Prelude.{option_and_then}
use Rattle.std.specs.Fmt.{decimal}
use Rattle.std.proofs.lemmas.List.{append_assoc}
use Rattle.std.proofs.lemmas.Fmt.{decimal_nonempty}
use Rattle.std.proofs.lemmas.Option.{some_pair_parts, option_and_then_some}
use Rattle.plain_text.specs.Numbers.{NoDigitFirst}
use Rattle.plain_text.specs.Words.{word_at}
use Rattle.plain_text.proofs.WordLaws.{word_takes, word_again}
use Rattle.row_model.specs.declared.graph.Line.{Line}
use Rattle.row_model.specs.declared.graph.Why.{Why}
use Rattle.row_model.specs.declared.graph.Why.TheVariants.{Flip, Row}
use Rattle.text_parts.specs.Text.{why_text, cycle_line}
use Rattle.text_parts.specs.Grammar.{max_number, IsLine, IsReason}
use Rattle.text_parts.specs.Numbered.{numbered_at}
use Rattle.text_parts.specs.Reading.{row_reason_at, as_flip, why_at, line_at, or_else}
use Rattle.text_parts.proofs.Chains.{Takes, small, after_number, after_word, at_number, at_word}
use Rattle.text_parts.proofs.NumberedLaws.{numbered_none}

row_takes : (bytes : List ℕ) (why : Why) (rest : List ℕ) → row_reason_at bytes ≡ Some (why, rest) → Takes why_text IsReason bytes why rest
unfolding row_reason_at
row_takes bytes why rest h =
    let a = after_word _ (codes " row ") bytes (why, rest) h in
    let b = after_number _ max_number a.0 (why, rest) small a.2 in
    let d = after_word _ (10 ∷ []) b.1 (why, rest) b.4 in
    let p = some_pair_parts (Row b.0) why d.0 rest d.2 in
    record {
      good = subst IsReason p.0 b.2;
      front = a.1 ∙ ap (λ x. codes " row " ++ x) (b.3 ∙ ap (λ x. decimal b.0 ++ x) (d.1 ∙ ap (λ x. 10 ∷ x) p.1)) ∙ sym (append_assoc (codes " row ") (decimal b.0 ++ 10 ∷ []) rest ∙ ap (λ x. codes " row " ++ x) (append_assoc (decimal b.0) (10 ∷ []) rest)) ∙ ap (λ w. why_text w ++ rest) p.0;
    }

why_takes : (bytes : List ℕ) (why : Why) (rest : List ℕ) → why_at bytes ≡ Some (why, rest) → Takes why_text IsReason bytes why rest
unfolding why_at
why_takes bytes why rest h =
    (elim (word_at (codes " flip\n") bytes) as (λ o. word_at (codes " flip\n") bytes ≡ o → or_else (option_and_then as_flip o) (row_reason_at bytes) ≡ Some (why, rest) → Takes why_text IsReason bytes why rest) [
      | Some r ↦ λ e k.
          let p = some_pair_parts Flip why r rest k in
          record { good = subst IsReason p.0 tt; front = word_takes (codes " flip\n") bytes r e ∙ ap (λ x. codes " flip\n" ++ x) p.1 ∙ ap (λ w. why_text w ++ rest) p.0 }
      | None ↦ λ e k. row_takes bytes why rest k
    ]) refl h

line_regroup : (line : Line) (rest : List ℕ) → cycle_line line ++ rest ≡ decimal line.pair.a ++ (32 ∷ (decimal line.pair.b ++ (why_text line.why ++ rest)))
line_regroup line rest =
    append_assoc (decimal line.pair.a) (32 ∷ (decimal line.pair.b ++ why_text line.why)) rest ∙ ap (λ x. decimal line.pair.a ++ 32 ∷ x) (append_assoc (decimal line.pair.b) (why_text line.why) rest)

pub line_takes : (i : ℕ) (bytes : List ℕ) (line : Line) (rest : List ℕ) → line_at i bytes ≡ Some (line, rest) → Takes cycle_line IsLine bytes line rest
unfolding line_at
line_takes i bytes line rest h =
    let a = after_number _ max_number bytes (line, rest) small h in
    let b = after_word _ (32 ∷ []) a.1 (line, rest) a.4 in
    let d = after_number _ max_number b.0 (line, rest) small b.2 in
    option_and_then_some _ (why_at d.1) (line, rest) d.4 (λ x e k.
    let w = why_takes d.1 x.0 x.1 e in
    let made : Line = record { pair = record { a = a.0; b = d.0 }; why = x.0 } in
    let p = some_pair_parts made line x.1 rest k in
    record {
      good = subst IsLine p.0 (a.2, d.2, w.good);
      front = a.3 ∙ ap (λ y. decimal a.0 ++ y) (b.1 ∙ ap (λ y. 32 ∷ y) (d.3 ∙ ap (λ y. decimal d.0 ++ y) (w.front ∙ ap (λ y. why_text x.0 ++ y) p.1))) ∙ sym (line_regroup made rest) ∙ ap (λ l. cycle_line l ++ rest) p.0;
    })

no_flip : (rest : List ℕ) → word_at (codes " flip\n") (codes " row " ++ rest) ≡ None
unfolding word_at
no_flip rest = refl

why_again : (why : Why) (rest : List ℕ) → IsReason why → why_at (why_text why ++ rest) ≡ Some (why, rest)
unfolding why_at row_reason_at
why_again Flip rest h = ap (λ o. or_else (option_and_then as_flip o) (row_reason_at (codes " flip\n" ++ rest))) (word_again (codes " flip\n") rest)
why_again (Row k) rest h =
    let text : why_text (Row k) ++ rest ≡ codes " row " ++ (decimal k ++ 10 ∷ rest) = append_assoc (codes " row ") (decimal k ++ 10 ∷ []) rest ∙ ap (λ x. codes " row " ++ x) (append_assoc (decimal k) (10 ∷ []) rest) in
    let row : row_reason_at (codes " row " ++ (decimal k ++ 10 ∷ rest)) ≡ Some (Row k, rest) =
    at_word _ (codes " row ") (decimal k ++ 10 ∷ rest) ∙ at_number _ max_number k (10 ∷ rest) small h refl ∙ at_word _ (10 ∷ []) rest in
    ap why_at text ∙ ap (λ o. or_else (option_and_then as_flip o) (row_reason_at (codes " row " ++ (decimal k ++ 10 ∷ rest)))) (no_flip (decimal k ++ 10 ∷ rest)) ∙ row

why_stops : (why : Why) (rest : List ℕ) → NoDigitFirst (why_text why ++ rest)
why_stops Flip rest = refl
why_stops (Row k) rest = refl

pub line_again : (i : ℕ) (line : Line) (rest : List ℕ) → i ≤ max_number → IsLine line → line_at i (cycle_line line ++ rest) ≡ Some (line, rest)
unfolding line_at
line_again i line rest l h =
    ap (line_at i) (line_regroup line rest) ∙ at_number _ max_number line.pair.a (32 ∷ (decimal line.pair.b ++ (why_text line.why ++ rest))) small h.0 refl
    ∙ at_word _ (32 ∷ []) (decimal line.pair.b ++ (why_text line.why ++ rest))
    ∙ at_number _ max_number line.pair.b (why_text line.why ++ rest) small h.1 (why_stops line.why rest)
    ∙ ap (option_and_then _) (why_again line.why rest h.2)

-- a line has nine bytes or more
pub line_long : (line : Line) → IsLine line → 9 ≤ length (cycle_line line)
line_long l h =
    let a = decimal_nonempty l.pair.a (omega (arith, h.0)) in
    let b = decimal_nonempty l.pair.b (omega (arith, h.1)) in
    let w : 6 ≤ length (why_text l.why) = why_long l.why h.2 in
    omega (arith, length-append (decimal l.pair.a) (32 ∷ (decimal l.pair.b ++ why_text l.why)), length-append (decimal l.pair.b) (why_text l.why))
  where
    why_long : (w : Why) → IsReason w → 6 ≤ length (why_text w)
    why_long Flip h = omega arith
    why_long (Row k) h = omega (arith, length-append (decimal k) (10 ∷ []), decimal_nonempty k (omega (arith, h)))

-- bytes that so many lines cannot fill
pub lines_none : (n : ℕ) (bytes : List ℕ) → n ≤ max_number → length bytes < n * 9 → numbered_at line_at 1 n bytes ≡ None
lines_none n bytes k h = numbered_none line_at (λ i. cycle_line) IsLine 9 line_takes (λ i x l. line_long x) n bytes k h
