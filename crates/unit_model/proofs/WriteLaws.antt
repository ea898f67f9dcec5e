-- A loop that prints left ends.
use Rattle.std.proofs.Common.{◌≡◌, ◌∙◌, ◌+◌, ◌<◌, ℕ, List, [], ◌∷◌, ◌++◌, length, take, get_or, sym, ap, arith, codes}
use Rattle.std.specs.Prelude.{Result, Ok, Err, OnErr}
use Rattle.std.proofs.lemmas.List.{append_assoc, append-nil, take_more, length-take-le}
use Rattle.plain_text.specs.Pieces.{Extends}
use Rattle.std.specs.Fmt.{decimal}
use Rattle.unit_model.specs.Text.{left_line, left_lines, unit_head}

-- a text that grew twice
pub extends_after : (old now new front : List ℕ) → now ≡ old ++ front → Extends now new → Extends old new
extends_after old now new front e x = (front ++ x.0, x.1 ∙ ap (λ y. y ++ x.0) e ∙ append_assoc old front x.0)

pub on_err : {T E P : Type 0} (r : Result T E) → P → OnErr r P
on_err (Ok x) h = tt
on_err (Err e) h = h

left_lines-append : (i : ℕ) (lefts : List ℕ) (x : ℕ) → left_lines i (lefts ++ x ∷ []) ≡ left_lines i lefts ++ left_line (i + length lefts) x
left_lines-append i [] x = append-nil (left_line i x) ∙ ap (λ k. left_line k x) (omega arith)
left_lines-append i (y ∷ lefts) x =
    ap (λ z. left_line i y ++ z) (left_lines-append (i + 1) lefts x) ∙ sym (append_assoc (left_line i y) (left_lines (i + 1) lefts) (left_line (i + 1 + length lefts) x))
    ∙ ap (λ k. (left_line i y ++ left_lines (i + 1) lefts) ++ left_line k x) (omega arith)

-- a text that did not grow
pub unchanged : {old new : List ℕ} → new ≡ old → Extends old new
unchanged {old} e = ([], e ∙ sym (append-nil old))

-- one line more
pub lines_more : (old now new lefts : List ℕ) (i : ℕ) → i < length lefts → now ≡ old ++ left_lines 1 (take i lefts) → new ≡ now ++ left_line (i + 1) (get_or lefts i 0) →
    new ≡ old ++ left_lines 1 (take (i + 1) lefts)
lines_more old now new lefts i h e k =
    let x = get_or lefts i 0 in
    let n : 1 + length (take i lefts) ≡ i + 1 = omega (arith, length-take-le i lefts (omega arith)) in
    k ∙ ap (λ y. y ++ left_line (i + 1) x) e ∙ append_assoc old (left_lines 1 (take i lefts)) (left_line (i + 1) x)
    ∙ ap (λ y. old ++ y) (sym (ap (left_lines 1) (take_more lefts i 0 h) ∙ left_lines-append 1 (take i lefts) x ∙ ap (λ j. left_lines 1 (take i lefts) ++ left_line j x) n))

-- the head, line by line
pub head_printed : (old now new : List ℕ) (vertices size wide : ℕ) → wide ≡ vertices → now ≡ old ++ (codes "pq-unit 1\nvertices " ++ (decimal wide ++ 10 ∷ [])) → new ≡ now ++ (codes "length " ++ (decimal size ++ 10 ∷ [])) →
    new ≡ old ++ unit_head vertices size
head_printed old now new vertices size wide w h k =
    let first = codes "pq-unit 1\nvertices " in
    let line = codes "length " ++ (decimal size ++ 10 ∷ []) in
    k ∙ ap (λ t. t ++ line) (h ∙ ap (λ n. old ++ (first ++ (decimal n ++ 10 ∷ []))) w)
    ∙ append_assoc old (first ++ (decimal vertices ++ 10 ∷ [])) line
    ∙ ap (λ t. old ++ t) (append_assoc first (decimal vertices ++ 10 ∷ []) line ∙ ap (λ t. first ++ t) (append_assoc (decimal vertices) (10 ∷ []) line))
