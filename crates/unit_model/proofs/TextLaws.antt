-- What is read is the text of a unit model, and the text of a unit model is read.
use Rattle.std.proofs.Common.{◌≡◌, ◌∙◌, ◌+◌, ◌*◌, ◌-◌, ◌<◌, ◌≤◌, ◌^◌, ℕ, zero, suc, List, [], ◌∷◌, ◌++◌, length, false, Option, Some, None, refl, sym, ap, subst, inl, inr, arith, codes, cond, eqb, eq-eqb}
use Rattle.std.specs.Prelude.{option_and_then, IfSome, IfNone, ◌≢◌}
use Rattle.std.specs.Fmt.{decimal}
use Rattle.std.specs.List.{AllByRecursion}
use Rattle.std.proofs.lemmas.Bool.{eqb-true, ne_eqb}
use Rattle.std.proofs.lemmas.List.{append_assoc, append-nil, length-append, nil_from_length}
use Rattle.std.proofs.lemmas.Option.{none-some, same_Some, some_pair_parts, option_and_then_some}
use Rattle.std.proofs.lemmas.Fmt.{length-decimal-le}
use Rattle.plain_text.proofs.NumberLaws.{chosen}
use Rattle.row_model.specs.declared.TheConstants.{MAX_COLUMNS}
use Rattle.unit_model.specs.Text.{UnitValue, max_end, IsEnd, IsUnit, left_line, left_lines, unit_head, unit_text}
use Rattle.unit_model.specs.Reading.{left_at, lefts_at, head_at, unit_of, with_first}
use Rattle.unit_model.specs.Laws.{OneUnitLaw, TextLengthLaw}
use Rattle.plain_text.proofs.Chains.{after_number, after_word, at_number, at_word}

small : MAX_COLUMNS < 2 ^ 64
small = omega arith

large : max_end < 2 ^ 64
large = omega arith

-- a left end that was read
record IsLeft (i : ℕ) (bytes : List ℕ) (left : ℕ) (rest : List ℕ) : Type 0 where
  fits : IsEnd left
  front : bytes ≡ left_line i left ++ rest

line_pieces : (i left : ℕ) (rest : List ℕ) → codes "unit " ++ (decimal i ++ (32 ∷ (decimal left ++ 10 ∷ rest))) ≡ left_line i left ++ rest
line_pieces i left rest =
    ap (λ w. codes "unit " ++ w) (
    ap (λ w. decimal i ++ (32 ∷ w)) (sym (append_assoc (decimal left) (10 ∷ []) rest))
    ∙ sym (append_assoc (decimal i) (32 ∷ (decimal left ++ 10 ∷ [])) rest)
    )

left_takes : (i : ℕ) (bytes : List ℕ) (left : ℕ) (rest : List ℕ) → left_at i bytes ≡ Some (left, rest) → IsLeft i bytes left rest
unfolding left_at
left_takes i bytes left rest h =
    let a = after_word _ (codes "unit ") bytes (left, rest) h in
    let b = after_number _ MAX_COLUMNS a.0 (left, rest) small a.2 in
    let d = after_word _ (32 ∷ []) b.1 (left, rest) b.4 in
    let e = after_number _ max_end d.0 (left, rest) large d.2 in
    let f = after_word _ (10 ∷ []) e.1 (left, rest) e.4 in
    elim (chosen (eqb b.0 i) _ _ _ f.2) [
      | inl z ↦
          let p = some_pair_parts e.0 left f.0 rest z.1 in
          record {
            fits = subst IsEnd p.0 e.2;
            front = a.1 ∙ ap (λ w. codes "unit " ++ w) (b.3 ∙ ap (λ n. decimal n ++ b.1) (eqb-true b.0 i z.0)
                ∙ ap (λ w. decimal i ++ w) (d.1 ∙ ap (λ w. 32 ∷ w) (e.3 ∙ ap (λ n. decimal n ++ e.1) p.0 ∙ ap (λ w. decimal left ++ w) (f.1 ∙ ap (λ w. 10 ∷ w) p.1))))
                ∙ line_pieces i left rest;
          }
      | inr z ↦ absurd (none-some _ z.1)
    ]

left_again : (i left : ℕ) (rest : List ℕ) → i ≤ MAX_COLUMNS → IsEnd left → left_at i (left_line i left ++ rest) ≡ Some (left, rest)
unfolding left_at
left_again i left rest l k =
    ap (left_at i) (sym (line_pieces i left rest))
    ∙ at_word _ (codes "unit ") (decimal i ++ (32 ∷ (decimal left ++ 10 ∷ rest)))
    ∙ at_number _ MAX_COLUMNS i (32 ∷ (decimal left ++ 10 ∷ rest)) small l refl
    ∙ at_word _ (32 ∷ []) (decimal left ++ 10 ∷ rest)
    ∙ at_number _ max_end left (10 ∷ rest) large k refl
    ∙ at_word _ (10 ∷ []) rest
    ∙ ap (λ b. cond b (Some (left, rest)) None) (eq-eqb i i refl)

-- left ends that were read
record AreLefts (i n : ℕ) (bytes lefts rest : List ℕ) : Type 0 where
  each : AllByRecursion IsEnd lefts
  all : length lefts ≡ n
  front : bytes ≡ left_lines i lefts ++ rest

lefts_take : (i n : ℕ) (bytes lefts rest : List ℕ) → lefts_at i n bytes ≡ Some (lefts, rest) → AreLefts i n bytes lefts rest
unfolding lefts_at
lefts_take i zero bytes lefts rest h =
    let p = some_pair_parts [] lefts bytes rest h in
    subst (λ l. AreLefts i 0 bytes l rest) p.0 (record { each = tt; all = refl; front = p.1 })
lefts_take i (suc n) bytes lefts rest h =
    option_and_then_some _ (left_at i bytes) (lefts, rest) h (λ x e k.
    option_and_then_some (with_first x.0) (lefts_at (i + 1) n x.1) (lefts, rest) k (λ y f m.
    let l = left_takes i bytes x.0 x.1 e in
    let r = lefts_take (i + 1) n x.1 y.0 y.1 f in
    let p = some_pair_parts (x.0 ∷ y.0) lefts y.1 rest m in
    subst (λ l. AreLefts i (suc n) bytes l rest) p.0 (record {
      each = (l.fits, r.each);
      all = ap suc r.all;
      front = l.front ∙ ap (λ z. left_line i x.0 ++ z) (r.front ∙ ap (λ z. left_lines (i + 1) y.0 ++ z) p.1) ∙ sym (append_assoc (left_line i x.0) (left_lines (i + 1) y.0) rest);
    })))

lefts_again : (i : ℕ) (lefts rest : List ℕ) → i + length lefts ≤ suc MAX_COLUMNS → AllByRecursion IsEnd lefts → lefts_at i (length lefts) (left_lines i lefts ++ rest) ≡ Some (lefts, rest)
unfolding lefts_at
lefts_again i [] rest l h = refl
lefts_again i (x ∷ xs) rest l h =
    ap (λ b. option_and_then (λ y. option_and_then (with_first y.0) (lefts_at (i + 1) (length xs) y.1)) (left_at i b)) (append_assoc (left_line i x) (left_lines (i + 1) xs) rest)
    ∙ ap (option_and_then (λ y. option_and_then (with_first y.0) (lefts_at (i + 1) (length xs) y.1))) (left_again i x (left_lines (i + 1) xs ++ rest) (omega arith) h.0)
    ∙ ap (option_and_then (with_first x)) (lefts_again (i + 1) xs rest (omega arith) h.1)

so_many_again : (n : ℕ) (lefts rest : List ℕ) → length lefts ≡ n → n ≤ MAX_COLUMNS → AllByRecursion IsEnd lefts → lefts_at 1 n (left_lines 1 lefts ++ rest) ≡ Some (lefts, rest)
so_many_again n lefts rest e l h = ap (λ k. lefts_at 1 k (left_lines 1 lefts ++ rest)) (sym e) ∙ lefts_again 1 lefts rest (omega (arith, e, l)) h

-- as many are read as are asked for
pub lefts_many : (n : ℕ) (bytes : List ℕ) (lefts rest : List ℕ) → lefts_at 1 n bytes ≡ Some (lefts, rest) → length lefts ≡ n
lefts_many n bytes lefts rest h = (lefts_take 1 n bytes lefts rest h).all

-- a head that was read
-- a head, of which the parts are compared
some_triple : (h k : ℕ × ℕ × List ℕ) → Some h ≡ Some k → (h.0 ≡ k.0) × (h.1 ≡ k.1) × (h.2 ≡ k.2)
some_triple h k e = let same : h ≡ k = same_Some h k e in (ap (λ (t : ℕ × ℕ × List ℕ). t.0) same, ap (λ (t : ℕ × ℕ × List ℕ). t.1) same, ap (λ (t : ℕ × ℕ × List ℕ). t.2) same)

record IsHead (bytes : List ℕ) (n m : ℕ) (rest : List ℕ) : Type 0 where
  vertices : (1 ≤ n) × (n ≤ MAX_COLUMNS)
  size : IsEnd m
  front : bytes ≡ unit_head n m ++ rest

head_pieces : (vertices size : ℕ) (rest : List ℕ) → codes "pq-unit 1\nvertices " ++ (decimal vertices ++ (codes "\nlength " ++ (decimal size ++ 10 ∷ rest))) ≡ unit_head vertices size ++ rest
head_pieces vertices size rest =
    ap (λ w. codes "pq-unit 1\nvertices " ++ w) (
    ap (λ w. decimal vertices ++ (codes "\nlength " ++ w)) (sym (append_assoc (decimal size) (10 ∷ []) rest))
    ∙ sym (append_assoc (decimal vertices) (codes "\nlength " ++ (decimal size ++ 10 ∷ [])) rest)
    )

some_number : (n : ℕ) → eqb n 0 ≡ false → 1 ≤ n
some_number zero h = absurd cc
some_number (suc n) h = omega arith

head_takes : (bytes : List ℕ) (vertices size : ℕ) (rest : List ℕ) → head_at bytes ≡ Some (vertices, size, rest) → IsHead bytes vertices size rest
unfolding head_at
head_takes bytes vertices size rest h =
    let a = after_word _ (codes "pq-unit 1\nvertices ") bytes (vertices, size, rest) h in
    let b = after_number _ MAX_COLUMNS a.0 (vertices, size, rest) small a.2 in
    let d = after_word _ (codes "\nlength ") b.1 (vertices, size, rest) b.4 in
    let e = after_number _ max_end d.0 (vertices, size, rest) large d.2 in
    let f = after_word _ (10 ∷ []) e.1 (vertices, size, rest) e.4 in
    elim (chosen (eqb b.0 0) _ _ _ f.2) [
      | inl z ↦ absurd (none-some _ z.1)
      | inr z ↦
          let p : (b.0 ≡ vertices) × (e.0 ≡ size) × (f.0 ≡ rest) = some_triple (b.0, e.0, f.0) (vertices, size, rest) z.1 in
          record {
            vertices = subst (λ n. (1 ≤ n) × (n ≤ MAX_COLUMNS)) p.0 (some_number b.0 z.0, b.2);
            size = subst IsEnd p.1 e.2;
            front = a.1 ∙ ap (λ w. codes "pq-unit 1\nvertices " ++ w) (b.3 ∙ ap (λ n. decimal n ++ b.1) p.0
                ∙ ap (λ w. decimal vertices ++ w) (d.1 ∙ ap (λ w. codes "\nlength " ++ w) (e.3 ∙ ap (λ n. decimal n ++ e.1) p.1 ∙ ap (λ w. decimal size ++ w) (f.1 ∙ ap (λ w. 10 ∷ w) p.2))))
                ∙ head_pieces vertices size rest;
          }
    ]

head_again : (vertices size : ℕ) (rest : List ℕ) → 1 ≤ vertices → vertices ≤ MAX_COLUMNS → IsEnd size → head_at (unit_head vertices size ++ rest) ≡ Some (vertices, size, rest)
unfolding head_at
head_again vertices size rest s l k =
    ap head_at (sym (head_pieces vertices size rest))
    ∙ at_word _ (codes "pq-unit 1\nvertices ") (decimal vertices ++ (codes "\nlength " ++ (decimal size ++ 10 ∷ rest)))
    ∙ at_number _ MAX_COLUMNS vertices (codes "\nlength " ++ (decimal size ++ 10 ∷ rest)) small l refl
    ∙ at_word _ (codes "\nlength ") (decimal size ++ 10 ∷ rest)
    ∙ at_number _ max_end size (10 ∷ rest) large k refl
    ∙ at_word _ (10 ∷ []) rest
    ∙ ap (λ b. cond b None (Some (vertices, size, rest))) (ne_eqb vertices 0 (λ e. absurd (omega (arith, e))))

-- what is read is a unit model of the grammar with this text
pub unit_takes : (bytes : List ℕ) (t : UnitValue) → unit_of bytes ≡ Some t → IsUnit t × (bytes ≡ unit_text t)
unfolding unit_of unit_text
unit_takes bytes t h =
    option_and_then_some _ (head_at bytes) t h (λ x e k.
    option_and_then_some _ (lefts_at 1 x.0 x.2) t k (λ y f m.
    let a = head_takes bytes x.0 x.1 x.2 e in
    let b = lefts_take 1 x.0 x.2 y.0 y.1 f in
    let d = after_word _ (codes "end\n") y.1 t m in
    let made : UnitValue = record { vertices = x.0; size = x.1; lefts = y.0 } in
    elim (chosen (eqb (length d.0) 0) _ _ _ d.2) [
      | inl z ↦
          let done : y.1 ≡ codes "end\n" = d.1 ∙ ap (λ w. codes "end\n" ++ w) (nil_from_length d.0 (eqb-true (length d.0) 0 z.0)) in
          let P : UnitValue → Type 0 = λ u. IsUnit u × (bytes ≡ unit_text u) in
          subst P (same_Some made t z.1) (
            record { vertices = a.vertices; size = a.size; count = b.all; each = b.each },
            a.front ∙ ap (λ w. unit_head x.0 x.1 ++ w) (b.front ∙ ap (λ w. left_lines 1 y.0 ++ w) done),
          )
      | inr z ↦ absurd (none-some _ z.1)
    ]))

-- the text of a unit model of the grammar is read as that model
pub unit_again : (t : UnitValue) → IsUnit t → unit_of (unit_text t) ≡ Some t
unfolding unit_of unit_text
unit_again t h =
    ap (option_and_then _) (head_again t.vertices t.size (left_lines 1 t.lefts ++ codes "end\n") h.vertices.0 h.vertices.1 h.size)
    ∙ ap (option_and_then _) (so_many_again t.vertices t.lefts (codes "end\n") h.count h.vertices.1 h.each)
    ∙ at_word _ (codes "end\n") []

-- what the reader of all bytes gives
pub parsed_within : (bytes : List ℕ) (o : Option UnitValue) → o ≡ unit_of bytes → IfSome o IsUnit
parsed_within bytes None e = tt
parsed_within bytes (Some t) e = (unit_takes bytes t (sym e)).0

pub parsed_found : (bytes : List ℕ) (o : Option UnitValue) → o ≡ unit_of bytes → IfSome o (λ t. bytes ≡ unit_text t)
parsed_found bytes None e = tt
parsed_found bytes (Some t) e = (unit_takes bytes t (sym e)).1

pub parsed_none : (bytes : List ℕ) (o : Option UnitValue) → o ≡ unit_of bytes → IfNone o ((t : UnitValue) → IsUnit t → bytes ≢ unit_text t)
parsed_none bytes None e = λ t h f. none-some t (e ∙ ap unit_of f ∙ unit_again t h)
parsed_none bytes (Some t) e = tt

-- no two unit models have one text
pub one_unit : OneUnitLaw
one_unit t u h k e = same_Some t u (sym (unit_again t h) ∙ ap unit_of e ∙ unit_again u k)

-- how long a text is
digits_long : (i end : ℕ) → i ≤ MAX_COLUMNS → IsEnd end → (length (decimal i) ≤ 4) × (length (decimal end) ≤ 20)
digits_long i end l k = (length-decimal-le 4 i (omega arith) (omega arith) (omega arith), length-decimal-le 20 end (omega arith) (omega arith) (omega arith))

line_long : (i left : ℕ) → i ≤ MAX_COLUMNS → IsEnd left → length (left_line i left) ≤ 31
line_long i left l k = omega (arith, digits_long i left l k, length-append (decimal i) (32 ∷ (decimal left ++ 10 ∷ [])), length-append (decimal left) (10 ∷ []))

lines_long : (i : ℕ) (lefts : List ℕ) → i + length lefts ≤ suc MAX_COLUMNS → AllByRecursion IsEnd lefts → length (left_lines i lefts) ≤ 31 * length lefts
lines_long i [] l h = omega arith
lines_long i (left ∷ lefts) l h =
    omega (arith, line_long i left (omega arith) h.0, lines_long (i + 1) lefts (omega arith) h.1, length-append (left_line i left) (left_lines (i + 1) lefts))

head_long : (vertices size : ℕ) → vertices ≤ MAX_COLUMNS → IsEnd size → length (unit_head vertices size) ≤ 52
head_long vertices size l k =
    omega (arith, digits_long vertices size l k, length-append (decimal vertices) (codes "\nlength " ++ (decimal size ++ 10 ∷ [])), length-append (decimal size) (10 ∷ []))

pub text_long : TextLengthLaw
unfolding unit_text
text_long t h =
    omega (
      arith,
      head_long t.vertices t.size h.vertices.1 h.size,
      lines_long 1 t.lefts (omega (arith, h.count, h.vertices.1)) h.each,
      h.count,
      h.vertices.1,
      length-append (unit_head t.vertices t.size) (left_lines 1 t.lefts ++ codes "end\n"),
      length-append (left_lines 1 t.lefts) (codes "end\n"),
    )

-- a loop that reads left ends: those before the ones that are read, if they are
abbrev pub before_lefts : List ℕ → Option (List ℕ × List ℕ) → Option (List ℕ × List ℕ)
before_lefts front None = None
before_lefts front (Some x) = Some (front ++ x.0, x.1)

before_with : (front : List ℕ) (x : ℕ) (o : Option (List ℕ × List ℕ)) → before_lefts (front ++ x ∷ []) o ≡ before_lefts front (option_and_then (with_first x) o)
before_with front x None = refl
before_with front x (Some y) = ap (λ ls. Some (ls, y.1)) (append_assoc front (x ∷ []) y.0)

-- one left end more
pub lefts_step : (front new : List ℕ) (count i : ℕ) (bytes rest : List ℕ) (x : ℕ) (o : Option (List ℕ × List ℕ)) → i < count → left_at (i + 1) bytes ≡ Some (x, rest) → new ≡ front ++ x ∷ [] →
    before_lefts front (lefts_at (i + 1) (count - i) bytes) ≡ o → before_lefts new (lefts_at (i + 1 + 1) (count - (i + 1)) rest) ≡ o
unfolding lefts_at
lefts_step front new count i bytes rest x o l h n e =
    let left : count - i ≡ suc (count - (i + 1)) = omega arith in
    ap (λ f. before_lefts f (lefts_at (i + 1 + 1) (count - (i + 1)) rest)) n ∙ before_with front x (lefts_at (i + 1 + 1) (count - (i + 1)) rest)
    ∙ ap (λ y. before_lefts front (option_and_then (λ z. option_and_then (with_first z.0) (lefts_at (i + 1 + 1) (count - (i + 1)) z.1)) y)) (sym h)
    ∙ ap (λ k. before_lefts front (lefts_at (i + 1) k bytes)) (sym left) ∙ e

-- no left end where one is due
pub lefts_stop : (front : List ℕ) (count i : ℕ) (bytes : List ℕ) (o : Option (List ℕ × List ℕ)) → i < count → left_at (i + 1) bytes ≡ None → before_lefts front (lefts_at (i + 1) (count - i) bytes) ≡ o → o ≡ None
unfolding lefts_at
lefts_stop front count i bytes o l h e =
    let left : count - i ≡ suc (count - (i + 1)) = omega arith in
    sym e ∙ ap (λ k. before_lefts front (lefts_at (i + 1) k bytes)) left
    ∙ ap (λ y. before_lefts front (option_and_then (λ z. option_and_then (with_first z.0) (lefts_at (i + 1 + 1) (count - (i + 1)) z.1)) y)) h

-- all left ends
pub lefts_end : (front : List ℕ) (count i : ℕ) (bytes : List ℕ) (o : Option (List ℕ × List ℕ)) → count ≤ i → before_lefts front (lefts_at (i + 1) (count - i) bytes) ≡ o → o ≡ Some (front, bytes)
unfolding lefts_at
lefts_end front count i bytes o l e =
    let left : count - i ≡ 0 = omega arith in
    sym e ∙ ap (λ k. before_lefts front (lefts_at (i + 1) k bytes)) left ∙ ap (λ f. Some (f, bytes)) (append-nil front)
