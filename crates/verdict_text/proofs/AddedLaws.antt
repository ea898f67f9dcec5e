-- Intervals, places and contigs.
use Rattle.std.proofs.Common.{◌≡◌, ◌∙◌, ◌+◌, ◌*◌, ◌%◌, ◌^◌, ◌<◌, ◌≤◌, ℕ, List, [], ◌∷◌, ◌++◌, length, Some, None, refl, sym, ap, arith, subst, codes, get_or, length-append}
use Rattle.std.specs.Prelude.{option_and_then, flat_map}
use Rattle.std.specs.List.{AllByRecursion}
use Rattle.std.specs.Fmt.{decimal}
use Rattle.std.proofs.lemmas.List.{append_assoc}
use Rattle.std.proofs.lemmas.Option.{some_pair_parts, option_and_then_some}
use Rattle.std.proofs.lemmas.Fmt.{decimal_by_steps, decimal_nonempty}
use Rattle.plain_text.specs.Numbers.{NoDigitFirst}
use Rattle.plain_text.specs.Words.{word_at}
use Rattle.plain_text.proofs.WordLaws.{word_takes, word_again}
use Rattle.column_order.specs.declared.TheConstants.{COLUMN_BOUND}
use Rattle.row_model.specs.declared.lists.Interval.{Interval}
use Rattle.row_model.specs.declared.lists.Place.{Place}
use Rattle.row_model.specs.declared.lists.Place.TheVariants.{Nowhere, At}
use Rattle.row_model.specs.declared.lists.Span.{Span}
use Rattle.row_model.specs.declared.kind.Kind.{Kind}
use Rattle.row_model.specs.declared.kind.Kind.TheVariants.{Proper, Clones}
use Rattle.verdict_text.specs.Verdict.{AddedValue, no_added}
use Rattle.text_parts.specs.Text.{number_word}
use Rattle.verdict_text.specs.Text.{ends_text, place_text, interval_line, contig_line, place_line, places_text, contigs_text, added_text}
use Rattle.text_parts.specs.Grammar.{max_number, Fits32}
use Rattle.verdict_text.specs.Grammar.{max_end, IsInterval, IsPlace, HasFittingEnds, HasAdded}
use Rattle.text_parts.specs.Numbered.{numbered, numbered_at}
use Rattle.verdict_text.specs.Reading.{two_at, interval_at, ends_at, where_at, place_at, contig_at, placed_at, added_at, as_nowhere, as_place}
use Rattle.text_parts.specs.Reading.{counted_at, or_else}
use Rattle.text_parts.proofs.Chains.{Takes, small, after_number, after_word, at_number, at_word}
use Rattle.verdict_text.proofs.IndexLaws.{large, after_index, at_index}
use Rattle.text_parts.proofs.NumberedLaws.{numbered-flat_map, numbered_take, numbered_again, numbered_none, counted_take, counted_again}

-- the text of a span
abbrev pub span_text : Span → List ℕ
span_text s = ends_text s.first s.last

-- the text of two numbers, each behind a space, and the end of the line
abbrev two_text : ℕ → ℕ → List ℕ → List ℕ
two_text m n rest = 32 ∷ (decimal m ++ (32 ∷ (decimal n ++ (10 ∷ rest))))

-- two numbers up to a limit, and their text
record IsTwo (limit : ℕ) (bytes : List ℕ) (two : ℕ × ℕ) (rest : List ℕ) : Type 0 where
  first : two.0 ≤ limit
  second : two.1 ≤ limit
  front : bytes ≡ two_text two.0 two.1 rest

two_takes : (limit : ℕ) (bytes : List ℕ) (two : ℕ × ℕ) (rest : List ℕ) → limit < 2 ^ 64 → two_at limit bytes ≡ Some (two, rest) → IsTwo limit bytes two rest
unfolding two_at
two_takes limit bytes two rest small h =
    let b = after_word _ (32 ∷ []) bytes (two, rest) h in
    let d = after_number _ limit b.0 (two, rest) small b.2 in
    let e = after_word _ (32 ∷ []) d.1 (two, rest) d.4 in
    let f = after_number _ limit e.0 (two, rest) small e.2 in
    let g = after_word _ (10 ∷ []) f.1 (two, rest) f.4 in
    let made : ℕ × ℕ = (d.0, f.0) in
    let p = some_pair_parts made two g.0 rest g.2 in
    let front : bytes ≡ two_text d.0 f.0 g.0 = b.1 ∙ ap (λ x. 32 ∷ x) (d.3 ∙ ap (λ x. decimal d.0 ++ x) (e.1 ∙ ap (λ x. 32 ∷ x) (f.3 ∙ ap (λ x. decimal f.0 ++ x) g.1))) in
    let of_made : IsTwo limit bytes made rest = record { first = d.2; second = f.2; front = front ∙ ap (λ x. two_text d.0 f.0 x) p.1 } in
    let P : (ℕ × ℕ) → Type 0 = λ t. IsTwo limit bytes t rest in
    subst P p.0 of_made

two_again : (limit m n : ℕ) (rest : List ℕ) → limit < 2 ^ 64 → m ≤ limit → n ≤ limit → two_at limit (two_text m n rest) ≡ Some ((m, n), rest)
unfolding two_at
two_again limit m n rest small l k =
    at_word _ (32 ∷ []) (decimal m ++ (32 ∷ (decimal n ++ (10 ∷ rest))))
    ∙ at_number _ limit m (32 ∷ (decimal n ++ (10 ∷ rest))) small l refl
    ∙ at_word _ (32 ∷ []) (decimal n ++ (10 ∷ rest))
    ∙ at_number _ limit n (10 ∷ rest) small k refl
    ∙ at_word _ (10 ∷ []) rest

interval_regroup : (i : ℕ) (v : Interval) (rest : List ℕ) → interval_line i v ++ rest ≡ codes "interval " ++ (decimal i ++ two_text v.left v.right rest)
interval_regroup i v rest = simp append_assoc

pub interval_takes : (i : ℕ) (bytes : List ℕ) (v : Interval) (rest : List ℕ) → interval_at i bytes ≡ Some (v, rest) → Takes (interval_line i) IsInterval bytes v rest
unfolding interval_at
interval_takes i bytes v rest h =
    let a = after_index _ (codes "interval ") i bytes (v, rest) h in
    option_and_then_some _ (two_at max_end a.0) (v, rest) a.2 (λ x e k.
    let t = two_takes max_end a.0 x.0 x.1 large e in
    let made : Interval = record { left = x.0.0; right = x.0.1 } in
    let p = some_pair_parts made v x.1 rest k in record {
      good = subst IsInterval p.0 (t.first, t.second);
      front = a.1 ∙ ap (λ y. codes "interval " ++ (decimal i ++ y)) (t.front ∙ ap (λ y. two_text x.0.0 x.0.1 y) p.1)
          ∙ sym (interval_regroup i made rest) ∙ ap (λ w. interval_line i w ++ rest) p.0;
    })

pub interval_again : (i : ℕ) (v : Interval) (rest : List ℕ) → i ≤ max_number → IsInterval v → interval_at i (interval_line i v ++ rest) ≡ Some (v, rest)
unfolding interval_at
interval_again i v rest l h =
    ap (interval_at i) (interval_regroup i v rest)
    ∙ at_index _ (codes "interval ") i (two_text v.left v.right rest) l refl
    ∙ ap (option_and_then _) (two_again max_end v.left v.right rest large h.0 h.1)

ends_regroup : (s : Span) (rest : List ℕ) → span_text s ++ rest ≡ two_text s.first s.last rest
ends_regroup s rest = simp append_assoc

pub ends_takes : (bytes : List ℕ) (s : Span) (rest : List ℕ) → ends_at bytes ≡ Some (s, rest) → Takes span_text HasFittingEnds bytes s rest
unfolding ends_at
ends_takes bytes s rest h =
    option_and_then_some _ (two_at max_number bytes) (s, rest) h (λ x e k.
    let t = two_takes max_number bytes x.0 x.1 small e in
    let made : Span = record { first = x.0.0; last = x.0.1 } in
    let p = some_pair_parts made s x.1 rest k in record {
      good = subst HasFittingEnds p.0 (t.first, t.second);
      front = t.front ∙ ap (λ y. two_text x.0.0 x.0.1 y) p.1 ∙ sym (ends_regroup made rest) ∙ ap (λ w. span_text w ++ rest) p.0;
    })

pub ends_again : (s : Span) (rest : List ℕ) → HasFittingEnds s → ends_at (span_text s ++ rest) ≡ Some (s, rest)
unfolding ends_at
ends_again s rest h = ap ends_at (ends_regroup s rest) ∙ ap (option_and_then _) (two_again max_number s.first s.last rest small h.0 h.1)

pub contig_takes : (i : ℕ) (bytes : List ℕ) (s : Span) (rest : List ℕ) → contig_at i bytes ≡ Some (s, rest) → Takes contig_line HasFittingEnds bytes s rest
unfolding contig_at
contig_takes i bytes s rest h =
    let a = after_word ends_at (codes "contig") bytes (s, rest) h in
    let t = ends_takes a.0 s rest a.2 in
    record { good = t.good; front = a.1 ∙ ap (λ x. codes "contig" ++ x) t.front }

pub contig_again : (i : ℕ) (s : Span) (rest : List ℕ) → i ≤ max_number → HasFittingEnds s → contig_at i (contig_line s ++ rest) ≡ Some (s, rest)
unfolding contig_at
contig_again i s rest l h = at_word ends_at (codes "contig") (span_text s ++ rest) ∙ ends_again s rest h

where_takes : (bytes : List ℕ) (w : Place) (rest : List ℕ) → where_at bytes ≡ Some (w, rest) → Takes place_text IsPlace bytes w rest
where_takes bytes w rest h =
    (elim (word_at (codes " none\n") bytes) as (λ o. word_at (codes " none\n") bytes ≡ o
    → or_else (option_and_then as_nowhere o) (option_and_then as_place (ends_at bytes)) ≡ Some (w, rest) → Takes place_text IsPlace bytes w rest) [
      | Some r ↦ λ e k.
          let p = some_pair_parts Nowhere w r rest k in
          record { good = subst IsPlace p.0 tt; front = word_takes (codes " none\n") bytes r e ∙ ap (λ x. codes " none\n" ++ x) p.1 ∙ ap (λ x. place_text x ++ rest) p.0 }
      | None ↦ λ e k. option_and_then_some _ (ends_at bytes) (w, rest) k (λ x f m.
          let t = ends_takes bytes x.0 x.1 f in
          let p = some_pair_parts (At x.0.first x.0.last) w x.1 rest m in
          record { good = subst IsPlace p.0 t.good; front = t.front ∙ ap (λ y. span_text x.0 ++ y) p.1 ∙ ap (λ y. place_text y ++ rest) p.0 })
    ]) refl h

-- no letter stands at the front
Digital : List ℕ → Type 0
Digital [] = Unit {0}
Digital (b ∷ bytes) = b ≤ 57

-- a number does not begin with the letter n
first_digit : (n : ℕ) (rest : List ℕ) → n < 2 ^ 64 → Digital (decimal n ++ rest)
unfolding Digital
first_digit n rest l =
    let P : ℕ → List ℕ → Type 0 = λ n ds. (rest : List ℕ) → Digital (ds ++ rest) in
    decimal_by_steps P (λ n h rest. omega arith) (λ n ds h r rest. subst Digital (sym (append_assoc ds ((48 + n % 10) ∷ []) rest)) (r ((48 + n % 10) ∷ rest))) n l rest

no_none : (bytes : List ℕ) → Digital bytes → word_at (codes " none\n") (32 ∷ bytes) ≡ None
unfolding Digital
no_none bytes d =
    (elim (word_at (codes " none\n") (32 ∷ bytes)) as (λ o. word_at (codes " none\n") (32 ∷ bytes) ≡ o → o ≡ None) [
      | Some r ↦ λ e. absurd (not_n bytes (word_takes (codes " none\n") (32 ∷ bytes) r e) d)
      | None ↦ λ e. refl
    ]) refl
  where
    not_n : (bytes : List ℕ) {r : List ℕ} → 32 ∷ bytes ≡ codes " none\n" ++ r → Digital bytes → ⊥
    not_n [] h d = let e : ◌≡◌ {A = ℕ} 0 110 = ap (λ xs. get_or xs 1 0) h in absurd (omega arith)
    not_n (b ∷ bytes) h d = let e : b ≡ 110 = ap (λ xs. get_or xs 1 0) h in absurd (omega arith)

where_again : (w : Place) (rest : List ℕ) → IsPlace w → where_at (place_text w ++ rest) ≡ Some (w, rest)
where_again Nowhere rest h =
    ap (λ o. or_else (option_and_then as_nowhere o) (option_and_then as_place (ends_at (codes " none\n" ++ rest)))) (word_again (codes " none\n") rest)
where_again (At first last) rest h =
    let s : Span = record { first = first; last = last } in
    let none : word_at (codes " none\n") (span_text s ++ rest) ≡ None = no_none _ (subst Digital (sym (append_assoc (decimal first) (32 ∷ (decimal last ++ 10 ∷ [])) rest)) (first_digit first (32 ∷ (decimal last ++ 10 ∷ []) ++ rest) (omega (arith, h.0)))) in
    ap (λ o. or_else (option_and_then as_nowhere o) (option_and_then as_place (ends_at (span_text s ++ rest)))) none
    ∙ ap (option_and_then as_place) (ends_again s rest h)

place_stops : (w : Place) (rest : List ℕ) → NoDigitFirst (place_text w ++ rest)
place_stops Nowhere rest = refl
place_stops (At first last) rest = refl

place_regroup : (i : ℕ) (w : Place) (rest : List ℕ) → place_line i w ++ rest ≡ codes "place " ++ (decimal i ++ (place_text w ++ rest))
place_regroup i w rest = append_assoc (codes "place ") (decimal i ++ place_text w) rest ∙ ap (λ x. codes "place " ++ x) (append_assoc (decimal i) (place_text w) rest)

pub place_takes : (i : ℕ) (bytes : List ℕ) (w : Place) (rest : List ℕ) → place_at i bytes ≡ Some (w, rest) → Takes (place_line i) IsPlace bytes w rest
unfolding place_at
place_takes i bytes w rest h =
    let a = after_index where_at (codes "place ") i bytes (w, rest) h in
    let t = where_takes a.0 w rest a.2 in
    record { good = t.good; front = a.1 ∙ ap (λ x. codes "place " ++ (decimal i ++ x)) t.front ∙ sym (place_regroup i w rest) }

pub place_again : (i : ℕ) (w : Place) (rest : List ℕ) → i ≤ max_number → IsPlace w → place_at i (place_line i w ++ rest) ≡ Some (w, rest)
unfolding place_at
place_again i w rest l h =
    ap (place_at i) (place_regroup i w rest) ∙ at_index where_at (codes "place ") i (place_text w ++ rest) l (place_stops w rest) ∙ where_again w rest h

-- the fewest bytes of a line
interval_long : (i : ℕ) (v : Interval) → i ≤ max_number → IsInterval v → 15 ≤ length (interval_line i v)
interval_long i v l h =
    let n = decimal_nonempty i (omega (arith, l)) in
    let a = decimal_nonempty v.left (omega (arith, h.0)) in
    let b = decimal_nonempty v.right (omega (arith, h.1)) in
    omega (arith, length-append (decimal i) (number_word v.left ++ (number_word v.right ++ 10 ∷ [])), length-append (decimal v.left) (number_word v.right ++ 10 ∷ []), length-append (decimal v.right) (10 ∷ []))

ends_long : (first last : ℕ) → Fits32 first → Fits32 last → 5 ≤ length (ends_text first last)
ends_long first last h k =
    let a = decimal_nonempty first (omega (arith, h)) in
    let b = decimal_nonempty last (omega (arith, k)) in
    omega (arith, length-append (decimal first) (number_word last ++ 10 ∷ []), length-append (decimal last) (10 ∷ []))

contig_long : (s : Span) → HasFittingEnds s → 11 ≤ length (contig_line s)
contig_long s h = omega (arith, ends_long s.first s.last h.0 h.1)

place_long : (i : ℕ) (w : Place) → i ≤ max_number → IsPlace w → 12 ≤ length (place_line i w)
place_long i w l h =
    let n = decimal_nonempty i (omega (arith, l)) in
    omega (arith, length-append (decimal i) (place_text w), rest_long w h)
  where
    rest_long : (w : Place) → IsPlace w → 5 ≤ length (place_text w)
    rest_long Nowhere h = omega arith
    rest_long (At first last) h = ends_long first last h.0 h.1

-- bytes that so many lines cannot fill
pub intervals_none : (n : ℕ) (bytes : List ℕ) → n ≤ max_number → length bytes < n * 15 → numbered_at interval_at 1 n bytes ≡ None
intervals_none n bytes k h = numbered_none interval_at interval_line IsInterval 15 interval_takes interval_long n bytes k h

pub places_none : (n : ℕ) (bytes : List ℕ) → n ≤ max_number → length bytes < n * 12 → numbered_at place_at 1 n bytes ≡ None
places_none n bytes k h = numbered_none place_at place_line IsPlace 12 place_takes place_long n bytes k h

pub contigs_none : (n : ℕ) (bytes : List ℕ) → n ≤ max_number → length bytes < n * 11 → numbered_at contig_at 1 n bytes ≡ None
contigs_none n bytes k h = numbered_none contig_at (λ i. contig_line) HasFittingEnds 11 contig_takes (λ i x l. contig_long x) n bytes k h

-- what a kind adds
pub record AddedIs (kind : Kind) (columns bytes : List ℕ) (x : AddedValue) (rest : List ℕ) : Type 0 where
  pub fits : HasAdded kind columns x
  pub front : bytes ≡ added_text kind x ++ rest

placed_regroup : (ps : List Place) (ss : List Span) (rest : List ℕ)
    → (places_text ps ++ contigs_text ss) ++ rest ≡ codes "places " ++ (decimal (length ps) ++ (10 ∷ (numbered place_line 1 ps ++ (codes "contigs " ++ (decimal (length ss) ++ (10 ∷ (numbered (λ i. contig_line) 1 ss ++ rest)))))))
placed_regroup ps ss rest =
    let places : List ℕ = numbered place_line 1 ps in
    let contigs : List ℕ = flat_map contig_line ss in
    let whole : (places_text ps ++ contigs_text ss) ++ rest ≡ codes "places " ++ (decimal (length ps) ++ (10 ∷ (places ++ (codes "contigs " ++ (decimal (length ss) ++ (10 ∷ (contigs ++ rest))))))) =
    append_assoc (places_text ps) (contigs_text ss) rest
    ∙ ap (λ x. codes "places " ++ x) (append_assoc (decimal (length ps)) (10 ∷ places) (contigs_text ss ++ rest))
    ∙ ap (λ x. codes "places " ++ (decimal (length ps) ++ (10 ∷ (places ++ (codes "contigs " ++ x))))) (append_assoc (decimal (length ss)) (10 ∷ contigs) rest) in
    whole ∙ ap (λ x. codes "places " ++ (decimal (length ps) ++ (10 ∷ (places ++ (codes "contigs " ++ (decimal (length ss) ++ (10 ∷ (x ++ rest)))))))) (sym (numbered-flat_map contig_line 1 ss))

placed_take : (columns bytes : List ℕ) (x : AddedValue) (rest : List ℕ) → placed_at bytes ≡ Some (x, rest) → AddedIs Clones columns bytes x rest
unfolding placed_at
placed_take columns bytes x rest h =
    option_and_then_some _ (counted_at (codes "places ") place_at bytes) (x, rest) h (λ y e k.
    option_and_then_some _ (counted_at (codes "contigs ") contig_at y.1) (x, rest) k (λ z f m.
    let ps = counted_take (codes "places ") place_at place_line IsPlace place_takes bytes y.0 y.1 e in
    let ss = counted_take (codes "contigs ") contig_at (λ i. contig_line) HasFittingEnds contig_takes y.1 z.0 z.1 f in
    let made : AddedValue = record { intervals = []; places = y.0; contigs = z.0 } in
    let p = some_pair_parts made x z.1 rest m in
    subst (λ w. AddedIs Clones columns bytes w rest) p.0 (record {
      fits = (refl, ps.few, ps.each, ss.few, ss.each);
      front = ps.front ∙ ap (λ w. codes "places " ++ (decimal (length y.0) ++ (10 ∷ (numbered place_line 1 y.0 ++ w)))) (ss.front ∙ ap (λ w. codes "contigs " ++ (decimal (length z.0) ++ (10 ∷ (numbered (λ i. contig_line) 1 z.0 ++ w)))) p.1)
          ∙ sym (placed_regroup y.0 z.0 rest);
    })))

pub added_takes : (kind : Kind) (c : ℕ) (bytes : List ℕ) (x : AddedValue) (rest : List ℕ) → added_at kind c bytes ≡ Some (x, rest) → AddedIs kind (c ∷ []) bytes x rest
added_takes Proper c bytes x rest h =
    option_and_then_some _ (numbered_at interval_at 1 c bytes) (x, rest) h (λ y e k.
    let vs = numbered_take interval_at interval_line IsInterval interval_takes 1 c bytes y.0 y.1 e in
    let made : AddedValue = record { intervals = y.0; places = []; contigs = [] } in
    let p = some_pair_parts made x y.1 rest k in
    subst (λ w. AddedIs Proper (c ∷ []) bytes w rest) p.0 (record {
      fits = (ap (λ n. n ∷ []) vs.all, vs.each, refl, refl);
      front = vs.front ∙ ap (λ w. numbered interval_line 1 y.0 ++ w) p.1;
    }))
added_takes Clones c bytes x rest h = placed_take (c ∷ []) bytes x rest h
added_takes kind c bytes x rest h =
    let p = some_pair_parts no_added x bytes rest h in
    subst (λ w. AddedIs kind (c ∷ []) bytes w rest) p.0 (record { fits = (refl, refl, refl); front = p.1 })

placed_again : (ps : List Place) (ss : List Span) (rest : List ℕ) → Fits32 (length ps) → AllByRecursion IsPlace ps → Fits32 (length ss) → AllByRecursion HasFittingEnds ss
    → placed_at (codes "places " ++ (decimal (length ps) ++ (10 ∷ (numbered place_line 1 ps ++ (codes "contigs " ++ (decimal (length ss) ++ (10 ∷ (numbered (λ i. contig_line) 1 ss ++ rest)))))))) ≡ Some (record { intervals = []; places = ps; contigs = ss }, rest)
unfolding placed_at
placed_again ps ss rest few places few' contigs =
    let next : List ℕ = codes "contigs " ++ (decimal (length ss) ++ (10 ∷ (numbered (λ i. contig_line) 1 ss ++ rest))) in
    ap (option_and_then _) (counted_again (codes "places ") place_at place_line IsPlace place_again ps next few places)
    ∙ ap (option_and_then _) (counted_again (codes "contigs ") contig_at (λ i. contig_line) HasFittingEnds contig_again ss rest few' contigs)

abbrev with_intervals : List Interval → AddedValue → AddedValue
with_intervals v x = record { intervals = v; places = x.places; contigs = x.contigs }

head_of : List ℕ → ℕ
head_of [] = 0
head_of (n ∷ ns) = n

same_head : (m n : ℕ) → m ∷ [] ≡ n ∷ [] → m ≡ n
unfolding head_of
same_head m n e = ap head_of e

pub added_again : (kind : Kind) (c : ℕ) (x : AddedValue) (rest : List ℕ) → c ≤ COLUMN_BOUND → HasAdded kind (c ∷ []) x → added_at kind c (added_text kind x ++ rest) ≡ Some (x, rest)
added_again Proper c x rest l h =
    let count : length x.intervals ≡ c = same_head (length x.intervals) c h.0 in
    let read : numbered_at interval_at 1 c (numbered interval_line 1 x.intervals ++ rest) ≡ Some (x.intervals, rest) =
    ap (λ n. numbered_at interval_at 1 n (numbered interval_line 1 x.intervals ++ rest)) (sym count) ∙ numbered_again interval_at interval_line IsInterval max_number interval_again 1 x.intervals rest (omega (arith, count, l)) h.1 in
    ap (option_and_then _) read ∙ rw (h.2, h.3) refl
added_again Clones c x rest l h = ap placed_at (placed_regroup x.places x.contigs rest) ∙ placed_again x.places x.contigs rest h.1 h.2 h.3 h.4 ∙ ap (λ v. Some (with_intervals v x, rest)) (sym h.0)
added_again kind c x rest l h = rw (h.0, h.1, h.2) refl
