-- What a kind adds to a yes is within the grammar, and its text is short.
use Rattle.std.proofs.Common.{ℕ, ◌+◌, ◌*◌, ◌≤◌, List, [], ◌∷◌, ◌++◌, length, codes, ap, arith}
use Rattle.std.specs.Prelude.{flat_map, All}
use Rattle.std.proofs.lemmas.List.Elements.{All-head, All-tail}
use Rattle.std.specs.List.{AllByRecursion}
use Rattle.std.specs.Fmt.{decimal}
use Rattle.std.proofs.lemmas.List.{length-append}
use Rattle.std.proofs.lemmas.Slice.Zip.{AllZip-long}
use Rattle.row_model.specs.declared.TheConstants.{MAX_COLUMNS, MAX_ROWS}
use Rattle.row_model.specs.declared.kind.Kind.TheVariants.{Clones}
use Rattle.row_model.specs.declared.lists.Place.{Place}
use Rattle.row_model.specs.declared.lists.Place.TheVariants.{Nowhere, At}
use Rattle.row_model.specs.declared.lists.Span.{Span}
use Rattle.row_model.specs.Rows.{RowList}
use Rattle.clone_map.specs.Places.{IsPlaceOf, ArePlaces}
use Rattle.clone_map.specs.Laws.{IsWithinOrder, SpansLaw}
use Rattle.column_order.specs.Orders.{IsOrder}
use Rattle.column_order.proofs.Counts.{order_length}
use Rattle.verdict_text.specs.Verdict.{AddedValue}
use Rattle.text_parts.specs.Numbered.{numbered}
use Rattle.verdict_text.specs.Grammar.{IsPlace, HasFittingEnds, HasAdded}
use Rattle.text_parts.specs.Text.{number_word}
use Rattle.verdict_text.specs.Text.{ends_text, place_text, place_line, contig_line, places_text, contigs_text, added_text}
use Rattle.instance_model.specs.Instance.{InstanceValue, plain, circular, convex, doubly, proper, robinson, instance_kind, instance_columns, derived_matrix, IsInstance}
use Rattle.instance_model.specs.Laws.{FewColumnsLaw}
use Rattle.verdict_replies.specs.Verdicts.{AddsToOrder}
use Rattle.verdict_replies.proofs.AddedIntervals.{near_intervals, intervals_fit, intervals_length}
use Rattle.verdict_replies.proofs.Sizes.{first_side}
use Rattle.verdict_replies.proofs.PlainKinds.{plain_cases}
use Rattle.verdict_replies.proofs.Lengths.{IsColumn, four_digits, six_digits}

-- a place and a span within the positions of the greatest matrix
abbrev IsNearPlace : Place → Type 0
IsNearPlace Nowhere = Unit {0}
IsNearPlace (At first last) = IsColumn first × IsColumn last

abbrev IsNearSpan : Span → Type 0
IsNearSpan span = IsColumn span.first × IsColumn span.last

near_place : (o clone : List ℕ) (place : Place) → length o ≤ MAX_COLUMNS → IsPlaceOf o clone place → IsNearPlace place
near_place o clone Nowhere le h = tt
near_place o clone (At first last) le h = (omega (arith, le, h.at_first.to), omega (arith, le, h.at_last.to))

near_places : (o : List ℕ) (clones : List (List ℕ)) (places : List Place) → length o ≤ MAX_COLUMNS → ArePlaces o clones places → AllByRecursion IsNearPlace places
near_places o [] [] le h = tt
near_places o [] (place ∷ places) le h = absurd h
near_places o (clone ∷ clones) [] le h = absurd h
near_places o (clone ∷ clones) (place ∷ places) le h = (near_place o clone place le h.0, near_places o clones places le h.1)

near_span : (o : List ℕ) (span : Span) → length o ≤ MAX_COLUMNS → IsWithinOrder o span → IsNearSpan span
near_span o span le h = (omega (arith, le, h.rise, h.to), omega (arith, le, h.to))

near_spans : (o : List ℕ) (spans : List Span) → length o ≤ MAX_COLUMNS → All (IsWithinOrder o) spans → AllByRecursion IsNearSpan spans
near_spans o [] le h = tt
near_spans o (span ∷ spans) le h = (near_span o span le (All-head (IsWithinOrder o) span spans h), near_spans o spans le (All-tail (IsWithinOrder o) span spans h))

-- within the grammar
place_fits : (place : Place) → IsNearPlace place → IsPlace place
place_fits Nowhere h = tt
place_fits (At first last) h = (omega (arith, h.0), omega (arith, h.1))

places_fit : (places : List Place) → AllByRecursion IsNearPlace places → AllByRecursion IsPlace places
places_fit [] h = tt
places_fit (place ∷ places) h = (place_fits place h.0, places_fit places h.1)

spans_fit : (spans : List Span) → AllByRecursion IsNearSpan spans → AllByRecursion HasFittingEnds spans
spans_fit [] h = tt
spans_fit (span ∷ spans) h = ((omega (arith, h.0.0), omega (arith, h.0.1)), spans_fit spans h.1)

-- the line of a place has at most 23 bytes, that of a contig at most 17
ends_length : (first last : ℕ) → IsColumn first → IsColumn last → length (ends_text first last) ≤ 11
ends_length first last h k =
    omega (arith, four_digits first h, four_digits last k, length-append (number_word first) (number_word last ++ 10 ∷ []), length-append (number_word last) (10 ∷ []))

place_length : (place : Place) → IsNearPlace place → length (place_text place) ≤ 11
place_length Nowhere h = omega arith
place_length (At first last) h = ends_length first last h.0 h.1

places_length : (i : ℕ) (places : List Place) → i + length places ≤ MAX_ROWS + 1 → AllByRecursion IsNearPlace places → length (numbered place_line i places) ≤ 23 * length places
places_length i [] le h = omega arith
places_length i (place ∷ places) le h =
    omega (
      arith,
      six_digits i (omega (arith, le)),
      place_length place h.0,
      places_length (i + 1) places (omega (arith, le)) h.1,
      length-append (place_line i place) (numbered place_line (i + 1) places),
      length-append (codes "place ") (decimal i ++ place_text place),
      length-append (decimal i) (place_text place),
    )

contigs_length : (spans : List Span) → AllByRecursion IsNearSpan spans → length (flat_map contig_line spans) ≤ 17 * length spans
contigs_length [] h = omega arith
contigs_length (span ∷ spans) h =
    omega (
      arith,
      ends_length span.first span.last h.0.0 h.0.1,
      contigs_length spans h.1,
      length-append (contig_line span) (flat_map contig_line spans),
      length-append (codes "contig") (ends_text span.first span.last),
    )

-- the places and the contigs of clones in an order of the greatest matrix at most
module _ (spans_law : SpansLaw) (m : RowList) (o : List ℕ) (few_rows : length m.rows ≤ MAX_ROWS) (short : length o ≤ MAX_COLUMNS) (added : AddedValue) (adds : AddsToOrder (plain Clones m) o added) where
  near : AllByRecursion IsNearPlace added.places
  near = near_places o m.rows added.places short adds.1

  near_contigs : AllByRecursion IsNearSpan added.contigs
  near_contigs = near_spans o added.contigs short (spans_law m.rows o added.contigs adds.2).0

  few_places : length added.places ≤ MAX_ROWS
  few_places = omega (arith, few_rows, AllZip-long (IsPlaceOf o) m.rows added.places adds.1)

  few_contigs : length added.contigs ≤ MAX_COLUMNS
  few_contigs = omega (arith, short, (spans_law m.rows o added.contigs adds.2).1)

  clones_fit : (columns : List ℕ) → HasAdded Clones columns added
  clones_fit columns = (adds.0, omega (arith, few_places), places_fit added.places near, omega (arith, few_contigs), spans_fit added.contigs near_contigs)

  clones_short : length (added_text Clones added) ≤ 3100000
  clones_short =
      let places = 10 ∷ numbered place_line 1 added.places in
      let contigs = 10 ∷ flat_map contig_line added.contigs in
      omega (
        arith,
        few_places,
        few_contigs,
        six_digits (length added.places) few_places,
        four_digits (length added.contigs) few_contigs,
        places_length 1 added.places (omega (arith, few_places)) near,
        contigs_length added.contigs near_contigs,
        length-append (places_text added.places) (contigs_text added.contigs),
        length-append (codes "places ") (decimal (length added.places) ++ places),
        length-append (decimal (length added.places)) places,
        length-append (codes "contigs ") (decimal (length added.contigs) ++ contigs),
        length-append (decimal (length added.contigs)) contigs,
      )

-- what an instance adds to an order of its first side
module _ (few_columns : FewColumnsLaw) (i : InstanceValue) (h : IsInstance i) (o : List ℕ) (order : IsOrder (derived_matrix i 1).columns o) where
  few_positions : length o ≤ MAX_COLUMNS
  few_positions = omega (arith, order_length (derived_matrix i 1).columns o order, few_columns i 1 h (first_side i))

pub adds_fit : FewColumnsLaw → SpansLaw → (i : InstanceValue) (o : List ℕ) (added : AddedValue) → IsInstance i → IsOrder (derived_matrix i 1).columns o → AddsToOrder i o added
    → HasAdded (instance_kind i) (instance_columns i) added
adds_fit columns spans (plain kind m) o added h order a =
    plain_cases (λ k. AddsToOrder (plain k m) o added → HasAdded k (m.columns ∷ []) added) (λ b. b) (λ b. b) (λ b. b)
    (λ b. clones_fit spans m o h.2 (few_positions columns (plain kind m) h o order) added b (m.columns ∷ [])) kind h.0 a
adds_fit columns spans (circular m) o added h order a = a
adds_fit columns spans (convex g) o added h order a = a
adds_fit columns spans (doubly g) o added h order a = a
adds_fit columns spans (proper g) o added h order a = (ap (λ n. n ∷ []) a.0.count, intervals_fit added.intervals (near_intervals g o added.intervals h order a.0), a.1, a.2)
adds_fit columns spans (robinson d) o added h order a = a

pub adds_short : FewColumnsLaw → SpansLaw → (i : InstanceValue) (o : List ℕ) (added : AddedValue) → IsInstance i → IsOrder (derived_matrix i 1).columns o → AddsToOrder i o added
    → length (added_text (instance_kind i) added) ≤ 3100000
adds_short columns spans (plain kind m) o added h order a =
    plain_cases (λ k. AddsToOrder (plain k m) o added → length (added_text k added) ≤ 3100000) (λ b. omega arith) (λ b. omega arith) (λ b. omega arith)
    (clones_short spans m o h.2 (few_positions columns (plain kind m) h o order) added) kind h.0 a
adds_short columns spans (circular m) o added h order a = omega arith
adds_short columns spans (convex g) o added h order a = omega arith
adds_short columns spans (doubly g) o added h order a = omega arith
adds_short columns spans (proper g) o added h order a =
    omega (arith, h, a.0.count, intervals_length 1 added.intervals (omega (arith, h, a.0.count)) (near_intervals g o added.intervals h order a.0))
adds_short columns spans (robinson d) o added h order a = omega arith
