-- The places of clones, one by one and in lists.
use Rattle.std.proofs.Common.{◌≡◌, ◌-◌, ◌∙◌, ℕ, zero, suc, ◌<◌, ◌≤◌, false, List, [], ◌∷◌, ◌++◌, length, refl, ap, subst, arith}
use Rattle.std.specs.List.{Contains, slice_index_or, All, AllByRecursion}
use Rattle.std.proofs.lemmas.List.Elements.{All-from_recursion}
use Rattle.std.proofs.lemmas.Bool.{both_ways}
use Rattle.column_order.specs.Orders.{IsOrder, IsWithin}
use Rattle.column_order.proofs.Counts.{order_has}
use Rattle.row_model.specs.Positions.{ArePositions, IsSpan, IsSpanInOrder}
use Rattle.row_model.specs.declared.lists.Span.{Span}
use Rattle.row_model.specs.declared.lists.Place.{Place}
use Rattle.row_model.specs.declared.lists.Place.TheVariants.{Nowhere, At}
use Rattle.clone_map.specs.Places.{StandsAt, StandsFrom, IsPlaceOf, ArePlaces}
use Rattle.clone_map.specs.Runs.{IsWithinPositions}

-- an empty clone stands nowhere
pub none_stands : (o : List ℕ) (i : ℕ) → StandsAt o [] i → ⊥
none_stands o i h = both_ways false refl h.holds

-- a clone has one place
place_only : (o clone : List ℕ) (p q : Place) → IsPlaceOf o clone p → IsPlaceOf o clone q → p ≡ q
place_only o clone Nowhere Nowhere h k = refl
place_only o clone Nowhere (At f l) h k = absurd (none_stands o f (subst (λ c. StandsAt o c f) h k.at_first))
place_only o clone (At f l) Nowhere h k = absurd (none_stands o f (subst (λ c. StandsAt o c f) k h.at_first))
place_only o clone (At f l) (At f' l') h k =
    let first : f ≡ f' = omega (arith, h.none_before f' k.at_first, k.none_before f h.at_first) in
    let last : l ≡ l' = omega (arith, h.none_after l' k.at_last, k.none_after l h.at_last) in
    ap (λ n. At n l) first ∙ ap (At f') last

pub places_only : (clones : List (List ℕ)) (o : List ℕ) (places others : List Place) → ArePlaces o clones places → ArePlaces o clones others → places ≡ others
places_only [] o [] [] h k = refl
places_only [] o [] (q ∷ qs) h k = absurd k
places_only [] o (p ∷ ps) qs h k = absurd h
places_only (x ∷ xs) o [] qs h k = absurd h
places_only (x ∷ xs) o (p ∷ ps) [] h k = absurd k
places_only (x ∷ xs) o (p ∷ ps) (q ∷ qs) h k =
    ap (λ r. r ∷ ps) (place_only o x p q h.0 k.0) ∙ ap (λ rs. q ∷ rs) (places_only xs o ps qs h.1 k.1)

-- one more clone and its place
pub places_more : (o : List ℕ) (clones : List (List ℕ)) (places : List Place) (clone : List ℕ) (place : Place) → ArePlaces o clones places → IsPlaceOf o clone place →
    ArePlaces o (clones ++ clone ∷ []) (places ++ place ∷ [])
places_more o [] [] clone place h k = (k, tt)
places_more o [] (p ∷ ps) clone place h k = absurd h
places_more o (x ∷ xs) [] clone place h k = absurd h
places_more o (x ∷ xs) (p ∷ ps) clone place h k = (h.0, places_more o xs ps clone place h.1 k)

-- each clone has a place in the list, and each place of the list is that of a clone
pub record HasPlace (o clone : List ℕ) (places : List Place) : Type 0 where
  pub place : Place
  pub among : Contains places place
  pub is_place : IsPlaceOf o clone place

pub record HasClone (o : List ℕ) (clones : List (List ℕ)) (place : Place) : Type 0 where
  pub clone : List ℕ
  pub among : Contains clones clone
  pub is_place : IsPlaceOf o clone place

pub has_place : (o : List ℕ) (clones : List (List ℕ)) (places : List Place) (clone : List ℕ) → ArePlaces o clones places → Contains clones clone → HasPlace o clone places
has_place o clones places clone h among = find clones places among.0 h among.1 among.2
  where
    find : (xs : List (List ℕ)) (ps : List Place) (k : ℕ) → ArePlaces o xs ps → k < length xs → slice_index_or xs k clone ≡ clone → HasPlace o clone ps
    find [] ps k h l e = absurd (omega arith)
    find (x ∷ xs) [] k h l e = absurd h
    find (x ∷ xs) (p ∷ ps) zero h l e = record { place = p; among = (zero, omega arith, refl); is_place = subst (λ y. IsPlaceOf o y p) e h.0 }
    find (x ∷ xs) (p ∷ ps) (suc k) h l e =
        let r = find xs ps k h.1 (omega arith) e in
        record { place = r.place; among = (suc r.among.0, omega (arith, r.among.1), r.among.2); is_place = r.is_place }

pub has_clone : (o : List ℕ) (clones : List (List ℕ)) (places : List Place) (place : Place) → ArePlaces o clones places → Contains places place → HasClone o clones place
has_clone o clones places place h among = find clones places among.0 h among.1 among.2
  where
    find : (xs : List (List ℕ)) (ps : List Place) (k : ℕ) → ArePlaces o xs ps → k < length ps → slice_index_or ps k place ≡ place → HasClone o xs place
    find xs [] k h l e = absurd (omega arith)
    find [] (p ∷ ps) k h l e = absurd h
    find (x ∷ xs) (p ∷ ps) zero h l e = record { clone = x; among = (zero, omega arith, refl); is_place = subst (IsPlaceOf o x) e h.0 }
    find (x ∷ xs) (p ∷ ps) (suc k) h l e =
        let r = find xs ps k h.1 (omega arith) e in
        record { clone = r.clone; among = (suc r.among.0, omega (arith, r.among.1), r.among.2); is_place = r.is_place }

-- the span of a clone in an order is its place
module _ (c : ℕ) (o positions clone : List ℕ) (span : Span) (order : IsOrder c o) (are : ArePositions o positions) (inside : IsWithin c clone)
    (is : IsSpan positions clone span) (h : IsSpanInOrder o clone span) where
  last_from_1 : 1 ≤ span.last
  last_from_1 =
      let r = inside is.to is.has_to in
      omega (arith, is.at_last, are.places is.to (order_has c o order is.to r.0 r.1))

  between : (i : ℕ) → StandsAt o clone i → (span.first - 1 ≤ i - 1) × (i - 1 ≤ span.last - 1)
  between i k = h.ends.whole (i - 1) (omega (arith, k.from, k.to)) k.holds

  pub span_place : StandsFrom o clone span.first span.last
  span_place =
      record {
        at_first = record { from = h.from_1; to = omega (arith, last_from_1, h.from_1, h.ends.rise, h.ends.inside); holds = h.ends.has_first };
        at_last = record { from = last_from_1; to = omega (arith, last_from_1, h.ends.inside); holds = h.ends.has_last };
        none_before = λ i k. omega (arith, k.from, h.from_1, (between i k).0);
        none_after = λ i k. omega (arith, last_from_1, k.from, (between i k).1);
      }

-- the places are within the positions of the order
pub places_within : (o : List ℕ) (clones : List (List ℕ)) (places : List Place) → ArePlaces o clones places → All (IsWithinPositions (length o)) places
places_within o clones places h = All-from_recursion (IsWithinPositions (length o)) places (each clones places h)
  where
    one : (clone : List ℕ) (place : Place) → IsPlaceOf o clone place → IsWithinPositions (length o) place
    one clone Nowhere is = tt
    one clone (At first last) is = (is.at_first.from, is.none_before last is.at_last, is.at_last.to)

    each : (xs : List (List ℕ)) (ps : List Place) → ArePlaces o xs ps → AllByRecursion (IsWithinPositions (length o)) ps
    each [] [] h = tt
    each [] (p ∷ ps) h = absurd h
    each (x ∷ xs) [] h = absurd h
    each (x ∷ xs) (p ∷ ps) h = (one x p h.0, each xs ps h.1)
