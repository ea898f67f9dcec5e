-- The classes of pairs: what uniting the pairs of a row and a column does, and what all rows together give.
use Rattle.std.proofs.Common.{◌≡◌, ◌≢◌, ◌∙◌, ℕ, ◌+◌, ◌-◌, ◌*◌, ◌<◌, ◌≤◌, List, [], length, take, slice_get, slice_index, Some, IsTrue, IsFalse, refl, sym, ap, subst, inl, inr, arith}
use Rattle.std.proofs.lemmas.Bool.{both_ways, cases_eq}
use Rattle.std.proofs.lemmas.List.{length-take-le, get_or-take}
use Rattle.std.proofs.lemmas.Nat.{div-mul-add, mod-mul-add}
use Rattle.std.proofs.lemmas.Option.{same_Some, slice_get_within}
use Rattle.column_order.specs.Orders.{has}
use Rattle.row_model.specs.declared.graph.Pair.{Pair}
use Rattle.row_model.specs.declared.graph.Why.TheVariants.{Flip, Row}
use Rattle.row_model.specs.Graph.{pair, turned, row_at, IsPair, Joined, Crosses, Evenly}
use Rattle.row_model.proofs.Walks.{evenly-refl, evenly-trans}
use Rattle.odd_cycle.specs.Numbers.{number_of, place_of}
use Rattle.pair_classes.specs.Unions.{AreParents, AreAlone, AgreesInSets, AreEvenSets, Unites, Flattens}
use Rattle.pair_classes.specs.Classes.{TellsClasses, pair_of_place, AgreesWith, AgreesAlong}
use Rattle.odd_cycle.proofs.Items.{item_of, has_item}
use Rattle.row_model.proofs.Pairs.{same_pair}
use Rattle.odd_cycle.proofs.NumberLaws.{place_of-lt}
use Rattle.pair_classes.proofs.EvenLaws.{IsTurnedAlike, evenly_back, evenly_first, evenly_second, evenly_label}

-- at the place of a pair of columns is this pair
pub pair_of_its_place : (c : ℕ) (v : Pair) → IsPair c v → pair_of_place c (place_of c v) ≡ v
pair_of_its_place c v p =
    let low : v.b - 1 < c = omega (arith, p.b_from, p.b_to) in
    same_pair (pair_of_place c (place_of c v)) v
    (omega (arith, div-mul-add (v.a - 1) c (v.b - 1) low, p.a_from))
    (omega (arith, mod-mul-add (v.a - 1) c (v.b - 1) low, p.b_from))

-- a column of a row and one that it lacks are a pair
pub row_pair : (c : ℕ) (row : List ℕ) (a d : ℕ) → (1 ≤ a) × (a ≤ c) → IsTrue (has row a) → IsFalse (has row d) → 1 ≤ d → d ≤ c → IsPair c (pair a d) × IsPair c (pair d a)
row_pair c row a d r t f from to =
    let n : a ≢ d = λ e. both_ways (has row d) f (subst (λ x. IsTrue (has row x)) e t) in (
      record { a_from = r.0; a_to = r.1; b_from = from; b_to = to; distinct = n },
      record { a_from = from; a_to = to; b_from = r.0; b_to = r.1; distinct = λ e. n (sym e) },
    )

-- the first columns of the row are done: their pairs with d have the label of the pair of the first
pub record IsUniting (c : ℕ) (row : List ℕ) (d first : ℕ) (old new : List ℕ) (done : ℕ) : Type 0 where
  pub parents : AreParents new
  pub labels : (label : ℕ → ℕ) → AgreesInSets label new → AgreesInSets label old × ((i a : ℕ) → i < done → slice_get row i ≡ Some a →
      (label (place_of c (pair first d)) ≡ label (place_of c (pair a d))) × (label (place_of c (pair d first)) ≡ label (place_of c (pair d a))))
  pub even : (rows : List (List ℕ)) (k : ℕ) → 1 ≤ k → k ≤ length rows → row_at rows k ≡ row → AreEvenSets c rows (pair_of_place c) old → AreEvenSets c rows (pair_of_place c) new

pub uniting_none : (c : ℕ) (row : List ℕ) (d first : ℕ) (ps : List ℕ) → AreParents ps → IsUniting c row d first ps ps 0
uniting_none c row d first ps h = record { parents = h; labels = λ label k. (k, λ i a l e. absurd (omega arith)); even = λ rows k a b e s. s }

module _ (c : ℕ) (row : List ℕ) (d first : ℕ) (range : (1 ≤ first) × (first ≤ c)) (from : 1 ≤ d) (to : d ≤ c) (lacks : IsFalse (has row d)) (has_first : IsTrue (has row first)) where
  pub uniting_more : (old ps mid new : List ℕ) (done a x y z w : ℕ) → IsUniting c row d first old ps done → slice_get row done ≡ Some a → (1 ≤ a) × (a ≤ c) →
      x ≡ place_of c (pair first d) → y ≡ place_of c (pair a d) → z ≡ place_of c (pair d first) → w ≡ place_of c (pair d a) →
      Unites ps mid x y → Unites mid new z w → IsUniting c row d first old new (done + 1)
  uniting_more old ps mid new done a x y z w h at a_range ex ey ez ew one two =
      let has_a : IsTrue (has row a) = has_item row done a at in
      let pairs_first = row_pair c row first d range has_first lacks from to in
      let pairs = row_pair c row a d a_range has_a lacks from to in
      record {
        parents = two.parents;
        labels = λ label k.
            let second = two.labels label k in
            let first_one = one.labels label second.0 in
            let before = h.labels label first_one.0 in (
              before.0,
              λ i b l e. elim (cases_eq i done) [
                | inl s ↦
                    let same : a ≡ b = same_Some a b (sym at ∙ ap (slice_get row) (sym s) ∙ e) in (
                      ap label (sym ex) ∙ first_one.1 ∙ ap label ey ∙ ap (λ n. label (place_of c (pair n d))) same,
                      ap label (sym ez) ∙ second.1 ∙ ap label ew ∙ ap (λ n. label (place_of c (pair d n))) same,
                    )
                | inr n ↦ before.1 i b (omega (arith, l, n)) e
              ],
            );
        even = λ rows k u v is s.
            let in_row : (n : ℕ) → IsTrue (has row n) → IsTrue (has (row_at rows k) n) = λ n t. subst (λ r. IsTrue (has r n)) (sym is) t in
            let not_in : IsFalse (has (row_at rows k) d) = subst (λ r. IsFalse (has r d)) (sym is) lacks in
            let at_place : (p : Pair) (n : ℕ) → IsPair c p → n ≡ place_of c p → pair_of_place c n ≡ p = λ p n q e. ap (pair_of_place c) e ∙ pair_of_its_place c p q in
            let left : Evenly c rows (pair_of_place c x) (pair_of_place c y) =
            rw (at_place (pair first d) x pairs_first.0 ex) (rw (at_place (pair a d) y pairs.0 ey) (evenly_first c rows k first a d u v (in_row first has_first) (in_row a has_a) not_in pairs_first.0 pairs.0)) in
            let right : Evenly c rows (pair_of_place c z) (pair_of_place c w) =
            rw (at_place (pair d first) z pairs_first.1 ez) (rw (at_place (pair d a) w pairs.1 ew) (evenly_second c rows k first a d u v (in_row first has_first) (in_row a has_a) not_in pairs_first.0 pairs.0)) in
            two.even c rows (pair_of_place c) (one.even c rows (pair_of_place c) (h.even rows k u v is s) left) right;
      }

-- the whole row is done
pub uniting_all : (c : ℕ) (row : List ℕ) (d first : ℕ) (old new : List ℕ) → IsUniting c row d first old new (length row) →
    (label : ℕ → ℕ) → AgreesInSets label new → AgreesInSets label old × AgreesWith c label row d
uniting_all c row d first old new h label k =
    let r = h.labels label k in (
      r.0,
      λ a e t s.
          let i = item_of row a t in
          let j = item_of row e s in
          let one = r.1 i.0 a (slice_get_within row i.0 a i.1) i.1 in
          let two = r.1 j.0 e (slice_get_within row j.0 e j.1) j.1 in
          (sym one.0 ∙ two.0, sym one.1 ∙ two.1),
    )

-- the row is done with the first columns
pub record IsUnitingAlong (c k : ℕ) (row : List ℕ) (old new : List ℕ) (done : ℕ) : Type 0 where
  pub parents : AreParents new
  pub labels : (label : ℕ → ℕ) → AgreesInSets label new → AgreesInSets label old × ((d : ℕ) → 1 ≤ d → d ≤ done → IsFalse (has row d) → AgreesWith c label row d)
  pub even : (rows : List (List ℕ)) → k ≤ length rows → row_at rows k ≡ row → AreEvenSets c rows (pair_of_place c) old → AreEvenSets c rows (pair_of_place c) new

pub along_none : (c k : ℕ) (row ps : List ℕ) → AreParents ps → IsUnitingAlong c k row ps ps 0
along_none c k row ps h = record { parents = h; labels = λ label u. (u, λ d a b e. absurd (omega arith)); even = λ rows a e s. s }

-- a row without columns has nothing to unite
pub along_empty : (c : ℕ) (label : ℕ → ℕ) (row : List ℕ) → length row ≡ 0 → AgreesAlong c label row
along_empty c label row e d from to lacks a b t s = absurd (let i = item_of row a t in omega (arith, e, slice_get_within row i.0 a i.1))

module _ (c k : ℕ) (row old ps : List ℕ) (done d : ℕ) (h : IsUnitingAlong c k row old ps done) (next : d ≡ done + 1) where
  -- a column of the row
  pub along_held : IsTrue (has row d) → IsUnitingAlong c k row old ps d
  along_held t =
      record {
        parents = h.parents;
        labels = λ label u.
            let was = h.labels label u in
            (was.0, λ x a b f. elim (cases_eq x d) [ inl e ↦ absurd (both_ways (has row x) f (subst (λ y. IsTrue (has row y)) (sym e) t)) | inr n ↦ was.1 x a (omega (arith, b, n, next)) f ]);
        even = h.even;
      }

  -- a column that the row lacks
  pub along_lacking : (new : List ℕ) → AreParents new → ((label : ℕ → ℕ) → AgreesInSets label new → AgreesInSets label ps × AgreesWith c label row d) →
      ((rows : List (List ℕ)) → k ≤ length rows → row_at rows k ≡ row → AreEvenSets c rows (pair_of_place c) ps → AreEvenSets c rows (pair_of_place c) new) →
      IsUnitingAlong c k row old new d
  along_lacking new parents labels even =
      record {
        parents = parents;
        labels = λ label u.
            let now = labels label u in
            let was = h.labels label now.0 in
            (was.0, λ x a b f. elim (cases_eq x d) [ inl e ↦ subst (AgreesWith c label row) (sym e) now.1 | inr n ↦ was.1 x a (omega (arith, b, n, next)) f ]);
        even = λ rows l e s. even rows l e (h.even rows l e s);
      }

-- the first rows are done
pub record IsClassing (c n : ℕ) (all : List (List ℕ)) (ps : List ℕ) (done : ℕ) : Type 0 where
  pub places : length ps ≡ c * c
  pub parents : AreParents ps
  pub labels : (label : ℕ → ℕ) → AgreesInSets label ps → (k : ℕ) → 1 ≤ k → k ≤ done → AgreesAlong c label (row_at all k)
  pub even : AreEvenSets c (take n all) (pair_of_place c) ps

pub classing_none : (c n : ℕ) (all : List (List ℕ)) (ps : List ℕ) → length ps ≡ c * c → AreAlone ps → IsClassing c n all ps 0
classing_none c n all ps long h =
    record {
      places = long;
      parents = λ i l. omega (arith, h i l);
      labels = λ label u k a b. absurd (omega arith);
      even = λ i l. subst (λ j. Evenly c (take n all) (pair_of_place c i) (pair_of_place c j)) (sym (h i l)) (evenly-refl (Joined c (take n all)) (pair_of_place c i));
    }

pub classing_more : (c n : ℕ) (all : List (List ℕ)) (ps new : List ℕ) (done k : ℕ) → IsClassing c n all ps done → k ≡ done + 1 → k ≤ n → n ≤ length all → length new ≡ length ps → AreParents new →
    ((label : ℕ → ℕ) → AgreesInSets label new → AgreesInSets label ps × AgreesAlong c label (row_at all k)) →
    ((rows : List (List ℕ)) → k ≤ length rows → row_at rows k ≡ row_at all k → AreEvenSets c rows (pair_of_place c) ps → AreEvenSets c rows (pair_of_place c) new) →
    IsClassing c n all new k
classing_more c n all ps new done k h next within few long parents labels even =
    record {
      places = long ∙ h.places;
      parents = parents;
      labels = λ label u j a b.
          let now = labels label u in
          elim (cases_eq j k) [ inl e ↦ subst (λ i. AgreesAlong c label (row_at all i)) (sym e) now.1 | inr m ↦ h.labels label now.0 j a (omega (arith, b, m, next)) ];
      even = even (take n all) (omega (arith, length-take-le n all few, within)) (get_or-take n all (k - 1) [] (omega (arith, within, next))) h.even;
    }

module _ (c n : ℕ) (all : List (List ℕ)) (ps new : List ℕ) (few : n ≤ length all) (h : IsClassing c n all ps n) (flat : Flattens ps new) (long : length new ≡ length ps) where
  -- the label of a place is its parent
  label : ℕ → ℕ
  label i = slice_index new i

  on_rows : (k : ℕ) → 1 ≤ k → k ≤ length (take n all) → AgreesAlong c label (row_at (take n all) k)
  unfolding label
  on_rows k a b =
      let e : row_at (take n all) k ≡ row_at all k = get_or-take n all (k - 1) [] (omega (arith, a, b, length-take-le n all few)) in
      subst (AgreesAlong c label) (sym e) (h.labels label (flat.labels label flat.flat) k a (omega (arith, b, length-take-le n all few)))

  number : Pair → ℕ
  number v = label (place_of c v)

  alike : (v w : Pair) → Joined c (take n all) v w → IsTurnedAlike number v w
  unfolding number
  alike v w (Flip, j) = (
    ap label (ap (place_of c) (same_pair v (turned w) j.fits.0 j.fits.1)),
    ap label (ap (place_of c) (same_pair (turned v) w j.fits.1 j.fits.0)),
  )
  alike v w (Row k, j) =
      elim j.fits.2 [
        | inl x ↦ crossing v w x j.from
        | inr x ↦ (let r = crossing w v x j.to in (sym r.1, sym r.0))
      ]
    where
      crossing : (x y : Pair) → Crosses (row_at (take n all) k) x y → IsPair c x → IsTurnedAlike number x y
      crossing x y s p =
          let both = on_rows k j.fits.0 j.fits.1 x.b p.b_from p.b_to s.lacks_middle x.a y.b s.has_first s.has_last in
          (both.0 ∙ ap (λ d. number (pair y.b d)) s.middle, both.1 ∙ ap (λ d. number (pair d y.b)) s.middle)

  to_parent : (v : Pair) → IsPair c v → Evenly c (take n all) v (pair_of_place c (number v))
  unfolding number label
  to_parent v p =
      subst (λ x. Evenly c (take n all) x (pair_of_place c (slice_index new (place_of c v)))) (pair_of_its_place c v p)
      (flat.even c (take n all) (pair_of_place c) h.even (place_of c v) (omega (arith, place_of-lt c v p, h.places, long)))

  joins : (v w : Pair) → IsPair c v → IsPair c w → number v ≡ number w → Evenly c (take n all) v w
  joins v w p q e =
      let back : Evenly c (take n all) (pair_of_place c (number w)) w = evenly_back c (take n all) w (pair_of_place c (number w)) (to_parent w q) in
      evenly-trans (Joined c (take n all)) v (pair_of_place c (number v)) w (to_parent v p) (subst (λ i. Evenly c (take n all) (pair_of_place c i) w) (sym e) back)

  pub classes_told : TellsClasses c (take n all) (record { columns = c; entries = new })
  unfolding number label number_of
  classes_told =
      record {
        columns = refl;
        numbered = λ v w p q. (joins v w p q, evenly_label (Joined c (take n all)) number alike v w);
      }
