-- Numbers of pairs, and lists that are indexed by their pairs.
use Rattle.std.proofs.Common.{◌≡◌, ◌≢◌, ◌∙◌, ℕ, ◌+◌, ◌-◌, ◌*◌, ◌<◌, ◌≤◌, true, false, suc, eqb, eqb-true, List, [], ◌∷◌, ◌++◌, length, map, take, drop, set, get_or, slice_get, Some, AllPairs, refl, sym, ap, subst, inl, inr, arith, get_or-set_same, get_or-set_other}
use Rattle.std.proofs.lemmas.Bool.{cases_eq, cases_lt, ne_eqb, or_cases}
use Rattle.std.proofs.lemmas.List.{get_or-map, length-map}
use Rattle.std.proofs.lemmas.Map.Keys.{IsDistinct-from_apart}
use Rattle.std.proofs.lemmas.Map.Steps.{length-le_from_distinct_below}
use Rattle.std.specs.List.{list_any}
use Rattle.std.proofs.lemmas.Nat.{same_from_place, mul-add-lt, mul-le}
use Rattle.std.proofs.lemmas.Option.{same_Some, slice_get_within, slice_get-get_or, get_or_from_slice_get}
use Rattle.column_order.specs.declared.TheConstants.{COLUMN_BOUND}
use Rattle.row_model.specs.declared.graph.Pair.{Pair}
use Rattle.row_model.specs.Graph.{IsPair}
use Rattle.odd_cycle.specs.Numbers.{Numbering, number_of, place_of, Renumbers, IsIndexed}
use Rattle.odd_cycle.proofs.Items.{item_pushed, item_last, item_append, item_taken, item_take, item-drop, item_at}
use Rattle.row_model.proofs.Pairs.{same_pair, cases_pair}

-- no two pairs have one place
pub place_of-inj : (c : ℕ) (v w : Pair) → IsPair c v → IsPair c w → place_of c v ≡ place_of c w → v ≡ w
place_of-inj c v w p q e =
    let s : (v.a - 1 ≡ w.a - 1) × (v.b - 1 ≡ w.b - 1) = same_from_place (v.a - 1) (v.b - 1) (w.a - 1) (w.b - 1) c (omega arith) (omega arith) e in
    same_pair v w (omega arith) (omega arith)

pub place_of-lt : (c : ℕ) (v : Pair) → IsPair c v → place_of c v < c * c
place_of-lt c v p = mul-add-lt (v.a - 1) c (v.b - 1) c (omega arith) (omega arith)

-- a write at the place of a pair
pub renumbered : (c : ℕ) (entries written : List ℕ) (v : Pair) (number : ℕ) → length entries ≡ c * c → IsPair c v → written ≡ set entries (place_of c v) number →
    Renumbers (record { columns = c; entries = entries }) (record { columns = c; entries = written }) v number
unfolding number_of
renumbered c entries written v number long p e =
    let within : place_of c v < length entries = omega (arith, place_of-lt c v p) in
    record {
      columns = refl;
      changed = rw e (get_or-set_same entries (place_of c v) number 0 within);
      others = λ w q n. rw e (get_or-set_other entries (place_of c v) (place_of c w) number 0 (λ f. n (place_of-inj c w v q p f)));
    }

-- the place of an item's pair
placed : {A : Type 0} (xs : List A) (place : A → ℕ) (i d : ℕ) (x : A) → slice_get xs i ≡ Some x → get_or (map place xs) i d ≡ place x
placed xs place i d x e = get_or-map place xs i x d (slice_get_within xs i x e) ∙ ap place (get_or_from_slice_get xs i x x e)

pub any_item : (q : ℕ) (xs : List ℕ) → list_any (eqb q) xs ≡ true → (i : ℕ) × (slice_get xs i ≡ Some q)
any_item q [] e = absurd (cc)
any_item q (x ∷ xs) e =
    elim (or_cases (eqb q x) (list_any (eqb q) xs) e) [
      | inl t ↦ (0, ap Some (sym (eqb-true q x t)))
      | inr t ↦ (let r = any_item q xs t in (suc r.0, r.1))
    ]

module _ {A : Type 0} (pair_of : A → Pair) where
  -- the number of an item's pair tells where it stands
  pub indexed_same : (t : Numbering) (xs : List A) (i j : ℕ) (x y : A) → IsIndexed pair_of t xs → slice_get xs i ≡ Some x → slice_get xs j ≡ Some y → pair_of x ≡ pair_of y → i ≡ j
  indexed_same t xs i j x y h e f g =
      let k : number_of t (pair_of x) ≡ number_of t (pair_of y) = ap (number_of t) g in
      omega (arith, (h.pairs i x e).1, (h.pairs j y f).1, k)

  -- one more item, with a pair that had no number
  pub indexed_push : (old new : Numbering) (xs : List A) (x : A) (n : ℕ) → IsIndexed pair_of old xs → IsPair old.columns (pair_of x) → number_of old (pair_of x) ≡ 0 →
      n ≡ length xs + 1 → Renumbers old new (pair_of x) n → IsIndexed pair_of new (xs ++ x ∷ [])
  indexed_push old new xs x n h p fresh long r =
      record {
        few = omega (arith, r.columns, h.few);
        pairs = λ i y e. elim (item_pushed xs x i y e) [
          | inl t ↦
              let o = h.pairs i y t in
              let other : pair_of y ≢ pair_of x = λ g. elim (cases_eq (number_of old (pair_of y)) 0) [ inl z ↦ omega (arith, o.1) | inr z ↦ z (ap (number_of old) g ∙ fresh) ] in
              (subst (λ c. IsPair c (pair_of y)) (sym r.columns) o.0, r.others (pair_of y) o.0 other ∙ o.1)
          | inr t ↦ (
            subst (λ (z : A). IsPair new.columns (pair_of z)) t.1 (subst (λ c. IsPair c (pair_of x)) (sym r.columns) p),
            ap (λ (z : A). number_of new (pair_of z)) (sym t.1) ∙ r.changed ∙ omega (arith, t.0),
          )
        ];
        found = λ v q l. elim (cases_pair v (pair_of x)) [
          | inl g ↦
              let k : number_of new v - 1 ≡ length xs = omega (arith, ap (number_of new) g, r.changed) in
              (x, rw k (item_last xs x), sym g)
          | inr g ↦
              let q' : IsPair old.columns v = subst (λ c. IsPair c v) r.columns q in
              let k : number_of new v ≡ number_of old v = r.others v q' g in
              let o = h.found v q' (omega arith) in
              (o.0, subst (λ m. slice_get (xs ++ x ∷ []) (m - 1) ≡ Some o.0) (sym k) (item_append xs (x ∷ []) (number_of old v - 1) o.0 o.1), o.2)
        ];
      }

  -- the first items alone, where the pairs of the others have lost their numbers
  pub indexed_take : (old new : Numbering) (xs : List A) (keep : ℕ) → IsIndexed pair_of old xs → new.columns ≡ old.columns →
      ((v : Pair) → IsPair old.columns v → number_of old v ≤ keep → number_of new v ≡ number_of old v) →
      ((v : Pair) → IsPair old.columns v → keep < number_of old v → number_of new v ≡ 0) → IsIndexed pair_of new (take keep xs)
  indexed_take old new xs keep h columns kept lost =
      record {
        few = omega (arith, columns, h.few);
        pairs = λ i y e.
            let t = item_taken keep xs i y e in
            let o = h.pairs i y t.1 in
            (subst (λ c. IsPair c (pair_of y)) (sym columns) o.0, kept (pair_of y) o.0 (omega (arith, o.1, t.0)) ∙ o.1);
        found = λ v q l.
            let q' : IsPair old.columns v = subst (λ c. IsPair c v) columns q in
            elim (cases_lt keep (number_of old v)) [
              | inl m ↦ absurd (omega (arith, lost v q' m))
              | inr m ↦
                  let k : number_of new v ≡ number_of old v = kept v q' m in
                  let o = h.found v q' (omega arith) in
                  (o.0, subst (λ m. slice_get (take keep xs) (m - 1) ≡ Some o.0) (sym k) (item_take keep xs (number_of old v - 1) o.0 (omega arith) o.1), o.2)
            ];
      }

  -- no pair stands twice from any position on
  pub indexed_distinct : (t : Numbering) (xs : List A) (n : ℕ) → IsIndexed pair_of t xs → AllPairs (λ (x : A) (y : A). pair_of x ≢ pair_of y) (drop n xs)
  indexed_distinct t xs n h = λ i j d l m g.
      let e : slice_get xs (n + i) ≡ Some (get_or (drop n xs) i d) = sym (item-drop n xs i) ∙ slice_get-get_or (drop n xs) i d (omega arith) in
      let f : slice_get xs (n + j) ≡ Some (get_or (drop n xs) j d) = sym (item-drop n xs j) ∙ slice_get-get_or (drop n xs) j d m in
      omega (arith, indexed_same t xs (n + i) (n + j) (get_or (drop n xs) i d) (get_or (drop n xs) j d) h e f g)

  -- so there are no more items than pairs
  pub indexed_room : (t : Numbering) (xs : List A) → IsIndexed pair_of t xs → length xs ≤ t.columns * t.columns
  indexed_room t xs h =
      let place : A → ℕ = λ x. place_of t.columns (pair_of x) in
      let places = map place xs in
      let apart : (i j : ℕ) (d : ℕ) → i < j → j < length places → eqb (get_or places i d) (get_or places j d) ≡ false = λ i j d l m.
      let m' : j < length xs = omega (arith, m, length-map xs place) in
      let x = item_at xs i (omega arith) in
      let y = item_at xs j m' in
      let e : get_or places i d ≡ place x.0 = placed xs place i d x.0 x.1 in
      let f : get_or places j d ≡ place y.0 = placed xs place j d y.0 y.1 in
      ne_eqb (get_or places i d) (get_or places j d) (λ s. omega (arith, indexed_same t xs i j x.0 y.0 h x.1 y.1 (place_of-inj t.columns (pair_of x.0) (pair_of y.0) (h.pairs i x.0 x.1).0 (h.pairs j y.0 y.1).0 (sym e ∙ s ∙ f)))) in
      let below : (q : ℕ) → list_any (eqb q) places ≡ true → q < t.columns * t.columns = λ q e.
      let at = any_item q places e in
      let x = item_at xs at.0 (omega (arith, slice_get_within places at.0 q at.1, length-map xs place)) in
      let s : q ≡ place x.0 = same_Some q (place x.0) (sym at.1 ∙ slice_get-get_or places at.0 q (slice_get_within places at.0 q at.1) ∙ ap Some (placed xs place at.0 q x.0 x.1)) in
      omega (arith, s, place_of-lt t.columns (pair_of x.0) (h.pairs at.0 x.0 x.1).0) in
      omega (arith, length-le_from_distinct_below places (t.columns * t.columns) (IsDistinct-from_apart eqb places apart) below, length-map xs place)

  -- and fewer than numbers of 32 bits
  pub indexed_few : (t : Numbering) (xs : List A) → IsIndexed pair_of t xs → length xs ≤ COLUMN_BOUND * COLUMN_BOUND
  indexed_few t xs h =
      let room : length xs ≤ t.columns * t.columns = indexed_room t xs h in
      let square : t.columns * t.columns ≤ COLUMN_BOUND * COLUMN_BOUND = mul-le t.columns t.columns COLUMN_BOUND COLUMN_BOUND h.few h.few in
      omega (arith, room, square)
