-- Intervals that share a number.
use Rattle.std.proofs.Common.{◌≡◌, ◌∙◌, ◌↔◌, ℕ, ◌+◌, ◌-◌, ◌<◌, ◌≤◌, Bool, true, false, IsTrue, All, List, [], Some, length, get_or, slice_get, take, drop, refl, sym, ap, subst, inl, inr, arith, length-drop}
use Rattle.std.proofs.lemmas.Bool.{cases_lt, cases_order, both_ways}
use Rattle.std.proofs.lemmas.List.{get_or_default, get_or-take, get_or-drop, length-take-le}
use Rattle.std.proofs.lemmas.Option.{get_or_from_slice_get}
use Rattle.column_order.specs.Orders.{has, place}
use Rattle.column_order.proofs.Lists.{at_place, has_at}
use Rattle.row_model.specs.Rows.{IsRow}
use Rattle.row_model.specs.declared.lists.Interval.{Interval}
use Rattle.row_model.proofs.Ascending.{row_within}
use Rattle.row_model.proofs.PieceLemmas.{ascends_rises}
use Rattle.graph_model.specs.Graphs.{GraphValue, IsGraph, has_edge}
use Rattle.proper_interval.specs.Models.{ShareNumber, EndsInOrder, IsVertex, IsProperModel, interval_of}
use Rattle.proper_interval.specs.Fitting.{AreApart, IsProperPair, PairFits, FitsLater}

-- two intervals share a number where each begins no later than the other ends
pub shares : (a b : Interval) → a.left ≤ a.right → b.left ≤ b.right → a.left ≤ b.right → b.left ≤ a.right → ShareNumber a b
shares a b oa ob ab ba = elim (cases_lt a.left b.left) [
  | inl l ↦ (b.left, ((omega arith, ba), (omega arith, ob)))
  | inr l ↦ (a.left, ((omega arith, oa), (omega arith, ab)))
]

-- and then only
pub begins : (a b : Interval) → ShareNumber a b → a.left ≤ b.right
begins a b s = omega (arith, s.1.0.0, s.1.1.1)

-- the interval at a place
pub interval_there : (list : List Interval) (i : ℕ) (d a : Interval) → i < length list → a ≡ get_or list i d → a ≡ interval_of list (i + 1)
interval_there list i d a l e =
    let none : Interval = record { left = 0; right = 0 } in
    let at : i ≡ i + 1 - 1 = omega arith in
    e ∙ get_or_default list i d none l ∙ ap (λ k. get_or list k none) at

-- intervals that lie apart do not contain one another
apart_fit : (a b : Interval) → EndsInOrder a → EndsInOrder b → AreApart a b → PairFits a b (IsTrue false)
apart_fit a b oa ob n = record {
  meet = (λ s. absurd (n s), λ t. absurd (cc));
  proper = record {
    first = λ h. absurd (n (b.left, (h b.left (omega arith, ob), (omega arith, ob))));
    second = λ h. absurd (n (a.left, ((omega arith, oa), h a.left (omega arith, oa))));
  };
}

-- an element of a piece of a list
piece_at : (list : List Interval) (from to i : ℕ) (d : Interval) → from ≤ i → i < to → get_or (take (to - from) (drop from list)) (i - from) d ≡ get_or list i d
piece_at list from to i d l u =
    let at : from + (i - from) ≡ i = omega arith in
    get_or-take (to - from) (drop from list) (i - from) d (omega arith) ∙ get_or-drop from list (i - from) d ∙ ap (λ k. get_or list k d) at

-- what holds of each element of a piece
pub piece_all : (P : Interval → Type 0) (list : List Interval) (from to : ℕ) → to ≤ length list → ((i : ℕ) (d : Interval) → from ≤ i → i < to → P (get_or list i d)) →
    All P (take (to - from) (drop from list))
piece_all P list from to u h j d l =
    let long : j < to - from = omega (arith, length-take-le (to - from) (drop from list) (omega (arith, length-drop from list)), l) in
    let at : from + j - from ≡ j = omega arith in
    subst (λ k. P (get_or (take (to - from) (drop from list)) k d)) at (subst P (sym (piece_at list from to (from + j) d (omega arith) (omega arith))) (h (from + j) d (omega arith) (omega arith)))

-- a list whose first k numbers are at most a bound
abbrev pub ArePassed : List ℕ → ℕ → ℕ → Type 0
ArePassed row k from = (j : ℕ) → j < k → get_or row j 0 ≤ from

-- one number more is passed
pub passed_more : (row : List ℕ) (k from to : ℕ) → ArePassed row k from → from ≤ to → get_or row k 0 ≤ to → ArePassed row (k + 1) to
passed_more row k from to h le last j l = elim (cases_lt j k) [
  | inl m ↦ omega (arith, h j m)
  | inr m ↦
      let e : k ≡ j = omega arith in
      subst (λ x. get_or row x 0 ≤ to) e last
]

-- the numbers of a row are within its bound
pub number_within : (c : ℕ) (row : List ℕ) (k : ℕ) → IsRow c row → k < length row → get_or row k 0 ≤ c
number_within c row k h l = (row_within c row h (get_or row k 0) (has_at row k l)).1

-- above the bound and below the next number, an ascending list has no number
gap_lacks : (c from y k : ℕ) (row : List ℕ) → IsRow c row → ArePassed row k from → from < y → (k < length row → y < get_or row k 0) → has row y ≡ false
gap_lacks c from y k row h passed l before =
    (elim (has row y) as (λ b. has row y ≡ b → b ≡ false) [
      | false ↦ λ e. refl
      | true ↦ λ e.
          let at = at_place row y e in
          elim (cases_lt (place row y) k) [
            | inl a ↦ absurd (omega (arith, passed (place row y) a, at.1, l))
            | inr a ↦ absurd (omega (arith, before (omega (arith, a, at.0)), ascends_rises c 0 row k (place row y) 0 h a at.0, at.1))
          ]
    ]) refl

-- the interval at a place, of a vertex with these neighbours, fits that at another
abbrev pub Fits : List Interval → ℕ → List ℕ → ℕ → Type 0
Fits list at row i = PairFits (interval_of list (at + 1)) (interval_of list (i + 1)) (IsTrue (has row (i + 1)))

module _ (list : List Interval) (ordered : All EndsInOrder list) (at : ℕ) (a : Interval) (is : a ≡ interval_of list (at + 1)) (oa : EndsInOrder a) (c : ℕ) (row : List ℕ) (ascends : IsRow c row) where
  -- it fits where it is that of two intervals, and the list has the vertex or not
  fits_by : (i : ℕ) (b : Interval) (t : Bool) → b ≡ interval_of list (i + 1) → has row (i + 1) ≡ t → PairFits a b (IsTrue t) → Fits list at row i
  fits_by i b t at_i e h = rw (← is, ← at_i, e) h

  fits_of : (i : ℕ) (b : Interval) (t : Bool) → b ≡ interval_of list (i + 1) → has row (i + 1) ≡ t → Fits list at row i → PairFits a b (IsTrue t)
  fits_of i b t at_i e h = rw (is, at_i, ← e) h

  -- between the passed numbers and the next one
  pub between_fits : (from to k : ℕ) → to ≤ length list → ArePassed row k from → (k < length row → to < get_or row k 0) → All (AreApart a) (take (to - from) (drop from list)) →
      (i : ℕ) → from ≤ i → i < to → Fits list at row i
  between_fits from to k u passed before h i l m =
      let b = get_or list i a in
      let in_piece : i - from < length (take (to - from) (drop from list)) = omega (arith, length-take-le (to - from) (drop from list) (omega (arith, length-drop from list))) in
      let n : AreApart a b = subst (AreApart a) (piece_at list from to i a l m) (h (i - from) a in_piece) in
      fits_by i b false (interval_there list i a b (omega arith) refl) (gap_lacks c from (i + 1) k row ascends passed (omega arith) (λ more. omega (arith, before more)))
      (apart_fit a b oa (ordered i a (omega arith)) n)

  pub between_apart : (from to k : ℕ) → at < from → to ≤ length list → ArePassed row k from → (k < length row → to < get_or row k 0) → FitsLater list at row →
      All (AreApart a) (take (to - from) (drop from list))
  between_apart from to k la u passed before fits =
      piece_all (AreApart a) list from to u (λ i d l m. λ s.
      let lacks = gap_lacks c from (i + 1) k row ascends passed (omega arith) (λ more. omega (arith, before more)) in
      let fit = fits_of i (get_or list i d) false (interval_there list i d (get_or list i d) (omega arith) refl) lacks (fits i (omega arith) (omega arith)) in
      both_ways false refl (fit.meet.0 s))

  -- at the next number
  pub here_fits : (i k : ℕ) (b : Interval) → k < length row → i + 1 ≡ get_or row k 0 → b ≡ interval_of list (i + 1) → ShareNumber a b × IsProperPair a b → Fits list at row i
  here_fits i k b l e at_i h =
      fits_by i b true at_i (rw e (has_at row k l)) (record { meet = (λ s. refl, λ t. h.0); proper = h.1 })

  pub here_overlaps : (i k : ℕ) (b : Interval) → k < length row → i + 1 ≡ get_or row k 0 → b ≡ interval_of list (i + 1) → Fits list at row i → ShareNumber a b × IsProperPair a b
  here_overlaps i k b l e at_i h =
      let fit = fits_of i b true at_i (rw e (has_at row k l)) h in
      (fit.meet.1 refl, fit.proper)

-- the neighbours of the vertex at a place
pub row_there : (lists : List (List ℕ)) (k : ℕ) (row : List ℕ) → slice_get lists (k + 1 - 1) ≡ Some row → row ≡ get_or lists k []
row_there lists k row e =
    let at : k + 1 - 1 ≡ k = omega arith in
    sym (get_or_from_slice_get lists (k + 1 - 1) row [] e) ∙ ap (λ i. get_or lists i []) at

module _ (g : GraphValue) (list : List Interval) where
  -- the parts of a proper model
  pub model_ends : IsProperModel g list → All EndsInOrder list
  model_ends m i d l =
      subst EndsInOrder (sym (interval_there list i d (get_or list i d) l refl)) (m.ends (i + 1) (omega arith, omega (arith, m.count)))

  pub model_fits : IsProperModel g list → (k : ℕ) → k < g.vertices → FitsLater list k (get_or g.neighbours k [])
  model_fits m k lk i ki li =
      let at : k + 1 - 1 ≡ k = omega arith in
      let vi : IsVertex g (i + 1) = (omega arith, omega (arith, m.count)) in
      let vk : IsVertex g (k + 1) = (omega arith, omega arith) in
      let meet = m.meet (k + 1) (i + 1) vk vi (λ e. absurd (omega arith)) in
      record {
        meet = subst (λ x. ShareNumber (interval_of list (k + 1)) (interval_of list (i + 1)) ↔ IsTrue (has (get_or g.neighbours x []) (i + 1))) at meet;
        proper = record {
          first = m.proper (k + 1) (i + 1) vk vi;
          second = λ t. sym (m.proper (i + 1) (k + 1) vi vk t);
        };
      }

  -- and a proper model from its parts
  pub model_from : IsGraph g → length list ≡ g.vertices → All EndsInOrder list → ((k : ℕ) → k < g.vertices → FitsLater list k (get_or g.neighbours k [])) → IsProperModel g list
  model_from graph count ends fit = record {
    count = count;
    ends = λ v r. ends (v - 1) (record { left = 0; right = 0 }) (omega (arith, r.0, r.1));
    meet = λ u v ru rv n. elim (cases_lt u v) [
      | inl l ↦ (pair u v ru rv l).meet
      | inr l ↦
          let fits = pair v u rv ru (omega (arith, n)) in
          let turned = graph.symmetric u v ru.0 rv.0 in
          (λ s. turned ∙ fits.meet.0 (other_way s), λ e. other_way (fits.meet.1 (sym turned ∙ e)))
    ];
    proper = λ u v ru rv t. elim (cases_order u v) [
      | inl e ↦ ap (interval_of list) e
      | inr o ↦ elim o [
        | inl l ↦ (pair u v ru rv l).proper.first t
        | inr l ↦ sym ((pair v u rv ru l).proper.second t)
      ]
    ];
  }
    where
      pair : (u v : ℕ) → IsVertex g u → IsVertex g v → u < v → PairFits (interval_of list u) (interval_of list v) (IsTrue (has_edge g.neighbours u v))
      pair u v ru rv l =
          let at_u : u - 1 + 1 ≡ u = omega (arith, ru.0) in
          let at_v : v - 1 + 1 ≡ v = omega (arith, rv.0) in
          let row : List ℕ = get_or g.neighbours (u - 1) [] in
          subst (λ x. PairFits (interval_of list x) (interval_of list v) (IsTrue (has row v))) at_u
          (subst (λ x. PairFits (interval_of list (u - 1 + 1)) (interval_of list x) (IsTrue (has row x))) at_v
          (fit (u - 1) (omega (arith, ru.0, ru.1)) (v - 1) (omega (arith, ru.0, l)) (omega (arith, rv.0, rv.1, count))))

      other_way : {a b : Interval} → ShareNumber a b → ShareNumber b a
      other_way s = (s.0, (s.1.1, s.1.0))
