-- What a search leaves unreached has two sides, and whatever joins two pairs of it joins one side to the other.
use Rattle.std.proofs.Common.{◌≡◌, ◌≢◌, ◌∙◌, ℕ, ◌+◌, ◌-◌, ◌<◌, ◌≤◌, Bool, true, false, not, cond, eqb, ltb, List, [], length, take, drop, slice_index, get_or, Option, Some, None, IsTrue, IsFalse, refl, sym, ap, subst, inl, inr, arith}
use Rattle.std.proofs.lemmas.Bool.{cases_eq, cases_lt, cases_Bool, ne_eqb}
use Rattle.std.proofs.lemmas.List.{get_or-take, length-take-le}
use Rattle.std.proofs.lemmas.Option.{get_or_from_slice_get, slice_get_within}
use Rattle.row_model.specs.declared.graph.Pair.{Pair}
use Rattle.row_model.specs.declared.graph.Why.TheVariants.{Flip, Row}
use Rattle.row_model.specs.Graph.{pair, row_at, IsPair, Crosses, Joined, HasOddWalk}
use Rattle.row_model.specs.Rows.{RowList}
use Rattle.row_model.proofs.Walks.{oddly-side}
use Rattle.row_model.proofs.Sides.{between, other_side, opposite, order_has}
use Rattle.row_model.proofs.CycleLaws.{joined_by_sym}
use Rattle.column_order.specs.Orders.{has, place, Keeps}
use Rattle.column_order.proofs.Counts.{order_length}
use Rattle.column_order.proofs.Lists.{place-inj, at_place}
use Rattle.open_gaps.specs.Gaps.{IsAtOpenGap}
use Rattle.open_gaps.specs.Labels.{GapLaw}
use Rattle.open_gaps.specs.Tables.{GapTable}
use Rattle.odd_cycle.specs.Marks.{Marking}
use Rattle.odd_cycle.specs.Numbers.{number_of}
use Rattle.walk_search.specs.declared.forest.Node.{Node}
use Rattle.walk_search.specs.declared.forest.Forest.{Forest}
use Rattle.walk_search.specs.declared.neighbours.Neighbours.{Neighbours}
use Rattle.walk_search.specs.Holders.{holders_of}
use Rattle.walk_search.specs.Neighbours.{AreNeighbours}
use Rattle.walk_search.specs.Search.{root_node, IsReached, IsForest, IsSearch, AreTaken}
use Rattle.walk_search.specs.Weights.{held_for}
use Rattle.walk_search.proofs.AcrossLaws.{reached_by_number}
use Rattle.walk_search.proofs.HolderLaws.{lists_of, further_same}
use Rattle.walk_search.proofs.SettledLaws.{settled_from_taken}

-- of two columns of a row that the order keeps and that lacks a third one, the first stands beside an open gap
at_open_gap : (rows : List (List ℕ)) (o : List ℕ) (k a d b : ℕ) → 1 ≤ k → k ≤ length rows → Keeps o (row_at rows k) → IsTrue (has o a) → IsTrue (has o d) → IsTrue (has o b) →
    IsTrue (has (row_at rows k) a) → IsTrue (has (row_at rows k) d) → IsFalse (has (row_at rows k) b) → a ≢ d → IsAtOpenGap rows o a
at_open_gap rows o k a d b from to keeps oa od ob ra rd rb n =
    let row = row_at rows k in
    let pa = at_place o a oa in
    let pd = at_place o d od in
    let pb = at_place o b ob in
    let at_a : IsTrue (has row (slice_index o (place o a))) = subst (λ x. IsTrue (has row x)) (sym pa.1) ra in
    let at_d : IsTrue (has row (slice_index o (place o d))) = subst (λ x. IsTrue (has row x)) (sym pd.1) rd in
    let at_b : IsFalse (has row (slice_index o (place o b))) = subst (λ x. IsFalse (has row x)) (sym pb.1) rb in
    elim (cases_lt (place o a) (place o d)) [
      | inl l ↦
          let next : IsTrue (has row (slice_index o (place o a + 1))) = elim (cases_eq (place o a + 1) (place o d)) [
            | inl e ↦ subst (λ i. IsTrue (has row (slice_index o i))) (sym e) at_d
            | inr m ↦ keeps (place o a) (place o a + 1) (place o d) (omega arith) (omega (arith, l, m)) pd.0 at_a at_d
          ] in
          (place o a, omega (arith, l, pd.0), (place o b, pb.0, (k, record { from = from; to = to; low = at_a; high = next; lacks = at_b })), inl refl)
      | inr l ↦
          let apart : place o d < place o a = elim (cases_eq (place o d) (place o a)) [ inl e ↦ absurd (n (sym (place-inj o d a e))) | inr m ↦ omega (arith, l, m) ] in
          let up : place o a - 1 + 1 ≡ place o a = omega (arith, apart) in
          let last : IsTrue (has row (slice_index o (place o a - 1))) = elim (cases_eq (place o d) (place o a - 1)) [
            | inl e ↦ subst (λ i. IsTrue (has row (slice_index o i))) e at_d
            | inr m ↦ keeps (place o d) (place o a - 1) (place o a) (omega (arith, apart, m)) (omega (arith, apart)) pa.0 at_d at_a
          ] in
          (place o a - 1, omega (arith, apart, pa.0), (place o b, pb.0, (k, record { from = from; to = to; low = last; high = subst (λ i. IsTrue (has row (slice_index o i))) (sym up) at_a; lacks = at_b })), inr up)
    ]

-- a further row that has a column is held for it
pub held_in_row : (m : RowList) (near : Neighbours) (marks : Marking) → AreNeighbours m marks.rows near → (k a : ℕ) → 1 ≤ k → k ≤ marks.rows → 1 ≤ a → a ≤ m.columns → IsTrue (has (row_at (drop near.first m.rows) k) a) → 1 ≤ held_for near a
held_in_row m near marks near_is k a i j from to t =
    let found = near_is.holders.whole a k from to i j t in
    omega (arith, slice_get_within (holders_of (lists_of near.holders.items) a) found.0 k found.1)

-- the position of a column in the order, or its number where there is no order
position : Option GapTable → ℕ → ℕ
position None a = a
position (Some t) a = place t.order a

-- on which side the node of the pair lies
side_of : Forest → Pair → Bool
side_of forest v = (get_or forest.nodes.items (number_of forest.numbers v - 1) (root_node (pair 0 0) 0)).odd

side_of-reached : (c : ℕ) (rows : List (List ℕ)) (forest : Forest) (v : Pair) (odd : Bool) → IsForest c rows forest → IsReached forest.nodes.items v odd → side_of forest v ≡ odd
unfolding side_of
side_of-reached c rows forest v odd h r =
    let number : number_of forest.numbers v - 1 ≡ r.index = omega (arith, (h.indexed.pairs r.index r.node r.there).1, ap (number_of forest.numbers) r.pair) in
    ap (λ n. (get_or forest.nodes.items n (root_node (pair 0 0) 0)).odd) number ∙ ap (λ (n : Node). n.odd) (get_or_from_slice_get forest.nodes.items r.index r.node (root_node (pair 0 0) 0) r.there) ∙ r.parity

never_its_not : (b : Bool) → b ≡ not b → ⊥
never_its_not true e = cc
never_its_not false e = cc

not_turned : (b c : Bool) → b ≡ not c → c ≡ not b
not_turned true true e = e
not_turned true false e = refl
not_turned false true e = refl
not_turned false false e = e

-- the columns are told apart by a test, which is yes for those by which a row joins pairs; and a pair of such columns that a further
-- row joins is reached
module _ (law : GapLaw) (m : RowList) (near : Neighbours) (marks : Marking) (f : Forest) (near_is : AreNeighbours m marks.rows near) (h : IsSearch m near.first marks f)
    (all : AreTaken m near marks f.nodes.items (length f.nodes.items)) (test : ℕ → Bool)
    (further : (k a : ℕ) → 1 ≤ k → k ≤ marks.rows → 1 ≤ a → a ≤ m.columns → IsTrue (has (row_at (drop near.first m.rows) k) a) → test a ≡ true)
    (front : (t : GapTable) → near.gaps ≡ Some t → (a : ℕ) → 1 ≤ a → a ≤ m.columns → IsAtOpenGap (take near.first m.rows) t.order a → test a ≡ true)
    (reached : (k : ℕ) (v : Pair) → IsPair m.columns v → 1 ≤ k → k ≤ marks.rows → IsTrue (has (row_at (drop near.first m.rows) k) v.a) → IsFalse (has (row_at (drop near.first m.rows) k) v.b) → test v.b ≡ true → (odd : Bool) × IsReached f.nodes.items v odd) where
  graph : List (List ℕ)
  graph = take (near.first + marks.rows) m.rows

  -- the columns that pass stand in their order, and the others behind them
  key : ℕ → ℕ
  key a = position near.gaps a + cond (test a) 0 (m.columns + 1)

  key_yes : (a : ℕ) → test a ≡ true → key a ≡ position near.gaps a
  unfolding key
  key_yes a e = rw e (omega arith)

  key_no : (a : ℕ) → test a ≡ false → key a ≡ position near.gaps a + (m.columns + 1)
  unfolding key
  key_no a e = rw e refl

  position_few : (g : Option GapTable) → near.gaps ≡ g → (a : ℕ) → 1 ≤ a → a ≤ m.columns → position g a ≤ m.columns
  unfolding position
  position_few None e a from to = omega (arith, to)
  position_few (Some t) e a from to =
      let valid = (near_is.gaps t e).valid in
      omega (arith, (at_place t.order a (order_has m.columns t.order valid.order a from to)).0, order_length m.columns t.order valid.order)

  position_inj : (g : Option GapTable) → (a b : ℕ) → position g a ≡ position g b → a ≡ b
  unfolding position
  position_inj None a b e = e
  position_inj (Some t) a b e = place-inj t.order a b e

  few : (a : ℕ) → 1 ≤ a → a ≤ m.columns → position near.gaps a ≤ m.columns
  few a from to = position_few near.gaps refl a from to

  key_apart : (v : Pair) → IsPair m.columns v → key v.a ≢ key v.b
  key_apart v p e =
      let fa = few v.a p.a_from p.a_to in
      let fb = few v.b p.b_from p.b_to in
      elim (cases_Bool (test v.a)) [
        | inl x ↦ elim (cases_Bool (test v.b)) [
          | inl y ↦ p.distinct (position_inj near.gaps v.a v.b (sym (key_yes v.a x) ∙ e ∙ key_yes v.b y))
          | inr y ↦ absurd (omega (arith, e, key_yes v.a x, key_no v.b y, fa))
        ]
        | inr x ↦ elim (cases_Bool (test v.b)) [
          | inl y ↦ absurd (omega (arith, e, key_no v.a x, key_yes v.b y, fb))
          | inr y ↦ p.distinct (position_inj near.gaps v.a v.b (omega (arith, e, key_no v.a x, key_no v.b y)))
        ]
      ]

  left : Pair → Bool
  left v = ltb (key v.a) (key v.b)

  -- (a,b) is joined to (b,d) by a row, and a and d are not behind b where that fails the test
  past : (v w : Pair) → IsPair m.columns v → IsPair m.columns w → v.b ≡ w.a → test v.a ≡ true → test w.b ≡ true → test v.b ≡ false → left w ≡ not (left v)
  unfolding left
  past v w p q middle ya yd fails =
      let ka : key v.a ≤ m.columns = omega (arith, key_yes v.a ya, few v.a p.a_from p.a_to) in
      let kd : key w.b ≤ m.columns = omega (arith, key_yes w.b yd, few w.b q.b_from q.b_to) in
      let kb : m.columns < key v.b = omega (arith, key_no v.b fails) in
      subst (λ x. ltb (key x) (key w.b) ≡ not (ltb (key v.a) (key v.b))) middle
      (opposite (key v.a) (key v.b) (key w.b) (key_apart v p) (λ e. key_apart w q (ap key (sym middle) ∙ e)) (λ l u. omega (arith, kd, kb, u)) (λ u l. omega (arith, ka, kb, l)))

  -- a first row joins two pairs
  by_front : (g : Option GapTable) → near.gaps ≡ g → (k : ℕ) (v w : Pair) → IsPair m.columns v → IsPair m.columns w → 1 ≤ k → k ≤ near.first → Crosses (row_at (take near.first m.rows) k) v w → left w ≡ not (left v)
  unfolding left position
  by_front None e k v w p q from to x = absurd (omega (arith, near_is.none e, from, to))
  by_front (Some t) e k v w p q from to x =
      let rows = take near.first m.rows in
      let o = t.order in
      let long : k ≤ length rows = omega (arith, to, length-take-le near.first m.rows (omega (arith, h.few))) in
      let valid = (near_is.gaps t e).valid in
      let keeps : Keeps o (row_at rows k) = valid.kept (k - 1) [] (omega (arith, from, long)) in
      let oa = order_has m.columns o valid.order v.a p.a_from p.a_to in
      let ob = order_has m.columns o valid.order v.b p.b_from p.b_to in
      let od = order_has m.columns o valid.order w.b q.b_from q.b_to in
      let ya = front t e v.a p.a_from p.a_to (at_open_gap rows o k v.a w.b v.b from long keeps oa od ob x.has_first x.has_last x.lacks_middle x.ends) in
      let yd = front t e w.b q.b_from q.b_to (at_open_gap rows o k w.b v.a v.b from long keeps od oa ob x.has_last x.has_first x.lacks_middle (λ s. x.ends (sym s))) in
      let at : (a : ℕ) → test a ≡ true → key a ≡ place o a = λ a y. key_yes a y ∙ ap (λ g. position g a) e in
      elim (cases_Bool (test v.b)) [
        | inl y ↦
            let up = between o (row_at rows k) v.a v.b w.b keeps oa ob od x.has_first x.has_last x.lacks_middle in
            let down = between o (row_at rows k) w.b v.b v.a keeps od ob oa x.has_last x.has_first x.lacks_middle in
            subst (λ d. ltb (key d) (key w.b) ≡ not (ltb (key v.a) (key v.b))) x.middle
            (opposite (key v.a) (key v.b) (key w.b) (key_apart v p) (λ s. key_apart w q (ap key (sym x.middle) ∙ s))
            (λ l u. up (omega (arith, l, at v.a ya, at v.b y)) (omega (arith, u, at v.b y, at w.b yd)))
            (λ u l. down (omega (arith, u, at v.b y, at w.b yd)) (omega (arith, l, at v.a ya, at v.b y))))
        | inr y ↦ past v w p q x.middle ya yd y
      ]

  -- a row joins two pairs that are not reached
  by_row : (k : ℕ) (v w : Pair) → IsPair m.columns v → IsPair m.columns w → 1 ≤ k → k ≤ length graph → Crosses (row_at graph k) v w → number_of f.numbers v ≡ 0 → left w ≡ not (left v)
  unfolding graph
  by_row k v w p q from to x none =
      let upto : k ≤ near.first + marks.rows = omega (arith, to, length-take-le (near.first + marks.rows) m.rows h.few) in
      let here : row_at graph k ≡ row_at m.rows k = get_or-take (near.first + marks.rows) m.rows (k - 1) [] (omega (arith, from, upto)) in
      elim (cases_lt near.first k) [
        | inl l ↦
            let i = k - near.first in
            let same : row_at graph k ≡ row_at (drop near.first m.rows) i = here ∙ sym (further_same m.rows near.first i k (omega (arith, l)) (omega (arith, l))) in
            let y = subst (λ row. Crosses row v w) same x in
            let i1 : 1 ≤ i = omega (arith, l) in
            let im : i ≤ marks.rows = omega (arith, upto) in
            let ya = further i v.a i1 im p.a_from p.a_to y.has_first in
            let yd = further i w.b i1 im q.b_from q.b_to y.has_last in
            elim (cases_Bool (test v.b)) [
              | inl t ↦
                  let r = reached i v p i1 im y.has_first y.lacks_middle t in
                  absurd (omega (arith, none, ap (number_of f.numbers) (sym r.1.pair), (h.is_forest.indexed.pairs r.1.index r.1.node r.1.there).1))
              | inr t ↦ past v w p q x.middle ya yd t
            ]
        | inr l ↦
            let same : row_at graph k ≡ row_at (take near.first m.rows) k = here ∙ sym (get_or-take near.first m.rows (k - 1) [] (omega (arith, from, l))) in
            by_front near.gaps refl k v w p q from l (subst (λ row. Crosses row v w) same x)
      ]

  -- two joined pairs that are not reached
  left_joined : (v w : Pair) → Joined m.columns graph v w → number_of f.numbers v ≡ 0 → number_of f.numbers w ≡ 0 → left w ≡ not (left v)
  unfolding left
  left_joined v w (Flip, j) nv nw =
      subst (λ x. ltb (key x) (key w.b) ≡ not (ltb (key v.a) (key v.b))) j.fits.1
      (subst (λ x. ltb (key v.b) (key x) ≡ not (ltb (key v.a) (key v.b))) j.fits.0 (other_side (key v.a) (key v.b) (key_apart v j.from)))
  left_joined v w (Row k, j) nv nw =
      elim j.fits.2 [
        | inl x ↦ by_row k v w j.from j.to j.fits.0 j.fits.1 x nv
        | inr x ↦ not_turned (left v) (left w) (by_row k w v j.to j.from j.fits.0 j.fits.1 x nw)
      ]

  -- the side of a pair: that of its node, or left or right
  side : Pair → Bool
  side v = cond (eqb (number_of f.numbers v) 0) (left v) (side_of f v)

  side_there : (v : Pair) (odd : Bool) → IsReached f.nodes.items v odd → side v ≡ odd
  unfolding side graph
  side_there v odd r =
      let number : number_of f.numbers v ≡ r.index + 1 = ap (number_of f.numbers) (sym r.pair) ∙ (h.is_forest.indexed.pairs r.index r.node r.there).1 in
      rw (ne_eqb (number_of f.numbers v) 0 (λ e. absurd (omega (arith, number, e)))) (side_of-reached m.columns graph f v odd h.is_forest r)

  side_not : (v : Pair) → number_of f.numbers v ≡ 0 → side v ≡ left v
  unfolding side
  side_not v e = rw e refl

  sides : (v w : Pair) → Joined m.columns graph v w → side w ≡ not (side v)
  unfolding graph
  sides v w j =
      let settled = settled_from_taken law m near marks f near_is h all in
      let by_number : (x : Pair) → IsPair m.columns x → 0 < number_of f.numbers x → (odd : Bool) × IsReached f.nodes.items x odd = λ x p l.
      reached_by_number f.numbers f.nodes.items h.is_forest.indexed x (subst (λ c. IsPair c x) (sym h.is_forest.columns) p) l in
      elim (cases_lt 0 (number_of f.numbers v)) [
        | inl l ↦
            let r = by_number v j.1.from l in
            side_there w (not r.0) (settled v w r.0 r.1 j) ∙ ap not (sym (side_there v r.0 r.1))
        | inr l ↦ elim (cases_lt 0 (number_of f.numbers w)) [
          | inl k ↦
              let r = by_number w j.1.to k in
              let back = settled w v r.0 r.1 (j.0, joined_by_sym m.columns graph v w j.0 j.1) in
              absurd (omega (arith, l, ap (number_of f.numbers) (sym back.pair), (h.is_forest.indexed.pairs back.index back.node back.there).1))
          | inr k ↦ side_not w (omega (arith, k)) ∙ left_joined v w j (omega (arith, l)) (omega (arith, k)) ∙ ap not (sym (side_not v (omega (arith, l))))
        ]
      ]

  -- so no closed walk has odd length
  pub no_walk : HasOddWalk m.columns (take (near.first + marks.rows) m.rows) → ⊥
  unfolding graph
  no_walk odd = never_its_not (side odd.start) (oddly-side (Joined m.columns graph) side sides odd.start odd.start odd.walk)
