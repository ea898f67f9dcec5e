-- What is reached across open gaps: whatever the first rows join to a reached pair.
use Rattle.std.proofs.Common.{◌≡◌, ◌∙◌, ℕ, zero, suc, ◌+◌, ◌-◌, ◌<◌, ◌≤◌, Bool, true, false, not, List, [], ◌∷◌, length, get_or, slice_index, IsTrue, refl, sym, ap, subst, inl, inr, arith}
use Rattle.std.proofs.lemmas.Bool.{both_ways, cases_lt}
use Rattle.std.proofs.lemmas.Option.{get_or_from_slice_get}
use Rattle.row_model.specs.declared.graph.Pair.{Pair}
use Rattle.row_model.specs.Graph.{pair, turned, row_at, IsPair, Crosses, Joined}
use Rattle.row_model.proofs.Walks.{joined-append, is_pair_turned}
use Rattle.column_order.specs.Orders.{has, place, IsValidOrder}
use Rattle.column_order.proofs.Counts.{order_once, order_within}
use Rattle.column_order.proofs.Lists.{has_at, place_at}
use Rattle.open_gaps.specs.Gaps.{Opens}
use Rattle.open_gaps.specs.Labels.{IsAlike, GapLaw}
use Rattle.walk_search.specs.declared.forest.Node.{Node}
use Rattle.odd_cycle.specs.Numbers.{Numbering, IsIndexed, number_of}
use Rattle.walk_search.specs.Search.{pair_of_node, root_node, IsReached, IsAcross}

not_twice : (b : Bool) → not (not b) ≡ b
not_twice true = refl
not_twice false = refl

-- the label of a side
side_label : Bool → ℕ
side_label true = 1
side_label false = 2

unfolding_side : (x y : Bool) → side_label x ≡ side_label y → x ≡ y
unfolding side_label
unfolding_side true true e = refl
unfolding_side true false e = absurd (omega arith)
unfolding_side false true e = absurd (omega arith)
unfolding_side false false e = refl

some_label : (x : Bool) → 1 ≤ side_label x
unfolding side_label
some_label true = omega arith
some_label false = omega arith

-- the side on which the node with a number lies, and 0 for no node
label_at : List Node → ℕ → ℕ
label_at nodes zero = 0
label_at nodes (suc n) = side_label (get_or nodes n (root_node (pair 0 0) 0)).odd

module _ (t : Numbering) (nodes : List Node) (h : IsIndexed pair_of_node t nodes) where
  label : Pair → ℕ
  label v = label_at nodes (number_of t v)

  label_reached : (v : Pair) (odd : Bool) → IsReached nodes v odd → label v ≡ side_label odd
  unfolding label label_at
  label_reached v odd r =
      let number : number_of t v ≡ suc r.index = omega (arith, (h.pairs r.index r.node r.there).1, ap (number_of t) r.pair) in
      let node : get_or nodes r.index (root_node (pair 0 0) 0) ≡ r.node = get_or_from_slice_get nodes r.index r.node (root_node (pair 0 0) 0) r.there in
      rw number (ap (λ (n : Node). side_label n.odd) node ∙ ap side_label r.parity)

  -- a pair with a label above 0 is reached
  pub reached_by_number : (v : Pair) → IsPair t.columns v → 0 < number_of t v → (odd : Bool) × IsReached nodes v odd
  reached_by_number v p l =
      let found = h.found v p l in
      (found.0.odd, record { index = number_of t v - 1; node = found.0; there = found.1; pair = found.2; parity = refl })

  label_none : (v : Pair) → number_of t v ≡ 0 → label v ≡ 0
  unfolding label label_at
  label_none v e = rw e refl

  label_some : (v : Pair) (odd : Bool) → IsPair t.columns v → label v ≡ side_label odd → IsReached nodes v odd
  label_some v odd p e =
      elim (cases_lt 0 (number_of t v)) [
        | inl l ↦
            let r = reached_by_number v p l in
            subst (IsReached nodes v) (unfolding_side r.0 odd (sym (label_reached v r.0 r.1) ∙ e)) r.1
        | inr l ↦ absurd (omega (arith, e, some_label odd, label_none v (omega arith)))
      ]

  -- two pairs that are reached alike have one label
  labels_same : (v w : Pair) → IsPair t.columns v → IsPair t.columns w → ((odd : Bool) → IsReached nodes v odd → IsReached nodes w odd) → ((odd : Bool) → IsReached nodes w odd → IsReached nodes v odd) →
      label v ≡ label w
  labels_same v w p q there back =
      elim (cases_lt 0 (number_of t v)) [
        | inl l ↦ (let r = reached_by_number v p l in label_reached v r.0 r.1 ∙ sym (label_reached w r.0 (there r.0 r.1)))
        | inr l ↦ elim (cases_lt 0 (number_of t w)) [
          | inl k ↦ (let r = reached_by_number w q k in label_reached v r.0 (back r.0 r.1) ∙ sym (label_reached w r.0 r.1))
          | inr k ↦ label_none v (omega arith) ∙ sym (label_none w (omega arith))
        ]
      ]

  module _ (front : List (List ℕ)) (o : List ℕ) (valid : IsValidOrder t.columns front o) (exchange : (v : Pair) (odd : Bool) → IsReached nodes v odd → IsReached nodes (turned v) (not odd))
      (across : (v : Pair) (odd : Bool) → IsReached nodes v odd → IsAcross front o nodes v (not odd)) where
    -- across a gap, forward and back
    module _ (k q b : ℕ) (l : q + 1 < length o) (ob : IsTrue (has o b)) (opens : Opens front o k q b) where
      at_low : place o (slice_index o q) ≡ q
      at_low = place_at o (order_once t.columns o valid.order) q (omega arith)

      at_high : place o (slice_index o (q + 1)) ≡ q + 1
      at_high = place_at o (order_once t.columns o valid.order) (q + 1) l

      forward : (odd : Bool) → IsReached nodes (pair (slice_index o q) b) odd → IsReached nodes (pair b (slice_index o (q + 1))) (not odd)
      forward odd r =
          let open_there : Opens front o k (place o (slice_index o q)) b = subst (λ i. Opens front o k i b) (sym at_low) opens in
          let more : place o (slice_index o q) + 1 < length o = omega (arith, at_low, l) in
          subst (λ i. IsReached nodes (pair b (slice_index o (i + 1))) (not odd)) at_low ((across (pair (slice_index o q) b) odd r).behind k more open_there)

      backward : (odd : Bool) → IsReached nodes (pair (slice_index o (q + 1)) b) odd → IsReached nodes (pair b (slice_index o q)) (not odd)
      backward odd r = (across (pair (slice_index o (q + 1)) b) odd r).before k q (sym at_high) opens

      again : (v : Pair) (odd : Bool) → IsReached nodes v (not odd) → IsReached nodes (turned v) odd
      again v odd r = subst (IsReached nodes (turned v)) (not_twice odd) (exchange v (not odd) r)

      pair_with : (a : ℕ) → IsTrue (has o a) → IsTrue (has (row_at front k) a) → IsPair t.columns (pair a b)
      pair_with a oa ha =
          let r = order_within t.columns o valid.order a oa in
          let s = order_within t.columns o valid.order b ob in
          record { a_from = r.0; a_to = r.1; b_from = s.0; b_to = s.1; distinct = λ e. both_ways (has (row_at front k) b) opens.lacks (subst (λ x. IsTrue (has (row_at front k) x)) e ha) }

      alike : IsAlike label (pair (slice_index o q) b) (pair (slice_index o (q + 1)) b)
      alike =
          let x = pair (slice_index o q) b in
          let y = pair (slice_index o (q + 1)) b in
          let px : IsPair t.columns x = pair_with (slice_index o q) (has_at o q (omega arith)) opens.low in
          let py : IsPair t.columns y = pair_with (slice_index o (q + 1)) (has_at o (q + 1) l) opens.high in
          let go : (odd : Bool) → IsReached nodes x odd → IsReached nodes y odd = λ odd r. again (turned y) odd (forward odd r) in
          let come : (odd : Bool) → IsReached nodes y odd → IsReached nodes x odd = λ odd r. again (turned x) odd (backward odd r) in (
            labels_same x y px py go come,
            labels_same (turned x) (turned y) (is_pair_turned t.columns x px) (is_pair_turned t.columns y py) (λ odd r. again y odd (go (not odd) (exchange (turned x) odd r))) (λ odd r. again x odd (come (not odd) (exchange (turned y) odd r))),
          )

    -- what the rows of the order join to a reached pair is reached too
    pub reached_across : GapLaw → (v w : Pair) (odd : Bool) → IsReached nodes v odd → Joined t.columns front v w → IsReached nodes w (not odd)
    reached_across law v w odd r j =
        let empty : List ℕ = [] in
        let none : (x y : Pair) → IsPair t.columns x → IsPair t.columns y → Crosses empty x y → IsAlike label x (turned y) = λ x y p q z. absurd (both_ways false refl z.has_first) in
        let same = law label t.columns front empty o valid alike none v w (joined-append t.columns front (empty ∷ []) v w j) in
        exchange (turned w) odd (label_some (turned w) odd (is_pair_turned t.columns w j.1.to) (sym same.0 ∙ label_reached v odd r))
