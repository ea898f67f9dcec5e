-- From the stretches of a tree to its nodes: where the columns next to each gap make related pairs with those outside its stretch,
-- the columns of each node stay together and the children of each Q-node stand in line.
use Rattle.std.proofs.Common.{◌≡◌, ◌⊎◌, ◌∙◌, ℕ, zero, suc, ◌+◌, ◌-◌, ◌<◌, ◌≤◌, List, ◌++◌, length, slice_index, IsTrue, sym, subst, inl, inr, arith, length-append}
use Rattle.std.specs.Prelude.{All}
use Rattle.std.proofs.lemmas.Bool.{both_ways, cases_lt, cases_eq}
use Rattle.column_order.specs.Orders.{has, occurs, place}
use Rattle.column_order.proofs.Lists.{at_place}
use Rattle.row_model.specs.declared.graph.Pair.{Pair}
use Rattle.row_model.specs.Graph.{pair}
use Rattle.pq_tree.specs.Outline.{Outline, Forest, leaf, p_node, q_node, no_tree, tree_and, leaves, leaves_of}
use Rattle.tree_theory.specs.Tied.{IsForward, IsClosed, IsInLine}
use Rattle.tree_theory.proofs.Bound.{IsPairEq}
use Rattle.bound_tree.specs.declared.stretch.Stretch.{Stretch}
use Rattle.bound_tree.specs.Stretches.{stretch, stretches, stretches_of, starts, whole_stretches, near_stretches}
use Rattle.bound_tree.proofs.Cells.{cell}
use Rattle.bound_tree.proofs.Lists.{all_front, all_rear, whole_each, near_each, IsPlaced}
use Rattle.bound_tree.proofs.Parts.{IsPart, front_part, rear_part, part_place, part_outside}
use Rattle.bound_tree.proofs.Starts.{starts_length, starts_first, starts_last, starts_within}

-- the columns at the positions x - 1 and x make related pairs with the one at p
abbrev pub AlikeAt : (Pair → Pair → Type 0) → List ℕ → ℕ → ℕ → Type 0
AlikeAt R o x p = R (cell o (x - 1) p) (cell o x p)

-- so the columns next to the gap with each outside the stretch
pub record IsAlike (R : Pair → Pair → Type 0) (o : List ℕ) (s : Stretch) : Type 0 where
  pub behind : (p : ℕ) → s.to ≤ p → p < length o → AlikeAt R o s.at p
  pub before : (p : ℕ) → p < s.from → AlikeAt R o s.at p

module _ (R : Pair → Pair → Type 0) (eq : IsPairEq R) (o : List ℕ) where
  outside : (at from to p : ℕ) → IsAlike R o (stretch at from to) → p < length o → (p < from) ⊎ (to ≤ p) → AlikeAt R o at p
  outside at from to p h u out = elim out [ inl m ↦ h.before p m | inr m ↦ h.behind p m u ]

  more : (s : ℕ) (ts : Forest) → 0 < length (leaves_of ts) → 2 ≤ length (starts s ts)
  more s no_tree h = absurd (omega arith)
  more s (tree_and t ts) h = omega (arith, starts_length (s + length (leaves t)) ts)

  -- outside a Q-node a column is outside the two children next to a gap
  beside : (ts : Forest) (s i q : ℕ) → 1 ≤ i → i + 1 < length (starts s ts) →
      ((j : ℕ) → 1 ≤ j → j + 1 < length (starts s ts) → IsAlike R o (stretch (slice_index (starts s ts) j) (slice_index (starts s ts) (j - 1)) (slice_index (starts s ts) (j + 1)))) →
      q < length o → (q < s) ⊎ (s + length (leaves_of ts) ≤ q) → AlikeAt R o (slice_index (starts s ts) i) q
  beside ts s i q a b own v k =
      outside (slice_index (starts s ts) i) (slice_index (starts s ts) (i - 1)) (slice_index (starts s ts) (i + 1)) q (own i a b) v
      (elim k [
        | inl m ↦ inl (omega (arith, m, (starts_within s ts (i - 1) (omega arith)).0))
        | inr m ↦ inr (omega (arith, m, (starts_within s ts (i + 1) b).1))
      ])

  mutual
    -- the columns of a tree make related pairs with each column outside it
    pub tree_alike : (t : Outline) (s : ℕ) → All (IsAlike R o) (stretches s t) →
        (x p : ℕ) → s < x → x < s + length (leaves t) → p < length o → (p < s) ⊎ (s + length (leaves t) ≤ p) → AlikeAt R o x p
    tree_alike (leaf a) s all x p l u w out = absurd (omega arith)
    tree_alike (p_node ts) s all x p l u w out =
        let own = whole_each (IsAlike R o) (starts s ts) (all_rear (IsAlike R o) (stretches_of s ts) (whole_stretches (starts s ts)) all) in
        trees_alike ts s s (s + length (leaves_of ts)) (all_front (IsAlike R o) (stretches_of s ts) (whole_stretches (starts s ts)) all)
        (λ i q a b v k.
        outside (slice_index (starts s ts) i) (slice_index (starts s ts) 0) (slice_index (starts s ts) (length (starts s ts) - 1)) q (own i a b) v
        (elim k [ inl m ↦ inl (omega (arith, m, starts_first s ts)) | inr m ↦ inr (omega (arith, m, starts_last s ts)) ]))
        (omega arith) (omega arith) x p l u w out
    tree_alike (q_node ts) s all x p l u w out =
        let own = near_each (IsAlike R o) (starts s ts) (all_rear (IsAlike R o) (stretches_of s ts) (near_stretches (starts s ts)) all) in
        trees_alike ts s s (s + length (leaves_of ts)) (all_front (IsAlike R o) (stretches_of s ts) (near_stretches (starts s ts)) all)
        (λ i q a b v k. beside ts s i q a b own v k)
        (omega arith) (omega arith) x p l u w out

    -- the columns of trees side by side make related pairs with each column outside what holds them, where this holds at the gaps
    -- between two of the trees
    pub trees_alike : (ts : Forest) (s from to : ℕ) → All (IsAlike R o) (stretches_of s ts) →
        ((i p : ℕ) → 1 ≤ i → i + 1 < length (starts s ts) → p < length o → (p < from) ⊎ (to ≤ p) → AlikeAt R o (slice_index (starts s ts) i) p) →
        from ≤ s → s + length (leaves_of ts) ≤ to →
        (x p : ℕ) → s < x → x < s + length (leaves_of ts) → p < length o → (p < from) ⊎ (to ≤ p) → AlikeAt R o x p
    trees_alike no_tree s from to all own f t x p l u w out = absurd (omega arith)
    trees_alike (tree_and t ts) s from to all own f e x p l u w out =
        let m : ℕ = s + length (leaves t) in
        let n : length (leaves t ++ leaves_of ts) ≡ length (leaves t) + length (leaves_of ts) = length-append (leaves t) (leaves_of ts) in
        elim (cases_lt x m) [
          | inl k ↦
              tree_alike t s (all_front (IsAlike R o) (stretches s t) (stretches_of m ts) all) x p l k w
              (elim out [ inl a ↦ inl (omega arith) | inr a ↦ inr (omega arith) ])
          | inr k ↦ elim (cases_eq x m) [
            | inl e' ↦
                subst (λ y. AlikeAt R o y p) (starts_first m ts ∙ sym e')
                (own 1 p (omega arith) (omega (arith, starts_length m ts, more m ts (omega arith))) w out)
            | inr d ↦
                trees_alike ts m from to (all_rear (IsAlike R o) (stretches s t) (stretches_of m ts) all)
                (λ i q a b v k. own (suc i) q (omega arith) (omega arith) v k)
                (omega arith) (omega arith) x p (omega arith) (omega arith) w out
          ]
        ]

  -- from position to position
  along : (s e p : ℕ) → ((x : ℕ) → s < x → x < e → AlikeAt R o x p) → (n x : ℕ) → s ≤ x → x + n < e → R (cell o x p) (cell o (x + n) p)
  along s e p h zero x l u = subst (λ y. R (cell o x p) (cell o y p)) (omega arith) (eq.same (cell o x p))
  along s e p h (suc n) x l u =
      let back : x + suc n - 1 ≡ x + n = omega arith in
      eq.join (cell o x p) (cell o (x + n) p) (cell o (x + suc n) p) (along s e p h n x l (omega arith))
      (subst (λ y. R (cell o y p) (cell o (x + suc n) p)) back (h (x + suc n) (omega arith) (omega arith)))

  pub between : (s e p : ℕ) → ((x : ℕ) → s < x → x < e → AlikeAt R o x p) → (x y : ℕ) → s ≤ x → x < e → s ≤ y → y < e → R (cell o x p) (cell o y p)
  between s e p h x y lx ux ly uy =
      elim (cases_lt x y) [
        | inl l ↦ let n : x + (y - x) ≡ y = omega arith in subst (λ z. R (cell o x p) (cell o z p)) n (along s e p h (y - x) x lx (omega arith))
        | inr l ↦
            let n : y + (x - y) ≡ x = omega arith in
            eq.turn (cell o y p) (cell o x p) (subst (λ z. R (cell o y p) (cell o z p)) n (along s e p h (x - y) y ly (omega arith)))
      ]

  module _ (once : (a : ℕ) → occurs o a ≤ 1) where
    -- the columns of a node stay together
    pub closed : (x : Outline) → IsPlaced (IsAlike R o) o x → IsClosed R o (leaves x)
    closed x n a b d ha hb hd nd =
        let pa = part_place o n.from (leaves x) n.part a ha in
        let pb = part_place o n.from (leaves x) n.part b hb in
        let pd = at_place o d hd in
        let out = part_outside o once n.from (leaves x) n.part (place o d) pd.0 (λ h. both_ways (has (leaves x) d) nd (subst (λ y. IsTrue (has (leaves x) y)) pd.1 h)) in
        let r : R (cell o pa.0 (place o d)) (cell o pb.0 (place o d)) =
        between n.from (n.from + length (leaves x)) (place o d) (λ y l u. tree_alike x n.from n.all y (place o d) l u pd.0 out) pa.0 pb.0 pa.1 pa.2 pb.1 pb.2 in
        subst (λ y. R (pair a d) (pair y d)) pb.3 (subst (λ y. R (pair y d) (pair (slice_index o pb.0) d)) pa.3
        (subst (λ y. R (pair (slice_index o pa.0) y) (pair (slice_index o pb.0) y)) pd.1 r))

  forward_long : (ts : Forest) (v : Pair) → IsForward ts v → 0 < length (leaves_of ts)
  forward_long no_tree v f = absurd f
  forward_long (tree_and t ts) v f =
      elim f [
        | inl h ↦ omega (arith, (at_place (leaves_of ts) v.b h.1).0, length-append (leaves t) (leaves_of ts))
        | inr h ↦ omega (arith, forward_long ts v h, length-append (leaves t) (leaves_of ts))
      ]

  abbrev AreOwn : Forest → ℕ → Type 0
  AreOwn ts s =
      (j : ℕ) → 1 ≤ j → j + 1 < length (starts s ts) → IsAlike R o (stretch (slice_index (starts s ts) j) (slice_index (starts s ts) (j - 1)) (slice_index (starts s ts) (j + 1)))

  -- the gaps between all trees but the first
  own_rest : (t : Outline) (ts : Forest) (s : ℕ) → AreOwn (tree_and t ts) s → AreOwn ts (s + length (leaves t))
  own_rest t ts s own j a b =
      let m : ℕ = s + length (leaves t) in
      let ns : List ℕ = starts s (tree_and t ts) in
      let h : IsAlike R o (stretch (slice_index ns (suc j)) (slice_index ns (suc j - 1)) (slice_index ns (suc j + 1))) = own (suc j) (omega arith) (omega arith) in
      let low : suc j - 1 ≡ suc (j - 1) = omega arith in
      let high : suc j + 1 ≡ suc (j + 1) = omega arith in
      subst (λ i. IsAlike R o (stretch (slice_index (starts m ts) j) (slice_index ns i) (slice_index (starts m ts) (j + 1)))) low
      (subst (λ i. IsAlike R o (stretch (slice_index (starts m ts) j) (slice_index ns (suc j - 1)) (slice_index ns i))) high h)

  -- the end of the second tree is not the end of the last, where a pair goes forward in the trees from the second on
  second_end : (m : ℕ) (ts : Forest) (v : Pair) → IsForward ts v → (2 < length (starts m ts) + 1) × (slice_index (starts m ts) 1 < m + length (leaves_of ts))
  second_end m no_tree v f = absurd f
  second_end m (tree_and t ts) v f =
      let n : 0 < length (leaves_of ts) =
      elim f [ inl h ↦ omega (arith, (at_place (leaves_of ts) v.b h.1).0) | inr h ↦ forward_long ts v h ] in
      (omega (arith, starts_length (m + length (leaves t)) ts), omega (arith, n, starts_first (m + length (leaves t)) ts, length-append (leaves t) (leaves_of ts)))

  -- each pair that goes forward is related to that of the first and the last column
  to_corner : (ts : Forest) (s : ℕ) → IsPart o s (leaves_of ts) → All (IsAlike R o) (stretches_of s ts) → AreOwn ts s → (v : Pair) → IsForward ts v →
      R v (cell o s (s + length (leaves_of ts) - 1))
  to_corner no_tree s p all own v f = absurd f
  to_corner (tree_and t ts) s p all own v f =
      let m : ℕ = s + length (leaves t) in
      let e : ℕ = s + length (leaves t ++ leaves_of ts) in
      let n : length (leaves t ++ leaves_of ts) ≡ length (leaves t) + length (leaves_of ts) = length-append (leaves t) (leaves_of ts) in
      let inside : e ≤ length o = p.inside in
      let pt : IsPart o s (leaves t) = front_part o s (leaves t) (leaves_of ts) p in
      let pts : IsPart o m (leaves_of ts) = rear_part o s (leaves t) (leaves_of ts) p in
      let first : (x q : ℕ) → s < x → x < m → q < length o → m ≤ q → AlikeAt R o x q =
      λ x q l u w g. tree_alike t s (all_front (IsAlike R o) (stretches s t) (stretches_of m ts) all) x q l u w (inr g) in
      let rest : All (IsAlike R o) (stretches_of m ts) = all_rear (IsAlike R o) (stretches s t) (stretches_of m ts) all in
      elim f [
        | inl h ↦
            let pa = part_place o s (leaves t) pt v.a h.0 in
            let pb = part_place o m (leaves_of ts) pts v.b h.1 in
            let across : R (cell o pa.0 pb.0) (cell o s pb.0) =
            between s m pb.0 (λ x l u. first x pb.0 l u (omega (arith, pb.2, inside, n)) pb.1) pa.0 s pa.1 pa.2 (omega arith) (omega (arith, pa.1, pa.2)) in
            let up : R (cell o pb.0 s) (cell o (e - 1) s) =
            between m (m + length (leaves_of ts)) s
            (λ x l u. trees_alike ts m m (m + length (leaves_of ts)) rest (λ i q a b w k. beside ts m i q a b (own_rest t ts s own) w k) (omega arith) (omega arith) x s l u (omega (arith, pa.1, pa.2, inside, n)) (inl (omega (arith, pa.1, pa.2))))
            pb.0 (e - 1) pb.1 pb.2 (omega (arith, pb.1, pb.2, n)) (omega (arith, pb.1, pb.2, n)) in
            subst (λ y. R (pair y v.b) (cell o s (e - 1))) pa.3 (subst (λ y. R (pair (slice_index o pa.0) y) (cell o s (e - 1))) pb.3
            (eq.join (cell o pa.0 pb.0) (cell o s pb.0) (cell o s (e - 1)) across (eq.flip (cell o pb.0 s) (cell o (e - 1) s) up)))
        | inr h ↦
            let two = second_end m ts v h in
            let long : 0 < length (leaves_of ts) = forward_long ts v h in
            let last : ℕ = m + length (leaves_of ts) - 1 in
            let same : last ≡ e - 1 = omega (arith, n) in
            let ns : List ℕ = starts s (tree_and t ts) in
            let gap : AlikeAt R o m last =
            subst (λ y. AlikeAt R o y last) (starts_first m ts)
            ((own 1 (omega arith) (omega (arith, two.0))).behind last (omega (arith, two.1)) (omega (arith, long, inside, n))) in
            let step : (x : ℕ) → s < x → x < m + 1 → AlikeAt R o x last =
            λ x l u. elim (cases_eq x m) [
              | inl g ↦ subst (λ y. AlikeAt R o y last) (sym g) gap
              | inr d ↦ first x last l (omega arith) (omega (arith, long, inside, n)) (omega (arith, long))
            ] in
            subst (λ y. R v (cell o s y)) same
            (eq.join v (cell o m last) (cell o s last) (to_corner ts m pts rest (own_rest t ts s own) v h)
            (between s (m + 1) last step m s (omega arith) (omega arith) (omega arith) (omega arith)))
      ]

  -- the children of a Q-node stand in line
  pub lined : (ts : Forest) → IsPlaced (IsAlike R o) o (q_node ts) → IsInLine R ts
  lined ts n v w f g =
      let e : ℕ = n.from + length (leaves_of ts) - 1 in
      let all = all_front (IsAlike R o) (stretches_of n.from ts) (near_stretches (starts n.from ts)) n.all in
      let own = near_each (IsAlike R o) (starts n.from ts) (all_rear (IsAlike R o) (stretches_of n.from ts) (near_stretches (starts n.from ts)) n.all) in
      eq.join v (cell o n.from e) w (to_corner ts n.from n.part all own v f)
      (eq.turn w (cell o n.from e) (to_corner ts n.from n.part all own w g))
