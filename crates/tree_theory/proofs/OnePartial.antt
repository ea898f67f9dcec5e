-- P with one partial child, below the pertinent root and at it.
use Rattle.std.proofs.Common.{◌≡◌, ◌⊎◌, ◌∙◌, ◌+◌, ◌≤◌, ℕ, false, List, [], ◌++◌, IsTrue, IsFalse, refl, sym, ap, subst, inl, inr, arith}
use Rattle.std.proofs.lemmas.Bool.{both_ways, false_from_ne_true}
use Rattle.row_model.specs.declared.graph.Pair.{Pair}
use Rattle.column_order.specs.Orders.{has, occurs}
use Rattle.row_model.specs.Graph.{pair}
use Rattle.column_order.proofs.Lists.{has_append_cases, has_append_left, occurs-append, occurs_from_has, lacks_from_occurs, has_same}
use Rattle.pq_tree.specs.Outline.{Outline, Forest, p_node, q_node, no_tree, tree_and, leaves, leaves_of}
use Rattle.tree_theory.specs.Tied.{IsForward}
use Rattle.tree_theory.proofs.Bound.{IsClosed, AreClosed, IsInLine, IsBound, AreBound, IsPairEq, closed_through}
use Rattle.pq_tree.specs.Forests.{join}
use Rattle.pq_tree.proofs.Forests.{join_assoc, leaves_of-join, has_join_cases, has_join_left, has_join_right}
use Rattle.tree_theory.specs.Templates.{star, under}
use Rattle.tree_theory.proofs.Lines.{IsParted, leaves_of-star, to_star, from_star, forward_cases, forward_left, forward_right, star_forward, bound_join, bound_left, bound_right, star_bound, star_closed, star_each, closed_within, parted_closed, closed_left, closed_right, parted_bound, parted_bound_left, parted_bound_right, parted_occurs, parted_left, parted_right, has_parted_cases}
use Rattle.tree_theory.proofs.BelowRoot.{IsOutside, AreEmpty, AreFull, Treated, towards, first_closed, last_closed, middle_closed, end_closed, closed_alike, outside_within}
use Rattle.tree_theory.proofs.AtRoot.{Rooted, under_occurs, set_through, under_up, under_down}

-- P with empty and full children and the partial u: [P*(E) e f P*(F)]
module _ (row : List ℕ) (ts es rest fs : Forest) (u : Outline) (e f : Forest) (first : IsParted ts es rest) (second : IsParted rest fs (tree_and u no_tree))
    (empty : AreEmpty row es) (full : AreFull row fs) (part : Treated row u e f) (once : (a : ℕ) → occurs (leaves_of ts) a ≤ 1) where
  u_has : (a : ℕ) → has (leaves_of (join e f)) a ≡ has (leaves u) a
  u_has a = has_same (leaves_of (join e f)) (leaves u) a (part.same a)

  all_occur : (a : ℕ) → occurs (leaves_of ts) a ≡ occurs (leaves_of es) a + (occurs (leaves u) a + occurs (leaves_of fs) a)
  all_occur a = omega (arith, parted_occurs first a, parted_occurs second a, occurs-append (leaves u) [] a)

  fs_in : (a : ℕ) → IsTrue (has (leaves_of fs) a) → IsTrue (has (leaves_of ts) a)
  fs_in a h = parted_right first a (parted_left second a h)

  u_in : (a : ℕ) → IsTrue (has (leaves u) a) → IsTrue (has (leaves_of ts) a)
  u_in a h = parted_right first a (parted_right second a (has_append_left (leaves u) [] a h))

  e_in : (a : ℕ) → IsTrue (has (leaves_of e) a) → IsTrue (has (leaves u) a)
  e_in a h = sym (u_has a) ∙ has_join_left e f a h

  f_in : (a : ℕ) → IsTrue (has (leaves_of f) a) → IsTrue (has (leaves u) a)
  f_in a h = sym (u_has a) ∙ has_join_right e f a h

  es_not_u : (a : ℕ) → IsTrue (has (leaves_of es) a) → IsFalse (has (leaves u) a)
  es_not_u a h = lacks_from_occurs (leaves u) a (omega (arith, all_occur a, once a, occurs_from_has (leaves_of es) a h))

  fs_not_u : (a : ℕ) → IsTrue (has (leaves_of fs) a) → IsFalse (has (leaves u) a)
  fs_not_u a h = lacks_from_occurs (leaves u) a (omega (arith, all_occur a, once a, occurs_from_has (leaves_of fs) a h))

  -- where a column of ts is
  ts_cases : (d : ℕ) → IsTrue (has (leaves_of ts) d) → IsTrue (has (leaves_of es) d) ⊎ (IsTrue (has (leaves u) d) ⊎ IsTrue (has (leaves_of fs) d))
  ts_cases d h =
      elim (has_parted_cases first d h) [
        | inl k ↦ inl k
        | inr k ↦ elim (has_parted_cases second d k) [
          | inl m ↦ inr (inr m)
          | inr m ↦ inr (inl (elim (has_append_cases (leaves u) [] d m) [ inl n ↦ n | inr n ↦ absurd (both_ways false refl n) ]))
        ]
      ]

  line_cases : (d : ℕ) → IsTrue (has (leaves_of ts) d) →
      IsTrue (has (leaves_of (star es)) d) ⊎ (IsTrue (has (leaves_of (join e f)) d) ⊎ IsTrue (has (leaves_of (star fs)) d))
  line_cases d h =
      elim (ts_cases d h) [
        | inl k ↦ inl (to_star es d k)
        | inr k ↦ elim k [ inl m ↦ inr (inl (u_has d ∙ m)) | inr m ↦ inr (inr (to_star fs d m)) ]
      ]

  regroup : join (join (star es) e) (join f (star fs)) ≡ join (star es) (join (join e f) (star fs))
  regroup = join_assoc (star es) e (join f (star fs)) ∙ ap (join (star es)) (sym (join_assoc e f (star fs)))

  p5_up : (R : Pair → Pair → Type 0) → IsPairEq R → IsInLine R (join (star es) (join (join e f) (star fs))) → AreBound R (join (star es) (join (join e f) (star fs))) → IsBound R (p_node ts)
  p5_up R eq line b =
      let l : List ℕ = leaves_of ts in
      let be : AreBound R (star es) = bound_left R (star es) (join (join e f) (star fs)) b in
      let br : AreBound R (join (join e f) (star fs)) = bound_right R (star es) (join (join e f) (star fs)) b in
      let bf : AreBound R (star fs) = bound_right R (join e f) (star fs) br in
      let bu : IsBound R u =
      part.up R eq
      (λ v w i j. line v w (forward_right (star es) (join (join e f) (star fs)) v (forward_left (join e f) (star fs) v i)) (forward_right (star es) (join (join e f) (star fs)) w (forward_left (join e f) (star fs) w j)))
      (bound_left R (join e f) (star fs) br) in
      let ce : IsClosed R (leaves_of ts) (leaves_of es) =
      rw leaves_of-star at (first_closed R eq (leaves_of ts) (star es) (join (join e f) (star fs))
      (λ d h. elim (line_cases d h) [
        | inl k ↦ inl k
        | inr k ↦ inr (elim k [ inl m ↦ has_join_left (join e f) (star fs) d m | inr m ↦ has_join_right (join e f) (star fs) d m ])
      ]) line) in
      let cu : IsClosed R (leaves_of ts) (leaves u) =
      closed_alike R eq (leaves_of ts) (leaves_of (join e f)) (leaves u) u_has (middle_closed R eq (leaves_of ts) (star es) (join e f) (star fs) line_cases line) in
      let cf : IsClosed R (leaves_of ts) (leaves_of fs) =
      rw leaves_of-star at (end_closed R eq (leaves_of ts) (star es) (join e f) (star fs) line_cases line) in (
        parted_closed R (leaves_of ts) first
            (closed_through R (leaves_of ts) (leaves_of es) ce es (λ d h. h) (star_closed R es be))
            (parted_closed R (leaves_of ts) second
            (closed_through R (leaves_of ts) (leaves_of fs) cf fs (λ d h. h) (star_closed R fs bf))
            (cu, tt)),
        parted_bound R first (star_each R es be) (parted_bound R second (star_each R fs bf) (bu, tt)),
      )

  p5_line : (R : Pair → Pair → Type 0) → IsPairEq R → (s : ℕ) → IsOutside R row (leaves_of ts) s → IsBound R (p_node ts) →
      (v : Pair) → IsForward (join (star es) (join (join e f) (star fs))) v → (a : ℕ) → IsTrue (has (leaves_of ts) a) → R v (pair a s)
  p5_line R eq s o b v h a ta =
      let cu : IsClosed R (leaves_of ts) (leaves u) = (closed_right R (leaves_of ts) second (closed_right R (leaves_of ts) first b.0)).0 in
      let bu : IsBound R u = (parted_bound_right R second (parted_bound_right R first b.1)).0 in
      -- an empty column and a full one
      let key : (x y : ℕ) → IsTrue (has (leaves_of ts) x) → IsFalse (has row x) → IsTrue (has (leaves_of ts) y) → IsTrue (has row y) → R (pair x y) (pair a s) =
      λ x y tx rx ty ry. towards R eq row (leaves_of ts) s o x y a tx rx ty ry ta in
      elim (forward_cases (star es) (join (join e f) (star fs)) v h) [
        | inl k ↦ absurd (star_forward es v k)
        | inr k ↦ elim k [
          | inl m ↦
              let x_es : IsTrue (has (leaves_of es) v.a) = from_star es v.a m.0 in
              elim (has_join_cases (join e f) (star fs) v.b m.1) [
                | inl n ↦ elim (has_join_cases e f v.b n) [
                  | inl y_e ↦
                      eq.join v (pair v.a part.some_full.0) (pair a s)
                      (eq.flip (pair v.b v.a) (pair part.some_full.0 v.a)
                      (cu v.b part.some_full.0 v.a (e_in v.b y_e) (f_in part.some_full.0 part.some_full.1) (parted_left first v.a x_es) (es_not_u v.a x_es)))
                      (key v.a part.some_full.0 (parted_left first v.a x_es) (empty v.a x_es) (u_in part.some_full.0 (f_in part.some_full.0 part.some_full.1)) (part.full part.some_full.0 part.some_full.1))
                  | inr y_f ↦ key v.a v.b (parted_left first v.a x_es) (empty v.a x_es) (u_in v.b (f_in v.b y_f)) (part.full v.b y_f)
                ]
                | inr n ↦ let y_fs : IsTrue (has (leaves_of fs) v.b) = from_star fs v.b n in key v.a v.b (parted_left first v.a x_es) (empty v.a x_es) (fs_in v.b y_fs) (full v.b y_fs)
              ]
          | inr m ↦ elim (forward_cases (join e f) (star fs) v m) [
            | inl n ↦
                eq.join v (pair part.some_full.0 s) (pair a s)
                (part.down_line R eq s (outside_within R row (leaves_of ts) (leaves u) s u_in o) bu v n part.some_full.0 (f_in part.some_full.0 part.some_full.1))
                (o.closed part.some_full.0 a (u_in part.some_full.0 (f_in part.some_full.0 part.some_full.1)) ta)
            | inr n ↦ elim n [
              | inl w ↦
                  let z_fs : IsTrue (has (leaves_of fs) v.b) = from_star fs v.b w.1 in
                  elim (has_join_cases e f v.a w.0) [
                    | inl x_e ↦ key v.a v.b (u_in v.a (e_in v.a x_e)) (part.empty v.a x_e) (fs_in v.b z_fs) (full v.b z_fs)
                    | inr x_f ↦
                        eq.join v (pair part.some_empty.0 v.b) (pair a s)
                        (cu v.a part.some_empty.0 v.b (f_in v.a x_f) (e_in part.some_empty.0 part.some_empty.1) (fs_in v.b z_fs) (fs_not_u v.b z_fs))
                        (key part.some_empty.0 v.b (u_in part.some_empty.0 (e_in part.some_empty.0 part.some_empty.1)) (part.empty part.some_empty.0 part.some_empty.1) (fs_in v.b z_fs) (full v.b z_fs))
                  ]
              | inr w ↦ absurd (star_forward fs v w)
            ]
          ]
        ]
      ]

  p5_each : (R : Pair → Pair → Type 0) → IsPairEq R → (s : ℕ) → IsOutside R row (leaves_of ts) s → IsBound R (p_node ts) →
      AreBound R (join (star es) (join (join e f) (star fs)))
  p5_each R eq s o b =
      let bu : IsBound R u = (parted_bound_right R second (parted_bound_right R first b.1)).0 in
      bound_join R (star es) (join (join e f) (star fs))
      (star_bound R es (closed_within R (leaves_of ts) (leaves_of es) es (parted_left first) (closed_left R (leaves_of ts) first b.0)) (parted_bound_left R first b.1))
      (bound_join R (join e f) (star fs)
      (part.down_each R eq s (outside_within R row (leaves_of ts) (leaves u) s u_in o) bu)
      (star_bound R fs (closed_within R (leaves_of ts) (leaves_of fs) fs fs_in (closed_left R (leaves_of ts) second (closed_right R (leaves_of ts) first b.0))) (parted_bound_left R second (parted_bound_right R first b.1))))

  p5_same : (a : ℕ) → occurs (leaves_of (join (star es) (join (join e f) (star fs)))) a ≡ occurs (leaves_of ts) a
  p5_same a =
      rw (leaves_of-join (star es) (join (join e f) (star fs)), leaves_of-join (join e f) (star fs), leaves_of-star es, leaves_of-star fs)
      (omega (arith, all_occur a, part.same a, occurs-append (leaves_of es) (leaves_of (join e f) ++ leaves_of fs) a, occurs-append (leaves_of (join e f)) (leaves_of fs) a))

  pub p5_parted : Treated row (p_node ts) (join (star es) e) (join f (star fs))
  p5_parted =
      record {
        same = λ a. rw regroup (p5_same a);
        empty = λ a h. elim (has_join_cases (star es) e a h) [ inl k ↦ empty a (from_star es a k) | inr k ↦ part.empty a k ];
        full = λ a h. elim (has_join_cases f (star fs) a h) [ inl k ↦ part.full a k | inr k ↦ full a (from_star fs a k) ];
        some_empty = (part.some_empty.0, has_join_right (star es) e part.some_empty.0 part.some_empty.1);
        some_full = (part.some_full.0, has_join_left f (star fs) part.some_full.0 part.some_full.1);
        up = λ R eq line b. p5_up R eq (subst (IsInLine R) regroup line) (subst (AreBound R) regroup b);
        down_line = λ R eq s o b v h a ta. p5_line R eq s o b v (subst (λ ws. IsForward ws v) regroup h) a ta;
        down_each = λ R eq s o b. subst (AreBound R) (sym regroup) (p5_each R eq s o b);
      }

  -- at the pertinent root: P over E and [e f P*(F)]
  module _ (within : (a : ℕ) → IsTrue (has row a) → IsTrue (has (leaves_of ts) a)) (some_fs : (a : ℕ) × IsTrue (has (leaves_of fs) a)) where
    row_cases : (a : ℕ) → IsTrue (has row a) → IsTrue (has (leaves_of f) a) ⊎ IsTrue (has (leaves_of fs) a)
    row_cases a h =
        elim (ts_cases a (within a h)) [
          | inl k ↦ absurd (both_ways (has row a) (empty a k) h)
          | inr k ↦ elim k [
            | inl m ↦ elim (has_join_cases e f a (u_has a ∙ m)) [ inl n ↦ absurd (both_ways (has row a) (part.empty a n) h) | inr n ↦ inl n ]
            | inr m ↦ inr m
          ]
        ]

    line : Forest
    line = join (join e f) (star fs)

    x_cases : (a : ℕ) → IsTrue (has (leaves_of (join (join e f) (star fs))) a) → IsTrue (has (leaves u) a) ⊎ IsTrue (has (leaves_of fs) a)
    x_cases a h = elim (has_join_cases (join e f) (star fs) a h) [ inl k ↦ inl (sym (u_has a) ∙ k) | inr k ↦ inr (from_star fs a k) ]

    x_u : (a : ℕ) → IsTrue (has (leaves u) a) → IsTrue (has (leaves_of (join (join e f) (star fs))) a)
    x_u a h = has_join_left (join e f) (star fs) a (u_has a ∙ h)

    x_fs : (a : ℕ) → IsTrue (has (leaves_of fs) a) → IsTrue (has (leaves_of (join (join e f) (star fs))) a)
    x_fs a h = has_join_right (join e f) (star fs) a (to_star fs a h)

    x_in : (a : ℕ) → IsTrue (has (leaves_of (join (join e f) (star fs))) a) → IsTrue (has (leaves_of ts) a)
    x_in a h = elim (x_cases a h) [ inl k ↦ u_in a k | inr k ↦ fs_in a k ]

    module _ (R : Pair → Pair → Type 0) (eq : IsPairEq R) where
      p4_up : IsBound R (under es (q_node (join (join e f) (star fs)))) → IsBound R (p_node ts) × IsClosed R (leaves_of ts) row
      p4_up b =
          let k : IsBound R (q_node (join (join e f) (star fs))) × AreBound R es × AreClosed R (leaves_of ts) es × IsClosed R (leaves_of ts) (leaves_of (join (join e f) (star fs))) =
          under_up R (leaves_of ts) es (q_node (join (join e f) (star fs)))
          (λ d h. elim (ts_cases d h) [ inl m ↦ inr m | inr m ↦ inl (elim m [ inl n ↦ x_u d n | inr n ↦ x_fs d n ]) ]) b in
          let inline : IsInLine R (join (join e f) (star fs)) = k.0.0 in
          let bf : AreBound R (star fs) = bound_right R (join e f) (star fs) k.0.1 in
          let bu : IsBound R u =
          part.up R eq (λ v w i j. inline v w (forward_left (join e f) (star fs) v i) (forward_left (join e f) (star fs) w j)) (bound_left R (join e f) (star fs) k.0.1) in
          let xc : (d : ℕ) → IsTrue (has (leaves_of (join (join e f) (star fs))) d) → IsTrue (has (leaves_of (join e f)) d) ⊎ IsTrue (has (leaves_of (star fs)) d) =
          λ d h. has_join_cases (join e f) (star fs) d h in
          let cu : IsClosed R (leaves_of ts) (leaves u) =
          set_through R (leaves_of ts) (leaves_of (join (join e f) (star fs))) (leaves u) x_u k.3
          (closed_alike R eq (leaves_of (join (join e f) (star fs))) (leaves_of (join e f)) (leaves u) u_has (first_closed R eq (leaves_of (join (join e f) (star fs))) (join e f) (star fs) xc inline)) in
          let cf : IsClosed R (leaves_of ts) (leaves_of fs) =
          set_through R (leaves_of ts) (leaves_of (join (join e f) (star fs))) (leaves_of fs) x_fs k.3
          (rw leaves_of-star at (last_closed R eq (leaves_of (join (join e f) (star fs))) (join e f) (star fs) xc inline)) in
          let cr : IsClosed R (leaves_of ts) (leaves_of (join f (star fs))) =
          set_through R (leaves_of ts) (leaves_of (join (join e f) (star fs))) (leaves_of (join f (star fs)))
          (λ d h. elim (has_join_cases f (star fs) d h) [ inl m ↦ x_u d (f_in d m) | inr m ↦ x_fs d (from_star fs d m) ]) k.3
          (last_closed R eq (leaves_of (join (join e f) (star fs))) e (join f (star fs))
          (λ d h. has_join_cases e (join f (star fs)) d (subst (λ ws. IsTrue (has (leaves_of ws) d)) (join_assoc e f (star fs)) h))
          (subst (IsInLine R) (join_assoc e f (star fs)) inline)) in (
            (
              parted_closed R (leaves_of ts) first k.2 (parted_closed R (leaves_of ts) second (closed_through R (leaves_of ts) (leaves_of fs) cf fs (λ d h. h) (star_closed R fs bf)) (cu, tt)),
              parted_bound R first k.1 (parted_bound R second (star_each R fs bf) (bu, tt)),
            ),
            λ a c d ra rc ld rd. cr a c d (in_run a ra) (in_run c rc) ld
                (false_from_ne_true (has (leaves_of (join f (star fs))) d)
                (λ h. both_ways (has row d) rd (elim (has_join_cases f (star fs) d h) [ inl m ↦ part.full d m | inr m ↦ full d (from_star fs d m) ]))),
          )
        where
          in_run : (a : ℕ) → IsTrue (has row a) → IsTrue (has (leaves_of (join f (star fs))) a)
          in_run a h = elim (row_cases a h) [ inl m ↦ has_join_left f (star fs) a m | inr m ↦ has_join_right f (star fs) a (to_star fs a m) ]

      p4_down : IsBound R (p_node ts) → IsClosed R (leaves_of ts) row → IsBound R (under es (q_node (join (join e f) (star fs))))
      p4_down b c =
          under_down R (leaves_of ts) es (q_node (join (join e f) (star fs))) x_in (parted_left first) (inline, each) (parted_bound_left R first b.1) (closed_left R (leaves_of ts) first b.0) cx
        where
          s : ℕ
          s = some_fs.0

          x0 : ℕ
          x0 = part.some_empty.0

          cu : IsClosed R (leaves_of ts) (leaves u)
          cu = (closed_right R (leaves_of ts) second (closed_right R (leaves_of ts) first b.0)).0

          bu : IsBound R u
          bu = (parted_bound_right R second (parted_bound_right R first b.1)).0

          o : IsOutside R row (leaves u) some_fs.0
          o =
              record {
                closed = λ a d ua ud. cu a d some_fs.0 ua ud (fs_in some_fs.0 some_fs.1) (fs_not_u some_fs.0 some_fs.1);
                rowed = λ d g ud rd ug rg. c g some_fs.0 d rg (full some_fs.0 some_fs.1) (u_in d ud) rd;
              }

          to_base : (v : Pair) → IsForward (join (join e f) (star fs)) v → R v (pair part.some_empty.0 some_fs.0)
          to_base v h =
              let e0 : IsTrue (has (leaves u) part.some_empty.0) = e_in part.some_empty.0 part.some_empty.1 in
              elim (forward_cases (join e f) (star fs) v h) [
                | inl k ↦ part.down_line R eq some_fs.0 o bu v k part.some_empty.0 e0
                | inr k ↦ elim k [
                  | inl m ↦
                      let z : IsTrue (has (leaves_of fs) v.b) = from_star fs v.b m.1 in
                      eq.join v (pair part.some_empty.0 v.b) (pair part.some_empty.0 some_fs.0)
                      (cu v.a part.some_empty.0 v.b (sym (u_has v.a) ∙ m.0) e0 (fs_in v.b z) (fs_not_u v.b z))
                      (eq.flip (pair v.b part.some_empty.0) (pair some_fs.0 part.some_empty.0)
                      (c v.b some_fs.0 part.some_empty.0 (full v.b z) (full some_fs.0 some_fs.1) (u_in part.some_empty.0 e0) (part.empty part.some_empty.0 part.some_empty.1)))
                  | inr m ↦ absurd (star_forward fs v m)
                ]
              ]

          inline : IsInLine R (join (join e f) (star fs))
          inline v w i j = eq.join v (pair part.some_empty.0 some_fs.0) w (to_base v i) (eq.turn w (pair part.some_empty.0 some_fs.0) (to_base w j))

          each : AreBound R (join (join e f) (star fs))
          each =
              bound_join R (join e f) (star fs) (part.down_each R eq some_fs.0 o bu)
              (star_bound R fs (closed_within R (leaves_of ts) (leaves_of fs) fs fs_in (closed_left R (leaves_of ts) second (closed_right R (leaves_of ts) first b.0))) (parted_bound_left R second (parted_bound_right R first b.1)))

          -- each column of the line with a column outside it, like a full column of u
          hub : (a d : ℕ) → IsTrue (has (leaves_of (join (join e f) (star fs))) a) → IsTrue (has (leaves_of ts) d) → IsFalse (has (leaves_of (join (join e f) (star fs))) d) → R (pair a d) (pair part.some_full.0 d)
          hub a d xa td xd =
              let du : IsFalse (has (leaves u) d) = false_from_ne_true (has (leaves u) d) (λ h. both_ways (has (leaves_of (join (join e f) (star fs))) d) xd (x_u d h)) in
              let dr : IsFalse (has row d) =
              false_from_ne_true (has row d)
              (λ h. both_ways (has (leaves_of (join (join e f) (star fs))) d) xd (elim (row_cases d h) [ inl m ↦ x_u d (f_in d m) | inr m ↦ x_fs d m ])) in
              elim (x_cases a xa) [
                | inl k ↦ cu a part.some_full.0 d k (f_in part.some_full.0 part.some_full.1) td du
                | inr k ↦ c a part.some_full.0 d (full a k) (part.full part.some_full.0 part.some_full.1) td dr
              ]

          cx : IsClosed R (leaves_of ts) (leaves_of (join (join e f) (star fs)))
          cx a g d xa xg td xd = eq.join (pair a d) (pair part.some_full.0 d) (pair g d) (hub a d xa td xd) (eq.turn (pair g d) (pair part.some_full.0 d) (hub g d xg td xd))

    pub p4_parted : Rooted row (p_node ts) (under es (q_node (join (join e f) (star fs))))
    p4_parted =
        record {
          same = λ a.
              rw (under_occurs es (q_node (join (join e f) (star fs))), leaves_of-join (join e f) (star fs), leaves_of-star fs)
              (omega (arith, all_occur a, part.same a, occurs-append (leaves_of (join e f)) (leaves_of fs) a));
          up = λ R eq b. p4_up R eq b;
          down = λ R eq b c. p4_down R eq b c;
        }
