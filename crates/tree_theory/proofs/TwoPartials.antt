-- P6 at the pertinent root: the full and the two partial children go into one line, which Q3 then reduces.
use Rattle.std.proofs.Common.{◌≡◌, ◌⊎◌, ◌∙◌, ◌+◌, ◌≤◌, ℕ, false, List, [], ◌++◌, IsTrue, IsFalse, refl, sym, ap, inl, inr, arith}
use Rattle.std.proofs.lemmas.Bool.{both_ways, false_from_ne_true}
use Rattle.row_model.specs.declared.graph.Pair.{Pair}
use Rattle.column_order.specs.Orders.{has, occurs}
use Rattle.row_model.specs.Graph.{pair}
use Rattle.column_order.proofs.Lists.{has_append_cases, has_append_left, has_append_right, occurs-append, occurs_from_has, has_from_occurs, lacks_from_occurs, has_same}
use Rattle.pq_tree.specs.Outline.{Outline, Forest, p_node, q_node, no_tree, tree_and, leaves, leaves_of}
use Rattle.tree_theory.specs.Tied.{IsForward}
use Rattle.tree_theory.proofs.Bound.{IsClosed, AreClosed, IsBound, AreBound, IsPairEq, closed_through, line_closed}
use Rattle.pq_tree.specs.Forests.{join, back}
use Rattle.pq_tree.proofs.Forests.{leaves_of-join, has_join_cases, has_join_left, has_join_right}
use Rattle.tree_theory.specs.Templates.{star, under}
use Rattle.tree_theory.proofs.Lines.{IsParted, leaves_of-star, to_star, from_star, forward_cases, star_forward, bound_join, bound_left, bound_right, star_bound, star_closed, star_each, closed_within, parted_closed, closed_left, closed_right, parted_bound, parted_bound_left, parted_bound_right, parted_occurs, parted_left, parted_right, has_parted_cases}
use Rattle.tree_theory.proofs.BelowRoot.{AreEmpty, AreFull, Treated, middle_closed, end_closed}
use Rattle.tree_theory.proofs.AtRoot.{Rooted, set_through, under_occurs, under_up, under_down}
use Rattle.tree_theory.proofs.Context.{rooted_p}
use Rattle.tree_theory.proofs.QSteps.{Refined}
use Rattle.tree_theory.proofs.QAtRoot.{refined_rooted, q3_both}

pub rooted_under : (row : List ℕ) (es : Forest) (x y : Outline) → Rooted row x y → ((a : ℕ) → IsTrue (has row a) → IsTrue (has (leaves x) a)) → Rooted row (under es x) (under es y)
rooted_under row no_tree x y r within = r
rooted_under row (tree_and t ts) x y r within = rooted_p row x y r within no_tree (tree_and t ts)

module _ (row : List ℕ) (ts es rs fs : Forest) (u w : Outline) (e f e2 f2 : Forest) (first : IsParted ts es rs) (second : IsParted rs fs (tree_and u (tree_and w no_tree)))
    (ee : AreEmpty row es) (ff : AreFull row fs) (part : Treated row u e f) (other : Treated row w e2 f2) (once : (a : ℕ) → occurs (leaves_of ts) a ≤ 1) where
  all_occur : (a : ℕ) → occurs (leaves_of ts) a ≡ occurs (leaves_of es) a + (occurs (leaves_of fs) a + (occurs (leaves u) a + occurs (leaves w) a))
  all_occur a = omega (arith, parted_occurs first a, parted_occurs second a, occurs-append (leaves u) (leaves w ++ []) a, occurs-append (leaves w) [] a)

  fs_in : (a : ℕ) → IsTrue (has (leaves_of fs) a) → IsTrue (has (leaves_of ts) a)
  fs_in a h = parted_right first a (parted_left second a h)

  u_in : (a : ℕ) → IsTrue (has (leaves u) a) → IsTrue (has (leaves_of ts) a)
  u_in a h = has_from_occurs (leaves_of ts) a (omega (arith, all_occur a, occurs_from_has (leaves u) a h))

  w_in : (a : ℕ) → IsTrue (has (leaves w) a) → IsTrue (has (leaves_of ts) a)
  w_in a h = has_from_occurs (leaves_of ts) a (omega (arith, all_occur a, occurs_from_has (leaves w) a h))

  not_u : (a : ℕ) → IsTrue (has (leaves_of fs) a) ⊎ IsTrue (has (leaves w) a) → IsFalse (has (leaves u) a)
  not_u a h =
      elim h [
        | inl k ↦ lacks_from_occurs (leaves u) a (omega (arith, all_occur a, once a, occurs_from_has (leaves_of fs) a k))
        | inr k ↦ lacks_from_occurs (leaves u) a (omega (arith, all_occur a, once a, occurs_from_has (leaves w) a k))
      ]

  not_w : (a : ℕ) → IsTrue (has (leaves_of fs) a) ⊎ IsTrue (has (leaves u) a) → IsFalse (has (leaves w) a)
  not_w a h =
      elim h [
        | inl k ↦ lacks_from_occurs (leaves w) a (omega (arith, all_occur a, once a, occurs_from_has (leaves_of fs) a k))
        | inr k ↦ lacks_from_occurs (leaves w) a (omega (arith, all_occur a, once a, occurs_from_has (leaves u) a k))
      ]

  e0 : IsTrue (has (leaves u) part.some_empty.0)
  e0 = sym (has_same (leaves_of (join e f)) (leaves u) part.some_empty.0 (part.same part.some_empty.0)) ∙ has_join_left e f part.some_empty.0 part.some_empty.1

  f0 : IsTrue (has (leaves u) part.some_full.0)
  f0 = sym (has_same (leaves_of (join e f)) (leaves u) part.some_full.0 (part.same part.some_full.0)) ∙ has_join_right e f part.some_full.0 part.some_full.1

  e1 : IsTrue (has (leaves w) other.some_empty.0)
  e1 = sym (has_same (leaves_of (join e2 f2)) (leaves w) other.some_empty.0 (other.same other.some_empty.0)) ∙ has_join_left e2 f2 other.some_empty.0 other.some_empty.1

  f1 : IsTrue (has (leaves w) other.some_full.0)
  f1 = sym (has_same (leaves_of (join e2 f2)) (leaves w) other.some_full.0 (other.same other.some_full.0)) ∙ has_join_right e2 f2 other.some_full.0 other.some_full.1

  -- the line u, P*(F), w
  line_cases : (a : ℕ) → IsTrue (has (leaves_of (tree_and u (join (star fs) (tree_and w no_tree)))) a) → IsTrue (has (leaves u) a) ⊎ (IsTrue (has (leaves_of fs) a) ⊎ IsTrue (has (leaves w) a))
  line_cases a h =
      elim (has_append_cases (leaves u) (leaves_of (join (star fs) (tree_and w no_tree))) a h) [
        | inl k ↦ inl k
        | inr k ↦ inr (elim (has_join_cases (star fs) (tree_and w no_tree) a k) [
          | inl m ↦ inl (from_star fs a m)
          | inr m ↦ inr (elim (has_append_cases (leaves w) [] a m) [ inl n ↦ n | inr n ↦ absurd (both_ways false refl n) ])
        ])
      ]

  line_u : (a : ℕ) → IsTrue (has (leaves u) a) → IsTrue (has (leaves_of (tree_and u (join (star fs) (tree_and w no_tree)))) a)
  line_u a h = has_append_left (leaves u) (leaves_of (join (star fs) (tree_and w no_tree))) a h

  line_fs : (a : ℕ) → IsTrue (has (leaves_of fs) a) → IsTrue (has (leaves_of (tree_and u (join (star fs) (tree_and w no_tree)))) a)
  line_fs a h = has_append_right (leaves u) (leaves_of (join (star fs) (tree_and w no_tree))) a (has_join_left (star fs) (tree_and w no_tree) a (to_star fs a h))

  line_w : (a : ℕ) → IsTrue (has (leaves w) a) → IsTrue (has (leaves_of (tree_and u (join (star fs) (tree_and w no_tree)))) a)
  line_w a h = has_append_right (leaves u) (leaves_of (join (star fs) (tree_and w no_tree))) a (has_join_right (star fs) (tree_and w no_tree) a (has_append_left (leaves w) [] a h))

  ts_cases : (a : ℕ) → IsTrue (has (leaves_of ts) a) → IsTrue (has (leaves_of (tree_and u (join (star fs) (tree_and w no_tree)))) a) ⊎ IsTrue (has (leaves_of es) a)
  ts_cases a h =
      elim (has_parted_cases first a h) [
        | inl k ↦ inr k
        | inr k ↦ inl (elim (has_parted_cases second a k) [
          | inl m ↦ line_fs a m
          | inr m ↦ elim (has_append_cases (leaves u) (leaves w ++ []) a m) [
            | inl n ↦ line_u a n
            | inr n ↦ line_w a (elim (has_append_cases (leaves w) [] a n) [ inl v ↦ v | inr v ↦ absurd (both_ways false refl v) ])
          ]
        ])
      ]

  line_in : (a : ℕ) → IsTrue (has (leaves_of (tree_and u (join (star fs) (tree_and w no_tree)))) a) → IsTrue (has (leaves_of ts) a)
  line_in a h = elim (line_cases a h) [ inl k ↦ u_in a k | inr k ↦ elim k [ inl m ↦ fs_in a m | inr m ↦ w_in a m ] ]

  module _ (R : Pair → Pair → Type 0) (eq : IsPairEq R) where
    pack_up : IsBound R (under es (q_node (tree_and u (join (star fs) (tree_and w no_tree))))) → IsBound R (p_node ts)
    pack_up b =
        let x : Forest = tree_and u (join (star fs) (tree_and w no_tree)) in
        let k : IsBound R (q_node x) × AreBound R es × AreClosed R (leaves_of ts) es × IsClosed R (leaves_of ts) (leaves_of x) = under_up R (leaves_of ts) es (q_node x) ts_cases b in
        let c : AreClosed R (leaves_of x) x = line_closed R eq x k.0.0 in
        let bf : AreBound R (join (star fs) (tree_and w no_tree)) = k.0.1.1 in
        let cw : AreClosed R (leaves_of x) (tree_and w no_tree) = ((λ a d g i j m n. end_closed R eq (leaves_of x) (tree_and u no_tree) (star fs) (tree_and w no_tree) line_cases' k.0.0 a d g (tail w a i) (tail w d j) m (tail_not g n)), tt) in
        let cf : IsClosed R (leaves_of ts) (leaves_of fs) =
        set_through R (leaves_of ts) (leaves_of x) (leaves_of fs) line_fs k.3
        (rw leaves_of-star at (middle_closed R eq (leaves_of x) (tree_and u no_tree) (star fs) (tree_and w no_tree) line_cases' k.0.0)) in (
          parted_closed R (leaves_of ts) first k.2
              (parted_closed R (leaves_of ts) second
              (closed_through R (leaves_of ts) (leaves_of fs) cf fs (λ d h. h) (star_closed R fs (bound_left R (star fs) (tree_and w no_tree) bf)))
              (set_through R (leaves_of ts) (leaves_of x) (leaves u) line_u k.3 c.0, (set_through R (leaves_of ts) (leaves_of x) (leaves w) line_w k.3 cw.0, tt))),
          parted_bound R first k.1 (parted_bound R second (star_each R fs (bound_left R (star fs) (tree_and w no_tree) bf)) (k.0.1.0, (bound_right R (star fs) (tree_and w no_tree) bf))),
        )
      where
        line_cases' : (d : ℕ) → IsTrue (has (leaves_of (tree_and u (join (star fs) (tree_and w no_tree)))) d) → IsTrue (has (leaves_of (tree_and u no_tree)) d) ⊎ (IsTrue (has (leaves_of (star fs)) d) ⊎ IsTrue (has (leaves_of (tree_and w no_tree)) d))
        line_cases' d h =
            elim (line_cases d h) [
              | inl m ↦ inl (has_append_left (leaves u) [] d m)
              | inr m ↦ inr (elim m [ inl n ↦ inl (to_star fs d n) | inr n ↦ inr (has_append_left (leaves w) [] d n) ])
            ]

        tail : (t : Outline) (a : ℕ) → IsTrue (has (leaves t) a) → IsTrue (has (leaves t ++ []) a)
        tail t a h = has_append_left (leaves t) [] a h

        tail_not : (a : ℕ) → IsFalse (has (leaves w) a) → IsFalse (has (leaves w ++ []) a)
        tail_not a h =
            false_from_ne_true (has (leaves w ++ []) a)
            (λ k. elim (has_append_cases (leaves w) [] a k) [ inl m ↦ both_ways (has (leaves w) a) h m | inr m ↦ both_ways false refl m ])

    pack_down : IsBound R (p_node ts) → IsClosed R (leaves_of ts) row → IsBound R (under es (q_node (tree_and u (join (star fs) (tree_and w no_tree)))))
    pack_down b c =
        under_down R (leaves_of ts) es (q_node (tree_and u (join (star fs) (tree_and w no_tree)))) line_in (parted_left first)
        ((λ v z i j. eq.join v (pair part.some_empty.0 other.some_full.0) z (to_base v i) (eq.turn z (pair part.some_empty.0 other.some_full.0) (to_base z j))), each)
        (parted_bound_left R first b.1) (closed_left R (leaves_of ts) first b.0)
        (λ a g d i j k n. eq.join (pair a d) (pair part.some_full.0 d) (pair g d) (hub a d i k n) (eq.turn (pair g d) (pair part.some_full.0 d) (hub g d j k n)))
      where
        cs : AreClosed R (leaves_of ts) (tree_and u (tree_and w no_tree))
        cs = closed_right R (leaves_of ts) second (closed_right R (leaves_of ts) first b.0)

        cu : IsClosed R (leaves_of ts) (leaves u)
        cu = cs.0

        cw : IsClosed R (leaves_of ts) (leaves w)
        cw = cs.1.0

        bs : AreBound R (tree_and u (tree_and w no_tree))
        bs = parted_bound_right R second (parted_bound_right R first b.1)

        each : AreBound R (tree_and u (join (star fs) (tree_and w no_tree)))
        each = (
          bs.0,
          bound_join R (star fs) (tree_and w no_tree)
              (star_bound R fs (closed_within R (leaves_of ts) (leaves_of fs) fs fs_in (closed_left R (leaves_of ts) second (closed_right R (leaves_of ts) first b.0))) (parted_bound_left R second (parted_bound_right R first b.1)))
              bs.1,
        )

        -- a column of u with one of w
        u_w : (x y : ℕ) → IsTrue (has (leaves u) x) → IsTrue (has (leaves w) y) → R (pair x y) (pair part.some_empty.0 other.some_full.0)
        u_w x y xu yw =
            eq.join (pair x y) (pair part.some_empty.0 y) (pair part.some_empty.0 other.some_full.0)
            (cu x part.some_empty.0 y xu e0 (w_in y yw) (not_u y (inr yw)))
            (eq.flip (pair y part.some_empty.0) (pair other.some_full.0 part.some_empty.0) (cw y other.some_full.0 part.some_empty.0 yw f1 (u_in part.some_empty.0 e0) (not_w part.some_empty.0 (inr e0))))

        to_base : (v : Pair) → IsForward (tree_and u (join (star fs) (tree_and w no_tree))) v → R v (pair part.some_empty.0 other.some_full.0)
        to_base v h =
            elim h [
              | inl k ↦ elim (has_join_cases (star fs) (tree_and w no_tree) v.b k.1) [
                | inl m ↦
                    let z : IsTrue (has (leaves_of fs) v.b) = from_star fs v.b m in
                    eq.join v (pair part.some_empty.0 v.b) (pair part.some_empty.0 other.some_full.0)
                    (cu v.a part.some_empty.0 v.b k.0 e0 (fs_in v.b z) (not_u v.b (inl z)))
                    (eq.flip (pair v.b part.some_empty.0) (pair other.some_full.0 part.some_empty.0)
                    (c v.b other.some_full.0 part.some_empty.0 (ff v.b z) (other.full other.some_full.0 other.some_full.1) (u_in part.some_empty.0 e0) (part.empty part.some_empty.0 part.some_empty.1)))
                | inr m ↦ u_w v.a v.b k.0 (elim (has_append_cases (leaves w) [] v.b m) [ inl n ↦ n | inr n ↦ absurd (both_ways false refl n) ])
              ]
              | inr k ↦ elim (forward_cases (star fs) (tree_and w no_tree) v k) [
                | inl m ↦ absurd (star_forward fs v m)
                | inr m ↦ elim m [
                  | inl n ↦
                      let z : IsTrue (has (leaves_of fs) v.a) = from_star fs v.a n.0 in
                      let y : IsTrue (has (leaves w) v.b) = elim (has_append_cases (leaves w) [] v.b n.1) [ inl g ↦ g | inr g ↦ absurd (both_ways false refl g) ] in
                      eq.join v (pair v.a other.some_empty.0) (pair part.some_empty.0 other.some_full.0)
                      (eq.flip (pair v.b v.a) (pair other.some_empty.0 v.a) (cw v.b other.some_empty.0 v.a y e1 (fs_in v.a z) (not_w v.a (inl z))))
                      (eq.join (pair v.a other.some_empty.0) (pair part.some_full.0 other.some_empty.0) (pair part.some_empty.0 other.some_full.0)
                      (c v.a part.some_full.0 other.some_empty.0 (ff v.a z) (part.full part.some_full.0 part.some_full.1) (w_in other.some_empty.0 e1) (other.empty other.some_empty.0 other.some_empty.1))
                      (u_w part.some_full.0 other.some_empty.0 f0 e1))
                  | inr n ↦ absurd (elim n [ inl g ↦ both_ways false refl g.1 | inr g ↦ g ])
                ]
              ]
            ]

        hub : (a d : ℕ) → IsTrue (has (leaves_of (tree_and u (join (star fs) (tree_and w no_tree)))) a) → IsTrue (has (leaves_of ts) d) → IsFalse (has (leaves_of (tree_and u (join (star fs) (tree_and w no_tree)))) d) → R (pair a d) (pair part.some_full.0 d)
        hub a d xa td xd =
            let du : IsFalse (has (leaves u) d) = false_from_ne_true (has (leaves u) d) (λ h. both_ways (has (leaves_of (tree_and u (join (star fs) (tree_and w no_tree)))) d) xd (line_u d h)) in
            let dw : IsFalse (has (leaves w) d) = false_from_ne_true (has (leaves w) d) (λ h. both_ways (has (leaves_of (tree_and u (join (star fs) (tree_and w no_tree)))) d) xd (line_w d h)) in
            let dr : IsFalse (has row d) = elim (ts_cases d td) [ inl m ↦ absurd (both_ways (has (leaves_of (tree_and u (join (star fs) (tree_and w no_tree)))) d) xd m) | inr m ↦ ee d m ] in
            let fr : IsTrue (has row part.some_full.0) = part.full part.some_full.0 part.some_full.1 in
            elim (line_cases a xa) [
              | inl k ↦ cu a part.some_full.0 d k f0 td du
              | inr k ↦ elim k [
                | inl m ↦ c a part.some_full.0 d (ff a m) fr td dr
                | inr m ↦
                    eq.join (pair a d) (pair other.some_full.0 d) (pair part.some_full.0 d) (cw a other.some_full.0 d m f1 td dw)
                    (c other.some_full.0 part.some_full.0 d (other.full other.some_full.0 other.some_full.1) fr td dr)
              ]
            ]

  pack : Refined row (p_node ts) (under es (q_node (tree_and u (join (star fs) (tree_and w no_tree)))))
  pack =
      record {
        same = λ a.
            rw (under_occurs es (q_node (tree_and u (join (star fs) (tree_and w no_tree)))))
            (omega (
              arith,
              all_occur a,
              occurs-append (leaves u) (leaves_of (join (star fs) (tree_and w no_tree))) a,
              ap (λ l. occurs l a) (leaves_of-join (star fs) (tree_and w no_tree)),
              occurs-append (leaves_of (star fs)) (leaves w ++ []) a,
              ap (λ l. occurs l a) (leaves_of-star fs),
              occurs-append (leaves w) [] a,
            ));
        up = λ R eq b. pack_up R eq b;
        down = λ R eq b c. pack_down R eq b c;
      }

  pub p6_parted : ((a : ℕ) → IsTrue (has row a) → IsTrue (has (leaves_of ts) a)) →
      Rooted row (p_node ts) (under es (q_node (join e (join (join f (join (star fs) (back f2))) (join (back e2) no_tree)))))
  p6_parted within =
      let inside : (a : ℕ) → IsTrue (has row a) → IsTrue (has (leaves_of (tree_and u (join (star fs) (tree_and w no_tree)))) a) =
      λ a h. elim (ts_cases a (within a h)) [ inl k ↦ k | inr k ↦ absurd (both_ways (has row a) (ee a k) h) ] in
      refined_rooted row (p_node ts) (under es (q_node (tree_and u (join (star fs) (tree_and w no_tree))))) (under es (q_node (join e (join (join f (join (star fs) (back f2))) (join (back e2) no_tree))))) pack
      (rooted_under row es (q_node (tree_and u (join (star fs) (tree_and w no_tree)))) (q_node (join e (join (join f (join (star fs) (back f2))) (join (back e2) no_tree))))
      (q3_both row no_tree (star fs) no_tree u w e f e2 f2 part other (λ a h. absurd (both_ways false refl h)) (λ a h. ff a (from_star fs a h)) (λ a h. absurd (both_ways false refl h)) inside)
      inside)
