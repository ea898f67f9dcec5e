-- Q-nodes: turned, and with the trees of a partial child in its place.
use Rattle.std.proofs.Common.{◌≡◌, ◌⊎◌, ◌∙◌, ℕ, false, List, [], ◌++◌, IsTrue, refl, sym, inl, inr, arith}
use Rattle.std.proofs.lemmas.Bool.{both_ways}
use Rattle.row_model.specs.declared.graph.Pair.{Pair}
use Rattle.column_order.specs.Orders.{has, occurs}
use Rattle.row_model.specs.Graph.{pair}
use Rattle.column_order.proofs.Lists.{has_append_cases, has_append_left, has_append_right, occurs-append, has_same}
use Rattle.pq_tree.specs.Outline.{Outline, Forest, q_node, no_tree, tree_and, leaves, leaves_of}
use Rattle.tree_theory.specs.Tied.{IsForward}
use Rattle.tree_theory.proofs.Bound.{IsClosed, IsInLine, IsBound, AreBound, IsPairEq}
use Rattle.pq_tree.specs.Forests.{join, back}
use Rattle.pq_tree.proofs.Forests.{leaves_of-join, has_join_cases, has_join_left, has_join_right, back_has, back_occurs}
use Rattle.tree_theory.proofs.Lines.{forward_cases, forward_left, forward_right, forward_across, bound_join, bound_left, bound_right}
use Rattle.tree_theory.proofs.BelowRoot.{IsOutside, Treated, outside_within}
use Rattle.tree_theory.proofs.AtRoot.{Rooted}
use Rattle.tree_theory.proofs.Context.{the_bound}

pub forward_back : (ts : Forest) (v : Pair) → IsForward (back ts) v → IsForward ts (pair v.b v.a)
forward_back no_tree v h = h
forward_back (tree_and t ts) v h =
    elim (forward_cases (back ts) (tree_and t no_tree) v h) [
      | inl k ↦ inr (forward_back ts v k)
      | inr k ↦ elim k [
        | inl m ↦
            inl (elim (has_append_cases (leaves t) [] v.b m.1) [ inl n ↦ n | inr n ↦ absurd (both_ways false refl n) ], sym (back_has ts v.a) ∙ m.0)
        | inr m ↦ absurd (elim m [ inl n ↦ both_ways false refl n.1 | inr n ↦ n ])
      ]
    ]

pub forward_back' : (ts : Forest) (v : Pair) → IsForward ts v → IsForward (back ts) (pair v.b v.a)
forward_back' no_tree v h = h
forward_back' (tree_and t ts) v h =
    elim h [
      | inl k ↦
          forward_across (back ts) (tree_and t no_tree) (pair v.b v.a) (back_has ts v.b ∙ k.1) (has_append_left (leaves t) [] v.a k.0)
      | inr k ↦ forward_left (back ts) (tree_and t no_tree) (pair v.b v.a) (forward_back' ts v k)
    ]

module _ (R : Pair → Pair → Type 0) (eq : IsPairEq R) where
  pub line_back : (ts : Forest) → IsInLine R ts → IsInLine R (back ts)
  line_back ts h v w i j = eq.flip (pair v.b v.a) (pair w.b w.a) (h (pair v.b v.a) (pair w.b w.a) (forward_back ts v i) (forward_back ts w j))

  pub line_unback : (ts : Forest) → IsInLine R (back ts) → IsInLine R ts
  line_unback ts h v w i j = eq.flip (pair v.b v.a) (pair w.b w.a) (h (pair v.b v.a) (pair w.b w.a) (forward_back' ts v i) (forward_back' ts w j))

  pub bound_back : (ts : Forest) → AreBound R ts → AreBound R (back ts)
  bound_back no_tree h = tt
  bound_back (tree_and t ts) h = bound_join R (back ts) (tree_and t no_tree) (bound_back ts h.1) (h.0, tt)

  pub bound_unback : (ts : Forest) → AreBound R (back ts) → AreBound R ts
  bound_unback no_tree h = tt
  bound_unback (tree_and t ts) h = ((bound_right R (back ts) (tree_and t no_tree) h).0, bound_unback ts (bound_left R (back ts) (tree_and t no_tree) h))

  pub turned_bound : (ts : Forest) → IsBound R (q_node ts) → IsBound R (q_node (back ts))
  turned_bound ts b = (line_back ts b.0, bound_back ts b.1)

  pub unturned_bound : (ts : Forest) → IsBound R (q_node (back ts)) → IsBound R (q_node ts)
  unturned_bound ts b = (line_unback ts b.0, bound_unback ts b.1)

-- what holds of a Q-node read from the other end holds of it as it stands
pub treated_back : (row : List ℕ) (ts es fs : Forest) → Treated row (q_node (back ts)) es fs → Treated row (q_node ts) es fs
treated_back row ts es fs t =
    record {
      same = λ a. t.same a ∙ back_occurs ts a;
      empty = t.empty;
      full = t.full;
      some_empty = t.some_empty;
      some_full = t.some_full;
      up = λ R eq l b. unturned_bound R eq ts (t.up R eq l b);
      down_line = λ R eq s o b v h a ta. t.down_line R eq s (outside_within R row (leaves_of ts) (leaves_of (back ts)) s (λ d k. sym (back_has ts d) ∙ k) o) (turned_bound R eq ts b) v h a (back_has ts a ∙ ta);
      down_each = λ R eq s o b. t.down_each R eq s (outside_within R row (leaves_of ts) (leaves_of (back ts)) s (λ d k. sym (back_has ts d) ∙ k) o) (turned_bound R eq ts b);
    }

pub rooted_back : (row : List ℕ) (ts : Forest) (u : Outline) → Rooted row (q_node (back ts)) u → Rooted row (q_node ts) u
rooted_back row ts u r =
    record {
      same = λ a. r.same a ∙ back_occurs ts a;
      up = λ R eq b.
          let k : IsBound R (q_node (back ts)) × IsClosed R (leaves_of (back ts)) row = r.up R eq b in
          (unturned_bound R eq ts k.0, λ a e d i j l n. k.1 a e d i j (back_has ts d ∙ l) n);
      down = λ R eq b c. r.down R eq (turned_bound R eq ts b) (λ a e d i j l n. c a e d i j (sym (back_has ts d) ∙ l) n);
    }

-- the partial child u between xs and ys, and its trees in its place
module _ (row : List ℕ) (xs ys : Forest) (u : Outline) (e f : Forest) (part : Treated row u e f) where
  u_like : (a : ℕ) → has (leaves_of (join e f)) a ≡ has (leaves u) a
  u_like a = has_same (leaves_of (join e f)) (leaves u) a (part.same a)

  pub parts_occur : (a : ℕ) → occurs (leaves_of (join xs (join (join e f) ys))) a ≡ occurs (leaves_of (join xs (tree_and u ys))) a
  parts_occur a =
      rw (leaves_of-join xs (join (join e f) ys), leaves_of-join (join e f) ys, leaves_of-join xs (tree_and u ys))
      (omega (
        arith,
        part.same a,
        occurs-append (leaves_of xs) (leaves_of (join e f) ++ leaves_of ys) a,
        occurs-append (leaves_of (join e f)) (leaves_of ys) a,
        occurs-append (leaves_of xs) (leaves u ++ leaves_of ys) a,
        occurs-append (leaves u) (leaves_of ys) a,
      ))

  pub parts_have : (a : ℕ) → has (leaves_of (join xs (join (join e f) ys))) a ≡ has (leaves_of (join xs (tree_and u ys))) a
  parts_have a = has_same (leaves_of (join xs (join (join e f) ys))) (leaves_of (join xs (tree_and u ys))) a (parts_occur a)

  -- a forward pair of the old line is one of the new line
  pub to_parts : (v : Pair) → IsForward (join xs (tree_and u ys)) v → IsForward (join xs (join (join e f) ys)) v
  to_parts v h =
      elim (forward_cases xs (tree_and u ys) v h) [
        | inl k ↦ forward_left xs (join (join e f) ys) v k
        | inr k ↦ elim k [
          | inl m ↦ forward_across xs (join (join e f) ys) v m.0 (elim (has_append_cases (leaves u) (leaves_of ys) v.b m.1) [ inl n ↦ has_join_left (join e f) ys v.b (u_like v.b ∙ n) | inr n ↦ has_join_right (join e f) ys v.b n ])
          | inr m ↦ forward_right xs (join (join e f) ys) v (elim m [ inl n ↦ forward_across (join e f) ys v (u_like v.a ∙ n.0) n.1 | inr n ↦ forward_right (join e f) ys v n ])
        ]
      ]

  -- one of the new line is one of the partial or one of the old line
  pub from_parts : (v : Pair) → IsForward (join xs (join (join e f) ys)) v → IsForward (join e f) v ⊎ IsForward (join xs (tree_and u ys)) v
  from_parts v h =
      elim (forward_cases xs (join (join e f) ys) v h) [
        | inl k ↦ inr (forward_left xs (tree_and u ys) v k)
        | inr k ↦ elim k [
          | inl m ↦ inr (forward_across xs (tree_and u ys) v m.0 (elim (has_join_cases (join e f) ys v.b m.1) [ inl n ↦ has_append_left (leaves u) (leaves_of ys) v.b (sym (u_like v.b) ∙ n) | inr n ↦ has_append_right (leaves u) (leaves_of ys) v.b n ]))
          | inr m ↦ elim (forward_cases (join e f) ys v m) [
            | inl n ↦ inl n
            | inr n ↦ inr (forward_right xs (tree_and u ys) v (elim n [ inl w ↦ inl (sym (u_like v.a) ∙ w.0, w.1) | inr w ↦ inr w ]))
          ]
        ]
      ]

  module _ (R : Pair → Pair → Type 0) (eq : IsPairEq R) where
    pub parts_up : IsBound R (q_node (join xs (join (join e f) ys))) → IsBound R (q_node (join xs (tree_and u ys)))
    parts_up b =
        let bm : AreBound R (join (join e f) ys) = bound_right R xs (join (join e f) ys) b.1 in
        let bu : IsBound R u =
        part.up R eq
        (λ v w i j. b.0 v w (forward_right xs (join (join e f) ys) v (forward_left (join e f) ys v i)) (forward_right xs (join (join e f) ys) w (forward_left (join e f) ys w j)))
        (bound_left R (join e f) ys bm) in (
          (λ v w i j. b.0 v w (to_parts v i) (to_parts w j)),
          bound_join R xs (tree_and u ys) (bound_left R xs (join (join e f) ys) b.1) (bu, bound_right R (join e f) ys bm),
        )

    -- s is a column of the row behind u
    pub parts_down : (s : ℕ) → IsTrue (has (leaves_of ys) s) → IsTrue (has row s) → IsClosed R (leaves_of (join xs (tree_and u ys))) row →
        IsBound R (q_node (join xs (tree_and u ys))) → IsBound R (q_node (join xs (join (join e f) ys)))
    parts_down s ys_s row_s c b = (λ v w i j. eq.join v (pair part.some_empty.0 s) w (based v i) (eq.turn w (pair part.some_empty.0 s) (based w j)), each)
      where
        behind : (a : ℕ) → IsTrue (has (leaves u) a) → IsForward (join xs (tree_and u ys)) (pair a s)
        behind a h = forward_right xs (tree_and u ys) (pair a s) (inl (h, ys_s))

        o : IsOutside R row (leaves u) s
        o =
            record {
              closed = λ a d ua ud. b.0 (pair a s) (pair d s) (behind a ua) (behind d ud);
              rowed = λ d g ud rd ug rg. c g s d rg row_s (has_join_right xs (tree_and u ys) d (has_append_left (leaves u) (leaves_of ys) d ud)) rd;
            }

        e0 : IsTrue (has (leaves u) part.some_empty.0)
        e0 = sym (u_like part.some_empty.0) ∙ has_join_left e f part.some_empty.0 part.some_empty.1

        bu : IsBound R u
        bu = the_bound R u xs ys b.1

        based : (v : Pair) → IsForward (join xs (join (join e f) ys)) v → R v (pair part.some_empty.0 s)
        based v h =
            elim (from_parts v h) [
              | inl k ↦ part.down_line R eq s o bu v k part.some_empty.0 e0
              | inr k ↦ b.0 v (pair part.some_empty.0 s) k (behind part.some_empty.0 e0)
            ]

        each : AreBound R (join xs (join (join e f) ys))
        each =
            bound_join R xs (join (join e f) ys) (bound_left R xs (tree_and u ys) b.1)
            (bound_join R (join e f) ys (part.down_each R eq s o bu) (bound_right R xs (tree_and u ys) b.1).1)
