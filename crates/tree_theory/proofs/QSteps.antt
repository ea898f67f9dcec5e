-- Q2 below the pertinent root, and the steps of Q3.
use Rattle.std.proofs.Common.{◌≡◌, ◌⊎◌, ◌∙◌, ℕ, List, IsTrue, IsFalse, refl, sym, ap, ap₂, subst, inl, inr}
use Rattle.std.proofs.lemmas.Bool.{both_ways, false_from_ne_true}
use Rattle.row_model.specs.declared.graph.Pair.{Pair}
use Rattle.column_order.specs.Orders.{has, occurs}
use Rattle.row_model.specs.Graph.{pair}
use Rattle.column_order.proofs.Lists.{has_append_left, has_same}
use Rattle.pq_tree.specs.Outline.{Outline, Forest, q_node, no_tree, tree_and, leaves, leaves_of}
use Rattle.tree_theory.specs.Tied.{IsForward}
use Rattle.tree_theory.proofs.Bound.{IsClosed, IsBound, AreBound, IsPairEq}
use Rattle.pq_tree.specs.Forests.{join, back}
use Rattle.pq_tree.proofs.Forests.{join_assoc, has_join_cases, has_join_left, has_join_right, back_occurs, back_has, back-join, back-back}
use Rattle.tree_theory.proofs.Lines.{forward_across, bound_join, bound_left, bound_right}
use Rattle.tree_theory.proofs.BelowRoot.{IsOutside, AreEmpty, AreFull, Treated, towards, middle_closed, outside_within}
use Rattle.tree_theory.proofs.AtRoot.{Rooted}
use Rattle.tree_theory.proofs.Context.{the_bound}
use Rattle.tree_theory.proofs.QLines.{parts_occur, from_parts, parts_up, parts_down, turned_bound, unturned_bound}

-- Q2 below the pertinent root without a partial child: [E F]
module _ (row : List ℕ) (es fs : Forest) (empty : AreEmpty row es) (full : AreFull row fs)
    (some_e : (a : ℕ) × IsTrue (has (leaves_of es) a)) (some_f : (a : ℕ) × IsTrue (has (leaves_of fs) a)) where
  pub q2_none : Treated row (q_node (join es fs)) es fs
  q2_none =
      record {
        same = λ a. refl;
        empty = empty;
        full = full;
        some_empty = some_e;
        some_full = some_f;
        up = λ R eq l b. (l, b);
        down_line = λ R eq s o b v h a ta.
            eq.join v (pair some_e.0 some_f.0) (pair a s) (b.0 v (pair some_e.0 some_f.0) h (forward_across es fs (pair some_e.0 some_f.0) some_e.1 some_f.1))
            (towards R eq row (leaves_of (join es fs)) s o some_e.0 some_f.0 a (has_join_left es fs some_e.0 some_e.1) (empty some_e.0 some_e.1) (has_join_right es fs some_f.0 some_f.1) (full some_f.0 some_f.1) ta);
        down_each = λ R eq s o b. b.1;
      }

-- Q2 below the pertinent root with the partial child u: [E e f F]. The pair z goes from an empty column to a full one.
module _ (row : List ℕ) (es fs : Forest) (u : Outline) (e f : Forest) (part : Treated row u e f) (empty : AreEmpty row es) (full : AreFull row fs)
    (z : Pair) (forward : IsForward (join es (tree_and u fs)) z) (from_empty : IsFalse (has row z.a)) (to_full : IsTrue (has row z.b))
    (z_a : IsTrue (has (leaves_of (join es (tree_and u fs))) z.a)) (z_b : IsTrue (has (leaves_of (join es (tree_and u fs))) z.b)) where
  q2_group : join (join es e) (join f fs) ≡ join es (join (join e f) fs)
  q2_group = join_assoc es e (join f fs) ∙ ap (join es) (sym (join_assoc e f fs))

  u_like : (a : ℕ) → has (leaves_of (join e f)) a ≡ has (leaves u) a
  u_like a = has_same (leaves_of (join e f)) (leaves u) a (part.same a)

  u_in : (a : ℕ) → IsTrue (has (leaves u) a) → IsTrue (has (leaves_of (join es (tree_and u fs))) a)
  u_in a h = has_join_right es (tree_and u fs) a (has_append_left (leaves u) (leaves_of fs) a h)

  q2_line : (R : Pair → Pair → Type 0) → IsPairEq R → (s : ℕ) → IsOutside R row (leaves_of (join es (tree_and u fs))) s → IsBound R (q_node (join es (tree_and u fs))) →
      (v : Pair) → IsForward (join es (join (join e f) fs)) v → (a : ℕ) → IsTrue (has (leaves_of (join es (tree_and u fs))) a) → R v (pair a s)
  q2_line R eq s o b v h a ta =
      elim (from_parts row es fs u e f part v h) [
        | inl k ↦
            let f0 : IsTrue (has (leaves u) part.some_full.0) = sym (u_like part.some_full.0) ∙ has_join_right e f part.some_full.0 part.some_full.1 in
            eq.join v (pair part.some_full.0 s) (pair a s)
            (part.down_line R eq s (outside_within R row (leaves_of (join es (tree_and u fs))) (leaves u) s u_in o) (the_bound R u es fs b.1) v k part.some_full.0 f0)
            (o.closed part.some_full.0 a (u_in part.some_full.0 f0) ta)
        | inr k ↦
            eq.join v z (pair a s) (b.0 v z k forward)
            (towards R eq row (leaves_of (join es (tree_and u fs))) s o z.a z.b a z_a from_empty z_b to_full ta)
      ]

  q2_each : (R : Pair → Pair → Type 0) → IsPairEq R → (s : ℕ) → IsOutside R row (leaves_of (join es (tree_and u fs))) s → IsBound R (q_node (join es (tree_and u fs))) →
      AreBound R (join es (join (join e f) fs))
  q2_each R eq s o b =
      bound_join R es (join (join e f) fs) (bound_left R es (tree_and u fs) b.1)
      (bound_join R (join e f) fs (part.down_each R eq s (outside_within R row (leaves_of (join es (tree_and u fs))) (leaves u) s u_in o) (the_bound R u es fs b.1)) (bound_right R es (tree_and u fs) b.1).1)

  pub q2_one : Treated row (q_node (join es (tree_and u fs))) (join es e) (join f fs)
  q2_one =
      record {
        same = λ a. ap (λ ws. occurs (leaves_of ws) a) q2_group ∙ parts_occur row es fs u e f part a;
        empty = λ a h. elim (has_join_cases es e a h) [ inl k ↦ empty a k | inr k ↦ part.empty a k ];
        full = λ a h. elim (has_join_cases f fs a h) [ inl k ↦ part.full a k | inr k ↦ full a k ];
        some_empty = (part.some_empty.0, has_join_right es e part.some_empty.0 part.some_empty.1);
        some_full = (part.some_full.0, has_join_left f fs part.some_full.0 part.some_full.1);
        up = λ R eq l b. parts_up row es fs u e f part R eq (subst (λ ws. IsBound R (q_node ws)) q2_group (l, b));
        down_line = λ R eq s o b v h a ta. q2_line R eq s o b v (subst (λ ws. IsForward ws v) q2_group h) a ta;
        down_each = λ R eq s o b. subst (AreBound R) (sym q2_group) (q2_each R eq s o b);
      }

-- At the pertinent root a line is changed in steps, and at last the row is the run between empty children.
pub record Refined (row : List ℕ) (t u : Outline) : Type 1 where
  pub same : (a : ℕ) → occurs (leaves u) a ≡ occurs (leaves t) a
  pub up : (R : Pair → Pair → Type 0) → IsPairEq R → IsBound R u → IsBound R t
  pub down : (R : Pair → Pair → Type 0) → IsPairEq R → IsBound R t → IsClosed R (leaves t) row → IsBound R u

pub refined-refl : (row : List ℕ) (t : Outline) → Refined row t t
refined-refl row t = record { same = λ a. refl; up = λ R eq b. b; down = λ R eq b c. b }

scoped : (R : Pair → Pair → Type 0) (row : List ℕ) (t u : Outline) → ((a : ℕ) → occurs (leaves u) a ≡ occurs (leaves t) a) → IsClosed R (leaves t) row → IsClosed R (leaves u) row
scoped R row t u e h a b d i j k n = h a b d i j (sym (has_same (leaves u) (leaves t) d (e d)) ∙ k) n

pub refined-trans : (row : List ℕ) (t u w : Outline) → Refined row t u → Refined row u w → Refined row t w
refined-trans row t u w g h =
    record {
      same = λ a. h.same a ∙ g.same a;
      up = λ R eq b. g.up R eq (h.up R eq b);
      down = λ R eq b c. h.down R eq (g.down R eq b c) (scoped R row t u g.same c);
    }

pub rooted_from : (row : List ℕ) (t u : Outline) → Refined row t u → ((R : Pair → Pair → Type 0) → IsPairEq R → IsBound R u → IsClosed R (leaves u) row) → Rooted row t u
rooted_from row t u g c =
    record {
      same = g.same;
      up = λ R eq b. (g.up R eq b, scoped R row u t (λ a. sym (g.same a)) (c R eq b));
      down = g.down;
    }

-- a partial child with a column of the row behind it
pub refined_right : (row : List ℕ) (xs ys : Forest) (u : Outline) (e f : Forest) → Treated row u e f → (s : ℕ) → IsTrue (has (leaves_of ys) s) → IsTrue (has row s) →
    Refined row (q_node (join xs (tree_and u ys))) (q_node (join xs (join (join e f) ys)))
refined_right row xs ys u e f part s sy sr =
    record {
      same = parts_occur row xs ys u e f part;
      up = λ R eq b. parts_up row xs ys u e f part R eq b;
      down = λ R eq b c. parts_down row xs ys u e f part R eq s sy sr c b;
    }

pub refined_back : (row : List ℕ) (ts : Forest) → Refined row (q_node ts) (q_node (back ts))
refined_back row ts = record { same = back_occurs ts; up = λ R eq b. unturned_bound R eq ts b; down = λ R eq b c. turned_bound R eq ts b }

pub join_end : (xs : Forest) → join xs no_tree ≡ xs
join_end no_tree = refl
join_end (tree_and t ts) = ap (tree_and t) (join_end ts)

-- a partial child with a column of the row before it: its trees come turned
pub refined_left : (row : List ℕ) (xs ys : Forest) (u : Outline) (e f : Forest) → Treated row u e f → (s : ℕ) → IsTrue (has (leaves_of xs) s) → IsTrue (has row s) →
    Refined row (q_node (join xs (tree_and u ys))) (q_node (join xs (join (back (join e f)) ys)))
refined_left row xs ys u e f part s sx sr =
    let there : back (join xs (tree_and u ys)) ≡ join (back ys) (tree_and u (back xs)) =
    back-join xs (tree_and u ys) ∙ join_assoc (back ys) (tree_and u no_tree) (back xs) in
    let here : back (join (back ys) (join (join e f) (back xs))) ≡ join xs (join (back (join e f)) ys) =
    back-join (back ys) (join (join e f) (back xs)) ∙
    ap₂ (λ v w. join v w) (back-join (join e f) (back xs)) (back-back ys) ∙
    ap (λ v. join (join v (back (join e f))) ys) (back-back xs) ∙
    join_assoc xs (back (join e f)) ys in
    subst (λ w. Refined row (q_node (join xs (tree_and u ys))) (q_node w)) here
    (refined-trans row (q_node (join xs (tree_and u ys))) (q_node (join (back ys) (join (join e f) (back xs)))) (q_node (back (join (back ys) (join (join e f) (back xs)))))
    (refined-trans row (q_node (join xs (tree_and u ys))) (q_node (join (back ys) (tree_and u (back xs)))) (q_node (join (back ys) (join (join e f) (back xs))))
    (subst (λ w. Refined row (q_node (join xs (tree_and u ys))) (q_node w)) there (refined_back row (join xs (tree_and u ys))))
    (refined_right row (back ys) (back xs) u e f part s (back_has xs s ∙ sx) sr))
    (refined_back row (join (back ys) (join (join e f) (back xs)))))

-- the row is a run of the line
pub run_closed : (row : List ℕ) (es fs gs : Forest) → AreEmpty row es → AreFull row fs → AreEmpty row gs →
    ((a : ℕ) → IsTrue (has row a) → IsTrue (has (leaves_of (join es (join fs gs))) a)) →
    (R : Pair → Pair → Type 0) → IsPairEq R → IsBound R (q_node (join es (join fs gs))) → IsClosed R (leaves_of (join es (join fs gs))) row
run_closed row es fs gs ee ff gg within R eq b x y d rx ry ld rd =
    middle_closed R eq (leaves_of (join es (join fs gs))) es fs gs cases b.0 x y d (in_run x rx) (in_run y ry) ld
    (false_from_ne_true (has (leaves_of fs) d) (λ h. both_ways (has row d) rd (ff d h)))
  where
    cases : (a : ℕ) → IsTrue (has (leaves_of (join es (join fs gs))) a) → IsTrue (has (leaves_of es) a) ⊎ (IsTrue (has (leaves_of fs) a) ⊎ IsTrue (has (leaves_of gs) a))
    cases a h = elim (has_join_cases es (join fs gs) a h) [ inl k ↦ inl k | inr k ↦ inr (has_join_cases fs gs a k) ]

    in_run : (a : ℕ) → IsTrue (has row a) → IsTrue (has (leaves_of fs) a)
    in_run a r =
        elim (cases a (within a r)) [
          | inl k ↦ absurd (both_ways (has row a) (ee a k) r)
          | inr k ↦ elim k [ inl m ↦ m | inr m ↦ absurd (both_ways (has row a) (gg a m) r) ]
        ]
