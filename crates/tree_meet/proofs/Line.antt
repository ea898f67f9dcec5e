-- Where each child of a Q-node is closed, and each two neighbouring children together are, the children stand in line.
use Rattle.std.proofs.Common.{◌≡◌, ℕ, ◌≤◌, false, List, [], ◌++◌, IsTrue, IsFalse, refl, inl, inr, arith, append-nil}
use Rattle.std.specs.List.{AllByRecursion}
use Rattle.std.proofs.lemmas.Bool.{both_ways}
use Rattle.row_model.specs.declared.graph.Pair.{Pair}
use Rattle.row_model.specs.Graph.{pair}
use Rattle.column_order.specs.Orders.{has, occurs}
use Rattle.column_order.proofs.Lists.{has_append_left, has_append_right, has_append_cases, occurs-append, apart, apart'}
use Rattle.pq_tree.specs.Outline.{Outline, Forest, no_tree, tree_and, leaves, leaves_of}
use Rattle.pq_tree.specs.Proper.{HasArities, HaveArities}
use Rattle.pq_tree.proofs.Forests.{some_leaf}
use Rattle.tree_theory.specs.Tied.{IsForward, IsClosed, IsInLine}
use Rattle.tree_theory.proofs.Bound.{AreClosed, IsPairEq}
use Rattle.tree_meet.specs.TreeRows.{pairs_from}
use Rattle.tree_meet.proofs.Groups.{IsPart}

-- no column stands in two of the trees
abbrev Once : List ℕ → Type 0
Once l = (a : ℕ) → occurs l a ≤ 1

once_right : (xs ys : List ℕ) → Once (xs ++ ys) → Once ys
once_right xs ys h a = omega (arith, h a, occurs-append xs ys a)

part_left : (xs ys l : List ℕ) → IsPart (xs ++ ys) l → IsPart xs l
part_left xs ys l h a i = h a (has_append_left xs ys a i)

part_right : (xs ys l : List ℕ) → IsPart (xs ++ ys) l → IsPart ys l
part_right xs ys l h a i = h a (has_append_right xs ys a i)

module _ (R : Pair → Pair → Type 0) (eq : IsPairEq R) (l : List ℕ) where
  -- the second columns of two pairs, by a set that is closed and has both
  second : (x : List ℕ) → IsClosed R l x → (a b d : ℕ) → IsTrue (has x a) → IsTrue (has x b) → IsTrue (has l d) → IsFalse (has x d) → R (pair d a) (pair d b)
  second x h a b d i j k n = eq.flip (pair a d) (pair b d) (h a b d i j k n)

  -- two trees stand in line
  two : (t u : Outline) → Once (leaves t ++ leaves u) → IsPart (leaves t ++ leaves u) l → IsClosed R l (leaves t) → IsClosed R l (leaves u) →
      (v w : Pair) → IsTrue (has (leaves t) v.a) → IsTrue (has (leaves u) v.b) → IsTrue (has (leaves t) w.a) → IsTrue (has (leaves u) w.b) → R v w
  two t u once sub ct cu v w va vb wa wb =
      eq.join v (pair w.a v.b) w
      (ct v.a w.a v.b va wa (part_right (leaves t) (leaves u) l sub v.b vb) (apart' (leaves t) (leaves u) v.b (once v.b) vb))
      (second (leaves u) cu v.b w.b w.a vb wb (part_left (leaves t) (leaves u) l sub w.a wa) (apart (leaves t) (leaves u) w.a (once w.a) wa))

  -- a pair that goes forward in the trees, and one that it is related to among the later trees
  record Later (v : Pair) (ts : Forest) : Type 0 where
    pub other : Pair
    pub forward : IsForward ts other
    pub related : R v other

  -- a pair whose second column stands behind the second tree
  far : (t u : Outline) (us : Forest) → Once (leaves t ++ (leaves u ++ leaves_of us)) → IsPart (leaves t ++ (leaves u ++ leaves_of us)) l →
      IsClosed R l (leaves t ++ leaves u) → (a c b : ℕ) → IsTrue (has (leaves t) a) → IsTrue (has (leaves u) c) → IsTrue (has (leaves_of us) b) →
      R (pair a b) (pair c b)
  far t u us once sub c12 a c b ha hc hb =
      c12 a c b
      (has_append_left (leaves t) (leaves u) a ha)
      (has_append_right (leaves t) (leaves u) c hc)
      (sub b (has_append_right (leaves t) (leaves u ++ leaves_of us) b (has_append_right (leaves u) (leaves_of us) b hb)))
      (apart' (leaves t ++ leaves u) (leaves_of us) b
      (omega (arith, once b, occurs-append (leaves t) (leaves u ++ leaves_of us) b, occurs-append (leaves u) (leaves_of us) b, occurs-append (leaves t ++ leaves u) (leaves_of us) b, occurs-append (leaves t) (leaves u) b))
      hb)

  -- of three trees or more, a pair that goes forward from the first is related to one that goes forward in the others
  later : (t u x : Outline) (xs : Forest) → HasArities u → HasArities x →
      Once (leaves t ++ (leaves u ++ (leaves x ++ leaves_of xs))) → IsPart (leaves t ++ (leaves u ++ (leaves x ++ leaves_of xs))) l →
      IsClosed R l (leaves t ++ leaves u) → IsClosed R l (leaves u ++ leaves x) →
      (v : Pair) → IsForward (tree_and t (tree_and u (tree_and x xs))) v → Later v (tree_and u (tree_and x xs))
  later t u x xs hu hx once sub c12 c23 v f =
      let us : Forest = tree_and x xs in
      elim f [
        | inr k ↦ record { other = v; forward = k; related = eq.same v }
        | inl k ↦ elim (has_append_cases (leaves u) (leaves_of us) v.b k.1) [
          | inr m ↦
              let c = some_leaf u hu in
              record { other = pair c.0 v.b; forward = inl (c.1, m); related = far t u us once sub c12 v.a c.0 v.b k.0 c.1 m }
          | inl m ↦
              let y = some_leaf x hx in
              let in_us : IsTrue (has (leaves_of us) y.0) = has_append_left (leaves x) (leaves_of xs) y.0 y.1 in
              let out : IsFalse (has (leaves u ++ leaves x) v.a) =
              apart (leaves t) (leaves u ++ leaves x) v.a
              (omega (arith, once v.a, occurs-append (leaves t) (leaves u ++ leaves_of us) v.a, occurs-append (leaves u) (leaves_of us) v.a, occurs-append (leaves x) (leaves_of xs) v.a, occurs-append (leaves t) (leaves u ++ leaves x) v.a, occurs-append (leaves u) (leaves x) v.a))
              k.0 in
              record {
                other = pair v.b y.0;
                forward = inl (m, in_us);
                related =
                    eq.join v (pair v.a y.0) (pair v.b y.0)
                    (second (leaves u ++ leaves x) c23 v.b y.0 v.a
                    (has_append_left (leaves u) (leaves x) v.b m)
                    (has_append_right (leaves u) (leaves x) y.0 y.1)
                    (part_left (leaves t) (leaves u ++ leaves_of us) l sub v.a k.0)
                    out)
                    (far t u us once sub c12 v.a v.b y.0 k.0 m in_us);
              }
        ]
      ]

  none : (v : Pair) → IsTrue (has [] v.b) → ⊥
  none v h = both_ways false refl h

  -- one tree more in front
  more : (t u : Outline) (us : Forest) → HasArities u → HaveArities us → Once (leaves t ++ (leaves u ++ leaves_of us)) →
      IsPart (leaves t ++ (leaves u ++ leaves_of us)) l → AreClosed R l (tree_and t (tree_and u us)) →
      AllByRecursion (IsClosed R l) (pairs_from t (tree_and u us)) → IsInLine R (tree_and u us) → IsInLine R (tree_and t (tree_and u us))
  more t u no_tree hu hs once sub ct cp line v w f g =
      let is : (z : Pair) → IsForward (tree_and t (tree_and u no_tree)) z → IsTrue (has (leaves t) z.a) × IsTrue (has (leaves u) z.b) =
      λ z h. elim h [
        | inl k ↦ elim (has_append_cases (leaves u) [] z.b k.1) [ inl m ↦ (k.0, m) | inr m ↦ absurd (none z m) ]
        | inr k ↦ elim k [ inl m ↦ absurd (none z m.1) | inr m ↦ absurd m ]
      ] in
      let e : leaves u ++ [] ≡ leaves u = append-nil (leaves u) in
      let a = is v f in
      let b = is w g in
      two t u (rw e at once) (rw e at sub) ct.0 ct.1.0 v w a.0 a.1 b.0 b.1
  more t u (tree_and x xs) hu hs once sub ct cp line v w f g =
      let a : Later v (tree_and u (tree_and x xs)) = later t u x xs hu hs.0 once sub cp.0 cp.1.0 v f in
      let b : Later w (tree_and u (tree_and x xs)) = later t u x xs hu hs.0 once sub cp.0 cp.1.0 w g in
      eq.join v a.other w a.related (eq.join a.other b.other w (line a.other b.other a.forward b.forward) (eq.turn w b.other b.related))

  pub stands_in_line : (t : Outline) (us : Forest) → HasArities t → HaveArities us → Once (leaves t ++ leaves_of us) → IsPart (leaves t ++ leaves_of us) l →
      AreClosed R l (tree_and t us) → AllByRecursion (IsClosed R l) (pairs_from t us) → IsInLine R (tree_and t us)
  stands_in_line t no_tree ht hs once sub ct cp = λ v w f g. elim f [ inl k ↦ absurd (none v k.1) | inr k ↦ absurd k ]
  stands_in_line t (tree_and u us) ht hs once sub ct cp =
      more t u us hs.0 hs.1 once sub ct cp
      (stands_in_line u us hs.0 hs.1 (once_right (leaves t) (leaves u ++ leaves_of us) once) (part_right (leaves t) (leaves u ++ leaves_of us) l sub) ct.1 cp.1)
