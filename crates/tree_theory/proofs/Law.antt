-- The frontiers of a tied tree are the valid orders of the rows.
use Rattle.std.proofs.Common.{◌≡◌, ◌≢◌, ◌⊎◌, ◌∙◌, ℕ, ◌<◌, ◌≤◌, Bool, true, false, ltb, List, [], ◌∷◌, ◌++◌, reverse, IsTrue, IsFalse, IsPermutation, refl, sym, inl, inr, arith, append-nil, lt_irrefl}
use Rattle.std.proofs.lemmas.Bool.{both_ways, cases_Bool, cases_lt, lt-ltb, ltb-true, false_from_ne_true}
use Rattle.std.proofs.lemmas.List.{reverse-append}
use Rattle.std.proofs.lemmas.List.Sorted.{IsPermutation-refl, IsPermutation-cons, IsPermutation-trans, IsPermutation-reverse, All-permutation}
use Rattle.std.proofs.lemmas.List.Elements.{All-from_recursion, recursion_from_All}
use Rattle.std.specs.List.{concat}
use Rattle.row_model.specs.declared.graph.Pair.{Pair}
use Rattle.column_order.specs.Orders.{has, occurs}
use Rattle.row_model.specs.Graph.{pair}
use Rattle.column_order.proofs.Lists.{has_head, has_append_left, has_append_right, occurs-append, apart}
use Rattle.pq_tree.specs.Outline.{Outline, Forest, leaf, p_node, q_node, no_tree, tree_and, leaves, leaves_of, IsFrontier, AreFrontiers}
use Rattle.tree_theory.specs.Tied.{IsForward}
use Rattle.tree_theory.proofs.Bound.{IsClosed, AreClosed, IsInLine, IsBound, AreBound}
use Rattle.tree_theory.proofs.Frontiers.{frontier_has, frontiers_have, concat-append, has_same, occurs-permutation}
use Rattle.tree_theory.proofs.Sorted.{IsBelow, Rises, rises-append, IsBeside, AreBeside, Inserted, insert_list}

-- each list rises
abbrev pub EachRises : (ℕ → ℕ) → List (List ℕ) → Type 0
EachRises rank [] = Unit {0}
EachRises rank (f ∷ fs) = Rises rank f × EachRises rank fs

module _ (R : Pair → Pair → Type 0) (rank : ℕ → ℕ)
    (one : (a b : ℕ) → rank a ≡ rank b → a ≡ b)
    (keeps : (v w : Pair) → R v w → ltb (rank v.a) (rank v.b) ≡ ltb (rank w.a) (rank w.b)) where
  -- related pairs stand alike
  alike : (a b c d : ℕ) → R (pair a b) (pair c d) → rank a < rank b → rank c < rank d
  alike a b c d r l = ltb-true (rank c) (rank d) (sym (keeps (pair a b) (pair c d) r) ∙ lt-ltb (rank a) (rank b) l)

  alike' : (a b c d : ℕ) → R (pair a b) (pair c d) → rank c < rank d → rank a < rank b
  alike' a b c d r l = ltb-true (rank a) (rank b) (keeps (pair a b) (pair c d) r ∙ lt-ltb (rank c) (rank d) l)

  turned : (a b : ℕ) → a ≢ b → (rank a < rank b → ⊥) → rank b < rank a
  turned a b n h = elim (cases_lt (rank a) (rank b)) [ inl l ↦ absurd (h l) | inr l ↦ let m : rank a ≢ rank b = λ e. n (one a b e) in omega arith ]

  -- two closed lists without a common column: one is wholly below the other
  beside : (l xs ys : List ℕ) →
      ((d : ℕ) → IsTrue (has xs d) → IsTrue (has l d)) → ((d : ℕ) → IsTrue (has ys d) → IsTrue (has l d)) →
      ((d : ℕ) → IsTrue (has xs d) → IsFalse (has ys d)) → ((d : ℕ) → IsTrue (has ys d) → IsFalse (has xs d)) →
      IsClosed R l xs → IsClosed R l ys → IsBelow rank xs ys ⊎ IsBelow rank ys xs
  beside l [] ys ix iy nx ny cx cy = inl (λ x y h k. absurd (both_ways false refl h))
  beside l (z ∷ zs) [] ix iy nx ny cx cy = inl (λ x y h k. absurd (both_ways false refl k))
  beside l (z ∷ zs) (w ∷ ws) ix iy nx ny cx cy =
      let hz : IsTrue (has (z ∷ zs) z) = has_head z zs in
      let hw : IsTrue (has (w ∷ ws) w) = has_head w ws in
      let apart : (x y : ℕ) → IsTrue (has (z ∷ zs) x) → IsTrue (has (w ∷ ws) y) → x ≢ y =
      λ x y hx hy e. both_ways (has (w ∷ ws) y) (rw e at (nx x hx)) hy in
      elim (cases_lt (rank z) (rank w)) [
        | inl low ↦ inl (λ x y hx hy.
            turned y x (λ e. apart x y hx hy (sym e))
            (λ bad. let up : rank x < rank w = alike z w x w (cx z x w hz hx (iy w hw) (ny w hw)) low in
            let down : rank w < rank x = alike y x w x (cy y w x hy hw (ix x hx) (nx x hx)) bad in omega arith))
        | inr high ↦
            let low : rank w < rank z = turned z w (apart z w hz hw) (λ bad. lt_irrefl (rank z) (omega arith)) in
            inr (λ y x hy hx.
            turned x y (apart x y hx hy)
            (λ bad. let down : rank y < rank z = alike w z y z (cy w y z hw hy (ix z hz) (nx z hz)) low in
            let up : rank z < rank y = alike x y z y (cx x z y hx hz (iy y hy) (ny y hy)) bad in omega arith))
      ]

  closed_same : (l xs ys : List ℕ) → ((a : ℕ) → has xs a ≡ has ys a) → IsClosed R l ys → IsClosed R l xs
  closed_same l xs ys e h a b d xa xb ld xd = h a b d (sym (e a) ∙ xa) (sym (e b) ∙ xb) ld (sym (e d) ∙ xd)

  -- a list that is closed and has no column of the trees stands beside each of their frontiers
  all_beside : (l f : List ℕ) (ts : Forest) (gs : List (List ℕ)) → AreFrontiers ts gs → AreClosed R l ts → IsClosed R l f →
      ((d : ℕ) → IsTrue (has f d) → IsTrue (has l d)) → ((d : ℕ) → IsTrue (has (leaves_of ts) d) → IsTrue (has l d)) →
      ((d : ℕ) → IsTrue (has f d) → IsFalse (has (leaves_of ts) d)) → AreBeside rank f gs
  all_beside l f no_tree [] fr ct cf inf int out = tt
  all_beside l f no_tree (g ∷ gs) fr ct cf inf int out = absurd fr
  all_beside l f (tree_and t ts) [] fr ct cf inf int out = absurd fr
  all_beside l f (tree_and t ts) (g ∷ gs) fr ct cf inf int out =
      let e : (a : ℕ) → has g a ≡ has (leaves t) a = λ a. frontier_has t g a fr.0 in
      let no_t : (d : ℕ) → IsTrue (has f d) → IsFalse (has (leaves t) d) =
      λ d h. false_from_ne_true (has (leaves t) d) (λ k. both_ways (has (leaves t ++ leaves_of ts) d) (out d h) (has_append_left (leaves t) (leaves_of ts) d k)) in
      let no_ts : (d : ℕ) → IsTrue (has f d) → IsFalse (has (leaves_of ts) d) =
      λ d h. false_from_ne_true (has (leaves_of ts) d) (λ k. both_ways (has (leaves t ++ leaves_of ts) d) (out d h) (has_append_right (leaves t) (leaves_of ts) d k)) in (
        beside l f g inf
            (λ d h. int d (has_append_left (leaves t) (leaves_of ts) d (sym (e d) ∙ h)))
            (λ d h. e d ∙ no_t d h)
            (λ d h. false_from_ne_true (has f d) (λ k. both_ways (has (leaves t) d) (no_t d k) (sym (e d) ∙ h)))
            cf
            (closed_same l g (leaves t) e ct.0),
        all_beside l f ts gs fr.1 ct.1 cf inf (λ d h. int d (has_append_right (leaves t) (leaves_of ts) d h)) no_ts,
      )

  -- the frontiers of the children of P, put in order
  pub record Ordered (fs : List (List ℕ)) : Type 0 where
    pub all : List (List ℕ)
    pub moved : IsPermutation fs all
    pub rises : Rises rank (concat all)

  in_order : (l : List ℕ) (ts : Forest) (fs : List (List ℕ)) → AreFrontiers ts fs → EachRises rank fs → AreClosed R l ts →
      ((d : ℕ) → IsTrue (has (leaves_of ts) d) → IsTrue (has l d)) → ((d : ℕ) → occurs (leaves_of ts) d ≤ 1) → Ordered fs
  in_order l no_tree [] fr rs ct int once = record { all = []; moved = IsPermutation-refl []; rises = tt }
  in_order l no_tree (f ∷ fs) fr rs ct int once = absurd fr
  in_order l (tree_and t ts) [] fr rs ct int once = absurd fr
  in_order l (tree_and t ts) (f ∷ fs) fr rs ct int once =
      let o : Ordered fs =
      in_order l ts fs fr.1 rs.1 ct.1 (λ d h. int d (has_append_right (leaves t) (leaves_of ts) d h))
      (λ d. let h : occurs (leaves t ++ leaves_of ts) d ≤ 1 = once d in omega (arith, occurs-append (leaves t) (leaves_of ts) d)) in
      let e : (a : ℕ) → has f a ≡ has (leaves t) a = λ a. frontier_has t f a fr.0 in
      let b : AreBeside rank f fs =
      all_beside l f ts fs fr.1 ct.1 (closed_same l f (leaves t) e ct.0)
      (λ d h. int d (has_append_left (leaves t) (leaves_of ts) d (sym (e d) ∙ h)))
      (λ d h. int d (has_append_right (leaves t) (leaves_of ts) d h))
      (λ d h. apart (leaves t) (leaves_of ts) d (once d) (sym (e d) ∙ h)) in
      let i : Inserted rank f o.all = insert_list rank f o.all rs.0 o.rises (recursion_from_All (IsBeside rank f) o.all (All-permutation (IsBeside rank f) fs o.all o.moved (All-from_recursion (IsBeside rank f) fs b))) in
      record {
        all = i.all;
        moved = IsPermutation-trans (f ∷ fs) (f ∷ o.all) i.all (IsPermutation-cons f fs o.all o.moved) i.moved;
        rises = i.rises;
      }

  -- all forward pairs stand alike
  pub record Way (ts : Forest) : Type 0 where
    pub up : Bool
    pub is : (v : Pair) → IsForward ts v → ltb (rank v.a) (rank v.b) ≡ up

  forward_later : (ts : Forest) (v : Pair) → IsForward ts v → IsTrue (has (leaves_of ts) v.b)
  forward_later no_tree v h = absurd h
  forward_later (tree_and t ts) v h =
      elim h [
        | inl k ↦ has_append_right (leaves t) (leaves_of ts) v.b k.1
        | inr k ↦ has_append_right (leaves t) (leaves_of ts) v.b (forward_later ts v k)
      ]

  way : (ts : Forest) → IsInLine R ts → Way ts
  way no_tree h = record { up = true; is = λ v f. absurd f }
  way (tree_and t ts) h = pick (way ts (λ v w f g. h v w (inr f) (inr g))) (leaves t) (leaves_of ts) refl refl
    where
      pick : Way ts → (xs ys : List ℕ) → leaves t ≡ xs → leaves_of ts ≡ ys → Way (tree_and t ts)
      pick w [] ys e d =
          record {
            up = w.up;
            is = λ v f. elim f [ inl k ↦ absurd (both_ways false refl (rw e at k.0)) | inr k ↦ w.is v k ];
          }
      pick w (x ∷ xs) [] e d =
          record {
            up = true;
            is =
                λ v f. absurd
                (elim f [
                  | inl k ↦ both_ways false refl (rw d at k.1)
                  | inr k ↦ both_ways false refl (rw d at (forward_later ts v k))
                ]);
          }
      pick w (x ∷ xs) (y ∷ ys) e d =
          record {
            up = ltb (rank x) (rank y);
            is = λ v f. keeps v (pair x y) (h v (pair x y) f (inl (rw e (has_head x xs), rw d (has_head y ys))));
          }

  join_up : (ts : Forest) (fs : List (List ℕ)) → AreFrontiers ts fs → EachRises rank fs →
      ((v : Pair) → IsForward ts v → rank v.a < rank v.b) → Rises rank (concat fs)
  join_up no_tree [] fr rs h = tt
  join_up no_tree (f ∷ fs) fr rs h = absurd fr
  join_up (tree_and t ts) [] fr rs h = absurd fr
  join_up (tree_and t ts) (f ∷ fs) fr rs h =
      rises-append rank f (concat fs) rs.0
      (join_up ts fs fr.1 rs.1 (λ v k. h v (inr k)))
      (λ x y hx hy. h (pair x y) (inl (sym (frontier_has t f x fr.0) ∙ hx, sym (frontiers_have ts fs y fr.1) ∙ hy)))

  join_down : (ts : Forest) (fs : List (List ℕ)) → AreFrontiers ts fs → EachRises rank fs →
      ((v : Pair) → IsForward ts v → rank v.b < rank v.a) → Rises rank (concat (reverse fs))
  join_down no_tree [] fr rs h = tt
  join_down no_tree (f ∷ fs) fr rs h = absurd fr
  join_down (tree_and t ts) [] fr rs h = absurd fr
  join_down (tree_and t ts) (f ∷ fs) fr rs h =
      rw (reverse-append (f ∷ []) fs, concat-append (reverse fs) (f ∷ []), append-nil)
      (rises-append rank (concat (reverse fs)) f
      (join_down ts fs fr.1 rs.1 (λ v k. h v (inr k)))
      rs.0
      (λ y x hy hx.
      h (pair x y)
      (inl (
        sym (frontier_has t f x fr.0) ∙ hx,
        sym (frontiers_have ts fs y fr.1) ∙ has_same (concat fs) (concat (reverse fs)) y (sym (occurs-permutation fs (reverse fs) y (IsPermutation-reverse fs))) ∙ hy,
      ))))

  pub record Found (t : Outline) : Type 0 where
    pub order : List ℕ
    pub frontier : IsFrontier t order
    pub rises : Rises rank order

  pub record FoundAll (ts : Forest) : Type 0 where
    pub orders : List (List ℕ)
    pub frontiers : AreFrontiers ts orders
    pub rise : EachRises rank orders

  forward_distinct : (ts : Forest) → ((d : ℕ) → occurs (leaves_of ts) d ≤ 1) → (v : Pair) → IsForward ts v → v.a ≢ v.b
  forward_distinct no_tree once v f e = absurd f
  forward_distinct (tree_and t ts) once v f e =
      elim f [
        | inl k ↦ both_ways (has (leaves_of ts) v.b) (apart (leaves t) (leaves_of ts) v.b (once v.b) (rw e at k.0)) k.1
        | inr k ↦ forward_distinct ts (λ d. let h : occurs (leaves t ++ leaves_of ts) d ≤ 1 = once d in omega (arith, occurs-append (leaves t) (leaves_of ts) d)) v k e
      ]

  -- A bound tree has a frontier that rises.
  mutual
    pub found : (t : Outline) → IsBound R t → ((d : ℕ) → occurs (leaves t) d ≤ 1) → Found t
    found (leaf a) b once = record { order = a ∷ []; frontier = refl; rises = (λ y h. absurd (both_ways false refl h), tt) }
    found (p_node ts) b once =
        let k : FoundAll ts = found_all ts b.1 once in
        let o : Ordered k.orders = in_order (leaves_of ts) ts k.orders k.frontiers k.rise b.0 (λ d h. h) once in
        record {
          order = concat o.all;
          frontier = (k.orders, o.all, k.frontiers, o.moved, refl);
          rises = o.rises;
        }
    found (q_node ts) b once =
        let k : FoundAll ts = found_all ts b.1 once in
        let w : Way ts = way ts b.0 in
        elim (cases_Bool w.up) [
          | inl u ↦
              record {
                order = concat k.orders;
                frontier = (k.orders, k.frontiers, inl refl);
                rises = join_up ts k.orders k.frontiers k.rise (λ v f. ltb-true (rank v.a) (rank v.b) (w.is v f ∙ u));
              }
          | inr u ↦
              record {
                order = concat (reverse k.orders);
                frontier = (k.orders, k.frontiers, inr refl);
                rises =
                    join_down ts k.orders k.frontiers k.rise
                    (λ v f. turned v.a v.b (forward_distinct ts once v f) (λ l. both_ways w.up u (sym (w.is v f) ∙ lt-ltb (rank v.a) (rank v.b) l)));
              }
        ]

    pub found_all : (ts : Forest) → AreBound R ts → ((d : ℕ) → occurs (leaves_of ts) d ≤ 1) → FoundAll ts
    found_all no_tree b once = record { orders = []; frontiers = tt; rise = tt }
    found_all (tree_and t ts) b once =
        let f : Found t =
        found t b.0 (λ d. let h : occurs (leaves t ++ leaves_of ts) d ≤ 1 = once d in omega (arith, occurs-append (leaves t) (leaves_of ts) d)) in
        let k : FoundAll ts =
        found_all ts b.1 (λ d. let h : occurs (leaves t ++ leaves_of ts) d ≤ 1 = once d in omega (arith, occurs-append (leaves t) (leaves_of ts) d)) in
        record { orders = f.order ∷ k.orders; frontiers = (f.frontier, k.frontiers); rise = (f.rises, k.rise) }
