-- A component of which the list has all vertices is done.
use Rattle.std.proofs.Common.{◌≡◌, ◌≢◌, ◌↔◌, ◌∙◌, ℕ, suc, ◌+◌, ◌-◌, ◌*◌, ◌^◌, ◌<◌, ◌≤◌, All, List, length, get_or, IsTrue, refl, sym, ap, subst, inl, inr, arith}
use Rattle.std.proofs.Math.Nat.{suc-mul, mul-le-mul_right}
use Rattle.std.proofs.lemmas.Bool.{cases_eq, cases_lt}
use Rattle.std.proofs.lemmas.List.Elements.{All-from_get_or}
use Rattle.column_order.specs.Orders.{has, place}
use Rattle.column_order.proofs.Lists.{at_place, place-inj}
use Rattle.column_order.proofs.Counts.{order_length}
use Rattle.graph_model.specs.Graphs.{GraphValue, IsGraph}
use Rattle.proper_interval.specs.Models.{IsVertex}
use Rattle.proper_interval.specs.Umbrellas.{IsUmbrellaOrder}
use Rattle.unit_model.specs.Models.{at_vertex, DifferByAtMost, IsUnitModel}
use Rattle.unit_model.specs.Walks.{IsDistance, IsFirstOf}
use Rattle.unit_model.specs.Rule.{HasLayers, IsBase, base_first, base_next, IsLeftEnd, AreLeftEnds}
use Rattle.unit_model.specs.Drawing.{IsNeighbour, IsNumbered, IsLinkedList}
use Rattle.unit_model.proofs.DrawnLemmas.{IsDone, IsLayered, IsDrawn, linked_here}
use Rattle.unit_model.proofs.WalkLemmas.{IsCut, vertex, place_is, back, turned, cut_whole, cut_walk, one_first, first_itself, layers_rise, layers_next, layer_joined}

-- left ends of one layer, of neighbouring layers and of layers further apart
of_one_layer : (n a b x y p q : ℕ) → a ≡ x + p → b ≡ y + q → x ≡ y → p < n → q < n → DifferByAtMost n a b
of_one_layer n a b x y p q ea eb e lp lq = (omega arith, omega arith)

of_next_layers : (n a b x y p q : ℕ) → a ≡ x + p → b ≡ y + q → y ≡ x + n → p < n → q < n → q ≢ p → DifferByAtMost n a b ↔ (q < p)
of_next_layers n a b x y p q ea eb e lp lq ne = (λ d. omega (arith, d.1, ne), λ l. (omega arith, omega arith))

of_far_layers : (n a b x y p q : ℕ) → a ≡ x + p → b ≡ y + q → x + n + n ≤ y → p < n → DifferByAtMost n a b → ⊥
of_far_layers n a b x y p q ea eb e lp d = omega (arith, d.1)

-- the next layers in numbers
next_rows : (t n : ℕ) → (t + 1) * n ≡ t * n + n
next_rows t n = let e : t + 1 ≡ suc t = omega arith in ap (λ m. m * n) e ∙ suc-mul t n

far_rows : (s t n : ℕ) → s + 1 < t → s * n + n + n ≤ t * n
far_rows s t n l = omega (arith, mul-le-mul_right {m = s + 1 + 1} {n = t} n (omega arith), next_rows (s + 1) n, next_rows s n)

module _ (g : GraphValue) (o : List ℕ) (h : IsGraph g) (r : IsUmbrellaOrder g o) (levels before lefts : List ℕ) (s i : ℕ) (d : IsDrawn g o levels before lefts s i) (cut : IsCut g o i) where
  at_s : place o (get_or o s 0) ≡ s
  at_s = place_is g o h r s (omega (arith, d.after, d.inside))

  -- the place of a vertex of the component, and back
  inside_place : (v : ℕ) → IsVertex g v → IsFirstOf g o (get_or o s 0) v → (s ≤ place o v) × (place o v < i)
  inside_place v vv fv = (
    omega (arith, at_s, fv.first v 0 vv refl),
    cut_walk g o h r i cut (get_or o s 0) (omega (arith, at_s, d.after)) fv.walk.0 v vv fv.walk.1,
  )

  whole_list : (v : ℕ) → IsVertex g v → IsFirstOf g o (get_or o s 0) v → IsTrue (has d.list v)
  whole_list v vv fv =
      let inside = inside_place v vv fv in
      subst (λ z. IsTrue (has d.list z)) (back g o h r v vv).1 (d.there (place o v) inside.0 inside.1)

  -- the last vertex of the component has the last layer
  pub last_layered : IsLayered g o levels d.base (get_or o s 0) (get_or o (i - 1) 0)
  last_layered = d.layered (i - 1) (omega (arith, d.after)) (omega (arith, d.after))

  long : length o ≡ g.vertices
  long = order_length g.vertices o r.order

  few : d.count ≤ g.vertices
  few = omega (arith, d.many, d.inside, long)

  layer_few : (j : ℕ) → (a : s ≤ j) → (b : j < i) → (d.layered j a b).layer ≤ last_layered.layer
  layer_few j a b =
      let lj : j < length o = omega (arith, b, d.inside) in
      let ll : i - 1 < length o = omega (arith, d.inside, d.after) in
      layers_rise g o h r (get_or o s 0) (get_or o j 0) (get_or o (i - 1) 0) (d.layered j a b).layer last_layered.layer (vertex g o h r j lj) (vertex g o h r (i - 1) ll)
      (d.layered j a b).first (d.layered j a b).distance last_layered.distance (omega (arith, place_is g o h r j lj, place_is g o h r (i - 1) ll, b))

  pub has_layers : HasLayers g o (get_or o s 0) (last_layered.layer + 1)
  has_layers = record {
    last = get_or o (i - 1) 0;
    inside = last_layered.first;
    deepest = let same : last_layered.layer ≡ last_layered.layer + 1 - 1 = omega arith in subst (IsDistance g (get_or o s 0) (get_or o (i - 1) 0)) same last_layered.distance;
    some = omega arith;
    whole = λ v k vv fv dv.
        let inside = inside_place v vv fv in
        let ll : i - 1 < length o = omega (arith, d.inside, d.after) in
        let few : k ≤ last_layered.layer = layers_rise g o h r (get_or o s 0) v (get_or o (i - 1) 0) k last_layered.layer vv (vertex g o h r (i - 1) ll) fv dv last_layered.distance
        (omega (arith, place_is g o h r (i - 1) ll, inside.1)) in
        omega (arith, few);
  }

  -- the base of the component that begins at the cut
  pub next_base : i < length o → IsBase g o (get_or o i 0) (at_vertex levels (get_or o (i - 1) 0) + 2 * g.vertices)
  next_base l =
      let vi = vertex g o h r i l in
      let at_i = place_is g o h r i l in
      let first = d.layered s (omega arith) d.after in
      base_next (get_or o s 0) (get_or o i 0) d.base (last_layered.layer + 1) (at_vertex levels (get_or o (i - 1) 0) + 2 * g.vertices) d.base_of
      (record {
        first = first.first;
        second = first_itself g o h r i (get_or o i 0) vi at_i cut;
        after = omega (arith, at_s, at_i, d.after);
        next = λ w vw fw k. elim (cases_lt (place o w) i) [
          | inl m ↦
              let from : s ≤ place o w = omega (arith, k, at_s) in
              let its = subst (λ z. IsFirstOf g o (get_or o s 0) z) (back g o h r w vw).1 (d.layered (place o w) from m).first in
              absurd (omega (arith, k, ap (place o) (one_first g o h r (get_or o s 0) w w its fw)))
          | inr m ↦ omega (arith, at_i, m)
        ];
      }) has_layers
      (omega (arith, last_layered.level, next_rows last_layered.layer g.vertices, next_rows (last_layered.layer + 1) g.vertices))

  -- the left ends of the component
  module _ (more : List ℕ) (numbered : IsNumbered levels lefts more d.list) where
    -- of the vertices of the component
    left_new : (j : ℕ) → s ≤ j → j < i → at_vertex more (get_or o j 0) ≡ at_vertex levels (get_or o j 0) + place d.list (get_or o j 0)
    left_new j a b = numbered.numbered (get_or o j 0) (d.there j a b)

    place_few : (j : ℕ) → s ≤ j → j < i → place d.list (get_or o j 0) < g.vertices
    place_few j a b = omega (arith, (at_place d.list (get_or o j 0) (d.there j a b)).0, d.linked.many, few)

    -- of those before it
    left_old : (j : ℕ) → j < s → at_vertex more (get_or o j 0) ≡ at_vertex lefts (get_or o j 0)
    left_old j l =
        let lj : j < length o = omega (arith, l, d.after, d.inside) in
        numbered.kept (get_or o j 0) (vertex g o h r j lj).0 (λ t. omega (arith, l, place_is g o h r j lj, (d.places (get_or o j 0) t).0))

    ends_new : (j : ℕ) → s ≤ j → j < i → IsLeftEnd g o (get_or o j 0) (at_vertex more (get_or o j 0))
    ends_new j a b =
        let its = d.layered j a b in
        record {
          f = get_or o s 0;
          layer = its.layer;
          base = d.base;
          list = d.list;
          first = its.first;
          distance = its.distance;
          base_of = d.base_of;
          list_of = record { grown = d.grown; whole = whole_list };
          is = omega (arith, left_new j a b, its.level);
        }

    low_new : (j : ℕ) → s ≤ j → j < i → at_vertex more (get_or o j 0) + g.vertices < at_vertex levels (get_or o (i - 1) 0) + 2 * g.vertices
    low_new j a b =
        omega (arith, left_new j a b, place_few j a b, (d.layered j a b).level, last_layered.level, mul-le-mul_right g.vertices (layer_few j a b))

    low_old : (j : ℕ) → j < s → at_vertex more (get_or o j 0) + g.vertices < d.base
    low_old j l = omega (arith, left_old j l, d.done.low j l)

    low_base : d.base ≤ at_vertex levels (get_or o (i - 1) 0) + 2 * g.vertices
    low_base = omega (arith, last_layered.level)

    -- two vertices of the component
    near_new : (j k : ℕ) → s ≤ j → j < k → k < i → DifferByAtMost g.vertices (at_vertex more (get_or o j 0)) (at_vertex more (get_or o k 0)) ↔ IsNeighbour g (get_or o j 0) (get_or o k 0)
    near_new j k a b c =
        let bj : j < i = omega (arith, b, c) in
        let ak : s ≤ k = omega (arith, a, b) in
        let lj : j < length o = omega (arith, bj, d.inside) in
        let lk : k < length o = omega (arith, c, d.inside) in
        let vj = vertex g o h r j lj in
        let vk = vertex g o h r k lk in
        let x = d.layered j a bj in
        let y = d.layered k ak c in
        let n = g.vertices in
        let pj = place d.list (get_or o j 0) in
        let pk = place d.list (get_or o k 0) in
        let rising : place o (get_or o j 0) < place o (get_or o k 0) = omega (arith, b, place_is g o h r j lj, place_is g o h r k lk) in
        let apart : pk ≢ pj = λ e. omega (arith, rising, ap (place o) (place-inj d.list (get_or o k 0) (get_or o j 0) e)) in
        let up : x.layer ≤ y.layer = layers_rise g o h r (get_or o s 0) (get_or o j 0) (get_or o k 0) x.layer y.layer vj vk x.first x.distance y.distance (omega (arith, rising)) in
        elim (cases_eq x.layer y.layer) [
          | inl e ↦ (
            λ t. layer_joined g o h r (get_or o s 0) (get_or o j 0) (get_or o k 0) y.layer vj vk x.first (subst (IsDistance g (get_or o s 0) (get_or o j 0)) e x.distance) y.distance rising,
            λ t. of_one_layer n _ _ (at_vertex levels (get_or o j 0)) (at_vertex levels (get_or o k 0)) pj pk (left_new j a bj) (left_new k ak c)
                (x.level ∙ ap (λ m. d.base + m * n) e ∙ sym y.level) (place_few j a bj) (place_few k ak c),
          )
          | inr ne ↦ elim (cases_eq (x.layer + 1) y.layer) [
            | inl e ↦
                let dk = subst (IsDistance g (get_or o s 0) (get_or o k 0)) (sym e) y.distance in
                let stand = d.next j k x.layer a b c x.distance dk in
                let rows : at_vertex levels (get_or o k 0) ≡ at_vertex levels (get_or o j 0) + n = omega (arith, x.level, y.level, next_rows x.layer n, ap (λ m. m * n) e) in
                let differ = of_next_layers n _ _ (at_vertex levels (get_or o j 0)) (at_vertex levels (get_or o k 0)) pj pk (left_new j a bj) (left_new k ak c) rows (place_few j a bj) (place_few k ak c) apart in
                (λ t. stand.0 (differ.0 t), λ t. differ.1 (stand.1 t))
            | inr far ↦
                let two : x.layer + 1 < y.layer = omega (arith, up, ne, far) in
                let rows : at_vertex levels (get_or o j 0) + n + n ≤ at_vertex levels (get_or o k 0) = omega (arith, x.level, y.level, far_rows x.layer y.layer n two) in (
                  λ t. absurd (of_far_layers n _ _ (at_vertex levels (get_or o j 0)) (at_vertex levels (get_or o k 0)) pj pk (left_new j a bj) (left_new k ak c) rows (place_few j a bj) t),
                  λ t. absurd (omega (arith, two, layers_next g o h r (get_or o s 0) (get_or o j 0) (get_or o k 0) x.layer y.layer vj x.distance y.distance t)),
                )
          ]
        ]

    near_all : (j k : ℕ) → j < k → k < i → DifferByAtMost g.vertices (at_vertex more (get_or o j 0)) (at_vertex more (get_or o k 0)) ↔ IsNeighbour g (get_or o j 0) (get_or o k 0)
    near_all j k b c =
        elim (cases_lt k s) [
          | inl lk ↦
              let lj : j < s = omega (arith, lk, b) in
              let old = d.done.near j k b lk in
              subst (λ x. DifferByAtMost g.vertices x (at_vertex more (get_or o k 0)) ↔ IsNeighbour g (get_or o j 0) (get_or o k 0)) (sym (left_old j lj))
              (subst (λ x. DifferByAtMost g.vertices (at_vertex lefts (get_or o j 0)) x ↔ IsNeighbour g (get_or o j 0) (get_or o k 0)) (sym (left_old k lk)) old)
          | inr ak ↦ elim (cases_lt j s) [
            | inl lj ↦
                let lo : j < length o = omega (arith, lj, ak, c, d.inside) in
                let ko : k < length o = omega (arith, c, d.inside) in (
                  λ t. absurd (omega (arith, t.1, low_old j lj, left_new k ak c, (d.layered k ak c).level)),
                  λ t. absurd (omega (arith, ak, place_is g o h r k ko, d.cut (get_or o j 0) (get_or o k 0) (vertex g o h r j lo) (vertex g o h r k ko) (omega (arith, lj, place_is g o h r j lo)) t)),
                )
            | inr aj ↦ near_new j k aj b c
          ]
        ]

    pub drawn_done : IsDone g o more i (at_vertex levels (get_or o (i - 1) 0) + 2 * g.vertices)
    drawn_done = record {
      long = numbered.count ∙ d.done.long;
      bound = omega (arith, d.small (get_or o (i - 1) 0), h.vertices.1);
      ends = λ j l. elim (cases_lt j s) [
        | inl lj ↦ subst (IsLeftEnd g o (get_or o j 0)) (sym (left_old j lj)) (d.done.ends j lj)
        | inr aj ↦ ends_new j aj l
      ];
      low = λ j l. elim (cases_lt j s) [
        | inl lj ↦ omega (arith, low_old j lj, low_base)
        | inr aj ↦ low_new j aj l
      ];
      near = near_all;
    }

-- what is to be shown of the left ends of all vertices
pub record AreDrawn (g : GraphValue) (o lefts : List ℕ) : Type 0 where
  pub ends : AreLeftEnds g o lefts
  pub near : IsUnitModel g g.vertices lefts
  pub low : All (λ left. left < 2 ^ 63) lefts

module _ (g : GraphValue) (o : List ℕ) (h : IsGraph g) (r : IsUmbrellaOrder g o) where
  -- nothing is done yet
  pub none_done : (lefts : List ℕ) → length lefts ≡ g.vertices → IsDone g o lefts 0 0
  none_done lefts long = record {
    long = long;
    bound = omega arith;
    ends = λ j l. absurd (omega arith);
    low = λ j l. absurd (omega arith);
    near = λ j k a b. absurd (omega arith);
  }

  pub cut_none : IsCut g o 0
  cut_none x y vx vy l e = absurd (omega arith)

  pub base_none : 0 < length o → IsBase g o (get_or o 0 0) 0
  base_none l = base_first (get_or o 0 0) (first_itself g o h r 0 (get_or o 0 0) (vertex g o h r 0 l) (place_is g o h r 0 l) cut_none) (place_is g o h r 0 l)

  done_all : (levels before lefts : List ℕ) (s i : ℕ) (d : IsDrawn g o levels before lefts s i) → length o ≡ i → (more : List ℕ) → IsNumbered levels lefts more d.list → (base : ℕ) × IsDone g o more (length o) base
  done_all levels before lefts s i d all more numbered =
      let cut : IsCut g o i = subst (IsCut g o) all (cut_whole g o h r) in
      let base = at_vertex levels (get_or o (i - 1) 0) + 2 * g.vertices in
      (base, subst (λ k. IsDone g o more k base) (sym all) (drawn_done g o h r levels before lefts s i d cut more numbered))

  -- all is done
  module _ (lefts : List ℕ) (base : ℕ) (d : IsDone g o lefts (length o) base) where
    all_ends : AreLeftEnds g o lefts
    all_ends = record {
      count = d.long;
      each = λ v vv. let b = back g o h r v vv in subst (λ z. IsLeftEnd g o z (at_vertex lefts z)) b.1 (d.ends (place o v) b.0);
    }

    all_near : IsUnitModel g g.vertices lefts
    all_near = record {
      positive = h.vertices.0;
      count = d.long;
      near = λ u v vu vv ne.
          let bu = back g o h r u vu in
          let bv = back g o h r v vv in
          elim (cases_lt (place o u) (place o v)) [
            | inl l ↦ rw (bu.1, bv.1) at (d.near (place o u) (place o v) l bv.0)
            | inr l ↦
                let other : place o u ≢ place o v = λ e. ne (place-inj o u v e) in
                let there = rw (bv.1, bu.1) at (d.near (place o v) (place o u) (omega (arith, l, other)) bu.0) in
                (λ t. turned g o h r v u vv vu (there.0 (t.1, t.0)), λ t. let back = there.1 (turned g o h r u v vu vv t) in (back.1, back.0))
          ];
    }

    all_low : All (λ left. left < 2 ^ 63) lefts
    all_low = All-from_get_or (λ left. left < 2 ^ 63) lefts 0 (λ k l.
        let v = k + 1 in
        let vv : IsVertex g v = (omega arith, omega (arith, l, d.long)) in
        let b = back g o h r v vv in
        let at : v - 1 ≡ k = omega arith in
        let low = d.low (place o v) b.0 in
        omega (arith, low, ap (at_vertex lefts) b.1, ap (λ m. get_or lefts m 0) at, d.bound, order_length g.vertices o r.order, h.vertices.1))

  -- so the walk to the end of the order gives every left end
  pub all_drawn : (levels before lefts : List ℕ) (s i : ℕ) (d : IsDrawn g o levels before lefts s i) → length o ≤ i → (more : List ℕ)
      → ((list : List ℕ) → IsLinkedList before (length lefts) (get_or o s 0) (length o - s) list → IsNumbered levels lefts more list) → AreDrawn g o more
  all_drawn levels before lefts s i d end more numbers =
      let all : length o ≡ i = omega (arith, end, d.inside) in
      let linked = rw (← all) at (linked_here g o levels before lefts s i d) in
      let done = done_all levels before lefts s i d all more (numbers d.list linked) in
      record { ends = all_ends more done.0 done.1; near = all_near more done.0 done.1; low = all_low more done.0 done.1 }
