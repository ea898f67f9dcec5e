-- What is known along an umbrella order while the left ends are found.
use Rattle.std.proofs.Common.{◌≡◌, ◌≢◌, ◌⊎◌, ◌↔◌, ◌∙◌, ℕ, suc, ◌+◌, ◌-◌, ◌*◌, ◌<◌, ◌≤◌, false, List, [], ◌∷◌, length, replicate, get_or, set, IsTrue, refl, sym, ap, subst, inl, inr, arith, get_or-set_same, get_or-set_other}
use Rattle.std.proofs.Math.Nat.{suc-mul}
use Rattle.std.proofs.lemmas.Bool.{cases_eq, cases_lt, cases_Bool, both_ways}
use Rattle.std.proofs.lemmas.List.{length-set, get_or-replicate, get_or_past, length-replicate}
use Rattle.column_order.specs.Orders.{has, place}
use Rattle.column_order.proofs.Lists.{has_cases, has_head}
use Rattle.graph_model.specs.Graphs.{GraphValue, IsGraph}
use Rattle.proper_interval.specs.Models.{IsVertex}
use Rattle.proper_interval.specs.Umbrellas.{IsUmbrellaOrder}
use Rattle.unit_model.specs.Models.{at_vertex, DifferByAtMost}
use Rattle.unit_model.specs.Walks.{IsDistance, IsFirstOf}
use Rattle.unit_model.specs.Rule.{put_before, IsNext, IsFirstNeighbour, IsGrown, begun, put, IsBase, IsLeftEnd}
use Rattle.unit_model.specs.Drawing.{IsNeighbour, IsFirstBefore, IsLinkedList}
use Rattle.unit_model.proofs.PutLemmas.{put_place, put_before_it, put_after_it, put_has_new, put_has_old, put_has_cases}
use Rattle.unit_model.proofs.LinkLemmas.{vertex_written, vertex_kept, one_linked, put_linked}
use Rattle.unit_model.proofs.WalkLemmas.{IsCut, vertex, place_is, back, one_distance, first_itself, no_distance, first_as, distance_as, layers_rise, joined_from, first_joined}

-- how far a level may rise from one place to the next
abbrev pub rise : ℕ
rise = 65536

-- the vertices before a place have their left ends, and all these lie more than a length before the next base
pub record IsDone (g : GraphValue) (o lefts : List ℕ) (i base : ℕ) : Type 0 where
  pub long : length lefts ≡ g.vertices
  pub bound : base ≤ (i + 1) * rise
  pub ends : (j : ℕ) → j < i → IsLeftEnd g o (get_or o j 0) (at_vertex lefts (get_or o j 0))
  pub low : (j : ℕ) → j < i → at_vertex lefts (get_or o j 0) + g.vertices < base
  pub near : (j k : ℕ) → j < k → k < i → DifferByAtMost g.vertices (at_vertex lefts (get_or o j 0)) (at_vertex lefts (get_or o k 0)) ↔ IsNeighbour g (get_or o j 0) (get_or o k 0)

-- what is known of a vertex of the component at hand
pub record IsLayered (g : GraphValue) (o levels : List ℕ) (base f v : ℕ) : Type 0 where
  pub layer : ℕ
  pub first : IsFirstOf g o f v
  pub distance : IsDistance g f v layer
  pub level : at_vertex levels v ≡ base + layer * g.vertices

-- the components before the place s are done, and the list of that which begins at s has the vertices before the place i
pub record IsDrawn (g : GraphValue) (o levels before lefts : List ℕ) (s i : ℕ) : Type 0 where
  pub base : ℕ
  pub list : List ℕ
  pub count : ℕ
  pub done : IsDone g o lefts s base
  pub after : s < i
  pub inside : i ≤ length o
  pub long_levels : length levels ≡ g.vertices
  pub long_before : length before ≡ g.vertices
  pub small : (v : ℕ) → at_vertex levels v ≤ i * rise
  pub cut : IsCut g o s
  pub base_of : IsBase g o (get_or o s 0) base
  pub many : count + s ≡ i
  pub linked : IsLinkedList before g.vertices (get_or o s 0) count list
  pub grown : IsGrown g o (get_or o s 0) list
  pub there : (j : ℕ) → s ≤ j → j < i → IsTrue (has list (get_or o j 0))
  pub places : (v : ℕ) → IsTrue (has list v) → (s ≤ place o v) × (place o v < i)
  pub layered : (j : ℕ) → s ≤ j → j < i → IsLayered g o levels base (get_or o s 0) (get_or o j 0)
  pub same : (j k t : ℕ) → s ≤ j → j < k → k < i → IsDistance g (get_or o s 0) (get_or o j 0) t → IsDistance g (get_or o s 0) (get_or o k 0) t →
      place list (get_or o j 0) < place list (get_or o k 0)
  pub next : (j k t : ℕ) → s ≤ j → j < k → k < i → IsDistance g (get_or o s 0) (get_or o j 0) t → IsDistance g (get_or o s 0) (get_or o k 0) (t + 1) →
      (place list (get_or o k 0) < place list (get_or o j 0)) ↔ IsNeighbour g (get_or o j 0) (get_or o k 0)

-- a level that is written is no less small
small_set : (levels : List ℕ) (v level i : ℕ) → v - 1 < length levels → ((w : ℕ) → at_vertex levels w ≤ i * rise) → level ≤ (i + 1) * rise → (w : ℕ) → at_vertex (set levels (v - 1) level) w ≤ (i + 1) * rise
small_set levels v level i l small le w =
    elim (cases_eq (w - 1) (v - 1)) [
      | inl e ↦ omega (arith, le, ap (λ k. get_or (set levels (v - 1) level) k 0) e, get_or-set_same levels (v - 1) level 0 l)
      | inr n ↦ omega (arith, get_or-set_other levels (v - 1) (w - 1) level 0 n, small w)
    ]

-- nothing is written yet
pub none_small : (levels : List ℕ) (n v : ℕ) → levels ≡ replicate n 0 → at_vertex levels v ≤ 0 * rise
none_small levels n v is = elim (cases_lt (v - 1) n) [
  | inl l ↦ omega (arith, ap (λ xs. at_vertex xs v) is, get_or-replicate {A = ℕ} n (v - 1) 0 0 l)
  | inr l ↦ omega (arith, ap (λ xs. at_vertex xs v) is, get_or_past {X = ℕ} (replicate n 0) (v - 1) 0 (omega (arith, l, length-replicate {A = ℕ} n 0)))
]

-- the list of the component at hand
pub linked_here : (g : GraphValue) (o levels before lefts : List ℕ) (s i : ℕ) (d : IsDrawn g o levels before lefts s i) → IsLinkedList before (length lefts) (get_or o s 0) (i - s) d.list
linked_here g o levels before lefts s i d =
    let few : d.count ≡ i - s = omega (arith, d.many) in
    subst (λ n. IsLinkedList before n (get_or o s 0) (i - s) d.list) (sym d.done.long) (subst (λ k. IsLinkedList before g.vertices (get_or o s 0) k d.list) few d.linked)

-- the list of a component begins
module _ (g : GraphValue) (o : List ℕ) (h : IsGraph g) (r : IsUmbrellaOrder g o) where
  pub drawn_begin : (levels more before lefts : List ℕ) (i base : ℕ) → i < length o → IsCut g o i → IsDone g o lefts i base → IsBase g o (get_or o i 0) base →
      length levels ≡ g.vertices → length before ≡ g.vertices → ((v : ℕ) → at_vertex levels v ≤ i * rise) → more ≡ set levels (get_or o i 0 - 1) base →
      IsDrawn g o more before lefts i (i + 1)
  drawn_begin levels more before lefts i base l cut done base_of long_levels long_before small is =
      let v = get_or o i 0 in
      let vv = vertex g o h r i l in
      let only : (j : ℕ) → i ≤ j → j < i + 1 → j ≡ i = λ j a b. omega arith in
      record {
        base = base;
        list = v ∷ [];
        count = 1;
        done = done;
        after = omega arith;
        inside = omega arith;
        long_levels = ap (λ (xs : List ℕ). length xs) is ∙ length-set levels (v - 1) base ∙ long_levels;
        long_before = long_before;
        small = λ w. subst (λ xs. at_vertex xs w ≤ (i + 1) * rise) (sym is) (small_set levels v base i (omega (arith, vv.0, vv.1, long_levels)) small done.bound w);
        cut = cut;
        base_of = base_of;
        many = omega arith;
        linked = one_linked before g.vertices v vv.0 vv.1;
        grown = begun;
        there = λ j a b. ap (λ k. has (v ∷ []) (get_or o k 0)) (only j a b) ∙ has_head v [];
        places = λ w t. elim (has_cases v w [] t) [
          | inl e ↦ (omega (arith, place_is g o h r i l, ap (place o) e), omega (arith, place_is g o h r i l, ap (place o) e))
          | inr f ↦ absurd (both_ways false refl f)
        ];
        layered = λ j a b. subst (λ k. IsLayered g o more base v (get_or o k 0)) (sym (only j a b)) (record {
          layer = 0;
          first = first_itself g o h r i v vv (place_is g o h r i l) cut;
          distance = no_distance g o h r v;
          level = ap (λ xs. at_vertex xs v) is ∙ vertex_written levels v base vv.0 (omega (arith, vv.1, long_levels)) ∙ omega arith;
        });
        same = λ j k t a b c dj dk. absurd (omega arith);
        next = λ j k t a b c dj dk. absurd (omega arith);
      }

  -- the list of a component takes the next vertex
  module _ (levels before lefts : List ℕ) (s i u : ℕ) (d : IsDrawn g o levels before lefts s i) (l : i < length o) (e : IsFirstBefore g o i u (get_or o i 0)) where
    v : ℕ
    v = get_or o i 0

    f : ℕ
    f = get_or o s 0

    vv : IsVertex g (get_or o i 0)
    vv = vertex g o h r i l

    at_v : place o (get_or o i 0) ≡ i
    at_v = place_is g o h r i l

    -- the first neighbour is in the component
    u_from : s ≤ place o u
    u_from = elim (cases_lt (place o u) s) [
      | inl k ↦ absurd (omega (arith, d.cut u (get_or o i 0) e.vertex vv k e.joined, at_v, d.after))
      | inr k ↦ k
    ]

    u_back : get_or o (place o u) 0 ≡ u
    u_back = (back g o h r u e.vertex).1

    u_there : IsTrue (has d.list u)
    u_there = subst (λ z. IsTrue (has d.list z)) u_back (d.there (place o u) u_from e.before)

    u_layered : IsLayered g o levels d.base (get_or o s 0) u
    u_layered = subst (λ z. IsLayered g o levels d.base (get_or o s 0) z) u_back (d.layered (place o u) u_from e.before)

    v_new : IsTrue (has d.list (get_or o i 0)) → ⊥
    v_new t = omega (arith, (d.places (get_or o i 0) t).1, at_v)

    v_first : IsFirstOf g o (get_or o s 0) (get_or o i 0)
    v_first = first_as g o h r i u (get_or o i 0) (get_or o s 0) vv e u_layered.first

    v_distance : IsDistance g (get_or o s 0) (get_or o i 0) (u_layered.layer + 1)
    v_distance = distance_as g o h r i u (get_or o i 0) (get_or o s 0) u_layered.layer vv at_v e u_layered.first u_layered.distance

    -- it is the next
    all_before : (w a b : ℕ) → IsVertex g w → IsFirstOf g o (get_or o s 0) w → IsDistance g (get_or o s 0) w a → IsDistance g (get_or o s 0) (get_or o i 0) b →
        (a < b) ⊎ ((a ≡ b) × (place o w < place o (get_or o i 0))) → IsTrue (has d.list w)
    all_before w a b vw fw da db before_it =
        let from : s ≤ place o w = omega (arith, fw.first w 0 vw refl, place_is g o h r s (omega (arith, d.after, d.inside))) in
        let early : place o w < i = elim (cases_lt (place o w) i) [
          | inl k ↦ k
          | inr k ↦ absurd (elim before_it [
            | inl lt ↦ omega (arith, lt, layers_rise g o h r (get_or o s 0) (get_or o i 0) w b a vv vw v_first db da (omega (arith, at_v, k)))
            | inr q ↦ omega (arith, q.1, at_v, k)
          ])
        ] in
        subst (λ z. IsTrue (has d.list z)) (back g o h r w vw).1 (d.there (place o w) from early)

    v_next : IsNext g o (get_or o s 0) d.list (get_or o i 0)
    v_next = record {
      inside = v_first;
      fresh = elim (cases_Bool (has d.list (get_or o i 0))) [ inl t ↦ absurd (v_new t) | inr n ↦ n ];
      others = all_before;
    }

    v_above : IsFirstNeighbour g o (get_or o s 0) u (get_or o i 0)
    v_above = record {
      layer = u_layered.layer;
      above = v_distance;
      below = u_layered.distance;
      adjacent = e.joined;
      first = λ w vw dw k. e.first w vw k;
    }

    more : List ℕ
    more = put_before (get_or o i 0) u d.list

    -- a vertex of the list, before or after the first neighbour
    kept_before : (a : ℕ) → IsTrue (has d.list a) → place d.list a < place d.list u → place (put_before (get_or o i 0) u d.list) a ≡ place d.list a
    kept_before a t k = put_before_it (get_or o i 0) u a d.list u_there v_new t k

    moved_after : (a : ℕ) → IsTrue (has d.list a) → place d.list u ≤ place d.list a → place (put_before (get_or o i 0) u d.list) a ≡ suc (place d.list a)
    moved_after a t k = put_after_it (get_or o i 0) u a d.list u_there v_new t k

    new_place : place (put_before (get_or o i 0) u d.list) (get_or o i 0) ≡ place d.list u
    new_place = put_place (get_or o i 0) u d.list u_there v_new

    -- two vertices of the list stand as before
    as_before : (a b : ℕ) → IsTrue (has d.list a) → IsTrue (has d.list b) →
        ((place d.list a < place d.list b) → place (put_before (get_or o i 0) u d.list) a < place (put_before (get_or o i 0) u d.list) b)
        × ((place (put_before (get_or o i 0) u d.list) a < place (put_before (get_or o i 0) u d.list) b) → place d.list a < place d.list b)
    as_before a b ta tb =
        elim (cases_lt (place d.list a) (place d.list u)) [
          | inl la ↦ elim (cases_lt (place d.list b) (place d.list u)) [
            | inl lb ↦ (λ k. omega (arith, k, kept_before a ta la, kept_before b tb lb), λ k. omega (arith, k, kept_before a ta la, kept_before b tb lb))
            | inr lb ↦ (λ k. omega (arith, k, kept_before a ta la, moved_after b tb lb), λ k. omega (arith, la, lb))
          ]
          | inr la ↦ elim (cases_lt (place d.list b) (place d.list u)) [
            | inl lb ↦ (λ k. absurd (omega (arith, k, la, lb)), λ k. absurd (omega (arith, k, la, lb, moved_after a ta la, kept_before b tb lb)))
            | inr lb ↦ (λ k. omega (arith, k, moved_after a ta la, moved_after b tb lb), λ k. omega (arith, k, moved_after a ta la, moved_after b tb lb))
          ]
        ]

    -- a vertex of the list and the new one
    before_new : (a : ℕ) → IsTrue (has d.list a) → place d.list a < place d.list u → place (put_before (get_or o i 0) u d.list) a < place (put_before (get_or o i 0) u d.list) (get_or o i 0)
    before_new a t k = omega (arith, k, kept_before a t k, new_place)

    after_new : (a : ℕ) → IsTrue (has d.list a) → place d.list u ≤ place d.list a → place (put_before (get_or o i 0) u d.list) (get_or o i 0) < place (put_before (get_or o i 0) u d.list) a
    after_new a t k = omega (arith, k, moved_after a t k, new_place)

    -- of the new vertex's layer, all stand before it
    same_new : (j : ℕ) → s ≤ j → j < i → IsDistance g (get_or o s 0) (get_or o j 0) (u_layered.layer + 1) →
        place (put_before (get_or o i 0) u d.list) (get_or o j 0) < place (put_before (get_or o i 0) u d.list) (get_or o i 0)
    same_new j a b dj =
        let lj : j < length o = omega (arith, b, l) in
        let at_j = place_is g o h r j lj in
        let joined = first_joined g o h r i u (get_or o i 0) (get_or o s 0) (get_or o j 0) u_layered.layer vv at_v e (vertex g o h r j lj) (omega (arith, at_j, b))
        (d.layered j a b).first dj u_layered.distance in
        let first_then : place o u < j = elim (cases_lt (place o u) j) [
          | inl k ↦ k
          | inr k ↦ absurd (omega (
            arith,
            layers_rise g o h r (get_or o s 0) (get_or o j 0) u (u_layered.layer + 1) u_layered.layer (vertex g o h r j lj) e.vertex
                (d.layered j a b).first dj u_layered.distance (omega (arith, at_j, k)),
          ))
        ] in
        let stands = (d.next (place o u) j u_layered.layer u_from first_then b
        (subst (λ z. IsDistance g (get_or o s 0) z u_layered.layer) (sym u_back) u_layered.distance) dj).1 (subst (λ z. IsNeighbour g z (get_or o j 0)) (sym u_back) joined) in
        before_new (get_or o j 0) (d.there j a b) (subst (λ z. place d.list (get_or o j 0) < place d.list z) u_back stands)

    -- of the layer before, those stand after it that are its neighbours
    next_new : (j : ℕ) → s ≤ j → j < i → IsDistance g (get_or o s 0) (get_or o j 0) u_layered.layer →
        (place (put_before (get_or o i 0) u d.list) (get_or o i 0) < place (put_before (get_or o i 0) u d.list) (get_or o j 0)) ↔ IsNeighbour g (get_or o j 0) (get_or o i 0)
    next_new j a b dj =
        let lj : j < length o = omega (arith, b, l) in
        let at_j = place_is g o h r j lj in
        let vj = vertex g o h r j lj in
        let tj = d.there j a b in
        let du = subst (λ z. IsDistance g (get_or o s 0) z u_layered.layer) (sym u_back) u_layered.distance in
        elim (cases_lt j (place o u)) [
          | inl k ↦
              let stands = subst (λ z. place d.list (get_or o j 0) < place d.list z) u_back (d.same j (place o u) u_layered.layer a k e.before dj du) in (
                λ p. absurd (omega (arith, p, before_new (get_or o j 0) tj stands)),
                λ q. absurd (omega (arith, e.first (get_or o j 0) vj q, at_j, k)),
              )
          | inr k ↦
              let stands : place d.list u ≤ place d.list (get_or o j 0) = elim (cases_eq (place o u) j) [
                | inl same ↦ omega (arith, ap (λ z. place d.list (get_or o z 0)) same, ap (place d.list) u_back)
                | inr other ↦
                    let after = d.same (place o u) j u_layered.layer u_from (omega (arith, k, other)) b du dj in
                    omega (arith, after, ap (place d.list) u_back)
              ] in (
                λ p. joined_from g o h r i u (get_or o i 0) (get_or o j 0) vv at_v e vj (omega (arith, at_j, k)) (omega (arith, at_j, b)),
                λ q. after_new (get_or o j 0) tj stands,
              )
        ]

    same_more : (j k t : ℕ) → s ≤ j → j < k → k < i + 1 → IsDistance g (get_or o s 0) (get_or o j 0) t → IsDistance g (get_or o s 0) (get_or o k 0) t →
        place (put_before (get_or o i 0) u d.list) (get_or o j 0) < place (put_before (get_or o i 0) u d.list) (get_or o k 0)
    same_more j k t a b c dj dk =
        elim (cases_lt k i) [
          | inl m ↦ (as_before (get_or o j 0) (get_or o k 0) (d.there j a (omega (arith, b, m))) (d.there k (omega (arith, a, b)) m)).0 (d.same j k t a b m dj dk)
          | inr m ↦
              let last : k ≡ i = omega arith in
              let dk' = subst (λ z. IsDistance g (get_or o s 0) (get_or o z 0) t) last dk in
              let layer : t ≡ u_layered.layer + 1 = one_distance g o h r (get_or o s 0) (get_or o i 0) t (u_layered.layer + 1) dk' v_distance in
              subst (λ z. place (put_before (get_or o i 0) u d.list) (get_or o j 0) < place (put_before (get_or o i 0) u d.list) (get_or o z 0)) (sym last)
              (same_new j a (omega (arith, b, last)) (subst (IsDistance g (get_or o s 0) (get_or o j 0)) layer dj))
        ]

    next_more : (j k t : ℕ) → s ≤ j → j < k → k < i + 1 → IsDistance g (get_or o s 0) (get_or o j 0) t → IsDistance g (get_or o s 0) (get_or o k 0) (t + 1) →
        (place (put_before (get_or o i 0) u d.list) (get_or o k 0) < place (put_before (get_or o i 0) u d.list) (get_or o j 0)) ↔ IsNeighbour g (get_or o j 0) (get_or o k 0)
    next_more j k t a b c dj dk =
        elim (cases_lt k i) [
          | inl m ↦
              let old = d.next j k t a b m dj dk in
              let stand = as_before (get_or o k 0) (get_or o j 0) (d.there k (omega (arith, a, b)) m) (d.there j a (omega (arith, b, m))) in
              (λ p. old.0 (stand.1 p), λ q. stand.0 (old.1 q))
          | inr m ↦
              let last : k ≡ i = omega arith in
              let dk' = subst (λ z. IsDistance g (get_or o s 0) (get_or o z 0) (t + 1)) last dk in
              let layer : t ≡ u_layered.layer = omega (arith, one_distance g o h r (get_or o s 0) (get_or o i 0) (t + 1) (u_layered.layer + 1) dk' v_distance) in
              subst (λ z. (place (put_before (get_or o i 0) u d.list) (get_or o z 0) < place (put_before (get_or o i 0) u d.list) (get_or o j 0)) ↔ IsNeighbour g (get_or o j 0) (get_or o z 0)) (sym last)
              (next_new j a (omega (arith, b, last)) (subst (IsDistance g (get_or o s 0) (get_or o j 0)) layer dj))
        ]

    -- what is known of a vertex after the level of v is written
    layered_more : (after : List ℕ) → after ≡ set levels (get_or o i 0 - 1) (at_vertex levels u + g.vertices) → (j : ℕ) → s ≤ j → j < i + 1 →
        IsLayered g o after d.base (get_or o s 0) (get_or o j 0)
    layered_more after is j a b =
        elim (cases_lt j i) [
          | inl m ↦
              let old = d.layered j a m in
              let lj : j < length o = omega (arith, m, l) in
              let other : get_or o j 0 ≢ get_or o i 0 = λ q. omega (arith, place_is g o h r j lj, at_v, ap (place o) q, m) in
              record {
                layer = old.layer;
                first = old.first;
                distance = old.distance;
                level = ap (λ xs. at_vertex xs (get_or o j 0)) is ∙ vertex_kept levels (get_or o i 0) (get_or o j 0) (at_vertex levels u + g.vertices) vv.0 (vertex g o h r j lj).0 other ∙ old.level;
              }
          | inr m ↦
              let last : i ≡ j = omega arith in
              let rises : suc u_layered.layer ≡ u_layered.layer + 1 = omega arith in
              let is_v : IsLayered g o after d.base (get_or o s 0) (get_or o i 0) = record {
                layer = u_layered.layer + 1;
                first = v_first;
                distance = v_distance;
                level = ap (λ xs. at_vertex xs (get_or o i 0)) is ∙ vertex_written levels (get_or o i 0) (at_vertex levels u + g.vertices) vv.0 (omega (arith, vv.1, d.long_levels))
                    ∙ omega (arith, u_layered.level, suc-mul u_layered.layer g.vertices, ap (λ m. m * g.vertices) rises);
              } in
              subst (λ z. IsLayered g o after d.base (get_or o s 0) (get_or o z 0)) last is_v
        ]

    pub drawn_put : (after linked : List ℕ) → after ≡ set levels (get_or o i 0 - 1) (at_vertex levels u + g.vertices) → linked ≡ set (set before (get_or o i 0 - 1) (at_vertex before u)) (u - 1) (get_or o i 0) →
        IsDrawn g o after linked lefts s (i + 1)
    drawn_put after linked is link =
        let mid = set before (get_or o i 0 - 1) (at_vertex before u) in
        record {
          base = d.base;
          list = put_before (get_or o i 0) u d.list;
          count = suc d.count;
          done = d.done;
          after = omega (arith, d.after);
          inside = omega (arith, l);
          long_levels = ap (λ (xs : List ℕ). length xs) is ∙ length-set levels (get_or o i 0 - 1) (at_vertex levels u + g.vertices) ∙ d.long_levels;
          long_before = ap (λ (xs : List ℕ). length xs) link ∙ length-set mid (u - 1) (get_or o i 0) ∙ length-set before (get_or o i 0 - 1) (at_vertex before u) ∙ d.long_before;
          small = λ w. subst (λ xs. at_vertex xs w ≤ (i + 1) * rise) (sym is)
              (small_set levels (get_or o i 0) (at_vertex levels u + g.vertices) i (omega (arith, vv.0, vv.1, d.long_levels)) d.small (omega (arith, d.small u, h.vertices.1)) w);
          cut = d.cut;
          base_of = d.base_of;
          many = omega (arith, d.many);
          linked = put_linked before linked g.vertices (get_or o s 0) d.count (get_or o i 0) u d.list d.linked vv.0 vv.1 (sym d.long_before) u_there v_new link;
          grown = put d.list u (get_or o i 0) d.grown v_next v_above;
          there = λ j a b. elim (cases_lt j i) [
            | inl m ↦ put_has_old (get_or o i 0) u (get_or o j 0) d.list (d.there j a m)
            | inr m ↦
                let last : i ≡ j = omega arith in
                subst (λ z. IsTrue (has (put_before (get_or o i 0) u d.list) (get_or o z 0))) last (put_has_new (get_or o i 0) u d.list u_there)
          ];
          places = λ w t. elim (put_has_cases (get_or o i 0) u w d.list t) [
            | inl q ↦ (omega (arith, ap (place o) q, at_v, d.after), omega (arith, ap (place o) q, at_v))
            | inr q ↦ ((d.places w q).0, omega (arith, (d.places w q).1))
          ];
          layered = layered_more after is;
          same = same_more;
          next = next_more;
        }
