-- Walks along an umbrella order: how far they reach, and the layers of the vertices.
use Rattle.std.proofs.Common.{◌≡◌, ◌∙◌, ℕ, zero, suc, ◌+◌, ◌<◌, ◌≤◌, List, length, get_or, refl, sym, ap, subst, inl, inr, arith}
use Rattle.std.proofs.lemmas.Bool.{cases_eq, cases_lt}
use Rattle.column_order.specs.Orders.{place}
use Rattle.column_order.proofs.Lists.{has_at, at_place, place_at, place-inj}
use Rattle.column_order.proofs.Counts.{order_once, order_within, order_has}
use Rattle.graph_model.specs.Graphs.{GraphValue, IsGraph}
use Rattle.proper_interval.specs.Models.{IsVertex}
use Rattle.proper_interval.specs.Umbrellas.{IsUmbrellaOrder}
use Rattle.unit_model.specs.Walks.{Walks, IsDistance, IsFirstOf}
use Rattle.unit_model.specs.Drawing.{IsNeighbour, HasNoneBefore, IsFirstBefore}

-- no edge leads from before a place of the order to it or past it
abbrev pub IsCut : GraphValue → List ℕ → ℕ → Type 0
IsCut g o i = (x y : ℕ) → IsVertex g x → IsVertex g y → place o x < i → IsNeighbour g x y → place o y < i

module _ (g : GraphValue) (o : List ℕ) (h : IsGraph g) (r : IsUmbrellaOrder g o) where
  pub vertex : (i : ℕ) → i < length o → IsVertex g (get_or o i 0)
  vertex i l = order_within g.vertices o r.order (get_or o i 0) (has_at o i l)

  pub place_is : (i : ℕ) → i < length o → place o (get_or o i 0) ≡ i
  place_is i l = place_at o (order_once g.vertices o r.order) i l

  pub back : (v : ℕ) → IsVertex g v → (place o v < length o) × (get_or o (place o v) 0 ≡ v)
  back v s = at_place o v (order_has g.vertices o r.order v s.0 s.1)

  pub turned : (a b : ℕ) → IsVertex g a → IsVertex g b → IsNeighbour g a b → IsNeighbour g b a
  turned a b va vb e = h.symmetric b a vb.0 va.0 ∙ e

  -- an edge covers all between its ends
  pub covers : (u v w : ℕ) → IsVertex g u → IsVertex g v → IsVertex g w → place o u < place o v → place o v < place o w → IsNeighbour g u w → IsNeighbour g u v × IsNeighbour g v w
  covers u v w vu vv vw a b e =
      let bu = back u vu in
      let bv = back v vv in
      let bw = back w vw in
      let outer : IsNeighbour g (get_or o (place o u) 0) (get_or o (place o w) 0) = rw (bu.1, bw.1) e in
      let inner = r.under (place o u) (place o v) (place o w) a b bw.0 outer in
      (rw (bu.1, bv.1) at inner.0, rw (bv.1, bw.1) at inner.1)

  -- a walk from a vertex passes all between its ends, each after at most as many edges
  pub reaches : (f w : ℕ) → IsVertex g w → place o f ≤ place o w → (j x : ℕ) → IsVertex g x → place o w ≤ place o x → Walks g j f x →
      (i : ℕ) × ((i ≤ j) × Walks g i f w)
  reaches f w vw a zero x vx b e = (0, (omega arith, place-inj o f w (omega (arith, a, b, ap (place o) e))))
  reaches f w vw a (suc j) x vx b t =
      let y = t.0 in
      elim (cases_lt (place o y) (place o w)) [
        | inr l ↦ let s = reaches f w vw a j y t.1.0 l t.1.1 in (s.0, (omega (arith, s.1.0), s.1.1))
        | inl l ↦ elim (cases_eq (place o w) (place o x)) [
          | inl e ↦ (suc j, (omega arith, (y, (t.1.0, t.1.1, subst (λ z. IsNeighbour g y z) (sym (place-inj o w x e)) t.1.2))))
          | inr n ↦ (suc j, (omega arith, (y, (t.1.0, t.1.1, (covers y w x t.1.0 vw vx l (omega (arith, b, n)) t.1.2).0))))
        ]
      ]

  -- no walk leads over a cut
  pub cut_walk : (i : ℕ) → IsCut g o i → (a : ℕ) → place o a < i → (k b : ℕ) → IsVertex g b → Walks g k a b → place o b < i
  cut_walk i c a l zero b vb e = omega (arith, l, ap (place o) e)
  cut_walk i c a l (suc k) b vb t = c t.0 b t.1.0 vb (cut_walk i c a l k t.0 t.1.0 t.1.1) t.1.2

  -- where a vertex has no neighbour before it, there is a cut
  pub cut_there : (i v : ℕ) → IsVertex g v → place o v ≡ i → HasNoneBefore g o i v → IsCut g o i
  cut_there i v vv at none x y vx vy l e =
      elim (cases_lt (place o y) i) [
        | inl k ↦ k
        | inr k ↦ elim (cases_eq (place o y) i) [
          | inl s ↦
              let same : y ≡ v = place-inj o y v (omega (arith, s, at)) in
              absurd (omega (arith, l, none x vx (subst (λ z. IsNeighbour g x z) same e)))
          | inr n ↦ absurd (omega (arith, l, none x vx (covers x v y vx vv vy (omega (arith, l, at)) (omega (arith, k, n, at)) e).0))
        ]
      ]

  pub cut_whole : IsCut g o (length o)
  cut_whole x y vx vy l e = (back y vy).0

  -- a vertex is in one component
  pub one_first : (e f v : ℕ) → IsFirstOf g o e v → IsFirstOf g o f v → e ≡ f
  one_first e f v a b = place-inj o e f (omega (arith, a.first f b.walk.0 b.vertex b.walk.1, b.first e a.walk.0 a.vertex a.walk.1))

  pub one_distance : (f v j k : ℕ) → IsDistance g f v j → IsDistance g f v k → j ≡ k
  one_distance f v j k a b = omega (arith, a.least k b.walk, b.least j a.walk)

  -- a vertex with no neighbour before it is the first of its component
  pub first_itself : (i v : ℕ) → IsVertex g v → place o v ≡ i → IsCut g o i → IsFirstOf g o v v
  first_itself i v vv at c = record {
    vertex = vv;
    walk = (0, refl);
    first = λ u k vu t. elim (cases_lt (place o u) i) [
      | inl l ↦ absurd (omega (arith, at, cut_walk i c u l k v vv t))
      | inr l ↦ omega (arith, at, l)
    ];
  }

  pub no_distance : (v : ℕ) → IsDistance g v v 0
  no_distance v = record { walk = refl; least = λ j t. omega arith }

  -- a vertex has the layer after that of its first neighbour
  pub first_as : (i u v f : ℕ) → IsVertex g v → IsFirstBefore g o i u v → IsFirstOf g o f u → IsFirstOf g o f v
  first_as i u v f vv e a = record {
    vertex = a.vertex;
    walk = (suc a.walk.0, (u, (e.vertex, a.walk.1, e.joined)));
    first = λ w k vw t. a.first w (suc k) vw (v, (vv, t, turned u v e.vertex vv e.joined));
  }

  pub distance_as : (i u v f t : ℕ) → IsVertex g v → place o v ≡ i → IsFirstBefore g o i u v → IsFirstOf g o f u → IsDistance g f u t → IsDistance g f v (t + 1)
  distance_as i u v f t vv at e a d = record {
    walk = let more : t + 1 ≡ suc t = omega arith in subst (λ k. Walks g k f v) (sym more) (u, (e.vertex, d.walk, e.joined));
    least = λ j w. least_as j w;
  } where
    least_as : (j : ℕ) → Walks g j f v → t + 1 ≤ j
    least_as zero s = absurd (omega (arith, a.first u 0 e.vertex refl, ap (place o) s, e.before, at))
    least_as (suc j) s =
        let before = reaches f u e.vertex (a.first u 0 e.vertex refl) j s.0 s.1.0 (e.first s.0 s.1.0 s.1.2) s.1.1 in
        omega (arith, before.1.0, d.least before.0 before.1.1)

  -- the layers of a component rise along the order, by at most one over an edge
  pub layers_rise : (f a b s t : ℕ) → IsVertex g a → IsVertex g b → IsFirstOf g o f a → IsDistance g f a s → IsDistance g f b t → place o a ≤ place o b → s ≤ t
  layers_rise f a b s t va vb first da db l =
      let before = reaches f a va (first.first a 0 va refl) t b vb l db.walk in
      omega (arith, before.1.0, da.least before.0 before.1.1)

  pub layers_next : (f a b s t : ℕ) → IsVertex g a → IsDistance g f a s → IsDistance g f b t → IsNeighbour g a b → t ≤ s + 1
  layers_next f a b s t va da db e = omega (arith, db.least (suc s) (a, (va, da.walk, e)))

  -- the vertices of a layer are adjacent
  pub layer_joined : (f a b t : ℕ) → IsVertex g a → IsVertex g b → IsFirstOf g o f a → IsDistance g f a t → IsDistance g f b t → place o a < place o b → IsNeighbour g a b
  layer_joined f a b zero va vb first da db l = absurd (omega (arith, l, ap (place o) (sym da.walk ∙ db.walk)))
  layer_joined f a b (suc t) va vb first da db l =
      let w = db.walk.0 in
      let dw : IsDistance g f w t = record { walk = db.walk.1.1; least = λ j s. omega (arith, db.least (suc j) (w, (db.walk.1.0, s, db.walk.1.2))) } in
      elim (cases_lt (place o w) (place o a)) [
        | inl k ↦ (covers w a b db.walk.1.0 va vb k l db.walk.1.2).1
        | inr k ↦ absurd (omega (arith, layers_rise f a w (suc t) t va db.walk.1.0 first da dw k))
      ]

  -- after the first neighbour of a vertex, all vertices before it are its neighbours
  pub joined_from : (i u v b : ℕ) → IsVertex g v → place o v ≡ i → IsFirstBefore g o i u v → IsVertex g b → place o u ≤ place o b → place o b < i → IsNeighbour g b v
  joined_from i u v b vv at e vb l k =
      elim (cases_eq (place o u) (place o b)) [
        | inl s ↦ subst (λ z. IsNeighbour g z v) (place-inj o u b s) e.joined
        | inr n ↦ (covers u b v e.vertex vb vv (omega (arith, l, n)) (omega (arith, k, at)) e.joined).1
      ]

  -- a vertex of its layer is a neighbour of its first neighbour
  pub first_joined : (i u v f a t : ℕ) → IsVertex g v → place o v ≡ i → IsFirstBefore g o i u v → IsVertex g a → place o a < i → IsFirstOf g o f a → IsDistance g f a (t + 1) → IsDistance g f u t → IsNeighbour g u a
  first_joined i u v f a t vv at e va k first da du =
      elim (cases_lt (place o u) (place o a)) [
        | inl l ↦ (covers u a v e.vertex va vv l (omega (arith, k, at)) e.joined).0
        | inr l ↦ absurd (omega (arith, layers_rise f a u (t + 1) t va e.vertex first da du l))
      ]
