-- How far each vertex reaches in an umbrella order, by the positions of its neighbours.
use Rattle.std.proofs.Common.{◌≡◌, ◌∙◌, ℕ, ◌+◌, ◌-◌, ◌<◌, ◌≤◌, max, List, [], ◌∷◌, ◌++◌, length, get_or, sym, ap, subst, below_more, inl, inr, arith}
use Rattle.std.proofs.lemmas.Bool.{cases_lt}
use Rattle.std.proofs.lemmas.List.Elements.{All-get_or}
use Rattle.std.proofs.lemmas.List.{get_or_append_left, get_or-append_right}
use Rattle.column_order.specs.Orders.{place, IsOrder, IsWithin}
use Rattle.column_order.proofs.Lists.{at_place, has_at, place_at}
use Rattle.column_order.proofs.Counts.{order_has, order_length, order_once, order_within}
use Rattle.row_model.specs.Rows.{IsRow}
use Rattle.row_model.proofs.Ascending.{row_within}
use Rattle.row_model.specs.Positions.{position_of, ArePositions, IsSpan}
use Rattle.row_model.specs.declared.lists.Interval.{Interval}
use Rattle.row_model.specs.declared.lists.Span.{Span}
use Rattle.graph_model.specs.Graphs.{GraphValue, IsGraph}
use Rattle.proper_interval.specs.Models.{IsVertex, interval_of}
use Rattle.proper_interval.specs.Formula.{vertex_at, IsReach, AreIntervals, interval_at}
use Rattle.proper_interval.specs.Reaches.{ArePositionsOf, IsFarthest, IsIntervalBy}

-- the greatest of a position and a span's last
pub farthest_of : (positions neighbours : List ℕ) (position : ℕ) (span : Span) → IsSpan positions neighbours span → IsFarthest positions neighbours position (max position span.last)
farthest_of positions neighbours position span s = record {
  from = omega arith;
  reached = elim (cases_lt position span.last) [
    | inl l ↦ inr (s.to, (s.has_to, omega (arith, s.at_last)))
    | inr l ↦ inl (omega arith)
  ];
  whole = λ v k. omega (arith, (s.whole v k).1);
}

-- an interval at the end
kept_interval : (list : List Interval) (a : Interval) (k : ℕ) → k < length list → interval_of (list ++ a ∷ []) (k + 1) ≡ interval_of list (k + 1)
kept_interval list a k l =
    let at : k + 1 - 1 < length list = omega arith in
    get_or_append_left list (a ∷ []) (record { left = 0; right = 0 }) (k + 1 - 1) at

last_interval : (list : List Interval) (a : Interval) (k : ℕ) → length list ≡ k → interval_of (list ++ a ∷ []) (k + 1) ≡ a
last_interval list a k e =
    let none : Interval = record { left = 0; right = 0 } in
    let first : k + 1 - 1 - k ≡ 0 = omega arith in
    get_or-append_right list (a ∷ []) k (k + 1 - 1) none e (omega arith) ∙ ap (λ i. get_or (a ∷ []) i none) first

-- one interval more
pub one_more : (g : GraphValue) (positions : List ℕ) (list more : List Interval) (n : ℕ) (a : Interval) → length list ≡ n → more ≡ list ++ a ∷ [] →
    ((k : ℕ) → k < n → IsIntervalBy g positions (k + 1) (interval_of list (k + 1))) → IsIntervalBy g positions (n + 1) a →
    (k : ℕ) → k < n + 1 → IsIntervalBy g positions (k + 1) (interval_of more (k + 1))
one_more g positions list more n a long is before here =
    below_more (λ k. IsIntervalBy g positions (k + 1) (interval_of more (k + 1))) n
    (λ k l. subst (IsIntervalBy g positions (k + 1)) (sym (ap (λ xs. interval_of xs (k + 1)) is ∙ kept_interval list a k (omega arith))) (before k l))
    (subst (IsIntervalBy g positions (n + 1)) (sym (ap (λ xs. interval_of xs (n + 1)) is ∙ last_interval list a n long)) here)

-- there are as many positions as vertices
pub as_many : (g : GraphValue) (positions : List ℕ) → ArePositionsOf g positions → length positions ≡ g.vertices
as_many g positions p = p.places.columns ∙ order_length g.vertices p.o p.order

module _ (g : GraphValue) (o positions : List ℕ) (order : IsOrder g.vertices o) (p : ArePositions o positions) where
  long : length o ≡ g.vertices
  long = order_length g.vertices o order

  -- where a vertex stands
  pub record IsPlaced (v : ℕ) : Type 0 where
    pub from : 1 ≤ position_of positions v
    pub to : position_of positions v ≤ g.vertices
    pub back : vertex_at o (position_of positions v) ≡ v

  pub placed : (v : ℕ) → IsVertex g v → IsPlaced v
  placed v r =
      let there = order_has g.vertices o order v r.0 r.1 in
      let found = at_place o v there in
      let is = p.places v there in
      let at : position_of positions v - 1 ≡ place o v = omega (arith, is) in
      record {
        from = omega (arith, is);
        to = omega (arith, is, found.0, long);
        back = ap (λ i. get_or o i 0) at ∙ found.1;
      }

  -- the vertex at a position stands there
  at_position : (i : ℕ) → 1 ≤ i → i ≤ g.vertices → position_of positions (vertex_at o i) ≡ i
  at_position i l m =
      let inside : i - 1 < length o = omega (arith, long) in
      omega (arith, p.places (vertex_at o i) (has_at o (i - 1) inside), place_at o (order_once g.vertices o order) (i - 1) inside)

  pub vertex_there : (i : ℕ) → 1 ≤ i → i ≤ g.vertices → IsVertex g (vertex_at o i)
  vertex_there i l m = order_within g.vertices o order (vertex_at o i) (has_at o (i - 1) (omega (arith, long)))

  pub farthest_within : (neighbours : List ℕ) (position last : ℕ) → IsWithin g.vertices neighbours → position ≤ g.vertices → IsFarthest positions neighbours position last → last ≤ g.vertices
  farthest_within neighbours position last inside l f = elim f.reached [
    | inl e ↦ omega arith
    | inr w ↦ omega (arith, w.1.1, (placed w.0 (inside w.0 w.1.0)).to)
  ]

  farthest_reaches : (v last : ℕ) → IsVertex g v → IsWithin g.vertices (get_or g.neighbours (v - 1) []) → IsFarthest positions (get_or g.neighbours (v - 1) []) (position_of positions v) last →
      IsReach g o (position_of positions v) last
  farthest_reaches v last r inside f =
      let here = placed v r in
      record {
        from = f.from;
        to = farthest_within (get_or g.neighbours (v - 1) []) (position_of positions v) last inside here.to f;
        reached = elim f.reached [
          | inl e ↦ inl e
          | inr w ↦
              let back : vertex_at o last ≡ w.0 = ap (vertex_at o) (sym w.1.1) ∙ (placed w.0 (inside w.0 w.1.0)).back in
              inr (rw (here.back, back) w.1.0)
        ];
        whole = λ j l m near. elim near [
          | inl e ↦ omega (arith, f.from)
          | inr e ↦
              let edge = rw here.back at e in
              omega (arith, f.whole (vertex_at o j) edge, at_position j (omega (arith, here.from)) m)
        ];
      }

  -- the interval of a vertex is that of its position
  interval_reaches : (v : ℕ) (a : Interval) → IsVertex g v → IsWithin g.vertices (get_or g.neighbours (v - 1) []) → IsIntervalBy g positions v a →
      (r : ℕ) × (IsReach g o (position_of positions v) r × (a ≡ interval_at g.vertices (position_of positions v) r))
  interval_reaches v a r inside by = (by.last, (farthest_reaches v by.last r inside by.farthest, by.is))

  -- the intervals of all vertices
  pub all_intervals : IsGraph g → (list : List Interval) → length list ≡ g.vertices → ((k : ℕ) → k < g.vertices → IsIntervalBy g positions (k + 1) (interval_of list (k + 1))) → AreIntervals g o list
  all_intervals h list count by = record {
    count = count;
    each = λ i l m.
        let v = vertex_at o i in
        let r = vertex_there i l m in
        let back : v - 1 + 1 ≡ v = omega (arith, r.0) in
        let its : IsIntervalBy g positions v (interval_of list v) = subst (λ x. IsIntervalBy g positions x (interval_of list x)) back (by (v - 1) (omega (arith, r.0, r.1))) in
        let inside : IsWithin g.vertices (get_or g.neighbours (v - 1) []) = row_within g.vertices (get_or g.neighbours (v - 1) []) (All-get_or (IsRow g.vertices) g.neighbours (v - 1) [] (omega (arith, r.0, r.1, h.lists)) h.ascending) in
        subst (λ x. (s : ℕ) × (IsReach g o x s × (interval_of list v ≡ interval_at g.vertices x s))) (at_position i l m) (interval_reaches v (interval_of list v) r inside its);
  }
