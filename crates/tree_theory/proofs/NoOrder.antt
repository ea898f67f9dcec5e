-- Where no template fits, some pair is related to itself with its columns exchanged, so no order is left.
use Rattle.std.proofs.Common.{◌≡◌, ◌∙◌, ◌+◌, ◌≤◌, ℕ, true, false, List, [], ◌∷◌, ◌++◌, length, Some, None, IsTrue, IsFalse, refl, sym, ap, subst, inl, inr, arith}
use Rattle.std.proofs.lemmas.Bool.{both_ways}
use Rattle.row_model.specs.declared.graph.Pair.{Pair}
use Rattle.column_order.specs.Orders.{has, occurs}
use Rattle.row_model.specs.Graph.{pair, Joined, Evenly, HasConflict}
use Rattle.column_order.proofs.Lists.{has_append_cases, has_append_left, has_append_right, occurs-append, occurs_from_has, has_from_occurs, lacks_from_occurs}
use Rattle.pq_tree.specs.Outline.{Outline, Forest, leaf, p_node, q_node, no_tree, tree_and, leaves, leaves_of}
use Rattle.pq_tree.specs.Proper.{HasArities, HaveArities, IsProper}
use Rattle.tree_theory.specs.Tied.{IsForward, IsTied}
use Rattle.tree_theory.proofs.Bound.{IsClosed, AreClosed, IsBound, AreBound, IsPairEq, line_closed, bound_mono}
use Rattle.tree_theory.proofs.Bridge.{evenly_eq, last_row_closed}
use Rattle.tree_theory.proofs.Exact.{tied_bound}
use Rattle.column_order.proofs.Counts.{order_once}
use Rattle.pq_tree.specs.Forests.{join, count}
use Rattle.pq_tree.specs.Nodes.{IsNode, IsNodeOf}
use Rattle.pq_tree.proofs.Forests.{has_join_cases, some_leaf}
use Rattle.row_model.proofs.Walks.{joined-append, conflict_from, evenly-mono}
use Rattle.tree_theory.specs.Labels.{Partial, Label, empty_trees, full_trees, partials, first_of}
use Rattle.tree_theory.proofs.Computed.{root_p, all_empty, full_more, before_more, begins, tail_of, span_of, root_q, at_span, p_outcome, q_outcome}
use Rattle.tree_theory.proofs.Lines.{IsParted, parted_occurs, has_parted_cases, closed_right}
use Rattle.tree_theory.proofs.BelowRoot.{AreEmpty, AreFull}
use Rattle.tree_theory.proofs.Conflicts.{three_partial, hole}
use Rattle.tree_theory.proofs.NodeTemplates.{sort}
use Rattle.tree_theory.proofs.RootTemplates.{span_is, p_outcome_some, q_outcome_some}
use Rattle.tree_theory.proofs.Failed.{Crossed, and_then_none, after_none, no_value, labels_long, cond_none, AllOutside, labels_failed, in_left, in_right, both_leaves, forward_first}
use Rattle.tree_theory.proofs.Meaning.{labelled_empty, labelled_full, labelled_partial, AreLabelled, none_labelled, more_labelled, ArePartial, no_partial, a_partial, IsAtMostOne, no_such, one_such, Misses, AllMiss, IsRoot, miss_right, miss_after, SpanParts, span_parts, parts}
use Rattle.tree_theory.proofs.Sound.{labels_sound, lowest_root_p, lowest_root_q, node_arities, node_occurs}
use Rattle.tree_theory.specs.Refused.{IsUnfitRoot, IsStuck, IsRefused}
use Rattle.tree_theory.specs.Outcomes.{IsLowest}
use Rattle.pq_tree.proofs.Nodes.{node_within}

some_full_column : (row : List ℕ) (ts : Forest) (ps : List Label) → AreLabelled row ts ps → HaveArities ts → IsFalse (all_empty ps) → (g : ℕ) × IsTrue (has (leaves_of ts) g) × IsTrue (has row g)
some_full_column row ts ps none_labelled c e = absurd (both_ways true e refl)
some_full_column row ts ps (more_labelled {t = t} {ts = us} {ps = qs} (labelled_empty k) m) c e =
    let w : (g : ℕ) × IsTrue (has (leaves_of us) g) × IsTrue (has row g) = some_full_column row us qs m c.1 e in (w.0, has_append_right (leaves t) (leaves_of us) w.0 w.1, w.2)
some_full_column row ts ps (more_labelled {t = t} {ts = us} (labelled_full k) m) c e =
    let w : (a : ℕ) × IsTrue (has (leaves t) a) = some_leaf t c.0 in (w.0, has_append_left (leaves t) (leaves_of us) w.0 w.1, k w.0 w.1)
some_full_column row ts ps (more_labelled {t = t} {ts = us} (labelled_partial h k) m) c e =
    (k.some_full.0, has_append_left (leaves t) (leaves_of us) k.some_full.0 (in_right row t h k k.some_full.0 k.some_full.1), k.full k.some_full.0 k.some_full.1)

-- a pair that goes forward from a column outside the row to one of it
pub record Climbs (row : List ℕ) (ts : Forest) : Type 0 where
  pub v : Pair
  pub forward : IsForward ts v
  pub from_empty : IsFalse (has row v.a)
  pub to_full : IsTrue (has row v.b)

-- behind a further tree
abbrev later_climbs : {row : List ℕ} {ts : Forest} (t : Outline) → Climbs row ts → Climbs row (tree_and t ts)
later_climbs t w = record { v = w.v; forward = inr w.forward; from_empty = w.from_empty; to_full = w.to_full }

tail_climbs : (row : List ℕ) (ts : Forest) (ps : List Label) → AreLabelled row ts ps → HaveArities ts → tail_of ts ps ≡ None → Climbs row ts
tail_climbs row ts ps none_labelled c e = cc
tail_climbs row ts ps (more_labelled {t = t} {ts = us} {ps = qs} (labelled_empty k) m) c e =
    let w : (g : ℕ) × IsTrue (has (leaves_of us) g) × IsTrue (has row g) = some_full_column row us qs m c.1 (cond_none (all_empty qs) (record { middle = no_tree; right = []; behind = tree_and t us }) e) in
    let l : (a : ℕ) × IsTrue (has (leaves t) a) = some_leaf t c.0 in
    record { v = pair l.0 w.0; forward = inl (l.1, w.1); from_empty = k l.0 l.1; to_full = w.2 }
tail_climbs row ts ps (more_labelled {t = t} {ts = us} {ps = qs} (labelled_full k) m) c e =
    later_climbs t (tail_climbs row us qs m c.1 (after_none (full_more t) (tail_of us qs) e))
tail_climbs row ts ps (more_labelled {t = t} {ts = us} {ps = qs} (labelled_partial h k) m) c e =
    let w : (g : ℕ) × IsTrue (has (leaves_of us) g) × IsTrue (has row g) = some_full_column row us qs m c.1 (cond_none (all_empty qs) (record { middle = no_tree; right = h ∷ []; behind = us }) e) in
    record { v = pair k.some_empty.0 w.0; forward = inl (in_left row t h k k.some_empty.0 k.some_empty.1, w.1); from_empty = k.empty k.some_empty.0 k.some_empty.1; to_full = w.2 }

-- a full column, then an empty one, then a full one
pub record HasHole (row : List ℕ) (ts : Forest) : Type 0 where
  pub f : ℕ
  pub up : Climbs row ts
  pub before : IsForward ts (pair f up.v.a)
  pub full : IsTrue (has row f)

span_hole : (row : List ℕ) (ts : Forest) (ps : List Label) → AreLabelled row ts ps → HaveArities ts → span_of ts ps ≡ None → HasHole row ts
span_hole row ts ps none_labelled c e = cc
span_hole row ts ps (more_labelled {t = t} {ts = us} {ps = qs} (labelled_empty k) m) c e =
    let w : HasHole row us = span_hole row us qs m c.1 (after_none (before_more t) (span_of us qs) e) in record { f = w.f; up = later_climbs t w.up; before = inr w.before; full = w.full }
span_hole row ts ps (more_labelled {t = t} {ts = us} {ps = qs} (labelled_full k) m) c e =
    let w : Climbs row us = tail_climbs row us qs m c.1 (after_none (λ r. begins [] (full_more t r)) (tail_of us qs) e) in
    let l : (a : ℕ) × IsTrue (has (leaves t) a) = some_leaf t c.0 in
    record { f = l.0; up = later_climbs t w; before = inl (l.1, forward_first us w.v w.forward); full = k l.0 l.1 }
span_hole row ts ps (more_labelled {t = t} {ts = us} {ps = qs} (labelled_partial h k) m) c e =
    let w : Climbs row us = tail_climbs row us qs m c.1 (after_none (begins (h ∷ [])) (tail_of us qs) e) in
    record { f = k.some_full.0; up = later_climbs t w; before = inl (in_right row t h k k.some_full.0 k.some_full.1, forward_first us w.v w.forward); full = k.full k.some_full.0 k.some_full.1 }

module _ (row : List ℕ) where
  -- the pertinent root's only child that meets the row would hold it
  lone : (es gs : Forest) (u : Outline) → AreEmpty row es → AreEmpty row gs → Misses row (leaves u) → ((a : ℕ) → IsTrue (has row a) → IsTrue (has (leaves_of (join es (tree_and u gs))) a)) → ⊥
  lone es gs u ee gg m within =
      elim (has_join_cases es (tree_and u gs) m.0 (within m.0 m.1)) [
        | inl k ↦ both_ways (has row m.0) (ee m.0 k) m.1
        | inr k ↦ elim (has_append_cases (leaves u) (leaves_of gs) m.0 k) [ inl i ↦ both_ways (has (leaves u) m.0) m.2 i | inr i ↦ both_ways (has row m.0) (gg m.0 i) m.1 ]
      ]

  lone_left : (es us gs : Forest) (h : Partial) → IsAtMostOne row us (Some h) → AreEmpty row es → AreEmpty row gs → AllMiss row (join es (join us gs)) →
      ((a : ℕ) → IsTrue (has row a) → IsTrue (has (leaves_of (join es (join us gs))) a)) → ⊥
  lone_left es us gs h (one_such {t = u} k part) ee gg ms within = lone es gs u ee gg (miss_after row es (tree_and u gs) ms).0 within

  none_left : (us : Forest) → IsAtMostOne row us None → us ≡ no_tree
  none_left us no_such = refl

  -- a single partial child with no full one isn't at the pertinent root
  pub root_q_failed : (hs ks : List Partial) (fs es gs ts : Forest) → SpanParts row ts es (first_of hs) fs (first_of ks) gs → IsRoot row ts → root_q hs ks fs es gs ts ≡ None → ⊥
  root_q_failed [] [] fs es gs ts m root e = cc
  root_q_failed (h ∷ hs) [] no_tree es gs ts m root e =
      let j : join es (join m.us gs) ≡ ts = sym (ap (λ ws. join es (join m.us (join ws gs))) (none_left m.ws m.right)) ∙ m.is in
      let here : IsRoot row (join es (join m.us gs)) = subst (IsRoot row) (sym j) root in
      lone_left es m.us gs h m.left m.before m.behind here.lowest here.within
  root_q_failed (h ∷ hs) [] (tree_and f fs) es gs ts m root e = cc
  root_q_failed [] (k ∷ ks) no_tree es gs ts m root e =
      let j : join es (join m.ws gs) ≡ ts = sym (ap (λ us. join es (join us (join m.ws gs))) (none_left m.us m.left)) ∙ m.is in
      let here : IsRoot row (join es (join m.ws gs)) = subst (IsRoot row) (sym j) root in
      lone_left es m.ws gs k m.right m.before m.behind here.lowest here.within
  root_q_failed [] (k ∷ ks) (tree_and f fs) es gs ts m root e = cc
  root_q_failed (h ∷ hs) (k ∷ ks) fs es gs ts m root e = cc

module _ (R : Pair → Pair → Type 0) (eq : IsPairEq R) (row : List ℕ) where
  outsides : (l : List ℕ) (ts : Forest) → AreClosed R l ts → IsClosed R l row → ((a : ℕ) → IsTrue (has (leaves_of ts) a) → IsTrue (has l a)) → ((a : ℕ) → IsTrue (has row a) → IsTrue (has l a)) →
      AllMiss row ts → AllOutside R eq row ts
  outsides l no_tree c cr sub within m = tt
  outsides l (tree_and t ts) c cr sub within m =
      let it : (a : ℕ) → IsTrue (has (leaves t) a) → IsTrue (has l a) = λ a k. sub a (has_append_left (leaves t) (leaves_of ts) a k) in (
        (
          m.0.0,
          m.0.1,
          m.0.2,
          record {
            closed = λ a b ta tb. c.0 a b m.0.0 ta tb (within m.0.0 m.0.1) m.0.2;
            rowed = λ e f te re tf rf. cr f m.0.0 e rf m.0.1 (it e te) re;
          },
        ),
        (λ a b d i j k n. cr a b d i j (it d k) n),
        outsides l ts c.1 cr (λ a k. sub a (has_append_right (leaves t) (leaves_of ts) a k)) within m.1,
      )

  root_p_failed : (ts es rs fs us : Forest) (hs : List Partial) → IsParted ts es rs → IsParted rs fs us → AreEmpty row es → AreFull row fs → ArePartial row us hs → AreClosed R (leaves_of ts) us → AllMiss row us →
      IsClosed R (leaves_of ts) row → ((a : ℕ) → occurs (leaves_of ts) a ≤ 1) → ((a : ℕ) → IsTrue (has row a) → IsTrue (has (leaves_of ts) a)) → (c : ℕ) → IsTrue (has row c) → root_p hs es fs ts ≡ None → Crossed R
  root_p_failed ts no_tree rs fs us hs f s ee ff no_partial cs ms cr once within c hc e = cc
  root_p_failed ts (tree_and t es) rs no_tree us hs f s ee ff no_partial cs ms cr once within c hc e =
      absurd
      (elim (has_parted_cases f c (within c hc)) [
        | inl k ↦ both_ways (has row c) (ee c k) hc
        | inr k ↦ elim (has_parted_cases s c k) [ inl j ↦ both_ways false refl j | inr j ↦ both_ways false refl j ]
      ])
  root_p_failed ts (tree_and t es) rs (tree_and g fs) us hs f s ee ff no_partial cs ms cr once within c hc e = cc
  root_p_failed ts es rs no_tree us hs f s ee ff (a_partial {t = u} part no_partial) cs ms cr once within c hc e =
      absurd
      (elim (has_parted_cases f ms.0.0 (within ms.0.0 ms.0.1)) [
        | inl k ↦ both_ways (has row ms.0.0) (ee ms.0.0 k) ms.0.1
        | inr k ↦ elim (has_parted_cases s ms.0.0 k) [
          | inl j ↦ both_ways false refl j
          | inr j ↦ elim (has_append_cases (leaves u) [] ms.0.0 j) [ inl i ↦ both_ways (has (leaves u) ms.0.0) ms.0.2 i | inr i ↦ both_ways false refl i ]
        ]
      ])
  root_p_failed ts es rs (tree_and g fs) us hs f s ee ff (a_partial part no_partial) cs ms cr once within c hc e = cc
  root_p_failed ts es rs fs us hs f s ee ff (a_partial part (a_partial part2 no_partial)) cs ms cr once within c hc e = cc
  root_p_failed ts es rs fs us hs f s ee ff (a_partial {t = u} {h = h} part (a_partial {t = w} {h = k} part2 (a_partial {t = z} {ts = vs} {h = j} part3 m))) cs ms cr once within c hc e =
      let x = both_leaves row u h part in
      let y = both_leaves row w k part2 in
      let v = both_leaves row z j part3 in
      let sum : (a : ℕ) → occurs (leaves u) a + (occurs (leaves w) a + occurs (leaves z) a) ≤ 1 =
      λ a. omega (arith, once a, parted_occurs f a, parted_occurs s a, occurs-append (leaves u) (leaves w ++ (leaves z ++ leaves_of vs)) a, occurs-append (leaves w) (leaves z ++ leaves_of vs) a, occurs-append (leaves z) (leaves_of vs) a) in
      let in_ts : (a : ℕ) → 1 ≤ occurs (leaves u) a + (occurs (leaves w) a + occurs (leaves z) a) → IsTrue (has (leaves_of ts) a) =
      λ a l. has_from_occurs (leaves_of ts) a (omega (arith, l, parted_occurs f a, parted_occurs s a, occurs-append (leaves u) (leaves w ++ (leaves z ++ leaves_of vs)) a, occurs-append (leaves w) (leaves z ++ leaves_of vs) a, occurs-append (leaves z) (leaves_of vs) a)) in
      let iu : (a : ℕ) → IsTrue (has (leaves u) a) → IsTrue (has (leaves_of ts) a) = λ a l. in_ts a (omega (arith, occurs_from_has (leaves u) a l)) in
      let iw : (a : ℕ) → IsTrue (has (leaves w) a) → IsTrue (has (leaves_of ts) a) = λ a l. in_ts a (omega (arith, occurs_from_has (leaves w) a l)) in
      let iz : (a : ℕ) → IsTrue (has (leaves z) a) → IsTrue (has (leaves_of ts) a) = λ a l. in_ts a (omega (arith, occurs_from_has (leaves z) a l)) in
      let u2 : IsFalse (has (leaves u) part2.some_full.0) = lacks_from_occurs (leaves u) part2.some_full.0 (omega (arith, sum part2.some_full.0, occurs_from_has (leaves w) part2.some_full.0 y.1)) in
      let u3 : IsFalse (has (leaves u) part3.some_full.0) = lacks_from_occurs (leaves u) part3.some_full.0 (omega (arith, sum part3.some_full.0, occurs_from_has (leaves z) part3.some_full.0 v.1)) in
      let w1 : IsFalse (has (leaves w) part.some_full.0) = lacks_from_occurs (leaves w) part.some_full.0 (omega (arith, sum part.some_full.0, occurs_from_has (leaves u) part.some_full.0 x.1)) in
      let w3 : IsFalse (has (leaves w) part3.some_full.0) = lacks_from_occurs (leaves w) part3.some_full.0 (omega (arith, sum part3.some_full.0, occurs_from_has (leaves z) part3.some_full.0 v.1)) in
      let z1 : IsFalse (has (leaves z) part.some_full.0) = lacks_from_occurs (leaves z) part.some_full.0 (omega (arith, sum part.some_full.0, occurs_from_has (leaves u) part.some_full.0 x.1)) in
      let z2 : IsFalse (has (leaves z) part2.some_full.0) = lacks_from_occurs (leaves z) part2.some_full.0 (omega (arith, sum part2.some_full.0, occurs_from_has (leaves w) part2.some_full.0 y.1)) in
      record {
        a = part2.some_full.0;
        b = part.some_full.0;
        differ = λ e. both_ways (has (leaves u) part.some_full.0) (subst (λ a. IsFalse (has (leaves u) a)) e u2) x.1;
        turned =
            three_partial R eq row (leaves_of ts) (leaves u) (leaves w) (leaves z) cr cs.0 cs.1.0 cs.1.1.0
            part.some_empty.0 part.some_full.0 part2.some_empty.0 part2.some_full.0 part3.some_empty.0 part3.some_full.0 x.0 x.1 y.0 y.1 v.0 v.1
            (part.empty part.some_empty.0 part.some_empty.1) (part.full part.some_full.0 part.some_full.1) (part2.empty part2.some_empty.0 part2.some_empty.1) (part2.full part2.some_full.0 part2.some_full.1)
            (part3.empty part3.some_empty.0 part3.some_empty.1) (part3.full part3.some_full.0 part3.some_full.1)
            (iu part.some_empty.0 x.0) (iu part.some_full.0 x.1) (iw part2.some_empty.0 y.0) (iw part2.some_full.0 y.1) (iz part3.some_empty.0 v.0) (iz part3.some_full.0 v.1) u2 u3 w1 w3 z1 z2;
      }

  -- the row has a column, since a child of the pertinent root lacks one
  some_column : (ts : Forest) → 1 ≤ count ts → AllMiss row ts → (c : ℕ) × IsTrue (has row c)
  some_column no_tree n ms = absurd (omega arith)
  some_column (tree_and t ts) n ms = (ms.0.0, ms.0.1)

  -- no template fits at the pertinent root
  p_root_failed : (ts : Forest) → IsBound R (p_node ts) → IsClosed R (leaves_of ts) row → HasArities (p_node ts) → ((a : ℕ) → occurs (leaves_of ts) a ≤ 1) → IsRoot row ts → IsUnfitRoot row (p_node ts) → Crossed R
  p_root_failed ts b cr n once root h =
      let m : AreLabelled row ts h.0 = labels_sound row ts h.0 n.1 once h.1 in
      let long : length h.0 ≡ count ts = labels_long row ts h.0 h.1 in
      let g = parts row (sort ts h.0 long) m in
      let c : (c : ℕ) × IsTrue (has row c) = some_column ts (omega (arith, n.0)) root.lowest in
      root_p_failed ts (empty_trees ts h.0) g.rest (full_trees ts h.0) g.us (partials h.0) g.first g.second g.empty g.full g.partial
      (closed_right R (leaves_of ts) g.second (closed_right R (leaves_of ts) g.first b.0)) (miss_right row g.second (miss_right row g.first root.lowest)) cr once root.within c.0 c.1
      (no_value (p_outcome ts h.0) (λ u e. h.2 u (p_outcome_some ts h.0 u long e)))

  q_root_failed : (ts : Forest) → IsBound R (q_node ts) → IsClosed R (leaves_of ts) row → HasArities (q_node ts) → ((a : ℕ) → occurs (leaves_of ts) a ≤ 1) → IsRoot row ts → IsUnfitRoot row (q_node ts) → Crossed R
  q_root_failed ts b cr n once root h =
      let m : AreLabelled row ts h.0 = labels_sound row ts h.0 n.1 once h.1 in
      let long : length h.0 ≡ count ts = labels_long row ts h.0 h.1 in
      elim (and_then_none (at_span ts) (span_of ts h.0) (no_value (q_outcome ts h.0) (λ u e. h.2 u (q_outcome_some ts h.0 u long e)))) [
        | inl i ↦
            let x : HasHole row ts = span_hole row ts h.0 m n.1 i in
            record {
              a = x.up.v.a;
              b = x.up.v.b;
              differ = λ z. both_ways (has row x.up.v.b) (subst (λ y. IsFalse (has row y)) z x.up.from_empty) x.up.to_full;
              turned =
                  hole R eq row ts b.0 cr x.f x.up.v.a x.up.v.b x.before x.up.forward x.full x.up.to_full x.up.from_empty (forward_first ts x.up.v x.up.forward);
            }
        | inr i ↦ absurd (
            root_q_failed row i.0.left i.0.tail.right i.0.tail.middle i.0.before i.0.tail.behind ts
            (span_parts row (span_is ts h.0 i.0 (sort ts h.0 long) i.1) m) root i.2
            )
      ]

  -- Where no template fits at the pertinent root or at a node below it, a pair is related to itself with its columns exchanged.
  stuck_crossed : (x : Outline) → IsBound R x → IsClosed R (leaves x) row → HasArities x → ((a : ℕ) → occurs (leaves x) a ≤ 1) → IsLowest row x → IsStuck row x → Crossed R
  stuck_crossed (leaf a) b cr n once w h = absurd (elim h [ inl k ↦ k | inr k ↦ k.1 ])
  stuck_crossed (p_node ts) b cr n once w h =
      let root : IsRoot row ts = lowest_root_p row ts w in
      elim h [
        | inl k ↦ p_root_failed ts b cr n once root k
        | inr k ↦ labels_failed R eq row ts k.0 (outsides (leaves_of ts) ts b.0 cr (λ a i. i) root.within root.lowest) b.1 n.1 once k.1 k.2
      ]
  stuck_crossed (q_node ts) b cr n once w h =
      let root : IsRoot row ts = lowest_root_q row ts w in
      elim h [
        | inl k ↦ q_root_failed ts b cr n once root k
        | inr k ↦ labels_failed R eq row ts k.0 (outsides (leaves_of ts) ts (line_closed R eq ts b.0) cr (λ a i. i) root.within root.lowest) b.1 n.1 once k.1 k.2
      ]

-- a node of a bound tree is bound
mutual
  node_bound : (R : Pair → Pair → Type 0) (x t : Outline) → IsNode x t → IsBound R t → IsBound R x
  node_bound R x (leaf a) n b = subst (IsBound R) (sym n) tt
  node_bound R x (p_node ts) n b = elim n [ inl e ↦ subst (IsBound R) (sym e) b | inr k ↦ nodes_bound R x ts k b.1 ]
  node_bound R x (q_node ts) n b = elim n [ inl e ↦ subst (IsBound R) (sym e) b | inr k ↦ nodes_bound R x ts k b.1 ]

  nodes_bound : (R : Pair → Pair → Type 0) (x : Outline) (ts : Forest) → IsNodeOf x ts → AreBound R ts → IsBound R x
  nodes_bound R x no_tree n b = absurd n
  nodes_bound R x (tree_and t ts) n b = elim n [ inl k ↦ node_bound R x t k b.0 | inr k ↦ nodes_bound R x ts k b.1 ]

-- A row for which no template fits at some node gives a conflict in the rows with this one.
pub refused_conflict : (c : ℕ) (rows : List (List ℕ)) (row : List ℕ) (t : Outline) → IsProper c t → IsTied c rows t →
    ((a : ℕ) → IsTrue (has row a) → IsTrue (has (leaves t) a)) → IsRefused row t → HasConflict c (rows ++ row ∷ [])
refused_conflict c rows row t w tied within h =
    let x : Outline = h.0 in
    let more : IsBound (Evenly c (rows ++ row ∷ [])) t =
    bound_mono (Evenly c rows) (Evenly c (rows ++ row ∷ [])) (λ v w h. evenly-mono (Joined c rows) (Joined c (rows ++ row ∷ [])) (joined-append c rows (row ∷ [])) v w h) t (tied_bound c rows t tied) in
    let closed : IsClosed (Evenly c (rows ++ row ∷ [])) (leaves t) row = last_row_closed c rows row (leaves t) w.1 within in
    let k : Crossed (Evenly c (rows ++ row ∷ [])) =
    stuck_crossed (Evenly c (rows ++ row ∷ [])) (evenly_eq c (rows ++ row ∷ [])) row x (node_bound (Evenly c (rows ++ row ∷ [])) x t h.1.node more)
    (λ a b d ra rb xd rd. closed a b d ra rb (node_within x t h.1.node d xd) rd)
    (node_arities x t h.1.node w.0) (λ a. omega (arith, order_once c (leaves t) w.1 a, node_occurs x t h.1.node a)) (h.1.whole, h.1.smallest) h.2 in
    conflict_from c (rows ++ row ∷ []) k.a k.b k.differ k.turned
