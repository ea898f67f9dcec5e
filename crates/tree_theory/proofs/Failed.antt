-- Where no template fits at a node below the pertinent root, some pair is related to itself with its columns exchanged.
use Rattle.std.proofs.Common.{◌≡◌, ◌≢◌, ◌⊎◌, ◌∙◌, ◌+◌, ◌≤◌, ℕ, Bool, true, false, cond, List, [], ◌∷◌, ◌++◌, reverse, Option, Some, None, IsTrue, IsFalse, refl, sym, subst, inl, inr, arith, option_and_then, length}
use Rattle.std.proofs.lemmas.Bool.{both_ways, false_from_ne_true}
use Rattle.row_model.specs.declared.graph.Pair.{Pair}
use Rattle.column_order.specs.Orders.{has, occurs}
use Rattle.row_model.specs.Graph.{pair}
use Rattle.column_order.proofs.Lists.{has_append_left, has_append_right, occurs-append, occurs_from_has, has_from_occurs, lacks_from_occurs, has_same}
use Rattle.pq_tree.specs.Outline.{Outline, Forest, leaf, p_node, q_node, no_tree, tree_and, leaves, leaves_of}
use Rattle.pq_tree.specs.Proper.{HasArities, HaveArities}
use Rattle.tree_theory.specs.Tied.{IsForward}
use Rattle.tree_theory.proofs.Bound.{IsClosed, AreClosed, IsBound, AreBound, IsPairEq}
use Rattle.pq_tree.specs.Forests.{join, back, count}
use Rattle.pq_tree.proofs.Forests.{has_join_left, has_join_right, some_leaf, arities_back}
use Rattle.tree_theory.specs.Labels.{Partial, Label, empty_trees, full_trees, partials}
use Rattle.tree_theory.proofs.Computed.{at_p, at_q, at_run, Run, run_of, all_full, one_more, first_some, p_label, q_label}
use Rattle.tree_theory.specs.Reduced.{AreLabels}
use Rattle.tree_theory.specs.Refused.{IsUnfit}
use Rattle.pq_tree.specs.Nodes.{IsNode, IsNodeOf}
use Rattle.tree_theory.proofs.Lines.{parted_occurs, closed_right}
use Rattle.tree_theory.proofs.BelowRoot.{IsOutside, Treated, outside_within}
use Rattle.tree_theory.proofs.QLines.{forward_back}
use Rattle.tree_theory.proofs.Conflicts.{two_partial, both_ends}
use Rattle.tree_theory.proofs.NodeTemplates.{sort, p_label_some, q_label_some}
use Rattle.tree_theory.proofs.Sound.{labels_sound}
use Rattle.tree_theory.proofs.Meaning.{labelled_empty, labelled_full, labelled_partial, AreLabelled, none_labelled, more_labelled, ArePartial, no_partial, a_partial, labelled_back, parts}

-- a pair of distinct columns that is related to itself with its columns exchanged
pub record Crossed (R : Pair → Pair → Type 0) : Type 0 where
  pub a : ℕ
  pub b : ℕ
  pub differ : a ≢ b
  pub turned : R (pair a b) (pair b a)

pub and_then_none : {X Y : Type 0} (f : X → Option Y) (o : Option X) → option_and_then f o ≡ None → (o ≡ None) ⊎ ((x : X) × (o ≡ Some x) × (f x ≡ None))
and_then_none f None e = inl refl
and_then_none f (Some x) e = inr (x, refl, e)

pub after_none : {X Y : Type 0} (f : X → Y) (o : Option X) → option_and_then (λ x. Some (f x)) o ≡ None → o ≡ None
after_none f None e = refl
after_none f (Some x) e = absurd (some_none (f x) e)
  where
    some_none : {Y : Type 0} (y : Y) → Some y ≡ None → ⊥
    some_none y e = cc

pub first_none : {X : Type 0} (o k : Option X) → first_some o k ≡ None → (o ≡ None) × (k ≡ None)
first_none (Some x) k e = cc
first_none None k e = (refl, e)

pub cond_none : {X : Type 0} (b : Bool) (x : X) → cond b (Some x) None ≡ None → IsFalse b
cond_none true x e = cc
cond_none false x e = refl

pub no_value : {X : Type 0} (o : Option X) → ((x : X) → o ≡ Some x → ⊥) → o ≡ None
no_value None h = refl
no_value (Some x) h = absurd (h x refl)

-- each tree has one label
pub labels_long : (row : List ℕ) (ts : Forest) (ps : List Label) → AreLabels row ts ps → length ps ≡ count ts
labels_long row no_tree [] h = refl
labels_long row no_tree (x ∷ ps) h = absurd h
labels_long row (tree_and t ts) [] h = absurd h
labels_long row (tree_and t ts) (x ∷ ps) h = omega (arith, labels_long row ts ps h.1)

at_run_some : (r : Run) (hs : List Partial) (es fs : Forest) → at_q hs es fs ≡ None → ⊥
at_run_some r [] no_tree fs e = cc
at_run_some r [] (tree_and g es) no_tree e = cc
at_run_some r [] (tree_and g es) (tree_and h fs) e = cc
at_run_some r (h ∷ hs) es fs e = cc

pub no_run : (o : Option Run) → option_and_then at_run o ≡ None → o ≡ None
no_run None e = refl
no_run (Some r) e = absurd (at_run_some r r.middle r.before r.behind e)

-- a pair that goes forward from a column of the row to one outside it
pub record Falls (row : List ℕ) (ts : Forest) : Type 0 where
  pub v : Pair
  pub forward : IsForward ts v
  pub from_full : IsTrue (has row v.a)
  pub to_empty : IsFalse (has row v.b)

pub in_left : (row : List ℕ) (u : Outline) (h : Partial) (t : Treated row u h.e h.f) → (a : ℕ) → IsTrue (has (leaves_of h.e) a) → IsTrue (has (leaves u) a)
in_left row u h t a k = sym (has_same (leaves_of (join h.e h.f)) (leaves u) a (t.same a)) ∙ has_join_left h.e h.f a k

pub in_right : (row : List ℕ) (u : Outline) (h : Partial) (t : Treated row u h.e h.f) → (a : ℕ) → IsTrue (has (leaves_of h.f) a) → IsTrue (has (leaves u) a)
in_right row u h t a k = sym (has_same (leaves_of (join h.e h.f)) (leaves u) a (t.same a)) ∙ has_join_right h.e h.f a k

pub both_leaves : (row : List ℕ) (u : Outline) (h : Partial) (t : Treated row u h.e h.f) → IsTrue (has (leaves u) t.some_empty.0) × IsTrue (has (leaves u) t.some_full.0)
both_leaves row u h t = (in_left row u h t t.some_empty.0 t.some_empty.1, in_right row u h t t.some_full.0 t.some_full.1)

-- a later tree that isn't full has an empty column
some_empty_column : (row : List ℕ) (ts : Forest) (ps : List Label) → AreLabelled row ts ps → HaveArities ts → IsFalse (all_full ps) → (d : ℕ) × IsTrue (has (leaves_of ts) d) × IsFalse (has row d)
some_empty_column row ts ps none_labelled c e = absurd (both_ways true e refl)
some_empty_column row ts ps (more_labelled {t = t} {ts = us} (labelled_empty k) m) c e =
    let w : (a : ℕ) × IsTrue (has (leaves t) a) = some_leaf t c.0 in (w.0, has_append_left (leaves t) (leaves_of us) w.0 w.1, k w.0 w.1)
some_empty_column row ts ps (more_labelled {t = t} {ts = us} {ps = qs} (labelled_full k) m) c e =
    let w : (d : ℕ) × IsTrue (has (leaves_of us) d) × IsFalse (has row d) = some_empty_column row us qs m c.1 e in (w.0, has_append_right (leaves t) (leaves_of us) w.0 w.1, w.2)
some_empty_column row ts ps (more_labelled {t = t} {ts = us} (labelled_partial h k) m) c e =
    (k.some_empty.0, has_append_left (leaves t) (leaves_of us) k.some_empty.0 (in_left row t h k k.some_empty.0 k.some_empty.1), k.empty k.some_empty.0 k.some_empty.1)

run_falls : (row : List ℕ) (ts : Forest) (ps : List Label) → AreLabelled row ts ps → HaveArities ts → run_of ts ps ≡ None → Falls row ts
run_falls row ts ps none_labelled c e = cc
run_falls row ts ps (more_labelled {t = t} {ts = us} {ps = qs} (labelled_empty k) m) c e =
    let w : Falls row us = run_falls row us qs m c.1 (after_none (one_more t) (run_of us qs) e) in record { v = w.v; forward = inr w.forward; from_full = w.from_full; to_empty = w.to_empty }
run_falls row ts ps (more_labelled {t = t} {ts = us} {ps = qs} (labelled_full k) m) c e =
    let w : (d : ℕ) × IsTrue (has (leaves_of us) d) × IsFalse (has row d) = some_empty_column row us qs m c.1 (cond_none (all_full qs) (record { before = no_tree; middle = []; behind = tree_and t us }) e) in
    let l : (a : ℕ) × IsTrue (has (leaves t) a) = some_leaf t c.0 in
    record { v = pair l.0 w.0; forward = inl (l.1, w.1); from_full = k l.0 l.1; to_empty = w.2 }
run_falls row ts ps (more_labelled {t = t} {ts = us} {ps = qs} (labelled_partial h k) m) c e =
    let w : (d : ℕ) × IsTrue (has (leaves_of us) d) × IsFalse (has row d) = some_empty_column row us qs m c.1 (cond_none (all_full qs) (record { before = no_tree; middle = h ∷ []; behind = us }) e) in
    record { v = pair k.some_full.0 w.0; forward = inl (in_right row t h k k.some_full.0 k.some_full.1, w.1); from_full = k.full k.some_full.0 k.some_full.1; to_empty = w.2 }

pub forward_first : (ts : Forest) (v : Pair) → IsForward ts v → IsTrue (has (leaves_of ts) v.a)
forward_first no_tree v h = absurd h
forward_first (tree_and t ts) v h =
    elim h [ inl k ↦ has_append_left (leaves t) (leaves_of ts) v.a k.0 | inr k ↦ has_append_right (leaves t) (leaves_of ts) v.a (forward_first ts v k) ]

pub forward_second : (ts : Forest) (v : Pair) → IsForward ts v → IsTrue (has (leaves_of ts) v.b)
forward_second no_tree v h = absurd h
forward_second (tree_and t ts) v h =
    elim h [ inl k ↦ has_append_right (leaves t) (leaves_of ts) v.b k.1 | inr k ↦ has_append_right (leaves t) (leaves_of ts) v.b (forward_second ts v k) ]

module _ (R : Pair → Pair → Type 0) (eq : IsPairEq R) (row : List ℕ) where
  -- each tree has a column of the row outside it
  abbrev pub AllOutside : Forest → Type 0
  AllOutside no_tree = Unit {0}
  AllOutside (tree_and t ts) = ((s : ℕ) × IsTrue (has row s) × IsFalse (has (leaves t) s) × IsOutside R row (leaves t) s) × IsClosed R (leaves t) row × AllOutside ts

  -- two partial trees below the pertinent root
  two_partials : (ts us : Forest) (hs : List Partial) (es fs : Forest) (s : ℕ) → ArePartial row us hs → AreClosed R (leaves_of ts) us → ((a : ℕ) → IsTrue (has (leaves_of us) a) → IsTrue (has (leaves_of ts) a)) →
      ((a : ℕ) → occurs (leaves_of us) a ≤ 1) → IsClosed R (leaves_of ts) row → IsOutside R row (leaves_of ts) s → at_p hs es fs ≡ None → Crossed R
  two_partials ts us hs no_tree fs s no_partial c sub once cr o e = cc
  two_partials ts us hs (tree_and g es) no_tree s no_partial c sub once cr o e = cc
  two_partials ts us hs (tree_and g es) (tree_and k fs) s no_partial c sub once cr o e = cc
  two_partials ts us hs es fs s (a_partial part no_partial) c sub once cr o e = cc
  two_partials ts us hs es fs s (a_partial {t = u} {h = h} part (a_partial {t = w} {ts = vs} {h = k} part2 m)) c sub once cr o e =
      let x = both_leaves row u h part in
      let y = both_leaves row w k part2 in
      let iu : (a : ℕ) → IsTrue (has (leaves u) a) → IsTrue (has (leaves_of ts) a) = λ a l. sub a (has_append_left (leaves u) (leaves w ++ leaves_of vs) a l) in
      let iw : (a : ℕ) → IsTrue (has (leaves w) a) → IsTrue (has (leaves_of ts) a) =
      λ a l. sub a (has_append_right (leaves u) (leaves w ++ leaves_of vs) a (has_append_left (leaves w) (leaves_of vs) a l)) in
      let sum : (a : ℕ) → occurs (leaves u) a + occurs (leaves w) a ≤ 1 =
      λ a. let o : occurs (leaves u ++ (leaves w ++ leaves_of vs)) a ≤ 1 = once a in
      omega (arith, occurs-append (leaves u) (leaves w ++ leaves_of vs) a, occurs-append (leaves w) (leaves_of vs) a) in
      let u2 : IsFalse (has (leaves u) part2.some_full.0) = lacks_from_occurs (leaves u) part2.some_full.0 (omega (arith, sum part2.some_full.0, occurs_from_has (leaves w) part2.some_full.0 y.1)) in
      let w1 : IsFalse (has (leaves w) part.some_full.0) = lacks_from_occurs (leaves w) part.some_full.0 (omega (arith, sum part.some_full.0, occurs_from_has (leaves u) part.some_full.0 x.1)) in
      record {
        a = part2.some_full.0;
        b = part.some_full.0;
        differ = λ e. both_ways (has (leaves u) part.some_full.0) (subst (λ a. IsFalse (has (leaves u) a)) e u2) x.1;
        turned =
            two_partial R eq row (leaves_of ts) (leaves u) (leaves w) s o cr c.0 c.1.0 part.some_empty.0 part.some_full.0 part2.some_empty.0 part2.some_full.0 x.0 x.1 y.0 y.1
            (part.empty part.some_empty.0 part.some_empty.1) (part.full part.some_full.0 part.some_full.1) (part2.empty part2.some_empty.0 part2.some_empty.1) (part2.full part2.some_full.0 part2.some_full.1)
            (iu part.some_empty.0 x.0) (iu part.some_full.0 x.1) (iw part2.some_empty.0 y.0) (iw part2.some_full.0 y.1) u2 w1;
      }

  all_outside : (l : List ℕ) (s : ℕ) → IsTrue (has row s) → IsFalse (has l s) → IsOutside R row l s → IsClosed R l row → (ts : Forest) → ((a : ℕ) → IsTrue (has (leaves_of ts) a) → IsTrue (has l a)) → AllOutside ts
  all_outside l s rs ls o cr no_tree sub = tt
  all_outside l s rs ls o cr (tree_and t ts) sub =
      let it : (a : ℕ) → IsTrue (has (leaves t) a) → IsTrue (has l a) = λ a k. sub a (has_append_left (leaves t) (leaves_of ts) a k) in (
        (s, rs, false_from_ne_true (has (leaves t) s) (λ k. both_ways (has l s) ls (it s k)), outside_within R row l (leaves t) s it o),
        (λ a b d i j k n. cr a b d i j (it d k) n),
        all_outside l s rs ls o cr ts (λ a k. sub a (has_append_right (leaves t) (leaves_of ts) a k)),
      )

  -- no template fits at the node itself
  p_failed : (ts : Forest) (s : ℕ) → IsOutside R row (leaves_of ts) s → IsClosed R (leaves_of ts) row → IsBound R (p_node ts) → HaveArities ts → ((a : ℕ) → occurs (leaves_of ts) a ≤ 1) → IsUnfit row (p_node ts) → Crossed R
  p_failed ts s o cr b n once h =
      let m : AreLabelled row ts h.0 = labels_sound row ts h.0 n once h.1 in
      let long : length h.0 ≡ count ts = labels_long row ts h.0 h.1 in
      let g = parts row (sort ts h.0 long) m in
      two_partials ts g.us (partials h.0) (empty_trees ts h.0) (full_trees ts h.0) s g.partial
      (closed_right R (leaves_of ts) g.second (closed_right R (leaves_of ts) g.first b.0))
      (λ a l. has_from_occurs (leaves_of ts) a (omega (arith, parted_occurs g.first a, parted_occurs g.second a, occurs_from_has (leaves_of g.us) a l)))
      (λ a. omega (arith, once a, parted_occurs g.first a, parted_occurs g.second a)) cr o
      (no_value (p_label ts h.0) (λ x e. h.2 x (p_label_some ts h.0 x long e)))

  q_failed : (ts : Forest) (s : ℕ) → IsTrue (has row s) → IsOutside R row (leaves_of ts) s → IsBound R (q_node ts) → HaveArities ts → ((a : ℕ) → occurs (leaves_of ts) a ≤ 1) → IsUnfit row (q_node ts) → Crossed R
  q_failed ts s rs o b n once h =
      let m : AreLabelled row ts h.0 = labels_sound row ts h.0 n once h.1 in
      let long : length h.0 ≡ count ts = labels_long row ts h.0 h.1 in
      let both : (option_and_then at_run (run_of ts h.0) ≡ None) × (option_and_then at_run (run_of (back ts) (reverse h.0)) ≡ None) =
      first_none (option_and_then at_run (run_of ts h.0)) (option_and_then at_run (run_of (back ts) (reverse h.0)))
      (no_value (q_label ts h.0) (λ x e. h.2 x (q_label_some ts h.0 x long e))) in
      let x : Falls row ts = run_falls row ts h.0 m n (no_run (run_of ts h.0) both.0) in
      let y : Falls row (back ts) = run_falls row (back ts) (reverse h.0) (labelled_back row ts h.0 m) (arities_back ts n) (no_run (run_of (back ts) (reverse h.0)) both.1) in
      let yf : IsForward ts (pair y.v.b y.v.a) = forward_back ts y.v y.forward in
      record {
        a = y.v.b;
        b = s;
        differ = λ z. both_ways (has row s) (subst (λ j. IsFalse (has row j)) z y.to_empty) rs;
        turned =
            both_ends R eq row ts s b.0 o y.v.b y.v.a x.v.a x.v.b yf x.forward y.to_empty y.from_full x.from_full x.to_empty
            (forward_first ts (pair y.v.b y.v.a) yf) (forward_second ts (pair y.v.b y.v.a) yf) (forward_first ts x.v x.forward) (forward_second ts x.v x.forward);
      }

  mutual
    -- Below the pertinent root: no template fits at some node.
    pub label_failed : (t z : Outline) (s : ℕ) → IsTrue (has row s) → IsFalse (has (leaves t) s) → IsOutside R row (leaves t) s → IsClosed R (leaves t) row → IsBound R t → HasArities t →
        ((a : ℕ) → occurs (leaves t) a ≤ 1) → IsNode z t → IsUnfit row z → Crossed R
    label_failed (leaf a) z s rs ls o cr b n once k h = absurd (subst (IsUnfit row) k h)
    label_failed (p_node ts) z s rs ls o cr b n once k h =
        elim k [
          | inl e ↦ p_failed ts s o cr b n.1 once (subst (IsUnfit row) e h)
          | inr j ↦ labels_failed ts z (all_outside (leaves_of ts) s rs ls o cr ts (λ a h. h)) b.1 n.1 once j h
        ]
    label_failed (q_node ts) z s rs ls o cr b n once k h =
        elim k [
          | inl e ↦ q_failed ts s rs o b n.1 once (subst (IsUnfit row) e h)
          | inr j ↦ labels_failed ts z (all_outside (leaves_of ts) s rs ls o cr ts (λ a h. h)) b.1 n.1 once j h
        ]

    pub labels_failed : (ts : Forest) (z : Outline) → AllOutside ts → AreBound R ts → HaveArities ts → ((a : ℕ) → occurs (leaves_of ts) a ≤ 1) → IsNodeOf z ts → IsUnfit row z → Crossed R
    labels_failed no_tree z o b n once k h = absurd k
    labels_failed (tree_and t ts) z o b n once k h =
        let sum : (a : ℕ) → occurs (leaves t ++ leaves_of ts) a ≤ 1 = once in
        elim k [
          | inl j ↦ label_failed t z o.0.0 o.0.1 o.0.2 o.0.3 o.1 b.0 n.0 (λ a. omega (arith, sum a, occurs-append (leaves t) (leaves_of ts) a)) j h
          | inr j ↦ labels_failed ts z o.2 b.1 n.1 (λ a. omega (arith, sum a, occurs-append (leaves t) (leaves_of ts) a)) j h
        ]
