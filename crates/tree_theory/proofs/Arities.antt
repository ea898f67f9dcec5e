-- A reduced tree has two children or more at each P-node, and three or more at each Q-node.
use Rattle.std.proofs.Common.{◌≡◌, ◌⊎◌, ◌+◌, ◌≤◌, ℕ, true, false, List, [], ◌∷◌, ◌++◌, reverse, Option, Some, None, IsTrue, refl, sym, subst, inl, inr, arith}
use Rattle.std.proofs.lemmas.Bool.{both_ways}
use Rattle.std.proofs.lemmas.List.{reverse-append}
use Rattle.column_order.specs.Orders.{has, occurs}
use Rattle.pq_tree.specs.Outline.{Outline, Forest, leaf, p_node, q_node, no_tree, tree_and, leaves, leaves_of}
use Rattle.pq_tree.specs.Proper.{HasArities, HaveArities}
use Rattle.pq_tree.specs.Forests.{count, trees, join, back}
use Rattle.pq_tree.proofs.Forests.{arities_back, count_back, forest-trees, count_join, arities_join}
use Rattle.pq_tree.specs.Equivalent.{AreEquivalent}
use Rattle.pq_tree.proofs.Equivalent.{equivalent_arities_all}
use Rattle.tree_theory.specs.Templates.{Partial, Label, empty_label, full_label, partial_label, star, under, line, line_if, q2, IsShape, IsSorted, none_sorted, to_empty, to_full, to_partial, AreAllFull, AreAllEmpty, IsRun, run_full, run_partial, run_more, IsTail, tail_empty, tail_partial, tail_more, IsTwoSidedRun, span_tail, span_partial, span_more, IsP2, IsP4}
use Rattle.tree_theory.specs.Chosen.{IsLabelOfP, p_empty, by_p1, by_p3, by_p5, IsLabelOfQ, q_empty, by_q1, by_q2, IsRootOfP, root_p1, root_p2, root_p4, root_p6, IsRootOfQ, root_q1, root_q2, root_q3}
use Rattle.tree_theory.specs.Reduced.{IsTurned, IsLabel, AreLabels, IsRootMade, IsReplaced, replaced_here, replaced_under_p, replaced_under_q}
use Rattle.column_order.proofs.Lists.{has_append_cases}
use Rattle.tree_theory.proofs.Lines.{IsParted, has_parted_cases}
use Rattle.tree_theory.proofs.BelowRoot.{AreEmpty}
use Rattle.tree_theory.proofs.Meaning.{AreLabelled, Misses, miss_right, IsRoot, parts}
use Rattle.tree_theory.proofs.Patterns.{full_unback, empty_unback}
use Rattle.tree_theory.proofs.Preserved.{two_parts, full_column, HasBoth, has_both}
use Rattle.tree_theory.proofs.Sound.{labels_sound, lowest_root_p, part_arities, replaced_arities, replaced_occurs}
use Rattle.tree_theory.specs.Outcomes.{IsLowest}

-- a partial has an empty tree and a full one, and its trees have enough children
abbrev IsGood : Partial → Type 0
IsGood h = HaveArities h.e × HaveArities h.f × (1 ≤ count h.e) × (1 ≤ count h.f)

abbrev AreGood : List Partial → Type 0
AreGood [] = Unit {0}
AreGood (h ∷ hs) = IsGood h × AreGood hs

abbrev IsGoodIf : Option Partial → Type 0
IsGoodIf None = Unit {0}
IsGoodIf (Some h) = IsGood h

abbrev GoodLabel : Label → Type 0
GoodLabel empty_label = Unit {0}
GoodLabel full_label = Unit {0}
GoodLabel (partial_label h) = IsGood h

abbrev GoodLabels : List Label → Type 0
GoodLabels [] = Unit {0}
GoodLabels (x ∷ ps) = GoodLabel x × GoodLabels ps

-- how many partial children there are
abbrev one_if : Option Partial → ℕ
one_if None = 0
one_if (Some h) = 1

star_arities : (xs : Forest) → HaveArities xs → HaveArities (star xs)
star_arities no_tree h = tt
star_arities (tree_and t no_tree) h = h
star_arities (tree_and t (tree_and u us)) h = ((omega arith, h), tt)

star_one : (t : Outline) (ts : Forest) → count (star (tree_and t ts)) ≡ 1
star_one t no_tree = refl
star_one t (tree_and u us) = refl

star_some : (ts : Forest) → 1 ≤ count ts → 1 ≤ count (star ts)
star_some no_tree h = absurd (omega arith)
star_some (tree_and t ts) h = omega (arith, star_one t ts)

under_arities : (es : Forest) (x : Outline) → HaveArities es → HasArities x → HasArities (under es x)
under_arities no_tree x h k = k
under_arities (tree_and t ts) x h k = (omega arith, (k, h))

-- the trees of a partial, of which there are two or more, and turned
line_arities : (h : Partial) → IsGood h → HaveArities (line h) × (2 ≤ count (line h))
line_arities h g = (arities_join h.e h.f g.0 g.1, omega (arith, count_join h.e h.f, g.2, g.3))

back_arities : (h : Partial) → IsGood h → HaveArities (back (line h)) × (2 ≤ count (back (line h)))
back_arities h g =
    let w : HaveArities (line h) × (2 ≤ count (line h)) = line_arities h g in
    (arities_back (line h) w.0, omega (arith, w.1, count_back (line h)))

line_if_arities : (h : Option Partial) → IsGoodIf h → HaveArities (line_if h) × (one_if h ≤ count (line_if h))
line_if_arities None g = (tt, omega arith)
line_if_arities (Some h) g = let w : HaveArities (line h) × (2 ≤ count (line h)) = line_arities h g in (w.0, omega (arith, w.1))

back_if_arities : (h : Option Partial) → IsGoodIf h → HaveArities (back (line_if h)) × (one_if h ≤ count (back (line_if h)))
back_if_arities None g = (tt, omega arith)
back_if_arities (Some h) g = let w : HaveArities (back (line h)) × (2 ≤ count (back (line h))) = back_arities h g in (w.0, omega (arith, w.1))

-- the labels from the other end
good_push : (ps : List Label) (x : Label) → GoodLabels ps → GoodLabel x → GoodLabels (ps ++ x ∷ [])
good_push [] x h k = (k, tt)
good_push (y ∷ ps) x h k = (h.0, good_push ps x h.1 k)

good_reverse : (ps : List Label) → GoodLabels ps → GoodLabels (reverse ps)
good_reverse [] h = tt
good_reverse (x ∷ ps) h = subst GoodLabels (sym (reverse-append (x ∷ []) ps)) (good_push (reverse ps) x (good_reverse ps h.1) h.0)

-- what the patterns say of the children
sorted_good : {ts es fs : Forest} {ps : List Label} {hs : List Partial} → IsSorted ts ps es fs hs → HaveArities ts → GoodLabels ps → HaveArities es × HaveArities fs × AreGood hs
sorted_good none_sorted c g = (tt, tt, tt)
sorted_good (to_empty s) c g = let k = sorted_good s c.1 g.1 in ((c.0, k.0), k.1, k.2)
sorted_good (to_full s) c g = let k = sorted_good s c.1 g.1 in (k.0, (c.0, k.1), k.2)
sorted_good (to_partial s) c g = let k = sorted_good s c.1 g.1 in (k.0, k.1, (g.0, k.2))

run_good : {ts es fs : Forest} {ps : List Label} {h : Option Partial} → IsRun ts ps es h fs → HaveArities ts → GoodLabels ps → HaveArities es × IsGoodIf h × HaveArities fs
run_good (run_full s) c g = (tt, tt, c)
run_good (run_partial s) c g = (tt, g.0, c.1)
run_good (run_more r) c g = let k = run_good r c.1 g.1 in ((c.0, k.0), k.1, k.2)

run_count : {ts es fs : Forest} {ps : List Label} {h : Option Partial} → IsRun ts ps es h fs → count es + one_if h + count fs ≡ count ts
run_count (run_full s) = omega arith
run_count (run_partial s) = omega arith
run_count (run_more r) = omega (arith, run_count r)

tail_good : {ts fs gs : Forest} {ps : List Label} {k : Option Partial} → IsTail ts ps fs k gs → HaveArities ts → GoodLabels ps → HaveArities fs × IsGoodIf k × HaveArities gs
tail_good (tail_empty s) c g = (tt, tt, c)
tail_good (tail_partial s) c g = (tt, g.0, c.1)
tail_good (tail_more r) c g = let k = tail_good r c.1 g.1 in ((c.0, k.0), k.1, k.2)

tail_count : {ts fs gs : Forest} {ps : List Label} {k : Option Partial} → IsTail ts ps fs k gs → count fs + one_if k + count gs ≡ count ts
tail_count (tail_empty s) = omega arith
tail_count (tail_partial s) = omega arith
tail_count (tail_more r) = omega (arith, tail_count r)

record GoodSpan (es : Forest) (h : Option Partial) (fs : Forest) (k : Option Partial) (gs : Forest) : Type 0 where
  before : HaveArities es
  left : IsGoodIf h
  middle : HaveArities fs
  right : IsGoodIf k
  behind : HaveArities gs

span_good : {ts es fs gs : Forest} {ps : List Label} {h k : Option Partial} → IsTwoSidedRun ts ps es h fs k gs → HaveArities ts → GoodLabels ps → GoodSpan es h fs k gs
span_good (span_tail r) c g = let k = tail_good r c g in record { before = tt; left = tt; middle = k.0; right = k.1; behind = k.2 }
span_good (span_partial r) c g = let k = tail_good r c.1 g.1 in record { before = tt; left = g.0; middle = k.0; right = k.1; behind = k.2 }
span_good (span_more r) c g =
    let k = span_good r c.1 g.1 in
    record { before = (c.0, k.before); left = k.left; middle = k.middle; right = k.right; behind = k.behind }

span_count : {ts es fs gs : Forest} {ps : List Label} {h k : Option Partial} → IsTwoSidedRun ts ps es h fs k gs → count es + one_if h + count fs + one_if k + count gs ≡ count ts
span_count (span_tail r) = omega (arith, tail_count r)
span_count (span_partial r) = omega (arith, tail_count r)
span_count (span_more r) = omega (arith, span_count r)

-- labels below the pertinent root
p_good : (ts : Forest) (ps : List Label) (x : Label) → HaveArities ts → GoodLabels ps → IsLabelOfP ts ps x → GoodLabel x
p_good ts ps x c g (p_empty s) = tt
p_good ts ps x c g (by_p1 s) = tt
p_good ts ps x c g (by_p3 h s) =
    let k = sorted_good s.pattern c g in
    subst IsGood (sym s.becomes)
    (star_arities (tree_and s.e s.es) k.0, star_arities (tree_and s.f s.fs) k.1, omega (arith, star_one s.e s.es), omega (arith, star_one s.f s.fs))
p_good ts ps x c g (by_p5 h s) =
    let k = sorted_good s.pattern c g in
    subst IsGood (sym s.becomes) (
      arities_join (star s.es) s.h.e (star_arities s.es k.0) k.2.0.0,
      arities_join s.h.f (star s.fs) k.2.0.1 (star_arities s.fs k.1),
      omega (arith, count_join (star s.es) s.h.e, k.2.0.2),
      omega (arith, count_join s.h.f (star s.fs), k.2.0.3),
    )

q2_good : (es fs : Forest) (h : Option Partial) → HaveArities es → IsGoodIf h → HaveArities fs → HasBoth es h fs → IsGood (q2 es h fs)
q2_good es fs (Some h) ce g cf b =
    (arities_join es h.e ce g.0, arities_join h.f fs g.1 cf, omega (arith, count_join es h.e, g.2), omega (arith, count_join h.f fs, g.3))
q2_good no_tree fs None ce g cf b = absurd b
q2_good (tree_and e es) no_tree None ce g cf b = absurd b
q2_good (tree_and e es) (tree_and f fs) None ce g cf b = (ce, cf, omega arith, omega arith)

q2_count : (es fs : Forest) (h : Option Partial) → IsGoodIf h → count es + one_if h + count fs ≤ count (line (q2 es h fs))
q2_count es fs None g = omega (arith, count_join es fs)
q2_count es fs (Some h) g =
    omega (arith, count_join (join es h.e) (join h.f fs), count_join es h.e, count_join h.f fs, g.2)

run_q2 : (ts es fs : Forest) (ps : List Label) (h : Option Partial) → HaveArities ts → GoodLabels ps → IsRun ts ps es h fs → (AreAllFull ts ps → ⊥) → (AreAllEmpty ts ps → ⊥) →
    IsGood (q2 es h fs) × (count ts ≤ count (line (q2 es h fs)))
run_q2 ts es fs ps h c g r nf ne =
    let k = run_good r c g in
    (q2_good es fs h k.0 k.1 k.2 (has_both ts es fs ps h r nf ne), omega (arith, run_count r, q2_count es fs h k.1))

pub q_shape : (ts : Forest) (ps : List Label) (es fs : Forest) (h : Option Partial) → HaveArities ts → GoodLabels ps → IsRun ts ps es h fs ⊎ IsRun (back ts) (reverse ps) es h fs →
    (AreAllFull ts ps → ⊥) → (AreAllEmpty ts ps → ⊥) → IsGood (q2 es h fs) × (count ts ≤ count (line (q2 es h fs)))
q_shape ts ps es fs h c g p nf ne =
    elim p [
      | inl r ↦ run_q2 ts es fs ps h c g r nf ne
      | inr r ↦
          let k : IsGood (q2 es h fs) × (count (back ts) ≤ count (line (q2 es h fs))) =
          run_q2 (back ts) es fs (reverse ps) h (arities_back ts c) (good_reverse ps g) r (λ s. nf (full_unback s)) (λ s. ne (empty_unback s)) in
          (k.0, omega (arith, k.1, count_back ts))
    ]

q_good : (ts : Forest) (ps : List Label) (x : Label) → HaveArities ts → GoodLabels ps → IsLabelOfQ ts ps x → GoodLabel x
q_good ts ps x c g (q_empty s) = tt
q_good ts ps x c g (by_q1 s) = tt
q_good ts ps x c g (by_q2 h q) = subst IsGood (sym q.becomes) (q_shape ts ps q.es q.fs q.h c g q.pattern q.not_full q.not_empty).0

-- the trees of a partial turned
alike_count : (ts us : Forest) → AreEquivalent ts (trees us) → count us ≡ count ts
alike_count no_tree no_tree h = refl
alike_count no_tree (tree_and u us) h = absurd h
alike_count (tree_and t ts) no_tree h = absurd h
alike_count (tree_and t ts) (tree_and u us) h = omega (arith, alike_count ts us h.1)

alike_arities : (ts us : Forest) → AreEquivalent ts (trees us) → HaveArities ts → HaveArities us
alike_arities ts us h c = subst HaveArities (forest-trees us) (equivalent_arities_all ts (trees us) h c)

turned_good : (y x : Label) → GoodLabel y → IsTurned y x → GoodLabel x
turned_good empty_label x g h = subst GoodLabel (sym h) tt
turned_good full_label x g h = subst GoodLabel (sym h) tt
turned_good (partial_label p) x g h =
    subst GoodLabel (sym h.3)
    (alike_arities p.e h.0.e h.1 g.0, alike_arities p.f h.0.f h.2 g.1, omega (arith, alike_count p.e h.0.e h.1, g.2), omega (arith, alike_count p.f h.0.f h.2, g.3))

leaf_good : (row : List ℕ) (a : ℕ) (x : Label) → IsLabel row (leaf a) x → GoodLabel x
leaf_good row a x h = elim h [ inl k ↦ subst GoodLabel (sym k.1) tt | inr k ↦ subst GoodLabel (sym k.1) tt ]

mutual
  label_good : (row : List ℕ) (t : Outline) (x : Label) → HasArities t → IsLabel row t x → GoodLabel x
  label_good row (leaf a) x c h = leaf_good row a x h
  label_good row (p_node ts) x c h = turned_good h.1 x (p_good ts h.0 h.1 c.1 (labels_good row ts h.0 c.1 h.2) h.3) h.4
  label_good row (q_node ts) x c h = turned_good h.1 x (q_good ts h.0 h.1 c.1 (labels_good row ts h.0 c.1 h.2) h.3) h.4

  labels_good : (row : List ℕ) (ts : Forest) (ps : List Label) → HaveArities ts → AreLabels row ts ps → GoodLabels ps
  labels_good row no_tree [] c h = tt
  labels_good row no_tree (x ∷ ps) c h = absurd h
  labels_good row (tree_and t ts) [] c h = absurd h
  labels_good row (tree_and t ts) (x ∷ ps) c h = (label_good row t x c.0 h.0, labels_good row ts ps c.1 h.1)

-- the pertinent root
some_tree : (fs : Forest) → (a : ℕ) × IsTrue (has (leaves_of fs) a) → 1 ≤ count fs
some_tree no_tree a = absurd (both_ways false refl a.1)
some_tree (tree_and f fs) a = omega arith

pub p4_full : (row : List ℕ) (ts : Forest) (ps : List Label) (u : Outline) → AreLabelled row ts ps → IsRoot row ts → (s : IsP4 true ts ps u) → 1 ≤ count s.fs
p4_full row ts ps u right root s =
    let k = parts row s.pattern right in
    some_tree s.fs (full_column row ts ps right s.es s.fs k.us k.rest s.h k.first k.second k.empty root k.partial)

-- P2 has a second full child
second_full : (row : List ℕ) (ts es fs : Forest) (f : Outline) → IsRoot row ts → IsParted ts es (tree_and f fs) → AreEmpty row es → 1 ≤ count fs
second_full row ts es (tree_and g fs) f root s ee = omega arith
second_full row ts es no_tree f root s ee =
    let m : Misses row (leaves f) = (miss_right row s root.lowest).0 in
    absurd
    (elim (has_parted_cases s m.0 (root.within m.0 m.1)) [
      | inl k ↦ both_ways (has row m.0) (ee m.0 k) m.1
      | inr k ↦ elim (has_append_cases (leaves f) [] m.0 k) [ inl i ↦ both_ways (has (leaves f) m.0) m.2 i | inr i ↦ both_ways false refl i ]
    ])

pub p2_full : (row : List ℕ) (ts : Forest) (ps : List Label) (u : Outline) → AreLabelled row ts ps → IsRoot row ts → (s : IsP2 true ts ps u) → 1 ≤ count s.fs
p2_full row ts ps u right root s =
    let k = parts row s.pattern right in
    second_full row ts (tree_and s.e s.es) s.fs s.f root (two_parts row ts ps right (tree_and s.e s.es) (tree_and s.f s.fs) k.us k.rest k.first k.second k.partial) k.empty

root_p_good : (row : List ℕ) (ts : Forest) (ps : List Label) (u : Outline) → HasArities (p_node ts) → GoodLabels ps → AreLabelled row ts ps → IsRoot row ts → IsRootOfP ts ps u → HasArities u
root_p_good row ts ps u c g right root (root_p1 s) = c
root_p_good row ts ps u c g right root (root_p2 v s) =
    let k = sorted_good s.pattern c.1 g in
    subst HasArities (sym s.becomes) (
      omega (arith, count_join (star (tree_and s.f s.fs)) (tree_and s.e s.es), star_one s.f s.fs),
      arities_join (star (tree_and s.f s.fs)) (tree_and s.e s.es) (star_arities (tree_and s.f s.fs) k.1) k.0,
    )
root_p_good row ts ps u c g right root (root_p4 v s) =
    let k = sorted_good s.pattern c.1 g in
    let l : HaveArities (line s.h) × (2 ≤ count (line s.h)) = line_arities s.h k.2.0 in
    subst HasArities (sym s.becomes)
    (under_arities s.es (q_node (join (line s.h) (star s.fs))) k.0 (
      omega (arith, count_join (line s.h) (star s.fs), l.1, star_some s.fs (p4_full row ts ps u right root s)),
      arities_join (line s.h) (star s.fs) l.0 (star_arities s.fs k.1),
    ))
root_p_good row ts ps u c g right root (root_p6 v s) =
    let k = sorted_good s.pattern c.1 g in
    let l : HaveArities (line s.h) × (2 ≤ count (line s.h)) = line_arities s.h k.2.0 in
    let m : HaveArities (back (line s.k)) × (2 ≤ count (back (line s.k))) = back_arities s.k k.2.1.0 in
    subst HasArities (sym s.becomes)
    (under_arities s.es (q_node (join (line s.h) (join (star s.fs) (back (line s.k))))) k.0 (
      omega (arith, count_join (line s.h) (join (star s.fs) (back (line s.k))), count_join (star s.fs) (back (line s.k)), l.1, m.1),
      arities_join (line s.h) (join (star s.fs) (back (line s.k))) l.0 (arities_join (star s.fs) (back (line s.k)) (star_arities s.fs k.1) m.0),
    ))

shape_good : (x : Partial) (u : Outline) → HaveArities (line x) → 3 ≤ count (line x) → IsShape x u → HasArities u
shape_good x u c n s =
    elim s [
      | inl e ↦ subst HasArities (sym e) (n, c)
      | inr e ↦ subst HasArities (sym e) (omega (arith, n, count_back (line x)), arities_back (line x) c)
    ]

root_q_good : (ts : Forest) (ps : List Label) (u : Outline) → HasArities (q_node ts) → GoodLabels ps → IsRootOfQ ts ps u → HasArities u
root_q_good ts ps u c g (root_q1 s) = c
root_q_good ts ps u c g (root_q2 x v q s) =
    let k : IsGood (q2 q.es q.h q.fs) × (count ts ≤ count (line (q2 q.es q.h q.fs))) = q_shape ts ps q.es q.fs q.h c.1 g q.pattern q.not_full q.not_empty in
    let n : count ts ≤ count (line x) = subst (λ y. count ts ≤ count (line y)) (sym q.becomes) k.1 in
    shape_good x u (line_arities x (subst IsGood (sym q.becomes) k.0)).0 (omega (arith, n, c.0)) s
root_q_good ts ps u c g (root_q3 v q) =
    let k = span_good q.pattern c.1 g in
    let l : HaveArities (line_if q.h) × (one_if q.h ≤ count (line_if q.h)) = line_if_arities q.h k.left in
    let m : HaveArities (back (line_if q.k)) × (one_if q.k ≤ count (back (line_if q.k))) = back_if_arities q.k k.right in
    subst HasArities (sym q.becomes) (
      omega (
        arith,
        count_join q.es (join (line_if q.h) (join q.fs (join (back (line_if q.k)) q.gs))),
        count_join (line_if q.h) (join q.fs (join (back (line_if q.k)) q.gs)),
        count_join q.fs (join (back (line_if q.k)) q.gs),
        count_join (back (line_if q.k)) q.gs,
        l.1,
        m.1,
        span_count q.pattern,
        c.0,
      ),
      arities_join q.es (join (line_if q.h) (join q.fs (join (back (line_if q.k)) q.gs))) k.before
          (arities_join (line_if q.h) (join q.fs (join (back (line_if q.k)) q.gs)) l.0
          (arities_join q.fs (join (back (line_if q.k)) q.gs) k.middle (arities_join (back (line_if q.k)) q.gs m.0 k.behind))),
    )

made_good : (row : List ℕ) (x y : Outline) → HasArities x → ((a : ℕ) → occurs (leaves x) a ≤ 1) → IsLowest row x → IsRootMade row x y → HasArities y
made_good row (leaf a) y c once w h = subst HasArities (sym h.1) tt
made_good row (p_node ts) y c once w h =
    root_p_good row ts h.0 y c (labels_good row ts h.0 c.1 h.1) (labels_sound row ts h.0 c.1 once h.1) (lowest_root_p row ts w) h.2
made_good row (q_node ts) y c once w h = root_q_good ts h.0 y c (labels_good row ts h.0 c.1 h.1) h.2

-- a node with another child in the place of one
put_arities : (ts us : Forest) (t u : Outline) → HaveArities (join ts (tree_and t us)) → HasArities u → HaveArities (join ts (tree_and u us))
put_arities no_tree us t u h k = (k, h.1)
put_arities (tree_and s ts) us t u h k = (h.0, put_arities ts us t u h.1 k)

put_count : (ts us : Forest) (t u : Outline) → count (join ts (tree_and u us)) ≡ count (join ts (tree_and t us))
put_count no_tree us t u = refl
put_count (tree_and s ts) us t u = omega (arith, put_count ts us t u)

replaced_good : {x y t v : Outline} → IsReplaced x y t v → HasArities y → HasArities t → HasArities v
replaced_good replaced_here k h = k
replaced_good (replaced_under_p {t = t} {u = u} ts us r) k h =
    (omega (arith, put_count ts us t u, h.0), put_arities ts us t u h.1 (replaced_good r k (part_arities ts us t h.1)))
replaced_good (replaced_under_q {t = t} {u = u} ts us r) k h =
    (omega (arith, put_count ts us t u, h.0), put_arities ts us t u h.1 (replaced_good r k (part_arities ts us t h.1)))

-- the pertinent root replaced
pub made_arities : (row : List ℕ) (x y t v : Outline) → HasArities t → ((a : ℕ) → occurs (leaves t) a ≤ 1) → IsLowest row x → IsRootMade row x y → IsReplaced x y t v → HasArities v
made_arities row x y t v c once w m r =
    replaced_good r (made_good row x y (replaced_arities r c) (λ a. omega (arith, once a, replaced_occurs r a)) w m) c
