-- Each template keeps what ties a tree to its rows: one lemma for each, whatever the reducer.
--
-- The labels ps of the children ts are right for the row (`AreLabelled`). Below the pertinent root a node becomes full,
-- or a partial that may stand in its place (`Treated`). At the pertinent root (`IsRoot`) the new tree is bound exactly where
-- the old one is and the row is closed in it (`Rooted`), so that it is tied to one row more (`rooted_tied`).
use Rattle.std.proofs.Common.{◌≡◌, ◌⊎◌, ◌∙◌, ◌≤◌, ℕ, true, false, List, [], ◌∷◌, ◌++◌, reverse, Option, Some, None, IsTrue, refl, sym, ap, ap₂, subst, inl, inr, arith}
use Rattle.std.proofs.lemmas.Bool.{both_ways}
use Rattle.column_order.specs.Orders.{has, occurs, IsOrder}
use Rattle.row_model.specs.Graph.{pair}
use Rattle.column_order.proofs.Lists.{has_cases, has_append_cases, has_append_left, has_append_right, has_same}
use Rattle.pq_tree.specs.Outline.{Outline, Forest, p_node, q_node, no_tree, tree_and, leaves, leaves_of}
use Rattle.pq_tree.specs.Proper.{HaveArities}
use Rattle.pq_tree.specs.Forests.{count, join, back}
use Rattle.pq_tree.proofs.Forests.{join_assoc, has_join_cases, has_join_left, has_join_right, some_leaf_of, arities_join_left, arities_join_right, arities_back, count_back, back_occurs, back-back, back-join, join_no_tree}
use Rattle.tree_theory.specs.Tied.{IsTied}
use Rattle.tree_theory.proofs.Bridge.{tied_more}
use Rattle.tree_theory.specs.Templates.{Partial, Label, star, under, line, IsShape, l1, p1, p4, p5, p6, q1, q2, q3, IsRun, AreAllFull, AreAllEmpty, IsTwoSidedRun, IsL1, IsP1, IsP2, IsP3, IsP4, IsP5, IsP6, IsQ1, IsQ2, IsQ3}
use Rattle.tree_theory.proofs.Lines.{IsParted, parted_end, has_parted_cases, forward_across, arities_left, arities_right}
use Rattle.tree_theory.proofs.BelowRoot.{IsFull, AreEmpty, AreFull, Treated, p3_parted}
use Rattle.tree_theory.proofs.AtRoot.{Rooted, star_gather, p2_parted}
use Rattle.tree_theory.proofs.OnePartial.{p4_parted, p5_parted}
use Rattle.tree_theory.proofs.TwoPartials.{p6_parted}
use Rattle.tree_theory.proofs.QLines.{treated_back, turned_bound, unturned_bound}
use Rattle.tree_theory.proofs.QPatterns.{run_span, rear_span, line_front, line_rear}
use Rattle.tree_theory.proofs.QSteps.{q2_none, q2_one}
use Rattle.tree_theory.proofs.QAtRoot.{q3_none, q3_left, q3_right, q3_both}
use Rattle.tree_theory.proofs.Meaning.{AreLabelled, labelled_back, ArePartial, no_partial, a_partial, IsAtMostOne, no_such, one_such, Misses, miss_right, miss_after, IsRoot, parts, run_parts, span_parts}
use Rattle.tree_theory.proofs.Patterns.{run_all_full, run_all_empty, full_unback, empty_unback}

-- What keeping is for: a tree that a template at the pertinent root gives is tied to one row more.
pub rooted_tied : (c : ℕ) (rows : List (List ℕ)) (row : List ℕ) (t u : Outline) → IsOrder c (leaves t) → IsTied c rows t →
    ((a : ℕ) → IsTrue (has row a) → IsTrue (has (leaves t) a)) → Rooted row t u → IsTied c (rows ++ row ∷ []) u
rooted_tied c rows row t u whole tied within r = tied_more c rows row t u whole tied within r.same r.down r.up

-- the lines of P6 and Q3
six_line : (h k : Partial) (xs : Forest) → join (line h) (join xs (back (line k))) ≡ join h.e (join (join h.f (join xs (back k.f))) (join (back k.e) no_tree))
six_line h k xs = simp (back-join, join_assoc, join_no_tree)

q3_line_left : (h : Partial) (es fs gs : Forest) → q3 es (Some h) fs None gs ≡ join (join es h.e) (join (join h.f fs) gs)
q3_line_left h es fs gs = simp join_assoc

q3_line_right : (k : Partial) (es fs gs : Forest) → q3 es None fs (Some k) gs ≡ join es (join (join fs (back k.f)) (join (back k.e) gs))
q3_line_right k es fs gs = simp (back-join, join_assoc)

q3_line_both : (h k : Partial) (es fs gs : Forest) → q3 es (Some h) fs (Some k) gs ≡ join (join es h.e) (join (join h.f (join fs (back k.f))) (join (back k.e) gs))
q3_line_both h k es fs gs = simp (back-join, join_assoc)

-- a full tree stays at the pertinent root too: the row is closed where it has all columns
pub full_rooted : (row : List ℕ) (t : Outline) → IsFull row t → Rooted row t t
full_rooted row t all =
    record {
      same = λ a. refl;
      up = λ R eq b. (b, λ x y d rx ry ld rd. absurd (both_ways (has row d) rd (all d ld)));
      down = λ R eq b c. b;
    }

-- a Q-shape [e f] may stand in its own place
pub shape_treated : (row : List ℕ) (h : Partial) → AreEmpty row h.e → AreFull row h.f → (a : ℕ) × IsTrue (has (leaves_of h.e) a) → (a : ℕ) × IsTrue (has (leaves_of h.f) a) →
    Treated row (q_node (join h.e h.f)) h.e h.f
shape_treated row h ee ff e f = q2_none row h.e h.f ee ff e f

-- a partial child among empty and full ones, of which there is one
q2_partial : (row : List ℕ) (es fs : Forest) (u : Outline) (h : Partial) → Treated row u h.e h.f → AreEmpty row es → AreFull row fs → 2 ≤ count (join es (tree_and u fs)) → HaveArities (join es (tree_and u fs)) →
    Treated row (q_node (join es (tree_and u fs))) (join es h.e) (join h.f fs)
q2_partial row no_tree no_tree u h part ee ff n c = absurd (omega arith)
q2_partial row (tree_and t es) fs u h part ee ff n c =
    let w : (a : ℕ) × IsTrue (has (leaves_of (tree_and t es)) a) = some_leaf_of (tree_and t es) (omega arith) (arities_join_left (tree_and t es) (tree_and u fs) c) in
    let f0 : IsTrue (has (leaves u) part.some_full.0) = sym (has_same (leaves_of (join h.e h.f)) (leaves u) part.some_full.0 (part.same part.some_full.0)) ∙ has_join_right h.e h.f part.some_full.0 part.some_full.1 in
    let uf : IsTrue (has (leaves_of (tree_and u fs)) part.some_full.0) = has_append_left (leaves u) (leaves_of fs) part.some_full.0 f0 in
    q2_one row (tree_and t es) fs u h.e h.f part ee ff (pair w.0 part.some_full.0)
    (forward_across (tree_and t es) (tree_and u fs) (pair w.0 part.some_full.0) w.1 uf)
    (ee w.0 w.1) (part.full part.some_full.0 part.some_full.1)
    (has_join_left (tree_and t es) (tree_and u fs) w.0 w.1) (has_join_right (tree_and t es) (tree_and u fs) part.some_full.0 uf)
q2_partial row no_tree (tree_and g fs) u h part ee ff n c =
    let w : (a : ℕ) × IsTrue (has (leaves_of (tree_and g fs)) a) = some_leaf_of (tree_and g fs) (omega arith) c.1 in
    let e0 : IsTrue (has (leaves u) part.some_empty.0) = sym (has_same (leaves_of (join h.e h.f)) (leaves u) part.some_empty.0 (part.same part.some_empty.0)) ∙ has_join_left h.e h.f part.some_empty.0 part.some_empty.1 in
    q2_one row no_tree (tree_and g fs) u h.e h.f part ee ff (pair part.some_empty.0 w.0)
    (inl (e0, w.1)) (part.empty part.some_empty.0 part.some_empty.1) (ff w.0 w.1)
    (has_append_left (leaves u) (leaves_of (tree_and g fs)) part.some_empty.0 e0) (has_append_right (leaves u) (leaves_of (tree_and g fs)) w.0 w.1)

pub l1_kept : (row : List ℕ) (a : ℕ) → IsL1 row a → IsFull row (l1 a)
l1_kept row a h d k = elim (has_cases a d [] k) [ inl e ↦ subst (λ x. IsTrue (has row x)) e h | inr n ↦ absurd (both_ways false refl n) ]

module _ (row : List ℕ) (ts : Forest) (ps : List Label) (right : AreLabelled row ts ps) where
  pub two_parts : (es fs us rest : Forest) → IsParted ts es rest → IsParted rest fs us → ArePartial row us [] → IsParted ts es fs
  two_parts es fs us rest first second no_partial = subst (IsParted ts es) (parted_end second) first

  all_are_full : AreAllFull ts ps → AreFull row ts
  all_are_full s = (parts row s right).full

  pub p1_kept : IsP1 ts ps → IsFull row (p1 ts)
  p1_kept s = all_are_full s

  pub q1_kept : IsQ1 ts ps → IsFull row (q1 ts)
  q1_kept s = all_are_full s

  -- no template: a node whose children are all empty
  pub empty_kept : AreAllEmpty ts ps → AreEmpty row ts
  empty_kept s = (parts row s right).empty

  pub p2_kept : (u : Outline) → IsRoot row ts → IsP2 true ts ps u → Rooted row (p_node ts) u
  p2_kept u root x =
      let k = parts row x.pattern right in
      subst (Rooted row (p_node ts)) (ap (λ y. p_node (join y (tree_and x.e x.es))) (sym (star_gather x.f x.fs)) ∙ sym x.becomes)
      (p2_parted row ts (tree_and x.e x.es) x.fs x.f (two_parts (tree_and x.e x.es) (tree_and x.f x.fs) k.us k.rest k.first k.second k.partial) k.empty k.full root.within)

  pub p3_kept : (h : Partial) → HaveArities ts → IsP3 false ts ps h → Treated row (p_node ts) h.e h.f
  p3_kept h c x =
      let k = parts row x.pattern right in
      let s : IsParted ts (tree_and x.e x.es) (tree_and x.f x.fs) = two_parts (tree_and x.e x.es) (tree_and x.f x.fs) k.us k.rest k.first k.second k.partial in
      subst (λ y. Treated row (p_node ts) y.e y.f) (sym x.becomes)
      (p3_parted row ts (tree_and x.e x.es) (tree_and x.f x.fs) s k.empty k.full
      (some_leaf_of (tree_and x.e x.es) (omega arith) (arities_left s c)) (some_leaf_of (tree_and x.f x.fs) (omega arith) (arities_right s c)))

  -- at the pertinent root a partial child is not the only one that meets the row
  pub full_column : (es fs us rest : Forest) (h : Partial) → IsParted ts es rest → IsParted rest fs us → AreEmpty row es → IsRoot row ts → ArePartial row us (h ∷ []) → (a : ℕ) × IsTrue (has (leaves_of fs) a)
  full_column es fs us rest h first second ee root (a_partial {t = u} part no_partial) =
      let m : Misses row (leaves u) = (miss_right row second (miss_right row first root.lowest)).0 in
      elim (has_parted_cases first m.0 (root.within m.0 m.1)) [
        | inl k ↦ absurd (both_ways (has row m.0) (ee m.0 k) m.1)
        | inr k ↦ elim (has_parted_cases second m.0 k) [
          | inl j ↦ (m.0, j)
          | inr j ↦ absurd (elim (has_append_cases (leaves u) [] m.0 j) [ inl i ↦ both_ways (has (leaves u) m.0) m.2 i | inr i ↦ both_ways false refl i ])
        ]
      ]

  module _ (once : (a : ℕ) → occurs (leaves_of ts) a ≤ 1) where
    p4_with : (es fs us rest : Forest) (h : Partial) → IsParted ts es rest → IsParted rest fs us → AreEmpty row es → AreFull row fs → IsRoot row ts → ArePartial row us (h ∷ []) → Rooted row (p_node ts) (p4 es h fs)
    p4_with es fs us rest h first second ee ff root (a_partial {t = u} part no_partial) =
        p4_parted row ts es rest fs u h.e h.f first second ee ff part once root.within (full_column es fs us rest h first second ee root (a_partial part no_partial))

    pub p4_kept : (u : Outline) → IsRoot row ts → IsP4 true ts ps u → Rooted row (p_node ts) u
    p4_kept u root x =
        let k = parts row x.pattern right in
        subst (Rooted row (p_node ts)) (sym x.becomes) (p4_with x.es x.fs k.us k.rest x.h k.first k.second k.empty k.full root k.partial)

    p5_with : (es fs us rest : Forest) (h : Partial) → IsParted ts es rest → IsParted rest fs us → AreEmpty row es → AreFull row fs → ArePartial row us (h ∷ []) → Treated row (p_node ts) (p5 es h fs).e (p5 es h fs).f
    p5_with es fs us rest h first second ee ff (a_partial {t = u} part no_partial) = p5_parted row ts es rest fs u h.e h.f first second ee ff part once

    pub p5_kept : (y : Partial) → IsP5 false ts ps y → Treated row (p_node ts) y.e y.f
    p5_kept y x =
        let k = parts row x.pattern right in
        subst (λ z. Treated row (p_node ts) z.e z.f) (sym x.becomes) (p5_with x.es x.fs k.us k.rest x.h k.first k.second k.empty k.full k.partial)

    p6_with : (es fs us rest : Forest) (h k : Partial) → IsParted ts es rest → IsParted rest fs us → AreEmpty row es → AreFull row fs → IsRoot row ts → ArePartial row us (h ∷ k ∷ []) → Rooted row (p_node ts) (p6 es h fs k)
    p6_with es fs us rest h k first second ee ff root (a_partial {t = u} part (a_partial {t = w} other no_partial)) =
        subst (λ y. Rooted row (p_node ts) (under es (q_node y))) (sym (six_line h k (star fs)))
        (p6_parted row ts es rest fs u w h.e h.f k.e k.f first second ee ff part other once root.within)

    pub p6_kept : (u : Outline) → IsRoot row ts → IsP6 true ts ps u → Rooted row (p_node ts) u
    p6_kept u root x =
        let k = parts row x.pattern right in
        subst (Rooted row (p_node ts)) (sym x.becomes) (p6_with x.es x.fs k.us k.rest x.h x.k k.first k.second k.empty k.full root k.partial)

-- There are empty and full children where there is no partial one.
abbrev pub HasBoth : Forest → Option Partial → Forest → Type 0
HasBoth es (Some h) fs = Unit {0}
HasBoth no_tree None fs = ⊥
HasBoth (tree_and e es) None no_tree = ⊥
HasBoth (tree_and e es) None (tree_and f fs) = Unit {0}

pub has_both : (ts es fs : Forest) (ps : List Label) (h : Option Partial) → IsRun ts ps es h fs → (AreAllFull ts ps → ⊥) → (AreAllEmpty ts ps → ⊥) → HasBoth es h fs
has_both ts es fs ps (Some h) r nf ne = tt
has_both ts no_tree fs ps None r nf ne = nf (run_all_full r)
has_both ts (tree_and e es) no_tree ps None r nf ne = ne (run_all_empty r)
has_both ts (tree_and e es) (tree_and f fs) ps None r nf ne = tt

-- There is a full column where there is just one partial child.
abbrev HasSecond : Option Partial → Forest → Option Partial → Type 0
HasSecond None fs None = Unit {0}
HasSecond (Some h) fs None = (a : ℕ) × IsTrue (has (leaves_of fs) a)
HasSecond None fs (Some k) = (a : ℕ) × IsTrue (has (leaves_of fs) a)
HasSecond (Some h) fs (Some k) = Unit {0}

module _ (row : List ℕ) where
  q2_line : (es us fs : Forest) (h : Option Partial) → IsAtMostOne row us h → AreEmpty row es → AreFull row fs →
      HaveArities (join es (join us fs)) → 2 ≤ count (join es (join us fs)) → HasBoth es h fs →
      Treated row (q_node (join es (join us fs))) (q2 es h fs).e (q2 es h fs).f
  q2_line no_tree us fs h no_such ee ff c n b = absurd b
  q2_line (tree_and e es) us no_tree h no_such ee ff c n b = absurd b
  q2_line (tree_and e es) us (tree_and f fs) h no_such ee ff c n b =
      q2_none row (tree_and e es) (tree_and f fs) ee ff
      (some_leaf_of (tree_and e es) (omega arith) (arities_join_left (tree_and e es) (tree_and f fs) c)) (some_leaf_of (tree_and f fs) (omega arith) (arities_join_right (tree_and e es) (tree_and f fs) c))
  q2_line es us fs h (one_such {t = u} k part) ee ff c n b = q2_partial row es fs u k part ee ff n c

  q2_run : (ts es fs : Forest) (ps : List Label) (h : Option Partial) → AreLabelled row ts ps → HaveArities ts → 2 ≤ count ts → IsRun ts ps es h fs →
      (AreAllFull ts ps → ⊥) → (AreAllEmpty ts ps → ⊥) → Treated row (q_node ts) (q2 es h fs).e (q2 es h fs).f
  q2_run ts es fs ps h right c n r nf ne =
      let k = run_parts row r right in
      subst (λ y. Treated row (q_node y) (q2 es h fs).e (q2 es h fs).f) k.is
      (q2_line es k.us fs h k.partial k.empty k.full (subst HaveArities (sym k.is) c) (subst (λ y. 2 ≤ count y) (sym k.is) n) (has_both ts es fs ps h r nf ne))

  -- The node has two children or more.
  pub q2_kept : (ts : Forest) (ps : List Label) (y : Partial) → AreLabelled row ts ps → HaveArities ts → 2 ≤ count ts → IsQ2 ts ps y → Treated row (q_node ts) y.e y.f
  q2_kept ts ps y right c n x =
      subst (λ z. Treated row (q_node ts) z.e z.f) (sym x.becomes)
      (elim x.pattern [
        | inl r ↦ q2_run ts x.es x.fs ps x.h right c n r x.not_full x.not_empty
        | inr r ↦
            treated_back row ts (q2 x.es x.h x.fs).e (q2 x.es x.h x.fs).f
            (q2_run (back ts) x.es x.fs (reverse ps) x.h (labelled_back row ts ps right) (arities_back ts c) (omega (arith, n, count_back ts)) r
            (λ s. x.not_full (full_unback s)) (λ s. x.not_empty (empty_unback s)))
      ])

  -- at the pertinent root a partial child is not the only one that meets the row
  second_column : (es us fs ws gs : Forest) (h k : Option Partial) → IsAtMostOne row us h → IsAtMostOne row ws k → AreEmpty row es → AreEmpty row gs →
      IsRoot row (join es (join us (join fs (join ws gs)))) → HasSecond h fs k
  second_column es us fs ws gs h k no_such no_such ee gg root = tt
  second_column es us fs ws gs h k (one_such x part) (one_such y other) ee gg root = tt
  second_column es us fs ws gs h k (one_such {t = u} x part) no_such ee gg root =
      let m : Misses row (leaves u) = (miss_after row es (tree_and u (join fs gs)) root.lowest).0 in
      elim (has_join_cases es (tree_and u (join fs gs)) m.0 (root.within m.0 m.1)) [
        | inl i ↦ absurd (both_ways (has row m.0) (ee m.0 i) m.1)
        | inr i ↦ elim (has_append_cases (leaves u) (leaves_of (join fs gs)) m.0 i) [
          | inl j ↦ absurd (both_ways (has (leaves u) m.0) m.2 j)
          | inr j ↦ elim (has_join_cases fs gs m.0 j) [ inl g ↦ (m.0, g) | inr g ↦ absurd (both_ways (has row m.0) (gg m.0 g) m.1) ]
        ]
      ]
  second_column es us fs ws gs h k no_such (one_such {t = w} y other) ee gg root =
      let m : Misses row (leaves w) = (miss_after row fs (tree_and w gs) (miss_after row es (join fs (tree_and w gs)) root.lowest)).0 in
      elim (has_join_cases es (join fs (tree_and w gs)) m.0 (root.within m.0 m.1)) [
        | inl i ↦ absurd (both_ways (has row m.0) (ee m.0 i) m.1)
        | inr i ↦ elim (has_join_cases fs (tree_and w gs) m.0 i) [
          | inl j ↦ (m.0, j)
          | inr j ↦ absurd (elim (has_append_cases (leaves w) (leaves_of gs) m.0 j) [ inl g ↦ both_ways (has (leaves w) m.0) m.2 g | inr g ↦ both_ways (has row m.0) (gg m.0 g) m.1 ])
        ]
      ]

  q3_line : (es us fs ws gs : Forest) (h k : Option Partial) → IsAtMostOne row us h → IsAtMostOne row ws k → AreEmpty row es → AreFull row fs → AreEmpty row gs → HasSecond h fs k →
      ((a : ℕ) → IsTrue (has row a) → IsTrue (has (leaves_of (join es (join us (join fs (join ws gs))))) a)) →
      Rooted row (q_node (join es (join us (join fs (join ws gs))))) (q_node (q3 es h fs k gs))
  q3_line es us fs ws gs h k no_such no_such ee ff gg s within = q3_none row es fs gs ee ff gg within
  q3_line es us fs ws gs h k (one_such {t = u} x part) no_such ee ff gg s within =
      subst (λ ys. Rooted row (q_node (join es (tree_and u (join fs gs)))) (q_node ys)) (sym (q3_line_left x es fs gs)) (q3_left row es fs gs u x.e x.f part ee ff gg s.0 s.1 within)
  q3_line es us fs ws gs h k no_such (one_such {t = w} y other) ee ff gg s within =
      subst (λ ys. Rooted row (q_node (join es (join fs (tree_and w gs)))) (q_node ys)) (sym (q3_line_right y es fs gs)) (q3_right row es fs gs w y.e y.f other ee ff gg s.0 s.1 within)
  q3_line es us fs ws gs h k (one_such {t = u} x part) (one_such {t = w} y other) ee ff gg s within =
      subst (λ ys. Rooted row (q_node (join es (tree_and u (join fs (tree_and w gs))))) (q_node ys)) (sym (q3_line_both x y es fs gs))
      (q3_both row es fs gs u w x.e x.f y.e y.f part other ee ff gg within)

  -- children that read empty, at most one partial, full, at most one partial, empty
  pub span_kept : (ts es fs gs : Forest) (ps : List Label) (h k : Option Partial) → AreLabelled row ts ps → IsRoot row ts → IsTwoSidedRun ts ps es h fs k gs → Rooted row (q_node ts) (q_node (q3 es h fs k gs))
  span_kept ts es fs gs ps h k right root s =
      let m = span_parts row s right in
      let here : IsRoot row (join es (join m.us (join fs (join m.ws gs)))) = subst (IsRoot row) (sym m.is) root in
      subst (λ y. Rooted row (q_node y) (q_node (q3 es h fs k gs))) m.is
      (q3_line es m.us fs m.ws gs h k m.left m.right m.before m.full m.behind (second_column es m.us fs m.ws gs h k m.left m.right m.before m.behind here) here.within)

  rooted_back : (t : Outline) (us : Forest) → Rooted row t (q_node us) → Rooted row t (q_node (back us))
  rooted_back t us r =
      record {
        same = λ a. back_occurs us a ∙ r.same a;
        up = λ R eq b. r.up R eq (unturned_bound R eq us b);
        down = λ R eq b c. turned_bound R eq us (r.down R eq b c);
      }

  q2_shaped : (ts es fs : Forest) (ps : List Label) (h : Option Partial) → AreLabelled row ts ps → IsRoot row ts → IsRun ts ps es h fs ⊎ IsRun (back ts) (reverse ps) es h fs →
      Rooted row (q_node ts) (q_node (line (q2 es h fs)))
  q2_shaped ts es fs ps h right root p =
      elim p [
        | inl r ↦ subst (λ ys. Rooted row (q_node ts) (q_node ys)) (line_front es fs h) (span_kept ts es fs no_tree ps h None right root (run_span r))
        | inr r ↦
            let k : q3 no_tree None (back fs) h (back es) ≡ back (line (q2 es h fs)) =
            line_rear (back fs) (back es) h ∙ ap₂ (λ xs ys. back (line (q2 xs h ys))) (back-back es) (back-back fs) in
            subst (λ ys. Rooted row (q_node ts) (q_node ys)) (back-back (line (q2 es h fs)))
            (rooted_back (q_node ts) (back (line (q2 es h fs)))
            (subst (λ ys. Rooted row (q_node ts) (q_node ys)) k (span_kept ts no_tree (back fs) (back es) ps None h right root (rear_span r))))
      ]

  -- Q2 at the pertinent root
  pub q2_rooted : (ts : Forest) (ps : List Label) (x : Partial) (u : Outline) → AreLabelled row ts ps → IsRoot row ts → IsQ2 ts ps x → IsShape x u → Rooted row (q_node ts) u
  q2_rooted ts ps x u right root q shape =
      let r : Rooted row (q_node ts) (q_node (line x)) = subst (λ y. Rooted row (q_node ts) (q_node (line y))) (sym q.becomes) (q2_shaped ts q.es q.fs ps q.h right root q.pattern) in
      elim shape [ inl e ↦ subst (Rooted row (q_node ts)) (sym e) r | inr e ↦ subst (Rooted row (q_node ts)) (sym e) (rooted_back (q_node ts) (line x) r) ]

  pub q3_kept : (ts : Forest) (ps : List Label) (u : Outline) → AreLabelled row ts ps → IsRoot row ts → IsQ3 true ts ps u → Rooted row (q_node ts) u
  q3_kept ts ps u right root x = subst (Rooted row (q_node ts)) (sym x.becomes) (span_kept ts x.es x.fs x.gs ps x.h x.k right root x.pattern)
