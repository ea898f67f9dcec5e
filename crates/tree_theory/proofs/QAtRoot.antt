-- Q2 and Q3 at the pertinent root, and P6 by way of Q3.
use Rattle.std.proofs.Common.{◌≡◌, ◌∙◌, ℕ, List, IsTrue, sym, subst, inl, inr}
use Rattle.column_order.specs.Orders.{has}
use Rattle.column_order.proofs.Lists.{has_append_left, has_same}
use Rattle.pq_tree.specs.Outline.{Outline, Forest, q_node, tree_and, leaves, leaves_of}
use Rattle.tree_theory.proofs.Bound.{IsClosed, IsBound}
use Rattle.pq_tree.specs.Forests.{join, back}
use Rattle.pq_tree.proofs.Forests.{join_assoc, has_join_cases, has_join_left, has_join_right, back_has, back-join}
use Rattle.tree_theory.proofs.BelowRoot.{AreEmpty, AreFull, Treated}
use Rattle.tree_theory.proofs.AtRoot.{Rooted}
use Rattle.tree_theory.proofs.QSteps.{Refined, refined-refl, refined-trans, rooted_from, refined_right, refined_left, run_closed}

pub refined_rooted : (row : List ℕ) (t u w : Outline) → Refined row t u → Rooted row u w → Rooted row t w
refined_rooted row t u w g h =
    record {
      same = λ a. h.same a ∙ g.same a;
      up = λ R eq b.
          let k : IsBound R u × IsClosed R (leaves u) row = h.up R eq b in
          (g.up R eq k.0, λ a c d i j l n. k.1 a c d i j (has_same (leaves u) (leaves t) d (g.same d) ∙ l) n);
      down = λ R eq b c.
          h.down R eq (g.down R eq b c) (λ a e d i j l n. c a e d i j (sym (has_same (leaves u) (leaves t) d (g.same d)) ∙ l) n);
    }

pub part_empty : (row : List ℕ) (e : Forest) → AreEmpty row e → AreEmpty row (back e)
part_empty row e h a k = h a (sym (back_has e a) ∙ k)

pub part_full : (row : List ℕ) (f : Forest) → AreFull row f → AreFull row (back f)
part_full row f h a k = h a (sym (back_has f a) ∙ k)

pub join_empty : (row : List ℕ) (xs ys : Forest) → AreEmpty row xs → AreEmpty row ys → AreEmpty row (join xs ys)
join_empty row xs ys h k a m = elim (has_join_cases xs ys a m) [ inl n ↦ h a n | inr n ↦ k a n ]

pub join_full : (row : List ℕ) (xs ys : Forest) → AreFull row xs → AreFull row ys → AreFull row (join xs ys)
join_full row xs ys h k a m = elim (has_join_cases xs ys a m) [ inl n ↦ h a n | inr n ↦ k a n ]

-- no partial child
pub q3_none : (row : List ℕ) (es fs gs : Forest) → AreEmpty row es → AreFull row fs → AreEmpty row gs →
    ((a : ℕ) → IsTrue (has row a) → IsTrue (has (leaves_of (join es (join fs gs))) a)) → Rooted row (q_node (join es (join fs gs))) (q_node (join es (join fs gs)))
q3_none row es fs gs ee ff gg within =
    rooted_from row (q_node (join es (join fs gs))) (q_node (join es (join fs gs))) (refined-refl row (q_node (join es (join fs gs)))) (run_closed row es fs gs ee ff gg within)

-- one partial child, before full ones
pub q3_left : (row : List ℕ) (es fs gs : Forest) (u : Outline) (e f : Forest) → Treated row u e f → AreEmpty row es → AreFull row fs → AreEmpty row gs →
    (s : ℕ) → IsTrue (has (leaves_of fs) s) →
    ((a : ℕ) → IsTrue (has row a) → IsTrue (has (leaves_of (join es (tree_and u (join fs gs)))) a)) →
    Rooted row (q_node (join es (tree_and u (join fs gs)))) (q_node (join (join es e) (join (join f fs) gs)))
q3_left row es fs gs u e f part ee ff gg s hs within =
    let shape : join es (join (join e f) (join fs gs)) ≡ join (join es e) (join (join f fs) gs) = simp join_assoc in
    let step : Refined row (q_node (join es (tree_and u (join fs gs)))) (q_node (join es (join (join e f) (join fs gs)))) =
    refined_right row es (join fs gs) u e f part s (has_join_left fs gs s hs) (ff s hs) in
    let step' : Refined row (q_node (join es (tree_and u (join fs gs)))) (q_node (join (join es e) (join (join f fs) gs))) =
    subst (λ w. Refined row (q_node (join es (tree_and u (join fs gs)))) (q_node w)) shape step in
    rooted_from row (q_node (join es (tree_and u (join fs gs)))) (q_node (join (join es e) (join (join f fs) gs))) step'
    (run_closed row (join es e) (join f fs) gs (join_empty row es e ee part.empty) (join_full row f fs part.full ff) gg
    (λ a h. has_same (leaves_of (join (join es e) (join (join f fs) gs))) (leaves_of (join es (tree_and u (join fs gs)))) a (step'.same a) ∙ within a h))

-- one partial child, behind full ones
pub q3_right : (row : List ℕ) (es fs gs : Forest) (w : Outline) (e f : Forest) → Treated row w e f → AreEmpty row es → AreFull row fs → AreEmpty row gs → (s : ℕ) → IsTrue (has (leaves_of fs) s) →
    ((a : ℕ) → IsTrue (has row a) → IsTrue (has (leaves_of (join es (join fs (tree_and w gs)))) a)) →
    Rooted row (q_node (join es (join fs (tree_and w gs)))) (q_node (join es (join (join fs (back f)) (join (back e) gs))))
q3_right row es fs gs w e f part ee ff gg s hs within =
    let old : join (join es fs) (tree_and w gs) ≡ join es (join fs (tree_and w gs)) = join_assoc es fs (tree_and w gs) in
    let new : join (join es fs) (join (back (join e f)) gs) ≡ join es (join (join fs (back f)) (join (back e) gs)) = simp (back-join, join_assoc) in
    let step : Refined row (q_node (join es (join fs (tree_and w gs)))) (q_node (join es (join (join fs (back f)) (join (back e) gs)))) =
    subst (λ y. Refined row (q_node y) (q_node (join es (join (join fs (back f)) (join (back e) gs))))) old
    (subst (λ y. Refined row (q_node (join (join es fs) (tree_and w gs))) (q_node y)) new
    (refined_left row (join es fs) gs w e f part s (has_join_right es fs s hs) (ff s hs))) in
    rooted_from row (q_node (join es (join fs (tree_and w gs)))) (q_node (join es (join (join fs (back f)) (join (back e) gs)))) step
    (run_closed row es (join fs (back f)) (join (back e) gs) ee (join_full row fs (back f) ff (part_full row f part.full)) (join_empty row (back e) gs (part_empty row e part.empty) gg)
    (λ a h. has_same (leaves_of (join es (join (join fs (back f)) (join (back e) gs)))) (leaves_of (join es (join fs (tree_and w gs)))) a (step.same a) ∙ within a h))

-- a partial child at each end of the full ones
pub q3_both : (row : List ℕ) (es fs gs : Forest) (u w : Outline) (e f e2 f2 : Forest) → Treated row u e f → Treated row w e2 f2 → AreEmpty row es → AreFull row fs → AreEmpty row gs →
    ((a : ℕ) → IsTrue (has row a) → IsTrue (has (leaves_of (join es (tree_and u (join fs (tree_and w gs))))) a)) →
    Rooted row (q_node (join es (tree_and u (join fs (tree_and w gs))))) (q_node (join (join es e) (join (join f (join fs (back f2))) (join (back e2) gs))))
q3_both row es fs gs u w e f e2 f2 part other ee ff gg within =
    let old : Forest = join es (tree_and u (join fs (tree_and w gs))) in
    let shape : join es (join (join e f) (join fs (tree_and w gs))) ≡ join (join es (join (join e f) fs)) (tree_and w gs) = simp join_assoc in
    let shape2 : join (join es (join (join e f) fs)) (join (back (join e2 f2)) gs) ≡ join (join es e) (join (join f (join fs (back f2))) (join (back e2) gs)) =
    simp (back-join, join_assoc) in
    let in_w : IsTrue (has (leaves w) other.some_full.0) =
    sym (has_same (leaves_of (join e2 f2)) (leaves w) other.some_full.0 (other.same other.some_full.0)) ∙ has_join_right e2 f2 other.some_full.0 other.some_full.1 in
    let one : Refined row (q_node old) (q_node (join (join es (join (join e f) fs)) (tree_and w gs))) =
    subst (λ x. Refined row (q_node old) (q_node x)) shape
    (refined_right row es (join fs (tree_and w gs)) u e f part other.some_full.0
    (has_join_right fs (tree_and w gs) other.some_full.0 (has_append_left (leaves w) (leaves_of gs) other.some_full.0 in_w)) (other.full other.some_full.0 other.some_full.1)) in
    let two : Refined row (q_node (join (join es (join (join e f) fs)) (tree_and w gs))) (q_node (join (join es e) (join (join f (join fs (back f2))) (join (back e2) gs)))) =
    subst (λ x. Refined row (q_node (join (join es (join (join e f) fs)) (tree_and w gs))) (q_node x)) shape2
    (refined_left row (join es (join (join e f) fs)) gs w e2 f2 other part.some_full.0
    (has_join_right es (join (join e f) fs) part.some_full.0 (has_join_left (join e f) fs part.some_full.0 (has_join_right e f part.some_full.0 part.some_full.1)))
    (part.full part.some_full.0 part.some_full.1)) in
    let all : Refined row (q_node old) (q_node (join (join es e) (join (join f (join fs (back f2))) (join (back e2) gs)))) =
    refined-trans row (q_node old) (q_node (join (join es (join (join e f) fs)) (tree_and w gs))) (q_node (join (join es e) (join (join f (join fs (back f2))) (join (back e2) gs)))) one two in
    rooted_from row (q_node old) (q_node (join (join es e) (join (join f (join fs (back f2))) (join (back e2) gs)))) all
    (run_closed row (join es e) (join f (join fs (back f2))) (join (back e2) gs)
    (join_empty row es e ee part.empty)
    (join_full row f (join fs (back f2)) part.full (join_full row fs (back f2) ff (part_full row f2 other.full)))
    (join_empty row (back e2) gs (part_empty row e2 other.empty) gg)
    (λ a h. has_same (leaves_of (join (join es e) (join (join f (join fs (back f2))) (join (back e2) gs)))) (leaves_of old) a (all.same a) ∙ within a h))
