-- Marks at the columns of trees, and the parts of the trees' row that they tell.
use Rattle.std.proofs.Common.{◌≡◌, ◌≢◌, ◌∙◌, ℕ, zero, suc, ◌+◌, ◌<◌, ◌≤◌, Bool, true, false, ◌&&◌, ◌||◌, eqb, List, [], ◌∷◌, ◌++◌, length, set, get_or, IsTrue, IsFalse, refl, sym, ap, subst, inl, inr, arith, eq-eqb}
use Rattle.std.proofs.lemmas.Bool.{both_ways, cases_Bool, ne_eqb, false_from_ne_true}
use Rattle.column_order.specs.Orders.{has, occurs}
use Rattle.std.proofs.lemmas.List.{get_or-set_same, get_or-set_other}
use Rattle.column_order.proofs.Lists.{has_cases, has_head, has-append, has_append_left, has_append_right, has_append_cases, occurs-append, apart}
use Rattle.pq_tree.specs.Outline.{Outline, leaves, leaves_of}
use Rattle.pq_tree.specs.Forests.{forest}
use Rattle.tree_meet.specs.Marks.{AreMarkedByTree, is_at, is_near}

-- one tree more is marked
pub marked_more : (ts : List Outline) (t : Outline) (first : ℕ) (old new : List ℕ) → AreMarkedByTree old first (forest ts) →
    ((a : ℕ) → IsTrue (has (leaves t) a) → get_or new a 0 ≡ first + length ts) →
    ((a : ℕ) → IsFalse (has (leaves t) a) → get_or new a 0 ≡ get_or old a 0) →
    ((a : ℕ) → occurs (leaves_of (forest ts) ++ leaves t) a ≤ 1) →
    AreMarkedByTree new first (forest (ts ++ t ∷ []))
marked_more [] t first old new h own others once = (λ a k. own a k ∙ omega arith, tt)
marked_more (u ∷ us) t first old new h own others once = (
  λ a k. others a (apart (leaves u) (leaves t) a (omega (arith, once a, occurs-append (leaves u ++ leaves_of (forest us)) (leaves t) a, occurs-append (leaves u) (leaves_of (forest us)) a, occurs-append (leaves u) (leaves t) a)) k) ∙ h.0 a k,
  marked_more us t (first + 1) old new h.1
      (λ a k. own a k ∙ omega arith)
      others
      (λ a. omega (arith, once a, occurs-append (leaves u ++ leaves_of (forest us)) (leaves t) a, occurs-append (leaves u) (leaves_of (forest us)) a, occurs-append (leaves_of (forest us)) (leaves t) a)),
)

-- the marks of the columns of trees
pub marks_range : (marks : List ℕ) (first : ℕ) (ts : List Outline) → AreMarkedByTree marks first (forest ts) → (a : ℕ) → IsTrue (has (leaves_of (forest ts)) a) →
    (first ≤ get_or marks a 0) × (get_or marks a 0 < first + length ts)
marks_range marks first [] h a k = absurd (both_ways false refl k)
marks_range marks first (t ∷ ts) h a k =
    elim (has_append_cases (leaves t) (leaves_of (forest ts)) a k) [
      | inl m ↦ let e = h.0 a m in (omega arith, omega arith)
      | inr m ↦ let r = marks_range marks (first + 1) ts h.1 a m in (omega (arith, r.0), omega (arith, r.1))
    ]

-- among the columns of the trees, those with the mark of a tree are its own
pub marks_tell : (marks : List ℕ) (first : ℕ) (ts : List Outline) (d : Outline) → AreMarkedByTree marks first (forest ts) → ((a : ℕ) → occurs (leaves_of (forest ts)) a ≤ 1) →
    (i : ℕ) → i < length ts → (a : ℕ) → (has (leaves_of (forest ts)) a && eqb (get_or marks a 0) (first + i)) ≡ has (leaves (get_or ts i d)) a
marks_tell marks first [] d h once i l a = absurd (omega arith)
marks_tell marks first (t ∷ ts) d h once zero l a =
    elim (cases_Bool (has (leaves t) a)) [
      | inl y ↦ rw (has_append_left (leaves t) (leaves_of (forest ts)) a y, eq-eqb (get_or marks a 0) (first + 0) (h.0 a y ∙ omega arith), y) refl
      | inr n ↦ elim (cases_Bool (has (leaves_of (forest ts)) a)) [
        | inl m ↦
            let r = marks_range marks (first + 1) ts h.1 a m in
            let other : get_or marks a 0 ≢ first + 0 = λ e. absurd (omega (arith, r.0, e)) in
            rw (has_append_right (leaves t) (leaves_of (forest ts)) a m, ne_eqb (get_or marks a 0) (first + 0) other, n) refl
        | inr m ↦ rw (has-append (leaves t) (leaves_of (forest ts)) a, n, m) refl
      ]
    ]
marks_tell marks first (t ∷ ts) d h once (suc i) l a =
    let rest : (b : ℕ) → occurs (leaves_of (forest ts)) b ≤ 1 = λ b. omega (arith, once b, occurs-append (leaves t) (leaves_of (forest ts)) b) in
    let e : first + 1 + i ≡ first + suc i = omega arith in
    let k : (has (leaves_of (forest ts)) a && eqb (get_or marks a 0) (first + suc i)) ≡ has (leaves (get_or ts i d)) a =
    subst (λ n. (has (leaves_of (forest ts)) a && eqb (get_or marks a 0) n) ≡ has (leaves (get_or ts i d)) a) e (marks_tell marks (first + 1) ts d h.1 rest i (omega arith) a) in
    elim (cases_Bool (has (leaves t) a)) [
      | inl y ↦
          let n : has (leaves_of (forest ts)) a ≡ false = apart (leaves t) (leaves_of (forest ts)) a (once a) y in
          let other : get_or marks a 0 ≢ first + suc i = λ q. absurd (omega (arith, h.0 a y, q)) in
          let lacks : has (leaves (get_or ts i d)) a ≡ false = sym k ∙ ap (λ b. b && eqb (get_or marks a 0) (first + suc i)) n in
          rw (has_append_left (leaves t) (leaves_of (forest ts)) a y, ne_eqb (get_or marks a 0) (first + suc i) other) (sym lacks)
      | inr n ↦ rw (has-append (leaves t) (leaves_of (forest ts)) a, n) k
    ]

-- the same of the index alone, where the first tree has the index 0
pub marks_tell_one : (marks : List ℕ) (ts : List Outline) (d : Outline) → AreMarkedByTree marks 0 (forest ts) → ((a : ℕ) → occurs (leaves_of (forest ts)) a ≤ 1) →
    (i : ℕ) → i < length ts → (a : ℕ) → (has (leaves_of (forest ts)) a && is_at (get_or marks a 0) i) ≡ has (leaves (get_or ts i d)) a
marks_tell_one marks ts d h once i l a =
    let e : 0 + i ≡ i = omega arith in
    subst (λ n. (has (leaves_of (forest ts)) a && eqb (get_or marks a 0) n) ≡ has (leaves (get_or ts i d)) a) e (marks_tell marks 0 ts d h once i l a)

and_either : (q x y : Bool) → (q && (x || y)) ≡ ((q && x) || (q && y))
and_either true x y = refl
and_either false x y = refl

-- and those with the mark of a tree or of the next one are those of both
pub marks_tell_pair : (marks : List ℕ) (ts : List Outline) (d : Outline) → AreMarkedByTree marks 0 (forest ts) → ((a : ℕ) → occurs (leaves_of (forest ts)) a ≤ 1) →
    (i : ℕ) → i + 1 < length ts → (a : ℕ) →
    (has (leaves_of (forest ts)) a && is_near (get_or marks a 0) i) ≡ has (leaves (get_or ts i d) ++ leaves (get_or ts (i + 1) d)) a
marks_tell_pair marks ts d h once i l a =
    let one : (has (leaves_of (forest ts)) a && eqb (get_or marks a 0) i) ≡ has (leaves (get_or ts i d)) a =
    marks_tell_one marks ts d h once i (omega arith) a in
    let two : (has (leaves_of (forest ts)) a && eqb (get_or marks a 0) (i + 1)) ≡ has (leaves (get_or ts (i + 1) d)) a =
    marks_tell_one marks ts d h once (i + 1) l a in
    and_either (has (leaves_of (forest ts)) a) (eqb (get_or marks a 0) i) (eqb (get_or marks a 0) (i + 1)) ∙
    ap (λ b. b || (has (leaves_of (forest ts)) a && eqb (get_or marks a 0) (i + 1))) one ∙
    ap (λ b. has (leaves (get_or ts i d)) a || b) two ∙
    sym (has-append (leaves (get_or ts i d)) (leaves (get_or ts (i + 1) d)) a)

-- the columns of some leaves got a mark, and no other column did
pub record IsMarkedTo (xs : List ℕ) (mark : ℕ) (old new : List ℕ) : Type 0 where
  pub own : (a : ℕ) → IsTrue (has xs a) → get_or new a 0 ≡ mark
  pub others : (a : ℕ) → IsFalse (has xs a) → get_or new a 0 ≡ get_or old a 0

-- those of further leaves too
pub marked_on : (xs ys zs : List ℕ) (mark : ℕ) (old mid new : List ℕ) → zs ≡ xs ++ ys → IsMarkedTo xs mark old mid → IsMarkedTo ys mark mid new → IsMarkedTo zs mark old new
marked_on xs ys zs mark old mid new e h k =
    let all : IsMarkedTo (xs ++ ys) mark old new =
    record {
      own = λ a i. elim (cases_Bool (has ys a)) [
        | inl y ↦ k.own a y
        | inr n ↦ elim (has_append_cases xs ys a i) [ inl x ↦ k.others a n ∙ h.own a x | inr y ↦ k.own a y ]
      ];
      others = λ a n.
          let x : IsFalse (has xs a) = false_from_ne_true (has xs a) (λ y. both_ways (has (xs ++ ys) a) n (has_append_left xs ys a y)) in
          let y : IsFalse (has ys a) = false_from_ne_true (has ys a) (λ z. both_ways (has (xs ++ ys) a) n (has_append_right xs ys a z)) in
          k.others a y ∙ h.others a x;
    } in
    subst (λ (l : List ℕ). IsMarkedTo l mark old new) (sym e) all

-- before any leaf
pub marked_none : (mark : ℕ) (marks : List ℕ) → IsMarkedTo [] mark marks marks
marked_none mark marks = record { own = λ a i. absurd (both_ways false refl i); others = λ a n. refl }

-- one column
pub marked_leaf : (x mark : ℕ) (marks : List ℕ) → x < length marks → IsMarkedTo (x ∷ []) mark marks (set marks x mark)
marked_leaf x mark marks h =
    record {
      own = λ a i. elim (has_cases x a [] i) [
        | inl e ↦ subst (λ n. get_or (set marks x mark) n 0 ≡ mark) e (get_or-set_same marks x mark 0 h)
        | inr n ↦ absurd (both_ways false refl n)
      ];
      others = λ a n. get_or-set_other marks x a mark 0 (λ e. both_ways (has (x ∷ []) a) n (subst (λ y. IsTrue (has (x ∷ []) y)) (sym e) (has_head x [])));
    }
