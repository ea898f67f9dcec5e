-- Where the columns of a node stand in a line.
use Rattle.std.proofs.Common.{◌≡◌, ◌∙◌, ℕ, ◌+◌, ◌-◌, ◌<◌, ◌≤◌, List, ◌++◌, length, length-append, get_or, IsTrue, IsFalse, sym, ap, subst, inl, inr, arith, append_assoc}
use Rattle.std.proofs.lemmas.Bool.{cases_Bool, cases_lt}
use Rattle.std.proofs.lemmas.List.{get_or_append_left, get_or-append-add}
use Rattle.column_order.specs.Orders.{has, occurs, place, IsOrder}
use Rattle.column_order.proofs.Lists.{at_place, has_at, place_at}
use Rattle.column_order.proofs.Counts.{order_once, order_within}
use Rattle.row_model.specs.Graph.{IsPair}
use Rattle.verdict_check.specs.Complete.{RunsFrom, IsOutside, pair_at}

-- the first and the last of columns that stand in the line
pub stands_left : (l xs ys : List ℕ) (s : ℕ) → RunsFrom l s (xs ++ ys) → RunsFrom l s xs
stands_left l xs ys s h = record { before = h.before; after = ys ++ h.after; line_is = h.line_is ∙ ap (λ z. h.before ++ z) (append_assoc xs ys h.after); start_is = h.start_is }

pub stands_right : (l xs ys : List ℕ) (s : ℕ) → RunsFrom l s (xs ++ ys) → RunsFrom l (s + length xs) ys
stands_right l xs ys s h =
    record {
      before = h.before ++ xs;
      after = h.after;
      line_is = h.line_is ∙ ap (λ z. h.before ++ z) (append_assoc xs ys h.after) ∙ sym (append_assoc h.before xs (ys ++ h.after));
      start_is = length-append h.before xs ∙ ap (λ n. n + length xs) h.start_is;
    }

pub stands_long : (l xs : List ℕ) (s : ℕ) → RunsFrom l s xs → s + length xs ≤ length l
stands_long l xs s h = omega (arith, ap length h.line_is, length-append h.before (xs ++ h.after), length-append xs h.after, h.start_is)

at_index : (l xs : List ℕ) (s k : ℕ) → RunsFrom l s xs → k < length xs → get_or l (s + k) 0 ≡ get_or xs k 0
at_index l xs s k h lt =
    ap (λ z. get_or z (s + k) 0) h.line_is ∙ ap (λ n. get_or (h.before ++ (xs ++ h.after)) (n + k) 0) (sym h.start_is) ∙ get_or-append-add h.before (xs ++ h.after) k 0 ∙ get_or_append_left xs h.after 0 k lt

-- what stands at an index of theirs is one of the columns
pub stands_has : (l xs : List ℕ) (s i : ℕ) → RunsFrom l s xs → s ≤ i → i < s + length xs → IsTrue (has xs (get_or l i 0))
stands_has l xs s i h a b =
    let e : s + (i - s) ≡ i = omega arith in
    let lt : i - s < length xs = omega arith in
    subst (λ j. IsTrue (has xs (get_or l j 0))) e (subst (λ x. IsTrue (has xs x)) (sym (at_index l xs s (i - s) h lt)) (has_at xs (i - s) lt))

-- each of the columns stands at an index of theirs
pub has_stands : (l xs : List ℕ) (s a : ℕ) → RunsFrom l s xs → IsTrue (has xs a) → (i : ℕ) × (s ≤ i) × (i < s + length xs) × (get_or l i 0 ≡ a)
has_stands l xs s a h t =
    let p = at_place xs a t in
    (s + place xs a, omega arith, omega (arith, p.0), at_index l xs s (place xs a) h p.0 ∙ p.1)

-- each other column of the line stands at an index outside
pub outside_has : (l xs : List ℕ) (s d : ℕ) → RunsFrom l s xs → IsTrue (has l d) → IsFalse (has xs d) → (i : ℕ) × (i < length l) × IsOutside s (s + length xs) i × (get_or l i 0 ≡ d)
outside_has l xs s d h t f =
    let p = at_place l d t in
    let i = place l d in
    elim (cases_lt i s) [
      | inl lt ↦ (i, p.0, inl lt, p.1)
      | inr ge ↦ elim (cases_lt i (s + length xs)) [
        | inl lt ↦
            let inside : IsTrue (has xs d) = subst (λ x. IsTrue (has xs x)) p.1 (stands_has l xs s i h ge lt) in
            absurd (cc)
        | inr gt ↦ (i, p.0, inr gt, p.1)
      ]
    ]

-- what stands outside is none of the columns
pub outside_lacks : (l xs : List ℕ) (s i : ℕ) → ((a : ℕ) → occurs l a ≤ 1) → RunsFrom l s xs → i < length l → IsOutside s (s + length xs) i → IsFalse (has xs (get_or l i 0))
outside_lacks l xs s i once h lt o =
    elim (cases_Bool (has xs (get_or l i 0))) [
      | inl t ↦
          let j = has_stands l xs s (get_or l i 0) h t in
          let long : s + length xs ≤ length l = stands_long l xs s h in
          let same : j.0 ≡ i = sym (place_at l once j.0 (omega (arith, j.2, long))) ∙ ap (place l) j.3 ∙ place_at l once i lt in
          absurd (elim o [ inl a ↦ omega (arith, a, j.1, same) | inr a ↦ omega (arith, a, j.2, same) ])
      | inr f ↦ f
    ]

-- the columns at two indices of an order are a pair
pub order_pair : (c : ℕ) (l : List ℕ) (x y : ℕ) → IsOrder c l → x < length l → y < length l → (x ≡ y → ⊥) → IsPair c (pair_at l x y)
order_pair c l x y o lx ly ne =
    let a = order_within c l o (get_or l x 0) (has_at l x lx) in
    let b = order_within c l o (get_or l y 0) (has_at l y ly) in
    let once : (a : ℕ) → occurs l a ≤ 1 = order_once c l o in
    record {
      a_from = a.0;
      a_to = a.1;
      b_from = b.0;
      b_to = b.1;
      distinct = λ e. ne (sym (place_at l once x lx) ∙ ap (place l) e ∙ place_at l once y ly);
    }
