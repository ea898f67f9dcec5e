-- The frontiers of a tree that is tied to rows are exactly the valid orders of the rows.
pub use Rattle.column_order.proofs.Counts.{order_once}
use Rattle.std.proofs.Common.{◌≡◌, ◌≢◌, ◌∙◌, ◌↔◌, ℕ, ◌+◌, ◌<◌, ◌≤◌, cond, eqb, eq-eqb, List, [], ◌∷◌, IsTrue, refl, sym, ap, arith}
use Rattle.column_order.specs.Orders.{has, occurs, place, IsOrder, IsValidOrder}
use Rattle.row_model.specs.Graph.{Evenly}
use Rattle.column_order.proofs.Lists.{has_head, has_tail, place-inj, place_head, place_tail, occurs_from_has}
use Rattle.row_model.proofs.Walks.{evenly_one_side}
use Rattle.pq_tree.specs.Outline.{Outline, leaves, IsFrontier}
use Rattle.tree_theory.specs.Tied.{IsTied}
use Rattle.tree_theory.proofs.Bound.{IsBound, bound_from}
use Rattle.tree_theory.proofs.Frontiers.{frontier_occurs, has_same}
use Rattle.tree_theory.proofs.Sorted.{Rises, rises_same}
use Rattle.tree_theory.proofs.Law.{Found, found}

rises_by : (r s : ℕ → ℕ) (xs : List ℕ) → ((a b : ℕ) → IsTrue (has xs a) → IsTrue (has xs b) → r a < r b → s a < s b) → Rises r xs → Rises s xs
rises_by r s [] m h = tt
rises_by r s (x ∷ xs) m h =
    (λ y k. m x y (has_head x xs) (has_tail x y xs k) (h.0 y k), rises_by r s xs (λ a b ha hb. m a b (has_tail x a xs ha) (has_tail x b xs hb)) h.1)

pub order_rises : (o : List ℕ) → ((a : ℕ) → occurs o a ≤ 1) → Rises (place o) o
order_rises [] once = tt
order_rises (x ∷ xs) once =
    let apart : (y : ℕ) → IsTrue (has xs y) → x ≢ y = λ y k e. not_twice x y xs (once y) k e in (
      λ y k. omega (arith, place_head x x xs refl, place_tail x y xs (apart y k)),
      rises_by (place xs) (place (x ∷ xs)) xs
          (λ a b ha hb l. omega (arith, place_tail x a xs (apart a ha), place_tail x b xs (apart b hb)))
          (order_rises xs (λ a. let h : cond (eqb x a) 1 0 + occurs xs a ≤ 1 = once a in omega arith)),
    )
  where
    not_twice : (x y : ℕ) (xs : List ℕ) → occurs (x ∷ xs) y ≤ 1 → IsTrue (has xs y) → x ≡ y → ⊥
    not_twice x y xs once k e =
        let one : cond {A = ℕ} (eqb x y) 1 0 ≡ 1 = ap (λ b. cond {A = ℕ} b 1 0) (eq-eqb x y e) in
        omega (arith, occurs_from_has xs y k)

-- what a tied tree says node by node
pub tied_bound : (c : ℕ) (rows : List (List ℕ)) (t : Outline) → IsTied c rows t → IsBound (Evenly c rows) t
tied_bound c rows t h =
    bound_from (Evenly c rows) t (leaves t) h.together h.in_line t (λ d k. k) (λ x k. k)

pub frontier_valid : (c : ℕ) (rows : List (List ℕ)) (t : Outline) → IsOrder c (leaves t) → IsTied c rows t → (o : List ℕ) → IsFrontier t o → IsValidOrder c rows o
frontier_valid c rows t whole h o f = record { order = λ a. frontier_occurs t o a f ∙ whole a; kept = h.kept o f }

-- an order that keeps every row is a frontier of each bound tree over its columns
pub valid_frontier : (c : ℕ) (rows : List (List ℕ)) (t : Outline) → IsOrder c (leaves t) → IsBound (Evenly c rows) t → (o : List ℕ) → IsValidOrder c rows o → IsFrontier t o
valid_frontier c rows t whole b o valid =
    let k : Found (Evenly c rows) (place o) (place-inj o) (λ v w r. sym (evenly_one_side c rows o valid v w r)) t =
    found (Evenly c rows) (place o) (place-inj o) (λ v w r. sym (evenly_one_side c rows o valid v w r)) t b (order_once c (leaves t) whole) in
    let same : k.order ≡ o =
    rises_same (place o) k.order o k.rises (order_rises o (order_once c o valid.order))
    (λ x. has_same k.order o x (frontier_occurs t k.order x k.frontier ∙ whole x ∙ sym (valid.order x))) in
    rw same at k.frontier

pub tied_law : (c : ℕ) (rows : List (List ℕ)) (t : Outline) → IsOrder c (leaves t) → IsTied c rows t → (o : List ℕ) → IsFrontier t o ↔ IsValidOrder c rows o
tied_law c rows t whole h o = (frontier_valid c rows t whole h o, valid_frontier c rows t whole (tied_bound c rows t h) o)
