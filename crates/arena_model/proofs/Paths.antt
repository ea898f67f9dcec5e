-- Paths downwards, and the tops of a forest.
use Rattle.std.proofs.Common.{◌≡◌, ◌≢◌, ◌⊎◌, inl, inr, ℕ, ◌+◌, ◌≤◌, List, [], length, refl, sym, subst, arith}
use Rattle.std.proofs.lemmas.Bool.{cases_eq, cases_lt}
use Rattle.arena_model.proofs.Slots.{children_past, children_times, children_apart}
use Rattle.arena_model.specs.Layout.{Slot, Layout, slot, children_at, times_child, IsAtOrAbove, here, down, IsLayout}
use Rattle.column_order.specs.Orders.{occurs}

-- the last step of a path
pub above_step : (slots : List Slot) (n m p : ℕ) → IsAtOrAbove slots n m → 1 ≤ occurs (slot slots m).children p → IsAtOrAbove slots n p
above_step slots n _ p (here m) o = down m p p o (here p)
above_step slots n _ p (down n' k m o l) o' = down n' k p o (above_step slots k m p l o')

pub data EndsAt (slots : List Slot) (n p : ℕ) : Type 0 where
  at_once : n ≡ p → EndsAt slots n p
  by : (m : ℕ) → IsAtOrAbove slots n m → 1 ≤ occurs (slot slots m).children p → EndsAt slots n p

-- a node that is no child is reached from itself alone
pub top_alone : (f : Layout) (n x : ℕ) → times_child f.slots x ≡ 0 → IsAtOrAbove f.slots n x → n ≡ x
top_alone f _ _ top_name (here n) = refl
top_alone f _ _ top_name (down n k x o l) =
    let e : k ≡ x = top_alone f k x top_name l in
    let o' : 1 ≤ occurs (children_at f n) x = subst (λ z. 1 ≤ occurs (children_at f n) z) e o in
    absurd (let b : occurs (children_at f n) x ≤ times_child f.slots x = children_times f n x in omega arith)

-- a node has one node above it
pub one_parent : (f : Layout) (m m' p : ℕ) → IsLayout f → 1 ≤ occurs (children_at f m) p → 1 ≤ occurs (children_at f m') p → m ≡ m'
one_parent f m m' p h o o' = elim (cases_eq m m') [
  | inl e ↦ e
  | inr ne ↦ elim (cases_lt m' (length f.slots)) [
    | inl lt ↦ absurd (let a : occurs (children_at f m) p + occurs (children_at f m') p ≤ times_child f.slots p = children_apart f m m' p ne lt in
        let b : times_child f.slots p ≤ 1 = h.once p in omega arith)
    | inr ge ↦ absurd (let z : 1 ≤ occurs [] p = subst (λ ks. 1 ≤ occurs ks p) (children_past f m' ge) o' in omega arith)
  ]
]

-- a path kept where only `node` and what is not above it changed
pub above_kept : (slots slots' : List Slot) (node : ℕ) →
    ((m k : ℕ) → m ≢ node → 1 ≤ occurs (slot slots m).children k → 1 ≤ occurs (slot slots' m).children k) →
    (a : ℕ) → IsAtOrAbove slots a node → IsAtOrAbove slots' a node
above_kept slots slots' _ h _ (here n) = here n
above_kept slots slots' _ h _ (down a k node o l) = elim (cases_eq a node) [
  | inl e ↦ subst (λ z. IsAtOrAbove slots' a z) e (here a)
  | inr ne ↦ down a k node (h a k ne o) (above_kept slots slots' node h k l)
]

pub above_ends : (slots : List Slot) (n p : ℕ) → IsAtOrAbove slots n p → EndsAt slots n p
above_ends slots _ _ (here n) = at_once refl
above_ends slots _ _ (down n k p o l) = elim (above_ends slots k p l) [
  | at_once e ↦ by n (here n) (subst (λ z. 1 ≤ occurs (slot slots n).children z) e o)
  | by m lk o' ↦ by m (down n k m o lk) o'
]

-- of two nodes above a third one, one is above the other
pub one_path : (f : Layout) (a b p : ℕ) → IsLayout f → IsAtOrAbove f.slots a p → IsAtOrAbove f.slots b p → IsAtOrAbove f.slots a b ⊎ IsAtOrAbove f.slots b a
one_path f _ b _ h (here a) l = inr l
one_path f _ b _ h (down a k p o la) l = elim (one_path f k b p h la l) [
  | inl kb ↦ inl (down a k b o kb)
  | inr bk ↦ elim (above_ends f.slots b k bk) [
    | at_once e ↦ inl (down a k b o (subst (λ z. IsAtOrAbove f.slots k z) (sym e) (here k)))
    | by m lm o' ↦ inr (subst (λ z. IsAtOrAbove f.slots b z) (one_parent f m a k h o' o) lm)
  ]
]

-- a node that stands alone is not above what another top is above
pub other_top : (f : Layout) (r n p : ℕ) → IsLayout f → times_child f.slots r ≡ 0 → times_child f.slots n ≡ 0 → r ≢ n →
    IsAtOrAbove f.slots r p → IsAtOrAbove f.slots n p → ⊥
other_top f r n p h tr tn ne lr ln = elim (one_path f r n p h lr ln) [
  | inl l ↦ ne (top_alone f r n tn l)
  | inr l ↦ ne (sym (top_alone f n r tr l))
]
