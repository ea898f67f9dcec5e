-- Trees that stand low begin with the least column with which they can.
use Rattle.std.proofs.Common.{◌≡◌, ◌∙◌, ◌-◌, ◌<◌, ◌≤◌, ℕ, zero, suc, List, [], ◌∷◌, ◌++◌, reverse, length, remove, Some, refl, sym, ap, subst, inl, inr, arith}
use Rattle.std.proofs.lemmas.List.{reverse-append}
use Rattle.pq_tree.specs.Outline.{Outline, Forest, leaf, p_node, q_node, no_tree, tree_and, leaves, leaves_of, IsFrontier}
use Rattle.pq_tree.specs.Proper.{forest, trees, count, HasArities, HaveArities}
use Rattle.pq_tree.specs.Forests.{back}
use Rattle.pq_tree.proofs.Forests.{forest-trees, forest_reverse, count_forest}
use Rattle.pq_tree.proofs.Frontiers.{leaves_are_frontier}
use Rattle.order_list.specs.Reading.{CanBegin, tree_at}
use Rattle.order_list.specs.Next.{OneBegins, IsNextAmong}
use Rattle.order_list.specs.Low.{first_column, first_of, AreFrom, FirstsRise, StandsLow, StandLow}
use Rattle.order_list.proofs.Readings.{arities_at}
use Rattle.order_list.proofs.Taking.{reverse_arities}
use Rattle.order_list.proofs.Begins.{begins_leaf, p_begins, q_begins, reverse_last}

-- a tree can begin with its first column
mutual
  leaves_begin : (t : Outline) → HasArities t → (f : List ℕ) × (leaves t ≡ first_column t ∷ f)
  leaves_begin (leaf a) h = ([], refl)
  leaves_begin (p_node ts) h = leaves_of_begin ts (omega (arith, h.0)) h.1
  leaves_begin (q_node ts) h = leaves_of_begin ts (omega (arith, h.0)) h.1

  leaves_of_begin : (ts : Forest) → 1 ≤ count ts → HaveArities ts → (f : List ℕ) × (leaves_of ts ≡ first_of ts ∷ f)
  leaves_of_begin no_tree n h = absurd (omega (arith, n))
  leaves_of_begin (tree_and t ts) n h =
      let r : (f : List ℕ) × (leaves t ≡ first_column t ∷ f) = leaves_begin t h.0 in
      (r.0 ++ leaves_of ts, ap (λ l. l ++ leaves_of ts) r.1)

begins_first : (t : Outline) → HasArities t → CanBegin t (first_column t)
begins_first t h =
    let r : (f : List ℕ) × (leaves t ≡ first_column t ∷ f) = leaves_begin t h in
    (r.0, subst (IsFrontier t) r.1 (leaves_are_frontier t))

-- the tree at a place
from_at : (m : ℕ) (ts : List Outline) (k : ℕ) → AreFrom m (forest ts) → k < length ts → m ≤ first_column (tree_at ts k)
from_at m [] k h l = absurd (omega arith)
from_at m (t ∷ ts) zero h l = h.0
from_at m (t ∷ ts) (suc k) h l = from_at m ts k h.1 (omega arith)

first_least : (ts : List Outline) (k : ℕ) → FirstsRise (forest ts) → k < length ts → first_column (tree_at ts 0) ≤ first_column (tree_at ts k)
first_least [] k h l = absurd (omega arith)
first_least (t ∷ ts) zero h l = omega arith
first_least (t ∷ ts) (suc k) h l = from_at (first_column t) ts k h.0 (omega arith)

pub low_at : (ts : List Outline) (k : ℕ) → StandLow (forest ts) → k < length ts → StandsLow (tree_at ts k)
low_at [] k h l = absurd (omega arith)
low_at (t ∷ ts) zero h l = h.0
low_at (t ∷ ts) (suc k) h l = low_at ts k h.1 (omega arith)

first_is : (ts : List Outline) → 1 ≤ length ts → first_of (forest ts) ≡ first_column (tree_at ts 0)
first_is [] n = absurd (omega arith)
first_is (t ∷ ts) n = refl

last_is : (ts : List Outline) → 1 ≤ length ts → first_of (back (forest ts)) ≡ first_column (tree_at ts (length ts - 1))
last_is ts n = ap first_of (sym (forest_reverse ts) ∙ ap forest (reverse_last ts n))

-- a tree that stands low can begin with no lower column
mutual
  none_lower : (t : Outline) → HasArities t → StandsLow t → (y : ℕ) → CanBegin t y → first_column t ≤ y
  none_lower (leaf a) h low y b = omega (arith, begins_leaf a y b)
  none_lower (p_node ts) h low y b =
      let us : List Outline = trees ts in
      let e : ts ≡ forest us = sym (forest-trees ts) in
      let n : count ts ≡ length us = ap count e ∙ count_forest us in
      let r : OneBegins us (length us) y = p_begins us y (omega (arith, n, h.0)) (subst HaveArities e h.1) (subst (λ vs. CanBegin (p_node vs) y) e b) in
      let first : first_of ts ≡ first_column (tree_at us 0) = ap first_of e ∙ first_is us (omega (arith, n, h.0)) in
      omega (arith, first, first_least us r.0 (subst FirstsRise e low.0) r.1, each_none_lower ts h.1 low.1 r.0 y r.1 r.2)
  none_lower (q_node ts) h low y b =
      let us : List Outline = trees ts in
      let e : ts ≡ forest us = sym (forest-trees ts) in
      let n : count ts ≡ length us = ap count e ∙ count_forest us in
      let some : 1 ≤ length us = omega (arith, n, h.0) in
      let are : HaveArities (forest us) = subst HaveArities e h.1 in
      let first : first_of ts ≡ first_column (tree_at us 0) = ap first_of e ∙ first_is us some in
      let last : first_of (back ts) ≡ first_column (tree_at us (length us - 1)) = ap (λ vs. first_of (back vs)) e ∙ last_is us some in
      elim (q_begins us y some are (reverse_arities us are) (subst (λ vs. CanBegin (q_node vs) y) e b)) [
        | inl f ↦ omega (arith, first, each_none_lower ts h.1 low.1 0 y (omega arith) f)
        | inr f ↦ omega (arith, low.0, last, each_none_lower ts h.1 low.1 (length us - 1) y (omega arith) f)
      ]

  each_none_lower : (ts : Forest) → HaveArities ts → StandLow ts → (k y : ℕ) → k < length (trees ts) → CanBegin (tree_at (trees ts) k) y → first_column (tree_at (trees ts) k) ≤ y
  each_none_lower no_tree h low k y l b = absurd (omega arith)
  each_none_lower (tree_and t ts) h low zero y l b = none_lower t h.0 low.0 y b
  each_none_lower (tree_and t ts) h low (suc k) y l b = each_none_lower ts h.1 low.1 k y (omega arith) b

-- so the first column of trees in a bag is the least that can come next
pub next_low : (ts : List Outline) (n from x : ℕ) → n ≡ length ts → 1 ≤ n → HaveArities (forest ts) → StandsLow (p_node (forest ts)) → x ≡ first_column (tree_at ts 0) → from ≤ x →
    IsNextAmong ts n from (Some (record { place = 0; column = x }))
next_low ts n from x all some h low e l = (
  omega (arith, some),
  subst (CanBegin (tree_at ts 0)) (sym e) (begins_first (tree_at ts 0) (arities_at ts 0 h (omega arith))),
  l,
  λ y r g.
      let inside : r.0 < length ts = omega (arith, r.1, all) in
      omega (arith, e, first_least ts r.0 low.0 inside, none_lower (tree_at ts r.0) (arities_at ts r.0 h inside) (low_at ts r.0 low.1 inside) y r.2),
)

-- trees in a bag that one is taken out of
from_removed : (m : ℕ) (ts : List Outline) (k : ℕ) → k < length ts → AreFrom m (forest ts) → AreFrom m (forest (remove ts k))
from_removed m [] k l h = absurd (omega arith)
from_removed m (t ∷ ts) zero l h = h.1
from_removed m (t ∷ ts) (suc k) l h = (h.0, from_removed m ts k (omega arith) h.1)

rise_removed : (ts : List Outline) (k : ℕ) → k < length ts → FirstsRise (forest ts) → FirstsRise (forest (remove ts k))
rise_removed [] k l h = absurd (omega arith)
rise_removed (t ∷ ts) zero l h = h.1
rise_removed (t ∷ ts) (suc k) l h = (from_removed (first_column t) ts k (omega arith) h.0, rise_removed ts k (omega arith) h.1)

each_removed : (ts : List Outline) (k : ℕ) → k < length ts → StandLow (forest ts) → StandLow (forest (remove ts k))
each_removed [] k l h = absurd (omega arith)
each_removed (t ∷ ts) zero l h = h.1
each_removed (t ∷ ts) (suc k) l h = (h.0, each_removed ts k (omega arith) h.1)

pub low_removed : (ts : List Outline) (k : ℕ) → k < length ts → StandsLow (p_node (forest ts)) → StandsLow (p_node (forest (remove ts k)))
low_removed ts k l h = (rise_removed ts k l h.0, each_removed ts k l h.1)

-- trees in turn, forwards and backwards
pub low_joined : (ts us : List Outline) → StandLow (forest ts) → StandLow (forest us) → StandLow (forest (ts ++ us))
low_joined [] us h k = k
low_joined (t ∷ ts) us h k = (h.0, low_joined ts us h.1 k)

pub low_reversed : (ts : List Outline) → StandLow (forest ts) → StandLow (forest (reverse ts))
low_reversed [] h = tt
low_reversed (t ∷ ts) h = subst (λ us. StandLow (forest us)) (sym (reverse-append (t ∷ []) ts)) (low_joined (reverse ts) (t ∷ []) (low_reversed ts h.1) (h.0, tt))

pub low_same : (ts us : List Outline) → ts ≡ us → StandLow (forest ts) → StandLow (forest us)
low_same ts us e h = subst (λ vs. StandLow (forest vs)) e h

pub one_low : (t : Outline) (us : List Outline) → StandLow (forest (p_node (forest (t ∷ [])) ∷ us)) → StandLow (forest (t ∷ us))
one_low t us h = (h.0.1.0, h.1)
