-- How the trees are turned low: nodes over trees that stand low, by the sort and by the two ends.
use Rattle.std.proofs.Common.{◌≡◌, ◌⊎◌, ◌∙◌, ◌-◌, ◌<◌, ◌≤◌, ℕ, suc, List, [], ◌∷◌, reverse, map, length, get_or, IsPermutation, sym, ap, subst, inl, inr, arith}
use Rattle.std.proofs.lemmas.List.{length-map}
use Rattle.std.proofs.lemmas.List.Sorted.{IsPermutation-map}
use Rattle.std.specs.List.Sorted.{IsNonDecreasingBy}
use Rattle.std.specs.declared.vec.Vec.{Vec}
use Rattle.std.specs.declared.alloc.Global.{Global}
use Rattle.pq_tree.specs.Outline.{Outline, leaf, p_node, q_node}
use Rattle.pq_tree.specs.Proper.{outline_of, forest}
use Rattle.pq_tree.specs.Forests.{back}
use Rattle.pq_tree.specs.Equivalent.{IsEquivalent, AreEquivalent}
use Rattle.pq_tree.specs.declared.Tree.{Tree, Leaf, P, Q}
use Rattle.pq_tree.proofs.Shown.{outline_of-Leaf, outline_of-P, outline_of-Q}
use Rattle.pq_tree.proofs.Forests.{map-reverse, forest_reverse, back-back}
use Rattle.order_list.specs.Low.{first_column, first_of, AreFrom, FirstsRise, EndsLow, StandsLow, StandLow}
use Rattle.order_list.specs.LowTrees.{outline_low}
use Rattle.order_list.specs.declared.low.Low.{Low}
use Rattle.order_list.proofs.Begins.{reverse_last, at_place}

abbrev pub key : Low → ℕ
key x = x.first

-- each of the trees stands low
all_low : (xs : List Low) → StandLow (forest (map outline_low xs))
all_low [] = tt
all_low (x ∷ xs) = (x.low, all_low xs)

-- by the sort
from_sorted : (m : ℕ) (xs : List Low) → ((i : ℕ) (d : Low) → i < length xs → m ≤ key (get_or xs i d)) → AreFrom m (forest (map outline_low xs))
from_sorted m [] h = tt
from_sorted m (x ∷ xs) h = (omega (arith, h 0 x (omega arith), x.is_first), from_sorted m xs (λ i d l. h (suc i) d (omega arith)))

pub rise_sorted : (xs : List Low) → IsNonDecreasingBy key xs → FirstsRise (forest (map outline_low xs))
rise_sorted [] h = tt
rise_sorted (x ∷ xs) h = (
  from_sorted (first_column (outline_low x)) xs (λ i d l. omega (arith, h 0 (suc i) d (omega arith) (omega arith), x.is_first)),
  rise_sorted xs (λ i j d l n. h (suc i) (suc j) d (omega arith) (omega arith)),
)

-- by the two ends
first_key : (xs : List Low) (x : Low) → 1 ≤ length xs → x ≡ get_or xs 0 x → first_of (forest (map outline_low xs)) ≡ key x
first_key [] x n e = absurd (omega arith)
first_key (y ∷ ys) x n e = sym y.is_first ∙ ap key (sym e)

last_key : (xs : List Low) (x : Low) → 1 ≤ length xs → x ≡ get_or xs (length xs - 1) x → first_of (back (forest (map outline_low xs))) ≡ key x
last_key xs x n e =
    let us : List Outline = map outline_low xs in
    let m : length us ≡ length xs = length-map xs outline_low in
    ap first_of (sym (forest_reverse us) ∙ ap forest (reverse_last us (omega (arith, n, m)))) ∙
    ap first_column (at_place outline_low xs (length us - 1) x (omega (arith, n, m)) (e ∙ ap (λ k. get_or xs (k - 1) x) (sym m))) ∙
    sym x.is_first

-- the trees as they stand
pub ends_left : (xs : List Low) (n : ℕ) (first last : Low) → n ≡ length xs → 1 < n → first ≡ get_or xs 0 first → last ≡ get_or xs (n - 1) last → key first ≤ key last →
    EndsLow (forest (map outline_low xs))
ends_left xs n first last e two r s h =
    let z : last ≡ get_or xs (length xs - 1) last = s ∙ ap (λ m. get_or xs (m - 1) last) e in
    omega (arith, h, first_key xs first (omega arith) r, last_key xs last (omega arith) z)

pub ends_few : (xs : List Low) → length xs ≤ 1 → EndsLow (forest (map outline_low xs))
ends_few [] n = omega arith
ends_few (x ∷ []) n = omega arith
ends_few (x ∷ y ∷ ys) n = absurd (omega arith)

-- the trees turned
pub ends_turned : (xs new : List Low) (n : ℕ) (first last : Low) → n ≡ length xs → 1 < n → first ≡ get_or xs 0 first → last ≡ get_or xs (n - 1) last → key last < key first → new ≡ reverse xs →
    EndsLow (forest (map outline_low new))
ends_turned xs new n first last e two r s h w =
    let us : List Outline = map outline_low xs in
    let z : last ≡ get_or xs (length xs - 1) last = s ∙ ap (λ m. get_or xs (m - 1) last) e in
    let turned : forest (map outline_low new) ≡ back (forest us) = ap (λ ys. forest (map outline_low ys)) w ∙ ap forest (map-reverse outline_low xs) ∙ forest_reverse us in
    subst EndsLow (sym turned)
    (omega (arith, h, last_key xs last (omega arith) z, ap first_of (back-back (forest us)), first_key xs first (omega arith) r))

-- nodes over such trees
module _ (t : Tree) (v : Vec Tree Global) (xs : List Low) (same : map outline_of v.items ≡ map outline_low xs) where
  pub over_P : t ≡ P v → outline_of t ≡ p_node (forest (map outline_low xs))
  over_P e = ap outline_of e ∙ outline_of-P v ∙ ap (λ ts. p_node (forest ts)) same

  pub over_Q : t ≡ Q v → outline_of t ≡ q_node (forest (map outline_low xs))
  over_Q e = ap outline_of e ∙ outline_of-Q v ∙ ap (λ ts. q_node (forest ts)) same

  pub stands_P : (m : ℕ) → t ≡ P v → FirstsRise (forest (map outline_low xs)) → m ≡ first_of (forest (map outline_low xs)) → StandsLow (outline_of t) × (m ≡ first_column (outline_of t))
  stands_P m e rise first = (subst StandsLow (sym (over_P e)) (rise, all_low xs), first ∙ sym (ap first_column (over_P e)))

  pub stands_Q : (m : ℕ) → t ≡ Q v → EndsLow (forest (map outline_low xs)) → m ≡ first_of (forest (map outline_low xs)) → StandsLow (outline_of t) × (m ≡ first_column (outline_of t))
  stands_Q m e ends first = (subst StandsLow (sym (over_Q e)) (ends, all_low xs), first ∙ sym (ap first_column (over_Q e)))

-- the leaf
pub low_leaf : (t : Tree) (a : ℕ) → t ≡ Leaf a → StandsLow (outline_of t) × (a ≡ first_column (outline_of t))
low_leaf t a e =
    let is : outline_of t ≡ leaf a = ap outline_of e ∙ outline_of-Leaf a in
    (subst StandsLow (sym is) tt, sym (ap first_column is))

pub equivalent_leaf : (u v : Outline) (a : ℕ) → u ≡ leaf a → v ≡ leaf a → IsEquivalent u v
equivalent_leaf u v a e k = rw e k

pub equivalent_p : (u v : Outline) (ts : List Outline) (xs ys : List Low) → u ≡ p_node (forest ts) → AreEquivalent (forest ts) (map outline_low xs) → IsPermutation xs ys →
    v ≡ p_node (forest (map outline_low ys)) → IsEquivalent u v
equivalent_p u v ts xs ys e h m k = rw e (map outline_low xs, map outline_low ys, h, IsPermutation-map outline_low xs ys m, k)

pub equivalent_q : (u v : Outline) (ts : List Outline) (xs ys : List Low) → u ≡ q_node (forest ts) → AreEquivalent (forest ts) (map outline_low xs) → (ys ≡ xs) ⊎ (ys ≡ reverse xs) →
    v ≡ q_node (forest (map outline_low ys)) → IsEquivalent u v
equivalent_q u v ts xs ys e h m k =
    rw e (
      map outline_low xs,
      h,
      elim m [
        | inl f ↦ inl (k ∙ ap (λ zs. q_node (forest (map outline_low zs))) f)
        | inr f ↦ inr (k ∙ ap (λ zs. q_node (forest (map outline_low zs))) f ∙ ap (λ us. q_node (forest us)) (map-reverse outline_low xs))
      ],
    )
