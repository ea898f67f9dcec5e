-- A new arena: the leaves stand alone beside a P-node, and come under it one by one.
use Rattle.std.proofs.Common.{◌≡◌, ◌≢◌, inl, inr, ℕ, zero, suc, ◌+◌, ◌-◌, ◌≤◌, ◌<◌, cond, eqb, ltb, List, [], ◌∷◌, ◌++◌, map, length, set, get_or, Option, Some, None, refl, sym, ap, subst, ◌∙◌, arith, eq-eqb, length-append}
use Rattle.std.proofs.lemmas.Bool.{cases_eq, cases_lt, ne_eqb, lt-ltb, le-ltb}
use Rattle.std.proofs.lemmas.List.{get_or_append_left, get_or_push, get_or-map, get_or_past, length-map, map-append, set-get_or}
use Rattle.std.proofs.lemmas.List.Sums.{sum_by-cons}
use Rattle.column_order.specs.Orders.{occurs}
use Rattle.column_order.specs.declared.TheConstants.{COLUMN_BOUND}
use Rattle.pq_tree.specs.Outline.{leaf, p_node}
use Rattle.pq_tree.specs.Proper.{forest, columns, universal}
use Rattle.pq_tree.proofs.Universal.{universal_many}
use Rattle.arena_model.specs.declared.Shape.{Shape}
use Rattle.arena_model.specs.declared.Shape.TheVariants.{Leaf, P}
use Rattle.arena_model.specs.ChildLists.{none}
use Rattle.arena_model.specs.Layout.{Slot, Layout, slot, spare_slot, shape_at, children_at, times_child, grounded, IsAtOrAbove, here, down, MayHaveChildren, StandsAlone, IsLayout, with_children}
use Rattle.arena_model.specs.NamedTree.{outline_below, outline_at, IsOneTree}
use Rattle.arena_model.proofs.Lists.{occurs_here, occurs_same, occurs_other}
use Rattle.arena_model.proofs.Slots.{some_none, children_same, children_other, shape_same, times_with, set_set}
use Rattle.arena_model.proofs.Outlines.{below_children, first_step}
use Rattle.pq_arena.specs.declared.node.Link.{Link}
use Rattle.pq_arena.specs.declared.node.Head.{Head}
use Rattle.pq_arena.specs.Start.{numbers, from, size, first_shape, next_spare, first_head, bare_layout}
use Rattle.pq_arena.specs.StandsFor.{AreSpare, IsSeated, head_of, StandsFor}
use Rattle.pq_arena.specs.Wiring.{link, head, no_link, no_head, ringed, more, kind_of, kind_shape}
use Rattle.pq_arena.proofs.Attach.{attach_stands}
use Rattle.pq_arena.proofs.Spare.{no_children, not_seated, head_bare, told}

numbers_length : (n : ℕ) → length (numbers n) ≡ n
numbers_length zero = refl
numbers_length (suc n) = omega (arith, length-append (numbers n) (n ∷ []), numbers_length n)

number_at : (n i : ℕ) → i < n → get_or (numbers n) i 0 ≡ i
number_at zero i l = absurd (omega arith)
number_at (suc n) i l = elim (cases_lt i n) [
  | inl h ↦ get_or_append_left (numbers n) (n ∷ []) 0 i (let e : length (numbers n) ≡ n = numbers_length n in omega arith) ∙ number_at n i h
  | inr h ↦ let e : i ≡ n = omega arith in get_or_push (numbers n) n 0 i (numbers_length n ∙ sym e) ∙ sym e
]

over_numbers : {A : Type 0} (f : ℕ → A) (n i : ℕ) (d : A) → i < n → get_or (map f (numbers n)) i d ≡ f i
over_numbers f n i d l = get_or-map f (numbers n) i 0 d (subst (λ m. i < m) (sym (numbers_length n)) l) ∙ ap f (number_at n i l)

over_length : {A : Type 0} (f : ℕ → A) (n : ℕ) → length (map f (numbers n)) ≡ n
over_length f n = length-map (numbers n) f ∙ numbers_length n

pub over_more : {A : Type 0} (f : ℕ → A) (xs : List A) (i : ℕ) → xs ≡ map f (numbers i) → xs ++ f i ∷ [] ≡ map f (numbers (i + 1))
over_more f xs i e = ap (λ z. z ++ f i ∷ []) e ∙ sym (map-append f (numbers i) (i ∷ [])) ∙ ap (λ z. map f (numbers z)) (let k : suc i ≡ i + 1 = omega arith in k)

-- the numbers from a on
from_in : (a k x : ℕ) → 1 ≤ occurs (from a k) x → (a ≤ x) × (x < a + k)
from_in a zero x o = absurd (omega arith)
from_in a (suc k) x o = elim (cases_eq x a) [
  | inl e ↦ (omega arith, omega arith)
  | inr ne ↦ let r = from_in (suc a) k x (subst (λ m. 1 ≤ m) (occurs_other a x (from (suc a) k) ne) o) in
      let lo : suc a ≤ x = r.0 in let hi : x < suc a + k = r.1 in (omega arith, omega arith)
]

from_has : (a k x : ℕ) → a ≤ x → x < a + k → 1 ≤ occurs (from a k) x
from_has a zero x lo hi = absurd (omega arith)
from_has a (suc k) x lo hi = elim (cases_eq x a) [
  | inl e ↦ subst (λ z. 1 ≤ occurs (from a (suc k)) z) (sym e) (occurs_here a (from (suc a) k))
  | inr ne ↦ let r : 1 ≤ occurs (from (suc a) k) x = from_has (suc a) k x (omega arith) (omega arith) in omega arith
]

from_once : (a k x : ℕ) → occurs (from a k) x ≤ 1
from_once a zero x = omega arith
from_once a (suc k) x = elim (cases_eq x a) [
  | inl e ↦ subst (λ z. occurs (from a (suc k)) z ≤ 1) (sym e) (elim (cases_lt 0 (occurs (from (suc a) k) a)) [
    | inl l ↦ absurd (let r = from_in (suc a) k a l in let lo : suc a ≤ a = r.0 in omega arith)
    | inr l ↦ omega (arith, occurs_same a (from (suc a) k))
  ])
  | inr ne ↦ let r : occurs (from (suc a) k) x ≤ 1 = from_once (suc a) k x in omega (arith, occurs_other a x (from (suc a) k) ne)
]

from_length : (a k : ℕ) → length (from a k) ≡ k
from_length a zero = refl
from_length a (suc k) = omega (arith, from_length (suc a) k)

from_more : (a k : ℕ) → from a k ++ (a + k) ∷ [] ≡ from a (suc k)
from_more a zero = ap (λ z. z ∷ []) (let e : a + 0 ≡ a = omega arith in e)
from_more a (suc k) = ap (λ z. a ∷ (from (suc a) k ++ z ∷ [])) (let e : a + suc k ≡ suc a + k = omega arith in e) ∙ ap (λ z. a ∷ z) (from_more (suc a) k)

-- how many nodes a new arena has in use
pub data IsUsed (c : ℕ) : ℕ → Type 0 where
  alone : c ≡ 1 → IsUsed c 1
  under : 2 ≤ c → IsUsed c (c + 1)

used_bounds : (c used : ℕ) → IsUsed c used → (c ≤ used) × (used ≤ c + 1) × (1 ≤ used)
used_bounds c _ (alone e) = (omega arith, omega arith, omega arith)
used_bounds c _ (under l) = (omega arith, omega arith, omega arith)

leaf_first : (c used i : ℕ) → i < c → first_shape c used i ≡ Some (Leaf (i + 1))
leaf_first c used i l = ap (λ b. cond b (Some (Leaf (i + 1))) (cond (ltb i used) (Some P) None)) (lt-ltb i c l)

p_first : (c used i : ℕ) → c ≤ i → i < used → first_shape c used i ≡ Some P
p_first c used i l u = ap (λ b. cond b (Some (Leaf (i + 1))) (cond (ltb i used) (Some P) None)) (le-ltb i c l) ∙ ap (λ b. cond b (Some P) None) (lt-ltb i used u)

spare_first : (c used i : ℕ) → c ≤ i → used ≤ i → first_shape c used i ≡ None
spare_first c used i l u = ap (λ b. cond b (Some (Leaf (i + 1))) (cond (ltb i used) (Some P) None)) (le-ltb i c l) ∙ ap (λ b. cond b (Some P) None) (le-ltb i used u)

-- no slot has a child
no_child : (g : ℕ → Option Shape) (xs : List ℕ) (x : ℕ) →
    times_child (map (λ i. record { shape = g i; children = [] }) xs) x ≡ 0
no_child g [] x = refl
no_child g (y ∷ ys) x =
    let r : times_child (map (λ i. record { shape = g i; children = [] }) ys) x ≡ 0 = no_child g ys x in
    let e : times_child (map (λ i. record { shape = g i; children = [] }) (y ∷ ys)) x ≡ 0 + times_child (map (λ i. record { shape = g i; children = [] }) ys) x =
    sum_by-cons (λ s. occurs s.children x) (record { shape = g y; children = [] }) (map (λ i. record { shape = g i; children = [] }) ys) in
    omega arith

-- only the first `used` nodes are in use
used_first : (c used i : ℕ) → first_shape c used i ≢ None → c ≤ used → i < used
used_first c used i h l = elim (cases_lt i used) [
  | inl k ↦ k
  | inr k ↦ absurd (h (spare_first c used i (omega arith) k))
]

leaf_inj : (a b : ℕ) → Some (Leaf a) ≡ Some (Leaf b) → a ≡ b
leaf_inj a b e = cc

p_leaf : (a : ℕ) → Some P ≡ Some (Leaf a) → ⊥
p_leaf a e = cc

none_some : (s : Shape) → None ≡ Some s → ⊥
none_some s e = cc

no_next : (c used i : ℕ) → i < used → next_spare c used i ≡ none
no_next c used i l = ap (λ b. cond b none (cond (eqb (i + 1) (size c)) none (i + 1))) (lt-ltb i used l)

next_is : (c used i : ℕ) → used ≤ i → i + 1 ≢ size c → next_spare c used i ≡ i + 1
next_is c used i l ne = ap (λ b. cond b none (cond (eqb (i + 1) (size c)) none (i + 1))) (le-ltb i used l) ∙ ap (λ b. cond b none (i + 1)) (ne_eqb (i + 1) (size c) ne)

next_last : (c used i : ℕ) → used ≤ i → i + 1 ≡ size c → next_spare c used i ≡ none
next_last c used i l e = ap (λ b. cond b none (cond (eqb (i + 1) (size c)) none (i + 1))) (le-ltb i used l) ∙ ap (λ b. cond b none (i + 1)) (eq-eqb (i + 1) (size c) e)

module _ (c used : ℕ) (u : IsUsed c used) (some : 1 ≤ c) (few : c ≤ COLUMN_BOUND) where
  abbrev f0 : Layout
  f0 = bare_layout c used

  abbrev one_slot : ℕ → Slot
  one_slot i = record { shape = first_shape c used i; children = [] }

  slots_length : length f0.slots ≡ size c
  slots_length = over_length one_slot (size c)

  slot_of : (m : ℕ) → m < size c → slot f0.slots m ≡ one_slot m
  slot_of m l = over_numbers one_slot (size c) m spare_slot l

  slot_past : (m : ℕ) → size c ≤ m → slot f0.slots m ≡ spare_slot
  slot_past m l = get_or_past f0.slots m spare_slot (subst (λ k. k ≤ m) (sym slots_length) l)

  pub no_children_at : (m : ℕ) → children_at f0 m ≡ []
  no_children_at m = elim (cases_lt m (size c)) [
    | inl l ↦ ap (λ s. s.children) (slot_of m l)
    | inr l ↦ ap (λ s. s.children) (slot_past m l)
  ]

  pub shape_in : (m : ℕ) → m < size c → shape_at f0 m ≡ first_shape c used m
  shape_in m l = ap (λ s. s.shape) (slot_of m l)

  shape_past : (m : ℕ) → size c ≤ m → shape_at f0 m ≡ None
  shape_past m l = ap (λ s. s.shape) (slot_past m l)

  c_le : c ≤ used
  c_le = (used_bounds c used u).0

  used_le : used ≤ c + 1
  used_le = (used_bounds c used u).1

  pub leaf_at_first : (a : ℕ) → a < c → shape_at f0 a ≡ Some (Leaf (a + 1))
  leaf_at_first a l = shape_in a (omega arith) ∙ leaf_first c used a l

  -- a node in use is one of the first
  pub is_first : (m : ℕ) → shape_at f0 m ≢ None → m < used
  is_first m h = elim (cases_lt m (size c)) [
    | inl l ↦ let b : c ≤ used = c_le in used_first c used m (λ e. h (shape_in m l ∙ e)) b
    | inr l ↦ absurd (h (shape_past m l))
  ]

  spare_at : (m : ℕ) → used ≤ m → shape_at f0 m ≡ None
  spare_at m l = elim (cases_lt m (size c)) [
    | inl k ↦ let b : c ≤ used = c_le in shape_in m k ∙ spare_first c used m (omega arith) l
    | inr k ↦ shape_past m k
  ]

  root_in_use : (v : ℕ) → IsUsed c v → v ≡ used → shape_at f0 (v - 1) ≢ None
  root_in_use _ (alone e) q = λ n. some_none (Leaf 1) (sym (leaf_at_first 0 (omega arith)) ∙ n)
  root_in_use _ (under l) q = λ n. some_none P (sym (shape_in (c + 1 - 1) (omega arith) ∙ p_first c used (c + 1 - 1) (omega arith) (omega arith)) ∙ n)

  no_time : (x : ℕ) → times_child f0.slots x ≡ 0
  no_time x = no_child (first_shape c used) (numbers (size c)) x

  pub bare_is_layout : IsLayout f0
  bare_is_layout = record {
    once = λ x. omega (arith, no_time x);
    used = λ x o. absurd (omega (arith, no_time x));
    children_fit = λ m. subst (λ ks. MayHaveChildren (shape_at f0 m) ks) (sym (no_children_at m)) (no_children (shape_at f0 m));
    grounds = λ m. grounded m (λ k o. absurd (let z : 1 ≤ occurs [] k = subst (λ ks. 1 ≤ occurs ks k) (no_children_at m) o in omega arith));
    root_used = root_in_use used u refl;
    root_top = no_time (used - 1);
    leaves = λ a l. leaf_at_first a l;
    no_other_leaf = λ m a e. elim (cases_lt m c) [
      | inl l ↦ (sym (leaf_inj (m + 1) a (sym (leaf_at_first m l) ∙ e)), l)
      | inr l ↦ elim (cases_lt m used) [
        | inl k ↦ absurd (let b : used ≤ c + 1 = used_le in p_leaf a (sym (shape_in m (omega arith) ∙ p_first c used m l k) ∙ e))
        | inr k ↦ absurd (none_some (Leaf a) (sym (spare_at m k) ∙ e))
      ]
    ];
    some = some;
    few = few;
    size = slots_length;
    spare_once = λ x. from_once used (size c - used) x;
    spare_free = λ x o. let r = from_in used (size c - used) x o in let lo : used ≤ x = r.0 in let hi : x < used + (size c - used) = r.1 in
        let b : used ≤ c + 1 = used_le in
        (spare_at x lo, subst (λ n. x < n) (sym slots_length) (let k : x < size c = omega arith in k));
    spare_all = λ x l e. let lt : x < size c = subst (λ n. x < n) slots_length l in let b : used ≤ c + 1 = used_le in
        elim (cases_lt x used) [
          | inr k ↦ from_has used (size c - used) x k (omega arith)
          | inl k ↦ absurd (elim (cases_lt x c) [
            | inl j ↦ none_some (Leaf (x + 1)) (sym e ∙ leaf_at_first x j)
            | inr j ↦ none_some P (sym e ∙ (shape_in x lt ∙ p_first c used x j k))
          ])
        ];
  }

  module _ (ls : List Link) (hs : List Head) (ls_is : ls ≡ map (λ i. no_link) (numbers (size c))) (hs_is : hs ≡ map (first_head c used) (numbers (size c))) where
    link_is : (x : ℕ) → link ls x ≡ no_link
    link_is x = elim (cases_lt x (size c)) [
      | inl l ↦ ap (λ z. link z x) ls_is ∙ over_numbers (λ i. no_link) (size c) x no_link l
      | inr l ↦ get_or_past ls x no_link (subst (λ k. k ≤ x) (sym (ap length ls_is ∙ over_length (λ i. no_link) (size c))) l)
    ]

    head_is : (x : ℕ) → x < size c → head hs x ≡ first_head c used x
    head_is x l = ap (λ z. head z x) hs_is ∙ over_numbers (first_head c used) (size c) x no_head l

    head_past : (x : ℕ) → size c ≤ x → head hs x ≡ no_head
    head_past x l = get_or_past hs x no_head (subst (λ k. k ≤ x) (sym (ap length hs_is ∙ over_length (first_head c used) (size c))) l)

    spares_hang : (k a : ℕ) → used ≤ a → a + suc k ≡ size c → AreSpare hs a (from a (suc k))
    spares_hang zero a l e = (refl, ap (λ z. z.first) (head_is a (omega arith)) ∙ next_last c used a l (omega arith))
    spares_hang (suc k) a l e = (
      refl,
      subst (λ z. AreSpare hs z (from (suc a) (suc k)))
          (sym (ap (λ z. z.first) (head_is a (omega arith)) ∙ next_is c used a l (λ q. omega arith) ∙ (let r : a + 1 ≡ suc a = omega arith in r)))
          (spares_hang k (suc a) (omega arith) (omega arith)),
    )

    head_of_first : (m : ℕ) (s : Shape) → m < size c → m < used → first_shape c used m ≡ Some s → first_head c used m ≡ head_of s []
    head_of_first m s l k e =
        ap (λ z. let h : Head = record { kind = kind_of z; first = next_spare c used m; last = none; count = 0 } in h) e
        ∙ ap (λ z. let h : Head = record { kind = kind_of (Some s); first = z; last = none; count = 0 } in h) (no_next c used m k)
        ∙ head_bare s

    pub bare_stands_for : StandsFor ls hs (used - 1) used (size c - used) c f0
    bare_stands_for = record {
      layout = bare_is_layout;
      links_few = ap length ls_is ∙ over_length (λ i. no_link) (size c) ∙ sym slots_length;
      heads_few = ap length hs_is ∙ over_length (first_head c used) (size c) ∙ sym slots_length;
      root_is = refl;
      columns_are = refl;
      shapes = λ m. elim (cases_lt m (size c)) [
        | inl l ↦ ap (λ (z : Head). kind_shape z.kind) (head_is m l) ∙ told (first_shape c used m) ∙ sym (shape_in m l)
        | inr l ↦ ap (λ (z : Head). kind_shape z.kind) (head_past m l) ∙ sym (shape_past m l)
      ];
      heads_are = λ m s e. elim (cases_lt m (size c)) [
        | inl l ↦ head_is m l ∙ head_of_first m s l (is_first m (λ n. none_some s (sym n ∙ e))) (sym (shape_in m l) ∙ e) ∙ ap (λ ks. head_of s ks) (sym (no_children_at m))
        | inr l ↦ absurd (none_some s (sym (shape_past m l) ∙ e))
      ];
      seats = λ m. subst (λ ks. IsSeated ls m (shape_at f0 m) ks) (sym (no_children_at m)) (not_seated ls m (shape_at f0 m));
      tops = λ x e. link_is x;
      spares_are = let b : used ≤ c + 1 = used_le in
          subst (λ k. AreSpare hs used (from used k)) (let r : suc (size c - used - 1) ≡ size c - used = omega arith in r) (spares_hang (size c - used - 1) used (omega arith) (omega arith));
      spares_count = sym (from_length used (size c - used));
    }

-- the universal tree of one column
module _ (c : ℕ) (one : c ≡ 1) where
  few_one : c ≤ COLUMN_BOUND
  few_one = omega arith

  some_one : 1 ≤ c
  some_one = omega arith

  pub one_outline : outline_at (bare_layout c 1) ≡ universal c
  one_outline = below_children (bare_layout c 1) 0 (Leaf 1) (bare_is_layout c 1 (alone one) some_one few_one) (leaf_at_first c 1 (alone one) some_one few_one 0 (omega arith))
      ∙ ap universal (sym one)

  pub one_tree : IsOneTree (bare_layout c 1)
  one_tree n used =
      let l : n < 1 = is_first c 1 (alone one) some_one few_one n used in
      subst (λ z. IsAtOrAbove (bare_layout c 1).slots 0 z) (let e : 0 ≡ n = omega arith in e) (here 0)

-- the layout in which the last i leaves are children of the P-node
abbrev pub grown_layout : ℕ → ℕ → Layout
grown_layout c i = with_children (bare_layout c (c + 1)) c (from (c - i) i)

-- the leaves come under the P-node, the last first
module _ (c : ℕ) (two : 2 ≤ c) (few : c ≤ COLUMN_BOUND) where
  abbrev pub grown : ℕ → Layout
  grown i = grown_layout c i

  some_two : 1 ≤ c
  some_two = omega arith

  abbrev g0 : Layout
  g0 = bare_layout c (c + 1)

  is0 : IsLayout g0
  is0 = bare_is_layout c (c + 1) (under two) some_two few

  length0 : length g0.slots ≡ size c
  length0 = is0.size

  c_in : c < length g0.slots
  c_in = subst (λ m. c < m) (sym length0) (let k : c < size c = omega arith in k)

  p_at : shape_at g0 c ≡ Some P
  p_at = shape_in c (c + 1) (under two) some_two few c (omega arith) ∙ p_first c (c + 1) c (omega arith) (omega arith)

  pub grown_none : grown 0 ≡ g0
  grown_none = ap (λ (slots : List Slot). let f : Layout = record g0 { slots = slots } in f)
      (ap (λ (s : Slot). set g0.slots c s) (ap (λ ks. let s : Slot = record { shape = shape_at g0 c; children = ks } in s) (sym (no_children_at c (c + 1) (under two) some_two few c)))
      ∙ set-get_or g0.slots c spare_slot)

  pub grown_shape : (i m : ℕ) → shape_at (grown i) m ≡ shape_at g0 m
  grown_shape i m = shape_same g0 c m (from (c - i) i) c_in

  pub grown_p : (i : ℕ) → shape_at (grown i) c ≡ Some P
  grown_p i = grown_shape i c ∙ p_at

  grown_children : (i : ℕ) → children_at (grown i) c ≡ from (c - i) i
  grown_children i = children_same g0 c (from (c - i) i) c_in

  leaf_children : (i n : ℕ) → n < c → children_at (grown i) n ≡ []
  leaf_children i n l = children_other g0 c n (from (c - i) i) (λ e. omega arith) ∙ no_children_at c (c + 1) (under two) some_two few n

  -- the next leaf stands alone, and is not above the P-node
  pub next_alone : (i n : ℕ) → i < c → n ≡ c - 1 - i → StandsAlone (grown i) n
  next_alone i n l e = record {
    used = λ q. some_none (Leaf (n + 1)) (sym (leaf_at_first c (c + 1) (under two) some_two few n (omega arith)) ∙ sym (grown_shape i n) ∙ q);
    apart =
        let t : times_child (grown i).slots n + occurs (children_at g0 c) n ≡ times_child g0.slots n + occurs (from (c - i) i) n = times_with g0 c (from (c - i) i) n c_in in
        let z : times_child g0.slots n ≡ 0 = no_time c (c + 1) (under two) some_two few n in
        elim (cases_lt 0 (occurs (from (c - i) i) n)) [
          | inl o ↦ absurd (let r = from_in (c - i) i n o in let lo : c - i ≤ n = r.0 in omega arith)
          | inr o ↦ omega arith
        ];
    other = λ q. let r : n ≡ c + 1 - 1 = q in omega arith;
  }

  pub next_apart : (i n : ℕ) → i < c → n ≡ c - 1 - i → IsAtOrAbove (grown i).slots n c → ⊥
  next_apart i n l e a = elim (first_step (grown i).slots n c a) [
    | inl q ↦ omega arith
    | inr r ↦ let z : 1 ≤ occurs [] r.0 = subst (λ ks. 1 ≤ occurs ks r.0) (leaf_children i n (omega arith)) r.1 in omega arith
  ]

  grown_next : (i n : ℕ) → i < c → n ≡ c - 1 - i → with_children (grown i) c (n ∷ children_at (grown i) c) ≡ grown (i + 1)
  grown_next i n l e =
      ap (λ (slots : List Slot). let f : Layout = record g0 { slots = slots } in f)
      (set_set g0.slots c (record { shape = shape_at g0 c; children = from (c - i) i }) (record { shape = shape_at (grown i) c; children = n ∷ children_at (grown i) c })
      ∙ ap (λ (s : Slot). set g0.slots c s)
      (ap (λ z. let s : Slot = record { shape = z; children = n ∷ children_at (grown i) c } in s) (grown_shape i c)
      ∙ ap (λ ks. let s : Slot = record { shape = shape_at g0 c; children = ks } in s)
      (ap (λ ks. n ∷ ks) (grown_children i) ∙ ap (λ a. n ∷ from a i) (let k : c - i ≡ suc n = omega arith in k)
      ∙ ap (λ k. from n k) (let k : suc i ≡ i + 1 = omega arith in k) ∙ ap (λ a. from a (i + 1)) (let k : n ≡ c - (i + 1) = omega arith in k))))

  pub grown_stands : (ls : List Link) (hs : List Head) (i n : ℕ) → i < c → n ≡ c - 1 - i → StandsFor ls hs c (c + 1) (size c - (c + 1)) c (grown i) →
      StandsFor (ringed ls (head hs c) c n) (more hs c n) c (c + 1) (size c - (c + 1)) c (grown (i + 1))
  grown_stands ls hs i n l e h =
      subst (λ f. StandsFor (ringed ls (head hs c) c n) (more hs c n) c (c + 1) (size c - (c + 1)) c f) (grown_next i n l e)
      (attach_stands ls hs c (c + 1) (size c - (c + 1)) c (grown i) c n h (grown_p i) (next_alone i n l e) (next_apart i n l e))

  module _ (whole : IsLayout (grown c)) where
    under_c : (a : ℕ) → a < c → 1 ≤ occurs (children_at (grown c) c) a
    under_c a l = subst (λ ks. 1 ≤ occurs ks a) (sym (grown_children c)) (from_has (c - c) c a (omega arith) (omega arith))

    leaf_below : (a : ℕ) → a < c → outline_below (grown c) a ≡ leaf (a + 1)
    leaf_below a l = below_children (grown c) a (Leaf (a + 1)) whole (grown_shape c a ∙ leaf_at_first c (c + 1) (under two) some_two few a l)

    leaves_below : (k : ℕ) → k ≤ c → map (outline_below (grown c)) (from 0 k) ≡ map leaf (columns k)
    leaves_below zero l = refl
    leaves_below (suc k) l =
        ap (map (outline_below (grown c))) (sym (from_more 0 k)) ∙ map-append (outline_below (grown c)) (from 0 k) ((0 + k) ∷ [])
        ∙ ap (λ z. z ++ outline_below (grown c) (0 + k) ∷ []) (leaves_below k (omega arith))
        ∙ ap (λ z. map leaf (columns k) ++ z ∷ []) (ap (outline_below (grown c)) (let e : 0 + k ≡ k = omega arith in e) ∙ leaf_below k (omega arith) ∙ ap leaf (let e : k + 1 ≡ suc k = omega arith in e))
        ∙ sym (map-append leaf (columns k) (suc k ∷ []))

    root_is : c + 1 - 1 ≡ c
    root_is = omega arith

    pub grown_outline : outline_at (grown c) ≡ universal c
    grown_outline =
        ap (outline_below (grown c)) root_is ∙ below_children (grown c) c P whole (grown_p c)
        ∙ ap (λ ks. p_node (forest (map (outline_below (grown c)) ks))) (grown_children c ∙ ap (λ a. from a c) (let e : c - c ≡ 0 = omega arith in e))
        ∙ ap (λ ts. p_node (forest ts)) (leaves_below c (omega arith))
        ∙ sym (universal_many c two)

    pub grown_tree : IsOneTree (grown c)
    grown_tree n used =
        subst (λ z. IsAtOrAbove (grown c).slots z n) (sym root_is) (
        let l : n < c + 1 = is_first c (c + 1) (under two) some_two few n (λ q. used (grown_shape c n ∙ q)) in
        elim (cases_lt n c) [
          | inl k ↦ down c n n (under_c n k) (here n)
          | inr k ↦ subst (λ z. IsAtOrAbove (grown c).slots c z) (let e : c ≡ n = omega arith in e) (here c)
        ])
