-- Trees at nodes without their numbers: they are read from the slots, and their leaves are the columns.
use Rattle.std.proofs.Common.{◌≡◌, ◌≢◌, ◌⊎◌, inl, inr, ℕ, zero, suc, ◌+◌, ◌-◌, ◌≤◌, ◌<◌, List, [], ◌∷◌, ◌++◌, map, length, Some, refl, sym, ap, subst, ◌∙◌, arith, length-append}
use Rattle.std.proofs.lemmas.Bool.{cases_eq, cases_lt}
use Rattle.column_order.specs.Orders.{occurs, IsOrder}
use Rattle.column_order.proofs.Lists.{occurs-append}
use Rattle.column_order.proofs.Counts.{in_range, within_one, within_none}
use Rattle.pq_tree.specs.Outline.{tree_and, leaves, leaves_of}
use Rattle.pq_tree.specs.Proper.{forest}
use Rattle.arena_model.specs.declared.Shape.{Shape}
use Rattle.arena_model.specs.declared.Shape.TheVariants.{Leaf, P, Q}
use Rattle.arena_model.specs.Layout.{Slot, Layout, slot, shape_at, children_at, times_child, IsAtOrAbove, here, down, IsInUse, MayHaveChildren, IsLayout}
use Rattle.arena_model.specs.NamedTree.{NamedTree, NamedTrees, named_tree, no_named, named_and, top_name, top_names, IsAt, AreAt, node_names, node_names_of, height, heights, node_over, outline_named, outlines_named, slot_over, outline_read, outline_below, outline_at, IsOneTree}
use Rattle.arena_model.proofs.Lists.{occurs_here, occurs_same, occurs_other, only_one, few_once}
use Rattle.arena_model.proofs.Slots.{some_none, some_inj, children_times, few_slots}
use Rattle.arena_model.proofs.Slots
use Rattle.arena_model.proofs.Paths.{at_once, by, above_ends, one_parent, one_path}
use Rattle.arena_model.proofs.Trees.{TreeAt, tree_at, reached, reached_in, name_used, no_circle}

-- a tree at a node is what is read there
mutual
  unfolding outline_read

  pub outline_known : (levels : ℕ) (slots : List Slot) (t : NamedTree) → IsAt slots t → height t ≤ levels → outline_read levels slots (top_name t) ≡ outline_named t
  outline_known zero slots (named_tree n s ts) h low = absurd (omega arith)
  outline_known (suc levels) slots (named_tree n s ts) h low =
      ap (λ (c : Slot). slot_over c.shape (forest (map (outline_read levels slots) c.children))) h.0
      ∙ ap (node_over s) (outlines_known levels slots ts h.1 (omega arith))

  pub outlines_known : (levels : ℕ) (slots : List Slot) (ts : NamedTrees) → AreAt slots ts → heights ts ≤ levels →
      forest (map (outline_read levels slots) (top_names ts)) ≡ outlines_named ts
  outlines_known levels slots no_named h low = refl
  outlines_known levels slots (named_and t ts) h low =
      ap (λ x. tree_and x (forest (map (outline_read levels slots) (top_names ts)))) (outline_known levels slots t h.0 (omega arith))
      ∙ ap (tree_and (outline_named t)) (outlines_known levels slots ts h.1 (omega arith))

-- of two children of one node, neither is above the other
pub apart_children : (f : Layout) (n a b : ℕ) → IsLayout f → 1 ≤ occurs (children_at f n) a → 1 ≤ occurs (children_at f n) b →
    IsAtOrAbove f.slots a b → a ≢ b → ⊥
apart_children f n a b h oa ob l ne = elim (above_ends f.slots a b l) [
  | at_once e ↦ ne e
  | by m lm o ↦ no_circle f.slots n a (h.grounds n) oa (subst (λ w. IsAtOrAbove f.slots a w) (one_parent f m n b h o ob) lm)
]

-- no node stands twice in a tree
mutual
  pub names_once : (f : Layout) (t : NamedTree) → IsLayout f → IsAt f.slots t → (x : ℕ) → occurs (node_names t) x ≤ 1
  names_once f (named_tree n s ts) h i x =
      let ks : children_at f n ≡ top_names ts = ap (λ c. c.children) i.0 in
      let below : occurs (node_names_of ts) x ≤ 1 = names_once_of f n ts h i.1
      (λ k o. subst (λ z. 1 ≤ occurs z k) (sym ks) o)
      (λ k. subst (λ z. occurs z k ≤ 1) ks (let a : occurs (children_at f n) k ≤ times_child f.slots k = children_times f n k in let b : times_child f.slots k ≤ 1 = h.once k in omega arith)) x in
      elim (cases_eq x n) [
        | inl e ↦ elim (cases_lt 0 (occurs (node_names_of ts) n)) [
          | inl l ↦ absurd (let r = reached_in f.slots ts n i.1 l in
              no_circle f.slots n r.0 (h.grounds n) (subst (λ z. 1 ≤ occurs z r.0) (sym ks) r.1) r.2)
          | inr l ↦ subst (λ z. occurs (n ∷ node_names_of ts) z ≤ 1) (sym e) (omega (arith, occurs_same n (node_names_of ts)))
        ]
        | inr ne ↦ omega (arith, occurs_other n x (node_names_of ts) ne)
      ]

  names_once_of : (f : Layout) (n : ℕ) (ts : NamedTrees) → IsLayout f → AreAt f.slots ts →
      ((k : ℕ) → 1 ≤ occurs (top_names ts) k → 1 ≤ occurs (children_at f n) k) → ((k : ℕ) → occurs (top_names ts) k ≤ 1) →
      (x : ℕ) → occurs (node_names_of ts) x ≤ 1
  names_once_of f n no_named h i of once x = omega arith
  names_once_of f n (named_and t ts) h i of once x =
      let a : occurs (node_names t) x ≤ 1 = names_once f t h i.0 x in
      let b : occurs (node_names_of ts) x ≤ 1 = names_once_of f n ts h i.1 (λ k o. of k (omega arith))
      (λ k. let o : occurs (top_name t ∷ top_names ts) k ≤ 1 = once k in omega arith) x in
      let at : occurs (node_names t ++ node_names_of ts) x ≡ occurs (node_names t) x + occurs (node_names_of ts) x = occurs-append (node_names t) (node_names_of ts) x in
      elim (cases_lt 0 (occurs (node_names t) x)) [
        | inl l ↦ elim (cases_lt 0 (occurs (node_names_of ts) x)) [
          | inl m ↦ absurd (
              let r = reached_in f.slots ts x i.1 m in
              let lt : IsAtOrAbove f.slots (top_name t) x = reached f.slots t x i.0 l in
              let o : occurs (top_name t ∷ top_names ts) r.0 ≤ 1 = once r.0 in
              let k : 1 ≤ occurs (top_names ts) r.0 = r.1 in
              let ne : top_name t ≢ r.0 = (λ e. let s : occurs (r.0 ∷ top_names ts) r.0 ≤ 1 = subst (λ z. occurs (z ∷ top_names ts) r.0 ≤ 1) e o in omega (arith, occurs_same r.0 (top_names ts))) in
              let ot : 1 ≤ occurs (children_at f n) (top_name t) = of (top_name t) (occurs_here (top_name t) (top_names ts)) in
              let ok : 1 ≤ occurs (children_at f n) r.0 = of r.0 (omega arith) in
              elim (one_path f (top_name t) r.0 x h lt r.2) [
                | inl p ↦ apart_children f n (top_name t) r.0 h ot ok p ne
                | inr p ↦ apart_children f n r.0 (top_name t) h ok ot p (λ e. ne (sym e))
              ])
          | inr m ↦ omega arith
        ]
        | inr l ↦ omega arith
      ]

-- a way down has no more nodes than the tree
mutual
  height_names : (t : NamedTree) → height t ≤ length (node_names t)
  height_names (named_tree n s ts) = omega (arith, heights_names ts)

  heights_names : (ts : NamedTrees) → heights ts ≤ length (node_names_of ts)
  heights_names no_named = omega arith
  heights_names (named_and t ts) = omega (arith, height_names t, heights_names ts, length-append (node_names t) (node_names_of ts))

pub height_few : (f : Layout) (t : NamedTree) → IsLayout f → IsAt f.slots t → height t ≤ length f.slots
height_few f t h i =
    let few : length (node_names t) ≤ length f.slots = few_once (node_names t) (length f.slots) (names_once f t h i) (λ x o. Slots.in_range f x (name_used f t x i o)) in
    omega (arith, height_names t)

-- the tree at a node with its numbers, and without them
pub below_named : (f : Layout) (t : NamedTree) → IsLayout f → IsAt f.slots t → outline_below f (top_name t) ≡ outline_named t
below_named f t h i = outline_known (length f.slots) f.slots t i (height_few f t h i)

pub below_tree : (f : Layout) (n : ℕ) → IsLayout f → (t : TreeAt f n) → outline_below f n ≡ outline_named t.it
below_tree f n h t = ap (outline_below f) (sym t.named) ∙ below_named f t.it h t.is

outlines_below : (f : Layout) (ts : NamedTrees) → IsLayout f → AreAt f.slots ts → forest (map (outline_below f) (top_names ts)) ≡ outlines_named ts
outlines_below f no_named h i = refl
outlines_below f (named_and t ts) h i =
    ap (λ x. tree_and x (forest (map (outline_below f) (top_names ts)))) (below_named f t h i.0)
    ∙ ap (tree_and (outline_named t)) (outlines_below f ts h i.1)

-- the tree at a node is its shape over the trees at its children
pub below_children : (f : Layout) (n : ℕ) (s : Shape) → IsLayout f → shape_at f n ≡ Some s →
    outline_below f n ≡ node_over s (forest (map (outline_below f) (children_at f n)))
below_children f n s h sh = at r.it r.is r.named
  where
    r : TreeAt f n
    r = tree_at f n h (Slots.used_by f n s sh)

    at : (t : NamedTree) → IsAt f.slots t → top_name t ≡ n → outline_below f n ≡ node_over s (forest (map (outline_below f) (children_at f n)))
    at (named_tree m u ts) i e =
        let c : slot f.slots n ≡ record { shape = Some u; children = top_names ts } = subst (λ z. slot f.slots z ≡ record { shape = Some u; children = top_names ts }) e i.0 in
        let us : u ≡ s = some_inj u s (sym (ap (λ z. z.shape) c) ∙ sh) in
        ap (outline_below f) (sym e) ∙ below_named f (named_tree m u ts) h i
        ∙ ap (λ z. node_over z (outlines_named ts)) us
        ∙ ap (node_over s) (sym (outlines_below f ts h i.1))
        ∙ ap (λ z. node_over s (forest (map (outline_below f) z))) (sym (ap (λ z. z.children) c))

-- a way down ends where it began, or goes through a child
pub first_step : (slots : List Slot) (n x : ℕ) → IsAtOrAbove slots n x → (x ≡ n) ⊎ ((k : ℕ) × (1 ≤ occurs (slot slots n).children k) × IsAtOrAbove slots k x)
first_step slots _ _ (here n) = inl refl
first_step slots _ _ (down n k x o l) = inr (k, o, l)

-- whatever is below the top is in the tree
mutual
  pub named_below : (slots : List Slot) (t : NamedTree) (x : ℕ) → IsAt slots t → IsAtOrAbove slots (top_name t) x → 1 ≤ occurs (node_names t) x
  named_below slots (named_tree n s ts) x i l = elim (first_step slots n x l) [
    | inl e ↦ subst (λ z. 1 ≤ occurs (n ∷ node_names_of ts) z) (sym e) (occurs_here n (node_names_of ts))
    | inr r ↦ let o : 1 ≤ occurs (top_names ts) r.0 = subst (λ (c : Slot). 1 ≤ occurs c.children r.0) i.0 r.1 in
        let b : 1 ≤ occurs (node_names_of ts) x = named_below_of slots ts r.0 x i.1 o r.2 in omega arith
  ]

  named_below_of : (slots : List Slot) (ts : NamedTrees) (k x : ℕ) → AreAt slots ts → 1 ≤ occurs (top_names ts) k → IsAtOrAbove slots k x → 1 ≤ occurs (node_names_of ts) x
  named_below_of slots no_named k x i o l = absurd (omega arith)
  named_below_of slots (named_and t ts) k x i o l = elim (cases_eq k (top_name t)) [
    | inl e ↦ let r : 1 ≤ occurs (node_names t) x = named_below slots t x i.0 (subst (λ z. IsAtOrAbove slots z x) e l) in
        omega (arith, occurs-append (node_names t) (node_names_of ts) x)
    | inr ne ↦ let r : 1 ≤ occurs (node_names_of ts) x = named_below_of slots ts k x i.1 (subst (λ z. 1 ≤ z) (occurs_other (top_name t) k (top_names ts) ne) o) l in
        omega (arith, occurs-append (node_names t) (node_names_of ts) x)
  ]

bare_leaf : (ts : NamedTrees) → top_names ts ≡ [] → (S : List ℕ → Type 0) → S [] → S (node_names_of ts)
bare_leaf no_named e S h = h
bare_leaf (named_and t ts) e S h = absurd (cc)

leaf_p : (a : ℕ) → Some (Leaf a) ≡ Some P → ⊥
leaf_p a e = cc

leaf_q : (a : ℕ) → Some (Leaf a) ≡ Some Q → ⊥
leaf_q a e = cc

-- the leaf of column a + 1 stands where node a does
mutual
  pub leaf_times : (f : Layout) (t : NamedTree) (a : ℕ) → IsLayout f → IsAt f.slots t → a < f.columns → occurs (leaves (outline_named t)) (a + 1) ≡ occurs (node_names t) a
  leaf_times f (named_tree n (Leaf b) ts) a h i lt =
      let r = h.no_other_leaf n b (ap (λ c. c.shape) i.0) in
      let e : b ≡ n + 1 = r.0 in
      bare_leaf ts (sym (ap (λ c. c.children) i.0) ∙ subst (λ z. MayHaveChildren z (children_at f n)) (ap (λ c. c.shape) i.0) (h.children_fit n)) (λ us. occurs (b ∷ []) (a + 1) ≡ occurs (n ∷ us) a)
      (elim (cases_eq a n) [
        | inl q ↦ let x : occurs (b ∷ []) (a + 1) ≡ 1 = subst (λ z. occurs (z ∷ []) (a + 1) ≡ 1) (let k : a + 1 ≡ b = omega arith in k) (occurs_same (a + 1) []) in
            let y : occurs (n ∷ []) a ≡ 1 = subst (λ z. occurs (z ∷ []) a ≡ 1) q (occurs_same a []) in omega arith
        | inr ne ↦ let x : occurs (b ∷ []) (a + 1) ≡ 0 = occurs_other b (a + 1) [] (λ q. ne (omega arith)) in
            let y : occurs (n ∷ []) a ≡ 0 = occurs_other n a [] ne in omega arith
      ])
  leaf_times f (named_tree n P ts) a h i lt = leaf_times_of f ts a h i.1 lt
      ∙ sym (occurs_other n a (node_names_of ts) (λ e. leaf_p (a + 1) (sym (h.leaves a lt) ∙ subst (λ z. shape_at f z ≡ Some P) (sym e) (ap (λ c. c.shape) i.0))))
  leaf_times f (named_tree n Q ts) a h i lt = leaf_times_of f ts a h i.1 lt
      ∙ sym (occurs_other n a (node_names_of ts) (λ e. leaf_q (a + 1) (sym (h.leaves a lt) ∙ subst (λ z. shape_at f z ≡ Some Q) (sym e) (ap (λ c. c.shape) i.0))))

  pub leaf_times_of : (f : Layout) (ts : NamedTrees) (a : ℕ) → IsLayout f → AreAt f.slots ts → a < f.columns → occurs (leaves_of (outlines_named ts)) (a + 1) ≡ occurs (node_names_of ts) a
  leaf_times_of f no_named a h i lt = refl
  leaf_times_of f (named_and t ts) a h i lt =
      let x : occurs (leaves (outline_named t)) (a + 1) ≡ occurs (node_names t) a = leaf_times f t a h i.0 lt in
      let y : occurs (leaves_of (outlines_named ts)) (a + 1) ≡ occurs (node_names_of ts) a = leaf_times_of f ts a h i.1 lt in
      omega (arith, occurs-append (leaves (outline_named t)) (leaves_of (outlines_named ts)) (a + 1), occurs-append (node_names t) (node_names_of ts) a)

-- each column at a leaf is one of 1 to c
mutual
  leaf_within : (f : Layout) (t : NamedTree) (b : ℕ) → IsLayout f → IsAt f.slots t → 1 ≤ occurs (leaves (outline_named t)) b → (1 ≤ b) × (b ≤ f.columns)
  leaf_within f (named_tree n (Leaf a) ts) b h i o =
      let r = h.no_other_leaf n a (ap (λ c. c.shape) i.0) in
      let e : a ≡ n + 1 = r.0 in let lt : n < f.columns = r.1 in
      let q : b ≡ a = only_one b a o in (omega arith, omega arith)
  leaf_within f (named_tree n P ts) b h i o = leaf_within_of f ts b h i.1 o
  leaf_within f (named_tree n Q ts) b h i o = leaf_within_of f ts b h i.1 o

  leaf_within_of : (f : Layout) (ts : NamedTrees) (b : ℕ) → IsLayout f → AreAt f.slots ts → 1 ≤ occurs (leaves_of (outlines_named ts)) b → (1 ≤ b) × (b ≤ f.columns)
  leaf_within_of f no_named b h i o = absurd (omega arith)
  leaf_within_of f (named_and t ts) b h i o = elim (cases_lt 0 (occurs (leaves (outline_named t)) b)) [
    | inl l ↦ leaf_within f t b h i.0 l
    | inr l ↦ leaf_within_of f ts b h i.1 (omega (arith, occurs-append (leaves (outline_named t)) (leaves_of (outlines_named ts)) b))
  ]

-- the leaves of the one tree are an order of its columns
pub one_order : (f : Layout) → IsLayout f → IsOneTree f → IsOrder f.columns (leaves (outline_at f))
one_order f h one b =
    let r : TreeAt f f.root = tree_at f f.root h h.root_used in
    let out : outline_at f ≡ outline_named r.it = below_tree f f.root h r in
    ap (λ z. occurs (leaves z) b) out ∙ elim (in_range f.columns b) [
      | inl i ↦
          let lo : 1 ≤ b = i.0 in let hi : b ≤ f.columns = i.1 in
          let a : ℕ = b - 1 in
          let lt : a < f.columns = omega arith in
          let used : IsInUse f a = Slots.used_by f a (Leaf (a + 1)) (h.leaves a lt) in
          let has : 1 ≤ occurs (node_names r.it) a = named_below f.slots r.it a r.is (subst (λ z. IsAtOrAbove f.slots z a) (sym r.named) (one a used)) in
          let once : occurs (node_names r.it) a ≤ 1 = names_once f r.it h r.is a in
          let e : occurs (leaves (outline_named r.it)) (a + 1) ≡ occurs (node_names r.it) a = leaf_times f r.it a h r.is lt in
          let k : a + 1 ≡ b = omega arith in
          let e' : occurs (leaves (outline_named r.it)) b ≡ occurs (node_names r.it) a = subst (λ z. occurs (leaves (outline_named r.it)) z ≡ occurs (node_names r.it) a) k e in
          omega (arith, within_one f.columns b lo hi)
      | inr i ↦ elim (cases_lt 0 (occurs (leaves (outline_named r.it)) b)) [
        | inl l ↦ absurd (let w = leaf_within f r.it b h r.is l in let lo : 1 ≤ b = w.0 in let hi : b ≤ f.columns = w.1 in
            elim i [ inl z ↦ omega arith | inr z ↦ omega arith ])
        | inr l ↦ omega (arith, within_none f.columns b i)
      ]
    ]
