-- A part of the arena that was built anew in place: from what was written to what stands there.
use Rattle.std.proofs.Common.{◌≡◌, ◌≢◌, ◌⊎◌, ◌↔◌, inl, inr, ℕ, ◌≤◌, cond, List, [], ◌∷◌, length, Some, None, refl, sym, ap, subst, ◌∙◌, arith, eq-eqb}
use Rattle.std.proofs.lemmas.Bool.{ne_eqb, cases_eq, cases_lt}
use Rattle.std.specs.Prelude.{if◌then◌else◌, ◌==◌}
use Rattle.column_order.specs.Orders.{occurs}
use Rattle.arena_model.specs.declared.Shape.TheVariants.{Leaf, P, Q}
use Rattle.arena_model.specs.ChildLists.{with_replaced}
use Rattle.arena_model.specs.Layout.{Slot, Layout, slot, shape_at, children_at, IsAtOrAbove, here, down, IsInUse, MayHaveChildren, IsLayout}
use Rattle.arena_model.specs.NamedTree.{IsAt, outline_below, IsOneTree, HasTwoEach}
use Rattle.arena_model.proofs.Lists.{occurs_here, occurs_other}
use Rattle.arena_model.proofs.Slots.{some_none, used_by, child_used, parent_used}
use Rattle.arena_model.proofs.Paths.{above_step, top_alone, one_parent, above_ends, at_once, by}
use Rattle.arena_model.proofs.Trees.{TreeAt, tree_at, at_same, reached, no_circle}
use Rattle.arena_model.proofs.Outlines.{below_named}
use Rattle.template_model.specs.Treated.{IsOutside, IsReplacedAt}

-- H of each of the list
abbrev pub Each : (ℕ → Type 0) → List ℕ → Type 0
Each H [] = Unit {0}
Each H (x ∷ xs) = H x × Each H xs

pub each_at : (H : ℕ → Type 0) (xs : List ℕ) (m : ℕ) → Each H xs → 1 ≤ occurs xs m → H m
each_at H [] m h o = absurd (omega arith)
each_at H (x ∷ xs) m h o = elim (cases_eq m x) [
  | inl e ↦ subst (λ z. H z) (sym e) h.0
  | inr ne ↦ each_at H xs m h.1 (subst (λ z. 1 ≤ z) (occurs_other x m xs ne) o)
]

-- m is at or below n, or spare
abbrev pub IsMine : Layout → ℕ → ℕ → Type 0
IsMine f n m = IsAtOrAbove f.slots n m ⊎ (shape_at f m ≡ None)

-- what is known of the node m, one of the nodes ts that were written so that a stands in the place of n
pub record IsWritten (f g : Layout) (n a : ℕ) (ts : List ℕ) (m : ℕ) : Type 0 where
  pub mine : IsMine f n m
  pub closed : (j : ℕ) → 1 ≤ occurs (children_at f j) m → (m ≡ n) ⊎ (1 ≤ occurs ts j)
  pub no_leaf : (c : ℕ) → shape_at f m ≡ Some (Leaf c) → ⊥
  pub two : (shape_at g m ≡ Some P) ⊎ (shape_at g m ≡ Some Q) → 2 ≤ length (children_at g m)
  pub down : (k : ℕ) → 1 ≤ occurs (children_at f m) k → IsInUse g k → IsAtOrAbove g.slots a k
  pub up : (k : ℕ) → 1 ≤ occurs (children_at g m) k → IsMine f n k
  pub all : IsInUse g m → IsAtOrAbove g.slots a m

-- the nodes ts were written so that a stands in the place of n
pub record IsRebuilt (f g : Layout) (n a : ℕ) (ts : List ℕ) : Type 0 where
  pub before : IsLayout f
  pub after : IsLayout g
  pub columns : g.columns ≡ f.columns
  pub root : g.root ≡ (if f.root == n then a else f.root)
  pub used : IsInUse f n
  pub answer : IsInUse g a
  pub n_in : 1 ≤ occurs ts n
  pub a_in : 1 ≤ occurs ts a
  pub shapes : (m : ℕ) → occurs ts m ≡ 0 → shape_at g m ≡ shape_at f m
  pub children : (m : ℕ) → occurs ts m ≡ 0 → children_at g m ≡ with_replaced (children_at f m) n a
  pub written : Each (IsWritten f g n a ts) ts

pub above_trans : (slots : List Slot) (a b c : ℕ) → IsAtOrAbove slots a b → IsAtOrAbove slots b c → IsAtOrAbove slots a c
above_trans slots _ _ c (here n) l = l
above_trans slots _ _ c (down n k x o m) l = down n k c o (above_trans slots k x c m l)

pub replaced_none : (xs : List ℕ) (n m : ℕ) → occurs xs n ≡ 0 → with_replaced xs n m ≡ xs
replaced_none [] n m o = refl
replaced_none (x ∷ xs) n m o =
    let ne : x ≢ n = (λ e. let k : occurs (x ∷ xs) x ≡ 0 = subst (λ z. occurs (x ∷ xs) z ≡ 0) (sym e) o in omega (arith, occurs_here x xs)) in
    ap (λ b. cond b m x ∷ with_replaced xs n m) (ne_eqb x n ne) ∙ ap (λ ys. x ∷ ys) (replaced_none xs n m (omega arith))

pub replaced_length : (xs : List ℕ) (n m : ℕ) → length (with_replaced xs n m) ≡ length xs
replaced_length [] n m = refl
replaced_length (x ∷ xs) n m = omega (arith, replaced_length xs n m)

-- another node stays, and the new one stands where the old one stood
pub replaced_keeps : (xs : List ℕ) (n m k : ℕ) → k ≢ n → 1 ≤ occurs xs k → 1 ≤ occurs (with_replaced xs n m) k
replaced_keeps [] n m k ne o = absurd (omega arith)
replaced_keeps (x ∷ xs) n m k ne o = elim (cases_eq k x) [
  | inl e ↦ subst (λ z. 1 ≤ occurs (z ∷ with_replaced xs n m) k) (sym (ap (λ b. cond b m x) (ne_eqb x n (λ q. ne (e ∙ q)))))
      (subst (λ z. 1 ≤ occurs (z ∷ with_replaced xs n m) k) e (occurs_here k (with_replaced xs n m)))
  | inr d ↦ let r : 1 ≤ occurs (with_replaced xs n m) k = replaced_keeps xs n m k ne (subst (λ z. 1 ≤ z) (occurs_other x k xs d) o) in omega arith
]

pub replaced_has : (xs : List ℕ) (n m : ℕ) → 1 ≤ occurs xs n → 1 ≤ occurs (with_replaced xs n m) m
replaced_has [] n m o = absurd (omega arith)
replaced_has (x ∷ xs) n m o = elim (cases_eq n x) [
  | inl e ↦ subst (λ z. 1 ≤ occurs (z ∷ with_replaced xs n m) m) (sym (ap (λ b. cond b m x) (eq-eqb x n (sym e)))) (occurs_here m (with_replaced xs n m))
  | inr d ↦ let r : 1 ≤ occurs (with_replaced xs n m) m = replaced_has xs n m (subst (λ z. 1 ≤ z) (occurs_other x n xs d) o) in omega arith
]

pub none_child : (f : Layout) (m k : ℕ) → IsLayout f → shape_at f m ≡ None → 1 ≤ occurs (children_at f m) k → ⊥
none_child f m k h e o =
    let z : children_at f m ≡ [] = subst (λ s. MayHaveChildren s (children_at f m)) e (h.children_fit m) in
    let q : 1 ≤ occurs [] k = subst (λ ks. 1 ≤ occurs ks k) z o in omega arith

pub below_used : (f : Layout) (x m : ℕ) → IsLayout f → IsInUse f x → IsAtOrAbove f.slots x m → IsInUse f m
below_used f _ _ h u (here x) = u
below_used f _ _ h u (down x k m o l) = below_used f k m h (child_used f x k h o) l

-- n in the place of n leaves the root
pub root_kept : (root n : ℕ) → root ≡ (if root == n then n else root)
root_kept root n = elim (cases_eq root n) [
  | inl e ↦ e ∙ sym (ap (λ b. cond b n root) (eq-eqb root n e))
  | inr ne ↦ sym (ap (λ b. cond b n root) (ne_eqb root n ne))
]

module _ (f g : Layout) (n a : ℕ) (ts : List ℕ) (r : IsRebuilt f g n a ts) where
  pub written_at : (m : ℕ) → 1 ≤ occurs ts m → IsWritten f g n a ts m
  written_at m o = each_at (IsWritten f g n a ts) ts m r.written o

  -- a node outside was not written
  pub outside_kept : (m : ℕ) → IsOutside f n m → occurs ts m ≡ 0
  outside_kept m out = elim (cases_lt 0 (occurs ts m)) [
    | inl l ↦ absurd (elim ((written_at m l).mine) [ inl b ↦ out.1 b | inr e ↦ out.0 e ])
    | inr l ↦ omega arith
  ]

  not_over : (x : ℕ) → IsAtOrAbove f.slots n x → occurs (children_at f x) n ≡ 0
  not_over x l = elim (cases_lt 0 (occurs (children_at f x) n)) [
    | inl o ↦ absurd (no_circle f.slots x n (r.before.grounds x) o l)
    | inr o ↦ omega arith
  ]

  -- below n a node that was not written has its children
  pub same_children : (x : ℕ) → IsAtOrAbove f.slots n x → occurs ts x ≡ 0 → children_at g x ≡ children_at f x
  same_children x l o = r.children x o ∙ replaced_none (children_at f x) n a (not_over x l)

  stays_mine : (x k : ℕ) → IsMine f n x → 1 ≤ occurs (children_at g x) k → IsMine f n k
  stays_mine x k m o = elim (cases_lt 0 (occurs ts x)) [
    | inl l ↦ (written_at x l).up k o
    | inr l ↦ let z : occurs ts x ≡ 0 = omega arith in elim m [
      | inl b ↦ inl (above_step f.slots n x k b (subst (λ ks. 1 ≤ occurs ks k) (same_children x b z) o))
      | inr e ↦ absurd (none_child g x k r.after (r.shapes x z ∙ e) o)
    ]
  ]

  below_mine : (x m : ℕ) → IsAtOrAbove g.slots x m → IsMine f n x → IsMine f n m
  below_mine _ _ (here x) h = h
  below_mine _ _ (down x k m o l) h = below_mine k m l (stays_mine x k h o)

  pub answer_mine : (m : ℕ) → IsAtOrAbove g.slots a m → IsMine f n m
  answer_mine m l = below_mine a m l (written_at a r.a_in).mine

  keeps_from : (x m : ℕ) → IsAtOrAbove f.slots x m → IsAtOrAbove f.slots n x → (IsInUse g x → IsAtOrAbove g.slots a x) → IsInUse g m → IsAtOrAbove g.slots a m
  keeps_from _ _ (here x) b h u = h u
  keeps_from _ _ (down x k m o l) b h u = keeps_from k m l (above_step f.slots n x k b o) (elim (cases_lt 0 (occurs ts x)) [
    | inl w ↦ λ v. (written_at x w).down k o v
    | inr w ↦ λ v. let z : occurs ts x ≡ 0 = omega arith in
        above_step g.slots a x k (h (subst (λ s. s ≢ None) (sym (r.shapes x z)) (parent_used f x k o r.before)))
        (subst (λ ks. 1 ≤ occurs ks k) (sym (same_children x b z)) o)
  ]) u

  -- what was below n is below a
  pub keeps : (m : ℕ) → IsAtOrAbove f.slots n m → IsInUse g m → IsAtOrAbove g.slots a m
  keeps m l u = keeps_from n m l (here n) (written_at n r.n_in).all u

  -- ways down from a node that is not below n
  reach : (x m : ℕ) → IsAtOrAbove f.slots x m → (IsAtOrAbove f.slots n x → ⊥) → IsAtOrAbove f.slots n m ⊎ IsAtOrAbove g.slots x m
  reach _ _ (here x) nb = inr (here x)
  reach _ _ (down x k m o l) nb = elim (cases_eq k n) [
    | inl e ↦ inl (subst (λ z. IsAtOrAbove f.slots z m) e l)
    | inr ne ↦
        let nk : IsAtOrAbove f.slots n k → ⊥ = (λ q. elim (above_ends f.slots n k q) [
          | at_once e ↦ ne (sym e)
          | by j lj oj ↦ nb (subst (λ z. IsAtOrAbove f.slots n z) (one_parent f j x k r.before oj o) lj)
        ]) in
        let z : occurs ts x ≡ 0 = outside_kept x (parent_used f x k o r.before, nb) in
        elim (reach k m l nk) [
          | inl q ↦ inl q
          | inr q ↦ inr (down x k m (subst (λ ks. 1 ≤ occurs ks k) (sym (r.children x z)) (replaced_keeps (children_at f x) n a k ne o)) q)
        ]
  ]

  root_is : f.root ≡ n → g.root ≡ a
  root_is e = r.root ∙ ap (λ b. cond b a f.root) (eq-eqb f.root n e)

  root_stays : f.root ≢ n → g.root ≡ f.root
  root_stays ne = r.root ∙ ap (λ b. cond b a f.root) (ne_eqb f.root n ne)

  root_above : f.root ≢ n → IsAtOrAbove f.slots n f.root → ⊥
  root_above ne l = ne (sym (top_alone f n f.root r.before.root_top l))

  -- the root is above a
  answer_below : IsOneTree f → IsAtOrAbove g.slots g.root a
  answer_below one = elim (cases_eq f.root n) [
    | inl e ↦ subst (λ z. IsAtOrAbove g.slots z a) (sym (root_is e)) (here a)
    | inr ne ↦ elim (above_ends f.slots f.root n (one n r.used)) [
      | at_once e ↦ absurd (ne e)
      | by p l o ↦
          let np : IsAtOrAbove f.slots n p → ⊥ = (λ q. no_circle f.slots p n (r.before.grounds p) o q) in
          let z : occurs ts p ≡ 0 = outside_kept p (parent_used f p n o r.before, np) in
          elim (reach f.root p l (root_above ne)) [
            | inl q ↦ absurd (np q)
            | inr q ↦ subst (λ z. IsAtOrAbove g.slots z a) (sym (root_stays ne))
                (above_step g.slots f.root p a q (subst (λ ks. 1 ≤ occurs ks a) (sym (r.children p z)) (replaced_has (children_at f p) n a o)))
          ]
    ]
  ]

  one_again : IsOneTree f → IsOneTree g
  one_again one m u = elim (cases_lt 0 (occurs ts m)) [
    | inl w ↦ above_trans g.slots g.root a m (answer_below one) ((written_at m w).all u)
    | inr w ↦
        let z : occurs ts m ≡ 0 = omega arith in
        let l : IsAtOrAbove f.slots f.root m = one m (subst (λ s. s ≢ None) (r.shapes m z) u) in
        elim (cases_eq f.root n) [
          | inl e ↦ above_trans g.slots g.root a m (answer_below one) (keeps m (subst (λ z. IsAtOrAbove f.slots z m) e l) u)
          | inr ne ↦ elim (reach f.root m l (root_above ne)) [
            | inl q ↦ above_trans g.slots g.root a m (answer_below one) (keeps m q u)
            | inr q ↦ subst (λ z. IsAtOrAbove g.slots z m) (sym (root_stays ne)) q
          ]
        ]
  ]

  two_again : HasTwoEach f → HasTwoEach g
  two_again two m s = elim (cases_lt 0 (occurs ts m)) [
    | inl w ↦ (written_at m w).two s
    | inr w ↦
        let z : occurs ts m ≡ 0 = omega arith in
        let t : 2 ≤ length (children_at f m) = two m (subst (λ u. (u ≡ Some P) ⊎ (u ≡ Some Q)) (r.shapes m z) s) in
        subst (λ ks. 2 ≤ length ks) (sym (r.children m z)) (omega (arith, replaced_length (children_at f m) n a))
  ]

  leaf_kept : (x c : ℕ) → shape_at f x ≡ Some (Leaf c) → occurs ts x ≡ 0
  leaf_kept x c e = elim (cases_lt 0 (occurs ts x)) [ inl w ↦ absurd ((written_at x w).no_leaf c e) | inr w ↦ omega arith ]

  pub leaves_again : (x c : ℕ) → shape_at f x ≡ Some (Leaf c) → IsAtOrAbove f.slots n x ↔ IsAtOrAbove g.slots a x
  leaves_again x c e = (
    λ l. keeps x l (used_by g x (Leaf c) (r.shapes x (leaf_kept x c e) ∙ e)),
    λ l. elim (answer_mine x l) [ inl q ↦ q | inr q ↦ absurd (some_none (Leaf c) (sym e ∙ q)) ],
  )

  pub replaced_at : IsOneTree f → HasTwoEach f → IsReplacedAt f g n a
  replaced_at one two = record {
    columns = r.columns;
    one = one_again one;
    two = two_again two;
    used = r.answer;
    root = r.root;
    outside = λ m out. (r.shapes m (outside_kept m out), r.children m (outside_kept m out));
    apart = λ m out l. elim (answer_mine m l) [ inl q ↦ out.1 q | inr q ↦ out.0 q ];
    leaves = leaves_again;
  }

  -- below a node that was not written, itself below n, none was
  pub deep_child : (x k : ℕ) → IsAtOrAbove f.slots n x → occurs ts x ≡ 0 → 1 ≤ occurs (children_at f x) k → occurs ts k ≡ 0
  deep_child x k l z o = elim (cases_lt 0 (occurs ts k)) [
    | inl w ↦ absurd (elim ((written_at k w).closed x o) [
      | inl e ↦ let q : occurs (children_at f x) n ≡ 0 = not_over x l in
          let q' : 1 ≤ occurs (children_at f x) n = subst (λ y. 1 ≤ occurs (children_at f x) y) e o in omega arith
      | inr t ↦ omega arith
    ])
    | inr w ↦ omega arith
  ]

  pub deep : (x m : ℕ) → IsAtOrAbove f.slots x m → IsAtOrAbove f.slots n x → occurs ts x ≡ 0 → occurs ts m ≡ 0
  deep _ _ (here x) l z = z
  deep _ _ (down x k m o p) l z = deep k m p (above_step f.slots n x k l o) (deep_child x k l z o)

  -- the ways down from it stay, and no other comes
  pub ways_kept : (x m : ℕ) → IsAtOrAbove f.slots x m → IsAtOrAbove f.slots n x → occurs ts x ≡ 0 → IsAtOrAbove g.slots x m
  ways_kept _ _ (here x) l z = here x
  ways_kept _ _ (down x k m o p) l z = down x k m (subst (λ ks. 1 ≤ occurs ks k) (sym (same_children x l z)) o)
      (ways_kept k m p (above_step f.slots n x k l o) (deep_child x k l z o))

  pub ways_back : (x m : ℕ) → IsAtOrAbove g.slots x m → IsAtOrAbove f.slots n x → occurs ts x ≡ 0 → IsAtOrAbove f.slots x m
  ways_back _ _ (here x) l z = here x
  ways_back _ _ (down x k m o p) l z =
      let o' : 1 ≤ occurs (children_at f x) k = subst (λ ks. 1 ≤ occurs ks k) (same_children x l z) o in
      down x k m o' (ways_back k m p (above_step f.slots n x k l o') (deep_child x k l z o'))

  slot_kept : (x : ℕ) → IsAtOrAbove f.slots n x → occurs ts x ≡ 0 → slot g.slots x ≡ slot f.slots x
  slot_kept x l z = ap (λ s. let c : Slot = record { shape = s; children = children_at g x } in c) (r.shapes x z)
      ∙ ap (λ ks. let c : Slot = record { shape = shape_at f x; children = ks } in c) (same_children x l z)

  -- and its tree stays
  pub tree_kept : (x : ℕ) → IsInUse f x → IsAtOrAbove f.slots n x → occurs ts x ≡ 0 → outline_below g x ≡ outline_below f x
  tree_kept x u l z =
      let t : TreeAt f x = tree_at f x r.before u in
      let i : IsAt g.slots t.it = at_same f.slots g.slots t.it
      (λ m o. let p : IsAtOrAbove f.slots x m = subst (λ y. IsAtOrAbove f.slots y m) t.named (reached f.slots t.it m t.is o) in
      slot_kept m (above_trans f.slots n x m l p) (deep x m p l z)) t.is in
      ap (outline_below g) (sym t.named) ∙ below_named g t.it r.after i ∙ sym (below_named f t.it r.before t.is) ∙ ap (outline_below f) t.named
