-- What stays where a node with all below it is replaced.
use Rattle.std.proofs.Common.{◌≡◌, ◌≢◌, ◌⊎◌, inl, inr, ◌↔◌, ℕ, ◌≤◌, cond, eqb, true, false, List, [], ◌∷◌, length, Some, refl, sym, ap, subst, ◌∙◌, arith, eq-eqb, eqb-true}
use Rattle.std.proofs.lemmas.Bool.{cases_eq, cases_lt, ne_eqb}
use Rattle.column_order.specs.Orders.{occurs}
use Rattle.arena_model.specs.ChildLists.{with_replaced}
use Rattle.arena_model.specs.declared.Shape.TheVariants.{Leaf, P, Q}
use Rattle.arena_model.specs.Layout.{Slot, Layout, slot, shape_at, children_at, IsInUse, IsAtOrAbove, here, down, IsLayout}
use Rattle.arena_model.specs.NamedTree.{NamedTree, top_name, IsAt, outline_below, IsOneTree, HasTwoEach}
use Rattle.arena_model.proofs.Lists.{occurs_here, occurs_other, replaced_none}
use Rattle.arena_model.proofs.Slots.{some_none, child_used, parent_used}
use Rattle.arena_model.proofs.Paths.{above_step, one_parent, above_ends, one_path, at_once, by}
use Rattle.arena_model.proofs.Trees.{TreeAt, tree_at, at_same, reached, name_used, no_circle}
use Rattle.arena_model.proofs.Outlines.{below_named, named_below}
use Rattle.template_model.specs.Treated.{IsOutside, IsReplacedAt}

-- n in the place of n
pub replaced_self : (xs : List ℕ) (n : ℕ) → with_replaced xs n n ≡ xs
replaced_self [] n = refl
replaced_self (x ∷ xs) n = elim (cases_eq x n) [
  | inl e ↦ ap (λ b. cond b n x ∷ with_replaced xs n n) (eq-eqb x n e) ∙ ap (λ y. y ∷ with_replaced xs n n) (sym e) ∙ ap (λ ys. x ∷ ys) (replaced_self xs n)
  | inr ne ↦ ap (λ b. cond b n x ∷ with_replaced xs n n) (ne_eqb x n ne) ∙ ap (λ ys. x ∷ ys) (replaced_self xs n)
]

-- what stands in a list with m in the place of n
pub replaced_has : (xs : List ℕ) (n m k : ℕ) → 1 ≤ occurs (with_replaced xs n m) k → ((k ≡ m) × (1 ≤ occurs xs n)) ⊎ ((1 ≤ occurs xs k) × (k ≢ n))
replaced_has [] n m k o = absurd (omega arith)
replaced_has (x ∷ xs) n m k o = elim (cases_eq x n) [
  | inl e ↦
      let o' : 1 ≤ occurs (m ∷ with_replaced xs n m) k = subst (λ b. 1 ≤ occurs (cond b m x ∷ with_replaced xs n m) k) (eq-eqb x n e) o in
      elim (cases_eq k m) [
        | inl q ↦ inl (q, subst (λ z. 1 ≤ occurs (z ∷ xs) n) (sym e) (occurs_here n xs))
        | inr nq ↦ further x (replaced_has xs n m k (subst (λ z. 1 ≤ z) (occurs_other m k (with_replaced xs n m) nq) o'))
      ]
  | inr ne ↦
      let o' : 1 ≤ occurs (x ∷ with_replaced xs n m) k = subst (λ b. 1 ≤ occurs (cond b m x ∷ with_replaced xs n m) k) (ne_eqb x n ne) o in
      elim (cases_eq k x) [
        | inl q ↦ inr (subst (λ z. 1 ≤ occurs (z ∷ xs) k) q (occurs_here k xs), λ z. ne (sym q ∙ z))
        | inr nq ↦ further x (replaced_has xs n m k (subst (λ z. 1 ≤ z) (occurs_other x k (with_replaced xs n m) nq) o'))
      ]
]
  where
    further : (x : ℕ) → ((k ≡ m) × (1 ≤ occurs xs n)) ⊎ ((1 ≤ occurs xs k) × (k ≢ n)) → ((k ≡ m) × (1 ≤ occurs (x ∷ xs) n)) ⊎ ((1 ≤ occurs (x ∷ xs) k) × (k ≢ n))
    further x (inl h) = let l : 1 ≤ occurs xs n = h.1 in inl (h.0, omega arith)
    further x (inr h) = let l : 1 ≤ occurs xs k = h.0 in inr (omega arith, h.1)

pub replaced_new : (xs : List ℕ) (n m : ℕ) → 1 ≤ occurs xs n → 1 ≤ occurs (with_replaced xs n m) m
replaced_new [] n m o = absurd (omega arith)
replaced_new (x ∷ xs) n m o = elim (cases_eq x n) [
  | inl e ↦ subst (λ b. 1 ≤ occurs (cond b m x ∷ with_replaced xs n m) m) (sym (eq-eqb x n e)) (occurs_here m (with_replaced xs n m))
  | inr ne ↦ let r : 1 ≤ occurs (with_replaced xs n m) m = replaced_new xs n m (subst (λ z. 1 ≤ z) (occurs_other x n xs (λ q. ne (sym q))) o) in omega arith
]

pub replaced_old : (xs : List ℕ) (n m k : ℕ) → k ≢ n → 1 ≤ occurs xs k → 1 ≤ occurs (with_replaced xs n m) k
replaced_old [] n m k ne o = absurd (omega arith)
replaced_old (x ∷ xs) n m k ne o = elim (cases_eq k x) [
  | inl q ↦ subst (λ b. 1 ≤ occurs (cond b m x ∷ with_replaced xs n m) k) (sym (ne_eqb x n (λ z. ne (q ∙ z)))) (subst (λ z. 1 ≤ occurs (z ∷ with_replaced xs n m) k) q (occurs_here k (with_replaced xs n m)))
  | inr nq ↦ let r : 1 ≤ occurs (with_replaced xs n m) k = replaced_old xs n m k ne (subst (λ z. 1 ≤ z) (occurs_other x k xs nq) o) in omega arith
]

pub length-replaced : (xs : List ℕ) (n m : ℕ) → length (with_replaced xs n m) ≡ length xs
length-replaced [] n m = refl
length-replaced (x ∷ xs) n m = omega (arith, length-replaced xs n m)

-- two paths in one
pub join_paths : (slots : List Slot) (a b c : ℕ) → IsAtOrAbove slots a b → IsAtOrAbove slots b c → IsAtOrAbove slots a c
join_paths slots _ _ c (here a) l = l
join_paths slots _ _ c (down a k b o l) l' = down a k c o (join_paths slots k b c l l')

-- the path from a node in use stays in use
pub below_used : (f : Layout) (m x : ℕ) → IsLayout f → IsInUse f m → IsAtOrAbove f.slots m x → IsInUse f x
below_used f _ _ h used (here m) = used
below_used f _ _ h used (down m k x o l) = below_used f k x h (child_used f m k h o) l

-- a child of an outer node, but for n, is an outer node, and so is the node above one
pub outside_child : (f : Layout) (n m k : ℕ) → IsLayout f → IsOutside f n m → 1 ≤ occurs (children_at f m) k → k ≢ n → IsOutside f n k
outside_child f n m k h out o ne = (
  child_used f m k h o,
  λ l. elim (above_ends f.slots n k l) [
    | at_once e ↦ ne (sym e)
    | by p lp op ↦ out.1 (subst (λ z. IsAtOrAbove f.slots n z) (one_parent f p m k h op o) lp)
  ],
)

pub outside_parent : (f : Layout) (n m k : ℕ) → IsLayout f → IsOutside f n k → 1 ≤ occurs (children_at f m) k → IsOutside f n m
outside_parent f n m k h out o = (parent_used f m k o h, λ l. out.1 (above_step f.slots n m k l o))

-- a node above n is an outer node
pub above_outside : (f : Layout) (n m : ℕ) → IsLayout f → IsInUse f m → IsAtOrAbove f.slots m n → m ≢ n → IsOutside f n m
above_outside f n m h used l ne = (used, λ k. both k l)
  where
    -- two nodes are not above each other
    both : IsAtOrAbove f.slots n m → IsAtOrAbove f.slots m n → ⊥
    both k l = elim (above_ends f.slots m n l) [
      | at_once e ↦ ne e
      | by p lp op ↦ no_circle f.slots p n (h.grounds p) op (join_paths f.slots n m p k lp)
    ]

-- the slot of an outer node that isn't right above n stays
pub slot_same : (f g : Layout) (n a m : ℕ) → IsReplacedAt f g n a → IsOutside f n m → occurs (children_at f m) n ≡ 0 → slot g.slots m ≡ slot f.slots m
slot_same f g n a m r out none =
    let s = r.outside m out in
    let k : children_at g m ≡ children_at f m = s.1 ∙ replaced_none (children_at f m) n a none in
    ap (λ z. let c : Slot = record { shape = z; children = children_at g m } in c) s.0
    ∙ ap (λ z. let c : Slot = record { shape = shape_at f m; children = z } in c) k

-- an outer node that isn't above n
pub record IsApart (f : Layout) (n m : ℕ) : Type 0 where
  pub outside : IsOutside f n m
  pub not_above : IsAtOrAbove f.slots m n → ⊥

-- the tree at such a node stays, with its numbers
pub named_same : (f g : Layout) (n a m : ℕ) → IsLayout f → IsReplacedAt f g n a → IsApart f n m → (t : NamedTree) → IsAt f.slots t → top_name t ≡ m → IsAt g.slots t
named_same f g n a m h r ap t i e = at_same f.slots g.slots t (λ x o.
    let l : IsAtOrAbove f.slots m x = subst (λ z. IsAtOrAbove f.slots z x) e (reached f.slots t x i o) in
    slot_same f g n a x r (name_used f t x i o, λ ln. elim (one_path f m n x h l ln) [ inl p ↦ ap.not_above p | inr p ↦ ap.outside.1 p ])
    (elim (cases_lt 0 (occurs (children_at f x) n)) [
      | inl o' ↦ absurd (ap.not_above (above_step f.slots m x n l o'))
      | inr o' ↦ omega arith
    ])) i

-- the tree at a node that is neither at nor below n nor above it stays
pub tree_same : (f g : Layout) (n a m : ℕ) → IsLayout f → IsLayout g → IsReplacedAt f g n a → IsApart f n m → outline_below g m ≡ outline_below f m
tree_same f g n a m h hg r p =
    let t : TreeAt f m = tree_at f m h p.outside.0 in
    let i : IsAt g.slots t.it = named_same f g n a m h r p t.it t.is t.named in
    ap (outline_below g) (sym t.named) ∙ below_named g t.it hg i ∙ sym (below_named f t.it h t.is) ∙ ap (outline_below f) t.named

-- what is below such a node stays
pub below_was : (f g : Layout) (n a m x : ℕ) → IsLayout f → IsReplacedAt f g n a → IsApart f n m → IsAtOrAbove g.slots m x → IsAtOrAbove f.slots m x
below_was f g n a m x h r p l =
    let t : TreeAt f m = tree_at f m h p.outside.0 in
    let i : IsAt g.slots t.it = named_same f g n a m h r p t.it t.is t.named in
    subst (λ z. IsAtOrAbove f.slots z x) t.named (reached f.slots t.it x t.is (named_below g.slots t.it x i (subst (λ z. IsAtOrAbove g.slots z x) (sym t.named) l)))

pub below_is : (f g : Layout) (n a m x : ℕ) → IsLayout f → IsReplacedAt f g n a → IsApart f n m → IsAtOrAbove f.slots m x → IsAtOrAbove g.slots m x
below_is f g n a m x h r p l =
    let t : TreeAt f m = tree_at f m h p.outside.0 in
    let i : IsAt g.slots t.it = named_same f g n a m h r p t.it t.is t.named in
    subst (λ z. IsAtOrAbove g.slots z x) t.named (reached g.slots t.it x i (named_below f.slots t.it x t.is (subst (λ z. IsAtOrAbove f.slots z x) (sym t.named) l)))

-- whatever is below such a node is such a node
pub apart_below : (f : Layout) (n m x : ℕ) → IsLayout f → IsApart f n m → IsAtOrAbove f.slots m x → IsApart f n x
apart_below f n m x h p l = record {
  outside = (below_used f m x h p.outside.0 l, λ ln. elim (one_path f m n x h l ln) [ inl q ↦ p.not_above q | inr q ↦ p.outside.1 q ]);
  not_above = λ q. p.not_above (join_paths f.slots m x n l q);
}

-- nothing changed
pub stays : (f : Layout) (n : ℕ) → IsLayout f → IsOneTree f → HasTwoEach f → IsInUse f n → IsReplacedAt f f n n
stays f n h one two used = record {
  columns = refl;
  one = one;
  two = two;
  used = used;
  root = same (eqb f.root n) refl;
  outside = λ m out. (refl, sym (replaced_self (children_at f m) n));
  apart = λ m out l. out.1 l;
  leaves = λ x c e. ((λ l. l), (λ l. l));
}
  where
    same : (b : _) → eqb f.root n ≡ b → f.root ≡ cond b n f.root
    same true e = eqb-true f.root n e
    same false e = refl

-- The forms by which a replacement is shown: the new part is at and below a, and all other nodes are outer ones.
pub record IsMade (f g : Layout) (n a : ℕ) : Type 0 where
  pub columns : g.columns ≡ f.columns
  pub used : IsInUse g a
  pub root : g.root ≡ cond (eqb f.root n) a f.root
  pub outside : (m : ℕ) → IsOutside f n m →
      (shape_at g m ≡ shape_at f m) × (children_at g m ≡ with_replaced (children_at f m) n a)
  pub apart : (m : ℕ) → IsOutside f n m → IsAtOrAbove g.slots a m → ⊥
  pub rest : (m : ℕ) → IsInUse g m → IsAtOrAbove g.slots a m ⊎ IsOutside f n m
  pub two : (m : ℕ) → IsAtOrAbove g.slots a m → (shape_at g m ≡ Some P) ⊎ (shape_at g m ≡ Some Q) → 2 ≤ length (children_at g m)
  pub leaves : (x c : ℕ) → shape_at f x ≡ Some (Leaf c) → IsAtOrAbove f.slots n x ↔ IsAtOrAbove g.slots a x

pub replaced_made : (f g : Layout) (n a : ℕ) → IsLayout f → IsOneTree f → HasTwoEach f → IsInUse f n → IsMade f g n a → IsReplacedAt f g n a
replaced_made f g n a h one two used r = record {
  columns = r.columns;
  one = λ m u. elim (r.rest m u) [
    | inl l ↦ join_paths g.slots g.root a m to_a l
    | inr out ↦ to_outside m out
  ];
  two = λ m s. elim (r.rest m (inner g m s)) [
    | inl l ↦ r.two m l s
    | inr out ↦ let k = r.outside m out in
        let t : 2 ≤ length (children_at f m) = two m (shaped m k.0 s) in
        let e : length (children_at g m) ≡ length (with_replaced (children_at f m) n a) = ap length k.1 in
        omega (arith, length-replaced (children_at f m) n a)
  ];
  used = r.used;
  root = r.root;
  outside = r.outside;
  apart = r.apart;
  leaves = r.leaves;
}
  where
    shaped : (m : ℕ) → shape_at g m ≡ shape_at f m → (shape_at g m ≡ Some P) ⊎ (shape_at g m ≡ Some Q) → (shape_at f m ≡ Some P) ⊎ (shape_at f m ≡ Some Q)
    shaped m e (inl s) = inl (sym e ∙ s)
    shaped m e (inr s) = inr (sym e ∙ s)

    inner : (g : Layout) (m : ℕ) → (shape_at g m ≡ Some P) ⊎ (shape_at g m ≡ Some Q) → IsInUse g m
    inner g m (inl s) e = some_none P (sym s ∙ e)
    inner g m (inr s) e = some_none Q (sym s ∙ e)

    -- a path of outer nodes is one of g
    kept : (p m : ℕ) → IsInUse f p → IsAtOrAbove f.slots p m → IsOutside f n m → IsAtOrAbove g.slots p m
    kept _ _ u (here p) out = here p
    kept _ _ u (down p k m o l) out =
        let ne : k ≢ n = (λ e. out.1 (subst (λ z. IsAtOrAbove f.slots z m) e l)) in
        let p_out : IsOutside f n p = (u, λ ln. out.1 (join_paths f.slots n p m ln (down p k m o l))) in
        down p k m (subst (λ z. 1 ≤ occurs z k) (sym (r.outside p p_out).1) (replaced_old (children_at f p) n a k ne o))
        (kept k m (child_used f p k h o) l out)

    to_outside : (m : ℕ) → IsOutside f n m → IsAtOrAbove g.slots g.root m
    to_outside m out =
        let ne : f.root ≢ n = (λ e. out.1 (subst (λ z. IsAtOrAbove f.slots z m) e (one m out.0))) in
        subst (λ z. IsAtOrAbove g.slots z m) (sym (r.root ∙ ap (λ b. cond b a f.root) (ne_eqb f.root n ne))) (kept f.root m h.root_used (one m out.0) out)

    to_a : IsAtOrAbove g.slots g.root a
    to_a = elim (above_ends f.slots f.root n (one n used)) [
      | at_once e ↦ subst (λ z. IsAtOrAbove g.slots z a) (sym (r.root ∙ ap (λ b. cond b a f.root) (eq-eqb f.root n e))) (here a)
      | by p lp op ↦
          let out : IsOutside f n p = (parent_used f p n op h, λ ln. no_circle f.slots p n (h.grounds p) op ln) in
          above_step g.slots g.root p a (to_outside p out) (subst (λ z. 1 ≤ occurs z a) (sym (r.outside p out).1) (replaced_new (children_at f p) n a op))
    ]
