-- The children of a Q-node put in its place among the children of another: what stays.
use Rattle.std.proofs.Common.{◌≡◌, ◌≢◌, ◌⊎◌, inl, inr, ℕ, ◌+◌, ◌≤◌, ◌<◌, true, false, cond, eqb, List, [], ◌∷◌, ◌++◌, length, Some, None, refl, sym, ap, subst, ◌∙◌, arith, eqb-true, length-append}
use Rattle.std.proofs.lemmas.Bool.{cases_eq, cases_lt}
use Rattle.std.proofs.lemmas.List.{get_or-set_same, get_or-set_other, length-set}
use Rattle.column_order.specs.Orders.{occurs}
use Rattle.column_order.proofs.Lists.{occurs-append}
use Rattle.arena_model.specs.declared.Shape.TheVariants.{Leaf, P, Q}
use Rattle.arena_model.specs.Layout.{Layout, slot, spare_slot, shape_at, children_at, IsInUse, IsAtOrAbove, here, down, IsLayout, with_children, spliced}
use Rattle.arena_model.specs.NamedTree.{node_names, outline_below, IsOneTree, HasTwoEach}
use Rattle.arena_model.proofs.Lists.{occurs_here, occurs_other}
use Rattle.arena_model.proofs.Slots.{in_range, used_by}
use Rattle.arena_model.proofs.Paths.{one_parent, above_ends, at_once, by}
use Rattle.arena_model.proofs.Trees.{TreeAt, tree_at, at_same, reached, no_circle}
use Rattle.arena_model.proofs.Outlines.{below_named, named_below}
use Rattle.bubble_pass.specs.declared.labels.Label.{Label as Mark}
use Rattle.bubble_pass.specs.declared.labels.Label.TheVariants.{Empty, Partial, Full}
use Rattle.bubble_pass.specs.Marks.{Marks, label_at}
use Rattle.bubble_pass.specs.Pass.{IsRightAt}
use Rattle.bubble_pass.specs.Sweep.{IsRight}
use Rattle.templates_q.proofs.Lines.{fulls_in, partials_in}
use Rattle.template_model.specs.Treated.{IsOutside, IsReplacedAt, AreKeptAt}
use Rattle.template_model.proofs.Replaced.{replaced_self, join_paths, below_used, IsMade, replaced_made}

-- The Q-node c, a child of the Q-node q between us and vs, is given back, and its children ms stand in its place.
pub record IsSpliced (f g : Layout) (q c : ℕ) (us ms vs : List ℕ) : Type 0 where
  pub before : IsLayout f
  pub after : IsLayout g
  pub q_is : shape_at f q ≡ Some Q
  pub c_is : shape_at f c ≡ Some Q
  pub at : children_at f q ≡ us ++ c ∷ vs
  pub some : 2 ≤ length ms
  pub same : (k : ℕ) → occurs ms k ≡ occurs (children_at f c) k
  pub becomes : g ≡ spliced f q c (us ++ (ms ++ vs))

module _ (f g : Layout) (q c : ℕ) (us ms vs : List ℕ) (r : IsSpliced f g q c us ms vs) where
  pub c_child : 1 ≤ occurs (children_at f q) c
  c_child = subst (λ z. 1 ≤ occurs z c) (sym r.at) (let a : occurs (us ++ c ∷ vs) c ≡ occurs us c + occurs (c ∷ vs) c = occurs-append us (c ∷ vs) c in
      let b : 1 ≤ occurs (c ∷ vs) c = occurs_here c vs in omega arith)

  q_in : q < length f.slots
  q_in = in_range f q (used_by f q Q r.q_is)

  c_in : c < length f.slots
  c_in = in_range f c (used_by f c Q r.c_is)

  pub apart_nodes : q ≢ c
  apart_nodes e = no_circle f.slots q c (r.before.grounds q) c_child (subst (λ z. IsAtOrAbove f.slots z q) e (here q))

  -- the new slots
  at_q : slot g.slots q ≡ record { shape = shape_at f q; children = us ++ (ms ++ vs) }
  at_q = ap (λ z. slot z.slots q) r.becomes
      ∙ get_or-set_other (with_children f q (us ++ (ms ++ vs))).slots c q spare_slot spare_slot apart_nodes
      ∙ get_or-set_same f.slots q (record { shape = shape_at f q; children = us ++ (ms ++ vs) }) spare_slot q_in

  at_c : slot g.slots c ≡ spare_slot
  at_c = ap (λ z. slot z.slots c) r.becomes
      ∙ get_or-set_same (with_children f q (us ++ (ms ++ vs))).slots c spare_slot spare_slot
      (subst (λ n. c < n) (sym (length-set f.slots q (record { shape = shape_at f q; children = us ++ (ms ++ vs) }))) c_in)

  pub at_other : (m : ℕ) → m ≢ q → m ≢ c → slot g.slots m ≡ slot f.slots m
  at_other m nq nc = ap (λ z. slot z.slots m) r.becomes
      ∙ get_or-set_other (with_children f q (us ++ (ms ++ vs))).slots c m spare_slot spare_slot nc
      ∙ get_or-set_other f.slots q m (record { shape = shape_at f q; children = us ++ (ms ++ vs) }) spare_slot nq

  pub new_children : children_at g q ≡ us ++ (ms ++ vs)
  new_children = ap (λ s. s.children) at_q

  pub new_shape : shape_at g q ≡ Some Q
  new_shape = ap (λ s. s.shape) at_q ∙ r.q_is

  pub c_spare : shape_at g c ≡ None
  c_spare = ap (λ s. s.shape) at_c

  c_bare : children_at g c ≡ []
  c_bare = ap (λ s. s.children) at_c

  -- ways down in the new arena are ways down in the old one
  edge_back : (m k : ℕ) → 1 ≤ occurs (children_at g m) k → IsAtOrAbove f.slots m k
  edge_back m k o = elim (cases_eq m q) [
    | inl e ↦
        let o' : 1 ≤ occurs (us ++ (ms ++ vs)) k = subst (λ z. 1 ≤ occurs z k) new_children (subst (λ z. 1 ≤ occurs (children_at g z) k) e o) in
        let a : occurs (us ++ (ms ++ vs)) k ≡ occurs us k + occurs (ms ++ vs) k = occurs-append us (ms ++ vs) k in
        let b : occurs (ms ++ vs) k ≡ occurs ms k + occurs vs k = occurs-append ms vs k in
        let s : occurs ms k ≡ occurs (children_at f c) k = r.same k in
        let old : occurs (children_at f q) k ≡ occurs us k + occurs (c ∷ vs) k = ap (λ z. occurs z k) r.at ∙ occurs-append us (c ∷ vs) k in
        let tail : occurs (c ∷ vs) k ≡ occurs (c ∷ []) k + occurs vs k = occurs-append (c ∷ []) vs k in
        subst (λ z. IsAtOrAbove f.slots z k) (sym e) (elim (cases_lt 0 (occurs ms k)) [
          | inl l ↦ let i : 1 ≤ occurs (children_at f c) k = omega arith in down q c k c_child (down c k k i (here k))
          | inr l ↦ let i : 1 ≤ occurs (children_at f q) k = omega arith in down q k k i (here k)
        ])
    | inr nq ↦ elim (cases_eq m c) [
      | inl e ↦ absurd (let z : 1 ≤ occurs [] k = subst (λ z. 1 ≤ occurs z k) c_bare (subst (λ z. 1 ≤ occurs (children_at g z) k) e o) in omega arith)
      | inr nc ↦ down m k k (subst (λ z. 1 ≤ occurs z.children k) (at_other m nq nc) o) (here k)
    ]
  ]

  pub below_back : (a m : ℕ) → IsAtOrAbove g.slots a m → IsAtOrAbove f.slots a m
  below_back _ _ (here m) = here m
  below_back _ _ (down a k m o l) = join_paths f.slots a k m (edge_back a k o) (below_back k m l)

  -- and back, but for ways to c
  edge : (m k : ℕ) → m ≢ c → k ≢ c → 1 ≤ occurs (children_at f m) k → 1 ≤ occurs (children_at g m) k
  edge m k nm nk o = elim (cases_eq m q) [
    | inl e ↦
        let old : occurs (children_at f q) k ≡ occurs us k + occurs (c ∷ vs) k = ap (λ z. occurs z k) r.at ∙ occurs-append us (c ∷ vs) k in
        let tail : occurs (c ∷ vs) k ≡ occurs vs k = occurs_other c k vs nk in
        let a : occurs (us ++ (ms ++ vs)) k ≡ occurs us k + occurs (ms ++ vs) k = occurs-append us (ms ++ vs) k in
        let b : occurs (ms ++ vs) k ≡ occurs ms k + occurs vs k = occurs-append ms vs k in
        let o' : 1 ≤ occurs (children_at f q) k = subst (λ z. 1 ≤ occurs (children_at f z) k) e o in
        let i : 1 ≤ occurs (us ++ (ms ++ vs)) k = omega arith in
        subst (λ z. 1 ≤ occurs (children_at g z) k) (sym e) (subst (λ z. 1 ≤ occurs z k) (sym new_children) i)
    | inr nq ↦ subst (λ z. 1 ≤ occurs z.children k) (sym (at_other m nq nm)) o
  ]

  -- a child of c is one of q
  moved : (k : ℕ) → 1 ≤ occurs (children_at f c) k → 1 ≤ occurs (children_at g q) k
  moved k o =
      let a : occurs (us ++ (ms ++ vs)) k ≡ occurs us k + occurs (ms ++ vs) k = occurs-append us (ms ++ vs) k in
      let b : occurs (ms ++ vs) k ≡ occurs ms k + occurs vs k = occurs-append ms vs k in
      let s : occurs ms k ≡ occurs (children_at f c) k = r.same k in
      let i : 1 ≤ occurs (us ++ (ms ++ vs)) k = omega arith in subst (λ z. 1 ≤ occurs z k) (sym new_children) i

  not_self : (k : ℕ) → 1 ≤ occurs (children_at f c) k → k ≢ c
  not_self k o e = no_circle f.slots c k (r.before.grounds c) o (subst (λ z. IsAtOrAbove f.slots k z) e (here k))

  over : (a m : ℕ) → IsAtOrAbove f.slots a m → m ≢ c → (a ≢ c → IsAtOrAbove g.slots a m) × (a ≡ c → IsAtOrAbove g.slots q m)
  over _ _ (here m) ne = ((λ n. here m), (λ e. absurd (ne e)))
  over _ _ (down a k m o l) ne = let i = over k m l ne in (
    (λ na. elim (cases_eq k c) [
      | inl e ↦
          let p : a ≡ q = one_parent f a q c r.before (subst (λ z. 1 ≤ occurs (children_at f a) z) e o) c_child in
          subst (λ z. IsAtOrAbove g.slots z m) (sym p) (i.1 e)
      | inr nk ↦ down a k m (edge a k na nk o) (i.0 nk)
    ]),
    (λ e. let o' : 1 ≤ occurs (children_at f c) k = subst (λ z. 1 ≤ occurs (children_at f z) k) e o in down q k m (moved k o') (i.0 (not_self k o'))),
  )

  pub below_on : (a m : ℕ) → a ≢ c → m ≢ c → IsAtOrAbove f.slots a m → IsAtOrAbove g.slots a m
  below_on a m na nm l = (over a m l nm).0 na

  pub used_kept : (m : ℕ) → IsInUse g m → (m ≢ c) × IsInUse f m
  used_kept m u = (
    (λ e. u (subst (λ z. shape_at g z ≡ None) (sym e) c_spare)),
    elim (cases_eq m q) [
      | inl e ↦ subst (IsInUse f) (sym e) (used_by f q Q r.q_is)
      | inr nq ↦ elim (cases_eq m c) [
        | inl e ↦ absurd (u (subst (λ z. shape_at g z ≡ None) (sym e) c_spare))
        | inr nc ↦ subst (λ z. z.shape ≢ None) (at_other m nq nc) u
      ]
    ],
  )

  leaf_other : (x b : ℕ) → shape_at f x ≡ Some (Leaf b) → (x ≢ q) × (x ≢ c)
  leaf_other x b e = (
    (λ i. leaf_q b (sym e ∙ subst (λ z. shape_at f z ≡ Some Q) (sym i) r.q_is)),
    (λ i. leaf_q b (sym e ∙ subst (λ z. shape_at f z ≡ Some Q) (sym i) r.c_is)),
  )
    where
      leaf_q : (b : ℕ) → Some (Leaf b) ≡ Some Q → ⊥
      leaf_q b e = cc

  -- whatever is below q in the new arena is in use
  below_in_use : (m : ℕ) → IsAtOrAbove g.slots q m → m ≢ c
  below_in_use m l = (used_kept m (below_used g q m r.after (used_by g q Q new_shape) l)).0

  outside_other : (m : ℕ) → IsOutside f q m → (m ≢ q) × (m ≢ c)
  outside_other m out = (
    (λ e. out.1 (subst (λ z. IsAtOrAbove f.slots q z) (sym e) (here q))),
    (λ e. out.1 (subst (λ z. IsAtOrAbove f.slots q z) (sym e) (down q c c c_child (here c)))),
  )

  same_shape : (m : ℕ) → (m ≢ q) × (m ≢ c) → shape_at g m ≡ shape_at f m
  same_shape m n = ap (λ s. s.shape) (at_other m n.0 n.1)

  same_children : (m : ℕ) → (m ≢ q) × (m ≢ c) → children_at g m ≡ children_at f m
  same_children m n = ap (λ s. s.children) (at_other m n.0 n.1)

  made : IsOneTree f → HasTwoEach f → IsMade f g q q
  made one two = record {
    columns = ap (λ z. z.columns) r.becomes;
    used = used_by g q Q new_shape;
    root = ap (λ z. z.root) r.becomes ∙ root_same (eqb f.root q) refl;
    outside = λ m out. let n = outside_other m out in (same_shape m n, same_children m n ∙ sym (replaced_self (children_at f m) q));
    apart = λ m out l. out.1 (below_back q m l);
    rest = λ m u. let k = used_kept m u in let t : TreeAt f q = tree_at f q r.before (used_by f q Q r.q_is) in
        elim (cases_lt 0 (occurs (node_names t.it) m)) [
          | inl l ↦ inl (below_on q m apart_nodes k.0 (subst (λ z. IsAtOrAbove f.slots z m) t.named (reached f.slots t.it m t.is l)))
          | inr l ↦ inr (k.1, λ p. let i : 1 ≤ occurs (node_names t.it) m = named_below f.slots t.it m t.is (subst (λ z. IsAtOrAbove f.slots z m) (sym t.named) p) in absurd (omega arith))
        ];
    two = λ m l s. elim (cases_eq m q) [
      | inl e ↦ subst (λ z. 2 ≤ length (children_at g z)) (sym e) (subst (λ z. 2 ≤ length z) (sym new_children)
          (let s : 2 ≤ length ms = r.some in omega (arith, length-append us (ms ++ vs), length-append ms vs)))
      | inr nq ↦ let n = below_in_use m l in
          subst (λ z. 2 ≤ length z) (sym (same_children m (nq, n))) (two m (subst (λ z. (z ≡ Some P) ⊎ (z ≡ Some Q)) (same_shape m (nq, n)) s))
    ];
    leaves = λ x b e. ((λ l. below_on q x apart_nodes (leaf_other x b e).1 l), (λ l. below_back q x l));
  }
    where
      root_same : (b : _) → eqb f.root q ≡ b → f.root ≡ cond b q f.root
      root_same true e = eqb-true f.root q e
      root_same false e = refl

  pub spliced_at : IsOneTree f → HasTwoEach f → IsReplacedAt f g q q
  spliced_at one two = replaced_made f g q q r.before one two (used_by f q Q r.q_is) (made one two)

  -- the tree at a node that is not above q stays, but for c
  pub tree_kept : (m : ℕ) → IsInUse f m → (IsAtOrAbove f.slots m q → ⊥) → m ≢ c → outline_below g m ≡ outline_below f m
  tree_kept m u off nc =
      let t : TreeAt f m = tree_at f m r.before u in
      let i = at_same f.slots g.slots t.it (λ x o.
      let l : IsAtOrAbove f.slots m x = subst (λ z. IsAtOrAbove f.slots z x) t.named (reached f.slots t.it x t.is o) in
      at_other x (λ e. off (subst (λ z. IsAtOrAbove f.slots m z) e l)) (λ e. not_over (subst (λ z. IsAtOrAbove f.slots m z) e l))) t.is in
      ap (outline_below g) (sym t.named) ∙ below_named g t.it r.after i ∙ sym (below_named f t.it r.before t.is) ∙ ap (outline_below f) t.named
    where
      not_over : IsAtOrAbove f.slots m c → ⊥
      not_over l = elim (above_ends f.slots m c l) [
        | at_once e ↦ nc e
        | by p lp op ↦ off (subst (λ z. IsAtOrAbove f.slots m z) (one_parent f p q c r.before op c_child) lp)
      ]

  -- labels that were right for a row of leaves are right
  pub right_kept : (row : List ℕ) (m : ℕ) (l : Mark) → ((x : ℕ) → 1 ≤ occurs row x → (b : ℕ) × (shape_at f x ≡ Some (Leaf b))) → m ≢ c → IsRight f row m l → IsRight g row m l
  right_kept row m Empty leaf nc h = λ x p o. h x (below_back m x p) o
  right_kept row m Full leaf nc h = λ x b p e. h x b (below_back m x p) (leaf_was x b e)
    where
      leaf_was : (x b : ℕ) → shape_at g x ≡ Some (Leaf b) → shape_at f x ≡ Some (Leaf b)
      leaf_was x b e =
          let i = r.after.no_other_leaf x b e in
          let lt : x < f.columns = subst (λ n. x < n) (ap (λ z. z.columns) r.becomes) i.1 in
          r.before.leaves x lt ∙ ap (λ n. Some (Leaf n)) (sym i.0)
  right_kept row m Partial leaf nc h =
      let a = h.0 in let b = h.1 in let n = leaf_other a.0 (leaf a.0 a.2).0 (leaf a.0 a.2).1 in let k = leaf_other b.0 b.1 b.3 in (
        (a.0, below_on m a.0 nc n.1 a.1, a.2),
        (b.0, b.1, below_on m b.0 nc k.1 b.2, same_shape b.0 k ∙ b.3, b.4),
      )

  chain_kept : (w : Marks) (m : ℕ) → children_at g m ≡ children_at f m → IsRightAt f w m → IsRightAt g w m
  chain_kept w m e h = record {
    chain = h.chain;
    is = h.is;
    once = h.once;
    labelled = h.labelled;
    child = λ k o. subst (λ z. 1 ≤ occurs z k) (sym e) (h.child k o);
    all = λ k o l. h.all k (subst (λ z. 1 ≤ occurs z k) e o) l;
    full = h.full ∙ ap (λ z. fulls_in w z) (sym e);
    partial = h.partial ∙ ap (λ z. partials_in w z) (sym e);
  }

  pub marks_kept : (w : Marks) → AreKeptAt f g w w q q
  marks_kept w = record {
    room = refl;
    nodes = refl;
    inside = refl;
    label = refl;
    outside = λ m out. refl;
    chains = λ m out h. chain_kept w m (same_children m (outside_other m out)) h;
    right = λ row leaf h m l. right_kept row m (label_at w m) leaf (below_in_use m l) (h m (below_back q m l));
  }
