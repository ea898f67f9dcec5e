-- A Q-node stands in the place of a P-node, and what is left of that at its end: what is known of the whole then.
use Rattle.std.proofs.Common.{◌≡◌, ◌⊎◌, inl, inr, ℕ, ◌+◌, ◌≤◌, List, [], ◌∷◌, length, map, Some, None, refl, sym, ap, subst, ◌∙◌, arith}
use Rattle.std.proofs.lemmas.Bool.{cases_eq, cases_lt}
use Rattle.column_order.specs.Orders.{occurs}
use Rattle.pq_tree.specs.Outline.{Outline}
use Rattle.pq_tree.specs.Proper.{forest}
use Rattle.pq_tree.specs.Equivalent.{AreEquivalent}
use Rattle.arena_model.specs.declared.Shape.TheVariants.{Leaf, P, Q}
use Rattle.arena_model.specs.ChildLists.{put_on}
use Rattle.arena_model.specs.Layout.{Layout, shape_at, children_at, IsAtOrAbove, here, down, IsLayout}
use Rattle.arena_model.specs.NamedTree.{outline_below, IsOneTree, HasTwoEach}
use Rattle.arena_model.proofs.Lists.{occurs_here, only_one, occurs_other}
use Rattle.arena_model.proofs.Slots.{used_by, child_used}
use Rattle.bubble_pass.specs.declared.labels.Label.TheVariants.{Empty}
use Rattle.bubble_pass.specs.Marks.{Marks, label_at}
use Rattle.tree_theory.specs.Templates.{star}
use Rattle.template_model.specs.Treated.{IsTreated}
use Rattle.templates_p.specs.Steps.{IsSameAt}
use Rattle.templates_p.specs.Parts.{IsParted}
use Rattle.templates_p.proofs.Rebuilt.{IsRebuilt, IsWritten, IsMine, none_child, below_used}
use Rattle.templates_p.proofs.Remarked.{AreRemarked, IsJudged, is_answer, is_gone, is_empty, exchanged, treated}
use Rattle.templates_p.proofs.Framing.{same_at}
use Rattle.templates_p.proofs.Grouping.{two_kinds, one_stands}
use Rattle.templates_p.proofs.Absorbing.{put_on_times, put_on_length}

-- what is known of the P-node n, of the node h that takes its place, of the other children `rest` of n, and of `line`,
-- which h is to have as its children
pub record IsLineOf (f : Layout) (n h : ℕ) (rest line : List ℕ) : Type 0 where
  pub is_p : shape_at f n ≡ Some P
  pub mine : IsMine f n h
  pub closed : (j : ℕ) → 1 ≤ occurs (children_at f j) h → (h ≡ n) ⊎ (1 ≤ occurs (n ∷ h ∷ []) j)
  pub no_leaf : (b : ℕ) → shape_at f h ≡ Some (Leaf b) → ⊥
  pub some : 1 ≤ length line
  pub own : (k : ℕ) → 1 ≤ occurs (children_at f h) k → 1 ≤ occurs line k
  pub below : (k : ℕ) → 1 ≤ occurs line k → IsAtOrAbove f.slots n k
  pub inner : (k : ℕ) → 1 ≤ occurs line k → occurs (n ∷ h ∷ []) k ≡ 0
  pub child : (k : ℕ) → 1 ≤ occurs rest k → 1 ≤ occurs (children_at f n) k
  pub other : (k : ℕ) → 1 ≤ occurs rest k → occurs (n ∷ h ∷ []) k ≡ 0
  pub covers : (k : ℕ) → 1 ≤ occurs (children_at f n) k → (k ≡ h) ⊎ (1 ≤ occurs rest k + occurs line k)

module _ (f g : Layout) (v w : Marks) (n h end : ℕ) (rest line : List ℕ) (lf : IsLayout f) (lg : IsLayout g) (l : IsLineOf f n h rest line) (p : IsParted f g v w n h end rest line) where
  part_has : 1 ≤ occurs (children_at g h) p.e
  part_has = subst (λ z. 1 ≤ occurs z p.e) (sym p.over) (omega (arith, put_on_times end p.e p.e line, occurs_here p.e []))

  line_has : (k : ℕ) → 1 ≤ occurs line k → 1 ≤ occurs (children_at g h) k
  line_has k o = subst (λ z. 1 ≤ occurs z k) (sym p.over) (omega (arith, put_on_times end p.e k line))

  in_line : (k : ℕ) → 1 ≤ occurs (children_at g h) k → (k ≡ p.e) ⊎ (1 ≤ occurs line k)
  in_line k o = elim (cases_eq k p.e) [
    | inl e ↦ inl e
    | inr ne ↦ inr (let o' : 1 ≤ occurs (put_on end p.e line) k = subst (λ z. 1 ≤ occurs z k) p.over o in
        omega (arith, put_on_times end p.e k line, occurs_other p.e k [] ne))
  ]

  under_line : (k : ℕ) → 1 ≤ occurs line k → IsAtOrAbove g.slots h k
  under_line k o = down h k k (line_has k o) (here k)

  part_under : IsAtOrAbove g.slots h p.e
  part_under = down h p.e p.e part_has (here p.e)

  rest_under : (k : ℕ) → 1 ≤ occurs rest k → IsAtOrAbove g.slots h k
  rest_under k o = elim p.part [
    | inl q ↦ down h n k (subst (λ z. 1 ≤ occurs (children_at g h) z) q.0 part_has) (down n k k (subst (λ z. 1 ≤ occurs z k) (sym q.2) o) (here k))
    | inr q ↦ subst (λ z. IsAtOrAbove g.slots h z) (sym (only_one k p.e (subst (λ z. 1 ≤ occurs z k) q.1 o))) part_under
  ]

  under_n : (k : ℕ) → 1 ≤ occurs rest k → IsAtOrAbove f.slots n k
  under_n k o = down n k k (l.child k o) (here k)

  part_mine : IsMine f n p.e
  part_mine = elim p.part [
    | inl q ↦ inl (subst (λ z. IsAtOrAbove f.slots n z) (sym q.0) (here n))
    | inr q ↦ inl (under_n p.e (subst (λ z. 1 ≤ occurs z p.e) (sym q.1) (occurs_here p.e [])))
  ]

  node_written : IsWritten f g n h (n ∷ h ∷ []) n
  node_written = record {
    mine = inl (here n);
    closed = λ j o. inl refl;
    no_leaf = λ b e. (let z : Some P ≡ Some (Leaf b) = sym l.is_p ∙ e in cc);
    two = λ s. elim p.part [
      | inl q ↦ subst (λ z. 2 ≤ length z) (sym q.2) q.3
      | inr q ↦ absurd (elim s [ inl e ↦ (let z : None ≡ Some P = sym q.0 ∙ e in cc) | inr e ↦ (let z : None ≡ Some Q = sym q.0 ∙ e in cc) ])
    ];
    down = λ k o u. elim (l.covers k o) [
      | inl e ↦ subst (λ z. IsAtOrAbove g.slots h z) (sym e) (here h)
      | inr c ↦ elim (cases_lt 0 (occurs rest k)) [
        | inl r ↦ rest_under k r
        | inr r ↦ under_line k (omega arith)
      ]
    ];
    up = λ k o. elim p.part [
      | inl q ↦ inl (under_n k (subst (λ z. 1 ≤ occurs z k) q.2 o))
      | inr q ↦ absurd (none_child g n k lg q.0 o)
    ];
    all = λ u. elim p.part [
      | inl q ↦ subst (λ z. IsAtOrAbove g.slots h z) q.0 part_under
      | inr q ↦ absurd (u q.0)
    ];
  }

  line_written : IsWritten f g n h (n ∷ h ∷ []) h
  line_written = record {
    mine = l.mine;
    closed = l.closed;
    no_leaf = l.no_leaf;
    two = λ s. subst (λ z. 2 ≤ length z) (sym p.over) (let q : 1 ≤ length line = l.some in omega (arith, put_on_length end p.e line));
    down = λ k o u. under_line k (l.own k o);
    up = λ k o. elim (in_line k o) [
      | inl e ↦ subst (λ z. IsMine f n z) (sym e) part_mine
      | inr q ↦ inl (l.below k q)
    ];
    all = λ u. here h;
  }

  pub parted_rebuilt : IsRebuilt f g n h (n ∷ h ∷ [])
  parted_rebuilt = record {
    before = lf;
    after = lg;
    columns = p.columns;
    root = p.root;
    used = used_by f n P l.is_p;
    answer = used_by g h Q p.is_q;
    n_in = occurs_here n (h ∷ []);
    a_in = omega (arith, occurs_here h []);
    shapes = λ m z. let t = two_kinds n h m z in p.shapes m t.0 t.1;
    children = λ m z. let t = two_kinds n h m z in p.children m t.0 t.1;
    written = (node_written, (line_written, tt));
  }

  module _ (empty : (k : ℕ) → 1 ≤ occurs rest k → label_at v k ≡ Empty) where
    node_judged : IsJudged f g v w n h (n ∷ h ∷ []) n
    node_judged = elim p.part [
      | inl q ↦ is_empty q.4 (λ k o. let r : 1 ≤ occurs rest k = subst (λ z. 1 ≤ occurs z k) q.2 o in (l.other k r, empty k r))
      | inr q ↦ is_gone q.0
    ]

    pub parted_remarked : AreRemarked f g v w n h (n ∷ h ∷ [])
    parted_remarked = record {
      alike = p.marks.alike;
      label = p.marks.label;
      labels = λ m z. let t = two_kinds n h m z in p.marks.labels m t.0 t.1;
      chains = exchanged v w n h p.marks.old p.marks.new p.marks.old_is p.marks.new_is p.marks.chains;
      judged = (node_judged, (is_answer refl, tt));
    }

    pub parted_treated : IsOneTree f → HasTwoEach f → IsTreated f g v w n h
    parted_treated one two = treated f g n h (n ∷ h ∷ []) parted_rebuilt v w parted_remarked one two

    pub rest_same : (k : ℕ) → 1 ≤ occurs rest k → IsSameAt f v g w k
    rest_same k o = same_at f g n h (n ∷ h ∷ []) parted_rebuilt v w parted_remarked k (child_used f n k lf (l.child k o)) (under_n k o) (l.other k o)

    pub line_same : (k : ℕ) → 1 ≤ occurs line k → IsSameAt f v g w k
    line_same k o = same_at f g n h (n ∷ h ∷ []) parted_rebuilt v w parted_remarked k (below_used f n k lf (used_by f n P l.is_p) (l.below k o)) (l.below k o) (l.inner k o)

    pub part_label : label_at w p.e ≡ Empty
    part_label = elim p.part [
      | inl q ↦ ap (label_at w) q.0 ∙ q.4
      | inr q ↦ let o : 1 ≤ occurs rest p.e = subst (λ z. 1 ≤ occurs z p.e) (sym q.1) (occurs_here p.e []) in (rest_same p.e o).label ∙ empty p.e o
    ]

    -- the part stands for trees that are those of `rest` in some order
    pub part_stands : (o : ℕ → Outline) (xs : List ℕ) → ((k : ℕ) → occurs xs k ≡ occurs rest k) → ((k : ℕ) → 1 ≤ occurs rest k → outline_below f k ≡ o k) →
        AreEquivalent (star (forest (map o xs))) (outline_below g p.e ∷ [])
    part_stands o xs same tree = one_stands g p.e o xs rest lg (elim p.part [
      | inl q ↦ inr (subst (λ z. shape_at g z ≡ Some P) (sym q.0) q.1, λ k. ap (λ zs. occurs zs k) (ap (children_at g) q.0 ∙ q.2), q.3)
      | inr q ↦ inl q.1
    ]) same (λ k r. (rest_same k r).tree ∙ tree k r)
