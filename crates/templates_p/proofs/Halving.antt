-- Among the children of a Q-node two nodes have taken the place of a P-node: what is known of the whole then.
use Rattle.std.proofs.Common.{◌≡◌, ◌≢◌, ◌⊎◌, inl, inr, ℕ, ◌+◌, ◌≤◌, List, [], ◌∷◌, length, map, Some, None, refl, sym, ap, subst, ◌∙◌, arith}
use Rattle.std.proofs.lemmas.Bool.{cases_eq, cases_lt}
use Rattle.column_order.specs.Orders.{occurs}
use Rattle.pq_tree.specs.Proper.{forest}
use Rattle.pq_tree.specs.Equivalent.{AreEquivalent}
use Rattle.arena_model.specs.declared.Shape.TheVariants.{Leaf, P, Q}
use Rattle.arena_model.specs.Layout.{Layout, shape_at, children_at, IsAtOrAbove, here, down, IsLayout, IsInUse}
use Rattle.arena_model.specs.NamedTree.{outline_below, IsOneTree, HasTwoEach}
use Rattle.arena_model.proofs.Lists.{occurs_here, occurs_other, only_one}
use Rattle.arena_model.proofs.Slots.{used_by, child_used}
use Rattle.arena_model.proofs.Paths.{one_parent}
use Rattle.arena_model.proofs.Trees.{no_circle}
use Rattle.tree_theory.specs.Templates.{star}
use Rattle.template_model.proofs.Replaced.{replaced_self}
use Rattle.templates_p.specs.Dividing.{AreSome, IsDivided}
use Rattle.templates_p.specs.Sorts.{full_nodes, empty_nodes}
use Rattle.templates_p.proofs.Rebuilt.{Each, IsRebuilt, IsWritten, IsMine, none_child, root_kept, replaced_at, tree_kept, deep}
use Rattle.templates_p.proofs.Framing.{same_length}
use Rattle.templates_p.proofs.Grouping.{one_stands}
use Rattle.templates_p.proofs.Members.{marks, all_members, rest_members, sorted_members}

-- In place of the P-node n two nodes stand among the children of the Q-node q: e over `rest`, which is n itself or the only one
-- of these, and x over the members, which is the only one of these or a new node, the one in `fresh`.
pub record IsHalved (f g : Layout) (q n e x : ℕ) (rest members fresh : List ℕ) : Type 0 where
  pub before : IsLayout f
  pub after : IsLayout g
  pub columns : g.columns ≡ f.columns
  pub root : g.root ≡ f.root
  pub is_q : shape_at f q ≡ Some Q
  pub is_p : shape_at f n ≡ Some P
  pub child : 1 ≤ occurs (children_at f q) n
  pub still_q : shape_at g q ≡ Some Q
  pub two : 2 ≤ length (children_at g q)
  pub rest_in : 1 ≤ occurs (children_at g q) e
  pub group_in : 1 ≤ occurs (children_at g q) x
  pub stay : (k : ℕ) → k ≢ n → 1 ≤ occurs (children_at f q) k → 1 ≤ occurs (children_at g q) k
  pub come : (k : ℕ) → 1 ≤ occurs (children_at g q) k → (k ≡ e) ⊎ ((k ≡ x) ⊎ (1 ≤ occurs (children_at f q) k))
  pub shapes : (m : ℕ) → occurs (q ∷ n ∷ fresh) m ≡ 0 → shape_at g m ≡ shape_at f m
  pub children : (m : ℕ) → occurs (q ∷ n ∷ fresh) m ≡ 0 → children_at g m ≡ children_at f m
  pub all : (k : ℕ) → occurs (children_at f n) k ≡ occurs rest k + occurs members k
  pub left : ((e ≡ n) × (shape_at g n ≡ Some P) × (children_at g n ≡ rest) × (2 ≤ length rest)) ⊎ ((shape_at g n ≡ None) × (rest ≡ e ∷ []))
  pub group : ((fresh ≡ []) × (members ≡ x ∷ []))
      ⊎ ((fresh ≡ x ∷ []) × (shape_at f x ≡ None) × (shape_at g x ≡ Some P) × ((k : ℕ) → occurs (children_at g x) k ≡ occurs members k) × (2 ≤ length members))

module _ (f g : Layout) (q n e x : ℕ) (rest members fresh : List ℕ) (r : IsHalved f g q n e x rest members fresh) where
  -- the nodes that were written
  abbrev ts : List ℕ
  ts = q ∷ n ∷ fresh

  under_q : (k : ℕ) → 1 ≤ occurs (children_at f n) k → IsAtOrAbove f.slots q k
  under_q k o = down q n k r.child (down n k k o (here k))

  rest_child : (k : ℕ) → 1 ≤ occurs rest k → 1 ≤ occurs (children_at f n) k
  rest_child k o = omega (arith, r.all k)

  member_child : (k : ℕ) → 1 ≤ occurs members k → 1 ≤ occurs (children_at f n) k
  member_child k o = omega (arith, r.all k)

  part_mine : IsMine f q e
  part_mine = elim r.left [
    | inl p ↦ inl (subst (λ z. IsAtOrAbove f.slots q z) (sym p.0) (down q n n r.child (here n)))
    | inr p ↦ inl (under_q e (rest_child e (subst (λ z. 1 ≤ occurs z e) (sym p.1) (occurs_here e []))))
  ]

  group_mine : IsMine f q x
  group_mine = elim r.group [
    | inl p ↦ inl (under_q x (member_child x (subst (λ z. 1 ≤ occurs z x) (sym p.1) (occurs_here x []))))
    | inr p ↦ inr p.1
  ]

  rest_under : (k : ℕ) → 1 ≤ occurs rest k → IsAtOrAbove g.slots q k
  rest_under k o = elim r.left [
    | inl p ↦ down q n k (subst (λ z. 1 ≤ occurs (children_at g q) z) p.0 r.rest_in) (down n k k (subst (λ z. 1 ≤ occurs z k) (sym p.2) o) (here k))
    | inr p ↦ subst (λ z. IsAtOrAbove g.slots q z) (sym (only_one k e (subst (λ z. 1 ≤ occurs z k) p.1 o))) (down q e e r.rest_in (here e))
  ]

  members_under : (k : ℕ) → 1 ≤ occurs members k → IsAtOrAbove g.slots q k
  members_under k o = elim r.group [
    | inl p ↦ subst (λ z. IsAtOrAbove g.slots q z) (sym (only_one k x (subst (λ z. 1 ≤ occurs z k) p.1 o))) (down q x x r.group_in (here x))
    | inr p ↦ down q x k r.group_in (down x k k (subst (λ z. 1 ≤ z) (sym (p.3 k)) o) (here k))
  ]

  q_written : IsWritten f g q q ts q
  q_written = record {
    mine = inl (here q);
    closed = λ j o. inl refl;
    no_leaf = λ b i. (let z : Some Q ≡ Some (Leaf b) = sym r.is_q ∙ i in cc);
    two = λ s. r.two;
    down = λ k o u. elim (cases_eq k n) [
      | inl i ↦ elim r.left [
        | inl p ↦ subst (λ z. IsAtOrAbove g.slots q z) (p.0 ∙ sym i) (down q e e r.rest_in (here e))
        | inr p ↦ absurd (u (ap (shape_at g) i ∙ p.0))
      ]
      | inr ne ↦ down q k k (r.stay k ne o) (here k)
    ];
    up = λ k o. elim (r.come k o) [
      | inl i ↦ subst (λ z. IsMine f q z) (sym i) part_mine
      | inr p ↦ elim p [
        | inl i ↦ subst (λ z. IsMine f q z) (sym i) group_mine
        | inr c ↦ inl (down q k k c (here k))
      ]
    ];
    all = λ u. here q;
  }

  node_written : IsWritten f g q q ts n
  node_written = record {
    mine = inl (down q n n r.child (here n));
    closed = λ j o. inr (subst (λ z. 1 ≤ occurs ts z) (one_parent f q j n r.before r.child o) (occurs_here q (n ∷ fresh)));
    no_leaf = λ b i. (let z : Some P ≡ Some (Leaf b) = sym r.is_p ∙ i in cc);
    two = λ s. elim r.left [
      | inl p ↦ subst (λ z. 2 ≤ length z) (sym p.2) p.3
      | inr p ↦ absurd (elim s [ inl i ↦ (let z : None ≡ Some P = sym p.0 ∙ i in cc) | inr i ↦ (let z : None ≡ Some Q = sym p.0 ∙ i in cc) ])
    ];
    down = λ k o u. elim (cases_lt 0 (occurs rest k)) [
      | inl l ↦ rest_under k l
      | inr l ↦ members_under k (omega (arith, r.all k))
    ];
    up = λ k o. elim r.left [
      | inl p ↦ inl (under_q k (rest_child k (subst (λ z. 1 ≤ occurs z k) p.2 o)))
      | inr p ↦ absurd (none_child g n k r.after p.0 o)
    ];
    all = λ u. elim r.left [
      | inl p ↦ subst (λ z. IsAtOrAbove g.slots q z) p.0 (down q e e r.rest_in (here e))
      | inr p ↦ absurd (u p.0)
    ];
  }

  group_written : shape_at f x ≡ None → ((k : ℕ) → occurs (children_at g x) k ≡ occurs members k) → 2 ≤ length members → IsWritten f g q q ts x
  group_written none same many = record {
    mine = inr none;
    closed = λ j o. absurd (child_used f j x r.before o none);
    no_leaf = λ b i. (let z : None ≡ Some (Leaf b) = sym none ∙ i in cc);
    two = λ s. omega (arith, same_length (children_at g x) members same);
    down = λ k o u. absurd (none_child f x k r.before none o);
    up = λ k o. inl (under_q k (member_child k (subst (λ z. 1 ≤ z) (same k) o)));
    all = λ u. down q x x r.group_in (here x);
  }

  fresh_written : Each (IsWritten f g q q ts) fresh
  fresh_written = elim r.group [
    | inl p ↦ subst (λ zs. Each (IsWritten f g q q ts) zs) (sym p.0) tt
    | inr p ↦ subst (λ zs. Each (IsWritten f g q q ts) zs) (sym p.0) (group_written p.1 p.3 p.4, tt)
  ]

  halved_rebuilt : IsRebuilt f g q q ts
  halved_rebuilt = record {
    before = r.before;
    after = r.after;
    columns = r.columns;
    root = r.root ∙ root_kept f.root q;
    used = used_by f q Q r.is_q;
    answer = used_by g q Q r.still_q;
    n_in = occurs_here q (n ∷ fresh);
    a_in = occurs_here q (n ∷ fresh);
    shapes = r.shapes;
    children = λ m z. r.children m z ∙ sym (replaced_self (children_at f m) q);
    written = (q_written, (node_written, fresh_written));
  }

  -- another node in use was not written
  not_written : (k : ℕ) → IsInUse f k → k ≢ q → k ≢ n → occurs ts k ≡ 0
  not_written k u nq nn = occurs_other q k (n ∷ fresh) nq ∙ occurs_other n k fresh nn ∙ elim r.group [
    | inl p ↦ ap (λ zs. occurs zs k) p.0
    | inr p ↦ ap (λ zs. occurs zs k) p.0 ∙ occurs_other x k [] (λ i. u (ap (shape_at f) i ∙ p.1))
  ]

  child_kept : (k : ℕ) → 1 ≤ occurs (children_at f n) k → outline_below g k ≡ outline_below f k
  child_kept k o = tree_kept f g q q ts halved_rebuilt k (child_used f n k r.before o) (under_q k o) (not_written k (child_used f n k r.before o)
      (λ i. no_circle f.slots q n (r.before.grounds q) r.child (subst (λ z. IsAtOrAbove f.slots n z) i (down n k k o (here k))))
      (λ i. no_circle f.slots n k (r.before.grounds n) o (subst (λ z. IsAtOrAbove f.slots k z) i (here k))))

  rest_stands : (xs : List ℕ) → ((k : ℕ) → occurs xs k ≡ occurs rest k) → AreEquivalent (star (forest (map (outline_below f) xs))) (outline_below g e ∷ [])
  rest_stands xs same = one_stands g e (outline_below f) xs rest r.after (elim r.left [
    | inl p ↦ inr (subst (λ z. shape_at g z ≡ Some P) (sym p.0) p.1, λ k. ap (λ zs. occurs zs k) (ap (children_at g) p.0 ∙ p.2), p.3)
    | inr p ↦ inl p.1
  ]) same (λ k o. child_kept k (rest_child k o))

  group_stands : (xs : List ℕ) → ((k : ℕ) → occurs xs k ≡ occurs members k) → AreEquivalent (star (forest (map (outline_below f) xs))) (outline_below g x ∷ [])
  group_stands xs same = one_stands g x (outline_below f) xs members r.after (elim r.group [
    | inl p ↦ inl p.1
    | inr p ↦ inr (p.2, p.3, p.4)
  ]) same (λ k o. child_kept k (member_child k o))

  -- all that is known of a node that was divided
  pub divided : AreSome f n members → IsOneTree f → HasTwoEach f → (list : ℕ → ℕ → List ℕ) → children_at g q ≡ list e x → IsDivided f g q n members list
  divided m one two list is = record {
    rest = e;
    group = x;
    replaced = replaced_at f g q q ts halved_rebuilt one two;
    is_q = r.still_q;
    children = is;
    trees = λ es fs s.
        let ks : List ℕ = children_at f n in
        let w = sorted_members f n members r.before m es fs s in (
          subst (λ ys. AreEquivalent (star ys) (outline_below g e ∷ [])) (sym w.0) (rest_stands (empty_nodes (marks f n members r.before m) ks)
              (λ k. omega (arith, rest_members f n members r.before m k, r.all k))),
          subst (λ ys. AreEquivalent (star ys) (outline_below g x ∷ [])) (sym w.1) (group_stands (full_nodes (marks f n members r.before m) ks)
              (λ k. sym (all_members f n members r.before m k))),
        );
    kept = λ k j o ne l.
        let u : IsInUse f k = child_used f q k r.before o in
        let z : occurs ts k ≡ 0 = not_written k u (λ i. no_circle f.slots q k (r.before.grounds q) o (subst (λ y. IsAtOrAbove f.slots k y) i (here k))) ne in
        let y : occurs ts j ≡ 0 = deep f g q q ts halved_rebuilt k j l (down q k k o (here k)) z in
        (r.shapes j y, r.children j y);
  }
