-- The steps by which a P-node becomes two children of its Q-node: a new Q-node takes its place, over what is left of it and the
-- node that its members became, and these are put in the place of the new one.
use Rattle.std.proofs.Common.{◌≡◌, ◌≢◌, ◌⊎◌, inl, inr, ℕ, ◌+◌, ◌≤◌, ◌<◌, cond, get_or, reverse, List, [], ◌∷◌, ◌++◌, length, Some, None, refl, sym, ap, subst, ◌∙◌, arith, length-append, append_assoc}
use Rattle.std.proofs.lemmas.Bool.{cases_eq, cases_lt, ne_eqb}
use Rattle.std.proofs.lemmas.List.{get_or-set_other, get_or-set_same, length-set}
use Rattle.column_order.specs.Orders.{occurs}
use Rattle.column_order.proofs.Lists.{occurs-append}
use Rattle.arena_model.specs.declared.Shape.TheVariants.{P, Q}
use Rattle.arena_model.specs.ChildLists.{head_or, last_or, none, without, with_replaced, all_but_first, put_on, oriented}
use Rattle.arena_model.specs.Layout.{Layout, spare_slot, slot, shape_at, children_at, times_child, with_children, taken, spliced, IsAtOrAbove, here, down, IsLayout, IsInUse, StandsAlone, MayHaveChildren, IsSpliceAt}
use Rattle.arena_model.specs.NamedTree.{IsOneTree, HasTwoEach}
use Rattle.arena_model.proofs.Lists.{occurs_here, occurs_other, only_one, last_or-append, replaced_split}
use Rattle.arena_model.proofs.Slots.{some_none, in_range, used_by, not_none, children_same, children_other, shape_same, children_times, parent_used, child_used, child_at, placed_in}
use Rattle.arena_model.proofs.Bare.{bare_children, bare_shape, bare_other, fresh}
use Rattle.arena_model.proofs.Paths.{above_step, one_parent, above_kept, other_top}
use Rattle.arena_model.proofs.Outlines.{first_step}
use Rattle.arena_model.proofs.Trees.{no_circle}
use Rattle.pq_arena.specs.declared.node.NodeId.{NodeId}
use Rattle.pq_arena.specs.Looks.{node_named, IsBeside}
use Rattle.pq_arena.specs.RowNodes.{indices}
use Rattle.template_model.proofs.Replaced.{replaced_has}
use Rattle.template_model.proofs.Spare.{five_spare}
use Rattle.templates_p.specs.Dividing.{AreSome, IsDivided, IsPartedOff, IsOneLeft}
use Rattle.templates_p.specs.Steps.{Moved, without_all, onto}
use Rattle.templates_p.proofs.Rebuilt.{replaced_has as replaced_new, none_child}
use Rattle.templates_p.proofs.Framing.{same_length}
use Rattle.templates_p.proofs.Moving.{IsLoose, loose, all_kept, all_gone, onto_has, spare_head}
use Rattle.templates_p.proofs.Chaining.{child_once}
use Rattle.templates_p.proofs.Handing.{gone_replaced}
use Rattle.templates_p.proofs.Lifting.{IsLeftAlone, way_apart, left_alone}
use Rattle.templates_p.proofs.Halving.{IsHalved, divided}

-- the members have moved to a new node
pub moved_off : (f g : Layout) (n x : ℕ) (ms : List ℕ) → 2 ≤ length ms → Moved f g n x ms → (fresh : List ℕ) × IsPartedOff f g n x ms fresh
moved_off f g n x ms two m = (
  x ∷ [],
  record {
    columns = m.columns;
    root = m.root;
    node_shape = m.node_shape;
    node_children = m.node_children;
    alone = m.alone;
    others = λ k a z. m.others k a (λ e. let o : 1 ≤ occurs (x ∷ []) k = subst (λ y. 1 ≤ occurs (x ∷ []) y) (sym e) (occurs_here x []) in omega arith);
    group = inr (refl, m.fresh, m.group_shape, m.group_children, two);
  },
)

-- the only member was taken
pub one_off : (f g : Layout) (n x : ℕ) (ms : List ℕ) → IsLayout f → AreSome f n ms → ms ≡ x ∷ [] →
    ((p : ℕ) → shape_at f p ≡ Some P → 1 ≤ occurs (children_at f p) x → g ≡ with_children f p (without (children_at f p) x)) → (fresh : List ℕ) × IsPartedOff f g n x ms fresh
one_off f g n x ms h m e changed =
    let ks : List ℕ = without (children_at f n) x in
    let lt : n < length f.slots = in_range f n (used_by f n P m.is_p) in
    let o : 1 ≤ occurs (children_at f n) x = m.child x (subst (λ ys. 1 ≤ occurs ys x) (sym e) (occurs_here x [])) in
    let free : IsLoose f n x = loose f n x h m.is_p o in (
      [],
      subst (λ z. IsPartedOff f z n x ms []) (sym (changed n m.is_p o)) (record {
        columns = refl;
        root = refl;
        node_shape = shape_same f n n ks lt ∙ m.is_p;
        node_children = children_same f n ks lt ∙ ap (without_all (children_at f n)) (sym e);
        alone = free.alone;
        others = λ k a z. get_or-set_other f.slots n k _ spare_slot a;
        group = inl (refl, e);
      }),
    )

-- the members by their numbers
pub many_members : (ms : List NodeId) → 1 < length ms → 2 ≤ length (indices ms)
many_members [] l = absurd (omega arith)
many_members (y ∷ []) l = absurd (omega arith)
many_members (y ∷ z ∷ ms) l = omega arith

pub one_member : (ms : List NodeId) (d : NodeId) → 1 ≤ length (indices ms) → length ms ≤ 1 → indices ms ≡ (get_or ms 0 d).index ∷ []
one_member [] d l k = absurd (omega arith)
one_member (y ∷ []) d l k = refl
one_member (y ∷ z ∷ ms) d l k = absurd (omega arith)

-- what is asked of the arena: the Q-node q has the P-node n as a child, of which the members ms are some children, and l is spare
pub record CanOpen (f : Layout) (q n l : ℕ) (ms : List ℕ) : Type 0 where
  pub before : IsLayout f
  pub below : IsAtOrAbove f.slots f.root q
  pub is_q : shape_at f q ≡ Some Q
  pub child : 1 ≤ occurs (children_at f q) n
  pub some : AreSome f n ms
  pub free : shape_at f l ≡ None
  pub room : l < length f.slots

pub can_open : (f : Layout) (q n l : ℕ) (ms : List ℕ) → IsLayout f → IsOneTree f → HasTwoEach f → AreSome f n ms → shape_at f q ≡ Some Q → 1 ≤ occurs (children_at f q) n →
    l ≡ head_or f.spares none → CanOpen f q n l ms
can_open f q n l ms h one two m is_q o e =
    let ys : List ℕ = all_but_first f.spares in
    let new = fresh f l ys h (spare_head f.spares (omega (arith, five_spare f h one two)) ∙ ap (λ z. z ∷ ys) (sym e)) in
    record { before = h; below = one q (used_by f q Q is_q); is_q = is_q; child = o; some = m; free = new.0; room = new.1 }

-- what parting off the members asks for, once l was taken
pub record CanPartOff (f : Layout) (n : ℕ) (ms : List ℕ) : Type 0 where
  pub some : AreSome f n ms
  pub above : IsAtOrAbove f.slots f.root n
  pub spare : 1 ≤ length f.spares

one_fewer : (xs : List ℕ) → 5 ≤ length xs → 1 ≤ length (all_but_first xs)
one_fewer [] l = absurd (omega arith)
one_fewer (x ∷ xs) l = omega arith

pub can_part : (f g : Layout) (q n l : ℕ) (ms : List ℕ) → CanOpen f q n l ms → IsOneTree f → HasTwoEach f → g ≡ taken f l Q → CanPartOff g n ms
can_part f g q n l ms c one two e =
    let ys : List ℕ = all_but_first f.spares in
    let bare : children_at f l ≡ [] = subst (λ s. MayHaveChildren s (children_at f l)) c.free (c.before.children_fit l) in
    let same : (m : ℕ) → children_at (taken f l Q) m ≡ children_at f m = (λ m. bare_children f l m (Some Q) ys c.room bare) in
    let ne : n ≢ l = (λ i. some_none P (sym c.some.is_p ∙ ap (shape_at f) i ∙ c.free)) in
    subst (λ z. CanPartOff z n ms) (sym e) (record {
      some = record {
        is_p = bare_other f l n (Some Q) ys ne ∙ c.some.is_p;
        once = c.some.once;
        child = λ k o. subst (λ z. 1 ≤ occurs z k) (sym (same n)) (c.some.child k o);
        some = c.some.some;
        not_all = subst (λ z. length ms < length z) (sym (same n)) c.some.not_all;
      };
      above = above_kept f.slots (taken f l Q).slots n (λ m k d o. subst (λ z. 1 ≤ occurs z k) (sym (same m)) o) f.root (above_step f.slots f.root q n c.below c.child);
      spare = one_fewer f.spares (five_spare f c.before one two);
    })

-- no node has x as a child
pub top_from : (g : Layout) (x : ℕ) → ((m : ℕ) → 1 ≤ occurs (children_at g m) x → ⊥) → times_child g.slots x ≡ 0
top_from g x none_has = elim (cases_lt 0 (times_child g.slots x)) [
  | inl o ↦ let p = placed_in g.slots x o in absurd (none_has p.0 p.1)
  | inr o ↦ omega arith
]

pub no_child : (g : Layout) (m x : ℕ) → times_child g.slots x ≡ 0 → 1 ≤ occurs (children_at g m) x → ⊥
no_child g m x top o = let a : occurs (children_at g m) x ≤ times_child g.slots x = children_times g m x in omega arith

-- what putting l in the place of n asks for
pub record IsReadyToHang (h : Layout) (n l : ℕ) : Type 0 where
  pub alone : StandsAlone h l
  pub no_way : IsAtOrAbove h.slots l n → ⊥

-- what making one node of what is left of n asks for
pub record IsReadyToLeave (g : Layout) (n : ℕ) : Type 0 where
  pub alone : StandsAlone g n
  pub is_p : shape_at g n ≡ Some P
  pub some : 1 ≤ length (children_at g n)

-- The Q-node l stands in the place of n over the nodes of `line`, some of the two nodes e and x: what is left of n, and what its
-- members became. Those that are not in it yet stand alone.
pub record IsOpened (f g : Layout) (q n l e x : ℕ) (rest ms fresh line : List ℕ) : Type 0 where
  pub after : IsLayout g
  pub columns : g.columns ≡ f.columns
  pub root : g.root ≡ f.root
  pub q_shape : shape_at g q ≡ Some Q
  pub q_children : children_at g q ≡ with_replaced (children_at f q) n l
  pub line_shape : shape_at g l ≡ Some Q
  pub line_children : children_at g l ≡ line
  pub over : IsAtOrAbove g.slots g.root l
  pub shapes : (m : ℕ) → m ≢ l → occurs (q ∷ n ∷ fresh) m ≡ 0 → shape_at g m ≡ shape_at f m
  pub children : (m : ℕ) → m ≢ l → occurs (q ∷ n ∷ fresh) m ≡ 0 → children_at g m ≡ children_at f m
  pub left : ((e ≡ n) × (shape_at g n ≡ Some P) × (children_at g n ≡ rest) × (2 ≤ length rest)) ⊎ ((shape_at g n ≡ None) × (rest ≡ e ∷ []))
  pub group : ((fresh ≡ []) × (ms ≡ x ∷ []))
      ⊎ ((fresh ≡ x ∷ []) × (shape_at f x ≡ None) × (shape_at g x ≡ Some P) × ((k : ℕ) → occurs (children_at g x) k ≡ occurs ms k) × (2 ≤ length ms))
  pub all : (k : ℕ) → occurs (children_at f n) k ≡ occurs rest k + occurs ms k
  pub away : (q ≢ l) × (n ≢ l) × (x ≢ l)
  pub apart : e ≢ x
  pub alone : (y : ℕ) → (y ≡ e) ⊎ (y ≡ x) → occurs line y ≡ 0 → StandsAlone g y

module _ (f h : Layout) (q n l x : ℕ) (ms fresh : List ℕ) (c : CanOpen f q n l ms) (lh : IsLayout h) (d : IsPartedOff (taken f l Q) h n x ms fresh) where
  bare_line : children_at f l ≡ []
  bare_line = subst (λ s. MayHaveChildren s (children_at f l)) c.free (c.before.children_fit l)

  old_children : (m : ℕ) → children_at (taken f l Q) m ≡ children_at f m
  old_children m = bare_children f l m (Some Q) (all_but_first f.spares) c.room bare_line

  old_line : shape_at (taken f l Q) l ≡ Some Q
  old_line = bare_shape f l (Some Q) (all_but_first f.spares) c.room

  old_shape : (m : ℕ) → m ≢ l → shape_at (taken f l Q) m ≡ shape_at f m
  old_shape m ne = bare_other f l m (Some Q) (all_but_first f.spares) ne

  used_apart : (m : ℕ) → IsInUse f m → m ≢ l
  used_apart m u e = u (ap (shape_at f) e ∙ c.free)

  n_used : IsInUse f n
  n_used = used_by f n P c.some.is_p

  q_used : IsInUse f q
  q_used = used_by f q Q c.is_q

  n_l : n ≢ l
  n_l = used_apart n n_used

  q_l : q ≢ l
  q_l = used_apart q q_used

  q_n : q ≢ n
  q_n e = no_circle f.slots q n (c.before.grounds q) c.child (subst (λ z. IsAtOrAbove f.slots n z) (sym e) (here n))

  -- the node x is another one than l, also where it is new
  x_l : x ≢ l
  x_l = elim d.group [
    | inl p ↦ used_apart x (child_used f n x c.before (c.some.child x (subst (λ z. 1 ≤ occurs z x) (sym p.1) (occurs_here x []))))
    | inr p ↦ λ e. some_none Q (sym old_line ∙ ap (shape_at (taken f l Q)) (sym e) ∙ p.1)
  ]

  fresh_x : (m : ℕ) → 1 ≤ occurs fresh m → (m ≡ x) × (shape_at f m ≡ None)
  fresh_x m o = elim d.group [
    | inl p ↦ absurd (let z : 1 ≤ occurs [] m = subst (λ zs. 1 ≤ occurs zs m) p.0 o in omega arith)
    | inr p ↦ let e : m ≡ x = only_one m x (subst (λ zs. 1 ≤ occurs zs m) p.0 o) in (e, ap (shape_at f) e ∙ sym (old_shape x x_l) ∙ p.1)
  ]

  used_old : (m : ℕ) → IsInUse f m → occurs fresh m ≡ 0
  used_old m u = elim (cases_lt 0 (occurs fresh m)) [ inl o ↦ absurd (u (fresh_x m o).1) | inr o ↦ omega arith ]

  line_old : occurs fresh l ≡ 0
  line_old = elim (cases_lt 0 (occurs fresh l)) [ inl o ↦ absurd (x_l (sym (fresh_x l o).0)) | inr o ↦ omega arith ]

  same_slot : (m : ℕ) → m ≢ n → m ≢ l → occurs fresh m ≡ 0 → slot h.slots m ≡ slot f.slots m
  same_slot m a b z = d.others m a z ∙ get_or-set_other f.slots l m _ spare_slot b

  line_shape : shape_at h l ≡ Some Q
  line_shape = ap (λ s. s.shape) (d.others l (λ e. n_l (sym e)) line_old) ∙ old_line

  line_bare : children_at h l ≡ []
  line_bare = ap (λ s. s.children) (d.others l (λ e. n_l (sym e)) line_old) ∙ old_children l ∙ bare_line

  abbrev rest_of : List ℕ
  rest_of = without_all (children_at f n) ms

  node_left : children_at h n ≡ rest_of
  node_left = d.node_children ∙ ap (λ ks. without_all ks ms) (old_children n)

  q_same : slot h.slots q ≡ slot f.slots q
  q_same = same_slot q q_n q_l (used_old q q_used)

  node_in : 1 ≤ occurs (children_at h q) n
  node_in = subst (λ s. 1 ≤ occurs s.children n) (sym q_same) c.child

  -- each child of n is a member or another one
  each : (k : ℕ) → occurs (children_at f n) k ≡ occurs rest_of k + occurs ms k
  each k =
      let once : occurs ms k ≤ 1 = c.some.once k in
      let most : occurs (children_at f n) k ≤ 1 = child_once f n k c.before in
      elim (cases_lt 0 (occurs ms k)) [
        | inl o ↦ let i : 1 ≤ occurs (children_at f n) k = c.some.child k o in omega (arith, all_gone (children_at f n) ms k o)
        | inr o ↦ let z : occurs ms k ≡ 0 = omega arith in omega (arith, all_kept (children_at f n) ms k z)
      ]

  some_rest : 1 ≤ length rest_of
  some_rest = omega (arith, same_length (children_at f n) (rest_of ++ ms) (λ k. each k ∙ sym (occurs-append rest_of ms k)), length-append rest_of ms, c.some.not_all)

  -- a child in h is a node that was in use
  was_used : (m k : ℕ) → 1 ≤ occurs (children_at h m) k → IsInUse f k
  was_used m k o = elim (cases_eq m n) [
    | inl i ↦ child_used f n k c.before (let z : 1 ≤ occurs rest_of k = subst (λ ys. 1 ≤ occurs ys k) (ap (children_at h) i ∙ node_left) o in omega (arith, each k))
    | inr a ↦ elim (cases_eq m l) [
      | inl i ↦ absurd (let z : 1 ≤ occurs [] k = subst (λ ys. 1 ≤ occurs ys k) (ap (children_at h) i ∙ line_bare) o in omega arith)
      | inr b ↦ elim (cases_lt 0 (occurs fresh m)) [
        | inl w ↦ elim d.group [
          | inl p ↦ absurd (let z : 1 ≤ occurs [] m = subst (λ zs. 1 ≤ occurs zs m) p.0 w in omega arith)
          | inr p ↦ child_used f n k c.before (c.some.child k (let z : 1 ≤ occurs (onto ms []) k = subst (λ ys. 1 ≤ occurs ys k) (ap (children_at h) (fresh_x m w).0 ∙ p.3) o in omega (arith, onto_has ms [] k)))
        ]
        | inr w ↦ child_used f m k c.before (subst (λ s. 1 ≤ occurs s.children k) (same_slot m a b (omega arith)) o)
      ]
    ]
  ]

  pub ready_to_hang : IsReadyToHang h n l
  ready_to_hang = record {
    alone = record {
      used = used_by h l Q line_shape;
      apart = top_from h l (λ m o. was_used m l o c.free);
      other = λ e. c.before.root_used (ap (shape_at f) (sym (e ∙ d.root)) ∙ c.free);
    };
    no_way = λ w. elim (first_step h.slots l n w) [
      | inl e ↦ n_l e
      | inr p ↦ let z : 1 ≤ occurs [] p.0 = subst (λ ys. 1 ≤ occurs ys p.0) line_bare p.1 in absurd (omega arith)
    ];
  }

  -- l was put in the place of n
  module _ (g : Layout) (lg : IsLayout g) (hung : (p : ℕ) → 1 ≤ occurs (children_at h p) n → g ≡ with_children h p (with_replaced (children_at h p) n l)) where
    q_room : q < length h.slots
    q_room = in_range h q (used_by h q Q (ap (λ s. s.shape) q_same ∙ c.is_q))

    hung_q : children_at g q ≡ with_replaced (children_at f q) n l
    hung_q = ap (λ z. children_at z q) (hung q node_in) ∙ children_same h q (with_replaced (children_at h q) n l) q_room ∙ ap (λ s. with_replaced s.children n l) q_same

    hung_other : (m : ℕ) → m ≢ q → children_at g m ≡ children_at h m
    hung_other m ne = ap (λ z. children_at z m) (hung q node_in) ∙ children_other h q m (with_replaced (children_at h q) n l) ne

    hung_shape : (m : ℕ) → shape_at g m ≡ shape_at h m
    hung_shape m = ap (λ z. shape_at z m) (hung q node_in) ∙ shape_same h q m (with_replaced (children_at h q) n l) q_room

    hung_root : g.root ≡ h.root
    hung_root = ap (λ z. z.root) (hung q node_in)

    hung_columns : g.columns ≡ h.columns
    hung_columns = ap (λ z. z.columns) (hung q node_in)

    node_is_p : shape_at g n ≡ Some P
    node_is_p = hung_shape n ∙ d.node_shape

    node_rest : children_at g n ≡ rest_of
    node_rest = hung_other n (λ e. q_n (sym e)) ∙ node_left

    node_alone : StandsAlone g n
    node_alone = record {
      used = used_by g n P node_is_p;
      apart = top_from g n (λ m o. elim (cases_eq m q) [
        | inl e ↦ let z : 1 ≤ occurs (with_replaced (children_at f q) n l) n = subst (λ ys. 1 ≤ occurs ys n) (ap (children_at g) e ∙ hung_q) o in omega (arith, gone_replaced (children_at f q) n l n_l)
        | inr ne ↦ ne (one_parent h m q n lh (subst (λ ys. 1 ≤ occurs ys n) (hung_other m ne) o) node_in)
      ]);
      other = λ e. no_child h q h.root lh.root_top (subst (λ z. 1 ≤ occurs (children_at h q) z) (e ∙ hung_root) node_in);
    }

    x_alone : StandsAlone g x
    x_alone = record {
      used = λ z. d.alone.used (sym (hung_shape x) ∙ z);
      apart = top_from g x (λ m o. elim (cases_eq m q) [
        | inl e ↦ elim (replaced_has (children_at f q) n l x (subst (λ ys. 1 ≤ occurs ys x) (ap (children_at g) e ∙ hung_q) o)) [
          | inl p ↦ x_l p.0
          | inr p ↦ no_child h q x d.alone.apart (subst (λ s. 1 ≤ occurs s.children x) (sym q_same) p.0)
        ]
        | inr ne ↦ no_child h m x d.alone.apart (subst (λ ys. 1 ≤ occurs ys x) (hung_other m ne) o)
      ]);
      other = λ e. d.alone.other (e ∙ hung_root);
    }

    pub ready_to_leave : IsReadyToLeave g n
    ready_to_leave = record { alone = node_alone; is_p = node_is_p; some = subst (λ ys. 1 ≤ length ys) (sym node_rest) some_rest }

    -- the way from the root to l
    to_q : (m : ℕ) → IsAtOrAbove f.slots m q → IsAtOrAbove g.slots m q
    to_q _ (here m) = here m
    to_q _ (down m k j i w) =
        let a : m ≢ q = (λ e. no_circle f.slots m k (c.before.grounds m) i (subst (λ z. IsAtOrAbove f.slots k z) (sym e) w)) in
        let b : m ≢ n = (λ e. no_circle f.slots q n (c.before.grounds q) c.child (subst (λ z. IsAtOrAbove f.slots z q) e (down m k q i w))) in
        let u : IsInUse f m = parent_used f m k i c.before in
        down m k q (subst (λ ys. 1 ≤ occurs ys k) (sym (hung_other m a ∙ ap (λ s. s.children) (same_slot m b (used_apart m u) (used_old m u)))) i) (to_q k w)

    to_line : IsAtOrAbove g.slots g.root l
    to_line = subst (λ z. IsAtOrAbove g.slots z l) (sym (hung_root ∙ d.root))
        (above_step g.slots f.root q l (to_q f.root c.below) (subst (λ ys. 1 ≤ occurs ys l) (sym hung_q) (replaced_new (children_at f q) n l c.child)))

    module _ (i : Layout) (e : ℕ) (li : IsLayout i) (a : IsLeftAlone g i n e) where
      part_apart : e ≢ x
      part_apart z = elim a.part [
        | inl p ↦ no_child h q x d.alone.apart (subst (λ y. 1 ≤ occurs (children_at h q) y) (sym p.0 ∙ z) node_in)
        | inr p ↦ no_child g n x x_alone.apart (subst (λ y. 1 ≤ occurs (children_at g n) y) z (subst (λ ys. 1 ≤ occurs ys e) (sym p.1) (occurs_here e [])))
      ]

      still_alone : StandsAlone i x
      still_alone = record {
        used = λ z. x_alone.used (sym (a.shapes x x_n) ∙ z);
        apart = top_from i x (λ m o. elim (cases_eq m n) [
          | inl q' ↦ elim a.part [
            | inl p ↦ no_child g n x x_alone.apart (subst (λ ys. 1 ≤ occurs ys x) (ap (children_at i) q' ∙ p.2) o)
            | inr p ↦ none_child i n x li p.0 (subst (λ y. 1 ≤ occurs (children_at i y) x) q' o)
          ]
          | inr ne ↦ no_child g m x x_alone.apart (subst (λ ys. 1 ≤ occurs ys x) (a.children m ne) o)
        ]);
        other = λ z. x_alone.other (z ∙ a.root);
      }
        where
          x_n : x ≢ n
          x_n z = no_child h q x d.alone.apart (subst (λ y. 1 ≤ occurs (children_at h q) y) (sym z) node_in)

      three_kinds : (m : ℕ) → occurs (q ∷ n ∷ fresh) m ≡ 0 → (m ≢ q) × (m ≢ n) × (occurs fresh m ≡ 0)
      three_kinds m z = (
        λ k. let o : 1 ≤ occurs (q ∷ n ∷ fresh) m = subst (λ y. 1 ≤ occurs (q ∷ n ∷ fresh) y) (sym k) (occurs_here q (n ∷ fresh)) in omega arith,
        λ k. let o : 1 ≤ occurs (n ∷ fresh) m = subst (λ y. 1 ≤ occurs (n ∷ fresh) y) (sym k) (occurs_here n fresh) in omega arith,
        omega arith,
      )

      part_is : ((e ≡ n) × (shape_at i n ≡ Some P) × (children_at i n ≡ rest_of) × (2 ≤ length rest_of)) ⊎ ((shape_at i n ≡ None) × (rest_of ≡ e ∷ []))
      part_is = elim a.part [
        | inl p ↦ inl (p.0, p.1, p.2 ∙ node_rest, subst (λ ys. 2 ≤ length ys) node_rest p.3)
        | inr p ↦ inr (p.0, sym node_rest ∙ p.1)
      ]

      pub opened : IsOpened f i q n l e x rest_of ms fresh []
      opened = record {
        after = li;
        columns = a.columns ∙ hung_columns ∙ d.columns;
        root = a.root ∙ hung_root ∙ d.root;
        q_shape = a.shapes q q_n ∙ hung_shape q ∙ ap (λ s. s.shape) q_same ∙ c.is_q;
        q_children = a.children q q_n ∙ hung_q;
        line_shape = a.shapes l (λ z. n_l (sym z)) ∙ hung_shape l ∙ line_shape;
        line_children = a.children l (λ z. n_l (sym z)) ∙ hung_other l (λ z. q_l (sym z)) ∙ line_bare;
        over = subst (λ z. IsAtOrAbove i.slots z l) (sym a.root) (way_apart g i n g.root l node_alone.apart a.children (λ z. node_alone.other (sym z)) to_line);
        shapes = λ m b z. let t = three_kinds m z in a.shapes m t.1 ∙ hung_shape m ∙ ap (λ s. s.shape) (same_slot m t.1 b t.2);
        children = λ m b z. let t = three_kinds m z in a.children m t.1 ∙ hung_other m t.0 ∙ ap (λ s. s.children) (same_slot m t.1 b t.2);
        left = part_is;
        group = elim d.group [
          | inl p ↦ inl p
          | inr p ↦
              let ne : x ≢ n = (λ z. some_none P (sym c.some.is_p ∙ ap (shape_at f) (sym z) ∙ sym (old_shape x x_l) ∙ p.1)) in
              let nq : x ≢ q = (λ z. some_none Q (sym c.is_q ∙ ap (shape_at f) (sym z) ∙ sym (old_shape x x_l) ∙ p.1)) in
              inr (
                p.0,
                sym (old_shape x x_l) ∙ p.1,
                a.shapes x ne ∙ hung_shape x ∙ p.2,
                λ k. ap (λ ys. occurs ys k) (a.children x ne ∙ hung_other x nq ∙ p.3) ∙ (let z : occurs (onto ms []) k ≡ occurs ms k + 0 = onto_has ms [] k in omega arith),
                p.4,
              )
        ];
        all = each;
        away = (q_l, n_l, x_l);
        apart = part_apart;
        alone = λ y k z. elim k [
          | inl p ↦ subst (λ v. StandsAlone i v) (sym p) a.alone
          | inr p ↦ subst (λ v. StandsAlone i v) (sym p) still_alone
        ];
      }

-- what putting e or x at the end of l asks for
pub record IsReadyToJoin (g : Layout) (l y : ℕ) : Type 0 where
  pub shape : shape_at g l ≡ Some Q
  pub alone : StandsAlone g y
  pub no_way : IsAtOrAbove g.slots y l → ⊥

pub ready_to_join : (f g : Layout) (q n l e x : ℕ) (rest ms fresh line : List ℕ) (y : ℕ) → IsOpened f g q n l e x rest ms fresh line → (y ≡ e) ⊎ (y ≡ x) → occurs line y ≡ 0 → IsReadyToJoin g l y
ready_to_join f g q n l e x rest ms fresh line y s k z =
    let alone : StandsAlone g y = s.alone y k z in
    record { shape = s.line_shape; alone = alone; no_way = other_top g g.root y l s.after s.after.root_top alone.apart (λ i. alone.other (sym i)) s.over }

-- it was put there
pub joined : (f g z : Layout) (q n l e x : ℕ) (rest ms fresh line : List ℕ) (y : ℕ) → IsOpened f g q n l e x rest ms fresh line → IsLayout z →
    z ≡ with_children g l (put_on 1 y (children_at g l)) → IsOpened f z q n l e x rest ms fresh (line ++ y ∷ [])
joined f g z q n l e x rest ms fresh line y s lz is =
    let js : List ℕ = children_at g l ++ y ∷ [] in
    let g1 : Layout = with_children g l js in
    let lt : l < length g.slots = in_range g l (used_by g l Q s.line_shape) in
    let shape : (m : ℕ) → shape_at g1 m ≡ shape_at g m = (λ m. shape_same g l m js lt) in
    let other : (m : ℕ) → m ≢ l → children_at g1 m ≡ children_at g m = (λ m ne. children_other g l m js ne) in
    let new : children_at g1 l ≡ line ++ y ∷ [] = children_same g l js lt ∙ ap (λ ys. ys ++ y ∷ []) s.line_children in
    subst (λ v. IsOpened f v q n l e x rest ms fresh (line ++ y ∷ [])) (sym is) (record {
      after = subst IsLayout is lz;
      columns = s.columns;
      root = s.root;
      q_shape = shape q ∙ s.q_shape;
      q_children = other q s.away.0 ∙ s.q_children;
      line_shape = shape l ∙ s.line_shape;
      line_children = new;
      over = above_kept g.slots g1.slots l (λ m k ne o. subst (λ ys. 1 ≤ occurs ys k) (sym (other m ne)) o) g.root s.over;
      shapes = λ m b o. shape m ∙ s.shapes m b o;
      children = λ m b o. other m b ∙ s.children m b o;
      left = elim s.left [
        | inl p ↦ inl (p.0, shape n ∙ p.1, other n s.away.1 ∙ p.2, p.3)
        | inr p ↦ inr (shape n ∙ p.0, p.1)
      ];
      group = elim s.group [
        | inl p ↦ inl p
        | inr p ↦ inr (p.0, p.1, shape x ∙ p.2, λ k. ap (λ ys. occurs ys k) (other x s.away.2) ∙ p.3 k, p.4)
      ];
      all = s.all;
      away = s.away;
      apart = s.apart;
      alone = λ v k o.
          let o' : occurs line v + occurs (y ∷ []) v ≡ 0 = sym (occurs-append line (y ∷ []) v) ∙ o in
          let a : StandsAlone g v = s.alone v k (omega arith) in
          record {
            used = λ i. a.used (sym (shape v) ∙ i);
            apart = top_from g1 v (λ m w. elim (cases_eq m l) [
              | inl i ↦ let b : 1 ≤ occurs (line ++ y ∷ []) v = subst (λ ys. 1 ≤ occurs ys v) (ap (children_at g1) i ∙ new) w in omega arith
              | inr ne ↦ no_child g m v a.apart (subst (λ ys. 1 ≤ occurs ys v) (other m ne) w)
            ]);
            other = a.other;
          };
    })

-- the calls one by one: what each asks for, and what stands at the end
module _ {f f1 h : Layout} {q n l x : ℕ} {ms : List ℕ} (c : CanOpen f q n l ms) (lh : IsLayout h) (is : f1 ≡ taken f l Q) (off : (fresh : List ℕ) × IsPartedOff f1 h n x ms fresh) where
  parted_off : IsPartedOff (taken f l Q) h n x ms off.0
  parted_off = subst (λ z. IsPartedOff z h n x ms off.0) is off.1

  pub line_hangs : IsReadyToHang h n l
  line_hangs = ready_to_hang f h q n l x ms off.0 c lh parted_off

  module _ {g : Layout} (lg : IsLayout g) (hung : (p : ℕ) → 1 ≤ occurs (children_at h p) n → g ≡ with_children h p (with_replaced (children_at h p) n l)) where
    pub node_leaves : IsReadyToLeave g n
    node_leaves = ready_to_leave f h q n l x ms off.0 c lh parted_off g lg hung

    module _ {i : Layout} {e : ℕ} (li : IsLayout i) (left : IsOneLeft g i n e) where
      none_yet : IsOpened f i q n l e x (without_all (children_at f n) ms) ms off.0 []
      none_yet = opened f h q n l x ms off.0 c lh parted_off g lg hung i e li (left_alone g i n e lg node_leaves.alone node_leaves.is_p left)

      pub part_joins : IsReadyToJoin i l e
      part_joins = ready_to_join f i q n l e x (without_all (children_at f n) ms) ms off.0 [] e none_yet (inl refl) refl

      module _ {j : Layout} (lj : IsLayout j) (first : j ≡ with_children i l (put_on 1 e (children_at i l))) where
        one_yet : IsOpened f j q n l e x (without_all (children_at f n) ms) ms off.0 (e ∷ [])
        one_yet = joined f i j q n l e x (without_all (children_at f n) ms) ms off.0 [] e none_yet lj first

        pub group_joins : IsReadyToJoin j l x
        group_joins = ready_to_join f j q n l e x (without_all (children_at f n) ms) ms off.0 (e ∷ []) x one_yet (inr refl) (occurs_other e x [] (λ k. one_yet.apart (sym k)))

        pub both_joined : {k : Layout} → IsLayout k → k ≡ with_children j l (put_on 1 x (children_at j l)) → IsOpened f k q n l e x (without_all (children_at f n) ms) ms off.0 (e ∷ x ∷ [])
        both_joined {k} lk second = joined f j k q n l e x (without_all (children_at f n) ms) ms off.0 (e ∷ []) x one_yet lk second

-- l has both as its children
module _ (f g : Layout) (q n l e x : ℕ) (rest ms fresh : List ℕ) (c : CanOpen f q n l ms) (s : IsOpened f g q n l e x rest ms fresh (e ∷ x ∷ [])) where
  pub splice_at : (us vs : List ℕ) → children_at f q ≡ us ++ n ∷ vs → IsSpliceAt g q l us vs
  splice_at us vs is = record {
    q_shape = s.q_shape;
    child_shape = s.line_shape;
    at = s.q_children ∙ ap (λ ys. with_replaced ys n l) is ∙ replaced_split us vs n l (subst (λ ys. occurs ys n ≤ 1) is (child_once f q n c.before));
    some = subst (λ ys. 2 ≤ length ys) (sym s.line_children) (omega arith);
  }

  module _ (z : Layout) (lz : IsLayout z) (us vs ks : List ℕ) (is : children_at f q ≡ us ++ n ∷ vs) (many : 2 ≤ length ks)
      (bag : (k : ℕ) → occurs ks k ≡ occurs us k + occurs vs k + occurs (e ∷ []) k + occurs (x ∷ []) k) (becomes : z ≡ spliced g q l ks) where
    q_n_apart : q ≢ n
    q_n_apart i = let w : Some Q ≡ Some P = sym c.is_q ∙ ap (shape_at f) i ∙ c.some.is_p in cc

    at_q : slot z.slots q ≡ record { shape = shape_at g q; children = ks }
    at_q = ap (λ v. slot v.slots q) becomes ∙ get_or-set_other (with_children g q ks).slots l q spare_slot spare_slot s.away.0
        ∙ get_or-set_same g.slots q (record { shape = shape_at g q; children = ks }) spare_slot (in_range g q (used_by g q Q s.q_shape))

    at_l : slot z.slots l ≡ spare_slot
    at_l = ap (λ v. slot v.slots l) becomes ∙ get_or-set_same (with_children g q ks).slots l spare_slot spare_slot
        (subst (λ m. l < m) (sym (length-set g.slots q (record { shape = shape_at g q; children = ks }))) (in_range g l (used_by g l Q s.line_shape)))

    at_other : (m : ℕ) → m ≢ q → m ≢ l → slot z.slots m ≡ slot g.slots m
    at_other m a b = ap (λ v. slot v.slots m) becomes ∙ get_or-set_other (with_children g q ks).slots l m spare_slot spare_slot b
        ∙ get_or-set_other g.slots q m (record { shape = shape_at g q; children = ks }) spare_slot a

    at_n : slot z.slots n ≡ slot g.slots n
    at_n = at_other n (λ i. q_n_apart (sym i)) s.away.1

    was_child : (k : ℕ) → occurs (children_at f q) k ≡ occurs us k + (occurs (n ∷ []) k + occurs vs k)
    was_child k = ap (λ ys. occurs ys k) is ∙ occurs-append us (n ∷ vs) k ∙ ap (λ m. occurs us k + m) (occurs-append (n ∷ []) vs k)

    now_child : (k : ℕ) → occurs (children_at z q) k ≡ occurs us k + occurs vs k + occurs (e ∷ []) k + occurs (x ∷ []) k
    now_child k = ap (λ v. occurs v.children k) at_q ∙ bag k

    off_q : (m : ℕ) → occurs (q ∷ n ∷ fresh) m ≡ 0 → m ≢ q
    off_q m o i = let w : 1 ≤ occurs (q ∷ n ∷ fresh) m = subst (λ y. 1 ≤ occurs (q ∷ n ∷ fresh) y) (sym i) (occurs_here q (n ∷ fresh)) in omega arith

    pub halved : IsHalved f z q n e x rest ms fresh
    halved = record {
      before = c.before;
      after = lz;
      columns = ap (λ v. v.columns) becomes ∙ s.columns;
      root = ap (λ v. v.root) becomes ∙ s.root;
      is_q = c.is_q;
      is_p = c.some.is_p;
      child = c.child;
      still_q = ap (λ v. v.shape) at_q ∙ s.q_shape;
      two = subst (λ ys. 2 ≤ length ys) (sym (ap (λ v. v.children) at_q)) many;
      rest_in = omega (arith, now_child e, occurs_here e []);
      group_in = omega (arith, now_child x, occurs_here x []);
      stay = λ k ne o. omega (arith, was_child k, now_child k, occurs_other n k [] ne);
      come = λ k o. elim (cases_eq k e) [
        | inl i ↦ inl i
        | inr a ↦ elim (cases_eq k x) [
          | inl i ↦ inr (inl i)
          | inr b ↦ inr (inr (omega (arith, was_child k, now_child k, occurs_other e k [] a, occurs_other x k [] b)))
        ]
      ];
      shapes = λ m o. elim (cases_eq m l) [
        | inl i ↦ ap (shape_at z) i ∙ ap (λ v. v.shape) at_l ∙ sym c.free ∙ ap (shape_at f) (sym i)
        | inr b ↦ ap (λ v. v.shape) (at_other m (off_q m o) b) ∙ s.shapes m b o
      ];
      children = λ m o. elim (cases_eq m l) [
        | inl i ↦ ap (children_at z) i ∙ ap (λ v. v.children) at_l ∙ sym (subst (λ t. MayHaveChildren t (children_at f l)) c.free (c.before.children_fit l)) ∙ ap (children_at f) (sym i)
        | inr b ↦ ap (λ v. v.children) (at_other m (off_q m o) b) ∙ s.children m b o
      ];
      all = s.all;
      left = elim s.left [
        | inl p ↦ inl (p.0, ap (λ v. v.shape) at_n ∙ p.1, ap (λ v. v.children) at_n ∙ p.2, p.3)
        | inr p ↦ inr (ap (λ v. v.shape) at_n ∙ p.0, p.1)
      ];
      group = elim s.group [
        | inl p ↦ inl p
        | inr p ↦
            let at : slot z.slots x ≡ slot g.slots x = at_other x (λ i. some_none Q (sym c.is_q ∙ ap (shape_at f) (sym i) ∙ p.1)) s.away.2 in
            inr (p.0, p.1, ap (λ v. v.shape) at ∙ p.2, λ k. ap (λ v. occurs v.children k) at ∙ p.3 k, p.4)
      ];
    }

    pub divided_so : IsOneTree f → HasTwoEach f → (list : ℕ → ℕ → List ℕ) → ks ≡ list e x → IsDivided f z q n ms list
    divided_so one two list k = divided f z q n e x rest ms fresh halved c.some one two list (ap (λ v. v.children) at_q ∙ k)

-- the neighbour, as it is named
near_named : (f : Layout) (q : ℕ) (t : NodeId) → IsLayout f → 1 ≤ occurs (children_at f q) t.index → Some t ≡ node_named t.index
near_named f q t h o = sym (ap (λ b. cond b None (Some (let m : NodeId = record { index = t.index } in m))) (ne_eqb t.index none (not_none f t.index h (child_used f q t.index h o))))

-- n and its neighbour are children of q
pub is_child : (f : Layout) (q n t : ℕ) (us vs : List ℕ) → (children_at f q ≡ us ++ (n ∷ (t ∷ vs))) ⊎ (children_at f q ≡ us ++ (t ∷ (n ∷ vs))) → 1 ≤ occurs (children_at f q) n
is_child f q n t us vs (inl p) = child_at f q n us (t ∷ vs) p
is_child f q n t us vs (inr p) = child_at f q n (us ++ t ∷ []) vs (p ∙ sym (append_assoc us (t ∷ []) (n ∷ vs)))

is_near : (f : Layout) (q n t : ℕ) (us vs : List ℕ) → (children_at f q ≡ us ++ (n ∷ (t ∷ vs))) ⊎ (children_at f q ≡ us ++ (t ∷ (n ∷ vs))) → 1 ≤ occurs (children_at f q) t
is_near f q n t us vs (inl p) = child_at f q t (us ++ n ∷ []) vs (p ∙ sym (append_assoc us (n ∷ []) (t ∷ vs)))
is_near f q n t us vs (inr p) = child_at f q t us (n ∷ vs) p

-- the call that puts both in the place of l
pub can_splice : (f g : Layout) (q n l e x : ℕ) (rest ms fresh : List ℕ) (t : NodeId) (us vs : List ℕ) → CanOpen f q n l ms → IsOpened f g q n l e x rest ms fresh (e ∷ x ∷ []) →
    (children_at f q ≡ us ++ (n ∷ (t.index ∷ vs))) ⊎ (children_at f q ≡ us ++ (t.index ∷ (n ∷ vs))) →
    (q : ℕ) × (us : List ℕ) × (vs : List ℕ) × IsSpliceAt g q l us vs × IsBeside (Some t) us vs
can_splice f g q n l e x rest ms fresh t us vs c s (inl p) =
    (q, us, t.index ∷ vs, splice_at f g q n l e x rest ms fresh c s us (t.index ∷ vs) p, inr (near_named f q t c.before (is_near f q n t.index us vs (inl p))))
can_splice f g q n l e x rest ms fresh t us vs c s (inr p) = (
  q,
  us ++ t.index ∷ [],
  vs,
  splice_at f g q n l e x rest ms fresh c s (us ++ t.index ∷ []) vs (p ∙ sym (append_assoc us (t.index ∷ []) (n ∷ vs))),
  inl (near_named f q t c.before (is_near f q n t.index us vs (inr p)) ∙ ap node_named (sym (last_or-append us (t.index ∷ []) none))),
)

module _ (f g z : Layout) (q n l e x : ℕ) (rest ms fresh : List ℕ) (t : NodeId) (us vs : List ℕ) (c : CanOpen f q n l ms) (s : IsOpened f g q n l e x rest ms fresh (e ∷ x ∷ []))
    (lz : IsLayout z) (one : IsOneTree f) (two : HasTwoEach f) where
  -- n stood before its neighbour
  pub divided_before : children_at f q ≡ us ++ (n ∷ (t.index ∷ vs)) →
      ((q : ℕ) (us vs : List ℕ) → IsSpliceAt g q l us vs → Some t ≡ node_named (head_or vs none) → 1 ≤ length us + length vs →
      z ≡ spliced g q l (us ++ (reverse (oriented 1 (children_at g l)) ++ vs))) →
      IsDivided f z q n ms (λ rest group. us ++ (rest ∷ (group ∷ (t.index ∷ vs))))
  divided_before p behind =
      let ws : List ℕ = t.index ∷ vs in
      divided_so f g q n l e x rest ms fresh c s z lz us ws (us ++ (e ∷ (x ∷ ws))) p
      (omega (arith, length-append us (e ∷ (x ∷ ws))))
      (λ k. omega (arith, occurs-append us (e ∷ (x ∷ ws)) k))
      (behind q us ws (splice_at f g q n l e x rest ms fresh c s us ws p) (near_named f q t c.before (is_near f q n t.index us vs (inl p))) (omega arith)
      ∙ ap (λ ys. spliced g q l (us ++ (reverse (oriented 1 ys) ++ ws))) s.line_children)
      one two (λ rest group. us ++ (rest ∷ (group ∷ ws))) refl

  -- n stood behind its neighbour
  pub divided_behind : children_at f q ≡ us ++ (t.index ∷ (n ∷ vs)) →
      ((q : ℕ) (us vs : List ℕ) → IsSpliceAt g q l us vs → Some t ≡ node_named (last_or us none) → z ≡ spliced g q l (us ++ (oriented 1 (children_at g l) ++ vs))) →
      IsDivided f z q n ms (λ rest group. us ++ (t.index ∷ (group ∷ (rest ∷ vs))))
  divided_behind p before =
      let ws : List ℕ = us ++ t.index ∷ [] in
      let p' : children_at f q ≡ ws ++ (n ∷ vs) = p ∙ sym (append_assoc us (t.index ∷ []) (n ∷ vs)) in
      divided_so f g q n l e x rest ms fresh c s z lz ws vs (ws ++ (x ∷ (e ∷ vs))) p'
      (omega (arith, length-append ws (x ∷ (e ∷ vs))))
      (λ k. omega (arith, occurs-append ws (x ∷ (e ∷ vs)) k))
      (before q ws vs (splice_at f g q n l e x rest ms fresh c s ws vs p')
      (near_named f q t c.before (is_near f q n t.index us vs (inr p)) ∙ ap node_named (sym (last_or-append us (t.index ∷ []) none)))
      ∙ ap (λ ys. spliced g q l (ws ++ (oriented 1 ys ++ vs))) s.line_children)
      one two (λ rest group. us ++ (t.index ∷ (group ∷ (rest ∷ vs)))) (append_assoc us (t.index ∷ []) (x ∷ (e ∷ vs)))
