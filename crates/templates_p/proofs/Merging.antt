-- The children of a partial child stand at an end of another partial child.
use Rattle.std.proofs.Common.{◌≡◌, ◌≢◌, ◌⊎◌, inl, inr, ℕ, ◌+◌, ◌≤◌, ◌<◌, cond, List, [], ◌∷◌, ◌++◌, length, Some, None, refl, sym, ap, subst, ◌∙◌, arith, eq-eqb, length-append}
use Rattle.std.proofs.lemmas.Bool.{cases_eq, cases_lt, ne_eqb}
use Rattle.std.proofs.lemmas.List.{get_or-set_other, length-set}
use Rattle.std.specs.Prelude.{if◌then◌else◌, ◌==◌}
use Rattle.column_order.specs.Orders.{occurs}
use Rattle.column_order.proofs.Lists.{occurs-append}
use Rattle.arena_model.specs.declared.Shape.TheVariants.{Leaf, P, Q}
use Rattle.arena_model.specs.ChildLists.{without, with_replaced}
use Rattle.arena_model.specs.Layout.{Layout, spare_slot, shape_at, children_at, IsAtOrAbove, here, down, IsLayout, IsInUse, MayHaveChildren, with_children, spliced}
use Rattle.arena_model.proofs.Lists.{occurs_here, occurs_other}
use Rattle.arena_model.proofs.Slots.{in_range, used_by, children_same, children_other, shape_same, child_used}
use Rattle.arena_model.proofs.Paths.{above_step, one_parent}
use Rattle.arena_model.proofs.Bare.{bare_shape, bare_other}
use Rattle.arena_model.proofs.Trees.{no_circle}
use Rattle.bubble_pass.specs.Marks.{Marks}
use Rattle.template_model.specs.Treated.{IsTreated}
use Rattle.templates_p.specs.Steps.{IsSameAt}
use Rattle.templates_p.specs.Lines.{CanHandOver, IsHandedOn, IsSettled, put_in, CanPutIn}
use Rattle.templates_p.specs.Merging.{CanMerge, IsMerged}
use Rattle.templates_p.proofs.Rebuilt.{IsRebuilt, IsWritten}
use Rattle.template_model.proofs.Replaced.{replaced_self}
use Rattle.templates_p.proofs.Remarked.{AreRemarked, is_answer, is_gone, is_partial, unmarked, treated}
use Rattle.templates_p.proofs.Framing.{same_at, same_length}
use Rattle.templates_p.proofs.Moving.{without_kept}
use Rattle.templates_p.proofs.Handed.{labelled_room, handed_remarked, only_two, handed_children}
use Rattle.templates_p.proofs.Absorbing.{IsPutIn, is_put_in, stays_written, without_bag}
use Rattle.templates_p.proofs.Settling.{put_in_length}

-- the layout once c was given back, and js are the children of h
pub record IsMergedIn (f g : Layout) (n h c : ℕ) (js : List ℕ) : Type 0 where
  pub columns : g.columns ≡ f.columns
  pub root : g.root ≡ f.root
  pub size : length g.slots ≡ length f.slots
  pub gone : shape_at g c ≡ None
  pub shapes : (m : ℕ) → m ≢ c → shape_at g m ≡ shape_at f m
  pub node : children_at g n ≡ without (children_at f n) c
  pub line : children_at g h ≡ js
  pub others : (m : ℕ) → m ≢ n → m ≢ h → m ≢ c → children_at g m ≡ children_at f m
  pub can : CanHandOver g n h

-- a child is another node than the one above it
pub child_other : (f : Layout) (n k : ℕ) → IsLayout f → 1 ≤ occurs (children_at f n) k → k ≢ n
child_other f n k lay o e = no_circle f.slots n k (lay.grounds n) o (subst (λ z. IsAtOrAbove f.slots k z) e (here k))

-- and so is a child of a child
pub grandchild_other : (f : Layout) (n h k : ℕ) → IsLayout f → 1 ≤ occurs (children_at f n) h → 1 ≤ occurs (children_at f h) k → k ≢ n
grandchild_other f n h k lay o p e = no_circle f.slots n h (lay.grounds n) o (down h k n p (subst (λ z. IsAtOrAbove f.slots k z) e (here k)))

-- a way to n passes no child of n
way_kept : (f g : Layout) (n h c : ℕ) → IsLayout f → 1 ≤ occurs (children_at f n) h → 1 ≤ occurs (children_at f n) c →
    ((m : ℕ) → m ≢ n → m ≢ h → m ≢ c → children_at g m ≡ children_at f m) → (a : ℕ) → IsAtOrAbove f.slots a n → IsAtOrAbove g.slots a n
way_kept f g _ h c lay oh oc same _ (here n) = here n
way_kept f g _ h c lay oh oc same _ (down a k n o l) = elim (cases_eq a n) [
  | inl e ↦ subst (λ z. IsAtOrAbove g.slots a z) e (here a)
  | inr nn ↦ elim (cases_eq a h) [
    | inl e ↦ absurd (no_circle f.slots n h (lay.grounds n) oh (subst (λ z. IsAtOrAbove f.slots z n) e (down a k n o l)))
    | inr nh ↦ elim (cases_eq a c) [
      | inl e ↦ absurd (no_circle f.slots n c (lay.grounds n) oc (subst (λ z. IsAtOrAbove f.slots z n) e (down a k n o l)))
      | inr nc ↦ down a k n (subst (λ ks. 1 ≤ occurs ks k) (sym (same a nn nh nc)) o) (way_kept f g n h c lay oh oc same k l)
    ]
  ]
]

pub is_merged_in : (f : Layout) (n h c end : ℕ) (js : List ℕ) → IsLayout f → CanPutIn f n h c → shape_at f c ≡ Some Q → IsMergedIn f (spliced (put_in f n h end c) h c js) n h c js
is_merged_in f n h c end js lay can cq =
    let i : Layout = put_in f n h end c in
    let j : Layout = with_children i h js in
    let g : Layout = spliced i h c js in
    let p : IsPutIn f i n h c end = is_put_in f n h c end lay can in
    let lt_h : h < length i.slots = in_range i h (used_by i h Q (p.shapes h ∙ can.is_q)) in
    let shape_j : (m : ℕ) → shape_at j m ≡ shape_at f m = (λ m. shape_same i h m js lt_h ∙ p.shapes m) in
    let lt_c : c < length j.slots = in_range j c (used_by j c Q (shape_j c ∙ cq)) in
    let kids : (m : ℕ) → m ≢ c → children_at g m ≡ children_at j m = (λ m ne. ap (λ s. s.children) (get_or-set_other j.slots c m spare_slot spare_slot ne)) in
    let nc : n ≢ c = (λ e. child_other f n c lay can.child (sym e)) in
    let nh : n ≢ h = (λ e. child_other f n h lay can.line (sym e)) in
    let node : children_at g n ≡ without (children_at f n) c = kids n nc ∙ children_other i h n js nh ∙ p.node in
    let others : (m : ℕ) → m ≢ n → m ≢ h → m ≢ c → children_at g m ≡ children_at f m = (λ m a b d. kids m d ∙ children_other i h m js b ∙ p.others m a b) in
    let shapes : (m : ℕ) → m ≢ c → shape_at g m ≡ shape_at f m = (λ m ne. bare_other j c m None (c ∷ j.spares) ne ∙ shape_j m) in
    record {
      columns = refl;
      root = refl;
      size = length-set j.slots c spare_slot ∙ length-set i.slots h (record { shape = shape_at i h; children = js }) ∙ put_in_length f n h end c;
      gone = bare_shape j c None (c ∷ j.spares) lt_c;
      shapes = shapes;
      node = node;
      line = kids h can.apart ∙ children_same i h js lt_h;
      others = others;
      can = record {
        is_p = shapes n nc ∙ can.is_p;
        child = subst (λ z. 1 ≤ occurs z h) (sym node) (subst (λ z. 1 ≤ z) (sym (without_kept (children_at f n) c h can.apart)) can.line);
        above = way_kept f g n h c lay can.line can.child others f.root can.above;
      };
    }

root_stays : (f : Layout) (n : ℕ) → f.root ≡ (if f.root == n then n else f.root)
root_stays f n = elim (cases_eq f.root n) [
  | inl e ↦ e ∙ sym (ap (λ b. cond b n f.root) (eq-eqb f.root n e))
  | inr ne ↦ sym (ap (λ b. cond b n f.root) (ne_eqb f.root n ne))
]

three_kinds : (n x y m : ℕ) → occurs (n ∷ x ∷ y ∷ []) m ≡ 0 → (m ≢ n) × (m ≢ x) × (m ≢ y)
three_kinds n x y m z = (
  λ e. let o : 1 ≤ occurs (n ∷ x ∷ y ∷ []) m = subst (λ t. 1 ≤ occurs (n ∷ x ∷ y ∷ []) t) (sym e) (occurs_here n (x ∷ y ∷ [])) in omega arith,
  λ e. let o : 1 ≤ occurs (x ∷ y ∷ []) m = subst (λ t. 1 ≤ occurs (x ∷ y ∷ []) t) (sym e) (occurs_here x (y ∷ [])) in omega arith,
  λ e. let o : 1 ≤ occurs (y ∷ []) m = subst (λ t. 1 ≤ occurs (y ∷ []) t) (sym e) (occurs_here y []) in omega arith,
)

none_of : (n x y m : ℕ) → m ≢ n → m ≢ x → m ≢ y → occurs (n ∷ x ∷ y ∷ []) m ≡ 0
none_of n x y m a b d = omega (arith, occurs_other n m (x ∷ y ∷ []) a, occurs_other x m (y ∷ []) b, occurs_other y m [] d)

-- nothing is below a node that is spare
gone_child : (g : Layout) (m k : ℕ) → IsLayout g → shape_at g m ≡ None → 1 ≤ occurs (children_at g m) k → ⊥
gone_child g m k hg e o =
    let z : children_at g m ≡ [] = subst (λ s. MayHaveChildren s (children_at g m)) e (hg.children_fit m) in
    let q : 1 ≤ occurs [] k = subst (λ ks. 1 ≤ occurs ks k) z o in omega arith

gone_shape : (g : Layout) (m : ℕ) → shape_at g m ≡ None → (shape_at g m ≡ Some P) ⊎ (shape_at g m ≡ Some Q) → ⊥
gone_shape g m d (inl e) = let z : None ≡ Some P = sym d ∙ e in cc
gone_shape g m d (inr e) = let z : None ≡ Some Q = sym d ∙ e in cc

module _ (f : Layout) (v : Marks) (n h c : ℕ) (js : List ℕ) (lay : IsLayout f) (can : CanMerge f v n h c) (has : (k : ℕ) → occurs js k ≡ occurs (children_at f h) k + occurs (children_at f c) k) where
  is_line : 1 ≤ occurs (children_at f n) h
  is_line = can.absorb.put.line

  is_child : 1 ≤ occurs (children_at f n) c
  is_child = can.absorb.put.child

  under_n : (k : ℕ) → 1 ≤ occurs (children_at f n) k → IsAtOrAbove f.slots n k
  under_n k o = down n k k o (here k)

  under_inner : (k : ℕ) → 1 ≤ occurs (children_at f h) k + occurs (children_at f c) k → IsAtOrAbove f.slots n k
  under_inner k o = elim (cases_lt 0 (occurs (children_at f h) k)) [
    | inl l ↦ down n h k is_line (down h k k l (here k))
    | inr l ↦ down n c k is_child (down c k k (omega arith) (here k))
  ]

  inner_used : (k : ℕ) → 1 ≤ occurs (children_at f h) k + occurs (children_at f c) k → IsInUse f k
  inner_used k o = elim (cases_lt 0 (occurs (children_at f h) k)) [
    | inl l ↦ child_used f h k lay l
    | inr l ↦ child_used f c k lay (omega arith)
  ]

  -- the moved children are none of the three nodes
  inner_n : (k : ℕ) → 1 ≤ occurs (children_at f h) k + occurs (children_at f c) k → k ≢ n
  inner_n k o = elim (cases_lt 0 (occurs (children_at f h) k)) [
    | inl l ↦ grandchild_other f n h k lay is_line l
    | inr l ↦ grandchild_other f n c k lay is_child (omega arith)
  ]

  -- no child of n is below another
  not_inner : (m k : ℕ) → 1 ≤ occurs (children_at f n) m → 1 ≤ occurs (children_at f h) k + occurs (children_at f c) k → k ≢ m
  not_inner m k om o e = elim (cases_lt 0 (occurs (children_at f h) k)) [
    | inl l ↦ child_other f n h lay is_line (one_parent f h n k lay l (subst (λ z. 1 ≤ occurs (children_at f n) z) (sym e) om))
    | inr l ↦ child_other f n c lay is_child (one_parent f c n k lay (omega arith) (subst (λ z. 1 ≤ occurs (children_at f n) z) (sym e) om))
  ]

  inner_none : (k : ℕ) → 1 ≤ occurs (children_at f h) k + occurs (children_at f c) k → occurs (n ∷ h ∷ c ∷ []) k ≡ 0
  inner_none k o = none_of n h c k (inner_n k o) (not_inner h k is_line o) (not_inner c k is_child o)

  closed : (m j : ℕ) → 1 ≤ occurs (children_at f n) m → 1 ≤ occurs (children_at f j) m → (m ≡ n) ⊎ (1 ≤ occurs (n ∷ h ∷ c ∷ []) j)
  closed m j om o = inr (subst (λ z. 1 ≤ occurs (n ∷ h ∷ c ∷ []) z) (one_parent f n j m lay om o) (occurs_here n (h ∷ c ∷ [])))

  leaf_p : (b : ℕ) → shape_at f n ≡ Some (Leaf b) → ⊥
  leaf_p b e = let z : Some P ≡ Some (Leaf b) = sym can.absorb.put.is_p ∙ e in cc

  leaf_q : (m b : ℕ) → shape_at f m ≡ Some Q → shape_at f m ≡ Some (Leaf b) → ⊥
  leaf_q m b q e = let z : Some Q ≡ Some (Leaf b) = sym q ∙ e in cc

  long_line : 2 ≤ length js
  long_line = let t : 2 ≤ length (children_at f h) = can.absorb.two h (inr can.absorb.put.is_q) in
      let s : length js ≡ length (children_at f h ++ children_at f c) = same_length (children_at f h ++ children_at f c) js
      (λ k. occurs-append (children_at f h) (children_at f c) k ∙ sym (has k)) in
      omega (arith, length-append (children_at f h) (children_at f c))

  module _ (g : Layout) (i : IsMergedIn f g n h c js) where
    in_line : (k : ℕ) → 1 ≤ occurs (children_at g h) k → 1 ≤ occurs (children_at f h) k + occurs (children_at f c) k
    in_line k o = let q : occurs (children_at g h) k ≡ occurs js k = ap (λ z. occurs z k) i.line in omega (arith, has k)

    line_has : (k : ℕ) → 1 ≤ occurs (children_at f h) k + occurs (children_at f c) k → 1 ≤ occurs (children_at g h) k
    line_has k o = let q : occurs (children_at g h) k ≡ occurs js k = ap (λ z. occurs z k) i.line in omega (arith, has k)

    -- where other children are left
    module _ (hg : IsLayout g) (long : 2 ≤ length (children_at g n)) where
      node_line : IsAtOrAbove g.slots n h
      node_line = down n h h i.can.child (here h)

      stay_node : IsWritten f g n n (n ∷ h ∷ c ∷ []) n
      stay_node = stays_written f g n c (n ∷ h ∷ c ∷ []) can.absorb.put.is_p i.node long (λ u. absurd (u i.gone))

      stay_line : IsWritten f g n n (n ∷ h ∷ c ∷ []) h
      stay_line = record {
        mine = inl (under_n h is_line);
        closed = λ j o. closed h j is_line o;
        no_leaf = λ b. leaf_q h b can.absorb.put.is_q;
        two = λ s. subst (λ z. 2 ≤ length z) (sym i.line) long_line;
        down = λ k o u. above_step g.slots n h k node_line (line_has k (omega arith));
        up = λ k o. inl (under_inner k (in_line k o));
        all = λ u. node_line;
      }

      stay_other : IsWritten f g n n (n ∷ h ∷ c ∷ []) c
      stay_other = record {
        mine = inl (under_n c is_child);
        closed = λ j o. closed c j is_child o;
        no_leaf = λ b. leaf_q c b can.is_q;
        two = λ s. absurd (gone_shape g c i.gone s);
        down = λ k o u. above_step g.slots n h k node_line (line_has k (omega arith));
        up = λ k o. absurd (gone_child g c k hg i.gone o);
        all = λ u. absurd (u i.gone);
      }

      stay_rebuilt : IsRebuilt f g n n (n ∷ h ∷ c ∷ [])
      stay_rebuilt = record {
        before = lay;
        after = hg;
        columns = i.columns;
        root = i.root ∙ root_stays f n;
        used = used_by f n P can.absorb.put.is_p;
        answer = used_by g n P i.can.is_p;
        n_in = occurs_here n (h ∷ c ∷ []);
        a_in = occurs_here n (h ∷ c ∷ []);
        shapes = λ m z. i.shapes m (three_kinds n h c m z).2;
        children = λ m z. let t = three_kinds n h c m z in i.others m t.0 t.1 t.2 ∙ sym (replaced_self (children_at f m) n);
        written = (stay_node, (stay_line, (stay_other, tt)));
      }

      stay_remarked : AreRemarked f g v v n n (n ∷ h ∷ c ∷ [])
      stay_remarked = unmarked f g v n (n ∷ h ∷ c ∷ []) (
        is_answer refl,
        (
          is_partial can.absorb.partial can.absorb.partial (under_n h is_line) (λ k o. (line_has k (omega arith), inner_none k (omega arith))),
          (is_gone i.gone, tt),
        ),
      )

      stay_same : (k : ℕ) → IsInUse f k → IsAtOrAbove f.slots n k → occurs (n ∷ h ∷ c ∷ []) k ≡ 0 → IsSameAt f v g v k
      stay_same k u l z = same_at f g n n (n ∷ h ∷ c ∷ []) stay_rebuilt v v stay_remarked k u l z

      pub stay_merged : IsMerged f v g v n h c n js
      stay_merged = record {
        shape = i.shapes h can.absorb.put.apart ∙ can.absorb.put.is_q;
        children = i.line;
        inner = λ k o. stay_same k (inner_used k o) (under_inner k o) (inner_none k o);
        place = inl (
          refl,
          i.can.is_p,
          long,
          (λ k. ap (λ z. occurs z k + occurs (c ∷ []) k) i.node ∙ without_bag f n c lay is_child k),
          (λ k o a b. stay_same k (child_used f n k lay o) (under_n k o) (none_of n h c k (child_other f n k lay o) a b)),
        );
      }

      pub stay_treated : IsTreated f g v v n n
      stay_treated = treated f g n n (n ∷ h ∷ c ∷ []) stay_rebuilt v v stay_remarked can.absorb.one can.absorb.two

    -- where none is left
    module _ (g' : Layout) (w : Marks) (hg : IsLayout g') (d : IsHandedOn g g' v w n h) where
      n_h : n ≢ h
      n_h e = child_other f n h lay is_line (sym e)

      n_c : n ≢ c
      n_c e = child_other f n c lay is_child (sym e)

      only_line : (k : ℕ) → 1 ≤ occurs (children_at f n) k → (k ≡ h) ⊎ (k ≡ c)
      only_line k o = only_two (children_at f n) c h k (sym i.node ∙ d.only) o

      no_node : occurs (children_at g h) n ≡ 0
      no_node = elim (cases_lt 0 (occurs (children_at g h) n)) [
        | inl o ↦ absurd (inner_n n (in_line n o) refl)
        | inr o ↦ omega arith
      ]

      line_is : children_at g' h ≡ children_at g h
      line_is = handed_children g g' v w n h d n_h no_node

      line_down : (k : ℕ) → 1 ≤ occurs (children_at f h) k + occurs (children_at f c) k → IsAtOrAbove g'.slots h k
      line_down k o = down h k k (subst (λ z. 1 ≤ occurs z k) (sym line_is) (line_has k o)) (here k)

      other_gone : shape_at g' c ≡ None
      other_gone = d.shapes c (λ e. n_c (sym e)) ∙ i.gone

      go_node : IsWritten f g' n h (n ∷ h ∷ c ∷ []) n
      go_node = record {
        mine = inl (here n);
        closed = λ j o. inl refl;
        no_leaf = leaf_p;
        two = λ s. absurd (gone_shape g' n d.gone s);
        down = λ k o u. elim (only_line k o) [
          | inl e ↦ subst (λ z. IsAtOrAbove g'.slots h z) (sym e) (here h)
          | inr e ↦ absurd (u (subst (λ z. shape_at g' z ≡ None) (sym e) other_gone))
        ];
        up = λ k o. absurd (gone_child g' n k hg d.gone o);
        all = λ u. absurd (u d.gone);
      }

      go_line : IsWritten f g' n h (n ∷ h ∷ c ∷ []) h
      go_line = record {
        mine = inl (under_n h is_line);
        closed = λ j o. closed h j is_line o;
        no_leaf = λ b. leaf_q h b can.absorb.put.is_q;
        two = λ s. subst (λ z. 2 ≤ length z) (sym (line_is ∙ i.line)) long_line;
        down = λ k o u. line_down k (omega arith);
        up = λ k o. inl (under_inner k (in_line k (subst (λ z. 1 ≤ occurs z k) line_is o)));
        all = λ u. here h;
      }

      go_other : IsWritten f g' n h (n ∷ h ∷ c ∷ []) c
      go_other = record {
        mine = inl (under_n c is_child);
        closed = λ j o. closed c j is_child o;
        no_leaf = λ b. leaf_q c b can.is_q;
        two = λ s. absurd (gone_shape g' c other_gone s);
        down = λ k o u. line_down k (omega arith);
        up = λ k o. absurd (gone_child g' c k hg other_gone o);
        all = λ u. absurd (u other_gone);
      }

      line_shape : shape_at g' h ≡ Some Q
      line_shape = d.shapes h (λ e. n_h (sym e)) ∙ i.shapes h can.absorb.put.apart ∙ can.absorb.put.is_q

      go_rebuilt : IsRebuilt f g' n h (n ∷ h ∷ c ∷ [])
      go_rebuilt = record {
        before = lay;
        after = hg;
        columns = d.columns ∙ i.columns;
        root = d.root ∙ ap (λ r. if r == n then h else r) i.root;
        used = used_by f n P can.absorb.put.is_p;
        answer = used_by g' h Q line_shape;
        n_in = occurs_here n (h ∷ c ∷ []);
        a_in = omega (arith, occurs_here h (c ∷ []));
        shapes = λ m z. let t = three_kinds n h c m z in d.shapes m t.0 ∙ i.shapes m t.2;
        children = λ m z. let t = three_kinds n h c m z in d.children m t.0 ∙ ap (λ xs. with_replaced xs n h) (i.others m t.0 t.1 t.2);
        written = (go_node, (go_line, (go_other, tt)));
      }

      go_remarked : AreRemarked f g' v w n h (n ∷ h ∷ c ∷ [])
      go_remarked = handed_remarked f g g' v w n h (n ∷ h ∷ c ∷ []) d (labelled_room f v h lay can.absorb.put.is_q can.absorb.room) (λ m z. (three_kinds n h c m z).1)
          (is_gone d.gone, (is_answer refl, (is_gone other_gone, tt)))

      pub go_merged : IsMerged f v g' w n h c h js
      go_merged = record {
        shape = line_shape;
        children = line_is ∙ i.line;
        inner = λ k o. same_at f g' n h (n ∷ h ∷ c ∷ []) go_rebuilt v w go_remarked k (inner_used k o) (under_inner k o) (inner_none k o);
        place = inr (refl, λ k. let q : occurs (without (children_at f n) c) k ≡ occurs (h ∷ []) k = ap (λ z. occurs z k) (sym i.node ∙ d.only) in omega (arith, without_bag f n c lay is_child k));
      }

      pub go_treated : IsTreated f g' v w n h
      go_treated = treated f g' n h (n ∷ h ∷ c ∷ []) go_rebuilt v w go_remarked can.absorb.one can.absorb.two

-- in both cases
pub merged : (f g i : Layout) (v w : Marks) (n h c a : ℕ) (js : List ℕ) → IsLayout f → IsLayout i → CanMerge f v n h c → ((k : ℕ) → occurs js k ≡ occurs (children_at f h) k + occurs (children_at f c) k) →
    IsMergedIn f g n h c js → IsSettled g i v w n h a → IsTreated f i v w n a × IsMerged f v i w n h c a js
merged f g i v w n h c a js lay li can has m (inl s) =
    let lg : IsLayout g = subst IsLayout s.1 li in
    subst (λ z. IsTreated f i v w n z × IsMerged f v i w n h c z js) (sym s.0)
    (subst (λ z. IsTreated f i v z n n × IsMerged f v i z n h c n js) (sym s.2) (subst (λ z. IsTreated f z v v n n × IsMerged f v z v n h c n js) (sym s.1)
    (stay_treated f v n h c js lay can has g m lg s.3, stay_merged f v n h c js lay can has g m lg s.3)))
merged f g i v w n h c a js lay li can has m (inr s) =
    subst (λ z. IsTreated f i v w n z × IsMerged f v i w n h c z js) (sym s.0) (go_treated f v n h c js lay can has g m i w li s.1, go_merged f v n h c js lay can has g m i w li s.1)
