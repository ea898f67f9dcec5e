-- A full child is put at an end of the partial child.
use Rattle.std.proofs.Common.{◌≡◌, ◌≢◌, ◌⊎◌, inl, inr, ℕ, ◌+◌, ◌≤◌, ◌<◌, true, false, cond, eqb, List, [], ◌∷◌, ◌++◌, length, Some, None, refl, sym, ap, subst, ◌∙◌, arith, eq-eqb, length-append}
use Rattle.std.proofs.lemmas.Bool.{cases_eq, cases_lt, ne_eqb}
use Rattle.std.specs.Prelude.{if◌then◌else◌, ◌==◌}
use Rattle.column_order.specs.Orders.{occurs}
use Rattle.column_order.proofs.Lists.{occurs-append}
use Rattle.arena_model.specs.declared.Shape.TheVariants.{Leaf, P, Q}
use Rattle.arena_model.specs.ChildLists.{without, with_replaced, put_on}
use Rattle.arena_model.specs.Layout.{Layout, shape_at, children_at, IsAtOrAbove, here, down, IsLayout, StandsAlone, IsInUse, MayHaveChildren}
use Rattle.arena_model.proofs.Lists.{occurs_here, occurs_same, occurs_other}
use Rattle.arena_model.proofs.Slots.{in_range, used_by, children_same, children_other, shape_same, child_used}
use Rattle.arena_model.proofs.Paths.{above_step, above_kept, one_parent, other_top}
use Rattle.arena_model.proofs.Trees.{no_circle}
use Rattle.bubble_pass.specs.Marks.{Marks}
use Rattle.template_model.specs.Treated.{IsTreated}
use Rattle.templates_p.specs.Steps.{IsSameAt}
use Rattle.templates_p.specs.Lines.{CanHandOver, IsHandedOn, put_in, CanPutIn, CanAbsorb, IsAbsorbed}
use Rattle.templates_p.proofs.Rebuilt.{IsRebuilt, IsWritten}
use Rattle.template_model.proofs.Replaced.{replaced_self}
use Rattle.templates_p.proofs.Remarked.{AreRemarked, is_answer, is_gone, is_partial, unmarked, treated}
use Rattle.templates_p.proofs.Framing.{same_at}
use Rattle.templates_p.proofs.Moving.{without_gone, without_kept, without_less}
use Rattle.templates_p.proofs.Chaining.{child_once}
use Rattle.templates_p.proofs.Grouping.{neither}
use Rattle.templates_p.proofs.Handing.{taken_off, IsOff, taken_child}
use Rattle.templates_p.proofs.Handed.{labelled_room, handed_remarked, only_two, handed_children}

pub put_on_times : (end c k : ℕ) (ks : List ℕ) → occurs (put_on end c ks) k ≡ occurs (c ∷ []) k + occurs ks k
put_on_times end c k ks = elim (eqb end 0) as (λ b. occurs (cond b (c ∷ ks) (ks ++ c ∷ [])) k ≡ occurs (c ∷ []) k + occurs ks k) [
  | true ↦ omega arith
  | false ↦ omega (arith, occurs-append ks (c ∷ []) k)
]

pub put_on_length : (end c : ℕ) (ks : List ℕ) → length (put_on end c ks) ≡ 1 + length ks
put_on_length end c ks = elim (eqb end 0) as (λ b. length (cond b (c ∷ ks) (ks ++ c ∷ [])) ≡ 1 + length ks) [
  | true ↦ omega arith
  | false ↦ omega (arith, length-append ks (c ∷ []))
]

pub hand_from_put : (f : Layout) (n h c : ℕ) → CanPutIn f n h c → CanHandOver f n c
hand_from_put f n h c p = record { is_p = p.is_p; child = p.child; above = p.above }

-- what putting it there asks for
pub record IsReadyToEnd (f : Layout) (n h c : ℕ) : Type 0 where
  pub shape : shape_at (taken_off f n c) h ≡ Some Q
  pub alone : StandsAlone (taken_off f n c) c
  pub no_way : IsAtOrAbove (taken_off f n c).slots c h → ⊥

module _ (f : Layout) (n h c : ℕ) (lay : IsLayout f) (can : CanPutIn f n h c) where
  off : IsOff f n c
  off = taken_child f n c lay (hand_from_put f n h c can)

  lt : n < length f.slots
  lt = in_range f n (used_by f n P can.is_p)

  nh : n ≢ h
  nh e = no_circle f.slots n h (lay.grounds n) can.line (subst (λ z. IsAtOrAbove f.slots h z) (sym e) (here h))

  line_left : 1 ≤ occurs (without (children_at f n) c) h
  line_left = subst (λ z. 1 ≤ z) (sym (without_kept (children_at f n) c h can.apart)) can.line

  pub ready_to_end : IsReadyToEnd f n h c
  ready_to_end = record {
    shape = shape_same f n h (without (children_at f n) c) lt ∙ can.is_q;
    alone = off.alone;
    no_way = λ w. other_top (taken_off f n c) (taken_off f n c).root c h off.layout off.layout.root_top off.alone.apart (λ e. off.alone.other (sym e))
        (above_step (taken_off f n c).slots (taken_off f n c).root n h off.above (subst (λ z. 1 ≤ occurs z h) (sym (children_same f n (without (children_at f n) c) lt)) line_left)) w;
  }

-- the layout once it was put there
pub record IsPutIn (f g : Layout) (n h c end : ℕ) : Type 0 where
  pub columns : g.columns ≡ f.columns
  pub root : g.root ≡ f.root
  pub shapes : (m : ℕ) → shape_at g m ≡ shape_at f m
  pub node : children_at g n ≡ without (children_at f n) c
  pub line : children_at g h ≡ put_on end c (children_at f h)
  pub others : (m : ℕ) → m ≢ n → m ≢ h → children_at g m ≡ children_at f m
  pub can : CanHandOver g n h

pub is_put_in : (f : Layout) (n h c end : ℕ) → IsLayout f → CanPutIn f n h c → IsPutIn f (put_in f n h end c) n h c end
is_put_in f n h c end lay can =
    let f1 : Layout = taken_off f n c in
    let g : Layout = put_in f n h end c in
    let js : List ℕ = put_on end c (children_at f1 h) in
    let off : IsOff f n c = taken_child f n c lay (hand_from_put f n h c can) in
    let lt : n < length f.slots = in_range f n (used_by f n P can.is_p) in
    let ne : n ≢ h = nh f n h c lay can in
    let lt1 : h < length f1.slots = in_range f1 h (used_by f1 h Q (shape_same f n h (without (children_at f n) c) lt ∙ can.is_q)) in
    let node : children_at g n ≡ without (children_at f n) c = children_other f1 h n js ne ∙ children_same f n (without (children_at f n) c) lt in
    let shapes : (m : ℕ) → shape_at g m ≡ shape_at f m = (λ m. shape_same f1 h m js lt1 ∙ shape_same f n m (without (children_at f n) c) lt) in
    record {
      columns = refl;
      root = refl;
      shapes = shapes;
      node = node;
      line = children_same f1 h js lt1 ∙ ap (put_on end c) (children_other f n h (without (children_at f n) c) (λ e. ne (sym e)));
      others = λ m a b. children_other f1 h m js b ∙ children_other f n m (without (children_at f n) c) a;
      can = record {
        is_p = shapes n ∙ can.is_p;
        child = subst (λ z. 1 ≤ occurs z h) (sym node) (line_left f n h c lay can);
        above = above_kept f1.slots g.slots n
            (λ m k d o. elim (cases_eq m h) [
              | inl e ↦ let o' : 1 ≤ occurs (children_at f1 h) k = subst (λ z. 1 ≤ occurs (children_at f1 z) k) e o in
                  subst (λ z. 1 ≤ occurs (children_at g z) k) (sym e) (subst (λ z. 1 ≤ occurs z k) (sym (children_same f1 h js lt1))
                  (omega (arith, put_on_times end c k (children_at f1 h))))
              | inr b ↦ subst (λ z. 1 ≤ occurs z k) (sym (children_other f1 h m js b)) o
            ]) f.root off.above;
      };
    }

two_kinds : (n x m : ℕ) → occurs (n ∷ x ∷ []) m ≡ 0 → (m ≢ n) × (m ≢ x)
two_kinds n x m z = (
  λ e. let o : 1 ≤ occurs (n ∷ x ∷ []) m = subst (λ y. 1 ≤ occurs (n ∷ x ∷ []) y) (sym e) (occurs_here n (x ∷ [])) in omega arith,
  λ e. let o : 1 ≤ occurs (x ∷ []) m = subst (λ y. 1 ≤ occurs (x ∷ []) y) (sym e) (occurs_here x []) in omega arith,
)

root_kept : (f : Layout) (n : ℕ) → f.root ≡ (if f.root == n then n else f.root)
root_kept f n = elim (cases_eq f.root n) [
  | inl e ↦ e ∙ sym (ap (λ b. cond b n f.root) (eq-eqb f.root n e))
  | inr ne ↦ sym (ap (λ b. cond b n f.root) (ne_eqb f.root n ne))
]

-- the children of n with and without the child c
pub without_bag : (f : Layout) (n c : ℕ) → IsLayout f → 1 ≤ occurs (children_at f n) c → (k : ℕ) → occurs (without (children_at f n) c) k + occurs (c ∷ []) k ≡ occurs (children_at f n) k
without_bag f n c lay o k = elim (cases_eq k c) [
  | inl e ↦ subst (λ z. occurs (without (children_at f n) c) z + occurs (c ∷ []) z ≡ occurs (children_at f n) z) (sym e)
      (let a : occurs (children_at f n) c ≤ 1 = child_once f n c lay in omega (arith, o, without_gone (children_at f n) c, occurs_same c []))
  | inr ne ↦ omega (arith, without_kept (children_at f n) c k ne, occurs_other c k [] ne)
]

-- a P-node n that loses its child c to the nodes below it, or loses it for good, and keeps two
pub stays_written : (f g : Layout) (n c : ℕ) (ts : List ℕ) → shape_at f n ≡ Some P → children_at g n ≡ without (children_at f n) c → 2 ≤ length (children_at g n) →
    (IsInUse g c → IsAtOrAbove g.slots n c) → IsWritten f g n n ts n
stays_written f g n c ts is_p e long below = record {
  mine = inl (here n);
  closed = λ j o. inl refl;
  no_leaf = λ b l. let z : Some P ≡ Some (Leaf b) = sym is_p ∙ l in cc;
  two = λ s. long;
  down = λ k o u. elim (cases_eq k c) [
    | inl d ↦ subst (λ z. IsAtOrAbove g.slots n z) (sym d) (below (subst (IsInUse g) d u))
    | inr ne ↦ down n k k (subst (λ z. 1 ≤ occurs z k) (sym e) (subst (λ z. 1 ≤ z) (sym (without_kept (children_at f n) c k ne)) o)) (here k)
  ];
  up = λ k o. inl (down n k k (let q : 1 ≤ occurs (without (children_at f n) c) k = subst (λ z. 1 ≤ occurs z k) e o in omega (arith, without_less (children_at f n) c k)) (here k));
  all = λ u. here n;
}

module _ (f : Layout) (v : Marks) (n h c end : ℕ) (lay : IsLayout f) (can : CanAbsorb f v n h c) where
  under_n : (k : ℕ) → 1 ≤ occurs (children_at f n) k → IsAtOrAbove f.slots n k
  under_n k o = down n k k o (here k)

  under_h : (k : ℕ) → 1 ≤ occurs (children_at f h) k → IsAtOrAbove f.slots n k
  under_h k o = down n h k can.put.line (down h k k o (here k))

  n_h : n ≢ h
  n_h = nh f n h c lay can.put

  n_c : n ≢ c
  n_c e = no_circle f.slots n c (lay.grounds n) can.put.child (subst (λ z. IsAtOrAbove f.slots c z) (sym e) (here c))

  closed_h : (j : ℕ) → 1 ≤ occurs (children_at f j) h → (h ≡ n) ⊎ (1 ≤ occurs (n ∷ h ∷ []) j)
  closed_h j o = inr (subst (λ z. 1 ≤ occurs (n ∷ h ∷ []) z) (one_parent f n j h lay can.put.line o) (occurs_here n (h ∷ [])))

  leaf_n : (b : ℕ) → shape_at f n ≡ Some (Leaf b) → ⊥
  leaf_n b e = let z : Some P ≡ Some (Leaf b) = sym can.put.is_p ∙ e in cc

  leaf_h : (b : ℕ) → shape_at f h ≡ Some (Leaf b) → ⊥
  leaf_h b e = let z : Some Q ≡ Some (Leaf b) = sym can.put.is_q ∙ e in cc

  line_long : 2 ≤ length (children_at f h)
  line_long = can.two h (inr can.put.is_q)

  inner_h : (k : ℕ) → 1 ≤ occurs (children_at f h) k → k ≢ h
  inner_h k o e = no_circle f.slots h k (lay.grounds h) o (subst (λ z. IsAtOrAbove f.slots k z) e (here k))

  inner_n : (k : ℕ) → 1 ≤ occurs (children_at f h) k → k ≢ n
  inner_n k o e = no_circle f.slots n h (lay.grounds n) can.put.line (down h k n o (subst (λ z. IsAtOrAbove f.slots k z) e (here k)))

  child_n : (k : ℕ) → 1 ≤ occurs (children_at f n) k → k ≢ n
  child_n k o e = no_circle f.slots n k (lay.grounds n) o (subst (λ z. IsAtOrAbove f.slots k z) e (here k))

  module _ (g : Layout) (i : IsPutIn f g n h c end) where
    in_line : (k : ℕ) → 1 ≤ occurs (children_at g h) k → (k ≡ c) ⊎ (1 ≤ occurs (children_at f h) k)
    in_line k o = elim (cases_eq k c) [
      | inl e ↦ inl e
      | inr ne ↦ inr (let o' : 1 ≤ occurs (put_on end c (children_at f h)) k = subst (λ z. 1 ≤ occurs z k) i.line o in
          omega (arith, put_on_times end c k (children_at f h), occurs_other c k [] ne))
    ]

    line_has : (k : ℕ) → 1 ≤ occurs (children_at f h) k → 1 ≤ occurs (children_at g h) k
    line_has k o = subst (λ z. 1 ≤ occurs z k) (sym i.line) (omega (arith, put_on_times end c k (children_at f h)))

    line_new : 1 ≤ occurs (children_at g h) c
    line_new = subst (λ z. 1 ≤ occurs z c) (sym i.line) (omega (arith, put_on_times end c c (children_at f h), occurs_here c []))

    -- where other children are left
    module _ (hg : IsLayout g) (long : 2 ≤ length (children_at g n)) where
      node_line : IsAtOrAbove g.slots n h
      node_line = down n h h i.can.child (here h)

      stay_node : IsWritten f g n n (n ∷ h ∷ []) n
      stay_node = stays_written f g n c (n ∷ h ∷ []) can.put.is_p i.node long (λ u. above_step g.slots n h c node_line line_new)

      stay_line : IsWritten f g n n (n ∷ h ∷ []) h
      stay_line = record {
        mine = inl (under_n h can.put.line);
        closed = closed_h;
        no_leaf = leaf_h;
        two = λ s. subst (λ z. 2 ≤ length z) (sym i.line) (let q : 2 ≤ length (children_at f h) = line_long in omega (arith, put_on_length end c (children_at f h)));
        down = λ k o u. above_step g.slots n h k node_line (line_has k o);
        up = λ k o. elim (in_line k o) [
          | inl e ↦ inl (subst (λ z. IsAtOrAbove f.slots n z) (sym e) (under_n c can.put.child))
          | inr q ↦ inl (under_h k q)
        ];
        all = λ u. node_line;
      }

      pub stay_rebuilt : IsRebuilt f g n n (n ∷ h ∷ [])
      stay_rebuilt = record {
        before = lay;
        after = hg;
        columns = i.columns;
        root = i.root ∙ root_kept f n;
        used = used_by f n P can.put.is_p;
        answer = used_by g n P i.can.is_p;
        n_in = occurs_here n (h ∷ []);
        a_in = occurs_here n (h ∷ []);
        shapes = λ m z. i.shapes m;
        children = λ m z. let t = two_kinds n h m z in i.others m t.0 t.1 ∙ sym (replaced_self (children_at f m) n);
        written = (stay_node, (stay_line, tt));
      }

      pub stay_remarked : AreRemarked f g v v n n (n ∷ h ∷ [])
      stay_remarked = unmarked f g v n (n ∷ h ∷ []) (
        is_answer refl,
        (
          is_partial can.partial can.partial (under_n h can.put.line) (λ k o. (line_has k o, neither n h k (inner_n k o) (inner_h k o))),
          tt,
        ),
      )

      stay_same : (k : ℕ) → IsInUse f k → IsAtOrAbove f.slots n k → k ≢ n → k ≢ h → IsSameAt f v g v k
      stay_same k u l a b = same_at f g n n (n ∷ h ∷ []) stay_rebuilt v v stay_remarked k u l (neither n h k a b)

      pub stay_absorbed : IsAbsorbed f v g v n h c end n
      stay_absorbed = record {
        shape = i.shapes h ∙ can.put.is_q;
        children = i.line;
        added = stay_same c (child_used f n c lay can.put.child) (under_n c can.put.child) (λ e. n_c (sym e)) (λ e. can.put.apart (sym e));
        inner = λ k o. stay_same k (child_used f h k lay o) (under_h k o) (inner_n k o) (inner_h k o);
        place = inl (
          refl,
          i.can.is_p,
          long,
          (λ k. ap (λ z. occurs z k + occurs (c ∷ []) k) i.node ∙ without_bag f n c lay can.put.child k),
          (λ k o a b. stay_same k (child_used f n k lay o) (under_n k o) (child_n k o) a),
        );
      }

      pub stay_treated : IsTreated f g v v n n
      stay_treated = treated f g n n (n ∷ h ∷ []) stay_rebuilt v v stay_remarked can.one can.two

    -- where none is left
    module _ (g' : Layout) (w : Marks) (hg : IsLayout g') (d : IsHandedOn g g' v w n h) where
      only_line : (k : ℕ) → 1 ≤ occurs (children_at f n) k → (k ≡ h) ⊎ (k ≡ c)
      only_line k o = only_two (children_at f n) c h k (sym i.node ∙ d.only) o

      no_node : occurs (children_at g h) n ≡ 0
      no_node = elim (cases_lt 0 (occurs (children_at g h) n)) [
        | inl o ↦ absurd (elim (in_line n o) [ inl e ↦ n_c e | inr q ↦ inner_n n q refl ])
        | inr o ↦ omega arith
      ]

      line_is : children_at g' h ≡ children_at g h
      line_is = handed_children g g' v w n h d n_h no_node

      line_down : (k : ℕ) → 1 ≤ occurs (children_at g h) k → IsAtOrAbove g'.slots h k
      line_down k o = down h k k (subst (λ z. 1 ≤ occurs z k) (sym line_is) o) (here k)

      go_node : IsWritten f g' n h (n ∷ h ∷ []) n
      go_node = record {
        mine = inl (here n);
        closed = λ j o. inl refl;
        no_leaf = leaf_n;
        two = λ s. absurd (elim s [ inl e ↦ (let z : None ≡ Some P = sym d.gone ∙ e in cc) | inr e ↦ (let z : None ≡ Some Q = sym d.gone ∙ e in cc) ]);
        down = λ k o u. elim (only_line k o) [
          | inl e ↦ subst (λ z. IsAtOrAbove g'.slots h z) (sym e) (here h)
          | inr e ↦ subst (λ z. IsAtOrAbove g'.slots h z) (sym e) (line_down c line_new)
        ];
        up = λ k o. absurd (let z : children_at g' n ≡ [] = subst (λ s. MayHaveChildren s (children_at g' n)) d.gone (hg.children_fit n) in
            let q : 1 ≤ occurs [] k = subst (λ ks. 1 ≤ occurs ks k) z o in omega arith);
        all = λ u. absurd (u d.gone);
      }

      go_line : IsWritten f g' n h (n ∷ h ∷ []) h
      go_line = record {
        mine = inl (under_n h can.put.line);
        closed = closed_h;
        no_leaf = leaf_h;
        two = λ s. subst (λ z. 2 ≤ length z) (sym (line_is ∙ i.line)) (let q : 2 ≤ length (children_at f h) = line_long in omega (arith, put_on_length end c (children_at f h)));
        down = λ k o u. line_down k (line_has k o);
        up = λ k o. elim (in_line k (subst (λ z. 1 ≤ occurs z k) line_is o)) [
          | inl e ↦ inl (subst (λ z. IsAtOrAbove f.slots n z) (sym e) (under_n c can.put.child))
          | inr q ↦ inl (under_h k q)
        ];
        all = λ u. here h;
      }

      line_shape : shape_at g' h ≡ Some Q
      line_shape = d.shapes h (λ e. n_h (sym e)) ∙ i.shapes h ∙ can.put.is_q

      pub go_rebuilt : IsRebuilt f g' n h (n ∷ h ∷ [])
      go_rebuilt = record {
        before = lay;
        after = hg;
        columns = d.columns ∙ i.columns;
        root = d.root ∙ ap (λ r. if r == n then h else r) i.root;
        used = used_by f n P can.put.is_p;
        answer = used_by g' h Q line_shape;
        n_in = occurs_here n (h ∷ []);
        a_in = omega (arith, occurs_here h []);
        shapes = λ m z. let t = two_kinds n h m z in d.shapes m t.0 ∙ i.shapes m;
        children = λ m z. let t = two_kinds n h m z in d.children m t.0 ∙ ap (λ xs. with_replaced xs n h) (i.others m t.0 t.1);
        written = (go_node, (go_line, tt));
      }

      pub go_remarked : AreRemarked f g' v w n h (n ∷ h ∷ [])
      go_remarked = handed_remarked f g g' v w n h (n ∷ h ∷ []) d (labelled_room f v h lay can.put.is_q can.room) (λ m z. (two_kinds n h m z).1) (is_gone d.gone, (is_answer refl, tt))

      go_same : (k : ℕ) → IsInUse f k → IsAtOrAbove f.slots n k → k ≢ n → k ≢ h → IsSameAt f v g' w k
      go_same k u l a b = same_at f g' n h (n ∷ h ∷ []) go_rebuilt v w go_remarked k u l (neither n h k a b)

      pub go_absorbed : IsAbsorbed f v g' w n h c end h
      go_absorbed = record {
        shape = line_shape;
        children = line_is ∙ i.line;
        added = go_same c (child_used f n c lay can.put.child) (under_n c can.put.child) (λ e. n_c (sym e)) (λ e. can.put.apart (sym e));
        inner = λ k o. go_same k (child_used f h k lay o) (under_h k o) (inner_n k o) (inner_h k o);
        place = inr (refl, λ k. let q : occurs (without (children_at f n) c) k ≡ occurs (h ∷ []) k = ap (λ z. occurs z k) (sym i.node ∙ d.only) in omega (arith, without_bag f n c lay can.put.child k));
      }

      pub go_treated : IsTreated f g' v w n h
      go_treated = treated f g' n h (n ∷ h ∷ []) go_rebuilt v w go_remarked can.one can.two
