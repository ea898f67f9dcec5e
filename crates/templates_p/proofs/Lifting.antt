-- A line takes the place of its node: what its steps ask for, and what they come to.
use Rattle.std.proofs.Common.{◌≡◌, ◌≢◌, ◌⊎◌, inl, inr, ℕ, ◌+◌, ◌*◌, ◌≤◌, ◌<◌, true, false, cond, eqb, List, [], ◌∷◌, length, Some, None, refl, sym, ap, subst, ◌∙◌, arith, slice_index_or}
use Rattle.std.proofs.lemmas.Bool.{cases_lt}
use Rattle.std.proofs.lemmas.List.{get_or-set_same, length-set}
use Rattle.column_order.specs.Orders.{occurs}
use Rattle.arena_model.specs.declared.Shape.{Shape}
use Rattle.arena_model.specs.declared.Shape.TheVariants.{P, Q}
use Rattle.arena_model.specs.ChildLists.{head_or, none, without, put_on}
use Rattle.arena_model.specs.Layout.{Layout, shape_at, children_at, times_child, with_children, given_back, IsAtOrAbove, here, down, IsLayout, IsLeaf, StandsAlone}
use Rattle.arena_model.proofs.Lists.{occurs_here, without_same}
use Rattle.arena_model.proofs.Bare.{bare_children, bare_other, bare_shape, bare_times}
use Rattle.arena_model.proofs.Paths.{other_top}
use Rattle.arena_model.proofs.Slots.{some_inj, in_range, used_by, children_same, children_other, shape_same, times_with, children_times, child_used}
use Rattle.arena_model.proofs.Trees.{no_circle}
use Rattle.pq_arena.specs.declared.node.NodeId.{NodeId}
use Rattle.pq_arena.specs.declared.node.NodeView.{NodeView}
use Rattle.pq_arena.specs.Looks.{ShowsNode, shown_ends, node_named}
use Rattle.bubble_pass.specs.declared.labels.Label.{Label as Mark}
use Rattle.bubble_pass.specs.declared.labels.Label.TheVariants.{Empty}
use Rattle.bubble_pass.specs.Marks.{Marks, label_at, size_of, IsPut}
use Rattle.templates_p.specs.Dividing.{IsOneLeft}
use Rattle.templates_p.specs.Lines.{IsHandedOver}
use Rattle.templates_p.specs.Parts.{AreMoved, IsLeftPart, CanLift, IsParted}
use Rattle.templates_p.proofs.Rebuilt.{replaced_none}
use Rattle.templates_p.proofs.Chaining.{child_once}
use Rattle.templates_p.proofs.Moving.{IsLoose, loose, without_less}
use Rattle.templates_p.proofs.Handing.{taken_off, taken_child}
use Rattle.templates_p.proofs.Handed.{labelled_room, put_moved, moved_emptied}
use Rattle.templates_p.proofs.Settling.{shown_length}
use Rattle.templates_p.proofs.Siding.{head_in, named_is, named_some}

-- the first child that a look at a P-node shows
shown_front : (f : Layout) (n : ℕ) (view : NodeView) → ShowsNode f n view → shape_at f n ≡ Some P → slice_index_or view.ends 0 None ≡ node_named (head_or (children_at f n) none)
shown_front f n view s p =
    let e : view.shape ≡ P = some_inj view.shape P (sym s.shape_is ∙ p) in
    ap (λ xs. slice_index_or xs 0 None) (s.ends ∙ ap (λ t. shown_ends t (children_at f n)) e)

only_head : (xs : List ℕ) (y d : ℕ) → 1 ≤ length xs → length xs ≤ 1 → y ≡ head_or xs d → xs ≡ y ∷ []
only_head [] y d l m e = absurd (omega arith)
only_head (x ∷ []) y d l m e = ap (λ z. z ∷ []) (sym e)
only_head (x ∷ z ∷ xs) y d l m e = absurd (omega arith)

pub some_shown : (f : Layout) (n : ℕ) (view : NodeView) → IsLayout f → ShowsNode f n view → shape_at f n ≡ Some P → 1 ≤ length (children_at f n) → slice_index_or view.ends 0 None ≡ None → ⊥
some_shown f n view lay s p some e =
    let y : ℕ = head_or (children_at f n) none in
    let l : y < length f.slots = in_range f y (child_used f n y lay (head_in (children_at f n) none some)) in
    named_some y (λ q. let a : length f.slots ≡ 2 * f.columns + 4 = lay.size in let b : f.columns ≤ 32768 = lay.few in let c : y ≡ 4294967295 = q in omega arith) (sym (shown_front f n view s p) ∙ e)

-- what giving back n asks for
pub record IsReadyToGive (g : Layout) (n : ℕ) : Type 0 where
  pub alone : StandsAlone g n
  pub bare : children_at g n ≡ []
  pub inner : (s : Shape) → shape_at g n ≡ Some s → IsLeaf s → ⊥

ready_to_give : (f : Layout) (n e : ℕ) → StandsAlone f n → shape_at f n ≡ Some P → children_at f n ≡ e ∷ [] → IsReadyToGive (taken_off f n e) n
ready_to_give f n e alone is_p only =
    let ks : List ℕ = without (children_at f n) e in
    let lt : n < length f.slots = in_range f n (used_by f n P is_p) in
    record {
      alone = record {
        used = used_by (taken_off f n e) n P (shape_same f n n ks lt ∙ is_p);
        apart = let a : times_child f.slots n ≡ 0 = alone.apart in omega (arith, times_with f n ks n lt, without_less (children_at f n) e n);
        other = alone.other;
      };
      bare = children_same f n ks lt ∙ ap (λ xs. without xs e) only ∙ without_same e [];
      inner = λ s q l. let z : P ≡ s = some_inj P s (sym (shape_same f n n ks lt ∙ is_p) ∙ q) in subst (λ t. IsLeaf t) (sym z) l;
    }

-- the only child e of n
pub record IsOnly (f : Layout) (n e : ℕ) : Type 0 where
  pub is : children_at f n ≡ e ∷ []
  pub child : 1 ≤ occurs (children_at f n) e

pub only_shown : (f : Layout) (n : ℕ) (view : NodeView) (first : NodeId) → ShowsNode f n view → shape_at f n ≡ Some P → slice_index_or view.ends 0 None ≡ Some first →
    1 ≤ length (children_at f n) → view.children ≤ 1 → IsOnly f n first.index
only_shown f n view first s p e l m =
    let is : children_at f n ≡ first.index ∷ [] = only_head (children_at f n) first.index none l (omega (arith, shown_length f n view s p))
    (named_is (head_or (children_at f n) none) first (sym (shown_front f n view s p) ∙ e)) in
    record { is = is; child = subst (λ ks. 1 ≤ occurs ks first.index) (sym is) (occurs_here first.index []) }

-- once it was taken from n
pub may_give : (f g : Layout) (n e : ℕ) → StandsAlone f n → shape_at f n ≡ Some P → IsOnly f n e → (1 ≤ occurs (children_at f n) e → g ≡ taken_off f n e) → IsReadyToGive g n
may_give f g n e alone is_p only off = subst (λ z. IsReadyToGive z n) (sym (off only.child)) (ready_to_give f n e alone is_p only.is)

-- a way that doesn't come by a node that is no child
pub way_apart : (f g : Layout) (n r h : ℕ) → times_child f.slots n ≡ 0 → ((m : ℕ) → m ≢ n → children_at g m ≡ children_at f m) → r ≢ n → IsAtOrAbove f.slots r h → IsAtOrAbove g.slots r h
way_apart f g n _ _ top same ne (here m) = here m
way_apart f g n _ _ top same ne (down m k x o l) = down m k x (subst (λ ks. 1 ≤ occurs ks k) (sym (same m ne)) o)
    (way_apart f g n k x top same (λ e. let a : occurs (children_at f m) k ≤ times_child f.slots k = children_times f m k in
    let b : times_child f.slots k ≡ 0 = subst (λ z. times_child f.slots z ≡ 0) (sym e) top in omega arith) l)

-- the arena once what is left of n was made one node, which stands alone
pub record IsLeftAlone (g i : Layout) (n e : ℕ) : Type 0 where
  pub columns : i.columns ≡ g.columns
  pub root : i.root ≡ g.root
  pub shapes : (m : ℕ) → m ≢ n → shape_at i m ≡ shape_at g m
  pub children : (m : ℕ) → m ≢ n → children_at i m ≡ children_at g m
  pub alone : StandsAlone i e
  pub part : ((e ≡ n) × (shape_at i n ≡ Some P) × (children_at i n ≡ children_at g n) × (2 ≤ length (children_at g n))) ⊎ ((shape_at i n ≡ None) × (children_at g n ≡ e ∷ []))

-- where the only child is left
gone_alone : (g : Layout) (n e : ℕ) → IsLayout g → StandsAlone g n → shape_at g n ≡ Some P → children_at g n ≡ e ∷ [] → IsLeftAlone g (given_back (taken_off g n e) n) n e
gone_alone g n e lg alone is_p only =
    let ks : List ℕ = without (children_at g n) e in
    let g1 : Layout = taken_off g n e in
    let ys : List ℕ = n ∷ g1.spares in
    let lt : n < length g.slots = in_range g n (used_by g n P is_p) in
    let lt1 : n < length g1.slots = in_range g1 n (used_by g1 n P (shape_same g n n ks lt ∙ is_p)) in
    let o : 1 ≤ occurs (children_at g n) e = subst (λ xs. 1 ≤ occurs xs e) (sym only) (occurs_here e []) in
    let free : IsLoose g n e = loose g n e lg is_p o in
    let r : IsReadyToGive g1 n = ready_to_give g n e alone is_p only in
    let ne : e ≢ n = (λ q. no_circle g.slots n e (lg.grounds n) o (subst (λ z. IsAtOrAbove g.slots e z) q (here e))) in
    record {
      columns = refl;
      root = refl;
      shapes = λ m a. bare_other g1 n m None ys a ∙ shape_same g n m ks lt;
      children = λ m a. bare_children g1 n m None ys lt1 r.bare ∙ children_other g n m ks a;
      alone = record {
        used = λ q. free.alone.used (sym (bare_other g1 n e None ys ne) ∙ q);
        apart = bare_times g1 n e None ys lt1 r.bare ∙ free.alone.apart;
        other = free.alone.other;
      };
      part = inr (bare_shape g1 n None ys lt1, only);
    }

pub left_alone : (g i : Layout) (n e : ℕ) → IsLayout g → StandsAlone g n → shape_at g n ≡ Some P → IsOneLeft g i n e → IsLeftAlone g i n e
left_alone g i n e lg alone is_p (inl q) = subst (λ z. IsLeftAlone g z n e) (sym q.2) (record {
  columns = refl;
  root = refl;
  shapes = λ m a. refl;
  children = λ m a. refl;
  alone = subst (λ z. StandsAlone g z) (sym q.0) alone;
  part = inl (q.0, is_p, refl, q.1);
})
left_alone g i n e lg alone is_p (inr q) = subst (λ z. IsLeftAlone g z n e) (sym q.1) (gone_alone g n e lg alone is_p q.0)

part_left : (g i : Layout) (v w : Marks) (n e : ℕ) → IsLeftPart g i v w n e → IsOneLeft g i n e
part_left g i v w n e (inl q) = inl (q.0, q.1, q.2)
part_left g i v w n e (inr q) = inr (q.0, q.1)

length_without : (xs : List ℕ) (n : ℕ) → length (without xs n) + occurs xs n ≡ length xs
length_without [] n = refl
length_without (x ∷ xs) n = elim (eqb x n) as (λ b. length (cond b (without xs n) (x ∷ without xs n)) + (cond {A = ℕ} b 1 0 + occurs xs n) ≡ length (x ∷ xs)) [
  | true ↦ omega (arith, length_without xs n)
  | false ↦ omega (arith, length_without xs n)
]

module _ (f g : Layout) (v : Marks) (n h : ℕ) (lf : IsLayout f) (can : CanLift f v n h) (d : IsHandedOver f g n h) where
  lift_apart : n ≢ h
  lift_apart = (taken_child f n h lf can.hand).apart

  node_shape : shape_at g n ≡ Some P
  node_shape = d.shapes n ∙ can.hand.is_p

  -- some child is left below n
  some_left : 1 ≤ length (children_at g n)
  some_left = subst (λ ks. 1 ≤ length ks) (sym d.node_children) (let a : 2 ≤ length (children_at f n) = can.more in omega (arith, length_without (children_at f n) h, child_once f n h lf))

  no_node : occurs (children_at f h) n ≡ 0
  no_node = elim (cases_lt 0 (occurs (children_at f h) n)) [
    | inl o ↦ absurd (no_circle f.slots n h (lf.grounds n) can.hand.child (down h n n o (here n)))
    | inr o ↦ omega arith
  ]

  module _ (i : Layout) (e : ℕ) (lg : IsLayout g) (li : IsLayout i) (a : IsLeftAlone g i n e) where
    lift_shape : shape_at i h ≡ Some Q
    lift_shape = a.shapes h (λ q. lift_apart (sym q)) ∙ d.shapes h ∙ can.is_q

    lift_no_way : IsAtOrAbove i.slots e h → ⊥
    lift_no_way l = other_top i i.root e h li li.root_top a.alone.apart (λ q. a.alone.other (sym q))
        (subst (λ z. IsAtOrAbove i.slots z h) (sym a.root) (way_apart g i n g.root h d.alone.apart a.children (λ q. d.alone.other (sym q)) d.above)) l

    line_in : h < length i.slots
    line_in = in_range i h (used_by i h Q lift_shape)

    line_is : children_at i h ≡ children_at f h
    line_is = a.children h (λ q. lift_apart (sym q)) ∙ d.children h (λ q. lift_apart (sym q)) ∙ replaced_none (children_at f h) n h no_node

    -- n is marked as empty, or gone
    module _ (end : ℕ) (w1 w : Marks) (m : AreMoved v w1 n h) where
      n_room : n < length w1.labels
      n_room = let l : n < length f.slots = in_range f n (used_by f n P can.hand.is_p) in let r : size_of v ≡ length f.slots = can.room in omega (arith, m.alike.room)

      lifted_kept : IsLeftPart g i w1 w n e → IsParted f (with_children i h (put_on end e (children_at i h))) v w n h end (without (children_at f n) h) (children_at f h)
      lifted_kept l = record {
        e = e;
        columns = a.columns ∙ d.columns;
        root = a.root ∙ d.root;
        is_q = shape_same i h h (put_on end e (children_at i h)) line_in ∙ lift_shape;
        shapes = λ m p r. shape_same i h m (put_on end e (children_at i h)) line_in ∙ a.shapes m p ∙ d.shapes m;
        children = λ m p r. children_other i h m (put_on end e (children_at i h)) r ∙ a.children m p ∙ d.children m p;
        over = children_same i h (put_on end e (children_at i h)) line_in ∙ ap (put_on end e) line_is;
        part = elim l [
          | inl q ↦ inl (
            q.0,
            shape_same i h n (put_on end e (children_at i h)) line_in ∙ ap (λ z. shape_at z n) q.2 ∙ node_shape,
            children_other i h n (put_on end e (children_at i h)) lift_apart ∙ ap (λ z. children_at z n) q.2 ∙ d.node_children,
            subst (λ ks. 2 ≤ length ks) d.node_children q.1,
            ap (λ z. label_at z n) q.3 ∙ get_or-set_same w1.labels n Empty Empty n_room,
          )
          | inr q ↦ inr (shape_same i h n (put_on end e (children_at i h)) line_in ∙ gone q, sym d.node_children ∙ q.0)
        ];
        marks = elim l [
          | inl q ↦ subst (λ z. AreMoved v z n h) (sym q.3) (moved_emptied v w1 n h lift_apart m)
          | inr q ↦ subst (λ z. AreMoved v z n h) (sym q.2) m
        ];
      }
        where
          gone : (children_at g n ≡ e ∷ []) × (i ≡ given_back (with_children g n (without (children_at g n) e)) n) × (w ≡ w1) → shape_at i n ≡ None
          gone q = elim a.part [
            | inl p ↦ absurd (let z : 2 ≤ length (children_at g n) = p.3 in let y : length (children_at g n) ≡ 1 = ap (λ ks. length ks) q.0 in omega arith)
            | inr p ↦ p.0
          ]

-- what putting what is left of n at an end of h asks for
pub record IsReadyToLift (i : Layout) (h e : ℕ) : Type 0 where
  pub shape : shape_at i h ≡ Some Q
  pub alone : StandsAlone i e
  pub no_way : IsAtOrAbove i.slots e h → ⊥

pub ready_to_lift : (f g i : Layout) (v w1 w : Marks) (n h e : ℕ) → IsLayout f → IsLayout g → IsLayout i → CanLift f v n h → IsHandedOver f g n h → IsLeftPart g i w1 w n e → IsReadyToLift i h e
ready_to_lift f g i v w1 w n h e lf lg li can d p =
    let a : IsLeftAlone g i n e = left_alone g i n e lg d.alone (node_shape f g v n h lf can d) (part_left g i w1 w n e p) in
    record { shape = lift_shape f g v n h lf can d i e lg li a; alone = a.alone; no_way = lift_no_way f g v n h lf can d i e lg li a }

pub lifted : (f g i j : Layout) (v w1 w : Marks) (n h : NodeId) (e end : ℕ) (l : Mark) → IsLayout f → IsLayout g → IsLayout i → CanLift f v n.index h.index → IsHandedOver f g n.index h.index →
    IsPut v w1 n h l → l ≡ label_at v n.index → IsLeftPart g i w1 w n.index e → j ≡ with_children i h.index (put_on end e (children_at i h.index)) →
    IsParted f j v w n.index h.index end (without (children_at f n.index) h.index) (children_at f h.index)
lifted f g i j v w1 w n h e end l lf lg li can d put is p q =
    let a : IsLeftAlone g i n.index e = left_alone g i n.index e lg d.alone (node_shape f g v n.index h.index lf can d) (part_left g i w1 w n.index e p) in
    subst (λ z. IsParted f z v w n.index h.index end (without (children_at f n.index) h.index) (children_at f h.index)) (sym q)
    (lifted_kept f g v n.index h.index lf can d i e lg li a end w1 w
    (put_moved v w1 n h (subst (λ z. IsPut v w1 n h z) is put) (labelled_room f v h.index lf can.is_q can.room)) p)

-- what making one node of what is left of n asks for
pub record IsReadyToPart (g : Layout) (n : ℕ) : Type 0 where
  pub shape : shape_at g n ≡ Some P
  pub some : 1 ≤ length (children_at g n)

pub ready_to_part : (f g : Layout) (v : Marks) (n h : ℕ) → IsLayout f → CanLift f v n h → IsHandedOver f g n h → IsReadyToPart g n
ready_to_part f g v n h lf can d = record { shape = node_shape f g v n h lf can d; some = some_left f g v n h lf can d }

-- the room stays
pub lift_room : (f : Layout) (v w1 : Marks) (n h : ℕ) (old new : NodeId) (l : Mark) → CanLift f v n h → IsPut v w1 old new l → n < size_of w1
lift_room f v w1 n h old new l can put =
    let a : size_of w1 ≡ size_of v = ap (λ ls. length ls) put.labels ∙ length-set v.labels new.index l in
    let b : n < length f.slots = in_range f n (used_by f n P can.hand.is_p) in
    let r : size_of v ≡ length f.slots = can.room in omega arith
