-- Whether a node gives its place to its only child, and what absorbing a child comes to.
use Rattle.std.proofs.Common.{◌≡◌, inl, inr, ℕ, ◌≤◌, ◌<◌, List, [], ◌∷◌, length, Some, None, refl, sym, ap, subst, ◌∙◌, arith}
use Rattle.std.proofs.lemmas.List.{length-set}
use Rattle.column_order.specs.Orders.{occurs}
use Rattle.arena_model.specs.declared.Shape.{Shape}
use Rattle.arena_model.specs.declared.Shape.TheVariants.{P}
use Rattle.arena_model.specs.ChildLists.{without}
use Rattle.arena_model.specs.Layout.{Layout, shape_at, children_at, IsLayout, IsLeaf, with_children, given_back}
use Rattle.arena_model.proofs.Lists.{only_one, without_same}
use Rattle.arena_model.proofs.Slots.{some_inj, in_range, used_by}
use Rattle.arena_model.proofs.Bare.{bare_children, bare_other, bare_shape}
use Rattle.pq_arena.specs.declared.node.NodeId.{NodeId}
use Rattle.pq_arena.specs.declared.node.NodeView.{NodeView}
use Rattle.pq_arena.specs.Looks.{ShowsNode, shown_count}
use Rattle.bubble_pass.specs.Marks.{Marks, label_at, IsPut}
use Rattle.template_model.specs.Treated.{IsTreated}
use Rattle.templates_p.specs.Lines.{CanHandOver, IsHandedOver, IsHandedOn, IsSettled, put_in, CanAbsorb, IsAbsorbed}
use Rattle.templates_p.proofs.Absorbing.{is_put_in, stay_treated, stay_absorbed, go_treated, go_absorbed, IsPutIn}

pub shown_length : (f : Layout) (n : ℕ) (view : NodeView) → ShowsNode f n view → shape_at f n ≡ Some P → view.children ≡ length (children_at f n)
shown_length f n view s p =
    let e : view.shape ≡ P = some_inj view.shape P (sym s.shape_is ∙ p) in
    s.children ∙ ap (λ t. shown_count t (children_at f n)) e

pub only_child : (xs : List ℕ) (y : ℕ) → length xs ≤ 1 → 1 ≤ occurs xs y → xs ≡ y ∷ []
only_child [] y e o = absurd (omega arith)
only_child (x ∷ []) y e o = ap (λ z. z ∷ []) (sym (only_one y x o))
only_child (x ∷ z ∷ xs) y e o = absurd (omega arith)

-- nothing is left below the node
pub none_left : (f g : Layout) (n h : ℕ) → CanHandOver f n h → IsHandedOver f g n h → length (children_at f n) ≤ 1 → children_at g n ≡ []
none_left f g n h can d l =
    d.node_children ∙ ap (λ ks. without ks h) (only_child (children_at f n) h l can.child) ∙ without_same h []

pub handed_on : (f g i : Layout) (v w : Marks) (n h : NodeId) → CanHandOver f n.index h.index → IsHandedOver f g n.index h.index → length (children_at f n.index) ≤ 1 →
    i ≡ given_back g n.index → IsPut v w n h (label_at v n.index) → IsHandedOn f i v w n.index h.index
handed_on f g i v w n h can d l e put = subst (λ z. IsHandedOn f z v w n.index h.index) (sym e) (record {
  only = only_child (children_at f n.index) h.index l can.child;
  columns = d.columns;
  root = d.root;
  gone = bare_shape g n.index None (n.index ∷ g.spares) lt;
  shapes = λ m ne. bare_other g n.index m None (n.index ∷ g.spares) ne ∙ d.shapes m;
  children = λ m ne. bare_children g n.index m None (n.index ∷ g.spares) lt (none_left f g n.index h.index can d l) ∙ d.children m ne;
  old = n;
  new = h;
  old_is = refl;
  new_is = refl;
  put = put;
})
  where
    lt : n.index < length g.slots
    lt = in_range g n.index (used_by g n.index P (d.shapes n.index ∙ can.is_p))

pub inner_node : (f g : Layout) (n h : ℕ) → CanHandOver f n h → IsHandedOver f g n h → (s : Shape) → shape_at g n ≡ Some s → IsLeaf s → ⊥
inner_node f g n h can d s e l =
    let q : P ≡ s = some_inj P s (sym (d.shapes n ∙ can.is_p) ∙ e) in subst (λ z. IsLeaf z) (sym q) l

-- absorbing, in both cases
pub absorbed : (f i : Layout) (v w : Marks) (n h c end a : ℕ) → IsLayout f → IsLayout i → CanAbsorb f v n h c → IsSettled (put_in f n h end c) i v w n h a →
    IsTreated f i v w n a × IsAbsorbed f v i w n h c end a
absorbed f i v w n h c end a lay li can (inl s) =
    let g : Layout = put_in f n h end c in
    let p : IsPutIn f g n h c end = is_put_in f n h c end lay can.put in
    let lg : IsLayout g = subst IsLayout s.1 li in
    subst (λ z. IsTreated f i v w n z × IsAbsorbed f v i w n h c end z) (sym s.0)
    (subst (λ z. IsTreated f i v z n n × IsAbsorbed f v i z n h c end n) (sym s.2) (subst (λ z. IsTreated f z v v n n × IsAbsorbed f v z v n h c end n) (sym s.1)
    (stay_treated f v n h c end lay can g p lg s.3, stay_absorbed f v n h c end lay can g p lg s.3)))
absorbed f i v w n h c end a lay li can (inr s) =
    let g : Layout = put_in f n h end c in
    let p : IsPutIn f g n h c end = is_put_in f n h c end lay can.put in
    subst (λ z. IsTreated f i v w n z × IsAbsorbed f v i w n h c end z) (sym s.0) (go_treated f v n h c end lay can g p i w li s.1, go_absorbed f v n h c end lay can g p i w li s.1)

pub put_in_length : (f : Layout) (n h end c : ℕ) → length (put_in f n h end c).slots ≡ length f.slots
put_in_length f n h end c =
    let g : Layout = with_children f n (without (children_at f n) c) in
    length-set g.slots h _ ∙ length-set f.slots n _
