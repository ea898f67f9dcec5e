-- The arena stands for the forest with other children at one node.
use Rattle.std.proofs.Common.{◌≡◌, ◌≢◌, inl, inr, ℕ, ◌+◌, ◌≤◌, ◌<◌, List, [], ◌∷◌, length, set, Option, Some, None, sym, ap, subst, ◌∙◌, arith}
use Rattle.std.proofs.lemmas.Bool.{cases_eq, cases_lt}
use Rattle.std.proofs.lemmas.List.{get_or-set_same, get_or-set_other, length-set}
use Rattle.arena_model.specs.declared.Shape.{Shape}
use Rattle.arena_model.specs.declared.Shape.TheVariants.{Leaf, P, Q}
use Rattle.pq_arena.specs.declared.node.Link.{Link}
use Rattle.pq_arena.specs.declared.node.Head.{Head}
use Rattle.arena_model.proofs.Lists.{occurs_here}
use Rattle.arena_model.proofs.Slots.{in_range, used_by, children_same, children_other, shape_same, times_with, children_times, children_apart, some_inj}
use Rattle.arena_model.specs.Layout.{Layout, shape_at, children_at, times_child, IsLayout, with_children}
use Rattle.column_order.specs.Orders.{occurs}
use Rattle.pq_arena.proofs.Between.{chain_map}
use Rattle.pq_arena.specs.StandsFor.{IsInRing, IsInRun, IsSeated, head_of, AreSpare, StandsFor}
use Rattle.pq_arena.specs.Wiring.{no_link, no_head, link, head, kind_shape}

-- the seats of nodes whose links stay
pub seated_map : (ls ls' : List Link) (m : ℕ) (s : Option Shape) (ks : List ℕ) →
    ((x : ℕ) → 1 ≤ occurs ks x → link ls' x ≡ link ls x) → IsSeated ls m s ks → IsSeated ls' m s ks
seated_map ls ls' m None ks same h = tt
seated_map ls ls' m (Some (Leaf a)) ks same h = tt
seated_map ls ls' m (Some P) ks same h = chain_map (IsInRing ls m) (IsInRing ls' m) ks _ _ (λ x p q o e. same x o ∙ e) h
seated_map ls ls' m (Some Q) ks same h =
    chain_map (IsInRun ls m) (IsInRun ls' m) ks _ _ (λ x p q o c. elim c [ inl e ↦ inl (same x o ∙ e) | inr e ↦ inr (same x o ∙ e) ]) h

pub spare_map : (hs hs' : List Head) (x : ℕ) (ys : List ℕ) →
    ((y : ℕ) → 1 ≤ occurs ys y → (head hs' y).first ≡ (head hs y).first) → AreSpare hs x ys → AreSpare hs' x ys
spare_map hs hs' x [] same h = h
spare_map hs hs' x (y ∷ ys) same h = (
  h.0,
  subst (λ z. AreSpare hs' z ys) (sym (same y (occurs_here y ys)))
      (spare_map hs hs' (head hs y).first ys (λ z o. same z (omega arith)) h.1),
)

pub stands_with : (ls ls' : List Link) (hs hs' : List Head) (root spare count columns : ℕ) (f : Layout) (p : ℕ) (s : Shape) (ks : List ℕ) →
    StandsFor ls hs root spare count columns f → shape_at f p ≡ Some s → IsLayout (with_children f p ks) →
    length ls' ≡ length ls → hs' ≡ set hs p (head_of s ks) → kind_shape (head_of s ks).kind ≡ Some s →
    ((x : ℕ) → occurs (children_at f p) x ≡ 0 → occurs ks x ≡ 0 → link ls' x ≡ link ls x) →
    IsSeated ls' p (Some s) ks →
    ((x : ℕ) → 1 ≤ occurs (children_at f p) x → occurs ks x ≡ 0 → link ls' x ≡ no_link) →
    StandsFor ls' hs' root spare count columns (with_children f p ks)
stands_with ls ls' hs hs' root spare count columns f p s ks h sh layout len heads_is shapely same seated left =
    let lt : p < length f.slots = in_range f p (used_by f p s sh) in
    let slots_len : length (with_children f p ks).slots ≡ length f.slots = length-set f.slots p _ in
    let lt' : p < length (with_children f p ks).slots = omega (arith, slots_len) in
    let hlt : p < length hs = omega (arith, h.heads_few) in
    let at_p : head hs' p ≡ head_of s ks = ap (λ z. head z p) heads_is ∙ get_or-set_same hs p (head_of s ks) no_head hlt in
    let off_p : (m : ℕ) → m ≢ p → head hs' m ≡ head hs m =
    (λ m ne. ap (λ z. head z m) heads_is ∙ get_or-set_other hs p m (head_of s ks) no_head ne) in
    record {
      layout = layout;
      links_few = len ∙ h.links_few ∙ sym slots_len;
      heads_few = ap length heads_is ∙ length-set hs p _ ∙ h.heads_few ∙ sym slots_len;
      root_is = h.root_is;
      columns_are = h.columns_are;
      shapes = λ m. elim (cases_eq m p) [
        | inl e ↦ subst (λ x. kind_shape (head hs' x).kind ≡ shape_at (with_children f p ks) x) (sym e)
            (ap (λ (z : Head). kind_shape z.kind) at_p ∙ shapely ∙ sym sh ∙ sym (shape_same f p p ks lt))
        | inr ne ↦ ap (λ (z : Head). kind_shape z.kind) (off_p m ne) ∙ h.shapes m ∙ sym (shape_same f p m ks lt)
      ];
      heads_are = λ m t e. elim (cases_eq m p) [
        | inl q ↦ let te : s ≡ t = some_inj s t (sym sh ∙ sym (shape_same f p p ks lt) ∙ subst (λ x. shape_at (with_children f p ks) x ≡ Some t) q e) in
            subst (λ x. head hs' x ≡ head_of t (children_at (with_children f p ks) x)) (sym q)
            (at_p ∙ ap (λ z. head_of z ks) te ∙ ap (λ z. head_of t z) (sym (children_same f p ks lt)))
        | inr ne ↦ off_p m ne ∙ h.heads_are m t (sym (shape_same f p m ks lt) ∙ e) ∙ ap (λ z. head_of t z) (sym (children_other f p m ks ne))
      ];
      seats = λ m. elim (cases_eq m p) [
        | inl q ↦ subst (λ x. IsSeated ls' x (shape_at (with_children f p ks) x) (children_at (with_children f p ks) x)) (sym q)
            (subst (λ z. IsSeated ls' p z (children_at (with_children f p ks) p)) (sym (shape_same f p p ks lt ∙ sh))
            (subst (λ z. IsSeated ls' p (Some s) z) (sym (children_same f p ks lt)) seated))
        | inr ne ↦ subst (λ z. IsSeated ls' m z (children_at (with_children f p ks) m)) (sym (shape_same f p m ks lt))
            (subst (λ z. IsSeated ls' m (shape_at f m) z) (sym (children_other f p m ks ne))
            (seated_map ls ls' m (shape_at f m) (children_at f m)
            (λ x o.
            let a : occurs (children_at f m) x + occurs (children_at f p) x ≤ times_child f.slots x = children_apart f m p x ne lt in
            let b : times_child f.slots x ≤ 1 = h.layout.once x in
            let o' : 1 ≤ occurs (children_at (with_children f p ks) m) x = subst (λ z. 1 ≤ occurs z x) (sym (children_other f p m ks ne)) o in
            let a' : occurs (children_at (with_children f p ks) m) x + occurs (children_at (with_children f p ks) p) x ≤ times_child (with_children f p ks).slots x =
            children_apart (with_children f p ks) m p x ne lt' in
            let b' : times_child (with_children f p ks).slots x ≤ 1 = layout.once x in
            let z : occurs (children_at (with_children f p ks) p) x ≡ 0 = omega arith in
            same x (omega arith) (subst (λ z. occurs z x ≡ 0) (children_same f p ks lt) z))
            (h.seats m)))
      ];
      tops = λ x e.
          let k : occurs (children_at (with_children f p ks) p) x ≤ times_child (with_children f p ks).slots x = children_times (with_children f p ks) p x in
          let k0 : occurs (children_at (with_children f p ks) p) x ≡ 0 = omega arith in
          let k1 : occurs ks x ≡ 0 = subst (λ z. occurs z x ≡ 0) (children_same f p ks lt) k0 in
          elim (cases_lt 0 (occurs (children_at f p) x)) [
            | inl o ↦ left x o k1
            | inr o ↦ let o0 : occurs (children_at f p) x ≡ 0 = omega arith in
                same x o0 k1 ∙ h.tops x (omega (arith, times_with f p ks x lt))
          ];
      spares_are = spare_map hs hs' spare f.spares
          (λ y o. ap (λ z. z.first) (off_p y (λ e. used_by f p s sh (subst (λ z. shape_at f z ≡ None) e (h.layout.spare_free y o).0)))) h.spares_are;
      spares_count = h.spares_count;
    }
