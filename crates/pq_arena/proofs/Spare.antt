-- A spare node is taken, and a node without children is given back.
use Rattle.std.proofs.Common.{◌≡◌, ◌≢◌, inl, inr, ℕ, ◌+◌, ◌-◌, ◌≤◌, ◌<◌, List, [], ◌∷◌, length, set, Option, Some, None, refl, sym, ap, subst, ◌∙◌, arith}
use Rattle.arena_model.specs.declared.TheConstants.{NODE_BOUND}
use Rattle.std.proofs.lemmas.Bool.{cases_eq, cases_lt}
use Rattle.std.proofs.lemmas.List.{get_or-set_same, get_or-set_other, length-set}
use Rattle.arena_model.specs.declared.Shape.{Shape}
use Rattle.arena_model.specs.declared.Shape.TheVariants.{Leaf, P, Q}
use Rattle.pq_arena.specs.declared.node.Link.{Link}
use Rattle.pq_arena.specs.declared.node.Head.{Head}
use Rattle.arena_model.proofs.Bare.{bare, bare_shape, bare_other, bare_times, fresh, bare_children}
use Rattle.arena_model.proofs.Lists.{occurs_here, occurs_same, occurs_other, few_once}
use Rattle.arena_model.proofs.Slots.{some_none, in_range, less_grounded, some_inj, few_slots}
use Rattle.arena_model.specs.ChildLists.{all_but_first}
use Rattle.arena_model.specs.Layout.{Layout, shape_at, children_at, times_child, MayHaveChildren, StandsAlone, given_back, IsLeaf}
use Rattle.column_order.specs.Orders.{occurs}
use Rattle.pq_arena.proofs.Children.{spare_map}
use Rattle.pq_arena.specs.StandsFor.{IsSeated, head_of, AreSpare, StandsFor}
use Rattle.pq_arena.specs.Wiring.{no_head, head, fresh_head, kind_shape, spare_head, kind_of}

pub no_children : (s : Option Shape) → MayHaveChildren s []
no_children None = refl
no_children (Some (Leaf a)) = refl
no_children (Some P) = tt
no_children (Some Q) = tt

pub not_seated : (ls : List Link) (m : ℕ) (s : Option Shape) → IsSeated ls m s []
not_seated ls m None = tt
not_seated ls m (Some (Leaf a)) = tt
not_seated ls m (Some P) = tt
not_seated ls m (Some Q) = tt

pub bare_stands : (ls : List Link) (hs : List Head) (root spare count columns : ℕ) (f : Layout) (x : ℕ) (s : Option Shape) (ys : List ℕ) (h' : Head) (spare' count' : ℕ) →
    StandsFor ls hs root spare count columns f → x < length f.slots → children_at f x ≡ [] → times_child f.slots x ≡ 0 → x ≢ f.root →
    ((a : ℕ) → a < f.columns → a ≢ x) → ((a : ℕ) → s ≡ Some (Leaf a) → ⊥) → kind_shape h'.kind ≡ s → ((t : Shape) → s ≡ Some t → h' ≡ head_of t []) →
    ((y : ℕ) → occurs ys y ≤ 1) → ((y : ℕ) → 1 ≤ occurs ys y → (shape_at (bare f x s ys) y ≡ None) × (y < length f.slots)) →
    ((y : ℕ) → y < length f.slots → shape_at (bare f x s ys) y ≡ None → 1 ≤ occurs ys y) →
    AreSpare (set hs x h') spare' ys → count' ≡ length ys →
    StandsFor ls (set hs x h') root spare' count' columns (bare f x s ys)
bare_stands ls hs root spare count columns f x s ys h' spare' count' h lt empty top_name ne_root not_leaf no_leaf hs_shape hs_is once free all spares counted =
    let g : Layout = bare f x s ys in
    let len : length g.slots ≡ length f.slots = length-set f.slots x _ in
    let hlt : x < length hs = subst (λ m. x < m) (sym h.heads_few) lt in
    let at_x : head (set hs x h') x ≡ h' = get_or-set_same hs x h' no_head hlt in
    let off_x : (m : ℕ) → m ≢ x → head (set hs x h') m ≡ head hs m = (λ m ne. get_or-set_other hs x m h' no_head ne) in
    record {
      layout = record {
        once = λ y. subst (λ k. k ≤ 1) (sym (bare_times f x y s ys lt empty)) (h.layout.once y);
        used = λ y o.
            let o' : 1 ≤ times_child f.slots y = subst (λ k. 1 ≤ k) (bare_times f x y s ys lt empty) o in
            let ne : y ≢ x = (λ e. let z : times_child f.slots y ≡ 0 = subst (λ k. times_child f.slots k ≡ 0) (sym e) top_name in omega arith) in
            subst (λ t. t ≢ None) (sym (bare_other f x y s ys ne)) (h.layout.used y o');
        children_fit = λ m. elim (cases_eq m x) [
          | inl e ↦ subst (λ z. MayHaveChildren (shape_at g z) (children_at g z)) (sym e)
              (subst (λ z. MayHaveChildren (shape_at g x) z) (sym (bare_children f x x s ys lt empty ∙ empty)) (no_children (shape_at g x)))
          | inr ne ↦ subst (λ z. MayHaveChildren z (children_at g m)) (sym (bare_other f x m s ys ne))
              (subst (λ z. MayHaveChildren (shape_at f m) z) (sym (bare_children f x m s ys lt empty)) (h.layout.children_fit m))
        ];
        grounds = λ m. less_grounded f.slots g.slots (λ n k o. subst (λ z. 1 ≤ occurs z k) (bare_children f x n s ys lt empty) o) m (h.layout.grounds m);
        root_used = subst (λ t. t ≢ None) (sym (bare_other f x f.root s ys (λ e. ne_root (sym e)))) h.layout.root_used;
        root_top = bare_times f x f.root s ys lt empty ∙ h.layout.root_top;
        leaves = λ a l. bare_other f x a s ys (not_leaf a l) ∙ h.layout.leaves a l;
        no_other_leaf = λ m a e. elim (cases_eq m x) [
          | inl q ↦ absurd (no_leaf a (sym (bare_shape f x s ys lt) ∙ subst (λ z. shape_at g z ≡ Some (Leaf a)) q e))
          | inr ne ↦ h.layout.no_other_leaf m a (sym (bare_other f x m s ys ne) ∙ e)
        ];
        some = h.layout.some;
        few = h.layout.few;
        size = len ∙ h.layout.size;
        spare_once = once;
        spare_free = λ y o. ((free y o).0, subst (λ k. y < k) (sym len) (free y o).1);
        spare_all = λ y l e. all y (subst (λ k. y < k) len l) e;
      };
      links_few = h.links_few ∙ sym len;
      heads_few = length-set hs x _ ∙ h.heads_few ∙ sym len;
      root_is = h.root_is;
      columns_are = h.columns_are;
      shapes = λ m. elim (cases_eq m x) [
        | inl e ↦ subst (λ z. kind_shape (head (set hs x h') z).kind ≡ shape_at g z) (sym e) (ap (λ (z : Head). kind_shape z.kind) at_x ∙ hs_shape ∙ sym (bare_shape f x s ys lt))
        | inr ne ↦ ap (λ (z : Head). kind_shape z.kind) (off_x m ne) ∙ h.shapes m ∙ sym (bare_other f x m s ys ne)
      ];
      heads_are = λ m t e. elim (cases_eq m x) [
        | inl q ↦ subst (λ z. head (set hs x h') z ≡ head_of t (children_at g z)) (sym q)
            (at_x ∙ hs_is t (sym (bare_shape f x s ys lt) ∙ subst (λ z. shape_at g z ≡ Some t) q e) ∙ ap (λ z. head_of t z) (sym (bare_children f x x s ys lt empty ∙ empty)))
        | inr ne ↦ off_x m ne ∙ h.heads_are m t (sym (bare_other f x m s ys ne) ∙ e) ∙ ap (λ z. head_of t z) (sym (bare_children f x m s ys lt empty))
      ];
      seats = λ m. elim (cases_eq m x) [
        | inl q ↦ subst (λ z. IsSeated ls z (shape_at g z) (children_at g z)) (sym q)
            (subst (λ z. IsSeated ls x (shape_at g x) z) (sym (bare_children f x x s ys lt empty ∙ empty)) (not_seated ls x (shape_at g x)))
        | inr ne ↦ subst (λ z. IsSeated ls m z (children_at g m)) (sym (bare_other f x m s ys ne))
            (subst (λ z. IsSeated ls m (shape_at f m) z) (sym (bare_children f x m s ys lt empty)) (h.seats m))
      ];
      tops = λ y e. h.tops y (sym (bare_times f x y s ys lt empty) ∙ e);
      spares_are = spares;
      spares_count = counted;
    }

pub told : (s : Option Shape) → kind_shape (kind_of s) ≡ s
told None = refl
told (Some (Leaf a)) = refl
told (Some P) = refl
told (Some Q) = refl

pub head_bare : (t : Shape) → (let h : Head = fresh_head t in h) ≡ head_of t []
head_bare (Leaf a) = refl
head_bare P = refl
head_bare Q = refl

pub take_stands : (ls : List Link) (hs : List Head) (root spare count columns : ℕ) (f : Layout) (x : ℕ) (ys : List ℕ) (t : Shape) →
    StandsFor ls hs root spare count columns f → f.spares ≡ x ∷ ys → (IsLeaf t → ⊥) →
    StandsFor ls (set hs x (fresh_head t)) root (head hs x).first (count - 1) columns (bare f x (Some t) ys)
take_stands ls hs root spare count columns f x ys t h e inner =
    let new = fresh f x ys h.layout e in
    let apart : (y : ℕ) → 1 ≤ occurs ys y → y ≢ x = (λ y o q.
    let o1 : occurs f.spares x ≤ 1 = h.layout.spare_once x in
    let o2 : occurs (x ∷ ys) x ≤ 1 = subst (λ z. occurs z x ≤ 1) e o1 in
    let o3 : 1 ≤ occurs ys x = subst (λ z. 1 ≤ occurs ys z) q o in omega (arith, occurs_same x ys)) in
    let has_spare : (y : ℕ) → 1 ≤ occurs ys y → 1 ≤ occurs f.spares y = (λ y o. subst (λ z. 1 ≤ occurs z y) (sym e) (let k : 1 ≤ occurs (x ∷ ys) y = omega arith in k)) in
    let spares : AreSpare hs spare (x ∷ ys) = subst (λ z. AreSpare hs spare z) e h.spares_are in
    bare_stands ls hs root spare count columns f x (Some t) ys (fresh_head t) (head hs x).first (count - 1)
    h new.1 new.2 new.3 new.4
    (λ a l q. some_none (Leaf (a + 1)) (sym (h.layout.leaves a l) ∙ subst (λ z. shape_at f z ≡ None) (sym q) new.0))
    (λ a q. inner (subst (λ z. IsLeaf z) (sym (some_inj t (Leaf a) q)) tt))
    (told (Some t))
    (λ u q. subst (λ z. (let k : Head = fresh_head t in k) ≡ head_of z []) (some_inj t u q) (head_bare t))
    (λ y. let o : occurs f.spares y ≤ 1 = h.layout.spare_once y in let o2 : occurs (x ∷ ys) y ≤ 1 = subst (λ z. occurs z y ≤ 1) e o in omega arith)
    (λ y o. (bare_other f x y (Some t) ys (apart y o) ∙ (h.layout.spare_free y (has_spare y o)).0, (h.layout.spare_free y (has_spare y o)).1))
    (λ y l q. elim (cases_eq y x) [
      | inl u ↦ absurd (some_none t (sym (bare_shape f x (Some t) ys new.1) ∙ subst (λ z. shape_at (bare f x (Some t) ys) z ≡ None) u q))
      | inr ne ↦ let k : 1 ≤ occurs f.spares y = h.layout.spare_all y l (sym (bare_other f x y (Some t) ys ne) ∙ q) in
          let k' : 1 ≤ occurs (x ∷ ys) y = subst (λ z. 1 ≤ occurs z y) e k in omega (arith, occurs_other x y ys ne)
    ])
    (spare_map hs (set hs x (fresh_head t)) (head hs x).first ys
    (λ y o. ap (λ z. z.first) (get_or-set_other hs x y _ no_head (apart y o))) spares.1)
    (let c : count ≡ length (x ∷ ys) = h.spares_count ∙ ap length e in omega arith)

-- give_back
pub give_stands : (ls : List Link) (hs : List Head) (root spare count columns : ℕ) (f : Layout) (n : ℕ) →
    StandsFor ls hs root spare count columns f → StandsAlone f n → children_at f n ≡ [] → ((s : Shape) → shape_at f n ≡ Some s → IsLeaf s → ⊥) →
    StandsFor ls (set hs n (spare_head spare)) root n (count + 1) columns (given_back f n)
give_stands ls hs root spare count columns f n h alone empty inner =
    let lt : n < length f.slots = in_range f n alone.used in
    let apart : (y : ℕ) → 1 ≤ occurs f.spares y → y ≢ n = (λ y o q. alone.used (subst (λ z. shape_at f z ≡ None) q (h.layout.spare_free y o).0)) in
    let off : occurs f.spares n ≡ 0 = elim (cases_lt 0 (occurs f.spares n)) [ inl o ↦ absurd (apart n o refl) | inr o ↦ omega arith ] in
    bare_stands ls hs root spare count columns f n None (n ∷ f.spares) (spare_head spare) n (count + 1)
    h lt empty alone.apart alone.other
    (λ a l q. inner (Leaf (a + 1)) (subst (λ z. shape_at f z ≡ Some (Leaf (a + 1))) q (h.layout.leaves a l)) tt)
    (λ a q. some_none (Leaf a) (sym q))
    refl
    (λ u q. absurd (some_none u (sym q)))
    (λ y. elim (cases_eq y n) [
      | inl q ↦ subst (λ z. occurs (n ∷ f.spares) z ≤ 1) (sym q) (omega (arith, occurs_same n f.spares))
      | inr ne ↦ subst (λ k. k ≤ 1) (sym (occurs_other n y f.spares ne)) (h.layout.spare_once y)
    ])
    (λ y o. elim (cases_eq y n) [
      | inl q ↦ (subst (λ z. shape_at (given_back f n) z ≡ None) (sym q) (bare_shape f n None (n ∷ f.spares) lt), subst (λ z. z < length f.slots) (sym q) lt)
      | inr ne ↦ let k : 1 ≤ occurs f.spares y = subst (λ z. 1 ≤ z) (occurs_other n y f.spares ne) o in
          (bare_other f n y None (n ∷ f.spares) ne ∙ (h.layout.spare_free y k).0, (h.layout.spare_free y k).1)
    ])
    (λ y l q. elim (cases_eq y n) [
      | inl u ↦ subst (λ z. 1 ≤ occurs (n ∷ f.spares) z) (sym u) (occurs_here n f.spares)
      | inr ne ↦ let k : 1 ≤ occurs f.spares y = h.layout.spare_all y l (sym (bare_other f n y None (n ∷ f.spares) ne) ∙ q) in omega arith
    ]) (
      refl,
      subst (λ z. AreSpare (set hs n (spare_head spare)) z f.spares)
          (sym (ap (λ z. z.first) (get_or-set_same hs n _ no_head (subst (λ m. n < m) (sym h.heads_few) lt))))
          (spare_map hs (set hs n (spare_head spare)) spare f.spares
          (λ y o. ap (λ z. z.first) (get_or-set_other hs n y _ no_head (apart y o))) h.spares_are),
    )
    (let c : count ≡ length f.spares = h.spares_count in omega arith)

spares_begin : (hs : List Head) (x : ℕ) (ys : List ℕ) → AreSpare hs x ys → 1 ≤ length ys → ys ≡ x ∷ all_but_first ys
spares_begin hs x [] h l = absurd (omega arith)
spares_begin hs x (y ∷ ys) h l = ap (λ z. z ∷ ys) (sym h.0)

pub first_spare : (ls : List Link) (hs : List Head) (root spare count columns : ℕ) (f : Layout) →
    StandsFor ls hs root spare count columns f → 1 ≤ length f.spares → f.spares ≡ spare ∷ all_but_first f.spares
first_spare ls hs root spare count columns f h l = spares_begin hs spare f.spares h.spares_are l

pub few_spares : (ls : List Link) (hs : List Head) (root spare count columns : ℕ) (f : Layout) →
    StandsFor ls hs root spare count columns f → count ≤ NODE_BOUND
few_spares ls hs root spare count columns f h =
    let few : length f.spares ≤ length f.slots = few_once f.spares (length f.slots) h.layout.spare_once (λ x o. (h.layout.spare_free x o).1) in
    let c : count ≡ length f.spares = h.spares_count in
    let a : length f.slots ≤ NODE_BOUND = few_slots f h.layout in omega arith
