-- A forest is read back from the nodes that stand for it.
use Rattle.std.proofs.Common.{◌≡◌, ◌≢◌, inl, inr, ℕ, zero, suc, ◌≤◌, ◌<◌, true, false, cond, eqb, List, [], ◌∷◌, length, map, Option, Some, None, refl, sym, ap, subst, ◌∙◌, arith, eq-eqb, eqb-true}
use Rattle.arena_model.specs.declared.TheConstants.{NODE_BOUND}
use Rattle.std.proofs.lemmas.Bool.{ne_eqb}
use Rattle.std.proofs.lemmas.List.{get_or-map, ext_get_or, length-map}
use Rattle.arena_model.specs.declared.Shape.{Shape}
use Rattle.arena_model.specs.declared.Shape.TheVariants.{Leaf, P, Q}
use Rattle.pq_arena.specs.declared.node.Link.{Link}
use Rattle.pq_arena.specs.declared.node.Head.{Head}
use Rattle.arena_model.proofs.Lists.{occurs_here, few_once}
use Rattle.arena_model.proofs.Slots.{in_range, children_times, few_slots}
use Rattle.arena_model.specs.ChildLists.{head_or, none}
use Rattle.arena_model.specs.Layout.{Slot, Layout, spare_slot, slot, shape_at, children_at, times_child, MayHaveChildren}
use Rattle.column_order.specs.Orders.{occurs}
use Rattle.pq_arena.specs.StandsFor.{EachBetween, IsInRing, IsInRun, IsSeated, head_of, AreSpare, StandsFor, other_side, run_read, ring_read, spare_read, children_read, slot_read, layout_read}
use Rattle.pq_arena.specs.Wiring.{no_head, link, head, kind_shape}

pub ring_read_is : (ls : List Link) (m : ℕ) (ks : List ℕ) (b a : ℕ) → EachBetween (IsInRing ls m) b ks a → ring_read ls (length ks) (head_or ks a) ≡ ks
ring_read_is ls m [] b a c = refl
ring_read_is ls m (x ∷ xs) b a c =
    ap (λ y. x ∷ ring_read ls (length xs) y) (ap (λ l. l.near0) c.0) ∙ ap (λ ys. x ∷ ys) (ring_read_is ls m xs x a c.1)

pub other_is : (ls : List Link) (m x b a : ℕ) → IsInRun ls m x b a → other_side (link ls x) b ≡ a
other_is ls m x b a (inl e) = ap (λ l. other_side l b) e ∙ ap (λ t. cond t a b) (eq-eqb b b refl)
other_is ls m x b a (inr e) = ap (λ l. other_side l b) e ∙
    (elim (eqb a b) as (λ t. eqb a b ≡ t → cond t b a ≡ a) [ true ↦ λ q. sym (eqb-true a b q) | false ↦ λ q. refl ]) refl

pub run_read_is : (ls : List Link) (m : ℕ) (ks : List ℕ) (fuel b : ℕ) → length ks ≤ fuel → ((x : ℕ) → 1 ≤ occurs ks x → x ≢ none) →
    EachBetween (IsInRun ls m) b ks none → run_read ls fuel b (head_or ks none) ≡ ks
run_read_is ls m [] zero b le real c = refl
run_read_is ls m [] (suc fuel) b le real c = refl
run_read_is ls m (x ∷ xs) zero b le real c = absurd (omega arith)
run_read_is ls m (x ∷ xs) (suc fuel) b le real c =
    ap (λ t. cond t [] (x ∷ run_read ls fuel x (other_side (link ls x) b))) (ne_eqb x none (real x (occurs_here x xs)))
    ∙ ap (λ y. x ∷ run_read ls fuel x y) (other_is ls m x b (head_or xs none) c.0)
    ∙ ap (λ ys. x ∷ ys) (run_read_is ls m xs fuel x (omega arith) (λ y o. real y (omega arith)) c.1)

pub spare_read_is : (hs : List Head) (x : ℕ) (ys : List ℕ) → AreSpare hs x ys → spare_read hs (length ys) x ≡ ys
spare_read_is hs x [] h = refl
spare_read_is hs x (y ∷ ys) h =
    ap (λ z. z ∷ spare_read hs (length ys) (head hs z).first) h.0 ∙ ap (λ zs. y ∷ zs) (spare_read_is hs (head hs y).first ys h.1)

-- what hangs on a known head
pub children_read_is : (ls : List Link) (m : ℕ) (s : Shape) (ks : List ℕ) → MayHaveChildren (Some s) ks → IsSeated ls m (Some s) ks →
    length ks ≤ length ls → ((x : ℕ) → 1 ≤ occurs ks x → x ≢ none) → children_read ls (Some s) (head_of s ks) ≡ ks
children_read_is ls m (Leaf a) ks may seated few real = sym may
children_read_is ls m P [] may seated few real = refl
children_read_is ls m P (k ∷ ks) may seated few real = ring_read_is ls m (k ∷ ks) _ k seated
children_read_is ls m Q ks may seated few real = run_read_is ls m ks (length ls) none few real seated

head_of_shape : (s : Shape) (ks : List ℕ) → kind_shape (head_of s ks).kind ≡ Some s
head_of_shape (Leaf a) ks = refl
head_of_shape P ks = refl
head_of_shape Q ks = refl

-- the children of a node are those that its head and the links tell
pub read_children : (ls : List Link) (hs : List Head) (root spare count columns : ℕ) (f : Layout) (n : ℕ) (s : Shape) →
    StandsFor ls hs root spare count columns f → shape_at f n ≡ Some s → children_read ls (Some s) (head_of s (children_at f n)) ≡ children_at f n
read_children ls hs root spare count columns f n s h e =
    let few : length (children_at f n) ≤ length ls = few_once (children_at f n) (length ls)
    (λ x. let a : occurs (children_at f n) x ≤ times_child f.slots x = children_times f n x in let b : times_child f.slots x ≤ 1 = h.layout.once x in omega arith)
    (λ x o. subst (λ m. x < m) (sym h.links_few) (below x o)) in
    children_read_is ls n s (children_at f n)
    (subst (λ t. MayHaveChildren t (children_at f n)) e (h.layout.children_fit n))
    (subst (λ t. IsSeated ls n t (children_at f n)) e (h.seats n)) few
    (λ x o q. let lt : x < length f.slots = below x o in let fw : length f.slots ≤ NODE_BOUND = few_slots f h.layout in omega arith)
  where
    below : (x : ℕ) → 1 ≤ occurs (children_at f n) x → x < length f.slots
    below x o = in_range f x (h.layout.used x (let a : occurs (children_at f n) x ≤ times_child f.slots x = children_times f n x in omega arith))

pub p_children : (ls : List Link) (hs : List Head) (root spare count columns : ℕ) (f : Layout) (n : ℕ) (k : Head) →
    StandsFor ls hs root spare count columns f → shape_at f n ≡ Some P → k ≡ head hs n → ring_read ls k.count k.first ≡ children_at f n
p_children ls hs root spare count columns f n k h sh e =
    ap (λ (z : Head). ring_read ls z.count z.first) (e ∙ h.heads_are n P sh) ∙ read_children ls hs root spare count columns f n P h sh

pub q_children : (ls : List Link) (hs : List Head) (root spare count columns : ℕ) (f : Layout) (n : ℕ) (k : Head) →
    StandsFor ls hs root spare count columns f → shape_at f n ≡ Some Q → k ≡ head hs n → run_read ls (length ls) none k.first ≡ children_at f n
q_children ls hs root spare count columns f n k h sh e =
    ap (λ (z : Head). run_read ls (length ls) none z.first) (e ∙ h.heads_are n Q sh) ∙ read_children ls hs root spare count columns f n Q h sh

-- each child has a link
pub child_linked : (ls : List Link) (hs : List Head) (root spare count columns : ℕ) (f : Layout) (n x : ℕ) →
    StandsFor ls hs root spare count columns f → 1 ≤ occurs (children_at f n) x → x < length ls
child_linked ls hs root spare count columns f n x h o =
    subst (λ m. x < m) (sym h.links_few) (in_range f x (h.layout.used x (let a : occurs (children_at f n) x ≤ times_child f.slots x = children_times f n x in omega arith)))

mk : Option Shape → List ℕ → Slot
mk s ks = record { shape = s; children = ks }

pub known : (ls : List Link) (hs : List Head) (root spare count columns : ℕ) (f : Layout) →
    StandsFor ls hs root spare count columns f → layout_read ls hs root spare count columns ≡ f
unfolding layout_read mk
known ls hs root spare count columns f h =
    let slots_are : map (slot_read ls) hs ≡ f.slots =
    ext_get_or spare_slot (map (slot_read ls) hs) f.slots (length-map hs (slot_read ls) ∙ h.heads_few)
    (λ i lt. let lt' : i < length hs = omega (arith, length-map hs (slot_read ls)) in
    get_or-map (slot_read ls) hs i no_head spare_slot lt' ∙ at i) in
    ap (λ z. let g : Layout = record { slots = z; root = root; spares = spare_read hs count spare; columns = columns } in g) slots_are
    ∙ ap (λ z. let g : Layout = record { slots = f.slots; root = z; spares = spare_read hs count spare; columns = columns } in g) h.root_is
    ∙ ap (λ z. let g : Layout = record { slots = f.slots; root = f.root; spares = z; columns = columns } in g)
    (ap (λ k. spare_read hs k spare) h.spares_count ∙ spare_read_is hs spare f.spares h.spares_are)
    ∙ ap (λ z. let g : Layout = record { slots = f.slots; root = f.root; spares = f.spares; columns = z } in g) h.columns_are
  where
    at : (i : ℕ) → slot_read ls (head hs i) ≡ slot f.slots i
    at i = (elim (shape_at f i) as (λ s. shape_at f i ≡ s → slot_read ls (head hs i) ≡ slot f.slots i) [
      | None ↦ λ e.
          ap (λ s. mk s (children_read ls s (head hs i))) (h.shapes i ∙ e)
          ∙ ap (λ ks. mk None ks) (sym (subst (λ s. MayHaveChildren s (children_at f i)) e (h.layout.children_fit i)))
          ∙ ap (λ s. mk s (children_at f i)) (sym e)
      | Some s ↦ λ e.
          ap (slot_read ls) (h.heads_are i s e)
          ∙ ap (λ t. mk t (children_read ls t (head_of s (children_at f i)))) (head_of_shape s (children_at f i))
          ∙ ap (λ ks. mk (Some s) ks) (read_children ls hs root spare count columns f i s h e)
          ∙ ap (λ t. mk t (children_at f i)) (sym e)
    ]) refl
