-- Some children of a P-node under a new one: marks that tell them from the others.
use Rattle.std.proofs.Common.{◌≡◌, inl, inr, ℕ, zero, suc, ◌+◌, ◌≤◌, ◌<◌, Bool, true, false, cond, List, [], ◌∷◌, ◌++◌, length, map, take, get_or, Some, refl, sym, ap, subst, ◌∙◌, arith}
use Rattle.std.specs.List.{range_with_len}
use Rattle.std.proofs.lemmas.Bool.{cases_lt}
use Rattle.std.proofs.lemmas.List.{take_more}
use Rattle.std.proofs.lemmas.List.FromFn.{get_or-map-range_with_len, length-map-range_with_len}
use Rattle.column_order.specs.Orders.{has, occurs}
use Rattle.column_order.proofs.Lists.{has_from_occurs, occurs_from_has, occurs-append}
use Rattle.pq_tree.specs.Outline.{Outline, Forest, no_tree, tree_and}
use Rattle.pq_tree.specs.Proper.{forest, count}
use Rattle.arena_model.specs.declared.Shape.TheVariants.{P}
use Rattle.arena_model.specs.ChildLists.{without}
use Rattle.arena_model.specs.Layout.{Layout, shape_at, children_at, with_children, IsLayout, IsAtOrAbove, StandsAlone}
use Rattle.arena_model.specs.NamedTree.{outline_below, IsOneTree, HasTwoEach}
use Rattle.arena_model.proofs.Lists.{occurs_here}
use Rattle.arena_model.proofs.Slots.{in_range, used_by, child_used}
use Rattle.pq_arena.specs.declared.node.NodeId.{NodeId}
use Rattle.pq_arena.specs.RowNodes.{indices}
use Rattle.bubble_pass.specs.declared.labels.Label.{Label as Mark}
use Rattle.bubble_pass.specs.declared.labels.Label.TheVariants.{Empty, Full}
use Rattle.bubble_pass.specs.Marks.{Marks, label_at}
use Rattle.tree_theory.specs.Templates.{Label, empty_label, full_label, IsSorted, IsP2, p2}
use Rattle.template_model.specs.Standing.{mark_of, child_trees}
use Rattle.template_model.specs.Treated.{IsReplacedAt, StandsForTree}
use Rattle.templates_p.specs.Members.{AreMembers, member_labels}
use Rattle.templates_p.specs.Dividing.{AreSome}
use Rattle.templates_p.specs.Sorts.{full_nodes, empty_nodes, partial_nodes}
use Rattle.templates_p.specs.Steps.{Moved, CanMove, moved_under}
use Rattle.templates_p.proofs.Rebuilt.{replaced_at}
use Rattle.templates_p.proofs.Sorting.{held, sort, sorted_unique, held_length, count_map, all_sorted, all_counted, sorted_label, fulls, sorted_times}
use Rattle.templates_p.proofs.Framing.{same_length}
use Rattle.templates_p.proofs.Moving.{can_move, ready_to_put, moved_one}
use Rattle.templates_p.proofs.Chaining.{child_once}
use Rattle.templates_p.proofs.Grouping.{AllMoved, CanGroup, indices_snoc, grouped, full_marked, group_rebuilt, group_made}
use Rattle.templates_p.proofs.Becoming.{p2_becomes, occurs_none}

-- full for a member, empty for another
abbrev pub member_mark : List ℕ → ℕ → Mark
member_mark members k = cond (has members k) Full Empty

-- marks of n nodes, of which the members are full and the others empty
abbrev pub member_marks : ℕ → List ℕ → Marks
member_marks n members = record {
  labels = map (member_mark members) (range_with_len 0 n);
  nodes = [];
  full = [];
  partial = [];
  first = [];
  next = [];
  seat_nodes = [];
  seats = [];
  inside = false;
}

marked_at : (n : ℕ) (members : List ℕ) (k : ℕ) → k < n → label_at (member_marks n members) k ≡ member_mark members k
marked_at n members k l = get_or-map-range_with_len (member_mark members) 0 n k k Empty l (omega arith)

same_mark : (b : Bool) → mark_of (cond b full_label empty_label) ≡ cond b Full Empty
same_mark true = refl
same_mark false = refl

marked_as : (n : ℕ) (members ks : List ℕ) → ((k : ℕ) → 1 ≤ occurs ks k → k < n) → map mark_of (member_labels members ks) ≡ map (label_at (member_marks n members)) ks
marked_as n members [] few = refl
marked_as n members (k ∷ ks) few =
    ap (λ m. m ∷ map mark_of (member_labels members ks)) (same_mark (has members k) ∙ sym (marked_at n members k (few k (occurs_here k ks))))
    ∙ ap (λ ms. label_at (member_marks n members) k ∷ ms) (marked_as n members ks (λ j o. few j (omega arith)))

held_step : (b : Bool) (ps : List Label) → held ps ≡ [] → held (cond b full_label empty_label ∷ ps) ≡ []
held_step true ps e = e
held_step false ps e = e

none_held : (members ks : List ℕ) → held (member_labels members ks) ≡ []
none_held members [] = refl
none_held members (k ∷ ks) = held_step (has members k) (member_labels members ks) (none_held members ks)

two_sorts : (ts es fs : Forest) (ps : List Label) → IsSorted ts ps es fs [] → 1 ≤ count es → 1 ≤ count fs → IsP2 true ts ps (p2 es fs)
two_sorts ts no_tree fs ps s a b = absurd (omega arith)
two_sorts ts (tree_and e es) no_tree ps s a b = absurd (omega arith)
two_sorts ts (tree_and e es) (tree_and f fs) ps s a b = record { at = refl; e = e; es = es; f = f; fs = fs; pattern = s; becomes = refl }

-- two or more are one or more
pub some_members : (f : Layout) (n : ℕ) (members : List ℕ) → AreMembers f n members → AreSome f n members
some_members f n members m = record {
  is_p = m.is_p;
  once = m.once;
  child = m.child;
  some = let t : 2 ≤ length members = m.two in omega arith;
  not_all = m.not_all;
}

module _ (f : Layout) (n : ℕ) (members : List ℕ) (h : IsLayout f) (m : AreSome f n members) where
  abbrev pub marks : Marks
  marks = member_marks (length f.slots) members

  child_in : (k : ℕ) → 1 ≤ occurs (children_at f n) k → k < length f.slots
  child_in k o = in_range f k (child_used f n k h o)

  are_marked : map mark_of (member_labels members (children_at f n)) ≡ map (label_at marks) (children_at f n)
  are_marked = marked_as (length f.slots) members (children_at f n) child_in

  member_full : (k : ℕ) → 1 ≤ occurs members k → label_at marks k ≡ Full
  member_full k o = marked_at (length f.slots) members k (child_in k (m.child k o)) ∙ ap (λ b. cond b Full Empty) (has_from_occurs members k o)

  full_member : (k : ℕ) → 1 ≤ occurs (children_at f n) k → label_at marks k ≡ Full → 1 ≤ occurs members k
  full_member k o e = by (has members k) refl
    where
      by : (b : Bool) → has members k ≡ b → 1 ≤ occurs members k
      by true t = occurs_from_has members k t
      by false t = absurd (let z : Full ≡ Empty = sym e ∙ marked_at (length f.slots) members k (child_in k o) ∙ ap (λ b. cond b Full Empty) t in cc)

  pub all_members : (k : ℕ) → occurs members k ≡ occurs (full_nodes marks (children_at f n)) k
  all_members k =
      let ks : List ℕ = children_at f n in
      let once : occurs members k ≤ 1 = m.once k in
      let once_child : occurs ks k ≤ 1 = child_once f n k h in
      elim (cases_lt 0 (occurs members k)) [
        | inl l ↦
            let o : 1 ≤ occurs ks k = m.child k l in
            let e : occurs (full_nodes marks ks) k ≡ occurs ks k = sorted_times fulls marks ks k (member_full k l) in
            omega arith
        | inr l ↦ elim (cases_lt 0 (occurs (full_nodes marks ks) k)) [
          | inl o ↦
              let is : label_at marks k ≡ Full = sorted_label fulls marks ks k o in
              let e : occurs (full_nodes marks ks) k ≡ occurs ks k = sorted_times fulls marks ks k is in
              let q : 1 ≤ occurs members k = full_member k (omega arith) is in
              absurd (omega arith)
          | inr o ↦ omega arith
        ]
      ]

  fulls_many : length (full_nodes marks (children_at f n)) ≡ length members
  fulls_many = same_length members (full_nodes marks (children_at f n)) all_members

  no_partials : length (partial_nodes marks (children_at f n)) ≡ 0
  no_partials = sym (held_length marks (children_at f n) (member_labels members (children_at f n)) are_marked) ∙ ap (λ hs. length hs) (none_held members (children_at f n))

  -- the others are the empty ones by these marks
  pub rest_members : (k : ℕ) → occurs (children_at f n) k ≡ occurs (empty_nodes marks (children_at f n)) k + occurs members k
  rest_members k = omega (arith, all_sorted marks (children_at f n) k, all_members k, occurs_none (partial_nodes marks (children_at f n)) k no_partials)

  -- the trees of the others and those of the members
  pub sorted_members : (es fs : Forest) → IsSorted (child_trees f n) (member_labels members (children_at f n)) es fs [] →
      (es ≡ forest (map (outline_below f) (empty_nodes marks (children_at f n)))) × (fs ≡ forest (map (outline_below f) (full_nodes marks (children_at f n))))
  sorted_members es fs s =
      let w = sorted_unique s (sort (outline_below f) marks (children_at f n) (member_labels members (children_at f n)) are_marked) in (w.0, w.1)

  -- they are two or more
  module _ (many : 2 ≤ length members) where
    can : IsOneTree f → HasTwoEach f → CanGroup f marks n
    can one two = record {
      one = one;
      two = two;
      room = length-map-range_with_len (member_mark members) 0 (length f.slots);
      used = used_by f n P m.is_p;
      is_p = m.is_p;
      many = omega (arith, fulls_many, many);
      more = let l : length members < length (children_at f n) = m.not_all in omega (arith, fulls_many);
    }

    -- P2 stands at n by these labels
    made : IsP2 true (child_trees f n) (member_labels members (children_at f n))
        (p2 (forest (map (outline_below f) (empty_nodes marks (children_at f n)))) (forest (map (outline_below f) (full_nodes marks (children_at f n)))))
    made =
        let ks : List ℕ = children_at f n in
        let o : ℕ → Outline = outline_below f in
        two_sorts (child_trees f n) (forest (map o (empty_nodes marks ks))) (forest (map o (full_nodes marks ks))) (member_labels members ks)
        (subst (λ hs. IsSorted (child_trees f n) (member_labels members ks) (forest (map o (empty_nodes marks ks))) (forest (map o (full_nodes marks ks))) hs)
        (none_held members ks) (sort o marks ks (member_labels members ks) are_marked))
        (omega (arith, count_map o (empty_nodes marks ks), all_counted marks ks, fulls_many, no_partials, m.not_all))
        (omega (arith, count_map o (full_nodes marks ks), fulls_many, many))

    -- the members have moved to x, and x is put in front of the other children
    module _ (g : Layout) (x : NodeId) (hg : IsLayout (grouped g n x.index)) (one : IsOneTree f) (two : HasTwoEach f) (moved : Moved f g n x.index members) where
      all_moved : AllMoved f g marks n x.index members
      all_moved = record { moved = moved; all = all_members }

      members_replaced : IsReplacedAt f (grouped g n x.index) n n
      members_replaced = replaced_at f (grouped g n x.index) n n (n ∷ x.index ∷ []) (group_rebuilt f g marks n x.index members h hg (can one two) all_moved) one two

      members_become : (u : Outline) × IsP2 true (child_trees f n) (member_labels members (children_at f n)) u × StandsForTree (grouped g n x.index) n u
      members_become = (
        p2 (forest (map (outline_below f) (empty_nodes marks (children_at f n)))) (forest (map (outline_below f) (full_nodes marks (children_at f n)))),
        made,
        p2_becomes f (grouped g n x.index) marks (full_marked marks x.index) n (Some x) (member_labels members (children_at f n))
            (p2 (forest (map (outline_below f) (empty_nodes marks (children_at f n)))) (forest (map (outline_below f) (full_nodes marks (children_at f n))))) hg
            (group_made f g marks n x.index members h hg (can one two) all_moved) are_marked made,
      )

-- the members are the children of a new child of n, as P2 has it
pub record IsGroupedAt (f z : Layout) (n : ℕ) (members : List ℕ) : Type 0 where
  pub replaced : IsReplacedAt f z n n
  pub becomes : (u : Outline) × IsP2 true (child_trees f n) (member_labels members (children_at f n)) u × StandsForTree z n u

pub members_grouped : (f g z : Layout) (n : ℕ) (ms : List NodeId) (x : NodeId) → IsLayout f → IsLayout z → AreMembers f n (indices ms) → IsOneTree f → HasTwoEach f →
    z ≡ grouped g n x.index → Moved f g n x.index (indices ms) → IsGroupedAt f z n (indices ms)
members_grouped f g z n ms x hf hz m one two e moved =
    let hg : IsLayout (grouped g n x.index) = subst IsLayout e hz in
    subst (λ y. IsGroupedAt f y n (indices ms)) (sym e)
    (record { replaced = members_replaced f n (indices ms) hf (some_members f n (indices ms) m) m.two g x hg one two moved; becomes = members_become f n (indices ms) hf (some_members f n (indices ms) m) m.two g x hg one two moved })

-- a member that was not reached yet
in_list : (ms : List NodeId) (i : ℕ) (d : NodeId) → i < length ms → 1 ≤ occurs (indices ms) (get_or ms i d).index
in_list [] i d l = absurd (omega arith)
in_list (y ∷ ms) zero d l = occurs_here y.index (indices ms)
in_list (y ∷ ms) (suc i) d l = let o : 1 ≤ occurs (indices ms) (get_or ms i d).index = in_list ms i d (omega arith) in omega arith

take_less : (ms : List NodeId) (i k : ℕ) → occurs (indices (take i ms)) k ≤ occurs (indices ms) k
take_less ms zero k = omega arith
take_less [] (suc i) k = omega arith
take_less (y ∷ ms) (suc i) k = omega (arith, take_less ms i k)

one_more : (ms : List NodeId) (i : ℕ) (d : NodeId) → i < length ms → indices (take (i + 1) ms) ≡ indices (take i ms) ++ (get_or ms i d).index ∷ []
one_more ms i d l = ap indices (take_more ms i d l) ∙ indices_snoc (take i ms) (get_or ms i d)

not_before : (ms : List NodeId) (i : ℕ) (d : NodeId) → i < length ms → ((k : ℕ) → occurs (indices ms) k ≤ 1) → occurs (indices (take i ms)) (get_or ms i d).index ≡ 0
not_before ms i d l once =
    let y : ℕ = (get_or ms i d).index in
    let a : occurs (indices (take (i + 1) ms)) y ≡ occurs (indices (take i ms)) y + occurs (y ∷ []) y =
    ap (λ ks. occurs ks y) (one_more ms i d l) ∙ occurs-append (indices (take i ms)) (y ∷ []) y in
    omega (arith, take_less ms (i + 1) y, once y, occurs_here y [])

-- the next member may move
pub next_moves : (f g : Layout) (n x : ℕ) (ms : List NodeId) (i : ℕ) (d : NodeId) → i < length ms → AreMembers f n (indices ms) → Moved f g n x (indices (take i ms)) →
    CanMove g n x (get_or ms i d).index
next_moves f g n x ms i d l m moved =
    can_move f g n x (indices (take i ms)) (get_or ms i d).index m.is_p moved (m.child (get_or ms i d).index (in_list ms i d l)) (not_before ms i d l m.once)

-- what holds in g, where it was taken from n
pub record IsReadyIn (g : Layout) (x c : ℕ) : Type 0 where
  pub to : shape_at g x ≡ Some P
  pub alone : StandsAlone g c
  pub no_way : IsAtOrAbove g.slots c x → ⊥

pub member_ready : (f h g : Layout) (n x : ℕ) (ms : List NodeId) (i : ℕ) (d : NodeId) → IsLayout h → i < length ms → AreMembers f n (indices ms) → Moved f h n x (indices (take i ms)) →
    ((p : ℕ) → shape_at h p ≡ Some P → 1 ≤ occurs (children_at h p) (get_or ms i d).index → g ≡ with_children h p (without (children_at h p) (get_or ms i d).index)) → IsReadyIn g x (get_or ms i d).index
member_ready f h g n x ms i d lh l m moved taken =
    let y : ℕ = (get_or ms i d).index in
    let can : CanMove h n x y = next_moves f h n x ms i d l m moved in
    let r = ready_to_put h n x y lh can in
    subst (λ z. IsReadyIn z x y) (sym (taken n can.from can.child)) (record { to = r.to; alone = r.alone; no_way = r.no_way })

-- it has moved
pub next_moved : (f g : Layout) (n x : ℕ) (ms : List NodeId) (i : ℕ) (d : NodeId) → i < length ms → AreMembers f n (indices ms) → IsLayout g → Moved f g n x (indices (take i ms)) →
    Moved f (moved_under g n x (get_or ms i d).index) n x (indices (take (i + 1) ms))
next_moved f g n x ms i d l m hg moved =
    let y : ℕ = (get_or ms i d).index in
    let can : CanMove g n x y = next_moves f g n x ms i d l m moved in
    subst (λ ks. Moved f (moved_under g n x y) n x ks) (sym (one_more ms i d l)) (moved_one f g n x (indices (take i ms)) y moved can (ready_to_put g n x y hg can))
