-- Steps of walks along the children of a Q-node.
use Rattle.std.proofs.Common.{◌≡◌, ◌≢◌, ◌⊎◌, inl, inr, ℕ, ◌+◌, ◌≤◌, ◌<◌, true, false, cond, List, [], ◌∷◌, ◌++◌, length, Option, Some, None, refl, sym, ap, subst, ◌∙◌, arith, length-append, append_assoc, reverse}
use Rattle.std.specs.Prelude.{slice_index_or, is_some, Bool}
use mathlib.Core.Bool.{not}
use Rattle.std.proofs.lemmas.Bool.{cases_eq, ne_eqb}
use Rattle.std.proofs.lemmas.List.{length-reverse, append-nil, reverse-reverse}
use Rattle.column_order.specs.Orders.{occurs}
use Rattle.column_order.proofs.Lists.{occurs-append}
use Rattle.arena_model.specs.declared.Shape.TheVariants.{Q}
use Rattle.arena_model.specs.ChildLists.{head_or, last_or, none}
use Rattle.arena_model.specs.Layout.{Layout, shape_at, children_at, times_child, IsInUse, IsLayout}
use Rattle.arena_model.proofs.Lists.{occurs_here, last_or-append, last_reverse, few_once}
use Rattle.arena_model.proofs.Slots.{in_range, few_slots, children_times, child_used}
use Rattle.pq_arena.specs.declared.node.NodeId.{NodeId}
use Rattle.pq_arena.specs.declared.node.NodeView.{NodeView}
use Rattle.pq_arena.specs.Looks.{node_named, ShowsNode, shown_ends}
use Rattle.bubble_pass.specs.declared.labels.Label.{Label as Mark}
use Rattle.bubble_pass.specs.declared.labels.Label.TheVariants.{Empty, Partial, Full}
use Rattle.bubble_pass.specs.Marks.{Marks, label_at, size_of}
use Rattle.templates_q.specs.declared.walk.ChildGap.{ChildGap}
use Rattle.templates_q.specs.declared.walk.Passed.{Passed}
use Rattle.templates_q.specs.declared.walk.Wanted.{Wanted}
use Rattle.templates_q.specs.declared.walk.Wanted.TheVariants.{Fulls, Partials, Labelled}
use Rattle.templates_q.specs.Walk.{AreChildren, AreAll, IsChildGap, IsFirst, IsPassed, IsWanted, EndsBefore, EndsWithout, IsInRoom, wants, wanted_one}
use Rattle.templates_q.proofs.Lines.{those_append}
use Rattle.templates_q.proofs.Lists.{occurs_reverse, head_reverse, reverse_split}

-- how often a node is one of the children, in whichever order they are read
pub children_occur : (f : Layout) (q : ℕ) (ks : List ℕ) (x : ℕ) → AreChildren f q ks → occurs (children_at f q) x ≡ occurs ks x
children_occur f q ks x (inl e) = ap (λ z. occurs z x) e
children_occur f q ks x (inr e) = ap (λ z. occurs z x) e ∙ occurs_reverse ks x

-- no more children than nodes
pub children_few : (f : Layout) (q : ℕ) → IsLayout f → length (children_at f q) ≤ length f.slots
children_few f q h = few_once (children_at f q) (length f.slots)
    (λ x. let a : occurs (children_at f q) x ≤ times_child f.slots x = children_times f q x in let b : times_child f.slots x ≤ 1 = h.once x in omega arith)
    (λ x o. in_range f x (child_used f q x h o))

-- the number of a node in use is that of a node
pub is_named : (f : Layout) (x : ℕ) → IsLayout f → IsInUse f x → node_named x ≡ Some (let n : NodeId = record { index = x } in n)
is_named f x h u =
    let lt : x < length f.slots = in_range f x u in
    let few : length f.slots ≤ 65540 = few_slots f h in
    ap (λ b. cond b None (Some (let n : NodeId = record { index = x } in n))) (ne_eqb x none (λ e. let k : x ≡ 4294967295 = e in absurd (omega arith)))

pub next_child : (f : Layout) (q : ℕ) (us vs : List ℕ) (x : ℕ) (gap : ChildGap) → IsFirst f q us x vs gap → 1 ≤ occurs (children_at f q) x
next_child f q us vs x gap g =
    let e : occurs (children_at f q) x ≡ occurs (us ++ x ∷ vs) x = children_occur f q (us ++ x ∷ vs) x g.children in
    let a : occurs (us ++ x ∷ vs) x ≡ occurs us x + occurs (x ∷ vs) x = occurs-append us (x ∷ vs) x in
    let o : 1 ≤ occurs (x ∷ vs) x = occurs_here x vs in omega arith

-- there is room for what comes next
pub next_room : (f : Layout) (w : Marks) (q : ℕ) (us vs : List ℕ) (gap : ChildGap) → IsLayout f → size_of w ≡ length f.slots → IsChildGap f q us vs gap → IsInRoom w gap.next
next_room f w q us [] gap h size g = subst (IsInRoom w) (sym g.next) tt
next_room f w q us (x ∷ vs) gap h size g =
    let u : IsInUse f x = child_used f q x h (next_child f q us vs x gap g) in
    subst (IsInRoom w) (sym (g.next ∙ is_named f x h u)) (subst (λ n. x < n) (sym size) (in_range f x u))

some_eq : (x y : NodeId) → Some x ≡ Some y → x ≡ y
some_eq x y e = cc

-- the node that comes next is the first of vs
pub record NextIs (f : Layout) (q : ℕ) (us vs : List ℕ) (gap : ChildGap) (x : NodeId) : Type 0 where
  pub rest : List ℕ
  pub is : vs ≡ x.index ∷ rest
  pub first : IsFirst f q us x.index rest gap
  pub used : IsInUse f x.index
  pub child : 1 ≤ occurs (children_at f q) x.index

pub next_is : (f : Layout) (q : ℕ) (us vs : List ℕ) (gap : ChildGap) (x : NodeId) → IsLayout f → IsChildGap f q us vs gap → gap.next ≡ Some x → NextIs f q us vs gap x
next_is f q us [] gap x h g e = absurd (let k : None ≡ Some x = sym g.next ∙ e in cc)
next_is f q us (y ∷ vs) gap x h g e =
    let o : 1 ≤ occurs (children_at f q) y = next_child f q us vs y gap g in
    let u : IsInUse f y = child_used f q y h o in
    let k : (let n : NodeId = record { index = y } in n) ≡ x = some_eq (record { index = y }) x (sym (is_named f y h u) ∙ sym g.next ∙ e) in
    let i : y ≡ x.index = ap (λ z. z.index) k in
    record {
      rest = vs;
      is = ap (λ z. z ∷ vs) i;
      first = subst (λ z. IsFirst f q us z vs gap) i g;
      used = subst (λ z. IsInUse f z) i u;
      child = subst (λ z. 1 ≤ occurs (children_at f q) z) i o;
    }

-- none comes next where vs is empty
pub next_none : (f : Layout) (q : ℕ) (us vs : List ℕ) (gap : ChildGap) → IsLayout f → IsChildGap f q us vs gap → gap.next ≡ None → vs ≡ []
next_none f q us [] gap h g e = refl
next_none f q us (y ∷ vs) gap h g e =
    absurd (let u : IsInUse f y = child_used f q y h (next_child f q us vs y gap g) in
    let k : Some (let n : NodeId = record { index = y } in n) ≡ None = sym (is_named f y h u) ∙ sym g.next ∙ e in cc)

-- a child between us and vs shows its two neighbours
pub record Between (us vs : List ℕ) (near : List (Option NodeId)) : Type 0 where
  pub sides : (near ≡ node_named (last_or us none) ∷ node_named (head_or vs none) ∷ []) ⊎ (near ≡ node_named (head_or vs none) ∷ node_named (last_or us none) ∷ [])

pub between : (f : Layout) (q : ℕ) (us vs : List ℕ) (x : ℕ) (view : NodeView) → shape_at f q ≡ Some Q → AreChildren f q (us ++ x ∷ vs) → ShowsNode f x view → Between us vs view.near
between f q us vs x view s (inl e) sh = record { sides = (sh.run q us vs s e).1 }
between f q us vs x view s (inr e) sh =
    let r = (sh.run q (reverse vs) (reverse us) s (e ∙ reverse_split us vs x)).1 in
    let a : node_named (last_or (reverse vs) none) ≡ node_named (head_or vs none) = ap node_named (last_reverse vs none) in
    let b : node_named (head_or (reverse us) none) ≡ node_named (last_or us none) = ap node_named (head_reverse us none) in
    record {
      sides = elim r [
        | inl k ↦ inr (k ∙ ap (λ z. z ∷ node_named (head_or (reverse us) none) ∷ []) a ∙ ap (λ z. node_named (head_or vs none) ∷ z ∷ []) b)
        | inr k ↦ inl (k ∙ ap (λ z. z ∷ node_named (last_or (reverse vs) none) ∷ []) b ∙ ap (λ z. node_named (last_or us none) ∷ z ∷ []) a)
      ];
    }

-- the neighbour that is not the one before is the next one
beyond_is : (a b before result : Option NodeId) (near : List (Option NodeId)) → before ≡ a → (near ≡ a ∷ b ∷ []) ⊎ (near ≡ b ∷ a ∷ []) →
    (slice_index_or near 0 None ≡ before → result ≡ slice_index_or near 1 None) → (slice_index_or near 0 None ≢ before → result ≡ slice_index_or near 0 None) →
    (slice_index_or near 0 None ≡ before) ⊎ (slice_index_or near 0 None ≢ before) → result ≡ b
beyond_is a b before result near e (inl k) back on (inl y) = back y ∙ ap (λ z. slice_index_or z 1 None) k
beyond_is a b before result near e (inl k) back on (inr n) = absurd (n (ap (λ z. slice_index_or z 0 None) k ∙ sym e))
beyond_is a b before result near e (inr k) back on (inl y) =
    let z : b ≡ before = sym (ap (λ z. slice_index_or z 0 None) k) ∙ y in
    back y ∙ ap (λ z. slice_index_or z 1 None) k ∙ sym e ∙ sym z
beyond_is a b before result near e (inr k) back on (inr n) = on n ∙ ap (λ z. slice_index_or z 0 None) k

same_node : (x y : Option NodeId) → (x ≡ y) ⊎ (x ≢ y)
same_node None None = inl refl
same_node None (Some y) = inr (λ e. cc)
same_node (Some x) None = inr (λ e. cc)
same_node (Some x) (Some y) = elim (cases_eq x.index y.index) [
  | inl e ↦ inl (ap (λ z. Some (let n : NodeId = record { index = z } in n)) e)
  | inr ne ↦ inr (λ e. ne (ap (λ z. z.index) (some_eq x y e)))
]

-- a step over the child x
pub step_past : (f : Layout) (q : ℕ) (us vs : List ℕ) (x : NodeId) (from : ChildGap) (view : NodeView) (next : Option NodeId) →
    IsLayout f → IsInUse f x.index → ShowsNode f x.index view → IsFirst f q us x.index vs from →
    (slice_index_or view.near 0 None ≡ from.before → next ≡ slice_index_or view.near 1 None) → (slice_index_or view.near 0 None ≢ from.before → next ≡ slice_index_or view.near 0 None) →
    IsChildGap f q (us ++ x.index ∷ []) vs (record { before = Some x; next = next })
step_past f q us vs x from view next h u sh g back on = record {
  is_q = g.is_q;
  children = subst (AreChildren f q) (sym (append_assoc us (x.index ∷ []) vs)) g.children;
  before = sym (ap node_named (last_or-append us (x.index ∷ []) none) ∙ is_named f x.index h u);
  next = beyond_is (node_named (last_or us none)) (node_named (head_or vs none)) from.before next view.near g.before
      (between f q us vs x.index view g.is_q g.children sh).sides back on (same_node (slice_index_or view.near 0 None) from.before);
}

-- what it means that a label is wanted
wanted_is : (t : Wanted) (m : Mark) → wants t m ≡ true → IsWanted t m
wanted_is Fulls Empty e = absurd (cc)
wanted_is Fulls Partial e = absurd (cc)
wanted_is Fulls Full e = refl
wanted_is Partials Empty e = absurd (cc)
wanted_is Partials Partial e = refl
wanted_is Partials Full e = absurd (cc)
wanted_is Labelled Empty e = absurd (cc)
wanted_is Labelled Partial e = λ z. cc
wanted_is Labelled Full e = λ z. cc

unwanted : (t : Wanted) (m : Mark) → wants t m ≡ false → IsWanted t m → ⊥
unwanted Fulls Empty e k = cc
unwanted Fulls Partial e k = cc
unwanted Fulls Full e k = absurd (cc)
unwanted Partials Empty e k = cc
unwanted Partials Partial e k = absurd (cc)
unwanted Partials Full e k = cc
unwanted Labelled Empty e k = k refl
unwanted Labelled Partial e k = absurd (cc)
unwanted Labelled Full e k = absurd (cc)

-- which node is given
pub wanted_known : (t : Wanted) (w : Marks) (o : Option NodeId) (x : NodeId) → wanted_one t w o ≡ Some x → (o ≡ Some x) × IsWanted t (label_at w x.index)
wanted_known t w None x e = absurd (cc)
wanted_known t w (Some y) x e = by (wants t (label_at w y.index)) refl e
  where
    by : (b : Bool) → wants t (label_at w y.index) ≡ b → cond b (Some y) None ≡ Some x → (Some y ≡ Some x) × IsWanted t (label_at w x.index)
    by true k e = (e, subst (λ z. IsWanted t (label_at w z.index)) (some_eq y x e) (wanted_is t (label_at w y.index) k))
    by false k e = absurd (cc)

-- where no wanted node comes next
pub stops_wanted : (t : Wanted) (f : Layout) (w : Marks) (q : ℕ) (us vs : List ℕ) (gap : ChildGap) → IsLayout f → IsChildGap f q us vs gap → wanted_one t w gap.next ≡ None → EndsBefore (IsWanted t) w vs
stops_wanted t f w q us [] gap h g e = tt
stops_wanted t f w q us (x ∷ vs) gap h g e =
    let u : IsInUse f x = child_used f q x h (next_child f q us vs x gap g) in
    let i : wanted_one t w (Some (let n : NodeId = record { index = x } in n)) ≡ None = ap (wanted_one t w) (sym (g.next ∙ is_named f x h u)) ∙ e in
    unwanted t (label_at w x) (by (wants t (label_at w x)) i)
  where
    by : (b : Bool) → cond b (Some (let n : NodeId = record { index = x } in n)) None ≡ None → b ≡ false
    by true i = absurd (cc)
    by false i = refl

-- at the start nothing is passed
pub passed_none : (t : Wanted) (f : Layout) (w : Marks) (q : ℕ) (us vs : List ℕ) (gap : ChildGap) → IsChildGap f q us vs gap → IsPassed t f w q us vs (record { count = 0; gap = gap })
passed_none t f w q us vs gap g = record {
  ks = [];
  rest = vs;
  is = refl;
  marked = tt;
  count = refl;
  gap = subst (λ z. IsChildGap f q z vs gap) (sym (append-nil us)) g;
}

-- one child more is passed
pub passed_more : (t : Wanted) (f : Layout) (w : Marks) (q : ℕ) (us vs : List ℕ) (n : ℕ) (gap gap' : ChildGap) (x : NodeId) → IsLayout f →
    IsPassed t f w q us vs (record { count = n; gap = gap }) → gap.next ≡ Some x → IsWanted t (label_at w x.index) →
    ((q : ℕ) (us vs : List ℕ) → IsFirst f q us x.index vs gap → IsChildGap f q (us ++ x.index ∷ []) vs gap') → IsPassed t f w q us vs (record { count = n + 1; gap = gap' })
passed_more t f w q us vs n gap gap' x h p e k over =
    let i = next_is f q (us ++ p.ks) p.rest gap x h p.gap e in
    let c : length p.ks ≡ n = p.count in
    record {
      ks = p.ks ++ x.index ∷ [];
      rest = i.rest;
      is = p.is ∙ ap (λ z. p.ks ++ z) i.is ∙ sym (append_assoc p.ks (x.index ∷ []) i.rest);
      marked = those_append (IsWanted t) w p.ks (x.index ∷ []) p.marked (k, tt);
      count = omega (arith, length-append p.ks (x.index ∷ []));
      gap = subst (λ z. IsChildGap f q z i.rest gap') (append_assoc us p.ks (x.index ∷ [])) (over q (us ++ p.ks) i.rest i.first);
    }

-- fewer children stand before a child than there are nodes
pub fewer_before : (f : Layout) (q : ℕ) (us ks rest : List ℕ) (gap : ChildGap) (x : NodeId) → IsLayout f → IsChildGap f q (us ++ ks) rest gap → gap.next ≡ Some x → length ks < length f.slots
fewer_before f q us ks rest gap x h g e =
    let i = next_is f q (us ++ ks) rest gap x h g e in
    let few : length (children_at f q) ≤ length f.slots = children_few f q h in
    let all : length ((us ++ ks) ++ rest) ≡ length us + length ks + length rest = omega (arith, length-append (us ++ ks) rest, length-append us ks) in
    let one : length rest ≡ length i.rest + 1 = ap length i.is ∙ (omega arith) in
    let is : length (children_at f q) ≡ length ((us ++ ks) ++ rest) = read g.children in omega arith
  where
    read : AreChildren f q ((us ++ ks) ++ rest) → length (children_at f q) ≡ length ((us ++ ks) ++ rest)
    read (inl e) = ap length e
    read (inr e) = ap length e ∙ length-reverse ((us ++ ks) ++ rest)

-- fewer children are passed than there are nodes
pub passed_few : (t : Wanted) (f : Layout) (w : Marks) (q : ℕ) (us vs : List ℕ) (n : ℕ) (gap : ChildGap) (x : NodeId) → IsLayout f →
    IsPassed t f w q us vs (record { count = n; gap = gap }) → gap.next ≡ Some x → n < length f.slots
passed_few t f w q us vs n gap x h p e = let c : length p.ks ≡ n = p.count in let few : length p.ks < length f.slots = fewer_before f q us p.ks p.rest gap x h p.gap e in omega arith

-- the place in front of the first child of a Q-node, and the one in front of its last
pub front_gap : (f : Layout) (n : ℕ) (view : NodeView) → ShowsNode f n view → view.shape ≡ Q → IsChildGap f n [] (children_at f n) (record { before = None; next = slice_index_or view.ends 0 None })
front_gap f n view sh e = record {
  is_q = sh.shape_is ∙ ap Some e;
  children = inl refl;
  before = refl;
  next = ap (λ z. slice_index_or z 0 None) (sh.ends ∙ ap (λ s. shown_ends s (children_at f n)) e);
}

pub back_gap : (f : Layout) (n : ℕ) (view : NodeView) → ShowsNode f n view → view.shape ≡ Q → IsChildGap f n [] (reverse (children_at f n)) (record { before = None; next = slice_index_or view.ends 1 None })
back_gap f n view sh e = record {
  is_q = sh.shape_is ∙ ap Some e;
  children = inr (sym (reverse-reverse (children_at f n)));
  before = refl;
  next = ap (λ z. slice_index_or z 1 None) (sh.ends ∙ ap (λ s. shown_ends s (children_at f n)) e) ∙ ap node_named (sym (head_reverse (children_at f n) none));
}

-- what two walks pass, first over full children and then over at most one partial one
pub record PassedTwo (f : Layout) (w : Marks) (q : ℕ) (us vs : List ℕ) (a b : Passed) : Type 0 where
  pub fs : List ℕ
  pub ps : List ℕ
  pub rest : List ℕ
  pub is : vs ≡ fs ++ (ps ++ rest)
  pub full : AreAll Full w fs
  pub partial : AreAll Partial w ps
  pub fulls : length fs ≡ a.count
  pub partials : length ps ≡ b.count
  pub one : length ps ≤ 1
  pub no_full : EndsWithout Full w (ps ++ rest)
  pub no_partial : length ps ≡ 0 → EndsWithout Partial w rest
  pub first : IsChildGap f q (us ++ fs) (ps ++ rest) a.gap
  pub second : IsChildGap f q ((us ++ fs) ++ ps) rest b.gap

pub passed_two : (f : Layout) (w : Marks) (q : ℕ) (us vs : List ℕ) (a b : Passed) → IsPassed Fulls f w q us vs a →
    ((q : ℕ) (us vs : List ℕ) → IsChildGap f q us vs a.gap → EndsWithout Full w vs) →
    ((q : ℕ) (us vs : List ℕ) → IsChildGap f q us vs a.gap → IsPassed Partials f w q us vs b) →
    ((q : ℕ) (us vs : List ℕ) → b.count ≡ 0 → IsChildGap f q us vs b.gap → EndsWithout Partial w vs) → b.count ≤ 1 → PassedTwo f w q us vs a b
passed_two f w q us vs a b p stops over ends one =
    let r = over q (us ++ p.ks) p.rest p.gap in
    let n : length r.ks ≡ b.count = r.count in
    record {
      fs = p.ks;
      ps = r.ks;
      rest = r.rest;
      is = p.is ∙ ap (λ z. p.ks ++ z) r.is;
      full = p.marked;
      partial = r.marked;
      fulls = p.count;
      partials = n;
      one = omega arith;
      no_full = subst (EndsWithout Full w) r.is (stops q (us ++ p.ks) p.rest p.gap);
      no_partial = λ z. ends q ((us ++ p.ks) ++ r.ks) r.rest (omega arith) r.gap;
      first = subst (λ z. IsChildGap f q (us ++ p.ks) z a.gap) r.is p.gap;
      second = r.gap;
    }

pub gap_none : (f : Layout) (q : ℕ) (us vs : List ℕ) (gap : ChildGap) → IsChildGap f q us vs gap → vs ≡ [] → gap.next ≡ None
gap_none f q us vs gap g e = g.next ∙ ap (λ z. node_named (head_or z none)) e

-- a test for none
pub none_tested : (o : Option NodeId) (b : Bool) → is_some o ≡ not b → b ≡ true → o ≡ None
none_tested None b e t = refl
none_tested (Some x) b e t = absurd (let k : true ≡ not true = e ∙ ap not t in cc)

pub tested_none : (o : Option NodeId) (b : Bool) → is_some o ≡ not b → o ≡ None → b ≡ true
tested_none None true e k = refl
tested_none None false e k = absurd (cc)
tested_none (Some x) b e k = absurd (cc)
