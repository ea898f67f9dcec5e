-- The children of a Q-shape at one end of some labelled children in its place.
use Rattle.std.proofs.Common.{◌≡◌, ◌≢◌, inl, inr, ℕ, ◌+◌, ◌*◌, ◌≤◌, List, [], ◌∷◌, ◌++◌, map, length, Option, Some, None, refl, sym, ap, subst, ◌∙◌, arith, reverse, append_assoc}
use Rattle.std.proofs.lemmas.List.{reverse-append, reverse-reverse, map-append}
use Rattle.column_order.specs.Orders.{occurs}
use Rattle.column_order.proofs.Lists.{occurs-append}
use Rattle.arena_model.specs.declared.Shape.TheVariants.{Q}
use Rattle.arena_model.specs.ChildLists.{head_or, last_or, none}
use Rattle.arena_model.specs.Layout.{Layout, shape_at, children_at, IsLayout}
use Rattle.arena_model.specs.NamedTree.{outline_below, HasTwoEach}
use Rattle.arena_model.proofs.Lists.{occurs_here, last_or-append, last_reverse}
use Rattle.pq_arena.specs.declared.node.NodeId.{NodeId}
use Rattle.pq_arena.specs.Looks.{node_named}
use Rattle.pq_tree.specs.Forests.{forest, join}
use Rattle.pq_tree.proofs.Forests.{forest_append}
use Rattle.tree_theory.specs.Templates.{Partial, line_if}
use Rattle.bubble_pass.specs.declared.labels.Label.TheVariants.{Partial as Partly}
use Rattle.bubble_pass.specs.Marks.{Marks, size_of}
use Rattle.template_model.specs.Standing.{IsShapeAt}
use Rattle.templates_q.specs.declared.walk.ChildGap.{ChildGap}
use Rattle.templates_q.specs.declared.stretch.PassedSpan.{PassedSpan}
use Rattle.templates_q.specs.Walk.{AreChildren, AreAll, IsChildGap, IsFirst}
use Rattle.templates_q.specs.Span.{IsStretch}
use Rattle.templates_q.specs.Splicing.{IsLineIn, IsSplicedIn}
use Rattle.templates_q.specs.Opening.{CanOpen, CanOpenCounted, AreShaped, IsOpenedAt}
use Rattle.templates_q.proofs.Walks.{children_occur, next_is, next_none}
use Rattle.templates_q.proofs.Runs.{IsPart}
use Rattle.templates_q.proofs.Splicing.{all_has, AreSplicedIn, are_spliced, spliced_shape, spliced_tree, shape_kept}

-- the neighbour of x behind it
pub line_in : (f : Layout) (q : ℕ) (us vs : List ℕ) (x : ℕ) (from to : ChildGap) → IsFirst f q us x vs from → IsChildGap f q (us ++ x ∷ []) vs to → IsLineIn f q x us vs to.next
line_in f q us vs x from to a b = record { is_q = a.is_q; children = a.children; towards_is = b.next }

head_same : (x y : ℕ) (xs ys : List ℕ) → x ∷ xs ≡ y ∷ ys → x ≡ y
head_same x y xs ys e = cc

-- the one node that comes next
pub open_one : (f : Layout) (w : Marks) (from : ChildGap) (x : NodeId) → IsLayout f → CanOpenCounted f w from 1 → from.next ≡ Some x → CanOpen f w from x.index
open_one f w from x h c e = by c.xs (c.place (some c.many)) c.many c.shape
  where
    some : length c.xs ≡ 1 → 1 ≤ length c.xs
    some n = omega arith

    by : (xs : List ℕ) → IsChildGap f c.q c.us (xs ++ c.vs) from → length xs ≡ 1 → ((k : ℕ) → 1 ≤ occurs xs k → (h : Partial) × IsShapeAt f w k h) → CanOpen f w from x.index
    by [] g n s = absurd (omega arith)
    by (y ∷ y' ∷ xs) g n s = absurd (omega arith)
    by (y ∷ []) g n s =
        let i = next_is f c.q c.us (y ∷ c.vs) from x h g e in
        let yx : y ≡ x.index = head_same y x.index c.vs i.rest i.is in
        let t = s y (occurs_here y []) in
        record { two = c.two; room = c.room; q = c.q; us = c.us; vs = c.vs; place = subst (λ z. IsFirst f c.q c.us z c.vs from) yx g; h = t.0; shape = subst (λ z. IsShapeAt f w z t.0) yx t.1 }

pub opened_one : (f g : Layout) (w : Marks) (q : ℕ) (us xs vs : List ℕ) (from : ChildGap) (x : NodeId) → IsLayout f → from.next ≡ Some x → (1 ≤ length xs → IsChildGap f q us (xs ++ vs) from) → length xs ≡ 1 →
    ((q : ℕ) (us vs : List ℕ) (h : Partial) → IsFirst f q us x.index vs from → (s : IsShapeAt f w x.index h) → IsSplicedIn f g q x.index us (s.es ++ s.fs) vs) → IsOpenedAt f g w q from xs
opened_one f g w q us [] vs from x h e gap n made = absurd (omega arith)
opened_one f g w q us (y ∷ y' ∷ xs) vs from x h e gap n made = absurd (omega arith)
opened_one f g w q us (y ∷ []) vs from x h e gap n made =
    let i = next_is f q us (y ∷ vs) from x h (gap (omega arith)) e in
    let yx : x.index ≡ y = sym (head_same y x.index vs i.rest i.is) in
    subst (λ z. (us vs : List ℕ) (h : Partial) → IsFirst f q us z vs from → (s : IsShapeAt f w z h) → IsSplicedIn f g q z us (s.es ++ s.fs) vs) yx (made q)

pub opened_none : (f : Layout) (w : Marks) (q : ℕ) (xs : List ℕ) (from : ChildGap) → length xs ≡ 0 → IsOpenedAt f f w q from xs
opened_none f w q [] from n = refl
opened_none f w q (x ∷ xs) from n = absurd (omega arith)

pub open_some : (f : Layout) (w : Marks) (from : ChildGap) → IsLayout f → CanOpenCounted f w from 1 → from.next ≡ None → ⊥
open_some f w from h c e = by c.xs (c.place (some c.many)) c.many
  where
    some : length c.xs ≡ 1 → 1 ≤ length c.xs
    some n = omega arith

    by : (xs : List ℕ) → IsChildGap f c.q c.us (xs ++ c.vs) from → length xs ≡ 1 → ⊥
    by [] g n = omega arith
    by (y ∷ xs) g n = let z : y ∷ (xs ++ c.vs) ≡ [] = next_none f c.q c.us (y ∷ (xs ++ c.vs)) from h g e in cc

pub open_is_one : (f : Layout) (w : Marks) (from : ChildGap) (count : ℕ) → CanOpenCounted f w from count → count ≢ 0 → count ≡ 1
open_is_one f w from count c ne = let a : length c.xs ≡ count = c.many in let b : length c.xs ≤ 1 = c.one in omega arith

-- what one such step leaves, by what the partial child stands for
pub record IsOpenStep (f g : Layout) (w : Marks) (q : ℕ) (us ps vs : List ℕ) (h : Option Partial) : Type 0 where
  pub ms : List ℕ
  pub trees : forest (map (outline_below f) ms) ≡ line_if h
  pub is_q : shape_at g q ≡ Some Q
  pub new : AreChildren g q (us ++ (ms ++ vs))
  pub same : (k : ℕ) → 1 ≤ occurs (children_at g q) k → outline_below g k ≡ outline_below f k
  pub shapes : (k : ℕ) (h : Partial) → 1 ≤ occurs (children_at g q) k → IsShapeAt f w k h → IsShapeAt g w k h

shape_trees : (f : Layout) (w : Marks) (x : ℕ) (h : Partial) (s : IsShapeAt f w x h) → forest (map (outline_below f) (s.es ++ s.fs)) ≡ join h.e h.f
shape_trees f w x h s =
    ap forest (map-append (outline_below f) s.es s.fs) ∙ forest_append (map (outline_below f) s.es) (map (outline_below f) s.fs)
    ∙ ap (λ z. join z (forest (map (outline_below f) s.fs))) (sym s.empty_trees) ∙ ap (join h.e) (sym s.full_trees)

pub opened_list : (f g : Layout) (w : Marks) (q x : ℕ) (us vs : List ℕ) (from : ChildGap) (h : Partial) → IsLayout f → IsLayout g → IsFirst f q us x vs from → IsOpenedAt f g w q from (x ∷ []) → (s : IsShapeAt f w x h) →
    AreSplicedIn f g q x us (s.es ++ s.fs) vs
opened_list f g w q x us vs from h lf lg gap o s = are_spliced f g w q x us vs h lf lg gap.is_q s (o us vs h gap s)

pub open_step : (f g : Layout) (w : Marks) (q : ℕ) (us ps vs : List ℕ) (from : ChildGap) (h : Option Partial) → IsLayout f → IsLayout g → shape_at f q ≡ Some Q → AreChildren f q (us ++ (ps ++ vs)) →
    (1 ≤ length ps → IsChildGap f q us (ps ++ vs) from) → IsOpenedAt f g w q from ps → IsPart (IsShapeAt f w) w ps h → IsOpenStep f g w q us ps vs h
open_step f g w q us [] vs from None lf lg iq ch gap o p =
    subst (λ z. IsOpenStep f z w q us [] vs None) (sym o)
    (record { ms = []; trees = refl; is_q = iq; new = ch; same = λ k i. refl; shapes = λ k h i s. s })
open_step f g w q us [] vs from (Some h) lf lg iq ch gap o p = absurd p
open_step f g w q us (x ∷ []) vs from None lf lg iq ch gap o p = absurd p
open_step f g w q us (x ∷ []) vs from (Some h) lf lg iq ch gap o p =
    let s : IsShapeAt f w x h = p.1 in
    let a = opened_list f g w q x us vs from h lf lg (gap (omega arith)) o s in
    record {
      ms = s.es ++ s.fs;
      trees = shape_trees f w x h s;
      is_q = spliced_shape f g q x us (s.es ++ s.fs) vs a;
      new = a.new;
      same = spliced_tree f g q x us (s.es ++ s.fs) vs a;
      shapes = λ k h i t. shape_kept f g q x us (s.es ++ s.fs) vs a w k h i t;
    }
open_step f g w q us (x ∷ y ∷ ps) vs from h lf lg iq ch gap o p = absurd o

-- what the partial children stand for
pub part_of : (f : Layout) (w : Marks) (ps : List ℕ) → AreAll Partly w ps → length ps ≤ 1 → ((k : ℕ) → 1 ≤ occurs ps k → (h : Partial) × IsShapeAt f w k h) → (h : Option Partial) × IsPart (IsShapeAt f w) w ps h
part_of f w [] a one s = (None, tt)
part_of f w (x ∷ []) a one s = let t = s x (occurs_here x []) in (Some t.0, (a.0, t.1))
part_of f w (x ∷ y ∷ ps) a one s = absurd (omega arith)

-- partial children keep what they stand for
pub part_kept : (f g : Layout) (w : Marks) (q : ℕ) (ls : List ℕ) (k : Option Partial) → ((k : ℕ) (h : Partial) → 1 ≤ occurs (children_at g q) k → IsShapeAt f w k h → IsShapeAt g w k h) →
    ((k : ℕ) → 1 ≤ occurs ls k → 1 ≤ occurs (children_at g q) k) → IsPart (IsShapeAt f w) w ls k → IsPart (IsShapeAt g w) w ls k
part_kept f g w q [] None kept there p = tt
part_kept f g w q [] (Some h) kept there p = absurd p
part_kept f g w q (x ∷ []) None kept there p = absurd p
part_kept f g w q (x ∷ []) (Some h) kept there p = (p.0, kept x h (there x (occurs_here x [])) p.1)
part_kept f g w q (x ∷ y ∷ ls) None kept there p = absurd p
part_kept f g w q (x ∷ y ∷ ls) (Some h) kept there p = absurd p

-- the place in front of the first partial child
pub front_place : (f : Layout) (w : Marks) (q : ℕ) (s : PassedSpan) (r : IsStretch f w q s) → IsChildGap f q r.us (r.passed.ps ++ (r.passed.fs ++ (r.passed.ls ++ r.passed.rest))) s.from
front_place f w q s r = subst (λ z. IsChildGap f q r.us z s.from) r.passed.is r.passed.from

pub shapes_in : (f : Layout) (w : Marks) (q : ℕ) (ks xs : List ℕ) → AreShaped f w q → AreChildren f q ks → AreAll Partly w xs → ((k : ℕ) → 1 ≤ occurs xs k → 1 ≤ occurs ks k) → (k : ℕ) → 1 ≤ occurs xs k →
    (h : Partial) × IsShapeAt f w k h
shapes_in f w q ks xs s c a there k o = s k (let i : 1 ≤ occurs ks k = there k o in omega (arith, children_occur f q ks k c)) (all_has Partly w xs k a o)

pub first_shapes : (f : Layout) (w : Marks) (q : ℕ) (s : PassedSpan) (r : IsStretch f w q s) → AreShaped f w q → (k : ℕ) → 1 ≤ occurs r.passed.ps k → (h : Partial) × IsShapeAt f w k h
first_shapes f w q s r shaped =
    let p = r.passed in
    shapes_in f w q (r.us ++ (p.ps ++ (p.fs ++ (p.ls ++ p.rest)))) p.ps shaped (front_place f w q s r).children p.first
    (λ k o. omega (arith, occurs-append r.us (p.ps ++ (p.fs ++ (p.ls ++ p.rest))) k, occurs-append p.ps (p.fs ++ (p.ls ++ p.rest)) k))

pub last_shapes : (f : Layout) (w : Marks) (q : ℕ) (s : PassedSpan) (r : IsStretch f w q s) → AreShaped f w q → (k : ℕ) → 1 ≤ occurs r.passed.ls k → (h : Partial) × IsShapeAt f w k h
last_shapes f w q s r shaped =
    let p = r.passed in
    shapes_in f w q (r.us ++ (p.ps ++ (p.fs ++ (p.ls ++ p.rest)))) p.ls shaped (front_place f w q s r).children p.last
    (λ k o. omega (arith, occurs-append r.us (p.ps ++ (p.fs ++ (p.ls ++ p.rest))) k, occurs-append p.ps (p.fs ++ (p.ls ++ p.rest)) k, occurs-append p.fs (p.ls ++ p.rest) k, occurs-append p.ls p.rest k))

pub can_first : (f : Layout) (w : Marks) (q : ℕ) (s : PassedSpan) (r : IsStretch f w q s) → HasTwoEach f → size_of w ≡ length f.slots → AreShaped f w q → CanOpenCounted f w s.from s.first.count
can_first f w q s r two room shaped = let p = r.passed in record {
  two = two;
  room = room;
  q = q;
  us = r.us;
  xs = p.ps;
  vs = p.fs ++ (p.ls ++ p.rest);
  place = λ some. front_place f w q s r;
  many = p.firsts;
  one = p.one;
  shape = first_shapes f w q s r shaped;
}

-- the place behind the last one, read from there, once the first one is given back
turn_back : (us ms fs ls rest : List ℕ) → reverse rest ++ (reverse ls ++ reverse (us ++ (ms ++ fs))) ≡ reverse (us ++ (ms ++ (fs ++ (ls ++ rest))))
turn_back us ms fs ls rest =
    sym (append_assoc (reverse rest) (reverse ls) (reverse (us ++ (ms ++ fs)))) ∙ ap (λ z. z ++ reverse (us ++ (ms ++ fs))) (sym (reverse-append ls rest))
    ∙ sym (reverse-append (us ++ (ms ++ fs)) (ls ++ rest)) ∙ ap reverse (append_assoc us (ms ++ fs) (ls ++ rest) ∙ ap (λ z. us ++ z) (append_assoc ms fs (ls ++ rest)))

pub turned_children : (g : Layout) (q : ℕ) (ks : List ℕ) → AreChildren g q ks → AreChildren g q (reverse ks)
turned_children g q ks (inl e) = inr (e ∙ sym (reverse-reverse ks))
turned_children g q ks (inr e) = inl e

pub single : (ls : List ℕ) → length ls ≤ 1 → reverse ls ≡ ls
single [] n = refl
single (x ∷ []) n = refl
single (x ∷ y ∷ ls) n = absurd (omega arith)

last_is : (xs ls : List ℕ) → 1 ≤ length ls → length ls ≤ 1 → (ys : List ℕ) → last_or (xs ++ ls) none ≡ head_or (ls ++ ys) none
last_is xs [] a b ys = absurd (omega arith)
last_is xs (l ∷ []) a b ys = last_or-append xs (l ∷ []) none
last_is xs (l ∷ l' ∷ ls) a b ys = absurd (omega arith)

pub back_children : (f g : Layout) (w : Marks) (q : ℕ) (s : PassedSpan) (r : IsStretch f w q s) (h : Option Partial) (o : IsOpenStep f g w q r.us r.passed.ps (r.passed.fs ++ (r.passed.ls ++ r.passed.rest)) h) →
    AreChildren g q (reverse r.passed.rest ++ (r.passed.ls ++ reverse (r.us ++ (o.ms ++ r.passed.fs))))
back_children f g w q s r h o = let p = r.passed in
    subst (AreChildren g q) (sym (turn_back r.us o.ms p.fs p.ls p.rest) ∙ ap (λ z. reverse p.rest ++ (z ++ reverse (r.us ++ (o.ms ++ p.fs)))) (single p.ls p.one_more))
    (turned_children g q (r.us ++ (o.ms ++ (p.fs ++ (p.ls ++ p.rest)))) o.new)

pub back_place : (f g : Layout) (w : Marks) (q : ℕ) (s : PassedSpan) (r : IsStretch f w q s) (h : Option Partial) (o : IsOpenStep f g w q r.us r.passed.ps (r.passed.fs ++ (r.passed.ls ++ r.passed.rest)) h) → 1 ≤ length r.passed.ls →
    IsChildGap g q (reverse r.passed.rest) (r.passed.ls ++ reverse (r.us ++ (o.ms ++ r.passed.fs))) (record { before = s.last.gap.next; next = s.last.gap.before })
back_place f g w q s r h o some = let p = r.passed in record {
  is_q = o.is_q;
  children = back_children f g w q s r h o;
  before = p.end.next ∙ ap node_named (sym (last_reverse p.rest none));
  next = p.end.before
      ∙ ap (λ z. node_named (last_or z none)) (ap (λ z. r.us ++ z) (sym (append_assoc p.ps p.fs p.ls)) ∙ sym (append_assoc r.us (p.ps ++ p.fs) p.ls))
      ∙ ap node_named (last_is (r.us ++ (p.ps ++ p.fs)) p.ls some p.one_more (reverse (r.us ++ (o.ms ++ p.fs))));
}

-- the second step, in the arena g that the first one left
pub last_there : (f g : Layout) (w : Marks) (q : ℕ) (s : PassedSpan) (r : IsStretch f w q s) (h : Option Partial) (o : IsOpenStep f g w q r.us r.passed.ps (r.passed.fs ++ (r.passed.ls ++ r.passed.rest)) h) → (k : ℕ) → 1 ≤ occurs r.passed.ls k →
    1 ≤ occurs (children_at g q) k
last_there f g w q s r h o k i = let p = r.passed in let xs = reverse (r.us ++ (o.ms ++ p.fs)) in
    omega (arith, children_occur g q (reverse p.rest ++ (p.ls ++ xs)) k (back_children f g w q s r h o), occurs-append (reverse p.rest) (p.ls ++ xs) k, occurs-append p.ls xs k)

pub back_shapes : (f g : Layout) (w : Marks) (q : ℕ) (s : PassedSpan) (r : IsStretch f w q s) (h : Option Partial) (o : IsOpenStep f g w q r.us r.passed.ps (r.passed.fs ++ (r.passed.ls ++ r.passed.rest)) h) → AreShaped f w q → (k : ℕ) → 1 ≤ occurs r.passed.ls k →
    (h : Partial) × IsShapeAt g w k h
back_shapes f g w q s r h o shaped k i = let t = last_shapes f w q s r shaped k i in (t.0, o.shapes k t.0 (last_there f g w q s r h o k i) t.1)

pub can_last : (f g : Layout) (w : Marks) (q : ℕ) (s : PassedSpan) (r : IsStretch f w q s) (h : Option Partial) (o : IsOpenStep f g w q r.us r.passed.ps (r.passed.fs ++ (r.passed.ls ++ r.passed.rest)) h) → HasTwoEach g → size_of w ≡ length g.slots →
    AreShaped f w q → CanOpenCounted g w (record { before = s.last.gap.next; next = s.last.gap.before }) s.last.count
can_last f g w q s r h o two room shaped = let p = r.passed in record {
  two = two;
  room = room;
  q = q;
  us = reverse p.rest;
  xs = p.ls;
  vs = reverse (r.us ++ (o.ms ++ p.fs));
  place = λ some. back_place f g w q s r h o some;
  many = p.lasts;
  one = p.one_more;
  shape = back_shapes f g w q s r h o shaped;
}

-- as many nodes as before
pub same_room : (f g : Layout) (w : Marks) → IsLayout f → IsLayout g → g.columns ≡ f.columns → size_of w ≡ length f.slots → size_of w ≡ length g.slots
same_room f g w hf hg e room = let a : length f.slots ≡ 2 * f.columns + 4 = hf.size in let b : length g.slots ≡ 2 * g.columns + 4 = hg.size in omega arith

-- the first step of two
pub front_step : (f g : Layout) (w : Marks) (q : ℕ) (s : PassedSpan) (r : IsStretch f w q s) (h : Option Partial) → IsLayout f → IsLayout g → IsOpenedAt f g w q s.from r.passed.ps → IsPart (IsShapeAt f w) w r.passed.ps h →
    IsOpenStep f g w q r.us r.passed.ps (r.passed.fs ++ (r.passed.ls ++ r.passed.rest)) h
front_step f g w q s r h hf hg o p = let pass = r.passed in
    open_step f g w q r.us pass.ps (pass.fs ++ (pass.ls ++ pass.rest)) s.from h hf hg pass.from.is_q (front_place f w q s r).children (λ some. front_place f w q s r) o p

pub front_part : (f : Layout) (w : Marks) (q : ℕ) (s : PassedSpan) (r : IsStretch f w q s) → AreShaped f w q → (h : Option Partial) × IsPart (IsShapeAt f w) w r.passed.ps h
front_part f w q s r shaped = part_of f w r.passed.ps r.passed.first r.passed.one (first_shapes f w q s r shaped)
