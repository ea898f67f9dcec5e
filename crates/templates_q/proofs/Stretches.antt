-- Walks over the labelled children around one of them.
use Rattle.std.proofs.Common.{cond, ◌≡◌, ◌≢◌, inl, inr, ℕ, ◌+◌, ◌≤◌, List, [], ◌∷◌, ◌++◌, length, Some, None, refl, sym, ap, subst, ◌∙◌, arith, append_assoc, reverse}
use Rattle.std.specs.Prelude.{slice_index_or}
use Rattle.std.proofs.lemmas.List.{reverse-reverse, reverse-append}
use Rattle.arena_model.specs.ChildLists.{head_or, none}
use Rattle.arena_model.specs.Layout.{Layout, children_at, IsLayout}
use Rattle.arena_model.proofs.Lists.{last_or-append, last_reverse, reverse_cons, SplitAt, split_at}
use Rattle.pq_arena.specs.declared.node.NodeId.{NodeId}
use Rattle.pq_arena.specs.declared.node.NodeView.{NodeView}
use Rattle.pq_arena.specs.Looks.{node_named, ShowsNode}
use Rattle.bubble_pass.specs.declared.labels.Label.{Label as Mark}
use Rattle.bubble_pass.specs.declared.labels.Label.TheVariants.{Empty, Partial, Full}
use Rattle.bubble_pass.specs.Marks.{Marks, label_at}
use Rattle.bubble_pass.specs.Sweep.{full_one, partial_one}
use Rattle.arena_model.proofs.Slots.{child_used}
use Rattle.templates_q.specs.declared.walk.ChildGap.{ChildGap}
use Rattle.templates_q.specs.declared.walk.Passed.{Passed}
use Rattle.templates_q.specs.declared.walk.Wanted.TheVariants.{Fulls, Partials, Labelled}
use Rattle.templates_q.specs.declared.stretch.PassedSpan.{PassedSpan}
use Rattle.templates_q.specs.Walk.{AreChildren, AreLabelled, IsChildGap, IsPassed, IsWanted, EndsBefore, EndsWithout, wants, wanted_one}
use Rattle.templates_q.specs.Span.{labelled_in, BeginsEmpty, EndsEmpty, BeginsLabelled, IsMarkedChild, IsStart, IsSpanPassed}
use Rattle.templates_q.proofs.Lists.{head_reverse, reverse_split}
use Rattle.templates_q.proofs.Lines.{those_append, fulls_append, partials_append, fulls_cons, partials_cons, sum_reverse, count_full, count_partial}
use Rattle.templates_q.proofs.Walks.{is_named, next_child}

-- the labelled ones of two lists, and of a list that is turned
pub labelled_append : (w : Marks) (xs ys : List ℕ) → labelled_in w (xs ++ ys) ≡ labelled_in w xs + labelled_in w ys
labelled_append w xs ys = omega (arith, fulls_append w xs ys, partials_append w xs ys)

pub labelled_cons : (w : Marks) (x : ℕ) (xs : List ℕ) → labelled_in w (x ∷ xs) ≡ full_one (label_at w x) + partial_one (label_at w x) + labelled_in w xs
labelled_cons w x xs = omega (arith, fulls_cons w x xs, partials_cons w x xs)

pub labelled_reverse : (w : Marks) (xs : List ℕ) → labelled_in w (reverse xs) ≡ labelled_in w xs
labelled_reverse w xs = omega (arith, sum_reverse (λ k. full_one (label_at w k)) xs, sum_reverse (λ k. partial_one (label_at w k)) xs)

some_eq : (x y : NodeId) → Some x ≡ Some y → x ≡ y
some_eq x y e = cc

one_labelled : (l : Mark) → l ≢ Empty → full_one l + partial_one l ≡ 1
one_labelled Empty n = absurd (n refl)
one_labelled Partial n = refl
one_labelled Full n = refl

pub count_labelled : (w : Marks) (ks : List ℕ) → AreLabelled w ks → labelled_in w ks ≡ length ks
count_labelled w [] a = refl
count_labelled w (x ∷ xs) a = omega (arith, count_labelled w xs a.1, one_labelled (label_at w x) a.0, labelled_cons w x xs)

pub children_labelled : (f : Layout) (w : Marks) (q : ℕ) (ks : List ℕ) → AreChildren f q ks → labelled_in w (children_at f q) ≡ labelled_in w ks
children_labelled f w q ks (inl e) = ap (λ z. labelled_in w z) e
children_labelled f w q ks (inr e) = ap (λ z. labelled_in w z) e ∙ labelled_reverse w ks

pub all_labelled : (w : Marks) (xs ys : List ℕ) → AreLabelled w xs → AreLabelled w ys → AreLabelled w (xs ++ ys)
all_labelled w xs ys a b = those_append (λ m. m ≢ Empty) w xs ys a b

pub labelled_back : (w : Marks) (ks : List ℕ) → AreLabelled w ks → AreLabelled w (reverse ks)
labelled_back w [] a = tt
labelled_back w (x ∷ xs) a = subst (AreLabelled w) (sym (reverse_cons x xs)) (all_labelled w (reverse xs) (x ∷ []) (labelled_back w xs a.1) (a.0, tt))

-- where no labelled node comes next, an empty one does, or none
pub begins_empty : (w : Marks) (vs : List ℕ) → EndsBefore (IsWanted Labelled) w vs → BeginsEmpty w vs
begins_empty w [] e = tt
begins_empty w (x ∷ vs) e = by (label_at w x) refl
  where
    by : (l : Mark) → label_at w x ≡ l → label_at w x ≡ Empty
    by Empty k = k
    by Partial k = absurd (e (λ z. let y : Partial ≡ Empty = sym k ∙ z in cc))
    by Full k = absurd (e (λ z. let y : Full ≡ Empty = sym k ∙ z in cc))

-- where an empty node comes next, or none, that is told so
pub stopped_labelled : (f : Layout) (w : Marks) (q : ℕ) (us vs : List ℕ) (gap : ChildGap) → IsLayout f → IsChildGap f q us vs gap → BeginsEmpty w vs → wanted_one Labelled w gap.next ≡ None
stopped_labelled f w q us [] gap h g e = ap (wanted_one Labelled w) g.next
stopped_labelled f w q us (x ∷ vs) gap h g e =
    ap (wanted_one Labelled w) (g.next ∙ is_named f x h (child_used f q x h (next_child f q us vs x gap g)))
    ∙ ap (λ l. cond (wants Labelled l) (Some (let n : NodeId = record { index = x } in n)) None) e

-- the place at one side of the child x, as a walk away from x has it
pub record IsAside (f : Layout) (q : ℕ) (x : NodeId) (gap : ChildGap) : Type 0 where
  pub us : List ℕ
  pub vs : List ℕ
  pub place : IsChildGap f q (us ++ x.index ∷ []) vs gap

pub aside : (f : Layout) (w : Marks) (q : ℕ) (x : NodeId) (view : NodeView) → IsLayout f → IsMarkedChild f w q x.index → ShowsNode f x.index view →
    IsAside f q x (record { before = Some x; next = slice_index_or view.near 0 None })
aside f w q x view h m sh = elim (sh.run q s.us s.vs m.is_q s.is).1 [
  | inl k ↦ record {
    us = reverse s.vs;
    vs = reverse s.us;
    place = made (reverse s.vs) (reverse s.us) (inr (s.is ∙ sym (reverse_split (reverse s.vs) (reverse s.us) x.index
        ∙ ap (λ z. z ++ x.index ∷ reverse (reverse s.vs)) (reverse-reverse s.us) ∙ ap (λ z. s.us ++ x.index ∷ z) (reverse-reverse s.vs))))
        (ap (λ z. slice_index_or z 0 None) k ∙ ap node_named (sym (head_reverse s.us none)));
  }
  | inr k ↦ record { us = s.us; vs = s.vs; place = made s.us s.vs (inl s.is) (ap (λ z. slice_index_or z 0 None) k) }
]
  where
    s : SplitAt (children_at f q) x.index
    s = split_at (children_at f q) x.index m.child

    made : (us vs : List ℕ) → AreChildren f q (us ++ x.index ∷ vs) → slice_index_or view.near 0 None ≡ node_named (head_or vs none) →
        IsChildGap f q (us ++ x.index ∷ []) vs (record { before = Some x; next = slice_index_or view.near 0 None })
    made us vs a e = record {
      is_q = m.is_q;
      children = subst (AreChildren f q) (sym (append_assoc us (x.index ∷ []) vs)) a;
      before = sym (ap node_named (last_or-append us (x.index ∷ []) none) ∙ is_named f x.index h (child_used f q x.index h m.child));
      next = e;
    }

-- a place as a walk back has it
pub turned_gap : (f : Layout) (q : ℕ) (us vs : List ℕ) (gap : ChildGap) → IsChildGap f q us vs gap → IsChildGap f q (reverse vs) (reverse us) (record { before = gap.next; next = gap.before })
turned_gap f q us vs gap g = record {
  is_q = g.is_q;
  children = read g.children;
  before = g.next ∙ ap node_named (sym (last_reverse vs none));
  next = g.before ∙ ap node_named (sym (head_reverse us none));
}
  where
    read : AreChildren f q (us ++ vs) → AreChildren f q (reverse vs ++ reverse us)
    read (inl e) = inr (e ∙ sym (reverse-append (reverse vs) (reverse us) ∙ ap (λ z. z ++ reverse (reverse vs)) (reverse-reverse us) ∙ ap (λ z. us ++ z) (reverse-reverse vs)))
    read (inr e) = inl (e ∙ reverse-append us vs)

ends_empty : (w : Marks) (xs : List ℕ) (e : ℕ) → label_at w e ≡ Empty → EndsEmpty w (xs ++ e ∷ [])
ends_empty w [] e k = k
ends_empty w (x ∷ []) e k = k
ends_empty w (x ∷ y ∷ xs) e k = ends_empty w (y ∷ xs) e k

end_turned : (w : Marks) (xs : List ℕ) → BeginsEmpty w xs → EndsEmpty w (reverse xs)
end_turned w [] b = tt
end_turned w (x ∷ xs) b = subst (EndsEmpty w) (sym (reverse_cons x xs)) (ends_empty w (reverse xs) x b)

begins : (w : Marks) (ks : List ℕ) (x : ℕ) (rest : List ℕ) → AreLabelled w ks → label_at w x ≢ Empty → BeginsLabelled w (ks ++ x ∷ rest)
begins w [] x rest a n = n
begins w (k ∷ ks) x rest a n = a.0

-- a walk from x to one side over all labelled children, turned
pub start_made : (f : Layout) (w : Marks) (q : ℕ) (x : NodeId) (us vs : List ℕ) (p : Passed) → label_at w x.index ≢ Empty → (r : IsPassed Labelled f w q (us ++ x.index ∷ []) vs p) → BeginsEmpty w r.rest →
    IsStart f w q (record { before = p.gap.next; next = p.gap.before })
start_made f w q x us vs p n r stops = record {
  us = reverse r.rest;
  vs = reverse ((us ++ x.index ∷ []) ++ r.ks);
  place = turned_gap f q ((us ++ x.index ∷ []) ++ r.ks) r.rest p.gap r.gap;
  before = end_turned w r.rest stops;
  some = subst (BeginsLabelled w) (sym (reverse-append (us ++ x.index ∷ []) r.ks ∙ ap (λ z. reverse r.ks ++ z) (reverse-append us (x.index ∷ []))))
      (begins w (reverse r.ks) x.index (reverse us) (labelled_back w r.ks r.marked) n);
}

-- how many were passed, x among them
pub start_few : (f : Layout) (w : Marks) (q : ℕ) (x : NodeId) (us vs : List ℕ) (p : Passed) → label_at w x.index ≢ Empty → IsPassed Labelled f w q (us ++ x.index ∷ []) vs p →
    1 + p.count ≤ labelled_in w (children_at f q)
start_few f w q x us vs p n r =
    let c : length r.ks ≡ p.count = r.count in
    let k : labelled_in w r.ks ≡ length r.ks = count_labelled w r.ks r.marked in
    let o : labelled_in w (x.index ∷ []) ≡ 1 = count_labelled w (x.index ∷ []) (n, tt) in
    let e : labelled_in w (children_at f q) ≡ labelled_in w (((us ++ x.index ∷ []) ++ r.ks) ++ r.rest) = children_labelled f w q (((us ++ x.index ∷ []) ++ r.ks) ++ r.rest) r.gap.children in
    omega (arith, labelled_append w ((us ++ x.index ∷ []) ++ r.ks) r.rest, labelled_append w (us ++ x.index ∷ []) r.ks, labelled_append w us (x.index ∷ []))

-- three walks after one another: over at most one partial child, over full ones, and over at most one partial one
pub span_passed : (f : Layout) (w : Marks) (q : ℕ) (us vs : List ℕ) (s : PassedSpan) → IsChildGap f q us vs s.from →
    ((q : ℕ) (us vs : List ℕ) → IsChildGap f q us vs s.from → IsPassed Partials f w q us vs s.first) →
    ((q : ℕ) (us vs : List ℕ) → s.first.count ≡ 0 → IsChildGap f q us vs s.first.gap → EndsWithout Partial w vs) → s.first.count ≤ 1 →
    ((q : ℕ) (us vs : List ℕ) → IsChildGap f q us vs s.first.gap → IsPassed Fulls f w q us vs s.fulls) →
    ((q : ℕ) (us vs : List ℕ) → IsChildGap f q us vs s.fulls.gap → EndsWithout Full w vs) →
    ((q : ℕ) (us vs : List ℕ) → IsChildGap f q us vs s.fulls.gap → IsPassed Partials f w q us vs s.last) →
    ((q : ℕ) (us vs : List ℕ) → s.last.count ≡ 0 → IsChildGap f q us vs s.last.gap → EndsWithout Partial w vs) → s.last.count ≤ 1 → IsSpanPassed f w q us vs s
span_passed f w q us vs s g over1 ends1 one over2 ends2 over3 ends3 one_more =
    let a = over1 q us vs g in
    let b = over2 q (us ++ a.ks) a.rest a.gap in
    let c = over3 q ((us ++ a.ks) ++ b.ks) b.rest b.gap in
    let na : length a.ks ≡ s.first.count = a.count in
    let nc : length c.ks ≡ s.last.count = c.count in
    let tail : a.rest ≡ b.ks ++ (c.ks ++ c.rest) = b.is ∙ ap (λ z. b.ks ++ z) c.is in
    record {
      ps = a.ks;
      fs = b.ks;
      ls = c.ks;
      rest = c.rest;
      is = a.is ∙ ap (λ z. a.ks ++ z) tail;
      first = a.marked;
      full = b.marked;
      last = c.marked;
      one = omega arith;
      one_more = omega arith;
      firsts = na;
      fulls = b.count;
      lasts = nc;
      no_first = λ z. subst (EndsWithout Partial w) tail (ends1 q (us ++ a.ks) a.rest (sym na ∙ z) a.gap);
      no_full = subst (EndsWithout Full w) c.is (ends2 q ((us ++ a.ks) ++ b.ks) b.rest b.gap);
      no_last = λ z. ends3 q (((us ++ a.ks) ++ b.ks) ++ c.ks) c.rest (sym nc ∙ z) c.gap;
      from = g;
      end = subst (λ z. IsChildGap f q z c.rest s.last.gap)
          (ap (λ z. z ++ c.ks) (append_assoc us a.ks b.ks) ∙ append_assoc us (a.ks ++ b.ks) c.ks ∙ ap (λ z. us ++ z) (append_assoc a.ks b.ks c.ks)) c.gap;
    }

-- no more are passed than have labels
pub span_few : (f : Layout) (w : Marks) (q : ℕ) (us vs : List ℕ) (s : PassedSpan) → IsSpanPassed f w q us vs s → s.first.count + s.fulls.count + s.last.count ≤ labelled_in w (children_at f q)
span_few f w q us vs s r =
    let e : labelled_in w (children_at f q) ≡ labelled_in w (us ++ vs) = children_labelled f w q (us ++ vs) r.from.children in
    let i : labelled_in w vs ≡ labelled_in w (r.ps ++ (r.fs ++ (r.ls ++ r.rest))) = ap (λ z. labelled_in w z) r.is in
    let a = count_partial w r.ps r.first in let b = count_full w r.fs r.full in let c = count_partial w r.ls r.last in
    let a1 : labelled_in w r.ps ≡ length r.ps = omega (arith, a.0, a.1) in
    let b1 : labelled_in w r.fs ≡ length r.fs = omega (arith, b.0, b.1) in
    let c1 : labelled_in w r.ls ≡ length r.ls = omega (arith, c.0, c.1) in
    let na : length r.ps ≡ s.first.count = r.firsts in let nb : length r.fs ≡ s.fulls.count = r.fulls in let nc : length r.ls ≡ s.last.count = r.lasts in
    omega (arith, labelled_append w us vs, labelled_append w r.ps (r.fs ++ (r.ls ++ r.rest)), labelled_append w r.fs (r.ls ++ r.rest), labelled_append w r.ls r.rest)
