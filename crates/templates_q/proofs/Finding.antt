-- The partial child of a Q-node where Q2 fits, as a walk comes to it.
use Rattle.std.proofs.Common.{◌≡◌, inl, inr, ℕ, ◌≤◌, List, [], ◌∷◌, ◌++◌, length, Some, None, sym, ap, subst, ◌∙◌, arith, reverse}
use Rattle.std.proofs.lemmas.List.{reverse-reverse}
use Rattle.arena_model.specs.ChildLists.{none}
use Rattle.arena_model.specs.Layout.{Layout, children_at, IsLayout}
use Rattle.pq_arena.specs.declared.node.NodeId.{NodeId}
use Rattle.pq_arena.specs.Looks.{node_named}
use Rattle.bubble_pass.specs.declared.labels.Label.TheVariants.{Empty, Partial as Partly, Full}
use Rattle.bubble_pass.specs.Marks.{Marks, label_at}
use Rattle.bubble_pass.specs.Sweep.{full_one, partial_one}
use Rattle.templates_q.specs.declared.walk.ChildGap.{ChildGap}
use Rattle.templates_q.specs.declared.walk.Passed.{Passed}
use Rattle.templates_q.specs.Walk.{AreChildren, AreAll, IsChildGap, IsFirst, IsPassed, EndsWithout}
use Rattle.templates_q.specs.Lines.{IsRunFrom}
use Rattle.templates_q.specs.Splicing.{IsPartialLine}
use Rattle.templates_q.proofs.Lists.{head_reverse, reverse_split}
use Rattle.templates_q.proofs.Lines.{fulls_in, partials_in, partials_append, count_full, count_empty, sum_reverse, all_reverse, same_cut, behind_fulls}
use Rattle.templates_q.proofs.Walks.{next_is, next_none}
use Rattle.templates_q.specs.declared.walk.Wanted.TheVariants.{Fulls}

-- the children read from the other end
pub turn_children : (f : Layout) (q : ℕ) (ks : List ℕ) → AreChildren f q ks → AreChildren f q (reverse ks)
turn_children f q ks (inl e) = inr (e ∙ sym (reverse-reverse ks))
turn_children f q ks (inr e) = inl e

-- how many are partial, in whichever order they are read
pub read_partials : (f : Layout) (w : Marks) (q : ℕ) (ks : List ℕ) → AreChildren f q ks → partials_in w (children_at f q) ≡ partials_in w ks
read_partials f w q ks (inl e) = ap (partials_in w) e
read_partials f w q ks (inr e) = ap (partials_in w) e ∙ sum_reverse (λ k. partial_one (label_at w k)) ks

-- and how many are full
pub read_fulls : (f : Layout) (w : Marks) (q : ℕ) (ks : List ℕ) → AreChildren f q ks → fulls_in w (children_at f q) ≡ fulls_in w ks
read_fulls f w q ks (inl e) = ap (fulls_in w) e
read_fulls f w q ks (inr e) = ap (fulls_in w) e ∙ sum_reverse (λ k. full_one (label_at w k)) ks

-- the partial child is next, behind full ones and in front of empty ones
pub record LineNext (f : Layout) (w : Marks) (q : ℕ) (gap : ChildGap) : Type 0 where
  pub us : List ℕ
  pub vs : List ℕ
  pub c : ℕ
  pub first : IsFirst f q us c vs gap
  pub full : AreAll Full w us
  pub partial : label_at w c ≡ Partly
  pub empty : AreAll Empty w vs

none_partial : (w : Marks) (fs es : List ℕ) → AreAll Full w fs → AreAll Empty w es → partials_in w (fs ++ es) ≡ 0
none_partial w fs es a b =
    let x : partials_in w fs ≡ 0 = (count_full w fs a).1 in let y : partials_in w es ≡ 0 = (count_empty w es b).1 in omega (arith, partials_append w fs es)

next_part : (f : Layout) (w : Marks) (q : ℕ) (fs ps es rest : List ℕ) (gap : ChildGap) → IsChildGap f q fs rest gap → rest ≡ ps ++ es → AreAll Full w fs → AreAll Partly w ps → length ps ≤ 1 → AreAll Empty w es →
    1 ≤ partials_in w (fs ++ (ps ++ es)) → LineNext f w q gap
next_part f w q fs [] es rest gap g e a b one c some = absurd (let z : partials_in w (fs ++ es) ≡ 0 = none_partial w fs es a c in omega arith)
next_part f w q fs (x ∷ []) es rest gap g e a b one c some = record { us = fs; vs = es; c = x; first = subst (λ z. IsChildGap f q fs z gap) e g; full = a; partial = b.0; empty = c }
next_part f w q fs (x ∷ y ∷ ps) es rest gap g e a b one c some = absurd (omega arith)

-- so where the walk over full children of a run stops
pub line_next : (f : Layout) (w : Marks) (q : ℕ) (ks : List ℕ) (p : Passed) → IsPassed Fulls f w q [] ks p → ((q : ℕ) (us vs : List ℕ) → IsChildGap f q us vs p.gap → EndsWithout Full w vs) →
    IsRunFrom w ks → 1 ≤ partials_in w ks → LineNext f w q p.gap
line_next f w q ks p m stops run some =
    let l = run.line in
    let k = same_cut w m.ks m.rest l.fulls (l.parts ++ l.empties) (sym m.is ∙ l.is) m.marked l.full (stops q m.ks m.rest m.gap) (behind_fulls w l.parts l.empties l.partial l.empty) in
    next_part f w q m.ks l.parts l.empties m.rest p.gap m.gap k.rest m.marked l.partial l.one l.empty (subst (λ z. 1 ≤ partials_in w z) (m.is ∙ ap (λ z. m.ks ++ z) k.rest) some)

pub line_shown : (f : Layout) (w : Marks) (q : ℕ) (gap : ChildGap) → IsLayout f → LineNext f w q gap → gap.next ≡ None → ⊥
line_shown f w q gap h n e = let k : n.c ∷ n.vs ≡ [] = next_none f q n.us (n.c ∷ n.vs) gap h n.first e in cc

pub line_found : (f : Layout) (w : Marks) (q : ℕ) (gap : ChildGap) (child : NodeId) → IsLayout f → LineNext f w q gap → gap.next ≡ Some child →
    IsPartialLine f w q (record { child = child; towards = gap.before })
line_found f w q gap child h n e =
    let i = next_is f q n.us (n.c ∷ n.vs) gap child h n.first e in
    let same : n.c ∷ n.vs ≡ child.index ∷ i.rest = i.is in
    let k : n.c ≡ child.index = cc in
    record {
      us = reverse n.vs;
      vs = reverse n.us;
      place = record {
        is_q = n.first.is_q;
        children = subst (λ z. AreChildren f q (reverse n.vs ++ z ∷ reverse n.us)) k (subst (AreChildren f q) (reverse_split n.us n.vs n.c) (turn_children f q (n.us ++ n.c ∷ n.vs) n.first.children));
        towards_is = n.first.before ∙ ap node_named (sym (head_reverse n.us none));
      };
      empty = all_reverse Empty w n.vs n.empty;
      partial = ap (label_at w) (sym k) ∙ n.partial;
      full = all_reverse Full w n.us n.full;
    }
