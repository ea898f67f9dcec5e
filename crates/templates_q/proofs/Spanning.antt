-- Where Q3 fits, by a walk over the labelled children that stand together.
use Rattle.std.proofs.Common.{◌≡◌, ◌≢◌, inl, inr, ℕ, ◌+◌, ◌≤◌, true, false, List, [], ◌∷◌, ◌++◌, map, length, Some, None, refl, sym, ap, subst, ◌∙◌, arith, reverse, append_assoc}
use Rattle.std.specs.Prelude.{All, Bool, IsTrue, ◌↔◌}
use mathlib.Core.Bool.{not}
use Rattle.std.proofs.lemmas.Bool.{cases_eq}
use Rattle.std.proofs.lemmas.List.{length-reverse, reverse-reverse}
use Rattle.std.proofs.lemmas.List.Elements.{All-head, All-tail}
use Rattle.column_order.specs.Orders.{occurs}
use Rattle.column_order.proofs.Lists.{occurs-append}
use Rattle.arena_model.specs.declared.Shape.TheVariants.{Q}
use Rattle.arena_model.specs.Layout.{Layout, shape_at, children_at}
use Rattle.arena_model.specs.NamedTree.{outline_below}
use Rattle.arena_model.proofs.Lists.{occurs_here, occurs_other}
use Rattle.pq_arena.specs.declared.node.NodeId.{NodeId}
use Rattle.tree_theory.specs.Templates.{Label, IsTwoSidedRun, q3}
use Rattle.pq_tree.specs.Outline.{q_node}
use Rattle.pq_tree.specs.Forests.{forest}
use Rattle.bubble_pass.specs.declared.labels.Label.{Label as Mark}
use Rattle.bubble_pass.specs.declared.labels.Label.TheVariants.{Empty, Partial as Partly, Full}
use Rattle.pq_arena.specs.RowNodes.{indices}
use Rattle.bubble_pass.specs.Marks.{Marks, label_at, first_of, fulls_at, partials_at, IsFollowed}
use Rattle.bubble_pass.specs.Pass.{IsRightAt}
use Rattle.bubble_pass.specs.Sweep.{full_one, partial_one}
use Rattle.template_model.specs.Standing.{AreMarkedAs, IsReady, IsInMarkedRun}
use Rattle.templates_q.specs.declared.stretch.PassedSpan.{PassedSpan}
use Rattle.templates_q.specs.Walk.{AreChildren, AreAll, EndsWithout, AreLabelled}
use Rattle.templates_q.specs.Lines.{AreCounted, IsFullFirst}
use Rattle.templates_q.specs.Fits.{FitsQ2, FitsQ3}
use Rattle.templates_q.specs.Span.{BeginsEmpty, EndsEmpty, BeginsLabelled, IsMarkedChild, IsStretch}
use Rattle.templates_q.proofs.Lines.{fulls_in, partials_in, fulls_append, partials_append, count_full, count_partial, count_empty, none_counted, all_first, all_last, all_reverse, reverse_three, sum_reverse}
use Rattle.templates_q.proofs.Fitting.{Any, counted_at, parts_any, fitting_line}
use Rattle.templates_q.proofs.Spans.{SpanLine, MidLine, StayBy, IsSpanLine, parts_line, line_parts, line_turned, span_line, made_span}
use Rattle.templates_q.proofs.Splicing.{all_of}
use Rattle.templates_q.proofs.Stretches.{all_labelled, labelled_back}

-- labels that are not both
not_empty_first : (w : Marks) (vs : List ℕ) → AreAll Empty w vs → BeginsLabelled w vs → ⊥
not_empty_first w [] a b = b
not_empty_first w (x ∷ vs) a b = b a.0

ends_tail : (w : Marks) (x : ℕ) (us : List ℕ) → EndsEmpty w (x ∷ us) → EndsEmpty w us
ends_tail w x [] e = tt
ends_tail w x (y ∷ us) e = e

-- between labelled nodes of a line no empty one stands
mid_step : (w : Marks) (x : ℕ) (ks : List ℕ) (l : Mark) → label_at w x ≡ l → MidLine w (x ∷ ks) → (MidLine w ks → ⊥) → (AreAll Empty w ks → ⊥) → ⊥
mid_step w x ks Empty k m on off = off (subst (λ l. StayBy Full l (MidLine w ks) (AreAll Empty w ks)) k m)
mid_step w x ks Partly k m on off = off (subst (λ l. StayBy Full l (MidLine w ks) (AreAll Empty w ks)) k m)
mid_step w x ks Full k m on off = on (subst (λ l. StayBy Full l (MidLine w ks) (AreAll Empty w ks)) k m)

mid_gap : (w : Marks) (x : ℕ) (us vs : List ℕ) → MidLine w ((x ∷ us) ++ vs) → EndsEmpty w (x ∷ us) → BeginsLabelled w vs → ⊥
mid_gap w x [] vs m e b = not_empty_first w vs (subst (λ l. StayBy Full l (MidLine w vs) (AreAll Empty w vs)) e m) b
mid_gap w x (y ∷ us) vs m e b =
    mid_step w x ((y ∷ us) ++ vs) (label_at w x) refl m (λ k. mid_gap w y us vs k e b) (λ a. not_empty_first w vs (all_last Empty w (y ∷ us) vs a) b)

-- what stands before the first labelled node of a line, behind an empty one
pub record IsLed (w : Marks) (us vs : List ℕ) : Type 0 where
  pub empty : AreAll Empty w us
  pub line : SpanLine w vs

pub led : (w : Marks) (us vs : List ℕ) → SpanLine w (us ++ vs) → EndsEmpty w us → BeginsLabelled w vs → IsLed w us vs
led w [] vs s e b = record { empty = tt; line = s }
led w (x ∷ us) vs s e b = by (label_at w x) refl (λ k. led w us vs k (ends_tail w x us e) b)
  where
    never : (us : List ℕ) → label_at w x ≢ Empty → MidLine w (us ++ vs) → EndsEmpty w (x ∷ us) → ⊥
    never [] ne m e = ne e
    never (y ∷ us) ne m e = mid_gap w y us vs m e b

    by : (l : Mark) → label_at w x ≡ l → (SpanLine w (us ++ vs) → IsLed w us vs) → IsLed w (x ∷ us) vs
    by Empty k again =
        let r = again (subst (λ l. StayBy Empty l (SpanLine w (us ++ vs)) (MidLine w (us ++ vs))) k s) in
        record { empty = (k, r.empty); line = r.line }
    by Partly k again = absurd (never us (λ z. let q : Partly ≡ Empty = sym k ∙ z in cc) (subst (λ l. StayBy Empty l (SpanLine w (us ++ vs)) (MidLine w (us ++ vs))) k s) e)
    by Full k again = absurd (never us (λ z. let q : Full ≡ Empty = sym k ∙ z in cc) (subst (λ l. StayBy Empty l (SpanLine w (us ++ vs)) (MidLine w (us ++ vs))) k s) e)

-- what a walk over full nodes and at most one partial one leaves of a line
mid_rest : (w : Marks) (fs ls rest : List ℕ) → MidLine w (fs ++ (ls ++ rest)) → AreAll Full w fs → AreAll Partly w ls → length ls ≤ 1 → EndsWithout Full w (ls ++ rest) →
    (length ls ≡ 0 → EndsWithout Partly w rest) → AreAll Empty w rest
mid_rest w (x ∷ fs) ls rest m a b one no_full no_last =
    mid_rest w fs ls rest (subst (λ l. StayBy Full l (MidLine w (fs ++ (ls ++ rest))) (AreAll Empty w (fs ++ (ls ++ rest)))) a.0 m) a.1 b one no_full no_last
mid_rest w [] (l ∷ []) rest m a b one no_full no_last = subst (λ z. StayBy Full z (MidLine w rest) (AreAll Empty w rest)) b.0 m
mid_rest w [] (l ∷ l' ∷ ls) rest m a b one no_full no_last = absurd (omega arith)
mid_rest w [] [] [] m a b one no_full no_last = tt
mid_rest w [] [] (x ∷ rest) m a b one no_full no_last = by (label_at w x) refl
  where
    by : (l : Mark) → label_at w x ≡ l → AreAll Empty w (x ∷ rest)
    by Empty k = (k, subst (λ z. StayBy Full z (MidLine w rest) (AreAll Empty w rest)) k m)
    by Partly k = absurd (no_last refl k)
    by Full k = absurd (no_full k)

span_rest : (w : Marks) (ps fs ls rest : List ℕ) → SpanLine w (ps ++ (fs ++ (ls ++ rest))) → BeginsLabelled w (ps ++ (fs ++ (ls ++ rest))) → AreAll Partly w ps → length ps ≤ 1 → AreAll Full w fs →
    AreAll Partly w ls → length ls ≤ 1 → (length ps ≡ 0 → EndsWithout Partly w (fs ++ (ls ++ rest))) → EndsWithout Full w (ls ++ rest) → (length ls ≡ 0 → EndsWithout Partly w rest) → AreAll Empty w rest
span_rest w (p ∷ []) fs ls rest s b p1 one a l1 two no_first no_full no_last =
    mid_rest w fs ls rest (subst (λ l. StayBy Empty l (SpanLine w (fs ++ (ls ++ rest))) (MidLine w (fs ++ (ls ++ rest)))) p1.0 s) a l1 two no_full no_last
span_rest w (p ∷ p' ∷ ps) fs ls rest s b p1 one a l1 two no_first no_full no_last = absurd (omega arith)
span_rest w [] (x ∷ fs) ls rest s b p1 one a l1 two no_first no_full no_last =
    mid_rest w fs ls rest (subst (λ l. StayBy Empty l (SpanLine w (fs ++ (ls ++ rest))) (MidLine w (fs ++ (ls ++ rest)))) a.0 s) a.1 l1 two no_full no_last
span_rest w [] [] (l ∷ ls) rest s b p1 one a l1 two no_first no_full no_last = absurd (no_first refl l1.0)
span_rest w [] [] [] [] s b p1 one a l1 two no_first no_full no_last = absurd b
span_rest w [] [] [] (x ∷ rest) s b p1 one a l1 two no_first no_full no_last = absurd (by (label_at w x) refl)
  where
    by : (l : Mark) → label_at w x ≡ l → ⊥
    by Empty k = b k
    by Partly k = no_first refl k
    by Full k = no_full k

-- what stands before and behind the labelled nodes
pub record IsAlone (w : Marks) (us rest : List ℕ) : Type 0 where
  pub before : AreAll Empty w us
  pub behind : AreAll Empty w rest

pub line_alone : (f : Layout) (w : Marks) (q : ℕ) (s : PassedSpan) (r : IsStretch f w q s) → SpanLine w (r.us ++ r.vs) → IsAlone w r.us r.passed.rest
line_alone f w q s r line =
    let p = r.passed in let d : IsLed w r.us r.vs = led w r.us r.vs line r.before r.some in
    record {
      before = d.empty;
      behind = span_rest w p.ps p.fs p.ls p.rest (subst (SpanLine w) p.is d.line) (subst (BeginsLabelled w) p.is r.some) p.first p.one p.full p.last p.one_more p.no_first p.no_full p.no_last;
    }

pub alone_parts : (f : Layout) (w : Marks) (q : ℕ) (s : PassedSpan) (r : IsStretch f w q s) → IsAlone w r.us r.passed.rest → IsSpanLine w (r.us ++ r.vs)
alone_parts f w q s r a = let p = r.passed in record {
  es = r.us;
  ps = p.ps;
  fs = p.fs;
  ls = p.ls;
  gs = p.rest;
  is = ap (λ z. r.us ++ z) p.is;
  empty = a.before;
  first = p.first;
  one = p.one;
  full = p.full;
  last = p.last;
  one_more = p.one_more;
  behind = a.behind;
}

-- a line in the order of the children and in that of the walk
pub children_line : (f : Layout) (w : Marks) (q : ℕ) (ks : List ℕ) → AreChildren f q ks → SpanLine w (children_at f q) → SpanLine w ks
children_line f w q ks (inl e) s = subst (SpanLine w) e s
children_line f w q ks (inr e) s = subst (SpanLine w) (ap reverse e ∙ reverse-reverse ks) (line_turned w (children_at f q) s)

pub line_children : (f : Layout) (w : Marks) (q : ℕ) (ks : List ℕ) → AreChildren f q ks → SpanLine w ks → SpanLine w (children_at f q)
line_children f w q ks (inl e) s = subst (SpanLine w) (sym e) s
line_children f w q ks (inr e) s = subst (SpanLine w) (sym e) (line_turned w ks s)

pub stretch_line : (f : Layout) (w : Marks) (q : ℕ) (s : PassedSpan) (r : IsStretch f w q s) → IsAlone w r.us r.passed.rest → SpanLine w (children_at f q)
stretch_line f w q s r a = line_children f w q (r.us ++ r.vs) r.passed.from.children (parts_line w (r.us ++ r.vs) (alone_parts f w q s r a))

pub line_stretch : (f : Layout) (w : Marks) (q : ℕ) (s : PassedSpan) (r : IsStretch f w q s) → SpanLine w (children_at f q) → IsAlone w r.us r.passed.rest
line_stretch f w q s r line = line_alone f w q s r (children_line f w q (r.us ++ r.vs) r.passed.from.children line)

-- where Q3 fits by its line
pub line_fits3 : (f : Layout) (w : Marks) (q : ℕ) (ps : List Label) → shape_at f q ≡ Some Q → AreMarkedAs f w q ps → SpanLine w (children_at f q) → (FitsQ2 f q ps → ⊥) → FitsQ3 f q true ps
line_fits3 f w q ps is_q m line lacks =
    let ks = children_at f q in let o = outline_below f in let l = line_parts w ks line in
    let r = made_span Any o w l.es l.ps l.fs l.ls l.gs ps l.empty l.first l.one l.full l.last l.one_more l.behind (m ∙ ap (map (label_at w)) l.is) (parts_any (l.es ++ (l.ps ++ (l.fs ++ (l.ls ++ l.gs)))) ps) in (
      is_q,
      q_node (q3 (forest (map o l.es)) r.h (forest (map o l.fs)) r.k (forest (map o l.gs))),
      record {
        at = refl;
        es = forest (map o l.es);
        h = r.h;
        fs = forest (map o l.fs);
        k = r.k;
        gs = forest (map o l.gs);
        pattern = subst (λ z. IsTwoSidedRun (forest (map o z)) ps (forest (map o l.es)) r.h (forest (map o l.fs)) r.k (forest (map o l.gs))) (sym l.is) r.span;
        not_q2 = λ x i. lacks (is_q, x, i);
        becomes = refl;
      },
    )

pub fits3_line : (f : Layout) (w : Marks) (q : ℕ) (ps : List Label) → AreMarkedAs f w q ps → FitsQ3 f q true ps → SpanLine w (children_at f q)
fits3_line f w q ps m fits = span_line w (children_at f q) fits.2.pattern m

-- along a line Q3 fits where Q2 does not
pub other_fits : (f : Layout) (w : Marks) (q : ℕ) (ps : List Label) → shape_at f q ≡ Some Q → AreMarkedAs f w q ps → SpanLine w (children_at f q) → (b : Bool) → (IsTrue b ↔ FitsQ2 f q ps) →
    (IsTrue (not b) ↔ FitsQ3 f q true ps)
other_fits f w q ps is_q m line true h = ((λ t. absurd (cc)), (λ fits. absurd (let z = h.0 refl in fits.2.not_q2 z.1 z.2)))
other_fits f w q ps is_q m line false h = ((λ t. line_fits3 f w q ps is_q m line (λ z. let e : false ≡ true = h.1 z in cc)), (λ fits. refl))

-- how many of the children are full and how many partial, by a walk over those that stand together
record SumsAt (w : Marks) (us ps fs ls rest : List ℕ) (full partial : ℕ) : Type 0 where
  full_is : full ≡ fulls_in w us + length fs + fulls_in w rest
  partial_is : partial ≡ partials_in w us + length ps + length ls + partials_in w rest

children_sums : (f : Layout) (w : Marks) (q : ℕ) (ks : List ℕ) (full partial : ℕ) → AreChildren f q ks → AreCounted w (children_at f q) full partial → (full ≡ fulls_in w ks) × (partial ≡ partials_in w ks)
children_sums f w q ks full partial (inl e) c = (c.full ∙ ap (λ z. fulls_in w z) e, c.partial ∙ ap (λ z. partials_in w z) e)
children_sums f w q ks full partial (inr e) c =
    (c.full ∙ ap (λ z. fulls_in w z) e ∙ sum_reverse (λ k. full_one (label_at w k)) ks, c.partial ∙ ap (λ z. partials_in w z) e ∙ sum_reverse (λ k. partial_one (label_at w k)) ks)

sums : (f : Layout) (w : Marks) (q full partial : ℕ) (s : PassedSpan) (r : IsStretch f w q s) → AreCounted w (children_at f q) full partial → SumsAt w r.us r.passed.ps r.passed.fs r.passed.ls r.passed.rest full partial
sums f w q full partial s r c =
    let p = r.passed in
    let t = children_sums f w q (r.us ++ r.vs) full partial p.from.children c in
    let tf : full ≡ fulls_in w (r.us ++ (p.ps ++ (p.fs ++ (p.ls ++ p.rest)))) = t.0 ∙ ap (λ z. fulls_in w (r.us ++ z)) p.is in
    let tp : partial ≡ partials_in w (r.us ++ (p.ps ++ (p.fs ++ (p.ls ++ p.rest)))) = t.1 ∙ ap (λ z. partials_in w (r.us ++ z)) p.is in
    let a = count_partial w p.ps p.first in let b = count_full w p.fs p.full in let d = count_partial w p.ls p.last in
    let a0 : fulls_in w p.ps ≡ 0 = a.0 in let a1 : partials_in w p.ps ≡ length p.ps = a.1 in
    let b0 : fulls_in w p.fs ≡ length p.fs = b.0 in let b1 : partials_in w p.fs ≡ 0 = b.1 in
    let d0 : fulls_in w p.ls ≡ 0 = d.0 in let d1 : partials_in w p.ls ≡ length p.ls = d.1 in
    record {
      full_is = omega (arith, fulls_append w r.us (p.ps ++ (p.fs ++ (p.ls ++ p.rest))), fulls_append w p.ps (p.fs ++ (p.ls ++ p.rest)), fulls_append w p.fs (p.ls ++ p.rest), fulls_append w p.ls p.rest);
      partial_is = omega (arith, partials_append w r.us (p.ps ++ (p.fs ++ (p.ls ++ p.rest))), partials_append w p.ps (p.fs ++ (p.ls ++ p.rest)), partials_append w p.fs (p.ls ++ p.rest), partials_append w p.ls p.rest);
    }

-- they tell whether all labelled ones were passed
pub counted_alone : (f : Layout) (w : Marks) (q full partial : ℕ) (s : PassedSpan) (r : IsStretch f w q s) → AreCounted w (children_at f q) full partial → full ≡ s.fulls.count → partial ≡ s.first.count + s.last.count →
    IsAlone w r.us r.passed.rest
counted_alone f w q full partial s r c ef ep =
    let p = r.passed in
    let n = sums f w q full partial s r c in
    let n0 : full ≡ fulls_in w r.us + length p.fs + fulls_in w p.rest = n.full_is in
    let n1 : partial ≡ partials_in w r.us + length p.ps + length p.ls + partials_in w p.rest = n.partial_is in
    let a : length p.ps ≡ s.first.count = p.firsts in let b : length p.fs ≡ s.fulls.count = p.fulls in let d : length p.ls ≡ s.last.count = p.lasts in
    record { before = none_counted w r.us (omega arith) (omega arith); behind = none_counted w p.rest (omega arith) (omega arith) }

pub alone_counted : (f : Layout) (w : Marks) (q full partial : ℕ) (s : PassedSpan) (r : IsStretch f w q s) → AreCounted w (children_at f q) full partial → IsAlone w r.us r.passed.rest →
    (full ≡ s.fulls.count) × (partial ≡ s.first.count + s.last.count)
alone_counted f w q full partial s r c alone =
    let p = r.passed in
    let n = sums f w q full partial s r c in
    let n0 : full ≡ fulls_in w r.us + length p.fs + fulls_in w p.rest = n.full_is in
    let n1 : partial ≡ partials_in w r.us + length p.ps + length p.ls + partials_in w p.rest = n.partial_is in
    let a : length p.ps ≡ s.first.count = p.firsts in let b : length p.fs ≡ s.fulls.count = p.fulls in let d : length p.ls ≡ s.last.count = p.lasts in
    let x = count_empty w r.us alone.before in let y = count_empty w p.rest alone.behind in
    let x0 : fulls_in w r.us ≡ 0 = x.0 in let x1 : partials_in w r.us ≡ 0 = x.1 in
    let y0 : fulls_in w p.rest ≡ 0 = y.0 in let y1 : partials_in w p.rest ≡ 0 = y.1 in
    (omega arith, omega arith)

-- the first node of the chain is a labelled child, and without one there is none
pub first_marked : (f : Layout) (w : Marks) (n : ℕ) (x : NodeId) → shape_at f n ≡ Some Q → IsRightAt f w n → first_of w n ≡ Some x → IsMarkedChild f w n x.index
first_marked f w n x is_q r e = by r.chain r.is refl
  where
    by : (xs : List NodeId) → IsFollowed w (first_of w n) xs → r.chain ≡ xs → IsMarkedChild f w n x.index
    by [] i k = absurd (let z : Some x ≡ None = sym e ∙ i in cc)
    by (y ∷ ys) i k =
        let z : Some y ≡ Some x = sym i.0 ∙ e in
        let yx : y ≡ x = (cc) in
        let o : 1 ≤ occurs (indices r.chain) x.index = subst (λ c. 1 ≤ occurs (indices c) x.index) (sym k) (subst (λ c. 1 ≤ occurs (indices (y ∷ ys)) c.index) yx (occurs_here y.index (indices ys))) in
        record { is_q = is_q; child = r.child x.index o; marked = r.labelled x.index o }

-- where the walk around that node passed s: the counts of Q3 tell whether it fits
module _ (f : Layout) (w : Marks) (n : ℕ) (x : NodeId) (s : PassedSpan) (a b : ℕ) (is_q : shape_at f n ≡ Some Q) (ready : IsReady f w n) (first : first_of w n ≡ Some x)
    (stretch : (q : ℕ) → IsMarkedChild f w q x.index → IsStretch f w q s) (full : a ≡ fulls_at w n) (partial : b ≡ partials_at w n) (ps : List Label) (marked : AreMarkedAs f w n ps) where
  around : IsStretch f w n s
  around = stretch n (first_marked f w n x is_q ready.right first)

  counted : AreCounted w (children_at f n) a b
  counted = counted_at f w n a b ready full partial

  pub counted_fits : a ≡ s.fulls.count → b ≡ s.first.count + s.last.count → (two : Bool) → (IsTrue two ↔ FitsQ2 f n ps) → IsTrue (not two) ↔ FitsQ3 f n true ps
  counted_fits d e two fits = other_fits f w n ps is_q marked (stretch_line f w n s around (counted_alone f w n a b s around counted d e)) two fits

  pub fits_counted : FitsQ3 f n true ps → (a ≡ s.fulls.count) × (b ≡ s.first.count + s.last.count)
  fits_counted fits = alone_counted f w n a b s around counted (line_stretch f w n s around (fits3_line f w n ps marked fits))

all_by : (w : Marks) (ks : List ℕ) → ((k : ℕ) → 1 ≤ occurs ks k → label_at w k ≡ Empty) → AreAll Empty w ks
all_by w [] of = tt
all_by w (k ∷ ks) of = (of k (occurs_here k ks), all_by w ks (λ x o. of x (omega arith)))

pub none_marked : (f : Layout) (w : Marks) (n : ℕ) → IsRightAt f w n → first_of w n ≡ None → AreAll Empty w (children_at f n)
none_marked f w n r e = by r.chain r.is refl
  where
    no : (k : ℕ) → r.chain ≡ [] → 1 ≤ occurs (children_at f n) k → label_at w k ≢ Empty → ⊥
    no k c o l = let z : 1 ≤ occurs (indices []) k = subst (λ c. 1 ≤ occurs (indices c) k) c (r.all k o l) in omega arith

    one : (k : ℕ) → r.chain ≡ [] → 1 ≤ occurs (children_at f n) k → (l : Mark) → label_at w k ≡ l → label_at w k ≡ Empty
    one k c o Empty e = e
    one k c o Partly e = absurd (no k c o (λ z. let q : Partly ≡ Empty = sym e ∙ z in cc))
    one k c o Full e = absurd (no k c o (λ z. let q : Full ≡ Empty = sym e ∙ z in cc))

    by : (xs : List NodeId) → IsFollowed w (first_of w n) xs → r.chain ≡ xs → AreAll Empty w (children_at f n)
    by [] i k = all_by w (children_at f n) (λ x o. one x k o (label_at w x) refl)
    by (y ∷ ys) i k = absurd (let z : Some y ≡ None = sym i.0 ∙ e in cc)

-- The run of inner children of a Q-node: labelled ones, between empty ones.
pub record IsBlock (w : Marks) (ks : List ℕ) : Type 0 where
  pub us : List ℕ
  pub run : List ℕ
  pub vs : List ℕ
  pub is : ks ≡ us ++ (run ++ vs)
  pub before : AreAll Empty w us
  pub labelled : AreLabelled w run
  pub behind : AreAll Empty w vs
  pub some : 1 ≤ length run

pub all_marked : (w : Marks) (ks : List ℕ) → All (λ x. label_at w x ≢ Empty) ks → AreLabelled w ks
all_marked w [] a = tt
all_marked w (k ∷ ks) a = (All-head (λ x. label_at w x ≢ Empty) k ks a, all_marked w ks (All-tail (λ x. label_at w x ≢ Empty) k ks a))

pub run_block : (f : Layout) (w : Marks) (q n : ℕ) → IsInMarkedRun f w q n → IsBlock w (children_at f q)
run_block f w q n r = record {
  us = r.us;
  run = r.ks;
  vs = r.vs;
  is = r.children;
  before = all_of Empty w r.us r.before;
  labelled = all_marked w r.ks r.marked;
  behind = all_of Empty w r.vs r.behind;
  some = let s : 2 ≤ length r.ks = r.some in omega arith;
}

pub block_turned : (w : Marks) (ks : List ℕ) → IsBlock w ks → IsBlock w (reverse ks)
block_turned w ks b = record {
  us = reverse b.vs;
  run = reverse b.run;
  vs = reverse b.us;
  is = ap reverse b.is ∙ reverse_three b.us b.run b.vs;
  before = all_reverse Empty w b.vs b.behind;
  labelled = labelled_back w b.run b.labelled;
  behind = all_reverse Empty w b.us b.before;
  some = let s : 1 ≤ length b.run = b.some in omega (arith, length-reverse b.run);
}

pub children_block : (f : Layout) (w : Marks) (q : ℕ) (ks : List ℕ) → AreChildren f q ks → IsBlock w (children_at f q) → IsBlock w ks
children_block f w q ks (inl e) b = subst (IsBlock w) e b
children_block f w q ks (inr e) b = subst (IsBlock w) (ap reverse e ∙ reverse-reverse ks) (block_turned w (children_at f q) b)

-- a run is cut nowhere
run_gap : (w : Marks) (run vs : List ℕ) (u : ℕ) (us ws : List ℕ) → run ++ vs ≡ (u ∷ us) ++ ws → AreLabelled w run → AreAll Empty w vs → EndsEmpty w (u ∷ us) → BeginsLabelled w ws → ⊥
run_gap w [] vs u us ws e a b x y = not_empty_first w ws (all_last Empty w (u ∷ us) ws (subst (AreAll Empty w) e b)) y
run_gap w (k ∷ run) vs u [] ws e a b x y = let i : k ≡ u = cc in a.0 (ap (label_at w) i ∙ x)
run_gap w (k ∷ run) vs u (u' ∷ us) ws e a b x y = let t : run ++ vs ≡ (u' ∷ us) ++ ws = cc in run_gap w run vs u' us ws t a.1 b x y

record SameLead (us us' xs vs : List ℕ) : Type 0 where
  lead : us ≡ us'
  rest : xs ≡ vs

same_lead : (w : Marks) (us run vs us' vs' : List ℕ) → us ++ (run ++ vs) ≡ us' ++ vs' → AreAll Empty w us → AreLabelled w run → AreAll Empty w vs → EndsEmpty w us' → BeginsLabelled w vs' → SameLead us us' (run ++ vs) vs'
same_lead w [] run vs [] vs' e a b c x y = record { lead = refl; rest = e }
same_lead w [] run vs (u ∷ us') vs' e a b c x y = absurd (run_gap w run vs u us' vs' e b c x y)
same_lead w (k ∷ us) run vs [] [] e a b c x y = absurd y
same_lead w (k ∷ us) run vs [] (v ∷ vs') e a b c x y = absurd (let i : k ≡ v = cc in y (ap (label_at w) (sym i) ∙ a.0))
same_lead w (k ∷ us) run vs (u ∷ us') vs' e a b c x y =
    let i : k ≡ u = cc in let t : us ++ (run ++ vs) ≡ us' ++ vs' = cc in
    let r = same_lead w us run vs us' vs' t a.1 b c (ends_tail w u us' x) y in
    record { lead = ap (λ z. z ∷ us) i ∙ ap (λ z. u ∷ z) r.lead; rest = r.rest }

same_rest : (w : Marks) (xs rest run vs : List ℕ) → xs ++ rest ≡ run ++ vs → AreLabelled w xs → BeginsEmpty w rest → AreLabelled w run → AreAll Empty w vs → AreAll Empty w rest
same_rest w [] rest [] vs e a b c d = subst (AreAll Empty w) (sym e) d
same_rest w [] [] (k ∷ run) vs e a b c d = tt
same_rest w [] (x ∷ rest) (k ∷ run) vs e a b c d = absurd (let i : x ≡ k = cc in c.0 (ap (label_at w) (sym i) ∙ b))
same_rest w (x ∷ xs) rest [] [] e a b c d = absurd (cc)
same_rest w (x ∷ xs) rest [] (v ∷ vs) e a b c d = absurd (let i : x ≡ v = cc in a.0 (ap (label_at w) i ∙ d.0))
same_rest w (x ∷ xs) rest (k ∷ run) vs e a b c d = let t : xs ++ rest ≡ run ++ vs = cc in same_rest w xs rest run vs t a.1 b c.1 d

of_label : (w : Marks) (l : Mark) (ks : List ℕ) → (l ≡ Empty → ⊥) → AreAll l w ks → AreLabelled w ks
of_label w l [] n a = tt
of_label w l (k ∷ ks) n a = ((λ z. n (sym a.0 ∙ z)), of_label w l ks n a.1)

-- in a block the walk passed all labelled ones where it did not stop at one
pub block_alone : (f : Layout) (w : Marks) (q : ℕ) (s : PassedSpan) (r : IsStretch f w q s) → IsBlock w (children_at f q) → BeginsEmpty w r.passed.rest → IsAlone w r.us r.passed.rest
block_alone f w q s r b0 e =
    let p = r.passed in
    let b = children_block f w q (r.us ++ r.vs) p.from.children b0 in
    let l = same_lead w b.us b.run b.vs r.us r.vs (sym b.is) b.before b.labelled b.behind r.before r.some in
    let xs = p.ps ++ (p.fs ++ p.ls) in
    let is : xs ++ p.rest ≡ b.run ++ b.vs = append_assoc p.ps (p.fs ++ p.ls) p.rest ∙ ap (λ z. p.ps ++ z) (append_assoc p.fs p.ls p.rest) ∙ sym p.is ∙ sym l.rest in
    record {
      before = subst (AreAll Empty w) l.lead b.before;
      behind = same_rest w xs p.rest b.run b.vs is
          (all_labelled w p.ps (p.fs ++ p.ls) (of_label w Partly p.ps (λ z. cc) p.first) (all_labelled w p.fs p.ls (of_label w Full p.fs (λ z. cc) p.full) (of_label w Partly p.ls (λ z. cc) p.last)))
          e b.labelled b.behind;
    }

pub alone_begins : (w : Marks) (us rest : List ℕ) → IsAlone w us rest → BeginsEmpty w rest
alone_begins w us [] a = tt
alone_begins w us (x ∷ rest) a = a.behind.0

-- where the first child and the last one are empty, Q2 does not fit
front_empty_all : (w : Marks) (x : ℕ) (xs : List ℕ) → label_at w x ≡ Empty → IsFullFirst w (x ∷ xs) → AreAll Empty w (x ∷ xs)
front_empty_all w x xs k l = by l.fulls l.parts l.empties l.is l.full l.partial l.empty
  where
    by : (fs ps es : List ℕ) → x ∷ xs ≡ fs ++ (ps ++ es) → AreAll Full w fs → AreAll Partly w ps → AreAll Empty w es → AreAll Empty w (x ∷ xs)
    by (y ∷ fs) ps es e a b c = absurd (let i : x ≡ y = cc in let z : Full ≡ Empty = sym a.0 ∙ ap (label_at w) (sym i) ∙ k in cc)
    by [] (y ∷ ps) es e a b c = absurd (let i : x ≡ y = cc in let z : Partly ≡ Empty = sym b.0 ∙ ap (label_at w) (sym i) ∙ k in cc)
    by [] [] es e a b c = subst (AreAll Empty w) (sym e) c

block_not_empty : (w : Marks) (ks : List ℕ) → IsBlock w ks → AreAll Empty w ks → ⊥
block_not_empty w ks b a = by b.run b.labelled b.some (all_first Empty w b.run b.vs (all_last Empty w b.us (b.run ++ b.vs) (subst (AreAll Empty w) b.is a)))
  where
    by : (run : List ℕ) → AreLabelled w run → 1 ≤ length run → AreAll Empty w run → ⊥
    by [] l s a = omega arith
    by (k ∷ run) l s a = l.0 a.0

no_front : (w : Marks) (ks : List ℕ) (b : IsBlock w ks) → 1 ≤ length b.us → IsFullFirst w ks → ⊥
no_front w ks b some l = by b.us b.is b.before some
  where
    by : (us : List ℕ) → ks ≡ us ++ (b.run ++ b.vs) → AreAll Empty w us → 1 ≤ length us → ⊥
    by [] e a s = omega arith
    by (u ∷ us) e a s = block_not_empty w (u ∷ (us ++ (b.run ++ b.vs))) (subst (IsBlock w) e b) (front_empty_all w u (us ++ (b.run ++ b.vs)) a.0 (subst (IsFullFirst w) e l))

pub run_not2 : (f : Layout) (w : Marks) (q n : ℕ) (ps : List Label) → IsInMarkedRun f w q n → AreMarkedAs f w q ps → FitsQ2 f q ps → ⊥
unfolding run_block block_turned
run_not2 f w q n ps r m fits =
    let b = run_block f w q n r in
    elim (fitting_line f w q ps m fits) [
      | inl l ↦ no_front w (children_at f q) b r.left l.line
      | inr l ↦ no_front w (reverse (children_at f q)) (block_turned w (children_at f q) b) (let s : 1 ≤ length r.vs = r.right in omega (arith, length-reverse r.vs)) l.line
    ]

pub run_marked : (f : Layout) (w : Marks) (q n : ℕ) → IsInMarkedRun f w q n → IsMarkedChild f w q n
run_marked f w q n r = record {
  is_q = r.is_q;
  child = subst (λ z. 1 ≤ occurs z n) (sym r.children) (let o : 1 ≤ occurs r.ks n = r.one_of in omega (arith, occurs-append r.us (r.ks ++ r.vs) n, occurs-append r.ks r.vs n));
  marked = of_run r.ks (all_marked w r.ks r.marked) r.one_of;
}
  where
    of_run : (ks : List ℕ) → AreLabelled w ks → 1 ≤ occurs ks n → label_at w n ≢ Empty
    of_run [] a o = absurd (omega arith)
    of_run (k ∷ ks) a o = elim (cases_eq n k) [
      | inl e ↦ subst (λ z. label_at w z ≢ Empty) (sym e) a.0
      | inr ne ↦ of_run ks a.1 (subst (λ z. 1 ≤ z) (occurs_other k n ks ne) o)
    ]

-- a walk over a run did not begin at an end of the Q-node
no_start : (w : Marks) (ks : List ℕ) (b : IsBlock w ks) → 1 ≤ length b.us → BeginsLabelled w ks → ⊥
no_start w ks b some l = by b.us b.is b.before some
  where
    by : (us : List ℕ) → ks ≡ us ++ (b.run ++ b.vs) → AreAll Empty w us → 1 ≤ length us → ⊥
    by [] e a s = omega arith
    by (u ∷ us) e a s = let n : BeginsLabelled w (u ∷ (us ++ (b.run ++ b.vs))) = subst (BeginsLabelled w) e l in n a.0

pub run_inner : (f : Layout) (w : Marks) (q n : ℕ) (vs : List ℕ) → IsInMarkedRun f w q n → AreChildren f q vs → BeginsLabelled w vs → ⊥
unfolding run_block block_turned
run_inner f w q n vs r (inl e) l = no_start w (children_at f q) (run_block f w q n r) r.left (subst (BeginsLabelled w) (sym e) l)
run_inner f w q n vs r (inr e) l =
    no_start w (reverse (children_at f q)) (block_turned w (children_at f q) (run_block f w q n r)) (let s : 1 ≤ length r.vs = r.right in omega (arith, length-reverse r.vs))
    (subst (BeginsLabelled w) (sym (ap reverse e ∙ reverse-reverse vs)) l)
