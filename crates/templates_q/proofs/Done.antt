-- What stands once the children of the Q-shapes at both ends of the labelled children are in their places.
use Rattle.std.proofs.Common.{ℕ, ◌≤◌, List, ◌++◌, Option, arith, reverse, subst}
use Rattle.column_order.specs.Orders.{occurs}
use Rattle.column_order.proofs.Lists.{occurs-append}
use Rattle.arena_model.specs.Layout.{Layout, children_at, IsLayout}
use Rattle.arena_model.specs.NamedTree.{IsOneTree, HasTwoEach}
use Rattle.tree_theory.specs.Templates.{Partial, Label}
use Rattle.bubble_pass.specs.Marks.{Marks}
use Rattle.template_model.specs.Standing.{IsShapeAt, AreMarkedAs, IsReady, IsReadyInside, IsInMarkedRun}
use Rattle.template_model.specs.Treated.{IsTreated}
use Rattle.templates_q.specs.declared.stretch.PassedSpan.{PassedSpan}
use Rattle.templates_q.specs.Fits.{FitsQ2}
use Rattle.templates_q.specs.Span.{IsStretch, StandsQ3, AreKeptBelow, BecomesQ3, IsMarkedChild}
use Rattle.templates_q.specs.Opening.{AreShaped, AreOpened}
use Rattle.templates_q.proofs.Walks.{children_occur}
use Rattle.templates_q.proofs.Runs.{IsPart}
use Rattle.templates_q.proofs.Making.{shape_of}
use Rattle.templates_q.proofs.Spanning.{fits3_line, line_stretch, run_marked}
use Rattle.templates_q.proofs.Opening.{IsOpenStep, part_of, part_kept, last_there, last_shapes, front_place, front_part, front_step, back_place}
use Rattle.templates_q.proofs.Twice.{IsTreatedStep, step_treated, treated_twice, below_twice}
use Rattle.templates_q.proofs.Laying.{IsLaidOut, laid_out, q2_other, q3_becomes}
use Rattle.arena_model.proofs.Paths.{one_parent}

-- where Q3 stands each partial child is a Q-shape
pub all_shaped : (f : Layout) (w : Marks) (q : ℕ) → StandsQ3 f w q → AreShaped f w q
all_shaped f w q s = λ k o l. shape_of f w (children_at f q) s.ps k s.marked s.shapes o l

-- Q3 was applied at q, and the children us in front of the labelled ones are children still
pub record IsDone (f e : Layout) (w : Marks) (q : ℕ) (us : List ℕ) : Type 0 where
  pub treated : IsTreated f e w w q q
  pub below : AreKeptBelow f e w w q
  pub becomes : BecomesQ3 f e w q q
  pub left : (k : ℕ) → 1 ≤ occurs us k → 1 ≤ occurs (children_at e q) k

pub q3_done : (f e : Layout) (w : Marks) (q : ℕ) (s : PassedSpan) (r : IsStretch f w q s) → IsLayout f → IsLayout e → IsOneTree f → HasTwoEach f → StandsQ3 f w q → AreOpened f e w q s r → IsDone f e w q r.us
q3_done f e w q s r hf he one two st o = record {
  treated = treated_twice f o.g e w q hf o.layout t.treated u.treated;
  below = below_twice f o.g e w q hf o.layout t.treated.arena t.below u.below;
  becomes = q3_becomes f e w q s r hf he (line_stretch f w q s r (fits3_line f w q st.ps st.marked st.fits)) o lacks;
  left = λ k i. let l : IsLaidOut f e q r.us r.passed.fs r.passed.rest h.0 k2.0 = laid_out f e w q s r h.0 k2.0 hf he o h.1 k2.1 in let d = l.laid in
      let tail = d.ms ++ (r.passed.fs ++ (reverse d.ns ++ r.passed.rest)) in
      omega (arith, children_occur e q (r.us ++ tail) k d.children, occurs-append r.us tail k);
}
  where
    h : (h : Option Partial) × IsPart (IsShapeAt f w) w r.passed.ps h
    h = front_part f w q s r (all_shaped f w q st)

    k2 : (k : Option Partial) × IsPart (IsShapeAt f w) w r.passed.ls k
    k2 = part_of f w r.passed.ls r.passed.last r.passed.one_more (last_shapes f w q s r (all_shaped f w q st))

    a : IsOpenStep f o.g w q r.us r.passed.ps (r.passed.fs ++ (r.passed.ls ++ r.passed.rest)) h.0
    a = front_step f o.g w q s r h.0 hf o.layout o.first h.1

    t : IsTreatedStep f o.g w q
    t = step_treated f o.g w q r.us r.passed.ps (r.passed.fs ++ (r.passed.ls ++ r.passed.rest)) s.from h.0 hf o.layout r.passed.from.is_q (λ some. front_place f w q s r) o.first h.1 one two

    u : IsTreatedStep o.g e w q
    u = step_treated o.g e w q (reverse r.passed.rest) r.passed.ls (reverse (r.us ++ (a.ms ++ r.passed.fs))) (record { before = s.last.gap.next; next = s.last.gap.before }) k2.0 o.layout he a.is_q
        (λ some. back_place f o.g w q s r h.0 a some) o.last (part_kept f o.g w q r.passed.ls k2.0 a.shapes (last_there f o.g w q s r h.0 a) k2.1) t.treated.arena.one t.treated.arena.two

    lacks : (rs : List Label) → AreMarkedAs f w q rs → FitsQ2 f q rs → ⊥
    lacks rs m fits = let z = q2_other f w q rs st.ps m st.marked fits in st.fits.2.not_q2 z.1 z.2

-- so at the pertinent root, by what the walk around its first labelled child and the opening of its ends came to
pub done_at : (f e : Layout) (w : Marks) (q : ℕ) (seen : PassedSpan) (r : IsStretch f w q seen) → IsLayout f → IsLayout e → IsReady f w q → StandsQ3 f w q →
    ((q : ℕ) (r : IsStretch f w q seen) → AreShaped f w q → AreOpened f e w q seen r) → IsDone f e w q r.us
done_at f e w q seen r hf he ready st opened = q3_done f e w q seen r hf he ready.one ready.two st (opened q r (all_shaped f w q st))

-- the Q-node of a run is known by its child
pub standing : (f : Layout) (w : Marks) (n q : ℕ) → IsLayout f → (q : ℕ) × IsInMarkedRun f w q n × StandsQ3 f w q → IsInMarkedRun f w q n → StandsQ3 f w q
standing f w n q h st run = subst (StandsQ3 f w) (one_parent f st.0 q n h (run_marked f w st.0 n st.1).child (run_marked f w q n run).child) st.2

-- so at the Q-node of a run
pub done_around : (f e : Layout) (w : Marks) (n q : ℕ) (seen : PassedSpan) → IsLayout f → IsLayout e → IsReadyInside f w n → (q : ℕ) × IsInMarkedRun f w q n × StandsQ3 f w q →
    ((q : ℕ) → IsMarkedChild f w q n → IsStretch f w q seen) → ((q : ℕ) (r : IsStretch f w q seen) → AreShaped f w q → AreOpened f e w q seen r) → IsInMarkedRun f w q n →
    (r : IsStretch f w q seen) × IsDone f e w q r.us
done_around f e w n q seen hf he ready stands stretch opened run =
    let st = standing f w n q hf stands run in
    let r = stretch q (run_marked f w q n run) in
    (r, q3_done f e w q seen r hf he ready.one ready.two st (opened q r (all_shaped f w q st)))
