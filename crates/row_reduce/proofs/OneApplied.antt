-- What a template makes of a node, by its name.
use Rattle.std.proofs.Common.{◌≡◌, ℕ, sym, subst}
use Rattle.arena_model.specs.Layout.{Layout, IsLayout}
use Rattle.bubble_pass.specs.Marks.{Marks}
use Rattle.template_model.specs.Standing.{IsReady}
use Rattle.template_model.specs.Treated.{IsTreated}
use Rattle.template_model.proofs.Unchanged.{unchanged}
use Rattle.row_reduce.specs.declared.template.Template.{Template}
use Rattle.templates_p.specs.Fits.{FitsP2, FitsP3, FitsP4, FitsP5, FitsP6, StandsP2, StandsP3, StandsP4, StandsP5, StandsP6}
use Rattle.templates_q.specs.Fits.{FitsQ3, StandsQ2}
use Rattle.templates_q.specs.Span.{CanApplyQ3}
use Rattle.row_reduce.specs.declared.template.Template.TheVariants.{P2, P3, P4, P5, P6, Q2, Q3}
use Rattle.row_reduce.specs.Becomes.{CanApply, Becomes}
use Rattle.row_reduce.proofs.Unmoved.{not_meant}

-- nothing has changed
pub same_treated : (f g : Layout) (v w : Marks) (n a : ℕ) → IsLayout f → IsReady f v n → g ≡ f → w ≡ v → a ≡ n → IsTreated f g v w n a
same_treated f g v w n a h r eg ew ea =
    subst (λ z. IsTreated f z v w n a) (sym eg) (subst (λ z. IsTreated f f v z n a) (sym ew) (subst (λ z. IsTreated f f v v n z) (sym ea) (unchanged f v n h r.one r.two r.used)))

-- what it becomes, by its name
pub by_name : (f g : Layout) (v w : Marks) (n a : ℕ) (t s : Template) → s ≡ t → Becomes t f g v w n a → Becomes s f g v w n a
by_name f g v w n a t s e b = subst (λ z. Becomes z f g v w n a) (sym e) b

-- where a template can be applied, it stands as its call asks
pub stands_p2 : {f : Layout} {v : Marks} {n : ℕ} → CanApply P2 f v n → StandsP2 f v n
stands_p2 {f = f} {n = n} c = let s = c.stands in (s.ps, s.marked, s.shapes, subst (λ root. FitsP2 f n root s.ps) s.fits.1.1.at s.fits)

pub stands_p3 : {f : Layout} {v : Marks} {n : ℕ} → CanApply P3 f v n → StandsP3 f v n
stands_p3 {f = f} {n = n} c = let s = c.stands in (s.ps, s.marked, s.shapes, subst (λ root. FitsP3 f n root s.ps) s.fits.1.1.below s.fits)

pub stands_p4 : {f : Layout} {v : Marks} {n : ℕ} → CanApply P4 f v n → StandsP4 f v n
stands_p4 {f = f} {n = n} c = let s = c.stands in (s.ps, s.marked, s.shapes, subst (λ root. FitsP4 f n root s.ps) s.fits.1.1.at s.fits)

pub stands_p5 : {f : Layout} {v : Marks} {n : ℕ} → CanApply P5 f v n → StandsP5 f v n
stands_p5 {f = f} {n = n} c = let s = c.stands in (s.ps, s.marked, s.shapes, subst (λ root. FitsP5 f n root s.ps) s.fits.1.1.below s.fits)

pub stands_p6 : {f : Layout} {v : Marks} {n : ℕ} → CanApply P6 f v n → StandsP6 f v n
stands_p6 {f = f} {n = n} c = let s = c.stands in (s.ps, s.marked, s.shapes, subst (λ root. FitsP6 f n root s.ps) s.fits.1.1.at s.fits)

pub stands_q3 : {f : Layout} {v : Marks} {n : ℕ} → CanApply Q3 f v n → CanApplyQ3 f v n
stands_q3 {f = f} {n = n} c = record {
  at = λ apart. let s = c.stands in record { ps = s.ps; marked = s.marked; shapes = s.shapes; fits = subst (λ root. FitsQ3 f n root s.ps) s.fits.1.1.at (s.fits.0, s.fits.1.0, s.fits.1.1) };
  inside = λ meant. absurd (not_meant c meant);
}

pub stands_q2 : {f : Layout} {v : Marks} {n : ℕ} → CanApply Q2 f v n → StandsQ2 f v n
stands_q2 c = let s = c.stands in (s.ps, s.marked, s.shapes, (s.fits.0, s.fits.1.0, s.fits.1.1))
