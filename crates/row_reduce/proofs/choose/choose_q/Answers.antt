use Rattle.std.proofs.Common.{◌≡◌, ℕ, Bool, List, Some, true, false, sym, ◌∙◌, arith}
use Rattle.std.proofs.lemmas.Bool.{false≢true}
use Rattle.arena_model.specs.declared.Shape.TheVariants.{Leaf, P, Q}
use Rattle.arena_model.specs.Layout.{Layout, shape_at}
use Rattle.bubble_pass.specs.Marks.{Marks}
use Rattle.tree_theory.specs.Templates.{Label}
use Rattle.templates_q.specs.Fits.{FitsQ1, FitsQ2, FitsQ3}
use Rattle.templates_q.specs.Span.{IsRunMeant}
use Rattle.row_reduce.specs.declared.template.Template.{Template}
use Rattle.row_reduce.specs.declared.template.Template.TheVariants.{L1, P1, P2, P3, P4, P5, P6, Q1, Q2, Q3}
use Rattle.row_reduce.specs.Fits.{TemplateFits}
use Rattle.row_reduce.proofs.choose.choose_q.Goals as goal

-- none of the patterns of a Q-node stands
pub record AreNoneOfQ (f : Layout) (n : ℕ) (root : Bool) (ps : List Label) : Type 0 where
  pub q : shape_at f n ≡ Some Q
  pub one : FitsQ1 f n ps → ⊥
  pub two : FitsQ2 f n ps → ⊥
  pub three : FitsQ3 f n root ps → ⊥

none_stands : {f : Layout} {n : ℕ} {root : Bool} {ps : List Label} (v : Marks) → AreNoneOfQ f n root ps → (t : Template) → TemplateFits t f v n root ps → ⊥
none_stands v s L1 h = let z : Some Q ≡ Some (Leaf h.0.0) = sym s.q ∙ h.0.1 in absurd (cc)
none_stands v s P1 h = let z : Some Q ≡ Some P = sym s.q ∙ h.0 in absurd (cc)
none_stands v s P2 h = let z : Some Q ≡ Some P = sym s.q ∙ h.0 in absurd (cc)
none_stands v s P3 h = let z : Some Q ≡ Some P = sym s.q ∙ h.0 in absurd (cc)
none_stands v s P4 h = let z : Some Q ≡ Some P = sym s.q ∙ h.0 in absurd (cc)
none_stands v s P5 h = let z : Some Q ≡ Some P = sym s.q ∙ h.0 in absurd (cc)
none_stands v s P6 h = let z : Some Q ≡ Some P = sym s.q ∙ h.0 in absurd (cc)
none_stands v s Q1 h = s.one h
none_stands v s Q2 h = s.two (h.0, h.1.0, h.1.1)
none_stands v s Q3 h = s.three (h.0, h.1.0, h.1.1)

-- the pertinent root isn't above a run that the pass has found
not_run : (v : Marks) {root : Bool} → (root ≡ true → v.inside ≡ false) → IsRunMeant v root → ⊥
not_run v outside meant = false≢true (sym (outside meant.1) ∙ meant.0)

pub returns-then-fits_q1-clause-few : goal.returns-then-fits_q1-clause-few
returns-then-fits_q1-clause-few g c = omega (arith, c.fits_q1.ensures.few)

pub returns-then-fits_q2-clause-few : goal.returns-then-fits_q2-clause-few
returns-then-fits_q2-clause-few g c = omega (arith, c.fits_q1.ensures.few, c.fits_q2.ensures.few)

pub returns-then-fits_q3-clause-few : goal.returns-then-fits_q3-clause-few
returns-then-fits_q3-clause-few g c = omega (arith, c.fits_q1.ensures.few, c.fits_q2.ensures.few, c.fits_q3.ensures.few (not_run c.args.work.now c.requires.outside))

pub returns-clause-few : goal.returns-clause-few
returns-clause-few g c = omega (arith, c.fits_q1.ensures.few, c.fits_q2.ensures.few, c.fits_q3.ensures.few (not_run c.args.work.now c.requires.outside))

pub returns-then-fits_q1-clause-choice : goal.returns-then-fits_q1-clause-choice
returns-then-fits_q1-clause-choice g c = λ ps marked. (c.fits_q1.ensures.fits ps marked).0 c.if-fits_q1.true

pub returns-then-fits_q1-clause-ticks : goal.returns-then-fits_q1-clause-ticks
returns-then-fits_q1-clause-ticks g c = omega (arith, c.fits_q1.ensures.ticks)

pub returns-then-fits_q2-clause-choice : goal.returns-then-fits_q2-clause-choice
returns-then-fits_q2-clause-choice g c = λ ps marked. let h = (c.fits_q2.ensures.fits ps marked).0 c.if-fits_q2.true in (h.0, (h.1, h.2))

pub returns-then-fits_q2-clause-ticks : goal.returns-then-fits_q2-clause-ticks
returns-then-fits_q2-clause-ticks g c = omega (arith, c.fits_q1.ensures.ticks, c.fits_q2.ensures.ticks)

pub returns-then-fits_q3-clause-choice : goal.returns-then-fits_q3-clause-choice
returns-then-fits_q3-clause-choice g c = λ ps marked. let h = (c.fits_q3.ensures.fits (not_run c.args.work.now c.requires.outside) ps marked).0 c.if-fits_q3.true in (h.0, (h.1, h.2))

pub returns-then-fits_q3-clause-ticks : goal.returns-then-fits_q3-clause-ticks
returns-then-fits_q3-clause-ticks g c = omega (arith, c.fits_q1.ensures.ticks, c.fits_q2.ensures.ticks, c.fits_q3.ensures.ticks (not_run c.args.work.now c.requires.outside))

pub returns-clause-choice : goal.returns-clause-choice
returns-clause-choice g c = λ t ps marked. none_stands c.args.work.now (record {
  q = c.requires.q;
  one = λ h. false≢true (sym c.if-fits_q1.false ∙ (c.fits_q1.ensures.fits ps marked).1 h);
  two = λ h. false≢true (sym c.if-fits_q2.false ∙ (c.fits_q2.ensures.fits ps marked).1 h);
  three = λ h. false≢true (sym c.if-fits_q3.false ∙ (c.fits_q3.ensures.fits (not_run c.args.work.now c.requires.outside) ps marked).1 h);
}) t

pub returns-clause-ticks : goal.returns-clause-ticks
returns-clause-ticks g c = omega (arith, c.fits_q1.ensures.ticks, c.fits_q2.ensures.ticks, c.fits_q3.ensures.ticks (not_run c.args.work.now c.requires.outside))

pub fits_q1-requires : goal.fits_q1-requires
fits_q1-requires g c = c.requires.ready

pub fits_q2-requires : goal.fits_q2-requires
fits_q2-requires g c = c.requires.ready

pub fits_q3-requires : goal.fits_q3-requires
fits_q3-requires g c = record { at = λ apart. c.requires.ready; inside = λ meant. absurd ((not_run c.args.work.now c.requires.outside) meant) }
