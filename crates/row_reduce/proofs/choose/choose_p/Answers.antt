use Rattle.std.proofs.Common.{◌≡◌, ℕ, Bool, List, Some, sym, ◌∙◌, arith}
use Rattle.std.proofs.lemmas.Bool.{false≢true}
use Rattle.arena_model.specs.declared.Shape.TheVariants.{Leaf, P, Q}
use Rattle.arena_model.specs.Layout.{Layout, shape_at}
use Rattle.bubble_pass.specs.Marks.{Marks}
use Rattle.tree_theory.specs.Templates.{Label}
use Rattle.templates_p.specs.Fits.{FitsP1, FitsP2, FitsP3, FitsP4, FitsP5, FitsP6}
use Rattle.row_reduce.specs.declared.template.Template.{Template}
use Rattle.row_reduce.specs.declared.template.Template.TheVariants.{L1, P1, P2, P3, P4, P5, P6, Q1, Q2, Q3}
use Rattle.row_reduce.specs.Fits.{TemplateFits}
use Rattle.row_reduce.proofs.choose.choose_p.Goals as goal

-- none of the patterns of a P-node stands
pub record AreNoneOfP (f : Layout) (n : ℕ) (root : Bool) (ps : List Label) : Type 0 where
  pub p : shape_at f n ≡ Some P
  pub one : FitsP1 f n ps → ⊥
  pub two : FitsP2 f n root ps → ⊥
  pub three : FitsP3 f n root ps → ⊥
  pub four : FitsP4 f n root ps → ⊥
  pub five : FitsP5 f n root ps → ⊥
  pub six : FitsP6 f n root ps → ⊥

none_stands : {f : Layout} {n : ℕ} {root : Bool} {ps : List Label} (v : Marks) → AreNoneOfP f n root ps → (t : Template) → TemplateFits t f v n root ps → ⊥
none_stands v s L1 h = let z : Some P ≡ Some (Leaf h.0.0) = sym s.p ∙ h.0.1 in absurd (cc)
none_stands v s P1 h = s.one h
none_stands v s P2 h = s.two h
none_stands v s P3 h = s.three h
none_stands v s P4 h = s.four h
none_stands v s P5 h = s.five h
none_stands v s P6 h = s.six h
none_stands v s Q1 h = let z : Some P ≡ Some Q = sym s.p ∙ h.0 in absurd (cc)
none_stands v s Q2 h = let z : Some P ≡ Some Q = sym s.p ∙ h.0 in absurd (cc)
none_stands v s Q3 h = let z : Some P ≡ Some Q = sym s.p ∙ h.0 in absurd (cc)

pub fits_p1-requires : goal.fits_p1-requires
fits_p1-requires g c = c.requires.ready

pub returns-then-fits_p1-clause-choice : goal.returns-then-fits_p1-clause-choice
returns-then-fits_p1-clause-choice g c = λ ps marked. (c.fits_p1.ensures.fits ps marked).0 c.if-fits_p1.true

pub returns-then-fits_p1-clause-ticks : goal.returns-then-fits_p1-clause-ticks
returns-then-fits_p1-clause-ticks g c = omega (arith, c.fits_p1.ensures.ticks)

pub returns-then-fits_p1-clause-few : goal.returns-then-fits_p1-clause-few
returns-then-fits_p1-clause-few g c = omega (arith, c.fits_p1.ensures.ticks)

pub fits_p2-requires : goal.fits_p2-requires
fits_p2-requires g c = c.requires.ready

pub returns-then-fits_p2-clause-choice : goal.returns-then-fits_p2-clause-choice
returns-then-fits_p2-clause-choice g c = λ ps marked. (c.fits_p2.ensures.fits ps marked).0 c.if-fits_p2.true

pub returns-then-fits_p2-clause-ticks : goal.returns-then-fits_p2-clause-ticks
returns-then-fits_p2-clause-ticks g c = omega (arith, c.fits_p1.ensures.ticks, c.fits_p2.ensures.ticks)

pub returns-then-fits_p2-clause-few : goal.returns-then-fits_p2-clause-few
returns-then-fits_p2-clause-few g c = omega (arith, c.fits_p1.ensures.ticks, c.fits_p2.ensures.ticks)

pub fits_p3-requires : goal.fits_p3-requires
fits_p3-requires g c = c.requires.ready

pub returns-then-fits_p3-clause-choice : goal.returns-then-fits_p3-clause-choice
returns-then-fits_p3-clause-choice g c = λ ps marked. (c.fits_p3.ensures.fits ps marked).0 c.if-fits_p3.true

pub returns-then-fits_p3-clause-ticks : goal.returns-then-fits_p3-clause-ticks
returns-then-fits_p3-clause-ticks g c = omega (arith, c.fits_p1.ensures.ticks, c.fits_p2.ensures.ticks, c.fits_p3.ensures.ticks)

pub returns-then-fits_p3-clause-few : goal.returns-then-fits_p3-clause-few
returns-then-fits_p3-clause-few g c = omega (arith, c.fits_p1.ensures.ticks, c.fits_p2.ensures.ticks, c.fits_p3.ensures.ticks)

pub fits_p4-requires : goal.fits_p4-requires
fits_p4-requires g c = c.requires.ready

pub returns-then-fits_p4-clause-choice : goal.returns-then-fits_p4-clause-choice
returns-then-fits_p4-clause-choice g c = λ ps marked. (c.fits_p4.ensures.fits ps marked).0 c.if-fits_p4.true

pub returns-then-fits_p4-clause-ticks : goal.returns-then-fits_p4-clause-ticks
returns-then-fits_p4-clause-ticks g c = omega (arith, c.fits_p1.ensures.ticks, c.fits_p2.ensures.ticks, c.fits_p3.ensures.ticks, c.fits_p4.ensures.ticks)

pub returns-then-fits_p4-clause-few : goal.returns-then-fits_p4-clause-few
returns-then-fits_p4-clause-few g c = omega (arith, c.fits_p1.ensures.ticks, c.fits_p2.ensures.ticks, c.fits_p3.ensures.ticks, c.fits_p4.ensures.ticks)

pub fits_p5-requires : goal.fits_p5-requires
fits_p5-requires g c = c.requires.ready

pub returns-then-fits_p5-clause-choice : goal.returns-then-fits_p5-clause-choice
returns-then-fits_p5-clause-choice g c = λ ps marked. (c.fits_p5.ensures.fits ps marked).0 c.if-fits_p5.true

pub returns-then-fits_p5-clause-ticks : goal.returns-then-fits_p5-clause-ticks
returns-then-fits_p5-clause-ticks g c = omega (arith, c.fits_p1.ensures.ticks, c.fits_p2.ensures.ticks, c.fits_p3.ensures.ticks, c.fits_p4.ensures.ticks, c.fits_p5.ensures.ticks)

pub returns-then-fits_p5-clause-few : goal.returns-then-fits_p5-clause-few
returns-then-fits_p5-clause-few g c = omega (arith, c.fits_p1.ensures.ticks, c.fits_p2.ensures.ticks, c.fits_p3.ensures.ticks, c.fits_p4.ensures.ticks, c.fits_p5.ensures.ticks)

pub fits_p6-requires : goal.fits_p6-requires
fits_p6-requires g c = c.requires.ready

pub returns-then-fits_p6-clause-choice : goal.returns-then-fits_p6-clause-choice
returns-then-fits_p6-clause-choice g c = λ ps marked. (c.fits_p6.ensures.fits ps marked).0 c.if-fits_p6.true

pub returns-then-fits_p6-clause-ticks : goal.returns-then-fits_p6-clause-ticks
returns-then-fits_p6-clause-ticks g c = omega (arith, c.fits_p1.ensures.ticks, c.fits_p2.ensures.ticks, c.fits_p3.ensures.ticks, c.fits_p4.ensures.ticks, c.fits_p5.ensures.ticks, c.fits_p6.ensures.ticks)

pub returns-then-fits_p6-clause-few : goal.returns-then-fits_p6-clause-few
returns-then-fits_p6-clause-few g c = omega (arith, c.fits_p1.ensures.ticks, c.fits_p2.ensures.ticks, c.fits_p3.ensures.ticks, c.fits_p4.ensures.ticks, c.fits_p5.ensures.ticks, c.fits_p6.ensures.ticks)

pub returns-clause-choice : goal.returns-clause-choice
returns-clause-choice g c = λ t ps marked.
    none_stands c.args.work.now (record {
      p = c.requires.p;
      one = λ h. false≢true (sym c.if-fits_p1.false ∙ (c.fits_p1.ensures.fits ps marked).1 h);
      two = λ h. false≢true (sym c.if-fits_p2.false ∙ (c.fits_p2.ensures.fits ps marked).1 h);
      three = λ h. false≢true (sym c.if-fits_p3.false ∙ (c.fits_p3.ensures.fits ps marked).1 h);
      four = λ h. false≢true (sym c.if-fits_p4.false ∙ (c.fits_p4.ensures.fits ps marked).1 h);
      five = λ h. false≢true (sym c.if-fits_p5.false ∙ (c.fits_p5.ensures.fits ps marked).1 h);
      six = λ h. false≢true (sym c.if-fits_p6.false ∙ (c.fits_p6.ensures.fits ps marked).1 h);
    }) t

pub returns-clause-ticks : goal.returns-clause-ticks
returns-clause-ticks g c = omega (arith, c.fits_p1.ensures.ticks, c.fits_p2.ensures.ticks, c.fits_p3.ensures.ticks, c.fits_p4.ensures.ticks, c.fits_p5.ensures.ticks, c.fits_p6.ensures.ticks)

pub returns-clause-few : goal.returns-clause-few
returns-clause-few g c = omega (arith, c.fits_p1.ensures.ticks, c.fits_p2.ensures.ticks, c.fits_p3.ensures.ticks, c.fits_p4.ensures.ticks, c.fits_p5.ensures.ticks, c.fits_p6.ensures.ticks)
