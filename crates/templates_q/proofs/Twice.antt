-- What stays where the children of two Q-shapes are put in their places, one after the other.
use Rattle.std.proofs.Common.{◌≡◌, ℕ, ◌≤◌, ◌<◌, cond, eqb, true, false, List, [], ◌∷◌, ◌++◌, length, Option, Some, None, refl, sym, ap, subst, ◌∙◌, arith, eqb-true}
use Rattle.column_order.specs.Orders.{occurs}
use Rattle.arena_model.specs.declared.Shape.TheVariants.{Leaf, Q}
use Rattle.arena_model.specs.Layout.{Layout, shape_at, children_at, IsInUse, IsLayout}
use Rattle.arena_model.specs.NamedTree.{IsOneTree, HasTwoEach}
use Rattle.arena_model.proofs.Slots.{used_by}
use Rattle.tree_theory.specs.Templates.{Partial}
use Rattle.bubble_pass.specs.Marks.{Marks, label_at}
use Rattle.template_model.specs.Standing.{IsShapeAt}
use Rattle.template_model.specs.Treated.{IsOutside, IsReplacedAt, IsTreated}
use Rattle.template_model.proofs.Replaced.{replaced_self, below_used}
use Rattle.template_model.proofs.Unchanged.{unchanged}
use Rattle.templates_q.specs.declared.walk.ChildGap.{ChildGap}
use Rattle.templates_q.specs.Walk.{IsChildGap}
use Rattle.templates_q.specs.Span.{AreKeptBelow}
use Rattle.templates_q.specs.Opening.{IsOpenedAt}
use Rattle.templates_q.proofs.Runs.{IsPart}
use Rattle.templates_q.proofs.Splices.{below_back, used_kept, right_kept}
use Rattle.templates_q.proofs.Splicing.{AreSplicedIn, spliced_treated, spliced_shape}
use Rattle.templates_q.proofs.Opening.{opened_list}

-- an outer node stays one
pub outside_on : (f g : Layout) (q m : ℕ) → IsReplacedAt f g q q → IsOutside f q m → IsOutside g q m
outside_on f g q m r out = ((λ e. out.0 (sym (r.outside m out).0 ∙ e)), r.apart m out)

-- a leaf stays one
pub leaf_on : (f g : Layout) (q x c : ℕ) → IsLayout f → IsLayout g → IsReplacedAt f g q q → shape_at f x ≡ Some (Leaf c) → shape_at g x ≡ Some (Leaf c)
leaf_on f g q x c hf hg r e =
    let i = hf.no_other_leaf x c e in
    let lt : x < g.columns = subst (λ n. x < n) (sym r.columns) i.1 in
    hg.leaves x lt ∙ ap (λ n. Some (Leaf n)) (sym i.0)

same_root : (b : _) (a q : ℕ) → eqb a q ≡ b → a ≡ cond b q a
same_root true a q e = eqb-true a q e
same_root false a q e = refl

root_on : (f g : Layout) (q : ℕ) → IsReplacedAt f g q q → g.root ≡ f.root
root_on f g q r = r.root ∙ sym (same_root (eqb f.root q) f.root q refl)

pub replaced_twice : (f g e : Layout) (q : ℕ) → IsLayout f → IsLayout g → IsReplacedAt f g q q → IsReplacedAt g e q q → IsReplacedAt f e q q
replaced_twice f g e q hf hg a b = record {
  columns = b.columns ∙ a.columns;
  one = b.one;
  two = b.two;
  used = b.used;
  root = root_on g e q b ∙ a.root;
  outside = λ m out. let x = a.outside m out in let y = b.outside m (outside_on f g q m a out) in
      (y.0 ∙ x.0, y.1 ∙ replaced_self (children_at g m) q ∙ x.1);
  apart = λ m out. b.apart m (outside_on f g q m a out);
  leaves = λ x c i. let u = a.leaves x c i in let v = b.leaves x c (leaf_on f g q x c hf hg a i) in ((λ l. v.0 (u.0 l)), (λ l. u.1 (v.1 l)));
}

row_on : (f g : Layout) (q : ℕ) (row : List ℕ) → IsLayout f → IsLayout g → IsReplacedAt f g q q → ((x : ℕ) → 1 ≤ occurs row x → (c : ℕ) × (shape_at f x ≡ Some (Leaf c))) →
    (x : ℕ) → 1 ≤ occurs row x → (c : ℕ) × (shape_at g x ≡ Some (Leaf c))
row_on f g q row hf hg r leaf x o = let i = leaf x o in (i.0, leaf_on f g q x i.0 hf hg r i.1)

pub treated_twice : (f g e : Layout) (w : Marks) (q : ℕ) → IsLayout f → IsLayout g → IsTreated f g w w q q → IsTreated g e w w q q → IsTreated f e w w q q
treated_twice f g e w q hf hg a b = record {
  arena = replaced_twice f g e q hf hg a.arena b.arena;
  marks = record {
    room = refl;
    nodes = refl;
    inside = refl;
    label = refl;
    outside = λ m out. refl;
    chains = λ m out r. b.marks.chains m (outside_on f g q m a.arena out) (a.marks.chains m out r);
    right = λ row leaf h. b.marks.right row (row_on f g q row hf hg a.arena leaf) (a.marks.right row leaf h);
  };
}

pub below_twice : (f g e : Layout) (w : Marks) (q : ℕ) → IsLayout f → IsLayout g → IsReplacedAt f g q q → AreKeptBelow f g w w q → AreKeptBelow g e w w q → AreKeptBelow f e w w q
below_twice f g e w q hf hg r a b = record {
  room = refl;
  nodes = refl;
  inside = refl;
  outside = λ m out. refl;
  chains = λ m out i. b.chains m (outside_on f g q m r out) (a.chains m out i);
  right = λ row leaf h. b.right row (row_on f g q row hf hg r leaf) (a.right row leaf h);
}

-- one such step
pub record IsTreatedStep (f g : Layout) (w : Marks) (q : ℕ) : Type 0 where
  pub treated : IsTreated f g w w q q
  pub below : AreKeptBelow f g w w q

spliced_below_q : (f g : Layout) (w : Marks) (q c : ℕ) (us ms vs : List ℕ) → IsOneTree f → HasTwoEach f → AreSplicedIn f g q c us ms vs → IsTreatedStep f g w q
spliced_below_q f g w q c us ms vs one two a =
    let t = spliced_treated f g q c us ms vs a w one two in
    record {
      treated = t;
      below = record {
        room = refl;
        nodes = refl;
        inside = refl;
        outside = λ m out. refl;
        chains = t.marks.chains;
        right = λ row leaf h m l ne.
            let u = used_kept f g q c a.left a.middle a.right a.is m (below_used g q m a.is.after (used_by g q Q (spliced_shape f g q c us ms vs a)) l) in
            right_kept f g q c a.left a.middle a.right a.is row m (label_at w m) leaf u.0 (h m (below_back f g q c a.left a.middle a.right a.is q m l) ne);
      };
    }

unchanged_step : (f : Layout) (w : Marks) (q : ℕ) → IsLayout f → IsOneTree f → HasTwoEach f → IsInUse f q → IsTreatedStep f f w q
unchanged_step f w q h one two used = record {
  treated = unchanged f w q h one two used;
  below = record {
    room = refl;
    nodes = refl;
    inside = refl;
    outside = λ m out. refl;
    chains = λ m out r. r;
    right = λ row leaf r. r;
  };
}

pub step_treated : (f g : Layout) (w : Marks) (q : ℕ) (us ps vs : List ℕ) (from : ChildGap) (h : Option Partial) → IsLayout f → IsLayout g → shape_at f q ≡ Some Q → (1 ≤ length ps → IsChildGap f q us (ps ++ vs) from) →
    IsOpenedAt f g w q from ps → IsPart (IsShapeAt f w) w ps h → IsOneTree f → HasTwoEach f → IsTreatedStep f g w q
step_treated f g w q us [] vs from None lf lg iq gap o p one two = subst (λ z. IsTreatedStep f z w q) (sym o) (unchanged_step f w q lf one two (used_by f q Q iq))
step_treated f g w q us [] vs from (Some h) lf lg iq gap o p one two = absurd p
step_treated f g w q us (x ∷ []) vs from None lf lg iq gap o p one two = absurd p
step_treated f g w q us (x ∷ []) vs from (Some h) lf lg iq gap o p one two =
    let s : IsShapeAt f w x h = p.1 in
    spliced_below_q f g w q x us (s.es ++ s.fs) vs one two (opened_list f g w q x us vs from h lf lg (gap (omega arith)) o s)
step_treated f g w q us (x ∷ y ∷ ps) vs from h lf lg iq gap o p one two = absurd o
