-- Where Q2 fits, by the labels of the children in line.
use Rattle.std.proofs.Common.{◌≡◌, ◌⊎◌, inl, inr, ℕ, ◌+◌, ◌≤◌, List, [], ◌∷◌, ◌++◌, map, length, Option, Some, None, refl, sym, ap, subst, ◌∙◌, arith, reverse, length-append}
use Rattle.std.proofs.lemmas.Bool.{cases_lt}
use Rattle.std.proofs.lemmas.List.{reverse-reverse, length-reverse}
use Rattle.arena_model.specs.declared.Shape.TheVariants.{Q}
use Rattle.arena_model.specs.Layout.{Layout, shape_at, children_at}
use Rattle.arena_model.specs.NamedTree.{outline_below}
use Rattle.pq_tree.specs.Outline.{Outline, Forest}
use Rattle.pq_tree.specs.Forests.{forest, back}
use Rattle.pq_tree.proofs.Forests.{map-reverse, forest_reverse}
use Rattle.tree_theory.specs.Templates.{Partial, Label, empty_label, full_label, partial_label, IsRun, q2}
use Rattle.bubble_pass.specs.declared.labels.Label.TheVariants.{Empty, Partial as Partly, Full}
use Rattle.bubble_pass.specs.Marks.{Marks, label_at, fulls_at, partials_at}
use Rattle.template_model.specs.Standing.{mark_of, AreMarkedAs, IsReady}
use Rattle.templates_q.specs.Walk.{AreAll}
use Rattle.templates_q.specs.Lines.{IsFullFirst, IsRunFrom, AreCounted}
use Rattle.templates_q.specs.Fits.{FitsQ2}
use Rattle.templates_q.proofs.Lines.{all_last, all_reverse, reverse_three, behind_fulls, full_end}
use Rattle.templates_q.proofs.Runs.{full_sorted, empty_sorted, sorted_full, sorted_empty, Parts, PartFor, IsPart, RunOf, run_of, made_run}

-- marks read from the other end
pub marks_reverse : (w : Marks) (ks : List ℕ) (ps : List Label) → map mark_of ps ≡ map (label_at w) ks → map mark_of (reverse ps) ≡ map (label_at w) (reverse ks)
marks_reverse w ks ps m = map-reverse mark_of ps ∙ ap reverse m ∙ sym (map-reverse (label_at w) ks)

-- trees read from the other end
pub trees_reverse : (o : ℕ → Outline) (ks : List ℕ) → forest (map o (reverse ks)) ≡ back (forest (map o ks))
trees_reverse o ks = ap forest (map-reverse o ks) ∙ forest_reverse (map o ks)

-- nothing is asked of a partial child
abbrev pub Any : ℕ → Partial → Type 0
Any x h = Unit {0}

pub parts_any : (ks : List ℕ) (ps : List Label) → Parts Any ks ps
parts_any [] ps = tt
parts_any (k ∷ ks) [] = tt
parts_any (k ∷ ks) (p ∷ ps) = (any p, parts_any ks ps)
  where
    any : (p : Label) → PartFor Any k p
    any empty_label = tt
    any full_label = tt
    any (partial_label h) = tt

pub part_list : (H : ℕ → Partial → Type 0) (w : Marks) (ks : List ℕ) (h : Option Partial) → IsPart H w ks h → AreAll Partly w ks × (length ks ≤ 1)
part_list H w [] None p = (tt, omega arith)
part_list H w [] (Some h) p = absurd p
part_list H w (x ∷ xs) None p = absurd p
part_list H w (x ∷ []) (Some h) p = ((p.0, tt), omega arith)
part_list H w (x ∷ y ∷ xs) (Some h) p = absurd p

length_none : (ks : List ℕ) → length ks ≡ 0 → ks ≡ []
length_none [] e = refl
length_none (k ∷ ks) e = absurd (omega arith)

-- some pattern of Q2 from one end
pub record SomeRun (ts : Forest) (ps : List Label) : Type 0 where
  pub e : Forest
  pub h : Option Partial
  pub f : Forest
  pub run : IsRun ts ps e h f

pub some_run : (o : ℕ → Outline) (w : Marks) (ks : List ℕ) (ps : List Label) → map mark_of ps ≡ map (label_at w) ks → IsFullFirst w (reverse ks) → SomeRun (forest (map o ks)) ps
some_run o w ks ps m l =
    let e : ks ≡ reverse l.empties ++ (reverse l.parts ++ reverse l.fulls) = sym (reverse-reverse ks) ∙ ap reverse l.is ∙ reverse_three l.fulls l.parts l.empties in
    let one : length (reverse l.parts) ≤ 1 = subst (λ n. n ≤ 1) (sym (length-reverse l.parts)) l.one in
    let r = made_run o w (reverse l.empties) (reverse l.parts) (reverse l.fulls) ps (all_reverse Empty w l.empties l.empty) (all_reverse Partly w l.parts l.partial) one
    (all_reverse Full w l.fulls l.full) (m ∙ ap (map (label_at w)) e) in
    record { e = forest (map o (reverse l.empties)); h = r.0; f = forest (map o (reverse l.fulls)); run = subst (λ z. IsRun (forest (map o z)) ps (forest (map o (reverse l.empties))) r.0 (forest (map o (reverse l.fulls)))) (sym e) r.1 }

-- not all are full
pub others_left : (w : Marks) (ks : List ℕ) → IsRunFrom w ks → AreAll Full w ks → ⊥
others_left w ks r a =
    let l = r.line in
    let b : AreAll Full w (l.parts ++ l.empties) = all_last Full w l.fulls (l.parts ++ l.empties) (subst (AreAll Full w) l.is a) in
    let e : length (l.parts ++ l.empties) ≡ 0 = ap length (full_end w (l.parts ++ l.empties) b (behind_fulls w l.parts l.empties l.partial l.empty)) in
    let o : 1 ≤ length l.parts + length l.empties = r.others in omega (arith, length-append l.parts l.empties)

pub line_fits : (f : Layout) (w : Marks) (n : ℕ) (ps : List Label) → shape_at f n ≡ Some Q → AreMarkedAs f w n ps → (AreAll Empty w (children_at f n) → ⊥) →
    IsRunFrom w (children_at f n) ⊎ IsRunFrom w (reverse (children_at f n)) → FitsQ2 f n ps
line_fits f w n ps s m some (inl r) =
    let o = outline_below f in let ks = children_at f n in
    let i = some_run o w (reverse ks) (reverse ps) (marks_reverse w ks ps m) (subst (IsFullFirst w) (sym (reverse-reverse ks)) r.line) in (
      s,
      q2 i.e i.h i.f,
      record {
        es = i.e;
        h = i.h;
        fs = i.f;
        pattern = inr (subst (λ z. IsRun z (reverse ps) i.e i.h i.f) (trees_reverse o ks) i.run);
        not_full = λ a. others_left w ks r (sorted_full w ks a refl refl m);
        not_empty = λ a. some (sorted_empty w ks a refl refl m);
        becomes = refl;
      },
    )
line_fits f w n ps s m some (inr r) =
    let o = outline_below f in let ks = children_at f n in
    let i = some_run o w ks ps m r.line in (
      s,
      q2 i.e i.h i.f,
      record {
        es = i.e;
        h = i.h;
        fs = i.f;
        pattern = inl i.run;
        not_full = λ a. others_left w (reverse ks) r (all_reverse Full w ks (sorted_full w ks a refl refl m));
        not_empty = λ a. some (sorted_empty w ks a refl refl m);
        becomes = refl;
      },
    )

-- the nodes of a run from its other end
pub run_line : (H : ℕ → Partial → Type 0) (o : ℕ → Outline) (w : Marks) (ks : List ℕ) (E F : Forest) (h : Option Partial) → RunOf H o w ks E h F → (AreAll Full w ks → ⊥) → IsRunFrom w (reverse ks)
run_line H o w ks E F h r not_full =
    let p = part_list H w r.ps h r.part in
    let one : length r.ps ≤ 1 = p.1 in
    record {
      line = record {
        fulls = reverse r.fs;
        parts = reverse r.ps;
        empties = reverse r.es;
        is = ap reverse r.is ∙ reverse_three r.es r.ps r.fs;
        full = all_reverse Full w r.fs r.full;
        partial = all_reverse Partly w r.ps p.0;
        one = subst (λ n. n ≤ 1) (sym (length-reverse r.ps)) one;
        empty = all_reverse Empty w r.es r.empty;
      };
      others = elim (cases_lt 0 (length r.ps + length r.es)) [
        | inl l ↦ omega (arith, length-reverse r.ps, length-reverse r.es)
        | inr l ↦ absurd (
            let a : r.ps ≡ [] = length_none r.ps (omega arith) in let b : r.es ≡ [] = length_none r.es (omega arith) in
            not_full (subst (AreAll Full w) (sym (r.is ∙ ap (λ z. z ++ (r.ps ++ r.fs)) b ∙ ap (λ z. z ++ r.fs) a)) r.full))
      ];
    }

pub fitting_line : (f : Layout) (w : Marks) (n : ℕ) (ps : List Label) → AreMarkedAs f w n ps → FitsQ2 f n ps → IsRunFrom w (children_at f n) ⊎ IsRunFrom w (reverse (children_at f n))
fitting_line f w n ps m fits =
    let o = outline_below f in let ks = children_at f n in let x = fits.2 in
    let not_full : AreAll Full w ks → ⊥ = (λ a. x.not_full (full_sorted o w ks ps m a)) in
    elim x.pattern [
      | inl run ↦ inr (run_line Any o w ks x.es x.fs x.h (run_of Any o w ks run refl m (parts_any ks ps)) not_full)
      | inr run ↦ inl (subst (IsRunFrom w) (reverse-reverse ks) (run_line Any o w (reverse ks) x.es x.fs x.h
          (run_of Any o w (reverse ks) run (sym (trees_reverse o ks)) (marks_reverse w ks ps m) (parts_any (reverse ks) (reverse ps)))
          (λ a. not_full (subst (AreAll Full w) (reverse-reverse ks) (all_reverse Full w (reverse ks) a)))))
    ]

pub fitting_some : (f : Layout) (w : Marks) (n : ℕ) (ps : List Label) → AreMarkedAs f w n ps → FitsQ2 f n ps → AreAll Empty w (children_at f n) → ⊥
fitting_some f w n ps m fits a = fits.2.not_empty (empty_sorted (outline_below f) w (children_at f n) ps m a)

-- the counts that are kept of a node are those of its children
pub counted_at : (f : Layout) (w : Marks) (n full partial : ℕ) → IsReady f w n → full ≡ fulls_at w n → partial ≡ partials_at w n → AreCounted w (children_at f n) full partial
counted_at f w n full partial ready a b = record { full = a ∙ ready.right.full; partial = b ∙ ready.right.partial }
