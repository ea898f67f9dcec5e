-- The patterns of Q1 and Q2 by the labels of the nodes.
use Rattle.std.proofs.Common.{◌≡◌, ℕ, ◌≤◌, List, [], ◌∷◌, ◌++◌, map, length, Option, Some, None, refl, sym, ap, ◌∙◌, arith}
use Rattle.pq_tree.specs.Outline.{Outline, Forest, no_tree, tree_and}
use Rattle.pq_tree.specs.Forests.{forest}
use Rattle.tree_theory.specs.Templates.{Partial, Label, empty_label, full_label, partial_label, IsSorted, none_sorted, to_empty, to_full, to_partial, AreAllFull, AreAllEmpty, IsRun, run_full, run_partial, run_more}
use Rattle.bubble_pass.specs.declared.labels.Label.{Label as Mark}
use Rattle.bubble_pass.specs.declared.labels.Label.TheVariants.{Empty, Partial as Partly, Full}
use Rattle.bubble_pass.specs.Marks.{Marks, label_at}
use Rattle.template_model.specs.Standing.{mark_of}
use Rattle.templates_q.specs.Walk.{AreAll}

pub cons_head : (x y : Mark) (xs ys : List Mark) → x ∷ xs ≡ y ∷ ys → x ≡ y
cons_head x y xs ys e = cc

pub cons_tail : (x y : Mark) (xs ys : List Mark) → x ∷ xs ≡ y ∷ ys → xs ≡ ys
cons_tail x y xs ys e = cc

-- all children are full, or all are empty
pub full_sorted : (o : ℕ → Outline) (w : Marks) (ks : List ℕ) (ps : List Label) → map mark_of ps ≡ map (label_at w) ks → AreAll Full w ks → AreAllFull (forest (map o ks)) ps
full_sorted o w [] [] e a = none_sorted
full_sorted o w [] (p ∷ ps) e a = absurd (cc)
full_sorted o w (k ∷ ks) [] e a = absurd (cc)
full_sorted o w (k ∷ ks) (empty_label ∷ ps) e a = absurd (let i : Empty ≡ Full = cons_head _ _ _ _ e ∙ a.0 in cc)
full_sorted o w (k ∷ ks) (full_label ∷ ps) e a = to_full (full_sorted o w ks ps (cons_tail _ _ _ _ e) a.1)
full_sorted o w (k ∷ ks) (partial_label h ∷ ps) e a = absurd (let i : Partly ≡ Full = cons_head _ _ _ _ e ∙ a.0 in cc)

pub empty_sorted : (o : ℕ → Outline) (w : Marks) (ks : List ℕ) (ps : List Label) → map mark_of ps ≡ map (label_at w) ks → AreAll Empty w ks → AreAllEmpty (forest (map o ks)) ps
empty_sorted o w [] [] e a = none_sorted
empty_sorted o w [] (p ∷ ps) e a = absurd (cc)
empty_sorted o w (k ∷ ks) [] e a = absurd (cc)
empty_sorted o w (k ∷ ks) (empty_label ∷ ps) e a = to_empty (empty_sorted o w ks ps (cons_tail _ _ _ _ e) a.1)
empty_sorted o w (k ∷ ks) (full_label ∷ ps) e a = absurd (let i : Full ≡ Empty = cons_head _ _ _ _ e ∙ a.0 in cc)
empty_sorted o w (k ∷ ks) (partial_label h ∷ ps) e a = absurd (let i : Partly ≡ Empty = cons_head _ _ _ _ e ∙ a.0 in cc)

none_first : (t : Outline) (ts : Forest) → tree_and t ts ≡ no_tree → ⊥
none_first t ts e = cc

none_listed : (h : Partial) (hs : List Partial) → h ∷ hs ≡ [] → ⊥
none_listed h hs e = cc

-- labels of one mark
abbrev AllMarked : Mark → List Label → Type 0
AllMarked l [] = Unit {0}
AllMarked l (p ∷ ps) = (mark_of p ≡ l) × AllMarked l ps

only_full : {ts es fs : Forest} {ps : List Label} {hs : List Partial} → IsSorted ts ps es fs hs → es ≡ no_tree → hs ≡ [] → AllMarked Full ps
only_full none_sorted e h = tt
only_full (to_empty {t} {es} s) e h = absurd (none_first t es e)
only_full (to_full s) e h = (refl, only_full s e h)
only_full (to_partial {hs} {h = k} s) e h = absurd (none_listed k hs h)

only_empty : {ts es fs : Forest} {ps : List Label} {hs : List Partial} → IsSorted ts ps es fs hs → fs ≡ no_tree → hs ≡ [] → AllMarked Empty ps
only_empty none_sorted e h = tt
only_empty (to_full {t} {fs} s) e h = absurd (none_first t fs e)
only_empty (to_empty s) e h = (refl, only_empty s e h)
only_empty (to_partial {hs} {h = k} s) e h = absurd (none_listed k hs h)

marked_all : (l : Mark) (w : Marks) (ks : List ℕ) (ps : List Label) → AllMarked l ps → map mark_of ps ≡ map (label_at w) ks → AreAll l w ks
marked_all l w [] ps a m = tt
marked_all l w (k ∷ ks) [] a m = absurd (cc)
marked_all l w (k ∷ ks) (p ∷ ps) a m = (sym (cons_head _ _ _ _ m) ∙ a.0, marked_all l w ks ps a.1 (cons_tail _ _ _ _ m))

-- the marks of sorted labels
pub sorted_full : (w : Marks) (ks : List ℕ) {ts es fs : Forest} {ps : List Label} {hs : List Partial} → IsSorted ts ps es fs hs → es ≡ no_tree → hs ≡ [] →
    map mark_of ps ≡ map (label_at w) ks → AreAll Full w ks
sorted_full w ks s e h m = marked_all Full w ks _ (only_full s e h) m

pub sorted_empty : (w : Marks) (ks : List ℕ) {ts es fs : Forest} {ps : List Label} {hs : List Partial} → IsSorted ts ps es fs hs → fs ≡ no_tree → hs ≡ [] →
    map mark_of ps ≡ map (label_at w) ks → AreAll Empty w ks
sorted_empty w ks s e h m = marked_all Empty w ks _ (only_empty s e h) m

-- what holds of each child with a partial label and of what it becomes
abbrev pub PartFor : (ℕ → Partial → Type 0) → ℕ → Label → Type 0
PartFor H x empty_label = Unit {0}
PartFor H x full_label = Unit {0}
PartFor H x (partial_label h) = H x h

abbrev pub Parts : (ℕ → Partial → Type 0) → List ℕ → List Label → Type 0
Parts H [] ps = Unit {0}
Parts H (x ∷ ks) [] = Unit {0}
Parts H (x ∷ ks) (p ∷ ps) = PartFor H x p × Parts H ks ps

-- at most one partial child, and what it becomes
abbrev pub IsPart : (ℕ → Partial → Type 0) → Marks → List ℕ → Option Partial → Type 0
IsPart H w [] None = Unit {0}
IsPart H w [] (Some h) = ⊥
IsPart H w (x ∷ xs) None = ⊥
IsPart H w (x ∷ []) (Some h) = (label_at w x ≡ Partly) × H x h
IsPart H w (x ∷ y ∷ xs) (Some h) = ⊥

-- nodes of a run: empty ones, at most one partial one, full ones
pub record RunOf (H : ℕ → Partial → Type 0) (o : ℕ → Outline) (w : Marks) (ks : List ℕ) (E : Forest) (h : Option Partial) (F : Forest) : Type 0 where
  pub es : List ℕ
  pub ps : List ℕ
  pub fs : List ℕ
  pub is : ks ≡ es ++ (ps ++ fs)
  pub empty : AreAll Empty w es
  pub part : IsPart H w ps h
  pub full : AreAll Full w fs
  pub empty_trees : E ≡ forest (map o es)
  pub full_trees : F ≡ forest (map o fs)

tree_head : (t u : Outline) (ts us : Forest) → tree_and t ts ≡ tree_and u us → t ≡ u
tree_head t u ts us e = cc

tree_tail : (t u : Outline) (ts us : Forest) → tree_and t ts ≡ tree_and u us → ts ≡ us
tree_tail t u ts us e = cc

pub run_of : (H : ℕ → Partial → Type 0) (o : ℕ → Outline) (w : Marks) (ks : List ℕ) {ts E F : Forest} {ps : List Label} {h : Option Partial} → IsRun ts ps E h F →
    ts ≡ forest (map o ks) → map mark_of ps ≡ map (label_at w) ks → Parts H ks ps → RunOf H o w ks E h F
run_of H o w ks (run_full s) e m q = record {
  es = [];
  ps = [];
  fs = ks;
  is = refl;
  empty = tt;
  part = tt;
  full = sorted_full w ks s refl refl m;
  empty_trees = refl;
  full_trees = e;
}
run_of H o w [] (run_partial s) e m q = absurd (cc)
run_of H o w (k ∷ ks) (run_partial {t} {ts} s) e m q = record {
  es = [];
  ps = k ∷ [];
  fs = ks;
  is = refl;
  empty = tt;
  part = (sym (cons_head _ _ _ _ m), q.0);
  full = sorted_full w ks s refl refl (cons_tail _ _ _ _ m);
  empty_trees = refl;
  full_trees = tree_tail t (o k) ts (forest (map o ks)) e;
}
run_of H o w [] (run_more r) e m q = absurd (cc)
run_of H o w (k ∷ ks) (run_more {t} {ts} {es = E} r) e m q =
    let i = run_of H o w ks r (tree_tail t (o k) ts (forest (map o ks)) e) (cons_tail _ _ _ _ m) q.1 in
    record {
      es = k ∷ i.es;
      ps = i.ps;
      fs = i.fs;
      is = ap (λ z. k ∷ z) i.is;
      empty = (sym (cons_head _ _ _ _ m), i.empty);
      part = i.part;
      full = i.full;
      empty_trees = ap (λ z. tree_and z E) (tree_head t (o k) ts (forest (map o ks)) e) ∙ ap (tree_and (o k)) i.empty_trees;
      full_trees = i.full_trees;
    }

-- such nodes make a run
pub made_run : (o : ℕ → Outline) (w : Marks) (es ks fs : List ℕ) (ps : List Label) → AreAll Empty w es → AreAll Partly w ks → length ks ≤ 1 → AreAll Full w fs →
    map mark_of ps ≡ map (label_at w) (es ++ (ks ++ fs)) → (h : Option Partial) × IsRun (forest (map o (es ++ (ks ++ fs)))) ps (forest (map o es)) h (forest (map o fs))
made_run o w [] [] fs ps a b one c m = (None, run_full (full_sorted o w fs ps m c))
made_run o w [] (k ∷ []) fs [] a b one c m = absurd (cc)
made_run o w [] (k ∷ []) fs (empty_label ∷ ps) a b one c m = absurd (let i : Empty ≡ Partly = cons_head _ _ _ _ m ∙ b.0 in cc)
made_run o w [] (k ∷ []) fs (full_label ∷ ps) a b one c m = absurd (let i : Full ≡ Partly = cons_head _ _ _ _ m ∙ b.0 in cc)
made_run o w [] (k ∷ []) fs (partial_label h ∷ ps) a b one c m = (Some h, run_partial (full_sorted o w fs ps (cons_tail _ _ _ _ m) c))
made_run o w [] (k ∷ k' ∷ ks) fs ps a b one c m = absurd (omega arith)
made_run o w (e ∷ es) ks fs [] a b one c m = absurd (cc)
made_run o w (e ∷ es) ks fs (empty_label ∷ ps) a b one c m = let r = made_run o w es ks fs ps a.1 b one c (cons_tail _ _ _ _ m) in (r.0, run_more r.1)
made_run o w (e ∷ es) ks fs (full_label ∷ ps) a b one c m = absurd (let i : Full ≡ Empty = cons_head _ _ _ _ m ∙ a.0 in cc)
made_run o w (e ∷ es) ks fs (partial_label h ∷ ps) a b one c m = absurd (let i : Partly ≡ Empty = cons_head _ _ _ _ m ∙ a.0 in cc)
