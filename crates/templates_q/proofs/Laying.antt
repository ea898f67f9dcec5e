-- What Q3 makes of a Q-node.
use Rattle.std.proofs.Common.{◌≡◌, ◌⊎◌, inl, inr, ℕ, ◌+◌, ◌≤◌, true, false, cond, eqb, List, [], ◌∷◌, ◌++◌, map, Option, Some, None, refl, sym, ap, subst, ◌∙◌, arith, reverse, append_assoc}
use Rattle.std.proofs.lemmas.List.{append-nil, reverse-reverse, map-append}
use Rattle.column_order.specs.Orders.{occurs}
use Rattle.column_order.proofs.Lists.{occurs-append}
use Rattle.arena_model.specs.declared.Shape.TheVariants.{Q}
use Rattle.arena_model.specs.ChildLists.{last_or, none}
use Rattle.arena_model.specs.Layout.{Layout, shape_at, children_at, IsLayout}
use Rattle.arena_model.specs.NamedTree.{outline_below}
use Rattle.arena_model.proofs.Lists.{occurs_here}
use Rattle.arena_model.proofs.Outlines.{below_children}
use Rattle.pq_arena.specs.declared.node.NodeId.{NodeId}
use Rattle.pq_arena.specs.Looks.{node_named}
use Rattle.pq_tree.specs.Outline.{Outline, Forest, q_node}
use Rattle.pq_tree.specs.Forests.{forest, trees, join, back}
use Rattle.pq_tree.specs.Equivalent.{IsEquivalent}
use Rattle.pq_tree.proofs.Forests.{map-reverse, forest_append, forest_reverse, forest-trees}
use Rattle.pq_tree.proofs.Turnings.{are_equivalent_refl}
use Rattle.tree_theory.specs.Templates.{Partial, Label, IsTwoSidedRun, IsQ3, line_if, q3}
use Rattle.bubble_pass.specs.declared.labels.Label.TheVariants.{Empty, Full}
use Rattle.bubble_pass.specs.Marks.{Marks, label_at}
use Rattle.template_model.specs.Standing.{child_trees, IsShapeAt, AreMarkedAs}
use Rattle.template_model.specs.Treated.{StandsForTree}
use Rattle.arena_model.proofs.Slots.{child_used}
use Rattle.templates_q.specs.declared.stretch.PassedSpan.{PassedSpan}
use Rattle.templates_q.specs.Walk.{AreChildren, AreAll}
use Rattle.templates_q.specs.Fits.{FitsQ2}
use Rattle.templates_q.specs.Span.{IsStretch, BecomesQ3}
use Rattle.templates_q.specs.Opening.{AreOpened}
use Rattle.templates_q.proofs.Lists.{occurs_reverse}
use Rattle.templates_q.proofs.Lines.{reverse_three, all_reverse}
use Rattle.templates_q.proofs.Walks.{children_occur, is_named}
use Rattle.templates_q.proofs.Runs.{IsPart, Parts}
use Rattle.templates_q.proofs.Fitting.{trees_reverse, line_fits, fitting_line, fitting_some}
use Rattle.templates_q.proofs.Spans.{MadeSpan, made_span, reverse_five}
use Rattle.templates_q.proofs.Spanning.{IsAlone}
use Rattle.templates_q.proofs.Splicing.{map_same}
use Rattle.templates_q.proofs.Making.{parts_shapes}
use Rattle.templates_q.proofs.Opening.{IsOpenStep, open_step, front_step, front_place, back_place, back_children, last_there, part_kept, turned_children, single}

-- The children of q in the arena e, read in some order: empty ones es, the trees of the first partial, full ones fs, those
-- of the second turned, and empty ones gs; all are the trees that they were in f.
pub record AreLaid (f e : Layout) (q : ℕ) (es fs gs : List ℕ) (h k : Option Partial) : Type 0 where
  pub ms : List ℕ
  pub ns : List ℕ
  pub children : AreChildren e q (es ++ (ms ++ (fs ++ (reverse ns ++ gs))))
  pub first : forest (map (outline_below e) ms) ≡ line_if h
  pub last : forest (map (outline_below e) ns) ≡ line_if k
  pub before : map (outline_below e) es ≡ map (outline_below f) es
  pub middle : map (outline_below e) fs ≡ map (outline_below f) fs
  pub behind : map (outline_below e) gs ≡ map (outline_below f) gs

map_back : (f e : Layout) (ks : List ℕ) → map (outline_below e) ks ≡ map (outline_below f) ks → map (outline_below e) (reverse ks) ≡ map (outline_below f) (reverse ks)
map_back f e ks i = map-reverse (outline_below e) ks ∙ ap reverse i ∙ sym (map-reverse (outline_below f) ks)

pub laid_turned : (f e : Layout) (q : ℕ) (es fs gs : List ℕ) (h k : Option Partial) → AreLaid f e q es fs gs h k → AreLaid f e q (reverse gs) (reverse fs) (reverse es) k h
laid_turned f e q es fs gs h k a = record {
  ms = a.ns;
  ns = a.ms;
  children = subst (AreChildren e q) (reverse_five es a.ms fs (reverse a.ns) gs ∙ ap (λ z. reverse gs ++ (z ++ (reverse fs ++ (reverse a.ms ++ reverse es)))) (reverse-reverse a.ns))
      (turned_children e q (es ++ (a.ms ++ (fs ++ (reverse a.ns ++ gs)))) a.children);
  first = a.last;
  last = a.first;
  before = map_back f e gs a.behind;
  middle = map_back f e fs a.middle;
  behind = map_back f e es a.before;
}

-- the trees of such children
laid_trees : (o : ℕ → Outline) (es ms fs ns gs : List ℕ) → forest (map o (es ++ (ms ++ (fs ++ (ns ++ gs))))) ≡ join (forest (map o es)) (join (forest (map o ms)) (join (forest (map o fs)) (join (forest (map o ns)) (forest (map o gs)))))
laid_trees o es ms fs ns gs =
    two es (ms ++ (fs ++ (ns ++ gs)))
    ∙ ap (join (forest (map o es))) (two ms (fs ++ (ns ++ gs)) ∙ ap (join (forest (map o ms))) (two fs (ns ++ gs) ∙ ap (join (forest (map o fs))) (two ns gs)))
  where
    two : (xs ys : List ℕ) → forest (map o (xs ++ ys)) ≡ join (forest (map o xs)) (forest (map o ys))
    two xs ys = ap forest (map-append o xs ys) ∙ forest_append (map o xs) (map o ys)

laid_line : (f e : Layout) (q : ℕ) (es fs gs : List ℕ) (h k : Option Partial) (a : AreLaid f e q es fs gs h k) →
    forest (map (outline_below e) (es ++ (a.ms ++ (fs ++ (reverse a.ns ++ gs))))) ≡ q3 (forest (map (outline_below f) es)) h (forest (map (outline_below f) fs)) k (forest (map (outline_below f) gs))
laid_line f e q es fs gs h k a =
    laid_trees (outline_below e) es a.ms fs (reverse a.ns) gs
    ∙ ap (λ z. join z (join (forest (map (outline_below e) a.ms)) (join (forest (map (outline_below e) fs)) (join (forest (map (outline_below e) (reverse a.ns))) (forest (map (outline_below e) gs)))))) (ap forest a.before)
    ∙ ap (λ z. join (forest (map (outline_below f) es)) (join z (join (forest (map (outline_below e) fs)) (join (forest (map (outline_below e) (reverse a.ns))) (forest (map (outline_below e) gs)))))) a.first
    ∙ ap (λ z. join (forest (map (outline_below f) es)) (join (line_if h) (join z (join (forest (map (outline_below e) (reverse a.ns))) (forest (map (outline_below e) gs)))))) (ap forest a.middle)
    ∙ ap (λ z. join (forest (map (outline_below f) es)) (join (line_if h) (join (forest (map (outline_below f) fs)) (join z (forest (map (outline_below e) gs)))))) (trees_reverse (outline_below e) a.ns ∙ ap back a.last)
    ∙ ap (λ z. join (forest (map (outline_below f) es)) (join (line_if h) (join (forest (map (outline_below f) fs)) (join (back (line_if k)) z)))) (ap forest a.behind)

-- a Q-node is equivalent to itself, and to itself turned
q_same : (ts : Forest) (v : Outline) → (v ≡ q_node ts) ⊎ (v ≡ q_node (back ts)) → IsEquivalent (q_node ts) v
q_same ts v (inl e) = (trees ts, are_equivalent_refl ts, inl (e ∙ ap q_node (sym (forest-trees ts))))
q_same ts v (inr e) = (trees ts, are_equivalent_refl ts, inr (e ∙ ap q_node (ap back (sym (forest-trees ts)) ∙ sym (forest_reverse (trees ts)))))

q_read : (e : Layout) (q : ℕ) (ks : List ℕ) → IsLayout e → shape_at e q ≡ Some Q → AreChildren e q ks →
    (outline_below e q ≡ q_node (forest (map (outline_below e) ks))) ⊎ (outline_below e q ≡ q_node (back (forest (map (outline_below e) ks))))
q_read e q ks h iq (inl c) = inl (below_children e q Q h iq ∙ ap (λ z. q_node (forest (map (outline_below e) z))) c)
q_read e q ks h iq (inr c) = inr (below_children e q Q h iq ∙ ap (λ z. q_node (forest (map (outline_below e) z))) c ∙ ap q_node (trees_reverse (outline_below e) ks))

-- so laid, the Q-node is what Q3 makes of it
pub q3_at : (H : ℕ → Partial → Type 0) (f e : Layout) (w : Marks) (q : ℕ) (es ps fs ls gs : List ℕ) (ls' : List Label) → IsLayout e → shape_at e q ≡ Some Q → children_at f q ≡ es ++ (ps ++ (fs ++ (ls ++ gs))) →
    (FitsQ2 f q ls' → ⊥) → shape_at f q ≡ Some Q → (m : MadeSpan H (outline_below f) w es ps fs ls gs ls') → AreLaid f e q es fs gs m.h m.k → (u : Outline) × IsQ3 true (child_trees f q) ls' u × StandsForTree e q u
q3_at H f e w q es ps fs ls gs ls' he iq is lacks fq m a =
    let o = outline_below f in
    let ts : Forest = q3 (forest (map o es)) m.h (forest (map o fs)) m.k (forest (map o gs)) in (
      q_node ts,
      record {
        at = refl;
        es = forest (map o es);
        h = m.h;
        fs = forest (map o fs);
        k = m.k;
        gs = forest (map o gs);
        pattern = subst (λ z. IsTwoSidedRun (forest (map o z)) ls' (forest (map o es)) m.h (forest (map o fs)) m.k (forest (map o gs))) (sym is) m.span;
        not_q2 = λ x i. lacks (fq, x, i);
        becomes = refl;
      },
      subst (λ z. IsEquivalent (q_node z) (outline_below e q)) (laid_line f e q es fs gs m.h m.k a)
          (q_same (forest (map (outline_below e) (es ++ (a.ms ++ (fs ++ (reverse a.ns ++ gs)))))) (outline_below e q)
          (q_read e q (es ++ (a.ms ++ (fs ++ (reverse a.ns ++ gs)))) he iq a.children)),
    )

-- two steps lay the children so
pub record IsLaidOut (f e : Layout) (q : ℕ) (es fs gs : List ℕ) (h k : Option Partial) : Type 0 where
  pub is_q : shape_at e q ≡ Some Q
  pub laid : AreLaid f e q es fs gs h k

laid_order : (us ms fs ns rest : List ℕ) → reverse (reverse rest ++ (ns ++ reverse (us ++ (ms ++ fs)))) ≡ us ++ (ms ++ (fs ++ (reverse ns ++ rest)))
laid_order us ms fs ns rest =
    reverse_three (reverse rest) ns (reverse (us ++ (ms ++ fs))) ∙ ap (λ z. z ++ (reverse ns ++ reverse (reverse rest))) (reverse-reverse (us ++ (ms ++ fs)))
    ∙ ap (λ z. (us ++ (ms ++ fs)) ++ (reverse ns ++ z)) (reverse-reverse rest) ∙ append_assoc us (ms ++ fs) (reverse ns ++ rest) ∙ ap (λ z. us ++ z) (append_assoc ms fs (reverse ns ++ rest))

pub laid_out : (f e : Layout) (w : Marks) (q : ℕ) (s : PassedSpan) (r : IsStretch f w q s) (h k : Option Partial) → IsLayout f → IsLayout e → AreOpened f e w q s r → IsPart (IsShapeAt f w) w r.passed.ps h →
    IsPart (IsShapeAt f w) w r.passed.ls k → IsLaidOut f e q r.us r.passed.fs r.passed.rest h k
laid_out f e w q s r h k hf he o ph pk = record { is_q = b.is_q; laid = made }
  where
    us : List ℕ
    us = r.us

    fs : List ℕ
    fs = r.passed.fs

    rest : List ℕ
    rest = r.passed.rest

    a : IsOpenStep f o.g w q r.us r.passed.ps (r.passed.fs ++ (r.passed.ls ++ r.passed.rest)) h
    a = front_step f o.g w q s r h hf o.layout o.first ph

    b : IsOpenStep o.g e w q (reverse r.passed.rest) r.passed.ls (reverse (r.us ++ (a.ms ++ r.passed.fs))) k
    b = open_step o.g e w q (reverse r.passed.rest) r.passed.ls (reverse (r.us ++ (a.ms ++ r.passed.fs))) (record { before = s.last.gap.next; next = s.last.gap.before }) k o.layout he a.is_q
        (back_children f o.g w q s r h a) (λ some. back_place f o.g w q s r h a some) o.last (part_kept f o.g w q r.passed.ls k a.shapes (last_there f o.g w q s r h a) pk)

    line : List ℕ
    line = us ++ (a.ms ++ (fs ++ (reverse b.ms ++ rest)))

    order : AreChildren e q line
    order = subst (AreChildren e q) (laid_order us a.ms fs b.ms rest) (turned_children e q (reverse rest ++ (b.ms ++ reverse (us ++ (a.ms ++ fs)))) b.new)

    there : (x : ℕ) → 1 ≤ occurs us x + occurs a.ms x + occurs fs x + occurs (reverse b.ms) x + occurs rest x → 1 ≤ occurs (children_at e q) x
    there x i =
        omega (arith, children_occur e q line x order, occurs-append us (a.ms ++ (fs ++ (reverse b.ms ++ rest))) x, occurs-append a.ms (fs ++ (reverse b.ms ++ rest)) x, occurs-append fs (reverse b.ms ++ rest) x, occurs-append (reverse b.ms) rest x)

    there_first : (x : ℕ) → 1 ≤ occurs us x + occurs a.ms x + occurs fs x + occurs rest x → 1 ≤ occurs (children_at o.g q) x
    there_first x i = let tail = fs ++ (r.passed.ls ++ rest) in
        omega (arith, children_occur o.g q (us ++ (a.ms ++ tail)) x a.new, occurs-append us (a.ms ++ tail) x, occurs-append a.ms tail x, occurs-append fs (r.passed.ls ++ rest) x, occurs-append r.passed.ls rest x)

    same : (xs : List ℕ) → ((x : ℕ) → occurs xs x ≤ occurs us x + occurs a.ms x + occurs fs x + occurs rest x) → map (outline_below e) xs ≡ map (outline_below f) xs
    same xs few = sym (map_same f e xs (λ x i. let n : occurs xs x ≤ occurs us x + occurs a.ms x + occurs fs x + occurs rest x = few x in b.same x (there x (omega arith)) ∙ a.same x (there_first x (omega arith))))

    made : AreLaid f e q us fs rest h k
    made = record {
      ms = a.ms;
      ns = b.ms;
      children = order;
      first = ap forest (same a.ms (λ x. omega arith)) ∙ a.trees;
      last = ap forest (sym (map_same o.g e b.ms (λ x i. b.same x (there x (omega (arith, occurs_reverse b.ms x)))))) ∙ b.trees;
      before = same us (λ x. omega arith);
      middle = same fs (λ x. omega arith);
      behind = same rest (λ x. omega arith);
    }

-- Q2 fits other labels with the same marks, if it fits these
pub q2_other : (f : Layout) (w : Marks) (q : ℕ) (ps rs : List Label) → AreMarkedAs f w q ps → AreMarkedAs f w q rs → FitsQ2 f q ps → FitsQ2 f q rs
q2_other f w q ps rs m n fits = line_fits f w q rs fits.0 n (fitting_some f w q ps m fits) (fitting_line f w q ps m fits)

-- what stands after the two steps
pub q3_becomes : (f e : Layout) (w : Marks) (q : ℕ) (s : PassedSpan) (r : IsStretch f w q s) → IsLayout f → IsLayout e → IsAlone w r.us r.passed.rest → AreOpened f e w q s r →
    ((rs : List Label) → AreMarkedAs f w q rs → FitsQ2 f q rs → ⊥) → BecomesQ3 f e w q q
q3_becomes f e w q s r hf he alone o lacks rs m shapes = by (front_place f w q s r).children
  where
    p : (xs : List ℕ) → children_at f q ≡ xs → Parts (IsShapeAt f w) xs rs
    p xs i = subst (λ z. Parts (IsShapeAt f w) z rs) i (parts_shapes f w (children_at f q) rs shapes)

    turned : List ℕ
    turned = reverse r.passed.rest ++ (r.passed.ls ++ (reverse r.passed.fs ++ (r.passed.ps ++ reverse r.us)))

    turn : reverse (r.us ++ (r.passed.ps ++ (r.passed.fs ++ (r.passed.ls ++ r.passed.rest)))) ≡ turned
    turn =
        reverse_five r.us r.passed.ps r.passed.fs r.passed.ls r.passed.rest
        ∙ ap (λ z. reverse r.passed.rest ++ (z ++ (reverse r.passed.fs ++ (reverse r.passed.ps ++ reverse r.us)))) (single r.passed.ls r.passed.one_more)
        ∙ ap (λ z. reverse r.passed.rest ++ (r.passed.ls ++ (reverse r.passed.fs ++ (z ++ reverse r.us)))) (single r.passed.ps r.passed.one)

    by : AreChildren f q (r.us ++ (r.passed.ps ++ (r.passed.fs ++ (r.passed.ls ++ r.passed.rest)))) → (u : Outline) × IsQ3 true (child_trees f q) rs u × StandsForTree e q u
    by (inl i) =
        let c = r.passed in
        let d = made_span (IsShapeAt f w) (outline_below f) w r.us c.ps c.fs c.ls c.rest rs alone.before c.first c.one c.full c.last c.one_more alone.behind (m ∙ ap (map (label_at w)) i)
        (p (r.us ++ (c.ps ++ (c.fs ++ (c.ls ++ c.rest)))) i) in
        let l = laid_out f e w q s r d.h d.k hf he o d.first d.last in
        q3_at (IsShapeAt f w) f e w q r.us c.ps c.fs c.ls c.rest rs he l.is_q i (lacks rs m) c.from.is_q d l.laid
    by (inr i) =
        let c = r.passed in let j : children_at f q ≡ turned = i ∙ turn in
        let d = made_span (IsShapeAt f w) (outline_below f) w (reverse c.rest) c.ls (reverse c.fs) c.ps (reverse r.us) rs (all_reverse Empty w c.rest alone.behind) c.last c.one_more (all_reverse Full w c.fs c.full)
        c.first c.one (all_reverse Empty w r.us alone.before) (m ∙ ap (map (label_at w)) j) (p turned j) in
        let l = laid_out f e w q s r d.k d.h hf he o d.last d.first in
        q3_at (IsShapeAt f w) f e w q (reverse c.rest) c.ls (reverse c.fs) c.ps (reverse r.us) rs he l.is_q j (lacks rs m) c.from.is_q d
        (laid_turned f e q r.us c.fs c.rest d.k d.h l.laid)

-- where no child has a label, nothing changes
pub none_becomes : (f : Layout) (w : Marks) (q : ℕ) → IsLayout f → shape_at f q ≡ Some Q → AreAll Empty w (children_at f q) → BecomesQ3 f f w q q
none_becomes f w q hf iq empty rs m shapes =
    let ks = children_at f q in
    let i : ks ≡ ks ++ [] = sym (append-nil ks) in
    let d = made_span (IsShapeAt f w) (outline_below f) w ks [] [] [] [] rs empty tt (omega arith) tt tt (omega arith) tt (m ∙ ap (map (label_at w)) i)
    (subst (λ z. Parts (IsShapeAt f w) z rs) i (parts_shapes f w ks rs shapes)) in
    q3_at (IsShapeAt f w) f f w q ks [] [] [] [] rs hf iq i (λ z. fitting_some f w q rs m z empty) iq d (none_laid d.h d.k d.first d.last)
  where
    none_laid : (h k : Option Partial) → IsPart (IsShapeAt f w) w [] h → IsPart (IsShapeAt f w) w [] k → AreLaid f f q (children_at f q) [] [] h k
    none_laid None None a b = record { ms = []; ns = []; children = inl (sym (append-nil (children_at f q))); first = refl; last = refl; before = refl; middle = refl; behind = refl }
    none_laid None (Some k) a b = absurd b
    none_laid (Some h) k a b = absurd a

-- the last node of a list
last_occurs : (x : ℕ) (xs : List ℕ) → 1 ≤ occurs (x ∷ xs) (last_or xs x)
last_occurs x [] = occurs_here x []
last_occurs x (y ∷ ys) = let r : 1 ≤ occurs (y ∷ ys) (last_or ys y) = last_occurs y ys in omega arith

named_is : (y : ℕ) (o : NodeId) → node_named y ≡ Some o → y ≡ o.index
named_is y o e = by (eqb y none) refl e
  where
    some_eq : (x y : NodeId) → Some x ≡ Some y → x ≡ y
    some_eq x y e = cc

    by : (b : _) → eqb y none ≡ b → cond b None (Some (let n : NodeId = record { index = y } in n)) ≡ Some o → y ≡ o.index
    by true k e = absurd (cc)
    by false k e = ap (λ z. z.index) (some_eq (record { index = y }) o e)

pub named_last : (us : List ℕ) (o : NodeId) → node_named (last_or us none) ≡ Some o → 1 ≤ occurs us o.index
named_last [] o e = absurd (cc)
named_last (x ∷ us) o e = subst (λ z. 1 ≤ occurs (x ∷ us) z) (named_is (last_or us x) o e) (last_occurs x us)

-- a list of children without a last one is empty
pub unnamed_last : (f : Layout) (q : ℕ) (us vs : List ℕ) → IsLayout f → AreChildren f q (us ++ vs) → node_named (last_or us none) ≡ None → us ≡ []
unnamed_last f q [] vs h c e = refl
unnamed_last f q (x ∷ us) vs h c e =
    let l : ℕ = last_or us x in
    let o : 1 ≤ occurs (x ∷ us) l = last_occurs x us in
    let i : 1 ≤ occurs (children_at f q) l = omega (arith, children_occur f q ((x ∷ us) ++ vs) l c, occurs-append (x ∷ us) vs l) in
    absurd (let z : Some (let n : NodeId = record { index = l } in n) ≡ None = sym (is_named f l h (child_used f q l h i)) ∙ e in cc)
