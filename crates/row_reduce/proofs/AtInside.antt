-- A run of inner children of a Q-node, once the templates below it are decided or applied.
use Rattle.std.proofs.Common.{◌≡◌, ◌≢◌, inl, inr, ℕ, ◌+◌, ◌-◌, ◌≤◌, ◌<◌, true, List, [], ◌∷◌, ◌++◌, map, length, take, reverse, Option, None, refl, sym, ap, subst, ◌∙◌, arith}
use Rattle.std.proofs.lemmas.Bool.{cases_eq, cases_lt}
use Rattle.std.proofs.lemmas.List.{reverse-append, map-append, append_assoc}
use Rattle.std.proofs.lemmas.List.Elements.{All-cons}
use Rattle.std.specs.Prelude.{All}
use Rattle.column_order.specs.Orders.{occurs}
use Rattle.column_order.proofs.Lists.{occurs-append}
use Rattle.pq_tree.specs.Outline.{Outline, Forest}
use Rattle.pq_tree.specs.Forests.{forest, back}
use Rattle.pq_tree.specs.Nodes.{IsPertinentRoot}
use Rattle.pq_tree.proofs.Forests.{map-reverse}
use Rattle.tree_theory.specs.Templates.{Partial, Label, AreAllFull, IsRun, run_full, run_partial, run_more, IsQ3}
use Rattle.tree_theory.specs.Chosen.{IsRootOfQ, root_q1, root_q2, root_q3}
use Rattle.tree_theory.specs.Refused.{IsRefused, IsUnfitRoot}
use Rattle.tree_theory.specs.Reduced.{IsRootMade, IsReduced}
use Rattle.tree_theory.specs.Laws.{RootTurnedLaw}
use Rattle.arena_model.specs.Layout.{Layout, children_at, IsLayout, here, down}
use Rattle.arena_model.specs.NamedTree.{outline_below, outline_at}
use Rattle.arena_model.proofs.Lists.{occurs_here}
use Rattle.arena_model.proofs.Paths.{one_path, above_ends, at_once, by}
use Rattle.arena_model.proofs.Outlines.{apart_children}
use Rattle.pq_arena.specs.RowNodes.{column_leaves}
use Rattle.bubble_pass.specs.declared.labels.Label.{Label as Mark}
use Rattle.bubble_pass.specs.declared.labels.Label.TheVariants.{Empty, Partial as Partly, Full}
use Rattle.arena_model.specs.RowLeaves.{Holds, Meets}
use Rattle.bubble_pass.specs.Found.{Inside}
use Rattle.bubble_pass.specs.Marks.{Marks, label_at}
use Rattle.bubble_pass.specs.Pass.{node_in}
use Rattle.bubble_pass.specs.Sweep.{IsRight}
use Rattle.template_model.specs.Standing.{mark_of, child_trees, AreMarkedAs, AreShapesAt, IsInMarkedRun, IsReadyInside}
use Rattle.template_model.specs.Treated.{IsReplacedAt, StandsForTree}
use Rattle.arena_model.proofs.Slots.{child_used}
use Rattle.row_reduce.specs.declared.template.Template.{Template}
use Rattle.row_reduce.specs.declared.template.Template.TheVariants.{Q3}
use Rattle.row_reduce.specs.Fits.{TemplateFits}
use Rattle.row_reduce.specs.Deciding.{IsLabelled}
use Rattle.row_reduce.specs.Decided.{AreDecided, IsStopped, template_in}
use Rattle.row_reduce.specs.Outcome.{AtFoundInside}
use Rattle.row_reduce.proofs.Marking.{AreMarked, marked_at, full_marks}
use Rattle.row_reduce.proofs.Labelling.{Labels, unfit, below_q}
use Rattle.row_reduce.specs.Applying.{IsStanding}
use Rattle.row_reduce.specs.Becomes.{Stands}
use Rattle.row_reduce.proofs.Agree.{Agree, agree_sym, q3_moved}
use Rattle.row_reduce.proofs.Answering.{ChildNow, ChildrenNow, children_built, meets_row}
use Rattle.row_reduce.proofs.Stepping.{map_has}
use Rattle.row_reduce.proofs.Applied.{AtStep, child_now, stands_now, same_size}
use Rattle.row_reduce.proofs.Grounds.{is_empty, right_child, right_at, node_labelled, labelled_below, taken_at, once_at, above_labelled}
use Rattle.arena_model.proofs.Nodes.{root_is, node_below_it}
use Rattle.row_model.proofs.Ascending.{row_within}
use Rattle.row_reduce.proofs.AtRoot.{kids, kids_at, at_node, labels_up, outer_stands, exchanged}
use Rattle.row_reduce.proofs.Ending.{replaced_whole}
use Rattle.row_reduce.proofs.Kept.{once, another}

whole : (xs : List ℕ) → take (length xs) xs ≡ xs
whole [] = refl
whole (x ∷ xs) = ap (λ z. x ∷ z) (whole xs)

-- where a child of the run stands among the children
pub in_run : {f : Layout} {v : Marks} {row : List ℕ} (s : AtFoundInside f v row) (k : ℕ) →
    occurs (children_at f s.found.run.q) k ≡ occurs s.found.run.us k + occurs s.found.run.ks k + occurs s.found.run.vs k
in_run s k = ap (λ z. occurs z k) s.found.run.kids_are ∙ omega (arith, occurs-append s.found.run.us (s.found.run.ks ++ s.found.run.vs) k, occurs-append s.found.run.ks s.found.run.vs k)

-- no child of the Q-node holds the row
pub inside_no_child : {f : Layout} {v : Marks} {row : List ℕ} (s : AtFoundInside f v row) → (k : ℕ) → 1 ≤ occurs (children_at f s.found.run.q) k → Holds f (column_leaves row) k → ⊥
inside_no_child {f = f} {row = row} s k o holds =
    let j = another run.ks k run.some run_once in
    let m : Meets f (column_leaves row) j.0 = run.meet j.0 j.1 in
    let oj : 1 ≤ occurs (children_at f run.q) j.0 = (let i : 1 ≤ occurs run.ks j.0 = j.1 in omega (arith, in_run s j.0)) in
    elim (one_path f k j.0 m.0 s.ground.layout (holds m.0 m.1) m.2) [
      | inl p ↦ apart_children f run.q k j.0 s.ground.layout o oj p (λ e. j.2 (sym e))
      | inr p ↦ apart_children f run.q j.0 k s.ground.layout oj o p j.2
    ]
  where
    run : Inside f (column_leaves row)
    run = s.found.run

    run_once : (x : ℕ) → occurs run.ks x ≤ 1
    run_once x = let o : occurs (children_at f run.q) x ≤ 1 = once f run.q x s.ground.layout in omega (arith, in_run s x)

-- the Q-node holds it
pub inside_least : {f : Layout} {v : Marks} {row : List ℕ} (s : AtFoundInside f v row) → IsPertinentRoot row (outline_at f) (outline_below f s.found.run.q)
inside_least {f = f} {row = row} s =
    root_is f row s.found.run.q s.ground.layout s.ground.one (row_within f.columns row s.ground.is_row) s.ground.used s.found.run.holds (inside_no_child s)

-- it has no label, so it is none of the labelled nodes
pub not_inside : {f : Layout} {v : Marks} {row : List ℕ} (s : AtFoundInside f v row) → (i : ℕ) → i < length v.nodes → node_in v i ≢ s.found.run.q
not_inside {v = v} s i l e = node_labelled s.ground i l (ap (label_at v) e ∙ s.found.top)

-- where no template stands at some labelled node, no template reduces the tree
pub refused_below : {f : Layout} {v : Marks} {row : List ℕ} → AtFoundInside f v row → IsStopped f v None → IsRefused row (outline_at f)
refused_below {f = f} {v = v} {row = row} s stop = (
  outline_below f s.found.run.q,
  inside_least s,
  inr (
    outline_below f n,
    node_below_it f s.found.run.q n s.ground.layout s.ground.used (labelled_below s.ground n some) ne,
    unfit (at_node s.ground n some (right_at s.ground n some ne) c) stop.none,
  ),
)
  where
    n : ℕ
    n = node_in v stop.i

    some : label_at v n ≢ Empty
    some = node_labelled s.ground stop.i stop.some

    ne : n ≢ s.found.run.q
    ne = not_inside s stop.i stop.some

    c : Labels f v row (children_at f n)
    c = kids_at s.ground stop.i stop.some (λ j l. not_inside s j (let a : stop.i < length v.nodes = stop.some in omega arith)) stop.before

-- labels of the children of the Q-node, where templates stand at all labelled nodes
pub inside_kids : {f : Layout} {v : Marks} {row : List ℕ} (ts : List Template) (s : AtFoundInside f v row) → AreDecided f v None ts (length v.nodes) → Labels f v row (children_at f s.found.run.q)
inside_kids {f = f} {v = v} {row = row} ts s d = kids s.ground s.found.run.q (here s.found.run.q) (λ k o ok. found k ok)
  where
    found : (k : ℕ) → label_at v k ≢ Empty → IsLabelled f v row k
    found k ok =
        let t = taken_at v.nodes (length v.nodes) k (subst (λ z. 1 ≤ occurs z k) (sym (whole v.nodes)) (s.ground.marked.all k ok)) in
        subst (λ z. IsLabelled f v row z) t.3 (labels_up s.ground (length v.nodes) (omega arith) (λ j l. not_inside s j l) (λ j l. (template_in ts j, d.fits j l)) t.0 t.1)

-- the children outside of the run have no label
pub outer_empty : {f : Layout} {v : Marks} {row : List ℕ} (s : AtFoundInside f v row) → (k : ℕ) → 1 ≤ occurs s.found.run.us k + occurs s.found.run.vs k → label_at v k ≡ Empty
outer_empty {f = f} {v = v} {row = row} s k o = elim (is_empty (label_at v k)) [
  | inl e ↦ e
  | inr some ↦
      let ok : 1 ≤ occurs (children_at f s.found.run.q) k = omega (arith, in_run s k) in
      let m = meets_row f (column_leaves row) k (label_at v k) s.ground.layout s.ground.two (child_used f s.found.run.q k s.ground.layout ok) (right_child s.ground s.found.run.q k (here s.found.run.q) ok) some in
      absurd (s.found.run.miss k o (m.0, m.2, m.1))
]

-- those of the run have one
pub run_labelled : {f : Layout} {v : Marks} {row : List ℕ} (s : AtFoundInside f v row) → (k : ℕ) → 1 ≤ occurs s.found.run.ks k → label_at v k ≢ Empty
run_labelled {f = f} {v = v} {row = row} s k o e =
    let ok : 1 ≤ occurs (children_at f s.found.run.q) k = omega (arith, in_run s k) in
    let m : Meets f (column_leaves row) k = s.found.run.meet k o in
    let miss = subst (λ z. IsRight f (column_leaves row) k z) e (right_child s.ground s.found.run.q k (here s.found.run.q) ok) in
    miss m.0 m.2 m.1

-- labels that end with an empty one are not all full
full_end : (ps : List Label) (ms : List Mark) → AreMarked Full ps → map mark_of ps ≡ ms ++ Empty ∷ [] → ⊥
full_end [] [] all e = absurd (cc)
full_end [] (m ∷ ms) all e = absurd (cc)
full_end (p ∷ ps) [] all e = let a : mark_of p ≡ Empty = cc in absurd (let z : Full ≡ Empty = sym all.0 ∙ a in cc)
full_end (p ∷ ps) (m ∷ ms) all e = full_end ps ms all.1 (let z : map mark_of ps ≡ ms ++ Empty ∷ [] = cc in z)

none_marked : (ps : List Label) → map mark_of ps ≡ [] → AreMarked Empty ps
none_marked [] e = tt
none_marked (p ∷ ps) e = absurd (cc)

-- a run that ends with an empty label is empty
run_end : {ts es fs : Forest} {ps : List Label} {h : Option Partial} → IsRun ts ps es h fs → (ms : List Mark) → map mark_of ps ≡ ms ++ Empty ∷ [] → AreMarked Empty ps
run_end (run_full {ps = ps} s) ms e = absurd (full_end ps ms (full_marks s refl refl) e)
run_end (run_partial s) [] e = absurd (let z : Partly ≡ Empty = cc in cc)
run_end (run_partial {ps = ps} s) (m ∷ ms) e = absurd (full_end ps ms (full_marks s refl refl) (let z : map mark_of ps ≡ ms ++ Empty ∷ [] = cc in z))
run_end (run_more {ps = ps} r) [] e = (refl, none_marked ps (let z : map mark_of ps ≡ [] = cc in z))
run_end (run_more {ps = ps} r) (m ∷ ms) e = (refl, run_end r ms (let z : map mark_of ps ≡ ms ++ Empty ∷ [] = cc in z))

marked_append : (m : Mark) (ps qs : List Label) → AreMarked m (ps ++ qs) → AreMarked m ps × AreMarked m qs
marked_append m [] qs a = (tt, a)
marked_append m (p ∷ ps) qs a = let r = marked_append m ps qs a.1 in ((a.0, r.0), r.1)

marked_back : (m : Mark) (ps : List Label) → AreMarked m (reverse ps) → AreMarked m ps
marked_back m [] a = tt
marked_back m (p ∷ ps) a = let r = marked_append m (reverse ps) (p ∷ []) (subst (λ z. AreMarked m z) (reverse-append (p ∷ []) ps) a) in (r.1.0, marked_back m ps r.0)

-- a list with an element is one before its last, and one behind its first
record Ends (xs : List ℕ) : Type 0 where
  init : List ℕ
  last : ℕ
  is : xs ≡ init ++ last ∷ []

ends : (x : ℕ) (xs : List ℕ) → Ends (x ∷ xs)
ends x [] = record { init = []; last = x; is = refl }
ends x (y ∷ ys) = let r : Ends (y ∷ ys) = ends y ys in record { init = x ∷ r.init; last = r.last; is = ap (λ z. x ∷ z) r.is }

nonempty : (xs : List ℕ) → 1 ≤ length xs → (x : ℕ) × (ys : List ℕ) × (xs ≡ x ∷ ys)
nonempty [] l = absurd (omega arith)
nonempty (x ∷ ys) l = (x, ys, refl)

first_us : {f : Layout} {v : Marks} {row : List ℕ} (s : AtFoundInside f v row) → (x : ℕ) × (ys : List ℕ) × (children_at f s.found.run.q ≡ x ∷ ys) × (label_at v x ≡ Empty)
first_us {f = f} {v = v} s =
    let r = nonempty s.found.run.us s.found.run.left in (
      r.0,
      r.1 ++ (s.found.run.ks ++ s.found.run.vs),
      s.found.run.kids_are ∙ ap (λ z. z ++ (s.found.run.ks ++ s.found.run.vs)) r.2,
      outer_empty s r.0 (let o : 1 ≤ occurs s.found.run.us r.0 = subst (λ z. 1 ≤ occurs z r.0) (sym r.2) (occurs_here r.0 r.1) in omega arith),
    )

-- not all labels of the children are empty
some_label : {f : Layout} {v : Marks} {row : List ℕ} (s : AtFoundInside f v row) → (ps : List Label) → AreMarkedAs f v s.found.run.q ps → AreMarked Empty ps → ⊥
some_label {f = f} {v = v} s ps m all =
    let r = nonempty s.found.run.ks (let two : 2 ≤ length s.found.run.ks = s.found.run.some in omega arith) in
    let o : 1 ≤ occurs s.found.run.ks r.0 = subst (λ z. 1 ≤ occurs z r.0) (sym r.2) (occurs_here r.0 r.1) in
    let ok : 1 ≤ occurs (children_at f s.found.run.q) r.0 = omega (arith, in_run s r.0) in
    run_labelled s r.0 o (marked_at (label_at v) Empty (children_at f s.found.run.q) ps m all r.0 ok)

no_q1 : {f : Layout} {v : Marks} {row : List ℕ} (s : AtFoundInside f v row) → (ps : List Label) → AreMarkedAs f v s.found.run.q ps → AreAllFull (child_trees f s.found.run.q) ps → ⊥
no_q1 {f = f} {v = v} s ps m full =
    let x = first_us s in
    let o : 1 ≤ occurs (children_at f s.found.run.q) x.0 = subst (λ z. 1 ≤ occurs z x.0) (sym x.2) (occurs_here x.0 x.1) in
    let a : label_at v x.0 ≡ Full = marked_at (label_at v) Full (children_at f s.found.run.q) ps m (full_marks full refl refl) x.0 o in
    let z : Full ≡ Empty = sym a ∙ x.3 in cc

no_run : {f : Layout} {v : Marks} {row : List ℕ} (s : AtFoundInside f v row) → (ps : List Label) → AreMarkedAs f v s.found.run.q ps → (es fs : Forest) (h : Option Partial) → IsRun (child_trees f s.found.run.q) ps es h fs → ⊥
no_run {f = f} {v = v} s ps m es fs h r =
    let w = nonempty s.found.run.vs s.found.run.right in
    let e : Ends (w.0 ∷ w.1) = ends w.0 w.1 in
    let vs_is : s.found.run.vs ≡ e.init ++ e.last ∷ [] = w.2 ∙ e.is in
    let all : children_at f s.found.run.q ≡ (s.found.run.us ++ (s.found.run.ks ++ e.init)) ++ e.last ∷ [] = s.found.run.kids_are ∙ ap (λ z. s.found.run.us ++ (s.found.run.ks ++ z)) vs_is ∙ regroup s.found.run.us s.found.run.ks e.init (e.last ∷ []) in
    let last_empty : label_at v e.last ≡ Empty = outer_empty s e.last (let o : 1 ≤ occurs s.found.run.vs e.last = subst (λ z. 1 ≤ occurs z e.last) (sym vs_is) (omega (arith, occurs-append e.init (e.last ∷ []) e.last, occurs_here e.last [])) in omega arith) in
    some_label s ps m (run_end r (map (label_at v) (s.found.run.us ++ (s.found.run.ks ++ e.init)))
    (m ∙ ap (λ z. map (label_at v) z) all ∙ map-append (label_at v) (s.found.run.us ++ (s.found.run.ks ++ e.init)) (e.last ∷ [])
    ∙ ap (λ z. map (label_at v) (s.found.run.us ++ (s.found.run.ks ++ e.init)) ++ z ∷ []) last_empty))
  where
    regroup : (xs bs cs ds : List ℕ) → xs ++ (bs ++ (cs ++ ds)) ≡ (xs ++ (bs ++ cs)) ++ ds
    regroup xs bs cs ds = ap (λ z. xs ++ z) (sym (append_assoc bs cs ds)) ∙ sym (append_assoc xs (bs ++ cs) ds)

no_run_back : {f : Layout} {v : Marks} {row : List ℕ} (s : AtFoundInside f v row) → (ps : List Label) → AreMarkedAs f v s.found.run.q ps → (es fs : Forest) (h : Option Partial) → IsRun (back (child_trees f s.found.run.q)) (reverse ps) es h fs → ⊥
no_run_back {f = f} {v = v} s ps m es fs h r =
    let x = first_us s in
    let marks : map mark_of (reverse ps) ≡ reverse (map (label_at v) x.1) ++ Empty ∷ [] =
    map-reverse mark_of ps ∙ ap (λ z. reverse z) (m ∙ ap (λ z. map (label_at v) z) x.2) ∙ reverse-append (label_at v x.0 ∷ []) (map (label_at v) x.1)
    ∙ ap (λ z. reverse (map (label_at v) x.1) ++ z ∷ []) x.3 in
    some_label s ps m (marked_back Empty ps (run_end r (reverse (map (label_at v) x.1)) marks))

no_root : {f : Layout} {v : Marks} {row : List ℕ} (s : AtFoundInside f v row) → (ps : List Label) → AreMarkedAs f v s.found.run.q ps → (TemplateFits Q3 f v s.found.run.q true ps → ⊥) →
    (u : Outline) → IsRootOfQ (child_trees f s.found.run.q) ps u → ⊥
no_root s ps m lacks _ (root_q1 x) = no_q1 s ps m x
no_root s ps m lacks _ (root_q2 h u x i) = elim x.pattern [ inl r ↦ no_run s ps m x.es x.fs x.h r | inr r ↦ no_run_back s ps m x.es x.fs x.h r ]
no_root s ps m lacks _ (root_q3 u x) = lacks (s.found.run.is_q, (u, x))

-- where templates stand below the Q-node, and Q3 doesn't at it, no template reduces the tree
pub refused_inside : {f : Layout} {v : Marks} {row : List ℕ} (ts : List Template) (s : AtFoundInside f v row) → AreDecided f v None ts (length v.nodes) →
    ((ps : List Label) → AreMarkedAs f v s.found.run.q ps → TemplateFits Q3 f v s.found.run.q true ps → ⊥) → IsRefused row (outline_at f)
refused_inside {f = f} {v = v} {row = row} ts s d lacks =
    let c : Labels f v row (children_at f s.found.run.q) = inside_kids ts s d in (
      outline_below f s.found.run.q,
      inside_least s,
      inl (subst (λ z. IsUnfitRoot row z) (sym (below_q f s.found.run.q s.ground.layout s.found.run.is_q))
          (c.ps, c.labels, no_root s c.ps c.marked (lacks c.ps c.marked))),
    )

-- a labelled child of the Q-node is one of the run
pub labelled_in_run : {f : Layout} {v : Marks} {row : List ℕ} (s : AtFoundInside f v row) → (k : ℕ) → 1 ≤ occurs (children_at f s.found.run.q) k → label_at v k ≢ Empty → 1 ≤ occurs s.found.run.ks k
labelled_in_run s k o some = elim (cases_lt 0 (occurs s.found.run.ks k)) [
  | inl l ↦ l
  | inr l ↦ absurd (some (outer_empty s k (omega (arith, in_run s k))))
]

-- the last of the labelled nodes is one of the run
pub record LastInRun (f : Layout) (v : Marks) (q : ℕ) (ks : List ℕ) : Type 0 where
  pub some : 1 ≤ length v.nodes
  pub child : 1 ≤ occurs (children_at f q) (node_in v (length v.nodes - 1))
  pub in_run : 1 ≤ occurs ks (node_in v (length v.nodes - 1))

pub last_in_run : {f : Layout} {v : Marks} {row : List ℕ} (s : AtFoundInside f v row) → LastInRun f v s.found.run.q s.found.run.ks
last_in_run {f = f} {v = v} {row = row} s = found_in (some_node first.2)
  where
    first : (x : ℕ) × (ys : List ℕ) × (1 ≤ occurs v.nodes x)
    first =
        let r = nonempty s.found.run.ks (let two : 2 ≤ length s.found.run.ks = s.found.run.some in omega arith) in
        (r.0, r.1, s.ground.marked.all r.0 (run_labelled s r.0 (subst (λ z. 1 ≤ occurs z r.0) (sym r.2) (occurs_here r.0 r.1))))

    some_node : 1 ≤ occurs v.nodes first.0 → 1 ≤ length v.nodes
    some_node o = by_list v.nodes o
      where
        by_list : (xs : List ℕ) → 1 ≤ occurs xs first.0 → 1 ≤ length xs
        by_list [] o = absurd (omega arith)
        by_list (x ∷ xs) o = omega arith

    found_in : 1 ≤ length v.nodes → LastInRun f v s.found.run.q s.found.run.ks
    found_in some =
        let last : ℕ = length v.nodes - 1 in
        let n : ℕ = node_in v last in
        let lab : label_at v n ≢ Empty = node_labelled s.ground last (omega arith) in
        let nq : n ≢ s.found.run.q = not_inside s last (omega arith) in
        let child : 1 ≤ occurs (children_at f s.found.run.q) n = elim (above_ends f.slots s.found.run.q n (labelled_below s.ground n lab)) [
          | at_once e ↦ absurd (nq (sym e))
          | by p lp op ↦ elim (cases_eq p s.found.run.q) [
            | inl e ↦ subst (λ z. 1 ≤ occurs (children_at f z) n) e op
            | inr np ↦
                let lp' : label_at v p ≢ Empty = above_labelled s.ground p n lp np nq (down p n n op (here n)) lab in
                let t = taken_at v.nodes (length v.nodes) p (subst (λ z. 1 ≤ occurs z p) (sym (whole v.nodes)) (s.ground.marked.all p lp')) in
                let b = s.ground.marked.order t.0 n t.1 (subst (λ z. 1 ≤ occurs (children_at f z) n) (sym t.3) op) lab in
                let lt : b.0 < t.0 = b.1 in let le : t.0 < length v.nodes = t.1 in
                let e : b.0 ≡ last = once_at v.nodes b.0 last s.ground.marked.once (omega arith) (omega arith) b.2 in
                absurd (omega arith)
          ]
        ] in
        record { some = some; child = child; in_run = labelled_in_run s n child lab }

-- the Q-node while all labelled nodes are done
pub record InsideNow (f g : Layout) (v w : Marks) (row : List ℕ) (place : ℕ → ℕ) : Type 0 where
  pub found : AtFoundInside f v row
  pub step : AtStep f v row found.found.run.q (length v.nodes) place g w

inside_standing : {f g : Layout} {v w : Marks} {row : List ℕ} {place : ℕ → ℕ} (r : InsideNow f g v w row place) → IsStanding f (take (length v.nodes) v.nodes) r.found.found.run.q
inside_standing r = outer_stands r.step r.found.found.run.q r.found.ground.used (λ l. refl)

inside_child : {f g : Layout} {v w : Marks} {row : List ℕ} {place : ℕ → ℕ} (r : InsideNow f g v w row place) → (k : ℕ) → 1 ≤ occurs (children_at f r.found.found.run.q) k → ChildNow f v row g w k (place k)
inside_child {v = v} r k o = child_now r.step r.found.found.run.q k (inside_standing r) (here r.found.found.run.q) o (λ some. subst (λ z. 1 ≤ occurs z k) (sym (whole v.nodes)) (r.found.ground.marked.all k some))

pub inside_children : {f g : Layout} {v w : Marks} {row : List ℕ} {place : ℕ → ℕ} (r : InsideNow f g v w row place) → ChildrenNow f v row g w (children_at f r.found.found.run.q) (map place (children_at f r.found.found.run.q))
inside_children {f = f} {g = g} {v = v} {w = w} {row = row} {place = place} r = children_built f v row g w place (children_at f r.found.found.run.q) (λ k o. inside_child r k o)

pub inside_moved : {f g : Layout} {v w : Marks} {row : List ℕ} {place : ℕ → ℕ} (r : InsideNow f g v w row place) → children_at g r.found.found.run.q ≡ map place (children_at f r.found.found.run.q)
inside_moved r = r.step.applied.children r.found.found.run.q (inside_standing r)

all_map : (P : ℕ → Type 0) (place : ℕ → ℕ) (ks : List ℕ) → ((k : ℕ) → 1 ≤ occurs ks k → P (place k)) → All P (map place ks)
all_map P place [] of = λ i d l. absurd (omega arith)
all_map P place (k ∷ ks) of = All-cons P (place k) (map place ks) (of k (occurs_here k ks)) (all_map P place ks (λ x o. of x (omega arith)))

map_long : (place : ℕ → ℕ) (ks : List ℕ) → length (map place ks) ≡ length ks
map_long place [] = refl
map_long place (k ∷ ks) = omega (arith, map_long place ks)

-- the run as it stands then, with the answer of any of its nodes
pub run_now : {f g : Layout} {v w : Marks} {row : List ℕ} {place : ℕ → ℕ} (r : InsideNow f g v w row place) → (k : ℕ) → 1 ≤ occurs r.found.found.run.ks k → IsInMarkedRun g w r.found.found.run.q (place k)
run_now {f = f} {g = g} {v = v} {w = w} {row = row} {place = place} r k o = record {
  us = map place run.us;
  ks = map place run.ks;
  vs = map place run.vs;
  is_q = r.step.applied.shapes run.q (inside_standing r) ∙ run.is_q;
  children = r.step.applied.children run.q (inside_standing r) ∙ ap (map place) run.kids_are ∙ map-append place run.us (run.ks ++ run.vs) ∙ ap (λ z. map place run.us ++ z) (map-append place run.ks run.vs);
  left = let l : 1 ≤ length run.us = run.left in omega (arith, map_long place run.us);
  right = let l : 1 ≤ length run.vs = run.right in omega (arith, map_long place run.vs);
  some = let l : 2 ≤ length run.ks = run.some in omega (arith, map_long place run.ks);
  one_of = map_has place run.ks k o;
  marked = all_map (λ x. label_at w x ≢ Empty) place run.ks (λ j oj e. run_labelled r.found j oj (sym (inside_child r j (omega (arith, in_run r.found j))).kept ∙ e));
  before = all_map (λ x. label_at w x ≡ Empty) place run.us (λ j oj. (inside_child r j (omega (arith, in_run r.found j))).kept ∙ outer_empty r.found j (omega arith));
  behind = all_map (λ x. label_at w x ≡ Empty) place run.vs (λ j oj. (inside_child r j (omega (arith, in_run r.found j))).kept ∙ outer_empty r.found j (omega arith));
}
  where
    run : Inside f (column_leaves row)
    run = r.found.found.run

pub inside_ready : {f g : Layout} {v w : Marks} {row : List ℕ} {place : ℕ → ℕ} (r : InsideNow f g v w row place) → (k : ℕ) → 1 ≤ occurs r.found.found.run.ks k → IsReadyInside g w (place k)
inside_ready {f = f} {g = g} r k o = record {
  one = r.step.applied.one;
  two = r.step.applied.two;
  room = r.step.applied.room ∙ r.found.ground.room ∙ sym (same_size f g r.found.ground.layout r.step.g_layout r.step.applied.columns);
  inside = r.step.applied.inside ∙ r.found.found.inside;
  q = r.found.found.run.q;
  run = run_now r k o;
}

pub inside_stands : {f g : Layout} {v w : Marks} {row : List ℕ} {place : ℕ → ℕ} (r : InsideNow f g v w row place) → ((ps : List Label) → AreMarkedAs f v r.found.found.run.q ps → TemplateFits Q3 f v r.found.found.run.q true ps) →
    Stands Q3 g w r.found.found.run.q true
inside_stands r fit = stands_now Q3 true r.step r.found.found.run.q (inside_standing r) (inside_children r) fit

-- Q3 at the Q-node makes the reduced tree
pub reduced_inside : {f g : Layout} {v w : Marks} {row : List ℕ} {place : ℕ → ℕ} (h : Layout) → RootTurnedLaw → (r : InsideNow f g v w row place) → IsLayout h → IsReplacedAt g h r.found.found.run.q r.found.found.run.q →
    ((ps : List Label) → AreMarkedAs g w r.found.found.run.q ps → AreShapesAt g w (children_at g r.found.found.run.q) ps → (u : Outline) × IsQ3 true (child_trees g r.found.found.run.q) ps u × StandsForTree h r.found.found.run.q u) →
    IsReduced row (outline_at f) (outline_at h)
reduced_inside {f = f} {g = g} {v = v} {w = w} {row = row} {place = place} h law r hl replaced becomes =
    law row (outline_at f) (outline_below f q) made.0 (outline_below h q) (outline_at h) (inside_least r.found)
    (subst (λ z. IsRootMade row z made.0) (sym (below_q f q r.found.ground.layout r.found.found.run.is_q))
    (c.ps, c.labels, root_q3 made.0 (q3_moved true (child_trees g q) (child_trees f q) c.ps made.0 (agree_sym (child_trees f q) (child_trees g q) c.ps agree) made.1)))
    made.2 (replaced_whole (exchanged h q r.step hl replaced) (r.found.ground.one q r.found.ground.used))
  where
    q : ℕ
    q = r.found.found.run.q

    c : ChildrenNow f v row g w (children_at f q) (map place (children_at f q))
    c = inside_children r

    e : map place (children_at f q) ≡ children_at g q
    e = sym (r.step.applied.children q (inside_standing r))

    made : (u : Outline) × IsQ3 true (child_trees g q) c.ps u × StandsForTree h q u
    made = becomes c.ps (subst (λ z. map mark_of c.ps ≡ map (label_at w) z) e c.marked_now) (subst (λ z. AreShapesAt g w z c.ps) e c.shapes)

    agree : Agree (child_trees f q) (child_trees g q) c.ps
    agree = subst (λ z. Agree (child_trees f q) (forest (map (outline_below g) z)) c.ps) e c.agree
