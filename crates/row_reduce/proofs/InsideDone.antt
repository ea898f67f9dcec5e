-- The row where a run of inner children of a Q-node holds it.
use Rattle.std.proofs.Common.{◌≡◌, ◌≢◌, ℕ, ◌+◌, ◌-◌, ◌*◌, ◌≤◌, ◌<◌, true, false, List, [], ◌∷◌, map, length, take, sum_by, None, All, refl, sym, ap, subst, ◌∙◌, arith}
use Rattle.std.proofs.lemmas.List.Elements.{All-cons}
use Rattle.column_order.specs.Orders.{occurs}
use Rattle.tree_theory.specs.Templates.{Label}
use Rattle.tree_theory.specs.Laws.{RootTurnedLaw}
use Rattle.tree_theory.specs.Refused.{IsRefused}
use Rattle.tree_theory.specs.declared.reducer.Step.TheVariants.{Taken}
use Rattle.arena_model.specs.Layout.{Layout, children_at, IsLayout}
use Rattle.arena_model.specs.NamedTree.{outline_at}
use Rattle.arena_model.proofs.Lists.{occurs_here}
use Rattle.pq_arena.specs.declared.node.NodeId.{NodeId}
use Rattle.pq_arena.specs.RowNodes.{indices, column_leaves}
use Rattle.bubble_pass.specs.Found.{Inside}
use Rattle.bubble_pass.specs.declared.labels.Label.TheVariants.{Empty}
use Rattle.bubble_pass.specs.Marks.{Marks, label_at, size_of}
use Rattle.bubble_pass.specs.Pass.{node_in}
use Rattle.bubble_pass.specs.Sweep.{full_one, partial_one}
use Rattle.template_model.specs.Standing.{AreMarkedAs, IsInMarkedRun, IsReadyInside}
use Rattle.template_model.specs.Treated.{IsTreated, IsReplacedAt}
use Rattle.row_reduce.specs.declared.template.Template.{Template}
use Rattle.row_reduce.specs.declared.template.Template.TheVariants.{Q3}
use Rattle.row_reduce.specs.Fits.{IsFit}
use Rattle.row_reduce.specs.Becomes.{Becomes, Stands}
use Rattle.row_reduce.specs.Applying.{AreApplied, placed}
use Rattle.row_reduce.specs.Decided.{template_in, labelled_at, AreDecided, AreChosen}
use Rattle.row_reduce.specs.Outcome.{IsOutcome, AtFoundInside}
use Rattle.templates_q.specs.Span.{labelled_in, IsRunMeant, CanAskQ3, CanApplyQ3, HasNoPartial, AreKeptBelow, BecomesQ3}
use Rattle.templates_q.specs.Fits.{FitsQ3}
use Rattle.row_reduce.proofs.Answering.{ChildrenNow}
use Rattle.row_reduce.proofs.Stepping.{placed_here}
use Rattle.row_reduce.proofs.Applied.{AtStep, applied_next}
use Rattle.row_reduce.proofs.Loops.{at_place, sum_step, sum_part, sum_marks}
use Rattle.row_reduce.proofs.Applying.{Turn, turn_counts}
use Rattle.row_reduce.proofs.Turning.{items_long}
use Rattle.row_reduce.proofs.Ticks.{work_few_inside}
use Rattle.row_reduce.proofs.AtRoot.{exchanged, first_leaf}
use Rattle.row_reduce.proofs.InPlace.{in_place, least_of}
use Rattle.row_reduce.proofs.AtInside.{outer_empty, run_labelled, inside_no_child, not_inside, LastInRun, last_in_run, refused_inside, InsideNow, inside_children, inside_moved, inside_ready, inside_stands, run_now, reduced_inside}

all_of : (P : ℕ → Type 0) (ks : List ℕ) → ((k : ℕ) → 1 ≤ occurs ks k → P k) → All P ks
all_of P [] of = λ i d l. absurd (omega arith)
all_of P (k ∷ ks) of = All-cons P k ks (of k (occurs_here k ks)) (all_of P ks (λ x o. of x (omega arith)))

-- the run as the pass left it, with any of its nodes
run_first : {f : Layout} {v : Marks} {row : List ℕ} (s : AtFoundInside f v row) → (k : ℕ) → 1 ≤ occurs s.found.run.ks k → IsInMarkedRun f v s.found.run.q k
run_first {f = f} {v = v} {row = row} s k o = record {
  us = run.us;
  ks = run.ks;
  vs = run.vs;
  is_q = run.is_q;
  children = run.kids_are;
  left = run.left;
  right = run.right;
  some = run.some;
  one_of = o;
  marked = all_of (λ x. label_at v x ≢ Empty) run.ks (λ j oj. run_labelled s j oj);
  before = all_of (λ x. label_at v x ≡ Empty) run.us (λ j oj. outer_empty s j (omega arith));
  behind = all_of (λ x. label_at v x ≡ Empty) run.vs (λ j oj. outer_empty s j (omega arith));
}
  where
    run : Inside f (column_leaves row)
    run = s.found.run

-- the last of the labelled nodes is one of the run
pub last_first : {f : Layout} {v : Marks} {row : List ℕ} (xs : List NodeId) → indices xs ≡ v.nodes → (s : AtFoundInside f v row) → (x : ℕ) → x ≡ node_in v (length xs - 1) → IsInMarkedRun f v s.found.run.q x
last_first {f = f} {v = v} xs e s x is =
    let r : LastInRun f v s.found.run.q s.found.run.ks = last_in_run s in
    let at : x ≡ node_in v (length v.nodes - 1) = is ∙ ap (λ n. node_in v (n - 1)) (items_long v xs e) in
    subst (λ z. IsInMarkedRun f v s.found.run.q z) (sym at) (run_first s (node_in v (length v.nodes - 1)) r.in_run)

pub some_items : {f : Layout} {v : Marks} {row : List ℕ} (xs : List NodeId) → indices xs ≡ v.nodes → AtFoundInside f v row → 1 ≤ length xs
some_items {f = f} {v = v} xs e s = let r : LastInRun f v s.found.run.q s.found.run.ks = last_in_run s in let some : 1 ≤ length v.nodes = r.some in omega (arith, items_long v xs e)

-- Q3 may be asked for there
pub can_ask : {f : Layout} {v : Marks} {row : List ℕ} (s : AtFoundInside f v row) → (x : ℕ) → IsInMarkedRun f v s.found.run.q x → CanAskQ3 f v x true
can_ask s x run = record {
  at = λ no. absurd (no (s.found.inside, refl));
  inside = λ _. record {
    one = s.ground.one;
    two = s.ground.two;
    room = s.ground.room;
    inside = s.found.inside;
    q = s.found.run.q;
    run = run;
  };
}

-- where it does not fit, no template reduces the tree
pub refused_run : {f : Layout} {v : Marks} {row : List ℕ} (ts : List Template) (s : AtFoundInside f v row) → AreDecided f v None ts (length v.nodes) →
    ((ps : List Label) → AreMarkedAs f v s.found.run.q ps → FitsQ3 f s.found.run.q true ps → ⊥) → IsRefused row (outline_at f)
refused_run ts s d lacks = refused_inside ts s d (λ ps m fit. lacks ps m (fit.0, fit.1.0, fit.1.1))

-- the templates at the labelled nodes are chosen
inside_chosen : {f : Layout} {v : Marks} {row : List ℕ} (ts : List Template) (s : AtFoundInside f v row) → length v.nodes ≤ length ts → AreDecided f v None ts (length v.nodes) → AreChosen f v row s.found.run.q ts (length v.nodes)
inside_chosen ts s room d = record {
  ground = s.ground;
  few = omega arith;
  room = room;
  below = λ i l. not_inside s i l;
  fits = λ i l. d.fits i l;
}

pub first_chosen : {f : Layout} {v : Marks} {row : List ℕ} (ts : List Template) (xs : List NodeId) → indices xs ≡ v.nodes → (s : AtFoundInside f v row) → length v.nodes ≤ length ts → AreDecided f v None ts (length v.nodes) →
    AreChosen f v row s.found.run.q ts (length xs - 1)
first_chosen {f = f} {v = v} {row = row} ts xs e s room d =
    subst (λ n. AreChosen f v row s.found.run.q ts (n - 1)) (sym (items_long v xs e)) (record {
      ground = all.ground;
      few = omega arith;
      room = omega arith;
      below = λ i l. all.below i (omega arith);
      fits = λ i l. all.fits i (omega arith);
    })
  where
    all : AreChosen f v row s.found.run.q ts (length v.nodes)
    all = inside_chosen ts s room d

-- the templates of all labelled nodes but the last are applied, and t is that of the last, at n
pub record LastTurn (f g : Layout) (v w : Marks) (row : List ℕ) (ts : List Template) (place : ℕ → ℕ) (t : Template) (n : ℕ) : Type 0 where
  pub found : AtFoundInside f v row
  pub fits : (ps : List Label) → AreMarkedAs f v found.found.run.q ps → FitsQ3 f found.found.run.q true ps
  pub turn : Turn f g v w row found.found.run.q ts (length v.nodes) (length v.nodes - 1) place t n

pub last_turn : {f g : Layout} {v w : Marks} {row : List ℕ} {ts : List Template} (xs : List NodeId) (n : ℕ) → indices xs ≡ v.nodes → (s : AtFoundInside f v row) → length v.nodes ≤ length ts →
    AreDecided f v None ts (length v.nodes) → ((ps : List Label) → AreMarkedAs f v s.found.run.q ps → FitsQ3 f s.found.run.q true ps) → IsLayout g →
    ((row : List ℕ) (q : ℕ) → AreChosen f v row q ts (length xs - 1) → (place : ℕ → ℕ) × AreApplied f v row (take (length xs - 1) v.nodes) place g w) → n ≡ node_in v (length xs - 1) →
    (place : ℕ → ℕ) × LastTurn f g v w row ts place (template_in ts (length xs - 1)) n
last_turn {f = f} {g = g} {v = v} {w = w} {row = row} {ts = ts} xs n e s room d fits layout applied is =
    let long : length xs ≡ length v.nodes = items_long v xs e in
    let r : LastInRun f v s.found.run.q s.found.run.ks = last_in_run s in
    let some : 1 ≤ length v.nodes = r.some in
    let a = applied row s.found.run.q (first_chosen ts xs e s room d) in (
      a.0,
      record {
        found = s;
        fits = fits;
        turn = record {
          chosen = inside_chosen ts s room d;
          some = omega arith;
          layout = layout;
          applied = subst (λ i. AreApplied f v row (take (i - 1) v.nodes) a.0 g w) long a.1;
          template = ap (λ i. template_in ts (i - 1)) long;
          node = is ∙ ap (λ i. node_in v (i - 1)) long;
        };
      },
    )

-- all are applied, and a is the answer of the last
pub record RunTurn (f g h : Layout) (v w u : Marks) (row : List ℕ) (ts : List Template) (place : ℕ → ℕ) (t : Template) (n a : ℕ) : Type 0 where
  pub last : LastTurn f g v w row ts place t n
  pub layout : IsLayout h
  pub treated : IsTreated g h w u n a
  pub becomes : Becomes t g h w u n a

pub done_at : {f g h : Layout} {v w u : Marks} {row : List ℕ} {ts : List Template} {place : ℕ → ℕ} {t : Template} {n a : ℕ} → LastTurn f g v w row ts place t n → IsLayout h → IsTreated g h w u n a → Becomes t g h w u n a →
    RunTurn f g h v w u row ts place t n a
done_at last layout treated becomes = record { last = last; layout = layout; treated = treated; becomes = becomes }

run_at : {f g h : Layout} {v w u : Marks} {row : List ℕ} {ts : List Template} {place : ℕ → ℕ} {t : Template} {n a : ℕ} (s : RunTurn f g h v w u row ts place t n a) →
    AtStep f v row s.last.found.found.run.q (length v.nodes) (placed place (node_in v (length v.nodes - 1)) a) h u
run_at {f = f} {g = g} {h = h} {v = v} {w = w} {u = u} {row = row} {ts = ts} {place = place} {t = t} {n = n} {a = a} s =
    let i : ℕ = length v.nodes - 1 in
    let turn : Turn f g v w row s.last.found.found.run.q ts (length v.nodes) i place t n = s.last.turn in
    let lt : i < length v.nodes = turn.some in
    let e : i + 1 ≡ length v.nodes = omega arith in
    subst (λ z. AtStep f v row s.last.found.found.run.q z (placed place (node_in v i) a) h u) e
    (applied_next t h u a (at_place f g v w row s.last.found.found.run.q ts (length v.nodes) i place turn.chosen lt turn.layout turn.applied)
    (subst (λ z. IsFit f v (node_in v i) false z) (sym turn.template) (turn.chosen.fits i lt)) s.layout
    (subst (λ z. IsTreated g h w u z a) turn.node s.treated) (subst (λ z. Becomes t g h w u z a) turn.node s.becomes))

abbrev run_step : {f g h : Layout} {v w u : Marks} {row : List ℕ} {ts : List Template} {place : ℕ → ℕ} {t : Template} {n a : ℕ} → RunTurn f g h v w u row ts place t n a →
    InsideNow f h v u row (placed place (node_in v (length v.nodes - 1)) a)
run_step s = record { found = s.last.found; step = run_at s }

run_in : {f g h : Layout} {v w u : Marks} {row : List ℕ} {ts : List Template} {place : ℕ → ℕ} {t : Template} {n a : ℕ} (s : RunTurn f g h v w u row ts place t n a) → IsInMarkedRun h u s.last.found.found.run.q a
run_in {f = f} {h = h} {v = v} {u = u} {place = place} {a = a} s =
    let r : LastInRun f v s.last.found.found.run.q s.last.found.found.run.ks = last_in_run s.last.found in
    subst (λ z. IsInMarkedRun h u s.last.found.found.run.q z) (placed_here place (node_in v (length v.nodes - 1)) a) (run_now (run_step s) (node_in v (length v.nodes - 1)) r.in_run)

is_meant : {f g h : Layout} {v w u : Marks} {row : List ℕ} {ts : List Template} {place : ℕ → ℕ} {t : Template} {n a : ℕ} → RunTurn f g h v w u row ts place t n a → IsRunMeant u true
is_meant s = ((run_step s).step.applied.inside ∙ s.last.found.found.inside, refl)

pub run_ready : {f g h : Layout} {v w u : Marks} {row : List ℕ} {ts : List Template} {place : ℕ → ℕ} {t : Template} {n a : ℕ} → RunTurn f g h v w u row ts place t n a → CanAskQ3 h u a true
run_ready {f = f} {h = h} {v = v} {u = u} {place = place} {a = a} s = record {
  at = λ no. absurd (no (is_meant s));
  inside = λ _.
      let r : LastInRun f v s.last.found.found.run.q s.last.found.found.run.ks = last_in_run s.last.found in
      subst (λ z. IsReadyInside h u z) (placed_here place (node_in v (length v.nodes - 1)) a) (inside_ready (run_step s) (node_in v (length v.nodes - 1)) r.in_run);
}

pub run_stands : {f g h : Layout} {v w u : Marks} {row : List ℕ} {ts : List Template} {place : ℕ → ℕ} {t : Template} {n a : ℕ} → RunTurn f g h v w u row ts place t n a → CanApplyQ3 h u a
run_stands {f = f} {h = h} {v = v} {u = u} s = record {
  at = λ no. absurd (no (is_meant s));
  inside = λ _.
      let st : Stands Q3 h u s.last.found.found.run.q true = inside_stands (run_step s) (λ ps m. let fit = s.last.fits ps m in (fit.0, (fit.1, fit.2))) in
      (s.last.found.found.run.q, run_in s, record { ps = st.ps; marked = st.marked; shapes = st.shapes; fits = (st.fits.0, st.fits.1.0, st.fits.1.1) });
}

-- then the row is taken
pub run_taken : {f g h : Layout} {v w u : Marks} {row : List ℕ} {ts : List Template} {place : ℕ → ℕ} {t : Template} {n a : ℕ} → RunTurn f g h v w u row ts place t n a → RootTurnedLaw →
    (k : Layout) → IsLayout k → (IsRunMeant u true → (q : ℕ) → IsInMarkedRun h u q a → IsReplacedAt h k q q) → (IsRunMeant u true → (q : ℕ) → IsInMarkedRun h u q a → BecomesQ3 h k u q q) → IsOutcome row f k Taken
run_taken {f = f} {h = h} {u = u} {row = row} {a = a} s law k hk replaced becomes =
    let r : IsReplacedAt h k s.last.found.found.run.q s.last.found.found.run.q = replaced (is_meant s) s.last.found.found.run.q (run_in s) in
    let x = first_leaf row s.last.found.some in (
      reduced_inside k law (run_step s) hk r (becomes (is_meant s) s.last.found.found.run.q (run_in s)),
      r.one,
      r.columns ∙ (run_step s).step.applied.columns,
      in_place (column_leaves row) (exchanged k s.last.found.found.run.q (run_step s).step hk r)
          (least_of (column_leaves row) x.0 s.last.found.ground.layout x.1 s.last.found.found.run.holds (inside_no_child s.last.found)),
    )

-- Q3 changes nothing where no child is partial
pub run_unmoved : {f g h : Layout} {v w u : Marks} {row : List ℕ} {ts : List Template} {place : ℕ → ℕ} {t : Template} {n a : ℕ} (s : RunTurn f g h v w u row ts place t n a) →
    (k : Layout) → (IsRunMeant u true → (q : ℕ) → IsInMarkedRun h u q a → HasNoPartial h u q → k ≡ h) →
    ((r : AtFoundInside f v row) → HasNoPartial h u r.found.run.q) → k ≡ h
run_unmoved s k same plain = same (is_meant s) s.last.found.found.run.q (run_in s) (plain s.last.found)

pub run_room : {f g h : Layout} {v w u : Marks} {row : List ℕ} {ts : List Template} {place : ℕ → ℕ} {t : Template} {n a : ℕ} → RunTurn f g h v w u row ts place t n a →
    (k : Layout) (x : Marks) → (IsRunMeant u true → (q : ℕ) → IsInMarkedRun h u q a → AreKeptBelow h k u x q) → size_of x ≡ size_of v
run_room s k x kept = (kept (is_meant s) s.last.found.found.run.q (run_in s)).room ∙ (run_step s).step.applied.room

-- the Q-node has as many labelled children as before
run_counts : {f g h : Layout} {v w u : Marks} {row : List ℕ} {ts : List Template} {place : ℕ → ℕ} {t : Template} {n a : ℕ} (s : RunTurn f g h v w u row ts place t n a) →
    labelled_in u (children_at h s.last.found.found.run.q) ≡ labelled_in v (children_at f s.last.found.found.run.q)
run_counts {f = f} {g = g} {h = h} {v = v} {w = w} {u = u} {row = row} {place = place} {a = a} s =
    let q : ℕ = s.last.found.found.run.q in
    let c : ChildrenNow f v row h u (children_at f q) (map (placed place (node_in v (length v.nodes - 1)) a) (children_at f q)) = inside_children (run_step s) in
    let same : map (label_at u) (children_at h q) ≡ map (label_at v) (children_at f q) = ap (λ z. map (label_at u) z) (inside_moved (run_step s)) ∙ sym c.marked_now ∙ c.marked in
    let fulls : sum_by (λ k. full_one (label_at u k)) (children_at h q) ≡ sum_by (λ k. full_one (label_at v k)) (children_at f q) =
    sum_marks full_one (label_at u) (children_at h q) ∙ ap (sum_by full_one) same ∙ sym (sum_marks full_one (label_at v) (children_at f q)) in
    let parts : sum_by (λ k. partial_one (label_at u k)) (children_at h q) ≡ sum_by (λ k. partial_one (label_at v k)) (children_at f q) =
    sum_marks partial_one (label_at u) (children_at h q) ∙ ap (sum_by partial_one) same ∙ sym (sum_marks partial_one (label_at v) (children_at f q)) in
    omega arith

pub run_ticks : {f g h : Layout} {v w u : Marks} {row : List ℕ} {ts : List Template} {place : ℕ → ℕ} {t : Template} {n a : ℕ} → RunTurn f g h v w u row ts place t n a → (xs : List NodeId) (x : ℕ) → indices xs ≡ v.nodes → x ≡ node_in v (length xs - 1) →
    (s0 s1 s2 s3 s4 s5 : ℕ) → s1 ≤ s0 + sum_by (λ n. 7 * (labelled_at v n + 1)) v.nodes → (IsRunMeant v true → (q : ℕ) → IsInMarkedRun f v q x → s2 ≤ s1 + 2 * labelled_in v (children_at f q)) →
    s3 ≤ s2 + sum_by (λ n. 2 * labelled_at v n + 15) (take (length xs - 1) v.nodes) → s4 ≤ s3 + 2 * labelled_at w n + 15 →
    (IsRunMeant u true → (q : ℕ) → IsInMarkedRun h u q a → s5 ≤ s4 + 2 * labelled_in u (children_at h q) + 6) → s5 ≤ s0 + 31 * length v.nodes + 6
run_ticks {f = f} {h = h} {v = v} {w = w} {u = u} {n = n} s xs x e is s0 s1 s2 s3 s4 s5 a b c d m =
    let q : ℕ = s.last.found.found.run.q in
    let b' : s2 ≤ s1 + 2 * labelled_in v (children_at f q) = b (s.last.found.found.inside, refl) q (last_first xs e s.last.found x is) in
    let i : ℕ = length v.nodes - 1 in
    let lt : i < length v.nodes = s.last.turn.some in
    let same : labelled_at w n ≡ labelled_at v n = turn_counts s.last.turn in
    let c' : s3 ≤ s2 + sum_by (λ n. 2 * labelled_at v n + 15) (take i v.nodes) = subst (λ j. s3 ≤ s2 + sum_by (λ n. 2 * labelled_at v n + 15) (take (j - 1) v.nodes)) (items_long v xs e) c in
    let each : s4 ≤ s2 + sum_by (λ n. 2 * labelled_at v n + 15) (take (i + 1) v.nodes) = sum_step (λ n. 2 * labelled_at v n + 15) v.nodes i n s2 s3 s4 lt s.last.turn.node c' (omega arith) in
    let part : sum_by (λ n. 2 * labelled_at v n + 15) (take (i + 1) v.nodes) ≤ sum_by (λ n. 2 * labelled_at v n + 15) v.nodes = sum_part (λ n. 2 * labelled_at v n + 15) v.nodes (i + 1) in
    let few : sum_by (λ n. 7 * (labelled_at v n + 1)) v.nodes + sum_by (λ n. 2 * labelled_at v n + 15) v.nodes + 4 * labelled_in v (children_at f q) ≤ 31 * length v.nodes = work_few_inside s.last.found.ground s.last.found.found.top in
    let m' : s5 ≤ s4 + 2 * labelled_in u (children_at h q) + 6 = m (is_meant s) q (run_in s) in
    let counts : labelled_in u (children_at h q) ≡ labelled_in v (children_at f q) = run_counts s in
    omega arith
