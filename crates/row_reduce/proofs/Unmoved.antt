-- A row that the tree keeps: it is taken, and nothing changes.
use Rattle.std.proofs.Common.{◌≡◌, ℕ, ◌-◌, ◌<◌, List, [], length, true, refl, sym, subst, ◌∙◌, arith}
use Rattle.std.proofs.lemmas.Bool.{false≢true}
use Rattle.row_model.specs.Graph.{row_at}
use Rattle.tree_theory.specs.Laws.{KeptLaw, RefusedLaw}
use Rattle.tree_theory.specs.declared.reducer.Step.{Step}
use Rattle.tree_theory.specs.declared.reducer.Step.TheVariants.{Taken, Refused}
use Rattle.arena_model.specs.Layout.{Layout, here}
use Rattle.arena_model.specs.NamedTree.{HasTwoEach, outline_at}
use Rattle.arena_model.proofs.Trees.{no_circle}
use Rattle.pq_arena.specs.declared.node.NodeId.{NodeId}
use Rattle.pq_arena.specs.RowNodes.{column_leaves, indices}
use Rattle.bubble_pass.specs.Marks.{Marks}
use Rattle.bubble_pass.specs.Pass.{node_in}
use Rattle.full_pass.specs.Answer.{IsRowKept}
use Rattle.templates_q.specs.Span.{IsRunMeant}
use Rattle.row_reduce.specs.declared.template.Template.TheVariants.{Q3}
use Rattle.row_reduce.specs.Becomes.{CanApply}
use Rattle.row_reduce.specs.Outcome.{IsOutcome, AtFoundRoot, AtFoundInside}
use Rattle.row_reduce.specs.Still.{IsStill}
use Rattle.row_reduce.proofs.AtInside.{inside_no_child, not_inside}
use Rattle.row_reduce.proofs.AtRoot.{LastIs, first_leaf, root_last}
use Rattle.row_reduce.proofs.Grounds.{node_labelled, once_at}
use Rattle.row_reduce.proofs.RowDone.{IsRowOver, at_row, kept_taken}
use Rattle.row_reduce.proofs.Taking.{row_none, row_order}
use Rattle.row_reduce.proofs.Turning.{items_long}
use Rattle.row_reduce.proofs.Whole.{IsKeptRoot, still_root, still_below}

-- Q3 stands at the node itself, not at that of a run
pub not_meant : {f : Layout} {v : Marks} {n : ℕ} → CanApply Q3 f v n → IsRunMeant v true → ⊥
not_meant c m = false≢true (sym (c.outside c.stands.fits.1.1.at) ∙ m.0)

pub kept_root : {f : Layout} {v : Marks} {row : List ℕ} {q : ℕ} → AtFoundRoot f v row q → IsRowKept f (column_leaves row) → IsKeptRoot f v row q
kept_root {f = f} {row = row} {q = q} s kept =
    let x = first_leaf row s.some in
    record {
      ground = s.ground;
      kept = kept;
      leaf = x.0;
      in_row = x.1;
      holds = s.found.root.holds;
      least = λ k o h. no_circle f.slots q k (s.ground.layout.grounds q) o (s.found.root.least k h);
    }

pub kept_inside : {f : Layout} {v : Marks} {row : List ℕ} (s : AtFoundInside f v row) → IsRowKept f (column_leaves row) → IsKeptRoot f v row s.found.run.q
kept_inside {row = row} s kept =
    let x = first_leaf row s.some in
    record { ground = s.ground; kept = kept; leaf = x.0; in_row = x.1; holds = s.found.run.holds; least = inside_no_child s }

-- the nodes before the pertinent root
pub still_before : {f : Layout} {v : Marks} {row : List ℕ} {q : ℕ} (xs : List NodeId) → indices xs ≡ v.nodes → AtFoundRoot f v row q → IsRowKept f (column_leaves row) → (i : ℕ) → i < length xs - 1 → IsStill f v (node_in v i)
still_before {f = f} {v = v} {q = q} xs e s kept i l =
    let long : length xs ≡ length v.nodes = items_long v xs e in
    let last : LastIs v q = root_last s in
    still_below (kept_root s kept) (node_in v i) (node_labelled s.ground i (omega arith)) (λ same.
    let at : i ≡ length v.nodes - 1 = once_at v.nodes i (length v.nodes - 1) s.ground.marked.once (omega arith) (omega arith) (same ∙ sym last.is) in
    absurd (omega arith))

pub root_still : {f : Layout} {v : Marks} {row : List ℕ} {q : ℕ} → AtFoundRoot f v row q → IsRowKept f (column_leaves row) → IsStill f v q
root_still {q = q} s kept = still_root (kept_root s kept) (here q)

-- and all nodes where the pertinent root has no label
pub still_inside : {f : Layout} {v : Marks} {row : List ℕ} → AtFoundInside f v row → IsRowKept f (column_leaves row) → (i : ℕ) → i < length v.nodes → IsStill f v (node_in v i)
still_inside {v = v} s kept i l = still_below (kept_inside s kept) (node_in v i) (node_labelled s.ground i l) (not_inside s i l)

pub run_still : {f : Layout} {v : Marks} {row : List ℕ} (s : AtFoundInside f v row) → IsRowKept f (column_leaves row) → IsStill f v s.found.run.q
run_still s kept = still_root (kept_inside s kept) (here s.found.run.q)

-- what is still in an arena is so in one that is the same
pub still_now : (f g : Layout) (v w : Marks) (n k : ℕ) → g ≡ f → w ≡ v → k ≡ n → IsStill f v n → IsStill g w k
still_now f g v w n k eg ew ek s = subst (λ z. IsStill z w k) (sym eg) (subst (λ z. IsStill f z k) (sym ew) (subst (λ z. IsStill f v z) (sym ek) s))

-- such a row is taken
pub taken_kept : {f : Layout} {c : ℕ} {rows : List (List ℕ)} {k : ℕ} {row : List ℕ} → KeptLaw → RefusedLaw → IsRowOver f c rows k row → HasTwoEach f → IsRowKept f (column_leaves (row_at rows k)) →
    (g : Layout) (step : Step) → IsOutcome (row_at rows k) f g step → step ≡ Taken
taken_kept law none s two kept g Taken o = refl
taken_kept {f = f} law none s two kept g Refused o = absurd (row_none none (at_row s) o.0 (row_order law (at_row s) (outline_at f) (kept_taken s two [] [] kept).0))
