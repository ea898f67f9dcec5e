-- The row where the pertinent root is known.
use Rattle.std.proofs.Common.{◌≡◌, ℕ, ◌+◌, ◌-◌, ◌*◌, ◌≤◌, true, List, length, take, sum_by, Some, sym, ap, subst, ◌∙◌, arith}
use Rattle.tree_theory.specs.Laws.{RootTurnedLaw}
use Rattle.tree_theory.specs.declared.reducer.Step.TheVariants.{Taken}
use Rattle.arena_model.specs.Layout.{Layout, IsLayout}
use Rattle.pq_arena.specs.declared.node.NodeId.{NodeId}
use Rattle.pq_arena.specs.RowNodes.{column_leaves, indices}
use Rattle.bubble_pass.specs.Marks.{Marks}
use Rattle.bubble_pass.specs.Pass.{node_in}
use Rattle.template_model.specs.Treated.{IsTreated}
use Rattle.row_reduce.specs.declared.template.Template.{Template}
use Rattle.row_reduce.specs.Fits.{IsFit}
use Rattle.row_reduce.specs.Becomes.{Becomes, CanApply}
use Rattle.row_reduce.specs.Applying.{AreApplied}
use Rattle.row_reduce.specs.Decided.{template_in, labelled_at, AreDecided, AreChosen}
use Rattle.row_reduce.specs.Outcome.{IsOutcome, AtFoundRoot}
use Rattle.row_reduce.proofs.Loops.{at_step, sum_step, sum_part}
use Rattle.row_reduce.proofs.Turning.{items_long}
use Rattle.row_reduce.proofs.AtRoot.{LastIs, root_last, top_is, chosen_below, exchanged, RootNow, root_stands, root_counts, reduced}
use Rattle.row_reduce.proofs.InPlace.{in_place}
use Rattle.row_reduce.proofs.Ticks.{work_few}

-- the templates below the root are applied, and t is the one that was chosen for it
pub record LastTurn (f g : Layout) (v w : Marks) (row : List ℕ) (root : NodeId) (ts : List Template) (place : ℕ → ℕ) (t : Template) : Type 0 where
  pub found : AtFoundRoot f v row root.index
  pub room : length v.nodes ≤ length ts
  pub decided : AreDecided f v (Some root) ts (length v.nodes)
  pub layout : IsLayout g
  pub applied : AreApplied f v row (take (length v.nodes - 1) v.nodes) place g w
  pub template : t ≡ template_in ts (length v.nodes - 1)

pub last_now : {f g : Layout} {v w : Marks} {row : List ℕ} {root : NodeId} {ts : List Template} {place : ℕ → ℕ} {t : Template} → LastTurn f g v w row root ts place t → RootNow f g v w row root.index place
last_now {f = f} {g = g} {v = v} {w = w} {row = row} {root = root} {ts = ts} {place = place} s =
    let last : ℕ = length v.nodes - 1 in
    record {
      found = s.found;
      step = at_step f g v w row root.index ts last last place (chosen_below root ts s.found s.room s.decided) (omega arith) s.layout s.applied;
    }

last_fit : {f g : Layout} {v w : Marks} {row : List ℕ} {root : NodeId} {ts : List Template} {place : ℕ → ℕ} {t : Template} → LastTurn f g v w row root ts place t → IsFit f v root.index true t
last_fit {f = f} {v = v} {root = root} {ts = ts} s =
    let last : ℕ = length v.nodes - 1 in
    let r : LastIs v root.index = root_last s.found in
    let some : 1 ≤ length v.nodes = r.some in
    subst (λ z. IsFit f v root.index true z) (sym s.template)
    (subst (λ z. IsFit f v z true (template_in ts last)) r.is
    (subst (λ z. IsFit f v (node_in v last) z (template_in ts last)) (top_is root (node_in v last) r.is) (s.decided.fits last (omega arith))))

pub last_stands : {f g : Layout} {v w : Marks} {row : List ℕ} {root : NodeId} {ts : List Template} {place : ℕ → ℕ} {t : Template} → LastTurn f g v w row root ts place t →
    CanApply t g w root.index
last_stands {t = t} s = record { root = true; stands = root_stands t (last_now s) (last_fit s); outside = λ e. s.applied.inside ∙ s.found.found.outside }

-- it is so where the templates of all nodes but the last were applied
pub last_turn : {f g : Layout} {v w : Marks} {row : List ℕ} {root : NodeId} {ts : List Template} (xs : List NodeId) → indices xs ≡ v.nodes → AtFoundRoot f v row root.index → length v.nodes ≤ length ts →
    AreDecided f v (Some root) ts (length v.nodes) → IsLayout g →
    ((row : List ℕ) (q : ℕ) → AreChosen f v row q ts (length xs - 1) → (place : ℕ → ℕ) × AreApplied f v row (take (length xs - 1) v.nodes) place g w) →
    (place : ℕ → ℕ) × LastTurn f g v w row root ts place (template_in ts (length xs - 1))
last_turn {f = f} {g = g} {v = v} {w = w} {row = row} {root = root} {ts = ts} xs e found room decided layout applied =
    let long : length xs ≡ length v.nodes = items_long v xs e in
    let a = subst (λ n. (row : List ℕ) (q : ℕ) → AreChosen f v row q ts (n - 1) → (place : ℕ → ℕ) × AreApplied f v row (take (n - 1) v.nodes) place g w) long applied row root.index (chosen_below root ts found room decided) in (
      a.0,
      record {
        found = found;
        room = room;
        decided = decided;
        layout = layout;
        applied = a.1;
        template = ap (λ n. template_in ts (n - 1)) long;
      },
    )

-- the templates of all nodes but the last may be applied
pub first_chosen : {f : Layout} {v : Marks} {row : List ℕ} {root : NodeId} {ts : List Template} (xs : List NodeId) → indices xs ≡ v.nodes → AtFoundRoot f v row root.index → length v.nodes ≤ length ts →
    AreDecided f v (Some root) ts (length v.nodes) → AreChosen f v row root.index ts (length xs - 1)
first_chosen {f = f} {v = v} {row = row} {root = root} {ts = ts} xs e found room decided =
    subst (λ n. AreChosen f v row root.index ts (n - 1)) (sym (items_long v xs e)) (chosen_below root ts found room decided)

pub some_items : {f : Layout} {v : Marks} {row : List ℕ} {q : ℕ} (xs : List NodeId) → indices xs ≡ v.nodes → AtFoundRoot f v row q → 1 ≤ length xs
some_items {v = v} xs e found = let r : LastIs v _ = root_last found in let some : 1 ≤ length v.nodes = r.some in omega (arith, items_long v xs e)

-- then the row is taken
pub last_taken : {f g : Layout} {v w : Marks} {row : List ℕ} {root : NodeId} {ts : List Template} {place : ℕ → ℕ} {t : Template} → LastTurn f g v w row root ts place t → RootTurnedLaw →
    (h : Layout) (u : Marks) (a : ℕ) → IsLayout h → IsTreated g h w u root.index a → Becomes t g h w u root.index a → IsOutcome row f h Taken
last_taken {row = row} {t = t} s law h u a hl treated becomes = (
  reduced t h u a law (last_now s) (last_fit s) hl treated becomes,
  treated.arena.one,
  treated.arena.columns ∙ s.applied.columns,
  in_place (column_leaves row) (exchanged h a (last_now s).step hl treated.arena) s.found.found.root.least,
)

pub last_ticks : {f g : Layout} {v w : Marks} {row : List ℕ} {root : NodeId} {ts : List Template} {place : ℕ → ℕ} {t : Template} → LastTurn f g v w row root ts place t → (xs : List NodeId) → indices xs ≡ v.nodes →
    (s0 s1 s2 s3 : ℕ) → s1 ≤ s0 + sum_by (λ n. 7 * (labelled_at v n + 1)) v.nodes → s2 ≤ s1 + sum_by (λ n. 2 * labelled_at v n + 15) (take (length xs - 1) v.nodes) →
    s3 ≤ s2 + 2 * labelled_at w root.index + 15 → s3 ≤ s0 + 31 * length v.nodes
last_ticks {v = v} {w = w} {root = root} s xs e s0 s1 s2 s3 a b c =
    let last : ℕ = length v.nodes - 1 in
    let r : LastIs v root.index = root_last s.found in
    let some : 1 ≤ length v.nodes = r.some in
    let same : labelled_at w root.index ≡ labelled_at v root.index = root_counts (last_now s) in
    let b' : s2 ≤ s1 + sum_by (λ n. 2 * labelled_at v n + 15) (take last v.nodes) =
    subst (λ n. s2 ≤ s1 + sum_by (λ n. 2 * labelled_at v n + 15) (take (n - 1) v.nodes)) (items_long v xs e) b in
    let each : s3 ≤ s1 + sum_by (λ n. 2 * labelled_at v n + 15) (take (last + 1) v.nodes) =
    sum_step (λ n. 2 * labelled_at v n + 15) v.nodes last root.index s1 s2 s3 (omega arith) (sym r.is) b' (omega arith) in
    let part : sum_by (λ n. 2 * labelled_at v n + 15) (take (last + 1) v.nodes) ≤ sum_by (λ n. 2 * labelled_at v n + 15) v.nodes = sum_part (λ n. 2 * labelled_at v n + 15) v.nodes (last + 1) in
    let few : sum_by (λ n. 7 * (labelled_at v n + 1)) v.nodes + sum_by (λ n. 2 * labelled_at v n + 15) v.nodes ≤ 31 * length v.nodes = work_few s.found.ground in
    omega arith
