-- One turn of the loop that applies the chosen templates.
use Rattle.std.proofs.Common.{◌≡◌, ℕ, ◌+◌, ◌*◌, ◌≤◌, ◌<◌, false, List, length, take, sum_by, slice_index_or, refl, sym, ap, subst, ◌∙◌, arith}
use Rattle.arena_model.specs.Layout.{Layout, IsLayout}
use Rattle.pq_arena.specs.declared.node.NodeId.{NodeId}
use Rattle.pq_arena.specs.RowNodes.{indices}
use Rattle.bubble_pass.specs.Marks.{Marks}
use Rattle.bubble_pass.specs.Pass.{node_in}
use Rattle.template_model.specs.Standing.{IsReady}
use Rattle.template_model.specs.Treated.{IsTreated}
use Rattle.row_reduce.specs.declared.template.Template.{Template}
use Rattle.row_reduce.specs.Fits.{IsFit}
use Rattle.row_reduce.specs.Becomes.{Becomes, Stands, CanApply}
use Rattle.row_reduce.specs.Applying.{placed, AreApplied}
use Rattle.row_reduce.specs.Decided.{template_in, labelled_at, AreChosen}
use Rattle.row_reduce.proofs.Applied.{AtPlace, ready_now, stands_at, applied_next}
use Rattle.row_reduce.proofs.Loops.{at_place, counts_at, node_at, sum_step}

-- the template t of the labelled node n at place i is next
pub record Turn (f g : Layout) (v w : Marks) (row : List ℕ) (q : ℕ) (ts : List Template) (count i : ℕ) (place : ℕ → ℕ) (t : Template) (n : ℕ) : Type 0 where
  pub chosen : AreChosen f v row q ts count
  pub some : i < count
  pub layout : IsLayout g
  pub applied : AreApplied f v row (take i v.nodes) place g w
  pub template : t ≡ template_in ts i
  pub node : n ≡ node_in v i

pub turn_of : (f g : Layout) (v w : Marks) (row : List ℕ) (q : ℕ) (ts : List Template) (count i : ℕ) (place : ℕ → ℕ) (xs : List NodeId) → AreChosen f v row q ts count → i < count → IsLayout g →
    AreApplied f v row (take i v.nodes) place g w → indices xs ≡ w.nodes → Turn f g v w row q ts count i place (template_in ts i) (slice_index_or xs i (record { index = 0 })).index
turn_of f g v w row q ts count i place xs c l h a e = record {
  chosen = c;
  some = l;
  layout = h;
  applied = a;
  template = refl;
  node = node_at xs v i (record { index = 0 }) (e ∙ a.nodes) (let few : count ≤ length v.nodes = c.few in omega arith);
}

at : {f g : Layout} {v w : Marks} {row : List ℕ} {q : ℕ} {ts : List Template} {count i : ℕ} {place : ℕ → ℕ} {t : Template} {n : ℕ} → Turn f g v w row q ts count i place t n → AtPlace f v row q i place g w
at {f = f} {g = g} {v = v} {w = w} {row = row} {q = q} {ts = ts} {count = count} {i = i} {place = place} s = at_place f g v w row q ts count i place s.chosen s.some s.layout s.applied

fit : {f g : Layout} {v w : Marks} {row : List ℕ} {q : ℕ} {ts : List Template} {count i : ℕ} {place : ℕ → ℕ} {t : Template} {n : ℕ} → Turn f g v w row q ts count i place t n → IsFit f v (node_in v i) false t
fit {f = f} {v = v} {i = i} s = subst (λ z. IsFit f v (node_in v i) false z) (sym s.template) (s.chosen.fits i s.some)

pub turn_ready : {f g : Layout} {v w : Marks} {row : List ℕ} {q : ℕ} {ts : List Template} {count i : ℕ} {place : ℕ → ℕ} {t : Template} {n : ℕ} → Turn f g v w row q ts count i place t n → IsReady g w n
turn_ready {g = g} {w = w} s = subst (λ z. IsReady g w z) (sym s.node) (ready_now (at s))

pub turn_stands : {f g : Layout} {v w : Marks} {row : List ℕ} {q : ℕ} {ts : List Template} {count i : ℕ} {place : ℕ → ℕ} {t : Template} {n : ℕ} → Turn f g v w row q ts count i place t n →
    CanApply t g w n
turn_stands {g = g} {w = w} {t = t} s = record { root = false; stands = subst (λ z. Stands t g w z false) (sym s.node) (stands_at t (at s) (fit s)); outside = λ e. absurd (cc) }

pub turn_counts : {f g : Layout} {v w : Marks} {row : List ℕ} {q : ℕ} {ts : List Template} {count i : ℕ} {place : ℕ → ℕ} {t : Template} {n : ℕ} → Turn f g v w row q ts count i place t n →
    labelled_at w n ≡ labelled_at v n
turn_counts {v = v} {w = w} s = ap (labelled_at w) s.node ∙ counts_at (at s) ∙ ap (labelled_at v) (sym s.node)

-- it is applied
pub turned : {f g : Layout} {v w : Marks} {row : List ℕ} {q : ℕ} {ts : List Template} {count i : ℕ} {place : ℕ → ℕ} {t : Template} {n : ℕ} → Turn f g v w row q ts count i place t n →
    (h : Layout) (u : Marks) (a : ℕ) → IsLayout h → IsTreated g h w u n a → Becomes t g h w u n a → (next : ℕ → ℕ) × AreApplied f v row (take (i + 1) v.nodes) next h u
turned {g = g} {v = v} {w = w} {i = i} {place = place} {t = t} s h u a hl treated becomes = (
  placed place (node_in v i) a,
  (applied_next t h u a (at s) (fit s) hl (subst (λ z. IsTreated g h w u z a) s.node treated) (subst (λ z. Becomes t g h w u z a) s.node becomes)).applied,
)

pub turn_ticks : {f g : Layout} {v w : Marks} {row : List ℕ} {q : ℕ} {ts : List Template} {count i : ℕ} {place : ℕ → ℕ} {t : Template} {n : ℕ} → Turn f g v w row q ts count i place t n →
    (s0 s1 s2 : ℕ) → s1 ≤ s0 + sum_by (λ k. 2 * labelled_at v k + 15) (take i v.nodes) → s2 ≤ s1 + 2 * labelled_at w n + 15 → s2 ≤ s0 + sum_by (λ k. 2 * labelled_at v k + 15) (take (i + 1) v.nodes)
turn_ticks {v = v} {w = w} {count = count} {i = i} {n = n} s s0 s1 s2 a b =
    let some : i < count = s.some in let few : count ≤ length v.nodes = s.chosen.few in
    let same : labelled_at w n ≡ labelled_at v n = turn_counts s in
    sum_step (λ k. 2 * labelled_at v k + 15) v.nodes i n s0 s1 s2 (omega arith) s.node a (omega arith)
