-- The template of the next node is applied.
use Rattle.std.proofs.Common.{◌≡◌, ◌≢◌, inl, inr, ℕ, ◌+◌, ◌*◌, ◌≤◌, ◌<◌, Bool, false, List, map, length, take, get_or, sym, ap, subst, ◌∙◌, arith}
use Rattle.std.proofs.lemmas.Bool.{cases_eq, cases_lt}
use Rattle.column_order.specs.Orders.{occurs}
use Rattle.pq_tree.specs.Forests.{forest}
use Rattle.tree_theory.specs.Templates.{Label, empty_label}
use Rattle.arena_model.specs.ChildLists.{none}
use Rattle.arena_model.specs.Layout.{Layout, shape_at, children_at, IsLayout, IsAtOrAbove}
use Rattle.arena_model.specs.NamedTree.{outline_below}
use Rattle.arena_model.proofs.Paths.{top_alone, above_step}
use Rattle.arena_model.proofs.Trees.{no_circle}
use Rattle.pq_arena.specs.RowNodes.{column_leaves}
use Rattle.bubble_pass.specs.declared.labels.Label.TheVariants.{Empty}
use Rattle.bubble_pass.specs.Marks.{Marks, label_at}
use Rattle.bubble_pass.specs.Pass.{IsRightAt, node_in}
use Rattle.bubble_pass.specs.Sweep.{IsRight}
use Rattle.template_model.specs.Standing.{mark_of, child_trees, AreShapesAt, IsReady}
use Rattle.template_model.specs.Treated.{IsTreated}
use Rattle.row_reduce.specs.declared.template.Template.{Template}
use Rattle.row_reduce.specs.declared.template.Template.TheVariants.{L1, P1, P2, P3, P4, P5, P6, Q1, Q2, Q3}
use Rattle.row_reduce.specs.Fits.{TemplateFits, IsFit}
use Rattle.row_reduce.specs.Becomes.{Becomes, Stands}
use Rattle.row_reduce.specs.Applying.{IsStanding, IsAnswered, placed, AreApplied}
use Rattle.row_reduce.specs.Ground.{IsGround}
use Rattle.row_reduce.proofs.Agree.{Agree, p1_moved, p2_moved, p3_moved, p4_moved, p5_moved, p6_moved, q1_moved, q2_moved, q3_moved}
use Rattle.row_reduce.proofs.Leaves.{empty_is}
use Rattle.row_reduce.proofs.Stepping.{IsNext, Stepping, child_stands, applied_step}
use Rattle.row_reduce.proofs.Answering.{ChildNow, ChildrenNow, children_built, tree_stays, AtAnswer, answered}
use Rattle.row_reduce.proofs.Grounds.{is_empty, right_child, right_at, row_leaf, node_labelled, node_stands, labelled_below, child_done, done_labelled, none_below, taken_at, taken_has}

-- the templates at the nodes ds, all labelled and below q, have been applied
pub record AtStep (f : Layout) (v : Marks) (row : List ℕ) (q : ℕ) (i : ℕ) (place : ℕ → ℕ) (g : Layout) (w : Marks) : Type 0 where
  pub ground : IsGround f v row q
  pub g_layout : IsLayout g
  pub applied : AreApplied f v row (take i v.nodes) place g w
  pub below : (y : ℕ) → 1 ≤ occurs (take i v.nodes) y → y ≢ q

-- what stands in the place of a child of a node that stands
pub child_now : {f g : Layout} {v w : Marks} {row : List ℕ} {q i : ℕ} {place : ℕ → ℕ} → AtStep f v row q i place g w → (n k : ℕ) → IsStanding f (take i v.nodes) n → IsAtOrAbove f.slots q n →
    1 ≤ occurs (children_at f n) k → (label_at v k ≢ Empty → 1 ≤ occurs (take i v.nodes) k) → ChildNow f v row g w k (place k)
child_now {f = f} {g = g} {v = v} {w = w} {row = row} {q = q} {i = i} {place = place} s n k standing l o done = elim (is_empty (label_at v k)) [
  | inl e ↦
      let none_done : occurs (take i v.nodes) k ≡ 0 = elim (cases_lt 0 (occurs (take i v.nodes) k)) [ inl d ↦ absurd (done_labelled s.ground i k d e) | inr d ↦ omega arith ] in
      let own : place k ≡ k = s.applied.fixed k none_done in
      let stands : IsStanding f (take i v.nodes) k = child_stands f (take i v.nodes) n k s.ground.layout standing o none_done in
      let kq : k ≢ q = (λ z. no_circle f.slots n k (s.ground.layout.grounds n) o (subst (λ y. IsAtOrAbove f.slots y n) (sym z) l)) in
      let lk : IsAtOrAbove f.slots q k = above_step f.slots q n k l o in
      record {
        label = empty_label;
        is = empty_is f row k s.ground.layout s.ground.is_row stands.used (subst (λ z. IsRight f (column_leaves row) k z) e (right_child s.ground n k l o));
        marked = sym e;
        kept = ap (label_at w) own ∙ s.applied.labels k stands;
        shape = λ h z. absurd (cc);
        full = λ z. absurd (cc);
        empty = λ z. ap (outline_below g) own ∙ tree_stays f g v w row (take i v.nodes) place k s.ground.layout s.g_layout s.applied stands
            (λ y d p. none_below s.ground i k lk kq e y (s.below y d) d p);
      }
  | inr some ↦
      let a : IsAnswered f v row g w k (place k) = s.applied.answers n k standing o (done some) in
      record {
        label = a.label;
        is = a.is;
        marked = a.marked;
        kept = a.kept;
        shape = a.shape;
        full = a.same;
        empty = λ z. absurd (some (sym a.marked ∙ ap mark_of z));
      }
]

pub children_now : {f g : Layout} {v w : Marks} {row : List ℕ} {q i : ℕ} {place : ℕ → ℕ} → AtStep f v row q i place g w → (n : ℕ) → IsStanding f (take i v.nodes) n → IsAtOrAbove f.slots q n →
    ((k : ℕ) → 1 ≤ occurs (children_at f n) k → label_at v k ≢ Empty → 1 ≤ occurs (take i v.nodes) k) → ChildrenNow f v row g w (children_at f n) (map place (children_at f n))
children_now {f = f} {g = g} {v = v} {w = w} {row = row} {place = place} s n standing l done =
    children_built f v row g w place (children_at f n) (λ k o. child_now s n k standing l o (done k o))

-- a pattern that stands over the first trees stands over what has come in their place
pub fits_moved : (t : Template) (root : Bool) (f g : Layout) (v w : Marks) (n : ℕ) (ps : List Label) → shape_at g n ≡ shape_at f n → label_at w n ≡ label_at v n →
    Agree (child_trees f n) (child_trees g n) ps → TemplateFits t f v n root ps → TemplateFits t g w n root ps
fits_moved L1 root f g v w n ps e l a fit = ((fit.0.0, e ∙ fit.0.1), l ∙ fit.1)
fits_moved P1 root f g v w n ps e l a fit = (e ∙ fit.0, p1_moved (child_trees f n) (child_trees g n) ps a fit.1)
fits_moved P2 root f g v w n ps e l a fit = (e ∙ fit.0, (fit.1.0, p2_moved root (child_trees f n) (child_trees g n) ps fit.1.0 a fit.1.1))
fits_moved P3 root f g v w n ps e l a fit = (e ∙ fit.0, (fit.1.0, p3_moved root (child_trees f n) (child_trees g n) ps fit.1.0 a fit.1.1))
fits_moved P4 root f g v w n ps e l a fit = (e ∙ fit.0, (fit.1.0, p4_moved root (child_trees f n) (child_trees g n) ps fit.1.0 a fit.1.1))
fits_moved P5 root f g v w n ps e l a fit = (e ∙ fit.0, (fit.1.0, p5_moved root (child_trees f n) (child_trees g n) ps fit.1.0 a fit.1.1))
fits_moved P6 root f g v w n ps e l a fit = (e ∙ fit.0, (fit.1.0, p6_moved root (child_trees f n) (child_trees g n) ps fit.1.0 a fit.1.1))
fits_moved Q1 root f g v w n ps e l a fit = (e ∙ fit.0, q1_moved (child_trees f n) (child_trees g n) ps a fit.1)
fits_moved Q2 root f g v w n ps e l a fit = (e ∙ fit.0, (fit.1.0, q2_moved (child_trees f n) (child_trees g n) ps fit.1.0 a fit.1.1))
fits_moved Q3 root f g v w n ps e l a fit = (e ∙ fit.0, (fit.1.0, q3_moved root (child_trees f n) (child_trees g n) ps fit.1.0 a fit.1.1))

-- the template that was chosen at a node that stands may be applied there
pub stands_now : (t : Template) (root : Bool) {f g : Layout} {v w : Marks} {row : List ℕ} {q i : ℕ} {place : ℕ → ℕ} → AtStep f v row q i place g w → (n : ℕ) → IsStanding f (take i v.nodes) n →
    ChildrenNow f v row g w (children_at f n) (map place (children_at f n)) → IsFit f v n root t → Stands t g w n root
stands_now t root {f = f} {g = g} {v = v} {w = w} {place = place} s n standing c fit =
    let e : map place (children_at f n) ≡ children_at g n = sym (s.applied.children n standing) in
    record {
      ps = c.ps;
      marked = subst (λ z. map mark_of c.ps ≡ map (label_at w) z) e c.marked_now;
      shapes = subst (λ z. AreShapesAt g w z c.ps) e c.shapes;
      fits = fits_moved t root f g v w n c.ps (s.applied.shapes n standing) (s.applied.labels n standing)
          (subst (λ z. Agree (child_trees f n) (forest (map (outline_below g) z)) c.ps) e c.agree) (fit c.ps c.marked);
    }

pub same_size : (f g : Layout) → IsLayout f → IsLayout g → g.columns ≡ f.columns → length g.slots ≡ length f.slots
same_size f g h hg e = let a : length f.slots ≡ 2 * f.columns + 4 = h.size in let b : length g.slots ≡ 2 * g.columns + 4 = hg.size in omega arith

pub ready_at : {f g : Layout} {v w : Marks} {row : List ℕ} {q i : ℕ} {place : ℕ → ℕ} → AtStep f v row q i place g w → (n : ℕ) → IsStanding f (take i v.nodes) n →
    IsRightAt f v n → IsReady g w n
ready_at {f = f} {g = g} s n standing chain = record {
  one = s.applied.one;
  two = s.applied.two;
  room = s.applied.room ∙ s.ground.room ∙ sym (same_size f g s.ground.layout s.g_layout s.applied.columns);
  used = λ e. standing.used (sym (s.applied.shapes n standing) ∙ e);
  right = s.applied.chains n standing chain;
}

-- at place i, below the root
pub record AtPlace (f : Layout) (v : Marks) (row : List ℕ) (q : ℕ) (i : ℕ) (place : ℕ → ℕ) (g : Layout) (w : Marks) : Type 0 where
  pub step : AtStep f v row q i place g w
  pub some : i < length v.nodes
  pub not_top : node_in v i ≢ q

pub now_at : {f g : Layout} {v w : Marks} {row : List ℕ} {q i : ℕ} {place : ℕ → ℕ} → AtPlace f v row q i place g w → ChildrenNow f v row g w (children_at f (node_in v i)) (map place (children_at f (node_in v i)))
now_at {v = v} {i = i} p = children_now p.step (node_in v i) (node_stands p.step.ground i p.some p.not_top)
    (labelled_below p.step.ground (node_in v i) (node_labelled p.step.ground i p.some)) (λ k o some. child_done p.step.ground i k p.some o some)

pub ready_now : {f g : Layout} {v w : Marks} {row : List ℕ} {q i : ℕ} {place : ℕ → ℕ} → AtPlace f v row q i place g w → IsReady g w (node_in v i)
ready_now {v = v} {i = i} p = ready_at p.step (node_in v i) (node_stands p.step.ground i p.some p.not_top) (p.step.ground.marked.chains (node_in v i) (node_labelled p.step.ground i p.some))

pub stands_at : (t : Template) {f g : Layout} {v w : Marks} {row : List ℕ} {q i : ℕ} {place : ℕ → ℕ} → AtPlace f v row q i place g w → IsFit f v (node_in v i) false t → Stands t g w (node_in v i) false
stands_at t {v = v} {i = i} p fit = stands_now t false p.step (node_in v i) (node_stands p.step.ground i p.some p.not_top) (now_at p) fit

next_taken : (v : Marks) (i : ℕ) → i < length v.nodes → IsNext (take i v.nodes) (node_in v i) (take (i + 1) v.nodes)
next_taken v i l = record {
  new = taken_has v.nodes (i + 1) i (omega arith) l;
  old = λ x o. let t = taken_at v.nodes i x o in let a : t.0 < i = t.1 in subst (λ z. 1 ≤ occurs (take (i + 1) v.nodes) z) t.3 (taken_has v.nodes (i + 1) t.0 (omega arith) t.2);
  only = λ x o. let t = taken_at v.nodes (i + 1) x o in let a : t.0 < i + 1 = t.1 in
      elim (cases_eq t.0 i) [
        | inl e ↦ inl (sym t.3 ∙ ap (λ z. get_or v.nodes z none) e)
        | inr ne ↦ inr (subst (λ z. 1 ≤ occurs (take i v.nodes) z) t.3 (taken_has v.nodes i t.0 (omega arith) t.2))
      ];
}

-- once it is applied, the next node may be treated
pub applied_next : (t : Template) {f g : Layout} {v w : Marks} {row : List ℕ} {q i : ℕ} {place : ℕ → ℕ} (h : Layout) (u : Marks) (a : ℕ) → AtPlace f v row q i place g w → IsFit f v (node_in v i) false t → IsLayout h →
    IsTreated g h w u (node_in v i) a → Becomes t g h w u (node_in v i) a → AtStep f v row q (i + 1) (placed place (node_in v i) a) h u
applied_next t {f = f} {g = g} {v = v} {w = w} {row = row} {q = q} {i = i} {place = place} h u a p fit hl treated becomes =
    let n : ℕ = node_in v i in
    let standing : IsStanding f (take i v.nodes) n = node_stands p.step.ground i p.some p.not_top in
    let some : label_at v n ≢ Empty = node_labelled p.step.ground i p.some in
    let at_n : IsAtOrAbove f.slots q n = labelled_below p.step.ground n some in
    let c : ChildrenNow f v row g w (children_at f n) (map place (children_at f n)) = now_at p in
    let e : map place (children_at f n) ≡ children_at g n = sym (p.step.applied.children n standing) in
    let s : AtAnswer f g h v w u row (take i v.nodes) place n a c = record {
      at = record {
        layout = p.step.ground.layout;
        two = p.step.ground.two;
        is_row = p.step.ground.is_row;
        leaves = λ x o. row_leaf p.step.ground x o;
        right = right_at p.step.ground n some p.not_top;
        some = some;
        labels = c.labels;
        marked = c.marked;
      };
      g_layout = p.step.g_layout;
      before = p.step.applied;
      standing = standing;
      treated = treated;
    } in
    let r : Stepping f g h v w u row (take i v.nodes) (take (i + 1) v.nodes) place n a = record {
      f_layout = p.step.ground.layout;
      g_layout = p.step.g_layout;
      h_layout = hl;
      before = p.step.applied;
      standing = standing;
      inner = λ z. p.not_top (sym z ∙ sym (top_alone f q f.root p.step.ground.layout.root_top (subst (λ y. IsAtOrAbove f.slots q y) (sym z) at_n)));
      treated = treated;
      next = next_taken v i p.some;
      answered = answered t s (fit c.ps c.marked)
          (becomes c.ps (subst (λ z. map mark_of c.ps ≡ map (label_at w) z) e c.marked_now) (subst (λ z. AreShapesAt g w z c.ps) e c.shapes));
    } in
    record {
      ground = p.step.ground;
      g_layout = hl;
      applied = applied_step r;
      below = λ y o. elim ((next_taken v i p.some).only y o) [ inl z ↦ (λ b. p.not_top (sym z ∙ b)) | inr z ↦ p.step.below y z ];
    }
