-- A row that the tree keeps: each node that meets it and doesn't hold it is full, and so is a P-node that holds it with no child that does.
use Rattle.std.proofs.Common.{◌≡◌, ◌≢◌, inl, inr, ℕ, ◌≤◌, List, ◌++◌, Some, refl, sym, ap, subst, ◌∙◌, arith}
use Rattle.std.proofs.lemmas.Bool.{cases_eq}
use Rattle.column_order.specs.Orders.{occurs}
use Rattle.column_order.proofs.Lists.{occurs-append}
use Rattle.arena_model.specs.declared.Shape.TheVariants.{P, Q}
use Rattle.arena_model.specs.Layout.{Layout, shape_at, children_at, IsInUse, IsLayout, IsAtOrAbove, down}
use Rattle.arena_model.specs.NamedTree.{HasTwoEach}
use Rattle.arena_model.specs.RowLeaves.{Holds, Meets}
use Rattle.arena_model.proofs.Outlines.{first_step}
use Rattle.arena_model.proofs.Paths.{above_ends, above_step, at_once, by, one_parent, one_path}
use Rattle.arena_model.proofs.Slots.{child_used}
use Rattle.arena_model.proofs.Trees.{no_circle}
use Rattle.pq_arena.specs.RowNodes.{column_leaves}
use Rattle.bubble_pass.specs.declared.labels.Label.{Label as Mark}
use Rattle.bubble_pass.specs.declared.labels.Label.TheVariants.{Empty, Partial, Full}
use Rattle.bubble_pass.specs.Marks.{Marks, label_at}
use Rattle.bubble_pass.specs.Sweep.{IsRight}
use Rattle.full_pass.specs.Answer.{IsFullNode, AreBelow, IsRowKept, one_node, one_run}
use Rattle.template_model.proofs.Replaced.{join_paths}
use Rattle.row_reduce.specs.Ground.{IsGround}
use Rattle.row_reduce.specs.Still.{IsStill}
use Rattle.row_reduce.proofs.Answering.{meets_row}
use Rattle.row_reduce.proofs.Grounds.{labelled_below, right_at, right_child}
use Rattle.row_reduce.proofs.Kept.{both_above}
use Rattle.row_reduce.proofs.Leaves.{LeafBelow, leaf_below}
use Rattle.row_reduce.proofs.Marking.{AreRight}

-- the leaf x of the row is below the full node k, and each node above k holds the row
record Cover (f : Layout) (row : List ℕ) (x : ℕ) : Type 0 where
  k : ℕ
  full : IsFullNode f row k
  above : IsAtOrAbove f.slots k x
  up : (m : ℕ) → IsAtOrAbove f.slots m k → m ≢ k → Holds f row m

-- one of the run is a child
run_child : (f : Layout) (q : ℕ) (us ks vs : List ℕ) → children_at f q ≡ us ++ (ks ++ vs) → (k : ℕ) → 1 ≤ occurs ks k → 1 ≤ occurs (children_at f q) k
run_child f q us ks vs e k o =
    let c : occurs (children_at f q) k ≡ occurs (us ++ (ks ++ vs)) k = ap (λ z. occurs z k) e in
    omega (arith, occurs-append us (ks ++ vs) k, occurs-append ks vs k)

run_holds : (f : Layout) (row : List ℕ) (q : ℕ) (us ks vs : List ℕ) → children_at f q ≡ us ++ (ks ++ vs) → AreBelow f row ks → Holds f row q
run_holds f row q us ks vs e b y oy = let d = b.covers y oy in down q d.0 y (run_child f q us ks vs e d.0 d.1) d.2

-- a node above a child, but for the child, is at or above its parent
above_parent : (f : Layout) (q k m : ℕ) → IsLayout f → 1 ≤ occurs (children_at f q) k → IsAtOrAbove f.slots m k → m ≢ k → IsAtOrAbove f.slots m q
above_parent f q k m h o l ne = elim (above_ends f.slots m k l) [
  | at_once e ↦ absurd (ne e)
  | by p lp op ↦ subst (λ z. IsAtOrAbove f.slots m z) (one_parent f p q k h op o) lp
]

cover : {f : Layout} {row : List ℕ} → IsLayout f → IsRowKept f row → (x : ℕ) → 1 ≤ occurs row x → Cover f row x
cover {f = f} {row = row} h (one_node n full holds) x o = record {
  k = n;
  full = full;
  above = holds x o;
  up = λ m l ne y oy. join_paths f.slots m n y l (holds y oy);
}
cover {f = f} {row = row} h (one_run q us ks vs is_q e b) x o =
    let c = b.covers x o in
    record {
      k = c.0;
      full = b.filled c.0 c.1;
      above = c.2;
      up = λ m l ne y oy. join_paths f.slots m q y (above_parent f q c.0 m h (run_child f q us ks vs e c.0 c.1) l ne) (run_holds f row q us ks vs e b y oy);
    }

-- a node below a full one is full
full_under : (f : Layout) (row : List ℕ) (k m : ℕ) → IsFullNode f row k → IsAtOrAbove f.slots k m → IsFullNode f row m
full_under f row k m full l y leaf ly = full y leaf (join_paths f.slots k m y l ly)

pub full_below : {f : Layout} {row : List ℕ} → IsLayout f → IsRowKept f row → (m : ℕ) → Meets f row m → (Holds f row m → ⊥) → IsFullNode f row m
full_below {f = f} {row = row} h kept m meets lacks =
    let c : Cover f row meets.0 = cover h kept meets.0 meets.1 in
    elim (one_path f c.k m meets.0 h c.above meets.2) [
      | inl l ↦ full_under f row c.k m c.full l
      | inr l ↦ elim (cases_eq m c.k) [
        | inl e ↦ subst (λ z. IsFullNode f row z) (sym e) c.full
        | inr ne ↦ absurd (lacks (c.up m l ne))
      ]
    ]

-- where a node that holds the row is below q, it is q, since no child of q holds the row
only_root : (f : Layout) (row : List ℕ) (q n : ℕ) → ((k : ℕ) → 1 ≤ occurs (children_at f q) k → Holds f row k → ⊥) → Holds f row n → IsAtOrAbove f.slots q n → n ≡ q
only_root f row q n least holds l = elim (first_step f.slots q n l) [
  | inl e ↦ e
  | inr s ↦ absurd (least s.0 s.1 (λ y oy. join_paths f.slots s.0 n y s.2 (holds y oy)))
]

pub whole_p : {f : Layout} {row : List ℕ} → IsLayout f → IsRowKept f row → (x : ℕ) → 1 ≤ occurs row x → (q : ℕ) → shape_at f q ≡ Some P → Holds f row q →
    ((k : ℕ) → 1 ≤ occurs (children_at f q) k → Holds f row k → ⊥) → IsFullNode f row q
whole_p {f = f} {row = row} h (one_node n full holds) x o q is_p root least = elim (one_path f n q x h (holds x o) (root x o)) [
  | inl l ↦ full_under f row n q full l
  | inr l ↦ subst (λ z. IsFullNode f row z) (only_root f row q n least holds l) full
]
whole_p {f = f} {row = row} h (one_run n us ks vs is_q e b) x o q is_p root least =
    let holds : Holds f row n = run_holds f row n us ks vs e b in
    elim (one_path f n q x h (holds x o) (root x o)) [
      | inl l ↦ elim (first_step f.slots n q l) [
        | inl same ↦ absurd (other same)
        | inr s ↦
            let c = b.covers x o in
            elim (cases_eq c.0 s.0) [
              | inl same ↦ full_under f row c.0 q (b.filled c.0 c.1) (subst (λ z. IsAtOrAbove f.slots z q) (sym same) s.2)
              | inr ne ↦ absurd (both_above f n c.0 s.0 x h (run_child f n us ks vs e c.0 c.1) s.1 c.2 (join_paths f.slots s.0 q x s.2 (root x o)) ne)
            ]
      ]
      | inr l ↦ absurd (other (sym (only_root f row q n least holds l)))
    ]
  where
    other : q ≡ n → ⊥
    other same = let z : Some P ≡ Some Q = sym is_p ∙ ap (shape_at f) same ∙ is_q in cc

-- the label of a full node
full_mark : (f : Layout) (row : List ℕ) (k : ℕ) (m : Mark) → IsLayout f → HasTwoEach f → IsInUse f k → IsFullNode f row k → IsRight f row k m → m ≡ Full
full_mark f row k Empty h two used full right = let l : LeafBelow f k = leaf_below f k h two used in absurd (right l.x l.below (full l.x (l.column, l.leaf) l.below))
full_mark f row k Partial h two used full right =
    let out = right.1 in
    let z : occurs row out.0 ≡ 0 = out.4 in
    let y : 1 ≤ occurs row out.0 = full out.0 (out.1, out.3) out.2 in
    absurd (omega arith)
full_mark f row k Full h two used full right = refl

-- the pertinent root q of a row that the tree keeps, with the marks of a pass
pub record IsKeptRoot (f : Layout) (v : Marks) (row : List ℕ) (q : ℕ) : Type 0 where
  pub ground : IsGround f v row q
  pub kept : IsRowKept f (column_leaves row)
  pub leaf : ℕ
  pub in_row : 1 ≤ occurs (column_leaves row) leaf
  pub holds : Holds f (column_leaves row) q
  pub least : (k : ℕ) → 1 ≤ occurs (children_at f q) k → Holds f (column_leaves row) k → ⊥

module _ {f : Layout} {v : Marks} {row : List ℕ} {q : ℕ} (s : IsKeptRoot f v row q) where
  g : IsGround f v row q
  g = s.ground

  -- no node below the root holds the row
  no_holder : (n : ℕ) → IsAtOrAbove f.slots q n → n ≢ q → Holds f (column_leaves row) n → ⊥
  no_holder n l ne holds = ne (only_root f (column_leaves row) q n s.least holds l)

  child_not : (n k : ℕ) → IsAtOrAbove f.slots q n → 1 ≤ occurs (children_at f n) k → k ≢ q
  child_not n k l o e = no_circle f.slots n k (g.layout.grounds n) o (subst (λ z. IsAtOrAbove f.slots z n) (sym e) l)

  no_partial : (n k : ℕ) → IsAtOrAbove f.slots q n → 1 ≤ occurs (children_at f n) k → label_at v k ≢ Partial
  no_partial n k l o e =
      let right : IsRight f (column_leaves row) k Partial = subst (λ z. IsRight f (column_leaves row) k z) e (right_child g n k l o) in
      let meets : Meets f (column_leaves row) k = (right.0.0, right.0.2, right.0.1) in
      let full : IsFullNode f (column_leaves row) k = full_below g.layout s.kept k meets (no_holder k (above_step f.slots q n k l o) (child_not n k l o)) in
      let is : Partial ≡ Full = full_mark f (column_leaves row) k Partial g.layout g.two (child_used f n k g.layout o) full right in
      absurd (cc)

  full_kids : (n k : ℕ) → IsAtOrAbove f.slots q n → IsFullNode f (column_leaves row) n → 1 ≤ occurs (children_at f n) k → label_at v k ≡ Full
  full_kids n k l full o =
      full_mark f (column_leaves row) k (label_at v k) g.layout g.two (child_used f n k g.layout o) (λ y leaf ly. full y leaf (down n k y o ly)) (right_child g n k l o)

  -- no template changes the root
  pub still_root : IsAtOrAbove f.slots q q → IsStill f v q
  still_root l = record {
    plain = λ k o. no_partial q k l o;
    whole = λ is_p k o. full_kids q k l (whole_p g.layout s.kept s.leaf s.in_row q is_p s.holds s.least) o;
  }

  -- nor a labelled node below it
  pub still_below : (n : ℕ) → label_at v n ≢ Empty → n ≢ q → IsStill f v n
  still_below n some ne =
      let l : IsAtOrAbove f.slots q n = labelled_below g n some in
      let r : AreRight f (column_leaves row) (label_at v) n = right_at g n some ne in
      let m = meets_row f (column_leaves row) n (label_at v n) g.layout g.two r.used r.own some in
      record {
        plain = λ k o. no_partial n k l o;
        whole = λ is_p k o. full_kids n k l (full_below g.layout s.kept n (m.0, m.2, m.1) (no_holder n l ne)) o;
      }
