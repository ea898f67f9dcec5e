-- A row whose leaves fill some children of a P-node: P2 makes the reduced tree.
use Rattle.std.proofs.Common.{◌≡◌, ◌≢◌, ℕ, ◌+◌, ◌*◌, ◌≤◌, true, List, [], length, sym, subst, arith}
use Rattle.std.proofs.lemmas.List.{length-map}
use Rattle.column_order.specs.Orders.{occurs}
use Rattle.row_model.specs.Graph.{row_at}
use Rattle.pq_tree.specs.Amortised.{nodes_met, nodes_met_below_root}
use Rattle.pq_tree.specs.Outline.{Outline}
use Rattle.pq_tree.specs.Nodes.{IsPertinentRoot}
use Rattle.tree_theory.specs.Laws.{RootTurnedLaw}
use Rattle.tree_theory.specs.Templates.{IsP2}
use Rattle.tree_theory.specs.Chosen.{root_p2}
use Rattle.tree_theory.specs.Reduced.{IsRootMade, IsReduced}
use Rattle.tree_theory.specs.declared.reducer.Step.TheVariants.{Taken}
use Rattle.arena_model.specs.declared.Shape.TheVariants.{P}
use Rattle.arena_model.specs.Layout.{Layout, children_at, IsLayout, here, down}
use Rattle.arena_model.specs.NamedTree.{outline_below, outline_at, HasTwoEach}
use Rattle.arena_model.specs.RowLeaves.{Holds}
use Rattle.arena_model.proofs.Slots.{used_by}
use Rattle.pq_arena.specs.declared.node.NodeId.{NodeId}
use Rattle.pq_arena.specs.RowNodes.{column_leaves, indices}
use Rattle.full_pass.specs.Answer.{IsFilledPart, IsGroup, IsRowKept}
use Rattle.template_model.specs.Standing.{child_trees}
use Rattle.template_model.specs.Treated.{IsReplacedAt, StandsForTree}
use Rattle.templates_p.specs.Members.{AreMembers, member_labels}
use Rattle.row_reduce.specs.InPlace.{IsInPlace}
use Rattle.row_reduce.specs.Outcome.{IsOutcome}
use Rattle.row_reduce.proofs.AtRoot.{first_leaf}
use Rattle.row_reduce.proofs.FilledPart.{part_used, part_not_full, member_full, part_labels, few_members}
use Rattle.row_reduce.proofs.InPlace.{in_place, least_of}
use Rattle.row_reduce.proofs.Kept.{IsAsked, none_holds, root_reduced}
use Rattle.row_reduce.proofs.Labelling.{below_p}
use Rattle.arena_model.proofs.Nodes.{root_is}
use Rattle.row_model.proofs.Ascending.{row_within}
use Rattle.row_reduce.proofs.Whole.{whole_p}
use Rattle.row_reduce.proofs.RowDone.{MetLaw, IsRowOver, Few, FewBelow, row_over_arena, met_most, met_below}

-- the full pass found a group of children of the P-node n
pub group_members : (f : Layout) (row : List ℕ) (n : ℕ) (ms : List ℕ) → IsGroup f row n ms → AreMembers f n ms
group_members f row n ms g = record { is_p = g.is_p; once = g.once; child = g.child; two = g.two; not_all = g.not_all }

-- the members are full, and the other children empty
pub group_part : (f : Layout) (row : List ℕ) (n : ℕ) (ms : List ℕ) → IsGroup f row n ms → IsFilledPart f row n ms
group_part f row n ms g = record { is_p = g.is_p; once = g.once; child = g.child; some = omega (arith, g.two); not_all = g.not_all; filled = g.below.filled; others = g.others }

module _ (f : Layout) (row : List ℕ) (n : ℕ) (ms : List ℕ) (s : IsAsked f row) (g : IsGroup f (column_leaves row) n ms) where
  part : IsFilledPart f (column_leaves row) n ms
  part = group_part f (column_leaves row) n ms g

  holds : Holds f (column_leaves row) n
  holds x o = let k = g.below.covers x o in down n k.0 x (g.child k.0 k.1) k.2

  no_child : (k : ℕ) → 1 ≤ occurs (children_at f n) k → Holds f (column_leaves row) k → ⊥
  no_child = none_holds s n ms g.two g.once (λ k o. (g.child k o, member_full f row n ms s part k o))

  pub is_root : IsPertinentRoot row (outline_at f) (outline_below f n)
  is_root = root_is f row n s.layout s.one (row_within f.columns row s.is_row) (part_used f row n ms s part) holds no_child

  -- the row is reduced in place where that node stays one
  pub group_in_place : (h : Layout) → IsLayout h → IsReplacedAt f h n n → IsInPlace (column_leaves row) f h
  group_in_place h hl r =
      in_place (column_leaves row) (record { f_layout = s.layout; h_layout = hl; used = part_used f row n ms s part; root = r.root; outside = r.outside })
      (least_of (column_leaves row) s.leaf s.layout s.in_row holds no_child)

  -- the tree doesn't keep the row
  pub group_moves : IsRowKept f (column_leaves row) → ⊥
  group_moves kept =
      part_not_full f row n ms s part (whole_p s.layout kept s.leaf s.in_row n g.is_p holds no_child)

  made : (u : Outline) → IsP2 true (child_trees f n) (member_labels ms (children_at f n)) u → IsRootMade row (outline_below f n) u
  made u is = subst (λ z. IsRootMade row z u) (sym (below_p f n s.layout g.is_p)) (member_labels ms (children_at f n), part_labels f row n ms s part, root_p2 u is)

  pub group_reduced : (h : Layout) → RootTurnedLaw → IsLayout h → IsReplacedAt f h n n →
      ((u : Outline) × IsP2 true (child_trees f n) (member_labels ms (children_at f n)) u × StandsForTree h n u) → IsReduced row (outline_at f) (outline_at h)
  group_reduced h law hl r p2 =
      root_reduced s n (part_used f row n ms s part) is_root h law hl r p2.0 (made p2.0 p2.1) p2.2

pub asked : {f : Layout} {c : ℕ} {rows : List (List ℕ)} {k : ℕ} {row : List ℕ} → IsRowOver f c rows k row → HasTwoEach f → row_at rows k ≢ [] → IsAsked f (row_at rows k)
asked {rows = rows} {k = k} s two some = let x = first_leaf (row_at rows k) some in
    record { layout = s.layout; one = s.can.one; two = two; is_row = row_over_arena s; leaf = x.0; in_row = x.1 }

-- the group, by another name of its list
pub group_named : {f : Layout} {xs : List ℕ} {n : ℕ} {ms ks : List NodeId} → ms ≡ ks → IsGroup f xs n (indices ks) → IsGroup f xs n (indices ms)
group_named {f = f} {xs = xs} {n = n} e g = subst (λ ks. IsGroup f xs n (indices ks)) (sym e) g

-- the row of a group is taken
pub group_taken : {f : Layout} {c : ℕ} {rows : List (List ℕ)} {k : ℕ} {row : List ℕ} → IsRowOver f c rows k row → HasTwoEach f → row_at rows k ≢ [] → RootTurnedLaw → (n : ℕ) (ms : List ℕ) →
    IsGroup f (column_leaves (row_at rows k)) n ms → (h : Layout) → IsLayout h → IsReplacedAt f h n n →
    ((u : Outline) × IsP2 true (child_trees f n) (member_labels ms (children_at f n)) u × StandsForTree h n u) → IsOutcome (row_at rows k) f h Taken
group_taken {f = f} {rows = rows} {k = k} s two some law n ms g h hl r p2 =
    (group_reduced f (row_at rows k) n ms (asked s two some) g h law hl r p2, r.one, r.columns, group_in_place f (row_at rows k) n ms (asked s two some) g h hl r)

-- the steps of the full pass and of P2
pub group_total : {f : Layout} {c : ℕ} {rows : List (List ℕ)} {k : ℕ} {row : List ℕ} → MetLaw → IsRowOver f c rows k row → HasTwoEach f → row_at rows k ≢ [] → (n : ℕ) (ms : List NodeId) →
    IsGroup f (column_leaves (row_at rows k)) n (indices ms) → (s0 s1 s2 : ℕ) →
    s1 ≤ s0 + 8 * length (row_at rows k) → s2 ≡ s1 + 2 * length ms + 2 → Few f (row_at rows k) s0 s2
group_total {f = f} {rows = rows} {k = k} law s two some n ms g s0 s1 s2 x y =
    let a : length (indices ms) ≤ nodes_met (row_at rows k) (outline_at f) =
    few_members f (row_at rows k) n (indices ms) (asked s two some) (group_part f (column_leaves (row_at rows k)) n (indices ms) g) f.root (nodes_met (row_at rows k) (outline_at f)) (s.can.one n (used_by f n P g.is_p)) (met_most law s) in
    let b : length (indices ms) ≡ length ms = length-map ms (λ m. m.index) in
    omega arith

-- and counted below the root
pub group_below : {f : Layout} {c : ℕ} {rows : List (List ℕ)} {k : ℕ} {row : List ℕ} → MetLaw → IsRowOver f c rows k row → HasTwoEach f → row_at rows k ≢ [] → (n : ℕ) (ms : List NodeId) →
    IsGroup f (column_leaves (row_at rows k)) n (indices ms) → (s0 s1 s2 : ℕ) →
    s1 ≤ s0 + 8 * length (row_at rows k) → s2 ≡ s1 + 2 * length ms + 2 → FewBelow f (row_at rows k) s0 s2
group_below {f = f} {rows = rows} {k = k} law s two some n ms g s0 s1 s2 x y =
    let a : length (indices ms) ≤ nodes_met_below_root (row_at rows k) (outline_at f) =
    few_members f (row_at rows k) n (indices ms) (asked s two some) (group_part f (column_leaves (row_at rows k)) n (indices ms) g) n (nodes_met_below_root (row_at rows k) (outline_at f)) (here n)
    (met_below law s some n (used_by f n P g.is_p) (is_root f (row_at rows k) n (indices ms) (asked s two some) g)) in
    let b : length (indices ms) ≡ length ms = length-map ms (λ m. m.index) in
    omega arith
