-- A row whose leaves fill a run of children of a Q-node and some children of a P-node beside it: P3 at the P-node, and
-- Q2 or Q3 at the Q-node, make the reduced tree.
use Rattle.std.proofs.Common.{◌≡◌, ◌≢◌, inl, inr, ℕ, ◌+◌, ◌*◌, ◌≤◌, List, [], ◌∷◌, ◌++◌, length, Some, None, sym, ap, subst, ◌∙◌, arith}
use Rattle.std.proofs.lemmas.Bool.{cases_lt}
use Rattle.std.proofs.lemmas.List.{length-map}
use Rattle.column_order.specs.Orders.{occurs}
use Rattle.column_order.proofs.Lists.{occurs-append}
use Rattle.row_model.specs.Graph.{row_at}
use Rattle.row_model.proofs.Ascending.{row_within}
use Rattle.pq_tree.specs.Amortised.{nodes_met, nodes_met_below_root}
use Rattle.pq_tree.specs.Outline.{Outline, q_node}
use Rattle.pq_tree.specs.Nodes.{IsPertinentRoot}
use Rattle.tree_theory.specs.Laws.{RootTurnedLaw}
use Rattle.tree_theory.specs.Templates.{Partial, Label, empty_label, full_label, partial_label, p3, q3}
use Rattle.tree_theory.specs.Chosen.{IsRootOfQ}
use Rattle.tree_theory.specs.Reduced.{IsLabel, AreLabels, IsRootMade, IsReduced}
use Rattle.tree_theory.specs.declared.reducer.Step.TheVariants.{Taken}
use Rattle.arena_model.specs.declared.Shape.TheVariants.{Q}
use Rattle.arena_model.specs.Layout.{Layout, children_at, IsInUse, IsLayout, IsAtOrAbove, here, down}
use Rattle.arena_model.specs.NamedTree.{outline_below, outline_at, HasTwoEach}
use Rattle.arena_model.specs.RowLeaves.{Holds}
use Rattle.arena_model.proofs.Lists.{occurs_here}
use Rattle.arena_model.proofs.Nodes.{root_is}
use Rattle.arena_model.proofs.Slots.{child_used, used_by}
use Rattle.pq_arena.specs.declared.node.NodeId.{NodeId}
use Rattle.pq_arena.specs.RowNodes.{column_leaves, indices}
use Rattle.bubble_pass.specs.declared.labels.Label.TheVariants.{Full}
use Rattle.bubble_pass.specs.Fair.{AtMost}
use Rattle.bubble_pass.specs.Sweep.{IsRight}
use Rattle.full_pass.specs.Answer.{IsBesideRun, IsRowKept}
use Rattle.template_model.specs.Standing.{child_trees}
use Rattle.template_model.specs.Treated.{IsReplacedAt}
use Rattle.template_model.proofs.Replaced.{join_paths}
use Rattle.templates_p.specs.Dividing.{AreSome, CanDivide, IsDivided}
use Rattle.templates_p.specs.Members.{member_labels}
use Rattle.row_reduce.specs.InPlace.{IsInPlace}
use Rattle.row_reduce.specs.Outcome.{IsOutcome}
use Rattle.row_reduce.proofs.Blocks.{trees_at, labels_for, labels_each, labels_then, front_labels, front_made, rear_labels, rear_made}
use Rattle.row_reduce.proofs.Divided.{IsDone, can_before, can_behind, divided_before, divided_behind, front_turned, rear_turned, sibling_kept, q_turned}
use Rattle.row_reduce.proofs.FilledPart.{PartsOf, some_member, part_meets, part_not_full, part_label, parts_of, few_members}
use Rattle.row_reduce.proofs.GroupDone.{asked}
use Rattle.row_reduce.proofs.InPlace.{in_place, least_of}
use Rattle.row_reduce.proofs.Kept.{IsAsked, once, full_is, full_meets, both_above, two_meet, root_reduced}
use Rattle.row_reduce.proofs.Labelling.{below_q}
use Rattle.row_reduce.proofs.Leaves.{empty_is}
use Rattle.row_reduce.proofs.Whole.{full_below}
use Rattle.row_reduce.proofs.RowDone.{MetLaw, IsRowOver, Few, FewBelow, met_most, met_below}

-- the full pass found some children of the P-node n
pub beside_some : (f : Layout) (row : List ℕ) (n t : ℕ) (ms : List ℕ) → IsBesideRun f row n t ms → AreSome f n ms
beside_some f row n t ms b = record { is_p = b.part.is_p; once = b.part.once; child = b.part.child; some = b.part.some; not_all = b.part.not_all }

-- and that n stands beside t
pub beside_place : (f : Layout) (row : List ℕ) (n t : ℕ) (ms : List ℕ) → IsBesideRun f row n t ms → CanDivide f n t
beside_place f row n t ms b = elim b.place [
  | inl p ↦ can_before b.q b.us b.ks b.vs b.is_q b.some p.1 p.0
  | inr p ↦ can_behind b.q b.us b.ks b.vs b.is_q b.some p.1 p.0
]

module _ (f : Layout) (row : List ℕ) (n t : ℕ) (ms : List ℕ) (s : IsAsked f row) (b : IsBesideRun f (column_leaves row) n t ms) where
  used : IsInUse f b.q
  used = used_by f b.q Q b.is_q

  -- the children of the Q-node, counted
  counted : (k : ℕ) → occurs (children_at f b.q) k ≡ occurs b.us k + (occurs (n ∷ []) k + (occurs b.ks k + occurs b.vs k))
  counted k = elim b.place [
    | inl p ↦ let e : occurs (children_at f b.q) k ≡ occurs (b.us ++ (n ∷ (b.ks ++ b.vs))) k = ap (λ z. occurs z k) p.0 in omega (arith, occurs-append b.us (n ∷ (b.ks ++ b.vs)) k, occurs-append b.ks b.vs k)
    | inr p ↦
        let e : occurs (children_at f b.q) k ≡ occurs (b.us ++ (b.ks ++ (n ∷ b.vs))) k = ap (λ z. occurs z k) p.0 in
        omega (arith, occurs-append b.us (b.ks ++ (n ∷ b.vs)) k, occurs-append b.ks (n ∷ b.vs) k)
  ]

  n_in : 1 ≤ occurs (children_at f b.q) n
  n_in = omega (arith, counted n, occurs_here n [])

  run_in : (k : ℕ) → 1 ≤ occurs b.ks k → 1 ≤ occurs (children_at f b.q) k
  run_in k o = omega (arith, counted k)

  -- each child but n stands elsewhere
  other : (k : ℕ) → 1 ≤ occurs b.us k + (occurs b.ks k + occurs b.vs k) → k ≢ n
  other k o e =
      let z : occurs (children_at f b.q) k ≤ 1 = once f b.q k s.layout in
      let y : 1 ≤ occurs (n ∷ []) k = subst (λ i. 1 ≤ occurs (n ∷ []) i) (sym e) (occurs_here n []) in
      absurd (omega (arith, counted k))

  run_full : (k : ℕ) → 1 ≤ occurs b.ks k → IsRight f (column_leaves row) k Full
  run_full k o x a l e = b.filled k o x (a, e) l

  -- a leaf of the row is below n or below one of the run
  holder : (x : ℕ) → 1 ≤ occurs (column_leaves row) x → (k : ℕ) × (1 ≤ occurs (n ∷ b.ks) k) × IsAtOrAbove f.slots k x
  holder x o =
      let c = b.covers x o in
      let oc : 1 ≤ occurs (ms ++ b.ks) c.0 = c.1 in
      elim (cases_lt 0 (occurs ms c.0)) [
        | inl l ↦ (n, occurs_here n b.ks, down n c.0 x (b.part.child c.0 l) c.2)
        | inr l ↦ (c.0, omega (arith, occurs-append ms b.ks c.0), c.2)
      ]

  holder_in : (k : ℕ) → 1 ≤ occurs (n ∷ b.ks) k → 1 ≤ occurs (children_at f b.q) k
  holder_in k o = omega (arith, counted k)

  holds : Holds f (column_leaves row) b.q
  holds x o = let k = holder x o in down b.q k.0 x (holder_in k.0 k.1) k.2

  no_child : (k : ℕ) → 1 ≤ occurs (children_at f b.q) k → Holds f (column_leaves row) k → ⊥
  no_child =
      let k = some_member b.ks b.some in
      let o : 1 ≤ occurs b.ks k.0 = k.1 in
      two_meet s b.q k.0 n (run_in k.0 o) n_in (other k.0 (omega arith)) (full_meets s k.0 (child_used f b.q k.0 s.layout (run_in k.0 o)) (run_full k.0 o)) (part_meets f row n ms s b.part)

  pub beside_root : IsPertinentRoot row (outline_at f) (outline_below f b.q)
  beside_root = root_is f row b.q s.layout s.one (row_within f.columns row s.is_row) used holds no_child

  -- the row is reduced in place where the Q-node stays one
  pub beside_in_place : (h : Layout) → IsLayout h → IsReplacedAt f h b.q b.q → IsInPlace (column_leaves row) f h
  beside_in_place h hl r =
      in_place (column_leaves row) (record { f_layout = s.layout; h_layout = hl; used = used; root = r.root; outside = r.outside })
      (least_of (column_leaves row) s.leaf s.layout s.in_row holds no_child)

  -- the tree doesn't keep the row
  pub beside_moves : IsRowKept f (column_leaves row) → ⊥
  beside_moves kept =
      let k = some_member b.ks b.some in
      let o : 1 ≤ occurs b.ks k.0 = k.1 in
      let m = full_meets s k.0 (child_used f b.q k.0 s.layout (run_in k.0 o)) (run_full k.0 o) in
      part_not_full f row n ms s b.part (full_below s.layout kept n (part_meets f row n ms s b.part)
      (two_meet s b.q k.0 n (run_in k.0 o) n_in (other k.0 (omega arith)) m (part_meets f row n ms s b.part) n n_in))

  full : (k : ℕ) → 1 ≤ occurs b.ks k → IsLabel row (outline_below f k) full_label
  full k o = full_is f row k s.layout s.is_row (child_used f b.q k s.layout (run_in k o)) (run_full k o)

  empty : (k : ℕ) → 1 ≤ occurs b.us k + occurs b.vs k → IsLabel row (outline_below f k) empty_label
  empty k o =
      let ok : 1 ≤ occurs (children_at f b.q) k = omega (arith, counted k) in
      empty_is f row k s.layout s.is_row (child_used f b.q k s.layout ok) (λ x lx ox.
      let j = holder x ox in
      let oj : 1 ≤ occurs (n ∷ b.ks) j.0 = j.1 in
      both_above f b.q j.0 k x s.layout (holder_in j.0 oj) ok j.2 lx (λ e.
      let z : occurs (children_at f b.q) k ≤ 1 = once f b.q k s.layout in
      let y : 1 ≤ occurs (n ∷ b.ks) k = subst (λ w. 1 ≤ occurs (n ∷ b.ks) w) e oj in
      absurd (omega (arith, counted k))))

  abbrev p : PartsOf (child_trees f n) (member_labels ms (children_at f n))
  p = parts_of f row n ms s b.part

  abbrev h3 : Partial
  h3 = p3 p.es p.fs

  made : (cs : List ℕ) (ps : List Label) (y : Outline) → children_at f b.q ≡ cs → AreLabels row (trees_at (outline_below f) cs) ps → IsRootOfQ (trees_at (outline_below f) cs) ps y → IsRootMade row (outline_below f b.q) y
  made cs ps y e labels root = subst (λ z. IsRootMade row z y) (sym (below_q f b.q s.layout b.is_q ∙ ap (λ z. q_node (trees_at (outline_below f) z)) e)) (ps, labels, root)

  module _ (h : Layout) (law : RootTurnedLaw) (hl : IsLayout h) where
    front : children_at f b.q ≡ b.us ++ (n ∷ (b.ks ++ b.vs)) → IsDivided f h b.q n ms (λ r g. b.us ++ (r ∷ (g ∷ (b.ks ++ b.vs)))) → IsReduced row (outline_at f) (outline_at h)
    front e d =
        root_reduced s b.q used beside_root h law hl d.replaced (q_node (q3 (trees_at (outline_below f) b.us) (Some h3) (trees_at (outline_below f) b.ks) None (trees_at (outline_below f) b.vs)))
        (made (b.us ++ (n ∷ (b.ks ++ b.vs))) (front_labels h3 b.us b.ks b.vs) _ e
        (labels_then row (outline_below f) empty_label b.us (n ∷ (b.ks ++ b.vs)) (partial_label h3 ∷ (labels_for full_label b.ks ++ labels_for empty_label b.vs)) (λ k o. empty k (omega arith))
        (part_label f row n ms s b.part, labels_then row (outline_below f) full_label b.ks b.vs (labels_for empty_label b.vs) full (labels_each row (outline_below f) empty_label b.vs (λ k o. empty k (omega arith)))))
        (front_made (outline_below f) h3 b.us n b.ks b.vs b.some))
        (q_turned h b.q (q3 (trees_at (outline_below f) b.us) (Some h3) (trees_at (outline_below f) b.ks) None (trees_at (outline_below f) b.vs)) (b.us ++ (d.rest ∷ (d.group ∷ (b.ks ++ b.vs)))) hl d.is_q d.children
        (front_turned (outline_below f) (outline_below h) p.es p.fs b.us b.ks b.vs d.rest d.group (λ k o. sibling_kept s.layout hl d k (omega (arith, counted k)) (other k o))
        (d.trees p.es p.fs p.sorted).0 (d.trees p.es p.fs p.sorted).1))

    rear : children_at f b.q ≡ b.us ++ (b.ks ++ (n ∷ b.vs)) → IsDivided f h b.q n ms (λ r g. b.us ++ (b.ks ++ (g ∷ (r ∷ b.vs)))) → IsReduced row (outline_at f) (outline_at h)
    rear e d =
        root_reduced s b.q used beside_root h law hl d.replaced (q_node (q3 (trees_at (outline_below f) b.us) None (trees_at (outline_below f) b.ks) (Some h3) (trees_at (outline_below f) b.vs)))
        (made (b.us ++ (b.ks ++ (n ∷ b.vs))) (rear_labels h3 b.us b.ks b.vs) _ e
        (labels_then row (outline_below f) empty_label b.us (b.ks ++ (n ∷ b.vs)) (labels_for full_label b.ks ++ (partial_label h3 ∷ labels_for empty_label b.vs)) (λ k o. empty k (omega arith))
        (labels_then row (outline_below f) full_label b.ks (n ∷ b.vs) (partial_label h3 ∷ labels_for empty_label b.vs) full (part_label f row n ms s b.part, labels_each row (outline_below f) empty_label b.vs (λ k o. empty k (omega arith)))))
        (rear_made (outline_below f) h3 b.us b.ks n b.vs b.some))
        (q_turned h b.q (q3 (trees_at (outline_below f) b.us) None (trees_at (outline_below f) b.ks) (Some h3) (trees_at (outline_below f) b.vs)) (b.us ++ (b.ks ++ (d.group ∷ (d.rest ∷ b.vs)))) hl d.is_q d.children
        (rear_turned (outline_below f) (outline_below h) p.es p.fs b.us b.ks b.vs d.rest d.group (λ k o. sibling_kept s.layout hl d k (omega (arith, counted k)) (other k o))
        (d.trees p.es p.fs p.sorted).0 (d.trees p.es p.fs p.sorted).1))

    pub beside_reduced : IsDone f h n t ms → IsReduced row (outline_at f) (outline_at h) × IsReplacedAt f h b.q b.q
    beside_reduced done = elim b.place [
      | inl e ↦ let d = divided_before done b.q b.us b.ks b.vs b.is_q b.some e.1 e.0 in (front e.0 d, d.replaced)
      | inr e ↦ let d = divided_behind done b.q b.us b.ks b.vs b.is_q b.some e.1 e.0 in (rear e.0 d, d.replaced)
    ]

  -- no more members than nodes that meet the row
  pub few_beside : (top a : ℕ) → IsAtOrAbove f.slots top b.q → AtMost f (column_leaves row) top a → length ms ≤ a
  few_beside top a l few = few_members f row n ms s b.part top a (join_paths f.slots top b.q n l (down b.q n n n_in (here n))) few

-- what was found, by another name of the list
pub beside_named : {f : Layout} {xs : List ℕ} {n t : ℕ} {ms ks : List NodeId} → ms ≡ ks → IsBesideRun f xs n t (indices ks) → IsBesideRun f xs n t (indices ms)
beside_named {f = f} {xs = xs} {n = n} {t = t} e b = subst (λ ks. IsBesideRun f xs n t (indices ks)) (sym e) b

-- such a row is taken
pub beside_taken : {f : Layout} {c : ℕ} {rows : List (List ℕ)} {k : ℕ} {row : List ℕ} → IsRowOver f c rows k row → HasTwoEach f → row_at rows k ≢ [] → RootTurnedLaw → (n t : ℕ) (ms : List ℕ) →
    IsBesideRun f (column_leaves (row_at rows k)) n t ms → (h : Layout) → IsLayout h → IsDone f h n t ms → IsOutcome (row_at rows k) f h Taken
beside_taken {f = f} {rows = rows} {k = k} s two some law n t ms b h hl done =
    let r = beside_reduced f (row_at rows k) n t ms (asked s two some) b h law hl done in
    (r.0, r.1.one, r.1.columns, beside_in_place f (row_at rows k) n t ms (asked s two some) b h hl r.1)

-- the steps of the full pass and of the division
pub beside_total : {f : Layout} {c : ℕ} {rows : List (List ℕ)} {k : ℕ} {row : List ℕ} → MetLaw → IsRowOver f c rows k row → HasTwoEach f → row_at rows k ≢ [] → (n t : ℕ) (ms : List NodeId) →
    IsBesideRun f (column_leaves (row_at rows k)) n t (indices ms) → (s0 s1 s2 : ℕ) →
    s1 ≤ s0 + 8 * length (row_at rows k) → s2 ≤ s1 + 2 * length ms + 12 → Few f (row_at rows k) s0 s2
beside_total {f = f} {rows = rows} {k = k} law s two some n t ms b s0 s1 s2 x y =
    let a : length (indices ms) ≤ nodes_met (row_at rows k) (outline_at f) =
    few_beside f (row_at rows k) n t (indices ms) (asked s two some) b f.root (nodes_met (row_at rows k) (outline_at f)) (s.can.one b.q (used_by f b.q Q b.is_q)) (met_most law s) in
    let e : length (indices ms) ≡ length ms = length-map ms (λ m. m.index) in
    omega (arith, b.part.some)

-- and counted below the root
pub beside_below : {f : Layout} {c : ℕ} {rows : List (List ℕ)} {k : ℕ} {row : List ℕ} → MetLaw → IsRowOver f c rows k row → HasTwoEach f → row_at rows k ≢ [] → (n t : ℕ) (ms : List NodeId) →
    IsBesideRun f (column_leaves (row_at rows k)) n t (indices ms) → (s0 s1 s2 : ℕ) →
    s1 ≤ s0 + 8 * length (row_at rows k) → s2 ≤ s1 + 2 * length ms + 12 → FewBelow f (row_at rows k) s0 s2
beside_below {f = f} {rows = rows} {k = k} law s two some n t ms b s0 s1 s2 x y =
    let a : length (indices ms) ≤ nodes_met_below_root (row_at rows k) (outline_at f) =
    few_beside f (row_at rows k) n t (indices ms) (asked s two some) b b.q (nodes_met_below_root (row_at rows k) (outline_at f)) (here b.q)
    (met_below law s some b.q (used_by f b.q Q b.is_q) (beside_root f (row_at rows k) n t (indices ms) (asked s two some) b)) in
    let e : length (indices ms) ≡ length ms = length-map ms (λ m. m.index) in
    omega (arith, b.part.some)
