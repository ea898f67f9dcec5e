-- A row whose leaves fill a run of children of a Q-node and some children of a P-node beside each end of it: P3 at both
-- P-nodes, and Q3 at the Q-node, make the reduced tree.
use Rattle.std.proofs.Common.{◌≡◌, ◌≢◌, inl, inr, ℕ, ◌+◌, ◌*◌, ◌≤◌, List, [], ◌∷◌, ◌++◌, length, Some, sym, ap, subst, ◌∙◌, arith}
use Rattle.std.proofs.lemmas.Bool.{cases_lt}
use Rattle.std.proofs.lemmas.List.{append_assoc, length-map}
use Rattle.column_order.specs.Orders.{occurs}
use Rattle.column_order.proofs.Lists.{occurs-append}
use Rattle.row_model.specs.Graph.{row_at}
use Rattle.row_model.proofs.Ascending.{row_within}
use Rattle.pq_tree.specs.Amortised.{nodes_met, nodes_met_below_root}
use Rattle.pq_tree.specs.Outline.{Forest, q_node}
use Rattle.pq_tree.specs.Nodes.{IsPertinentRoot}
use Rattle.pq_tree.specs.Equivalent.{AreEquivalent}
use Rattle.tree_theory.specs.Laws.{RootTurnedLaw}
use Rattle.tree_theory.specs.Templates.{Partial, empty_label, full_label, partial_label, star, p3, q3}
use Rattle.tree_theory.specs.Reduced.{IsLabel, IsRootMade, IsReduced}
use Rattle.tree_theory.specs.declared.reducer.Step.TheVariants.{Taken}
use Rattle.arena_model.specs.declared.Shape.TheVariants.{Q}
use Rattle.arena_model.specs.ChildLists.{head_or, last_or, none}
use Rattle.arena_model.specs.Layout.{Layout, shape_at, children_at, IsInUse, IsLayout, IsAtOrAbove, here, down}
use Rattle.arena_model.specs.NamedTree.{outline_below, outline_at, IsOneTree, HasTwoEach}
use Rattle.arena_model.specs.RowLeaves.{Holds}
use Rattle.arena_model.proofs.Lists.{occurs_here}
use Rattle.arena_model.proofs.Nodes.{root_is}
use Rattle.arena_model.proofs.Slots.{child_used, used_by}
use Rattle.pq_arena.specs.declared.node.NodeId.{NodeId}
use Rattle.pq_arena.specs.RowNodes.{column_leaves, indices}
use Rattle.bubble_pass.specs.declared.labels.Label.TheVariants.{Full}
use Rattle.bubble_pass.specs.Fair.{AtMost}
use Rattle.bubble_pass.specs.Sweep.{IsRight}
use Rattle.full_pass.specs.declared.settled.End.{End}
use Rattle.full_pass.specs.Answer.{IsFullNode, IsFilledPart, IsBetween, IsRowKept}
use Rattle.template_model.specs.Standing.{child_trees}
use Rattle.template_model.specs.Treated.{IsReplacedAt}
use Rattle.template_model.proofs.Replaced.{join_paths}
use Rattle.templates_p.specs.Dividing.{AreSome, CanDivide, IsDivided}
use Rattle.templates_p.specs.Members.{member_labels}
use Rattle.row_reduce.specs.InPlace.{IsInPlace}
use Rattle.row_reduce.specs.Outcome.{IsOutcome, AtFoundBetween}
use Rattle.row_reduce.proofs.AtRoot.{first_leaf}
use Rattle.row_reduce.proofs.Blocks.{trees_at, labels_for, labels_each, labels_then, both_labels, both_made}
use Rattle.row_reduce.proofs.Divided.{IsDone, relisted, can_before, can_behind, divided_before, divided_behind, both_turned, sibling_kept, q_turned}
use Rattle.row_reduce.proofs.Ending.{IsExchanged}
use Rattle.row_reduce.proofs.FilledPart.{PartsOf, part_meets, part_not_full, part_label, parts_of, few_members}
use Rattle.row_reduce.proofs.GroupDone.{asked}
use Rattle.row_reduce.proofs.InPlace.{in_place, least_of}
use Rattle.row_reduce.proofs.Kept.{IsAsked, once, full_is, both_above, two_meet, root_exchanged}
use Rattle.row_reduce.proofs.Labelling.{below_q}
use Rattle.row_reduce.proofs.Leaves.{empty_is}
use Rattle.row_reduce.proofs.Whole.{full_below}
use Rattle.row_reduce.proofs.RowDone.{MetLaw, IsRowOver, Few, FewBelow, met_most, met_below}
use Rattle.row_reduce.proofs.Twice.{exchanged_twice, still_some, still_sorted, still_there}

-- the P-nodes a and b stand before and behind the run ks of children of q; xs and ys are their children with leaves of the row
pub record IsSpan (f : Layout) (row : List ℕ) (a : ℕ) (xs : List ℕ) (b : ℕ) (ys : List ℕ) (q : ℕ) (us ks vs : List ℕ) : Type 0 where
  pub front : IsFilledPart f row a xs
  pub rear : IsFilledPart f row b ys
  pub is_q : shape_at f q ≡ Some Q
  pub children : children_at f q ≡ us ++ (a ∷ (ks ++ (b ∷ vs)))
  pub some : 1 ≤ length ks
  pub filled : (k : ℕ) → 1 ≤ occurs ks k → IsFullNode f row k
  pub covers : (x : ℕ) → 1 ≤ occurs row x → (k : ℕ) × (1 ≤ occurs (a ∷ (b ∷ ks)) k) × IsAtOrAbove f.slots k x

-- in the place of both P-nodes are the trees of their parts, and the rest is as it was
pub record IsSpread (f h : Layout) (q : ℕ) (us ks vs : List ℕ) (es fs xs ys : Forest) : Type 0 where
  pub exchanged : IsExchanged f h q q
  pub is_q : shape_at h q ≡ Some Q
  pub r : ℕ
  pub g : ℕ
  pub j : ℕ
  pub i : ℕ
  pub children : children_at h q ≡ us ++ (r ∷ (g ∷ (ks ++ (j ∷ (i ∷ vs)))))
  pub kept : (k : ℕ) → 1 ≤ occurs us k + (occurs ks k + occurs vs k) → outline_below h k ≡ outline_below f k
  pub rest : AreEquivalent (star es) (outline_below h r ∷ [])
  pub group : AreEquivalent (star fs) (outline_below h g ∷ [])
  pub last_rest : AreEquivalent (star xs) (outline_below h i ∷ [])
  pub last_group : AreEquivalent (star ys) (outline_below h j ∷ [])

module _ (f : Layout) (row : List ℕ) (a : ℕ) (xs : List ℕ) (b : ℕ) (ys : List ℕ) (q : ℕ) (us ks vs : List ℕ) (s : IsAsked f row) (p : IsSpan f (column_leaves row) a xs b ys q us ks vs) where
  used : IsInUse f q
  used = used_by f q Q p.is_q

  -- the children of the Q-node, counted
  counted : (k : ℕ) → occurs (children_at f q) k ≡ occurs us k + (occurs (a ∷ []) k + (occurs ks k + (occurs (b ∷ []) k + occurs vs k)))
  counted k =
      let e : occurs (children_at f q) k ≡ occurs (us ++ (a ∷ (ks ++ (b ∷ vs)))) k = ap (λ z. occurs z k) p.children in
      omega (arith, occurs-append us (a ∷ (ks ++ (b ∷ vs))) k, occurs-append ks (b ∷ vs) k)

  pub front_in : 1 ≤ occurs (children_at f q) a
  front_in = omega (arith, counted a, occurs_here a [])

  pub rear_in : 1 ≤ occurs (children_at f q) b
  rear_in = omega (arith, counted b, occurs_here b [])

  run_in : (k : ℕ) → 1 ≤ occurs ks k → 1 ≤ occurs (children_at f q) k
  run_in k o = omega (arith, counted k)

  pub one_of : (k : ℕ) → 1 ≤ occurs us k + (occurs ks k + occurs vs k) → 1 ≤ occurs (children_at f q) k
  one_of k o = omega (arith, counted k)

  -- each child but the P-nodes stands elsewhere
  pub not_front : (k : ℕ) → 1 ≤ occurs us k + (occurs ks k + occurs vs k) → k ≢ a
  not_front k o e =
      let z : occurs (children_at f q) k ≤ 1 = once f q k s.layout in
      let y : 1 ≤ occurs (a ∷ []) k = subst (λ w. 1 ≤ occurs (a ∷ []) w) (sym e) (occurs_here a []) in
      absurd (omega (arith, counted k))

  pub not_rear : (k : ℕ) → 1 ≤ occurs us k + (occurs ks k + occurs vs k) → k ≢ b
  not_rear k o e =
      let z : occurs (children_at f q) k ≤ 1 = once f q k s.layout in
      let y : 1 ≤ occurs (b ∷ []) k = subst (λ w. 1 ≤ occurs (b ∷ []) w) (sym e) (occurs_here b []) in
      absurd (omega (arith, counted k))

  pub two_nodes : a ≢ b
  two_nodes e =
      let z : occurs (children_at f q) a ≤ 1 = once f q a s.layout in
      let y : 1 ≤ occurs (b ∷ []) a = subst (λ w. 1 ≤ occurs (b ∷ []) w) (sym e) (occurs_here b []) in
      absurd (omega (arith, counted a, occurs_here a []))

  run_full : (k : ℕ) → 1 ≤ occurs ks k → IsRight f (column_leaves row) k Full
  run_full k o x c l e = p.filled k o x (c, e) l

  holder_in : (k : ℕ) → 1 ≤ occurs (a ∷ (b ∷ ks)) k → 1 ≤ occurs (children_at f q) k
  holder_in k o = omega (arith, counted k)

  holds : Holds f (column_leaves row) q
  holds x o = let k = p.covers x o in down q k.0 x (holder_in k.0 k.1) k.2

  no_child : (k : ℕ) → 1 ≤ occurs (children_at f q) k → Holds f (column_leaves row) k → ⊥
  no_child = two_meet s q a b front_in rear_in two_nodes (part_meets f row a xs s p.front) (part_meets f row b ys s p.rear)

  pub span_root : IsPertinentRoot row (outline_at f) (outline_below f q)
  span_root = root_is f row q s.layout s.one (row_within f.columns row s.is_row) used holds no_child

  -- the row is reduced in place where the Q-node stays one
  pub span_in_place : (h : Layout) → IsExchanged f h q q → IsInPlace (column_leaves row) f h
  span_in_place h x = in_place (column_leaves row) x (least_of (column_leaves row) s.leaf s.layout s.in_row holds no_child)

  -- the tree doesn't keep the row
  pub span_moves : IsRowKept f (column_leaves row) → ⊥
  span_moves kept =
      let m = part_meets f row a xs s p.front in
      part_not_full f row a xs s p.front (full_below s.layout kept a m (two_meet s q a b front_in rear_in two_nodes m (part_meets f row b ys s p.rear) a front_in))

  full : (k : ℕ) → 1 ≤ occurs ks k → IsLabel row (outline_below f k) full_label
  full k o = full_is f row k s.layout s.is_row (child_used f q k s.layout (run_in k o)) (run_full k o)

  empty : (k : ℕ) → 1 ≤ occurs us k + occurs vs k → IsLabel row (outline_below f k) empty_label
  empty k o =
      let ok : 1 ≤ occurs (children_at f q) k = omega (arith, counted k) in
      empty_is f row k s.layout s.is_row (child_used f q k s.layout ok) (λ x lx ox.
      let j = p.covers x ox in
      let oj : 1 ≤ occurs (a ∷ (b ∷ ks)) j.0 = j.1 in
      both_above f q j.0 k x s.layout (holder_in j.0 oj) ok j.2 lx (λ e.
      let z : occurs (children_at f q) k ≤ 1 = once f q k s.layout in
      let y : 1 ≤ occurs (a ∷ (b ∷ ks)) k = subst (λ w. 1 ≤ occurs (a ∷ (b ∷ ks)) w) e oj in
      absurd (omega (arith, counted k))))

  abbrev front_parts : PartsOf (child_trees f a) (member_labels xs (children_at f a))
  front_parts = parts_of f row a xs s p.front

  abbrev rear_parts : PartsOf (child_trees f b) (member_labels ys (children_at f b))
  rear_parts = parts_of f row b ys s p.rear

  abbrev h3 : Partial
  h3 = p3 front_parts.es front_parts.fs

  abbrev k3 : Partial
  k3 = p3 rear_parts.es rear_parts.fs

  made : IsRootMade row (outline_below f q) (q_node (q3 (trees_at (outline_below f) us) (Some h3) (trees_at (outline_below f) ks) (Some k3) (trees_at (outline_below f) vs)))
  made = subst (λ z. IsRootMade row z (q_node (q3 (trees_at (outline_below f) us) (Some h3) (trees_at (outline_below f) ks) (Some k3) (trees_at (outline_below f) vs))))
      (sym (below_q f q s.layout p.is_q ∙ ap (λ z. q_node (trees_at (outline_below f) z)) p.children)) (
        both_labels h3 k3 us ks vs,
        labels_then row (outline_below f) empty_label us (a ∷ (ks ++ (b ∷ vs))) (partial_label h3 ∷ (labels_for full_label ks ++ (partial_label k3 ∷ labels_for empty_label vs))) (λ k o. empty k (omega arith)) (
          part_label f row a xs s p.front,
          labels_then row (outline_below f) full_label ks (b ∷ vs) (partial_label k3 ∷ labels_for empty_label vs) full
              (part_label f row b ys s p.rear, labels_each row (outline_below f) empty_label vs (λ k o. empty k (omega arith))),
        ),
        both_made (outline_below f) h3 k3 us a ks b vs,
      )

  pub span_reduced : (h : Layout) → RootTurnedLaw → IsLayout h → IsSpread f h q us ks vs front_parts.es front_parts.fs rear_parts.es rear_parts.fs → IsReduced row (outline_at f) (outline_at h)
  span_reduced h law hl d =
      root_exchanged s q span_root h law d.exchanged (q_node (q3 (trees_at (outline_below f) us) (Some h3) (trees_at (outline_below f) ks) (Some k3) (trees_at (outline_below f) vs))) made
      (q_turned h q (q3 (trees_at (outline_below f) us) (Some h3) (trees_at (outline_below f) ks) (Some k3) (trees_at (outline_below f) vs)) (us ++ (d.r ∷ (d.g ∷ (ks ++ (d.j ∷ (d.i ∷ vs)))))) hl d.is_q d.children
      (both_turned (outline_below f) (outline_below h) front_parts.es front_parts.fs rear_parts.es rear_parts.fs us ks vs d.r d.g d.i d.j d.kept d.rest d.group d.last_rest d.last_group))

  -- the children of the Q-node after one division, counted
  module _ (g h : Layout) (gl : IsLayout g) (hl : IsLayout h) where
    -- the P-node before the run divided first
    pub front_first : (d : IsDivided f g q a xs (λ r t. us ++ (r ∷ (t ∷ (ks ++ (b ∷ vs)))))) → IsDivided g h q b ys (λ i j. us ++ (d.rest ∷ (d.group ∷ (ks ++ (j ∷ (i ∷ vs)))))) →
        IsSpread f h q us ks vs front_parts.es front_parts.fs rear_parts.es rear_parts.fs
    front_first d e =
        let n : (k : ℕ) → occurs (children_at g q) k ≡ occurs us k + (occurs (d.rest ∷ []) k + (occurs (d.group ∷ []) k + (occurs ks k + (occurs (b ∷ []) k + occurs vs k)))) = (λ k.
        let o : occurs (children_at g q) k ≡ occurs (us ++ (d.rest ∷ (d.group ∷ (ks ++ (b ∷ vs))))) k = ap (λ z. occurs z k) d.children in
        omega (arith, occurs-append us (d.rest ∷ (d.group ∷ (ks ++ (b ∷ vs)))) k, occurs-append ks (b ∷ vs) k)) in
        let apart : (k : ℕ) → 1 ≤ occurs us k + (occurs (d.rest ∷ []) k + (occurs (d.group ∷ []) k + (occurs ks k + occurs vs k))) → k ≢ b = (λ k o z.
        let w : occurs (children_at g q) k ≤ 1 = once g q k gl in
        let y : 1 ≤ occurs (b ∷ []) k = subst (λ x. 1 ≤ occurs (b ∷ []) x) (sym z) (occurs_here b []) in
        absurd (omega (arith, n k))) in
        let t = d.trees front_parts.es front_parts.fs front_parts.sorted in
        let t2 = e.trees rear_parts.es rear_parts.fs (still_sorted s.layout gl d b rear_in (λ z. two_nodes (sym z)) ys rear_parts.es rear_parts.fs p.rear.is_p rear_parts.sorted) in
        record {
          exchanged = exchanged_twice f g h q s.layout hl p.is_q d.replaced e.replaced;
          is_q = e.is_q;
          r = d.rest;
          g = d.group;
          j = e.group;
          i = e.rest;
          children = e.children;
          kept = λ k o. sibling_kept gl hl e k (omega (arith, n k)) (not_rear k o) ∙ sibling_kept s.layout gl d k (one_of k o) (not_front k o);
          rest = still_there gl hl e d.rest (star front_parts.es) (omega (arith, n d.rest, occurs_here d.rest [])) (apart d.rest (omega (arith, occurs_here d.rest []))) t.0;
          group = still_there gl hl e d.group (star front_parts.fs) (omega (arith, n d.group, occurs_here d.group [])) (apart d.group (omega (arith, occurs_here d.group []))) t.1;
          last_rest = t2.0;
          last_group = t2.1;
        }

    -- the one behind it divided first
    pub rear_first : (d : IsDivided f g q b ys (λ r t. us ++ (a ∷ (ks ++ (t ∷ (r ∷ vs)))))) → IsDivided g h q a xs (λ i j. us ++ (i ∷ (j ∷ (ks ++ (d.group ∷ (d.rest ∷ vs)))))) →
        IsSpread f h q us ks vs front_parts.es front_parts.fs rear_parts.es rear_parts.fs
    rear_first d e =
        let n : (k : ℕ) → occurs (children_at g q) k ≡ occurs us k + (occurs (d.rest ∷ []) k + (occurs (d.group ∷ []) k + (occurs ks k + (occurs (a ∷ []) k + occurs vs k)))) = (λ k.
        let o : occurs (children_at g q) k ≡ occurs (us ++ (a ∷ (ks ++ (d.group ∷ (d.rest ∷ vs))))) k = ap (λ z. occurs z k) d.children in
        omega (arith, occurs-append us (a ∷ (ks ++ (d.group ∷ (d.rest ∷ vs)))) k, occurs-append ks (d.group ∷ (d.rest ∷ vs)) k)) in
        let apart : (k : ℕ) → 1 ≤ occurs us k + (occurs (d.rest ∷ []) k + (occurs (d.group ∷ []) k + (occurs ks k + occurs vs k))) → k ≢ a = (λ k o z.
        let w : occurs (children_at g q) k ≤ 1 = once g q k gl in
        let y : 1 ≤ occurs (a ∷ []) k = subst (λ x. 1 ≤ occurs (a ∷ []) x) (sym z) (occurs_here a []) in
        absurd (omega (arith, n k))) in
        let t = d.trees rear_parts.es rear_parts.fs rear_parts.sorted in
        let t2 = e.trees front_parts.es front_parts.fs (still_sorted s.layout gl d a front_in two_nodes xs front_parts.es front_parts.fs p.front.is_p front_parts.sorted) in
        record {
          exchanged = exchanged_twice f g h q s.layout hl p.is_q d.replaced e.replaced;
          is_q = e.is_q;
          r = e.rest;
          g = e.group;
          j = d.group;
          i = d.rest;
          children = e.children;
          kept = λ k o. sibling_kept gl hl e k (omega (arith, n k)) (not_front k o) ∙ sibling_kept s.layout gl d k (one_of k o) (not_rear k o);
          rest = t2.0;
          group = t2.1;
          last_rest = still_there gl hl e d.rest (star rear_parts.es) (omega (arith, n d.rest, occurs_here d.rest [])) (apart d.rest (omega (arith, occurs_here d.rest []))) t.0;
          last_group = still_there gl hl e d.group (star rear_parts.fs) (omega (arith, n d.group, occurs_here d.group [])) (apart d.group (omega (arith, occurs_here d.group []))) t.1;
        }

-- a leaf of the row is below one of the P-nodes or below one of the run
holder : {f : Layout} {row : List ℕ} {n t : ℕ} {ms : List ℕ} {o u : ℕ} {os : List ℕ} (b : IsBetween f row n t ms o u os) (x : ℕ) → 1 ≤ occurs row x →
    (k : ℕ) × (1 ≤ occurs (n ∷ (o ∷ b.ks)) k) × IsAtOrAbove f.slots k x
holder {n = n} {ms = ms} {o = o} {os = os} b x i =
    let c = b.covers x i in
    let ic : 1 ≤ occurs (ms ++ (os ++ b.ks)) c.0 = c.1 in
    elim (cases_lt 0 (occurs ms c.0)) [
      | inl l ↦ (n, occurs_here n (o ∷ b.ks), down n c.0 x (b.part.child c.0 l) c.2)
      | inr l ↦ elim (cases_lt 0 (occurs os c.0)) [
        | inl l' ↦ (o, omega (arith, occurs_here o b.ks), down o c.0 x (b.other_part.child c.0 l') c.2)
        | inr l' ↦ (c.0, omega (arith, occurs-append ms (os ++ b.ks) c.0, occurs-append os b.ks c.0), c.2)
      ]
    ]

-- what the full pass found, with n before the run
before_run : {f : Layout} {row : List ℕ} {n t : ℕ} {ms : List ℕ} {o u : ℕ} {os : List ℕ} (b : IsBetween f row n t ms o u os) → children_at f b.q ≡ b.us ++ (n ∷ (b.ks ++ (o ∷ b.vs))) →
    IsSpan f row n ms o os b.q b.us b.ks b.vs
before_run {f = f} {n = n} {ms = ms} {o = o} {os = os} b e = record {
  front = b.part;
  rear = b.other_part;
  is_q = b.is_q;
  children = e;
  some = b.some;
  filled = b.filled;
  covers = holder b;
}

-- and with n behind it
behind_run : {f : Layout} {row : List ℕ} {n t : ℕ} {ms : List ℕ} {o u : ℕ} {os : List ℕ} (b : IsBetween f row n t ms o u os) → children_at f b.q ≡ b.us ++ (o ∷ (b.ks ++ (n ∷ b.vs))) →
    IsSpan f row o os n ms b.q b.us b.ks b.vs
behind_run {f = f} {n = n} {ms = ms} {o = o} {os = os} b e = record {
  front = b.other_part;
  rear = b.part;
  is_q = b.is_q;
  children = e;
  some = b.some;
  filled = b.filled;
  covers = λ x i. let k = holder b x i in (k.0, (let l : 1 ≤ occurs (n ∷ (o ∷ b.ks)) k.0 = k.1 in omega arith), k.2);
}

-- the full pass found some children of the P-node n, which stands beside t
pub between_some : {f : Layout} {row : List ℕ} {n t : ℕ} {ms : List ℕ} {o u : ℕ} {os : List ℕ} → IsBetween f row n t ms o u os → AreSome f n ms
between_some b = record { is_p = b.part.is_p; once = b.part.once; child = b.part.child; some = b.part.some; not_all = b.part.not_all }

other_some : {f : Layout} {row : List ℕ} {n t : ℕ} {ms : List ℕ} {o u : ℕ} {os : List ℕ} → IsBetween f row n t ms o u os → AreSome f o os
other_some b = record { is_p = b.other_part.is_p; once = b.other_part.once; child = b.other_part.child; some = b.other_part.some; not_all = b.other_part.not_all }

pub between_place : {f : Layout} {row : List ℕ} {n t : ℕ} {ms : List ℕ} {o u : ℕ} {os : List ℕ} → IsBetween f row n t ms o u os → CanDivide f n t
between_place {n = n} {o = o} b = elim b.place [
  | inl e ↦ can_before b.q b.us b.ks (o ∷ b.vs) b.is_q b.some e.1 e.0
  | inr e ↦ can_behind b.q (b.us ++ (o ∷ [])) b.ks b.vs b.is_q b.some e.2 (e.0 ∙ sym (append_assoc b.us (o ∷ []) (b.ks ++ (n ∷ b.vs))))
]

module _ {f : Layout} {row : List ℕ} {n t : ℕ} {ms : List ℕ} {o u : ℕ} {os : List ℕ} (s : IsAsked f row) (b : IsBetween f (column_leaves row) n t ms o u os) where
  -- the first division, with n before the run and behind it
  one_before_run : {g : Layout} → IsDone f g n t ms → children_at f b.q ≡ b.us ++ (n ∷ (b.ks ++ (o ∷ b.vs))) → t ≡ head_or b.ks none →
      IsDivided f g b.q n ms (λ r p. b.us ++ (r ∷ (p ∷ (b.ks ++ (o ∷ b.vs)))))
  one_before_run done e at = divided_before done b.q b.us b.ks (o ∷ b.vs) b.is_q b.some at e

  one_behind_run : {g : Layout} → IsDone f g n t ms → children_at f b.q ≡ b.us ++ (o ∷ (b.ks ++ (n ∷ b.vs))) → t ≡ last_or b.ks none →
      IsDivided f g b.q n ms (λ r p. b.us ++ (o ∷ (b.ks ++ (p ∷ (r ∷ b.vs)))))
  one_behind_run done e at = relisted (λ r p. append_assoc b.us (o ∷ []) (b.ks ++ (p ∷ (r ∷ b.vs))))
      (divided_behind done b.q (b.us ++ (o ∷ [])) b.ks b.vs b.is_q b.some at (e ∙ sym (append_assoc b.us (o ∷ []) (b.ks ++ (n ∷ b.vs)))))

  -- it leaves one tree, two children or more at each inner node, and the other P-node as it was
  pub first_replaced : {g : Layout} → IsDone f g n t ms → IsReplacedAt f g b.q b.q
  first_replaced done = elim b.place [
    | inl e ↦ (one_before_run done e.0 e.1).replaced
    | inr e ↦ (one_behind_run done e.0 e.2).replaced
  ]

  pub second_some : {g : Layout} → IsLayout g → IsDone f g n t ms → AreSome g o os
  second_some gl done = elim b.place [
    | inl e ↦
        let p = before_run b e.0 in
        still_some s.layout gl (one_before_run done e.0 e.1) o (rear_in f row n ms o os b.q b.us b.ks b.vs s p) (λ z. two_nodes f row n ms o os b.q b.us b.ks b.vs s p (sym z)) os (other_some b)
    | inr e ↦
        let p = behind_run b e.0 in
        still_some s.layout gl (one_behind_run done e.0 e.2) o (front_in f row o os n ms b.q b.us b.ks b.vs s p) (two_nodes f row o os n ms b.q b.us b.ks b.vs s p) os (other_some b)
  ]

  pub second_place : {g : Layout} → IsDone f g n t ms → CanDivide g o u
  second_place done = elim b.place [
    | inl e ↦
        let d = one_before_run done e.0 e.1 in
        can_behind b.q (b.us ++ (d.rest ∷ d.group ∷ [])) b.ks b.vs d.is_q b.some e.2 (d.children ∙ sym (append_assoc b.us (d.rest ∷ d.group ∷ []) (b.ks ++ (o ∷ b.vs))))
    | inr e ↦
        let d = one_behind_run done e.0 e.2 in
        can_before b.q b.us b.ks (d.group ∷ (d.rest ∷ b.vs)) d.is_q b.some e.1 d.children
  ]

  pub between_reduced : {g h : Layout} → RootTurnedLaw → IsLayout g → IsLayout h → IsDone f g n t ms → IsDone g h o u os → IsReduced row (outline_at f) (outline_at h) × IsReplacedAt g h b.q b.q
  between_reduced {g = g} {h = h} law gl hl first second = elim b.place [
    | inl e ↦
        let p = before_run b e.0 in
        let d = one_before_run first e.0 e.1 in
        let c : IsDivided g h b.q o os (λ i j. b.us ++ (d.rest ∷ (d.group ∷ (b.ks ++ (j ∷ (i ∷ b.vs)))))) = relisted (λ i j. append_assoc b.us (d.rest ∷ d.group ∷ []) (b.ks ++ (j ∷ (i ∷ b.vs))))
        (divided_behind second b.q (b.us ++ (d.rest ∷ d.group ∷ [])) b.ks b.vs d.is_q b.some e.2 (d.children ∙ sym (append_assoc b.us (d.rest ∷ d.group ∷ []) (b.ks ++ (o ∷ b.vs))))) in
        (span_reduced f row n ms o os b.q b.us b.ks b.vs s p h law hl (front_first f row n ms o os b.q b.us b.ks b.vs s p g h gl hl d c), c.replaced)
    | inr e ↦
        let p = behind_run b e.0 in
        let d = one_behind_run first e.0 e.2 in
        let c : IsDivided g h b.q o os (λ i j. b.us ++ (i ∷ (j ∷ (b.ks ++ (d.group ∷ (d.rest ∷ b.vs)))))) = divided_before second b.q b.us b.ks (d.group ∷ (d.rest ∷ b.vs)) d.is_q b.some e.1 d.children in
        (span_reduced f row o os n ms b.q b.us b.ks b.vs s p h law hl (rear_first f row o os n ms b.q b.us b.ks b.vs s p g h gl hl d c), c.replaced)
  ]

  -- the Q-node is the pertinent root, and both P-nodes are its children
  pub between_root : IsPertinentRoot row (outline_at f) (outline_below f b.q)
  between_root = elim b.place [
    | inl e ↦ span_root f row n ms o os b.q b.us b.ks b.vs s (before_run b e.0)
    | inr e ↦ span_root f row o os n ms b.q b.us b.ks b.vs s (behind_run b e.0)
  ]

  pub between_in_place : (h : Layout) → IsExchanged f h b.q b.q → IsInPlace (column_leaves row) f h
  between_in_place h x = elim b.place [
    | inl e ↦ span_in_place f row n ms o os b.q b.us b.ks b.vs s (before_run b e.0) h x
    | inr e ↦ span_in_place f row o os n ms b.q b.us b.ks b.vs s (behind_run b e.0) h x
  ]

  -- the tree doesn't keep the row
  pub between_moves : IsRowKept f (column_leaves row) → ⊥
  between_moves kept = elim b.place [
    | inl e ↦ span_moves f row n ms o os b.q b.us b.ks b.vs s (before_run b e.0) kept
    | inr e ↦ span_moves f row o os n ms b.q b.us b.ks b.vs s (behind_run b e.0) kept
  ]

  both_in : (1 ≤ occurs (children_at f b.q) n) × (1 ≤ occurs (children_at f b.q) o)
  both_in = elim b.place [
    | inl e ↦ let p = before_run b e.0 in (front_in f row n ms o os b.q b.us b.ks b.vs s p, rear_in f row n ms o os b.q b.us b.ks b.vs s p)
    | inr e ↦ let p = behind_run b e.0 in (rear_in f row o os n ms b.q b.us b.ks b.vs s p, front_in f row o os n ms b.q b.us b.ks b.vs s p)
  ]

  -- no more members at either than nodes that meet the row
  pub few_between : (top a : ℕ) → IsAtOrAbove f.slots top b.q → AtMost f (column_leaves row) top a → (length ms ≤ a) × (length os ≤ a)
  few_between top a l few = (
    few_members f row n ms s b.part top a (join_paths f.slots top b.q n l (down b.q n n both_in.0 (here n))) few,
    few_members f row o os s b.other_part top a (join_paths f.slots top b.q o l (down b.q o o both_in.1 (here o))) few,
  )

-- a row that was found so has a column
pub asked_between : {f : Layout} {row : List ℕ} {d e : End} {ms os : List ℕ} → IsLayout f → IsOneTree f → HasTwoEach f → AtFoundBetween f row d ms e os → IsAsked f row
asked_between {row = row} layout one two b = let x = first_leaf row b.some in
    record { layout = layout; one = one; two = two; is_row = b.is_row; leaf = x.0; in_row = x.1 }

-- what was found, by other names of the lists
pub between_named : {f : Layout} {row : List ℕ} {d e : End} {ms ks os js : List NodeId} → ms ≡ ks → os ≡ js → AtFoundBetween f row d (indices ks) e (indices js) → AtFoundBetween f row d (indices ms) e (indices os)
between_named {f = f} {row = row} {d = d} {e = e} {ms = ms} {js = js} x y b =
    subst (λ z. AtFoundBetween f row d (indices ms) e (indices z)) (sym y) (subst (λ z. AtFoundBetween f row d (indices z) e (indices js)) (sym x) b)

-- such a row is taken
pub between_taken : {f g h : Layout} {row : List ℕ} {d e : End} {ms os : List ℕ} → IsLayout f → IsOneTree f → HasTwoEach f → RootTurnedLaw → AtFoundBetween f row d ms e os → IsLayout g → IsLayout h →
    IsDone f g d.node.index d.beside.index ms → IsDone g h e.node.index e.beside.index os → IsOutcome row f h Taken
between_taken {f = f} {g = g} {h = h} layout one two law b gl hl first second =
    let s = asked_between layout one two b in
    let r = between_reduced s b.found law gl hl first second in
    let x = first_replaced s b.found first in
    (r.0, r.1.one, r.1.columns ∙ x.columns, between_in_place s b.found h (exchanged_twice f g h b.found.q layout hl b.found.is_q x r.1))

-- the steps of the full pass and of both divisions
pub between_total : {f : Layout} {c : ℕ} {rows : List (List ℕ)} {k : ℕ} {row : List ℕ} {d e : End} → MetLaw → IsRowOver f c rows k row → HasTwoEach f → (ms os : List NodeId) →
    AtFoundBetween f (row_at rows k) d (indices ms) e (indices os) → (s0 s1 s2 : ℕ) →
    s1 ≤ s0 + 8 * length (row_at rows k) → s2 ≤ s1 + 2 * (length ms + length os) + 24 → Few f (row_at rows k) s0 s2
between_total {f = f} {rows = rows} {k = k} law s two ms os b s0 s1 s2 x y =
    let a : (length (indices ms) ≤ nodes_met (row_at rows k) (outline_at f)) × (length (indices os) ≤ nodes_met (row_at rows k) (outline_at f)) =
    few_between (asked s two b.some) b.found f.root (nodes_met (row_at rows k) (outline_at f)) (s.can.one b.found.q (used_by f b.found.q Q b.found.is_q)) (met_most law s) in
    let i : length (indices ms) ≡ length ms = length-map ms (λ m. m.index) in
    let j : length (indices os) ≡ length os = length-map os (λ m. m.index) in
    omega (arith, a.0, a.1, b.found.part.some)

-- and counted below the root
pub between_below : {f : Layout} {c : ℕ} {rows : List (List ℕ)} {k : ℕ} {row : List ℕ} {d e : End} → MetLaw → IsRowOver f c rows k row → HasTwoEach f → (ms os : List NodeId) →
    AtFoundBetween f (row_at rows k) d (indices ms) e (indices os) → (s0 s1 s2 : ℕ) →
    s1 ≤ s0 + 8 * length (row_at rows k) → s2 ≤ s1 + 2 * (length ms + length os) + 24 → FewBelow f (row_at rows k) s0 s2
between_below {f = f} {rows = rows} {k = k} law s two ms os b s0 s1 s2 x y =
    let a : (length (indices ms) ≤ nodes_met_below_root (row_at rows k) (outline_at f)) × (length (indices os) ≤ nodes_met_below_root (row_at rows k) (outline_at f)) =
    few_between (asked s two b.some) b.found b.found.q (nodes_met_below_root (row_at rows k) (outline_at f)) (here b.found.q)
    (met_below law s b.some b.found.q (used_by f b.found.q Q b.found.is_q) (between_root (asked s two b.some) b.found)) in
    let i : length (indices ms) ≡ length ms = length-map ms (λ m. m.index) in
    let j : length (indices os) ≡ length os = length-map os (λ m. m.index) in
    omega (arith, a.0, a.1, b.found.part.some)
