-- A row whose leaves fill one node, or some neighbouring children of a Q-node: the tree is its own reduction.
use Rattle.std.proofs.Common.{◌≡◌, ◌≢◌, inl, inr, ℕ, ◌+◌, ◌-◌, ◌≤◌, List, [], ◌∷◌, ◌++◌, map, length, Option, Some, None, refl, sym, ap, subst, ◌∙◌, arith}
use Rattle.std.proofs.lemmas.Bool.{cases_eq}
use Rattle.column_order.specs.Orders.{occurs}
use Rattle.column_order.proofs.Lists.{occurs-append}
use Rattle.row_model.specs.Rows.{IsRow}
use Rattle.pq_tree.specs.Outline.{Outline, q_node}
use Rattle.pq_tree.specs.Forests.{forest}
use Rattle.pq_tree.specs.Nodes.{IsPertinentRoot}
use Rattle.pq_tree.proofs.Turnings.{equivalent_refl}
use Rattle.tree_theory.specs.Laws.{RootTurnedLaw}
use Rattle.tree_theory.specs.Templates.{empty_label, full_label}
use Rattle.tree_theory.specs.Chosen.{by_p1, by_q1, IsRootOfQ, root_p1, root_q1}
use Rattle.tree_theory.specs.Reduced.{IsLabel, AreLabels, IsRootMade, IsReduced, no_column, by_template}
use Rattle.arena_model.specs.declared.Shape.{Shape}
use Rattle.arena_model.specs.declared.Shape.TheVariants.{Leaf, P, Q}
use Rattle.arena_model.specs.Layout.{Layout, shape_at, children_at, times_child, IsGrounded, grounded, IsInUse, IsLayout, MayHaveChildren, IsAtOrAbove, here, down}
use Rattle.arena_model.specs.NamedTree.{outline_below, outline_at, IsOneTree, HasTwoEach}
use Rattle.arena_model.proofs.Lists.{occurs_here, occurs_same, only_one}
use Rattle.arena_model.proofs.Slots.{child_used, children_times, parent_used}
use Rattle.arena_model.proofs.Paths.{one_path}
use Rattle.arena_model.proofs.Outlines.{apart_children}
use Rattle.pq_arena.specs.RowNodes.{column_leaves}
use Rattle.bubble_pass.specs.declared.labels.Label.TheVariants.{Full}
use Rattle.arena_model.specs.RowLeaves.{Holds, Meets}
use Rattle.bubble_pass.specs.Sweep.{IsRight}
use Rattle.full_pass.specs.Answer.{IsRowKept, one_node, one_run, IsSettled}
use Rattle.full_pass.specs.declared.settled.Settled.TheVariants.{Kept}
use Rattle.template_model.specs.Standing.{child_trees}
use Rattle.template_model.specs.Treated.{IsReplacedAt, StandsForTree}
use Rattle.template_model.proofs.Replaced.{stays}
use Rattle.row_reduce.proofs.Leaves.{LeafBelow, leaf_below, empty_is, full_leaf}
use Rattle.row_reduce.proofs.RowLength.{leaf_used}
use Rattle.row_reduce.proofs.Labelling.{below_p, below_q, below_leaf}
use Rattle.arena_model.proofs.Nodes.{root_is}
use Rattle.row_model.proofs.Ascending.{row_within}
use Rattle.row_reduce.proofs.Ending.{IsExchanged, replaced_whole}
use Rattle.row_reduce.proofs.Blocks.{labels_for, block_labels, labels_each, labels_then, all_full_for, block_made}

-- one tree with two children or more at each inner node, and a row with a column
pub record IsAsked (f : Layout) (row : List ℕ) : Type 0 where
  pub layout : IsLayout f
  pub one : IsOneTree f
  pub two : HasTwoEach f
  pub is_row : IsRow f.columns row
  pub leaf : ℕ
  pub in_row : 1 ≤ occurs (column_leaves row) leaf

-- the leaves of the row are those below neighbouring children ks of the Q-node q
record IsBlock (f : Layout) (row : List ℕ) (q : ℕ) (us ks vs : List ℕ) : Type 0 where
  is_q : shape_at f q ≡ Some Q
  children : children_at f q ≡ us ++ (ks ++ vs)
  full : (k : ℕ) → 1 ≤ occurs ks k → IsRight f (column_leaves row) k Full
  covers : (x : ℕ) → 1 ≤ occurs (column_leaves row) x → (k : ℕ) × (1 ≤ occurs ks k) × IsAtOrAbove f.slots k x

-- a node whose leaves are all in the row is labelled full
full_by : (f : Layout) (row : List ℕ) (n : ℕ) → IsLayout f → IsRow f.columns row → ((k : ℕ) → 1 ≤ occurs (children_at f n) k → IsLabel row (outline_below f k) full_label) →
    (o : Option Shape) → shape_at f n ≡ o → IsInUse f n → IsRight f (column_leaves row) n Full → IsLabel row (outline_below f n) full_label
full_by f row n h r of None e used right = absurd (used e)
full_by f row n h r of (Some (Leaf a)) e used right = subst (λ z. IsLabel row z full_label) (sym (below_leaf f n a h e)) (inl (full_leaf f row n a h r e right, refl))
full_by f row n h r of (Some P) e used right = subst (λ z. IsLabel row z full_label) (sym (below_p f n h e))
    (labels_for full_label (children_at f n), full_label, labels_each row (outline_below f) full_label (children_at f n) of, by_p1 (all_full_for (outline_below f) (children_at f n)), refl)
full_by f row n h r of (Some Q) e used right = subst (λ z. IsLabel row z full_label) (sym (below_q f n h e))
    (labels_for full_label (children_at f n), full_label, labels_each row (outline_below f) full_label (children_at f n) of, by_q1 (all_full_for (outline_below f) (children_at f n)), refl)

full_from : (f : Layout) (row : List ℕ) (n : ℕ) → IsLayout f → IsRow f.columns row → IsGrounded f.slots n → IsInUse f n → IsRight f (column_leaves row) n Full → IsLabel row (outline_below f n) full_label
full_from f row _ h r (grounded n below) used right =
    full_by f row n h r (λ k o. full_from f row k h r (below k o) (child_used f n k h o) (λ x a l e. right x a (down n k x o l) e)) (shape_at f n) refl used right

pub full_is : (f : Layout) (row : List ℕ) (n : ℕ) → IsLayout f → IsRow f.columns row → IsInUse f n → IsRight f (column_leaves row) n Full → IsLabel row (outline_below f n) full_label
full_is f row n h r used right = full_from f row n h r (h.grounds n) used right

-- a node above one in use is in use
top_used : (f : Layout) (n x : ℕ) → IsLayout f → IsAtOrAbove f.slots n x → IsInUse f x → IsInUse f n
top_used f _ _ h (here n) used = used
top_used f _ _ h (down n k x o l) used = parent_used f n k o h

holder_used : {f : Layout} {row : List ℕ} → IsAsked f row → (n : ℕ) → Holds f (column_leaves row) n → IsInUse f n
holder_used {f = f} {row = row} s n holds = top_used f n s.leaf s.layout (holds s.leaf s.in_row) (leaf_used f row s.leaf s.layout s.is_row s.in_row)

-- a full node meets the row
pub full_meets : {f : Layout} {row : List ℕ} → IsAsked f row → (k : ℕ) → IsInUse f k → IsRight f (column_leaves row) k Full → Meets f (column_leaves row) k
full_meets {f = f} s k used right = let l : LeafBelow f k = leaf_below f k s.layout s.two used in (l.x, right l.x l.column l.below l.leaf, l.below)

pub once : (f : Layout) (n k : ℕ) → IsLayout f → occurs (children_at f n) k ≤ 1
once f n k h = let a : occurs (children_at f n) k ≤ times_child f.slots k = children_times f n k in let b : times_child f.slots k ≤ 1 = h.once k in omega arith

-- of two nodes or more that stand once, one is not k
pub another : (ks : List ℕ) (k : ℕ) → 2 ≤ length ks → ((x : ℕ) → occurs ks x ≤ 1) → (j : ℕ) × (1 ≤ occurs ks j) × (j ≢ k)
another [] k l one = absurd (omega arith)
another (a ∷ []) k l one = absurd (omega arith)
another (a ∷ b ∷ ks) k l one = elim (cases_eq a k) [
  | inl e ↦ (
    b,
    (let o : 1 ≤ occurs (b ∷ ks) b = occurs_here b ks in omega arith),
    λ q.
        let z : occurs (a ∷ b ∷ ks) a ≤ 1 = one a in
        let y : 1 ≤ occurs (b ∷ ks) a = subst (λ x. 1 ≤ occurs (b ∷ ks) x) (q ∙ sym e) (occurs_here b ks) in
        absurd (omega (arith, occurs_same a (b ∷ ks))),
  )
  | inr ne ↦ (a, occurs_here a (b ∷ ks), ne)
]

-- no leaf is below two children of one node
pub both_above : (f : Layout) (n a b x : ℕ) → IsLayout f → 1 ≤ occurs (children_at f n) a → 1 ≤ occurs (children_at f n) b → IsAtOrAbove f.slots a x → IsAtOrAbove f.slots b x → a ≢ b → ⊥
both_above f n a b x h oa ob la lb ne = elim (one_path f a b x h la lb) [
  | inl p ↦ apart_children f n a b h oa ob p ne
  | inr p ↦ apart_children f n b a h ob oa p (λ e. ne (sym e))
]

-- where two children of n are full, none holds the row
pub none_holds : {f : Layout} {row : List ℕ} → IsAsked f row → (n : ℕ) (ks : List ℕ) → 2 ≤ length ks → ((x : ℕ) → occurs ks x ≤ 1) →
    ((k : ℕ) → 1 ≤ occurs ks k → (1 ≤ occurs (children_at f n) k) × IsRight f (column_leaves row) k Full) → (k : ℕ) → 1 ≤ occurs (children_at f n) k → Holds f (column_leaves row) k → ⊥
none_holds {f = f} {row = row} s n ks l one full k o holds =
    let j = another ks k l one in
    let c = full j.0 j.1 in
    let m : Meets f (column_leaves row) j.0 = full_meets s j.0 (child_used f n j.0 s.layout c.0) c.1 in
    both_above f n j.0 k m.0 s.layout c.0 o m.2 (holds m.0 m.1) j.2

-- where two children of n meet the row, none holds it
pub two_meet : {f : Layout} {row : List ℕ} → IsAsked f row → (n a b : ℕ) → 1 ≤ occurs (children_at f n) a → 1 ≤ occurs (children_at f n) b → a ≢ b → Meets f (column_leaves row) a → Meets f (column_leaves row) b →
    (k : ℕ) → 1 ≤ occurs (children_at f n) k → Holds f (column_leaves row) k → ⊥
two_meet {f = f} s n a b oa ob ne ma mb k o holds = elim (cases_eq a k) [
  | inl e ↦ both_above f n b k mb.0 s.layout ob o mb.2 (holds mb.0 mb.1) (λ q. ne (e ∙ sym q))
  | inr na ↦ both_above f n a k ma.0 s.layout oa o ma.2 (holds ma.0 ma.1) na
]

full_child : (f : Layout) (row : List ℕ) (n k : ℕ) → IsRight f (column_leaves row) n Full → 1 ≤ occurs (children_at f n) k → IsRight f (column_leaves row) k Full
full_child f row n k right o = λ x a l e. right x a (down n k x o l) e

-- where a node stands for what a template makes of the pertinent root, in its place, the tree is reduced
pub root_exchanged : {f : Layout} {row : List ℕ} → IsAsked f row → (q : ℕ) → IsPertinentRoot row (outline_at f) (outline_below f q) → (h : Layout) → RootTurnedLaw → IsExchanged f h q q →
    (y : Outline) → IsRootMade row (outline_below f q) y → StandsForTree h q y → IsReduced row (outline_at f) (outline_at h)
root_exchanged {f = f} {row = row} s q root h law x y made stands =
    law row (outline_at f) (outline_below f q) y (outline_below h q) (outline_at h) root made stands (replaced_whole x (s.one q x.used))

pub root_reduced : {f : Layout} {row : List ℕ} → IsAsked f row → (q : ℕ) → IsInUse f q → IsPertinentRoot row (outline_at f) (outline_below f q) → (h : Layout) → RootTurnedLaw → IsLayout h → IsReplacedAt f h q q →
    (y : Outline) → IsRootMade row (outline_below f q) y → StandsForTree h q y → IsReduced row (outline_at f) (outline_at h)
root_reduced s q used root h law hl r = root_exchanged s q root h law (record { f_layout = s.layout; h_layout = hl; used = used; root = r.root; outside = r.outside })

-- where the pertinent root stays as it is, the tree does
stays_whole : {f : Layout} {row : List ℕ} → IsAsked f row → (q : ℕ) → IsInUse f q → Holds f (column_leaves row) q → ((k : ℕ) → 1 ≤ occurs (children_at f q) k → Holds f (column_leaves row) k → ⊥) →
    IsRootMade row (outline_below f q) (outline_below f q) → IsReduced row (outline_at f) (outline_at f)
stays_whole {f = f} {row = row} s q used holds least made =
    by_template (outline_below f q) (outline_below f q) (outline_at f) (root_is f row q s.layout s.one (row_within f.columns row s.is_row) used holds least) made (replaced_whole same (s.one q used)) (equivalent_refl (outline_at f))
  where
    same : IsExchanged f f q q
    same = let r = stays f q s.layout s.one s.two used in record { f_layout = s.layout; h_layout = s.layout; used = used; root = r.root; outside = r.outside }

-- a node that the row fills, and that holds it
filled_node : {f : Layout} {row : List ℕ} → IsAsked f row → (n : ℕ) → IsRight f (column_leaves row) n Full → Holds f (column_leaves row) n → IsReduced row (outline_at f) (outline_at f)
filled_node {f = f} {row = row} s n full holds = stays_whole s n used holds (least (shape_at f n) refl) (made (shape_at f n) refl)
  where
    used : IsInUse f n
    used = holder_used s n holds

    two_each : 2 ≤ length (children_at f n) → (k : ℕ) → 1 ≤ occurs (children_at f n) k → Holds f (column_leaves row) k → ⊥
    two_each l = none_holds s n (children_at f n) l (λ x. once f n x s.layout) (λ k o. (o, full_child f row n k full o))

    least : (o : Option Shape) → shape_at f n ≡ o → (k : ℕ) → 1 ≤ occurs (children_at f n) k → Holds f (column_leaves row) k → ⊥
    least None e k ok holds_k = used e
    least (Some (Leaf a)) e k ok holds_k = absurd (let z : 1 ≤ occurs [] k = subst (λ v. 1 ≤ occurs v k) (subst (λ v. MayHaveChildren v (children_at f n)) e (s.layout.children_fit n)) ok in omega arith)
    least (Some P) e k ok holds_k = two_each (s.two n (inl e)) k ok holds_k
    least (Some Q) e k ok holds_k = two_each (s.two n (inr e)) k ok holds_k

    labels : AreLabels row (child_trees f n) (labels_for full_label (children_at f n))
    labels = labels_each row (outline_below f) full_label (children_at f n) (λ k o. full_is f row k s.layout s.is_row (child_used f n k s.layout o) (full_child f row n k full o))

    made : (o : Option Shape) → shape_at f n ≡ o → IsRootMade row (outline_below f n) (outline_below f n)
    made None e = absurd (used e)
    made (Some (Leaf a)) e = subst (λ z. IsRootMade row z z) (sym (below_leaf f n a s.layout e)) (full_leaf f row n a s.layout s.is_row e full, refl)
    made (Some P) e = subst (λ z. IsRootMade row z z) (sym (below_p f n s.layout e)) (labels_for full_label (children_at f n), labels, root_p1 (all_full_for (outline_below f) (children_at f n)))
    made (Some Q) e = subst (λ z. IsRootMade row z z) (sym (below_q f n s.layout e)) (labels_for full_label (children_at f n), labels, root_q1 (all_full_for (outline_below f) (children_at f n)))

-- two neighbouring children or more that the row fills
filled_children : {f : Layout} {row : List ℕ} → IsAsked f row → (q : ℕ) (us ks vs : List ℕ) → IsBlock f row q us ks vs → 2 ≤ length ks → IsReduced row (outline_at f) (outline_at f)
filled_children {f = f} {row = row} s q us ks vs b l = stays_whole s q used holds least made
  where
    used : IsInUse f q
    used z = absurd (let y : Some Q ≡ None = sym b.is_q ∙ z in cc)

    count : (k : ℕ) → occurs (children_at f q) k ≡ occurs us k + occurs ks k + occurs vs k
    count k = ap (λ z. occurs z k) b.children ∙ omega (arith, occurs-append us (ks ++ vs) k, occurs-append ks vs k)

    holds : Holds f (column_leaves row) q
    holds x o = let k = b.covers x o in let ok : 1 ≤ occurs ks k.0 = k.1 in down q k.0 x (omega (arith, count k.0)) k.2

    least : (k : ℕ) → 1 ≤ occurs (children_at f q) k → Holds f (column_leaves row) k → ⊥
    least = none_holds s q ks l (λ x. let z : occurs (children_at f q) x ≤ 1 = once f q x s.layout in omega (arith, count x)) (λ k o. (omega (arith, count k), b.full k o))

    empty : (k : ℕ) → 1 ≤ occurs us k + occurs vs k → IsLabel row (outline_below f k) empty_label
    empty k o =
        let ok : 1 ≤ occurs (children_at f q) k = omega (arith, count k) in
        empty_is f row k s.layout s.is_row (child_used f q k s.layout ok) (λ x lx ox.
        let j = b.covers x ox in
        let oj : 1 ≤ occurs ks j.0 = j.1 in
        both_above f q j.0 k x s.layout (omega (arith, count j.0)) ok j.2 lx (λ e.
        let z : occurs (children_at f q) k ≤ 1 = once f q k s.layout in
        let y : 1 ≤ occurs ks k = subst (λ w. 1 ≤ occurs ks w) e oj in
        absurd (omega (arith, count k))))

    full : (k : ℕ) → 1 ≤ occurs ks k → IsLabel row (outline_below f k) full_label
    full k o = full_is f row k s.layout s.is_row (child_used f q k s.layout (omega (arith, count k))) (b.full k o)

    labels : AreLabels row (child_trees f q) (block_labels us ks vs)
    labels = subst (λ z. AreLabels row z (block_labels us ks vs)) (ap (λ z. forest (map (outline_below f) z)) (sym b.children))
        (labels_then row (outline_below f) empty_label us (ks ++ vs) (labels_for full_label ks ++ labels_for empty_label vs) (λ k o. empty k (omega arith))
        (labels_then row (outline_below f) full_label ks vs (labels_for empty_label vs) full (labels_each row (outline_below f) empty_label vs (λ k o. empty k (omega arith)))))

    root : IsRootOfQ (child_trees f q) (block_labels us ks vs) (q_node (child_trees f q))
    root = subst (λ z. IsRootOfQ z (block_labels us ks vs) (q_node z)) (ap (λ z. forest (map (outline_below f) z)) (sym b.children)) (block_made (outline_below f) us ks vs)

    made : IsRootMade row (outline_below f q) (outline_below f q)
    made = subst (λ z. IsRootMade row z z) (sym (below_q f q s.layout b.is_q)) (block_labels us ks vs, labels, root)

-- neighbouring children that the row fills: one child is a node that it fills
filled_block : {f : Layout} {row : List ℕ} → IsAsked f row → (q : ℕ) (us ks vs : List ℕ) → IsBlock f row q us ks vs → IsReduced row (outline_at f) (outline_at f)
filled_block s q us [] vs b = absurd (let k = b.covers s.leaf s.in_row in let o : 1 ≤ occurs [] k.0 = k.1 in omega arith)
filled_block {f = f} s q us (k ∷ []) vs b = filled_node s k (b.full k (occurs_here k [])) (λ x o. let j = b.covers x o in subst (λ z. IsAtOrAbove f.slots z x) (only_one j.0 k j.1) j.2)
filled_block s q us (j ∷ k ∷ ks) vs b = filled_children s q us (j ∷ k ∷ ks) vs b (omega arith)

kept_by : {f : Layout} {row : List ℕ} → IsAsked f row → IsRowKept f (column_leaves row) → IsReduced row (outline_at f) (outline_at f)
kept_by s (one_node n full holds) = filled_node s n (λ x a l e. full x (a, e) l) holds
kept_by s (one_run q us ks vs is_q children below) = filled_block s q us ks vs (record {
  is_q = is_q;
  children = children;
  full = λ k o x a l e. below.filled k o x (a, e) l;
  covers = below.covers;
})

-- where the full pass says that the tree keeps the row, the tree is its own reduction by the row
pub kept_reduced : (f : Layout) (row ms os : List ℕ) → IsLayout f → IsOneTree f → HasTwoEach f → IsRow f.columns row → IsSettled f (column_leaves row) ms os Kept → IsReduced row (outline_at f) (outline_at f)
kept_reduced f [] ms os h one two r kept = no_column refl (equivalent_refl (outline_at f))
kept_reduced f (a ∷ row) ms os h one two r kept =
    kept_by {row = a ∷ row} (record { layout = h; one = one; two = two; is_row = r; leaf = a - 1; in_row = occurs_here (a - 1) (column_leaves row) }) kept
