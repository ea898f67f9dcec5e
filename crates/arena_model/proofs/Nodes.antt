-- The tree at a node as a node of the trees above it, and the smallest node that holds a row.
use Rattle.std.proofs.Common.{◌≡◌, ◌≢◌, inl, inr, ℕ, ◌+◌, ◌-◌, ◌≤◌, ◌<◌, List, [], ◌∷◌, map, Some, IsTrue, sym, ap, subst, ◌∙◌, arith}
use Rattle.std.proofs.lemmas.Bool.{cases_eq, cases_Bool}
use Rattle.column_order.specs.Orders.{occurs, has, IsWithin}
use Rattle.column_order.proofs.Lists.{has_from_occurs, occurs_from_has}
use Rattle.pq_tree.specs.Outline.{Outline, leaves}
use Rattle.pq_tree.specs.Forests.{forest}
use Rattle.pq_tree.specs.Nodes.{IsNode, IsNodeOf, children, holds, NoneHolds, IsPertinentRoot}
use Rattle.pq_tree.proofs.Nodes.{node_itself, node_below, holds_each, holds_from}
use Rattle.arena_model.specs.declared.Shape.{Shape}
use Rattle.arena_model.specs.declared.Shape.TheVariants.{Leaf, P, Q}
use Rattle.arena_model.specs.Layout.{Layout, shape_at, children_at, IsAtOrAbove, here, down, IsInUse, MayHaveChildren, IsLayout}
use Rattle.arena_model.specs.NamedTree.{node_names, outline_named, outline_below, outline_at, IsOneTree}
use Rattle.arena_model.specs.RowLeaves.{column_leaves, Holds}
use Rattle.arena_model.proofs.Lists.{occurs_here, occurs_other}
use Rattle.arena_model.proofs.Slots.{child_used}
use Rattle.arena_model.proofs.Trees.{TreeAt, some_of, tree_at, reached}
use Rattle.arena_model.proofs.Outlines.{below_tree, below_children, leaf_times, first_step, named_below}
use Rattle.arena_model.proofs.Rows.{leaf_in_row, row_leaf}

-- the leaf of a column is at or below the node that has the column
pub below_has : (f : Layout) (n x : ℕ) → IsLayout f → IsInUse f n → x < f.columns → IsTrue (has (leaves (outline_below f n)) (x + 1)) → IsAtOrAbove f.slots n x
below_has f n x h used lt o =
    let t : TreeAt f n = tree_at f n h used in
    let e : occurs (leaves (outline_named t.it)) (x + 1) ≡ occurs (node_names t.it) x = leaf_times f t.it x h t.is lt in
    let i : 1 ≤ occurs (leaves (outline_named t.it)) (x + 1) = occurs_from_has (leaves (outline_named t.it)) (x + 1) (subst (λ z. IsTrue (has (leaves z) (x + 1))) (below_tree f n h t) o) in
    subst (λ z. IsAtOrAbove f.slots z x) t.named (reached f.slots t.it x t.is (omega arith))

pub has_below : (f : Layout) (n x : ℕ) → IsLayout f → IsInUse f n → x < f.columns → IsAtOrAbove f.slots n x → IsTrue (has (leaves (outline_below f n)) (x + 1))
has_below f n x h used lt l =
    let t : TreeAt f n = tree_at f n h used in
    let e : occurs (leaves (outline_named t.it)) (x + 1) ≡ occurs (node_names t.it) x = leaf_times f t.it x h t.is lt in
    let o : 1 ≤ occurs (node_names t.it) x = named_below f.slots t.it x t.is (subst (λ z. IsAtOrAbove f.slots z x) (sym t.named) l) in
    subst (λ z. IsTrue (has (leaves z) (x + 1))) (sym (below_tree f n h t)) (has_from_occurs (leaves (outline_named t.it)) (x + 1) (omega arith))

-- the tree at a node holds the row where the node does
pub holds_outline : (f : Layout) (row : List ℕ) (n : ℕ) → IsLayout f → IsInUse f n → IsWithin f.columns row → Holds f (column_leaves row) n → IsTrue (holds row (outline_below f n))
holds_outline f row n h used w hn = holds_from row (outline_below f n) (λ a o.
    let i = row_leaf f row a w o in
    let lo : 1 ≤ a = i.1 in let hi : a ≤ f.columns = i.2 in
    let k : a - 1 + 1 ≡ a = omega arith in
    subst (λ z. IsTrue (has (leaves (outline_below f n)) z)) k (has_below f n (a - 1) h used (omega arith) (hn (a - 1) i.0)))

pub outline_holds : (f : Layout) (row : List ℕ) (n : ℕ) → IsLayout f → IsInUse f n → IsWithin f.columns row → IsTrue (holds row (outline_below f n)) → Holds f (column_leaves row) n
outline_holds f row n h used w o = λ x ox.
    let i = leaf_in_row f row x w ox in
    below_has f n x h used i.0 (holds_each row (outline_below f n) o (x + 1) i.1)

-- a tree is one of those of its list
node_among : (f : Layout) (ks : List ℕ) (k : ℕ) (x : Outline) → 1 ≤ occurs ks k → IsNode x (outline_below f k) → IsNodeOf x (forest (map (outline_below f) ks))
node_among f [] k x o n = absurd (omega arith)
node_among f (j ∷ ks) k x o n = elim (cases_eq k j) [
  | inl e ↦ inl (subst (λ z. IsNode x (outline_below f z)) e n)
  | inr ne ↦ inr (node_among f ks k x (subst (λ z. 1 ≤ z) (occurs_other j k ks ne) o) n)
]

-- the children of the tree at a node are the trees at its children
children_outline : (f : Layout) (n : ℕ) → IsLayout f → IsInUse f n → children (outline_below f n) ≡ forest (map (outline_below f) (children_at f n))
children_outline f n h used = by s.0 s.1
  where
    s : (s : Shape) × (shape_at f n ≡ Some s)
    s = some_of (shape_at f n) used

    by : (s : Shape) → shape_at f n ≡ Some s → children (outline_below f n) ≡ forest (map (outline_below f) (children_at f n))
    by (Leaf a) e =
        let bare : children_at f n ≡ [] = subst (λ z. MayHaveChildren z (children_at f n)) e (h.children_fit n) in
        ap children (below_children f n (Leaf a) h e) ∙ ap (λ ks. forest (map (outline_below f) ks)) (sym bare)
    by P e = ap children (below_children f n P h e)
    by Q e = ap children (below_children f n Q h e)

-- the tree at a node below another is among the trees of its children
node_of_children : (f : Layout) (p k : ℕ) (x : Outline) → IsLayout f → IsInUse f p → 1 ≤ occurs (children_at f p) k → IsNode x (outline_below f k) → IsNodeOf x (children (outline_below f p))
node_of_children f p k x h used o i = subst (λ z. IsNodeOf x z) (sym (children_outline f p h used)) (node_among f (children_at f p) k x o i)

-- the tree at a node is a node of the tree above it
pub node_at_or_above : (f : Layout) (p n : ℕ) → IsLayout f → IsInUse f p → IsAtOrAbove f.slots p n → IsNode (outline_below f n) (outline_below f p)
node_at_or_above f _ _ h used (here n) = node_itself (outline_below f n)
node_at_or_above f _ _ h used (down p k n o l) =
    node_below (outline_below f n) (outline_below f p) (node_of_children f p k (outline_below f n) h used o (node_at_or_above f k n h (child_used f p k h o) l))

-- and of the trees of its children, where it is not that node
pub node_below_it : (f : Layout) (p n : ℕ) → IsLayout f → IsInUse f p → IsAtOrAbove f.slots p n → n ≢ p → IsNodeOf (outline_below f n) (children (outline_below f p))
node_below_it f p n h used l ne = elim (first_step f.slots p n l) [
  | inl e ↦ absurd (ne e)
  | inr s ↦ node_of_children f p s.0 (outline_below f n) h used s.1 (node_at_or_above f s.0 n h (child_used f p s.0 h s.1) s.2)
]

none_holds : (f : Layout) (row ks : List ℕ) → IsLayout f → IsWithin f.columns row → ((k : ℕ) → 1 ≤ occurs ks k → IsInUse f k × (Holds f (column_leaves row) k → ⊥)) → NoneHolds row (forest (map (outline_below f) ks))
none_holds f row [] h w no_one = tt
none_holds f row (k ∷ ks) h w no_one = (
  elim (cases_Bool (holds row (outline_below f k))) [
    | inl y ↦ let p = no_one k (occurs_here k ks) in absurd (p.1 (outline_holds f row k h p.0 w y))
    | inr y ↦ y
  ],
  none_holds f row ks h w (λ j o. no_one j (omega arith)),
)

-- the tree at the smallest node that holds the row is the pertinent root of the tree
pub root_is : (f : Layout) (row : List ℕ) (q : ℕ) → IsLayout f → IsOneTree f → IsWithin f.columns row → IsInUse f q → Holds f (column_leaves row) q →
    ((k : ℕ) → 1 ≤ occurs (children_at f q) k → Holds f (column_leaves row) k → ⊥) → IsPertinentRoot row (outline_at f) (outline_below f q)
root_is f row q h one w used holds_q least = record {
  node = node_at_or_above f f.root q h h.root_used (one q used);
  whole = holds_outline f row q h used w holds_q;
  smallest = subst (λ z. NoneHolds row z) (sym (children_outline f q h used)) (none_holds f row (children_at f q) h w (λ k o. (child_used f q k h o, least k o)));
}
