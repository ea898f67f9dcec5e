-- The leaves below a node, and the tree of a node that the row misses.
use Rattle.std.proofs.Common.{◌≡◌, inl, inr, ℕ, ◌+◌, ◌≤◌, List, [], ◌∷◌, length, Option, Some, None, IsTrue, refl, sym, ap, subst, ◌∙◌, arith}
use Rattle.std.proofs.lemmas.Bool.{cases_lt}
use Rattle.column_order.specs.Orders.{occurs, has}
use Rattle.column_order.proofs.Lists.{lacks_from_occurs, occurs-append}
use Rattle.row_model.specs.Rows.{IsRow}
use Rattle.row_model.proofs.Ascending.{row_within}
use Rattle.pq_tree.specs.Outline.{Forest}
use Rattle.tree_theory.specs.Templates.{Label, empty_label, AreAllEmpty, none_sorted, to_empty}
use Rattle.tree_theory.specs.Chosen.{p_empty, q_empty}
use Rattle.tree_theory.specs.Reduced.{IsLabel, AreLabels}
use Rattle.arena_model.specs.declared.Shape.{Shape}
use Rattle.arena_model.specs.declared.Shape.TheVariants.{Leaf, P, Q}
use Rattle.arena_model.specs.Layout.{Layout, shape_at, children_at, IsGrounded, grounded, IsInUse, IsLayout, IsAtOrAbove, here, down}
use Rattle.arena_model.specs.NamedTree.{NamedTree, NamedTrees, named_tree, no_named, named_and, IsAt, AreAt, node_names, node_names_of, outline_named, outlines_named, outline_below, HasTwoEach}
use Rattle.arena_model.proofs.Lists.{occurs_here}
use Rattle.arena_model.proofs.Trees.{TreeAt, tree_at, reached}
use Rattle.arena_model.proofs.Outlines.{below_tree}
use Rattle.arena_model.specs.RowLeaves.{column_leaves}
use Rattle.arena_model.proofs.Rows.{row_occurs, leaf_in_row}
use Rattle.bubble_pass.specs.declared.labels.Label.TheVariants.{Empty, Full}
use Rattle.bubble_pass.specs.Sweep.{IsRight}
use Rattle.arena_model.proofs.Slots.{child_used}

-- a leaf below a node
pub record LeafBelow (f : Layout) (n : ℕ) : Type 0 where
  pub x : ℕ
  pub column : ℕ
  pub below : IsAtOrAbove f.slots n x
  pub leaf : shape_at f x ≡ Some (Leaf column)

first_child : (ks : List ℕ) → 2 ≤ length ks → (k : ℕ) × (1 ≤ occurs ks k)
first_child [] l = absurd (omega arith)
first_child (k ∷ ks) l = (k, occurs_here k ks)

leaf_by : (f : Layout) (n : ℕ) → HasTwoEach f → ((k : ℕ) → 1 ≤ occurs (children_at f n) k → LeafBelow f k) →
    (o : Option Shape) → shape_at f n ≡ o → IsInUse f n → LeafBelow f n
leaf_by f n two below None e u = absurd (u e)
leaf_by f n two below (Some (Leaf a)) e u = record { x = n; column = a; below = here n; leaf = e }
leaf_by f n two below (Some P) e u = let k = first_child (children_at f n) (two n (inl e)) in
    let r : LeafBelow f k.0 = below k.0 k.1 in record { x = r.x; column = r.column; below = down n k.0 r.x k.1 r.below; leaf = r.leaf }
leaf_by f n two below (Some Q) e u = let k = first_child (children_at f n) (two n (inr e)) in
    let r : LeafBelow f k.0 = below k.0 k.1 in record { x = r.x; column = r.column; below = down n k.0 r.x k.1 r.below; leaf = r.leaf }

leaf_from : (f : Layout) (n : ℕ) → IsLayout f → HasTwoEach f → IsGrounded f.slots n → IsInUse f n → LeafBelow f n
leaf_from f _ h two (grounded n below) u = leaf_by f n two (λ k o. leaf_from f k h two (below k o) (child_used f n k h o)) (shape_at f n) refl u

pub leaf_below : (f : Layout) (n : ℕ) → IsLayout f → HasTwoEach f → IsInUse f n → LeafBelow f n
leaf_below f n h two used = leaf_from f n h two (h.grounds n) used

-- labels of trees without a column of the row
record Empties (row : List ℕ) (ts : Forest) : Type 0 where
  ps : List Label
  labels : AreLabels row ts ps
  all : AreAllEmpty ts ps

mutual
  empty_named : (f : Layout) (row : List ℕ) (t : NamedTree) → IsLayout f → IsRow f.columns row → IsAt f.slots t →
      ((x : ℕ) → 1 ≤ occurs (node_names t) x → occurs (column_leaves row) x ≡ 0) → IsLabel row (outline_named t) empty_label
  empty_named f row (named_tree n (Leaf a) ts) h r i miss =
      let l = h.no_other_leaf n a (ap (λ c. c.shape) i.0) in
      let e : a ≡ n + 1 = l.0 in
      let z : occurs (column_leaves row) n ≡ 0 = miss n (occurs_here n (node_names_of ts)) in
      let o : occurs row (n + 1) ≡ 0 = sym (row_occurs f.columns row n (row_within f.columns row r)) ∙ z in
      inr (lacks_from_occurs row a (subst (λ y. occurs row y ≡ 0) (sym e) o), refl)
  empty_named f row (named_tree n P ts) h r i miss =
      let s : Empties row (outlines_named ts) = empties_named f row ts h r i.1 (λ x o. miss x (omega arith)) in
      (s.ps, empty_label, s.labels, p_empty s.all, refl)
  empty_named f row (named_tree n Q ts) h r i miss =
      let s : Empties row (outlines_named ts) = empties_named f row ts h r i.1 (λ x o. miss x (omega arith)) in
      (s.ps, empty_label, s.labels, q_empty s.all, refl)

  empties_named : (f : Layout) (row : List ℕ) (ts : NamedTrees) → IsLayout f → IsRow f.columns row → AreAt f.slots ts →
      ((x : ℕ) → 1 ≤ occurs (node_names_of ts) x → occurs (column_leaves row) x ≡ 0) → Empties row (outlines_named ts)
  empties_named f row no_named h r i miss = record { ps = []; labels = tt; all = none_sorted }
  empties_named f row (named_and t ts) h r i miss =
      let s : Empties row (outlines_named ts) = empties_named f row ts h r i.1 (λ x o. miss x (omega (arith, occurs-append (node_names t) (node_names_of ts) x))) in
      record {
        ps = empty_label ∷ s.ps;
        labels = (empty_named f row t h r i.0 (λ x o. miss x (omega (arith, occurs-append (node_names t) (node_names_of ts) x))), s.labels);
        all = to_empty s.all;
      }

-- the tree at a node that the row misses has the empty label
pub empty_is : (f : Layout) (row : List ℕ) (k : ℕ) → IsLayout f → IsRow f.columns row → IsInUse f k → IsRight f (column_leaves row) k Empty → IsLabel row (outline_below f k) empty_label
empty_is f row k h r used right =
    let t : TreeAt f k = tree_at f k h used in
    subst (λ z. IsLabel row z empty_label) (sym (below_tree f k h t))
    (empty_named f row t.it h r t.is (λ x o. elim (cases_lt 0 (occurs (column_leaves row) x)) [
      | inl l ↦ absurd (right x (subst (λ z. IsAtOrAbove f.slots z x) t.named (reached f.slots t.it x t.is o)) l)
      | inr l ↦ omega arith
    ]))

-- a full leaf has its column in the row
pub full_leaf : (f : Layout) (row : List ℕ) (n a : ℕ) → IsLayout f → IsRow f.columns row → shape_at f n ≡ Some (Leaf a) → IsRight f (column_leaves row) n Full → IsTrue (has row a)
full_leaf f row n a h r e right =
    let l = h.no_other_leaf n a e in
    let q : a ≡ n + 1 = l.0 in
    subst (λ y. IsTrue (has row y)) (sym q) (leaf_in_row f row n (row_within f.columns row r) (right n a (here n) e)).1
