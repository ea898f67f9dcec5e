-- The labelled nodes in their order, children first.
use Rattle.std.proofs.Common.{◌≡◌, ◌≢◌, ◌⊎◌, inl, inr, ℕ, zero, suc, ◌+◌, ◌≤◌, ◌<◌, List, [], ◌∷◌, length, take, get_or, Some, refl, sym, ap, subst, arith}
use Rattle.std.proofs.lemmas.Bool.{cases_eq, cases_lt}
use Rattle.column_order.specs.Orders.{occurs}
use Rattle.row_model.specs.Rows.{IsRow}
use Rattle.row_model.proofs.Ascending.{row_within}
use Rattle.arena_model.specs.ChildLists.{none}
use Rattle.arena_model.specs.declared.Shape.TheVariants.{Leaf}
use Rattle.arena_model.specs.Layout.{Layout, shape_at, children_at, IsInUse, IsLayout, IsAtOrAbove, here, down}
use Rattle.arena_model.specs.NamedTree.{node_names}
use Rattle.arena_model.proofs.Lists.{occurs_here, occurs_other, occurs_same}
use Rattle.arena_model.proofs.Paths.{above_step}
use Rattle.arena_model.proofs.Trees.{TreeAt, tree_at, reached, no_circle}
use Rattle.arena_model.proofs.Outlines.{named_below}
use Rattle.pq_arena.specs.RowNodes.{column_leaves}
use Rattle.bubble_pass.specs.declared.labels.Label.{Label as Mark}
use Rattle.bubble_pass.specs.declared.labels.Label.TheVariants.{Empty, Partial, Full}
use Rattle.bubble_pass.specs.Marks.{Marks, label_at}
use Rattle.bubble_pass.specs.Pass.{node_in}
use Rattle.bubble_pass.specs.Sweep.{IsRight}
use Rattle.template_model.proofs.Replaced.{join_paths, below_used}
use Rattle.row_reduce.specs.Ground.{IsGround}
use Rattle.row_reduce.specs.Applying.{IsStanding}
use Rattle.arena_model.proofs.Rows.{leaf_in_row}
use Rattle.row_reduce.proofs.Marking.{AreRight}
use Rattle.row_reduce.proofs.Answering.{meets_row}

-- whether a node is below another
pub below_cases : (f : Layout) (q n : ℕ) → IsLayout f → IsInUse f q → IsAtOrAbove f.slots q n ⊎ (IsAtOrAbove f.slots q n → ⊥)
below_cases f q n h used =
    let t : TreeAt f q = tree_at f q h used in
    elim (cases_lt 0 (occurs (node_names t.it) n)) [
      | inl l ↦ inl (subst (λ z. IsAtOrAbove f.slots z n) t.named (reached f.slots t.it n t.is l))
      | inr l ↦ inr (λ p. let z : 1 ≤ occurs (node_names t.it) n = named_below f.slots t.it n t.is (subst (λ z. IsAtOrAbove f.slots z n) (sym t.named) p) in absurd (omega arith))
    ]

pub is_empty : (m : Mark) → (m ≡ Empty) ⊎ (m ≢ Empty)
is_empty Empty = inl refl
is_empty Partial = inr (λ e. absurd (cc))
is_empty Full = inr (λ e. absurd (cc))

-- a labelled node is at or below the pertinent root
pub labelled_below : {f : Layout} {v : Marks} {row : List ℕ} {q : ℕ} → IsGround f v row q → (n : ℕ) → label_at v n ≢ Empty → IsAtOrAbove f.slots q n
labelled_below {f = f} {q = q} s n some = elim (below_cases f q n s.layout s.used) [ inl l ↦ l | inr lacks ↦ absurd (some (s.marked.outside n lacks)) ]

-- the label of a child of a node at or below the pertinent root is right
pub right_child : {f : Layout} {v : Marks} {row : List ℕ} {q : ℕ} → IsGround f v row q → (n k : ℕ) → IsAtOrAbove f.slots q n → 1 ≤ occurs (children_at f n) k → IsRight f (column_leaves row) k (label_at v k)
right_child {f = f} {q = q} s n k l o = s.marked.right k (above_step f.slots q n k l o)
    (λ e. no_circle f.slots n k (s.layout.grounds n) o (subst (λ z. IsAtOrAbove f.slots z n) (sym e) l))

-- the labels at a labelled node below the pertinent root and at its children are right
pub right_at : {f : Layout} {v : Marks} {row : List ℕ} {q : ℕ} → IsGround f v row q → (n : ℕ) → label_at v n ≢ Empty → n ≢ q → AreRight f (column_leaves row) (label_at v) n
right_at {f = f} {q = q} s n some ne =
    let l : IsAtOrAbove f.slots q n = labelled_below s n some in
    record {
      used = below_used f q n s.layout s.used l;
      own = s.marked.right n l ne;
      of_children = λ k o. right_child s n k l o;
    }

-- each number of a row is a leaf
pub row_leaf_at : (f : Layout) (row : List ℕ) → IsLayout f → IsRow f.columns row → (x : ℕ) → 1 ≤ occurs (column_leaves row) x → (a : ℕ) × (shape_at f x ≡ Some (Leaf a))
row_leaf_at f row layout is_row x o = (x + 1, layout.leaves x (leaf_in_row f row x (row_within f.columns row is_row) o).0)

pub row_leaf : {f : Layout} {v : Marks} {row : List ℕ} {q : ℕ} → IsGround f v row q → (x : ℕ) → 1 ≤ occurs (column_leaves row) x → (a : ℕ) × (shape_at f x ≡ Some (Leaf a))
row_leaf {f = f} {row = row} s x o = row_leaf_at f row s.layout s.is_row x o

-- a node above a labelled one, below the pertinent root, is labelled
pub above_labelled : {f : Layout} {v : Marks} {row : List ℕ} {q : ℕ} → IsGround f v row q → (k n : ℕ) → IsAtOrAbove f.slots q k → k ≢ q → n ≢ q → IsAtOrAbove f.slots k n → label_at v n ≢ Empty → label_at v k ≢ Empty
above_labelled {f = f} {v = v} {row = row} {q = q} s k n lk nk nn l some e =
    let r : AreRight f (column_leaves row) (label_at v) n = right_at s n some nn in
    let m = meets_row f (column_leaves row) n (label_at v n) s.layout s.two r.used r.own some in
    let miss : IsRight f (column_leaves row) k Empty = subst (λ z. IsRight f (column_leaves row) k z) e (s.marked.right k lk nk) in
    miss m.0 (join_paths f.slots k n m.0 l m.1) m.2

occurs_get : (xs : List ℕ) (i d : ℕ) → i < length xs → 1 ≤ occurs xs (get_or xs i d)
occurs_get [] i d l = absurd (omega arith)
occurs_get (x ∷ xs) zero d l = occurs_here x xs
occurs_get (x ∷ xs) (suc i) d l = let r : 1 ≤ occurs xs (get_or xs i d) = occurs_get xs i d (omega arith) in omega arith

-- the place of a node among the first i of a list
pub taken_at : (xs : List ℕ) (i x : ℕ) → 1 ≤ occurs (take i xs) x → (j : ℕ) × (j < i) × (j < length xs) × (get_or xs j none ≡ x)
taken_at [] zero x o = absurd (omega arith)
taken_at [] (suc i) x o = absurd (omega arith)
taken_at (y ∷ xs) zero x o = absurd (omega arith)
taken_at (y ∷ xs) (suc i) x o = elim (cases_eq x y) [
  | inl e ↦ (0, omega arith, omega arith, sym e)
  | inr ne ↦ let r = taken_at xs i x (subst (λ z. 1 ≤ z) (occurs_other y x (take i xs) ne) o) in
      let a : r.0 < i = r.1 in let b : r.0 < length xs = r.2 in (suc r.0, omega arith, omega arith, r.3)
]

pub taken_has : (xs : List ℕ) (i j : ℕ) → j < i → j < length xs → 1 ≤ occurs (take i xs) (get_or xs j none)
taken_has [] i j l m = absurd (omega arith)
taken_has (y ∷ xs) zero j l m = absurd (omega arith)
taken_has (y ∷ xs) (suc i) zero l m = occurs_here y (take i xs)
taken_has (y ∷ xs) (suc i) (suc j) l m = let r : 1 ≤ occurs (take i xs) (get_or xs j none) = taken_has xs i j (omega arith) (omega arith) in omega arith

-- in a list without repeats two places have two nodes
pub once_at : (xs : List ℕ) (i j : ℕ) → ((x : ℕ) → occurs xs x ≤ 1) → i < length xs → j < length xs → get_or xs i none ≡ get_or xs j none → i ≡ j
once_at [] i j once li lj e = absurd (omega arith)
once_at (x ∷ xs) zero zero once li lj e = refl
once_at (x ∷ xs) zero (suc j) once li lj e = absurd (
    let o : occurs (x ∷ xs) x ≤ 1 = once x in
    let h : 1 ≤ occurs xs x = subst (λ z. 1 ≤ occurs xs z) (sym e) (occurs_get xs j none (omega arith)) in omega (arith, occurs_same x xs))
once_at (x ∷ xs) (suc i) zero once li lj e = absurd (
    let o : occurs (x ∷ xs) x ≤ 1 = once x in
    let h : 1 ≤ occurs xs x = subst (λ z. 1 ≤ occurs xs z) e (occurs_get xs i none (omega arith)) in omega (arith, occurs_same x xs))
once_at (x ∷ xs) (suc i) (suc j) once li lj e =
    let r : i ≡ j = once_at xs i j (λ y. let o : occurs (x ∷ xs) y ≤ 1 = once y in omega arith) (omega arith) (omega arith) e in ap suc r

-- the node at a place is labelled
pub node_labelled : {f : Layout} {v : Marks} {row : List ℕ} {q : ℕ} → IsGround f v row q → (i : ℕ) → i < length v.nodes → label_at v (node_in v i) ≢ Empty
node_labelled {v = v} s i l = s.marked.listed (node_in v i) (occurs_get v.nodes i none l)

-- a labelled node at or below the one at place j has a place up to j
pub places_down : {f : Layout} {v : Marks} {row : List ℕ} {q : ℕ} → IsGround f v row q → (y n : ℕ) → IsAtOrAbove f.slots y n → (j : ℕ) → j < length v.nodes → node_in v j ≡ y → n ≢ q → label_at v n ≢ Empty →
    (i : ℕ) × (i ≤ j) × (node_in v i ≡ n)
places_down s _ _ (here y) j l e nn some = (j, omega arith, e)
places_down {f = f} {v = v} {q = q} s _ _ (down y k n o p) j l e nn some =
    let ly : IsAtOrAbove f.slots q y = labelled_below s y (subst (λ z. label_at v z ≢ Empty) e (node_labelled s j l)) in
    let lk : IsAtOrAbove f.slots q k = above_step f.slots q y k ly o in
    let nk : k ≢ q = (λ z. no_circle f.slots y k (s.layout.grounds y) o (subst (λ z. IsAtOrAbove f.slots z y) (sym z) ly)) in
    let sk : label_at v k ≢ Empty = above_labelled s k n lk nk nn p some in
    let before = s.marked.order j k l (subst (λ z. 1 ≤ occurs (children_at f z) k) (sym e) o) sk in
    let lt : before.0 < j = before.1 in
    let r = places_down s k n p before.0 (omega arith) before.2 nn some in
    let le : r.0 ≤ before.0 = r.1 in
    (r.0, omega arith, r.2)

-- the node at place i stands while those before it are done
pub node_stands : {f : Layout} {v : Marks} {row : List ℕ} {q : ℕ} → IsGround f v row q → (i : ℕ) → i < length v.nodes → node_in v i ≢ q → IsStanding f (take i v.nodes) (node_in v i)
node_stands {f = f} {v = v} {q = q} s i l ne = record {
  used = (right_at s (node_in v i) (node_labelled s i l) ne).used;
  clear = λ y o p.
      let t = taken_at v.nodes i y o in
      let lt : t.0 < i = t.1 in let len : t.0 < length v.nodes = t.2 in
      let r = places_down s y (node_in v i) p t.0 len t.3 ne (node_labelled s i l) in
      let le : r.0 ≤ t.0 = r.1 in
      let e : r.0 ≡ i = once_at v.nodes r.0 i s.marked.once (omega arith) l r.2 in
      absurd (omega arith);
}

-- its labelled children are done
pub child_done : {f : Layout} {v : Marks} {row : List ℕ} {q : ℕ} → IsGround f v row q → (i k : ℕ) → i < length v.nodes → 1 ≤ occurs (children_at f (node_in v i)) k → label_at v k ≢ Empty →
    1 ≤ occurs (take i v.nodes) k
child_done {v = v} s i k l o some =
    let b = s.marked.order i k l o some in
    let lt : b.0 < i = b.1 in
    subst (λ z. 1 ≤ occurs (take i v.nodes) z) b.2 (taken_has v.nodes i b.0 lt (omega arith))

-- a done node is labelled
pub done_labelled : {f : Layout} {v : Marks} {row : List ℕ} {q : ℕ} → IsGround f v row q → (i y : ℕ) → 1 ≤ occurs (take i v.nodes) y → label_at v y ≢ Empty
done_labelled {v = v} s i y o = let t = taken_at v.nodes i y o in subst (λ z. label_at v z ≢ Empty) t.3 (node_labelled s t.0 t.2)

-- no done node is below a child without a label
pub none_below : {f : Layout} {v : Marks} {row : List ℕ} {q : ℕ} → IsGround f v row q → (i k : ℕ) → IsAtOrAbove f.slots q k → k ≢ q → label_at v k ≡ Empty → (y : ℕ) → y ≢ q → 1 ≤ occurs (take i v.nodes) y → IsAtOrAbove f.slots k y → ⊥
none_below s i k l ne e y ny o p = above_labelled s k y l ne ny p (done_labelled s i y o) e
