-- The nodes of an arena that meet a row are those that the tree counts.
use Rattle.std.proofs.Common.{◌≡◌, inl, inr, ℕ, ◌+◌, ◌≤◌, ◌<◌, Bool, ◌||◌, true, false, cond, List, [], ◌∷◌, ◌++◌, length, IsTrue, refl, sym, ap, subst, ◌∙◌, arith}
use Rattle.std.proofs.lemmas.Bool.{cases_eq, cases_lt}
use Rattle.std.proofs.lemmas.List.{length-append}
use Rattle.column_order.specs.Orders.{occurs, has}
use Rattle.column_order.proofs.Lists.{occurs-append}
use Rattle.row_model.specs.Rows.{IsRow}
use Rattle.row_model.proofs.Ascending.{row_within}
use Rattle.pq_tree.specs.Outline.{leaves_of}
use Rattle.pq_tree.specs.Nodes.{meets}
use Rattle.pq_tree.specs.Amortised.{nodes_met, nodes_met_of}
use Rattle.arena_model.specs.declared.Shape.{Shape}
use Rattle.arena_model.specs.declared.Shape.TheVariants.{Leaf, P, Q}
use Rattle.arena_model.specs.Layout.{Layout, children_at, IsAtOrAbove, here, down, IsInUse, MayHaveChildren, IsLayout}
use Rattle.arena_model.specs.NamedTree.{NamedTree, NamedTrees, named_tree, no_named, named_and, top_names, IsAt, AreAt, node_names, node_names_of, outline_named, outlines_named, outline_below}
use Rattle.arena_model.proofs.Lists.{occurs_here, occurs_other, only_one, shorter}
use Rattle.arena_model.proofs.Trees.{TreeAt, tree_at}
use Rattle.arena_model.proofs.Outlines.{below_tree, leaf_times, named_below}
use Rattle.arena_model.proofs.Rows.{leaf_in_row}
use Rattle.arena_model.specs.RowLeaves.{column_leaves, Meets}
use Rattle.bubble_pass.specs.Fair.{AtMost}

-- a list that has a column of the row meets it
meets_from : (row xs : List ℕ) (a : ℕ) → 1 ≤ occurs xs a → IsTrue (has row a) → meets row xs ≡ true
meets_from row [] a o h = absurd (omega arith)
meets_from row (x ∷ xs) a o h = elim (cases_eq a x) [
  | inl e ↦ ap (λ b. b || meets row xs) (subst (λ z. IsTrue (has row z)) e h)
  | inr ne ↦ by (has row x) (meets_from row xs a (subst (λ z. 1 ≤ z) (occurs_other x a xs ne) o) h)
]
  where
    by : (b : Bool) → meets row xs ≡ true → (b || meets row xs) ≡ true
    by true e = refl
    by false e = e

-- n where the test passes
one_if : Bool → ℕ → List ℕ
one_if true n = n ∷ []
one_if false n = []

one_length : (b : Bool) (n : ℕ) → length (one_if b n) ≡ cond {A = ℕ} b 1 0
unfolding one_if
one_length true n = refl
one_length false n = refl

-- the nodes of the tree that meet the row
unfoldable mutual
  met_names : List ℕ → NamedTree → List ℕ
  met_names row (named_tree n (Leaf a) ts) = one_if (has row a) n
  met_names row (named_tree n P ts) = one_if (meets row (leaves_of (outlines_named ts))) n ++ met_names_of row ts
  met_names row (named_tree n Q ts) = one_if (meets row (leaves_of (outlines_named ts))) n ++ met_names_of row ts

  met_names_of : List ℕ → NamedTrees → List ℕ
  met_names_of row no_named = []
  met_names_of row (named_and t ts) = met_names row t ++ met_names_of row ts

-- they are as many as the tree counts
mutual
  unfolding met_names met_names_of

  met_length : (row : List ℕ) (t : NamedTree) → length (met_names row t) ≡ nodes_met row (outline_named t)
  met_length row (named_tree n (Leaf a) ts) = one_length (has row a) n
  met_length row (named_tree n P ts) =
      omega (arith, length-append (one_if (meets row (leaves_of (outlines_named ts))) n) (met_names_of row ts), one_length (meets row (leaves_of (outlines_named ts))) n, met_length_of row ts)
  met_length row (named_tree n Q ts) =
      omega (arith, length-append (one_if (meets row (leaves_of (outlines_named ts))) n) (met_names_of row ts), one_length (meets row (leaves_of (outlines_named ts))) n, met_length_of row ts)

  met_length_of : (row : List ℕ) (ts : NamedTrees) → length (met_names_of row ts) ≡ nodes_met_of row (outlines_named ts)
  met_length_of row no_named = refl
  met_length_of row (named_and t ts) = omega (arith, length-append (met_names row t) (met_names_of row ts), met_length row t, met_length_of row ts)

one_here : (b : Bool) (n z : ℕ) → b ≡ true → z ≡ n → 1 ≤ occurs (one_if b n) z
unfolding one_if
one_here true n z e q = subst (λ v. 1 ≤ occurs (n ∷ []) v) (sym q) (occurs_here n [])
one_here false n z e q = absurd (cc)

no_names : (ts : NamedTrees) → top_names ts ≡ [] → node_names_of ts ≡ []
no_names no_named e = refl
no_names (named_and t ts) e = absurd (cc)

-- so is an inner node above a leaf of the row, or one of those below it is
met_inner : (f : Layout) (row : List ℕ) (n z x : ℕ) (s : Shape) (ts : NamedTrees) → IsAt f.slots (named_tree n s ts) → 1 ≤ occurs (node_names (named_tree n s ts)) z → IsTrue (has row (x + 1)) → IsAtOrAbove f.slots z x →
    occurs (leaves_of (outlines_named ts)) (x + 1) ≡ occurs (node_names (named_tree n s ts)) x → (1 ≤ occurs (node_names_of ts) z → 1 ≤ occurs (met_names_of row ts) z) →
    1 ≤ occurs (one_if (meets row (leaves_of (outlines_named ts))) n ++ met_names_of row ts) z
met_inner f row n z x s ts i o hx l times below =
    let each : occurs (one_if (meets row (leaves_of (outlines_named ts))) n ++ met_names_of row ts) z ≡ occurs (one_if (meets row (leaves_of (outlines_named ts))) n) z + occurs (met_names_of row ts) z =
    occurs-append (one_if (meets row (leaves_of (outlines_named ts))) n) (met_names_of row ts) z in
    elim (cases_eq z n) [
      | inl e ↦
          let b : 1 ≤ occurs (node_names (named_tree n s ts)) x = named_below f.slots (named_tree n s ts) x i (subst (λ v. IsAtOrAbove f.slots v x) e l) in
          let m : 1 ≤ occurs (one_if (meets row (leaves_of (outlines_named ts))) n) z = one_here (meets row (leaves_of (outlines_named ts))) n z (meets_from row (leaves_of (outlines_named ts)) (x + 1) (omega arith) hx) e in
          omega arith
      | inr ne ↦ let m : 1 ≤ occurs (met_names_of row ts) z = below (subst (λ v. 1 ≤ v) (occurs_other n z (node_names_of ts) ne) o) in omega arith
    ]

-- a node of the tree above a leaf of the row is one of them
mutual
  unfolding met_names met_names_of

  met_has : (f : Layout) (row : List ℕ) (t : NamedTree) (z x : ℕ) → IsLayout f → IsAt f.slots t → 1 ≤ occurs (node_names t) z → x < f.columns → IsTrue (has row (x + 1)) → IsAtOrAbove f.slots z x → 1 ≤ occurs (met_names row t) z
  met_has f row (named_tree n (Leaf a) ts) z x h i o lt hx l =
      let c : children_at f n ≡ [] = subst (λ s. MayHaveChildren s (children_at f n)) (ap (λ s. s.shape) i.0) (h.children_fit n) in
      let zn : z ≡ n = only_one z n (subst (λ ns. 1 ≤ occurs (n ∷ ns) z) (no_names ts (sym (ap (λ s. s.children) i.0) ∙ c)) o) in
      let e : a ≡ n + 1 = (h.no_other_leaf n a (ap (λ s. s.shape) i.0)).0 in
      one_here (has row a) n z (subst (λ v. IsTrue (has row v)) (let q : x + 1 ≡ a = (let k : n ≡ x = alone n x (subst (λ v. IsAtOrAbove f.slots v x) zn l) c in omega arith) in q) hx) zn
    where
      alone : (n y : ℕ) → IsAtOrAbove f.slots n y → children_at f n ≡ [] → n ≡ y
      alone _ _ (here n) e = refl
      alone _ _ (down n k y o l) e = absurd (let z : 1 ≤ occurs [] k = subst (λ v. 1 ≤ occurs v k) e o in omega arith)
  met_has f row (named_tree n P ts) z x h i o lt hx l = met_inner f row n z x P ts i o hx l (leaf_times f (named_tree n P ts) x h i lt) (λ k. met_has_of f row ts z x h i.1 k lt hx l)
  met_has f row (named_tree n Q ts) z x h i o lt hx l = met_inner f row n z x Q ts i o hx l (leaf_times f (named_tree n Q ts) x h i lt) (λ k. met_has_of f row ts z x h i.1 k lt hx l)

  met_has_of : (f : Layout) (row : List ℕ) (ts : NamedTrees) (z x : ℕ) → IsLayout f → AreAt f.slots ts → 1 ≤ occurs (node_names_of ts) z → x < f.columns → IsTrue (has row (x + 1)) → IsAtOrAbove f.slots z x → 1 ≤ occurs (met_names_of row ts) z
  met_has_of f row no_named z x h i o lt hx l = absurd (omega arith)
  met_has_of f row (named_and t ts) z x h i o lt hx l = elim (cases_lt 0 (occurs (node_names t) z)) [
    | inl k ↦ let m : 1 ≤ occurs (met_names row t) z = met_has f row t z x h i.0 k lt hx l in omega (arith, occurs-append (met_names row t) (met_names_of row ts) z)
    | inr k ↦ let m : 1 ≤ occurs (met_names_of row ts) z = met_has_of f row ts z x h i.1 (omega (arith, occurs-append (node_names t) (node_names_of ts) z)) lt hx l in
        omega (arith, occurs-append (met_names row t) (met_names_of row ts) z)
  ]

-- no more nodes at or below n meet the row than the tree there counts
pub at_most_met : (f : Layout) (row : List ℕ) (n : ℕ) → IsLayout f → IsInUse f n → IsRow f.columns row → AtMost f (column_leaves row) n (nodes_met row (outline_below f n))
at_most_met f row n h used r = λ xs once each.
    let t : TreeAt f n = tree_at f n h used in
    let few : length xs ≤ length (met_names row t.it) = shorter xs (met_names row t.it) (λ z. elim (cases_lt 0 (occurs xs z)) [
      | inr l ↦ omega arith
      | inl o ↦
          let e = each z o in
          let m : Meets f (column_leaves row) z = e.0 in
          let i = leaf_in_row f row m.0 (row_within f.columns row r) m.1 in
          let k : 1 ≤ occurs (node_names t.it) z = named_below f.slots t.it z t.is (subst (λ v. IsAtOrAbove f.slots v z) (sym t.named) e.1) in
          let y : 1 ≤ occurs (met_names row t.it) z = met_has f row t.it z m.0 h t.is k i.0 i.1 m.2 in
          let one : occurs xs z ≤ 1 = once z in omega arith
    ]) in
    omega (arith, met_length row t.it, ap (nodes_met row) (below_tree f n h t))
