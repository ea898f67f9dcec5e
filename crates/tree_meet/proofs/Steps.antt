-- One node of the walk: the rows of its children and of their neighbours, and the rows that are added.
use Rattle.std.proofs.Common.{◌≡◌, ◌⊎◌, ◌∙◌, ℕ, zero, suc, ◌+◌, ◌-◌, ◌<◌, ◌≤◌, List, [], ◌∷◌, ◌++◌, length, map, get_or, sym, ap, subst, inl, inr, arith, append_assoc, append-nil, length-append}
use Rattle.std.proofs.lemmas.List.{length-map, map-append, get_or-map}
use Rattle.std.specs.declared.vec.Vec.{Vec}
use Rattle.std.specs.declared.alloc.Global.{Global}
use Rattle.column_order.specs.Orders.{occurs}
use Rattle.std.specs.List.{AllByRecursion}
use Rattle.row_model.specs.Rows.{IsRow, RowList}
use Rattle.pq_tree.specs.Outline.{Outline, leaf, leaves, leaves_of}
use Rattle.pq_tree.specs.Proper.{outline_of, forest}
use Rattle.pq_tree.specs.declared.Tree.{Tree, Leaf, P, Q}
use Rattle.tree_meet.specs.TreeRows.{neighbours, groups, groups_of, row_of_group, rows_of_tree}
use Rattle.tree_meet.specs.Marks.{AreMarkedByTree, lists_of, is_at, is_near, ArePartsBy}
use Rattle.tree_meet.proofs.Walked.{parts_rows, pairs_rows, groups_push}
use Rattle.tree_meet.proofs.Fronts.{node_leaves, groups_P, groups_Q, groups_leaf}

-- a node over these children
abbrev pub IsOver : Tree → Vec Tree Global → List Tree → Type 0
IsOver tree v ts = ((tree ≡ P v) ⊎ (tree ≡ Q v)) × (ts ≡ v.items)

module _ (c : ℕ) (marks row : List ℕ) (tree : Tree) (v : Vec Tree Global) (ts us : List Tree) (over : IsOver tree v ts) (again : us ≡ v.items)
    (is : row ≡ row_of_group c (leaves (outline_of tree))) (once : (a : ℕ) → occurs (leaves (outline_of tree)) a ≤ 1)
    (marked : AreMarkedByTree marks 0 (forest (map outline_of ts))) where
  children_leaves : leaves (outline_of tree) ≡ leaves_of (forest (map outline_of ts))
  children_leaves = node_leaves tree v ts over.0 over.1

  children_once : (a : ℕ) → occurs (leaves_of (forest (map outline_of ts))) a ≤ 1
  children_once a = subst (λ (l : List ℕ). occurs l a ≤ 1) children_leaves (once a)

  same : ts ≡ us
  same = over.1 ∙ sym again

  pub node_parts : (count n : ℕ) (lists vecs : List (Vec ℕ Global)) → count ≡ length us → n ≡ c → ArePartsBy is_at marks row count lists → vecs ≡ lists →
      lists_of vecs ≡ map (λ t. row_of_group n (leaves t)) (map outline_of us)
  node_parts count n lists vecs k columns parts e =
      let m : count ≡ length (map outline_of ts) = k ∙ sym (ap (λ (x : List Tree). length x) same) ∙ sym (length-map ts outline_of) in
      ap lists_of e ∙
      parts_rows c marks row (map outline_of ts) (is ∙ ap (row_of_group c) children_leaves) marked children_once lists (subst (λ k. ArePartsBy is_at marks row k lists) m parts) ∙
      ap (λ (xs : List Tree). map (λ t. row_of_group c (leaves t)) (map outline_of xs)) same ∙
      ap (λ (k : ℕ). map (λ t. row_of_group k (leaves t)) (map outline_of us)) (sym columns)

  pub node_pairs : (count n : ℕ) (lists vecs : List (Vec ℕ Global)) → count ≡ length us - 1 → n ≡ c → ArePartsBy is_near marks row count lists → vecs ≡ lists →
      lists_of vecs ≡ map (row_of_group n) (neighbours (forest (map outline_of us)))
  node_pairs count n lists vecs k columns pairs e =
      let m : count ≡ length (map outline_of ts) - 1 = k ∙ ap (λ (i : ℕ). i - 1) (sym (ap (λ (x : List Tree). length x) same) ∙ sym (length-map ts outline_of)) in
      ap lists_of e ∙
      pairs_rows c marks row (map outline_of ts) (is ∙ ap (row_of_group c) children_leaves) marked children_once lists (subst (λ k. ArePartsBy is_near marks row k lists) m pairs) ∙
      ap (λ (xs : List Tree). map (row_of_group c) (neighbours (forest (map outline_of xs)))) same ∙
      ap (λ (k : ℕ). map (row_of_group k) (neighbours (forest (map outline_of us)))) (sym columns)

-- a matrix with further rows
abbrev pub with_rows : RowList → List (List ℕ) → RowList
with_rows m rows = record m { rows = m.rows ++ rows }

with_more : (m : RowList) (rows others : List (List ℕ)) → with_rows (with_rows m rows) others ≡ with_rows m (rows ++ others)
with_more m rows others = ap (λ (x : List (List ℕ)). record m { rows = x }) (append_assoc m.rows rows others)

-- one row more
pub one_row_more : (before after : List (List ℕ)) (row : List ℕ) → after ≡ before ++ row ∷ [] → length after ≡ length before + 1
one_row_more before after row e = ap (λ (rows : List (List ℕ)). length rows) e ∙ length-append before (row ∷ [])

-- a leaf adds no row
pub after_leaf : (m : RowList) (tree : Tree) (a : ℕ) → tree ≡ Leaf a → m ≡ with_rows m (rows_of_tree m.columns (outline_of tree))
after_leaf m tree a e =
    sym (ap (λ (x : List (List ℕ)). record m { rows = x }) (ap (λ (x : List (List ℕ)). m.rows ++ map (row_of_group m.columns) x) (groups_leaf tree a e) ∙ append-nil m.rows))

module _ (m n : RowList) (row : List ℕ) (tree : Tree) (v : Vec Tree Global) (ts : List Tree) (again : ts ≡ v.items)
    (is : row ≡ row_of_group m.columns (leaves (outline_of tree))) (first : n ≡ with_rows m (row ∷ [])) where
  -- a P-node adds its own row and those of its children
  pub after_P : (k : RowList) → tree ≡ P v → k ≡ with_rows n (map (row_of_group n.columns) (groups_of (forest (map outline_of ts)))) →
      k ≡ with_rows m (rows_of_tree m.columns (outline_of tree))
  after_P k e last =
      let own : row ≡ row_of_group m.columns (leaves_of (forest (map outline_of ts))) = is ∙ ap (row_of_group m.columns) (node_leaves tree v ts (inl e) again) in
      let G : List (List ℕ) = map (row_of_group m.columns) (groups_of (forest (map outline_of ts))) in
      last ∙
      ap (λ (x : RowList). with_rows x (map (row_of_group x.columns) (groups_of (forest (map outline_of ts))))) first ∙
      with_more m (row ∷ []) G ∙
      ap (λ (r : List ℕ). with_rows m (r ∷ G)) own ∙
      ap (λ (gs : List (List ℕ)). with_rows m (map (row_of_group m.columns) gs)) (sym (groups_P tree v ts e again))

  -- a Q-node adds besides those of its neighbouring children
  pub after_Q : (p k : RowList) (pairs : List (List ℕ)) → tree ≡ Q v → pairs ≡ map (row_of_group m.columns) (neighbours (forest (map outline_of ts))) →
      p ≡ with_rows n pairs → k ≡ with_rows p (map (row_of_group p.columns) (groups_of (forest (map outline_of ts)))) →
      k ≡ with_rows m (rows_of_tree m.columns (outline_of tree))
  after_Q p k pairs e near second last =
      let own : row ≡ row_of_group m.columns (leaves_of (forest (map outline_of ts))) = is ∙ ap (row_of_group m.columns) (node_leaves tree v ts (inr e) again) in
      let N : List (List ℕ) = neighbours (forest (map outline_of ts)) in
      let G : List (List ℕ) = groups_of (forest (map outline_of ts)) in
      last ∙
      ap (λ (x : RowList). with_rows x (map (row_of_group x.columns) G)) (second ∙ ap (λ (x : RowList). with_rows x pairs) first) ∙
      ap (λ (x : RowList). with_rows x (map (row_of_group m.columns) G)) (with_more m (row ∷ []) pairs) ∙
      with_more m (row ∷ pairs) (map (row_of_group m.columns) G) ∙
      ap (λ (r : List ℕ). with_rows m (r ∷ (pairs ++ map (row_of_group m.columns) G))) own ∙
      ap (λ (x : List (List ℕ)). with_rows m (row_of_group m.columns (leaves_of (forest (map outline_of ts))) ∷ x))
      (ap (λ (x : List (List ℕ)). x ++ map (row_of_group m.columns) G) near ∙ sym (map-append (row_of_group m.columns) N G)) ∙
      ap (λ (gs : List (List ℕ)). with_rows m (map (row_of_group m.columns) gs)) (sym (groups_Q tree v ts e again))

-- the rows of one child more
pub after_child : (m n k : RowList) (ts : List Outline) (t : Outline) → n ≡ with_rows m (map (row_of_group m.columns) (groups_of (forest ts))) →
    k ≡ with_rows n (rows_of_tree n.columns t) → k ≡ with_rows m (map (row_of_group m.columns) (groups_of (forest (ts ++ t ∷ []))))
after_child m n k ts t e last =
    let G : List (List ℕ) = map (row_of_group m.columns) (groups_of (forest ts)) in
    last ∙ ap (λ (x : RowList). with_rows x (rows_of_tree x.columns t)) e ∙ with_more m G (rows_of_tree m.columns t) ∙
    ap (λ (x : List (List ℕ)). with_rows m x) (sym (map-append (row_of_group m.columns) (groups_of (forest ts)) (groups t)) ∙ ap (map (row_of_group m.columns)) (sym (groups_push ts t)))

-- each of the lists is a row
pub row_among : (c : ℕ) (lists : List (Vec ℕ Global)) (i : ℕ) (list : Vec ℕ Global) → i < length lists → list ≡ get_or lists i list → AllByRecursion (IsRow c) (lists_of lists) → IsRow c list.items
row_among c [] i list h e rows = absurd (omega arith)
row_among c (x ∷ lists) zero list h e rows = subst (λ (y : Vec ℕ Global). IsRow c y.items) (sym e) rows.0
row_among c (x ∷ lists) (suc i) list h e rows = row_among c lists i list (omega arith) e rows.1

-- the row of a child, where those of all children are given
pub child_row : (c : ℕ) (ts : List Tree) (lists : List (Vec ℕ Global)) (i : ℕ) (t : Tree) (list : Vec ℕ Global) → i < length ts → t ≡ get_or ts i t →
    list ≡ get_or lists i list → lists_of lists ≡ map (λ t. row_of_group c (leaves t)) (map outline_of ts) → list.items ≡ row_of_group c (leaves (outline_of t))
child_row c ts lists i t list h e f all =
    let outlines : i < length (map outline_of ts) = omega (arith, h, length-map ts outline_of) in
    let count : length lists ≡ length ts =
    sym (length-map lists (λ (x : Vec ℕ Global). x.items)) ∙ ap (λ (l : List (List ℕ)). length l) all ∙ length-map (map outline_of ts) (λ t. row_of_group c (leaves t)) ∙ length-map ts outline_of in
    ap (λ (x : Vec ℕ Global). x.items) f ∙
    sym (get_or-map (λ (x : Vec ℕ Global). x.items) lists i list [] (omega (arith, h, count))) ∙
    ap (λ (l : List (List ℕ)). get_or l i []) all ∙
    get_or-map (λ t. row_of_group c (leaves t)) (map outline_of ts) i (leaf 0) [] outlines ∙
    ap (λ (x : Outline). row_of_group c (leaves x)) (get_or-map outline_of ts i t (leaf 0) h ∙ ap outline_of (sym e))
