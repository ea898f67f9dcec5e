-- Each frontier of the tree is an order of the arena's leaves.
use Rattle.std.proofs.Common.{◌≡◌, inl, inr, ℕ, zero, suc, ◌+◌, ◌<◌, List, [], ◌∷◌, ◌++◌, length, map, reverse, get_or, sum_by, Some, IsTrue, IsPermutation, refl, sym, ap, subst, ◌∙◌, arith}
use Rattle.std.proofs.lemmas.List.{length-map, length-append, map-append, append_assoc, reverse-append}
use Rattle.std.proofs.lemmas.List.Sums.{sum_by-cons}
use Rattle.std.proofs.lemmas.List.Elements.{All-from_recursion, recursion_from_All}
use Rattle.std.proofs.lemmas.List.Sorted.{All-permutation, IsPermutation-reverse, sum_by-IsPermutation}
use Rattle.std.specs.List.{AllByRecursion, concat}
use Rattle.column_order.specs.Orders.{occurs, has, IsWithin}
use Rattle.column_order.specs.Orders
use Rattle.column_order.proofs.Lists.{occurs_from_has}
use Rattle.row_model.specs.Rows.{IsRow}
use Rattle.row_model.proofs.Ascending.{row_within}
use Rattle.pq_tree.specs.Outline.{IsFrontier, AreFrontiers}
use Rattle.pq_tree.proofs.Frontiers.{permuted_map}
use Rattle.arena_model.specs.declared.Shape.TheVariants.{Leaf, P, Q}
use Rattle.arena_model.specs.Layout.{Layout, shape_at, children_at, IsLayout}
use Rattle.arena_model.specs.NamedTree.{NamedTree, NamedTrees, named_tree, no_named, named_and, top_name, top_names, IsAt, AreAt, outline_named, outlines_named, outline_at}
use Rattle.arena_model.specs.RowLeaves.{column_leaves}
use Rattle.arena_model.proofs.Trees.{TreeAt, tree_at}
use Rattle.arena_model.proofs.Outlines.{below_tree}
use Rattle.arena_model.proofs.Rows.{row_occurs, leaf_in_row}
use Rattle.bubble_pass.specs.Found.{Fronts, FrontsOf, front_leaf, front_p, front_q, front_back, no_fronts, and_fronts, StandsTogether, Split}

-- the columns of leaves
abbrev columns_at : List ℕ → List ℕ
columns_at nodes = map suc nodes

-- a node beside an order of the leaves below it
abbrev Pair : Type 0
Pair = ℕ × List ℕ

abbrev node_in : Pair → ℕ
node_in p = p.0

abbrev order_in : Pair → List ℕ
order_in p = p.1

abbrev front_in : Pair → List ℕ
front_in p = columns_at p.1

abbrev Fits : Layout → Pair → Type 0
Fits f p = Fronts f p.0 p.1

-- an order of the leaves below n whose columns are o
record Front (f : Layout) (n : ℕ) (o : List ℕ) : Type 0 where
  nodes : List ℕ
  is : Fronts f n nodes
  columns : o ≡ columns_at nodes

record Frontal (f : Layout) (ks : List ℕ) (fs : List (List ℕ)) : Type 0 where
  pairs : List Pair
  tops : map node_in pairs ≡ ks
  lists : fs ≡ map front_in pairs
  fit : AllByRecursion (Fits f) pairs

columns_joined : (ps : List Pair) → concat (map front_in ps) ≡ columns_at (concat (map order_in ps))
columns_joined [] = refl
columns_joined (p ∷ ps) = ap (λ z. columns_at p.1 ++ z) (columns_joined ps) ∙ sym (map-append suc p.1 (concat (map order_in ps)))

joined_fronts : (f : Layout) (ps : List Pair) → AllByRecursion (Fits f) ps → FrontsOf f (map node_in ps) (concat (map order_in ps))
joined_fronts f [] h = no_fronts
joined_fronts f (p ∷ ps) h = and_fronts p.0 (map node_in ps) p.1 (concat (map order_in ps)) (p.1 ++ concat (map order_in ps)) h.0 (joined_fronts f ps h.1) refl

map_reverse : {A B : Type 0} (g : A → B) (xs : List A) → reverse (map g xs) ≡ map g (reverse xs)
map_reverse g [] = refl
map_reverse g (x ∷ xs) = reverse-append (g x ∷ []) (map g xs) ∙ ap (λ z. z ++ g x ∷ []) (map_reverse g xs) ∙ sym (map-append g (reverse xs) (x ∷ [])) ∙ ap (map g) (sym (reverse-append (x ∷ []) xs))

all_reverse : (f : Layout) (ps : List Pair) → AllByRecursion (Fits f) ps → AllByRecursion (Fits f) (reverse ps)
all_reverse f ps h = recursion_from_All (Fits f) (reverse ps) (All-permutation (Fits f) ps (reverse ps) (IsPermutation-reverse ps) (All-from_recursion (Fits f) ps h))

occurs_pairs : (ps : List Pair) (x : ℕ) → occurs (map node_in ps) x ≡ sum_by (λ p. occurs (p.0 ∷ []) x) ps
occurs_pairs [] x = refl
occurs_pairs (p ∷ ps) x = let r : occurs (map node_in ps) x ≡ sum_by (λ q. occurs (q.0 ∷ []) x) ps = occurs_pairs ps x in omega (arith, sum_by-cons (λ (q : Pair). occurs (q.0 ∷ []) x) p ps)

-- a join of orders, the nodes in any order
joined : (f : Layout) (n : ℕ) (ks : List ℕ) (fs gs : List (List ℕ)) (o : List ℕ) → shape_at f n ≡ Some P → children_at f n ≡ ks → Frontal f ks fs → IsPermutation fs gs → o ≡ concat gs → Front f n o
joined f n ks fs gs o s e r m oe =
    let w = permuted_map front_in r.pairs gs (subst (λ z. IsPermutation z gs) r.lists m) in
    let fit : AllByRecursion (Fits f) w.0 = recursion_from_All (Fits f) w.0 (All-permutation (Fits f) r.pairs w.0 w.1 (All-from_recursion (Fits f) r.pairs r.fit)) in
    record {
      nodes = concat (map order_in w.0);
      is = front_p n (map node_in w.0) (concat (map order_in w.0)) s
          (λ x. occurs_pairs w.0 x ∙ sum_by-IsPermutation (λ (p : Pair). occurs (p.0 ∷ []) x) r.pairs w.0 w.1 ∙ sym (occurs_pairs r.pairs x) ∙ ap (λ z. occurs z x) (r.tops ∙ sym e))
          (joined_fronts f w.0 fit);
      columns = oe ∙ ap concat w.2 ∙ columns_joined w.0;
    }

forwards : (f : Layout) (n : ℕ) (ks : List ℕ) (fs : List (List ℕ)) (o : List ℕ) → shape_at f n ≡ Some Q → children_at f n ≡ ks → Frontal f ks fs → o ≡ concat fs → Front f n o
forwards f n ks fs o s e r oe = record {
  nodes = concat (map order_in r.pairs);
  is = front_q n (concat (map order_in r.pairs)) s (subst (λ z. FrontsOf f z (concat (map order_in r.pairs))) (r.tops ∙ sym e) (joined_fronts f r.pairs r.fit));
  columns = oe ∙ ap concat r.lists ∙ columns_joined r.pairs;
}

backwards : (f : Layout) (n : ℕ) (ks : List ℕ) (fs : List (List ℕ)) (o : List ℕ) → shape_at f n ≡ Some Q → children_at f n ≡ ks → Frontal f ks fs → o ≡ concat (reverse fs) → Front f n o
backwards f n ks fs o s e r oe = record {
  nodes = concat (map order_in (reverse r.pairs));
  is = front_back n (concat (map order_in (reverse r.pairs))) s
      (subst (λ z. FrontsOf f z (concat (map order_in (reverse r.pairs)))) (sym (map_reverse node_in r.pairs) ∙ ap reverse (r.tops ∙ sym e)) (joined_fronts f (reverse r.pairs) (all_reverse f r.pairs r.fit)));
  columns = oe ∙ ap (λ z. concat (reverse z)) r.lists ∙ ap concat (map_reverse front_in r.pairs) ∙ columns_joined (reverse r.pairs);
}

-- each frontier of a tree at a node is one of the orders there
mutual
  front_of : (f : Layout) (t : NamedTree) (o : List ℕ) → IsLayout f → IsAt f.slots t → IsFrontier (outline_named t) o → Front f (top_name t) o
  front_of f (named_tree n (Leaf a) ts) o h i e =
      let s : shape_at f n ≡ Some (Leaf a) = ap (λ c. c.shape) i.0 in
      let k : a ≡ n + 1 = (h.no_other_leaf n a s).0 in
      record { nodes = n ∷ []; is = front_leaf n a s; columns = e ∙ ap (λ b. b ∷ []) (let q : a ≡ suc n = omega arith in q) }
  front_of f (named_tree n P ts) o h i e = joined f n (top_names ts) e.0 e.1 o (ap (λ c. c.shape) i.0) (ap (λ c. c.children) i.0) (fronts_of f ts e.0 h i.1 e.2) e.3 e.4
  front_of f (named_tree n Q ts) o h i e = elim e.2 [
    | inl q ↦ forwards f n (top_names ts) e.0 o (ap (λ c. c.shape) i.0) (ap (λ c. c.children) i.0) (fronts_of f ts e.0 h i.1 e.1) q
    | inr q ↦ backwards f n (top_names ts) e.0 o (ap (λ c. c.shape) i.0) (ap (λ c. c.children) i.0) (fronts_of f ts e.0 h i.1 e.1) q
  ]

  fronts_of : (f : Layout) (ts : NamedTrees) (fs : List (List ℕ)) → IsLayout f → AreAt f.slots ts → AreFrontiers (outlines_named ts) fs → Frontal f (top_names ts) fs
  fronts_of f no_named [] h i e = record { pairs = []; tops = refl; lists = refl; fit = tt }
  fronts_of f no_named (g ∷ fs) h i e = absurd e
  fronts_of f (named_and t ts) [] h i e = absurd e
  fronts_of f (named_and t ts) (g ∷ fs) h i e =
      let a : Front f (top_name t) g = front_of f t g h i.0 e.0 in
      let r : Frontal f (top_names ts) fs = fronts_of f ts fs h i.1 e.1 in
      record {
        pairs = (top_name t, a.nodes) ∷ r.pairs;
        tops = ap (λ z. top_name t ∷ z) r.tops;
        lists = ap (λ z. z ∷ fs) a.columns ∙ ap (λ z. columns_at a.nodes ∷ z) r.lists;
        fit = (a.is, r.fit);
      }

-- the column at a place
column_get : (xs : List ℕ) (i : ℕ) → i < length xs → get_or (columns_at xs) i 0 ≡ get_or xs i 0 + 1
column_get [] i l = absurd (omega arith)
column_get (x ∷ xs) zero l = omega arith
column_get (x ∷ xs) (suc i) l = column_get xs i (omega arith)

-- what stands behind the first of two lists
get_behind : (ws ys : List ℕ) (a : ℕ) → get_or (ws ++ a ∷ ys) (length ws) 0 ≡ a
get_behind [] ys a = refl
get_behind (w ∷ ws) ys a = get_behind ws ys a

-- an order of columns that keeps the row is one of leaves that does
kept_nodes : (f : Layout) (row nodes : List ℕ) → IsRow f.columns row → Orders.Keeps (columns_at nodes) row → StandsTogether nodes (column_leaves row)
kept_nodes f row nodes r k = λ ws xs ys zs a b c e oa oc.
    let w : IsWithin f.columns row = row_within f.columns row r in
    let i : ℕ = length ws in
    let j : ℕ = length (ws ++ a ∷ xs) in
    let l : ℕ = length ((ws ++ a ∷ xs) ++ b ∷ ys) in
    let ej : ws ++ a ∷ (xs ++ b ∷ (ys ++ c ∷ zs)) ≡ (ws ++ a ∷ xs) ++ b ∷ (ys ++ c ∷ zs) = sym (append_assoc ws (a ∷ xs) (b ∷ (ys ++ c ∷ zs))) in
    let el : (ws ++ a ∷ xs) ++ b ∷ (ys ++ c ∷ zs) ≡ ((ws ++ a ∷ xs) ++ b ∷ ys) ++ c ∷ zs = sym (append_assoc (ws ++ a ∷ xs) (b ∷ ys) (c ∷ zs)) in
    let n : length nodes ≡ length (((ws ++ a ∷ xs) ++ b ∷ ys) ++ c ∷ zs) = ap length (e ∙ ej ∙ el) in
    let ga : get_or nodes i 0 ≡ a = ap (λ v. get_or v i 0) e ∙ get_behind ws (xs ++ b ∷ (ys ++ c ∷ zs)) a in
    let gb : get_or nodes j 0 ≡ b = ap (λ v. get_or v j 0) (e ∙ ej) ∙ get_behind (ws ++ a ∷ xs) (ys ++ c ∷ zs) b in
    let gc : get_or nodes l 0 ≡ c = ap (λ v. get_or v l 0) (e ∙ ej ∙ el) ∙ get_behind ((ws ++ a ∷ xs) ++ b ∷ ys) zs c in
    let ij : i < j = omega (arith, length-append ws (a ∷ xs)) in
    let jl : j < l = omega (arith, length-append (ws ++ a ∷ xs) (b ∷ ys)) in
    let ln : l < length nodes = omega (arith, length-append ((ws ++ a ∷ xs) ++ b ∷ ys) (c ∷ zs)) in
    let ca : get_or (columns_at nodes) i 0 ≡ a + 1 = column_get nodes i (omega arith) ∙ ap (λ v. v + 1) ga in
    let cb : get_or (columns_at nodes) j 0 ≡ b + 1 = column_get nodes j (omega arith) ∙ ap (λ v. v + 1) gb in
    let cl : get_or (columns_at nodes) l 0 ≡ c + 1 = column_get nodes l ln ∙ ap (λ v. v + 1) gc in
    let long : l < length (columns_at nodes) = omega (arith, length-map nodes suc) in
    let has_b : IsTrue (has row (b + 1)) = subst (λ v. IsTrue (has row v)) cb
    (k i j l ij jl long (subst (λ v. IsTrue (has row v)) (sym ca) (leaf_in_row f row a w oa).1) (subst (λ v. IsTrue (has row v)) (sym cl) (leaf_in_row f row c w oc).1)) in
    let q : occurs (column_leaves row) b ≡ occurs row (b + 1) = row_occurs f.columns row b w in
    omega (arith, occurs_from_has row (b + 1) has_b)

-- where no order of the leaves keeps the row, no frontier does
pub split_outline : (f : Layout) (row o : List ℕ) → IsLayout f → IsRow f.columns row → Split f (column_leaves row) → IsFrontier (outline_at f) o → Orders.Keeps o row → ⊥
split_outline f row o h r s fr k =
    let t : TreeAt f f.root = tree_at f f.root h h.root_used in
    let w : Front f (top_name t.it) o = front_of f t.it o h t.is (subst (λ z. IsFrontier z o) (below_tree f f.root h t) fr) in
    s w.nodes (subst (λ z. Fronts f z w.nodes) t.named w.is) (kept_nodes f row w.nodes r (subst (λ z. Orders.Keeps z row) w.columns k))
