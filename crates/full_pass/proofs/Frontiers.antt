-- A row that the arena's layout keeps is one run of each frontier of the tree.
use Rattle.std.proofs.Common.{Bool, IsPermutation, List, Some, [], ap, arith, cond, false, get_or, inl, inr, length, refl, reverse, subst, suc, sum_by, sym, true, zero, ℕ, ◌++◌, ◌+◌, ◌-◌, ◌<◌, ◌∙◌, ◌∷◌, ◌≡◌, ◌≢◌, ◌≤◌, ◌⊎◌}
use Rattle.std.specs.List.{concat}
use Rattle.std.proofs.lemmas.Bool.{cases_eq, cases_lt, cases_Bool}
use Rattle.std.proofs.lemmas.List.{append-nil, append_assoc, reverse-append}
use Rattle.std.proofs.lemmas.List.Sorted.{IsPermutation-refl, IsPermutation-reverse, sum_by-IsPermutation}
use Rattle.std.proofs.lemmas.List.Sums.{sum_by-cons}
use Rattle.std.proofs.lemmas.List.Folds.{concat-append}
use Rattle.column_order.specs.Orders.{has, occurs, Keeps}
use Rattle.column_order.proofs.Lists.{occurs-append}
use Rattle.column_order.proofs.Runs.{kept_empty}
use Rattle.row_model.specs.Rows.{IsRow}
use Rattle.pq_tree.specs.Outline.{AreFrontiers, IsFrontier}
use Rattle.arena_model.specs.declared.Shape.{Shape}
use Rattle.arena_model.specs.declared.Shape.TheVariants.{Leaf, P, Q}
use Rattle.arena_model.specs.Layout.{IsAtOrAbove, IsLayout, Layout, Slot, children_at, down, here, shape_at, times_child}
use Rattle.arena_model.specs.NamedTree.{AreAt, IsAt, IsOneTree, NamedTree, NamedTrees, named_and, named_tree, no_named, outline_at, outline_below, outline_named, outlines_named, top_name, top_names}
use Rattle.arena_model.proofs.Lists.{occurs_at, occurs_here, occurs_other, occurs_same}
use Rattle.arena_model.proofs.Slots.{children_times, some_inj}
use Rattle.arena_model.proofs.Paths.{one_path, top_alone}
use Rattle.arena_model.proofs.Trees.{TreeAt, tree_at}
use Rattle.arena_model.proofs.Outlines.{apart_children, below_named}
use Rattle.row_model.proofs.Ascending.{row_within}
use Rattle.arena_model.specs.RowLeaves.{column_leaves, Holds}
use Rattle.arena_model.proofs.Rows.{has_leaf, leaf_has}
use Rattle.full_pass.specs.Answer.{AreBelow, AreLeaves, IsFullNode, IsRowKept, one_node, one_run}
use Rattle.full_pass.specs.Passing.{runs}
use Rattle.full_pass.proofs.Columns.{row_leaves}
use Rattle.full_pass.proofs.Marks.{runs_some}

-- a frontier of the tree without its numbers
abbrev pub IsFrontierOf : NamedTree → List ℕ → Type 0
IsFrontierOf t o = IsFrontier (outline_named t) o

-- one frontier of each tree
abbrev pub AreFrontiersOf : NamedTrees → List (List ℕ) → Type 0
AreFrontiersOf ts fs = AreFrontiers (outlines_named ts) fs

-- the frontiers of the children of a node, joined in some order
record Inner (ts : NamedTrees) (o : List ℕ) : Type 0 where
  fs : List (List ℕ)
  gs : List (List ℕ)
  are : AreFrontiersOf ts fs
  perm : IsPermutation fs gs
  is : o ≡ concat gs

-- a leaf with this column
record LeafAt (f : Layout) (n a : ℕ) : Type 0 where
  y : ℕ
  is_leaf : shape_at f y ≡ Some (Leaf a)
  leads : IsAtOrAbove f.slots n y

occurs_concat : (gs : List (List ℕ)) (a : ℕ) → occurs (concat gs) a ≡ sum_by (λ g. occurs g a) gs
occurs_concat [] a = refl
occurs_concat (g ∷ gs) a =
    let r : occurs (concat gs) a ≡ sum_by (λ g. occurs g a) gs = occurs_concat gs a in
    occurs-append g (concat gs) a ∙ ap (λ z. occurs g a + z) r ∙ sym (sum_by-cons (λ g. occurs g a) g gs)

inner_p : (n : ℕ) (ts : NamedTrees) (o : List ℕ) → IsFrontierOf (named_tree n P ts) o → Inner ts o
inner_p n ts o h = record { fs = h.0; gs = h.1; are = h.2; perm = h.3; is = h.4 }

inner_q : (n : ℕ) (ts : NamedTrees) (o : List ℕ) → IsFrontierOf (named_tree n Q ts) o → Inner ts o
inner_q n ts o h = elim h.2 [
  | inl e ↦ record { fs = h.0; gs = h.0; are = h.1; perm = IsPermutation-refl h.0; is = e }
  | inr e ↦ record { fs = h.0; gs = reverse h.0; are = h.1; perm = IsPermutation-reverse h.0; is = e }
]

by_inner : (f : Layout) (n : ℕ) (s : Shape) (ts : NamedTrees) (o : List ℕ) (a : ℕ) → IsAt f.slots (named_tree n s ts) → Inner ts o → 1 ≤ occurs o a →
    ((fs : List (List ℕ)) → AreFrontiersOf ts fs → 1 ≤ sum_by (λ g. occurs g a) fs → (k : ℕ) × LeafAt f k a × (1 ≤ occurs (top_names ts) k)) → LeafAt f n a
by_inner f n s ts o a at r i deep =
    let j : 1 ≤ sum_by (λ g. occurs g a) r.fs = subst (λ z. 1 ≤ z) (ap (λ z. occurs z a) r.is ∙ occurs_concat r.gs a ∙ sum_by-IsPermutation (λ g. occurs g a) r.fs r.gs r.perm) i in
    let d = deep r.fs r.are j in
    record { y = d.1.y; is_leaf = d.1.is_leaf; leads = down n d.0 d.1.y (subst (λ c. 1 ≤ occurs c.children d.0) (sym at.0) d.2) d.1.leads }

mutual
  -- each column of a frontier is a leaf below
  leaf_of : (f : Layout) (t : NamedTree) (o : List ℕ) (a : ℕ) → IsAt f.slots t → IsFrontierOf t o → 1 ≤ occurs o a → LeafAt f (top_name t) a
  leaf_of f (named_tree n (Leaf b) ts) o a at fr i =
      let e : a ≡ b = elim (cases_eq a b) [
        | inl e ↦ e
        | inr ne ↦ absurd (
            let j : 1 ≤ occurs (b ∷ []) a = subst (λ z. 1 ≤ occurs z a) fr i in
            let k : occurs (b ∷ []) a ≡ 0 = occurs_other b a [] ne in omega arith)
      ] in
      record { y = n; is_leaf = ap (λ c. c.shape) at.0 ∙ ap (λ z. Some (Leaf z)) (sym e); leads = here n }
  leaf_of f (named_tree n P ts) o a at fr i = by_inner f n P ts o a at (inner_p n ts o fr) i (λ fs are k. leaf_in f ts fs a at.1 are k)
  leaf_of f (named_tree n Q ts) o a at fr i = by_inner f n Q ts o a at (inner_q n ts o fr) i (λ fs are k. leaf_in f ts fs a at.1 are k)

  leaf_in : (f : Layout) (ts : NamedTrees) (fs : List (List ℕ)) (a : ℕ) → AreAt f.slots ts → AreFrontiersOf ts fs → 1 ≤ sum_by (λ g. occurs g a) fs →
      (k : ℕ) × LeafAt f k a × (1 ≤ occurs (top_names ts) k)
  leaf_in f no_named [] a at fr i = absurd (omega arith)
  leaf_in f no_named (o ∷ os) a at fr i = absurd fr
  leaf_in f (named_and t ts) [] a at fr i = absurd fr
  leaf_in f (named_and t ts) (o ∷ os) a at fr i = elim (cases_lt 0 (occurs o a)) [
    | inl l ↦ (top_name t, leaf_of f t o a at.0 fr.0 l, occurs_here (top_name t) (top_names ts))
    | inr l ↦
        let e : sum_by (λ g. occurs g a) (o ∷ os) ≡ occurs o a + sum_by (λ g. occurs g a) os = sum_by-cons (λ g. occurs g a) o os in
        let r = leaf_in f ts os a at.1 fr.1 (omega arith) in (r.0, r.1, omega (arith, r.2))
  ]

-- runs of joined lists
runs_low : (l : ℕ → Bool) (b : Bool) (ks : List ℕ) → runs l b ks ≤ runs l false ks
runs_low l b [] = omega arith
runs_low l true (k ∷ ks) = elim (l k) as (λ t. cond t 0 0 + runs l t ks ≤ cond t 1 0 + runs l t ks) [ true ↦ omega arith | false ↦ omega arith ]
runs_low l false (k ∷ ks) = omega arith

runs_append : (l : ℕ → Bool) (b : Bool) (xs ys : List ℕ) → runs l b (xs ++ ys) ≤ runs l b xs + runs l false ys
runs_append l b [] ys = let r : runs l b ys ≤ runs l false ys = runs_low l b ys in omega arith
runs_append l b (x ∷ xs) ys = let r : runs l (l x) (xs ++ ys) ≤ runs l (l x) xs + runs l false ys = runs_append l (l x) xs ys in omega arith

runs_concat : (l : ℕ → Bool) (gs : List (List ℕ)) → runs l false (concat gs) ≤ sum_by (λ g. runs l false g) gs
runs_concat l [] = omega arith
runs_concat l (g ∷ gs) =
    let r : runs l false (concat gs) ≤ sum_by (λ g. runs l false g) gs = runs_concat l gs in
    let e : sum_by (λ g. runs l false g) (g ∷ gs) ≡ runs l false g + sum_by (λ g. runs l false g) gs = sum_by-cons (λ g. runs l false g) g gs in
    let a : runs l false (g ++ concat gs) ≤ runs l false g + runs l false (concat gs) = runs_append l false g (concat gs) in
    omega arith

runs_nil : (l : ℕ → Bool) (ks : List ℕ) → ((k : ℕ) → 1 ≤ occurs ks k → l k ≡ false) → runs l false ks ≡ 0
runs_nil l [] h = refl
runs_nil l (k ∷ ks) h = ap (λ b. cond b 1 0 + runs l b ks) (h k (occurs_here k ks)) ∙
    (let r : runs l false ks ≡ 0 = runs_nil l ks (λ y o. h y (omega arith)) in omega arith)

-- at or above, twice
joined : (slots : List Slot) (a b c : ℕ) → IsAtOrAbove slots a b → IsAtOrAbove slots b c → IsAtOrAbove slots a c
joined slots _ _ c (here n) l = l
joined slots _ _ c (down n k b o w) l = down n k c o (joined slots k b c w l)

-- the columns that l marks are those of the leaves of the row
pub record Marked (f : Layout) (row : List ℕ) (l : ℕ → Bool) : Type 0 where
  pub into : (y a : ℕ) → shape_at f y ≡ Some (Leaf a) → l a ≡ true → 1 ≤ occurs row y
  pub back : (y a : ℕ) → shape_at f y ≡ Some (Leaf a) → 1 ≤ occurs row y → l a ≡ true

-- what is known at the node that holds the row
pub record Target (f : Layout) (row : List ℕ) (l : ℕ → Bool) (x : ℕ) : Type 0 where
  pub layout : IsLayout f
  pub marked : Marked f row l
  pub holds : Holds f row x
  pub at : (t : NamedTree) → IsAt f.slots t → top_name t ≡ x → (o : List ℕ) → IsFrontierOf t o → runs l false o ≤ 1

-- a frontier of a child of n that isn't above x has no column of the row
empty_beside : (f : Layout) (row : List ℕ) (l : ℕ → Bool) (x n k : ℕ) (t : NamedTree) (o : List ℕ) → Target f row l x → 1 ≤ occurs (children_at f n) k → IsAtOrAbove f.slots k x →
    1 ≤ occurs (children_at f n) (top_name t) → top_name t ≢ k → IsAt f.slots t → IsFrontierOf t o → runs l false o ≡ 0
empty_beside f row l x n k t o g ok way ot ne at fr = runs_nil l o (λ a i. elim (cases_Bool (l a)) [
  | inr e ↦ e
  | inl e ↦ absurd (
      let d : LeafAt f (top_name t) a = leaf_of f t o a at fr i in
      let w : IsAtOrAbove f.slots x d.y = g.holds d.y (g.marked.into d.y a d.is_leaf e) in
      elim (one_path f (top_name t) k d.y g.layout d.leads (joined f.slots k x d.y way w)) [
        | inl u ↦ apart_children f n (top_name t) k g.layout ot ok u ne
        | inr u ↦ apart_children f n k (top_name t) g.layout ok ot u (λ e. ne (sym e))
      ])
])

step_of : (f : Layout) (n x : ℕ) → IsAtOrAbove f.slots n x → (n ≡ x) ⊎ ((k : ℕ) × (1 ≤ occurs (children_at f n) k) × IsAtOrAbove f.slots k x)
step_of f _ _ (here n) = inl refl
step_of f _ _ (down n k x o way) = inr (k, o, way)

by_children : (f : Layout) (row : List ℕ) (l : ℕ → Bool) (x n : ℕ) (s : Shape) (ts : NamedTrees) (o : List ℕ) → Target f row l x → IsAtOrAbove f.slots n x →
    IsAt f.slots (named_tree n s ts) → Inner ts o → IsFrontierOf (named_tree n s ts) o →
    ((k : ℕ) (fs : List (List ℕ)) → 1 ≤ occurs (children_at f n) k → IsAtOrAbove f.slots k x → ((y : ℕ) → 1 ≤ occurs (top_names ts) y → 1 ≤ occurs (children_at f n) y) →
    AreFrontiersOf ts fs → sum_by (λ g. runs l false g) fs ≤ occurs (top_names ts) k) → runs l false o ≤ 1
by_children f row l x n s ts o g way at r fr deep = elim (step_of f n x way) [
  | inl e ↦ g.at (named_tree n s ts) at e o fr
  | inr d ↦
      let same : children_at f n ≡ top_names ts = ap (λ c. c.children) at.0 in
      let few : sum_by (λ g. runs l false g) r.fs ≤ occurs (top_names ts) d.0 = deep d.0 r.fs d.1 d.2 (λ y i. subst (λ z. 1 ≤ occurs z y) (sym same) i) r.are in
      let once : occurs (children_at f n) d.0 ≤ 1 = (let a : occurs (children_at f n) d.0 ≤ times_child f.slots d.0 = children_times f n d.0 in let b : times_child f.slots d.0 ≤ 1 = g.layout.once d.0 in omega arith) in
      let e1 : occurs (children_at f n) d.0 ≡ occurs (top_names ts) d.0 = ap (λ z. occurs z d.0) same in
      let e2 : sum_by (λ g. runs l false g) r.gs ≡ sum_by (λ g. runs l false g) r.fs = sum_by-IsPermutation (λ g. runs l false g) r.fs r.gs r.perm in
      let c : runs l false (concat r.gs) ≤ sum_by (λ g. runs l false g) r.gs = runs_concat l r.gs in
      subst (λ z. runs l false z ≤ 1) (sym r.is) (omega arith)
]

mutual
  pub above_target : (f : Layout) (row : List ℕ) (l : ℕ → Bool) (x : ℕ) (t : NamedTree) (o : List ℕ) → Target f row l x → IsAtOrAbove f.slots (top_name t) x →
      IsAt f.slots t → IsFrontierOf t o → runs l false o ≤ 1
  above_target f row l x (named_tree n (Leaf b) ts) o g way at fr = elim (cases_Bool (l b)) [
    | inl e ↦ subst (λ z. runs l false z ≤ 1) (sym fr) (subst (λ t. cond t 1 0 + 0 ≤ 1) (sym e) (omega arith))
    | inr e ↦ subst (λ z. runs l false z ≤ 1) (sym fr) (subst (λ t. cond t 1 0 + 0 ≤ 1) (sym e) (omega arith))
  ]
  above_target f row l x (named_tree n P ts) o g way at fr = by_children f row l x n P ts o g way at (inner_p n ts o fr) fr
      (λ k fs ok w sub are. each_child f row l x n k ts fs g ok w sub at.1 are)
  above_target f row l x (named_tree n Q ts) o g way at fr = by_children f row l x n Q ts o g way at (inner_q n ts o fr) fr
      (λ k fs ok w sub are. each_child f row l x n k ts fs g ok w sub at.1 are)

  each_child : (f : Layout) (row : List ℕ) (l : ℕ → Bool) (x n k : ℕ) (ts : NamedTrees) (fs : List (List ℕ)) → Target f row l x → 1 ≤ occurs (children_at f n) k → IsAtOrAbove f.slots k x →
      ((y : ℕ) → 1 ≤ occurs (top_names ts) y → 1 ≤ occurs (children_at f n) y) → AreAt f.slots ts → AreFrontiersOf ts fs →
      sum_by (λ g. runs l false g) fs ≤ occurs (top_names ts) k
  each_child f row l x n k no_named [] g ok way sub at fr = omega arith
  each_child f row l x n k no_named (o ∷ os) g ok way sub at fr = absurd fr
  each_child f row l x n k (named_and t ts) [] g ok way sub at fr = absurd fr
  each_child f row l x n k (named_and t ts) (o ∷ os) g ok way sub at fr =
      let r : sum_by (λ g. runs l false g) os ≤ occurs (top_names ts) k = each_child f row l x n k ts os g ok way (λ y i. sub y (omega arith)) at.1 fr.1 in
      let e : sum_by (λ g. runs l false g) (o ∷ os) ≡ runs l false o + sum_by (λ g. runs l false g) os = sum_by-cons (λ g. runs l false g) o os in
      elim (cases_eq (top_name t) k) [
        | inl q ↦
            let i : runs l false o ≤ 1 = above_target f row l x t o g (subst (λ z. IsAtOrAbove f.slots z x) (sym q) way) at.0 fr.0 in
            let c : occurs (top_name t ∷ top_names ts) k ≡ 1 + occurs (top_names ts) k = subst (λ z. occurs (z ∷ top_names ts) k ≡ 1 + occurs (top_names ts) k) (sym q) (occurs_same k (top_names ts)) in
            omega arith
        | inr ne ↦
            let i : runs l false o ≡ 0 = empty_beside f row l x n k t o g ok way (sub (top_name t) (occurs_here (top_name t) (top_names ts))) ne at.0 fr.0 in
            let c : occurs (top_name t ∷ top_names ts) k ≡ occurs (top_names ts) k = occurs_other (top_name t) k (top_names ts) (λ q. ne (sym q)) in
            omega arith
      ]

-- all marked: one run
runs_all : (l : ℕ → Bool) (ks : List ℕ) → ((k : ℕ) → 1 ≤ occurs ks k → l k ≡ true) → (runs l false ks ≤ 1) × (runs l true ks ≡ 0)
runs_all l [] h = (omega arith, refl)
runs_all l (k ∷ ks) h =
    let r = runs_all l ks (λ y o. h y (omega arith)) in
    let z : runs l true ks ≡ 0 = r.1 in
    let e : l k ≡ true = h k (occurs_here k ks) in (
      subst (λ t. cond t 1 0 + runs l t ks ≤ 1) (sym e) (omega arith),
      ap (λ t. cond t 0 0 + runs l t ks) e ∙ (let q : 0 + runs l true ks ≡ 0 = omega arith in q),
    )

-- the row is what is below x: each frontier of the tree has it in one run
pub node_frontiers : (f : Layout) (row : List ℕ) (l : ℕ → Bool) (x y : ℕ) (t : NamedTree) (o : List ℕ) → IsLayout f → Marked f row l → IsFullNode f row x → Holds f row x →
    1 ≤ occurs row y → IsAtOrAbove f.slots f.root y → IsAt f.slots t → top_name t ≡ f.root → IsFrontierOf t o → runs l false o ≤ 1
node_frontiers f row l x y t o layout marked fills holds oy ly at named fr =
    let g : Target f row l x = record {
      layout = layout;
      marked = marked;
      holds = holds;
      at = λ u is e p fp. (runs_all l p (λ a i.
          let d = leaf_of f u p a is fp i in
          marked.back d.y a d.is_leaf (fills d.y (a, d.is_leaf) (subst (λ z. IsAtOrAbove f.slots z d.y) e d.leads)))).0;
    } in
    let way : IsAtOrAbove f.slots f.root x = elim (one_path f f.root x y layout ly (holds y oy)) [
      | inl w ↦ w
      | inr w ↦ subst (λ z. IsAtOrAbove f.slots f.root z) (sym (top_alone f x f.root layout.root_top w)) (here f.root)
    ] in
    above_target f row l x t o g (subst (λ z. IsAtOrAbove f.slots z x) (sym named) way) at fr

-- the first frontiers, those of the trees us
record SplitFr (f : Layout) (l : ℕ → Bool) (b : Bool) (ks : List ℕ) (fs : List (List ℕ)) : Type 0 where
  ts : NamedTrees
  front : List (List ℕ)
  back : List (List ℕ)
  is : fs ≡ front ++ back
  same : (a : ℕ) → 1 ≤ occurs (concat front) a → l a ≡ b
  at : AreAt f.slots ts
  are : AreFrontiersOf ts back
  called : top_names ts ≡ ks

names_tail : (t : NamedTree) (ts : NamedTrees) (u : ℕ) (us : List ℕ) → top_names (named_and t ts) ≡ u ∷ us → (top_name t ≡ u) × (top_names ts ≡ us)
names_tail t ts u us e = (ap (λ z. first z) e, ap (λ z. others z) e)
  where
    first : List ℕ → ℕ
    first [] = 0
    first (x ∷ xs) = x

    others : List ℕ → List ℕ
    others [] = []
    others (x ∷ xs) = xs

nil_cons : (u : ℕ) (us : List ℕ) → [] ≡ u ∷ us → ⊥
nil_cons u us e = cc

split_fr : (f : Layout) (l : ℕ → Bool) (b : Bool) (us ks : List ℕ) (ts : NamedTrees) (fs : List (List ℕ)) → AreAt f.slots ts → AreFrontiersOf ts fs → top_names ts ≡ us ++ ks →
    ((t : NamedTree) (o : List ℕ) → IsAt f.slots t → 1 ≤ occurs us (top_name t) → IsFrontierOf t o → (a : ℕ) → 1 ≤ occurs o a → l a ≡ b) → SplitFr f l b ks fs
split_fr f l b [] ks ts fs at are e h = record { ts = ts; front = []; back = fs; is = refl; same = λ a i. absurd (omega arith); at = at; are = are; called = e }
split_fr f l b (u ∷ us) ks no_named fs at are e h = absurd (nil_cons u (us ++ ks) e)
split_fr f l b (u ∷ us) ks (named_and t ts) [] at are e h = absurd are
split_fr f l b (u ∷ us) ks (named_and t ts) (o ∷ os) at are e h =
    let q = names_tail t ts u (us ++ ks) e in
    let r = split_fr f l b us ks ts os at.1 are.1 q.1 (λ t' o' at' i fr a j. h t' o' at' (omega arith) fr a j) in
    record {
      ts = r.ts;
      front = o ∷ r.front;
      back = r.back;
      is = ap (λ z. o ∷ z) r.is;
      at = r.at;
      are = r.are;
      called = r.called;
      same = λ a i. elim (cases_lt 0 (occurs o a)) [
        | inl j ↦ h t o at.0 (subst (λ z. 1 ≤ occurs (u ∷ us) z) (sym q.0) (occurs_here u us)) are.0 a j
        | inr j ↦ r.same a (let c : occurs (o ++ concat r.front) a ≡ occurs o a + occurs (concat r.front) a = occurs-append o (concat r.front) a in omega arith)
      ];
    }

occurs_reverse : (fs : List (List ℕ)) (a : ℕ) → occurs (concat (reverse fs)) a ≡ occurs (concat fs) a
occurs_reverse fs a = occurs_concat (reverse fs) a ∙ sum_by-IsPermutation (λ g. occurs g a) fs (reverse fs) (IsPermutation-reverse fs) ∙ sym (occurs_concat fs a)

three_runs : (l : ℕ → Bool) (ps bs cs : List ℕ) → ((a : ℕ) → 1 ≤ occurs ps a → l a ≡ false) → ((a : ℕ) → 1 ≤ occurs bs a → l a ≡ true) →
    ((a : ℕ) → 1 ≤ occurs cs a → l a ≡ false) → runs l false (ps ++ (bs ++ cs)) ≤ 1
three_runs l ps bs cs ha hb hc =
    let a : runs l false ps ≡ 0 = runs_nil l ps ha in
    let b : runs l false bs ≤ 1 = (runs_all l bs hb).0 in
    let c : runs l false cs ≡ 0 = runs_nil l cs hc in
    let d : runs l false (ps ++ (bs ++ cs)) ≤ runs l false ps + runs l false (bs ++ cs) = runs_append l false ps (bs ++ cs) in
    let e : runs l false (bs ++ cs) ≤ runs l false bs + runs l false cs = runs_append l false bs cs in
    omega arith

-- the row is what is below a run of children of a Q-node
run_at : (f : Layout) (row : List ℕ) (l : ℕ → Bool) (q : ℕ) (us ks vs : List ℕ) → IsLayout f → Marked f row l → shape_at f q ≡ Some Q → children_at f q ≡ us ++ (ks ++ vs) →
    AreBelow f row ks → (t : NamedTree) → IsAt f.slots t → top_name t ≡ q → (o : List ℕ) → IsFrontierOf t o → runs l false o ≤ 1
run_at f row l q us ks vs layout marked sh is below (named_tree n s ts) at e o fr = by s (some_inj s Q (sym (ap (λ c. c.shape) at.0) ∙ ap (λ z. shape_at f z) e ∙ sh)) fr
  where
    called : top_names ts ≡ us ++ (ks ++ vs)
    called = sym (ap (λ c. c.children) at.0) ∙ ap (λ z. children_at f z) e ∙ is

    count : (y : ℕ) → occurs us y + (occurs ks y + occurs vs y) ≤ 1
    count y =
        let a : occurs (children_at f q) y ≤ times_child f.slots y = children_times f q y in
        let b : times_child f.slots y ≤ 1 = layout.once y in
        let c : occurs (children_at f q) y ≡ occurs (us ++ (ks ++ vs)) y = ap (λ z. occurs z y) is in
        let d : occurs (us ++ (ks ++ vs)) y ≡ occurs us y + occurs (ks ++ vs) y = occurs-append us (ks ++ vs) y in
        let e : occurs (ks ++ vs) y ≡ occurs ks y + occurs vs y = occurs-append ks vs y in omega arith

    child_of : (y : ℕ) → 1 ≤ occurs us y + (occurs ks y + occurs vs y) → 1 ≤ occurs (children_at f q) y
    child_of y o =
        let c : occurs (children_at f q) y ≡ occurs (us ++ (ks ++ vs)) y = ap (λ z. occurs z y) is in
        let d : occurs (us ++ (ks ++ vs)) y ≡ occurs us y + occurs (ks ++ vs) y = occurs-append us (ks ++ vs) y in
        let e : occurs (ks ++ vs) y ≡ occurs ks y + occurs vs y = occurs-append ks vs y in omega arith

    inside : (t : NamedTree) (o : List ℕ) → IsAt f.slots t → 1 ≤ occurs ks (top_name t) → IsFrontierOf t o → (a : ℕ) → 1 ≤ occurs o a → l a ≡ true
    inside t o at i fr a j = let d = leaf_of f t o a at fr j in marked.back d.y a d.is_leaf (below.filled (top_name t) i d.y (a, d.is_leaf) d.leads)

    outside : (t : NamedTree) (o : List ℕ) → IsAt f.slots t → 1 ≤ occurs us (top_name t) + occurs vs (top_name t) → IsFrontierOf t o → (a : ℕ) → 1 ≤ occurs o a → l a ≡ false
    outside t o at i fr a j = elim (cases_Bool (l a)) [
      | inr e ↦ e
      | inl e ↦ absurd (
          let d = leaf_of f t o a at fr j in
          let w = below.covers d.y (marked.into d.y a d.is_leaf e) in
          let cw : occurs us w.0 + (occurs ks w.0 + occurs vs w.0) ≤ 1 = count w.0 in
          let iw : 1 ≤ occurs ks w.0 = w.1 in
          let ne : top_name t ≢ w.0 = (λ e. let i' : 1 ≤ occurs us w.0 + occurs vs w.0 = subst (λ z. 1 ≤ occurs us z + occurs vs z) e i in omega arith) in
          elim (one_path f (top_name t) w.0 d.y layout d.leads w.2) [
            | inl u ↦ apart_children f q (top_name t) w.0 layout (child_of (top_name t) (omega arith)) (child_of w.0 (omega arith)) u ne
            | inr u ↦ apart_children f q w.0 (top_name t) layout (child_of w.0 (omega arith)) (child_of (top_name t) (omega arith)) u (λ e. ne (sym e))
          ])
    ]

    in_order : (fs : List (List ℕ)) → AreFrontiersOf ts fs → (runs l false (concat fs) ≤ 1) × (runs l false (concat (reverse fs)) ≤ 1)
    in_order fs are =
        let A = split_fr f l false us (ks ++ vs) ts fs at.1 are called (λ t o at i fr a j. outside t o at (omega arith) fr a j) in
        let B = split_fr f l true ks vs A.ts A.back A.at A.are A.called inside in
        let C = split_fr f l false vs [] B.ts B.back B.at B.are (B.called ∙ sym (append-nil vs)) (λ t o at i fr a j. outside t o at (omega arith) fr a j) in
        let no_more : C.back ≡ [] = none_left C.ts C.back C.are C.called in
        let whole : fs ≡ A.front ++ (B.front ++ C.front) =
        A.is ∙ ap (λ z. A.front ++ z) (B.is ∙ ap (λ z. B.front ++ z) (C.is ∙ ap (λ z. C.front ++ z) no_more ∙ append-nil C.front)) in
        let split : concat fs ≡ concat A.front ++ (concat B.front ++ concat C.front) =
        ap concat whole ∙ concat-append A.front (B.front ++ C.front) ∙ ap (λ z. concat A.front ++ z) (concat-append B.front C.front) in
        let back : concat (reverse fs) ≡ concat (reverse C.front) ++ (concat (reverse B.front) ++ concat (reverse A.front)) =
        ap (λ z. concat (reverse z)) whole ∙ ap concat (reverse-append A.front (B.front ++ C.front) ∙ ap (λ z. z ++ reverse A.front) (reverse-append B.front C.front)
        ∙ append_assoc (reverse C.front) (reverse B.front) (reverse A.front))
        ∙ concat-append (reverse C.front) (reverse B.front ++ reverse A.front) ∙ ap (λ z. concat (reverse C.front) ++ z) (concat-append (reverse B.front) (reverse A.front)) in (
          subst (λ z. runs l false z ≤ 1) (sym split) (three_runs l (concat A.front) (concat B.front) (concat C.front) A.same B.same C.same),
          subst (λ z. runs l false z ≤ 1) (sym back) (three_runs l (concat (reverse C.front)) (concat (reverse B.front)) (concat (reverse A.front))
              (λ a i. C.same a (subst (λ z. 1 ≤ z) (occurs_reverse C.front a) i))
              (λ a i. B.same a (subst (λ z. 1 ≤ z) (occurs_reverse B.front a) i))
              (λ a i. A.same a (subst (λ z. 1 ≤ z) (occurs_reverse A.front a) i))),
        )
      where
        none_left : (ts : NamedTrees) (fs : List (List ℕ)) → AreFrontiersOf ts fs → top_names ts ≡ [] → fs ≡ []
        none_left no_named [] are e = refl
        none_left no_named (g ∷ gs) are e = absurd are
        none_left (named_and t ts) fs are e = absurd (nil_cons (top_name t) (top_names ts) (sym e))

    by : (s : Shape) → s ≡ Q → IsFrontierOf (named_tree n s ts) o → runs l false o ≤ 1
    by s e fr =
        let fq : IsFrontierOf (named_tree n Q ts) o = subst (λ z. IsFrontierOf (named_tree n z ts) o) e fr in
        let r = in_order fq.0 fq.1 in
        elim fq.2 [
          | inl e ↦ subst (λ z. runs l false z ≤ 1) (sym e) r.0
          | inr e ↦ subst (λ z. runs l false z ≤ 1) (sym e) r.1
        ]

-- a row that the arena's value keeps is in one run of each frontier
pub kept_frontiers : (f : Layout) (row : List ℕ) (l : ℕ → Bool) (y : ℕ) → IsLayout f → AreLeaves f row → 1 ≤ occurs row y → Marked f row l → IsRowKept f row →
    (t : NamedTree) (o : List ℕ) → IsAt f.slots t → top_name t ≡ f.root → IsFrontierOf t o → runs l false o ≤ 1
kept_frontiers f row l y layout r oy marked (one_node n fills holds) =
    λ t o at named fr. node_frontiers f row l n y t o layout marked fills holds oy (r.below y oy) at named fr
kept_frontiers f row l y layout r oy marked (one_run q us ks vs sh is below) =
    let holds : Holds f row q = (λ x o. let w = below.covers x o in
    down q w.0 x (subst (λ z. 1 ≤ occurs z w.0) (sym is) (omega (arith, w.1, occurs-append us (ks ++ vs) w.0, occurs-append ks vs w.0))) w.2) in
    let g : Target f row l q = record { layout = layout; marked = marked; holds = holds; at = run_at f row l q us ks vs layout marked sh is below } in
    let way : IsAtOrAbove f.slots f.root q = elim (one_path f f.root q y layout (r.below y oy) (holds y oy)) [
      | inl w ↦ w
      | inr w ↦ subst (λ z. IsAtOrAbove f.slots f.root z) (sym (top_alone f q f.root layout.root_top w)) (here f.root)
    ] in
    λ t o at named fr. above_target f row l q t o g (subst (λ z. IsAtOrAbove f.slots z q) (sym named) way) at fr

-- after a marked one: no unmarked one comes before a marked one
after : (l : ℕ → Bool) (xs : List ℕ) (j k : ℕ) → runs l true xs ≤ 0 → j < k → k < length xs → l (get_or xs k 0) ≡ true → l (get_or xs j 0) ≡ true
after l [] j k h lt few m = absurd (omega arith)
after l (x ∷ xs) j zero h lt few m = absurd (omega arith)
after l (x ∷ xs) zero (suc k) h lt few m = elim (cases_Bool (l x)) [
  | inl t ↦ t
  | inr f ↦ absurd (
      let z : 0 + runs l false xs ≤ 0 = subst (λ b. cond b 0 0 + runs l b xs ≤ 0) f h in
      let s : 1 ≤ runs l false xs = runs_some l xs (get_or xs k 0) m (occurs_at xs k (omega arith)) in omega arith)
]
after l (x ∷ xs) (suc j) (suc k) h lt few m = elim (cases_Bool (l x)) [
  | inl t ↦ after l xs j k (let z : 0 + runs l true xs ≤ 0 = subst (λ b. cond b 0 0 + runs l b xs ≤ 0) t h in omega arith) (omega arith) (omega arith) m
  | inr f ↦ absurd (
      let z : 0 + runs l false xs ≤ 0 = subst (λ b. cond b 0 0 + runs l b xs ≤ 0) f h in
      let s : 1 ≤ runs l false xs = runs_some l xs (get_or xs k 0) m (occurs_at xs k (omega arith)) in omega arith)
]

-- where the marked ones are one run, what stands between two of them is marked
between : (l : ℕ → Bool) (o : List ℕ) (i j k : ℕ) → runs l false o ≤ 1 → i < j → j < k → k < length o → l (get_or o i 0) ≡ true → l (get_or o k 0) ≡ true →
    l (get_or o j 0) ≡ true
between l [] i j k h ij jk few mi mk = absurd (omega arith)
between l (x ∷ xs) i zero k h ij jk few mi mk = absurd (omega arith)
between l (x ∷ xs) i (suc j) zero h ij jk few mi mk = absurd (omega arith)
between l (x ∷ xs) zero (suc j) (suc k) h ij jk few mi mk =
    after l xs j k (let z : 1 + runs l true xs ≤ 1 = subst (λ b. cond b 1 0 + runs l b xs ≤ 1) mi h in omega arith) (omega arith) (omega arith) mk
between l (x ∷ xs) (suc i) (suc j) (suc k) h ij jk few mi mk = elim (cases_Bool (l x)) [
  | inl t ↦ after l xs j k (let z : 1 + runs l true xs ≤ 1 = subst (λ b. cond b 1 0 + runs l b xs ≤ 1) t h in omega arith) (omega arith) (omega arith) mk
  | inr f ↦ between l xs i j k (let z : 0 + runs l false xs ≤ 1 = subst (λ b. cond b 1 0 + runs l b xs ≤ 1) f h in omega arith) (omega arith) (omega arith) (omega arith) mi mk
]

-- each frontier of the tree keeps a row that the arena's layout keeps
pub kept_outline : (f : Layout) (row o : List ℕ) → IsLayout f → IsOneTree f → IsRow f.columns row → IsRowKept f (column_leaves row) → IsFrontier (outline_at f) o → Keeps o row
kept_outline f [] o layout one r kept frontier = kept_empty o
kept_outline f (a ∷ row) o layout one r kept frontier =
    let marked : Marked f (column_leaves (a ∷ row)) (has (a ∷ row)) = record {
      into = λ y b s t. has_leaf f (a ∷ row) y b layout (row_within f.columns (a ∷ row) r) s t;
      back = λ y b s i. leaf_has f (a ∷ row) y b layout (row_within f.columns (a ∷ row) r) s i;
    } in
    let t : TreeAt f f.root = tree_at f f.root layout layout.root_used in
    let same : outline_at f ≡ outline_named t.it = ap (outline_below f) (sym t.named) ∙ below_named f t.it layout t.is in
    let one_run_of_row : runs (has (a ∷ row)) false o ≤ 1 =
    kept_frontiers f (column_leaves (a ∷ row)) (has (a ∷ row)) (a - 1) layout (row_leaves f (a ∷ row) layout one r) (occurs_here (a - 1) (column_leaves row)) marked kept
    t.it o t.is t.named (subst (λ z. IsFrontier z o) same frontier) in
    λ i j k ij jk few mi mk. between (has (a ∷ row)) o i j k one_run_of_row ij jk few mi mk
