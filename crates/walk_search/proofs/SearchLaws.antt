-- The search: what is reached by looking at a row, and what the end of it shows.
use Rattle.std.proofs.Common.{◌≡◌, ◌≢◌, ◌⊎◌, ◌∙◌, ℕ, ◌+◌, ◌-◌, ◌<◌, ◌≤◌, true, not, List, [], ◌++◌, length, take, drop, get_or, slice_get, Some, IsTrue, IsFalse, refl, sym, ap, subst, inl, inr, arith}
use Rattle.std.proofs.lemmas.Bool.{both_ways, cases_eq}
use Rattle.std.proofs.lemmas.List.{length-take-le, get_or-take, get_or-drop, take-take}
use Rattle.std.proofs.lemmas.Option.{same_Some, slice_get_within}
use Rattle.row_model.specs.declared.graph.Pair.{Pair}
use Rattle.row_model.specs.declared.graph.Why.{Why}
use Rattle.row_model.specs.declared.graph.Why.TheVariants.{Row}
use Rattle.row_model.specs.Graph.{pair, turned, row_at, IsPair, JoinedBy, Crosses}
use Rattle.row_model.specs.Rows.{RowList}
use Rattle.column_order.specs.Orders.{has}
use Rattle.walk_search.specs.declared.forest.Node.{Node}
use Rattle.walk_search.specs.declared.forest.Forest.{Forest}
use Rattle.odd_cycle.specs.Marks.{Marking, is_marked, IsMarkedAt}
use Rattle.walk_search.specs.Search.{IsReached, IsForest, IsReachedAlong, IsSpread, IsSearch, Grows, IsJoinedFrom, HasGrown, HasStepped}
use Rattle.row_model.proofs.CycleLaws.{joined_more}
use Rattle.odd_cycle.proofs.Items.{item_of, has_item}
use Rattle.walk_search.proofs.ForestLaws.{reached_append, grown_there, grown_old, grown_reached, grown_refl, grown_trans}

-- the pairs of b with the first columns of the row are reached
pub record IsSpreading (c : ℕ) (rows : List (List ℕ)) (row : List ℕ) (old new : Forest) (node : Node) (done : ℕ) : Type 0 where
  pub grown : HasGrown c rows old new
  pub so_far : (i d : ℕ) → i < done → slice_get row i ≡ Some d → IsReached new.nodes.items (pair node.pair.b d) (not node.odd)

pub spreading_none : (c : ℕ) (rows : List (List ℕ)) (row : List ℕ) (f : Forest) (node : Node) → IsForest c rows f → IsSpreading c rows row f f node 0
spreading_none c rows row f node h = record { grown = grown_refl c rows f h; so_far = λ i d l e. absurd (omega arith) }

-- a node has a pair of distinct columns in range
pub node_pair : (c : ℕ) (rows : List (List ℕ)) (f : Forest) (i : ℕ) (node : Node) → IsForest c rows f → slice_get f.nodes.items i ≡ Some node → IsPair c node.pair
node_pair c rows f i node h e = subst (λ n. IsPair n node.pair) h.columns (h.indexed.pairs i node e).0

module _ (c : ℕ) (rows : List (List ℕ)) (row : List ℕ) (old new : Forest) (node : Node) (from done d : ℕ) (h : IsSpreading c rows row old new node done)
    (there : slice_get old.nodes.items from ≡ Some node) (at : slice_get row done ≡ Some d) where
  -- the column a itself
  pub spreading_turned : d ≡ node.pair.a → IsReached old.nodes.items (turned node.pair) (not node.odd) → IsSpreading c rows row old new node (done + 1)
  spreading_turned e r =
      record {
        grown = h.grown;
        so_far = λ i x l f. elim (cases_eq i done) [
          | inl s ↦
              let same : x ≡ node.pair.a = same_Some x d (sym f ∙ ap (slice_get row) s ∙ at) ∙ e in
              subst (λ y. IsReached new.nodes.items (pair node.pair.b y) (not node.odd)) (sym same) (grown_reached c rows old new (turned node.pair) (not node.odd) h.grown r)
          | inr n ↦ h.so_far i x (omega arith) f
        ];
      }

  module _ (range : (1 ≤ d) × (d ≤ c)) (k : ℕ) (from_one : 1 ≤ k) (to : k ≤ length rows) (is : row_at rows k ≡ row) (has_a : IsTrue (has row node.pair.a)) (lacks_b : IsFalse (has row node.pair.b)) (other : d ≢ node.pair.a) where
    has_d : IsTrue (has row d)
    has_d = has_item row done d at

    far : node.pair.b ≢ d
    far e = both_ways (has row node.pair.b) lacks_b (subst (λ x. IsTrue (has row x)) (sym e) has_d)

    node_is_pair : IsPair c node.pair
    node_is_pair = node_pair c rows new from node h.grown.is_forest (grown_there c rows old new from node h.grown there)

    pub next_pair : IsPair c (pair node.pair.b d)
    next_pair = record { a_from = node_is_pair.b_from; a_to = node_is_pair.b_to; b_from = range.0; b_to = range.1; distinct = far }

    -- the pair (b,d) is joined to (a,b)
    pub crossed : IsJoinedFrom c rows new from (record { pair = pair node.pair.b d; why = Row k })
    crossed x e =
        let l : from < length old.nodes.items = slice_get_within old.nodes.items from node there in
        let same : node ≡ x = same_Some node x (sym there ∙ grown_old c rows old new from x h.grown l e) in
        subst (λ (n : Node). JoinedBy c rows (pair node.pair.b d) n.pair (Row k)) same
        (record {
          from = next_pair;
          to = node_is_pair;
          fits = (
            from_one,
            to,
            inr (subst (λ r. Crosses r node.pair (pair node.pair.b d)) (sym is) (record { middle = refl; ends = λ e. other (sym e); has_first = has_a; has_last = has_d; lacks_middle = lacks_b })),
          );
        })

  pub spreading_more : (next : Forest) → HasStepped c rows new next from (pair node.pair.b d) → IsSpreading c rows row old next node (done + 1)
  spreading_more next a =
      record {
        grown = grown_trans c rows old new next h.grown a.grown;
        so_far = λ i x l f. elim (cases_eq i done) [
          | inl s ↦
              let same : x ≡ d = same_Some x d (sym f ∙ ap (slice_get row) s ∙ at) in
              subst (λ y. IsReached next.nodes.items (pair node.pair.b y) (not node.odd)) (sym same) (a.reached node (grown_there c rows old new from node h.grown there))
          | inr n ↦ grown_reached c rows new next (pair node.pair.b x) (not node.odd) a.grown (h.so_far i x (omega arith) f)
        ];
      }

-- the marks and the pairs that are reached along marked rows, when one more row is marked at a column
spread_more : (rows : List (List ℕ)) (marks marks' : Marking) (nodes more : List Node) (k p : ℕ) → 1 ≤ k → k ≤ marks.rows → IsSpread rows marks nodes → IsMarkedAt marks marks' k p →
    (IsFalse (has (row_at rows k) p) → IsReachedAlong (nodes ++ more) p (row_at rows k)) → IsSpread rows marks' (nodes ++ more)
spread_more rows marks marks' nodes more k p a b h g now = λ j q l u f t n.
    elim (cases_eq j k) [
      | inl s ↦ elim (cases_eq q p) [
        | inl r ↦
            subst (λ x. IsReachedAlong (nodes ++ more) q (row_at rows x)) (sym s) (subst (λ x. IsReachedAlong (nodes ++ more) x (row_at rows k)) (sym r) (now (subst (λ x. IsFalse (has (row_at rows k) x)) r (subst (λ x. IsFalse (has (row_at rows x) q)) s n))))
        | inr r ↦ earlier j q l u f (inr r) t n
      ]
      | inr s ↦ earlier j q l u f (inl s) t n
    ]
  where
    earlier : (j q : ℕ) → 1 ≤ j → j ≤ marks'.rows → 1 ≤ q → (j ≢ k) ⊎ (q ≢ p) → is_marked marks' j q ≡ true → IsFalse (has (row_at rows j) q) → IsReachedAlong (nodes ++ more) q (row_at rows j)
    earlier j q l u f o t n =
        let v : j ≤ marks.rows = omega (arith, g.rows) in
        let was = h j q l v f (sym (g.others j q l v f o) ∙ t) n in
        (was.0, λ d e. reached_append nodes more (pair q d) was.0 (was.1 d e))

pub looked : (m : RowList) (first : ℕ) (marks marks' : Marking) (old new : Forest) (from k : ℕ) (node : Node) → IsSearch m first marks old → slice_get old.nodes.items from ≡ Some node → 1 ≤ k → k ≤ marks.rows →
    IsMarkedAt marks marks' k node.pair.b → HasGrown m.columns (take (first + marks.rows) m.rows) old new →
    (IsFalse (has (row_at (drop first m.rows) k) node.pair.b) → IsReachedAlong new.nodes.items node.pair.b (row_at (drop first m.rows) k)) →
    IsSearch m first marks' new × Grows marks marks' old.nodes.items new.nodes.items × (new.root ≡ old.root) × ((other : Node) → slice_get old.nodes.items from ≡ Some other → is_marked marks' k other.pair.b ≡ true)
looked m first marks marks' old new from k node h there a b g grown along = (
  record {
    few = subst (λ n. first + n ≤ length m.rows) (sym g.rows) h.few;
    small = h.small;
    columns = g.columns ∙ h.columns;
    is_forest = subst (λ n. IsForest m.columns (take (first + n) m.rows) new) (sym g.rows) grown.is_forest;
    spread = subst (IsSpread (drop first m.rows) marks') (sym grown.appended) (spread_more (drop first m.rows) marks marks' old.nodes.items grown.more k node.pair.b a b h.spread g (λ n. subst (λ ns. IsReachedAlong ns node.pair.b (row_at (drop first m.rows) k)) grown.appended (along n)));
  },
  record { rows = g.rows; columns = g.columns; stay = g.stay; more = grown.more; appended = grown.appended },
  grown.root,
  λ other e. (let same : node ≡ other = same_Some node other (sym there ∙ e) in subst (λ (x : Node). is_marked marks' k x.pair.b ≡ true) same g.here),
)

-- all columns of the row are done
pub spreading_all : (c : ℕ) (rows : List (List ℕ)) (row : List ℕ) (old new : Forest) (node : Node) → IsSpreading c rows row old new node (length row) → IsReachedAlong new.nodes.items node.pair.b row
spreading_all c rows row old new node h =
    (not node.odd, λ d t. (let i = item_of row d t in h.so_far i.0 d (slice_get_within row i.0 d i.1) i.1))

-- a further row is one of the rows of the graph
pub further_row : (rows : List (List ℕ)) (first further k : ℕ) → first + further ≤ length rows → 1 ≤ k → k ≤ further →
    (row_at (drop first rows) k ≡ row_at rows (first + k)) × (row_at (take (first + further) rows) (first + k) ≡ row_at (drop first rows) k) × (first + k ≤ length (take (first + further) rows))
further_row rows first further k few a b =
    let i : first + (k - 1) ≡ first + k - 1 = omega arith in
    let there : row_at (drop first rows) k ≡ row_at rows (first + k) = get_or-drop first rows (k - 1) [] ∙ ap (λ n. get_or rows n []) i in
    let front : row_at (take (first + further) rows) (first + k) ≡ row_at rows (first + k) = get_or-take (first + further) rows (first + k - 1) [] (omega arith) in
    (there, front ∙ sym there, omega (arith, length-take-le (first + further) rows few))

-- pairs that the first rows join are joined by more of them
pub joined_front : (c : ℕ) (rows : List (List ℕ)) (n k : ℕ) → n ≤ k → k ≤ length rows → (v w : Pair) (why : Why) → JoinedBy c (take n rows) v w why → JoinedBy c (take k rows) v w why
joined_front c rows n k l few v w why j =
    let same : take n (take k rows) ≡ take n rows = take-take n k rows l in
    joined_more c (take k rows) n v w why (omega (arith, length-take-le k rows few)) (subst (λ rs. JoinedBy c rs v w why) (sym same) j)
