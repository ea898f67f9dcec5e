-- Nodes that are taken, and what it shows that all are.
use Rattle.std.proofs.Common.{◌≡◌, ◌∙◌, ℕ, ◌+◌, ◌<◌, ◌≤◌, Bool, true, not, List, ◌++◌, length, take, drop, slice_get, slice_index, Option, Some, IsTrue, refl, sym, ap, subst, inl, inr, arith}
use Rattle.std.proofs.lemmas.Bool.{cases_eq}
use Rattle.std.proofs.lemmas.Option.{same_Some, slice_get_within}
use Rattle.row_model.specs.declared.graph.Pair.{Pair}
use Rattle.row_model.specs.Graph.{pair, turned, row_at, IsPair}
use Rattle.row_model.specs.Rows.{RowList}
use Rattle.column_order.specs.Orders.{has, place}
use Rattle.open_gaps.specs.Tables.{GapTable}
use Rattle.walk_search.specs.declared.forest.Node.{Node}
use Rattle.walk_search.specs.declared.forest.Forest.{Forest}
use Rattle.walk_search.specs.declared.neighbours.Neighbours.{Neighbours}
use Rattle.odd_cycle.specs.Marks.{Marking, is_marked}
use Rattle.walk_search.specs.Holders.{holders_of, AreHolders, without}
use Rattle.walk_search.specs.Search.{IsReached, IsForest, IsSearch, Grows, HasLeft, AreAcross, IsTaken, AreTaken}
use Rattle.odd_cycle.proofs.Items.{item_at}
use Rattle.walk_search.proofs.ForestLaws.{reached_append, reached_grown, grows_refl, grows_trans, grown_item, grown_long}
use Rattle.walk_search.proofs.SearchLaws.{node_pair}

-- a search stays one with more nodes
pub search_grown : (m : RowList) (first : ℕ) (marks : Marking) (old new : Forest) (more : List Node) → IsSearch m first marks old → IsForest m.columns (take (first + marks.rows) m.rows) new →
    new.nodes.items ≡ old.nodes.items ++ more → IsSearch m first marks new
search_grown m first marks old new more h forest e =
    record {
      few = h.few;
      small = h.small;
      columns = h.columns;
      is_forest = forest;
      spread = λ k p a b d f n. (let was = h.spread k p a b d f n in (was.0, λ x t. subst (λ ns. IsReached ns (pair p x) was.0) (sym e) (reached_append old.nodes.items more (pair p x) was.0 (was.1 x t))));
    }

-- what is reached across the gaps stays reached
pub across_more : (front : List (List ℕ)) (gaps : Option GapTable) (nodes nodes' : List Node) (v : Pair) (odd : Bool) → ((w : Pair) → IsReached nodes w odd → IsReached nodes' w odd) → AreAcross front gaps nodes v odd → AreAcross front gaps nodes' v odd
across_more front gaps nodes nodes' v odd stay h =
    λ t e. (let x = h t e in record {
      before = λ k q l o. stay (pair v.b (slice_index t.order q)) (x.before k q l o);
      behind = λ k l o. stay (pair v.b (slice_index t.order (place t.order v.a + 1))) (x.behind k l o);
    })

-- the pair of the node exchanged and the pairs across the gaps are reached, and the first rows with its first column are
-- marked at its second
pub record IsExpanding (m : RowList) (near : Neighbours) (marks marks' : Marking) (old new : Forest) (from : ℕ) (rows : List ℕ) (done : ℕ) : Type 0 where
  pub search : IsSearch m near.first marks' new
  pub grows : Grows marks marks' old.nodes.items new.nodes.items
  pub root : new.root ≡ old.root
  pub exchanged : (node : Node) → slice_get old.nodes.items from ≡ Some node → IsReached new.nodes.items (turned node.pair) (not node.odd)
  pub across : (node : Node) → slice_get old.nodes.items from ≡ Some node → AreAcross (take near.first m.rows) near.gaps new.nodes.items node.pair (not node.odd)
  pub so_far : (node : Node) (i k : ℕ) → slice_get old.nodes.items from ≡ Some node → i < done → slice_get rows i ≡ Some k → is_marked marks' k node.pair.b ≡ true

pub expanding_none : (m : RowList) (near : Neighbours) (marks : Marking) (old new : Forest) (from : ℕ) (rows : List ℕ) → IsSearch m near.first marks old →
    HasLeft m.columns (take near.first m.rows) (take (near.first + marks.rows) m.rows) near.gaps old new from → IsExpanding m near marks marks old new from rows 0
expanding_none m near marks old new from rows h left =
    record {
      search = search_grown m near.first marks old new left.grown.more h left.grown.is_forest left.grown.appended;
      grows = record { rows = refl; columns = refl; stay = λ k p t. t; more = left.grown.more; appended = left.grown.appended };
      root = left.grown.root;
      exchanged = left.exchanged;
      across = left.across;
      so_far = λ other i k e l f. absurd (omega arith);
    }

module _ (m : RowList) (near : Neighbours) (marks : Marking) (old : Forest) (from : ℕ) (node : Node) (h : IsSearch m near.first marks old) (there : slice_get old.nodes.items from ≡ Some node) where
  pub taken_pair : IsPair m.columns node.pair
  taken_pair = node_pair m.columns (take (near.first + marks.rows) m.rows) old from node h.is_forest there

  -- the rows of the loop have the node's first column
  module _ (lists : List (List ℕ)) (holders : AreHolders (without near.first m) marks.rows lists) (rows : List ℕ) (is : rows ≡ holders_of lists node.pair.a) (marks' : Marking) (new : Forest) (done : ℕ)
      (x : IsExpanding m near marks marks' old new from rows done) where
    pub expanding_row : (k : ℕ) → slice_get rows done ≡ Some k → (1 ≤ k) × (k ≤ marks'.rows) × IsTrue (has (row_at (drop near.first m.rows) k) node.pair.a)
    expanding_row k e =
        let s = holders.sound node.pair.a done k taken_pair.a_from (subst (λ (r : List ℕ). slice_get r done ≡ Some k) is e) in
        (s.0, omega (arith, s.1, x.grows.rows), s.2)

    pub expanding_all : length rows ≤ done → (other : Node) → slice_get old.nodes.items from ≡ Some other → IsTaken m near marks' new.nodes.items other
    expanding_all long other e =
        let same : node ≡ other = same_Some node other (sym there ∙ e) in
        subst (λ (n : Node). IsTaken m near marks' new.nodes.items n) same
        (record {
          turned = x.exchanged node there;
          marked = λ k a b t.
              let b' : k ≤ marks.rows = omega (arith, x.grows.rows) in
              let found = holders.whole node.pair.a k taken_pair.a_from taken_pair.a_to a b' t in
              let at : slice_get rows found.0 ≡ Some k = subst (λ (r : List ℕ). slice_get r found.0 ≡ Some k) (sym is) found.1 in
              x.so_far node found.0 k there (omega (arith, slice_get_within rows found.0 k at)) at;
          across = x.across node there;
        })

pub expanding_more : (m : RowList) (near : Neighbours) (marks marks' marks'' : Marking) (old new next : Forest) (from : ℕ) (rows : List ℕ) (done k : ℕ) → IsExpanding m near marks marks' old new from rows done →
    slice_get rows done ≡ Some k →
    IsSearch m near.first marks'' next × Grows marks' marks'' new.nodes.items next.nodes.items × (next.root ≡ new.root) × ((node : Node) → slice_get new.nodes.items from ≡ Some node → is_marked marks'' k node.pair.b ≡ true) →
    IsExpanding m near marks marks'' old next from rows (done + 1)
expanding_more m near marks marks' marks'' old new next from rows done k x at r =
    record {
      search = r.0;
      grows = grows_trans marks marks' marks'' old.nodes.items new.nodes.items next.nodes.items x.grows r.1;
      root = r.2 ∙ x.root;
      exchanged = λ node e. reached_grown marks' marks'' new.nodes.items next.nodes.items (turned node.pair) (not node.odd) r.1 (x.exchanged node e);
      across = λ node e. across_more (take near.first m.rows) near.gaps new.nodes.items next.nodes.items node.pair (not node.odd) (λ w. reached_grown marks' marks'' new.nodes.items next.nodes.items w (not node.odd) r.1) (x.across node e);
      so_far = λ node i j e l f. elim (cases_eq i done) [
        | inl s ↦
            let same : k ≡ j = same_Some k j (sym at ∙ sym (ap (slice_get rows) s) ∙ f) in
            subst (λ y. is_marked marks'' y node.pair.b ≡ true) same (r.3 node (grown_item marks marks' old.nodes.items new.nodes.items from node x.grows e))
        | inr n ↦ r.1.stay j node.pair.b (x.so_far node i j e (omega arith) f)
      ];
    }

-- what is taken stays taken
pub taken_grown : (m : RowList) (near : Neighbours) (marks marks' : Marking) (nodes nodes' : List Node) (node : Node) → Grows marks marks' nodes nodes' → IsTaken m near marks nodes node → IsTaken m near marks' nodes' node
taken_grown m near marks marks' nodes nodes' node g h =
    record {
      turned = reached_grown marks marks' nodes nodes' (turned node.pair) (not node.odd) g h.turned;
      marked = λ k a b t. g.stay k node.pair.b (h.marked k a (omega (arith, g.rows)) t);
      across = across_more (take near.first m.rows) near.gaps nodes nodes' node.pair (not node.odd) (λ w. reached_grown marks marks' nodes nodes' w (not node.odd) g) h.across;
    }

-- a node at an old index is an old one
pub old_item : (marks marks' : Marking) (nodes nodes' : List Node) (i : ℕ) (node : Node) → Grows marks marks' nodes nodes' → i < length nodes → slice_get nodes' i ≡ Some node → slice_get nodes i ≡ Some node
old_item marks marks' nodes nodes' i node g l e =
    let was = item_at nodes i l in
    let same : was.0 ≡ node = same_Some was.0 node (sym (grown_item marks marks' nodes nodes' i was.0 g was.1) ∙ e) in
    was.1 ∙ ap Some same

pub all_taken_grown : (m : RowList) (near : Neighbours) (marks marks' : Marking) (nodes nodes' : List Node) (n : ℕ) → n ≤ length nodes → Grows marks marks' nodes nodes' → AreTaken m near marks nodes n → AreTaken m near marks' nodes' n
all_taken_grown m near marks marks' nodes nodes' n l g h = λ i node k e. taken_grown m near marks marks' nodes nodes' node g (h i node k (old_item marks marks' nodes nodes' i node g (omega arith) e))

-- the first nodes are taken
pub record IsGrowing (m : RowList) (near : Neighbours) (marks marks' : Marking) (old new : Forest) (head : ℕ) : Type 0 where
  pub search : IsSearch m near.first marks' new
  pub grows : Grows marks marks' old.nodes.items new.nodes.items
  pub within : new.root ≤ head
  pub upto : head ≤ length new.nodes.items
  pub taken : AreTaken m near marks' new.nodes.items head

pub growing_none : (m : RowList) (near : Neighbours) (marks : Marking) (f : Forest) → IsSearch m near.first marks f → AreTaken m near marks f.nodes.items f.root → IsGrowing m near marks marks f f f.root
growing_none m near marks f h t = record { search = h; grows = grows_refl marks f.nodes.items; within = omega arith; upto = h.is_forest.within; taken = t }

pub growing_more : (m : RowList) (near : Neighbours) (marks marks' marks'' : Marking) (old new next : Forest) (head : ℕ) → IsGrowing m near marks marks' old new head → head < length new.nodes.items →
    IsSearch m near.first marks'' next × Grows marks' marks'' new.nodes.items next.nodes.items × (next.root ≡ new.root) × ((node : Node) → slice_get new.nodes.items head ≡ Some node → IsTaken m near marks'' next.nodes.items node) →
    IsGrowing m near marks marks'' old next (head + 1)
growing_more m near marks marks' marks'' old new next head x l r =
    record {
      search = r.0;
      grows = grows_trans marks marks' marks'' old.nodes.items new.nodes.items next.nodes.items x.grows r.1;
      within = omega (arith, r.2, x.within);
      upto = omega (arith, grown_long marks' marks'' new.nodes.items next.nodes.items r.1);
      taken = λ i node k e. elim (cases_eq i head) [
        | inl s ↦ r.3 node (ap (slice_get new.nodes.items) (sym s) ∙ old_item marks' marks'' new.nodes.items next.nodes.items i node r.1 (omega arith) e)
        | inr n ↦ all_taken_grown m near marks' marks'' new.nodes.items next.nodes.items head x.upto r.1 x.taken i node (omega arith) e
      ];
    }

pub growing_all : (m : RowList) (near : Neighbours) (marks marks' : Marking) (old new : Forest) (head : ℕ) → IsGrowing m near marks marks' old new head → length new.nodes.items ≤ head →
    IsSearch m near.first marks' new × Grows marks marks' old.nodes.items new.nodes.items × AreTaken m near marks' new.nodes.items (length new.nodes.items)
growing_all m near marks marks' old new head x l = (x.search, x.grows, λ i node k e. x.taken i node (omega arith) e)
