-- The beginning and the end of the search.
use Rattle.std.proofs.Common.{refl, drop, ◌<◌, ◌≢◌, cond, eqb, ltb, None, IsTrue, ◌≡◌, ◌∙◌, ℕ, ◌+◌, ◌≤◌, Bool, true, false, not, [], length, take, slice_get, Some, sym, ap, subst, inl, inr, arith}
use Rattle.std.proofs.lemmas.Bool.{both_ways, cases_eq, ne_eqb, lt-ltb, ltb-true, eq-eqb}
use Rattle.std.proofs.lemmas.Option.{none-some}
use Rattle.row_model.specs.Graph.{pair, turned, row_at, IsPair, Crosses, HasOddWalk}
use Rattle.column_order.specs.Orders.{has}
use Rattle.row_model.specs.Rows.{RowList}
use Rattle.row_model.specs.declared.TheConstants.{ROW_BOUND}
use Rattle.row_model.proofs.Pairs.{same_pair}
use Rattle.open_gaps.specs.Labels.{GapLaw}
use Rattle.walk_search.specs.declared.forest.Node.{Node}
use Rattle.walk_search.specs.declared.forest.Forest.{Forest}
use Rattle.walk_search.specs.declared.neighbours.Neighbours.{Neighbours}
use Rattle.odd_cycle.specs.Numbers.{number_of, IsIndexed}
use Rattle.odd_cycle.specs.Marks.{Marking, is_marked}
use Rattle.walk_search.specs.Neighbours.{AreNeighbours}
use Rattle.walk_search.specs.Search.{pair_of_node, IsReached, IsSettled, IsSearch, Grows, AreTaken, AreReachedFrom}
use Rattle.walk_search.proofs.ForestLaws.{reached_grown}
use Rattle.walk_search.specs.Weights.{held_for, IsJoining, TellsJoining}
use Rattle.walk_search.proofs.AcrossLaws.{reached_by_number}
use Rattle.walk_search.proofs.SettledLaws.{forth, reached_turned}
use Rattle.walk_search.proofs.UnreachedLaws.{held_in_row, no_walk}

-- all nodes are taken, and the pairs of those of the first columns by which rows can join pairs are reached
pub record IsSearched (m : RowList) (near : Neighbours) (further : ℕ) (marks : Marking) (forest : Forest) (done : ℕ) : Type 0 where
  pub search : IsSearch m near.first marks forest
  pub count : marks.rows ≡ further
  pub taken : AreTaken m near marks forest.nodes.items (length forest.nodes.items)
  pub reached : (a : ℕ) → 1 ≤ a → a ≤ done → IsJoining m near a → AreReachedFrom m near forest.nodes.items a m.columns

pub searched_none : (m : RowList) (near : Neighbours) (further : ℕ) (marks : Marking) (forest : Forest) → near.first + further ≤ length m.rows → length m.rows ≤ ROW_BOUND → marks.rows ≡ further → marks.columns ≡ m.columns → ((k p : ℕ) → is_marked marks k p ≡ false) →
    forest.numbers.columns ≡ m.columns → forest.nodes.items ≡ [] → forest.root ≡ 0 → IsIndexed pair_of_node forest.numbers forest.nodes.items → IsSearched m near further marks forest 0
searched_none m near further marks forest few small count columns blank wide empty root indexed =
    let none : (i : ℕ) (node : Node) → slice_get forest.nodes.items i ≡ Some node → ⊥ = λ i node e. none-some node (sym (ap (λ ns. slice_get ns i) empty) ∙ e) in
    let nothing : IsSettled m.columns (take (near.first + marks.rows) m.rows) [] = λ v w odd r j. absurd (none-some r.node r.there) in
    let front : take forest.root forest.nodes.items ≡ [] = ap (λ n. take n forest.nodes.items) root in
    record {
      search = record {
        few = omega arith;
        small = small;
        columns = columns;
        is_forest = record {
          columns = wide;
          indexed = indexed;
          within = omega (arith, root);
          settled = subst (IsSettled m.columns (take (near.first + marks.rows) m.rows)) (sym front) nothing;
          tree = record { parents = λ i node e l. absurd (none i node e); parities = λ i node parent e l f. absurd (none i node e) };
          joined = λ i node parent e l f. absurd (none i node e);
        };
        spread = λ k p a b d t n. absurd (never k p t);
      };
      count = count;
      taken = λ i node l e. absurd (none i node e);
      reached = λ a l k j. absurd (omega arith);
    }
  where
    never : (k p : ℕ) → is_marked marks k p ≡ true → ⊥
    never k p t = let e = blank k p in cc

-- what one more column leaves, in a search that has gone on
module _ (m : RowList) (near : Neighbours) (further : ℕ) (marks marks' : Marking) (old new : Forest) (done a : ℕ) (x : IsSearched m near further marks old done)
    (r : IsSearch m near.first marks' new × Grows marks marks' old.nodes.items new.nodes.items × AreTaken m near marks' new.nodes.items (length new.nodes.items) × AreReachedFrom m near new.nodes.items a m.columns) where
  still_reached : (d : ℕ) → AreReachedFrom m near old.nodes.items d m.columns → AreReachedFrom m near new.nodes.items d m.columns
  still_reached d h b u p j =
      let was = h b u p j in
      (was.0, reached_grown marks marks' old.nodes.items new.nodes.items (pair d b) was.0 r.1 was.1)

  -- some column
  pub searched_again : IsSearched m near further marks' new done
  searched_again = record { search = r.0; count = r.1.rows ∙ x.count; taken = r.2; reached = λ d l k j. still_reached d (x.reached d l k j) }

  -- the next column
  pub searched_more : a ≡ done + 1 → IsSearched m near further marks' new (done + 1)
  searched_more e =
      record {
        search = r.0;
        count = r.1.rows ∙ x.count;
        taken = r.2;
        reached = λ d l k j. elim (cases_eq d a) [
          | inl s ↦ subst (λ c. AreReachedFrom m near new.nodes.items c m.columns) (sym s) r.3
          | inr n ↦ still_reached d (x.reached d l (omega arith) j)
        ];
      }

-- rows can't join pairs by the next column
pub searched_idle : (m : RowList) (near : Neighbours) (further : ℕ) (marks : Marking) (forest : Forest) (done : ℕ) (answer : Bool) → IsSearched m near further marks forest done → TellsJoining m near (done + 1) answer → answer ≡ false →
    IsSearched m near further marks forest (done + 1)
searched_idle m near further marks forest done answer x tells fails =
    record {
      search = x.search;
      count = x.count;
      taken = x.taken;
      reached = λ d l k j. elim (cases_eq d (done + 1)) [ inl s ↦ absurd (both_ways answer fails (tells.whole (subst (IsJoining m near) s j))) | inr n ↦ x.reached d l (omega arith) j ];
    }

-- where all columns have had their turn there is no closed walk of odd length
pub searched_all : GapLaw → (m : RowList) (near : Neighbours) (further : ℕ) (marks : Marking) (forest : Forest) (done : ℕ) → AreNeighbours m further near → near.gaps ≡ None → IsSearched m near further marks forest done → m.columns ≤ done →
    HasOddWalk m.columns (take (near.first + further) m.rows) → ⊥
searched_all law m near further marks forest done near_is none x l h =
    let here : AreNeighbours m marks.rows near = subst (λ n. AreNeighbours m n near) (sym x.count) near_is in
    let odd = subst (λ n. HasOddWalk m.columns (take (near.first + n) m.rows)) (sym x.count) h in
    let is_held : ℕ → Bool = λ a. ltb 0 (held_for near a) in
    no_walk law m near marks forest here x.search x.taken is_held
    (λ k a i j from to t. lt-ltb 0 (held_for near a) (held_in_row m near marks here k a i j from to t))
    (λ t e a from to o. absurd (none-some t (sym none ∙ e)))
    (λ k v p i j t f b. x.reached v.a p.a_from (omega (arith, p.a_to)) (inl (held_in_row m near marks here k v.a i j p.a_from p.a_to t)) v.b p.b_to p (inl (ltb-true 0 (held_for near v.b) b)))
    odd

-- the column of a further row, by which the search along an order begins, and what it has reached
module _ (law : GapLaw) (m : RowList) (near : Neighbours) (marks : Marking) (forest : Forest) (near_is : AreNeighbours m marks.rows near) (h : IsSearch m near.first marks forest)
    (all : AreTaken m near marks forest.nodes.items (length forest.nodes.items)) (only : marks.rows ≡ 1) where
  -- the further row is empty
  pub along_none : row_at (drop near.first m.rows) 1 ≡ [] → HasOddWalk m.columns (take (near.first + marks.rows) m.rows) → ⊥
  along_none empty =
      no_walk law m near marks forest near_is h all (λ a. true) (λ k a i j from to t. refl) (λ t e a from to o. refl)
      (λ k v p i j t f b.
      let one : k ≡ 1 = omega (arith, i, j, only) in
      absurd (both_ways (has [] v.a) refl (subst (λ row. IsTrue (has row v.a)) empty (subst (λ n. IsTrue (has (row_at (drop near.first m.rows) n) v.a)) one t))))

  module _ (a : ℕ) (from : 1 ≤ a) (to : a ≤ m.columns) (held : IsTrue (has (row_at (drop near.first m.rows) 1) a)) (reached : AreReachedFrom m near forest.nodes.items a m.columns) where
    -- whether the pair of the first column and another is reached
    is_begun : ℕ → Bool
    is_begun b = cond (eqb b a) true (ltb 0 (number_of forest.numbers (pair a b)))

    begun : (b : ℕ) → 1 ≤ b → b ≤ m.columns → IsJoining m near b → is_begun b ≡ true
    unfolding is_begun
    begun b i j x =
        elim (cases_eq b a) [
          | inl e ↦ rw (eq-eqb b a e) refl
          | inr n ↦
              let r = reached b j (record { a_from = from; a_to = to; b_from = i; b_to = j; distinct = λ e. n (sym e) }) x in
              let number : number_of forest.numbers (pair a b) ≡ r.1.index + 1 = ap (number_of forest.numbers) (sym r.1.pair) ∙ (h.is_forest.indexed.pairs r.1.index r.1.node r.1.there).1 in
              rw (ne_eqb b a n) (lt-ltb 0 (number_of forest.numbers (pair a b)) (omega (arith, number)))
        ]

    begun_reached : (b : ℕ) → 1 ≤ b → b ≤ m.columns → b ≢ a → is_begun b ≡ true → (odd : Bool) × IsReached forest.nodes.items (pair a b) odd
    unfolding is_begun
    begun_reached b i j n e =
        let l : 0 < number_of forest.numbers (pair a b) = ltb-true 0 (number_of forest.numbers (pair a b)) (rw (ne_eqb b a n) at e) in
        let p : IsPair m.columns (pair a b) = record { a_from = from; a_to = to; b_from = i; b_to = j; distinct = λ e. n (sym e) } in
        reached_by_number forest.numbers forest.nodes.items h.is_forest.indexed (pair a b) (subst (λ c. IsPair c (pair a b)) (sym h.is_forest.columns) p) l

    pub along_all : HasOddWalk m.columns (take (near.first + marks.rows) m.rows) → ⊥
    along_all =
        let rest = drop near.first m.rows in
        no_walk law m near marks forest near_is h all is_begun
        (λ k d i j u v t. begun d u v (inl (held_in_row m near marks near_is k d i j u v t)))
        (λ t e d u v o. begun d u v (inr (t, e, o)))
        (λ k v p i j t f b.
        let one : k ≡ 1 = omega (arith, i, j, only) in
        let has_a : IsTrue (has (row_at rest k) a) = subst (λ n. IsTrue (has (row_at rest n) a)) (sym one) held in
        let far : v.b ≢ a = λ e. both_ways (has (row_at rest k) v.b) f (subst (λ x. IsTrue (has (row_at rest k) x)) (sym e) has_a) in
        let r = begun_reached v.b p.b_from p.b_to far b in
        elim (cases_eq v.a a) [
          | inl e ↦ (r.0, subst (λ x. IsReached forest.nodes.items x r.0) (same_pair (pair a v.b) v (sym e) refl) r.1)
          | inr n ↦
              let q : IsPair m.columns (pair a v.b) = record { a_from = from; a_to = to; b_from = p.b_from; b_to = p.b_to; distinct = λ e. far (sym e) } in
              let x : Crosses (row_at rest k) (pair a v.b) (turned v) = record { middle = refl; ends = λ e. n (sym e); has_first = has_a; has_last = t; lacks_middle = f } in
              let next = forth law m near marks forest near_is h all (pair a v.b) (turned v) r.0 k q r.1 i j x in
              (not (not r.0), reached_turned law m near marks forest near_is h all (turned v) (not r.0) next)
        ])
