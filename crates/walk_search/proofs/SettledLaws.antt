-- The end of a tree, and of the search.
use Rattle.std.proofs.Common.{◌≡◌, ◌⊎◌, ◌∙◌, ℕ, ◌+◌, ◌-◌, ◌<◌, ◌≤◌, Bool, true, false, not, [], ◌∷◌, ◌++◌, length, take, drop, slice_get, Option, Some, None, IsTrue, IsFalse, refl, sym, ap, subst, inl, inr, arith}
use Rattle.std.proofs.lemmas.Bool.{both_ways, cases_eq, cases_lt}
use Rattle.std.proofs.lemmas.List.{length-append, length-take-le, get_or-take, take_at}
use Rattle.std.proofs.lemmas.Option.{slice_get_within}
use Rattle.row_model.specs.declared.graph.Pair.{Pair}
use Rattle.row_model.specs.declared.graph.Why.TheVariants.{Flip, Row}
use Rattle.row_model.specs.Graph.{pair, turned, row_at, IsPair, Crosses, JoinedBy, Joined}
use Rattle.row_model.specs.Rows.{RowList}
use Rattle.column_order.specs.Orders.{has, IsValidOrder}
use Rattle.open_gaps.specs.Labels.{GapLaw}
use Rattle.open_gaps.specs.Tables.{GapTable}
use Rattle.walk_search.specs.declared.forest.Node.{Node}
use Rattle.walk_search.specs.declared.forest.Forest.{Forest}
use Rattle.walk_search.specs.declared.neighbours.Neighbours.{Neighbours}
use Rattle.odd_cycle.specs.Numbers.{number_of}
use Rattle.odd_cycle.specs.Marks.{Marking, is_marked}
use Rattle.walk_search.specs.Neighbours.{AreNeighbours}
use Rattle.walk_search.specs.Weights.{IsJoining, TellsJoining}
use Rattle.walk_search.specs.Search.{root_node, IsReached, Plants, IsSettled, IsSearch, Grows, IsAcross, IsTaken, AreTaken, AreReachedFrom}
use Rattle.odd_cycle.proofs.Items.{item_last}
use Rattle.row_model.proofs.Pairs.{same_pair}
use Rattle.walk_search.proofs.ForestLaws.{reached_grown, reached_node, reached_once, grows_refl, grows_trans}
use Rattle.walk_search.proofs.SearchLaws.{further_row}
use Rattle.walk_search.proofs.TakenLaws.{search_grown, all_taken_grown}
use Rattle.walk_search.proofs.AcrossLaws.{reached_across}

module _ (law : GapLaw) (m : RowList) (near : Neighbours) (marks : Marking) (f : Forest) (near_is : AreNeighbours m marks.rows near) (h : IsSearch m near.first marks f)
    (all : AreTaken m near marks f.nodes.items (length f.nodes.items)) where
  taken_at : (v : Pair) (odd : Bool) (r : IsReached f.nodes.items v odd) → IsTaken m near marks f.nodes.items r.node
  taken_at v odd r = all r.index r.node (slice_get_within f.nodes.items r.index r.node r.there) r.there

  pub reached_turned : (v : Pair) (odd : Bool) → IsReached f.nodes.items v odd → IsReached f.nodes.items (turned v) (not odd)
  reached_turned v odd r =
      subst (λ x. IsReached f.nodes.items (turned v) (not x)) r.parity (subst (λ x. IsReached f.nodes.items (turned x) (not r.node.odd)) r.pair (taken_at v odd r).turned)

  marked_for : (v : Pair) (odd : Bool) (k : ℕ) → IsReached f.nodes.items v odd → 1 ≤ k → k ≤ marks.rows → IsTrue (has (row_at (drop near.first m.rows) k) v.a) → is_marked marks k v.b ≡ true
  marked_for v odd k r a b t =
      subst (λ (x : Pair). is_marked marks k x.b ≡ true) r.pair ((taken_at v odd r).marked k a b (subst (λ (x : Pair). IsTrue (has (row_at (drop near.first m.rows) k) x.a)) (sym r.pair) t))

  once : (v : Pair) (x y : Bool) → IsReached f.nodes.items v x → IsReached f.nodes.items v y → x ≡ y
  once v x y p q = reached_once f.numbers f.nodes.items v x y h.is_forest.indexed p q

  -- (a,b) is reached, and row k has a and d and lacks b
  pub forth : (v w : Pair) (odd : Bool) (k : ℕ) → IsPair m.columns v → IsReached f.nodes.items v odd → 1 ≤ k → k ≤ marks.rows → Crosses (row_at (drop near.first m.rows) k) v w → IsReached f.nodes.items w (not odd)
  forth v w odd k p r a b x =
      let along = h.spread k v.b a b p.b_from (marked_for v odd k r a b x.has_first) x.lacks_middle in
      let same : along.0 ≡ not odd = once (turned v) along.0 (not odd) (along.1 v.a x.has_first) (reached_turned v odd r) in
      let e : pair v.b w.b ≡ w = same_pair (pair v.b w.b) w x.middle refl in
      subst (λ o. IsReached f.nodes.items w o) same (subst (λ u. IsReached f.nodes.items u along.0) e (along.1 w.b x.has_last))

  -- (b,d) is reached, and row k has a and d and lacks b
  back : (v w : Pair) (odd : Bool) (k : ℕ) → IsPair m.columns v → IsReached f.nodes.items v odd → 1 ≤ k → k ≤ marks.rows → Crosses (row_at (drop near.first m.rows) k) w v → IsReached f.nodes.items w (not odd)
  back v w odd k p r a b x =
      let lacks : IsFalse (has (row_at (drop near.first m.rows) k) v.a) = subst (λ c. IsFalse (has (row_at (drop near.first m.rows) k) c)) x.middle x.lacks_middle in
      let along = h.spread k v.a a b p.a_from (marked_for (turned v) (not odd) k (reached_turned v odd r) a b x.has_last) lacks in
      let same : along.0 ≡ odd = once v along.0 odd (along.1 v.b x.has_last) r in
      let e : turned (pair v.a w.a) ≡ w = same_pair (turned (pair v.a w.a)) w refl (sym x.middle) in
      subst (λ o. IsReached f.nodes.items w (not o)) same (subst (λ u. IsReached f.nodes.items u (not along.0)) e (reached_turned (pair v.a w.a) along.0 (along.1 w.a x.has_first)))

  across_at : (t : GapTable) → near.gaps ≡ Some t → (v : Pair) (odd : Bool) → IsReached f.nodes.items v odd → IsAcross (take near.first m.rows) t.order f.nodes.items v (not odd)
  across_at t e v odd r =
      subst (λ x. IsAcross (take near.first m.rows) t.order f.nodes.items v (not x)) r.parity (subst (λ (x : Pair). IsAcross (take near.first m.rows) t.order f.nodes.items x (not r.node.odd)) r.pair ((taken_at v odd r).across t e))

  -- a first row joins only to what is reached across the gaps
  by_first : (v w : Pair) (odd : Bool) → (gaps : Option GapTable) → near.gaps ≡ gaps → IsReached f.nodes.items v odd → Joined m.columns (take near.first m.rows) v w → 1 ≤ near.first → IsReached f.nodes.items w (not odd)
  by_first v w odd None e r j l = absurd (omega (arith, near_is.none e))
  by_first v w odd (Some t) e r j l =
      let columns = h.is_forest.columns in
      reached_across f.numbers f.nodes.items h.is_forest.indexed (take near.first m.rows) t.order (subst (λ n. IsValidOrder n (take near.first m.rows) t.order) (sym columns) (near_is.gaps t e).valid) reached_turned (across_at t e) law v w odd r
      (subst (λ n. Joined n (take near.first m.rows) v w) (sym columns) j)

  -- whatever is joined to a reached pair is reached
  pub settled_from_taken : IsSettled m.columns (take (near.first + marks.rows) m.rows) f.nodes.items
  settled_from_taken v w odd r (Flip, j) =
      let e : turned v ≡ w = same_pair (turned v) w j.fits.1 j.fits.0 in
      subst (λ u. IsReached f.nodes.items u (not odd)) e (reached_turned v odd r)
  settled_from_taken v w odd r (Row k, j) =
      let few : k ≤ near.first + marks.rows = omega (arith, length-take-le (near.first + marks.rows) m.rows h.few) in
      let here : row_at (take (near.first + marks.rows) m.rows) k ≡ row_at m.rows k = get_or-take (near.first + marks.rows) m.rows (k - 1) [] (omega arith) in
      elim (cases_lt near.first k) [
        | inl l ↦
            let up : near.first + (k - near.first) ≡ k = omega arith in
            let row = further_row m.rows near.first marks.rows (k - near.first) h.few (omega arith) (omega arith) in
            let same : row_at (take (near.first + marks.rows) m.rows) k ≡ row_at (drop near.first m.rows) (k - near.first) = here ∙ ap (row_at m.rows) (sym up) ∙ sym row.0 in
            elim j.fits.2 [
              | inl x ↦ forth v w odd (k - near.first) j.from r (omega arith) (omega arith) (subst (λ row. Crosses row v w) same x)
              | inr x ↦ back v w odd (k - near.first) j.from r (omega arith) (omega arith) (subst (λ row. Crosses row w v) same x)
            ]
        | inr l ↦
            let front : row_at (take near.first m.rows) k ≡ row_at m.rows k = get_or-take near.first m.rows (k - 1) [] (omega (arith, j.fits.0)) in
            let same : row_at (take (near.first + marks.rows) m.rows) k ≡ row_at (take near.first m.rows) k = here ∙ sym front in
            let long : k ≤ length (take near.first m.rows) = omega (arith, length-take-le near.first m.rows (omega (arith, h.few))) in
            let joined : JoinedBy m.columns (take near.first m.rows) v w (Row k) = record { from = j.from; to = j.to; fits = (j.fits.0, long, subst (λ row. Crosses row v w ⊎ Crosses row w v) same j.fits.2) } in
            by_first v w odd near.gaps refl r (Row k, joined) (omega (arith, j.fits.0))
      ]

  -- a new tree, of one pair
  module _ (new : Forest) (v : Pair) (plants : Plants f new v) where
    planted_long : length new.nodes.items ≡ length f.nodes.items + 1
    planted_long = omega (arith, ap length plants.nodes, length-append f.nodes.items (root_node v (length f.nodes.items) ∷ []))

    pub planted_grows : Grows marks marks f.nodes.items new.nodes.items
    planted_grows = record { rows = refl; columns = refl; stay = λ k p t. t; more = root_node v (length f.nodes.items) ∷ []; appended = plants.nodes }

    pub planted_search : IsSearch m near.first marks new
    planted_search =
        let none : (i : ℕ) (node : Node) → slice_get new.nodes.items i ≡ Some node → new.root < i → ⊥ = λ i node e l. omega (arith, plants.root, planted_long, slice_get_within new.nodes.items i node e) in
        let front : take new.root new.nodes.items ≡ f.nodes.items = ap (take new.root) plants.nodes ∙ take_at f.nodes.items (root_node v (length f.nodes.items) ∷ []) new.root (sym plants.root) in
        search_grown m near.first marks f new (root_node v (length f.nodes.items) ∷ []) h
        (record {
          columns = plants.columns ∙ h.is_forest.columns;
          indexed = plants.indexed;
          within = omega (arith, plants.root, planted_long);
          settled = subst (IsSettled m.columns (take (near.first + marks.rows) m.rows)) (sym front) settled_from_taken;
          tree = record { parents = λ i node e l. absurd (none i node e l); parities = λ i node parent e l g. absurd (none i node e l) };
          joined = λ i node parent e l g. absurd (none i node e l);
        })
        plants.nodes

    pub planted_taken : AreTaken m near marks new.nodes.items new.root
    planted_taken = subst (AreTaken m near marks new.nodes.items) (sym plants.root) (all_taken_grown m near marks marks f.nodes.items new.nodes.items (length f.nodes.items) (omega arith) planted_grows all)

    pub planted_reached : IsReached new.nodes.items v false
    planted_reached = subst (λ ns. IsReached ns v false) (sym plants.nodes) (reached_node (f.nodes.items ++ root_node v (length f.nodes.items) ∷ []) (length f.nodes.items) (root_node v (length f.nodes.items)) (item_last f.nodes.items (root_node v (length f.nodes.items))))

-- the pairs of a column with the first columns are reached, and all nodes are taken
pub record IsGrownFrom (m : RowList) (near : Neighbours) (marks marks' : Marking) (old new : Forest) (a done : ℕ) : Type 0 where
  pub search : IsSearch m near.first marks' new
  pub grows : Grows marks marks' old.nodes.items new.nodes.items
  pub taken : AreTaken m near marks' new.nodes.items (length new.nodes.items)
  pub reached : AreReachedFrom m near new.nodes.items a done

pub grown_from_none : (m : RowList) (near : Neighbours) (marks : Marking) (f : Forest) (a : ℕ) → IsSearch m near.first marks f → AreTaken m near marks f.nodes.items (length f.nodes.items) → IsGrownFrom m near marks marks f f a 0
grown_from_none m near marks f a h t = record { search = h; grows = grows_refl marks f.nodes.items; taken = t; reached = λ b l p j. absurd (omega (arith, p.b_from)) }

module _ (m : RowList) (near : Neighbours) (marks marks' : Marking) (old new : Forest) (a done : ℕ) (x : IsGrownFrom m near marks marks' old new a done) where
  -- the next pair is no pair
  pub grown_from_same : a ≡ done + 1 → IsGrownFrom m near marks marks' old new a (done + 1)
  grown_from_same e =
      record {
        search = x.search;
        grows = x.grows;
        taken = x.taken;
        reached = λ b l p j. elim (cases_eq b (done + 1)) [ inl s ↦ absurd (p.distinct (e ∙ sym s)) | inr n ↦ x.reached b (omega arith) p j ];
      }

  -- rows can't join pairs by the next column
  pub grown_from_idle : (answer : Bool) → TellsJoining m near (done + 1) answer → answer ≡ false → IsGrownFrom m near marks marks' old new a (done + 1)
  grown_from_idle answer tells fails =
      record {
        search = x.search;
        grows = x.grows;
        taken = x.taken;
        reached = λ b l p j. elim (cases_eq b (done + 1)) [ inl s ↦ absurd (both_ways answer fails (tells.whole (subst (IsJoining m near) s j))) | inr n ↦ x.reached b (omega arith) p j ];
      }

  next_reached : (odd : Bool) → IsReached new.nodes.items (pair a (done + 1)) odd → AreReachedFrom m near new.nodes.items a (done + 1)
  next_reached odd r b l p j =
      elim (cases_eq b (done + 1)) [ inl s ↦ (odd, subst (λ d. IsReached new.nodes.items (pair a d) odd) (sym s) r) | inr n ↦ x.reached b (omega arith) p j ]

  -- the next pair is reached already
  pub grown_from_reached : IsPair m.columns (pair a (done + 1)) → 0 < number_of new.numbers (pair a (done + 1)) → IsGrownFrom m near marks marks' old new a (done + 1)
  grown_from_reached p l =
      let p' : IsPair new.numbers.columns (pair a (done + 1)) = subst (λ c. IsPair c (pair a (done + 1))) (sym x.search.is_forest.columns) p in
      let found = x.search.is_forest.indexed.found (pair a (done + 1)) p' l in
      let r : IsReached new.nodes.items (pair a (done + 1)) found.0.odd = record { index = number_of new.numbers (pair a (done + 1)) - 1; node = found.0; there = found.1; pair = found.2; parity = refl } in
      record { search = x.search; grows = x.grows; taken = x.taken; reached = next_reached found.0.odd r }

  -- a tree was grown from it
  pub grown_from_tree : GapLaw → AreNeighbours m marks'.rows near → (planted next : Forest) (marks'' : Marking) → Plants new planted (pair a (done + 1)) →
      IsSearch m near.first marks'' next × Grows marks' marks'' planted.nodes.items next.nodes.items × AreTaken m near marks'' next.nodes.items (length next.nodes.items) →
      IsGrownFrom m near marks marks'' old next a (done + 1)
  grown_from_tree law near_is planted next marks'' plants r =
      let first = planted_grows law m near marks' new near_is x.search x.taken planted (pair a (done + 1)) plants in
      let both = grows_trans marks' marks' marks'' new.nodes.items planted.nodes.items next.nodes.items first r.1 in
      record {
        search = r.0;
        grows = grows_trans marks marks' marks'' old.nodes.items new.nodes.items next.nodes.items x.grows both;
        taken = r.2;
        reached = λ b l p j. elim (cases_eq b (done + 1)) [
          | inl s ↦ (
            false,
            subst (λ d. IsReached next.nodes.items (pair a d) false) (sym s) (reached_grown marks' marks'' planted.nodes.items next.nodes.items (pair a (done + 1)) false r.1 (planted_reached law m near marks' new near_is x.search x.taken planted (pair a (done + 1)) plants)),
          )
          | inr n ↦
              let was = x.reached b (omega arith) p j in
              (was.0, reached_grown marks' marks'' new.nodes.items next.nodes.items (pair a b) was.0 both was.1)
        ];
      }
