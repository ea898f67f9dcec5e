-- What the nodes of a search weigh, one by one and together.
use Rattle.std.proofs.Common.{◌≡◌, ◌≢◌, ◌⊎◌, ◌∙◌, ℕ, suc, zero, ◌+◌, ◌-◌, ◌*◌, ◌<◌, ◌≤◌, ◌||◌, ◌==◌, Bool, true, false, cond, eqb, eqb-true, leb, add-one, List, [], ◌∷◌, ◌++◌, length, get_or, slice_get, Some, take, drop, sum_by, IsTrue, refl, inl, inr, sym, ap, subst, arith, Vec, Global, None, slice_index, ◌↔◌}
use Rattle.std.proofs.lemmas.Bool.{cases_eq, cases_lt, cases_Bool, ne_eqb, le-leb, lt-leb, eq-eqb, both_ways}
use Rattle.std.proofs.Math.Seq.{take-length}
use Rattle.std.proofs.lemmas.Nat.{mul-le}
use Rattle.std.proofs.lemmas.List.{take_more, take-append-le, get_or-take, length-take-le, length-map}
use Rattle.std.proofs.lemmas.List.Sums.{sum_by-set, sum_by-cons, sum_by_push, sum_by-take-le}
use Rattle.std.proofs.lemmas.Option.{none-some, same_Some, slice_get_within, get_or_from_slice_get}
use Rattle.column_order.specs.Orders.{has, place}
use Rattle.column_order.proofs.Counts.{order_has}
use Rattle.column_order.proofs.Lists.{at_place}
use Rattle.open_gaps.specs.Gaps.{IsAtOpenGap}
use Rattle.open_gaps.specs.Tables.{GapTable}
use Rattle.row_model.specs.declared.graph.Pair.{Pair}
use Rattle.row_model.specs.declared.graph.Why.{Why}
use Rattle.row_model.specs.declared.graph.Why.TheVariants.{Flip, Row}
use Rattle.row_model.specs.Graph.{pair, row_at, IsPair, JoinedBy}
use Rattle.row_model.specs.Rows.{RowList}
use Rattle.odd_cycle.specs.Numbers.{Numbering, number_of, IsIndexed}
use Rattle.odd_cycle.proofs.Items.{item_at}
use Rattle.walk_search.specs.declared.forest.Node.{Node}
use Rattle.walk_search.specs.declared.forest.Forest.{Forest}
use Rattle.walk_search.specs.declared.neighbours.Neighbours.{Neighbours}
use Rattle.walk_search.specs.MarkedOnes.{sum_to}
use Rattle.walk_search.specs.Holders.{holders_of}
use Rattle.walk_search.specs.Neighbours.{AreNeighbours}
use Rattle.odd_cycle.specs.Marks.{Marking}
use Rattle.walk_search.specs.Search.{pair_of_node, IsForest, Grows}
use Rattle.walk_search.specs.Weights.{rows_with, held_for, weight, weights, most_weight, AreWeighty, IsWeighty, TellsJoining}
use Rattle.walk_search.proofs.TakenLaws.{old_item}
use Rattle.walk_search.proofs.HolderLaws.{lists_of, holder_at, ones_split, further_same}
use Rattle.walk_search.proofs.MarkedOnes.{sum_to_same, sum_to_grown, sum_to-le, ones_to}

-- a row with the column is one of those that have it
pub rows_with_some : (rows : List (List ℕ)) (k a : ℕ) → 1 ≤ k → k ≤ length rows → IsTrue (has (row_at rows k) a) → 1 ≤ rows_with rows a
unfolding rows_with
rows_with_some rows k a from to t =
    let f : List ℕ → ℕ = λ row. cond (has row a) 1 0 in
    let none : List ℕ = [] in
    let one : f (row_at rows k) ≡ 1 = ap (λ b. cond b 1 0) t in
    omega (arith, sum_by-set f rows (k - 1) none none (omega arith), one)

-- sums of sums
sum_to_add : (f g : ℕ → ℕ) (n : ℕ) → sum_to (λ i. f i + g i) n ≡ sum_to f n + sum_to g n
sum_to_add f g zero = refl
sum_to_add f g (suc n) = omega (arith, sum_to_add f g n)

sum_to_mono : (f g : ℕ → ℕ) (n : ℕ) → ((i : ℕ) → 1 ≤ i → i ≤ n → f i ≤ g i) → sum_to f n ≤ sum_to g n
sum_to_mono f g zero h = omega arith
sum_to_mono f g (suc n) h = omega (arith, sum_to_mono f g n (λ i a b. h i a (omega arith)), h (suc n) (omega arith) (omega arith))

sum_to_times : (f : ℕ → ℕ) (k n : ℕ) → sum_to (λ i. k * f i) n ≡ k * sum_to f n
sum_to_times f k zero = grind arith
sum_to_times f k (suc n) = grind (arith, sum_to_times f k n)

sum_to_zero : (f : ℕ → ℕ) (n : ℕ) → ((i : ℕ) → 1 ≤ i → i ≤ n → f i ≡ 0) → sum_to f n ≡ 0
sum_to_zero f zero h = refl
sum_to_zero f (suc n) h = omega (arith, sum_to_zero f n (λ i a b. h i a (omega arith)), h (suc n) (omega arith) (omega arith))

-- a row has no more columns than its length
is_it : ℕ → ℕ → ℕ
is_it x a = cond (x == a) 1 0

none_below : (x n : ℕ) → n < x → sum_to (is_it x) n ≡ 0
unfolding is_it
none_below x n l =
    sum_to_zero (is_it x) n (λ i a b. elim (cases_Bool (x == i)) [ inl e ↦ absurd (omega (arith, eqb-true x i e)) | inr e ↦ ap (λ t. cond t 1 0) e ])

at_most_one : (x n : ℕ) → sum_to (is_it x) n ≤ 1
unfolding is_it
at_most_one x zero = omega arith
at_most_one x (suc n) =
    elim (cases_Bool (x == suc n)) [
      | inl e ↦
          let one : is_it x (suc n) ≡ 1 = ap (λ t. cond t 1 0) e in
          omega (arith, one, none_below x n (omega (arith, eqb-true x (suc n) e)))
      | inr e ↦
          let none : is_it x (suc n) ≡ 0 = ap (λ t. cond t 1 0) e in
          omega (arith, none, at_most_one x n)
    ]

either : (p q : Bool) → cond (p || q) 1 0 ≤ cond p 1 0 + cond q 1 0
either true q = omega arith
either false q = omega arith

has_sum : (row : List ℕ) (n : ℕ) → sum_to (λ a. cond (has row a) 1 0) n ≤ length row
unfolding is_it
has_sum [] n = omega (arith, sum_to_zero (λ a. cond (has [] a) 1 0) n (λ i a b. refl))
has_sum (x ∷ xs) n =
    omega (
      arith,
      sum_to_mono (λ a. cond (has (x ∷ xs) a) 1 0) (λ a. is_it x a + cond (has xs a) 1 0) n (λ i a b. either (x == i) (has xs i)),
      sum_to_add (is_it x) (λ a. cond (has xs a) 1 0) n,
      at_most_one x n,
      has_sum xs n,
    )

-- the rows that have each column are no more than the ones
rows_with_sum : (rows : List (List ℕ)) (n : ℕ) → sum_to (rows_with rows) n ≤ sum_by length rows
unfolding rows_with
rows_with_sum [] n = omega (arith, sum_to_zero (rows_with []) n (λ i a b. refl))
rows_with_sum (row ∷ rows) n =
    let split : sum_to (rows_with (row ∷ rows)) n ≡ sum_to (λ a. cond (has row a) 1 0 + rows_with rows a) n =
    sum_to_same (λ a. cond (has row a) 1 0 + rows_with rows a) (rows_with (row ∷ rows)) n (λ i a b. sum_by-cons (λ (r : List ℕ). cond (has r i) 1 0) row rows) in
    omega (arith, split, sum_to_add (λ a. cond (has row a) 1 0) (rows_with rows) n, has_sum row n, rows_with_sum rows n, sum_by-cons length row rows)

-- the weights of all columns are no more than the ones of the rows of the search
pub weight_sum : (m : RowList) (near : Neighbours) (further : ℕ) → AreNeighbours m further near → sum_to (weight m near) m.columns ≤ sum_by length (take (near.first + further) m.rows)
weight_sum m near further h =
    let lists = lists_of near.holders.items in
    let front = take near.first m.rows in
    let held : sum_to (held_for near) m.columns ≤ sum_by length (take m.columns lists) = ones_to lists m.columns (omega (arith, h.holders.columns)) (held_for near) (λ k. omega arith) in
    omega (arith, sum_to_add (rows_with front) (held_for near) m.columns, rows_with_sum front m.columns, held, sum_by-take-le length lists m.columns, h.holders.once, ones_split m.rows near.first further)

-- one more node
pub weights_more : (m : RowList) (near : Neighbours) (nodes : List Node) (n : ℕ) (node : Node) → slice_get nodes n ≡ Some node → weights m near (take (n + 1) nodes) ≡ weights m near (take n nodes) + weight m near node.pair.a
weights_more m near nodes n node e =
    let w : Node → ℕ = λ node. weight m near node.pair.a in
    ap (sum_by w) (take_more nodes n node (slice_get_within nodes n node e))
    ∙ sum_by_push w (take n nodes) (get_or nodes n node)
    ∙ ap (λ (x : Node). weights m near (take n nodes) + w x) (get_or_from_slice_get nodes n node node e)

-- the first nodes weigh the same where more follow
pub weights_same : (m : RowList) (near : Neighbours) (nodes more : List Node) (n : ℕ) → n ≤ length nodes → weights m near (take n (nodes ++ more)) ≡ weights m near (take n nodes)
weights_same m near nodes more n l = ap (λ ns. weights m near ns) (take-append-le n nodes more l)

-- some nodes weigh no more than all
pub weights_part : (m : RowList) (near : Neighbours) (nodes : List Node) (n : ℕ) → weights m near (take n nodes) ≤ weights m near nodes
weights_part m near nodes n = sum_by-take-le (λ (node : Node). weight m near node.pair.a) nodes n

-- the weight of the first column at a pair of distinct columns whose number is one of the first
at : Numbering → (ℕ → ℕ) → ℕ → ℕ → ℕ → ℕ
at t w n a b = cond (eqb a b) 0 (cond (eqb (number_of t (pair a b)) 0) 0 (cond (leb (number_of t (pair a b)) n) (w a) 0))

module _ (t : Numbering) (w : ℕ → ℕ) where
  at_same : (n a : ℕ) → at t w n a a ≡ 0
  unfolding at
  at_same n a = rw (eq-eqb a a refl) refl

  at_unnumbered : (n a b : ℕ) → number_of t (pair a b) ≡ 0 → at t w n a b ≡ 0
  unfolding at
  at_unnumbered n a b e = elim (cases_Bool (eqb a b)) [ inl d ↦ rw d refl | inr d ↦ rw (d, e) refl ]

  at_late : (n a b : ℕ) → n < number_of t (pair a b) → at t w n a b ≡ 0
  unfolding at
  at_late n a b l =
      let late : leb (number_of t (pair a b)) n ≡ false = lt-leb (number_of t (pair a b)) n l in
      elim (cases_Bool (eqb a b)) [
        | inl d ↦ rw d refl
        | inr d ↦ elim (cases_Bool (eqb (number_of t (pair a b)) 0)) [ inl z ↦ rw (d, z) refl | inr z ↦ rw (d, z, late) refl ]
      ]

  at_early : (n a b : ℕ) → a ≢ b → 1 ≤ number_of t (pair a b) → number_of t (pair a b) ≤ n → at t w n a b ≡ w a
  unfolding at
  at_early n a b d k l =
      rw (ne_eqb a b d, ne_eqb (number_of t (pair a b)) 0 (λ e. absurd (omega (arith, e, k))), le-leb (number_of t (pair a b)) n l) refl

  at_most : (n a b : ℕ) → at t w n a b ≤ w a
  at_most n a b =
      elim (cases_eq a b) [
        | inl e ↦ omega (arith, subst (λ x. at t w n a x ≡ 0) e (at_same n a))
        | inr d ↦ elim (cases_lt n (number_of t (pair a b))) [
          | inl l ↦ omega (arith, at_late n a b l)
          | inr l ↦ elim (cases_lt 0 (number_of t (pair a b))) [
            | inl k ↦ omega (arith, at_early n a b d k l)
            | inr k ↦ omega (arith, at_unnumbered n a b (omega arith))
          ]
        ]
      ]

  -- a number that is not the next one tells the same of one number more
  at_next : (n a b : ℕ) → (a ≢ b → number_of t (pair a b) ≢ n + 1) → at t w (n + 1) a b ≡ at t w n a b
  at_next n a b other =
      elim (cases_eq a b) [
        | inl e ↦ subst (λ x. at t w (n + 1) a x ≡ at t w n a x) e (at_same (n + 1) a ∙ sym (at_same n a))
        | inr d ↦ elim (cases_lt n (number_of t (pair a b))) [
          | inl l ↦ elim (cases_eq (number_of t (pair a b)) (n + 1)) [
            | inl e ↦ absurd (other d e)
            | inr f ↦ at_late (n + 1) a b (omega arith) ∙ sym (at_late n a b l)
          ]
          | inr l ↦ elim (cases_lt 0 (number_of t (pair a b))) [
            | inl k ↦ at_early (n + 1) a b d k (omega arith) ∙ sym (at_early n a b d k l)
            | inr k ↦ at_unnumbered (n + 1) a b (omega arith) ∙ sym (at_unnumbered n a b (omega arith))
          ]
        ]
      ]

-- the weights at all pairs whose numbers are among the first
table : Numbering → (ℕ → ℕ) → ℕ → ℕ
table t w n = sum_to (λ a. sum_to (at t w n a) t.columns) t.columns

module _ (t : Numbering) (w : ℕ → ℕ) (nodes : List Node) (h : IsIndexed pair_of_node t nodes) where
  -- the pair of one more node
  module _ (n : ℕ) (node : Node) (there : slice_get nodes n ≡ Some node) where
    is_pair : IsPair t.columns node.pair
    is_pair = (h.pairs n node there).0

    number_there : number_of t (pair node.pair.a node.pair.b) ≡ n + 1
    number_there = (h.pairs n node there).1

    only_there : (a b : ℕ) → IsPair t.columns (pair a b) → number_of t (pair a b) ≡ n + 1 → (a ≡ node.pair.a) × (b ≡ node.pair.b)
    only_there a b p e =
        let found = h.found (pair a b) p (omega (arith, e)) in
        let i : number_of t (pair a b) - 1 ≡ n = omega (arith, e) in
        let same : found.0 ≡ node = same_Some found.0 node (sym found.1 ∙ ap (slice_get nodes) i ∙ there) in
        (sym (ap (λ (v : Pair). v.a) found.2) ∙ ap (λ (x : Node). x.pair.a) same, sym (ap (λ (v : Pair). v.b) found.2) ∙ ap (λ (x : Node). x.pair.b) same)

    elsewhere : (a b : ℕ) → 1 ≤ a → a ≤ t.columns → 1 ≤ b → b ≤ t.columns → (a ≢ node.pair.a) ⊎ (b ≢ node.pair.b) → at t w (n + 1) a b ≡ at t w n a b
    elsewhere a b a1 ac b1 bc other =
        at_next t w n a b (λ d e. (let o = only_there a b (record { a_from = a1; a_to = ac; b_from = b1; b_to = bc; distinct = d }) e in elim other [ inl f ↦ f o.0 | inr f ↦ f o.1 ]))

    table_more : table t w (n + 1) ≡ table t w n + w node.pair.a
    unfolding table
    table_more =
        let x = node.pair.a in
        let y = node.pair.b in
        let new : at t w (n + 1) x y ≡ w x = at_early t w (n + 1) x y is_pair.distinct (omega (arith, number_there)) (omega (arith, number_there)) in
        let old : at t w n x y ≡ 0 = at_late t w n x y (omega (arith, number_there)) in
        sum_to_grown (λ a. sum_to (at t w n a) t.columns) (λ a. sum_to (at t w (n + 1) a) t.columns) t.columns x (w x) is_pair.a_from is_pair.a_to
        (sum_to_grown (at t w n x) (at t w (n + 1) x) t.columns y (w x) is_pair.b_from is_pair.b_to (omega (arith, new, old)) (λ b i j d. elsewhere x b is_pair.a_from is_pair.a_to i j (inr d)))
        (λ a i j d. sum_to_same (at t w n a) (at t w (n + 1) a) t.columns (λ b k l. elsewhere a b i j k l (inl d)))

  table_none : table t w 0 ≡ 0
  unfolding table
  table_none =
      let zero_at : (a b : ℕ) → at t w 0 a b ≡ 0 = λ a b. elim (cases_lt 0 (number_of t (pair a b))) [ inl l ↦ at_late t w 0 a b l | inr l ↦ at_unnumbered t w 0 a b (omega arith) ] in
      sum_to_zero (λ a. sum_to (at t w 0 a) t.columns) t.columns (λ a i j. sum_to_zero (at t w 0 a) t.columns (λ b k l. zero_at a b))

-- a product with one less
pub one_more : (n x : ℕ) → 1 ≤ n → (n - 1) * x + x ≡ n * x
one_more zero x l = absurd (omega arith)
one_more (suc n) x l =
    let less : suc n - 1 ≡ n = omega arith in
    let more : n * x + x ≡ suc n * x = grind arith in
    rw less more

-- items of which one is nothing
one_less : (g : ℕ → ℕ) (top p n : ℕ) → 1 ≤ p → p ≤ n → g p ≡ 0 → ((i : ℕ) → g i ≤ top) → sum_to g n ≤ (n - 1) * top
one_less g top p zero a b e h = absurd (omega arith)
one_less g top p (suc n) a b e h =
    let less : suc n - 1 ≡ n = omega arith in
    elim (cases_eq p (suc n)) [
      | inl s ↦
          let last : g (suc n) ≡ 0 = subst (λ i. g i ≡ 0) s e in
          rw less (omega (arith, last, sum_to-le g n top h))
      | inr d ↦
          rw less (omega (arith, one_less g top p n a (omega arith) e h, h (suc n), one_more n top (omega (arith, a, b, d))))
    ]

module _ (m : RowList) (near : Neighbours) (t : Numbering) (nodes : List Node) (h : IsIndexed pair_of_node t nodes) where
  in_table : (n : ℕ) → n ≤ length nodes → weights m near (take n nodes) ≡ table t (weight m near) n
  in_table zero l = sym (table_none t (weight m near) nodes h)
  in_table (suc n) l =
      let node = item_at nodes n (omega arith) in
      let both : weights m near (take (n + 1) nodes) ≡ table t (weight m near) (n + 1) = weights_more m near nodes n node.0 node.1 ∙ ap (λ x. x + weight m near node.0.pair.a) (in_table n (omega arith)) ∙ sym (table_more t (weight m near) nodes h n node.0 node.1) in
      rw add-one at both

  -- each column is the first one of fewer pairs than there are columns
  pub weights_within : weights m near nodes ≤ (t.columns - 1) * sum_to (weight m near) t.columns
  unfolding table
  weights_within =
      let w = weight m near in
      let all : weights m near nodes ≡ table t w (length nodes) = subst (λ ns. weights m near ns ≡ table t w (length nodes)) (take-length nodes) (in_table (length nodes) (omega arith)) in
      let each : table t w (length nodes) ≤ sum_to (λ a. (t.columns - 1) * w a) t.columns =
      sum_to_mono (λ a. sum_to (at t w (length nodes) a) t.columns) (λ a. (t.columns - 1) * w a) t.columns (λ a i j. one_less (at t w (length nodes) a) (w a) a t.columns i j (at_same t w (length nodes) a) (at_most t w (length nodes) a)) in
      omega (arith, all, each, sum_to_times w (t.columns - 1) t.columns)

-- the columns of a pair that a row of the search joins to one with weighty columns
module _ (m : RowList) (near : Neighbours) (further : ℕ) (few : near.first + further ≤ length m.rows) (near_is : AreNeighbours m further near) where
  pub row_weighty : (k a : ℕ) → 1 ≤ k → k ≤ near.first + further → 1 ≤ a → a ≤ m.columns → IsTrue (has (row_at m.rows k) a) → 1 ≤ weight m near a
  row_weighty k a from to low high held =
      elim (cases_lt near.first k) [
        | inl l ↦
            let same : row_at (drop near.first m.rows) (k - near.first) ≡ row_at m.rows k = further_same m.rows near.first (k - near.first) k (omega arith) (omega arith) in
            let found = near_is.holders.whole a (k - near.first) low high (omega arith) (omega arith) (subst (λ row. IsTrue (has row a)) (sym same) held) in
            omega (arith, slice_get_within (holders_of (lists_of near.holders.items) a) found.0 (k - near.first) found.1)
        | inr l ↦
            let front : row_at (take near.first m.rows) k ≡ row_at m.rows k = get_or-take near.first m.rows (k - 1) [] (omega (arith, from)) in
            omega (arith, rows_with_some (take near.first m.rows) k a from (omega (arith, length-take-le near.first m.rows (omega arith))) (subst (λ row. IsTrue (has row a)) (sym front) held))
      ]

  graph_weighty : (k a : ℕ) → 1 ≤ k → k ≤ length (take (near.first + further) m.rows) → 1 ≤ a → a ≤ m.columns → IsTrue (has (row_at (take (near.first + further) m.rows) k) a) → 1 ≤ weight m near a
  graph_weighty k a from to low high held =
      let upto : k ≤ near.first + further = omega (arith, length-take-le (near.first + further) m.rows few) in
      let same : row_at (take (near.first + further) m.rows) k ≡ row_at m.rows k = get_or-take (near.first + further) m.rows (k - 1) [] (omega (arith, from)) in
      row_weighty k a from upto low high (subst (λ row. IsTrue (has row a)) same held)

  joined_weighty : (v w : Pair) (why : Why) → JoinedBy m.columns (take (near.first + further) m.rows) w v why → AreWeighty m near v → AreWeighty m near w
  joined_weighty v w Flip j h = (subst (λ x. 1 ≤ weight m near x) (sym j.fits.0) h.1, subst (λ x. 1 ≤ weight m near x) (sym j.fits.1) h.0)
  joined_weighty v w (Row k) j h =
      elim j.fits.2 [
        | inl x ↦ (graph_weighty k w.a j.fits.0 j.fits.1 j.from.a_from j.from.a_to x.has_first, subst (λ y. 1 ≤ weight m near y) (sym x.middle) h.0)
        | inr x ↦ (subst (λ y. 1 ≤ weight m near y) x.middle h.1, graph_weighty k w.b j.fits.0 j.fits.1 j.from.b_from j.from.b_to x.has_last)
      ]

  -- so where the root's columns have weights, those of all nodes of the tree have them
  tree_weighty : (f : Forest) → IsForest m.columns (take (near.first + further) m.rows) f → IsWeighty m near f.nodes.items f.root → (n i : ℕ) → i < n → f.root ≤ i → IsWeighty m near f.nodes.items i
  tree_weighty f h root zero i l r = absurd (omega arith)
  tree_weighty f h root (suc n) i l r =
      elim (cases_eq i f.root) [
        | inl e ↦ subst (IsWeighty m near f.nodes.items) (sym e) root
        | inr d ↦ λ node there.
            let p = h.tree.parents i node there (omega arith) in
            let parent = item_at f.nodes.items node.parent (omega (arith, p.1, slice_get_within f.nodes.items i node there)) in
            joined_weighty parent.0.pair node.pair node.why (h.joined i node parent.0 there (omega arith) parent.1) (tree_weighty f h root n node.parent (omega (arith, p.1)) p.0 parent.0 parent.1)
      ]

  pub node_weighty : (f : Forest) (i : ℕ) → IsForest m.columns (take (near.first + further) m.rows) f → IsWeighty m near f.nodes.items f.root → f.root ≤ i → IsWeighty m near f.nodes.items i
  node_weighty f i h root l = tree_weighty f h root (i + 1) i (omega arith) l

module _ (m : RowList) (near : Neighbours) (further : ℕ) (near_is : AreNeighbours m further near) (a : ℕ) (from : 1 ≤ a) (to : a ≤ length near.holders.items) where
  -- the rows that are held for a column
  pub held_is : (list : Vec ℕ Global) → list ≡ get_or near.holders.items (a - 1) list → held_for near a ≡ length list.items
  held_is list e = ap length (holder_at near.holders.items (a - 1) list (omega (arith, from, to)) e)

  -- there are some
  pub joining_held : 1 ≤ held_for near a → TellsJoining m near a true
  joining_held l = record { held = λ t. omega (arith, l); whole = λ j. refl }

  -- there are none, and no gaps
  pub joining_none : held_for near a ≡ 0 → near.gaps ≡ None → TellsJoining m near a false
  joining_none e none =
      record {
        held = λ t. absurd (both_ways false refl t);
        whole = λ j. elim j [ inl l ↦ absurd (omega (arith, l, e)) | inr g ↦ absurd (none-some g.0 (sym none ∙ g.1)) ];
      }

  -- there are none, and gaps
  pub joining_gap : (t : GapTable) (answer : Bool) → held_for near a ≡ 0 → near.gaps ≡ Some t → IsTrue answer ↔ IsAtOpenGap (take near.first m.rows) t.order a → TellsJoining m near a answer
  joining_gap t answer e some h =
      record {
        held = λ y. at_gap (h.0 y);
        whole = λ j. elim j [
          | inl l ↦ absurd (omega (arith, l, e))
          | inr g ↦
              let same : g.0 ≡ t = same_Some g.0 t (sym g.1 ∙ some) in
              h.1 (subst (λ (u : GapTable). IsAtOpenGap (take near.first m.rows) u.order a) same g.2)
        ];
      }
    where
      at_gap : IsAtOpenGap (take near.first m.rows) t.order a → 1 ≤ weight m near a
      at_gap g =
          let rows = take near.first m.rows in
          let valid = (near_is.gaps t some).valid in
          let high : a ≤ m.columns = omega (arith, to, near_is.holders.columns, length-map near.holders.items (λ (list : Vec ℕ Global). list.items)) in
          let place_a = at_place t.order a (order_has m.columns t.order valid.order a from high) in
          let k = g.2.2.0 in
          let opens = g.2.2.1 in
          let there : (q : ℕ) → q ≡ place t.order a → IsTrue (has (row_at rows k) (slice_index t.order q)) → 1 ≤ weight m near a = λ q s held.
          let is_a : slice_index t.order q ≡ a = ap (slice_index t.order) s ∙ place_a.1 in
          omega (arith, rows_with_some rows k a opens.from opens.to (subst (λ x. IsTrue (has (row_at rows k) x)) is_a held)) in
          elim g.3 [ inl s ↦ there g.0 s opens.low | inr s ↦ there (g.0 + 1) s opens.high ]

-- nodes of a forest weigh no more than the most
pub weights_most : (m : RowList) (near : Neighbours) (rows : List (List ℕ)) (f : Forest) (n : ℕ) → IsForest m.columns rows f → weights m near (take n f.nodes.items) ≤ most_weight m near
weights_most m near rows f n h =
    let all = subst (λ c. weights m near f.nodes.items ≤ (c - 1) * sum_to (weight m near) c) h.columns (weights_within m near f.numbers f.nodes.items h.indexed) in
    omega (arith, all, weights_part m near f.nodes.items n)

pub all_most : (m : RowList) (near : Neighbours) (rows : List (List ℕ)) (f : Forest) → IsForest m.columns rows f → weights m near f.nodes.items ≤ most_weight m near
all_most m near rows f h = subst (λ ns. weights m near ns ≤ most_weight m near) (take-length f.nodes.items) (weights_most m near rows f (length f.nodes.items) h)

-- which is no more than the ones of the rows of the search at each column but one
pub most_ones : (m : RowList) (near : Neighbours) (further : ℕ) → AreNeighbours m further near → most_weight m near ≤ (m.columns - 1) * sum_by length (take (near.first + further) m.rows)
most_ones m near further h = mul-le (m.columns - 1) (sum_to (weight m near) m.columns) (m.columns - 1) (sum_by length (take (near.first + further) m.rows)) (omega arith) (weight_sum m near further h)

-- a node that stays where it is keeps its weights
pub weighty_grown : (m : RowList) (near : Neighbours) (marks marks' : Marking) (nodes nodes' : List Node) (i : ℕ) → Grows marks marks' nodes nodes' → i < length nodes → IsWeighty m near nodes i → IsWeighty m near nodes' i
weighty_grown m near marks marks' nodes nodes' i g l h = λ node e. h node (old_item marks marks' nodes nodes' i node g l e)

sum_to_part : (w : ℕ → ℕ) (n k : ℕ) → n ≤ k → sum_to w n ≤ sum_to w k
sum_to_part w zero zero l = omega arith
sum_to_part w (suc n) zero l = absurd (omega arith)
sum_to_part w n (suc k) l =
    elim (cases_eq n (suc k)) [
      | inl e ↦ subst (λ i. sum_to w i ≤ sum_to w (suc k)) (sym e) (omega arith)
      | inr d ↦ omega (arith, sum_to_part w n k (omega (arith, l, d)))
    ]

-- the pairs of a column from which a tree is tried, where some row has the column
pub tried_more : (w : ℕ → ℕ) (c turn : ℕ) → 1 ≤ turn → 1 ≤ w turn → c * sum_to w (turn - 1) + c ≤ c * sum_to w turn
tried_more w c zero l some = absurd (omega arith)
tried_more w c (suc n) l some =
    let less : suc n - 1 ≡ n = omega arith in
    let each : c * 1 ≤ c * w (suc n) = mul-le c 1 c (w (suc n)) (omega arith) some in
    let all : c * sum_to w (suc n) ≡ c * sum_to w n + c * w (suc n) = grind arith in
    rw less (omega (arith, each, all))

pub tried_part : (w : ℕ → ℕ) (c n k : ℕ) → n ≤ k → c * sum_to w n ≤ c * sum_to w k
tried_part w c n k l = mul-le c (sum_to w n) c (sum_to w k) (omega arith) (sum_to_part w n k l)
