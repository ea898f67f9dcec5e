-- Generated matrices, their hidden order and their runs.
use Rattle.std.proofs.Common.{◌≡◌, ◌∙◌, ◌⊎◌, ℕ, zero, suc, ◌+◌, ◌-◌, ◌<◌, ◌≤◌, ◌&&◌, Bool, true, false, leb, cond, append-nil, IsTrue, List, [], ◌∷◌, ◌++◌, append_assoc, length, get_or, refl, sym, ap, subst, inl, inr, arith, eq-eqb}
use Rattle.std.proofs.lemmas.List.Elements.{All-nil, All-cons}
use Rattle.std.specs.Prelude.{All, ◌==◌, ◌/◌, swap, sum_by, if◌then◌else◌, min, max}
use Rattle.std.proofs.Math.Nat.{mod-lt}
use Rattle.std.proofs.lemmas.Bool.Decides.{leb_tells}
use Rattle.std.specs.List.{filter, range_with_len}
use Rattle.std.proofs.lemmas.Bool.{cases_eq, ne_eqb, le-leb, lt-leb, leb-true}
use Rattle.std.proofs.lemmas.List.Sorted.{IsPermutation-swap, sum_by-IsPermutation}
use Rattle.std.proofs.lemmas.List.Sums.{sum_by-cons}
use Rattle.std.proofs.lemmas.List.Edits.{length-swap}
use Rattle.std.proofs.lemmas.List.FromFn.{length-range_with_len}
use Rattle.column_order.specs.Orders.{has, place, occurs, IsOrder, Keeps}
use Rattle.column_order.proofs.Counts.{order_has, order_length, order_once, order_within}
use Rattle.column_order.proofs.Lists.{has_at, place_at}
use Rattle.row_model.proofs.Filtered.{filtered_more, filtered_row, has_filtered}
use Rattle.row_model.specs.Rows.{IsRow}
use Rattle.row_model.specs.Positions.{position_of, ArePositions}
use Rattle.solve_replies.specs.Generated.{next_state, drawn, Shuffled, exchanged, shuffled, hidden, run_between, run_at, run_of, drawn_rows, GeneratedLaw}

-- 1 where a number is the one that is counted
abbrev hit : ℕ → ℕ → ℕ
hit a x = if x == a then 1 else 0

occurs_sum : (xs : List ℕ) (a : ℕ) → occurs xs a ≡ sum_by (hit a) xs
occurs_sum [] a = refl
occurs_sum (x ∷ xs) a = omega (arith, occurs_sum xs a, sum_by-cons (hit a) x xs)

-- an exchange of two positions leaves an order
pub swapped_order : (c : ℕ) (o : List ℕ) (i j : ℕ) → i < length o → j < length o → IsOrder c o → IsOrder c (swap o i j)
swapped_order c o i j h k order a =
    let moved = IsPermutation-swap o (swap o i j) i j h k refl in
    occurs_sum (swap o i j) a ∙ sum_by-IsPermutation (hit a) o (swap o i j) moved ∙ sym (occurs_sum o a) ∙ order a

-- how often a number stands in the numbers from low on
range_below : (n low a : ℕ) → a < low → occurs (range_with_len low n) a ≡ 0
range_below zero low a h = refl
range_below (suc n) low a h = rw (ne_eqb low a (λ e. omega (arith, e, h))) (omega (arith, range_below n (low + 1) a (omega (arith, h))))

range_above : (n low a : ℕ) → low + n ≤ a → occurs (range_with_len low n) a ≡ 0
range_above zero low a h = refl
range_above (suc n) low a h = rw (ne_eqb low a (λ e. omega (arith, e, h))) (omega (arith, range_above n (low + 1) a (omega (arith, h))))

range_inside : (n low a : ℕ) → low ≤ a → a < low + n → occurs (range_with_len low n) a ≡ 1
range_inside zero low a l u = absurd (omega (arith, l, u))
range_inside (suc n) low a l u =
    elim (cases_eq low a) [
      | inl e ↦ rw (eq-eqb low a e) (omega (arith, range_below n (low + 1) a (omega (arith, e))))
      | inr d ↦ rw (ne_eqb low a d) (omega (arith, range_inside n (low + 1) a (omega (arith, d, l)) (omega (arith, u))))
    ]

le_or_lt : (a b : ℕ) → (a ≤ b) ⊎ (b < a)
le_or_lt a b = elim (leb_tells a b) [ inl h ↦ inl h.1 | inr h ↦ inr h.1 ]

-- the numbers 1 to c are an order
pub range_order : (c : ℕ) → IsOrder c (range_with_len 1 c)
range_order c zero = range_below c 1 0 (omega arith)
range_order c (suc a) =
    elim (le_or_lt (suc a) c) [
      | inl l ↦ rw (le-leb 1 (suc a) (omega arith), le-leb (suc a) c l) (range_inside c 1 (suc a) (omega arith) (omega (arith, l)))
      | inr g ↦ rw (le-leb 1 (suc a) (omega arith), lt-leb (suc a) c g) (range_above c 1 (suc a) (omega (arith, g)))
    ]

pub drawn_below : (m state : ℕ) → 0 < m → drawn m state < m
drawn_below m state h = mod-lt (state / 8589934592) h

-- the hidden order is an order
pub shuffled_order : (i c : ℕ) (s : Shuffled) → i ≤ length s.order → IsOrder c s.order → IsOrder c (shuffled i s).order
shuffled_order zero c s h order = order
shuffled_order (suc zero) c s h order = order
shuffled_order (suc (suc i)) c s h order =
    let next = exchanged (suc (suc i)) s in
    let j = drawn (suc (suc i)) (next_state s.state) in
    let low : j < suc (suc i) = drawn_below (suc (suc i)) (next_state s.state) (omega arith) in
    shuffled_order (suc i) c next (omega (arith, h, length-swap s.order (suc i) j)) (swapped_order c s.order (suc i) j (omega (arith, h)) (omega (arith, h, low)) order)

pub hidden_order : (seed c : ℕ) → IsOrder c (hidden seed c).order
hidden_order seed c = shuffled_order c c (record { order = range_with_len 1 c; state = seed }) (omega (arith, length-range_with_len 1 c)) (range_order c)

-- two tests that say the same of 1 to c
filter_same : (p q : ℕ → Bool) (n low : ℕ) → ((a : ℕ) → low ≤ a → a < low + n → p a ≡ q a) → filter p (range_with_len low n) ≡ filter q (range_with_len low n)
filter_same p q zero low h = refl
filter_same p q (suc n) low h =
    let rest = filter_same p q n (low + 1) (λ a l u. h a (omega (arith, l)) (omega (arith, u))) in
    ap (λ b. cond b (low ∷ filter p (range_with_len (low + 1) n)) (filter p (range_with_len (low + 1) n))) (h low (omega arith) (omega arith)) ∙
    ap (λ xs. cond (q low) (low ∷ xs) xs) rest

leb_more : (a b : ℕ) → leb (a + 1) (b + 1) ≡ leb a b
leb_more a b = elim (leb_tells a b) [ inl h ↦ le-leb (a + 1) (b + 1) (omega (arith, h.1)) ∙ sym h.0 | inr h ↦ lt-leb (a + 1) (b + 1) (omega (arith, h.1)) ∙ sym h.0 ]

and_false : (b : Bool) → (b && false) ≡ false
and_false true = refl
and_false false = refl

-- the run by positions
pub run_exactly : (o positions : List ℕ) (c first last : ℕ) → IsOrder c o → ArePositions o positions → run_at positions (first + 1) (last + 1) (length positions) ≡ run_between o first last
run_exactly o positions c first last order are =
    ap (run_at positions (first + 1) (last + 1)) are.columns ∙
    filter_same (λ column. leb (first + 1) (position_of positions column) && leb (position_of positions column) (last + 1)) (λ column. leb first (place o column) && leb (place o column) last) (length o) 1
    (λ a l u. at a l (omega (arith, u)))
  where
    at : (a : ℕ) → 1 ≤ a → a ≤ length o → (leb (first + 1) (position_of positions a) && leb (position_of positions a) (last + 1)) ≡ (leb first (place o a) && leb (place o a) last)
    at a l u =
        let within : a ≤ c = omega (arith, u, order_length c o order) in
        rw (are.places a (order_has c o order a l within)) (ap (λ b. b && leb (place o a + 1) (last + 1)) (leb_more first (place o a)) ∙ ap (λ b. leb first (place o a) && b) (leb_more (place o a) last))

-- one column more
pub run_with : (positions row : List ℕ) (first last n : ℕ) → row ≡ run_at positions first last n → first ≤ position_of positions (n + 1) → position_of positions (n + 1) ≤ last →
    row ++ (n + 1) ∷ [] ≡ run_at positions first last (n + 1)
run_with positions row first last n e l u =
    let test : ℕ → Bool = λ column. leb first (position_of positions column) && leb (position_of positions column) last in
    let passes : test (n + 1) ≡ true = rw (le-leb first (position_of positions (n + 1)) l, le-leb (position_of positions (n + 1)) last u) refl in
    ap (λ xs. xs ++ (n + 1) ∷ []) e ∙ sym (filtered_more test n ∙ ap (λ b. run_at positions first last n ++ cond b ((n + 1) ∷ []) []) passes)

pub run_without : (positions row : List ℕ) (first last n : ℕ) → row ≡ run_at positions first last n → (position_of positions (n + 1) < first) ⊎ (last < position_of positions (n + 1)) → row ≡ run_at positions first last (n + 1)
run_without positions row first last n e out =
    let test : ℕ → Bool = λ column. leb first (position_of positions column) && leb (position_of positions column) last in
    let fails : test (n + 1) ≡ false = elim out [
      | inl l ↦ rw (lt-leb first (position_of positions (n + 1)) l) refl
      | inr g ↦ rw (lt-leb (position_of positions (n + 1)) last g) (and_false (leb first (position_of positions (n + 1))))
    ] in
    e ∙ sym (filtered_more test n ∙ ap (λ b. run_at positions first last n ++ cond b ((n + 1) ∷ []) []) fails ∙ append-nil (run_at positions first last n))

-- one exchange, and none left
pub shuffled_next : (i : ℕ) (s : Shuffled) → 2 ≤ i → shuffled i s ≡ shuffled (i - 1) (record { order = swap s.order (i - 1) (drawn i (next_state s.state)); state = next_state s.state })
shuffled_next zero s h = absurd (omega (arith, h))
shuffled_next (suc zero) s h = absurd (omega (arith, h))
shuffled_next (suc (suc i)) s h =
    let less : suc i ≡ suc (suc i) - 1 = omega arith in
    ap (λ k. shuffled k (record { order = swap s.order k (drawn (suc (suc i)) (next_state s.state)); state = next_state s.state })) less

pub shuffled_done : (i : ℕ) (s : Shuffled) → i ≤ 1 → shuffled i s ≡ s
shuffled_done zero s h = refl
shuffled_done (suc zero) s h = refl
shuffled_done (suc (suc i)) s h = absurd (omega (arith, h))

-- the rows that are drawn so far, and those that are left
pub rows_next : (n : ℕ) (o row : List ℕ) (state : ℕ) (rows : List (List ℕ)) (left : ℕ) →
    left ≡ suc n →
    row ≡ run_of o (drawn (length o) (next_state state)) (drawn (length o) (next_state (next_state state))) →
    rows ++ drawn_rows left o state ≡ (rows ++ row ∷ []) ++ drawn_rows n o (next_state (next_state state))
rows_next n o row state rows left e is =
    ap (λ k. rows ++ drawn_rows k o state) e ∙ ap (λ r. rows ++ r ∷ drawn_rows n o (next_state (next_state state))) (sym is) ∙ sym (append_assoc rows (row ∷ []) (drawn_rows n o (next_state (next_state state))))

both : (s t : Bool) → IsTrue (s && t) → IsTrue s × IsTrue t
both true true h = (refl, refl)
both true false h = absurd (cc)
both false t h = absurd (cc)

-- an order keeps its runs
module _ (c : ℕ) (o : List ℕ) (order : IsOrder c o) where
  run_has : (first last i : ℕ) → i < length o → has (run_between o first last) (get_or o i 0) ≡ (leb first i && leb i last)
  run_has first last i l =
      let a = get_or o i 0 in
      let inside = order_within c o order a (has_at o i l) in
      let within : a ≤ length o = omega (arith, inside.1, order_length c o order) in
      has_filtered (λ column. leb first (place o column) && leb (place o column) last) (length o) a inside.0 within ∙ ap (λ k. leb first k && leb k last) (place_at o (order_once c o order) i l)

  pub run_kept : (first last : ℕ) → Keeps o (run_between o first last)
  run_kept first last i j k l u w h g =
      let low = both (leb first i) (leb i last) (sym (run_has first last i (omega (arith, l, u, w))) ∙ h) in
      let high = both (leb first k) (leb k last) (sym (run_has first last k w) ∙ g) in
      run_has first last j (omega (arith, u, w)) ∙ rw (le-leb first j (omega (arith, leb-true first i low.0, l)), le-leb j last (omega (arith, leb-true k last high.1, u))) refl

  pub rows_kept : (n state : ℕ) → All (Keeps o) (drawn_rows n o state)
  rows_kept zero state = All-nil (Keeps o)
  rows_kept (suc n) state = All-cons (Keeps o) _ _ (run_kept _ _) (rows_kept n (next_state (next_state state)))

pub generated_law : GeneratedLaw
generated_law seed c rows =
    let h = hidden seed c in
    (h.order, record { order = hidden_order seed c; kept = rows_kept c h.order (hidden_order seed c) rows h.state })

-- a listed run is a row, and the run between the positions
module _ (c : ℕ) (o positions row : List ℕ) (order : IsOrder c o) (are : ArePositions o positions) where
  pub count : length positions ≡ c
  count = are.columns ∙ order_length c o order

  pub listed_row : (first last : ℕ) → row ≡ run_at positions first last (length positions) → IsRow c row
  listed_row first last e = subst (IsRow c) (sym (e ∙ ap (run_at positions first last) count)) (filtered_row (λ column. leb first (position_of positions column) && leb (position_of positions column) last) c)

  pub listed_run : (p q : ℕ) → row ≡ run_at positions (min p q + 1) (max p q + 1) (length positions) → row ≡ run_of o p q
  listed_run p q e = e ∙ run_exactly o positions c (min p q) (max p q) order are

pub drawn_count : (n : ℕ) (o : List ℕ) (state : ℕ) → length (drawn_rows n o state) ≡ n
drawn_count zero o state = refl
drawn_count (suc n) o state = ap suc (drawn_count n o (next_state (next_state state)))
