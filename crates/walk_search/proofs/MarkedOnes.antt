-- The ones of the rows that are marked.
use Rattle.std.proofs.Common.{◌≡◌, ◌≢◌, ◌⊎◌, ◌∙◌, ℕ, suc, zero, ◌+◌, ◌-◌, ◌*◌, ◌≤◌, true, false, cond, List, [], length, get_or, take, drop, sum_by, add-one, refl, inl, inr, sym, ap, subst, arith, length-drop}
use Rattle.std.proofs.lemmas.Bool.{cases_eq, cases_Bool}
use Rattle.std.proofs.lemmas.Option.{slice_get-get_or}
use Rattle.row_model.specs.Graph.{row_at}
use Rattle.odd_cycle.specs.Marks.{Marking, is_marked, IsMarkedAt}
use Rattle.walk_search.specs.MarkedOnes.{sum_to, ones_at, marked_ones}
use Rattle.odd_cycle.proofs.RowOnes.{ones_more}

-- a sum depends on its items
pub sum_to_same : (f g : ℕ → ℕ) (n : ℕ) → ((i : ℕ) → 1 ≤ i → i ≤ n → g i ≡ f i) → sum_to g n ≡ sum_to f n
sum_to_same f g zero h = refl
sum_to_same f g (suc n) h = omega (arith, sum_to_same f g n (λ i a b. h i a (omega arith)), h (suc n) (omega arith) (omega arith))

-- a sum grows as one of its items
pub sum_to_grown : (f g : ℕ → ℕ) (n at more : ℕ) → 1 ≤ at → at ≤ n → g at ≡ f at + more → ((i : ℕ) → 1 ≤ i → i ≤ n → i ≢ at → g i ≡ f i) → sum_to g n ≡ sum_to f n + more
sum_to_grown f g zero at more a b e h = absurd (omega arith)
sum_to_grown f g (suc n) at more a b e h =
    elim (cases_eq at (suc n)) [
      | inl s ↦
          let last : g (suc n) ≡ f (suc n) + more = subst (λ i. g i ≡ f i + more) s e in
          omega (arith, last, sum_to_same f g n (λ i l m. h i l (omega arith) (omega arith)))
      | inr s ↦ omega (arith, sum_to_grown f g n at more a (omega arith) e (λ i l m o. h i l (omega arith) o), h (suc n) (omega arith) (omega arith) (λ t. s (sym t)))
    ]

-- a sum of items within a bound
pub sum_to-le : (f : ℕ → ℕ) (n top : ℕ) → ((i : ℕ) → f i ≤ top) → sum_to f n ≤ n * top
sum_to-le f zero top h = omega arith
sum_to-le f (suc n) top h = grind (arith, sum_to-le f n top h, h (suc n))

module _ (rows : List (List ℕ)) (old new : Marking) (row column : ℕ) (g : IsMarkedAt old new row column) (a : 1 ≤ row) (b : row ≤ old.rows) (d : 1 ≤ column) (e : column ≤ old.columns) where
  others : (k p : ℕ) → 1 ≤ k → k ≤ old.rows → 1 ≤ p → (k ≢ row) ⊎ (p ≢ column) → ones_at rows new p k ≡ ones_at rows old p k
  others k p l m f o = ap (λ t. cond t (length (row_at rows k)) 0) (g.others k p l m f o)

  -- the sum of the new table, over the rows and columns of the old one
  new_sum : marked_ones rows new ≡ sum_to (λ p. sum_to (ones_at rows new p) old.rows) old.columns
  unfolding marked_ones
  new_sum =
      ap (λ n. sum_to (λ p. sum_to (ones_at rows new p) n) new.columns) g.rows ∙ ap (λ n. sum_to (λ p. sum_to (ones_at rows new p) old.rows) n) g.columns

  -- a row that was marked there
  pub marked_again : is_marked old row column ≡ true → marked_ones rows new ≡ marked_ones rows old
  unfolding marked_ones
  marked_again was =
      new_sum
      ∙ sum_to_same (λ p. sum_to (ones_at rows old p) old.rows) (λ p. sum_to (ones_at rows new p) old.rows) old.columns (λ p l m.
      sum_to_same (ones_at rows old p) (ones_at rows new p) old.rows (λ k i j. elim (cases_eq k row) [
        | inl s ↦ elim (cases_eq p column) [
          | inl r ↦ rw (s, r) (ap (λ t. cond t (length (row_at rows row)) 0) (g.here ∙ sym was))
          | inr r ↦ others k p i j l (inr r)
        ]
        | inr s ↦ others k p i j l (inl s)
      ]))

  -- a row that was not
  pub marked_anew : is_marked old row column ≡ false → marked_ones rows new ≡ marked_ones rows old + length (row_at rows row)
  unfolding marked_ones
  marked_anew was =
      let whole : ones_at rows new column row ≡ length (row_at rows row) = ap (λ t. cond t (length (row_at rows row)) 0) g.here in
      let none : ones_at rows old column row ≡ 0 = ap (λ t. cond t (length (row_at rows row)) 0) was in
      new_sum
      ∙ sum_to_grown (λ p. sum_to (ones_at rows old p) old.rows) (λ p. sum_to (ones_at rows new p) old.rows) old.columns column (length (row_at rows row)) d e
      (sum_to_grown (ones_at rows old column) (ones_at rows new column) old.rows row (length (row_at rows row)) a b (omega (arith, whole, none)) (λ k i j o. others k column i j d (inl o)))
      (λ p l m o. sum_to_same (ones_at rows old p) (ones_at rows new p) old.rows (λ k i j. others k p i j l (inr o)))

-- the ones of the first rows
pub ones_to : (rows : List (List ℕ)) (n : ℕ) → n ≤ length rows → (f : ℕ → ℕ) → ((k : ℕ) → f k ≤ length (row_at rows k)) → sum_to f n ≤ sum_by length (take n rows)
ones_to rows zero l f h = omega arith
ones_to rows (suc n) l f h =
    let same : n + 1 - 1 ≡ n = omega arith in
    let more = ones_more rows n (get_or rows n []) (rw same (slice_get-get_or rows n [] (omega arith))) in
    let row : row_at rows (suc n) ≡ get_or rows n [] = ap (λ i. get_or rows i []) (omega arith) in
    omega (arith, ones_to rows n (omega arith) f h, h (suc n), ap length row, rw add-one at more)

-- a table without a mark
pub marked_none : (rows : List (List ℕ)) (t : Marking) → ((k p : ℕ) → is_marked t k p ≡ false) → marked_ones rows t ≡ 0
unfolding marked_ones
marked_none rows t blank =
    let zeros : (f : ℕ → ℕ) (n : ℕ) → ((i : ℕ) → f i ≡ 0) → sum_to f n ≡ 0 = λ f n h. omega (arith, sum_to-le f n 0 (λ i. omega (arith, h i))) in
    zeros (λ p. sum_to (ones_at rows t p) t.rows) t.columns (λ p. zeros (ones_at rows t p) t.rows (λ k. ap (λ b. cond b (length (row_at rows k)) 0) (blank k p)))

-- each of the first rows is marked once for each column at the most
marked_all : (rows : List (List ℕ)) (t : Marking) → t.rows ≤ length rows → marked_ones rows t ≤ t.columns * sum_by length (take t.rows rows)
unfolding marked_ones
marked_all rows t few =
    sum_to-le (λ p. sum_to (ones_at rows t p) t.rows) t.columns (sum_by length (take t.rows rows)) (λ p. ones_to rows t.rows few (ones_at rows t p) (λ k. elim (cases_Bool (is_marked t k p)) [
      | inl e ↦ rw e (omega arith)
      | inr e ↦ rw e (omega arith)
    ]))

-- the same of a table of so many rows and columns
pub marked_few : (rows : List (List ℕ)) (t : Marking) (c n : ℕ) → n ≤ length rows → t.rows ≡ n → t.columns ≡ c → marked_ones rows t ≤ c * sum_by length (take n rows)
marked_few rows t c n few r e =
    subst (λ k. marked_ones rows t ≤ k * sum_by length (take n rows)) e
    (subst (λ k. marked_ones rows t ≤ t.columns * sum_by length (take k rows)) r (marked_all rows t (omega arith)))

-- of the rows after the first ones
pub marked_within : (rows : List (List ℕ)) (first further c : ℕ) (t : Marking) → first + further ≤ length rows → t.rows ≡ further → t.columns ≡ c →
    marked_ones (drop first rows) t ≤ c * sum_by length (take further (drop first rows))
marked_within rows first further c t few r e =
    let long : further ≤ length (drop first rows) = omega (arith, length-drop first rows) in
    marked_few (drop first rows) t c further long r e
