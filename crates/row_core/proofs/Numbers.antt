-- Row numbers in ascending order: without some of them, without one, and all.
use Rattle.std.proofs.Common.{◌≡◌, ◌∙◌, ℕ, zero, suc, ◌+◌, ◌-◌, ◌<◌, ◌≤◌, List, [], ◌∷◌, ◌++◌, length, take, drop, get_or, sym, ap, subst, arith}
use Rattle.std.proofs.lemmas.List.{length-map, get_or-map, get_or_default, same_lists, length-append, length-take-le, length-drop}
use Rattle.std.proofs.lemmas.List.FromFn.{length-range_with_len, get_or-range_with_len}
use Rattle.std.specs.List.{range_with_len}
use Rattle.std.specs.List.Sorted.{IsStrictlyIncreasing}
use Rattle.row_model.specs.Graph.{row_at}
use Rattle.row_model.specs.Rows.{Ascends}
use Rattle.row_model.proofs.Ascending.{ascends_lower}
use Rattle.core_text.specs.Cores.{AreRowNumbers, rows_at}

-- a number at an index is one of 1 to n
pub within_at : (n low : ℕ) (set : List ℕ) (i d : ℕ) → Ascends n low set → i < length set → (low < get_or set i d) × (get_or set i d ≤ n)
within_at n low [] i d h l = absurd (omega arith)
within_at n low (k ∷ set) zero d h l = (h.0, h.1)
within_at n low (k ∷ set) (suc i) d h l = let r = within_at n k set i d h.2 (omega arith) in (omega (arith, r.0, h.0), r.1)

-- each is below the next
pub increasing : (n low : ℕ) (set : List ℕ) → Ascends n low set → IsStrictlyIncreasing set
increasing n low [] h k l = absurd (omega arith)
increasing n low (a ∷ []) h zero l = absurd (omega arith)
increasing n low (a ∷ []) h (suc k) l = absurd (omega arith)
increasing n low (a ∷ b ∷ set) h zero l = h.2.0
increasing n low (a ∷ b ∷ set) h (suc k) l =
    let e : suc k + 1 ≡ suc (k + 1) = omega arith in
    subst (λ j. get_or (b ∷ set) k 0 < get_or (a ∷ b ∷ set) j 0) (sym e) (increasing n a (b ∷ set) h.2 k (omega arith))

ascends_drop : (n low i : ℕ) (set : List ℕ) → Ascends n low set → Ascends n low (drop i set)
ascends_drop n low zero set h = h
ascends_drop n low (suc i) [] h = tt
ascends_drop n low (suc i) (k ∷ set) h = ascends_lower n low k (drop i set) (omega (arith, h.0)) (ascends_drop n k i set h.2)

-- without those from one index to before another
pub ascends_without : (n low from to : ℕ) (set : List ℕ) → from ≤ to → Ascends n low set → Ascends n low (take from set ++ drop to set)
ascends_without n low zero to set l h = ascends_drop n low to set h
ascends_without n low (suc from) zero set l h = absurd (omega arith)
ascends_without n low (suc from) (suc to) [] l h = tt
ascends_without n low (suc from) (suc to) (k ∷ set) l h = (h.0, h.1, ascends_without n k from to set (omega arith) h.2)

ascends_range : (n low k : ℕ) → low + k ≤ n → Ascends n low (range_with_len (low + 1) k)
ascends_range n low zero l = tt
ascends_range n low (suc k) l = (omega arith, omega (arith, l), ascends_range n (low + 1) k (omega (arith, l)))

-- 1 to n
pub ascends_all : (n : ℕ) → AreRowNumbers n (range_with_len 1 n)
ascends_all n = ascends_range n 0 n (omega arith)

-- all rows are the rows of the numbers 1 to n
module _ (rows : List (List ℕ)) where
  abbrev numbers : List ℕ
  numbers = range_with_len 1 (length rows)

  long : length (rows_at rows numbers) ≡ length rows
  long = length-map numbers (row_at rows) ∙ length-range_with_len 1 (length rows)

  each_row : (i : ℕ) (d : List ℕ) → i < length (rows_at rows numbers) → get_or (rows_at rows numbers) i d ≡ get_or rows i d
  each_row i d l =
      let within : i < length rows = omega (arith, long) in
      let in_numbers : i < length numbers = omega (arith, length-range_with_len 1 (length rows)) in
      let back : 1 + i - 1 ≡ i = omega arith in
      get_or-map (row_at rows) numbers i 0 d in_numbers ∙ ap (row_at rows) (get_or-range_with_len 1 (length rows) i 0 within)
      ∙ ap (λ k. get_or rows k []) back ∙ get_or_default rows i [] d within

  pub rows_at_all : rows_at rows (range_with_len 1 (length rows)) ≡ rows
  rows_at_all = same_lists (rows_at rows numbers) rows long each_row

-- how many there are without those from one index to before another
pub length-without : (xs : List ℕ) (from to : ℕ) → from ≤ to → to ≤ length xs → length (take from xs ++ drop to xs) + (to - from) ≡ length xs
length-without xs from to l u = omega (arith, length-append (take from xs) (drop to xs), length-take-le from xs (omega arith), length-drop to xs)
