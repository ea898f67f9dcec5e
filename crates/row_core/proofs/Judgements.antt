-- What the judgements of parts of a matrix come to in steps.
use Rattle.std.proofs.Common.{◌≡◌, ℕ, zero, suc, ◌+◌, ◌-◌, ◌*◌, ◌≤◌, List, [], ◌∷◌, length, take, drop, sum_by, Option, Some, None, IfSome, refl, ap, subst, arith}
use Rattle.std.proofs.Math.Nat.{mul-le-mul_right}
use Rattle.std.proofs.lemmas.List.{length-map}
use Rattle.std.proofs.lemmas.List.Sums.{sum_by-cons, sum_by-append, sum_by-drop_more, sum_by-take-drop}
use Rattle.row_model.specs.Graph.{row_at}
use Rattle.row_model.specs.Rows.{RowList, Ascends}
use Rattle.row_model.proofs.Ascending.{ascends_few}
use Rattle.row_judge.specs.Costs.{Costs, IsNoLarger, AreJudgements}
use Rattle.core_text.specs.Cores.{AreRowNumbers, rows_at}
use Rattle.row_core.specs.Blamed.{part_at, rotated}
use Rattle.row_core.proofs.Whole.{length-rotated}

-- the ones behind a row are no more than those behind an earlier one
later_ones : (rows : List (List ℕ)) (i j : ℕ) → i ≤ j → sum_by length (drop j rows) ≤ sum_by length (drop i rows)
later_ones rows i j l = omega (arith, sum_by-take-drop length rows i, sum_by-take-drop length rows j, earlier_ones rows i j l)
  where
    earlier_ones : (rows : List (List ℕ)) (i j : ℕ) → i ≤ j → sum_by length (take i rows) ≤ sum_by length (take j rows)
    earlier_ones rows zero j l = omega arith
    earlier_ones rows (suc i) zero l = absurd (omega arith)
    earlier_ones [] (suc i) (suc j) l = omega arith
    earlier_ones (row ∷ rows) (suc i) (suc j) l =
        omega (arith, sum_by-cons length row (take i rows), sum_by-cons length row (take j rows), earlier_ones rows i j (omega (arith, l)))

-- rows of rising numbers have no more ones than all rows behind a lower number
rising_ones : (rows : List (List ℕ)) (low : ℕ) (numbers : List ℕ) → Ascends (length rows) low numbers → sum_by (λ k. length (row_at rows k)) numbers ≤ sum_by length (drop low rows)
rising_ones rows low [] h = omega arith
rising_ones rows low (k ∷ numbers) h =
    let next : suc (k - 1) ≡ k = omega (arith, h.0) in
    let row : sum_by length (drop (k - 1) rows) ≡ length (row_at rows k) + sum_by length (drop (k - 1 + 1) rows) = sum_by-drop_more length rows (k - 1) [] (omega (arith, h.0, h.1)) in
    let same : sum_by length (drop (k - 1 + 1) rows) ≡ sum_by length (drop k rows) = ap (λ i. sum_by length (drop i rows)) (omega (arith, h.0)) in
    omega (arith, sum_by-cons (λ k. length (row_at rows k)) k numbers, row, same, rising_ones rows k numbers h.2, later_ones rows low (k - 1) (omega (arith, h.0)))

named_ones : (rows : List (List ℕ)) (numbers : List ℕ) → sum_by length (rows_at rows numbers) ≡ sum_by (λ k. length (row_at rows k)) numbers
named_ones rows [] = refl
named_ones rows (k ∷ numbers) =
    omega (arith, sum_by-cons length (row_at rows k) (rows_at rows numbers), sum_by-cons (λ k. length (row_at rows k)) k numbers, named_ones rows numbers)

rotated_sum : (f : ℕ → ℕ) (n : ℕ) (list : List ℕ) → sum_by f (rotated n list) ≡ sum_by f list
rotated_sum f n list = omega (arith, sum_by-append f (drop n list) (take n list), sum_by-take-drop f list n)

-- a part of a matrix is no larger
pub part_smaller : (m : RowList) (n : ℕ) (list : List ℕ) → AreRowNumbers (length m.rows) (rotated n list) → IsNoLarger (part_at m list) m
part_smaller m n list h = record {
  columns = refl;
  rows = omega (arith, length-map list (row_at m.rows), ascends_few (length m.rows) 0 (rotated n list) h, length-rotated n list);
  ones = omega (arith, named_ones m.rows list, rotated_sum (λ k. length (row_at m.rows k)) n list, rising_ones m.rows 0 (rotated n list) h);
}

-- no judgement, one, and so many after others
pub none_judged : (costs : Option Costs) (m : RowList) (s : ℕ) → AreJudgements costs m 0 s s
none_judged None m s = tt
none_judged (Some c) m s = λ monotone. omega arith

pub one_judged : (costs : Option Costs) (part m : RowList) (s n : ℕ) → IsNoLarger part m → IfSome costs (λ c. n ≤ s + c.any part) → AreJudgements costs m 1 s n
one_judged None part m s n small h = tt
one_judged (Some c) part m s n small h = λ monotone. omega (arith, h, monotone part m small)

pub more_judged : (costs : Option Costs) (m : RowList) (j k s n o : ℕ) → AreJudgements costs m j s n → AreJudgements costs m k n o → AreJudgements costs m (j + k) s o
more_judged None m j k s n o first later = tt
more_judged (Some c) m j k s n o first later = λ monotone. omega (arith, first monotone, later monotone)

pub fewer_judged : (costs : Option Costs) (m : RowList) (j k s n : ℕ) → j ≤ k → AreJudgements costs m j s n → AreJudgements costs m k s n
fewer_judged None m j k s n l h = tt
fewer_judged (Some c) m j k s n l h = λ monotone.
    let times : j * c.any m ≤ k * c.any m = mul-le-mul_right (c.any m) l in
    omega (arith, times, h monotone)

-- so many in all
pub judged_within : (costs : Option Costs) (m : RowList) (j k most s n o : ℕ) → j + k ≤ most → AreJudgements costs m j s n → AreJudgements costs m k n o → AreJudgements costs m most s o
judged_within costs m j k most s n o l first later = fewer_judged costs m (j + k) most s o l (more_judged costs m j k s n o first later)

-- the judgement of a part, and of the whole
pub part_judged : (costs : Option Costs) (part m : RowList) (needed : ℕ) (list : List ℕ) (s n : ℕ) → part ≡ part_at m list → AreRowNumbers (length m.rows) (rotated needed list) →
    IfSome costs (λ c. n ≤ s + c.any part) → AreJudgements costs m 1 s n
part_judged costs part m needed list s n e rows h =
    one_judged costs (part_at m list) m s n (part_smaller m needed list rows) (subst (λ p. IfSome costs (λ c. n ≤ s + c.any p)) e h)

pub whole_judged : (costs : Option Costs) (m : RowList) (s n : ℕ) → IfSome costs (λ c. n ≤ s + c.any m) → AreJudgements costs m 1 s n
whole_judged costs m s n h = one_judged costs m m s n (record { columns = refl; rows = omega arith; ones = omega arith }) h
