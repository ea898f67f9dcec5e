-- Steps that add up over rows, and over the sides of a yes.
use Rattle.std.proofs.Common.{◌≡◌, ◌∙◌, ℕ, suc, ◌+◌, ◌-◌, ◌*◌, ◌≤◌, Bool, Result, Ok, Err, List, [], ◌∷◌, Some, length, take, sum_by, slice_get, sym, ap, arith}
use Rattle.std.specs.Prelude.{IfOk}
use Rattle.std.proofs.lemmas.List.Sums.{sum_by-append, sum_by-cons}
use Rattle.row_model.proofs.Pushed.{take_next}
use Rattle.verdict_judge.specs.Tests.{numbers}

-- no step
pub none_more : (a b : ℕ) → a ≤ a + b
none_more a b = omega arith

-- steps that are counted before what may fail
pub counted : (a b c n : ℕ) → n ≡ a + b + c → n ≤ a + (b + c)
counted a b c n e = omega arith

pub counted_ok : {E : Type 0} (P : Bool → Type 0) (r : Result Bool E) (a b c n : ℕ) → n ≡ a + b + c → IfOk r (λ x. P x → a + (b + c) ≤ n)
counted_ok P (Ok x) a b c n e = λ h. omega (arith, e)
counted_ok P (Err x) a b c n e = tt

-- the order, then the tree by each row, then what version 2 asks
pub of_order : (a n r q : ℕ) → n ≤ a + r → n ≤ a + (3 * r + q)
of_order a n r q h = omega arith

pub of_tree : (a m n l s q : ℕ) → m ≤ a + (l + s) → n ≤ m + (l + 2 * s) → n ≤ a + (3 * (l + s) + q)
of_tree a m n l s q h k = omega arith

pub of_all : (a m n o l s q : ℕ) → m ≤ a + (l + s) → n ≤ m + (l + 2 * s) → o ≤ n + q → o ≤ a + (3 * (l + s) + q)
of_all a m n o l s q h k j = omega arith

-- the ones of one row more
pub ones_with_row : (rows : List (List ℕ)) (k : ℕ) (row : List ℕ) → slice_get rows (k + 1 - 1) ≡ Some row →
    sum_by length (take (k + 1) rows) ≡ sum_by length (take k rows) + length row
ones_with_row rows k row found =
    ap (λ (rs : List (List ℕ)). sum_by length rs) (sym (take_next rows k row found))
    ∙ sum_by-append length (take k rows) (row ∷ [])
    ∙ ap (λ n. sum_by length (take k rows) + n) (sum_by-cons length row [] ∙ omega arith)

-- a sum over one number more
pub sum_to_next : (f : ℕ → ℕ) (n : ℕ) → sum_by f (numbers (n + 1)) ≡ sum_by f (numbers n) + f (n + 1)
sum_to_next f n =
    let more : n + 1 ≡ suc n = omega arith in
    ap (λ j. sum_by f (numbers j)) more
    ∙ sum_by-append f (numbers n) (suc n ∷ [])
    ∙ ap (λ m. sum_by f (numbers n) + m) (sum_by-cons f (suc n) [] ∙ omega arith)
    ∙ ap (λ j. sum_by f (numbers n) + f j) (sym more)
