-- How many leaves of a tree are in the row: no more than the row has columns.
use Rattle.std.proofs.Common.{◌≡◌, ◌∙◌, ℕ, ◌+◌, ◌≤◌, Bool, true, false, cond, ◌||◌, eqb, List, [], ◌∷◌, length, refl, sym, ap, inl, inr, arith, eq-eqb, ne_eqb}
use Rattle.std.proofs.lemmas.Bool.{cases_eq}
use Rattle.std.proofs.lemmas.List.Sums.{sum_by-append, sum_by-cons}
use Rattle.std.specs.List.{count_by}
use Rattle.column_order.specs.Orders.{has, occurs}
use Rattle.pq_tree.specs.Outline.{Outline, Forest, no_tree, tree_and, leaves, leaves_of}
use Rattle.pq_tree.specs.Forests.{join}

-- how many leaves of the tree are in the row
abbrev pub hits : List ℕ → Outline → ℕ
hits row t = count_by (has row) (leaves t)

-- how many of the trees together
abbrev pub hits_of : List ℕ → Forest → ℕ
hits_of row ts = count_by (has row) (leaves_of ts)

-- 1 where the column is in the row, else 0
abbrev pub in_row : List ℕ → ℕ → ℕ
in_row row x = cond (has row x) 1 0

pub hits_of-and : (row : List ℕ) (t : Outline) (ts : Forest) → hits_of row (tree_and t ts) ≡ hits row t + hits_of row ts
hits_of-and row t ts = sum_by-append (in_row row) (leaves t) (leaves_of ts)

pub hits_of-join : (row : List ℕ) (ts us : Forest) → hits_of row (join ts us) ≡ hits_of row ts + hits_of row us
hits_of-join row no_tree us = omega arith
hits_of-join row (tree_and t ts) us = omega (arith, hits_of-and row t (join ts us), hits_of-and row t ts, hits_of-join row ts us)

no_hits : (xs : List ℕ) → count_by (has []) xs ≡ 0
no_hits [] = refl
no_hits (x ∷ xs) = omega (arith, sum_by-cons (in_row []) x xs, no_hits xs)

or_both : (a b : Bool) → cond {A = ℕ} (a || b) 1 0 ≤ cond {A = ℕ} a 1 0 + cond {A = ℕ} b 1 0
or_both true b = omega arith
or_both false b = omega arith

eqb_turned : (x y : ℕ) → eqb x y ≡ eqb y x
eqb_turned x y = elim (cases_eq x y) [ inl e ↦ eq-eqb x y e ∙ sym (eq-eqb y x (sym e)) | inr n ↦ ne_eqb x y n ∙ sym (ne_eqb y x (λ e. n (sym e))) ]

-- the hits of a row with one column more
one_more : (row : List ℕ) (b : ℕ) (xs : List ℕ) → count_by (has (b ∷ row)) xs ≤ occurs xs b + count_by (has row) xs
one_more row b [] = omega arith
one_more row b (x ∷ xs) =
    omega (
      arith,
      sum_by-cons (in_row (b ∷ row)) x xs,
      sum_by-cons (in_row row) x xs,
      or_both (eqb b x) (has row x),
      ap (λ k. cond {A = ℕ} k 1 0) (eqb_turned b x),
      one_more row b xs,
    )

pub hits_few : (row xs : List ℕ) → ((a : ℕ) → occurs xs a ≤ 1) → count_by (has row) xs ≤ length row
hits_few [] xs once = omega (arith, no_hits xs)
hits_few (b ∷ row) xs once = omega (arith, one_more row b xs, once b, hits_few row xs once)
