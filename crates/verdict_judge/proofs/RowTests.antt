-- The tests of the rows of a core and of their orders.
use Rattle.std.proofs.Common.{◌≡◌, ◌↔◌, ◌∙◌, ℕ, zero, suc, ◌+◌, ◌<◌, ◌≤◌, List, [], ◌∷◌, ◌++◌, length, take, drop, get_or, refl, sym, ap, subst, arith}
use Rattle.std.specs.List.{All, AllByRecursion}
use Rattle.std.specs.List.Sorted.{IsNonDecreasing}
use Rattle.column_order.specs.Orders.{Keeps, IsOrder, IsValidOrder}
use Rattle.row_model.specs.Graph.{row_at}
use Rattle.row_model.specs.Rows.{Ascends, RowList}
use Rattle.row_model.proofs.PieceLemmas.{ascends_rises}
use Rattle.others_kept.specs.Others.{KeepsOthers, IsValidForOthers}
use Rattle.core_text.specs.Cores.{AreRowNumbers, rows_at, but}
use Rattle.core_text.proofs.LeftOut.{but_at}

-- of numbers from an index on, the first and the others
pub ascends_here : (n low : ℕ) (rows : List ℕ) (i d : ℕ) → i < length rows → Ascends n low (drop i rows) → (low < get_or rows i d) × (get_or rows i d ≤ n) × Ascends n (get_or rows i d) (drop (i + 1) rows)
ascends_here n low [] i d l h = absurd (omega arith)
ascends_here n low (k ∷ rows) zero d l h = h
ascends_here n low (k ∷ rows) (suc i) d l h =
    let e : suc i + 1 ≡ suc (i + 1) = omega arith in
    rw e (ascends_here n low rows i d (omega arith) h)

pub ascends_from : (n low : ℕ) (rows : List ℕ) (i d : ℕ) → i < length rows → low < get_or rows i d → get_or rows i d ≤ n → Ascends n (get_or rows i d) (drop (i + 1) rows) → Ascends n low (drop i rows)
ascends_from n low [] i d l a b h = absurd (omega arith)
ascends_from n low (k ∷ rows) zero d l a b h = (a, b, h)
ascends_from n low (k ∷ rows) (suc i) d l a b h =
    let e : suc i + 1 ≡ suc (i + 1) = omega arith in
    ascends_from n low rows i d (omega arith) a b (subst (λ j. Ascends n (get_or rows i d) (drop j (k ∷ rows))) e h)

-- after the last number there is none
pub ascends_end : (n low : ℕ) (rows : List ℕ) (i : ℕ) → length rows ≤ i → Ascends n low (drop i rows)
ascends_end n low [] zero l = tt
ascends_end n low [] (suc i) l = tt
ascends_end n low (k ∷ rows) zero l = absurd (omega arith)
ascends_end n low (k ∷ rows) (suc i) l = ascends_end n low rows i (omega arith)

pub not_falling : (n : ℕ) (rows : List ℕ) → AreRowNumbers n rows → IsNonDecreasing rows
not_falling n rows h = λ i j d le lt. ascends_rises n 0 rows i j d h le lt

each_item : (P : ℕ → Type 0) (set : List ℕ) → ((j : ℕ) → j < length set → P (get_or set j 0)) → AllByRecursion P set
each_item P [] h = tt
each_item P (k ∷ set) h = (h 0 (omega arith), each_item P set (λ j l. h (suc j) (omega arith)))

item_each : (P : ℕ → Type 0) (set : List ℕ) → AllByRecursion P set → (j : ℕ) → j < length set → P (get_or set j 0)
item_each P [] h j l = absurd (omega arith)
item_each P (k ∷ set) h zero l = h.0
item_each P (k ∷ set) h (suc j) l = item_each P set h.1 j (omega arith)

-- the numbers but the one at an index
abbrev without : ℕ → List ℕ → List ℕ
without i [] = []
without zero (k ∷ set) = set
without (suc i) (k ∷ set) = k ∷ without i set

without-parts : (i : ℕ) (set : List ℕ) → i < length set → take i set ++ drop (i + 1) set ≡ without i set
without-parts i [] l = absurd (omega arith)
without-parts zero (k ∷ set) l = refl
without-parts (suc i) (k ∷ set) l =
    let e : suc i + 1 ≡ suc (i + 1) = omega arith in
    rw e (ap (λ xs. k ∷ xs) (without-parts i set (omega arith)))

-- what holds of each number but the one at an index
each_other : (P : ℕ → Type 0) (i : ℕ) (set : List ℕ) → ((j : ℕ) → j < length set → (j ≡ i → ⊥) → P (get_or set j 0)) → AllByRecursion P (without i set)
each_other P i [] h = tt
each_other P zero (k ∷ set) h = each_item P set (λ j l. h (suc j) (omega arith) (λ e. omega (arith, e)))
each_other P (suc i) (k ∷ set) h = (h 0 (omega arith) (λ e. omega (arith, e)), each_other P i set (λ j l n. h (suc j) (omega arith) (λ e. n (omega (arith, e)))))

other_each : (P : ℕ → Type 0) (i : ℕ) (set : List ℕ) → AllByRecursion P (without i set) → (j : ℕ) → j < length set → (j ≡ i → ⊥) → P (get_or set j 0)
other_each P i [] h j l n = absurd (omega arith)
other_each P zero (k ∷ set) h zero l n = absurd (n refl)
other_each P zero (k ∷ set) h (suc j) l n = item_each P set h j (omega arith)
other_each P (suc i) (k ∷ set) h zero l n = h.0
other_each P (suc i) (k ∷ set) h (suc j) l n = other_each P i set h.1 j (omega arith) (λ e. n (omega (arith, e)))

all_rows : (Q : List ℕ → Type 0) (rows : List (List ℕ)) (xs : List ℕ) → AllByRecursion (λ k. Q (row_at rows k)) xs → All Q (rows_at rows xs)
all_rows Q rows [] h k d l = absurd (omega arith)
all_rows Q rows (x ∷ xs) h zero d l = h.0
all_rows Q rows (x ∷ xs) h (suc k) d l = all_rows Q rows xs h.1 k d (omega arith)

rows_all : (Q : List ℕ → Type 0) (rows : List (List ℕ)) (xs : List ℕ) → All Q (rows_at rows xs) → AllByRecursion (λ k. Q (row_at rows k)) xs
rows_all Q rows [] h = tt
rows_all Q rows (x ∷ xs) h = (h 0 [] (omega arith), rows_all Q rows xs (λ k d l. h (suc k) d (omega arith)))

but_without : (n : ℕ) (set : List ℕ) (i : ℕ) → AreRowNumbers n set → i < length set → but (get_or set i 0) set ≡ without i set
but_without n set i h l = but_at n 0 set i h l ∙ without-parts i set l

valid_others : (m : RowList) (set : List ℕ) (i : ℕ) (o : List ℕ) → AreRowNumbers (length m.rows) set → i < length set → IsOrder m.columns o → KeepsOthers m.rows set i o (length set) →
    IsValidOrder m.columns (rows_at m.rows (but (get_or set i 0) set)) o
valid_others m set i o h l order kept =
    record {
      order = order;
      kept = all_rows (Keeps o) m.rows (but (get_or set i 0) set)
          (subst (AllByRecursion (λ k. Keeps o (row_at m.rows k))) (sym (but_without (length m.rows) set i h l)) (each_other (λ k. Keeps o (row_at m.rows k)) i set kept));
    }

others_valid : (m : RowList) (set : List ℕ) (i : ℕ) (o : List ℕ) → AreRowNumbers (length m.rows) set → i < length set → IsValidOrder m.columns (rows_at m.rows (but (get_or set i 0) set)) o →
    KeepsOthers m.rows set i o (length set)
others_valid m set i o h l v =
    other_each (λ k. Keeps o (row_at m.rows k)) i set
    (subst (AllByRecursion (λ k. Keeps o (row_at m.rows k))) (but_without (length m.rows) set i h l) (rows_all (Keeps o) m.rows (but (get_or set i 0) set) v.kept))

-- an order that is valid for the other rows is one that keeps each of them
pub others_are : (m : RowList) (set : List ℕ) (i : ℕ) (o : List ℕ) → AreRowNumbers (length m.rows) set → i < length set →
    IsValidForOthers m set i o ↔ IsValidOrder m.columns (rows_at m.rows (but (get_or set i 0) set)) o
others_are m set i o h l =
    (λ v. valid_others m set i o h l v.order v.kept, λ v. record { order = v.order; kept = others_valid m set i o h l v })
