-- Marks of rows at columns, as bits of a table.
use Rattle.std.proofs.Common.{◌≡◌, ◌≢◌, ◌⊎◌, ◌∙◌, ℕ, ◌-◌, ◌*◌, ◌/◌, ◌%◌, ◌<◌, ◌≤◌, true, eqb, List, length, set, get_or, replicate, refl, inl, inr, sym, ap, subst, arith, get_or-set_same, get_or-set_other}
use Rattle.std.specs.Int.{bit_at}
use Rattle.std.proofs.lemmas.Bool.{cases_eq, cases_lt}
use Rattle.std.proofs.lemmas.List.{get_or-replicate, get_or_past, length-replicate}
use Rattle.std.proofs.lemmas.Nat.Bits.{bit_at-zero}
use Rattle.std.proofs.lemmas.Nat.{same_from_place, mul-add-lt}
use Rattle.odd_cycle.specs.Marks.{is_marked, mark_place, IsMarkedAt}

-- a place is within the table
pub mark_place-lt : (rows columns row column : ℕ) → 1 ≤ row → row ≤ rows → 1 ≤ column → column ≤ columns → mark_place rows row column < rows * columns
mark_place-lt rows columns row column a b d e = mul-add-lt (column - 1) rows (row - 1) columns (omega arith) (omega arith)

-- so is its word
pub mark_word-lt : (rows columns row column words : ℕ) → 1 ≤ row → row ≤ rows → 1 ≤ column → column ≤ columns → rows * columns < 64 * words → mark_place rows row column / 64 < words
mark_word-lt rows columns row column words a b d e f =
    let place = mark_place rows row column in
    let l : place < rows * columns = mark_place-lt rows columns row column a b d e in
    omega (arith, l)

-- a word of a table of zeros has no bit
pub blank_bit : (words : List ℕ) (n i k : ℕ) → words ≡ replicate n 0 → bit_at (get_or words i 0) k ≡ 0
blank_bit words n i k e =
    let none : get_or (replicate {A = ℕ} n 0) i 0 ≡ 0 = elim (cases_lt i n) [
      | inl l ↦ get_or-replicate n i 0 0 l
      | inr l ↦ get_or_past (replicate {A = ℕ} n 0) i 0 (omega (arith, length-replicate {A = ℕ} n 0))
    ] in
    rw (e, none) (bit_at-zero k)

-- a write of the word of a row at a column, with the bit set
pub marked_at : (rows columns : ℕ) (words written : List ℕ) (row column word : ℕ) → rows * columns < 64 * length words → 1 ≤ row → row ≤ rows → 1 ≤ column → column ≤ columns →
    written ≡ set words (mark_place rows row column / 64) word →
    bit_at word (mark_place rows row column % 64) ≡ 1 →
    ((i : ℕ) → i ≢ mark_place rows row column % 64 → bit_at word i ≡ bit_at (get_or words (mark_place rows row column / 64) 0) i) →
    IsMarkedAt (record { rows = rows; columns = columns; words = words }) (record { rows = rows; columns = columns; words = written }) row column
unfolding is_marked
marked_at rows columns words written row column word wide a b d e w here others =
    record {
      rows = refl;
      columns = refl;
      here = set_here;
      stay = λ k p h. elim (cases_eq (mark_place rows k p) place) [
        | inl s ↦ subst (λ q. eqb (bit_at (get_or written (q / 64) 0) (q % 64)) 1 ≡ true) (sym s) set_here
        | inr n ↦ ap (λ n. eqb n 1) (kept (mark_place rows k p) n) ∙ h
      ];
      others = λ k p l m f o. ap (λ n. eqb n 1) (kept (mark_place rows k p) (λ s. apart k p l m f o s));
    }
  where
    place : ℕ
    place = mark_place rows row column

    within : place / 64 < length words
    within = mark_word-lt rows columns row column (length words) a b d e wide

    set_here : eqb (bit_at (get_or written (place / 64) 0) (place % 64)) 1 ≡ true
    set_here = rw (w, get_or-set_same words (place / 64) word 0 within, here) refl

    kept : (q : ℕ) → q ≢ place → bit_at (get_or written (q / 64) 0) (q % 64) ≡ bit_at (get_or words (q / 64) 0) (q % 64)
    kept q n = elim (cases_eq (q / 64) (place / 64)) [
      | inl s ↦
          let other : q % 64 ≢ place % 64 = λ r. n (omega (arith, s, r)) in
          rw (w, s, get_or-set_same words (place / 64) word 0 within) (others (q % 64) other)
      | inr s ↦ rw (w, get_or-set_other words (place / 64) (q / 64) word 0 s) refl
    ]

    apart : (k p : ℕ) → 1 ≤ k → k ≤ rows → 1 ≤ p → (k ≢ row) ⊎ (p ≢ column) → mark_place rows k p ≡ mark_place rows row column → ⊥
    apart k p l m f o s =
        let t : (p - 1 ≡ column - 1) × (k - 1 ≡ row - 1) = same_from_place (p - 1) (k - 1) (column - 1) (row - 1) rows (omega arith) (omega arith) s in
        elim o [ inl n ↦ n (omega arith) | inr n ↦ n (omega arith) ]
