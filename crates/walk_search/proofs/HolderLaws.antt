-- The lists of the rows that have each column, as they grow.
use Rattle.std.proofs.Common.{◌≡◌, ◌≢◌, ◌∙◌, take, drop, sum_by, ℕ, ◌+◌, ◌-◌, ◌<◌, ◌≤◌, Vec, Global, List, [], ◌∷◌, ◌++◌, length, map, set, replicate, get_or, slice_get, Some, IsTrue, sym, ap, subst, inl, inr, arith, length-drop, get_or-set_same, get_or-set_other}
use Rattle.std.proofs.lemmas.Bool.{cases_eq, cases_lt}
use Rattle.std.proofs.lemmas.List.Sums.{sum_by-set, sum_by-take-le, sum_by-take-drop}
use Rattle.std.proofs.lemmas.List.Folds.{sum_by-replicate}
use Rattle.std.proofs.lemmas.List.{length-append, take-take, drop-take, length-set, length-replicate, get_or-replicate, get_or-map, get_or-drop, get_or_past}
use Rattle.std.proofs.lemmas.Option.{none-some, same_Some, slice_get_within, slice_get-get_or}
use Rattle.column_order.specs.Orders.{has}
use Rattle.row_model.specs.Graph.{row_at}
use Rattle.row_model.specs.Rows.{RowList}
use Rattle.walk_search.specs.Holders.{holders_of, AreHolders}
use Rattle.odd_cycle.proofs.Items.{item_pushed, item_last, item_append, has_item, item_of}

-- the lists within the vectors
abbrev pub lists_of : List (Vec ℕ Global) → List (List ℕ)
lists_of holders = map (λ list. list.items) holders

-- so far the rows up to k stand in the lists, and the next row in those of its first columns
pub record HoldersSoFar (m : RowList) (k : ℕ) (row : List ℕ) (done : ℕ) (lists : List (List ℕ)) : Type 0 where
  pub columns : length lists ≡ m.columns
  pub sound : (column i r : ℕ) → 1 ≤ column → slice_get (holders_of lists column) i ≡ Some r → (1 ≤ r) × (r ≤ k + 1) × IsTrue (has (row_at m.rows r) column)
  pub whole : (column r : ℕ) → 1 ≤ column → column ≤ m.columns → 1 ≤ r → r ≤ k → IsTrue (has (row_at m.rows r) column) → (i : ℕ) × (slice_get (holders_of lists column) i ≡ Some r)
  pub once : sum_by length lists ≤ sum_by length (take k m.rows) + done
  pub next : (j column : ℕ) → j < done → slice_get row j ≡ Some column → (1 ≤ column) × ((i : ℕ) × (slice_get (holders_of lists column) i ≡ Some (k + 1)))

empty_at : (c n : ℕ) → get_or (replicate {A = List ℕ} c []) n [] ≡ []
empty_at c n =
    let none : List ℕ = [] in
    elim (cases_lt n c) [
      | inl l ↦ get_or-replicate c n none none l
      | inr l ↦ get_or_past (replicate c none) n none (omega (arith, length-replicate c none))
    ]

pub holders_none : (m : RowList) (lists : List (List ℕ)) → lists ≡ replicate m.columns [] → AreHolders m 0 lists
holders_none m lists e =
    let none : List ℕ = [] in
    let empty : (column : ℕ) → holders_of lists column ≡ [] = λ column. ap (λ ls. get_or ls (column - 1) []) e ∙ empty_at m.columns (column - 1) in
    record {
      columns = ap length e ∙ length-replicate m.columns none;
      sound = λ column i r l h. absurd (none-some r (sym (ap (λ list. slice_get list i) (empty column)) ∙ h));
      whole = λ column r a b d f. absurd (omega arith);
      once = omega (arith, ap (sum_by length) e ∙ sum_by-replicate length m.columns none);
    }

pub holders_begin : (m : RowList) (k : ℕ) (row : List ℕ) (lists : List (List ℕ)) → AreHolders m k lists → HoldersSoFar m k row 0 lists
holders_begin m k row lists h =
    record {
      columns = h.columns;
      sound = λ column i r l e. (let s = h.sound column i r l e in (s.0, omega (arith, s.1), s.2));
      whole = h.whole;
      once = omega (arith, h.once);
      next = λ j column l e. absurd (omega arith);
    }

pub holders_end : (m : RowList) (k : ℕ) (row : List ℕ) (lists : List (List ℕ)) → row ≡ row_at m.rows (k + 1) → sum_by length (take (k + 1) m.rows) ≡ sum_by length (take k m.rows) + length row →
    HoldersSoFar m k row (length row) lists → AreHolders m (k + 1) lists
holders_end m k row lists is ones h =
    record {
      columns = h.columns;
      sound = h.sound;
      once = omega (arith, ones, h.once);
      whole = λ column r a b d f t. elim (cases_eq r (k + 1)) [
        | inl e ↦
            let i = item_of row column (subst (λ ys. IsTrue (has ys column)) (ap (row_at m.rows) e ∙ sym is) t) in
            let found = h.next i.0 column (slice_get_within row i.0 column i.1) i.1 in
            (found.1.0, found.1.1 ∙ ap Some (sym e))
        | inr n ↦ h.whole column r a b d (omega arith) t
      ];
    }

module _ (m : RowList) (k : ℕ) (row : List ℕ) (done : ℕ) (lists lists' : List (List ℕ)) (column : ℕ) (is : row ≡ row_at m.rows (k + 1)) (h : HoldersSoFar m k row done lists) (at : slice_get row done ≡ Some column)
    (from : 1 ≤ column) (to : column ≤ length lists) (e : lists' ≡ set lists (column - 1) (holders_of lists column ++ (k + 1) ∷ [])) where
  here : holders_of lists' column ≡ holders_of lists column ++ (k + 1) ∷ []
  here = ap (λ ls. get_or ls (column - 1) []) e ∙ get_or-set_same lists (column - 1) (holders_of lists column ++ (k + 1) ∷ []) [] (omega arith)

  elsewhere : (q : ℕ) → 1 ≤ q → q ≢ column → holders_of lists' q ≡ holders_of lists q
  elsewhere q l n = ap (λ ls. get_or ls (q - 1) []) e ∙ get_or-set_other lists (column - 1) (q - 1) (holders_of lists column ++ (k + 1) ∷ []) [] (omega arith)

  stays : (q i r : ℕ) → 1 ≤ q → slice_get (holders_of lists q) i ≡ Some r → slice_get (holders_of lists' q) i ≡ Some r
  stays q i r l f =
      elim (cases_eq q column) [
        | inl s ↦
            let g : slice_get (holders_of lists column) i ≡ Some r = subst (λ c. slice_get (holders_of lists c) i ≡ Some r) s f in
            subst (λ c. slice_get (holders_of lists' c) i ≡ Some r) (sym s) (ap (λ list. slice_get list i) here ∙ item_append (holders_of lists column) ((k + 1) ∷ []) i r g)
        | inr n ↦ ap (λ list. slice_get list i) (elsewhere q l n) ∙ f
      ]

  pub holders_more : HoldersSoFar m k row (done + 1) lists'
  holders_more =
      record {
        columns = ap length e ∙ length-set lists (column - 1) (holders_of lists column ++ (k + 1) ∷ []) ∙ h.columns;
        sound = λ q i r l f. elim (cases_eq q column) [
          | inl s ↦
              let g : slice_get (holders_of lists column ++ (k + 1) ∷ []) i ≡ Some r = sym (ap (λ list. slice_get list i) here) ∙ subst (λ c. slice_get (holders_of lists' c) i ≡ Some r) s f in
              subst (λ c. (1 ≤ r) × (r ≤ k + 1) × IsTrue (has (row_at m.rows r) c)) (sym s) (elim (item_pushed (holders_of lists column) (k + 1) i r g) [
                | inl t ↦ h.sound column i r from t
                | inr t ↦ subst (λ x. (1 ≤ x) × (x ≤ k + 1) × IsTrue (has (row_at m.rows x) column)) t.1 (omega arith, omega arith, subst (λ ys. IsTrue (has ys column)) is (has_item row done column at))
              ])
          | inr n ↦ h.sound q i r l (sym (ap (λ list. slice_get list i) (elsewhere q l n)) ∙ f)
        ];
        once = omega (
          arith,
          ap (sum_by length) e,
          sum_by-set length lists (column - 1) (holders_of lists column ++ (k + 1) ∷ []) [] (omega arith),
          length-append (holders_of lists column) ((k + 1) ∷ []),
          h.once,
        );
        whole = λ q r a b d f t. (let found = h.whole q r a b d f t in (found.0, stays q found.0 r a found.1));
        next = λ j q l f. elim (cases_eq j done) [
          | inl s ↦
              let same : q ≡ column = same_Some q column (sym f ∙ ap (slice_get row) s ∙ at) in
              (omega (arith, same), (length (holders_of lists column), subst (λ c. slice_get (holders_of lists' c) (length (holders_of lists column)) ≡ Some (k + 1)) (sym same) (ap (λ list. slice_get list (length (holders_of lists column))) here ∙ item_last (holders_of lists column) (k + 1))))
          | inr n ↦
              let found = h.next j q (omega arith) f in
              (found.0, (found.1.0, stays q found.1.0 (k + 1) found.0 found.1.1))
        ];
      }

-- the ones of fewer rows
pub ones_part : (rows : List (List ℕ)) (k n : ℕ) → k ≤ n → sum_by length (take k rows) ≤ sum_by length (take n rows)
ones_part rows k n l = subst (λ front. sum_by length front ≤ sum_by length (take n rows)) (take-take k n rows l) (sum_by-take-le length (take n rows) k)

-- the ones of the first rows and those of the next ones
pub ones_split : (rows : List (List ℕ)) (n k : ℕ) → sum_by length (take n rows) + sum_by length (take k (drop n rows)) ≡ sum_by length (take (n + k) rows)
ones_split rows n k =
    let front : take n (take (n + k) rows) ≡ take n rows = take-take n (n + k) rows (omega arith) in
    let back : drop n (take (n + k) rows) ≡ take k (drop n rows) = drop-take n k rows in
    omega (arith, sum_by-take-drop length (take (n + k) rows) n, ap (sum_by length) front, ap (sum_by length) back)

-- the list at a place
pub holder_at : (holders : List (Vec ℕ Global)) (i : ℕ) (list : Vec ℕ Global) → i < length holders → list ≡ get_or holders i list → get_or (lists_of holders) i [] ≡ list.items
holder_at holders i list l e = get_or-map (λ (x : Vec ℕ Global). x.items) holders i list [] l ∙ ap (λ (x : Vec ℕ Global). x.items) (sym e)

-- a row after the first ones
pub further_same : (rows : List (List ℕ)) (first k n : ℕ) → 1 ≤ k → n ≡ first + k → row_at (drop first rows) k ≡ row_at rows n
further_same rows first k n a e =
    let i : first + (k - 1) ≡ n - 1 = omega arith in
    get_or-drop first rows (k - 1) [] ∙ ap (λ i. get_or rows i []) i

-- a column of it
pub further_member : (rows : List (List ℕ)) (first k n i column : ℕ) → 1 ≤ k → n ≡ first + k → slice_get (row_at rows n) i ≡ Some column → slice_get (row_at (drop first rows) k) i ≡ Some column
further_member rows first k n i column a e at =
    ap (λ (row : List ℕ). slice_get row i) (further_same rows first k n a e) ∙ at

-- it is there
pub further_there : (rows : List (List ℕ)) (first k : ℕ) → first + k < length rows → slice_get (drop first rows) (k + 1 - 1) ≡ Some (row_at (drop first rows) (k + 1))
further_there rows first k l = slice_get-get_or (drop first rows) (k + 1 - 1) [] (omega (arith, length-drop first rows))
