-- Rows that are needed: without any one of them the others have a valid order.
use Rattle.std.proofs.Common.{◌≡◌, ◌≢◌, ◌∙◌, ℕ, zero, suc, ◌+◌, ◌-◌, ◌<◌, ◌≤◌, Bool, false, List, [], ◌∷◌, ◌++◌, ◌⊎◌, length, take, drop, map, get_or, IsTrue, refl, sym, ap, subst, inl, inr, arith, eq-eqb}
use Rattle.std.proofs.lemmas.Bool.{both_ways, cases_Bool, cases_eq, ne_eqb}
use Rattle.std.proofs.lemmas.List.{length-map, get_or-map, length-append, get_or_append_left, get_or-append_right, get_or-drop, drop_at, take_at, length-drop, length-take-le, take-append-drop, take-take, drop-take, take-map}
use Rattle.column_order.specs.Orders.{has, place, Keeps, IsValidOrder, HasValidOrder}
use Rattle.column_order.proofs.Lists.{has_cases, has_head, has_tail, has_append_cases, has_append_left, has_append_right, has_at, at_place}
use Rattle.row_model.specs.Graph.{row_at}
use Rattle.row_model.specs.Rows.{RowList}
use Rattle.core_text.specs.Cores.{AreRowNumbers, rows_at, but}
use Rattle.core_text.proofs.LeftOut.{but_at}
use Rattle.row_core.specs.Blamed.{rotated, marked_from, AreNeeded}

-- each number of the first list is in the second
abbrev pub AreIn : List ℕ → List ℕ → Type 0
AreIn xs ys = (k : ℕ) → IsTrue (has xs k) → IsTrue (has ys k)

-- some of the rows have the valid orders of all
pub valid_few : (c : ℕ) (rows : List (List ℕ)) (xs ys : List ℕ) (o : List ℕ) → AreIn xs ys → IsValidOrder c (rows_at rows ys) o → IsValidOrder c (rows_at rows xs) o
valid_few c rows xs ys o some h = record { order = h.order; kept = each }
  where
    each : (i : ℕ) (d : List ℕ) → i < length (rows_at rows xs) → Keeps o (get_or (rows_at rows xs) i d)
    each i d l =
        let inside : i < length xs = omega (arith, l, length-map xs (row_at rows)) in
        let there = at_place ys (get_or xs i 0) (some (get_or xs i 0) (has_at xs i inside)) in
        let at : get_or (map (row_at rows) ys) (place ys (get_or xs i 0)) [] ≡ row_at rows (get_or xs i 0) =
        get_or-map (row_at rows) ys (place ys (get_or xs i 0)) 0 [] there.0 ∙ ap (row_at rows) there.1 in
        subst (Keeps o) (at ∙ sym (get_or-map (row_at rows) xs i 0 d inside)) (h.kept (place ys (get_or xs i 0)) [] (omega (arith, there.0, length-map ys (row_at rows))))

pub some_valid_few : (c : ℕ) (rows : List (List ℕ)) (xs ys : List ℕ) → AreIn xs ys → HasValidOrder c (rows_at rows ys) → HasValidOrder c (rows_at rows xs)
some_valid_few c rows xs ys some h = (h.0, valid_few c rows xs ys h.0 some h.1)

-- what is left without k is in the list, and is not k
pub has_but : (k j : ℕ) (xs : List ℕ) → IsTrue (has (but k xs) j) → IsTrue (has xs j) × (j ≢ k)
has_but k j [] h = absurd (both_ways false refl h)
has_but k j (x ∷ xs) h = elim (cases_eq x k) [
  | inl e ↦
      let rest : IsTrue (has (but k xs) j) = rw (eq-eqb x k e) at h in
      let there = has_but k j xs rest in
      (has_tail x j xs there.0, there.1)
  | inr n ↦
      let kept : IsTrue (has (x ∷ but k xs) j) = rw (ne_eqb x k n) at h in
      elim (has_cases x j (but k xs) kept) [
        | inl e ↦ (subst (λ y. IsTrue (has (x ∷ xs) y)) e (has_head x xs), λ f. n (e ∙ f))
        | inr t ↦ let there = has_but k j xs t in (has_tail x j xs there.0, there.1)
      ]
]

-- and all that is in the list and is not k is left
pub but_has : (k j : ℕ) (xs : List ℕ) → IsTrue (has xs j) → j ≢ k → IsTrue (has (but k xs) j)
but_has k j [] h n = absurd (both_ways false refl h)
but_has k j (x ∷ xs) h n = elim (cases_eq x k) [
  | inl e ↦ rw (eq-eqb x k e) (elim (has_cases x j xs h) [
    | inl f ↦ absurd (n (sym f ∙ e))
    | inr t ↦ but_has k j xs t n
  ])
  | inr m ↦ rw (ne_eqb x k m) (elim (has_cases x j xs h) [
    | inl f ↦ subst (λ y. IsTrue (has (x ∷ but k xs) y)) f (has_head x (but k xs))
    | inr t ↦ has_tail x j (but k xs) (but_has k j xs t n)
  ])
]

pub but_in : (k : ℕ) (xs ys : List ℕ) → AreIn xs ys → AreIn (but k xs) (but k ys)
but_in k xs ys some j h = let there = has_but k j xs h in but_has k j ys (some j there.0) there.1

-- a row that is needed is needed among fewer
pub needed_few : (m : RowList) (k : ℕ) (xs ys : List ℕ) → AreIn xs ys → HasValidOrder m.columns (rows_at m.rows (but k ys)) → HasValidOrder m.columns (rows_at m.rows (but k xs))
needed_few m k xs ys some = some_valid_few m.columns m.rows (but k xs) (but k ys) (but_in k xs ys some)

-- what is marked is in the list
pub marked_in : (marks : List Bool) (i : ℕ) (set : List ℕ) → AreIn (marked_from marks i set) set
marked_in marks i [] k h = h
marked_in marks i (x ∷ set) k h = elim (cases_Bool (get_or marks i false)) [
  | inl t ↦
      let there : IsTrue (has (x ∷ marked_from marks (i + 1) set) k) = rw t at h in
      elim (has_cases x k (marked_from marks (i + 1) set) there) [
        | inl e ↦ subst (λ y. IsTrue (has (x ∷ set) y)) e (has_head x set)
        | inr later ↦ has_tail x k set (marked_in marks (i + 1) set k later)
      ]
  | inr f ↦
      let there : IsTrue (has (marked_from marks (i + 1) set) k) = rw f at h in
      has_tail x k set (marked_in marks (i + 1) set k there)
]

-- no place from b on is marked
abbrev pub AreMarkedBelow : List Bool → ℕ → Type 0
AreMarkedBelow marks b = (j : ℕ) → b ≤ j → get_or marks j false ≡ false

none_marked : (marks : List Bool) (b i : ℕ) (set : List ℕ) → AreMarkedBelow marks b → b ≤ i → marked_from marks i set ≡ []
none_marked marks b i [] none l = refl
none_marked marks b i (x ∷ set) none l = rw (none i l) (none_marked marks b (i + 1) set none (omega (arith, l)))

-- a place later in the rest is one in all
one_later : (b i x y : ℕ) (set : List ℕ) → IsTrue (has (take (b - (i + 1)) set) y) → IsTrue (has (take (b - i) (x ∷ set)) y)
one_later b i x y set h = go (b - i) refl
  where
    go : (d : ℕ) → b - i ≡ d → IsTrue (has (take d (x ∷ set)) y)
    go zero e = let none : b - (i + 1) ≡ 0 = omega (arith, e) in absurd (both_ways false refl (rw none at h))
    go (suc d) e = let less : b - (i + 1) ≡ d = omega (arith, e) in has_tail x y (take d set) (rw less at h)

-- where no place past b is marked, what is marked but the last stands before place b
before_last : (marks : List Bool) (b i y : ℕ) (set : List ℕ) → AreMarkedBelow marks (b + 1) → IsTrue (has (marked_from marks i set) y) →
    y ≢ get_or (marked_from marks i set) (length (marked_from marks i set) - 1) 0 → IsTrue (has (take (b - i) set) y)
before_last marks b i y [] none h n = absurd (both_ways false refl h)
before_last marks b i y (x ∷ set) none h n = elim (cases_Bool (get_or marks i false)) [
  | inl t ↦ taken (λ k l. before_last marks b (i + 1) y set none k l) (marked_from marks (i + 1) set) refl (rw t at h) (rw t at n)
  | inr f ↦ one_later b i x y set (before_last marks b (i + 1) y set none (rw f at h) (rw f at n))
]
  where
    taken : (IsTrue (has (marked_from marks (i + 1) set) y) → y ≢ get_or (marked_from marks (i + 1) set) (length (marked_from marks (i + 1) set) - 1) 0 → IsTrue (has (take (b - (i + 1)) set) y)) →
        (rest : List ℕ) → marked_from marks (i + 1) set ≡ rest → IsTrue (has (x ∷ rest) y) → y ≢ get_or (x ∷ rest) (length (x ∷ rest) - 1) 0 → IsTrue (has (take (b - i) (x ∷ set)) y)
    taken before [] e k l = elim (has_cases x y [] k) [
      | inl same ↦ absurd (l (sym same))
      | inr none ↦ absurd (both_ways false refl none)
    ]
    taken before (r ∷ rest) e k l = elim (has_cases x y (r ∷ rest) k) [
      | inl same ↦
          elim (b - i) as (λ d. b - i ≡ d → IsTrue (has (take d (x ∷ set)) y)) [
            | zero ↦ λ z. let past : b + 1 ≤ i + 1 = omega (arith, z) in absurd (both_empty e (none_marked marks (b + 1) (i + 1) set none past))
            | suc d ↦ λ s. subst (λ v. IsTrue (has (x ∷ take d set) v)) same (has_head x (take d set))
          ] refl
      | inr later ↦ one_later b i x y set (before (subst (λ xs. IsTrue (has xs y)) (sym e) later) (subst (λ xs. y ≢ get_or xs (length xs - 1) 0) (sym e) (rw last at l)))
    ]
      where
        last : length (x ∷ r ∷ rest) - 1 ≡ suc (length (r ∷ rest) - 1)
        last = omega arith

        both_empty : marked_from marks (i + 1) set ≡ r ∷ rest → marked_from marks (i + 1) set ≡ [] → ⊥
        both_empty p q = let none : length (r ∷ rest) ≡ 0 = ap length (sym p ∙ q) in absurd (omega (arith, none))

-- the first b of a list are the first n and those of the others
take_two : (b n : ℕ) (q : List ℕ) → n ≤ b → take n q ++ take (b - n) (drop n q) ≡ take b q
take_two b n q l =
    let e : n + (b - n) ≡ b = omega (arith, l) in
    ap (λ xs. take n q ++ xs) (sym (drop-take n (b - n) q) ∙ ap (λ k. drop n (take k q)) e) ∙ ap (λ xs. xs ++ drop n (take b q)) (sym (take-take n b q l)) ∙ take-append-drop n (take b q)

-- The list has n rows that are judged first. Where the rows before place b have a valid order, and no place past b is marked, the last
-- that is marked of the others is needed.
last_needed : (m : RowList) (marks : List Bool) (b n : ℕ) (q : List ℕ) → AreMarkedBelow marks (b + 1) → HasValidOrder m.columns (take b (rows_at m.rows q)) → 1 ≤ length (marked_from marks n (drop n q)) →
    HasValidOrder m.columns (rows_at m.rows (but (get_or (marked_from marks n (drop n q)) (length (marked_from marks n (drop n q)) - 1) 0) (marked_from marks n (drop n q) ++ take n q)))
last_needed m marks b n q none before some =
    some_valid_few m.columns m.rows (but x (marked ++ take n q)) (take b q) each (subst (HasValidOrder m.columns) (take-map (row_at m.rows) b q) before)
  where
    marked : List ℕ
    marked = marked_from marks n (drop n q)

    x : ℕ
    x = get_or marked (length marked - 1) 0

    front : n ≤ b
    front = elim (cases_less n b) [
      | inl l ↦ l
      | inr l ↦ absurd (omega (arith, some, ap length (none_marked marks (b + 1) n (drop n q) none l)))
    ]
      where
        cases_less : (n b : ℕ) → (n ≤ b) ⊎ (b + 1 ≤ n)
        cases_less n b = elim (n - b) as (λ d. n - b ≡ d → (n ≤ b) ⊎ (b + 1 ≤ n)) [
          | zero ↦ λ e. inl (omega (arith, e))
          | suc d ↦ λ e. inr (omega (arith, e))
        ] refl

    each : AreIn (but x (marked ++ take n q)) (take b q)
    each y h =
        let there = has_but x y (marked ++ take n q) h in
        subst (λ xs. IsTrue (has xs y)) (take_two b n q front)
        (elim (has_append_cases marked (take n q) y there.0) [
          | inl l ↦ has_append_right (take n q) (take (b - n) (drop n q)) y (before_last marks b n y (drop n q) none l there.1)
          | inr r ↦ has_append_left (take n q) (take (b - n) (drop n q)) y r
        ])

-- the numbers that are marked of those after the first n, and the first n, are in the rotated list
front_in : (marks : List Bool) (n : ℕ) (q : List ℕ) → AreIn (marked_from marks n (drop n q) ++ take n q) (rotated n q)
front_in marks n q y h = elim (has_append_cases (marked_from marks n (drop n q)) (take n q) y h) [
  | inl l ↦ has_append_left (drop n q) (take n q) y (marked_in marks n (drop n q) y l)
  | inr r ↦ has_append_right (drop n q) (take n q) y r
]

-- the first n stay needed, and the last that is marked of the others is needed too
pub needed_marked : (m : RowList) (marks : List Bool) (b n : ℕ) (q : List ℕ) → n ≤ length q → AreNeeded m (rotated n q) (length q - n) → AreMarkedBelow marks (b + 1) → HasValidOrder m.columns (take b (rows_at m.rows q))
    → AreNeeded m (marked_from marks n (drop n q) ++ take n q) (length (marked_from marks n (drop n q)) - 1)
needed_marked m marks b n q within needed none before i from inside = elim (cases_less i (length marked)) [
  | inl l ↦
      let last : i ≡ length marked - 1 = omega (arith, l, from) in
      let at : get_or (marked ++ take n q) i 0 ≡ get_or marked (length marked - 1) 0 = get_or_append_left marked (take n q) 0 i (omega (arith, l)) ∙ ap (λ k. get_or marked k 0) last in
      subst (λ x. HasValidOrder m.columns (rows_at m.rows (but x (marked ++ take n q)))) (sym at) (last_needed m marks b n q none before (omega (arith, l)))
  | inr u ↦
      let place : ℕ = (length q - n) + (i - length marked) in
      let size : length (drop n q) ≡ length q - n = length-drop n q in
      let here : get_or (marked ++ take n q) i 0 ≡ get_or (take n q) (i - length marked) 0 = get_or-append_right marked (take n q) (length marked) i 0 refl u in
      let back : place - (length q - n) ≡ i - length marked = omega arith in
      let there : get_or (rotated n q) place 0 ≡ get_or (take n q) (i - length marked) 0 =
      get_or-append_right (drop n q) (take n q) (length q - n) place 0 size (omega arith) ∙ ap (λ k. get_or (take n q) k 0) back in
      let fits : place < length (rotated n q) =
      omega (arith, size, u, inside, length-append (drop n q) (take n q), length-append marked (take n q), length-take-le n q within) in
      subst (λ x. HasValidOrder m.columns (rows_at m.rows (but x (marked ++ take n q)))) (there ∙ sym here)
      (needed_few m (get_or (rotated n q) place 0) (marked ++ take n q) (rotated n q) (front_in marks n q) (needed place (omega arith) fits))
]
  where
    marked : List ℕ
    marked = marked_from marks n (drop n q)

    cases_less : (i k : ℕ) → (i < k) ⊎ (k ≤ i)
    cases_less i k = elim (k - i) as (λ d. k - i ≡ d → (i < k) ⊎ (k ≤ i)) [
      | zero ↦ λ e. inr (omega (arith, e))
      | suc d ↦ λ e. inl (omega (arith, e))
    ] refl

-- what is left without the number at an index
others_in : (i : ℕ) (set : List ℕ) → AreIn (take i set ++ drop (i + 1) set) set
others_in i set k h =
    subst (λ xs. IsTrue (has xs k)) (take-append-drop i set)
    (elim (has_append_cases (take i set) (drop (i + 1) set) k h) [
      | inl f ↦ has_append_left (take i set) (drop i set) k f
      | inr f ↦ has_append_right (take i set) (drop i set) k (later i set k f)
    ])
  where
    later : (i : ℕ) (set : List ℕ) (k : ℕ) → IsTrue (has (drop (i + 1) set) k) → IsTrue (has (drop i set) k)
    later zero [] k h = h
    later zero (x ∷ set) k h = has_tail x k set h
    later (suc i) [] k h = let e : suc i + 1 ≡ suc (i + 1) = omega arith in rw e at h
    later (suc i) (x ∷ set) k h = let e : suc i + 1 ≡ suc (i + 1) = omega arith in later i set k (rw e at h)

-- rows that are needed stay so without a row before them
pub needed_others : (m : RowList) (i : ℕ) (set : List ℕ) → i < length set → AreNeeded m set (i + 1) → AreNeeded m (take i set ++ drop (i + 1) set) i
needed_others m i set l needed j from inside =
    let front : length (take i set) ≡ i = length-take-le i set (omega (arith, l)) in
    let place : i + 1 + (j - i) ≡ j + 1 = omega (arith, from) in
    let at : get_or (take i set ++ drop (i + 1) set) j 0 ≡ get_or set (j + 1) 0 =
    get_or-append_right (take i set) (drop (i + 1) set) i j 0 front from ∙ get_or-drop (i + 1) set (j - i) 0 ∙ ap (λ k. get_or set k 0) place in
    let fits : j + 1 < length set = omega (arith, inside, length-append (take i set) (drop (i + 1) set), front, length-drop (i + 1) set, l) in
    subst (λ x. HasValidOrder m.columns (rows_at m.rows (but x (take i set ++ drop (i + 1) set)))) (sym at)
    (needed_few m (get_or set (j + 1) 0) (take i set ++ drop (i + 1) set) set (others_in i set) (needed (j + 1) (omega (arith, from)) fits))

-- one row more that is needed
pub needed_more : (m : RowList) (i : ℕ) (set : List ℕ) → HasValidOrder m.columns (rows_at m.rows (but (get_or set i 0) set)) → AreNeeded m set (i + 1) → AreNeeded m set i
needed_more m i set h needed j from inside = elim (cases_eq j i) [
  | inl e ↦ subst (λ k. HasValidOrder m.columns (rows_at m.rows (but (get_or set k 0) set))) (sym e) h
  | inr n ↦ needed j (omega (arith, from, n)) inside
]

-- the others, with those after the index first, are rotated back
pub rotated_back : (i : ℕ) (set : List ℕ) → i < length set → rotated (length set - (i + 1)) (drop (i + 1) set ++ take i set) ≡ take i set ++ drop (i + 1) set
rotated_back i set l =
    let size : length (drop (i + 1) set) ≡ length set - (i + 1) = length-drop (i + 1) set in
    ap (λ xs. xs ++ take (length set - (i + 1)) (drop (i + 1) set ++ take i set)) (drop_at (drop (i + 1) set) (take i set) (length set - (i + 1)) size)
    ∙ ap (λ xs. take i set ++ xs) (take_at (drop (i + 1) set) (take i set) (length set - (i + 1)) size)

pub rotated_others : (i n : ℕ) (set list : List ℕ) → i < length set → list ≡ drop (i + 1) set ++ take i set → n ≡ length set - (i + 1) → rotated n list ≡ take i set ++ drop (i + 1) set
rotated_others i n set list l e s = ap (λ k. rotated k list) s ∙ ap (rotated (length set - (i + 1))) e ∙ rotated_back i set l

pub length-others : (i : ℕ) (set : List ℕ) → i < length set → length (take i set ++ drop (i + 1) set) + 1 ≡ length set
length-others i set l = omega (arith, length-append (take i set) (drop (i + 1) set), length-take-le i set (omega (arith, l)), length-drop (i + 1) set)

-- a row that is needed leaves an order of the others
pub needed_valid : (m : RowList) (i : ℕ) (set : List ℕ) → AreRowNumbers (length m.rows) set → i < length set → HasValidOrder m.columns (rows_at m.rows (but (get_or set i 0) set)) → HasValidOrder m.columns (rows_at m.rows (take i set ++ drop (i + 1) set))
needed_valid m i set a l h = subst (λ xs. HasValidOrder m.columns (rows_at m.rows xs)) (but_at (length m.rows) 0 set i a l) h
