-- A square of counts: spans counted where they begin, and added up.
use Rattle.std.proofs.Common.{◌≡◌, ◌≢◌, ◌∙◌, ℕ, zero, suc, ◌+◌, ◌*◌, ◌-◌, ◌<◌, ◌≤◌, cond, ◌&&◌, eqb, leb, ltb, List, [], ◌∷◌, length, get_or, set, refl, sym, ap, subst, inl, inr, arith, eq-eqb, length-set, get_or-set_same, get_or-set_other}
use Rattle.std.proofs.lemmas.Bool.{cases_eq, cases_lt, cond-false, lt-leb, le-leb, lt-ltb, le-ltb, ne_eqb, and_left, and_right}
use Rattle.std.proofs.lemmas.Nat.{same_from_place, mul-add-lt}
use Rattle.row_model.specs.declared.lists.Span.{Span}
use Rattle.others_kept.proofs.Sums.{sum_below-next}
use Rattle.others_kept.specs.Counts.{sum_below, begins, reaches, within_span}

-- an item within a list is the same whatever stands for one past the end
pub item_is : {A : Type 0} (xs : List A) (k : ℕ) (d e : A) → k < length xs → get_or xs k d ≡ get_or xs k e
item_is [] k d e l = absurd (omega (arith, l))
item_is (x ∷ xs) zero d e l = refl
item_is (x ∷ xs) (suc k) d e l = item_is xs k d e (omega arith)

-- where a span begins at no such place
begins_apart : (a b : ℕ) (span : Span) → span.first ≢ a + 1 → begins a b span ≡ 0
begins_apart a b span n = cond-false {A = ℕ} (eqb span.first (a + 1) && within_span span b) 1 0 (and_left _ _ (ne_eqb span.first (a + 1) n))

begins_here : (a b : ℕ) (span : Span) → span.first ≡ a + 1 → begins a b span ≡ cond {A = ℕ} (within_span span b) 1 0
begins_here a b span e = ap (λ t. cond {A = ℕ} (t && within_span span b) 1 0) (eq-eqb span.first (a + 1) e)

begins_before : (a b : ℕ) (span : Span) → span.last ≤ b → begins a b span ≡ 0
begins_before a b span l =
    cond-false {A = ℕ} (eqb span.first (a + 1) && within_span span b) 1 0 (and_right (eqb span.first (a + 1)) _ (and_left _ _ (le-ltb b span.last l)))

-- the span with so many places
abbrev up_to : ℕ → ℕ → Span
up_to first last = record { first = first; last = last }

begins_same : (a b first p : ℕ) → b ≢ p → begins a b (up_to first (p + 1)) ≡ begins a b (up_to first p)
begins_same a b first p n =
    ap (λ t. cond {A = ℕ} (eqb first (a + 1) && (t && leb first (b + 1))) 1 0)
    (elim (cases_lt b p) as (λ _. ltb b (p + 1) ≡ ltb b p) [
      | inl l ↦ lt-ltb b (p + 1) (omega arith) ∙ sym (lt-ltb b p l)
      | inr l ↦ le-ltb b (p + 1) (omega (arith, l, n)) ∙ sym (le-ltb b p l)
    ])

begins_one : (a first p : ℕ) → first ≡ a + 1 → first ≤ p + 1 → begins a p (up_to first (p + 1)) ≡ 1
begins_one a first p e l =
    begins_here a p (up_to first (p + 1)) e
    ∙ ap (λ t. cond {A = ℕ} (t && leb first (p + 1)) 1 0) (lt-ltb p (p + 1) (omega arith))
    ∙ ap (λ t. cond {A = ℕ} t 1 0) (le-leb first (p + 1) l)

-- a span is counted up to a place
pub record Begun (c first p : ℕ) (old now : List ℕ) : Type 0 where
  pub square : length now ≡ c * c
  pub cells : (a b : ℕ) → a < c → b < c → get_or now (a * c + b) 0 ≡ get_or old (a * c + b) 0 + begins a b (up_to first p)

pub begun_none : (c first : ℕ) (old : List ℕ) → length old ≡ c * c → 1 ≤ first → Begun c first (first - 1) old old
begun_none c first old long l = record { square = long; cells = λ a b u v. omega (arith, none a b) }
  where
    none : (a b : ℕ) → begins a b (up_to first (first - 1)) ≡ 0
    none a b =
        elim (cases_lt b (first - 1)) [
          | inl u ↦
              cond-false {A = ℕ} (eqb first (a + 1) && within_span (up_to first (first - 1)) b) 1 0
              (and_right (eqb first (a + 1)) _ (and_right (ltb b (first - 1)) _ (lt-leb first (b + 1) (omega arith))))
          | inr u ↦ begins_before a b (up_to first (first - 1)) u
        ]

pub begun_more : (c first p : ℕ) (old now : List ℕ) → 1 ≤ first → first ≤ p + 1 → p < c → Begun c first p old now
    → Begun c first (p + 1) old (set now ((first - 1) * c + p) (get_or now ((first - 1) * c + p) 0 + 1))
begun_more c first p old now from rise within h =
    let at : ℕ = (first - 1) * c + p in
    let inside : at < c * c = mul-add-lt (first - 1) c p c (omega arith) within in
    record {
      square = length-set now at (get_or now at 0 + 1) ∙ h.square;
      cells = λ a b u v. elim (cases_eq a (first - 1)) [
        | inl e ↦ elim (cases_eq b p) [
          | inl f ↦
              let same : get_or (set now at (get_or now at 0 + 1)) at 0 ≡ get_or now at 0 + 1 = get_or-set_same now at (get_or now at 0 + 1) 0 (omega (arith, inside, h.square)) in
              rw (e, f) (omega (arith, same, h.cells (first - 1) p (omega arith) within, begins_one (first - 1) first p (omega arith) rise, begins_before (first - 1) p (up_to first p) (omega arith)))
          | inr f ↦ get_or-set_other now at (a * c + b) (get_or now at 0 + 1) 0 (λ s. f (same_from_place a b (first - 1) p c v within s).1) ∙ h.cells a b u v
              ∙ ap (λ n. get_or old (a * c + b) 0 + n) (sym (begins_same a b first p f))
        ]
        | inr e ↦ get_or-set_other now at (a * c + b) (get_or now at 0 + 1) 0 (λ s. e (same_from_place a b (first - 1) p c v within s).0) ∙ h.cells a b u v
            ∙ ap (λ n. get_or old (a * c + b) 0 + n)
            (begins_apart a b (up_to first p) (λ s. e (omega (arith, s))) ∙ sym (begins_apart a b (up_to first (p + 1)) (λ s. e (omega (arith, s)))))
      ];
    }

-- one span more
pub counted_more : (n a b : ℕ) (spans : List Span) (d e : Span) (now old : ℕ) → n < length spans → now ≡ old + begins a b (get_or spans n e) → old ≡ sum_below n (λ j. begins a b (get_or spans j d))
    → now ≡ sum_below (n + 1) (λ j. begins a b (get_or spans j d))
counted_more n a b spans d e now old l h k =
    let next : sum_below (n + 1) (λ j. begins a b (get_or spans j d)) ≡ begins a b (get_or spans n d) + sum_below n (λ j. begins a b (get_or spans j d)) =
    sum_below-next (n + 1) n (λ j. begins a b (get_or spans j d)) (omega arith) in
    omega (arith, h, k, next, ap (begins a b) (item_is spans n e d l))

-- the spans that begin at a place or before
pub reaches_sum : (a b : ℕ) (span : Span) → 1 ≤ span.first → sum_below (suc a) (λ s. begins s b span) ≡ reaches a b span
reaches_sum zero b span l =
    elim (cases_eq span.first (0 + 1)) [
      | inl e ↦ omega (arith, begins_here 0 b span e, reaches_here 0 (omega (arith, e)))
      | inr n ↦ omega (arith, begins_apart 0 b span n, reaches_apart 0 (omega (arith, n)))
    ]
  where
    reaches_here : (a : ℕ) → span.first ≤ a + 1 → reaches a b span ≡ cond {A = ℕ} (within_span span b) 1 0
    reaches_here a u = ap (λ t. cond {A = ℕ} (t && within_span span b) 1 0) (le-leb span.first (a + 1) u)

    reaches_apart : (a : ℕ) → a + 1 < span.first → reaches a b span ≡ 0
    reaches_apart a u = cond-false {A = ℕ} (leb span.first (a + 1) && within_span span b) 1 0 (and_left _ _ (lt-leb span.first (a + 1) u))
reaches_sum (suc a) b span l =
    let before = reaches_sum a b span l in
    elim (cases_eq span.first (suc a + 1)) [
      | inl e ↦ omega (arith, before, begins_here (suc a) b span e, reaches_here (suc a) (omega (arith, e)), reaches_apart a (omega (arith, e)))
      | inr n ↦
          let none = begins_apart (suc a) b span n in
          elim (cases_lt span.first (suc a + 1)) [
            | inl u ↦ omega (arith, before, none, reaches_here (suc a) (omega arith), reaches_here a (omega arith))
            | inr u ↦ omega (arith, before, none, reaches_apart (suc a) (omega (arith, n)), reaches_apart a (omega (arith, n)))
          ]
    ]
  where
    reaches_here : (a : ℕ) → span.first ≤ a + 1 → reaches a b span ≡ cond {A = ℕ} (within_span span b) 1 0
    reaches_here a u = ap (λ t. cond {A = ℕ} (t && within_span span b) 1 0) (le-leb span.first (a + 1) u)

    reaches_apart : (a : ℕ) → a + 1 < span.first → reaches a b span ≡ 0
    reaches_apart a u = cond-false {A = ℕ} (leb span.first (a + 1) && within_span span b) 1 0 (and_left _ _ (lt-leb span.first (a + 1) u))

-- the counts before an index are added up
pub record AddedUp (c i : ℕ) (old now : List ℕ) : Type 0 where
  pub from : c ≤ i
  pub square : length now ≡ c * c
  pub done : (a b : ℕ) → a < c → b < c → a * c + b < i → get_or now (a * c + b) 0 ≡ sum_below (suc a) (λ s. get_or old (s * c + b) 0)
  pub rest : (a b : ℕ) → a < c → b < c → i ≤ a * c + b → get_or now (a * c + b) 0 ≡ get_or old (a * c + b) 0

pub added_none : (c : ℕ) (old : List ℕ) → length old ≡ c * c → AddedUp c c old old
added_none c old long = record { from = omega arith; square = long; done = first; rest = λ a b u v l. refl }
  where
    first : (a b : ℕ) → a < c → b < c → a * c + b < c → get_or old (a * c + b) 0 ≡ sum_below (suc a) (λ s. get_or old (s * c + b) 0)
    first zero b u v l = omega arith
    first (suc a) b u v l = absurd (omega (arith, l))

-- an index of the square is a cell
pub cell_at : (c n i : ℕ) → i < n * c → (a : ℕ) × (b : ℕ) × (a < n) × (b < c) × (a * c + b ≡ i)
cell_at c zero i l = absurd (omega (arith, l))
cell_at c (suc n) i l =
    elim (cases_lt i (n * c)) [
      | inl u ↦ let r = cell_at c n i u in (r.0, r.1, omega (arith, r.2), r.3, r.4)
      | inr u ↦ (n, i - n * c, omega arith, omega (arith, l, u), omega (arith, u))
    ]

module _ (c i : ℕ) (old now : List ℕ) (some : 1 ≤ c) (inside : i < c * c) (h : AddedUp c i old now) where
  sum_here : (a b : ℕ) → a < c → b < c → a * c + b ≡ i → get_or now i 0 + get_or now (i - c) 0 ≡ sum_below (suc a) (λ s. get_or old (s * c + b) 0)
  sum_here zero b u v e = absurd (omega (arith, e, h.from))
  sum_here (suc a) b u v e =
      let here : get_or now i 0 ≡ get_or old (suc a * c + b) 0 = subst (λ k. get_or now k 0 ≡ get_or old (suc a * c + b) 0) e (h.rest (suc a) b u v (omega (arith, e))) in
      let above : a * c + b ≡ i - c = omega (arith, e) in
      let there : get_or now (i - c) 0 ≡ sum_below (suc a) (λ s. get_or old (s * c + b) 0) =
      subst (λ k. get_or now k 0 ≡ sum_below (suc a) (λ s. get_or old (s * c + b) 0)) above (h.done a b (omega arith) v (omega (arith, e))) in
      omega (arith, here, there)

  pub added_few : (n : ℕ) → ((a b : ℕ) → a < c → b < c → sum_below (suc a) (λ s. get_or old (s * c + b) 0) ≤ n) → get_or now i 0 + get_or now (i - c) 0 ≤ n
  added_few n few =
      let r = cell_at c c i inside in
      omega (arith, sum_here r.0 r.1 r.2 r.3 r.4, few r.0 r.1 r.2 r.3)

  pub added_more : AddedUp c (i + 1) old (set now i (get_or now i 0 + get_or now (i - c) 0))
  added_more =
      let v : ℕ = get_or now i 0 + get_or now (i - c) 0 in
      record {
        from = omega (arith, h.from);
        square = length-set now i v ∙ h.square;
        done = λ a b u w l. elim (cases_eq (a * c + b) i) [
          | inl e ↦ ap (λ k. get_or (set now i v) k 0) e ∙ get_or-set_same now i v 0 (omega (arith, inside, h.square)) ∙ sum_here a b u w e
          | inr n ↦ get_or-set_other now i (a * c + b) v 0 n ∙ h.done a b u w (omega (arith, l, n))
        ];
        rest = λ a b u w l.
            let n : a * c + b ≢ i = omega (arith, l) in
            get_or-set_other now i (a * c + b) v 0 n ∙ h.rest a b u w (omega (arith, l));
      }
