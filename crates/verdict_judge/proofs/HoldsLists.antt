-- What a row has and misses of lists of columns, and the lists that keep it.
use Rattle.std.proofs.Common.{◌≡◌, ◌⊎◌, ◌∙◌, ℕ, zero, suc, ◌+◌, ◌-◌, ◌<◌, ◌≤◌, Bool, true, false, not, ◌||◌, ltb, List, [], ◌∷◌, ◌++◌, length, length-append, reverse, get_or, IsTrue, IsFalse, refl, sym, ap, subst, inl, inr, arith, append_assoc}
use Rattle.std.proofs.lemmas.Bool.{cases_Bool, cases_lt, both_ways, not-true, or_cases, or_left, or_right, or_from, false_from_ne_true}
use Rattle.std.proofs.lemmas.List.{reverse-append, get_or_append_left, get_or-append-add}
use Rattle.column_order.specs.Orders.{has, occurs, Keeps}
use Rattle.column_order.proofs.Lists.{has_cases, has_head, has_tail, has-occurs, has_append_left, has_append_right, occurs-append, apart}
use Rattle.pq_tree.specs.Nodes.{meets}
use Rattle.verdict_judge.specs.HoldsWalk.{misses}

pub has_same : (xs ys : List ℕ) (a : ℕ) → occurs xs a ≡ occurs ys a → has xs a ≡ has ys a
has_same xs ys a e = has-occurs xs a ∙ ap (ltb 0) e ∙ sym (has-occurs ys a)

-- whether one of the columns passes a test
abbrev some : (ℕ → Bool) → List ℕ → Bool
some q [] = false
some q (a ∷ xs) = q a || some q xs

some-append : (q : ℕ → Bool) (xs ys : List ℕ) → some q (xs ++ ys) ≡ (some q xs || some q ys)
some-append q [] ys = refl
some-append q (x ∷ xs) ys = elim (q x) as (λ b. (b || some q (xs ++ ys)) ≡ ((b || some q xs) || some q ys)) [ true ↦ refl | false ↦ some-append q xs ys ]

some_has : (q : ℕ → Bool) (xs : List ℕ) (a : ℕ) → IsTrue (has xs a) → IsTrue (q a) → IsTrue (some q xs)
some_has q [] a h k = absurd (both_ways false refl h)
some_has q (x ∷ xs) a h k =
    elim (has_cases x a xs h) [
      | inl e ↦ or_left (q x) (some q xs) (ap q e ∙ k)
      | inr t ↦ or_right (q x) (some q xs) (some_has q xs a t k)
    ]

some_reverse : (q : ℕ → Bool) (xs : List ℕ) → IsTrue (some q xs) → IsTrue (some q (reverse xs))
some_reverse q [] h = h
some_reverse q (x ∷ xs) h =
    let k : IsTrue (some q (reverse xs) || some q (x ∷ [])) =
    elim (or_cases (q x) (some q xs) h) [
      | inl k ↦ or_right (some q (reverse xs)) (some q (x ∷ [])) (or_left (q x) false k)
      | inr k ↦ or_left (some q (reverse xs)) (some q (x ∷ [])) (some_reverse q xs k)
    ] in
    ap (some q) (reverse-append (x ∷ []) xs) ∙ some-append q (reverse xs) (x ∷ []) ∙ k

-- a column that passes, with its position
record Passing (q : ℕ → Bool) (xs : List ℕ) : Type 0 where
  column : ℕ
  within : IsTrue (has xs column)
  passes : IsTrue (q column)
  position : ℕ
  below : position < length xs
  there : get_or xs position 0 ≡ column

passing : (q : ℕ → Bool) (xs : List ℕ) → IsTrue (some q xs) → Passing q xs
passing q [] h = absurd (both_ways false refl h)
passing q (x ∷ xs) h =
    elim (or_cases (q x) (some q xs) h) [
      | inl k ↦ record { column = x; within = has_head x xs; passes = k; position = zero; below = omega arith; there = refl }
      | inr k ↦
          let r : Passing q xs = passing q xs k in
          record {
            column = r.column;
            within = has_tail x r.column xs r.within;
            passes = r.passes;
            position = suc r.position;
            below = omega (arith, r.below);
            there = r.there;
          }
    ]

-- a column that the row does not have
abbrev lacks : List ℕ → ℕ → Bool
lacks row a = not (has row a)

pub meets-append : (row xs ys : List ℕ) → meets row (xs ++ ys) ≡ (meets row xs || meets row ys)
meets-append row xs ys = some-append (has row) xs ys

pub misses-append : (row xs ys : List ℕ) → misses row (xs ++ ys) ≡ (misses row xs || misses row ys)
misses-append row xs ys = some-append (lacks row) xs ys

pub meets_has : (row xs : List ℕ) (a : ℕ) → IsTrue (has xs a) → IsTrue (has row a) → IsTrue (meets row xs)
meets_has row xs a h k = some_has (has row) xs a h k

pub misses_has : (row xs : List ℕ) (a : ℕ) → IsTrue (has xs a) → IsFalse (has row a) → IsTrue (misses row xs)
misses_has row xs a h k = some_has (lacks row) xs a h (ap not k)

pub none_has : (row xs : List ℕ) (a : ℕ) → IsFalse (meets row xs) → IsTrue (has xs a) → IsFalse (has row a)
none_has row xs a n h = false_from_ne_true (has row a) (λ k. both_ways (meets row xs) n (meets_has row xs a h k))

pub all_has : (row xs : List ℕ) (a : ℕ) → IsFalse (misses row xs) → IsTrue (has xs a) → IsTrue (has row a)
all_has row xs a n h = elim (cases_Bool (has row a)) [ inl k ↦ k | inr k ↦ absurd (both_ways (misses row xs) n (misses_has row xs a h k)) ]

pub meets_same : (row xs ys : List ℕ) → ((a : ℕ) → has xs a ≡ has ys a) → IsTrue (meets row xs) → IsTrue (meets row ys)
meets_same row xs ys e h = let r : Passing (has row) xs = passing (has row) xs h in meets_has row ys r.column (sym (e r.column) ∙ r.within) r.passes

pub meets_left : (row xs ys : List ℕ) → IsTrue (meets row xs) → IsTrue (meets row (xs ++ ys))
meets_left row xs ys h = meets-append row xs ys ∙ or_left (meets row xs) (meets row ys) h

pub meets_right : (row xs ys : List ℕ) → IsTrue (meets row ys) → IsTrue (meets row (xs ++ ys))
meets_right row xs ys h = meets-append row xs ys ∙ or_right (meets row xs) (meets row ys) h

pub misses_left : (row xs ys : List ℕ) → IsTrue (misses row xs) → IsTrue (misses row (xs ++ ys))
misses_left row xs ys h = misses-append row xs ys ∙ or_left (misses row xs) (misses row ys) h

pub misses_right : (row xs ys : List ℕ) → IsTrue (misses row ys) → IsTrue (misses row (xs ++ ys))
misses_right row xs ys h = misses-append row xs ys ∙ or_right (misses row xs) (misses row ys) h

pub meets_cases : (row xs ys : List ℕ) → IsTrue (meets row (xs ++ ys)) → IsTrue (meets row xs) ⊎ IsTrue (meets row ys)
meets_cases row xs ys h = or_cases (meets row xs) (meets row ys) (sym (meets-append row xs ys) ∙ h)

pub misses_cases : (row xs ys : List ℕ) → IsTrue (misses row (xs ++ ys)) → IsTrue (misses row xs) ⊎ IsTrue (misses row ys)
misses_cases row xs ys h = or_cases (misses row xs) (misses row ys) (sym (misses-append row xs ys) ∙ h)

pub none_append : (row xs ys : List ℕ) → IsFalse (meets row xs) → IsFalse (meets row ys) → IsFalse (meets row (xs ++ ys))
none_append row xs ys h k = meets-append row xs ys ∙ or_from (meets row xs) (meets row ys) h k

pub all_append : (row xs ys : List ℕ) → IsFalse (misses row xs) → IsFalse (misses row ys) → IsFalse (misses row (xs ++ ys))
all_append row xs ys h k = misses-append row xs ys ∙ or_from (misses row xs) (misses row ys) h k

-- a list of two parts
pub record Halves (A B : List ℕ → Type 0) (f : List ℕ) : Type 0 where
  pub front : List ℕ
  pub rest : List ℕ
  pub parts : f ≡ front ++ rest
  pub front_is : A front
  pub rest_is : B rest

-- a list of three parts
pub record Thirds (A B C : List ℕ → Type 0) (f : List ℕ) : Type 0 where
  pub front : List ℕ
  pub middle : List ℕ
  pub rest : List ℕ
  pub parts : f ≡ front ++ (middle ++ rest)
  pub front_is : A front
  pub middle_is : B middle
  pub rest_is : C rest

-- more behind the three parts, or before them
pub thirds_left : (A B C : List ℕ → Type 0) (f g : List ℕ) → ((xs : List ℕ) → C xs → C (xs ++ g)) → Thirds A B C f → Thirds A B C (f ++ g)
thirds_left A B C f g more t =
    record {
      front = t.front;
      middle = t.middle;
      rest = t.rest ++ g;
      parts = ap (λ x. x ++ g) t.parts ∙ append_assoc t.front (t.middle ++ t.rest) g ∙ ap (λ x. t.front ++ x) (append_assoc t.middle t.rest g);
      front_is = t.front_is;
      middle_is = t.middle_is;
      rest_is = more t.rest t.rest_is;
    }

pub thirds_right : (A B C : List ℕ → Type 0) (f g : List ℕ) → ((xs : List ℕ) → A xs → A (f ++ xs)) → Thirds A B C g → Thirds A B C (f ++ g)
thirds_right A B C f g more t =
    record {
      front = f ++ t.front;
      middle = t.middle;
      rest = t.rest;
      parts = ap (λ x. f ++ x) t.parts ∙ sym (append_assoc f t.front (t.middle ++ t.rest));
      front_is = more t.front t.front_is;
      middle_is = t.middle_is;
      rest_is = t.rest_is;
    }

-- what the row has of a part
abbrev pub Meets : List ℕ → List ℕ → Type 0
Meets row xs = IsTrue (meets row xs)

abbrev pub Misses : List ℕ → List ℕ → Type 0
Misses row xs = IsTrue (misses row xs)

-- a column that the row misses stands before one that it has
abbrev pub Rises : List ℕ → List ℕ → Type 0
Rises row f = Halves (Misses row) (Meets row) f

-- a column that the row has stands before one that it misses
abbrev pub Falls : List ℕ → List ℕ → Type 0
Falls row f = Halves (Meets row) (Misses row) f

-- a column that the row misses stands between two that it has
abbrev pub Breaks : List ℕ → List ℕ → Type 0
Breaks row f = Thirds (Meets row) (Misses row) (Meets row) f

-- the columns that the row has stand together
abbrev pub Whole : List ℕ → List ℕ → Type 0
Whole row f = Thirds (λ xs. IsFalse (meets row xs)) (λ xs. IsFalse (misses row xs)) (λ xs. IsFalse (meets row xs)) f

pub mixed : (row f : List ℕ) → IsTrue (meets row f) → IsTrue (misses row f) → Rises row f ⊎ Falls row f
mixed row [] h k = absurd (both_ways false refl h)
mixed row (x ∷ xs) h k =
    elim (cases_Bool (has row x)) [
      | inl y ↦
          let m : IsTrue (misses row xs) =
          elim (or_cases (not (has row x)) (misses row xs) k) [ inl n ↦ absurd (both_ways (has row x) (not-true (has row x) n) y) | inr m ↦ m ] in
          inr (record { front = x ∷ []; rest = xs; parts = refl; front_is = or_left (has row x) false y; rest_is = m })
      | inr n ↦
          let m : IsTrue (meets row xs) =
          elim (or_cases (has row x) (meets row xs) h) [ inl y ↦ absurd (both_ways (has row x) n y) | inr m ↦ m ] in
          inl (record { front = x ∷ []; rest = xs; parts = refl; front_is = or_left (not (has row x)) false (ap not n); rest_is = m })
    ]

halves_turned : (A B : List ℕ → Type 0) (f : List ℕ) → ((xs : List ℕ) → A xs → A (reverse xs)) → ((xs : List ℕ) → B xs → B (reverse xs)) → Halves A B f → Halves B A (reverse f)
halves_turned A B f a b h =
    record {
      front = reverse h.rest;
      rest = reverse h.front;
      parts = ap reverse h.parts ∙ reverse-append h.front h.rest;
      front_is = b h.rest h.rest_is;
      rest_is = a h.front h.front_is;
    }

pub rises_turned : (row f : List ℕ) → Rises row f → Falls row (reverse f)
rises_turned row f r = halves_turned (Misses row) (Meets row) f (some_reverse (lacks row)) (some_reverse (has row)) r

pub falls_turned : (row f : List ℕ) → Falls row f → Rises row (reverse f)
falls_turned row f r = halves_turned (Meets row) (Misses row) f (some_reverse (has row)) (some_reverse (lacks row)) r

pub rises_from : (row f g : List ℕ) → IsTrue (misses row f) → IsTrue (meets row g) → Rises row (f ++ g)
rises_from row f g h k = record { front = f; rest = g; parts = refl; front_is = h; rest_is = k }

pub rises_left : (row f g : List ℕ) → Rises row f → Rises row (f ++ g)
rises_left row f g r =
    record {
      front = r.front;
      rest = r.rest ++ g;
      parts = ap (λ x. x ++ g) r.parts ∙ append_assoc r.front r.rest g;
      front_is = r.front_is;
      rest_is = meets_left row r.rest g r.rest_is;
    }

pub rises_right : (row f g : List ℕ) → Rises row g → Rises row (f ++ g)
rises_right row f g r =
    record {
      front = f ++ r.front;
      rest = r.rest;
      parts = ap (λ x. f ++ x) r.parts ∙ sym (append_assoc f r.front r.rest);
      front_is = misses_right row f r.front r.front_is;
      rest_is = r.rest_is;
    }

pub falls_then : (row f g : List ℕ) → Falls row f → IsTrue (meets row g) → Breaks row (f ++ g)
falls_then row f g r k =
    record {
      front = r.front;
      middle = r.rest;
      rest = g;
      parts = ap (λ x. x ++ g) r.parts ∙ append_assoc r.front r.rest g;
      front_is = r.front_is;
      middle_is = r.rest_is;
      rest_is = k;
    }

pub then_rises : (row f g : List ℕ) → IsTrue (meets row f) → Rises row g → Breaks row (f ++ g)
then_rises row f g k r =
    record {
      front = f;
      middle = r.front;
      rest = r.rest;
      parts = ap (λ x. f ++ x) r.parts;
      front_is = k;
      middle_is = r.front_is;
      rest_is = r.rest_is;
    }

pub breaks_left : (row f g : List ℕ) → Breaks row f → Breaks row (f ++ g)
breaks_left row f g b = thirds_left (Meets row) (Misses row) (Meets row) f g (λ xs h. meets_left row xs g h) b

pub breaks_right : (row f g : List ℕ) → Breaks row g → Breaks row (f ++ g)
breaks_right row f g b = thirds_right (Meets row) (Misses row) (Meets row) f g (λ xs h. meets_right row f xs h) b

-- the column at a position of three lists joined
at_front : (xs ys zs : List ℕ) (i : ℕ) → i < length xs → get_or (xs ++ (ys ++ zs)) i 0 ≡ get_or xs i 0
at_front xs ys zs i h = get_or_append_left xs (ys ++ zs) 0 i h

at_middle : (xs ys zs : List ℕ) (i : ℕ) → i < length ys → get_or (xs ++ (ys ++ zs)) (length xs + i) 0 ≡ get_or ys i 0
at_middle xs ys zs i h = get_or-append-add xs (ys ++ zs) i 0 ∙ get_or_append_left ys zs 0 i h

at_rest : (xs ys zs : List ℕ) (i : ℕ) → get_or (xs ++ (ys ++ zs)) (length xs + (length ys + i)) 0 ≡ get_or zs i 0
at_rest xs ys zs i = get_or-append-add xs (ys ++ zs) (length ys + i) 0 ∙ get_or-append-add ys zs i 0

three_long : (xs ys zs : List ℕ) → length (xs ++ (ys ++ zs)) ≡ length xs + (length ys + length zs)
three_long xs ys zs = omega (arith, length-append xs (ys ++ zs), length-append ys zs)

broken : (row xs ys zs : List ℕ) → IsTrue (meets row xs) → IsTrue (misses row ys) → IsTrue (meets row zs) → Keeps (xs ++ (ys ++ zs)) row → ⊥
broken row xs ys zs h k l keeps =
    let a : Passing (has row) xs = passing (has row) xs h in
    let b : Passing (lacks row) ys = passing (lacks row) ys k in
    let d : Passing (has row) zs = passing (has row) zs l in
    let first : IsTrue (has row (get_or (xs ++ (ys ++ zs)) a.position 0)) = ap (has row) (at_front xs ys zs a.position a.below ∙ a.there) ∙ a.passes in
    let last : IsTrue (has row (get_or (xs ++ (ys ++ zs)) (length xs + (length ys + d.position)) 0)) = ap (has row) (at_rest xs ys zs d.position ∙ d.there) ∙ d.passes in
    let middle : IsTrue (has row (get_or (xs ++ (ys ++ zs)) (length xs + b.position) 0)) =
    keeps a.position (length xs + b.position) (length xs + (length ys + d.position)) (omega (arith, a.below)) (omega (arith, b.below)) (omega (arith, d.below, three_long xs ys zs)) first last in
    both_ways (has row b.column) (not-true (has row b.column) b.passes) (sym (ap (has row) (at_middle xs ys zs b.position b.below ∙ b.there)) ∙ middle)

pub breaks_not_keeps : (row o : List ℕ) → Breaks row o → Keeps o row → ⊥
breaks_not_keeps row o b keeps =
    broken row b.front b.middle b.rest b.front_is b.middle_is b.rest_is (subst (λ x. Keeps x row) b.parts keeps)

at_has : (xs : List ℕ) (i : ℕ) → i < length xs → IsTrue (has xs (get_or xs i 0))
at_has [] i h = absurd (omega arith)
at_has (x ∷ xs) zero h = has_head x xs
at_has (x ∷ xs) (suc i) h = has_tail x (get_or xs i 0) xs (at_has xs i (omega arith))

past_front : (row xs ys zs : List ℕ) (i : ℕ) → IsFalse (meets row xs) → IsTrue (has row (get_or (xs ++ (ys ++ zs)) i 0)) → length xs ≤ i
past_front row xs ys zs i n h =
    elim (cases_lt i (length xs)) [
      | inl l ↦
          absurd (both_ways (has row (get_or xs i 0)) (none_has row xs (get_or xs i 0) n (at_has xs i l)) (sym (ap (has row) (at_front xs ys zs i l)) ∙ h))
      | inr l ↦ l
    ]

before_rest : (row xs ys zs : List ℕ) (i : ℕ) → i < length (xs ++ (ys ++ zs)) → IsFalse (meets row zs) → IsTrue (has row (get_or (xs ++ (ys ++ zs)) i 0)) → i < length xs + length ys
before_rest row xs ys zs i inside n h =
    elim (cases_lt i (length xs + length ys)) [
      | inl l ↦ l
      | inr l ↦
          let m : ℕ = i - (length xs + length ys) in
          let e : i ≡ length xs + (length ys + m) = omega arith in
          let k : m < length zs = omega (arith, three_long xs ys zs) in
          let there : get_or (xs ++ (ys ++ zs)) i 0 ≡ get_or zs m 0 = ap (λ x. get_or (xs ++ (ys ++ zs)) x 0) e ∙ at_rest xs ys zs m in
          absurd (both_ways (has row (get_or zs m 0)) (none_has row zs (get_or zs m 0) n (at_has zs m k)) (sym (ap (has row) there) ∙ h))
    ]

kept : (row xs ys zs : List ℕ) → IsFalse (meets row xs) → IsFalse (misses row ys) → IsFalse (meets row zs) → Keeps (xs ++ (ys ++ zs)) row
kept row xs ys zs no_xs all_ys no_zs i j k ij jk inside first last =
    let from : length xs ≤ i = past_front row xs ys zs i no_xs first in
    let to : k < length xs + length ys = before_rest row xs ys zs k inside no_zs last in
    let m : ℕ = j - length xs in
    let e : j ≡ length xs + m = omega arith in
    let l : m < length ys = omega arith in
    let there : get_or (xs ++ (ys ++ zs)) j 0 ≡ get_or ys m 0 = ap (λ x. get_or (xs ++ (ys ++ zs)) x 0) e ∙ at_middle xs ys zs m l in
    ap (has row) there ∙ all_has row ys (get_or ys m 0) all_ys (at_has ys m l)

pub whole_keeps : (row o : List ℕ) → Whole row o → Keeps o row
whole_keeps row o w = subst (λ x. Keeps x row) (sym w.parts) (kept row w.front w.middle w.rest w.front_is w.middle_is w.rest_is)

-- a list of which the row has no column
pub none_whole : (row f : List ℕ) → IsFalse (meets row f) → Whole row f
none_whole row f n = record { front = []; middle = []; rest = f; parts = refl; front_is = refl; middle_is = refl; rest_is = n }

-- whatever stands there
abbrev pub Any : List ℕ → Type 0
Any xs = Unit {0}

-- a part of the list whose columns are xs
abbrev pub Segment : List ℕ → List ℕ → Type 0
Segment f xs = Thirds Any (λ ys. (a : ℕ) → has ys a ≡ has xs a) Any f

segment_of : (row us vs ws xs : List ℕ) → ((a : ℕ) → occurs (us ++ (vs ++ ws)) a ≤ 1) → ((a : ℕ) → IsTrue (has (us ++ (vs ++ ws)) a) → has row a ≡ has xs a) → ((a : ℕ) → has vs a ≡ has xs a) → Whole row (us ++ (vs ++ ws))
segment_of row us vs ws xs once same part =
    record {
      front = us;
      middle = vs;
      rest = ws;
      parts = refl;
      front_is =
          false_from_ne_true (meets row us) (λ h.
          let m : Passing (has row) us = passing (has row) us h in
          let inside : IsTrue (has vs m.column) = part m.column ∙ sym (same m.column (has_append_left us (vs ++ ws) m.column m.within)) ∙ m.passes in
          both_ways (has (vs ++ ws) m.column) (apart us (vs ++ ws) m.column (once m.column) m.within) (has_append_left vs ws m.column inside));
      middle_is =
          false_from_ne_true (misses row vs) (λ h.
          let m : Passing (lacks row) vs = passing (lacks row) vs h in
          both_ways (has row m.column) (not-true (has row m.column) m.passes)
          (same m.column (has_append_right us (vs ++ ws) m.column (has_append_left vs ws m.column m.within)) ∙ sym (part m.column) ∙ m.within));
      rest_is =
          false_from_ne_true (meets row ws) (λ h.
          let m : Passing (has row) ws = passing (has row) ws h in
          let inside : IsTrue (has vs m.column) =
          part m.column ∙ sym (same m.column (has_append_right us (vs ++ ws) m.column (has_append_right vs ws m.column m.within))) ∙ m.passes in
          both_ways (has ws m.column) (apart vs ws m.column (omega (arith, once m.column, occurs-append us (vs ++ ws) m.column)) inside) m.within);
    }

-- a row that has the columns of a part of the list and no other of it stands together in the list
pub segment_whole : (row f xs : List ℕ) → ((a : ℕ) → occurs f a ≤ 1) → ((a : ℕ) → IsTrue (has f a) → has row a ≡ has xs a) → Segment f xs → Whole row f
segment_whole row f xs once same s =
    subst (Whole row) (sym s.parts)
    (segment_of row s.front s.middle s.rest xs
    (λ a. subst (λ x. occurs x a ≤ 1) s.parts (once a))
    (λ a h. same a (ap (λ x. has x a) s.parts ∙ h))
    s.middle_is)
