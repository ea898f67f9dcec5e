-- Lists of nodes: how often a node occurs, the ends, and chains.
use Rattle.std.proofs.Common.{◌||◌, ◌≡◌, ◌≢◌, inl, inr, ℕ, zero, suc, ◌+◌, ◌≤◌, ◌<◌, true, false, cond, eqb, List, [], ◌∷◌, ◌++◌, length, refl, sym, ap, subst, ◌∙◌, arith, eq-eqb, eqb-true, reverse, get_or}
use Rattle.std.proofs.lemmas.Bool.{ne_eqb, cases_eq, or_cases}
use Rattle.std.proofs.lemmas.List.{length-append, reverse-append}
use Rattle.std.proofs.lemmas.Map.Steps.{length-le_from_distinct_below}
use Rattle.std.specs.List.{IsDistinct, list_any, AllByRecursion}
use Rattle.arena_model.specs.ChildLists.{without, with_replaced, head_or, last_or, none, end_parent}
use Rattle.column_order.proofs.Lists.{occurs-append}
use Rattle.column_order.specs.Orders.{occurs}

pub occurs_same : (x : ℕ) (xs : List ℕ) → occurs (x ∷ xs) x ≡ 1 + occurs xs x
occurs_same x xs = ap (λ b. cond {A = ℕ} b 1 0 + occurs xs x) (eq-eqb x x refl)

pub occurs_here : (x : ℕ) (xs : List ℕ) → 1 ≤ occurs (x ∷ xs) x
occurs_here x xs = omega (arith, occurs_same x xs)

pub occurs_other : (x y : ℕ) (xs : List ℕ) → y ≢ x → occurs (x ∷ xs) y ≡ occurs xs y
occurs_other x y xs ne = ap (λ b. cond {A = ℕ} b 1 0 + occurs xs y) (ne_eqb x y (λ e. ne (sym e))) ∙ omega arith

pub only_one : (x n : ℕ) → 1 ≤ occurs (n ∷ []) x → x ≡ n
only_one x n o = elim (cases_eq x n) [ inl e ↦ e | inr ne ↦ absurd (let z : occurs (n ∷ []) x ≡ 0 = occurs_other n x [] ne in omega arith) ]

pub head_or-append : (us vs : List ℕ) (d : ℕ) → head_or (us ++ vs) d ≡ head_or us (head_or vs d)
head_or-append [] vs d = refl
head_or-append (u ∷ us) vs d = refl

pub last_or-append : (us vs : List ℕ) (d : ℕ) → last_or (us ++ vs) d ≡ last_or vs (last_or us d)
last_or-append [] vs d = refl
last_or-append (u ∷ us) vs d = last_or-append us vs u

pub occurs_last : (xs : List ℕ) (x : ℕ) → 1 ≤ occurs (x ∷ xs) (last_or xs x)
occurs_last [] x = occurs_here x []
occurs_last (y ∷ ys) x = omega (arith, occurs_last ys y)

-- the neighbours of x in a ring are in it
pub occurs_behind : (us vs : List ℕ) (x : ℕ) → 1 ≤ occurs (us ++ x ∷ vs) (head_or vs (head_or us x))
occurs_behind [] [] x = occurs_here x []
occurs_behind (u ∷ us) [] x = occurs_here u (us ++ x ∷ [])
occurs_behind us (v ∷ vs) x = omega (arith, occurs-append us (x ∷ v ∷ vs) v, occurs_here v vs)

pub occurs_before : (us vs : List ℕ) (x : ℕ) → 1 ≤ occurs (us ++ x ∷ vs) (last_or us (last_or vs x))
occurs_before [] vs x = occurs_last vs x
occurs_before (u ∷ us) vs x = omega (arith, occurs-append (u ∷ us) (x ∷ vs) (last_or us u), occurs_last us u)

pub occurs_at : (xs : List ℕ) (i : ℕ) → i < length xs → 1 ≤ occurs xs (get_or xs i 0)
occurs_at [] i l = absurd (omega arith)
occurs_at (x ∷ xs) zero l = occurs_here x xs
occurs_at (x ∷ xs) (suc i) l = let r : 1 ≤ occurs xs (get_or xs i 0) = occurs_at xs i (omega arith) in omega arith

-- a list with n is split at n
pub record SplitAt (xs : List ℕ) (n : ℕ) : Type 0 where
  pub us : List ℕ
  pub vs : List ℕ
  pub is : xs ≡ us ++ n ∷ vs

pub split_at : (xs : List ℕ) (n : ℕ) → 1 ≤ occurs xs n → SplitAt xs n
split_at [] n h = absurd (omega arith)
split_at (x ∷ xs) n h =
    (elim (eqb x n) as (λ b. eqb x n ≡ b → 1 ≤ cond {A = ℕ} b 1 0 + occurs xs n → SplitAt (x ∷ xs) n) [
      | true ↦ λ e _. record { us = []; vs = xs; is = ap (λ y. y ∷ xs) (eqb-true x n e) }
      | false ↦ λ e k. let s = split_at xs n (omega arith) in record { us = x ∷ s.us; vs = s.vs; is = ap (λ ys. x ∷ ys) s.is }
    ]) refl h

-- a list is no longer than one in which each of its nodes occurs as often
pub shorter : (xs ys : List ℕ) → ((z : ℕ) → occurs xs z ≤ occurs ys z) → length xs ≤ length ys
shorter [] ys h = omega arith
shorter (x ∷ xs) ys h =
    let s : SplitAt ys x = split_at ys x (let a : occurs (x ∷ xs) x ≤ occurs ys x = h x in omega (arith, occurs_here x xs)) in
    let r : length xs ≤ length (s.us ++ s.vs) = shorter xs (s.us ++ s.vs) (λ z.
    let a : occurs (x ∷ xs) z ≤ occurs ys z = h z in
    let b : occurs ys z ≡ occurs (s.us ++ x ∷ s.vs) z = ap (λ k. occurs k z) s.is in
    omega (arith, occurs-append s.us (x ∷ s.vs) z, occurs-append s.us s.vs z)) in
    let e : length ys ≡ length (s.us ++ x ∷ s.vs) = ap (λ (k : List ℕ). length k) s.is in
    omega (arith, length-append s.us (x ∷ s.vs), length-append s.us s.vs)

pub without_none : (xs : List ℕ) (n : ℕ) → occurs xs n ≡ 0 → without xs n ≡ xs
without_none [] n h = refl
without_none (x ∷ xs) n h =
    (elim (eqb x n) as (λ b. cond {A = ℕ} b 1 0 + occurs xs n ≡ 0 → cond b (without xs n) (x ∷ without xs n) ≡ x ∷ xs) [
      | true ↦ λ k. absurd (omega arith)
      | false ↦ λ k. ap (λ ys. x ∷ ys) (without_none xs n (omega arith))
    ]) h

pub without-append : (xs ys : List ℕ) (n : ℕ) → without (xs ++ ys) n ≡ without xs n ++ without ys n
without-append [] ys n = refl
without-append (x ∷ xs) ys n =
    elim (eqb x n) as (λ b. cond b (without (xs ++ ys) n) (x ∷ without (xs ++ ys) n) ≡ cond b (without xs n) (x ∷ without xs n) ++ without ys n) [
      | true ↦ without-append xs ys n
      | false ↦ ap (λ zs. x ∷ zs) (without-append xs ys n)
    ]

pub without_same : (n : ℕ) (xs : List ℕ) → without (n ∷ xs) n ≡ without xs n
without_same n xs = ap (λ b. cond b (without xs n) (n ∷ without xs n)) (eq-eqb n n refl)

pub without_split : (us vs : List ℕ) (n : ℕ) → occurs (us ++ n ∷ vs) n ≤ 1 → without (us ++ n ∷ vs) n ≡ us ++ vs
without_split us vs n h =
    let a : occurs us n + occurs (n ∷ vs) n ≤ 1 = omega (arith, occurs-append us (n ∷ vs) n) in
    let b : occurs us n ≡ 0 = omega (arith, occurs_same n vs) in
    let d : occurs vs n ≡ 0 = omega (arith, occurs_same n vs) in
    without-append us (n ∷ vs) n ∙ ap (λ xs. xs ++ without (n ∷ vs) n) (without_none us n b)
    ∙ ap (λ xs. us ++ xs) (without_same n vs ∙ without_none vs n d)

-- no more nodes than numbers
pub distinct_from_once : (xs : List ℕ) → ((x : ℕ) → occurs xs x ≤ 1) → IsDistinct eqb xs
unfolding IsDistinct
distinct_from_once [] once = tt
distinct_from_once (x ∷ xs) once = (
  apart xs (let o : occurs (x ∷ xs) x ≤ 1 = once x in omega (arith, occurs_same x xs)),
  distinct_from_once xs (λ y. let o : occurs (x ∷ xs) y ≤ 1 = once y in omega arith),
)
  where
    apart : (ys : List ℕ) → occurs ys x ≡ 0 → AllByRecursion (λ y. eqb x y ≡ false) ys
    apart [] o = tt
    apart (y ∷ ys) o = (
      ne_eqb x y (λ e. let k : 1 ≤ occurs (y ∷ ys) x = subst (λ z. 1 ≤ occurs (y ∷ ys) z) (sym e) (occurs_here y ys) in omega arith),
      apart ys (omega arith),
    )

pub occurs_any : (xs : List ℕ) (x : ℕ) → list_any (eqb x) xs ≡ true → 1 ≤ occurs xs x
occurs_any [] x e = absurd (cc)
occurs_any (y ∷ ys) x e = elim (or_cases (eqb x y) (list_any (eqb x) ys) e) [
  | inl h ↦ subst (λ z. 1 ≤ occurs (y ∷ ys) z) (sym (eqb-true x y h)) (occurs_here y ys)
  | inr h ↦ let i : 1 ≤ occurs ys x = occurs_any ys x h in omega arith
]

pub few_once : (xs : List ℕ) (n : ℕ) → ((x : ℕ) → occurs xs x ≤ 1) → ((x : ℕ) → 1 ≤ occurs xs x → x < n) → length xs ≤ n
few_once xs n once below = length-le_from_distinct_below xs n (distinct_from_once xs once) (λ q e. below q (occurs_any xs q e))

pub reverse_cons : (x : ℕ) (xs : List ℕ) → reverse (x ∷ xs) ≡ reverse xs ++ x ∷ []
reverse_cons x xs = reverse-append (x ∷ []) xs

pub last_reverse : (xs : List ℕ) (a : ℕ) → last_or (reverse xs) a ≡ head_or xs a
last_reverse [] a = refl
last_reverse (x ∷ xs) a = ap (λ z. last_or z a) (reverse_cons x xs) ∙ last_or-append (reverse xs) (x ∷ []) a

-- a list without n stays where n is replaced
pub replaced_none : (xs : List ℕ) (n m : ℕ) → occurs xs n ≡ 0 → with_replaced xs n m ≡ xs
replaced_none [] n m o = refl
replaced_none (x ∷ xs) n m o =
    let ne : x ≢ n = (λ e. let k : occurs (x ∷ xs) x ≡ 0 = subst (λ z. occurs (x ∷ xs) z ≡ 0) (sym e) o in omega (arith, occurs_here x xs)) in
    ap (λ b. cond b m x ∷ with_replaced xs n m) (ne_eqb x n ne) ∙ ap (λ ys. x ∷ ys) (replaced_none xs n m (omega arith))

replaced-append : (xs ys : List ℕ) (n m : ℕ) → with_replaced (xs ++ ys) n m ≡ with_replaced xs n m ++ with_replaced ys n m
replaced-append [] ys n m = refl
replaced-append (x ∷ xs) ys n m = ap (λ zs. cond (eqb x n) m x ∷ zs) (replaced-append xs ys n m)

pub replaced_split : (us vs : List ℕ) (n m : ℕ) → occurs (us ++ n ∷ vs) n ≤ 1 → with_replaced (us ++ n ∷ vs) n m ≡ us ++ m ∷ vs
replaced_split us vs n m o =
    let a : occurs us n ≡ 0 = omega (arith, occurs-append us (n ∷ vs) n, occurs_same n vs) in
    let b : occurs vs n ≡ 0 = omega (arith, occurs-append us (n ∷ vs) n, occurs_same n vs) in
    replaced-append us (n ∷ vs) n m ∙ ap (λ zs. zs ++ with_replaced (n ∷ vs) n m) (replaced_none us n m a)
    ∙ ap (λ c. us ++ (cond c m n ∷ with_replaced vs n m)) (eq-eqb n n refl) ∙ ap (λ zs. us ++ m ∷ zs) (replaced_none vs n m b)

-- the parent that an end child holds
pub parent_right : (m p a : ℕ) → a ≢ none → end_parent m p a ≡ cond (eqb p none) m none
parent_right m p a ne = ap (λ b. cond (eqb p none || b) m none) (ne_eqb a none ne) ∙ or_false (eqb p none)
  where
    or_false : (b : _) → cond (b || false) m none ≡ cond b m none
    or_false true = refl
    or_false false = refl

pub parent_left : (m p a : ℕ) → p ≢ none → end_parent m p a ≡ cond (eqb a none) m none
parent_left m p a ne = ap (λ b. cond (b || eqb a none) m none) (ne_eqb p none ne)

pub parent_inner : (m p a : ℕ) → p ≢ none → a ≢ none → end_parent m p a ≡ none
parent_inner m p a np na = parent_left m p a np ∙ ap (λ b. cond b m none) (ne_eqb a none na)
