-- The first test that fails, found part by part.
use Rattle.std.proofs.Common.{◌≡◌, ◌↔◌, ◌∙◌, ℕ, zero, suc, ◌≤◌, List, [], ◌∷◌, ◌++◌, map, Option, Some, None, refl, sym, ap, subst, inl, inr, arith, append_assoc, append-nil, ◌+◌, ◌<◌}
use Rattle.std.specs.Prelude.{option_map, flat_map}
use Rattle.std.specs.List.{AllByRecursion}
use Rattle.std.proofs.lemmas.Bool.{cases_eq}
use Rattle.std.proofs.lemmas.Grind.{flat_map-append}
use Rattle.std.proofs.lemmas.List.{map-append}
use Rattle.verdict_judge.specs.Tests.{numbers}
use Rattle.verdict_judge.specs.Accepted.{IsFirstFailing}
use Rattle.verdict_judge.specs.Found.{IsLeastFailing, Finds}
use Rattle.verdict_judge.specs.declared.outcome.Checked.TheVariants.{Valid, Invalid}

-- the first test fails
pub finds_here : {R : Type 0} (P : R → Type 0) (r : R) (xs : List R) → (P r → ⊥) → Finds P (r ∷ xs) (Some r)
finds_here P r xs h = record { passed = []; later = xs; order = refl; pass = tt; fails = h }

-- the first test is passed
pub finds_next : {R : Type 0} (P : R → Type 0) (x : R) (xs : List R) (o : Option R) → P x → Finds P xs o → Finds P (x ∷ xs) o
finds_next P x xs None p f = (p, f)
finds_next P x xs (Some r) p f = record { passed = x ∷ f.passed; later = f.later; order = ap (λ ys. x ∷ ys) f.order; pass = (p, f.pass); fails = f.fails }

-- the first tests are passed
pub finds_after : {R : Type 0} (P : R → Type 0) (xs ys : List R) (o : Option R) → AllByRecursion P xs → Finds P ys o → Finds P (xs ++ ys) o
finds_after P [] ys o h f = f
finds_after P (x ∷ xs) ys o h f = finds_next P x (xs ++ ys) o h.0 (finds_after P xs ys o h.1 f)

-- one of the first tests fails
pub finds_part : {R : Type 0} (P : R → Type 0) (xs ys : List R) (r : R) → Finds P xs (Some r) → Finds P (xs ++ ys) (Some r)
finds_part P xs ys r f =
    record {
      passed = f.passed;
      later = f.later ++ ys;
      order = ap (λ zs. zs ++ ys) f.order ∙ append_assoc f.passed (r ∷ f.later) ys;
      pass = f.pass;
      fails = f.fails;
    }

-- tests with the numbers 1 to n, of which the least that fails is known
pub finds_each : {R : Type 0} (P : R → Type 0) (f : ℕ → R) (n : ℕ) (o : Option ℕ) → IsLeastFailing (λ k. P (f k)) n o → Finds P (map f (numbers n)) (option_map f o)
finds_each P f zero None h = tt
finds_each P f zero (Some k) h = absurd (omega (arith, h.0, h.1))
finds_each P f (suc n) None h =
    subst (λ xs. Finds P xs None) (sym (map-append f (numbers n) (suc n ∷ [])))
    (finds_after P (map f (numbers n)) (f (suc n) ∷ []) None (finds_each P f n None (λ k l u. h k l (omega arith))) (h (suc n) (omega arith) (omega arith), tt))
finds_each P f (suc n) (Some k) h =
    subst (λ xs. Finds P xs (Some (f k))) (sym (map-append f (numbers n) (suc n ∷ [])))
    (elim (cases_eq k (suc n)) [
      | inl e ↦
          subst (λ j. Finds P (map f (numbers n) ++ f j ∷ []) (Some (f k))) e
          (finds_after P (map f (numbers n)) (f k ∷ []) (Some (f k)) (finds_each P f n None (λ j l u. h.3 j l (omega (arith, e)))) (finds_here P (f k) [] h.2))
      | inr ne ↦
          let u : k ≤ n = omega (arith, h.1, ne) in
          finds_part P (map f (numbers n)) (f (suc n) ∷ []) (f k) (finds_each P f n (Some k) (h.0, u, h.2, h.3))
    ])

-- what holds of the whole holds of each part
pub all_parts : {R : Type 0} (P : R → Type 0) (xs ys : List R) → AllByRecursion P (xs ++ ys) → AllByRecursion P xs × AllByRecursion P ys
all_parts P [] ys h = (tt, h)
all_parts P (x ∷ xs) ys h = ((h.0, (all_parts P xs ys h.1).0), (all_parts P xs ys h.1).1)

-- where each test that is passed is passed in other words
pub all_apply : {R : Type 0} (P Q : R → Type 0) (xs : List R) → AllByRecursion (λ r. P r → Q r) xs → AllByRecursion P xs → AllByRecursion Q xs
all_apply P Q [] m h = tt
all_apply P Q (x ∷ xs) m h = (m.0 h.0, all_apply P Q xs m.1 h.1)

-- what holds for the numbers 1 to n
pub all_each : {R : Type 0} (P : R → Type 0) (f : ℕ → R) (n : ℕ) → ((k : ℕ) → 1 ≤ k → k ≤ n → P (f k)) → AllByRecursion P (map f (numbers n))
all_each P f n h = finds_each P f n None h

pub each_all : {R : Type 0} (P : R → Type 0) (f : ℕ → R) (n : ℕ) → AllByRecursion P (map f (numbers n)) → (k : ℕ) → 1 ≤ k → k ≤ n → P (f k)
each_all P f zero h k l u = absurd (omega (arith, l, u))
each_all P f (suc n) h k l u =
    let parts = all_parts P (map f (numbers n)) (f (suc n) ∷ []) (subst (AllByRecursion P) (map-append f (numbers n) (suc n ∷ [])) h) in
    elim (cases_eq k (suc n)) [
      | inl e ↦ subst (λ j. P (f j)) (sym e) parts.1.0
      | inr ne ↦ each_all P f n parts.0 k l (omega (arith, u, ne))
    ]

-- what holds of each part holds of the whole
pub all_after : {R : Type 0} (P : R → Type 0) (xs ys : List R) → AllByRecursion P xs → AllByRecursion P ys → AllByRecursion P (xs ++ ys)
all_after P xs ys h k = finds_after P xs ys None h k

pub all_over : {R : Type 0} {A : Type 0} (P : R → Type 0) (f : A → List R) (xs : List A) → ((x : A) → AllByRecursion P (f x)) → AllByRecursion P (flat_map f xs)
all_over P f [] h = tt
all_over P f (x ∷ xs) h = all_after P (f x) (flat_map f xs) (h x) (all_over P f xs h)

-- tests in parts with the numbers 1 to n: one part more
parts_more : {R : Type 0} (f : ℕ → List R) (n : ℕ) → flat_map f (numbers (suc n)) ≡ flat_map f (numbers n) ++ f (suc n)
parts_more f n = flat_map-append f (numbers n) (suc n ∷ []) ∙ ap (λ xs. flat_map f (numbers n) ++ xs) (append-nil (f (suc n)))

pub all_parts_more : {R : Type 0} (P : R → Type 0) (f : ℕ → List R) (n : ℕ) → AllByRecursion P (flat_map f (numbers n)) → AllByRecursion P (f (n + 1)) → AllByRecursion P (flat_map f (numbers (n + 1)))
all_parts_more P f n h k =
    let e : n + 1 ≡ suc n = omega arith in
    let next : AllByRecursion P (f (suc n)) = subst (λ j. AllByRecursion P (f j)) e k in
    subst (λ j. AllByRecursion P (flat_map f (numbers j))) (sym e) (subst (AllByRecursion P) (sym (parts_more f n)) (all_after P (flat_map f (numbers n)) (f (suc n)) h next))

-- the first parts are passed, and in the next one a test fails
pub finds_in_part : {R : Type 0} (P : R → Type 0) (f : ℕ → List R) (n k : ℕ) (r : R) → k < n → AllByRecursion P (flat_map f (numbers k)) → Finds P (f (k + 1)) (Some r) →
    Finds P (flat_map f (numbers n)) (Some r)
finds_in_part P f zero k r l h g = absurd (omega (arith, l))
finds_in_part P f (suc n) k r l h g =
    subst (λ xs. Finds P xs (Some r)) (sym (parts_more f n))
    (elim (cases_eq k n) [
      | inl e ↦
          finds_after P (flat_map f (numbers n)) (f (suc n)) (Some r) (subst (λ j. AllByRecursion P (flat_map f (numbers j))) e h)
          (subst (λ j. Finds P (f j) (Some r)) (next k n e) g)
      | inr ne ↦ finds_part P (flat_map f (numbers n)) (f (suc n)) r (finds_in_part P f n k r (omega (arith, l, ne)) h g)
    ])
  where
    next : (k n : ℕ) → k ≡ n → k + 1 ≡ suc n
    next k n e = omega (arith, e)

-- what holds of each part with a number of 1 to n
pub all_in_parts : {R : Type 0} (P : R → Type 0) (f : ℕ → List R) (n : ℕ) → ((s : ℕ) → 1 ≤ s → s ≤ n → AllByRecursion P (f s)) → AllByRecursion P (flat_map f (numbers n))
all_in_parts P f zero h = tt
all_in_parts P f (suc n) h =
    subst (AllByRecursion P) (sym (parts_more f n)) (all_after P (flat_map f (numbers n)) (f (suc n)) (all_in_parts P f n (λ s l u. h s l (omega arith))) (h (suc n) (omega arith) (omega arith)))

pub in_part_all : {R : Type 0} (P : R → Type 0) (f : ℕ → List R) (n : ℕ) → AllByRecursion P (flat_map f (numbers n)) → (s : ℕ) → 1 ≤ s → s ≤ n → AllByRecursion P (f s)
in_part_all P f zero h s l u = absurd (omega (arith, l, u))
in_part_all P f (suc n) h s l u =
    let parts = all_parts P (flat_map f (numbers n)) (f (suc n)) (subst (AllByRecursion P) (parts_more f n) h) in
    elim (cases_eq s (suc n)) [
      | inl e ↦ subst (λ j. AllByRecursion P (f j)) (sym e) parts.1
      | inr ne ↦ in_part_all P f n parts.0 s l (omega (arith, u, ne))
    ]

-- what holds of each test holds of the one between two parts
all_at : {R : Type 0} (P : R → Type 0) (xs ys : List R) (r : R) → AllByRecursion P (xs ++ r ∷ ys) → P r
all_at P [] ys r h = h.0
all_at P (x ∷ xs) ys r h = all_at P xs ys r h.1

all_mono : {R : Type 0} (P Q : R → Type 0) (xs : List R) → ((r : R) → P r → Q r) → AllByRecursion P xs → AllByRecursion Q xs
all_mono P Q [] m h = tt
all_mono P Q (x ∷ xs) m h = (m x h.0, all_mono P Q xs m h.1)

-- the same tests in other words
pub finds_same : {R : Type 0} (P Q : R → Type 0) (xs : List R) (o : Option R) → ((r : R) → P r → Q r) → AllByRecursion (λ r. Q r → P r) xs → Finds P xs o → Finds Q xs o
finds_same P Q xs None m b f = all_mono P Q xs m f
finds_same P Q xs (Some r) m b f =
    record {
      passed = f.passed;
      later = f.later;
      order = f.order;
      pass = all_mono P Q f.passed m f.pass;
      fails = λ q. f.fails (all_at (λ r. Q r → P r) f.passed f.later r (subst (AllByRecursion (λ r. Q r → P r)) f.order b) q);
    }

pub least_same : (P Q : ℕ → Type 0) (n : ℕ) (o : Option ℕ) → ((k : ℕ) → P k → Q k) → ((k : ℕ) → Q k → P k) → IsLeastFailing P n o → IsLeastFailing Q n o
least_same P Q n None m b h = λ k l u. m k (h k l u)
least_same P Q n (Some k) m b h = (h.0, h.1, λ q. h.2 (b k q), λ j l u. m j (h.3 j l u))

same_head : {R : Type 0} (x y : R) (xs ys : List R) → x ∷ xs ≡ y ∷ ys → x ≡ y
same_head x y xs ys e = cc

same_tail : {R : Type 0} (x y : R) (xs ys : List R) → x ∷ xs ≡ y ∷ ys → xs ≡ ys
same_tail x y xs ys e = cc

-- the first test that fails is one alone, and then not each is passed
same_first : {R : Type 0} (P : R → Type 0) (xs ys xs' ys' : List R) (r r' : R) → xs ++ r ∷ ys ≡ xs' ++ r' ∷ ys' → AllByRecursion P xs → AllByRecursion P xs' →
    (P r → ⊥) → (P r' → ⊥) → r ≡ r'
same_first P [] ys [] ys' r r' e h h' f f' = same_head r r' ys ys' e
same_first P [] ys (x' ∷ xs') ys' r r' e h h' f f' = absurd (f (subst P (sym (same_head r x' ys (xs' ++ r' ∷ ys') e)) h'.0))
same_first P (x ∷ xs) ys [] ys' r r' e h h' f f' = absurd (f' (subst P (same_head x r' (xs ++ r ∷ ys) ys' e) h.0))
same_first P (x ∷ xs) ys (x' ∷ xs') ys' r r' e h h' f f' =
    same_first P xs ys xs' ys' r r' (same_tail x x' (xs ++ r ∷ ys) (xs' ++ r' ∷ ys') e) h.1 h'.1 f f'

pub one_first : {R : Type 0} (P : R → Type 0) (xs : List R) (r r' : R) → IsFirstFailing P xs r → IsFirstFailing P xs r' → r ≡ r'
one_first P xs r r' f f' = same_first P f.passed f.later f'.passed f'.later r r' (sym f.order ∙ f'.order) f.pass f'.pass f.fails f'.fails

pub never_both : {R : Type 0} (P : R → Type 0) (xs : List R) (r : R) → IsFirstFailing P xs r → AllByRecursion P xs → ⊥
never_both P xs r f h = f.fails (all_at P f.passed f.later r (subst (AllByRecursion P) f.order h))

-- a word for texts that pass each test, and one for each test that fails
pub record Words {R C : Type 0} (valid : C) (invalid : R → C) : Type 0 where
  pub apart : (r : R) → invalid r ≡ valid → ⊥
  pub same : (q r : R) → invalid q ≡ invalid r → q ≡ r

-- what is said by what is found
abbrev pub said : {R C : Type 0} → C → (R → C) → Option R → C
said valid invalid None = valid
said valid invalid (Some r) = invalid r

pub said_valid : {R C : Type 0} {valid : C} {invalid : R → C} → Words valid invalid → (P : R → Type 0) (xs : List R) (o : Option R) → Finds P xs o → (said valid invalid o ≡ valid) ↔ AllByRecursion P xs
said_valid w P xs None f = (λ e. f, λ h. refl)
said_valid w P xs (Some r) f = (λ e. absurd (w.apart r e), λ h. absurd (never_both P xs r f h))

pub said_invalid : {R C : Type 0} {valid : C} {invalid : R → C} → Words valid invalid → (P : R → Type 0) (xs : List R) (o : Option R) → Finds P xs o → (r : R) → (said valid invalid o ≡ invalid r) ↔ IsFirstFailing P xs r
said_invalid w P xs None f r = (λ e. absurd (w.apart r (sym e)), λ h. absurd (never_both P xs r h f))
said_invalid {invalid = invalid} w P xs (Some q) f r = (λ e. subst (IsFirstFailing P xs) (w.same q r e) f, λ h. ap invalid (one_first P xs q r f h))

-- what is said of a verdict
pub verdict_words : Words Valid Invalid
verdict_words = record { apart = λ r e. absurd (cc); same = λ q r e. cc }
