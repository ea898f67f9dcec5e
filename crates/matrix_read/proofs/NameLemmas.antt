-- Names, of which one may occur twice.
use Rattle.std.proofs.Common.{◌≡◌, inl, inr, ℕ, ◌||◌, not, List, [], ◌∷◌, ◌++◌, refl, ap, sym, ◌∙◌, Bool, true, false, if◌then◌else◌, append_assoc, Bor}
use Rattle.std.proofs.lemmas.Bool.{or_cases, or_parts, or_right, cases_Bool, false≢true}
use Rattle.std.proofs.lemmas.List.{map-append}
use Rattle.std.proofs.lemmas.List.Folds.{list_any-append}
use Rattle.std.proofs.lemmas.Slice.Eq.{bytes_eq-Decides}
use Rattle.std.specs.List.{list_any}
use Rattle.std.specs.Str.{bytes_eq}
use Rattle.matrix_read.specs.Names.{has_twice, bytes_of}

-- a name more among names that occur once
pub same_bytes : (xs ys : List ℕ) → bytes_eq xs ys ≡ true → bytes_eq ys xs ≡ true
same_bytes xs ys h = (bytes_eq-Decides ys xs).1 (sym ((bytes_eq-Decides xs ys).0 h))

pub twice_found : (name : List ℕ) (names rest : List (List ℕ)) → list_any (bytes_eq name) names ≡ true → has_twice (names ++ name ∷ rest) ≡ true
twice_found name [] rest h = absurd (cc)
twice_found name (first ∷ names) rest h =
    elim (or_cases (bytes_eq name first) (list_any (bytes_eq name) names) h) [
      | inl same ↦
          let here : list_any (bytes_eq first) (names ++ name ∷ rest) ≡ true = list_any-append (bytes_eq first) names (name ∷ rest) ∙ or_right (list_any (bytes_eq first) names) (bytes_eq first name || list_any (bytes_eq first) rest) (rw (same_bytes name first same) refl) in
          rw here refl
      | inr later ↦ or_right _ _ (twice_found name names rest later)
    ]

pub once_more : (name : List ℕ) (names : List (List ℕ)) → list_any (bytes_eq name) names ≡ false → has_twice names ≡ false → has_twice (names ++ name ∷ []) ≡ false
once_more name [] h once = refl
once_more name (first ∷ names) h once =
    let other = or_parts (bytes_eq name first) (list_any (bytes_eq name) names) h in
    let alone = or_parts (list_any (bytes_eq first) names) (has_twice names) once in
    let apart : bytes_eq first name ≡ false = elim (cases_Bool (bytes_eq first name)) [ inl same ↦ absurd (false≢true (sym other.0 ∙ same_bytes first name same)) | inr not_same ↦ not_same ] in
    rw (list_any-append (bytes_eq first) names (name ∷ []), alone.0, apart) (once_more name names other.1 alone.1)

pub found_if : (b : Bool) → false ≡ not b → b ≡ true
found_if true h = refl
found_if false h = absurd (false≢true h)

-- names by their bytes
pub list_any-bytes : (p : List ℕ → Bool) (names : List (Bor (List ℕ))) → list_any (λ (name : Bor (List ℕ)). p name.now) names ≡ list_any p (bytes_of names)
list_any-bytes p [] = refl
list_any-bytes p (name ∷ names) = ap (λ b. p name.now || b) (list_any-bytes p names)

-- a name that is added behind names
module _ (keys new : List (Bor (List ℕ))) (key : Bor (List ℕ)) (fresh : true ≡ not (list_any (bytes_eq key.now) (bytes_of keys)))
    (is : new ≡ (if list_any (λ (other : Bor (List ℕ)). bytes_eq key.now other.now) keys then keys else keys ++ key ∷ [])) where
  absent : list_any (bytes_eq key.now) (bytes_of keys) ≡ false
  absent = elim (cases_Bool (list_any (bytes_eq key.now) (bytes_of keys))) [ inl found ↦ absurd (false≢true (sym (fresh ∙ ap not found))) | inr none ↦ none ]

  pub added_bytes : bytes_of new ≡ bytes_of keys ++ key.now ∷ []
  added_bytes =
      ap bytes_of (is ∙ ap (λ b. if b then keys else keys ++ key ∷ []) (list_any-bytes (bytes_eq key.now) keys ∙ absent)) ∙ map-append (λ (name : Bor (List ℕ)). name.now) keys (key ∷ [])

  pub added_once : has_twice (bytes_of keys) ≡ false → has_twice (bytes_of new) ≡ false
  added_once once = ap has_twice added_bytes ∙ once_more key.now (bytes_of keys) absent once

  pub added_whole : (name : List ℕ) (rest : List (List ℕ)) → key.now ≡ name → bytes_of new ++ rest ≡ bytes_of keys ++ name ∷ rest
  added_whole name rest e = ap (λ names. names ++ rest) added_bytes ∙ append_assoc (bytes_of keys) (key.now ∷ []) rest ∙ ap (λ n. bytes_of keys ++ n ∷ rest) e
