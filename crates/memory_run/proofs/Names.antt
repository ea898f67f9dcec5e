-- Which files a run asked for: those of the two, unless one had no bytes.
use Rattle.std.proofs.Common.{◌≡◌, ◌∙◌, ℕ, zero, suc, ◌&&◌, ◌++◌, ◌==◌, List, [], ◌∷◌, map, take, codes, Option, Some, None, is_some, inl, inr, sym, ap, subst, refl, arith, Bool, true, false, if◌then◌else◌}
use Rattle.std.proofs.lemmas.Bool.{cases_Bool, false≢true}
use Rattle.std.proofs.lemmas.Slice.Eq.{bytes_eq-Decides}
use Rattle.std.specs.List.{Contains}
use Rattle.std.specs.Str.{bytes_eq}
use Rattle.std.specs.Prelude.{Result, Ok, Err, OnOk, is_err}
use Rattle.file_io.specs.Faults.{is_to_fail}
use Rattle.pq_io.specs.NamedFiles.{Held, content_of}
use Rattle.file_io.specs.Taken.{Taken, read_on, handed_out, HandsOut}
use Rattle.memory_run.specs.Given.{given, IsGiven, are_told, FailsOnlyAtAnother}

-- a name that has bytes among the two is that of one of them
pub is_given : (first second name : List ℕ) → is_some (given first second name) ≡ true → IsGiven name
is_given first second name some = elim (cases_Bool (bytes_eq name (codes "2"))) [
  | inl two ↦ inr ((bytes_eq-Decides name (codes "2")).0 two)
  | inr other ↦ elim (cases_Bool (bytes_eq name (codes "1"))) [
    | inl one ↦ inl ((bytes_eq-Decides name (codes "1")).0 one)
    | inr none ↦ absurd (false≢true (sym (ap (λ b. is_some (if b then Some second else (if bytes_eq name (codes "1") then Some first else None))) other ∙ ap (λ b. is_some (if b then Some first else None)) none) ∙ some))
  ]
]

-- and the names of the two have bytes
pub has_bytes : (first second name : List ℕ) → IsGiven name → is_some (given first second name) ≡ true
has_bytes first second name (inl one) = subst (λ n. is_some (given first second n) ≡ true) (sym one) refl
has_bytes first second name (inr two) = subst (λ n. is_some (given first second n) ≡ true) (sym two) refl

name_of : (piece : List ℕ) (ended : Bool) (t : Taken) (b : Bool) → (if b then t else record { name = t.name; bytes = t.bytes ++ piece; ended = ended }).name ≡ t.name
name_of piece ended t true = refl
name_of piece ended t false = refl

module _ (told : List ℕ → Option (List ℕ)) where
  -- where not all files that were asked for have bytes, one has none
  pub lacking : (ts : List Taken) → are_told told ts ≡ false → (name : List ℕ) × Contains (map (λ t. t.name) ts) name × (is_some (told name) ≡ false)
  lacking [] none = absurd (false≢true (sym none))
  lacking (t ∷ ts) none = elim (cases_Bool (is_some (told t.name))) [
    | inl some ↦
        let rest = lacking ts (ap (λ b. b && are_told told ts) (sym some) ∙ none) in
        (rest.0, (suc rest.1.0, omega (arith, rest.1.1), rest.1.2), rest.2)
    | inr lacks ↦ (t.name, (zero, omega arith, refl), lacks)
  ]

  name_kept : (piece : List ℕ) (ended : Bool) (t : Taken) → (read_on piece ended t).name ≡ t.name
  name_kept piece ended t = name_of piece ended t t.ended

  -- what a read hands out changes no name
  pub told_after_read : (piece : List ℕ) (ended : Bool) (ts : List Taken) → are_told told (handed_out piece ended ts) ≡ are_told told ts
  told_after_read piece ended [] = refl
  told_after_read piece ended (t ∷ []) = ap (λ n. is_some (told n) && true) (name_kept piece ended t)
  told_after_read piece ended (t ∷ next ∷ ts) = ap (λ b. is_some (told t.name) && b) (told_after_read piece ended (next ∷ ts))

-- a read fails at no file of the two, and asks for none
pub read_keeps : {E : Type 0} (old new : Held) (call : ℕ) (buf : List ℕ) (r : Result ℕ E) → FailsOnlyAtAnother old → new.files ≡ old.files → new.failing ≡ old.failing → OnOk r (new.faults ≡ old.faults)
    → HandsOut old.taken new.taken r buf → is_err r ≡ is_to_fail old.failing call → FailsOnlyAtAnother new
read_keeps old new call buf (Ok n) fails files failing same taken never =
    let told : are_told (content_of new.files) new.taken ≡ are_told (content_of old.files) old.taken =
    ap (λ fs. are_told (content_of fs) new.taken) files ∙ ap (are_told (content_of old.files)) taken ∙ told_after_read (content_of old.files) (take n buf) (n == 0) old.taken in
    record {
      never = failing ∙ fails.never;
      fault = (λ none. told ∙ fails.fault.0 (sym same ∙ none), λ all. same ∙ fails.fault.1 (sym told ∙ all));
    }
read_keeps old new call buf (Err _) fails files failing same taken never = absurd (false≢true (sym (never ∙ ap (λ calls. is_to_fail calls call) fails.never)))
