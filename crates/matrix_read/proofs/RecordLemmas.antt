-- The records that a reader has still to read, one read after another.
use Rattle.std.proofs.Common.{◌≡◌, ℕ, zero, suc, ◌+◌, ◌<◌, ◌≤◌, Bool, true, false, if◌then◌else◌, List, [], ◌∷◌, ◌++◌, length, Option, Some, None, IsSome, ap, sym, ◌∙◌, refl, arith, add-one, Bor}
use Rattle.csv.specs.Machine.{Read, next_record, is_end, step, fields_after, field_after, ends_at_end}
use Rattle.csv.specs.Reading.{NextIs, ReadRecord, ReadsNext, default_config, pending_of, records, records_from, records_next}
use Rattle.csv.specs.declared.parser.Config.{Config}
use Rattle.csv.specs.declared.parser.State.{State}
use Rattle.csv.specs.declared.parser.State.TheVariants as st
use Rattle.csv.specs.declared.reader.Reader.{Reader}
use Rattle.matrix_read.specs.RecordsLeft.{IsPlain, bytes_left, records_of, records_left}

-- a record takes one byte or more, unless no byte is left
taken : (b : Bool) (xs : List ℕ) (a r : Read) (rest : Option Read) → a.2 ≡ xs → (if b then Some a else rest) ≡ Some r → (rest ≡ Some r → length r.2 ≤ length xs) → length r.2 ≤ length xs
taken true xs a r rest is e later =
    let same : a ≡ r = cc in
    omega (arith, ap length is, ap (λ (q : Read). length q.2) same)
taken false xs a r rest is e later = later e

not_longer : (cfg : Config) (xs : List ℕ) (s : State) (fields : List (List ℕ)) (field : List ℕ) (r : Read) → next_record cfg s fields field xs ≡ Some r → length r.2 ≤ length xs
unfolding next_record
not_longer cfg [] s fields field r e = ends (ends_at_end s) e
  where
    ends : (b : Bool) → (if b then Some (fields ++ (field ∷ []), st.StartRecord, []) else None) ≡ Some r → length r.2 ≤ 0
    ends true e = let same : (fields ++ (field ∷ []), st.StartRecord, []) ≡ r = cc in omega (arith, ap (λ (q : Read). length q.2) same)
    ends false e = absurd (cc)
not_longer cfg (c ∷ xs) s fields field r e =
    let le : length r.2 ≤ length xs =
    taken (is_end (step cfg s c).1) xs (fields_after (step cfg s c).1 fields field, (step cfg s c).0, xs) r (next_record cfg (step cfg s c).0 (fields_after (step cfg s c).1 fields field) (field_after (step cfg s c).1 c field) xs) refl e (not_longer cfg xs _ _ _ r)
    in
    omega arith

shorter : (cfg : Config) (c : ℕ) (xs : List ℕ) (s : State) (r : Read) → next_record cfg s [] [] (c ∷ xs) ≡ Some r → length r.2 ≤ length xs
unfolding next_record
shorter cfg c xs s r e =
    taken (is_end (step cfg s c).1) xs (fields_after (step cfg s c).1 [] [], (step cfg s c).0, xs) r (next_record cfg (step cfg s c).0 (fields_after (step cfg s c).1 [] []) (field_after (step cfg s c).1 c []) xs) refl e (not_longer cfg xs _ _ _ r)

-- the end of the bytes leaves no record
pub none_at_end : (cfg : Config) (n : ℕ) → records_from cfg n st.StartRecord [] ≡ []
unfolding records_from next_record
none_at_end cfg zero = refl
none_at_end cfg (suc n) = refl

none_after_last : (cfg : Config) (n : ℕ) (s : State) (r : Read) → next_record cfg s [] [] [] ≡ Some r → records_from cfg n r.1 r.2 ≡ []
unfolding next_record
none_after_last cfg n s r e = ends (ends_at_end s) e
  where
    ends : (b : Bool) → (if b then Some ([] ∷ [], st.StartRecord, []) else None) ≡ Some r → records_from cfg n r.1 r.2 ≡ []
    ends true e = let same : ([] ∷ [], st.StartRecord, []) ≡ r = cc in sym (ap (λ (q : Read). records_from cfg n q.1 q.2) same) ∙ none_at_end cfg n
    ends false e = absurd (cc)

-- a count above the number of bytes gives all records
enough : (cfg : Config) (n m : ℕ) (s : State) (xs : List ℕ) → length xs < n → length xs < m → records_from cfg n s xs ≡ records_from cfg m s xs
unfolding records_from
enough cfg zero m s xs a b = absurd (omega arith)
enough cfg (suc n) zero s xs a b = absurd (omega arith)
enough cfg (suc n) (suc m) s xs a b = by xs (next_record cfg s [] [] xs) refl a b (enough cfg n m)
  where
    rest : (xs : List ℕ) (p : Read) → next_record cfg s [] [] xs ≡ Some p → length xs < suc n → length xs < suc m
        → ((s : State) (ys : List ℕ) → length ys < n → length ys < m → records_from cfg n s ys ≡ records_from cfg m s ys) → records_from cfg n p.1 p.2 ≡ records_from cfg m p.1 p.2
    rest [] p e a b again = none_after_last cfg n s p e ∙ sym (none_after_last cfg m s p e)
    rest (c ∷ xs) p e a b again = let le = shorter cfg c xs s p e in again p.1 p.2 (omega arith) (omega arith)

    by : (xs : List ℕ) (r : Option Read) → next_record cfg s [] [] xs ≡ r → length xs < suc n → length xs < suc m
        → ((s : State) (ys : List ℕ) → length ys < n → length ys < m → records_from cfg n s ys ≡ records_from cfg m s ys) → records_next (records_from cfg n) r ≡ records_next (records_from cfg m) r
    by xs None e a b again = refl
    by xs (Some p) e a b again = ap (λ t. p.0 ∷ t) (rest xs p e a b again)

from_first : (cfg : Config) (n : ℕ) (s : State) (xs : List ℕ) (r : Option Read) → next_record cfg s [] [] xs ≡ r → records_from cfg (n + 1) s xs ≡ records_next (records_from cfg n) r
unfolding records_from
from_first cfg n s xs r e = ap (λ k. records_from cfg k s xs) (add-one n) ∙ ap (records_next (records_from cfg n)) e

-- the records of bytes: the first, and those of the bytes after it
pub records_step : (cfg : Config) (s : State) (xs : List ℕ) (p : Read) → next_record cfg s [] [] xs ≡ Some p → records_from cfg (length xs + 1) s xs ≡ p.0 ∷ records_from cfg (length p.2 + 1) p.1 p.2
records_step cfg s xs p e = from_first cfg (length xs) s xs (Some p) e ∙ ap (λ t. p.0 ∷ t) (rest xs e)
  where
    rest : (xs : List ℕ) → next_record cfg s [] [] xs ≡ Some p → records_from cfg (length xs) p.1 p.2 ≡ records_from cfg (length p.2 + 1) p.1 p.2
    rest [] e = none_after_last cfg 0 s p e ∙ sym (none_after_last cfg (length p.2 + 1) s p e)
    rest (c ∷ xs) e = let le = shorter cfg c xs s p e in enough cfg (suc (length xs)) (length p.2 + 1) p.1 p.2 (omega arith) (omega arith)

-- the same, as a read tells it
records_first : (s s2 : State) (old new : Option (List ℕ)) (f : List (List ℕ)) → IsSome old → ReadsNext default_config s old new true f s2 → records_of s old ≡ f ∷ records_of s2 new
records_first s s2 None new f some h = absurd (cc)
records_first s s2 (Some xs) None f some h = absurd h
records_first s s2 (Some xs) (Some ys) f some h = by (next_record default_config s [] [] xs) refl h
  where
    by : (r : Option Read) → next_record default_config s [] [] xs ≡ r → NextIs r true f s2 ys → records_from default_config (length xs + 1) s xs ≡ f ∷ records_from default_config (length ys + 1) s2 ys
    by None e q = absurd (cc)
    by (Some p) e q = records_step default_config s xs p e ∙ (rw (q.1, q.2, q.3) refl)

records_none : (s s2 : State) (old new : Option (List ℕ)) (f : List (List ℕ)) → IsSome old → ReadsNext default_config s old new false f s2 → records_of s old ≡ []
records_none s s2 None new f some h = refl
records_none s s2 (Some xs) None f some h = absurd h
records_none s s2 (Some xs) (Some ys) f some h = by (next_record default_config s [] [] xs) refl h
  where
    by : (r : Option Read) → next_record default_config s [] [] xs ≡ r → NextIs r false f s2 ys → records_from default_config (length xs + 1) s xs ≡ []
    by None e q = from_first default_config (length xs) s xs None e
    by (Some p) e q = absurd (cc)

-- a read takes the first of the records that are left
module _ (old new : Reader (Bor (List ℕ))) (f : List (List ℕ)) (plain : IsPlain old) where
  pub left_after_found : ReadRecord (λ (s : Bor (List ℕ)). Some s.now) old new true f → records_left old ≡ f ∷ records_left new
  unfolding records_left
  left_after_found r =
      let same : bytes_left new ≡ pending_of (Some new.rdr.now) new = rw r.1 refl in
      records_first old.state new.state (bytes_left old) (pending_of (Some new.rdr.now) new) f plain.known (rw plain.config at r.0)
      ∙ ap (λ k. f ∷ records_of new.state k) (sym same)

  pub left_at_end : ReadRecord (λ (s : Bor (List ℕ)). Some s.now) old new false f → records_left old ≡ []
  unfolding records_left
  left_at_end r = records_none old.state new.state (bytes_left old) (pending_of (Some new.rdr.now) new) f plain.known (rw plain.config at r.0)

-- a reader that has read nothing has all records left
pub left_at_start : (reader : Reader (Bor (List ℕ))) (bytes : List ℕ) → reader.state ≡ st.StartRecord → bytes_left reader ≡ Some bytes → records_left reader ≡ records default_config bytes
unfolding records_left
left_at_start reader bytes start left = rw (start, left) refl
