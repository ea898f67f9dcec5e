-- The records of a text have no more fields, but for the first of each, than the text has bytes.
use Rattle.std.proofs.Common.{◌≡◌, ℕ, zero, suc, ◌+◌, ◌≤◌, Bool, true, false, if◌then◌else◌, List, [], ◌∷◌, ◌++◌, length, drop, sum_by, Option, Some, None, arith, length-append, length-drop}
use Rattle.std.specs.Prelude.{⊤}
use Rattle.std.proofs.lemmas.List.Sums.{sum_by-cons}
use Rattle.csv.specs.declared.parser.Config.{Config}
use Rattle.csv.specs.declared.parser.State.{State}
use Rattle.csv.specs.declared.parser.State.TheVariants as st
use Rattle.csv.specs.declared.parser.Action.{Action}
use Rattle.csv.specs.declared.parser.Action.TheVariants as act
use Rattle.csv.specs.Machine.{Read, step, is_end, ends_at_end, fields_after, field_after, next_record}
use Rattle.csv.specs.Reading.{records_next, records_from, default_config, records}

-- the delimiters of a record
abbrev pub commas : List (List ℕ) → ℕ
commas fields = length (drop 1 fields)

-- a record that was read has a field, and its fields and the bytes behind it are no more than so many and one
abbrev IsTaken : ℕ → Option Read → Type 0
IsTaken n None = ⊤
IsTaken n (Some p) = (1 ≤ length p.0) × (length p.0 + length p.2 ≤ n + 1)

last_field : (fields : List (List ℕ)) (field : List ℕ) → length (fields ++ field ∷ []) ≡ length fields + 1
last_field fields field = length-append fields (field ∷ [])

at_end : (t : Bool) (fields : List (List ℕ)) (field : List ℕ) (n : ℕ) → length fields ≤ n → IsTaken n (if t then Some (fields ++ (field ∷ []), st.StartRecord, []) else None)
at_end true fields field n h = (omega (arith, last_field fields field), omega (arith, h, last_field fields field))
at_end false fields field n h = tt

after_byte :
    (cfg : Config) (to : State) (a : Action) (c : ℕ) (fields : List (List ℕ)) (field rest : List ℕ) (n : ℕ) →
    length fields + length rest + 1 ≤ n →
    ((more : List (List ℕ)) (part : List ℕ) → length more + length rest ≤ n → IsTaken n (next_record cfg to more part rest)) →
    IsTaken n (if is_end a then Some (fields_after a fields field, to, rest) else next_record cfg to (fields_after a fields field) (field_after a c field) rest)
after_byte cfg to act.EndRecord c fields field rest n h next = (omega (arith, last_field fields field), omega (arith, h, last_field fields field))
after_byte cfg to act.EndField c fields field rest n h next = next (fields ++ field ∷ []) [] (omega (arith, h, last_field fields field))
after_byte cfg to act.Copy c fields field rest n h next = next fields (field ++ c ∷ []) (omega (arith, h))
after_byte cfg to act.Skip c fields field rest n h next = next fields field (omega (arith, h))

next_taken : (cfg : Config) (s : State) (fields : List (List ℕ)) (field text : List ℕ) (n : ℕ) → length fields + length text ≤ n → IsTaken n (next_record cfg s fields field text)
unfolding next_record
next_taken cfg s fields field [] n h = at_end (ends_at_end s) fields field n (omega (arith, h))
next_taken cfg s fields field (c ∷ rest) n h =
    after_byte cfg (step cfg s c).0 (step cfg s c).1 c fields field rest n (omega (arith, h))
    (λ more part few. next_taken cfg (step cfg s c).0 more part rest n few)

next_short : (more : State → List ℕ → List (List (List ℕ))) (r : Option Read) (n : ℕ) → IsTaken n r → ((s : State) (text : List ℕ) → sum_by commas (more s text) ≤ length text) →
    sum_by commas (records_next more r) ≤ n
next_short more None n h later = omega arith
next_short more (Some p) n h later = omega (arith, h.0, h.1, sum_by-cons commas p.0 (more p.1 p.2), later p.1 p.2, length-drop 1 p.0)

from_short : (cfg : Config) (k : ℕ) (s : State) (text : List ℕ) → sum_by commas (records_from cfg k s text) ≤ length text
unfolding records_from
from_short cfg zero s text = omega arith
from_short cfg (suc k) s text =
    next_short (records_from cfg k) (next_record cfg s [] [] text) (length text) (next_taken cfg s [] [] text (length text) (omega arith)) (from_short cfg k)

pub records_short : (text : List ℕ) → sum_by commas (records default_config text) ≤ length text
records_short text = from_short default_config (length text + 1) st.StartRecord text
