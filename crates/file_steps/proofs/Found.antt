-- What holds of the value that a reader gives.
use Rattle.std.proofs.Common.{◌≡◌, ℕ, ◌+◌, ◌≤◌, Bool, true, false, if◌then◌else◌, nat_lt, List, [], ◌∷◌, length, sum_by, Option, Some, None, Result, Ok, Err, refl, subst, arith}
use Rattle.std.proofs.lemmas.List.Sums.{sum_by-cons}
use Rattle.row_model.specs.Limits.{within_length}
use Rattle.row_model.specs.declared.TheConstants.{MAX_FILE_BYTES}
use Rattle.row_model.specs.declared.refusal.Refusal.{Refusal}
use Rattle.row_model.specs.declared.refusal.Read.{Read}
use Rattle.row_model.specs.declared.refusal.Read.TheVariants as read
use Rattle.text_lines.specs.Heads.{if_head, from_head}
use Rattle.text_lines.specs.Lines.{NumberedLine}
use Rattle.text_lines.specs.Rows.{refused_or}
use Rattle.command_input.specs.Instances.{map_read, IfRead}
use Rattle.file_steps.proofs.Lines.{line_room, AreFilled}

-- a value that is read
pub of_read : {T : Type 0} (P : T → Type 0) (r : Read T) (value : T) → r ≡ read.Ok value → IfRead r P → P value
of_read P r value e h = subst (λ r. IfRead r P) e h

-- of a file within the limit
unless_long : {T : Type 0} (P : T → Type 0) (t : Bool) (refusal : Refusal) (inside : Read T) → IfRead inside P → IfRead (if t then read.Refused refusal else inside) P
unless_long P true refusal inside h = tt
unless_long P false refusal inside h = h

pub within_read : {T : Type 0} (P : T → Type 0) (bytes : List ℕ) (inside : Read T) → IfRead inside P → IfRead (within_length bytes inside) P
within_read P bytes inside h = unless_long P (nat_lt MAX_FILE_BYTES (length bytes)) _ inside h

-- of what is not refused
pub refused_read : {T : Type 0} (P : T → Type 0) (refusal : Option Refusal) (value : T) → (refusal ≡ None → P value) → IfRead (refused_or refusal value) P
refused_read P (Some refusal) value h = tt
refused_read P None value h = h refl

-- of lines behind a head, which are fewer than all
head_given : {H T : Type 0} (P : T → Type 0) (number : ℕ) (head : Result H ℕ) (rest : H → Read T) → ((h : H) → IfRead (rest h) P) → IfRead (if_head number head rest) P
head_given P number (Ok h) rest each = each h
head_given P number (Err code) rest each = tt

pub head_read : {H T : Type 0} (P : T → Type 0) (head_of : List ℕ → Result H ℕ) (rest : H → List NumberedLine → Read T) (lines : List NumberedLine) (n : ℕ) → sum_by line_room lines ≤ n + 1 →
    ((h : H) (later : List NumberedLine) → sum_by line_room later ≤ n → IfRead (rest h later) P) → IfRead (from_head head_of rest lines) P
head_read P head_of rest [] n few each = tt
head_read P head_of rest (first ∷ lines) n few each =
    head_given P first.number (head_of first.text) (λ h. rest h lines) (λ h. each h lines (omega (arith, few, sum_by-cons line_room first lines)))

-- where no line is blank, the head has a byte
pub filled_read : {H T : Type 0} (P : T → Type 0) (head_of : List ℕ → Result H ℕ) (rest : H → List NumberedLine → Read T) (lines : List NumberedLine) (n : ℕ) → AreFilled lines →
    sum_by line_room lines ≤ n + 1 → ((h : H) (later : List NumberedLine) → sum_by line_room later + 1 ≤ n → IfRead (rest h later) P) → IfRead (from_head head_of rest lines) P
filled_read P head_of rest [] n filled few each = tt
filled_read P head_of rest (first ∷ lines) n filled few each =
    head_given P first.number (head_of first.text) (λ h. rest h lines) (λ h. each h lines (omega (arith, filled.0, few, sum_by-cons line_room first lines)))

-- of what is made of it
pub map_found : {A B : Type 0} (P : B → Type 0) (f : A → B) (r : Read A) → IfRead r (λ a. P (f a)) → IfRead (map_read f r) P
map_found P f (read.Ok value) h = h
map_found P f (read.Refused refusal) h = tt

-- of it more may be known
pub more_found : {T : Type 0} (P Q : T → Type 0) → ((value : T) → P value → Q value) → (r : Read T) → IfRead r P → IfRead r Q
more_found P Q f (read.Ok value) h = f value h
more_found P Q f (read.Refused refusal) h = tt
