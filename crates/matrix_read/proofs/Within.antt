-- A matrix that is read is within the limits.
use Rattle.std.proofs.Common.{◌≡◌, ℕ, ◌<◌, ◌≤◌, ◌+◌, Bool, true, false, nat_le, nat_lt, if◌then◌else◌, List, [], ◌∷◌, length, Option, Some, None, refl, subst, arith}
use Rattle.std.proofs.lemmas.Bool.{leb-false}
use Rattle.row_model.specs.declared.refusal.Refusal.{Refusal}
use Rattle.row_model.specs.declared.refusal.Read.{Read}
use Rattle.row_model.specs.declared.refusal.Read.TheVariants as read
use Rattle.row_model.specs.declared.TheConstants.{MAX_ROWS, MAX_FILE_BYTES}
use Rattle.row_model.specs.declared.code.TheConstants.{LIMIT}
use Rattle.row_model.specs.Rows.{RowList}
use Rattle.matrix_read.specs.Limits.{IsWithinLimits}
use Rattle.text_lines.specs.Lines.{NumberedLine}
use Rattle.text_lines.specs.Rows.{refusal_or, refused_or, first_refusal}
use Rattle.row_model.specs.Limits.{within_length}

-- a matrix is read of bytes within the limit of the length alone
short_read : (long : Bool) (inside : Read RowList) (m : RowList) → (if long then read.Refused (record { code = LIMIT; line = 0 }) else inside) ≡ read.Ok m → inside ≡ read.Ok m
short_read true inside m e = absurd (cc)
short_read false inside m e = e

pub inside_read : (bytes : List ℕ) (inside : Read RowList) (m : RowList) → within_length bytes inside ≡ read.Ok m → inside ≡ read.Ok m
inside_read bytes inside m e = short_read (nat_lt MAX_FILE_BYTES (length bytes)) inside m e

-- a matrix is read where nothing is refused
pub ok_within : (refusal : Option Refusal) (n m : RowList) → refused_or refusal n ≡ read.Ok m → (refusal ≡ None → IsWithinLimits n) → IsWithinLimits m
ok_within (Some refusal) n m e within = absurd (cc)
ok_within None n m e within = let same : n ≡ m = cc in subst IsWithinLimits same (within refl)

-- neither the first nor a later one is refused
pub none_first : (code : Option ℕ) (number : ℕ) (rest : Option Refusal) → refusal_or code number rest ≡ None → (code ≡ None) × (rest ≡ None)
none_first (Some code) number rest h = absurd (cc)
none_first None number rest h = (refl, h)

-- the first test on a row asks for room
first_test : (fails : Bool) (code : ℕ) (rest : Option ℕ) → (if fails then Some code else rest) ≡ None → fails ≡ false
first_test true code rest h = absurd (cc)
first_test false code rest h = refl

pub has_room : (before : ℕ) (rest : Option ℕ) → (if nat_le MAX_ROWS before then Some LIMIT else rest) ≡ None → before < MAX_ROWS
has_room before rest h = leb-false MAX_ROWS before (first_test (nat_le MAX_ROWS before) LIMIT rest h)

-- lines of which none is refused are no more than there may be rows
pub few_lines : (code_of : ℕ → List ℕ → Option ℕ) → ((before : ℕ) (line : List ℕ) → code_of before line ≡ None → before < MAX_ROWS)
    → (before : ℕ) (lines : List NumberedLine) → first_refusal code_of before lines ≡ None → before ≤ MAX_ROWS → before + length lines ≤ MAX_ROWS
unfolding first_refusal
few_lines code_of room before [] h le = omega arith
few_lines code_of room before (line ∷ lines) h le =
    let both = none_first (code_of before line.text) line.number (first_refusal code_of (before + 1) lines) h in
    let free : before < MAX_ROWS = room before line.text both.0 in
    let later : before + 1 + length lines ≤ MAX_ROWS = few_lines code_of room (before + 1) lines both.1 (omega arith) in
    omega arith
