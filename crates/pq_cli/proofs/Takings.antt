-- What is taken of one file.
use Rattle.std.proofs.Common.{◌≡◌, ◌≢◌, ◌≤◌, ℕ, Bool, true, false, List, [], ◌∷◌, ◌++◌, length, Option, Some, None, IfSome, inl, inr, arith, subst, sym, ◌∙◌, ap, append-nil, refl}
use Rattle.std.specs.Prelude.{Ok, Err}
use Rattle.std.proofs.lemmas.List.{length-append}
use Rattle.std.specs.Io.KnownBytes.{Consumes, IsAtEnd}
use Rattle.file_io.specs.Faults.{Rose}
use Rattle.file_io.specs.Shelf.{FailsOnlyIfRose, ChangedOnlyIfNotFound}
use Rattle.file_io.specs.Taken.{Taken, asked_for, handed_out, Asks}
use Rattle.file_io.specs.Whole.{FaultsOnlyIfRose, ChangedOnlyIfFault, IsWhole, IsAtMost, IsHandedOut, HandsOutPart}
use Rattle.file_io.specs.Through.{IsMadeOf}
use Rattle.file_io.specs.declared.error.ChooseError.{ChooseError}
use Rattle.file_io.specs.declared.error.ChooseError.TheVariants as choice
use Rattle.file_io.specs.declared.error.ReadFail.{ReadFail}
use Rattle.file_io.specs.declared.error.ReadFail.TheVariants as fail
use Rattle.file_io.specs.declared.reading.Whole.{Whole}
use Rattle.file_io.specs.declared.reading.Whole.TheVariants as whole
use Rattle.row_model.specs.declared.refusal.Read.{Read}
use Rattle.row_model.specs.declared.refusal.Read.TheVariants as read
use Rattle.pq_cli.specs.Reading.{FitsTaken, OnlyReads, ReadsAs, ReadsWhole, IsMadeWithin, value_of}
use Rattle.pq_cli.proofs.Frame.{reads_done}
use Rattle.pq_cli.specs.declared.stop.Stop.{Stop}

-- a file that was asked for, and then handed out a piece
abbrev pub took : List ℕ → List ℕ → Bool → Taken
took name piece ended = record { name = name; bytes = piece; ended = ended }

asked_on : (name piece : List ℕ) (ended : Bool) (ts : List Taken) → handed_out piece ended (asked_for name ts) ≡ ts ++ took name piece ended ∷ []
asked_on name piece ended [] = refl
asked_on name piece ended (t ∷ []) = refl
asked_on name piece ended (t ∷ u ∷ ts) = ap (λ us. t ∷ us) (asked_on name piece ended (u ∷ ts))

-- of nothing any bytes may be
pub nothing_fits : (told : Option (List ℕ)) (name : List ℕ) → IfSome told (FitsTaken (took name [] false))
nothing_fits None name = tt
nothing_fits (Some bytes) name = record { begins = (bytes, refl); whole = λ e. absurd (cc) }

-- what was consumed fits the bytes that are told
consumed_fits : (told left : Option (List ℕ)) (name piece : List ℕ) (ended : Bool) → Consumes told left piece → (ended ≡ true → IsAtEnd left) → IfSome told (FitsTaken (took name piece ended))
consumed_fits None left name piece ended p end = tt
consumed_fits (Some bytes) None name piece ended p end = absurd p
consumed_fits (Some bytes) (Some rest) name piece ended p end =
    record { begins = (rest, p); whole = λ e. p ∙ ap (λ l. piece ++ l) (end e) ∙ append-nil piece }

pub part_taken : (told left_mid left_new : Option (List ℕ)) (before mid after : List Taken) (name piece : List ℕ) (ended : Bool) → mid ≡ asked_for name before → left_mid ≡ told
    → HandsOutPart left_mid left_new mid after piece ended → (after ≡ before ++ took name piece ended ∷ []) × IfSome told (FitsTaken (took name piece ended))
part_taken told left_mid left_new before mid after name piece ended asked chosen part = (
  part.taken ∙ ap (handed_out piece ended) asked ∙ asked_on name piece ended before,
  consumed_fits told left_new name piece ended (subst (λ l. Consumes l left_new piece) chosen part.consumed) part.end,
)

-- a read that failed behind the choice of a file handed out a part of it
pub part_read : {S W : Type 0} (content : S → List ℕ → Option (List ℕ)) (taken : S → List Taken) (faults : S → ℕ) (left : S → Option (List ℕ)) (old mid new : S) (name piece : List ℕ) (ended : Bool)
    (is_of : List ℕ → W → Type 0) (s : Stop) → taken mid ≡ asked_for name (taken old) → left mid ≡ content old name → HandsOutPart (left mid) (left new) (taken mid) (taken new) piece ended
    → (t : Taken) × ReadsWhole content taken faults old new name is_of (Err s) t
part_read content taken faults left old mid new name piece ended is_of s asked chosen part =
    let p = part_taken (content old name) (left mid) (left new) (taken old) (taken mid) (taken new) name piece ended asked chosen part in
    (took name piece ended, record { asks = inl p.0; named = refl; told = p.1; whole = tt })

-- a file was chosen without a fault, and then read
pub chosen_and_read : {S : Type 0} (content : S → List ℕ → Option (List ℕ)) (faults : S → ℕ) (old mid new : S) (status : ℕ) → ((name : List ℕ) → content mid name ≡ content old name)
    → faults mid ≡ faults old → ((name : List ℕ) → content new name ≡ content mid name) → faults mid ≤ faults new → (status ≡ 4 → Rose (faults mid) (faults new))
    → (faults new ≢ faults mid → status ≡ 4) → OnlyReads content faults old new status
chosen_and_read content faults old mid new status chosen same read later fault nowhere =
    record {
      unchanged = λ name. read name ∙ chosen name;
      later = omega (arith, later, same);
      fault = λ e. subst (λ n. Rose n (faults new)) same (fault e);
      nowhere_else = λ more. nowhere (λ e. more (e ∙ same));
    }

-- a choice that fails asks for the file, and one that lacks memory for none
pub choice_fails : (before after : List Taken) (name : List ℕ) (e : ChooseError) → e ≡ choice.Failed → Asks {T = ℕ} before after name (Err e) → after ≡ asked_for name before
choice_fails before after name choice.Failed is h = h
choice_fails before after name choice.NoMemory is h = absurd (cc)

pub choice_faults : (before now : ℕ) (e : ChooseError) → e ≡ choice.Failed → FailsOnlyIfRose {T = ℕ} before now (Err e) → Rose before now
choice_faults before now choice.Failed is h = h
choice_faults before now choice.NoMemory is h = absurd (cc)

pub choice_lacks : (before after : List Taken) (name : List ℕ) (e : ChooseError) → e ≡ choice.NoMemory → Asks {T = ℕ} before after name (Err e) → after ≡ before
choice_lacks before after name choice.Failed is h = absurd (cc)
choice_lacks before after name choice.NoMemory is h = h

pub choice_stands : (before now : ℕ) (e : ChooseError) → e ≡ choice.NoMemory → ChangedOnlyIfNotFound {T = ℕ} before now (Err e) → now ≡ before
choice_stands before now choice.Failed is h = absurd (cc)
choice_stands before now choice.NoMemory is h = h

-- a read fails with a fault, or lacks memory
pub read_faults : (before now : ℕ) (e : ReadFail) → e ≡ fail.Fault → FaultsOnlyIfRose {T = ℕ} before now (Err e) → Rose before now
read_faults before now fail.Fault is h = h
read_faults before now fail.NoMemory is h = absurd (cc)

pub read_stands : (before now : ℕ) (e : ReadFail) → e ≡ fail.NoMemory → ChangedOnlyIfFault {T = ℕ} before now (Err e) → now ≡ before
read_stands before now fail.Fault is h = absurd (cc)
read_stands before now fail.NoMemory is h = h

-- what was handed out whole is read whole
pub handed_whole : (limit : ℕ) (name piece : List ℕ) (ended : Bool) (w : Whole) → IsHandedOut limit piece ended w → IsAtMost limit w → (bytes : List ℕ) → FitsTaken (took name piece ended) bytes → IsWhole limit bytes w
handed_whole limit name piece ended (whole.Bytes items) h most bytes f =
    let same = f.whole h.1 ∙ sym h.0 in
    (sym same, omega (arith, most, ap length same))
handed_whole limit name piece ended whole.TooLong h most bytes f = omega (arith, h, ap length f.begins.1, length-append piece f.begins.0)

pub handed_through : {M : Type 0} (limit : ℕ) (makes : List ℕ → M → Type 0) (name piece : List ℕ) (ended : Bool) (made : Option M) → IsMadeOf limit makes piece ended made
    → (bytes : List ℕ) → FitsTaken (took name piece ended) bytes → IsMadeWithin limit makes bytes made
handed_through limit makes name piece ended (Some made) h bytes f =
    let same : bytes ≡ piece = f.whole h.0 in
    subst (λ b. IsMadeWithin limit makes b (Some made)) (sym same) (h.1, h.2)
handed_through limit makes name piece ended None h bytes f = omega (arith, h, ap length f.begins.1, length-append piece f.begins.0)

-- what was taken of a file may be all of it
pub fits_itself : (t : Taken) → FitsTaken t t.bytes
fits_itself t = record { begins = ([], sym (append-nil t.bytes)); whole = λ e. refl }

-- a file that was read whole, and then by its form
module _ {S V W : Type 0} (content : S → List ℕ → Option (List ℕ)) (taken : S → List Taken) (faults : S → ℕ) (old new : S) (name : List ℕ) (is_of : List ℕ → W → Type 0) (which : ℕ) (reads : List ℕ → Read V → Type 0) (holds : Read V → Type 0)
    (w : W) (t : Taken) (one : ReadsWhole content taken faults old new name is_of (Ok w) t) (only : OnlyReads content faults old new 0) where
  begun : taken new ≡ taken old ++ t ∷ []
  begun = elim one.asks [ inl first ↦ first | inr none ↦ absurd (omega (arith, none.1)) ]

  pub read_by_form : (made : Read V) → ((bytes : List ℕ) → is_of bytes w → reads bytes made) → holds made → ReadsAs content taken faults old new name which reads holds (value_of which made) t
  read_by_form (read.Ok value) judged held =
      record {
        asks = inl begun;
        named = one.named;
        told = one.told;
        shelf = only;
        value = λ bytes f. judged bytes (one.whole bytes f);
        refused = tt;
        holds_of_value = held;
        holds_of_refusal = tt;
      }
  read_by_form (read.Refused refusal) judged held =
      record {
        asks = inl begun;
        named = one.named;
        told = one.told;
        shelf = reads_done content taken faults old new 3 (λ e. omega arith) only;
        value = tt;
        refused = λ bytes f. (refl, judged bytes (one.whole bytes f));
        holds_of_value = tt;
        holds_of_refusal = (refl, held);
      }
