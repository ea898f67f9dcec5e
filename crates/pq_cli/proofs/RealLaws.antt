-- What is said of the files and streams of the system.
use Rattle.std.proofs.Common.{◌≡◌, ◌≢◌, ◌⊎◌, ℕ, List, [], ◌∷◌, Option, None, Some, IfSome, subst, sym, refl, append-nil}
use Rattle.file_io.specs.Taken.{Taken}
use Rattle.command_input.specs.Words.{Command}
use Rattle.pq_cli.specs.Replies.{refusal_of}
use Rattle.pq_cli.specs.Reading.{FitsTaken}
use Rattle.pq_cli.specs.Runs.{AllFit, OfTaken, AgreesWith, taken_since, WritesOut, TakesFiles}
use Rattle.pq_cli.specs.Real.{names_taken, bytes_taken, RepliesTo}
use Rattle.pq_cli.specs.Told.{AllTold}

pub own_fits : (ts : List Taken) → AllFit ts (bytes_taken ts)
own_fits [] = tt
own_fits (t ∷ ts) = (record { begins = ([], sym (append-nil t.bytes)); whole = λ e. refl }, own_fits ts)

pub told_fits : (told : List ℕ → Option (List ℕ)) (ts : List Taken) (files : List (List ℕ)) → AgreesWith told ts → AllTold told (names_taken ts) files → AllFit ts files
told_fits told [] [] agree all = tt
told_fits told [] (bytes ∷ files) agree all = absurd all
told_fits told (t ∷ ts) [] agree all = absurd all
told_fits told (t ∷ ts) (bytes ∷ files) agree all = (subst (λ found. IfSome found (FitsTaken t)) all.0 agree.0, told_fits told ts files agree.1 all.1)

pub replies : (found : Option Command) (ts : List Taken) (before after : List ℕ) (status : ℕ) → IfSome found (λ c. WritesOut ts c (Some before) (Some after) status) → (status ≡ 0) ⊎ (status ≡ 1)
    → IfSome found (λ c. OfTaken ts (RepliesTo c status before after))
replies None ts before after status written either = tt
replies (Some c) ts before after status written either = written.whole either

module _ {S : Type 0} (content : S → List ℕ → Option (List ℕ)) (taken : S → List Taken) (faults : S → ℕ) (old new : S) where
  pub refused : (found : Option Command) (status : ℕ) → IfSome found (λ c. TakesFiles content taken faults old new c status) → status ≡ 3
      → IfSome found (λ c. OfTaken (taken_since (taken old) (taken new)) (λ files. refusal_of c files ≢ None))
  refused None status takes three = tt
  refused (Some c) status takes three = λ files f none.
      let ends = takes.refused three in
      let found : refusal_of c files ≡ Some (ends.0, ends.1) = ends.2.first files f in
      absurd (cc)
