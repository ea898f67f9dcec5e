-- What a run takes, reads and writes. A shelf is seen by what was taken of its files, the bytes that it tells of them,
-- and its count of faults.
use Rattle.std.specs.Prelude.{◌≡◌, ◌≢◌, ◌⊎◌, ⊤, ℕ, ◌-◌, ◌<◌, ◌≤◌, List, [], ◌∷◌, ◌++◌, take, drop, map, length, Option, Some, None, IfSome, Result, IfOk, IfErr, codes}
use Rattle.std.specs.List.{AllZip}
use Rattle.std.specs.Io.KnownBytes.{Appends}
use Rattle.std.specs.Fmt.{decimal}
use Rattle.file_io.specs.Faults.{Rose}
use Rattle.file_io.specs.Taken.{Taken}
use Rattle.file_io.specs.Sink.{AppendsPrefix}
use Rattle.row_model.specs.declared.refusal.Refusal.{Refusal}
use Rattle.command_input.specs.Words.{Command, files_of}
use Rattle.pq_cli.specs.Replies.{refusable, refusal_of, Replies}
use Rattle.pq_cli.specs.Reading.{FitsTaken, OnlyReads}
use Rattle.pq_cli.specs.Stops.{reply_status}
use Rattle.pq_cli.specs.declared.stop.Stop.{Stop}
use Rattle.pq_cli.specs.declared.stop.Stop.TheVariants as stop
use Rattle.pq_cli.specs.declared.stop.Failure.{Failure}
use Rattle.pq_cli.specs.declared.stop.Failure.TheVariants as failure
use Rattle.verdict_replies.specs.declared.reply.Reply.{Reply}

-- these may be the bytes of the files that were taken
abbrev pub AllFit : List Taken → List (List ℕ) → Type 0
AllFit ts files = AllZip FitsTaken ts files

-- a fact about the bytes of the files that were taken
abbrev pub OfTaken : List Taken → (List (List ℕ) → Type 0) → Type 0
OfTaken ts P = (files : List (List ℕ)) → AllFit ts files → P files

-- where a shelf tells the bytes of a file, what was taken of it fits them
abbrev pub AgreesWith : (List ℕ → Option (List ℕ)) → List Taken → Type 0
AgreesWith told [] = ⊤
AgreesWith told (t ∷ ts) = IfSome (told t.name) (FitsTaken t) × AgreesWith told ts

-- what was taken since
abbrev pub taken_since : List Taken → List Taken → List Taken
taken_since before after = drop (length before) after

-- These files of a command were taken, its first ones, and no other: one or more where a file can't be read, and all of
-- them where there is a reply. A later file was taken only where those before it are not refused.
pub record TakesInTurn (told : List ℕ → Option (List ℕ)) (command : Command) (ts : List Taken) (status : ℕ) : Type 0 where
  pub few : length ts ≤ length (files_of command)
  pub names : map (λ t. t.name) ts ≡ take (length ts) (files_of command)
  pub agree : AgreesWith told ts
  pub on_fault : status ≡ 4 → 0 < length ts
  pub on_reply : status ≡ 0 ⊎ status ≡ 1 ⊎ status ≡ 5 → length ts ≡ length (files_of command)
  pub in_turn : 1 < length ts → OfTaken (take (length ts - 1) ts) (λ files. refusal_of command files ≡ None)

-- The file of this number, counted from 1, is the first of the command's files that is refused, and this is its
-- refusal. It is one of those that may be refused, and the last that was taken.
pub record EndsAtRefusal (command : Command) (ts : List Taken) (which : ℕ) (refusal : Refusal) : Type 0 where
  pub from : 1 ≤ which
  pub to : which ≤ refusable command
  pub last : length ts ≡ which
  pub first : OfTaken ts (λ files. refusal_of command files ≡ Some (which, refusal))

-- a refusal is the one at which the reading of the command's files ends
abbrev pub StopsAt : Command → List Taken → Stop → Type 0
StopsAt command ts (stop.Refused which refusal) = EndsAtRefusal command ts which refusal
StopsAt command ts stop.ReadFault = ⊤
StopsAt command ts stop.NoMemory = ⊤

-- the files of a command were taken in turn and only read, and the status 3 comes where one of them is refused
pub record TakesThese {S : Type 0} (content : S → List ℕ → Option (List ℕ)) (taken : S → List Taken) (faults : S → ℕ) (old new : S) (command : Command) (status : ℕ) (ts : List Taken) : Type 0 where
  pub takes : taken new ≡ taken old ++ ts
  pub asks : TakesInTurn (content old) command ts status
  pub shelf : OnlyReads content faults old new status
  pub refused : status ≡ 3 → (which : ℕ) × (refusal : Refusal) × EndsAtRefusal command ts which refusal

abbrev pub TakesFiles : {S : Type 0} → (S → List ℕ → Option (List ℕ)) → (S → List Taken) → (S → ℕ) → S → S → Command → ℕ → Type 0
TakesFiles content taken faults old new command status = TakesThese content taken faults old new command status (taken_since (taken old) (taken new))

-- A command ran up to its reply, which has status 0 or 1 and is one to the bytes of the files that were taken; or
-- something stood in its way.
pub record RunsOver {S : Type 0} (content : S → List ℕ → Option (List ℕ)) (taken : S → List Taken) (faults : S → ℕ) (old new : S) (command : Command) (result : Result Reply Stop) (ts : List Taken) : Type 0 where
  pub files : TakesThese content taken faults old new command (reply_status result) ts
  pub stop : IfErr result (StopsAt command ts)
  pub status : IfOk result (λ reply. (reply.status ≡ 0) ⊎ (reply.status ≡ 1))
  pub reply : IfOk result (λ reply. OfTaken ts (λ files. Replies command files reply.status reply.text.items))

abbrev pub RunsCommand : {S : Type 0} → (S → List ℕ → Option (List ℕ)) → (S → List Taken) → (S → ℕ) → S → S → Command → Result Reply Stop → Type 0
RunsCommand content taken faults old new command result = RunsOver content taken faults old new command result (taken_since (taken old) (taken new))

-- a reply was written whole, and the status is its
abbrev pub WritesReply : Command → List (List ℕ) → ℕ → Option (List ℕ) → Option (List ℕ) → Type 0
WritesReply command files status before after = (text : List ℕ) × Replies command files status text × Appends before after text

-- some first bytes of a reply were written
abbrev pub WritesPart : Command → List (List ℕ) → Option (List ℕ) → Option (List ℕ) → Type 0
WritesPart command files before after = (status : ℕ) × (text : List ℕ) × Replies command files status text × AppendsPrefix before after text

-- What was written with this status is the reply to a command over these files: all of it with the status of the reply,
-- or some first bytes of it with status 5.
pub record WritesOut (ts : List Taken) (command : Command) (before after : Option (List ℕ)) (status : ℕ) : Type 0 where
  pub whole : (status ≡ 0) ⊎ (status ≡ 1) → OfTaken ts (λ files. WritesReply command files status before after)
  pub cut_short : status ≡ 5 → OfTaken ts (λ files. WritesPart command files before after)

-- a sink's count of faults never falls; it rose where the status is 5, and changed nowhere else
pub record CountsWrites (before after status : ℕ) : Type 0 where
  pub later : before ≤ after
  pub fault : status ≡ 5 → Rose before after
  pub nowhere_else : after ≢ before → status ≡ 5

-- A line was offered to a sink: it got all of it, or its first bytes where it counted a fault. The count never falls.
pub record Offers (before after : Option (List ℕ)) (faults_before faults_after : ℕ) (line : List ℕ) : Type 0 where
  pub added : Appends before after line ⊎ (AppendsPrefix before after line × Rose faults_before faults_after)
  pub later : faults_before ≤ faults_after

-- the line that tells of a refusal: which file, the code of its cause, and the line of the file
abbrev pub refused_line : ℕ → Refusal → List ℕ
refused_line which refusal =
    codes "pq: refused " ++ (decimal which ++ (codes " code " ++ (decimal refusal.code ++ (codes " line " ++ (decimal refusal.line ++ codes "\n")))))

-- the line of what stood in the way of a reply
abbrev pub stop_line : Stop → List ℕ
stop_line (stop.Refused which refusal) = refused_line which refusal
stop_line stop.ReadFault = codes "pq: read fault\n"
stop_line stop.NoMemory = codes "pq: no memory\n"

-- the line of a failure
abbrev pub failure_line : Failure → List ℕ
failure_line failure.Words = codes "pq: words\n"
failure_line (failure.Stopped s) = stop_line s
failure_line failure.WriteFault = codes "pq: write fault\n"

-- The line that goes with a status which is no reply's. Status 3 tells which file is refused and how.
pub record IsLineOf (command : Option Command) (ts : List Taken) (status : ℕ) (line : List ℕ) : Type 0 where
  pub words : status ≡ 2 → line ≡ codes "pq: words\n"
  pub refused : status ≡ 3 → (which : ℕ) × (refusal : Refusal) × (line ≡ refused_line which refusal)
      × IfSome command (λ c. EndsAtRefusal c ts which refusal)
  pub read_fault : status ≡ 4 → line ≡ codes "pq: read fault\n"
  pub write_fault : status ≡ 5 → line ≡ codes "pq: write fault\n"
  pub no_memory : status ≡ 6 → line ≡ codes "pq: no memory\n"
