-- The frame of a command: its files are read in turn, and it ends with a reply or with what stood in its way.
use Rattle.std.proofs.Common.{◌≡◌, ◌≢◌, ◌⊎◌, ℕ, ◌<◌, ◌≤◌, ◌-◌, List, [], ◌∷◌, ◌++◌, length, take, drop, Option, Some, None, IfSome, inl, inr, arith, subst, sym, ◌∙◌, ap, append_assoc, append-nil, refl}
use Rattle.std.specs.Prelude.{Result, Ok, Err, IsErrAnd}
use Rattle.std.proofs.lemmas.Bool.{cases_eq}
use Rattle.std.proofs.Math.Seq.{drop-append_seam}
use Rattle.file_io.specs.Faults.{Rose}
use Rattle.file_io.specs.Taken.{Taken}
use Rattle.row_model.specs.declared.refusal.Refusal.{Refusal}
use Rattle.row_model.specs.declared.refusal.Read.{Read}
use Rattle.row_model.specs.declared.refusal.Read.TheVariants as read
use Rattle.command_input.specs.Words.{Command, files_of}
use Rattle.pq_cli.specs.Reading.{FitsTaken, OnlyReads, IsStopAt, ReadsFile}
use Rattle.pq_cli.specs.Replies.{refusable, refusal_of, Replies}
use Rattle.pq_cli.specs.Runs.{OfTaken, AgreesWith, taken_since, EndsAtRefusal, StopsAt, RunsOver, RunsCommand}
use Rattle.pq_cli.specs.Real.{names_taken}
use Rattle.pq_cli.specs.Stops.{stop_status}
use Rattle.pq_cli.specs.declared.stop.Stop.{Stop}
use Rattle.pq_cli.specs.declared.stop.Stop.TheVariants as stop
use Rattle.verdict_replies.specs.declared.reply.Reply.{Reply}

-- what was taken since is what came behind
pub since : (before after ts : List Taken) → after ≡ before ++ ts → taken_since before after ≡ ts
since before after ts e = ap (drop (length before)) e ∙ drop-append_seam before ts

-- what holds of the bytes of one file, or of two, holds of the files
pub one_fits : (t : Taken) (P : List (List ℕ) → Type 0) → ((bytes : List ℕ) → FitsTaken t bytes → P (bytes ∷ [])) → OfTaken (t ∷ []) P
one_fits t P holds [] f = absurd f
one_fits t P holds (bytes ∷ []) f = holds bytes f.0
one_fits t P holds (bytes ∷ more ∷ files) f = absurd f.1

pub two_fit : (t u : Taken) (P : List (List ℕ) → Type 0) → ((bytes given : List ℕ) → FitsTaken t bytes → FitsTaken u given → P (bytes ∷ given ∷ [])) → OfTaken (t ∷ u ∷ []) P
two_fit t u P holds [] f = absurd f
two_fit t u P holds (bytes ∷ []) f = absurd f.1
two_fit t u P holds (bytes ∷ given ∷ []) f = holds bytes given f.0 f.1.0
two_fit t u P holds (bytes ∷ given ∷ more ∷ files) f = absurd f.1.1

-- a file that a shelf tells by the name that was asked for
told_named : (told : List ℕ → Option (List ℕ)) (t : Taken) (name : List ℕ) → t.name ≡ name → IfSome (told name) (FitsTaken t) → IfSome (told t.name) (FitsTaken t)
told_named told t name named h = subst (λ n. IfSome (told n) (FitsTaken t)) (sym named) h

-- one reading after another
same_faults : (a b status : ℕ) → status ≡ 0 → (b ≢ a → status ≡ 4) → b ≡ a
same_faults a b status zero h = elim (cases_eq b a) [ inl e ↦ e | inr d ↦ absurd (omega (arith, zero, h d)) ]

-- the status of a reply is that of no fault
low : (status : ℕ) → (status ≡ 0) ⊎ (status ≡ 1) → status ≡ 4 → ⊥
low status either e = elim either [ inl z ↦ omega arith | inr o ↦ omega arith ]

-- of memory alone
only_memory : (s : Stop) → stop_status s ≡ 6 → s ≡ stop.NoMemory
only_memory (stop.Refused which refusal) e = absurd (omega arith)
only_memory stop.ReadFault e = absurd (omega arith)
only_memory stop.NoMemory e = refl

memory_ends : (c : Command) (ts : List Taken) (s : Stop) → stop_status s ≡ 6 → StopsAt c ts s
memory_ends c ts (stop.Refused which refusal) e = absurd (omega arith)
memory_ends c ts stop.ReadFault e = tt
memory_ends c ts stop.NoMemory e = tt

module _ {S : Type 0} (content : S → List ℕ → Option (List ℕ)) (taken : S → List Taken) (faults : S → ℕ) where
  reads_none : (s : S) (status : ℕ) → (status ≡ 4 → ⊥) → OnlyReads content faults s s status
  reads_none s status fine = record { unchanged = λ name. refl; later = omega arith; fault = λ e. absurd (fine e); nowhere_else = λ d. absurd (d refl) }

  reads_on : (a b d : S) (status : ℕ) → OnlyReads content faults a b 0 → OnlyReads content faults b d status → OnlyReads content faults a d status
  reads_on a b d status one two =
      let same : faults b ≡ faults a = same_faults (faults a) (faults b) 0 refl one.nowhere_else in
      record {
        unchanged = λ name. two.unchanged name ∙ one.unchanged name;
        later = omega (arith, one.later, two.later);
        fault = λ e. subst (λ n. Rose n (faults d)) same (two.fault e);
        nowhere_else = λ more. two.nowhere_else (λ e. more (e ∙ same));
      }

  -- a reading without a fault, whatever the status that follows
  pub reads_done : (a b : S) (status : ℕ) → (status ≡ 4 → ⊥) → OnlyReads content faults a b 0 → OnlyReads content faults a b status
  reads_done a b status fine one = reads_on a b b status one (reads_none b status fine)

  -- the files of a command, of which these were taken
  module _ (old new : S) (c : Command) (ts : List Taken) (few : length ts ≤ length (files_of c)) (names : names_taken ts ≡ take (length ts) (files_of c)) (takes : taken new ≡ taken old ++ ts)
      (told : AgreesWith (content old) ts) (earlier : 1 < length ts → OfTaken (take (length ts - 1) ts) (λ files. refusal_of c files ≡ None)) where
    over : (r : Result Reply Stop) → RunsOver content taken faults old new c r ts → RunsCommand content taken faults old new c r
    over r ran = subst (RunsOver content taken faults old new c r) (sym (since (taken old) (taken new) ts takes)) ran

    -- a stop at the last of them, or for memory behind them
    stopped : (s : Stop) → OnlyReads content faults old new (stop_status s) → ((s ≡ stop.NoMemory) ⊎ (0 < length ts)) → StopsAt c ts s → RunsCommand content taken faults old new c (Err s)
    stopped s reads at ends = over (Err s) (record {
      files = record {
        takes = takes;
        asks = record { few = few; names = names; agree = told; on_fault = fault s at; on_reply = λ e. absurd (no_reply s e); in_turn = earlier };
        shelf = reads;
        refused = refused s ends;
      };
      stop = ends;
      status = tt;
      reply = tt;
    })
      where
        fault : (s : Stop) → ((s ≡ stop.NoMemory) ⊎ (0 < length ts)) → stop_status s ≡ 4 → 0 < length ts
        fault (stop.Refused which refusal) at e = absurd (omega arith)
        fault stop.ReadFault at e = elim at [ inl full ↦ absurd (cc) | inr here ↦ here ]
        fault stop.NoMemory at e = absurd (omega arith)

        no_reply : (s : Stop) → (stop_status s ≡ 0) ⊎ (stop_status s ≡ 1) ⊎ (stop_status s ≡ 5) → ⊥
        no_reply (stop.Refused which refusal) e = grind arith
        no_reply stop.ReadFault e = grind arith
        no_reply stop.NoMemory e = grind arith

        refused : (s : Stop) → StopsAt c ts s → stop_status s ≡ 3 → (which : ℕ) × (refusal : Refusal) × EndsAtRefusal c ts which refusal
        refused (stop.Refused which refusal) ends e = (which, refusal, ends)
        refused stop.ReadFault ends e = absurd (omega arith)
        refused stop.NoMemory ends e = absurd (omega arith)

    -- a reply behind all files
    replied : (reply : Reply) → length ts ≡ length (files_of c) → OnlyReads content faults old new reply.status → (reply.status ≡ 0) ⊎ (reply.status ≡ 1)
        → OfTaken ts (λ files. Replies c files reply.status reply.text.items) → RunsCommand content taken faults old new c (Ok reply)
    replied reply all reads status says = over (Ok reply) (record {
      files = record {
        takes = takes;
        asks = record {
          few = few;
          names = names;
          agree = told;
          on_fault = λ e. absurd (two_statuses reply.status status (omega (arith, e)));
          on_reply = λ e. all;
          in_turn = earlier;
        };
        shelf = reads;
        refused = λ e. absurd (two_statuses reply.status status (omega (arith, e)));
      };
      stop = tt;
      status = status;
      reply = says;
    })
      where
        two_statuses : (status : ℕ) → (status ≡ 0) ⊎ (status ≡ 1) → 2 ≤ status → ⊥
        two_statuses status either high = elim either [ inl e ↦ omega arith | inr e ↦ omega arith ]

  -- what stood in the way is passed on
  passed_on : (old new : S) (c : Command) (r : Result Reply Stop) (s : Stop) → IsErrAnd r (λ t. t ≡ s) → RunsCommand content taken faults old new c (Err s) → RunsCommand content taken faults old new c r
  passed_on old new c (Ok reply) s h ran = absurd h
  passed_on old new c (Err t) s h ran = subst (λ k. RunsCommand content taken faults old new c (Err k)) (sym h) ran

  -- no file
  module _ (old : S) (c : Command) (none : files_of c ≡ []) where
    pub memory_alone : (r : Result Reply Stop) → IsErrAnd r (λ t. t ≡ stop.NoMemory) → RunsCommand content taken faults old old c r
    memory_alone r h =
        passed_on old old c r stop.NoMemory h
        (stopped old old c [] (omega arith) refl (sym (append-nil (taken old))) tt (λ h. absurd (omega arith)) stop.NoMemory (reads_none old 6 (λ e. omega arith)) (inl refl) tt)

    pub reply_alone : (reply : Reply) → (reply.status ≡ 0) ⊎ (reply.status ≡ 1) → Replies c [] reply.status reply.text.items → RunsCommand content taken faults old old c (Ok reply)
    reply_alone reply status says =
        replied old old c [] (omega arith) refl (sym (append-nil (taken old))) tt (λ h. absurd (omega arith)) reply (sym (ap length none)) (reads_none old reply.status (low reply.status status)) status at
      where
        at : OfTaken [] (λ files. Replies c files reply.status reply.text.items)
        at [] f = says
        at (bytes ∷ files) f = absurd f

  -- the first file stands in the way
  module _ {V : Type 0} (old new : S) (c : Command) (name : List ℕ) (rest : List (List ℕ)) (reads : List ℕ → Read V → Type 0) (holds : Read V → Type 0) (is : files_of c ≡ name ∷ rest) where
    pub first_stops : (s : Stop) → ReadsFile content taken faults old new name 1 reads holds (Err s)
        → ((refusal : Refusal) → holds (read.Refused refusal) → (1 ≤ refusable c) × ((bytes : List ℕ) → reads bytes (read.Refused refusal) → refusal_of c (bytes ∷ []) ≡ Some (1, refusal)))
        → (result : Result Reply Stop) → IsErrAnd result (λ t. t ≡ s) → RunsCommand content taken faults old new c result
    first_stops s took refuses result h =
        let t = took.0 in
        let r = took.1 in
        passed_on old new c result s h (elim r.asks [
          | inl one ↦ stopped old new c (t ∷ []) (omega (arith, ap length is)) (rw is (ap (λ n. n ∷ []) r.named)) one (told_named (content old) t name r.named r.told, tt) (λ h. absurd (omega arith)) s r.shelf
              (inr (omega arith)) (ends t s r.refused r.holds_of_refusal)
          | inr none ↦ stopped old new c [] (omega arith) refl (none.0 ∙ sym (append-nil (taken old))) tt (λ h. absurd (omega arith)) s r.shelf (inl (only_memory s none.1)) (memory_ends c [] s none.1)
        ])
      where
        ends : (t : Taken) (s : Stop) → ((bytes : List ℕ) → FitsTaken t bytes → IsStopAt 1 (reads bytes) s) → IsStopAt 1 holds s → StopsAt c (t ∷ []) s
        ends t (stop.Refused which refusal) judged held =
            let may = refuses refusal held.1 in
            subst (λ k. EndsAtRefusal c (t ∷ []) k refusal) (sym held.0) (record {
              from = omega arith;
              to = may.0;
              last = refl;
              first = one_fits t (λ files. refusal_of c files ≡ Some (1, refusal)) (λ bytes f. may.1 bytes (judged bytes f).1);
            })
        ends t stop.ReadFault judged held = tt
        ends t stop.NoMemory judged held = tt

  -- one file, which was read
  module _ {V : Type 0} (old new : S) (c : Command) (name : List ℕ) (reads : List ℕ → Read V → Type 0) (holds : Read V → Type 0) (value : V) (is : files_of c ≡ name ∷ [])
      (took : ReadsFile content taken faults old new name 1 reads holds (Ok value)) where
    begun : taken new ≡ taken old ++ took.0 ∷ []
    begun = elim took.1.asks [ inl one ↦ one | inr none ↦ absurd (omega (arith, none.1)) ]

    pub memory_after_one : (result : Result Reply Stop) → IsErrAnd result (λ t. t ≡ stop.NoMemory) → RunsCommand content taken faults old new c result
    memory_after_one result h =
        passed_on old new c result stop.NoMemory h
        (stopped old new c (took.0 ∷ []) (omega (arith, ap length is)) (rw is (ap (λ n. n ∷ []) took.1.named)) begun (told_named (content old) took.0 name took.1.named took.1.told, tt) (λ h. absurd (omega arith))
        stop.NoMemory (reads_done old new 6 (λ f. omega arith) took.1.shelf) (inl refl) tt)

    pub reply_after_one : (reply : Reply) → (reply.status ≡ 0) ⊎ (reply.status ≡ 1) → ((bytes : List ℕ) → reads bytes (read.Ok value) → Replies c (bytes ∷ []) reply.status reply.text.items)
        → RunsCommand content taken faults old new c (Ok reply)
    reply_after_one reply status says =
        replied old new c (took.0 ∷ []) (omega (arith, ap length is)) (rw is (ap (λ n. n ∷ []) took.1.named)) begun (told_named (content old) took.0 name took.1.named took.1.told, tt) (λ h. absurd (omega arith))
        reply (rw is refl) (reads_done old new reply.status (low reply.status status) took.1.shelf) status
        (one_fits took.0 (λ files. Replies c files reply.status reply.text.items) (λ bytes f. says bytes (took.1.value bytes f)))

  -- two files, of which the first was read
  module _ {V W : Type 0} (old mid new : S) (c : Command) (first second : List ℕ) (reads : List ℕ → Read V → Type 0) (holds : Read V → Type 0) (value : V)
      (reads_second : List ℕ → Read W → Type 0) (holds_second : Read W → Type 0) (is : files_of c ≡ first ∷ second ∷ [])
      (took : ReadsFile content taken faults old mid first 1 reads holds (Ok value))
      (fine : (bytes : List ℕ) → reads bytes (read.Ok value) → refusal_of c (bytes ∷ []) ≡ None) where
    begun_two : taken mid ≡ taken old ++ took.0 ∷ []
    begun_two = elim took.1.asks [ inl one ↦ one | inr none ↦ absurd (omega (arith, none.1)) ]

    both : (u : Taken) → taken new ≡ taken mid ++ u ∷ [] → taken new ≡ taken old ++ took.0 ∷ u ∷ []
    both u two = two ∙ ap (λ ts. ts ++ u ∷ []) begun_two ∙ append_assoc (taken old) (took.0 ∷ []) (u ∷ [])

    both_named : (u : Taken) → u.name ≡ second → names_taken (took.0 ∷ u ∷ []) ≡ take 2 (files_of c)
    both_named u named = rw is (ap (λ n. n ∷ u.name ∷ []) took.1.named ∙ ap (λ n. first ∷ n ∷ []) named)

    first_fits : OfTaken (took.0 ∷ []) (λ files. refusal_of c files ≡ None)
    first_fits = one_fits took.0 (λ files. refusal_of c files ≡ None) (λ bytes f. fine bytes (took.1.value bytes f))

    -- the second file is told as before the first was read
    both_told : (u : Taken) → u.name ≡ second → IfSome (content mid second) (FitsTaken u) → AgreesWith (content old) (took.0 ∷ u ∷ [])
    both_told u named h = (
      told_named (content old) took.0 first took.1.named took.1.told,
      (told_named (content old) u second named (subst (λ found. IfSome found (FitsTaken u)) (took.1.shelf.unchanged second) h), tt),
    )

    two_few : 2 ≤ length (files_of c)
    two_few = omega (arith, ap length is)

    pub second_stops : (s : Stop) → ReadsFile content taken faults mid new second 2 reads_second holds_second (Err s)
        → ((refusal : Refusal) → holds_second (read.Refused refusal) → (2 ≤ refusable c)
        × ((bytes given : List ℕ) → reads bytes (read.Ok value) → reads_second given (read.Refused refusal) → refusal_of c (bytes ∷ given ∷ []) ≡ Some (2, refusal)))
        → (result : Result Reply Stop) → IsErrAnd result (λ t. t ≡ s) → RunsCommand content taken faults old new c result
    second_stops s other refuses result h =
        let u = other.0 in
        let q = other.1 in
        let reading = reads_on old mid new (stop_status s) took.1.shelf q.shelf in
        passed_on old new c result s h (elim q.asks [
          | inl two ↦ stopped old new c (took.0 ∷ u ∷ []) two_few (both_named u q.named) (both u two) (both_told u q.named q.told) (λ h. first_fits) s reading (inr (omega arith)) (ends_second u s q.refused q.holds_of_refusal)
          | inr none ↦ stopped old new c (took.0 ∷ []) (omega (arith, two_few)) (rw is (ap (λ n. n ∷ []) took.1.named)) (none.0 ∙ begun_two) (told_named (content old) took.0 first took.1.named took.1.told, tt)
              (λ h. absurd (omega arith)) s reading (inl (only_memory s none.1)) (memory_ends c (took.0 ∷ []) s none.1)
        ])
      where
        ends_second : (u : Taken) (s : Stop) → ((bytes : List ℕ) → FitsTaken u bytes → IsStopAt 2 (reads_second bytes) s) → IsStopAt 2 holds_second s → StopsAt c (took.0 ∷ u ∷ []) s
        ends_second u (stop.Refused which refusal) judged held =
            let may = refuses refusal held.1 in
            subst (λ k. EndsAtRefusal c (took.0 ∷ u ∷ []) k refusal) (sym held.0) (record {
              from = omega arith;
              to = may.0;
              last = refl;
              first = two_fit took.0 u (λ files. refusal_of c files ≡ Some (2, refusal)) (λ bytes given f g. may.1 bytes given (took.1.value bytes f) (judged given g).1);
            })
        ends_second u stop.ReadFault judged held = tt
        ends_second u stop.NoMemory judged held = tt

    -- both files were read
    module _ (other : W) (also : ReadsFile content taken faults mid new second 2 reads_second holds_second (Ok other)) where
      begun_second : taken new ≡ taken mid ++ also.0 ∷ []
      begun_second = elim also.1.asks [ inl two ↦ two | inr none ↦ absurd (omega (arith, none.1)) ]

      reading_both : (status : ℕ) → (status ≡ 4 → ⊥) → OnlyReads content faults old new status
      reading_both status low = reads_done old new status low (reads_on old mid new 0 took.1.shelf also.1.shelf)

      pub memory_after_two : (result : Result Reply Stop) → IsErrAnd result (λ t. t ≡ stop.NoMemory) → RunsCommand content taken faults old new c result
      memory_after_two result h =
          passed_on old new c result stop.NoMemory h
          (stopped old new c (took.0 ∷ also.0 ∷ []) two_few (both_named also.0 also.1.named) (both also.0 begun_second) (both_told also.0 also.1.named also.1.told) (λ h. first_fits) stop.NoMemory
          (reading_both 6 (λ f. omega arith)) (inl refl) tt)

      pub reply_after_two : (reply : Reply) → (reply.status ≡ 0) ⊎ (reply.status ≡ 1)
          → ((bytes given : List ℕ) → reads bytes (read.Ok value) → reads_second given (read.Ok other) → Replies c (bytes ∷ given ∷ []) reply.status reply.text.items)
          → RunsCommand content taken faults old new c (Ok reply)
      reply_after_two reply status says =
          replied old new c (took.0 ∷ also.0 ∷ []) two_few (both_named also.0 also.1.named) (both also.0 begun_second) (both_told also.0 also.1.named also.1.told) (λ h. first_fits) reply (rw is refl)
          (reading_both reply.status (low reply.status status)) status
          (two_fit took.0 also.0 (λ files. Replies c files reply.status reply.text.items) (λ bytes given f g. says bytes given (took.1.value bytes f) (also.1.value given g)))
