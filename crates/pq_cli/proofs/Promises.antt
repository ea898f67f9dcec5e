-- What a run promises where nothing fails.
use Rattle.std.proofs.Common.{◌≡◌, ◌≢◌, ◌⊎◌, ◌↔◌, ℕ, ◌≤◌, List, [], ◌∷◌, Option, Some, None, inl, inr, refl, ◌∙◌, ap, arith, IfSome}
use Rattle.std.specs.Prelude.{IsNone, Result, Ok, Err, IfOk, IfErr}
use Rattle.std.proofs.lemmas.Bool.{cases_eq}
use Rattle.matrix_read.specs.Sparse.{further}
use Rattle.instance_model.specs.Instance.{InstanceValue, derived_matrix}
use Rattle.command_input.specs.Words.{Command, Solve, Check, Extend, Gen, Meet, ListOrders, UnitModel, CheckUnit, Core, CheckCore}
use Rattle.pq_cli.specs.Replies.{refused_at, refused_of_two, refusal_of, Replies}
use Rattle.file_io.specs.Taken.{Taken}
use Rattle.pq_cli.specs.Runs.{AllFit, OfTaken, taken_since, TakesFiles, WritesOut, CountsWrites, failure_line}
use Rattle.command_input.specs.TreeFiles.{tree_file}
use Rattle.pq_cli.specs.Stops.{stop_status, failure_status, run_status}
use Rattle.pq_cli.specs.Promise.{NothingFails, WhereWellFormed, Completes, KeepsPromise}
use Rattle.pq_cli.specs.Promised.{PromiseLaw}
use Rattle.pq_cli.specs.Answer.{IsAnswer, AnswerLaw}
use Rattle.pq_cli.specs.declared.stop.Stop.{Stop}
use Rattle.pq_cli.specs.declared.stop.Stop.TheVariants as stop
use Rattle.pq_cli.specs.declared.stop.Failure.{Failure}
use Rattle.pq_cli.specs.declared.stop.Failure.TheVariants as failure

-- where there is a reply, no file is refused
replied_unrefused : (c : Command) (files : List (List ℕ)) (status : ℕ) (text : List ℕ) → Replies c files status text → refusal_of c files ≡ None
unfolding Replies
replied_unrefused (Gen seed columns rows) [] status text reply = refl
replied_unrefused (Gen seed columns rows) (bytes ∷ files) status text reply = absurd reply
replied_unrefused (Solve kind name) [] status text reply = absurd reply
replied_unrefused (Solve kind name) (bytes ∷ []) status text reply = ap (refused_at 1) reply.1
replied_unrefused (Solve kind name) (bytes ∷ more ∷ files) status text reply = absurd reply
replied_unrefused (Core kind name) [] status text reply = absurd reply
replied_unrefused (Core kind name) (bytes ∷ []) status text reply = ap (refused_at 1) reply.1
replied_unrefused (Core kind name) (bytes ∷ more ∷ files) status text reply = absurd reply
replied_unrefused (ListOrders kind name count) [] status text reply = absurd reply
replied_unrefused (ListOrders kind name count) (bytes ∷ []) status text reply = ap (refused_at 1) reply.1
replied_unrefused (ListOrders kind name count) (bytes ∷ more ∷ files) status text reply = absurd reply
replied_unrefused (UnitModel name) [] status text reply = absurd reply
replied_unrefused (UnitModel name) (bytes ∷ []) status text reply = ap (refused_at 1) reply.1
replied_unrefused (UnitModel name) (bytes ∷ more ∷ files) status text reply = absurd reply
replied_unrefused (Check kind name other) [] status text reply = absurd reply
replied_unrefused (Check kind name other) (bytes ∷ []) status text reply = absurd reply
replied_unrefused (Check kind name other) (bytes ∷ given ∷ []) status text reply = ap (refused_at 1) reply.1
replied_unrefused (Check kind name other) (bytes ∷ given ∷ more ∷ files) status text reply = absurd reply
replied_unrefused (CheckCore kind name other) [] status text reply = absurd reply
replied_unrefused (CheckCore kind name other) (bytes ∷ []) status text reply = absurd reply
replied_unrefused (CheckCore kind name other) (bytes ∷ given ∷ []) status text reply = ap (refused_at 1) reply.1
replied_unrefused (CheckCore kind name other) (bytes ∷ given ∷ more ∷ files) status text reply = absurd reply
replied_unrefused (CheckUnit name other) [] status text reply = absurd reply
replied_unrefused (CheckUnit name other) (bytes ∷ []) status text reply = absurd reply
replied_unrefused (CheckUnit name other) (bytes ∷ given ∷ []) status text reply = ap (refused_at 1) reply.1
replied_unrefused (CheckUnit name other) (bytes ∷ given ∷ more ∷ files) status text reply = absurd reply
replied_unrefused (Extend kind name other) [] status text reply = absurd reply
replied_unrefused (Extend kind name other) (bytes ∷ []) status text reply = absurd reply
replied_unrefused (Extend kind name other) (bytes ∷ given ∷ []) status text reply = ap (λ first. refused_of_two first (λ (i : InstanceValue). further (derived_matrix i 1).columns given)) reply.2 ∙ ap (refused_at 2) reply.3
replied_unrefused (Extend kind name other) (bytes ∷ given ∷ more ∷ files) status text reply = absurd reply
replied_unrefused (Meet c name other) [] status text reply = absurd reply
replied_unrefused (Meet c name other) (bytes ∷ []) status text reply = absurd reply
replied_unrefused (Meet c name other) (bytes ∷ given ∷ []) status text reply =
    ap (λ first. refused_of_two first (λ _. tree_file c given)) reply.2 ∙ ap (refused_at 2) reply.3
replied_unrefused (Meet c name other) (bytes ∷ given ∷ more ∷ files) status text reply = absurd reply

-- the statuses that are left
left_statuses : (status : ℕ) → status ≤ 6 → status ≢ 2 → status ≢ 4 → status ≢ 5 → status ≢ 6 → (status ≡ 0) ⊎ (status ≡ 1) ⊎ (status ≡ 3)
left_statuses status most two four five six =
    elim (cases_eq status 0) [
      | inl zero ↦ inl zero
      | inr more ↦ elim (cases_eq status 1) [ inl one ↦ inr (inl one) | inr other ↦ inr (inr (omega (arith, most, two, four, five, six, more, other))) ]
    ]

-- the status of a reply, and those of what stands in the way
pub reply_low : (status : ℕ) → (status ≡ 0) ⊎ (status ≡ 1) → status ≤ 6
reply_low status either = elim either [ inl zero ↦ omega (arith, zero) | inr one ↦ omega (arith, one) ]

stop_low : (s : Stop) → stop_status s ≤ 6
stop_low (stop.Refused which refusal) = omega arith
stop_low stop.ReadFault = omega arith
stop_low stop.NoMemory = omega arith

pub failure_low : (f : Failure) → failure_status f ≤ 6
failure_low failure.Words = omega arith
failure_low (failure.Stopped s) = stop_low s
failure_low failure.WriteFault = omega arith

-- a run, by what it reads and writes
module _ {S : Type 0} (content : S → List ℕ → Option (List ℕ)) (taken : S → List Taken) (faults : S → ℕ) (old new : S) (before after : Option (List ℕ)) (writes_before writes_after status : ℕ) where
  abbrev ts : List Taken
  ts = taken_since (taken old) (taken new)

  completed : (c : Command) → TakesFiles content taken faults old new c status → WritesOut ts c before after status → CountsWrites writes_before writes_after status → status ≤ 6 → status ≢ 2
      → NothingFails (faults old) (faults new) writes_before writes_after status → Completes ts c before after status
  completed c takes written counted most words nothing =
      record {
        ends = left;
        refused = λ files f is. elim left [
          | inl zero ↦ absurd (is (no_refusal (inl zero) files f))
          | inr (inl one) ↦ absurd (is (no_refusal (inr one) files f))
          | inr (inr three) ↦ three
        ];
        answered = answered;
        reply = λ files f none. written.whole (answered files f none) files f;
      }
    where
      left : (status ≡ 0) ⊎ (status ≡ 1) ⊎ (status ≡ 3)
      left = left_statuses status most words (λ e. nothing.reads (takes.shelf.fault e)) (λ e. nothing.writes (counted.fault e)) nothing.memory

      no_refusal : (status ≡ 0) ⊎ (status ≡ 1) → (files : List (List ℕ)) → AllFit ts files → refusal_of c files ≡ None
      no_refusal either files f = let reply = written.whole either files f in replied_unrefused c files status reply.0 reply.1

      answered : WhereWellFormed ts c (λ files. (status ≡ 0) ⊎ (status ≡ 1))
      answered files f none =
          elim left [
            | inl zero ↦ inl zero
            | inr (inl one) ↦ inr one
            | inr (inr three) ↦
                let ends = takes.refused three in
                let found : refusal_of c files ≡ Some (ends.0, ends.1) = ends.2.first files f in
                absurd (cc)
          ]

  pub complete : (found : Option Command) → IfSome found (λ c. TakesFiles content taken faults old new c status) → IfSome found (λ c. WritesOut ts c before after status)
      → CountsWrites writes_before writes_after status → status ≤ 6 → ((status ≡ 2) ↔ IsNone found)
      → IfSome found (λ c. NothingFails (faults old) (faults new) writes_before writes_after status → Completes ts c before after status)
  complete None takes written counted most words = tt
  complete (Some c) takes written counted most words = completed c takes written counted most (λ e. let none : IsNone (Some c) = words.0 e in absurd (cc))

  pub promise : PromiseLaw → (found : Option Command)
      → IfSome found (λ c. NothingFails (faults old) (faults new) writes_before writes_after status → Completes ts c before after status)
      → IfSome found (λ c. NothingFails (faults old) (faults new) writes_before writes_after status → KeepsPromise ts c before after status)
  promise law None ended = tt
  promise law (Some c) ended = λ nothing files f none. let reply = (ended nothing).reply files f none in (reply.0, reply.2, law c files status reply.0 reply.1)

-- what the status of a run answers
pub answer : AnswerLaw → (found : Option Command) (ts : List Taken) (before after : Option (List ℕ)) (status : ℕ) → IfSome found (λ c. WritesOut ts c before after status) → (status ≡ 0) ⊎ (status ≡ 1)
    → IfSome found (λ c. OfTaken ts (λ files. IsAnswer c files status))
answer law None ts before after status written either = tt
answer law (Some c) ts before after status written either = λ files fit. let w = written.whole either files fit in law c files status w.0 w.1

-- a failure has no such status
failed_low : (f : Failure) → (failure_status f ≡ 0) ⊎ (failure_status f ≡ 1) → ⊥
failed_low failure.Words either = elim either [ inl e ↦ omega (arith, e) | inr e ↦ omega (arith, e) ]
failed_low (failure.Stopped (stop.Refused which refusal)) either = elim either [ inl e ↦ omega (arith, e) | inr e ↦ omega (arith, e) ]
failed_low (failure.Stopped stop.ReadFault) either = elim either [ inl e ↦ omega (arith, e) | inr e ↦ omega (arith, e) ]
failed_low (failure.Stopped stop.NoMemory) either = elim either [ inl e ↦ omega (arith, e) | inr e ↦ omega (arith, e) ]
failed_low failure.WriteFault either = elim either [ inl e ↦ omega (arith, e) | inr e ↦ omega (arith, e) ]

-- a run, by how it ended: with the status of a reply, or with a failure
pub run_low : (ended : Result ℕ Failure) → IfOk ended (λ status. (status ≡ 0) ⊎ (status ≡ 1)) → run_status ended ≤ 6
run_low (Ok status) either = reply_low status either
run_low (Err f) either = failure_low f

pub run_quiet : (ended : Result ℕ Failure) (P : Type 0) → IfOk ended (λ status. P) → (run_status ended ≡ 0) ⊎ (run_status ended ≡ 1) → P
run_quiet (Ok status) P quiet either = quiet
run_quiet (Err f) P quiet either = absurd (failed_low f either)

pub run_tells : (ended : Result ℕ Failure) (P Q : ℕ → List ℕ → Type 0) → IfOk ended (λ status. (status ≡ 0) ⊎ (status ≡ 1)) → IfErr ended (λ f. P (failure_status f) (failure_line f))
    → IfErr ended (λ f. Q (failure_status f) (failure_line f)) → 2 ≤ run_status ended → (line : List ℕ) × P (run_status ended) line × Q (run_status ended) line
run_tells (Ok status) P Q either one other more = absurd (elim either [ inl zero ↦ omega (arith, more, zero) | inr one ↦ omega (arith, more, one) ])
run_tells (Err f) P Q either one other more = (failure_line f, one, other)
