-- A run of the top call, from its words to its status.
use Rattle.std.specs.Prelude.{◌≡◌, ◌⊎◌, ◌↔◌, ◌≤◌, ℕ, List, Option, IfSome, IfNone, IsNone}
use Rattle.file_io.specs.Taken.{Taken}
use Rattle.command_input.specs.Words.{Command}
use Rattle.pq_cli.specs.Answer.{IsAnswer}
use Rattle.pq_cli.specs.Runs.{OfTaken, TakesFiles, taken_since, WritesOut, CountsWrites, Offers, IsLineOf}
use Rattle.pq_cli.specs.Promise.{NothingFails, Completes, KeepsPromise}

-- What the words came to, that are this command or none: the clauses of the top call, each under its name. A shelf is
-- seen by what was taken of its files, and a sink by what it was sent and its count of faults.
pub record RunsWords {S O E : Type 0} (content : S → List ℕ → Option (List ℕ)) (taken : S → List Taken) (faults : S → ℕ) (written : O → Option (List ℕ)) (write_faults : O → ℕ) (told : E → Option (List ℕ))
    (tell_faults : E → ℕ) (found : Option Command) (old new : S) (out out_new : O) (err err_new : E) (result : ℕ) : Type 0 where
  pub words : (result ≡ 2) ↔ IsNone found
  pub unread : IfNone found (new ≡ old)
  pub files : IfSome found (λ c. TakesFiles content taken faults old new c result)
  pub answer : (result ≡ 0) ⊎ (result ≡ 1) → IfSome found (λ c. OfTaken (taken_since (taken old) (taken new)) (λ files. IsAnswer c files result))
  pub output : IfSome found (λ c. WritesOut (taken_since (taken old) (taken new)) c (written out) (written out_new) result)
  pub write_fault : CountsWrites (write_faults out) (write_faults out_new) result
  pub unwritten : (result ≡ 2) ⊎ (result ≡ 3) ⊎ (result ≡ 4) ⊎ (result ≡ 6) → out_new ≡ out
  pub status : result ≤ 6
  pub quiet : (result ≡ 0) ⊎ (result ≡ 1) → err_new ≡ err
  pub line : 2 ≤ result → (line : List ℕ) × IsLineOf found (taken_since (taken old) (taken new)) result line × Offers (told err) (told err_new) (tell_faults err) (tell_faults err_new) line
  pub complete : IfSome found (λ c. NothingFails (faults old) (faults new) (write_faults out) (write_faults out_new) result → Completes (taken_since (taken old) (taken new)) c (written out) (written out_new) result)
  pub promise : IfSome found (λ c. NothingFails (faults old) (faults new) (write_faults out) (write_faults out_new) result → KeepsPromise (taken_since (taken old) (taken new)) c (written out) (written out_new) result)
