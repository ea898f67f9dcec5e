-- How a run was decided, by what the command gave and what was written.
use Rattle.std.proofs.Common.{◌≡◌, ◌⊎◌, ℕ, ◌≤◌, List, Option, Some, None, IfSome, inl, inr, refl, sym, subst, arith}
use Rattle.std.specs.Prelude.{◌↔◌, IfNone, IsNone, Result, Ok, Err, IfOk, IfErr, IsErrAnd}
use Rattle.std.specs.Io.KnownBytes.{Appends}
use Rattle.file_io.specs.Faults.{Rose}
use Rattle.file_io.specs.Sink.{AppendsPrefix}
use Rattle.file_io.specs.Taken.{Taken}
use Rattle.command_input.specs.Words.{Command}
use Rattle.verdict_replies.specs.declared.reply.Reply.{Reply}
use Rattle.pq_cli.specs.Runs.{TakesFiles, taken_since, WritesOut, CountsWrites, IsLineOf, RunsCommand, failure_line}
use Rattle.pq_cli.specs.Steps.{CountsSteps, CountsReply}
use Rattle.pq_cli.specs.Stops.{run_status, failure_status, stop_status}
use Rattle.pq_cli.specs.declared.stop.Stop.{Stop}
use Rattle.pq_cli.specs.declared.stop.Failure.{Failure}
use Rattle.pq_cli.specs.declared.stop.Failure.TheVariants as failure
use Rattle.pq_cli.proofs.Counts.{counts_cut_short}
use Rattle.pq_cli.proofs.Lines.{no_other, line_of_stop}

-- the status of a reply is no other
below_two : (status : ℕ) → (status ≡ 0) ⊎ (status ≡ 1) → 2 ≤ status → ⊥
below_two status either more = elim either [ inl e ↦ omega (arith, e, more) | inr e ↦ omega (arith, e, more) ]

-- what stands in the way has the status of no reply
above_one : (s : Stop) → (stop_status s ≡ 0) ⊎ (stop_status s ≡ 1) → ⊥
above_one s either = grind arith

-- the words are a command
command_there : (c : Command) (status : ℕ) → (status ≡ 2 → ⊥) → (status ≡ 2) ↔ IsNone (Some c)
command_there c status other = (λ e. absurd (other e), λ none. absurd (cc))

module _ {S T : Type 0} (content : S → List ℕ → Option (List ℕ)) (taken : S → List Taken) (faults : S → ℕ) (written : T → Option (List ℕ)) (write_faults : T → ℕ) where
  -- the clauses of a run before its line, by the command that the words are
  pub record Decides (found : Option Command) (old new : S) (out after : T) (s n : ℕ) (r : Result ℕ Failure) : Type 0 where
    pub idle : IfNone found (n ≡ s)
    pub steps : IfSome found (λ c. CountsSteps c (taken_since (taken old) (taken new)) (run_status r) s n)
    pub words : (run_status r ≡ 2) ↔ IsNone found
    pub unread : IfNone found (new ≡ old)
    pub files : IfSome found (λ c. TakesFiles content taken faults old new c (run_status r))
    pub output : IfSome found (λ c. WritesOut (taken_since (taken old) (taken new)) c (written out) (written after) (run_status r))
    pub write_fault : CountsWrites (write_faults out) (write_faults after) (run_status r)
    pub unwritten : (run_status r ≡ 2) ⊎ (run_status r ≡ 3) ⊎ (run_status r ≡ 4) ⊎ (run_status r ≡ 6) → after ≡ out
    pub status : IfOk r (λ status. (status ≡ 0) ⊎ (status ≡ 1))
    pub line : IfErr r (λ f. IsLineOf found (taken_since (taken old) (taken new)) (failure_status f) (failure_line f))

  -- the words are no command
  pub outside_so : (found : Option Command) → None ≡ found → (old : S) (out : T) (s : ℕ) → Decides found old old out out s s (Err failure.Words)
  outside_so found is old out s = subst (λ found. Decides found old old out out s s (Err failure.Words)) is (record {
    idle = refl;
    steps = tt;
    words = (λ _. refl, λ _. refl);
    unread = refl;
    files = tt;
    output = tt;
    write_fault = record { later = omega arith; fault = λ e. absurd (omega (arith, e)); nowhere_else = λ d. absurd (d refl) };
    unwritten = λ e. refl;
    status = tt;
    line = record {
      words = λ e. refl;
      refused = λ e. absurd (omega (arith, e));
      read_fault = λ e. absurd (omega (arith, e));
      write_fault = λ e. absurd (omega (arith, e));
      no_memory = λ e. absurd (omega (arith, e));
    };
  })

  module _ (found : Option Command) (c : Command) (is : Some c ≡ found) (old new : S) (out after : T) (s n : ℕ) where
    by_command : (r : Result ℕ Failure) → Decides (Some c) old new out after s n r → Decides found old new out after s n r
    by_command r h = subst (λ found. Decides found old new out after s n r) is h

    pub stopped_so : (stop : Stop) (r : Result ℕ Failure) → IsErrAnd r (λ f. f ≡ failure.Stopped stop) → after ≡ out → RunsCommand content taken faults old new c (Err stop)
        → CountsReply taken old new c (Err stop) s n → Decides found old new out after s n r
    stopped_so stop (Ok status) h same ran counts = absurd h
    stopped_so stop (Err f) h same ran counts =
        subst (λ f. Decides found old new out after s n (Err f)) (sym h) (subst (λ after. Decides found old new out after s n (Err (failure.Stopped stop))) (sym same) (subst (λ found. Decides found old new out out s n (Err (failure.Stopped stop))) is (record {
          idle = tt;
          steps = counts;
          words = command_there c (stop_status stop) (λ e. no_other stop (inl e));
          unread = tt;
          files = ran.files;
          output = record { whole = λ e. absurd (above_one stop e); cut_short = λ e. absurd (no_other stop (inr e)) };
          write_fault = record { later = omega arith; fault = λ e. absurd (no_other stop (inr e)); nowhere_else = λ d. absurd (d refl) };
          unwritten = λ e. refl;
          status = tt;
          line = line_of_stop (Some c) c (taken_since (taken old) (taken new)) stop refl ran.stop;
        })))

    module _ (reply : Reply) (ran : RunsCommand content taken faults old new c (Ok reply)) (counts : CountsReply taken old new c (Ok reply) s n) (later : write_faults out ≤ write_faults after) where
      pub written_so : Appends (written out) (written after) reply.text.items → write_faults after ≡ write_faults out → Decides found old new out after s n (Ok reply.status)
      written_so text told =
          by_command (Ok reply.status) (record {
            idle = tt;
            steps = counts;
            words = command_there c reply.status (λ e. below_two reply.status ran.status (omega (arith, e)));
            unread = tt;
            files = ran.files;
            output = record {
              whole = λ e files f. (reply.text.items, ran.reply files f, text);
              cut_short = λ e. absurd (below_two reply.status ran.status (omega (arith, e)));
            };
            write_fault = record { later = later; fault = λ e. absurd (below_two reply.status ran.status (omega (arith, e))); nowhere_else = λ d. absurd (d told) };
            unwritten = λ e. absurd (below_two reply.status ran.status (elim e [
              | inl f ↦ omega (arith, f)
              | inr (inl f) ↦ omega (arith, f)
              | inr (inr (inl f)) ↦ omega (arith, f)
              | inr (inr (inr f)) ↦ omega (arith, f)
            ]));
            status = ran.status;
            line = tt;
          })

      pub cut_short_so : AppendsPrefix (written out) (written after) reply.text.items → Rose (write_faults out) (write_faults after) → Decides found old new out after s n (Err failure.WriteFault)
      cut_short_so text rose =
          let asks = ran.files.asks in
          let shelf = ran.files.shelf in
          by_command (Err failure.WriteFault) (record {
            idle = tt;
            steps = counts_cut_short c (taken_since (taken old) (taken new)) reply.status s n counts;
            words = command_there c 5 (λ e. omega arith);
            unread = tt;
            files = record {
              takes = ran.files.takes;
              asks = record {
                few = asks.few;
                names = asks.names;
                agree = asks.agree;
                on_fault = λ e. absurd (omega arith);
                on_reply = λ e. asks.on_reply (elim ran.status [ inl z ↦ inl z | inr o ↦ inr (inl o) ]);
                in_turn = asks.in_turn;
              };
              shelf = record {
                unchanged = shelf.unchanged;
                later = shelf.later;
                fault = λ e. absurd (omega arith);
                nowhere_else = λ d. absurd (below_two reply.status ran.status (omega (arith, shelf.nowhere_else d)));
              };
              refused = λ e. absurd (omega arith);
            };
            output = record {
              whole = λ e. absurd (below_two 5 e (omega arith));
              cut_short = λ e files f. (reply.status, reply.text.items, ran.reply files f, text);
            };
            write_fault = record { later = later; fault = λ e. rose; nowhere_else = λ d. refl };
            unwritten = λ e. absurd (elim e [
              | inl f ↦ omega arith
              | inr (inl f) ↦ omega arith
              | inr (inr (inl f)) ↦ omega arith
              | inr (inr (inr f)) ↦ omega arith
            ]);
            status = tt;
            line = record {
              words = λ e. absurd (omega arith);
              refused = λ e. absurd (omega arith);
              read_fault = λ e. absurd (omega arith);
              write_fault = λ e. refl;
              no_memory = λ e. absurd (omega arith);
            };
          })
