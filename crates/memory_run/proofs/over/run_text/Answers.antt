use Rattle.std.proofs.Common.{◌≡◌, ◌≢◌, ◌∙◌, sym, ap, subst, arith, [], Some, IfSome}
use Rattle.std.specs.Str.Lines.{lines}
use Rattle.command_input.specs.Words.{texts, command_of}
use Rattle.pq_io.specs.NamedFiles.{content_of, Held}
use Rattle.pq_cli.specs.Runs.{WritesOut, Offers, taken_since}
use Rattle.memory_run.specs.Given.{FailsOnlyAtAnother}
use Rattle.memory_run.specs.Called.{IsWholeRun}
use Rattle.memory_run.proofs.Steps.{asked, lacks_only_at_four, whole}
use Rattle.memory_run.proofs.over.run_text.Goals as goal

pub returns : goal.returns
returns c =
    let found = command_of (texts c.deref.result.now) in
    let old = c.in_ok-files.files in
    let new = c.run-status.new.files in
    let ts = taken_since old.taken new.taken in
    let run = c.run-status.ensures in
    let status = c.run-status.result in
    let reply = c.run-status.new.out in
    let line = c.run-status.new.err in
    let first = c.args.first.now in
    let second = c.args.second.now in
    let bytes = ap (λ kept. kept.bytes) c.new-reply.ensures in
    let none_said = ap (λ kept. kept.bytes) c.new-line.ensures in
    let no_fault = ap (λ kept. kept.faults) c.new-line.ensures in
    let text_kept = c.in_ok-whole.ensures.0 in
    let line_kept = c.in_ok-whole-2.ensures.0 in
    let takes = asked (λ (shelf : Held) name. content_of shelf.files name) (λ (shelf : Held). shelf.taken) (λ (shelf : Held). shelf.faults) old new found status run.files in
    let lacks = lacks_only_at_four old new status found run.words run.unread run.files c.in_ok-files.ensures.untouched.0 c.in_ok-files.ensures.untouched.1 (subst FailsOnlyAtAnother c.files.view_is c.files.invariant) in
    let written = subst (λ b. IfSome found (λ k. WritesOut ts k (Some b) (Some reply.bytes) status)) bytes run.output in
    let done : status ≢ 5 = λ five. omega (arith, c.in_ok-whole.ensures.1, run.write_fault.fault five (λ top. omega (arith, top, ap (λ kept. kept.faults) c.new-reply.ensures)), ap (λ kept. kept.faults) c.new-reply.ensures) in
    let words : found ≡ command_of (lines c.args.text.now) = ap (λ ws. command_of (texts ws)) c.deref.ensures.value ∙ ap command_of c.in_ok-words.ensures in
    subst (λ f. IsWholeRun f first second status c.in_ok-whole.field-0.items c.in_ok-whole-2.field-0.items) words
    (subst (λ t. IsWholeRun found first second status t c.in_ok-whole-2.field-0.items) (sym text_kept)
    (subst (λ l. IsWholeRun found first second status reply.bytes l) (sym line_kept)
    (whole c.told_law.ensures (content_of old.files) first second c.in_ok-files.ensures.files c.promise_law.ensures found ts status reply.bytes line.bytes
    run.words run.status takes lacks.0 lacks.1 written
    (λ e. ap (λ kept. kept.bytes) (run.unwritten e) ∙ bytes)
    (λ e. ap (λ kept. kept.bytes) (run.quiet e) ∙ none_said)
    (λ more. let o = run.line more in (
      o.0,
      o.1,
      subst (λ n. Offers (Some []) (Some line.bytes) 0 n o.0) c.in_ok-whole-2.ensures.1
          (subst (λ b. Offers (Some b) (Some line.bytes) 0 line.faults o.0) none_said (subst (λ n. Offers (Some c.new-line.result.bytes) (Some line.bytes) n line.faults o.0) no_fault o.2)),
    ))
    done)))
