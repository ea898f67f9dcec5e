use Rattle.std.proofs.Common.{sym, subst, length, []}
use Rattle.std.specs.Str.Lines.{lines}
use Rattle.command_input.specs.Words.{command_of}
use Rattle.memory_run.specs.Called.{IsWholeRun}
use Rattle.memory_run.proofs.Unrun.{no_text, refused}
use Rattle.memory_run.proofs.over.run_bytes.Goals as goal

pub returns-in_default-clause-no_text : goal.returns-in_default-clause-no_text
returns-in_default-clause-no_text c = λ _. no_text (length c.handed_over.new.out) (length c.handed_over.new.err) c.handed_over.result.status c.handed_over.result.written _ c.handed_over.new.out _ c.handed_over.ensures.room.0 c.handed_over.ensures.handed

pub returns-in_default-clause-run : goal.returns-in_default-clause-run
returns-in_default-clause-run c = λ utf8. absurd (c.in_default.ensures.cases.0 utf8)

pub returns-in-Ok-run_text-clause-no_text : goal.returns-in-Ok-run_text-clause-no_text
returns-in-Ok-run_text-clause-no_text c = λ none. absurd (none c.in-Ok.ensures.cases.1)

pub returns-in-Ok-run_text-clause-run : goal.returns-in-Ok-run_text-clause-run
returns-in-Ok-run_text-clause-run c = λ _.
    let first = c.args.first.now in
    let second = c.args.second.now in
    let status = c.in-Ok-run_text.ran.status in (
      status,
      c.deref.result.now,
      c.deref-in-Ok-run_text.result.now,
      subst (λ t. IsWholeRun (command_of (lines t)) first second status c.deref.result.now c.deref-in-Ok-run_text.result.now) c.in-Ok.ensures.cases.0
          (subst (λ reply. IsWholeRun (command_of (lines c.in-Ok.text.now)) first second status reply c.deref-in-Ok-run_text.result.now) (sym c.deref.ensures.value)
          (subst (λ line. IsWholeRun (command_of (lines c.in-Ok.text.now)) first second status c.in-Ok-run_text.ran.reply.items line) (sym c.deref-in-Ok-run_text.ensures.value) c.in-Ok-run_text.ensures)),
      c.handed_over-in-Ok-run_text.ensures.handed,
    )

pub returns-in-Err-clause-no_text : goal.returns-in-Err-clause-no_text
returns-in-Err-clause-no_text c = λ none. absurd (none c.in-Ok.ensures.cases.1)

pub returns-in-Err-clause-run : goal.returns-in-Err-clause-run
returns-in-Err-clause-run c = λ _. (6, [], _, refused (command_of (lines c.args.words.now)) c.args.first.now c.args.second.now, c.handed_over-in-Err.ensures.handed)
