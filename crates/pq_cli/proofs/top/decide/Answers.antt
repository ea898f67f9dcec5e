use Rattle.std.proofs.Common.{refl, subst}
use Rattle.std.specs.Io.KnownBytes.{Appends}
use Rattle.file_io.specs.Sink.{AppendsPrefix}
use Rattle.command_input.specs.Words.{texts, command_of}
use Rattle.command_input.specs.Task.{command_seen}
use Rattle.pq_cli.proofs.Decided.{outside_so, stopped_so, written_so, cut_short_so}
use Rattle.pq_cli.proofs.top.decide.Goals as goal

pub returns-in_default : goal.returns-in_default
returns-in_default g c =
    let d = outside_so g.F.Shelf.content g.F.Shelf.taken g.F.Shelf.faults g.O.Sink.written g.O.Sink.faults (command_of (texts c.args.words.now)) c.in_default.ensures.task c.args.files.now c.args.out.now c.args.steps.now in
    record { idle = d.idle; steps = d.steps; words = d.words; unread = d.unread; files = d.files; output = d.output; write_fault = d.write_fault; unwritten = d.unwritten; status = d.status; line = d.line }

pub returns-in_err-reply : goal.returns-in_err-reply
returns-in_err-reply g c =
    let d = stopped_so g.F.Shelf.content g.F.Shelf.taken g.F.Shelf.faults g.O.Sink.written g.O.Sink.faults (command_of (texts c.args.words.now)) (command_seen c.in-Some.task) c.in-Some.ensures.task
    c.args.files.now c.perform.new.files c.args.out.now c.args.out.now c.args.steps.now c.perform.new.steps c.in_err-reply.field-0.0 c.from_residual.result c.from_residual.ensures.1 refl c.in_err-reply.ensures.runs c.in_err-reply.ensures.steps in
    record { idle = d.idle; steps = d.steps; words = d.words; unread = d.unread; files = d.files; output = d.output; write_fault = d.write_fault; unwritten = d.unwritten; status = d.status; line = d.line }

pub returns-in-Ok : goal.returns-in-Ok
returns-in-Ok g c =
    let d = written_so g.F.Shelf.content g.F.Shelf.taken g.F.Shelf.faults g.O.Sink.written g.O.Sink.faults (command_of (texts c.args.words.now)) (command_seen c.in-Some.task) c.in-Some.ensures.task
    c.args.files.now c.perform.new.files c.args.out.now c.write_all.new.sink c.args.steps.now c.perform.new.steps c.in_ok-reply.reply c.in_ok-reply.ensures.runs c.in_ok-reply.ensures.steps
    c.in-Ok.ensures.cause.later (subst (λ text. Appends (g.O.Sink.written c.args.out.now) (g.O.Sink.written c.write_all.new.sink) text) c.deref.ensures.value c.in-Ok.ensures.text) c.in-Ok.ensures.told in
    record { idle = d.idle; steps = d.steps; words = d.words; unread = d.unread; files = d.files; output = d.output; write_fault = d.write_fault; unwritten = d.unwritten; status = d.status; line = d.line }

pub returns : goal.returns
returns g c =
    let d = cut_short_so g.F.Shelf.content g.F.Shelf.taken g.F.Shelf.faults g.O.Sink.written g.O.Sink.faults (command_of (texts c.args.words.now)) (command_seen c.in-Some.task) c.in-Some.ensures.task
    c.args.files.now c.perform.new.files c.args.out.now c.write_all.new.sink c.args.steps.now c.perform.new.steps c.in_ok-reply.reply c.in_ok-reply.ensures.runs c.in_ok-reply.ensures.steps
    c.in-Err.ensures.cause.later (subst (λ text. AppendsPrefix (g.O.Sink.written c.args.out.now) (g.O.Sink.written c.write_all.new.sink) text) c.deref.ensures.value c.in-Err.ensures.text) c.in-Err.ensures.cause.failed in
    record { idle = d.idle; steps = d.steps; words = d.words; unread = d.unread; files = d.files; output = d.output; write_fault = d.write_fault; unwritten = d.unwritten; status = d.status; line = d.line }

pub perform-requires : goal.perform-requires
perform-requires g c = c.in-Some.ensures.taken
