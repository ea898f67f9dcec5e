use Rattle.std.proofs.Common.{◌≡◌}
use Rattle.command_input.specs.Words.{texts, command_of}
use Rattle.pq_cli.specs.Runs.{taken_since, IsLineOf, Offers}
use Rattle.pq_cli.specs.Stops.{run_status}
use Rattle.pq_cli.proofs.Promises.{complete, promise, answer, run_low, run_quiet, run_tells}
use Rattle.pq_cli.proofs.top.run_counted.Goals as goal

pub returns-clause-runs : goal.returns-clause-runs
returns-clause-runs g c =
    let found = command_of (texts c.args.words.now) in
    let ended = c.decide-ended.result in
    let told = c.decide-ended.ensures in
    let low = run_low ended told.status in
    let completes = complete g.F.Shelf.content g.F.Shelf.taken g.F.Shelf.faults c.args.files.now c.decide-ended.new.files (g.O.Sink.written c.args.out.now) (g.O.Sink.written c.decide-ended.new.out) (g.O.Sink.faults c.args.out.now)
    (g.O.Sink.faults c.decide-ended.new.out) (run_status ended) found told.files told.output told.write_fault low told.words in
    rw c.tell.ensures.status (record {
      words = told.words;
      unread = told.unread;
      files = told.files;
      answer = answer c.answer_law.ensures found (taken_since (g.F.Shelf.taken c.args.files.now) (g.F.Shelf.taken c.decide-ended.new.files)) (g.O.Sink.written c.args.out.now) (g.O.Sink.written c.decide-ended.new.out) (run_status ended) told.output;
      output = told.output;
      write_fault = told.write_fault;
      unwritten = told.unwritten;
      status = low;
      quiet = run_quiet ended (c.tell.new.err ≡ c.args.err.now) c.tell.ensures.quiet;
      line = run_tells ended (IsLineOf found (taken_since (g.F.Shelf.taken c.args.files.now) (g.F.Shelf.taken c.decide-ended.new.files)))
          (λ status. Offers (g.E.Sink.written c.args.err.now) (g.E.Sink.written c.tell.new.err) (g.E.Sink.faults c.args.err.now) (g.E.Sink.faults c.tell.new.err)) told.status told.line c.tell.ensures.line;
      complete = completes;
      promise = promise g.F.Shelf.content g.F.Shelf.taken g.F.Shelf.faults c.args.files.now c.decide-ended.new.files (g.O.Sink.written c.args.out.now) (g.O.Sink.written c.decide-ended.new.out) (g.O.Sink.faults c.args.out.now)
          (g.O.Sink.faults c.decide-ended.new.out) (run_status ended) c.promise_law.ensures found completes;
    })

pub returns-clause-steps : goal.returns-clause-steps
returns-clause-steps g c = rw c.tell.ensures.status c.decide-ended.ensures.steps
