use Rattle.std.proofs.Common.{[], ◌∷◌, ◌∙◌, refl, sym, ap}
use Rattle.std.specs.Prelude.{Ok, Err}
use Rattle.command_input.specs.Instances.{ReadsInstance, HoldsInstance}
use Rattle.pq_cli.specs.Replies.{refused_at}
use Rattle.pq_cli.proofs.Frame.{first_stops, memory_after_one, reply_after_one}
use Rattle.pq_cli.proofs.Counts.{counts_none, reply_after, counts_after_one, counts_after_memory}
use Rattle.pq_cli.proofs.over.over_instance.Goals as goal

pub returns-in_err-instance-clause-runs : goal.returns-in_err-instance-clause-runs
returns-in_err-instance-clause-runs g c = λ command over says.
    first_stops g.F.Shelf.content g.F.Shelf.taken g.F.Shelf.faults c.args.files.now c.read_instance.new.files command c.args.file.now [] (ReadsInstance c.args.kind) (HoldsInstance c.args.kind) over.files
    c.in_err-instance.field-0.0 c.in_err-instance.ensures (λ refusal held. (over.may, λ bytes made. over.first bytes ∙ ap (refused_at 1) (sym made))) c.from_residual.result c.from_residual.ensures.1

pub returns-in_err-made-clause-runs : goal.returns-in_err-made-clause-runs
returns-in_err-made-clause-runs g c = λ command over says.
    memory_after_one g.F.Shelf.content g.F.Shelf.taken g.F.Shelf.faults c.args.files.now c.read_instance.new.files command c.args.file.now (ReadsInstance c.args.kind) (HoldsInstance c.args.kind)
    c.in_ok-instance.instance over.files c.in_ok-instance.ensures c.from_residual-in_err-made.result c.from_residual-in_err-made.ensures.1

pub returns-clause-runs : goal.returns-clause-runs
returns-clause-runs g c = λ command over says.
    let reply = says c.in_ok-instance.instance c.args.steps.now (Ok c.in_ok-made.field-0) c.reply-made.new.steps c.in_ok-instance.ensures.1.holds_of_value c.in_ok-made.ensures in
    reply_after_one g.F.Shelf.content g.F.Shelf.taken g.F.Shelf.faults c.args.files.now c.read_instance.new.files command c.args.file.now (ReadsInstance c.args.kind) (HoldsInstance c.args.kind)
    c.in_ok-instance.instance over.files c.in_ok-instance.ensures c.in_ok-made.field-0 reply.status (λ bytes made. reply.says (bytes ∷ []) (bytes, refl, made))

pub returns-in_err-instance-clause-steps : goal.returns-in_err-instance-clause-steps
returns-in_err-instance-clause-steps g c = λ command over says counts.
    counts_none g.F.Shelf.taken c.args.files.now c.read_instance.new.files command c.from_residual.result _ c.args.steps.now c.from_residual.ensures.1

pub returns-in_err-made-clause-steps : goal.returns-in_err-made-clause-steps
returns-in_err-made-clause-steps g c = λ command over says counts.
    counts_after_memory g.F.Shelf.content g.F.Shelf.taken g.F.Shelf.faults c.args.files.now c.read_instance.new.files command c.from_residual-in_err-made.result c.args.file.now (ReadsInstance c.args.kind)
    (HoldsInstance c.args.kind) c.in_ok-instance.instance c.args.steps.now c.reply-made.new.steps c.in_ok-instance.ensures c.from_residual-in_err-made.ensures.1
    (λ bytes made. over.first bytes ∙ ap (refused_at 1) (sym made)) (λ bytes made. counts c.in_ok-instance.instance c.args.steps.now (Err c.in_err-made.field-0.0) c.reply-made.new.steps c.in_ok-instance.ensures.1.holds_of_value c.in_err-made.ensures bytes made)

pub returns-clause-steps : goal.returns-clause-steps
returns-clause-steps g c = λ command over says counts.
    let reply = says c.in_ok-instance.instance c.args.steps.now (Ok c.in_ok-made.field-0) c.reply-made.new.steps c.in_ok-instance.ensures.1.holds_of_value c.in_ok-made.ensures in
    counts_after_one g.F.Shelf.content g.F.Shelf.taken g.F.Shelf.faults c.args.files.now c.read_instance.new.files command (Ok c.in_ok-made.field-0) c.args.file.now (ReadsInstance c.args.kind)
    (HoldsInstance c.args.kind) c.in_ok-instance.instance c.args.steps.now c.reply-made.new.steps c.in_ok-instance.ensures (reply_after c.in_ok-made.field-0.status reply.status)
    (λ bytes made. over.first bytes ∙ ap (refused_at 1) (sym made)) (λ bytes made. counts c.in_ok-instance.instance c.args.steps.now (Ok c.in_ok-made.field-0) c.reply-made.new.steps c.in_ok-instance.ensures.1.holds_of_value c.in_ok-made.ensures bytes made)
