use Rattle.std.proofs.Common.{[], ◌∷◌, ◌∙◌, refl, sym, ap}
use Rattle.std.specs.Prelude.{Ok}
use Rattle.command_input.specs.Instances.{ReadsInstance, HoldsInstance}
use Rattle.pq_cli.specs.Replies.{refused_at}
use Rattle.pq_cli.specs.Reading.{ReadsBytes, IsRead}
use Rattle.pq_cli.proofs.Frame.{first_stops, second_stops, memory_after_two, reply_after_two}
use Rattle.pq_cli.proofs.over.over_both.Goals as goal

pub returns-in_err-instance : goal.returns-in_err-instance
returns-in_err-instance g c = λ command over says.
    first_stops g.F.Shelf.content g.F.Shelf.taken g.F.Shelf.faults c.args.files.now c.read_instance.new.files command c.args.file.now (c.args.text.now ∷ []) (ReadsInstance c.args.kind)
    (HoldsInstance c.args.kind) over.files c.in_err-instance.field-0.0 c.in_err-instance.ensures (λ refusal held. (over.may, λ bytes made. over.first bytes ∙ ap (refused_at 1) (sym made)))
    c.from_residual.result c.from_residual.ensures.1

pub returns-in_err-text : goal.returns-in_err-text
returns-in_err-text g c = λ command over says.
    second_stops g.F.Shelf.content g.F.Shelf.taken g.F.Shelf.faults c.args.files.now c.read_instance.new.files c.read_text.new.files command c.args.file.now c.args.text.now (ReadsInstance c.args.kind)
    (HoldsInstance c.args.kind) c.in_ok-instance.instance (ReadsBytes c.args.limit) IsRead over.files c.in_ok-instance.ensures (λ bytes made. over.first bytes ∙ ap (refused_at 1) (sym made))
    c.in_err-text.field-0.0 c.in_err-text.ensures (λ refusal held. absurd held) c.from_residual-in_err-text.result c.from_residual-in_err-text.ensures.1

pub returns-in_err-reply : goal.returns-in_err-reply
returns-in_err-reply g c = λ command over says.
    memory_after_two g.F.Shelf.content g.F.Shelf.taken g.F.Shelf.faults c.args.files.now c.read_instance.new.files c.read_text.new.files command c.args.file.now c.args.text.now (ReadsInstance c.args.kind)
    (HoldsInstance c.args.kind) c.in_ok-instance.instance (ReadsBytes c.args.limit) IsRead over.files c.in_ok-instance.ensures (λ bytes made. over.first bytes ∙ ap (refused_at 1) (sym made))
    c.in_ok-text.text c.in_ok-text.ensures c.from_residual-in_err-reply.result c.from_residual-in_err-reply.ensures.1

pub returns : goal.returns
returns g c = λ command over says.
    let reply = says (record { instance = c.in_ok-instance.instance; text = c.in_ok-text.text }) (Ok c.in_ok-reply.field-0) c.in_ok-instance.ensures.1.holds_of_value c.in_ok-reply.ensures in
    reply_after_two g.F.Shelf.content g.F.Shelf.taken g.F.Shelf.faults c.args.files.now c.read_instance.new.files c.read_text.new.files command c.args.file.now c.args.text.now (ReadsInstance c.args.kind)
    (HoldsInstance c.args.kind) c.in_ok-instance.instance (ReadsBytes c.args.limit) IsRead over.files c.in_ok-instance.ensures (λ bytes made. over.first bytes ∙ ap (refused_at 1) (sym made))
    c.in_ok-text.text c.in_ok-text.ensures c.in_ok-reply.field-0 reply.status (λ bytes text made whole. reply.says (bytes ∷ text ∷ []) (bytes, text, refl, made, whole))
