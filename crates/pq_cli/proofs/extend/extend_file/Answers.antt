use Rattle.std.specs.Prelude.{Ok}
use Rattle.std.proofs.Common.{ℕ, [], ◌∷◌, ◌∙◌, refl, sym, ap, subst, arith}
use Rattle.instance_model.specs.Instance.{plain, IsInstance}
use Rattle.instance_model.specs.Value.{instance_value}
use Rattle.command_input.specs.Words.{Extend}
use Rattle.command_input.specs.Instances.{ReadsInstance, HoldsInstance, IsInstanceOf}
use Rattle.pq_cli.specs.Further.{ReadsFurther, HoldsFurther}
use Rattle.pq_cli.specs.Replies.{refused_at, Replies}
use Rattle.pq_cli.proofs.Frame.{first_stops, second_stops, memory_after_two, reply_after_two}
use Rattle.solve_replies.specs.Charges.{ExtendsWithin}
use Rattle.pq_cli.specs.Stops.{reply_status}
use Rattle.pq_cli.proofs.Bases.{base_read, further_refused, further_accepted, further_read, extends_it}
use Rattle.pq_cli.proofs.Counts.{counts_none, reply_after, memory_status, memory_comes_after, counts_after_two}
use Rattle.pq_cli.proofs.extend.extend_file.Goals as goal

pub returns-in_err-base-clause-runs : goal.returns-in_err-base-clause-runs
returns-in_err-base-clause-runs g c =
    first_stops g.F.Shelf.content g.F.Shelf.taken g.F.Shelf.faults c.args.files.now c.read_instance.new.files (Extend c.args.kind c.args.file.now c.args.rows.now) c.args.file.now
    (c.args.rows.now ∷ []) (ReadsInstance c.args.kind) (HoldsInstance c.args.kind) refl c.in_err-base.field-0.0 c.in_err-base.ensures
    (λ refusal held. (omega arith, λ bytes made. ap (refused_at 1) (sym made))) c.from_residual.result c.from_residual.ensures.1

pub returns-in_err-further-clause-runs : goal.returns-in_err-further-clause-runs
returns-in_err-further-clause-runs g c =
    let kind = c.args.kind in
    let m = c.in-Plain.base in
    let n : ℕ = c.columns-columns.result in
    second_stops g.F.Shelf.content g.F.Shelf.taken g.F.Shelf.faults c.args.files.now c.read_instance.new.files c.read_file.new.files (Extend kind c.args.file.now c.args.rows.now)
    c.args.file.now c.args.rows.now (ReadsInstance kind) (HoldsInstance kind) c.in_ok-base.field-0 (ReadsFurther n) (HoldsFurther n) refl c.in_ok-base.ensures
    (λ bytes made. ap (refused_at 1) (sym made)) c.in_err-further.field-0.0 c.in_err-further.ensures
    (λ refusal held. (
      omega arith,
      λ bytes given made over.
          further_refused kind c.args.file.now c.args.rows.now bytes given m n refusal (base_read kind c.in-Plain.field-0 bytes (instance_value c.in_ok-base.field-0) m (ap instance_value c.in-Plain.is) c.in_ok-base.ensures.1.holds_of_value.1 made)
          c.columns-columns.ensures.columns over,
    ))
    c.from_residual-in_err-further.result c.from_residual-in_err-further.ensures.1

pub returns-in_err-extension_reply-clause-runs : goal.returns-in_err-extension_reply-clause-runs
returns-in_err-extension_reply-clause-runs g c =
    let kind = c.args.kind in
    let n : ℕ = c.columns-columns.result in
    memory_after_two g.F.Shelf.content g.F.Shelf.taken g.F.Shelf.faults c.args.files.now c.read_instance.new.files c.read_file.new.files (Extend kind c.args.file.now c.args.rows.now)
    c.args.file.now c.args.rows.now (ReadsInstance kind) (HoldsInstance kind) c.in_ok-base.field-0 (ReadsFurther n) (HoldsFurther n) refl c.in_ok-base.ensures
    (λ bytes made. ap (refused_at 1) (sym made)) c.in_ok-further.further c.in_ok-further.ensures c.from_residual-in_err-extension_reply.result c.from_residual-in_err-extension_reply.ensures.1

pub returns-clause-runs : goal.returns-clause-runs
unfolding Replies
returns-clause-runs g c =
    let kind = c.args.kind in
    let m = c.in-Plain.base in
    let n : ℕ = c.columns-columns.result in
    reply_after_two g.F.Shelf.content g.F.Shelf.taken g.F.Shelf.faults c.args.files.now c.read_instance.new.files c.read_file.new.files (Extend kind c.args.file.now c.args.rows.now)
    c.args.file.now c.args.rows.now (ReadsInstance kind) (HoldsInstance kind) c.in_ok-base.field-0 (ReadsFurther n) (HoldsFurther n) refl c.in_ok-base.ensures
    (λ bytes made. ap (refused_at 1) (sym made)) c.in_ok-further.further c.in_ok-further.ensures c.in_ok-extension_reply.field-0 c.in_ok-extension_reply.ensures.status
    (λ bytes given made over. (
      m,
      c.in_ok-further.further,
      base_read kind c.in-Plain.field-0 bytes (instance_value c.in_ok-base.field-0) m (ap instance_value c.in-Plain.is) c.in_ok-base.ensures.1.holds_of_value.1 made,
      further_read given m c.in_ok-further.further n c.columns-columns.ensures.columns over,
      c.in_ok-extension_reply.ensures.reply,
    ))

pub returns-in_err-extension_reply-clause-steps : goal.returns-in_err-extension_reply-clause-steps
returns-in_err-extension_reply-clause-steps g c =
    counts_after_two g.F.Shelf.content g.F.Shelf.taken g.F.Shelf.faults c.args.files.now c.read_instance.new.files c.read_file.new.files (Extend c.args.kind c.args.file.now c.args.rows.now) c.from_residual-in_err-extension_reply.result
    c.args.file.now c.args.rows.now (ReadsInstance c.args.kind) (HoldsInstance c.args.kind) c.in_ok-base.field-0 (ReadsFurther c.columns-columns.result) (HoldsFurther c.columns-columns.result) c.in_ok-further.further c.args.steps.now c.extension_reply.new.steps c.in_ok-base.ensures c.in_ok-further.ensures
    (memory_comes_after c.from_residual-in_err-extension_reply.result c.from_residual-in_err-extension_reply.ensures.1)
    (λ bytes given made over. further_accepted c.args.kind c.args.file.now c.args.rows.now bytes given c.in-Plain.base c.in_ok-further.further c.columns-columns.result
    (base_read c.args.kind c.in-Plain.field-0 bytes (instance_value c.in_ok-base.field-0) c.in-Plain.base (ap instance_value c.in-Plain.is) c.in_ok-base.ensures.1.holds_of_value.1 made) c.columns-columns.ensures.columns over)
    (λ bytes given made over. λ m more is told.
    extends_it c.args.kind c.in-Plain.field-0 bytes given (instance_value c.in_ok-base.field-0) c.in-Plain.base m c.in_ok-further.further more c.columns-columns.result (reply_status c.from_residual-in_err-extension_reply.result) c.args.steps.now c.extension_reply.new.steps
    (ap instance_value c.in-Plain.is) made c.columns-columns.ensures.columns over is told (subst (λ k. ExtendsWithin c.in-Plain.base c.in_ok-further.further.rows k c.args.steps.now c.extension_reply.new.steps)
    (sym (memory_status c.from_residual-in_err-extension_reply.result c.from_residual-in_err-extension_reply.ensures.1)) c.in_err-extension_reply.ensures.steps))

pub returns-clause-steps : goal.returns-clause-steps
returns-clause-steps g c =
    counts_after_two g.F.Shelf.content g.F.Shelf.taken g.F.Shelf.faults c.args.files.now c.read_instance.new.files c.read_file.new.files (Extend c.args.kind c.args.file.now c.args.rows.now) (Ok c.in_ok-extension_reply.field-0)
    c.args.file.now c.args.rows.now (ReadsInstance c.args.kind) (HoldsInstance c.args.kind) c.in_ok-base.field-0 (ReadsFurther c.columns-columns.result) (HoldsFurther c.columns-columns.result) c.in_ok-further.further c.args.steps.now c.extension_reply.new.steps c.in_ok-base.ensures c.in_ok-further.ensures (reply_after c.in_ok-extension_reply.field-0.status c.in_ok-extension_reply.ensures.status)
    (λ bytes given made over. further_accepted c.args.kind c.args.file.now c.args.rows.now bytes given c.in-Plain.base c.in_ok-further.further c.columns-columns.result
    (base_read c.args.kind c.in-Plain.field-0 bytes (instance_value c.in_ok-base.field-0) c.in-Plain.base (ap instance_value c.in-Plain.is) c.in_ok-base.ensures.1.holds_of_value.1 made) c.columns-columns.ensures.columns over)
    (λ bytes given made over. λ m more is told.
    extends_it c.args.kind c.in-Plain.field-0 bytes given (instance_value c.in_ok-base.field-0) c.in-Plain.base m c.in_ok-further.further more c.columns-columns.result c.in_ok-extension_reply.field-0.status c.args.steps.now c.extension_reply.new.steps
    (ap instance_value c.in-Plain.is) made c.columns-columns.ensures.columns over is told c.in_ok-extension_reply.ensures.steps)

pub returns-in_err-base-clause-steps : goal.returns-in_err-base-clause-steps
returns-in_err-base-clause-steps g c =
    counts_none g.F.Shelf.taken c.args.files.now c.read_instance.new.files (Extend c.args.kind c.args.file.now c.args.rows.now) c.from_residual.result _ c.args.steps.now c.from_residual.ensures.1

pub returns-in_err-further-clause-steps : goal.returns-in_err-further-clause-steps
returns-in_err-further-clause-steps g c =
    counts_none g.F.Shelf.taken c.args.files.now c.read_file.new.files (Extend c.args.kind c.args.file.now c.args.rows.now) c.from_residual-in_err-further.result _ c.args.steps.now c.from_residual-in_err-further.ensures.1

pub extension_reply-requires : goal.extension_reply-requires
extension_reply-requires g c =
    let held = subst (λ i. IsInstanceOf c.args.kind i) c.in-Plain.is c.in_ok-base.ensures.1.holds_of_value in
    let over = c.in_ok-further.ensures.1.holds_of_value in
    record {
      base = subst (λ k. IsInstance (plain k c.in-Plain.base)) held.1 held.0;
      columns = over.columns ∙ c.columns-columns.ensures.columns;
      few = over.rows;
    }
