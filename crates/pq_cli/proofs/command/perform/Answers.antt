use Rattle.std.proofs.Common.{◌≡◌, ℕ, List, [], ◌∷◌, refl, inl, sym, subst, arith, rules}
use Rattle.std.specs.Prelude.{Ok}
use Rattle.std.specs.declared.alloc.AllocError.{AllocError}
use Rattle.file_io.specs.Whole.{IsWhole}
use Rattle.row_model.specs.Rows.{RowList}
use Rattle.row_model.specs.declared.kind.Kind.TheVariants.{Proper}
use Rattle.instance_model.specs.Instance.{plain, proper}
use Rattle.instance_model.specs.Value.{instance_value}
use Rattle.command_input.specs.Words.{Solve, Check, Core, CheckCore, Gen, ListOrders, UnitModel, CheckUnit, IsInGrammar}
use Rattle.command_input.specs.Task.{command_seen}
use Rattle.commands.specs.Judgements.{IsJudgementReply}
use Rattle.commands.specs.CoreJudgements.{IsCoreJudgementReply}
use Rattle.commands.specs.Findings.{IsFindingReply}
use Rattle.verdict_replies.specs.Verdicts.{IsVerdictReply}
use Rattle.verdict_replies.specs.declared.TheConstants.{MAX_VERDICT_BYTES, MAX_CORE_BYTES}
use Rattle.solve_replies.specs.Cores.{IsCoreReply}
use Rattle.solve_replies.specs.Generated.{generated}
use Rattle.solve_replies.specs.Lists.{IsListReply}
use Rattle.solve_replies.specs.Models.{IsModelReply}
use Rattle.pq_cli.specs.Replies.{Replies}
use Rattle.pq_cli.proofs.Frame.{memory_alone, reply_alone}
use Rattle.solve_replies.specs.Steps.{SolvesMatrixWithin, SolvesWithin, FindsCoreWithin}
use Rattle.pq_cli.specs.Over.{IsOverInstance}
use Rattle.pq_cli.proofs.Says.{read_as, same_instance, solves_it, says_made, says_of_both}
use Rattle.pq_cli.proofs.Counts.{counts_alone, reply_after, memory_comes_after, memory_status}
use Rattle.pq_cli.proofs.command.perform.Goals as goal

pub returns-in-Solve : goal.returns-in-Solve
unfolding Replies
returns-in-Solve g c =
    let command = Solve c.in-Solve.kind c.in-Solve.file.now in
    let over : IsOverInstance command c.in-Solve.kind (c.in-Solve.file.now ∷ []) = record { files = refl; may = omega arith; first = λ bytes. refl } in
    let says = says_made {E = AllocError} command c.in-Solve.kind (λ i reply. IsVerdictReply (instance_value i) reply.status reply.text.items) (λ i. SolvesWithin (instance_value i))
    (λ i reply bytes is read. (instance_value i, sym read, is)) in
    rw c.in-Solve.is (record {
      runs = c.over_instance.ensures.runs command over says;
      steps = c.over_instance.ensures.steps command over says (λ i s made n held told bytes read. λ v is. solves_it c.in-Solve.kind bytes i v _ s n read is told.steps);
    })

pub returns-in-Core : goal.returns-in-Core
unfolding Replies
returns-in-Core g c =
    let kind = c.in-Core.kind in
    let command = Core kind c.in-Core.file.now in
    let over : IsOverInstance command kind (c.in-Core.file.now ∷ []) = record { files = refl; may = omega arith; first = λ bytes. refl } in
    let says = says_made {E = AllocError} command kind (λ i reply. (m : RowList) × (instance_value i ≡ plain kind m) × IsCoreReply kind m reply.status reply.text.items)
    (λ i status s n. (m : RowList) → instance_value i ≡ plain kind m → FindsCoreWithin m status s n)
    (λ i reply bytes is read. (is.0, read_as kind bytes i (plain kind is.0) read is.1, is.2)) in
    rw c.in-Core.is (record {
      runs = c.over_instance-in-Core.ensures.runs command over says;
      steps = c.over_instance-in-Core.ensures.steps command over says (λ i s made n held told bytes read. λ m is. told.steps m (same_instance kind bytes i (plain kind m) read is));
    })

pub returns-in-ListOrders : goal.returns-in-ListOrders
unfolding Replies
returns-in-ListOrders g c =
    let kind = c.in-ListOrders.kind in
    let count : ℕ = c.in-ListOrders.count in
    let command = ListOrders kind c.in-ListOrders.file.now count in
    let over : IsOverInstance command kind (c.in-ListOrders.file.now ∷ []) = record { files = refl; may = omega arith; first = λ bytes. refl } in
    let says = says_made {E = AllocError} command kind (λ i reply. (m : RowList) × (instance_value i ≡ plain kind m) × IsListReply kind m count reply.status reply.text.items)
    (λ i status s n. (m : RowList) → instance_value i ≡ plain kind m → SolvesMatrixWithin m status s n)
    (λ i reply bytes is read. (is.0, read_as kind bytes i (plain kind is.0) read is.1, is.2)) in
    rw c.in-ListOrders.is (record {
      runs = c.over_instance-in-ListOrders.ensures.runs command over says;
      steps = c.over_instance-in-ListOrders.ensures.steps command over says (λ i s made n held told bytes read. λ m is. told.steps m (same_instance kind bytes i (plain kind m) read is));
    })

pub returns-in-UnitModel : goal.returns-in-UnitModel
unfolding Replies
returns-in-UnitModel g c =
    let command = UnitModel c.in-UnitModel.file.now in
    let over : IsOverInstance command Proper (c.in-UnitModel.file.now ∷ []) = record { files = refl; may = omega arith; first = λ bytes. refl } in
    let says = says_made {E = AllocError} command Proper (λ i reply. (g : _) × (instance_value i ≡ proper g) × IsModelReply g reply.status reply.text.items) (λ i. SolvesWithin (instance_value i))
    (λ i reply bytes is read. (is.0, read_as Proper bytes i (proper is.0) read is.1, is.2)) in
    rw c.in-UnitModel.is (record {
      runs = c.over_instance-in-UnitModel.ensures.runs command over says;
      steps = c.over_instance-in-UnitModel.ensures.steps command over says (λ i s made n held told bytes read. λ v is. solves_it Proper bytes i v _ s n read is told.steps);
    })

pub returns-in-Check : goal.returns-in-Check
unfolding Replies
returns-in-Check g c =
    let command = Check c.in-Check.kind c.in-Check.file.now c.in-Check.verdict.now in
    rw c.in-Check.is (record {
      runs = c.over_both.ensures command (record { files = refl; may = omega arith; first = λ bytes. refl }) (λ both made held told.
          let i = both.instance in
          let w = both.text in
          says_of_both command c.in-Check.kind i (λ reply. (bytes : List ℕ) → IsWhole MAX_VERDICT_BYTES bytes w → IsJudgementReply (instance_value i) bytes reply.status reply.text.items) MAX_VERDICT_BYTES w made (search rules)
          (search rules) (λ reply bytes text is read whole. (instance_value i, sym read, is text whole)));
      steps = record { none = λ e. refl; refused = λ files f d. refl; steps = λ files f. refl };
    })

pub returns-in-CheckCore : goal.returns-in-CheckCore
unfolding Replies
returns-in-CheckCore g c =
    let kind = c.in-CheckCore.kind in
    let command = CheckCore kind c.in-CheckCore.file.now c.in-CheckCore.core.now in
    rw c.in-CheckCore.is (record {
      runs = c.over_both-in-CheckCore.ensures command (record { files = refl; may = omega arith; first = λ bytes. refl }) (λ both made held told.
          let i = both.instance in
          let w = both.text in
          says_of_both command kind i
          (λ reply. (bytes : List ℕ) → IsWhole MAX_CORE_BYTES bytes w → (m : RowList) × (instance_value i ≡ plain kind m) × IsCoreJudgementReply kind m bytes reply.status reply.text.items) MAX_CORE_BYTES w made
          (search rules) (search rules) (λ reply bytes text is read whole.
          let found = is text whole in
          (found.0, read_as kind bytes i (plain kind found.0) read found.1, found.2)));
      steps = record { none = λ e. refl; refused = λ files f d. refl; steps = λ files f. refl };
    })

pub returns-in-CheckUnit : goal.returns-in-CheckUnit
unfolding Replies
returns-in-CheckUnit g c =
    let command = CheckUnit c.in-CheckUnit.file.now c.in-CheckUnit.unit.now in
    rw c.in-CheckUnit.is (record {
      runs = c.over_both-in-CheckUnit.ensures command (record { files = refl; may = omega arith; first = λ bytes. refl }) (λ both made held told.
          let i = both.instance in
          let w = both.text in
          says_of_both command Proper i
          (λ reply. (g : _) × (instance_value i ≡ proper g) × ((bytes : List ℕ) → IsWhole MAX_VERDICT_BYTES bytes w → IsFindingReply g bytes reply.status reply.text.items)) MAX_VERDICT_BYTES w made
          (search rules) (search rules) (λ reply bytes text is read whole. (is.0, read_as Proper bytes i (proper is.0) read is.1, is.2 text whole)));
      steps = record { none = λ e. refl; refused = λ files f d. refl; steps = λ files f. refl };
    })

pub returns-in_ok-summary_reply-in-Gen : goal.returns-in_ok-summary_reply-in-Gen
unfolding Replies
returns-in_ok-summary_reply-in-Gen g c =
    let reply = c.in_ok-summary_reply-in-Gen.ensures in
    rw c.in-Gen.is (record {
      runs = reply_alone g.F.Shelf.content g.F.Shelf.taken g.F.Shelf.faults c.args.files.now (Gen c.in-Gen.seed c.in-Gen.columns c.in-Gen.rows) refl c.in_ok-summary_reply-in-Gen.field-0 (inl reply.status)
          (reply.status, reply.summary);
      steps = counts_alone g.F.Shelf.content g.F.Shelf.taken g.F.Shelf.faults c.args.files.now (Gen c.in-Gen.seed c.in-Gen.columns c.in-Gen.rows) (Ok c.in_ok-summary_reply-in-Gen.field-0)
          c.args.steps.now c.summary_reply.new.steps (reply_after c.in_ok-summary_reply-in-Gen.field-0.status (inl reply.status)) reply.steps;
    })

pub returns-in-Extend : goal.returns-in-Extend
returns-in-Extend g c = rw c.in-Extend.is (record { runs = c.extend_file.ensures.runs; steps = c.extend_file.ensures.steps })

pub returns-in-Meet : goal.returns-in-Meet
returns-in-Meet g c = rw c.in-Meet.is (record { runs = c.meet_files.ensures.runs; steps = c.meet_files.ensures.steps })

pub returns-in_err-summary_reply-in-Gen : goal.returns-in_err-summary_reply-in-Gen
returns-in_err-summary_reply-in-Gen g c =
    let command = Gen c.in-Gen.seed c.in-Gen.columns c.in-Gen.rows in
    let made = c.from_residual.result in
    let none = c.from_residual.ensures.1 in
    rw c.in-Gen.is (record {
      runs = memory_alone g.F.Shelf.content g.F.Shelf.taken g.F.Shelf.faults c.args.files.now command refl made none;
      steps = counts_alone g.F.Shelf.content g.F.Shelf.taken g.F.Shelf.faults c.args.files.now command made c.args.steps.now c.summary_reply.new.steps (memory_comes_after made none)
          (subst (λ status. SolvesMatrixWithin (generated c.in-Gen.seed c.in-Gen.columns c.in-Gen.rows) status c.args.steps.now c.summary_reply.new.steps) (sym (memory_status made none)) c.in_err-summary_reply-in-Gen.ensures.steps);
    })

-- the numbers and the kinds are within the grammar
pub extend_file-requires : goal.extend_file-requires
extend_file-requires g c = subst (λ t. IsInGrammar (command_seen t)) c.in-Extend.is c.requires

pub meet_files-requires : goal.meet_files-requires
meet_files-requires g c = subst (λ t. IsInGrammar (command_seen t)) c.in-Meet.is c.requires

pub summary_reply-requires : goal.summary_reply-requires
summary_reply-requires g c =
    let within = subst (λ t. IsInGrammar (command_seen t)) c.in-Gen.is c.requires in
    record { columns = (within.0, within.1); rows = within.2 }

pub over_instance-requires : goal.over_instance-requires
over_instance-requires g c = λ i held. held.0

pub over_instance-requires-in-Core : goal.over_instance-requires-in-Core
over_instance-requires-in-Core g c = λ i held. (subst (λ t. IsInGrammar (command_seen t)) c.in-Core.is c.requires, held)

pub over_instance-requires-in-ListOrders : goal.over_instance-requires-in-ListOrders
over_instance-requires-in-ListOrders g c = λ i held.
    let within = subst (λ t. IsInGrammar (command_seen t)) c.in-ListOrders.is c.requires in
    (within.0, held, within.1, within.2)

pub over_instance-requires-in-UnitModel : goal.over_instance-requires-in-UnitModel
over_instance-requires-in-UnitModel g c = λ i held. held
