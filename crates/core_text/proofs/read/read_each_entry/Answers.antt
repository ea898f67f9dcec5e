use Rattle.std.proofs.Common.{arith}
use Rattle.std.proofs.lemmas.Result.{err_from_is_err_and}
use Rattle.core_text.specs.Reading.{entry_at}
use Rattle.core_text.proofs.CoreLaws.{zip_pushed}
use Rattle.core_text.proofs.EntryLaws.{entries_none}
use Rattle.text_parts.proofs.LoopLaws.{stops, outside, numbered_step, numbered_stop, numbered_end}
use Rattle.core_text.proofs.read.read_each_entry.Goals as goal

pub entries-preserved : goal.entries-preserved
unfolding entry_at
entries-preserved c =
    let pushed = zip_pushed _ _ _ _ _ _ c.in_ok-push.ensures.items (rw c.deref.ensures.value at c.in_ok-push-2.ensures.ok) c.entries.invariant.each in
    record { each = pushed.0; read = numbered_step entry_at _ _ _ _ _ _ _ _ c.entries-test.true c.in_ok-entry.ensures pushed.1 c.entries.invariant.read }

pub returns-clause-value : goal.returns-clause-value
returns-clause-value c = numbered_end entry_at _ _ _ _ _ c.entries-test.false c.entries.invariant.read

pub returns-in_err-entry-clause-value : goal.returns-in_err-entry-clause-value
unfolding entry_at
returns-in_err-entry-clause-value c =
    let p = err_from_is_err_and c.from_residual-in_err-entry.result c.from_residual-in_err-entry.ensures.1 in
    rw (p.1, p.2) (stops _ _ _ c.in_err-entry.ensures (λ h. numbered_stop entry_at _ _ _ _ _ c.entries-test.true h c.entries.invariant.read))

pub returns-in_err-room-clause-value : goal.returns-in_err-room-clause-value
returns-in_err-room-clause-value c =
    let p = err_from_is_err_and c.from_residual.result c.from_residual.ensures.1 in
    let e = c.in_err-room.ensures.none in
    rw (p.1, p.2) (outside _ _ e.0 (entries_none c.args.count c.args.bytes.now (omega (arith, c.ranges.count.fits)) e.1))
