use Rattle.std.proofs.Common.{◌∙◌, sym, Ok, Err}
use Rattle.robinson_balls.proofs.Rising.{placed}
use Rattle.robinson_balls.proofs.rows.insert.Goals as goal

pub returns-in_ok-insert : goal.returns-in_ok-insert
returns-in_ok-insert c =
    c.in_ok-insert.ensures.items ∙ sym (placed c.args.list.now.items c.args.number (Err c.in-Err.place) c.requires (rw c.deref.ensures.value at c.in-Err.ensures.position))

pub returns-in_default : goal.returns-in_default
returns-in_default c = sym (placed c.args.list.now.items c.args.number (Ok c.in_default.field-0) c.requires (rw c.deref.ensures.value at c.in_default.ensures.position))
