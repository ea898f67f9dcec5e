use Rattle.bubble_pass.proofs.Putting.{marked_kept, marked_is}
use Rattle.bubble_pass.proofs.tables.Tables.mark.Goals as goal

pub returns : goal.returns
returns c = record {
  kept = marked_kept c.args.self.now c.touch.new.self c.note.new.self c.args.n c.args.label c.touch.ensures c.note.ensures;
  marked = marked_is c.args.self.now c.touch.new.self c.note.new.self c.args.n c.args.label c.touch.ensures c.note.ensures;
}
