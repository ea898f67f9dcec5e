use Rattle.pq_arena.specs.RowNodes.{column_leaves}
use Rattle.bubble_pass.proofs.work.Work.find.Given as goal

abbrev pub ghost-find : goal.ghost-find
ghost-find g a = column_leaves a.row.now
