use Rattle.std.proofs.Common.{◌≡◌, length}
use Rattle.serde_json.specs.Data.{Items}
use Rattle.matrix_read.specs.CloneNames.{clone_names, clones_view}
use Rattle.matrix_read.proofs.ItemLemmas.{AreItems}
use Rattle.matrix_read.proofs.clone_names.read_clone_items.Given as goal

abbrev pub invariant-loop-alloc : goal.invariant-loop-alloc
invariant-loop-alloc l = (found : Items) × AreItems l.depth l.initial.reader l.reader found × (clone_names found ≡ clones_view l.clones.items)

abbrev pub decreases-loop-alloc : goal.decreases-loop-alloc
decreases-loop-alloc l = length l.reader
