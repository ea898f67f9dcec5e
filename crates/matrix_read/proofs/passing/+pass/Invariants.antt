use Rattle.std.proofs.Common.{◌+◌, ◌*◌, length}
use Rattle.serde_json.specs.Data.{Items, Members}
use Rattle.matrix_read.proofs.ItemLemmas.{AreItems}
use Rattle.matrix_read.proofs.MemberLemmas.{AreFound}
use Rattle.matrix_read.proofs.passing.+pass.Given as goal

abbrev pub decreases-pass : goal.decreases-pass
decreases-pass l = 3 * l.depth + 1

abbrev pub decreases-pass_value : goal.decreases-pass_value
decreases-pass_value l = 3 * l.depth

abbrev pub decreases-pass_items : goal.decreases-pass_items
decreases-pass_items l = 3 * l.depth + 2

abbrev pub decreases-pass_members : goal.decreases-pass_members
decreases-pass_members l = 3 * l.depth + 2

abbrev pub invariant-pass_items-loop-reader : goal.invariant-pass_items-loop-reader
invariant-pass_items-loop-reader l = (found : Items) × AreItems l.depth l.initial.reader l.reader found

abbrev pub decreases-pass_items-loop-reader : goal.decreases-pass_items-loop-reader
decreases-pass_items-loop-reader l = length l.reader

abbrev pub invariant-pass_members-loop-reader : goal.invariant-pass_members-loop-reader
invariant-pass_members-loop-reader l = (found : Members) × AreFound l.depth l.initial.reader l.reader found

abbrev pub decreases-pass_members-loop-reader : goal.decreases-pass_members-loop-reader
decreases-pass_members-loop-reader l = length l.reader
