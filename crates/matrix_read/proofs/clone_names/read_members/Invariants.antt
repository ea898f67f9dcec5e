use Rattle.std.proofs.Common.{◌≡◌, length}
use Rattle.serde_json.specs.Data.{Members}
use Rattle.matrix_read.specs.CloneNames.{member_names, file_view}
use Rattle.matrix_read.proofs.MemberLemmas.{AreFound}
use Rattle.matrix_read.proofs.clone_names.read_members.Given as goal

abbrev pub invariant-loop-names : goal.invariant-loop-names
invariant-loop-names l = (found : Members) × AreFound l.depth l.initial.reader l.reader found × (member_names found ≡ file_view l.names)

abbrev pub decreases-loop-names : goal.decreases-loop-names
decreases-loop-names l = length l.reader
