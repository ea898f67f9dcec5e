use Rattle.std.proofs.Common.{◌≡◌, length}
use Rattle.serde_json.specs.Data.{Members}
use Rattle.matrix_read.specs.CloneNames.{member_probes, names_view}
use Rattle.matrix_read.proofs.MemberLemmas.{AreFound}
use Rattle.matrix_read.proofs.clone_names.read_probes.Given as goal

abbrev pub invariant-loop-probes : goal.invariant-loop-probes
invariant-loop-probes l = (found : Members) × AreFound l.depth l.initial.reader l.reader found × (member_probes found ≡ names_view l.probes)

abbrev pub decreases-loop-probes : goal.decreases-loop-probes
decreases-loop-probes l = length l.reader
