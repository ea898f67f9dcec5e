use Rattle.std.proofs.Common.{◌≡◌, length}
use Rattle.serde_json.specs.Data.{Items}
use Rattle.matrix_read.specs.CloneSteps.{strings_of}
use Rattle.matrix_read.specs.CloneNames.{names_view}
use Rattle.matrix_read.proofs.ItemLemmas.{AreItems}
use Rattle.matrix_read.proofs.clone_names.read_strings.Given as goal

abbrev pub invariant-loop-reader : goal.invariant-loop-reader
invariant-loop-reader l = (found : Items) × AreItems l.depth l.initial.reader l.reader found × (strings_of found ≡ names_view l.names)

abbrev pub decreases-loop-reader : goal.decreases-loop-reader
decreases-loop-reader l = length l.reader
