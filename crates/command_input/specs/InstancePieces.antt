-- The instance in the bytes of a file of which a part was read.
use Rattle.std.specs.Prelude.{ℕ, List, Bool, true, false}
use Rattle.row_model.specs.declared.kind.Kind.TheVariants.{Matrix, Rows, Table, Circular, Convex, Doubly, Proper, Robinson, Clones}
use Rattle.row_model.specs.declared.refusal.Read.{Read}
use Rattle.matrix_read.specs.DigitRows.{dense_with}
use Rattle.matrix_read.specs.NamedRows.{rows_with}
use Rattle.graph_read.specs.Pieces.{bigraph_then, graph_then}
use Rattle.instance_model.specs.Instance.{InstanceValue, plain, circular, convex, doubly, proper}
use Rattle.instance_model.specs.declared.instance.Instance.{Instance}
use Rattle.command_input.specs.Instances.{map_read, ReadsInstance, HoldsInstance}
use Rattle.command_input.specs.declared.instance_reader.InstanceReader.{InstanceReader}
use Rattle.command_input.specs.declared.instance_reader.InstanceReader.TheVariants as reader
use Rattle.row_model.specs.declared.kind.Kind.{Kind}

-- the instance in the bytes of a file of which these are left, or their first refusal
abbrev pub instance_with : InstanceReader → List ℕ → Read InstanceValue
instance_with (reader.Matrix dense) text = map_read (plain Matrix) (dense_with dense text)
instance_with (reader.Circular dense) text = map_read circular (dense_with dense text)
instance_with (reader.Rows rows) text = map_read (plain Rows) (rows_with rows text)
instance_with (reader.Convex graph) text = map_read convex (bigraph_then graph text)
instance_with (reader.Doubly graph) text = map_read doubly (bigraph_then graph text)
instance_with (reader.Proper graph) text = map_read proper (graph_then graph text)

-- whether files of a kind are read in pieces; the others are read whole
abbrev pub comes_in_pieces : Kind → Bool
comes_in_pieces Matrix = true
comes_in_pieces Rows = true
comes_in_pieces Table = false
comes_in_pieces Circular = true
comes_in_pieces Convex = true
comes_in_pieces Doubly = true
comes_in_pieces Proper = true
comes_in_pieces Robinson = false
comes_in_pieces Clones = false

-- an instance that is read of some bytes is one of the kind, within the limits of files
abbrev pub HeldLaw : Type 0
HeldLaw = (kind : Kind) (bytes : List ℕ) (made : Read Instance) → ReadsInstance kind bytes made → HoldsInstance kind made
