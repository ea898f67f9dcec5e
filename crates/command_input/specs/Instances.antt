-- The instance in the bytes of a file.
use Rattle.std.specs.Prelude.{◌≡◌, ℕ, ◌<◌, List, length, ⊤}
use Rattle.row_model.specs.declared.kind.Kind.{Kind}
use Rattle.row_model.specs.declared.kind.Kind.TheVariants.{Matrix, Rows, Table, Circular, Convex, Doubly, Proper, Robinson, Clones}
use Rattle.row_model.specs.declared.refusal.Read.{Read}
use Rattle.row_model.specs.declared.refusal.Read.TheVariants as read
use Rattle.row_model.specs.declared.TheConstants.{MAX_COLUMNS, MAX_ROWS, MAX_FILE_BYTES}
use Rattle.row_model.specs.declared.code.TheConstants.{LIMIT}
use Rattle.matrix_read.specs.Dense.{dense}
use Rattle.matrix_read.specs.Sparse.{sparse}
use Rattle.matrix_read.specs.Table.{table}
use Rattle.matrix_read.specs.Clones.{clones}
use Rattle.graph_read.specs.Files.{bigraph, graph}
use Rattle.graph_read.specs.DistanceFiles.{distances}
use Rattle.instance_model.specs.Instance.{InstanceValue, plain, circular, convex, doubly, proper, robinson, instance_kind, IsInstance, IsWellFormed}
use Rattle.instance_model.specs.Value.{instance_value}
use Rattle.instance_model.specs.declared.instance.Instance.{Instance}
use Rattle.instance_model.specs.declared.instance.Instance.TheVariants as instance
use Rattle.graph_model.specs.declared.graph.Graph.{Graph}

-- what is made of a value that was read, or the refusal
abbrev pub map_read : {A B : Type 0} → (A → B) → Read A → Read B
map_read f (read.Ok value) = read.Ok (f value)
map_read f (read.Refused refusal) = read.Refused refusal

-- a fact about the value, where one was read
abbrev pub IfRead : {A : Type 0} → Read A → (A → Type 0) → Type 0
IfRead (read.Ok value) P = P value
IfRead (read.Refused refusal) P = ⊤

-- both are values of which P holds, or both are the same refusal
abbrev pub AreRead : {A B : Type 0} → (A → B → Type 0) → Read A → Read B → Type 0
AreRead P (read.Ok value) (read.Ok made) = P value made
AreRead P (read.Ok value) (read.Refused refusal) = ⊥
AreRead P (read.Refused refusal) (read.Ok made) = ⊥
AreRead P (read.Refused refusal) (read.Refused same) = same ≡ refusal

-- The instance of a kind in the bytes of its file, or their first refusal. Of a doubly convex graph both sides are
-- columns, so that both have the limit of columns.
abbrev pub instance_of : Kind → List ℕ → Read InstanceValue
instance_of Matrix bytes = map_read (plain Matrix) (dense bytes)
instance_of Rows bytes = map_read (plain Rows) (sparse bytes)
instance_of Table bytes = map_read (plain Table) (table bytes)
instance_of Circular bytes = map_read circular (dense bytes)
instance_of Convex bytes = map_read convex (bigraph MAX_ROWS bytes)
instance_of Doubly bytes = map_read doubly (bigraph MAX_COLUMNS bytes)
instance_of Proper bytes = map_read proper (graph bytes)
instance_of Robinson bytes = map_read robinson (distances bytes)
instance_of Clones bytes = map_read (plain Clones) (clones bytes)

-- an instance of the kind, within the limits of files
abbrev pub IsInstanceOf : Kind → Instance → Type 0
IsInstanceOf kind i = IsInstance (instance_value i) × (instance_kind (instance_value i) ≡ kind)

-- an instance of the kind, within the limits of files, which holds what its type says
pub record IsReadAs (kind : Kind) (i : InstanceValue) : Type 0 where
  pub within : IsInstance i
  pub formed : IsWellFormed i
  pub kind_is : instance_kind i ≡ kind

-- so is each instance in the bytes of a file
abbrev pub InstanceLaw : Type 0
InstanceLaw = (kind : Kind) (bytes : List ℕ) (i : InstanceValue) → instance_of kind bytes ≡ read.Ok i → IsReadAs kind i

-- more bytes than there may be are refused, whatever the kind
abbrev pub LongLaw : Type 0
LongLaw = (kind : Kind) (bytes : List ℕ) → MAX_FILE_BYTES < length bytes → instance_of kind bytes ≡ read.Refused (record { code = LIMIT; line = 0 })

-- the bytes of a file are read as this instance, or refused so
abbrev pub ReadsInstance : Kind → List ℕ → Read Instance → Type 0
ReadsInstance kind bytes made = map_read instance_value made ≡ instance_of kind bytes

-- whatever the bytes, an instance that is read is one of the kind, within the limits of files
abbrev pub HoldsInstance : Kind → Read Instance → Type 0
HoldsInstance kind made = IfRead made (IsInstanceOf kind)

-- an instance of the kind `proper` is a graph
abbrev pub OnlyGraphLaw : Type 0
OnlyGraphLaw = (i : Instance) → IsInstance (instance_value i) → instance_kind (instance_value i) ≡ Proper → ((g : Graph) → i ≡ instance.Proper g → ⊥) → ⊥
