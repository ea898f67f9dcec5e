-- What is read of the file of an instance.
use Rattle.std.proofs.Common.{◌≡◌, ℕ, List, ap, sym, refl, subst, arith}
use Rattle.row_model.specs.declared.kind.Kind.{Kind}
use Rattle.row_model.specs.declared.kind.Kind.TheVariants.{Matrix, Rows, Table, Circular, Convex, Doubly, Proper, Robinson, Clones}
use Rattle.row_model.specs.declared.refusal.Read.{Read}
use Rattle.row_model.specs.declared.refusal.Read.TheVariants as read
use Rattle.row_model.specs.declared.TheConstants.{MAX_COLUMNS, MAX_ROWS}
use Rattle.row_model.specs.Rows.{RowList}
use Rattle.matrix_read.specs.Dense.{dense}
use Rattle.matrix_read.specs.Sparse.{sparse}
use Rattle.matrix_read.specs.Table.{table}
use Rattle.matrix_read.specs.Clones.{clones}
use Rattle.matrix_read.specs.Limits.{IsWithinLimits, LimitsLaw}
use Rattle.text_lines.specs.FirstRefusal.{RefusesLong}
use Rattle.graph_read.specs.Files.{bigraph, graph}
use Rattle.graph_read.specs.DistanceFiles.{distances}
use Rattle.graph_read.specs.FileLaws.{BigraphLaw, GraphLaw, DistancesLaw}
use Rattle.instance_model.specs.Instance.{InstanceValue, plain, circular, convex, doubly, proper, robinson, IsPlainKind}
use Rattle.instance_model.specs.Value.{instance_value}
use Rattle.instance_model.specs.declared.instance.Instance.{Instance}
use Rattle.instance_model.specs.declared.instance.Instance.TheVariants as instance
use Rattle.command_input.specs.Instances.{instance_of, map_read, IfRead, IsInstanceOf, IsReadAs, InstanceLaw, LongLaw, OnlyGraphLaw}

-- more bytes than there may be are refused, by the laws of the readers
pub record RefuseLong : Type 0 where
  pub dense : RefusesLong dense
  pub rows : RefusesLong sparse
  pub table : RefusesLong table
  pub clones : RefusesLong clones
  pub bigraph : (limit : ℕ) → RefusesLong (bigraph limit)
  pub graph : RefusesLong graph
  pub distances : RefusesLong distances

pub long_law : RefuseLong → LongLaw
long_law laws Matrix bytes h = ap (map_read (plain Matrix)) (laws.dense bytes h)
long_law laws Rows bytes h = ap (map_read (plain Rows)) (laws.rows bytes h)
long_law laws Table bytes h = ap (map_read (plain Table)) (laws.table bytes h)
long_law laws Circular bytes h = ap (map_read circular) (laws.dense bytes h)
long_law laws Convex bytes h = ap (map_read convex) (laws.bigraph MAX_ROWS bytes h)
long_law laws Doubly bytes h = ap (map_read doubly) (laws.bigraph MAX_COLUMNS bytes h)
long_law laws Proper bytes h = ap (map_read proper) (laws.graph bytes h)
long_law laws Robinson bytes h = ap (map_read robinson) (laws.distances bytes h)
long_law laws Clones bytes h = ap (map_read (plain Clones)) (laws.clones bytes h)

-- the instance that is read, if one is
abbrev read_or : InstanceValue → Read InstanceValue → InstanceValue
read_or other (read.Ok i) = i
read_or other (read.Refused refusal) = other

made_read : {A : Type 0} (kind : Kind) (make : A → InstanceValue) (judged : Read A) (i : InstanceValue) → ((value : A) → judged ≡ read.Ok value → IsReadAs kind (make value)) → map_read make judged ≡ read.Ok i
    → IsReadAs kind i
made_read kind make (read.Ok value) i found e = let same : make value ≡ i = ap (read_or i) e in subst (IsReadAs kind) same (found value refl)
made_read kind make (read.Refused refusal) i found e = absurd (cc)

-- a matrix that is read
matrix_read : (kind : Kind) (m : RowList) → IsPlainKind kind → IsWithinLimits m → IsReadAs kind (plain kind m)
matrix_read kind m p within = record { within = (p, within.columns, within.rows); formed = tt; kind_is = refl }

-- the instance in the bytes of a file is within the limits
pub if_read : InstanceLaw → (kind : Kind) (bytes : List ℕ) (made : Read Instance) → map_read instance_value made ≡ instance_of kind bytes → IfRead made (IsInstanceOf kind)
if_read law kind bytes (read.Ok i) e = let found = law kind bytes (instance_value i) (sym e) in (found.within, found.kind_is)
if_read law kind bytes (read.Refused refusal) e = tt

module _ (limits : LimitsLaw) (bigraphs : BigraphLaw) (graphs : GraphLaw) (tables : DistancesLaw) where
  pub instance_read : InstanceLaw
  instance_read Matrix bytes i = made_read Matrix (plain Matrix) (dense bytes) i (λ m e. matrix_read Matrix m tt (limits.dense bytes m e))
  instance_read Rows bytes i = made_read Rows (plain Rows) (sparse bytes) i (λ m e. matrix_read Rows m tt (limits.rows bytes m e))
  instance_read Table bytes i = made_read Table (plain Table) (table bytes) i (λ m e. matrix_read Table m tt (limits.table bytes m e))
  instance_read Circular bytes i =
      made_read Circular circular (dense bytes) i (λ m e. let within = limits.dense bytes m e in record { within = (within.columns, within.rows); formed = tt; kind_is = refl })
  instance_read Convex bytes i =
      made_read Convex convex (bigraph MAX_ROWS bytes) i
      (λ g e. let found = (bigraphs MAX_ROWS bytes g (omega arith)).0 e in record { within = (found.left, found.right); formed = found.bigraph; kind_is = refl })
  instance_read Doubly bytes i =
      made_read Doubly doubly (bigraph MAX_COLUMNS bytes) i
      (λ g e. let found = (bigraphs MAX_COLUMNS bytes g (omega arith)).0 e in record { within = (found.left, found.right); formed = found.bigraph; kind_is = refl })
  instance_read Proper bytes i =
      made_read Proper proper (graph bytes) i (λ g e. let found = (graphs bytes g).0 e in record { within = found.vertices; formed = found.graph; kind_is = refl })
  instance_read Robinson bytes i =
      made_read Robinson robinson (distances bytes) i (λ d e. let found = (tables bytes d).0 e in record { within = found.items; formed = found.distances; kind_is = refl })
  instance_read Clones bytes i = made_read Clones (plain Clones) (clones bytes) i (λ m e. matrix_read Clones m tt (limits.clones bytes m e))

-- an instance of the kind is a graph
pub only_graph : OnlyGraphLaw
only_graph (instance.Plain kind m) within is none = let no : IsPlainKind Proper = subst IsPlainKind is within.0 in no
only_graph (instance.Circular m) within is none = absurd (cc)
only_graph (instance.Convex x) within is none = absurd (cc)
only_graph (instance.Doubly x) within is none = absurd (cc)
only_graph (instance.Proper x) within is none = none x refl
only_graph (instance.Robinson d) within is none = absurd (cc)
