-- What an instance of the program is.
use Rattle.instance_model.specs.declared.instance.Instance.{Instance}
use Rattle.instance_model.specs.declared.instance.Instance.TheVariants as instance
use Rattle.row_model.specs.Rows.{RowList}
use Rattle.instance_model.specs.declared.derived.Derived.{Derived}
use Rattle.instance_model.specs.declared.derived.Derived.TheVariants.{Lent, Made}
use Rattle.instance_model.specs.Instance.{InstanceValue, plain, circular, convex, doubly, proper, robinson}

-- the instance as the definitions have it
abbrev pub instance_value : Instance → InstanceValue
instance_value (instance.Plain kind matrix) = plain kind matrix
instance_value (instance.Circular matrix) = circular matrix
instance_value (instance.Convex graph) = convex graph
instance_value (instance.Doubly graph) = doubly graph
instance_value (instance.Proper graph) = proper graph
instance_value (instance.Robinson distances) = robinson distances

-- the matrix that was lent or made
abbrev pub matrix_of : Derived → RowList
matrix_of (Lent matrix) = matrix.now
matrix_of (Made matrix) = matrix
