-- What the bytes of a file say of the derived matrices of the instance in it, and of the steps of a run.
use Rattle.std.specs.Prelude.{◌≡◌, ℕ, zero, suc, ◌+◌, ◌*◌, ◌≤◌, List, [], ◌∷◌, length, sum_by}
use Rattle.row_model.specs.Rows.{RowList}
use Rattle.row_model.specs.declared.kind.Kind.{Kind}
use Rattle.row_model.specs.declared.kind.Kind.TheVariants.{Rows}
use Rattle.row_model.specs.declared.refusal.Read.TheVariants as read
use Rattle.instance_model.specs.Instance.{InstanceValue, plain, circular, convex, doubly, proper, robinson, instance_columns, derived_matrix, IsSideOf}
use Rattle.command_input.specs.Words.{Solve}
use Rattle.command_input.specs.Instances.{instance_of}
use Rattle.pq_cli.specs.Steps.{StepsOn}

-- how many columns, rows and ones a matrix has together
abbrev pub matrix_size : RowList → ℕ
matrix_size m = m.columns + length m.rows + sum_by length m.rows

-- the same of the derived matrices of the first k sides together
abbrev pub sizes_to : InstanceValue → ℕ → ℕ
sizes_to i zero = 0
sizes_to i (suc k) = sizes_to i k + matrix_size (derived_matrix i (suc k))

-- the same of all sides
abbrev pub derived_size : InstanceValue → ℕ
derived_size i = sizes_to i (length (instance_columns i))

-- The most columns, rows and ones of the derived matrices together, by the number of bytes of the file. Where a number in
-- the file says how many columns or vertices there are, it counts too.
abbrev pub most_size : InstanceValue → ℕ → ℕ
most_size (plain Rows m) bytes = m.columns + bytes
most_size (plain kind m) bytes = 3 * bytes
most_size (circular m) bytes = 3 * bytes
most_size (convex g) bytes = g.left + g.right + bytes
most_size (doubly g) bytes = 2 * (g.left + g.right) + bytes
most_size (proper g) bytes = 3 * g.vertices + bytes
most_size (robinson d) bytes = d.items * bytes

-- the most ones of one of them
abbrev pub most_ones : InstanceValue → ℕ → ℕ
most_ones (proper g) bytes = g.vertices + bytes
most_ones (robinson d) bytes = d.items * bytes
most_ones i bytes = bytes

-- the derived matrices of an instance have no more in a file of so many bytes
pub record IsWithinBytes (i : InstanceValue) (bytes : ℕ) : Type 0 where
  pub size : derived_size i ≤ most_size i bytes
  pub ones : (side : ℕ) → IsSideOf i side → sum_by length (derived_matrix i side).rows ≤ most_ones i bytes

-- so it is with each instance in the bytes of a file
abbrev pub SizeLaw : Type 0
SizeLaw = (kind : Kind) (bytes : List ℕ) (i : InstanceValue) → instance_of kind bytes ≡ read.Ok i → IsWithinBytes i (length bytes)

-- the most steps of a search for an odd cycle on a side: 8c(f + 1), with c columns and f ones
abbrev pub most_search : InstanceValue → ℕ → ℕ
most_search (robinson d) bytes = 8 * d.items * (d.items * bytes + 1)
most_search i bytes = 16384 * (most_ones i bytes + 1)

-- the steps of `solve` with status 0 are at most 1024 for each column, row and one that the bytes allow
abbrev pub YesLaw : Type 0
YesLaw =
    (kind : Kind) (file bytes : List ℕ) (i : InstanceValue) (s n : ℕ) →
    instance_of kind bytes ≡ read.Ok i →
    StepsOn (Solve kind file) (bytes ∷ []) 0 s n →
    n ≤ s + 1024 * most_size i (length bytes)

-- with any status they are at most a search more
abbrev pub MostLaw : Type 0
MostLaw =
    (kind : Kind) (file bytes : List ℕ) (i : InstanceValue) (status s n : ℕ) →
    instance_of kind bytes ≡ read.Ok i →
    StepsOn (Solve kind file) (bytes ∷ []) status s n →
    n ≤ s + 1024 * most_size i (length bytes) + most_search i (length bytes)

-- by the bytes alone, whatever the kind: with status 0 at most 262,144 for each byte, and 136,314,880 more
abbrev pub AnyYesLaw : Type 0
AnyYesLaw =
    (kind : Kind) (file bytes : List ℕ) (i : InstanceValue) (s n : ℕ) →
    instance_of kind bytes ≡ read.Ok i →
    StepsOn (Solve kind file) (bytes ∷ []) 0 s n →
    n ≤ s + 262144 * length bytes + 136314880

-- with any status at most 786,432 for each byte, and 136,331,264 more
abbrev pub AnyMostLaw : Type 0
AnyMostLaw =
    (kind : Kind) (file bytes : List ℕ) (i : InstanceValue) (status s n : ℕ) →
    instance_of kind bytes ≡ read.Ok i →
    StepsOn (Solve kind file) (bytes ∷ []) status s n →
    n ≤ s + 786432 * length bytes + 136331264
