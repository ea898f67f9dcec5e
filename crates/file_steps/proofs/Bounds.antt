-- The derived matrices of each kind of file have no more columns, rows and ones than its bytes allow.
use Rattle.std.proofs.Common.{◌≡◌, ℕ, zero, suc, ◌+◌, ◌*◌, ◌≤◌, List, length, sum_by, refl, arith}
use Rattle.std.proofs.Math.Nat.{mul-le-mul, mul-le-mul_left, mul-le-mul_right}
use Rattle.std.proofs.lemmas.List.FromFn.{length-map-range_with_len}
use Rattle.row_model.specs.Rows.{RowList}
use Rattle.row_model.specs.declared.kind.Kind.{Kind}
use Rattle.row_model.specs.declared.kind.Kind.TheVariants.{Matrix, Rows, Table, Circular, Convex, Doubly, Proper, Robinson, Clones}
use Rattle.row_model.specs.declared.TheConstants.{MAX_COLUMNS, MAX_ROWS}
use Rattle.graph_model.specs.Graphs.{BigraphValue, GraphValue}
use Rattle.graph_model.specs.Distances.{DistancesValue}
use Rattle.convex_bipartite.specs.Sides.{xs_among}
use Rattle.proper_interval.specs.Umbrellas.{closed_row}
use Rattle.robinson_balls.specs.Balls.{balls_of}
use Rattle.robinson_balls.specs.Laws.{FewBallsLaw}
use Rattle.matrix_read.specs.Clones.{clones}
use Rattle.matrix_read.specs.Dense.{dense}
use Rattle.matrix_read.specs.Sparse.{sparse}
use Rattle.matrix_read.specs.Table.{table}
use Rattle.graph_read.specs.DistanceFiles.{distances}
use Rattle.graph_read.specs.Files.{bigraph, graph}
use Rattle.instance_model.specs.Instance.{InstanceValue, plain, circular, convex, doubly, proper, robinson, rows_of_side, derived_matrix, IsInstance}
use Rattle.command_input.specs.Instances.{instance_of, IfRead, IsReadAs}
use Rattle.solve_replies.specs.Steps.{taking_steps_to, side_search_steps}
use Rattle.file_steps.proofs.Clones.{clones_few}
use Rattle.file_steps.proofs.Dense.{AreFew, AreBothFew, dense_few}
use Rattle.file_steps.proofs.Distances.{HasFewNumbers, distances_few, ball_ones}
use Rattle.file_steps.proofs.Found.{map_found, more_found}
use Rattle.file_steps.proofs.Graphs.{HasFewEdges, bigraph_edges, HasFewNeighbours, graph_neighbours}
use Rattle.file_steps.proofs.Sparse.{HasFewOnes, sparse_few}
use Rattle.file_steps.proofs.Tables.{table_few}
use Rattle.file_steps.specs.Sizes.{sizes_to, most_size, most_ones, IsWithinBytes, most_search}

-- what is said of an instance that is read
abbrev pub IsWithin : Kind → ℕ → InstanceValue → Type 0
IsWithin kind bytes i = IsReadAs kind i → IsWithinBytes i bytes

rows_within : (n : ℕ) (m : RowList) → HasFewOnes n m → IsWithin Rows n (plain Rows m)
rows_within n m few is = record { size = omega (arith, few); ones = λ side is. omega (arith, few) }

convex_within : (n : ℕ) (g : BigraphValue) → HasFewEdges n g → IsWithin Convex n (convex g)
convex_within n g few is = record { size = omega (arith, few.lists, few.left); ones = λ side is. omega (arith, few.left) }

doubly_within : (n : ℕ) (g : BigraphValue) → HasFewEdges n g → IsWithin Doubly n (doubly g)
doubly_within n g few is = record {
  size = omega (arith, few.lists, few.left, few.right, length-map-range_with_len (xs_among g.neighbours g.left) 1 g.right);
  ones = λ side is. each side;
}
  where
    each : (side : ℕ) → sum_by length (rows_of_side g side).rows ≤ n
    each zero = omega (arith, few.left)
    each (suc zero) = omega (arith, few.left)
    each (suc (suc side)) = omega (arith, few.right)

proper_within : (n : ℕ) (g : GraphValue) → HasFewNeighbours n g → IsWithin Proper n (proper g)
proper_within n g few is = record {
  size = omega (arith, few, length-map-range_with_len (closed_row g) 1 g.vertices);
  ones = λ side is. omega (arith, few);
}

robinson_within : FewBallsLaw → (n : ℕ) (d : DistancesValue) → HasFewNumbers n d → IsWithin Robinson n (robinson d)
robinson_within balls n d few is =
    let square : ℕ = d.items * d.items in
    let table : 2 * square + 1 ≤ n = omega (arith, few, is.formed.whole) in
    let rows : length (balls_of d).rows ≤ square = balls d in
    let many : length (balls_of d).rows * d.items ≤ square * d.items = mul-le-mul_right d.items rows in
    let once : square * 1 ≤ square * d.items = mul-le-mul_left square is.formed.items.0 in
    let all : (2 * square + 1) * d.items ≤ n * d.items = mul-le-mul_right d.items table in
    record { size = omega (arith, rows, ball_ones d d.items, many, once, all); ones = λ side is. omega (arith, ball_ones d d.items, many, all) }

pub within : FewBallsLaw → (kind : Kind) (bytes : List ℕ) → IfRead (instance_of kind bytes) (IsWithin kind (length bytes))
within balls Matrix bytes =
    map_found (IsWithin Matrix (length bytes)) (plain Matrix) (dense bytes)
    (more_found (AreBothFew (length bytes)) (λ m. IsWithin Matrix (length bytes) (plain Matrix m))
    (λ m few is. record { size = omega (arith, few.0.columns, few.0.rows, few.0.ones); ones = λ side is. few.0.ones }) (dense bytes) (dense_few bytes))
within balls Rows bytes =
    map_found (IsWithin Rows (length bytes)) (plain Rows) (sparse bytes)
    (more_found (HasFewOnes (length bytes)) (λ m. IsWithin Rows (length bytes) (plain Rows m)) (rows_within (length bytes)) (sparse bytes) (sparse_few bytes))
within balls Table bytes =
    map_found (IsWithin Table (length bytes)) (plain Table) (table bytes)
    (more_found (AreFew (length bytes)) (λ m. IsWithin Table (length bytes) (plain Table m))
    (λ m few is. record { size = omega (arith, few.columns, few.rows, few.ones); ones = λ side is. few.ones }) (table bytes) (table_few bytes))
within balls Circular bytes =
    map_found (IsWithin Circular (length bytes)) circular (dense bytes)
    (more_found (AreBothFew (length bytes)) (λ m. IsWithin Circular (length bytes) (circular m))
    (λ m few is. record { size = omega (arith, few.1.columns, few.1.rows, few.1.ones); ones = λ side is. few.1.ones }) (dense bytes) (dense_few bytes))
within balls Convex bytes =
    map_found (IsWithin Convex (length bytes)) convex (bigraph MAX_ROWS bytes)
    (more_found (HasFewEdges (length bytes)) (λ g. IsWithin Convex (length bytes) (convex g)) (convex_within (length bytes)) (bigraph MAX_ROWS bytes) (bigraph_edges MAX_ROWS bytes))
within balls Doubly bytes =
    map_found (IsWithin Doubly (length bytes)) doubly (bigraph MAX_COLUMNS bytes)
    (more_found (HasFewEdges (length bytes)) (λ g. IsWithin Doubly (length bytes) (doubly g)) (doubly_within (length bytes)) (bigraph MAX_COLUMNS bytes) (bigraph_edges MAX_COLUMNS bytes))
within balls Proper bytes =
    map_found (IsWithin Proper (length bytes)) proper (graph bytes)
    (more_found (HasFewNeighbours (length bytes)) (λ g. IsWithin Proper (length bytes) (proper g)) (proper_within (length bytes)) (graph bytes) (graph_neighbours bytes))
within balls Robinson bytes =
    map_found (IsWithin Robinson (length bytes)) robinson (distances bytes)
    (more_found (HasFewNumbers (length bytes)) (λ d. IsWithin Robinson (length bytes) (robinson d)) (robinson_within balls (length bytes)) (distances bytes) (distances_few bytes))
within balls Clones bytes =
    map_found (IsWithin Clones (length bytes)) (plain Clones) (clones bytes)
    (more_found (AreFew (length bytes)) (λ m. IsWithin Clones (length bytes) (plain Clones m))
    (λ m few is. record { size = omega (arith, few.columns, few.rows, few.ones); ones = λ side is. few.ones }) (clones bytes) (clones_few bytes))

-- the steps in which all rows are taken
pub taking_size : (i : InstanceValue) (k : ℕ) → taking_steps_to i k ≡ 1024 * sizes_to i k
taking_size i zero = refl
taking_size i (suc k) = omega (arith, taking_size i k)

-- the steps of a search
search_most : (c f n : ℕ) → c ≤ MAX_COLUMNS → f ≤ n → 8 * c * (f + 1) ≤ 16384 * (n + 1)
search_most c f n few ones = mul-le-mul (omega (arith, few)) (omega (arith, ones))

pub search_within : (i : InstanceValue) (n side : ℕ) → (derived_matrix i side).columns ≤ MAX_COLUMNS → sum_by length (derived_matrix i side).rows ≤ most_ones i n → side_search_steps i side ≤ most_search i n
search_within (plain kind m) n side few ones = search_most m.columns (sum_by length m.rows) n few ones
search_within (circular m) n side few ones = search_most (derived_matrix (circular m) side).columns (sum_by length (derived_matrix (circular m) side).rows) n few ones
search_within (convex g) n side few ones = search_most (derived_matrix (convex g) side).columns (sum_by length (derived_matrix (convex g) side).rows) n few ones
search_within (doubly g) n side few ones = search_most (derived_matrix (doubly g) side).columns (sum_by length (derived_matrix (doubly g) side).rows) n few ones
search_within (proper g) n side few ones = search_most (derived_matrix (proper g) side).columns (sum_by length (derived_matrix (proper g) side).rows) (g.vertices + n) few ones
search_within (robinson d) n side few ones = mul-le-mul_left (8 * d.items) (omega (arith, ones))

-- within the limits of files no kind of file has more
plain_most : (kind : Kind) (m : RowList) (n : ℕ) → m.columns ≤ MAX_COLUMNS → most_size (plain kind m) n ≤ 3 * n + MAX_COLUMNS
plain_most Matrix m n few = omega arith
plain_most Rows m n few = omega (arith, few)
plain_most Table m n few = omega arith
plain_most Circular m n few = omega arith
plain_most Convex m n few = omega arith
plain_most Doubly m n few = omega arith
plain_most Proper m n few = omega arith
plain_most Robinson m n few = omega arith
plain_most Clones m n few = omega arith

both_most : (i : InstanceValue) (n : ℕ) → IsInstance i → (most_size i n ≤ 256 * n + 133120) × (1024 * most_size i n + most_search i n ≤ 786432 * n + 136331264)
both_most (plain kind m) n within = (omega (arith, plain_most kind m n within.1), omega (arith, plain_most kind m n within.1))
both_most (circular m) n within = (omega arith, omega arith)
both_most (convex g) n within = (omega (arith, within.0, within.1), omega (arith, within.0, within.1))
both_most (doubly g) n within = (omega (arith, within.0, within.1), omega (arith, within.0, within.1))
both_most (proper g) n within = (omega (arith, within), omega (arith, within))
both_most (robinson d) n within =
    let items : d.items * n ≤ 256 * n = mul-le-mul_right n (omega (arith, within)) in
    let search : 8 * d.items * (d.items * n + 1) ≤ 2048 * (256 * n + 1) = mul-le-mul (omega (arith, within)) (omega (arith, items)) in
    (omega (arith, items), omega (arith, items, search))

pub size_most : (i : InstanceValue) (n : ℕ) → IsInstance i → most_size i n ≤ 256 * n + 133120
size_most i n within = (both_most i n within).0

pub all_most : (i : InstanceValue) (n : ℕ) → IsInstance i → 1024 * most_size i n + most_search i n ≤ 786432 * n + 136331264
all_most i n within = (both_most i n within).1
