-- The text of a unit model, line by line. Each line ends with a line feed (byte 10), and one space (byte 32) stands between its entries.
use Rattle.std.specs.Prelude.{◌≡◌, ◌≤◌, ℕ, ◌+◌, List, [], ◌∷◌, ◌++◌, length, codes}
use Rattle.std.specs.Fmt.{decimal}
use Rattle.std.specs.List.{AllByRecursion}
use Rattle.row_model.specs.declared.TheConstants.{MAX_COLUMNS}

-- a number of vertices, the length of the intervals, and their left ends, vertex by vertex
pub record UnitValue : Type 0 where
  pub vertices : ℕ
  pub size : ℕ
  pub lefts : List ℕ

-- the greatest length and the greatest left end: the greatest number of 64 bits
abbrev pub max_end : ℕ
max_end = 18446744073709551615

-- what the grammar has: 1 vertex to 2,048, and for each a left end
pub record IsUnit (t : UnitValue) : Type 0 where
  pub vertices : (1 ≤ t.vertices) × (t.vertices ≤ MAX_COLUMNS)
  pub size : t.size ≤ max_end
  pub count : length t.lefts ≡ t.vertices
  pub each : AllByRecursion (λ n. n ≤ max_end) t.lefts

-- `unit I A`
abbrev pub left_line : ℕ → ℕ → List ℕ
left_line i left = codes "unit " ++ (decimal i ++ (32 ∷ (decimal left ++ 10 ∷ [])))

-- such a line for each left end, with numbers from i on
abbrev pub left_lines : ℕ → List ℕ → List ℕ
left_lines i [] = []
left_lines i (left ∷ lefts) = left_line i left ++ left_lines (i + 1) lefts

-- the whole text: `pq-unit 1`, `vertices N`, `length M`, a line for each left end, `end`
unfoldable pub unit_text : UnitValue → List ℕ
unit_text t =
    (codes "pq-unit 1\nvertices " ++ (decimal t.vertices ++ (codes "\nlength " ++ (decimal t.size ++ 10 ∷ [])))) ++
    (left_lines 1 t.lefts ++ codes "end\n")

-- its first three lines
abbrev pub unit_head : ℕ → ℕ → List ℕ
unit_head vertices size = codes "pq-unit 1\nvertices " ++ (decimal vertices ++ (codes "\nlength " ++ (decimal size ++ 10 ∷ [])))

-- a length or a left end
abbrev pub IsEnd : ℕ → Type 0
IsEnd n = n ≤ max_end
