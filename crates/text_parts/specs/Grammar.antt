-- Numbers, and lines of a cycle, that fit the grammars of the texts.
use Rattle.std.specs.Prelude.{◌≤◌, ℕ}
use Rattle.row_model.specs.declared.TheConstants.{MAX_COLUMNS}
use Rattle.row_model.specs.declared.graph.Line.{Line}
use Rattle.row_model.specs.declared.graph.Why.{Why}
use Rattle.row_model.specs.declared.graph.Why.TheVariants.{Flip, Row}

-- a count, a column, a row or a position: a number of 32 bits
abbrev pub Fits32 : ℕ → Type 0
Fits32 n = n ≤ 4294967295

-- the greatest of them, for who reads one
abbrev pub max_number : ℕ
max_number = 4294967295

-- a number of columns
abbrev pub IsColumnCount : ℕ → Type 0
IsColumnCount c = (1 ≤ c) × (c ≤ MAX_COLUMNS)

-- a reason that is a flip, or whose row fits the grammar
abbrev pub IsReason : Why → Type 0
IsReason Flip = Unit {0}
IsReason (Row k) = Fits32 k

-- a line of a cycle
abbrev pub IsLine : Line → Type 0
IsLine line = Fits32 line.pair.a × Fits32 line.pair.b × IsReason line.why
