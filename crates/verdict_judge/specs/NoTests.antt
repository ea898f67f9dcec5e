-- What the tests of a no ask. The lines count from 1.
use Rattle.std.specs.Prelude.{◌≢◌, ℕ, ◌-◌, ◌≤◌, List, length, take, drop, slice_get, IsSomeAnd}
use Rattle.std.specs.List.{AllByRecursion}
use Rattle.row_model.specs.declared.graph.Pair.{Pair}
use Rattle.row_model.specs.declared.graph.Line.{Line}
use Rattle.row_model.specs.Graph.{IsPair, JoinedBy}
use Rattle.row_model.specs.Cycles.{first_pair, IsOdd}
use Rattle.row_model.specs.Rows.{RowList}
use Rattle.verdict_judge.specs.declared.outcome.Reason.{Reason}
use Rattle.verdict_judge.specs.declared.outcome.Reason.TheVariants as reason

-- there is a line of this number, of which P holds
abbrev pub HasLine : List Line → ℕ → (Line → Type 0) → Type 0
HasLine lines n P = IsSomeAnd (slice_get lines (n - 1)) P

-- the pair of the line after the first n, and that of the first line where none comes after them
abbrev pub pair_after : List Line → ℕ → Pair → Pair
pair_after lines n other = first_pair (drop n lines) (first_pair lines other)

-- `length L`: the number of lines is odd and at least 3
abbrev pub PassesLength : List Line → Type 0
PassesLength lines = IsOdd (length lines) × (3 ≤ length lines)

-- `pair I`: line I has two distinct columns of the side
abbrev pub PassesPair : ℕ → List Line → ℕ → Type 0
PassesPair c lines n = HasLine lines n (λ line. IsPair c line.pair)

-- `repeat I`: the pair of line I stands on no earlier line
abbrev pub PassesRepeat : List Line → ℕ → Type 0
PassesRepeat lines n = HasLine lines n (λ line. AllByRecursion (λ (earlier : Line). earlier.pair ≢ line.pair) (take (n - 1) lines))

-- `join I`: the reason of line I joins its pair to that of the next line, and the last line's to that of the first
abbrev pub PassesJoin : RowList → List Line → ℕ → Type 0
PassesJoin m lines n = HasLine lines n (λ line. JoinedBy m.columns m.rows line.pair (pair_after lines n line.pair) line.why)

-- the tests by their names, of lines about the derived matrix of the side; a no passes no other
abbrev pub PassesNo : RowList → List Line → Reason → Type 0
PassesNo m lines (reason.Length count) = PassesLength lines
PassesNo m lines (reason.Pair n) = PassesPair m.columns lines n
PassesNo m lines (reason.Repeat n) = PassesRepeat lines n
PassesNo m lines (reason.Join n) = PassesJoin m lines n
PassesNo m lines other = ⊥
