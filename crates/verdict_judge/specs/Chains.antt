-- Lines in chains by the first columns of their pairs. Lines count from 0 here.
use Rattle.std.specs.Prelude.{◌≡◌, ◌≢◌, ℕ, ◌+◌, ◌<◌, ◌≤◌, List, length, slice_index, slice_index_or}
use Rattle.row_model.specs.declared.graph.Line.{Line}

-- the first of the lines from a place on whose pair has the first column a; where none has, the number of lines
pub record IsNextInChain (a : ℕ) (lines : List Line) (from at : ℕ) : Type 0 where
  pub behind : from ≤ at
  pub within : at ≤ length lines
  pub here : (d : Line) → at < length lines → (slice_index_or lines at d).pair.a ≡ a
  pub between : (i : ℕ) (d : Line) → from ≤ i → i < at → (slice_index_or lines i d).pair.a ≢ a

-- of the lines from a place on: the first line of each column's chain, and for each line the next one of its chain
pub record AreChains (lines : List Line) (from : ℕ) (firsts nexts : List ℕ) : Type 0 where
  pub first : (a : ℕ) → a < length firsts → IsNextInChain a lines from (slice_index firsts a)
  pub long : length nexts ≡ length lines
  pub next : (i : ℕ) (d : Line) → from ≤ i → i < length lines → IsNextInChain (slice_index_or lines i d).pair.a lines (i + 1) (slice_index nexts i)
