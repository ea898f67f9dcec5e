-- How the tables keep what contracts see of them.
use Rattle.std.specs.Prelude.{◌≡◌, ◌*◌, ◌<◌, ◌≤◌, length}
use Rattle.column_order.specs.declared.TheConstants.{COLUMN_BOUND}
use Rattle.odd_cycle.specs.declared.numbers.PairNumbers.TheInside.{Inside}
use Rattle.odd_cycle.specs.declared.marks.Marks.TheInside.{Inside as MarksInside}
use Rattle.odd_cycle.specs.Numbers.{Numbering}
use Rattle.odd_cycle.specs.Marks.{Marking}

abbrev pub numbering_within : Inside → Numbering
numbering_within t = record { columns = t.columns; entries = t.numbers.items }

-- there are no more columns than a matrix may have, and there is a place for each pair
pub record HasEachPair (t : Inside) : Type 0 where
  pub few : t.columns ≤ COLUMN_BOUND
  pub places : length t.numbers.items ≡ t.columns * t.columns

abbrev pub marking_within : MarksInside → Marking
marking_within t = record { rows = t.rows; columns = t.columns; words = t.words.items }

-- there is a bit for each row at each column
abbrev pub HasEachMark : MarksInside → Type 0
HasEachMark t = t.rows * t.columns < 64 * length t.words.items
