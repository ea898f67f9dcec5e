-- How a core keeps its parts.
use Rattle.std.specs.Prelude.{◌≡◌, length}
use Rattle.std.specs.List.Sorted.{IsStrictlyIncreasing}
use Rattle.core_text.specs.Parts.{CoreParts}
use Rattle.core_text.specs.declared.core_parts.Core.TheInside.{Inside}

-- what contracts see of the fields
abbrev pub core_within : Inside → CoreParts
core_within core = record { rows = core.rows.items; orders = core.orders; lines = core.lines }

-- what is always true of the fields
pub record IsCoreKept (core : Inside) : Type 0 where
  pub ascending : IsStrictlyIncreasing core.rows.items
  pub each : length core.orders ≡ length core.rows.items
