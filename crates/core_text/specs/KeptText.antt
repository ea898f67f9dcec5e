-- How the text of a core keeps its parts.
use Rattle.std.specs.Prelude.{◌≡◌, length}
use Rattle.core_text.specs.Texts.{TextValue}
use Rattle.core_text.specs.declared.text.CoreText.TheInside.{Inside}

-- what contracts see of the fields
abbrev pub text_within : Inside → TextValue
text_within t = record { kind = t.kind; columns = t.columns; parts = record { rows = t.rows.items; orders = t.orders; lines = t.lines } }

-- what is always true of the fields
abbrev pub HasOrders : Inside → Type 0
HasOrders t = length t.orders ≡ length t.rows.items
