-- What the readers of the program give.
use Rattle.std.specs.Prelude.{ℕ, List}
use Rattle.std.specs.List.{zip}
use Rattle.std.specs.Borrow.{Bor}
use Rattle.std.specs.declared.vec.Vec.{Vec}
use Rattle.std.specs.declared.alloc.Global.{Global}
use Rattle.core_text.specs.declared.read.Entries.{Entries}

-- the row and its order, and the bytes after them
abbrev pub entry_seen : ((ℕ × Vec ℕ Global) × Bor (List ℕ)) → ((ℕ × List ℕ) × List ℕ)
entry_seen x = ((x.0.0, x.0.1.items), x.1.now)

-- the rows with their orders, and the bytes after them
abbrev pub entries_seen : (Entries × Bor (List ℕ)) → (List (ℕ × List ℕ) × List ℕ)
entries_seen x = (zip x.0.rows.items x.0.orders, x.1.now)
