-- What the readers of the program give.
use Rattle.std.specs.Prelude.{◌≡◌, ℕ, List, Option, Some, None, Result, Ok, Err}
use Rattle.std.specs.Borrow.{Bor}
use Rattle.std.specs.declared.vec.Vec.{Vec}
use Rattle.std.specs.declared.alloc.Global.{Global}
use Rattle.text_parts.specs.declared.stop.Stop.{Stop}
use Rattle.text_parts.specs.declared.stop.Stop.TheVariants as stop

-- a stop says that nothing is to be read, unless memory ran out
abbrev pub Stops : {Y : Type 0} → Stop → Option Y → Type 0
Stops stop.NoMemory read = Unit {0}
Stops stop.Outside read = read ≡ None

-- what a reader returned, as a view shows it, is what is to be read, unless memory ran out
abbrev pub Gives : {X Y : Type 0} → (X → Y) → Result X Stop → Option Y → Type 0
Gives view (Ok x) read = read ≡ Some (view x)
Gives view (Err e) read = Stops e read

-- the numbers, and the bytes after them
abbrev pub numbers_seen : (Vec ℕ Global × Bor (List ℕ)) → (List ℕ × List ℕ)
numbers_seen x = (x.0.items, x.1.now)
