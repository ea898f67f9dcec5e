-- How a shelf in memory keeps what it holds.
use Rattle.std.specs.Prelude.{ℕ, ◌<◌, ◌≤◌, List, length, drop, option_map, IfSome}
use Rattle.pq_io.specs.NamedFiles.{Held}
use Rattle.pq_io.specs.MemFile.{named_files, bytes_at}
use Rattle.pq_io.specs.declared.mem_shelf.MemFile.{MemFile}
use Rattle.pq_io.specs.declared.mem_shelf.Place.{Place}
use Rattle.pq_io.specs.declared.mem_shelf.MemShelf.TheInside.{Inside}

-- the bytes from a place on
abbrev pub left_at : List MemFile → Place → List ℕ
left_at files place = drop place.read (bytes_at files place.file)

-- a place is one of a file, and not past its end
abbrev pub IsPlace : List MemFile → Place → Type 0
IsPlace files place = (place.file < length files) × (place.read ≤ length (bytes_at files place.file))

-- what the shelf holds, as contracts see it
abbrev pub held : Inside → Held
held shelf = record {
  files = named_files shelf.files.items;
  left = option_map (left_at shelf.files.items) shelf.chosen;
  taken = shelf.history.files;
  piece = shelf.piece;
  failing = shelf.failing.items;
  calls = shelf.calls;
  faults = shelf.faults;
}

-- a read gives something, and a chosen place is one of a file of the shelf
abbrev pub IsInRange : Inside → Type 0
IsInRange shelf = (0 < shelf.piece) × IfSome shelf.chosen (IsPlace shelf.files.items)
