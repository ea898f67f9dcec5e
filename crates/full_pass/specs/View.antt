-- What contracts see of the room of a pass, and what it keeps.
use Rattle.std.specs.Prelude.{ℕ, ◌≤◌, List, length, take}
use Rattle.pq_arena.specs.declared.node.NodeId.{NodeId}
use Rattle.full_pass.specs.declared.work.FullWork.TheInside.{Inside}
use Rattle.full_pass.specs.Entries.{AreReady}

-- The room of a pass: for how many nodes it is, the members of the last answer that has some, and the others of the last that has two lists.
pub record Room : Type 0 where
  pub size : ℕ
  pub members : List NodeId
  pub others : List NodeId

-- what contracts see of the room
abbrev pub room_of : Inside → Room
room_of a = record { size = length a.entries.tallies.items; members = take a.count a.members.items; others = take a.other_count a.others.items }

-- what always holds of the room
pub record IsFullWorkKept (a : Inside) : Type 0 where
  pub ready : AreReady a.entries (length a.entries.tallies.items)
  pub room : length a.entries.tallies.items ≤ length a.members.items
  pub count : a.count ≤ length a.members.items
  pub other_room : length a.entries.tallies.items ≤ length a.others.items
  pub other_count : a.other_count ≤ length a.others.items
