-- What contracts see of the reducer, and what it keeps.
use Rattle.std.specs.Prelude.{◌≡◌, length}
use Rattle.pq_tree.specs.Proper.{IsProper}
use Rattle.arena_model.specs.Layout.{Layout}
use Rattle.arena_model.specs.NamedTree.{IsOneTree, outline_at}
use Rattle.bubble_pass.specs.Marks.{size_of}
use Rattle.row_reduce.specs.declared.reducer.ArenaReducer.TheInside.{Inside}

-- its arena
abbrev pub arena_of : Inside → Layout
arena_of a = a.arena

-- a proper tree, and room for the nodes of the arena
pub record IsReducerKept (a : Inside) : Type 0 where
  pub one : IsOneTree a.arena
  pub proper : IsProper a.arena.columns (outline_at a.arena)
  pub full : a.full.size ≡ length a.arena.slots
  pub room : size_of a.work ≡ length a.arena.slots
  pub chosen : length a.chosen.items ≡ length a.arena.slots
