-- The value of an arena, and what each keeps.
use Rattle.pq_arena.specs.declared.arena.Arena.TheInside.{Inside}
use Rattle.arena_model.specs.Layout.{Layout}
use Rattle.pq_arena.specs.StandsFor.{StandsFor, layout_read}
use Rattle.pq_arena.specs.Wiring.{links, heads}

-- the layout that an arena stands for
abbrev pub layout_of : Inside → Layout
layout_of a = layout_read (links a.nodes.items) (heads a.nodes.items) a.root a.spare a.count a.columns

-- its nodes stand for it
pub record IsArenaKept (a : Inside) : Type 0 where
  pub stands : StandsFor (links a.nodes.items) (heads a.nodes.items) a.root a.spare a.count a.columns (layout_of a)
