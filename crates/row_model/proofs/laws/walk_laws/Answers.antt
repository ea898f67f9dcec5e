use Rattle.row_model.proofs.Walks.{joined_before, evenly_before, odd_walk_none, conflict_odd, joined-append}
use Rattle.row_model.proofs.CycleLaws.{odd_walk_from_lines, lines_from_odd_walk}
use Rattle.row_model.proofs.laws.walk_laws.Goals as goal

pub returns : goal.returns
returns c = record { joined = joined_before; even_walk = evenly_before; odd_walk = odd_walk_none; conflict = conflict_odd; lines = λ c rows. (λ h. odd_walk_from_lines c rows h.0 h.1, lines_from_odd_walk c rows); more_rows = joined-append }
