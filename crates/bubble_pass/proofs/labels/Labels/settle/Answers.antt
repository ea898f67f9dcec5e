use Rattle.std.proofs.Common.{sym, ◌∙◌}
use Rattle.bubble_pass.proofs.Sweeping.{note_in, tell_first, tell_again, can_count, can_add, settled_top, settled_wait, settled_add, same_top, same_wait, same_add}
use Rattle.bubble_pass.proofs.labels.Labels.settle.Goals as goal

pub note-requires : goal.note-requires
note-requires g c = (note_in c.args.arena.now g.leaves c.args.climber.now c.args.chains.now c.args.self.now c.args.x c.args.done c.args.label c.requires).0

pub stage_of-requires : goal.stage_of-requires
stage_of-requires g c = (note_in c.args.arena.now g.leaves c.args.climber.now c.args.chains.now c.args.self.now c.args.x c.args.done c.args.label c.requires).1

pub tell-requires : goal.tell-requires
tell-requires g c = tell_first c.args.arena.now g.leaves c.args.climber.now c.args.chains.now c.args.self.now c.note.new.self c.args.x c.in-Placed.m c.args.done c.args.label (record { can = c.requires; noted = c.note.ensures; forest = c.layout_law.ensures }) (sym c.stage_of.ensures ∙ c.in-Placed.is)

pub told-requires : goal.told-requires
told-requires g c = tell_again c.args.arena.now g.leaves c.args.climber.now c.args.chains.now c.args.self.now c.note.new.self c.tell.new.self c.args.x c.in-Placed.m c.args.done c.args.label (record { noting = record { can = c.requires; noted = c.note.ensures; forest = c.layout_law.ensures }; placed = sym c.stage_of.ensures ∙ c.in-Placed.is; told = c.tell.ensures })

pub count_of-requires : goal.count_of-requires
count_of-requires g c = can_count c.args.arena.now g.leaves c.args.climber.now c.args.chains.now c.args.self.now c.note.new.self c.tell.new.self c.args.x c.in-Placed.m c.args.done c.args.label (record { noting = record { can = c.requires; noted = c.note.ensures; forest = c.layout_law.ensures }; placed = sym c.stage_of.ensures ∙ c.in-Placed.is; told = c.tell.ensures })

pub add-requires : goal.add-requires
add-requires g c = can_add c.args.arena.now g.leaves c.args.climber.now c.args.chains.now c.args.self.now c.note.new.self c.tell.new.self c.args.x c.in-Placed.m c.args.done c.args.label (record { noting = record { can = c.requires; noted = c.note.ensures; forest = c.layout_law.ensures }; placed = sym c.stage_of.ensures ∙ c.in-Placed.is; told = c.tell.ensures })

pub returns-then-told-count_of : goal.returns-then-told-count_of
returns-then-told-count_of g c = record {
  swept = settled_add c.args.arena.now g.leaves c.args.climber.now c.args.chains.now c.args.self.now c.note.new.self c.tell.new.self c.add.new.self c.args.x c.in-Placed.m c.args.done c.args.label (record { noting = record { can = c.requires; noted = c.note.ensures; forest = c.layout_law.ensures }; placed = sym c.stage_of.ensures ∙ c.in-Placed.is; told = c.tell.ensures })
      (sym c.told.ensures ∙ c.if-told-count_of.true ∙ c.count_of.ensures) c.add.ensures;
  before = same_add c.args.arena.now g.leaves c.args.climber.now c.args.chains.now c.args.self.now c.note.new.self c.tell.new.self c.add.new.self c.args.x c.in-Placed.m c.args.done c.args.label (record { noting = record { can = c.requires; noted = c.note.ensures; forest = c.layout_law.ensures }; placed = sym c.stage_of.ensures ∙ c.in-Placed.is; told = c.tell.ensures }) c.add.ensures;
}

pub returns-else-told-count_of : goal.returns-else-told-count_of
returns-else-told-count_of g c = record {
  swept = settled_wait c.args.arena.now g.leaves c.args.climber.now c.args.chains.now c.args.self.now c.note.new.self c.tell.new.self c.args.x c.in-Placed.m c.args.done c.args.label (record { noting = record { can = c.requires; noted = c.note.ensures; forest = c.layout_law.ensures }; placed = sym c.stage_of.ensures ∙ c.in-Placed.is; told = c.tell.ensures })
      (λ e. c.if-told-count_of.false (c.told.ensures ∙ e ∙ sym c.count_of.ensures));
  before = same_wait c.args.arena.now g.leaves c.args.climber.now c.args.chains.now c.args.self.now c.note.new.self c.tell.new.self c.args.x c.in-Placed.m c.args.done c.args.label (record { noting = record { can = c.requires; noted = c.note.ensures; forest = c.layout_law.ensures }; placed = sym c.stage_of.ensures ∙ c.in-Placed.is; told = c.tell.ensures });
}

pub returns-in_default : goal.returns-in_default
returns-in_default g c = record {
  swept = settled_top c.args.arena.now g.leaves c.args.climber.now c.args.chains.now c.args.self.now c.note.new.self c.args.x c.args.done c.args.label (record { can = c.requires; noted = c.note.ensures; forest = c.layout_law.ensures }) (λ m q. c.in_default.not-Placed m (c.stage_of.ensures ∙ q));
  before = same_top c.args.arena.now g.leaves c.args.climber.now c.args.chains.now c.args.self.now c.note.new.self c.args.x c.args.done c.args.label (record { can = c.requires; noted = c.note.ensures; forest = c.layout_law.ensures });
}
