use Rattle.std.proofs.Common.{◌+◌, ◌*◌, false, refl, arith}
use Rattle.bubble_pass.specs.declared.tables.Tables.{Tables}
use Rattle.bubble_pass.specs.Tables.{AreClear}
use Rattle.bubble_pass.proofs.Tabling.{fresh_clear, clear_kept, clear_marks}
use Rattle.bubble_pass.proofs.work.Work.new.Goals as goal

made : goal.In_ok-seats → Tables
made c = record { climber = c.in_ok-climber.climber; chains = c.in_ok-chains.chains; labels = c.in_ok-labels.labels; seats = c.in_ok-seats.seats; inside = false }

clear : (c : goal.In_ok-seats) → AreClear (made c) (2 * c.args.columns + 4)
unfolding made
clear c =
    fresh_clear (made c) (2 * c.args.columns + 4)
    (record {
      few = omega (arith, c.requires);
      stages = c.in_ok-climber.ensures.stages;
      queue = c.in_ok-climber.ensures.queue;
      first = c.in_ok-chains.ensures.first;
      next = c.in_ok-chains.ensures.next;
      count = c.in_ok-chains.ensures.count;
      labels = c.in_ok-labels.ensures.labels;
      full = c.in_ok-labels.ensures.full;
      partial = c.in_ok-labels.ensures.partial;
      nodes = c.in_ok-labels.ensures.nodes;
      seat_nodes = c.in_ok-seats.ensures.nodes;
      seats = c.in_ok-seats.ensures.seats;
      head = c.in_ok-climber.ensures.idle.0;
      tail = c.in_ok-climber.ensures.idle.1;
      parked = c.in_ok-climber.ensures.idle.2;
      len = c.in_ok-labels.ensures.len;
      outside = refl;
    })

pub invariant_of-result : goal.invariant_of-result
unfolding made
invariant_of-result c = record { tables = clear_kept (made c) (2 * c.args.columns + 4) (clear c) }

pub returns : goal.returns
unfolding made
returns c = (clear_marks (made c) (2 * c.args.columns + 4) (clear c), (clear c).sized.labels)
