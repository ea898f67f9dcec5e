use Rattle.std.proofs.Common.{◌∙◌}
use Rattle.bubble_pass.proofs.Tabling.{touched_still}
use Rattle.bubble_pass.proofs.Putting.{Putting, put_can, put_kept, put_is}
use Rattle.bubble_pass.proofs.tables.Tables.put.Goals as goal

pub returns : goal.returns
returns c =
    let p : Putting c.args.self.now c.touch-2.new.self c.swap.new.self c.note.new.self c.args.old c.args.new c.args.label = record {
      kept = c.touch-2.ensures.kept;
      old_seen = touched_still c.touch.new.self c.touch-2.new.self c.args.new c.args.old.index c.touch-2.ensures c.touch.ensures.seen;
      new_seen = c.touch-2.ensures.seen;
      chains = c.touch-2.ensures.chains ∙ c.touch.ensures.chains;
      labels_same = c.touch-2.ensures.labels ∙ c.touch.ensures.labels;
      seats_same = c.touch-2.ensures.seats ∙ c.touch.ensures.seats;
      inside = c.touch-2.ensures.inside ∙ c.touch.ensures.inside;
      exchanged = record {
        inverse = c.touch-2.ensures.kept.inverse;
        can = put_can c.touch-2.new.self c.args.old c.args.new c.touch-2.ensures.kept
            (touched_still c.touch.new.self c.touch-2.new.self c.args.new c.args.old.index c.touch-2.ensures c.touch.ensures.seen) c.touch-2.ensures.seen;
        swapped = c.swap.ensures;
      };
      noted = c.note.ensures;
    } in
    record {
      kept = put_kept c.args.self.now c.touch-2.new.self c.swap.new.self c.note.new.self c.args.old c.args.new c.args.label p;
      put = put_is c.args.self.now c.touch-2.new.self c.swap.new.self c.note.new.self c.args.old c.args.new c.args.label p;
    }
