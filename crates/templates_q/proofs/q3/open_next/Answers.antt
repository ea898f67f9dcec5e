use Rattle.arena_model.proofs.Slots.{child_used}
use Rattle.templates_q.proofs.Walks.{next_child}
use Rattle.templates_q.proofs.Opening.{line_in}
use Rattle.templates_q.proofs.q3.open_next.Goals as goal

pub past-towards-requires : goal.past-towards-requires
past-towards-requires g c = let r = c.requires in child_used c.args.arena.now r.q c.args.x.index c.layout_law.ensures (next_child c.args.arena.now r.q r.us r.vs c.args.x.index c.args.from r.place)

pub splice_in-requires : goal.splice_in-requires
splice_in-requires g c = let r = c.requires in record {
  two = r.two;
  room = r.room;
  q = r.q;
  us = r.us;
  vs = r.vs;
  place = line_in c.args.arena.now r.q r.us r.vs c.args.x.index c.args.from c.past-towards.result r.place (c.past-towards.ensures.passed r.q r.us r.vs r.place);
  h = r.h;
  shape = r.shape;
}

pub returns-clause-opened : goal.returns-clause-opened
returns-clause-opened g c = λ q us vs h first s.
    c.splice_in.ensures.spliced q us vs h (line_in c.args.arena.now q us vs c.args.x.index c.args.from c.past-towards.result first (c.past-towards.ensures.passed q us vs first)) s
