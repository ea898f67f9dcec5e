use Rattle.std.proofs.Common.{◌≡◌, ◌+◌, ◌≤◌, ◌<◌, ◌∷◌, length, arith, sym, ap, subst, ◌∙◌}
use Rattle.arena_model.specs.declared.TheConstants.{NODE_BOUND}
use Rattle.arena_model.proofs.Lists.{occurs_here}
use Rattle.arena_model.proofs.Slots.{in_range}
use Rattle.full_pass.specs.Entries.{is_full, hits, far, mark_of, AreReady}
use Rattle.full_pass.specs.Passing.{run_as, IsAdded}
use Rattle.full_pass.proofs.Places.{side}
use Rattle.full_pass.proofs.Steps.{none_unlabelled}
use Rattle.full_pass.proofs.Joining.{one_look, CountedRing, FilledRun, joined_run, joined_linked, joined_ring, joined_ring_linked, joined_top, end_few, tied_by, ring_used, hits_few, run_within}
use Rattle.full_pass.proofs.joins.join.Goals as goal

pub look-children-requires : goal.look-children-requires
look-children-requires g c = ring_used c.args.arena.now c.args.x.index c.in-Ring.p c.look-view.result c.layout_law.ensures c.look-view.ensures.shows c.in-Ring.ensures

pub hit-hits-requires : goal.hit-hits-requires
hit-hits-requires g c =
    let w : AreReady c.fill-in-Ring.new.self (length c.args.arena.now.slots) = c.fill-in-Ring.ensures.ready (length c.args.arena.now.slots) c.requires.linked.ready in
    let lt = in_range c.args.arena.now c.in-Ring.p.index (ring_used c.args.arena.now c.args.x.index c.in-Ring.p c.look-view.result c.layout_law.ensures c.look-view.ensures.shows c.in-Ring.ensures) in
    let lx = in_range c.args.arena.now c.args.x.index (c.requires.pass.labels.used c.args.x.index (occurs_here c.args.x.index c.requires.waiting)) in
    let a : hits c.fill-in-Ring.new.self c.in-Ring.p.index ≡ hits c.args.entries.now c.in-Ring.p.index = c.fill-in-Ring.ensures.tallies.hits_same c.in-Ring.p.index in
    let b : hits c.args.entries.now c.in-Ring.p.index ≤ NODE_BOUND =
    hits_few c.args.arena.now c.requires.row (is_full c.args.entries.now) (hits c.args.entries.now) (c.args.x.index ∷ c.requires.waiting) c.requires.n c.args.x.index c.in-Ring.p c.look-view.result
    c.layout_law.ensures c.look-view.ensures.shows c.in-Ring.ensures c.requires.pass in
    record {
      p = subst (λ z. c.in-Ring.p.index < z) (sym w.stamped.size) lt;
      x = subst (λ z. c.args.x.index < z) (sym w.stamped.size) lx;
      few = subst (λ z. z < 4294967295) (sym a) (omega arith);
    }

pub note-requires : goal.note-requires
note-requires g c =
    let w : AreReady c.fill.new.self (length c.args.arena.now.slots) = c.fill.ensures.ready (length c.args.arena.now.slots) c.requires.linked.ready in
    subst (λ z. c.args.x.index < z) (sym w.ends) (in_range c.args.arena.now c.args.x.index (c.requires.pass.labels.used c.args.x.index (occurs_here c.args.x.index c.requires.waiting)))

pub beside-a-requires-clause-near : goal.beside-a-requires-clause-near
beside-a-requires-clause-near g c =
    (run_within c.args.arena.now c.args.x.index (length c.args.entries.now.labels.items) c.look-view.result c.layout_law.ensures c.look-view.ensures.shows c.in-Run.ensures c.requires.linked.ready.stamped.labels_size).0

pub beside-b-requires-clause-near : goal.beside-b-requires-clause-near
beside-b-requires-clause-near g c =
    (run_within c.args.arena.now c.args.x.index (length c.args.entries.now.labels.items) c.look-view.result c.layout_law.ensures c.look-view.ensures.shows c.in-Run.ensures c.requires.linked.ready.stamped.labels_size).1

pub link-requires : goal.link-requires
link-requires g c =
    let w : AreReady c.note.new.self (length c.args.arena.now.slots) = c.note.ensures.ready (length c.args.arena.now.slots)
    (c.fill.ensures.ready (length c.args.arena.now.slots) c.requires.linked.ready) in
    let few = end_few c.args.arena.now c.args.entries.now c.args.x.index c.beside-a.result.end.index c.beside-b.result.end.index c.look-view.result
    c.layout_law.ensures c.look-view.ensures.shows c.in-Run.ensures c.requires
    c.beside-a.ensures.end c.beside-b.ensures.end in
    record { a = subst (λ z. c.beside-a.result.end.index < z) (sym w.ends) few.0; b = subst (λ z. c.beside-b.result.end.index < z) (sym w.ends) few.1 }

pub above-above-requires : goal.above-above-requires
above-above-requires g c =
    let w : AreReady c.link.new.self (length c.args.arena.now.slots) = c.link.ensures.ready (length c.args.arena.now.slots)
    (c.note.ensures.ready (length c.args.arena.now.slots) (c.fill.ensures.ready (length c.args.arena.now.slots) c.requires.linked.ready)) in
    let few = end_few c.args.arena.now c.args.entries.now c.args.x.index c.beside-a.result.end.index c.beside-b.result.end.index c.look-view.result
    c.layout_law.ensures c.look-view.ensures.shows c.in-Run.ensures c.requires
    c.beside-a.ensures.end c.beside-b.ensures.end in
    record { a = subst (λ z. c.beside-a.result.end.index < z) (sym w.ends) few.0; b = subst (λ z. c.beside-b.result.end.index < z) (sym w.ends) few.1 }

pub returns-in-Top-clause-joined : goal.returns-in-Top-clause-joined
returns-in-Top-clause-joined g c = joined_top c.args.arena.now (is_full c.args.entries.now) (hits c.args.entries.now) c.args.x.index c.look-view.result c.layout_law.ensures c.look-view.ensures.shows c.in-Top.ensures c.requires.one

pub returns-in-Run : goal.returns-in-Run
returns-in-Run g c =
    let d : FilledRun c.args.arena.now c.args.entries.now c.link.new.self c.args.x.index c.beside-a.result.end.index c.beside-b.result.end.index c.look-view.result = record {
      counted = record {
        layout = c.layout_law.ensures;
        shows = c.look-view.ensures.shows;
        at = c.in-Run.ensures;
        fresh = c.requires.pass.labels.fresh c.args.x.index (occurs_here c.args.x.index c.requires.waiting);
        ends_none = none_unlabelled c.args.arena.now c.requires.row (is_full c.args.entries.now) (c.args.x.index ∷ c.requires.waiting) c.layout_law.ensures c.requires.pass.labels;
        now = c.link.ensures.full c.args.x.index ∙ c.note.ensures.full c.args.x.index ∙ c.fill.ensures.here;
        others = λ y ne. c.link.ensures.full y ∙ c.note.ensures.full y ∙ c.fill.ensures.others y ne;
        same = λ y. c.link.ensures.tallies.hits_same y ∙ c.note.ensures.tallies.hits_same y ∙ c.fill.ensures.tallies.hits_same y;
      };
      chains = c.requires.linked.chains;
      firsts = λ y. c.link.ensures.tallies.first_same y ∙ c.note.ensures.tallies.first_same y ∙ c.fill.ensures.tallies.first_same y;
      nexts = λ y. c.link.ensures.tallies.next_same y ∙ c.note.ensures.tallies.next_same y ∙ c.fill.ensures.tallies.next_same y;
      runs = c.requires.linked.runs;
      a_is = c.beside-a.ensures.end;
      b_is = c.beside-b.ensures.end;
      up_now = c.link.ensures.up c.args.x.index ∙ c.note.ensures.up;
      ups = λ y ne. c.link.ensures.up y ∙ c.note.ensures.ups y ne ∙ c.fill.ensures.up y;
      tied = tied_by (far c.args.entries.now) (far c.link.new.self) c.beside-a.result.end.index c.beside-b.result.end.index c.link.ensures.b c.link.ensures.a
          (λ y na nb. c.link.ensures.others y na nb ∙ c.note.ensures.far y ∙ c.fill.ensures.far y);
    } in
    record {
      joined = joined_run c.args.arena.now c.args.entries.now c.link.new.self c.args.x.index (c.beside-a.result.mark + c.beside-b.result.mark)
          c.beside-a.result.end.index c.beside-b.result.end.index c.look-view.result c.run_judged.result d
          (ap (λ z. z + c.beside-b.result.mark) c.beside-a.ensures.mark ∙ ap (λ z. mark_of c.args.entries.now (side c.look-view.result 0) + z) c.beside-b.ensures.mark)
          (c.run_judged.ensures ∙ ap (λ z. run_as (c.beside-a.result.mark + c.beside-b.result.mark) z) c.above-above.ensures);
      linked = joined_linked c.args.arena.now c.args.entries.now c.link.new.self c.args.x.index c.beside-a.result.end.index c.beside-b.result.end.index c.look-view.result d
          (c.link.ensures.ready (length c.args.arena.now.slots)
          (c.note.ensures.ready (length c.args.arena.now.slots) (c.fill.ensures.ready (length c.args.arena.now.slots) c.requires.linked.ready)));
      ticks = omega (arith, c.look-view.ensures.ticks);
    }

pub returns-in-Ring : goal.returns-in-Ring
returns-in-Ring g c =
    let d : CountedRing c.args.arena.now (is_full c.args.entries.now) (is_full c.hit-hits.new.self) (hits c.args.entries.now) (hits c.hit-hits.new.self) c.args.x.index c.in-Ring.p c.look-view.result = record {
      layout = c.layout_law.ensures;
      shows = c.look-view.ensures.shows;
      at = c.in-Ring.ensures;
      now = c.hit-hits.ensures.full c.args.x.index ∙ c.fill-in-Ring.ensures.here;
      others = λ y ne. c.hit-hits.ensures.full y ∙ c.fill-in-Ring.ensures.others y ne;
      hit = c.hit-hits.ensures.here ∙ ap (λ z. z + 1) (c.fill-in-Ring.ensures.tallies.hits_same c.in-Ring.p.index);
      same = λ y ne. c.hit-hits.ensures.others y ne ∙ c.fill-in-Ring.ensures.tallies.hits_same y;
    } in
    record {
      joined = λ row waiting n pass.
          subst (λ z. IsAdded c.args.arena.now row (is_full c.hit-hits.new.self) (hits c.hit-hits.new.self) waiting n z) (sym c.judged.ensures)
          (joined_ring c.args.arena.now (is_full c.args.entries.now) (is_full c.hit-hits.new.self) (hits c.args.entries.now) (hits c.hit-hits.new.self)
          c.args.x.index c.in-Ring.p c.look-view.result c.look-children.result c.hit-hits.result d
          c.look-children.ensures.shows (c.hit-hits.ensures.result ∙ ap (λ z. z + 1) (c.fill-in-Ring.ensures.tallies.hits_same c.in-Ring.p.index)) row waiting n pass);
      linked = joined_ring_linked c.args.arena.now c.args.entries.now c.hit-hits.new.self c.args.x.index c.in-Ring.p c.look-view.result d
          (c.requires.pass.labels.fresh c.args.x.index (occurs_here c.args.x.index c.requires.waiting)) c.requires.linked
          (record {
            here = d.hit;
            others = d.same;
            first_is = c.hit-hits.ensures.first;
            first_others = λ y ne. c.hit-hits.ensures.firsts y ne ∙ c.fill-in-Ring.ensures.tallies.first_same y;
            next_is = c.hit-hits.ensures.next ∙ c.fill-in-Ring.ensures.tallies.first_same c.in-Ring.p.index;
            next_others = λ y ne. c.hit-hits.ensures.nexts y ne ∙ c.fill-in-Ring.ensures.tallies.next_same y;
          })
          (λ y. c.hit-hits.ensures.far y ∙ c.fill-in-Ring.ensures.far y) (λ y ne. c.hit-hits.ensures.up y ∙ c.fill-in-Ring.ensures.up y)
          (c.hit-hits.ensures.ready (length c.args.arena.now.slots) (c.fill-in-Ring.ensures.ready (length c.args.arena.now.slots) c.requires.linked.ready));
      ticks = omega (arith, c.look-view.ensures.ticks, c.look-children.ensures.ticks);
    }

pub returns-in-Top-clause-linked : goal.returns-in-Top-clause-linked
returns-in-Top-clause-linked g c = c.requires.linked

pub returns-in-Top-clause-ticks : goal.returns-in-Top-clause-ticks
returns-in-Top-clause-ticks g c = one_look _ _ c.look-view.ensures.ticks

pub fill-requires : goal.fill-requires
fill-requires g c = subst (λ n. c.args.x.index < n) (sym c.requires.linked.ready.stamped.labels_size) (in_range c.args.arena.now c.args.x.index (c.requires.pass.labels.used c.args.x.index (occurs_here c.args.x.index c.requires.waiting)))

pub fill-requires-in-Ring : goal.fill-requires-in-Ring
fill-requires-in-Ring g c = subst (λ n. c.args.x.index < n) (sym c.requires.linked.ready.stamped.labels_size) (in_range c.args.arena.now c.args.x.index (c.requires.pass.labels.used c.args.x.index (occurs_here c.args.x.index c.requires.waiting)))

pub look-view-requires : goal.look-view-requires
look-view-requires g c = c.requires.pass.labels.used c.args.x.index (occurs_here c.args.x.index c.requires.waiting)
