use Rattle.std.proofs.Common.{◌≤◌, ◌<◌, ◌∷◌, length, arith, refl, sym, subst}
use Rattle.arena_model.specs.declared.TheConstants.{NODE_BOUND}
use Rattle.arena_model.proofs.Lists.{occurs_here}
use Rattle.arena_model.proofs.Slots.{in_range}
use Rattle.full_pass.specs.Passing.{IsAdded}
use Rattle.full_pass.specs.Tallies.{first_in, full_in, hits_in, next_in}
use Rattle.full_pass.proofs.Joining.{one_look, CountedRing, CountedRun, counted_as, counted_chains, counted_run, hits_few, joined_ring, joined_top, ring_chains, ring_used, run_within}
use Rattle.full_pass.proofs.count.add.Goals as goal

pub hit-hits-requires-clause-p : goal.hit-hits-requires-clause-p
hit-hits-requires-clause-p g c =
    subst (λ z. c.in-Ring.p.index < z) (sym c.requires.counted.ready.size)
    (in_range c.args.arena.now c.in-Ring.p.index (ring_used c.args.arena.now c.args.x.index c.in-Ring.p c.look-view.result c.layout_law.ensures c.look-view.ensures.shows c.in-Ring.ensures))

pub hit-hits-requires-clause-few : goal.hit-hits-requires-clause-few
hit-hits-requires-clause-few g c =
    let b : hits_in c.args.tallies.now c.args.stamp c.in-Ring.p.index ≤ NODE_BOUND =
    hits_few c.args.arena.now c.requires.waits.row (full_in c.args.labels.now c.args.stamp) (hits_in c.args.tallies.now c.args.stamp) (c.args.x.index ∷ c.requires.waits.waiting) c.requires.waits.n c.args.x.index c.in-Ring.p
    c.look-view.result c.layout_law.ensures c.look-view.ensures.shows c.in-Ring.ensures c.requires.waits.pass in
    omega arith

pub look-children-requires : goal.look-children-requires
look-children-requires g c = ring_used c.args.arena.now c.args.x.index c.in-Ring.p c.look-view.result c.layout_law.ensures c.look-view.ensures.shows c.in-Ring.ensures

pub returns-in-Top-clause-added : goal.returns-in-Top-clause-added
returns-in-Top-clause-added g c =
    joined_top c.args.arena.now (full_in c.args.labels.now c.args.stamp) (hits_in c.args.tallies.now c.args.stamp) c.args.x.index c.look-view.result c.layout_law.ensures c.look-view.ensures.shows c.in-Top.ensures c.requires.waits.one

pub fill_between-requires-clause-near : goal.fill_between-requires-clause-near
fill_between-requires-clause-near g c =
    run_within c.args.arena.now c.args.x.index (length c.args.labels.now) c.look-view.result c.layout_law.ensures c.look-view.ensures.shows c.in-Run.ensures c.requires.counted.ready.labels_size

pub fill_between-requires-in-Some-clause-near : goal.fill_between-requires-in-Some-clause-near
fill_between-requires-in-Some-clause-near g c =
    run_within c.args.arena.now c.args.x.index (length c.args.labels.now) c.look-view.result c.layout_law.ensures c.look-view.ensures.shows c.in-Run.ensures c.requires.counted.ready.labels_size

pub returns-in-None-clause-added : goal.returns-in-None-clause-added
returns-in-None-clause-added g c =
    let d : CountedRun c.args.arena.now (full_in c.args.labels.now c.args.stamp) (full_in c.fill_between.new.labels c.args.stamp) (hits_in c.args.tallies.now c.args.stamp) (hits_in c.args.tallies.now c.args.stamp) c.args.x.index c.look-view.result =
    counted_as c.args.arena.now c.requires.waits.row c.requires.waits.waiting (full_in c.args.labels.now c.args.stamp) (full_in c.fill_between.new.labels c.args.stamp) (hits_in c.args.tallies.now c.args.stamp) (hits_in c.args.tallies.now c.args.stamp) c.args.x.index c.requires.waits.n c.look-view.result
    c.layout_law.ensures c.look-view.ensures.shows c.in-Run.ensures c.requires.waits.pass c.fill_between.ensures.here c.fill_between.ensures.others (λ y. refl) in
    counted_run c.args.arena.now (full_in c.args.labels.now c.args.stamp) (full_in c.fill_between.new.labels c.args.stamp) (hits_in c.args.tallies.now c.args.stamp) (hits_in c.args.tallies.now c.args.stamp) c.args.x.index c.fill_between.result c.look-view.result d c.fill_between.ensures.pairs

pub returns-in-None-clause-counted : goal.returns-in-None-clause-counted
returns-in-None-clause-counted g c =
    let d : CountedRun c.args.arena.now (full_in c.args.labels.now c.args.stamp) (full_in c.fill_between.new.labels c.args.stamp) (hits_in c.args.tallies.now c.args.stamp) (hits_in c.args.tallies.now c.args.stamp) c.args.x.index c.look-view.result =
    counted_as c.args.arena.now c.requires.waits.row c.requires.waits.waiting (full_in c.args.labels.now c.args.stamp) (full_in c.fill_between.new.labels c.args.stamp) (hits_in c.args.tallies.now c.args.stamp) (hits_in c.args.tallies.now c.args.stamp) c.args.x.index c.requires.waits.n c.look-view.result
    c.layout_law.ensures c.look-view.ensures.shows c.in-Run.ensures c.requires.waits.pass c.fill_between.ensures.here c.fill_between.ensures.others (λ y. refl) in
    record {
      ready = c.fill_between.ensures.ready c.args.tallies.now (length c.args.arena.now.slots) c.requires.counted.ready;
      chains = counted_chains c.args.arena.now (full_in c.args.labels.now c.args.stamp) (full_in c.fill_between.new.labels c.args.stamp) (hits_in c.args.tallies.now c.args.stamp) (hits_in c.args.tallies.now c.args.stamp) (first_in c.args.tallies.now) (first_in c.args.tallies.now) (next_in c.args.tallies.now) (next_in c.args.tallies.now) c.args.x.index c.look-view.result d
          c.requires.counted.chains (λ y. refl) (λ y. refl);
    }

pub returns-in-Some-clause-added : goal.returns-in-Some-clause-added
returns-in-Some-clause-added g c =
    let d : CountedRun c.args.arena.now (full_in c.args.labels.now c.args.stamp) (full_in c.fill_between-in-Some.new.labels c.args.stamp) (hits_in c.args.tallies.now c.args.stamp) (hits_in c.show.new.tallies c.args.stamp) c.args.x.index c.look-view.result =
    counted_as c.args.arena.now c.requires.waits.row c.requires.waits.waiting (full_in c.args.labels.now c.args.stamp) (full_in c.fill_between-in-Some.new.labels c.args.stamp) (hits_in c.args.tallies.now c.args.stamp) (hits_in c.show.new.tallies c.args.stamp) c.args.x.index c.requires.waits.n c.look-view.result
    c.layout_law.ensures c.look-view.ensures.shows c.in-Run.ensures c.requires.waits.pass c.fill_between-in-Some.ensures.here c.fill_between-in-Some.ensures.others c.show.ensures.hits in
    counted_run c.args.arena.now (full_in c.args.labels.now c.args.stamp) (full_in c.fill_between-in-Some.new.labels c.args.stamp) (hits_in c.args.tallies.now c.args.stamp) (hits_in c.show.new.tallies c.args.stamp) c.args.x.index c.fill_between-in-Some.result c.look-view.result d c.fill_between-in-Some.ensures.pairs

pub returns-in-Some-clause-counted : goal.returns-in-Some-clause-counted
returns-in-Some-clause-counted g c =
    let d : CountedRun c.args.arena.now (full_in c.args.labels.now c.args.stamp) (full_in c.fill_between-in-Some.new.labels c.args.stamp) (hits_in c.args.tallies.now c.args.stamp) (hits_in c.show.new.tallies c.args.stamp) c.args.x.index c.look-view.result =
    counted_as c.args.arena.now c.requires.waits.row c.requires.waits.waiting (full_in c.args.labels.now c.args.stamp) (full_in c.fill_between-in-Some.new.labels c.args.stamp) (hits_in c.args.tallies.now c.args.stamp) (hits_in c.show.new.tallies c.args.stamp) c.args.x.index c.requires.waits.n c.look-view.result
    c.layout_law.ensures c.look-view.ensures.shows c.in-Run.ensures c.requires.waits.pass c.fill_between-in-Some.ensures.here c.fill_between-in-Some.ensures.others c.show.ensures.hits in
    record {
      ready = c.fill_between-in-Some.ensures.ready c.show.new.tallies (length c.args.arena.now.slots) (c.show.ensures.ready c.args.labels.now (length c.args.arena.now.slots) c.requires.counted.ready);
      chains = counted_chains c.args.arena.now (full_in c.args.labels.now c.args.stamp) (full_in c.fill_between-in-Some.new.labels c.args.stamp) (hits_in c.args.tallies.now c.args.stamp) (hits_in c.show.new.tallies c.args.stamp) (first_in c.args.tallies.now) (first_in c.show.new.tallies) (next_in c.args.tallies.now) (next_in c.show.new.tallies) c.args.x.index c.look-view.result d
          c.requires.counted.chains c.show.ensures.first c.show.ensures.next;
    }

pub returns-in-Ring : goal.returns-in-Ring
returns-in-Ring g c =
    let d : CountedRing c.args.arena.now (full_in c.args.labels.now c.args.stamp) (full_in c.fill.new.labels c.args.stamp) (hits_in c.args.tallies.now c.args.stamp) (hits_in c.hit-hits.new.tallies c.args.stamp)
    c.args.x.index c.in-Ring.p c.look-view.result = record {
      layout = c.layout_law.ensures;
      shows = c.look-view.ensures.shows;
      at = c.in-Ring.ensures;
      now = c.fill.ensures.here;
      others = c.fill.ensures.others;
      hit = c.hit-hits.ensures.here;
      same = c.hit-hits.ensures.others;
    } in
    record {
      added = λ row waiting n pass.
          subst (λ z. IsAdded c.args.arena.now row (full_in c.fill.new.labels c.args.stamp) (hits_in c.hit-hits.new.tallies c.args.stamp) waiting n z) (sym c.judged.ensures)
          (joined_ring c.args.arena.now (full_in c.args.labels.now c.args.stamp) (full_in c.fill.new.labels c.args.stamp) (hits_in c.args.tallies.now c.args.stamp) (hits_in c.hit-hits.new.tallies c.args.stamp)
          c.args.x.index c.in-Ring.p c.look-view.result c.look-children.result c.hit-hits.result d
          c.look-children.ensures.shows c.hit-hits.ensures.result row waiting n pass);
      counted = record {
        ready = c.hit-hits.ensures.ready c.fill.new.labels (length c.args.arena.now.slots)
            (c.fill.ensures.ready c.args.tallies.now (length c.args.arena.now.slots) c.requires.counted.ready);
        chains = ring_chains c.args.arena.now (full_in c.args.labels.now c.args.stamp) (full_in c.fill.new.labels c.args.stamp) (hits_in c.args.tallies.now c.args.stamp) (hits_in c.hit-hits.new.tallies c.args.stamp)
            (first_in c.args.tallies.now) (first_in c.hit-hits.new.tallies) (next_in c.args.tallies.now) (next_in c.hit-hits.new.tallies) c.args.x.index c.in-Ring.p c.look-view.result d
            (c.requires.waits.pass.labels.fresh c.args.x.index (occurs_here c.args.x.index c.requires.waits.waiting)) c.requires.counted.chains
            (record {
              here = c.hit-hits.ensures.here;
              others = c.hit-hits.ensures.others;
              first_is = c.hit-hits.ensures.first;
              first_others = c.hit-hits.ensures.firsts;
              next_is = c.hit-hits.ensures.next;
              next_others = c.hit-hits.ensures.nexts;
            });
      };
      ticks = omega (arith, c.look-view.ensures.ticks, c.look-children.ensures.ticks);
    }

pub returns-in-Top-clause-counted : goal.returns-in-Top-clause-counted
returns-in-Top-clause-counted g c = c.requires.counted

pub returns-in-Top-clause-ticks : goal.returns-in-Top-clause-ticks
returns-in-Top-clause-ticks g c = one_look _ _ c.look-view.ensures.ticks

pub returns-in-None-clause-ticks : goal.returns-in-None-clause-ticks
returns-in-None-clause-ticks g c = one_look _ _ c.look-view.ensures.ticks

pub returns-in-Some-clause-ticks : goal.returns-in-Some-clause-ticks
returns-in-Some-clause-ticks g c = one_look _ _ c.look-view.ensures.ticks

pub fill-requires : goal.fill-requires
fill-requires g c = subst (λ n. c.args.x.index < n) (sym c.requires.counted.ready.labels_size) (in_range c.args.arena.now c.args.x.index (c.requires.waits.pass.labels.used c.args.x.index (occurs_here c.args.x.index c.requires.waits.waiting)))

pub fill_between-requires-clause-x : goal.fill_between-requires-clause-x
fill_between-requires-clause-x g c = subst (λ n. c.args.x.index < n) (sym c.requires.counted.ready.labels_size) (in_range c.args.arena.now c.args.x.index (c.requires.waits.pass.labels.used c.args.x.index (occurs_here c.args.x.index c.requires.waits.waiting)))

pub fill_between-requires-in-Some-clause-x : goal.fill_between-requires-in-Some-clause-x
fill_between-requires-in-Some-clause-x g c = subst (λ n. c.args.x.index < n) (sym c.requires.counted.ready.labels_size) (in_range c.args.arena.now c.args.x.index (c.requires.waits.pass.labels.used c.args.x.index (occurs_here c.args.x.index c.requires.waits.waiting)))

pub look-view-requires : goal.look-view-requires
look-view-requires g c = c.requires.waits.pass.labels.used c.args.x.index (occurs_here c.args.x.index c.requires.waits.waiting)

pub hit-hits-requires-clause-x : goal.hit-hits-requires-clause-x
hit-hits-requires-clause-x g c = subst (λ n. c.args.x.index < n) (sym c.requires.counted.ready.size) (in_range c.args.arena.now c.args.x.index (c.requires.waits.pass.labels.used c.args.x.index (occurs_here c.args.x.index c.requires.waits.waiting)))
