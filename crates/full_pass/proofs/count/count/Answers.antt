use Rattle.std.proofs.Common.{◌≡◌, ℕ, ◌+◌, ◌*◌, ◌≤◌, ◌<◌, drop, List, arith}
use Rattle.row_model.proofs.Ascending.{row_within}
use Rattle.arena_model.specs.RowLeaves.{column_leaves}
use Rattle.arena_model.proofs.Rows.{column_in}
use Rattle.full_pass.specs.Tallies.{full_in, hits_in}
use Rattle.full_pass.proofs.Going.{parts_left, counting_begun, counting_on, settled_at_end, root_kept, next_waits}
use Rattle.full_pass.proofs.count.count.Goals as goal

whole_ticks : (s0 s p n i : ℕ) → s + 2 * p ≤ s0 + 2 * n + 2 * i → i ≤ n → s ≤ s0 + 4 * n
whole_ticks s0 s p n i so_far inside = omega arith

turn_ticks : (s0 s s' p p' n i : ℕ) → s + 2 * p ≤ s0 + 2 * n + 2 * i → s' + 2 * p' ≤ s + 2 * p + 2 → i < n → s' ≤ s0 + 4 * n
turn_ticks s0 s s' p p' n i so_far turn inside = omega arith

pub loop-column-init : goal.loop-column-init
loop-column-init g c = record {
  counting = counting_begun c.args.arena.now c.args.row.now c.args.labels.now c.args.tallies.now c.args.stamp c.layout_law.ensures c.requires.tree c.requires.row c.requires.ready c.requires.full c.requires.hits;
  ticks = omega arith;
}

pub leaf-requires : goal.leaf-requires
leaf-requires g c =
    let r = column_in c.args.arena.now.columns c.args.row.now c.loop-column.column-index (row_within c.args.arena.now.columns c.args.row.now c.requires.row) c.loop-column-test.true in
    record { from = r.0; to = r.1 }

pub climb-requires-clause-waits : goal.climb-requires-clause-waits
climb-requires-clause-waits g c = record {
  one = c.requires.tree;
  row = column_leaves c.args.row.now;
  waiting = column_leaves (drop (c.loop-column.column-index + 1) c.args.row.now);
  pass = next_waits c.args.arena.now c.args.row.now (full_in c.loop-column.labels c.args.stamp) (hits_in c.loop-column.tallies c.args.stamp) c.loop-column.column-index c.loop-column.parts c.leaf.result.index
      c.layout_law.ensures c.leaf.ensures c.loop-column-test.true c.loop-column.invariant.counting.pass;
}

pub returns-in-None-clause-counted : goal.returns-in-None-clause-counted
returns-in-None-clause-counted g c =
    root_kept c.args.arena.now c.args.row.now c.layout_law.ensures c.requires.tree c.requires.row
    (c.in-None.ensures.risen (column_leaves c.args.row.now) (column_leaves (drop (c.loop-column.column-index + 1) c.args.row.now))
    (next_waits c.args.arena.now c.args.row.now (full_in c.loop-column.labels c.args.stamp) (hits_in c.loop-column.tallies c.args.stamp) c.loop-column.column-index c.loop-column.parts c.leaf.result.index
    c.layout_law.ensures c.leaf.ensures c.loop-column-test.true c.loop-column.invariant.counting.pass))

pub loop-column-preserved : goal.loop-column-preserved
loop-column-preserved g c =
    let rest : List ℕ = column_leaves (drop (c.loop-column.column-index + 1) c.args.row.now) in
    record {
      counting = counting_on c.args.arena.now (column_leaves c.args.row.now) c.climb.new.labels c.climb.new.tallies c.args.stamp rest c.climb.new.parts c.in-Some.settled c.in-Some.ensures.counted
          (c.in-Some.ensures.risen (column_leaves c.args.row.now) rest
          (next_waits c.args.arena.now c.args.row.now (full_in c.loop-column.labels c.args.stamp) (hits_in c.loop-column.tallies c.args.stamp) c.loop-column.column-index c.loop-column.parts c.leaf.result.index
          c.layout_law.ensures c.leaf.ensures c.loop-column-test.true c.loop-column.invariant.counting.pass));
      ticks = omega (arith, c.loop-column.invariant.ticks, c.in-Some.ensures.ticks);
    }

pub returns-then-parts-eq1-clause-counted : goal.returns-then-parts-eq1-clause-counted
returns-then-parts-eq1-clause-counted g c =
    settled_at_end c.args.arena.now c.args.row.now (full_in c.loop-column.labels c.args.stamp) c.loop-column.tallies c.args.stamp c.loop-column.column-index c.loop-column.parts c.loop-column.last
    c.layout_law.ensures c.requires.tree c.requires.row c.loop-column-test.false
    (let one : c.loop-column.parts ≡ 1 = c.if-parts-eq1.true in omega arith) c.loop-column.invariant.counting.counted.chains c.loop-column.invariant.counting.answer

pub climb-requires-clause-counted : goal.climb-requires-clause-counted
climb-requires-clause-counted g c = c.loop-column.invariant.counting.counted

pub returns-in-None-clause-ready : goal.returns-in-None-clause-ready
returns-in-None-clause-ready g c = c.in-None.ensures.counted.ready

pub returns-in-None-clause-ticks : goal.returns-in-None-clause-ticks
returns-in-None-clause-ticks g c = turn_ticks _ _ _ _ _ _ _ c.loop-column.invariant.ticks c.in-None.ensures.ticks c.loop-column-test.true

pub returns-then-parts-eq1-clause-ready : goal.returns-then-parts-eq1-clause-ready
returns-then-parts-eq1-clause-ready g c = c.loop-column.invariant.counting.counted.ready

pub returns-then-parts-eq1-clause-ticks : goal.returns-then-parts-eq1-clause-ticks
returns-then-parts-eq1-clause-ticks g c = whole_ticks _ _ _ _ _ c.loop-column.invariant.ticks c.loop-column.auto.column-index-end

pub returns-then-may_fill : goal.returns-then-may_fill
returns-then-may_fill g c = record { ready = c.loop-column.invariant.counting.counted.ready; counted = tt; ticks = whole_ticks _ _ _ _ _ c.loop-column.invariant.ticks c.loop-column.auto.column-index-end }

pub returns-else-parts-eq3 : goal.returns-else-parts-eq3
returns-else-parts-eq3 g c = record { ready = c.loop-column.invariant.counting.counted.ready; counted = tt; ticks = whole_ticks _ _ _ _ _ c.loop-column.invariant.ticks c.loop-column.auto.column-index-end }

pub returns-then-parts-eq2 : goal.returns-then-parts-eq2
returns-then-parts-eq2 g c = record {
  ready = c.loop-column.invariant.counting.counted.ready;
  counted = parts_left c.args.arena.now c.args.row.now c.loop-column.labels c.loop-column.tallies c.args.stamp c.loop-column.column-index c.loop-column.parts 2 c.loop-column.last
      c.loop-column.invariant.counting c.loop-column-test.false c.if-parts-eq2.true;
  ticks = whole_ticks _ _ _ _ _ c.loop-column.invariant.ticks c.loop-column.auto.column-index-end;
}

pub returns-then-parts-eq3 : goal.returns-then-parts-eq3
returns-then-parts-eq3 g c = record {
  ready = c.loop-column.invariant.counting.counted.ready;
  counted = parts_left c.args.arena.now c.args.row.now c.loop-column.labels c.loop-column.tallies c.args.stamp c.loop-column.column-index c.loop-column.parts 3 c.loop-column.last
      c.loop-column.invariant.counting c.loop-column-test.false c.if-parts-eq3.true;
  ticks = whole_ticks _ _ _ _ _ c.loop-column.invariant.ticks c.loop-column.auto.column-index-end;
}
