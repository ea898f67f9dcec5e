use Rattle.std.proofs.Common.{◌≡◌, ◌+◌, ◌-◌, refl, ap, arith, length, set}
use Rattle.std.proofs.lemmas.List.{length-set}
use Rattle.unit_model.proofs.LinkLemmas.{vertex_read, walk_begun, walk_range, walk_on, walk_done}
use Rattle.unit_model.proofs.drawing.Drawing.number.Goals as goal

pub loop-done-init : goal.loop-done-init
loop-done-init c = record {
  levels = refl;
  before = refl;
  long = refl;
  walked = λ list h. walk_begun _ _ _ list _ _ _ h;
}

pub overflow_sub-at : goal.overflow_sub-at
overflow_sub-at c =
    let list = c.requires.list in
    (walk_range _ _ _ _ list.0 _ _ _ _ _ list.1 (c.loop-done.invariant.walked list.0 list.1) c.loop-done-test.true).0

pub index-requires : goal.index-requires
index-requires c =
    let list = c.requires.list in
    let range = walk_range _ _ _ _ list.0 _ _ _ _ _ list.1 (c.loop-done.invariant.walked list.0 list.1) c.loop-done-test.true in
    omega (arith, range.0, range.1, c.requires.levels, ap length c.loop-done.invariant.levels)

pub overflow_add-index : goal.overflow_add-index
overflow_add-index c =
    let list = c.requires.list in
    let range = walk_range _ _ _ _ list.0 _ _ _ _ _ list.1 (c.loop-done.invariant.walked list.0 list.1) c.loop-done-test.true in
    omega (
      arith,
      c.requires.low c.loop-done.v,
      vertex_read c.loop-done.self.levels.items c.args.self.now.levels.items c.loop-done.v c.index.result.now
          (omega (arith, range.0, range.1, c.requires.levels, ap length c.loop-done.invariant.levels)) c.index.ensures c.loop-done.invariant.levels,
    )

pub index_mut-requires : goal.index_mut-requires
index_mut-requires c =
    let list = c.requires.list in
    let range = walk_range _ _ _ _ list.0 _ _ _ _ _ list.1 (c.loop-done.invariant.walked list.0 list.1) c.loop-done-test.true in
    omega (arith, range.0, range.1, c.loop-done.invariant.long)

pub index-v-requires : goal.index-v-requires
index-v-requires c =
    let list = c.requires.list in
    let range = walk_range _ _ _ _ list.0 _ _ _ _ _ list.1 (c.loop-done.invariant.walked list.0 list.1) c.loop-done-test.true in
    omega (arith, range.0, range.1, c.requires.before, ap length c.loop-done.invariant.before)

pub loop-done-preserved : goal.loop-done-preserved
loop-done-preserved c =
    let list = c.requires.list in
    let range = walk_range _ _ _ _ list.0 _ _ _ _ _ list.1 (c.loop-done.invariant.walked list.0 list.1) c.loop-done-test.true in
    let level = vertex_read c.loop-done.self.levels.items c.args.self.now.levels.items c.loop-done.v c.index.result.now
    (omega (arith, range.0, range.1, c.requires.levels, ap length c.loop-done.invariant.levels)) c.index.ensures c.loop-done.invariant.levels in
    let before = vertex_read c.loop-done.self.before.items c.args.self.now.before.items c.loop-done.v c.index-v.result.now
    (omega (arith, range.0, range.1, c.requires.before, ap length c.loop-done.invariant.before)) c.index-v.ensures c.loop-done.invariant.before in
    record {
      levels = c.loop-done.invariant.levels;
      before = c.loop-done.invariant.before;
      long = simp length-set c.loop-done.invariant.long;
      walked = λ list h. walk_on _ _ _ _ list _ _ _ _ _ _ _ h (c.loop-done.invariant.walked list h) c.loop-done-test.true refl
          (ap (λ x. set c.loop-done.self.lefts.items (c.loop-done.v - 1) (x + (c.args.count - 1 - c.loop-done.done))) level) before;
    }

pub returns-clause-lefts : goal.returns-clause-lefts
returns-clause-lefts c = λ list h.
    let all : c.loop-done.done ≡ c.args.count = omega arith in
    walk_done _ _ _ _ list _ _ _ c.loop-done.v h (rw all at (c.loop-done.invariant.walked list h))
