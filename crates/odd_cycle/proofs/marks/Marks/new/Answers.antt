use Rattle.std.proofs.Common.{◌+◌, ◌*◌, ◌/◌, ◌%◌, eqb, refl, ap}
use Rattle.odd_cycle.specs.Marks.{is_marked, mark_place}
use Rattle.odd_cycle.proofs.MarkLaws.{blank_bit}
use Rattle.odd_cycle.proofs.marks.Marks.new.Goals as goal

pub returns : goal.returns
unfolding is_marked
returns c = (refl, refl, λ k p. ap (λ b. eqb b 1) (blank_bit c.in_ok-vec.field-0.items (c.args.rows * c.args.columns / 64 + 1) (mark_place c.args.rows k p / 64) (mark_place c.args.rows k p % 64) (c.in_ok-vec.ensures.items_if_clones_equal (λ y e. e))))
