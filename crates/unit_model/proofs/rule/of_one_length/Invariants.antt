use Rattle.std.proofs.Common.{◌≡◌, ◌+◌, ◌^◌, ◌<◌, All, take}
use Rattle.row_model.specs.declared.lists.Interval.{Interval}
use Rattle.unit_model.specs.Models.{lefts_of}
use Rattle.unit_model.proofs.rule.of_one_length.Given as goal

abbrev pub invariant-loop-left : goal.invariant-loop-left
invariant-loop-left l = record {
  lefts : lefts_of l.list ≡ take l.left-index l.lefts;
  rights : All (λ (a : Interval). a.right ≡ a.left + l.length) l.list;
  within : All (λ (a : Interval). a.right < 2 ^ 64) l.list;
}
