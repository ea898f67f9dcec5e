use Rattle.std.proofs.Common.{◌≡◌, ◌<◌, ◌+◌, ◌*◌, ℕ, length, get_or}
use Rattle.row_model.specs.declared.lists.Span.{Span}
use Rattle.others_kept.specs.Counts.{sum_below, begins}
use Rattle.others_kept.proofs.square.beginnings.Given as goal

abbrev pub invariant-loop-span : goal.invariant-loop-span
invariant-loop-span l = record {
  square : length l.counts.items ≡ l.columns * l.columns;
  cells : (a b : ℕ) (d : Span) → a < l.columns → b < l.columns → get_or l.counts.items (a * l.columns + b) 0 ≡ sum_below l.span-index (λ j. begins a b (get_or l.spans j d));
}
