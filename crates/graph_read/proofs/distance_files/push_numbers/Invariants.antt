use Rattle.std.proofs.Common.{◌≡◌, ◌≤◌, ◌-◌, drop, length}
use Rattle.text_lines.specs.Words.{words_of}
use Rattle.graph_read.specs.DistanceSteps.{numbers_behind}
use Rattle.graph_read.proofs.distance_files.push_numbers.Given as goal

abbrev pub invariant-loop-word : goal.invariant-loop-word
invariant-loop-word l = record {
  within : l.at ≤ length l.line;
  so_far : numbers_behind l.values.items (words_of (drop l.at l.line)) ≡ numbers_behind l.initial.values.items (words_of l.line);
}

abbrev pub decreases-loop-word : goal.decreases-loop-word
decreases-loop-word l = length l.line - l.at
