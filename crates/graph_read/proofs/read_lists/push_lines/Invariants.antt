use Rattle.std.proofs.Common.{◌≡◌, ◌<◌, ◌≤◌, ◌+◌, ◌*◌, ◌-◌, ◌++◌, ℕ, List, drop, length}
use Rattle.std.specs.List.{All}
use Rattle.row_model.specs.declared.TheConstants.{MAX_FILE_BYTES}
use Rattle.text_lines.specs.Lines.{lines_of, filled_lines}
use Rattle.graph_read.specs.Edges.{left_of, right_of}
use Rattle.graph_read.specs.Placed.{IsPlaced, lists_then}
use Rattle.graph_read.proofs.read_lists.push_lines.Given as goal

abbrev pub invariant-loop-place : goal.invariant-loop-place
invariant-loop-place l = record {
  within : l.place ≤ length l.text;
  few : l.number + length l.text ≤ l.place + MAX_FILE_BYTES;
  counted : l.number + l.at ≤ l.passed + l.place;
  places : All (λ place. place < left_of l.shape * right_of l.shape) l.places.items;
  placed : IsPlaced l.shape l.places.items;
  lists : (later : List (List ℕ))
      → lists_then l.shape l.places.items (filled_lines (l.number + 1) (lines_of (drop l.place l.text) ++ later))
      ≡ lists_then l.shape l.initial.places.items (filled_lines (l.passed + 1) (lines_of (drop l.at l.text) ++ later));
}

abbrev pub decreases-loop-place : goal.decreases-loop-place
decreases-loop-place l = length l.text - l.place
