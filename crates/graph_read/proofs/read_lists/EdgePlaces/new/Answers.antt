use Rattle.std.proofs.Common.{◌<◌, ◌*◌}
use Rattle.std.proofs.lemmas.Grind.{merely}
use Rattle.std.proofs.lemmas.List.Elements.{All-nil}
use Rattle.graph_read.specs.Edges.{left_of, right_of}
use Rattle.graph_read.proofs.PlacedLemmas.{placed_none}
use Rattle.graph_read.proofs.read_lists.EdgePlaces.new.Goals as goal

pub invariant_of-result : goal.invariant_of-result
invariant_of-result c = record {
  left = c.requires.left;
  right = c.requires.right;
  within = rw c.in_ok-places.ensures.items (All-nil (λ place. place < left_of c.args.shape * right_of c.args.shape));
  placed = merely (placed_none c.args.shape c.in_ok-places.places.items c.in_ok-places.ensures.items);
}
