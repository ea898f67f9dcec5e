-- The trees and the partials of the children of a Q-node, at the places where the program cuts them.
use Rattle.std.proofs.Common.{◌-◌, List, take, drop}
use Rattle.pq_tree.specs.Outline.{Outline}
use Rattle.pq_tree.specs.Forests.{forest}
use Rattle.tree_theory.specs.Labels.{Label, partials}
use Rattle.tree_theory.proofs.Computed.{Run, Span}
use Rattle.pq_plain.specs.declared.label.Run.{Run as RunPlaces}
use Rattle.pq_plain.specs.declared.at_root.Span.{Span as Places}

-- the trees and the partials at these places
abbrev pub span_seen : List Outline → List Label → Places → Span
span_seen ts ps s = record {
  before = forest (take s.before ts);
  left = partials (take s.full_from ps);
  tail = record {
    middle = forest (take (s.full_to - s.full_from) (drop s.full_from ts));
    right = partials (drop s.full_from ps);
    behind = forest (drop s.behind ts);
  };
}

-- the trees and the partials at these places
abbrev pub run_seen : List Outline → List Label → RunPlaces → Run
run_seen ts ps r = record { before = forest (take r.before ts); middle = partials ps; behind = forest (drop r.behind ts) }
