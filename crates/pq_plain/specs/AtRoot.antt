-- What the program makes of the pertinent root, by the labels of its children.
use Rattle.std.specs.Prelude.{◌≡◌, ◌-◌, ◌≤◌, List, [], ◌∷◌, length, take, drop, Option, Some, None}
use Rattle.pq_tree.specs.Outline.{Outline, Forest, q_node}
use Rattle.pq_tree.specs.Proper.{outline_of}
use Rattle.pq_tree.specs.Forests.{forest}
use Rattle.tree_theory.specs.Templates.{p2, p4, p6, q3}
use Rattle.tree_theory.specs.Labels.{Partial, Label, partials, first_of}
use Rattle.pq_plain.specs.declared.at_root.Outcome.{Outcome}
use Rattle.pq_plain.specs.declared.at_root.Outcome.TheVariants.{Unchanged, Replaced, NoTemplate}
use Rattle.pq_plain.specs.declared.at_root.Span.{Span}

-- an outcome at the pertinent root t
abbrev pub outcome_seen : Outline → Outcome → Option Outline
outcome_seen t Unchanged = Some t
outcome_seen t (Replaced u) = Some (outline_of u)
outcome_seen t NoTemplate = None

-- what P2, P4 or P6 makes of a P-node, by its partial, empty and full children
abbrev pub p_made : List Partial → Forest → Forest → Outline
p_made [] es fs = p2 es fs
p_made (h ∷ []) es fs = p4 es h fs
p_made (h ∷ k ∷ hs) es fs = p6 es h fs k

-- before the full children stand as many partials as places between the empty children and them, at most one; so behind them
pub record PartialsAt (ps : List Label) (s : Span) : Type 0 where
  pub left : length (partials (take s.full_from ps)) ≡ s.full_from - s.before
  pub right : length (partials (drop s.full_from ps)) ≡ s.behind - s.full_to
  pub few_left : s.full_from - s.before ≤ 1
  pub few_right : s.behind - s.full_to ≤ 1

-- what Q2 or Q3 makes of a Q-node that is cut at these places
abbrev pub q_made : List Outline → List Label → Span → Outline
q_made ts ps s =
    q_node
    (q3 (forest (take s.before ts)) (first_of (partials (take s.full_from ps))) (forest (take (s.full_to - s.full_from) (drop s.full_from ts)))
    (first_of (partials (drop s.full_from ps))) (forest (drop s.behind ts)))
