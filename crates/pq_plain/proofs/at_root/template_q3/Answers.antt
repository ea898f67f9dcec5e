use Rattle.std.proofs.Common.{◌∙◌, refl, option_map}
use Rattle.tree_theory.specs.Templates.{line_if}
use Rattle.pq_tree.specs.Forests.{back}
use Rattle.pq_plain.specs.Seen.{outlines, halves_seen}
use Rattle.pq_plain.proofs.Pieces.{appended, five_parts, turned_line, node_Q}
use Rattle.pq_plain.proofs.at_root.template_q3.Goals as goal

pub returns : goal.returns
returns c =
    node_Q c.append-4.new.self _
    (appended _ _ _ _ _ c.in_ok-append-4.ensures.items
    (appended _ _ _ _ _ c.in_ok-append-3.ensures.items
    (appended _ _ _ _ _ c.in_ok-append-2.ensures.items (appended _ _ _ _ _ c.in_ok-append.ensures.items refl c.in_ok-left.ensures) refl)
    (turned_line _ _ _ c.reverse.ensures.items c.in_ok-right.ensures))
    refl ∙
    five_parts (outlines c.args.before.items) (line_if (option_map halves_seen c.args.first)) (outlines c.args.full.items) (back (line_if (option_map halves_seen c.args.second))) (outlines c.args.behind.items))
