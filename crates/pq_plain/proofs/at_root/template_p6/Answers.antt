use Rattle.std.proofs.Common.{◌∙◌, ap}
use Rattle.tree_theory.specs.Templates.{line, star, under}
use Rattle.pq_tree.specs.Forests.{back}
use Rattle.pq_tree.proofs.Forests.{join_assoc}
use Rattle.pq_plain.specs.Seen.{outlines, halves_seen}
use Rattle.pq_plain.proofs.Pieces.{appended, turned_line, node_Q}
use Rattle.pq_plain.proofs.at_root.template_p6.Goals as goal

pub returns : goal.returns
returns c =
    c.in_ok-tree.ensures ∙
    ap (under (outlines c.args.empty.items))
    (node_Q _ _
    (appended _ _ _ _ _ c.in_ok-append-2.ensures.items (appended _ _ _ _ _ c.in_ok-append.ensures.items c.in_ok-line.ensures c.in_ok-middle.ensures)
    (turned_line _ _ _ c.reverse.ensures.items c.in_ok-end.ensures) ∙
    join_assoc (line (halves_seen c.args.first)) (star (outlines c.args.full.items)) (back (line (halves_seen c.args.second)))))
