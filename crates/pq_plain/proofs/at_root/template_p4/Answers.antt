use Rattle.std.proofs.Common.{◌∙◌, ap}
use Rattle.tree_theory.specs.Templates.{under}
use Rattle.pq_plain.specs.Seen.{outlines}
use Rattle.pq_plain.proofs.Pieces.{appended, node_Q}
use Rattle.pq_plain.proofs.at_root.template_p4.Goals as goal

pub returns : goal.returns
returns c =
    c.in_ok-tree.ensures ∙
    ap (under (outlines c.args.empty.items)) (node_Q _ _ (appended _ _ _ _ _ c.in_ok-append.ensures.items c.in_ok-line.ensures c.in_ok-end.ensures))
