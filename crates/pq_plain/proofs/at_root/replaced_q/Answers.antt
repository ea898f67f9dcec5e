use Rattle.pq_plain.specs.Seen.{labels_seen}
use Rattle.pq_plain.proofs.Runs.{to_end}
use Rattle.pq_plain.proofs.Ends.{enough_right, enough_left, replaced}
use Rattle.pq_plain.proofs.at_root.replaced_q.Goals as goal

pub last_if-second-requires : goal.last_if-second-requires
last_if-second-requires c = enough_right c.args.children.now (labels_seen c.args.labels) c.args.span c.requires.partials _ c.in_ok-partials.ensures

pub last_if-first-requires : goal.last_if-first-requires
last_if-first-requires c =
    enough_left c.args.children.now (labels_seen c.args.labels) c.args.span c.requires.partials _ c.in_ok-partials.ensures _ _ c.last_if-second.ensures.items c.last_if-second.ensures.some

pub returns : goal.returns
returns c =
    replaced c.args.children.now (labels_seen c.args.labels) c.args.span c.requires.partials _ c.in_ok-partials.ensures _ _ c.last_if-second.ensures.items c.last_if-second.ensures.some
    _ _ c.last_if-first.ensures.items c.last_if-first.ensures.some _ _ _ _ _ c.in_ok-tree.ensures c.in_ok-before.ensures c.in_ok-full.ensures c.in_ok-behind.ensures (to_end c.args.span.behind c.args.children.now)
