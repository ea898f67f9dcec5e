use Rattle.std.proofs.Common.{ap, ◌∙◌}
use Rattle.row_model.proofs.PieceLemmas.{ascends_rises}
use Rattle.verdict_judge.specs.HoldsWalk.{is_split}
use Rattle.verdict_judge.proofs.HoldsExact.{holds_exactly}
use Rattle.verdict_judge.proofs.holds.tree_holds.Goals as goal

pub tree_share-requires : goal.tree_share-requires
tree_share-requires c = λ i j d le lt. ascends_rises c.args.tree.now.columns 0 c.args.row.now i j d c.requires le lt

pub returns : goal.returns
returns c =
    holds_exactly c.args.tree.now.columns _ c.args.row.now c.tree_share.result.split c.args.tree.now.proper
    (c.tree_share.ensures.split_is ∙ ap (is_split c.args.row.now) c.root.ensures)
