use Rattle.row_model.proofs.Members.{is_has}
use Rattle.verdict_judge.proofs.HoldsSteps.{share_leaf}
use Rattle.verdict_judge.proofs.holds.leaf_share.Goals as goal

pub returns : goal.returns
returns c = share_leaf c.args.row.now c.args.column c.row_has-found.result (is_has c.row_has-found.result c.args.row.now c.args.column c.row_has-found.ensures)
