use Rattle.c1p_solve.proofs.Growth.{grown_orders}
use Rattle.c1p_solve.proofs.growing.tree_so_far.Goals as goal

pub returns : goal.returns
returns c = grown_orders c.tree.result c.args.reducer.now c.tree.ensures.columns c.tree.ensures.canonical c.tree.ensures.tied
