use Rattle.std.proofs.Common.{[], ◌∙◌, sym, subst}
use Rattle.tree_theory.specs.Tied.{IsTied}
use Rattle.tree_theory.proofs.Start.{universal_tied}
use Rattle.pq_plain.proofs.plain.PlainReducer.new.Goals as goal

pub returns-clause-tied : goal.returns-clause-tied
returns-clause-tied c =
    subst (IsTied c.args.columns []) (sym (c.into_tree-tree.ensures ∙ c.in_ok-universal.ensures.tree)) (universal_tied c.args.columns c.requires.0)
