use Rattle.std.proofs.Common.{◌↔◌, Some, None, IsTrue, sym, subst}
use Rattle.row_model.specs.Rows.{RowList}
use Rattle.tree_theory.specs.Tied.{AreTogether, AreInLine}
use Rattle.pq_tree.specs.Outline.{leaves}
use Rattle.pq_tree.specs.PqTree.{outline}
use Rattle.pq_tree.proofs.Frontiers.{leaves_are_frontier}
use Rattle.verdict_judge.specs.Tests.{complete_tests}
use Rattle.verdict_judge.specs.YesTests.{PassesYes}
use Rattle.verdict_judge.specs.Found.{Finds}
use Rattle.verdict_judge.specs.declared.outcome.Reason.TheVariants as reason
use Rattle.verdict_judge.proofs.SideTests.{complete_fails, complete_passes}
use Rattle.verdict_judge.proofs.side.complete_fault.Goals as goal

pub is_complete_counted-requires-clause-kept : goal.is_complete_counted-requires-clause-kept
is_complete_counted-requires-clause-kept g c = rw c.new-rows.ensures (c.requires.kept (leaves (outline c.args.tree.now)) (leaves_are_frontier (outline c.args.tree.now)))

pub returns-in-Two-clause-finds : goal.returns-in-Two-clause-finds
returns-in-Two-clause-finds g c = λ i value same there.
    subst (λ v. Finds (PassesYes i value) (complete_tests v c.args.side) None) (sym c.in-Two.is)
    (complete_passes i value c.args.side c.args.derived.now (outline c.args.tree.now) c.in_ok-is_complete_counted.field-0 same there c.requires.kept (subst (λ (m : RowList). IsTrue c.in_ok-is_complete_counted.field-0 ↔ (AreTogether m.columns m.rows (outline c.args.tree.now) × AreInLine m.columns m.rows (outline c.args.tree.now))) c.new-rows.ensures c.in_ok-is_complete_counted.ensures.complete) c.if-branch.true)

pub returns-in-Two-2-clause-finds : goal.returns-in-Two-2-clause-finds
returns-in-Two-2-clause-finds g c = λ i value same there.
    subst (λ v. Finds (PassesYes i value) (complete_tests v c.args.side) (Some (reason.Complete c.args.side))) (sym c.in-Two-2.is)
    (complete_fails i value c.args.side c.args.derived.now (outline c.args.tree.now) c.in_ok-is_complete_counted.field-0 same there (subst (λ (m : RowList). IsTrue c.in_ok-is_complete_counted.field-0 ↔ (AreTogether m.columns m.rows (outline c.args.tree.now) × AreInLine m.columns m.rows (outline c.args.tree.now))) c.new-rows.ensures c.in_ok-is_complete_counted.ensures.complete) c.if-branch.false)
