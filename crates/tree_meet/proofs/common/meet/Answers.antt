use Rattle.std.proofs.Common.{◌≡◌, ◌∙◌, ℕ, ◌+◌, ◌≤◌, List, length, Option, Some, None, refl, sym, subst, ap, arith}
use Rattle.std.specs.Option.{IfSome}
use Rattle.std.proofs.lemmas.Option.{IfSome_then}
use Rattle.std.proofs.lemmas.Result.{IfOk-from_err}
use Rattle.row_model.specs.Rows.{RowList}
use Rattle.pq_tree.specs.Proper.{IsProper}
use Rattle.pq_tree.specs.PqTree.{column_count, outline}
use Rattle.row_judge.specs.Costs.{Costs, IsYesWithin}
use Rattle.row_judge.specs.Judges.{HasShortCycle, IsJudged}
use Rattle.tree_meet.specs.Meets.{joint_rows, joint_matrix}
use Rattle.tree_meet.proofs.Few.{rows_few}
use Rattle.tree_meet.proofs.Joint.{met_tree, met_apart, joined_columns, joined_rows}
use Rattle.tree_meet.proofs.common.meet.Given as given
use Rattle.tree_meet.proofs.common.meet.Goals as goal
use Rattle.tree_meet.proofs.common.meet.Goals.{After-judged_short}

-- the second tree is proper over the columns of the first, and the matrix has the rows of both
record Joined (g : given.Over) (c : After-judged_short g) : Type 0 where
  second : IsProper (column_count c.args.first.now) (outline c.args.second.now)
  columns : c.push_rows.new.m.columns ≡ column_count c.args.first.now
  rows : c.push_rows.new.m.rows ≡ joint_rows (column_count c.args.first.now) (outline c.args.first.now) (outline c.args.second.now)

joined : (g : given.Over) (c : After-judged_short g) → Joined g c
joined g c =
    let n = column_count c.args.first.now in
    let k = column_count c.args.second.now in
    let t = outline c.args.first.now in
    let u = outline c.args.second.now in
    record {
      second = subst (λ k. IsProper k u) c.requires.same c.args.second.now.proper;
      columns = joined_columns n k t u c.in_ok-m.m c.push_rows.new.m c.in_ok-m.ensures c.in_ok-push_rows.ensures;
      rows = joined_rows n k t u c.in_ok-m.m c.push_rows.new.m c.requires.same c.in_ok-m.ensures c.in_ok-push_rows.ensures;
    }

pub push_rows-requires-clause-room : goal.push_rows-requires-clause-room
push_rows-requires-clause-room g c =
    let n = column_count c.args.first.now in
    omega (arith, rows_few n (outline c.args.first.now) c.args.first.now.proper, ap (λ (m : RowList). length m.rows) c.in_ok-m.ensures, c.requires.same, c.requires.few)

pub returns-in-Yes-clause-met : goal.returns-in-Yes-clause-met
returns-in-Yes-clause-met g c =
    let j = joined g (goal.at.returns-in-Yes-clause-met g c).After-judged_short in
    met_tree (column_count c.args.first.now) (outline c.args.first.now) (outline c.args.second.now) c.args.first.now.proper j.second c.push_rows.new.m j.columns j.rows
    c.in-Yes.tree (subst (IsJudged c.push_rows.new.m) c.in-Yes.is c.in_ok-tree.ensures.judged)

pub returns-clause-met : goal.returns-clause-met
returns-clause-met g c =
    let j = joined g (goal.at.returns-clause-met g c).After-judged_short in
    met_apart (column_count c.args.first.now) (outline c.args.first.now) (outline c.args.second.now) c.args.first.now.proper j.second c.push_rows.new.m j.columns j.rows
    c.in-No.cycle (subst (IsJudged c.push_rows.new.m) c.in-No.is c.in_ok-tree.ensures.judged) (subst (HasShortCycle c.push_rows.new.m.columns) c.in-No.is c.in_ok-tree.ensures.short)

-- what holds by any costs holds by those that a judge tells
by_any : (costs : Option Costs) (P : Costs → Type 0) → ((c : Costs) → P c) → IfSome costs P
by_any None P all = tt
by_any (Some c) P all = all c

same_matrix : (m : RowList) (n : ℕ) (rows : List (List ℕ)) → m.columns ≡ n → m.rows ≡ rows → m ≡ record { columns = n; rows = rows }
same_matrix m n rows e f = subst (λ (k : ℕ). m ≡ record { columns = k; rows = rows }) e (subst (λ (xs : List (List ℕ)). m ≡ record { columns = m.columns; rows = xs }) f refl)

-- the matrix that was judged
joint : (g : given.Over) (c : After-judged_short g) → c.push_rows.new.m ≡ joint_matrix (column_count c.args.first.now) (outline c.args.first.now) (outline c.args.second.now)
joint g c = let j = joined g c in same_matrix c.push_rows.new.m _ _ j.columns j.rows

pub tree_rows-requires : goal.tree_rows-requires
tree_rows-requires g c = omega (arith, c.requires.few)

pub push_rows-requires-clause-columns : goal.push_rows-requires-clause-columns
push_rows-requires-clause-columns g c = ap (λ (m : RowList). m.columns) c.in_ok-m.ensures ∙ sym c.requires.same

pub returns-in_err-m : goal.returns-in_err-m
returns-in_err-m g c =
    let none = c.from_residual.ensures.0 in
    let r = c.from_residual.result in
    record {
      met = IfOk-from_err r _ none;
      asked = omega arith;
      yes = by_any g.J.Judge.costs _ (λ costs. IfOk-from_err r _ none);
      most = by_any g.J.Judge.costs _ (λ costs. omega arith);
    }

pub returns-in_err-push_rows : goal.returns-in_err-push_rows
returns-in_err-push_rows g c =
    let none = c.from_residual-in_err-push_rows.ensures.0 in
    let r = c.from_residual-in_err-push_rows.result in
    record {
      met = IfOk-from_err r _ none;
      asked = omega arith;
      yes = by_any g.J.Judge.costs _ (λ costs. IfOk-from_err r _ none);
      most = by_any g.J.Judge.costs _ (λ costs. omega arith);
    }

pub returns-in_err-tree-clause-met : goal.returns-in_err-tree-clause-met
returns-in_err-tree-clause-met g c = IfOk-from_err c.from_residual-in_err-tree.result _ c.from_residual-in_err-tree.ensures.0

pub returns-in_err-tree-clause-asked : goal.returns-in_err-tree-clause-asked
returns-in_err-tree-clause-asked g c = c.judged_short.ensures.asked

pub returns-in_err-tree-clause-yes : goal.returns-in_err-tree-clause-yes
returns-in_err-tree-clause-yes g c =
    by_any g.J.Judge.costs _ (λ costs. IfOk-from_err c.from_residual-in_err-tree.result _ c.from_residual-in_err-tree.ensures.0)

pub returns-in_err-tree-clause-most : goal.returns-in_err-tree-clause-most
returns-in_err-tree-clause-most g c =
    subst (λ (m : RowList). IfSome g.J.Judge.costs (λ costs. c.judged_short.new.steps ≤ c.args.steps.now + costs.any m)) (joint g (goal.at.returns-in_err-tree-clause-most g c).After-judged_short) c.judged_short.ensures.most

pub returns-in-Yes-clause-asked : goal.returns-in-Yes-clause-asked
returns-in-Yes-clause-asked g c = c.judged_short.ensures.asked

pub returns-in-Yes-clause-yes : goal.returns-in-Yes-clause-yes
returns-in-Yes-clause-yes g c =
    subst (λ (m : RowList). IfSome g.J.Judge.costs (λ costs. c.judged_short.new.steps ≤ c.args.steps.now + costs.yes m)) (joint g (goal.at.returns-in-Yes-clause-yes g c).After-judged_short)
    (IfSome_then g.J.Judge.costs c.in_ok-tree.ensures.yes (λ costs within. subst (IsYesWithin costs c.push_rows.new.m c.args.steps.now c.judged_short.new.steps) c.in-Yes.is within))

pub returns-in-Yes-clause-most : goal.returns-in-Yes-clause-most
returns-in-Yes-clause-most g c =
    subst (λ (m : RowList). IfSome g.J.Judge.costs (λ costs. c.judged_short.new.steps ≤ c.args.steps.now + costs.any m)) (joint g (goal.at.returns-in-Yes-clause-most g c).After-judged_short) c.judged_short.ensures.most

pub returns-clause-asked : goal.returns-clause-asked
returns-clause-asked g c = c.judged_short.ensures.asked

pub returns-clause-yes : goal.returns-clause-yes
returns-clause-yes g c = by_any g.J.Judge.costs _ (λ costs. tt)

pub returns-clause-most : goal.returns-clause-most
returns-clause-most g c =
    subst (λ (m : RowList). IfSome g.J.Judge.costs (λ costs. c.judged_short.new.steps ≤ c.args.steps.now + costs.any m)) (joint g (goal.at.returns-clause-most g c).After-judged_short) c.judged_short.ensures.most
