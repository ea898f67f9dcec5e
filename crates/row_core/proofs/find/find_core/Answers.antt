use Rattle.std.proofs.Common.{◌≡◌, ◌∙◌, ◌+◌, ◌*◌, ◌≤◌, List, Result, Option, Some, None, IfOk, IfSome, IsTrue, ap, length, subst, sym, arith}
use Rattle.std.specs.Prelude.{⊤, IsErr}
use Rattle.std.proofs.lemmas.Result.{IfOk-from_err}
use Rattle.std.proofs.lemmas.List.{append-nil}
use Rattle.std.proofs.lemmas.List.FromFn.{length-range_with_len}
use Rattle.std.specs.List.{range_with_len}
use Rattle.row_core.proofs.Judgements.{more_judged, fewer_judged, judged_within, whole_judged}
use Rattle.row_core.proofs.Rounds.{all_rounds, rows_twice}
use Rattle.row_model.specs.declared.graph.Line.{Line}
use Rattle.row_model.specs.Rows.{RowList}
use Rattle.row_model.specs.Cycles.{IsOddCycle}
use Rattle.row_judge.specs.Costs.{Costs, IsYesWithin, AreJudgements}
use Rattle.row_judge.specs.Judges.{HasShortCycle, IsFirstConflict, IsJudged}
use Rattle.row_judge.specs.declared.Judged.{Judged}
use Rattle.core_text.specs.Cores.{AreRowNumbers, rows_at}
use Rattle.row_core.specs.Blamed.{part_at, rotated, IsBlamed}
use Rattle.row_core.proofs.Numbers.{ascends_all, rows_at_all}
use Rattle.row_core.proofs.Whole.{reasons_within, some_blamed, some_row, part_all, length-rotated}
use Rattle.row_core.proofs.find.find_core.Given as given
use Rattle.row_core.proofs.find.find_core.Goals as goal
use Rattle.row_core.proofs.find.find_core.Goals.{After-judged_short, In_ok-blamed-in-No, After-core_among}

-- the numbers of all rows have the cycle of the matrix
all_have : (m : RowList) (cycle : List Line) → IsOddCycle m.columns m.rows cycle → IsOddCycle m.columns (rows_at m.rows (range_with_len 1 (length m.rows))) cycle
all_have m cycle odd = subst (λ rows. IsOddCycle m.columns rows cycle) (sym (rows_at_all m.rows)) odd

-- what is known of the rows that are blamed
module _ (g : given.Over) (c : In_ok-blamed-in-No g) where
  pub all : c.deref.result.now ≡ range_with_len 1 (length c.args.m.now.rows)
  all = c.deref.ensures.value ∙ c.in_ok-all-in-No.ensures

  pub ascending : AreRowNumbers (length c.args.m.now.rows) (rotated 0 c.deref.result.now)
  ascending = subst (AreRowNumbers (length c.args.m.now.rows)) (sym (append-nil c.deref.result.now ∙ all)) (ascends_all (length c.args.m.now.rows))

  pub is_blamed : IsBlamed c.args.m.now c.in_ok-blamed-in-No.blamed
  is_blamed =
      let judgement = rw c.in-No.is at c.in_ok-tree.ensures.judged in
      let cycle = subst (λ xs. IsOddCycle c.args.m.now.columns (rows_at c.args.m.now.rows xs) c.in-No.cycle) (sym all) (all_have c.args.m.now c.in-No.cycle judgement.0) in
      c.in_ok-blamed-in-No.ensures.blamed c.args.m.now ascending cycle (subst (HasShortCycle c.args.m.now.columns) c.in-No.is c.in_ok-tree.ensures.short)

  pub some : 1 ≤ length c.in_ok-blamed-in-No.blamed.rows.items
  some = some_blamed c.blame_law.ensures c.args.m.now c.in_ok-blamed-in-No.blamed.rows.items c.in_ok-blamed-in-No.blamed.lines is_blamed.cycle is_blamed.among

  pub few : length c.in_ok-blamed-in-No.blamed.rows.items ≤ length c.args.m.now.rows
  few = subst (λ k. length c.in_ok-blamed-in-No.blamed.rows.items ≤ k) (ap length all ∙ length-range_with_len 1 (length c.args.m.now.rows)) c.in_ok-blamed-in-No.ensures.few

-- an answer and an error take no more than two judgements for each row, and one more
within : (g : given.Over) (c : After-core_among g) → length c.in_ok-blamed-in-No.blamed.rows.items ≤ length c.args.m.now.rows → IsTrue g.J.Judge.in_turn → AreJudgements g.J.Judge.costs c.args.m.now (2 * length c.args.m.now.rows + 1) c.args.steps.now c.core_among.new.steps
within g c few turn =
    let m = c.args.m.now in
    let blamed = c.in_ok-blamed-in-No.blamed in
    let rows = some_row m.columns m.rows (rw c.in-No.is at c.in_ok-tree.ensures.judged).1 in
    judged_within g.J.Judge.costs m 1 (length blamed.rows.items + blamed.untried + 1) (2 * length m.rows + 1) c.args.steps.now c.judged_short.new.steps c.core_among.new.steps
    (rows_twice _ _ _ rows few c.in_ok-blamed-in-No.ensures.more.1)
    (whole_judged g.J.Judge.costs m c.args.steps.now c.judged_short.new.steps c.judged_short.ensures.most) (c.core_among.ensures.any turn)

pub blame-requires-clause-within : goal.blame-requires-clause-within
blame-requires-clause-within g c =
    let m = c.args.m.now in
    let judgement = rw c.in-No.is at c.in_ok-tree.ensures.judged in
    rw (c.deref.ensures.value ∙ c.in_ok-all-in-No.ensures) (reasons_within m.columns m.rows (range_with_len 1 (length m.rows)) c.in-No.cycle (all_have m c.in-No.cycle judgement.0).closed)

pub core_among-requires-clause-blamed : goal.core_among-requires-clause-blamed
core_among-requires-clause-blamed g c = is_blamed g (goal.at.core_among-requires-clause-blamed g c).In_ok-blamed-in-No

pub core_among-requires-clause-needed : goal.core_among-requires-clause-needed
core_among-requires-clause-needed g c = λ turn.
    let m = c.args.m.now in
    let here = (goal.at.core_among-requires-clause-needed g c).In_ok-blamed-in-No in
    let first = rw c.in-No.is at (c.in_ok-tree.ensures.in_turn turn) in
    c.in_ok-blamed-in-No.ensures.needed m (ascending g here)
    (λ i from inside. absurd (omega (arith, from, inside, length-rotated 0 c.deref.result.now)))
    (subst (λ xs. IsFirstConflict (part_at m xs) c.in-No.cycle) (sym (all g here)) (subst (λ n. IsFirstConflict n c.in-No.cycle) (sym (part_all m)) first))

pub returns-in_ok-core-in-No-clause-asked : goal.returns-in_ok-core-in-No-clause-asked
returns-in_ok-core-in-No-clause-asked g c = λ turn.
    omega (arith, some g (goal.at.returns-in_ok-core-in-No-clause-asked g c).In_ok-blamed-in-No, c.in_ok-blamed-in-No.ensures.more.1, c.in_ok-core-in-No.ensures.asked turn, c.judged_short.ensures.asked)

pub returns-in_ok-core-in-No-clause-judgements : goal.returns-in_ok-core-in-No-clause-judgements
returns-in_ok-core-in-No-clause-judgements g c = λ turn.
    let m = c.args.m.now in
    let more = c.in_ok-core-in-No.ensures.judgements turn in
    let one = some g (goal.at.returns-in_ok-core-in-No-clause-judgements g c).In_ok-blamed-in-No in
    fewer_judged g.J.Judge.costs m (1 + more.0) (2 * length c.in_ok-core-in-No.core.rows + 1) c.args.steps.now c.core_among.new.steps (omega (arith, one, c.in_ok-blamed-in-No.ensures.more.1, more.1))
    (more_judged g.J.Judge.costs m 1 more.0 c.args.steps.now c.judged_short.new.steps c.core_among.new.steps (whole_judged g.J.Judge.costs m c.args.steps.now c.judged_short.new.steps c.judged_short.ensures.most) more.2)

pub returns-in_ok-core-in-No-clause-most : goal.returns-in_ok-core-in-No-clause-most
returns-in_ok-core-in-No-clause-most g c =
    all_rounds _ _ _ (length c.in_ok-blamed-in-No.blamed.rows.items) (length c.args.m.now.rows) (few g (goal.at.returns-in_ok-core-in-No-clause-most g c).In_ok-blamed-in-No)
    c.judged_short.ensures.asked c.in_ok-core-in-No.ensures.most

-- with an error too
pub returns-in_err-core-in-No-clause-any : goal.returns-in_err-core-in-No-clause-any
returns-in_err-core-in-No-clause-any g c = let at = goal.at.returns-in_err-core-in-No-clause-any g c in within g at.After-core_among (few g at.In_ok-blamed-in-No)

pub returns-in_ok-core-in-No-clause-any : goal.returns-in_ok-core-in-No-clause-any
returns-in_ok-core-in-No-clause-any g c = let at = goal.at.returns-in_ok-core-in-No-clause-any g c in within g at.After-core_among (few g at.In_ok-blamed-in-No)

-- the times that the judge was asked, with an answer and with an error
times : (g : given.Over) (c : After-core_among g) → length c.in_ok-blamed-in-No.blamed.rows.items ≤ length c.args.m.now.rows → IsTrue g.J.Judge.in_turn → g.J.Judge.asked c.core_among.new.judge ≤ g.J.Judge.asked c.args.judge.now + (2 * length c.args.m.now.rows + 1)
times g c few turn =
    let rows = some_row c.args.m.now.columns c.args.m.now.rows (rw c.in-No.is at c.in_ok-tree.ensures.judged).1 in
    omega (arith, rows_twice _ _ _ rows few c.in_ok-blamed-in-No.ensures.more.1, c.judged_short.ensures.asked, c.core_among.ensures.asked_any turn)

pub returns-in_err-core-in-No-clause-asked_any : goal.returns-in_err-core-in-No-clause-asked_any
returns-in_err-core-in-No-clause-asked_any g c = let at = goal.at.returns-in_err-core-in-No-clause-asked_any g c in times g at.After-core_among (few g at.In_ok-blamed-in-No)

pub returns-in_ok-core-in-No-clause-asked_any : goal.returns-in_ok-core-in-No-clause-asked_any
returns-in_ok-core-in-No-clause-asked_any g c = let at = goal.at.returns-in_ok-core-in-No-clause-asked_any g c in times g at.After-core_among (few g at.In_ok-blamed-in-No)

pub returns-in_ok-core-in-No-clause-cored : goal.returns-in_ok-core-in-No-clause-cored
returns-in_ok-core-in-No-clause-cored g c =
    let judgement = rw c.in-No.is at c.in_ok-tree.ensures.judged in
    (c.in_ok-core-in-No.ensures.core, judgement.1, c.in_ok-core-in-No.ensures.short)

-- the first judgement is one of those for the rows
one_of : (g : given.Over) (c : After-judged_short g) → AreJudgements g.J.Judge.costs c.args.m.now (2 * length c.args.m.now.rows + 1) c.args.steps.now c.judged_short.new.steps
one_of g c =
    fewer_judged g.J.Judge.costs c.args.m.now 1 (2 * length c.args.m.now.rows + 1) c.args.steps.now c.judged_short.new.steps (omega arith)
    (whole_judged g.J.Judge.costs c.args.m.now c.args.steps.now c.judged_short.new.steps c.judged_short.ensures.most)

pub returns-in-Yes : goal.returns-in-Yes
returns-in-Yes g c =
    let m = c.args.m.now in
    record {
      cored = subst (IsJudged m) c.in-Yes.is c.in_ok-tree.ensures.judged;
      asked = λ turn. c.judged_short.ensures.asked;
      asked_any = λ turn. omega (arith, c.judged_short.ensures.asked);
      most = omega (arith, c.judged_short.ensures.asked);
      yes = subst (λ (a : Judged). IfSome g.J.Judge.costs (λ k. IsYesWithin k m c.args.steps.now c.judged_short.new.steps a)) c.in-Yes.is c.in_ok-tree.ensures.yes;
      judgements = λ turn. whole_judged g.J.Judge.costs m c.args.steps.now c.judged_short.new.steps c.judged_short.ensures.most;
      any = λ turn. one_of g (goal.at.returns-in-Yes g c).After-judged_short;
    }

-- nothing is said of the steps of a core, or of an error
core_within : (costs : Option Costs) → IfSome costs (λ k. ⊤)
core_within None = tt
core_within (Some k) = tt

none_within : {T E : Type 0} (costs : Option Costs) (made : Result T E) (P : Costs → T → Type 0) → IsErr made → IfSome costs (λ k. IfOk made (P k))
none_within None made P none = tt
none_within (Some k) made P none = IfOk-from_err made (P k) none

pub returns-in_ok-core-in-No-clause-yes : goal.returns-in_ok-core-in-No-clause-yes
returns-in_ok-core-in-No-clause-yes g c = core_within g.J.Judge.costs

pub returns-in_err-tree-clause-yes : goal.returns-in_err-tree-clause-yes
returns-in_err-tree-clause-yes g c = none_within g.J.Judge.costs c.from_residual.result _ c.from_residual.ensures.0

pub returns-in_err-tree-clause-any : goal.returns-in_err-tree-clause-any
returns-in_err-tree-clause-any g c = λ turn. one_of g (goal.at.returns-in_err-tree-clause-any g c).After-judged_short

pub returns-in_err-all-in-No-clause-yes : goal.returns-in_err-all-in-No-clause-yes
returns-in_err-all-in-No-clause-yes g c = none_within g.J.Judge.costs c.from_residual-in_err-all-in-No.result _ c.from_residual-in_err-all-in-No.ensures.0

pub returns-in_err-all-in-No-clause-any : goal.returns-in_err-all-in-No-clause-any
returns-in_err-all-in-No-clause-any g c = λ turn. one_of g (goal.at.returns-in_err-all-in-No-clause-any g c).After-judged_short

pub returns-in_err-blamed-in-No-clause-yes : goal.returns-in_err-blamed-in-No-clause-yes
returns-in_err-blamed-in-No-clause-yes g c = none_within g.J.Judge.costs c.from_residual-in_err-blamed-in-No.result _ c.from_residual-in_err-blamed-in-No.ensures.0

pub returns-in_err-blamed-in-No-clause-any : goal.returns-in_err-blamed-in-No-clause-any
returns-in_err-blamed-in-No-clause-any g c = λ turn. one_of g (goal.at.returns-in_err-blamed-in-No-clause-any g c).After-judged_short

pub returns-in_err-core-in-No-clause-yes : goal.returns-in_err-core-in-No-clause-yes
returns-in_err-core-in-No-clause-yes g c = none_within g.J.Judge.costs c.from_residual-in_err-core-in-No.result _ c.from_residual-in_err-core-in-No.ensures.0
