use Rattle.std.proofs.Common.{rules, ◌≡◌, ◌∙◌, ℕ, ◌+◌, ◌*◌, ◌≤◌, ◌++◌, List, Bool, Option, Some, None, length, refl, ap, subst, inl, inr, arith}
use Rattle.std.specs.Prelude.{nat_lt}
use Rattle.pq_tree.specs.Amortised.{weight}
use Rattle.pq_tree.specs.Outline.{Outline}
use Rattle.row_model.specs.Rows.{RowList}
use Rattle.row_model.specs.declared.graph.Line.{Line}
use Rattle.c1p_solve.specs.SessionTotals.{IsRowTotal, IsRefusedWithin, refusal_steps}
use Rattle.c1p_solve.specs.Sessions.{SessionValue, with_row}
use Rattle.c1p_solve.specs.Taking.{IsDecision, StandsAfter}
use Rattle.c1p_solve.specs.declared.session.Taken.{Taken}
use Rattle.c1p_solve.specs.declared.session.Taken.TheVariants as taken
use Rattle.solve_replies.specs.Sessions.{Outcome, accepted, refused, outcome_text, IsOutcome}
use Rattle.solve_replies.specs.Taking.{outcome_of}
use Rattle.solve_replies.proofs.session.take_one.Goals as goal

-- whatever comes of a row, its steps are at most those of a row that is taken and a refusal
row_most : (c : ℕ) (rows : List (List ℕ)) (row : List ℕ) (t u : Outline) (s n : ℕ) (explain : Bool) (taken : Taken) → IsRowTotal c rows row t u s n taken → IsRefusedWithin c rows explain s n taken →
    n ≤ s + (1024 * (1 + length row) + 256 * weight t + refusal_steps c rows explain)
row_most c rows row t u s n explain taken.Ok total within = omega (arith, total)
row_most c rows row t u s n explain (taken.No cycle) total within = omega (arith, within)

failed_most : (s n a b : ℕ) → n ≤ s + b → n ≤ s + (a + b)
failed_most s n a b failed = omega arith

not_more : (n : ℕ) → n ≡ n + 1 → ⊥
not_more n e = omega arith

-- a refused row is explained exactly where an odd cycle was asked for
row_refused : (m : RowList) (refusals : ℕ) (row : List ℕ) (cycle : Option (List Line)) → IsDecision (with_row m row) (nat_lt refusals 16) (taken.No cycle) → IsOutcome m refusals row (refused cycle)
row_refused m refusals row None d = (d.0, search rules)
row_refused m refusals row (Some cycle) d = (d.0, (search rules, (d.2, d.3, d.4)))

outcome_no : (cycle : Option (List Line)) → outcome_of (taken.No cycle) ≡ refused cycle
outcome_no None = refl
outcome_no (Some cycle) = refl

told_as : (i : ℕ) (old new : List ℕ) (t u : Taken) (o : Outcome) → new ≡ old ++ outcome_text i (outcome_of t) → t ≡ u → outcome_of u ≡ o → new ≡ old ++ outcome_text i o
told_as i old new t u o told is same = told ∙ ap (λ x. old ++ outcome_text i (outcome_of x)) is ∙ ap (λ x. old ++ outcome_text i x) same

pub returns-in-Ok-clause-one : goal.returns-in-Ok-clause-one
returns-in-Ok-clause-one g c =
    let m = c.args.session.now.matrix in
    record {
      outcome = accepted;
      holds = subst (IsDecision (with_row m c.args.row.now) _) c.in-Ok.is c.in_ok-taken.ensures.decision;
      matrix_is = subst (StandsAfter c.args.session.now c.args.row.now c.take_row.new.self) c.in-Ok.is c.in_ok-taken.ensures.session;
      count_is = refl;
      text_is = told_as c.args.i c.args.text.now.items c.print_outcome.new.text.items c.in_ok-taken.taken taken.Ok accepted c.in_ok-print_outcome.ensures c.in-Ok.is refl;
    }

pub returns-in-Ok-clause-charged : goal.returns-in-Ok-clause-charged
returns-in-Ok-clause-charged g c =
    let m = c.args.session.now.matrix in
    inl (refl, subst (IsRowTotal m.columns (with_row m c.args.row.now).rows c.args.row.now c.args.session.now.tree c.take_row.new.self.tree c.args.steps.now c.take_row.new.steps) c.in-Ok.is c.in_ok-taken.ensures.total)

pub returns-in-Ok-clause-tree : goal.returns-in-Ok-clause-tree
returns-in-Ok-clause-tree g c = λ e. absurd (not_more c.args.refusals e)

pub returns-in-Ok-clause-most : goal.returns-in-Ok-clause-most
returns-in-Ok-clause-most g c =
    row_most c.args.session.now.matrix.columns (with_row c.args.session.now.matrix c.args.row.now).rows c.args.row.now c.args.session.now.tree c.take_row.new.self.tree c.args.steps.now c.take_row.new.steps (nat_lt c.args.refusals 16) c.in_ok-taken.taken
    c.in_ok-taken.ensures.total c.in_ok-taken.ensures.refused

pub returns-in_err-print_outcome-clause-most : goal.returns-in_err-print_outcome-clause-most
returns-in_err-print_outcome-clause-most g c =
    row_most c.args.session.now.matrix.columns (with_row c.args.session.now.matrix c.args.row.now).rows c.args.row.now c.args.session.now.tree c.take_row.new.self.tree c.args.steps.now c.take_row.new.steps (nat_lt c.args.refusals 16) c.in_ok-taken.taken
    c.in_ok-taken.ensures.total c.in_ok-taken.ensures.refused

pub returns-in_err-taken-clause-most : goal.returns-in_err-taken-clause-most
returns-in_err-taken-clause-most g c =
    failed_most c.args.steps.now c.take_row.new.steps (1024 * (1 + length c.args.row.now) + 256 * weight c.args.session.now.tree)
    (refusal_steps c.args.session.now.matrix.columns (with_row c.args.session.now.matrix c.args.row.now).rows (nat_lt c.args.refusals 16)) c.in_err-taken.ensures.failed

pub returns-clause-one : goal.returns-clause-one
returns-clause-one g c =
    let m = c.args.session.now.matrix in
    record {
      outcome = refused c.in-No.field-0;
      holds = row_refused m c.args.refusals c.args.row.now c.in-No.field-0 (subst (IsDecision (with_row m c.args.row.now) (nat_lt c.args.refusals 16)) c.in-No.is c.in_ok-taken.ensures.decision);
      matrix_is = ap (λ (s : SessionValue). s.matrix) (subst (StandsAfter c.args.session.now c.args.row.now c.take_row.new.self) c.in-No.is c.in_ok-taken.ensures.session);
      count_is = refl;
      text_is = told_as c.args.i c.args.text.now.items c.print_outcome.new.text.items c.in_ok-taken.taken (taken.No c.in-No.field-0) (refused c.in-No.field-0) c.in_ok-print_outcome.ensures c.in-No.is (outcome_no c.in-No.field-0);
    }

pub returns-clause-charged : goal.returns-clause-charged
returns-clause-charged g c =
    let m = c.args.session.now.matrix in
    let same = subst (StandsAfter c.args.session.now c.args.row.now c.take_row.new.self) c.in-No.is c.in_ok-taken.ensures.session in
    let within = subst (IsRefusedWithin m.columns (with_row m c.args.row.now).rows (nat_lt c.args.refusals 16) c.args.steps.now c.take_row.new.steps) c.in-No.is c.in_ok-taken.ensures.refused in
    inr (refl, ap (λ (s : SessionValue). weight s.tree) same, within, c.in_ok-taken.ensures.most)

pub returns-clause-most : goal.returns-clause-most
returns-clause-most g c =
    row_most c.args.session.now.matrix.columns (with_row c.args.session.now.matrix c.args.row.now).rows c.args.row.now c.args.session.now.tree c.take_row.new.self.tree c.args.steps.now c.take_row.new.steps (nat_lt c.args.refusals 16) c.in_ok-taken.taken
    c.in_ok-taken.ensures.total c.in_ok-taken.ensures.refused
