use Rattle.std.proofs.Common.{◌≡◌, ◌≢◌, ◌∙◌, ℕ, ◌+◌, ◌-◌, List, [], ◌∷◌, Ok, length, take, sym, ap, subst, arith, rules, length-append}
use Rattle.std.specs.Prelude.{IfOk, OnErr}
use Rattle.std.proofs.lemmas.Bool.{false≢true}
use Rattle.arena_model.specs.NamedTree.{outline_at}
use Rattle.pq_tree.proofs.Texts.{on_err}
use Rattle.row_model.specs.Rows.{RowList}
use Rattle.tree_theory.specs.Tied.{IsTied}
use Rattle.c1p_solve.specs.Sessions.{SessionValue, IsSession, with_row}
use Rattle.c1p_solve.specs.Taking.{StandsAfter}
use Rattle.c1p_solve.specs.declared.session.Taken.TheVariants as taken
use Rattle.c1p_solve.proofs.Rows.{no_value, rows_before, behind_session, same_tree, stands_still, session_longer, value_differs, error_differs}
use Rattle.c1p_solve.proofs.session.Session.take_row.Goals as goal
use Rattle.c1p_solve.proofs.session.Session.take_row.Goals.{in-Ok-Ok, in_default, in_default-2}

pub returns-then-not-matches : goal.returns-then-not-matches
returns-then-not-matches g c =
    let before : SessionValue = c.args.self.now in
    let pushed : c.push_row.new.self ≡ with_row before.matrix c.args.row.now = c.in_ok-push_row.ensures.ok ∙ ap (λ (v : SessionValue). with_row v.matrix c.args.row.now) c.self.view_is in
    let e = c.reduce_last-taken.ensures in
    let h = behind_session before c.args.row.now c.push_row.new.self (outline_at c.self.inside.reducer) (outline_at c.reduce_last-taken.new.reducer) c.args.explain c.args.steps.now c.reduce_last-taken.new.steps c.reduce_last-taken.result pushed (ap (λ (v : SessionValue). v.tree) c.self.view_is) (record { decision = e.decision; tied = e.tied; unchanged = e.unchanged; proper = e.proper; err = e.err; total = e.total; most = e.most; refused = e.refused; failed = e.failed }) in
    let other : c.reduce_last-taken.result ≢ Ok taken.Ok = λ is. elim c.match-matches.branch [
      | in-Ok-Ok w ↦ absurd (false≢true (sym c.if-not-matches.true ∙ w.matches-is))
      | in_default w ↦
          let refused : w.in_default.field-0 ≢ taken.Ok = search rules in
          value_differs c.reduce_last-taken.result w.in_default.field-0 w.in_default.is refused is
      | in_default-2 w ↦ error_differs c.reduce_last-taken.result w.in_default.field-0 w.in_default.is is
    ] in
    let matrix : c.pop_row.new.self ≡ before.matrix = c.pop_row.ensures ∙ ap (λ (m : RowList). record { columns = m.columns; rows = take (length m.rows - 1) m.rows }) pushed
    ∙ ap (λ rows. record { columns = before.matrix.columns; rows = rows }) (rows_before before.matrix.rows c.args.row.now) in
    let tree = same_tree (with_row before.matrix c.args.row.now) c.args.row.now before.tree (outline_at c.reduce_last-taken.new.reducer) c.args.explain c.args.steps.now c.reduce_last-taken.new.steps c.reduce_last-taken.result other h in
    let after : SessionValue = record { matrix = c.pop_row.new.self; tree = outline_at c.reduce_last-taken.new.reducer } in
    let same : after ≡ before = ap (λ m. record { matrix = m; tree = outline_at c.reduce_last-taken.new.reducer }) matrix ∙ ap (λ t. record { matrix = before.matrix; tree = t }) tree in
    record {
      decision = h.decision;
      session = stands_still before after c.args.row.now c.reduce_last-taken.result other same;
      kept = subst IsSession (c.self.view_is ∙ sym same) c.self.invariant.session;
      proper = h.proper;
      err = on_err c.reduce_last-taken.result same;
      total = h.total;
      most = h.most;
      refused = h.refused;
      failed = h.failed;
    }

pub returns-else-not-matches : goal.returns-else-not-matches
returns-else-not-matches g c =
    let is : c.reduce_last-taken.result ≡ Ok taken.Ok = elim c.match-matches.branch [
      | in-Ok-Ok w ↦ search rules
      | in_default w ↦ absurd (false≢true (sym w.matches-is ∙ c.if-not-matches.false))
      | in_default-2 w ↦ absurd (false≢true (sym w.matches-is ∙ c.if-not-matches.false))
    ] in
    let before : SessionValue = c.args.self.now in
    let pushed : c.push_row.new.self ≡ with_row before.matrix c.args.row.now = c.in_ok-push_row.ensures.ok ∙ ap (λ (v : SessionValue). with_row v.matrix c.args.row.now) c.self.view_is in
    let e = c.reduce_last-taken.ensures in
    let h = behind_session before c.args.row.now c.push_row.new.self (outline_at c.self.inside.reducer) (outline_at c.reduce_last-taken.new.reducer) c.args.explain c.args.steps.now c.reduce_last-taken.new.steps c.reduce_last-taken.result pushed (ap (λ (v : SessionValue). v.tree) c.self.view_is) (record { decision = e.decision; tied = e.tied; unchanged = e.unchanged; proper = e.proper; err = e.err; total = e.total; most = e.most; refused = e.refused; failed = e.failed }) in
    let after : SessionValue = record { matrix = c.push_row.new.self; tree = outline_at c.reduce_last-taken.new.reducer } in
    let longer = ap (λ m. record { matrix = m; tree = outline_at c.reduce_last-taken.new.reducer }) pushed in
    record {
      decision = h.decision;
      session = subst (λ r. IfOk r (StandsAfter before c.args.row.now after)) (sym is) pushed;
      kept = subst IsSession (sym longer) (session_longer before c.args.row.now (outline_at c.reduce_last-taken.new.reducer) c.args.explain c.args.steps.now c.reduce_last-taken.new.steps c.reduce_last-taken.result is h);
      proper = h.proper;
      err = subst (λ r. OnErr r (after ≡ before)) (sym is) tt;
      total = h.total;
      most = h.most;
      refused = h.refused;
      failed = h.failed;
    }

pub returns-in_err-push_row : goal.returns-in_err-push_row
returns-in_err-push_row g c =
    let none = c.from_residual.ensures.0 in
    let same = ap (λ m. record { matrix = m; tree = outline_at c.self.inside.reducer }) c.in_err-push_row.ensures.err ∙ c.self.view_is in
    record {
      decision = no_value c.from_residual.result _ none;
      session = no_value c.from_residual.result _ none;
      kept = subst IsSession (c.self.view_is ∙ sym same) c.self.invariant.session;
      proper = no_value c.from_residual.result _ none;
      err = on_err c.from_residual.result same;
      total = no_value c.from_residual.result _ none;
      most = omega arith;
      refused = no_value c.from_residual.result _ none;
      failed = on_err c.from_residual.result (omega arith);
    }

pub reduce_last-taken-requires : goal.reduce_last-taken-requires
reduce_last-taken-requires g c =
    let pushed = c.in_ok-push_row.ensures.ok in
    let longer : length c.push_row.new.self.rows ≡ length c.self.inside.matrix.rows + 1 = ap (λ (m : RowList). length m.rows) pushed ∙ length-append c.self.inside.matrix.rows (c.args.row.now ∷ []) in
    record {
      some = omega (arith, longer);
      columns = c.self.invariant.columns ∙ sym (ap (λ (m : RowList). m.columns) pushed);
      tied = subst (λ (m : RowList). IsTied m.columns (take (length m.rows - 1) m.rows) (outline_at c.self.inside.reducer)) (sym pushed)
          (subst (λ (rows : List (List ℕ)). IsTied c.self.inside.matrix.columns rows (outline_at c.self.inside.reducer)) (sym (rows_before c.self.inside.matrix.rows c.args.row.now)) c.self.invariant.session.tied);
    }

pub pop_row-requires : goal.pop_row-requires
pop_row-requires g c = omega (arith, ap (λ (m : RowList). length m.rows) c.in_ok-push_row.ensures.ok, length-append c.self.inside.matrix.rows (c.args.row.now ∷ []))
