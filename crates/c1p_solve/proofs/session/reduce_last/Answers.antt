use Rattle.std.proofs.Common.{◌≡◌, ◌∙◌, ℕ, ◌+◌, ◌*◌, ◌-◌, ◌≤◌, List, length, take, refl, sym, ap, subst, arith}
use Rattle.std.proofs.lemmas.List.{take_all}
use Rattle.column_order.specs.Orders.{HasValidOrder}
use Rattle.row_model.specs.Graph.{row_at, HasConflict}
use Rattle.row_judge.specs.Blamed.{IsReason}
use Rattle.pq_tree.specs.Amortised.{nodes_met}
use Rattle.pq_tree.specs.Proper.{IsProper}
use Rattle.pq_tree.proofs.Texts.{on_err}
use Rattle.tree_theory.specs.Tied.{IsTied}
use Rattle.tree_theory.specs.Frugal.{IsFrugal}
use Rattle.tree_theory.specs.declared.reducer.Step.TheVariants as step
use Rattle.arena_model.specs.Layout.{Layout}
use Rattle.arena_model.specs.NamedTree.{outline_at}
use Rattle.c1p_solve.proofs.Nodes.{refused_plainly, refused_with_cycle}
use Rattle.c1p_solve.proofs.Rows.{no_value, searched, most_explained}
use Rattle.c1p_solve.proofs.session.reduce_last.Goals as goal

pub returns-in-Taken : goal.returns-in-Taken
returns-in-Taken g c =
    let m = c.args.m.now in
    let whole : take c.rows.result m.rows ≡ m.rows = take_all c.rows.result m.rows (omega (arith, c.rows.ensures)) in
    let paid = subst (IsFrugal (row_at m.rows c.rows.result) (outline_at c.args.reducer.now) (outline_at c.reduce_row.new.self) c.args.steps.now c.reduce_row.new.steps) c.in-Taken.is c.reduce_row.ensures.amortised in
    let ticks = subst (λ (k : ℕ). c.reduce_row.new.steps ≤ c.args.steps.now + 256 * (nodes_met (row_at m.rows k) (outline_at c.args.reducer.now) + 1)) c.rows.ensures c.reduce_row.ensures.ticks in
    record {
      decision = subst (HasValidOrder m.columns) whole (c.reduce_row.ensures.order c.in-Taken.is);
      tied = λ e. subst (λ (rows : List (List ℕ)). IsTied m.columns rows (outline_at c.reduce_row.new.self)) whole (c.reduce_row.ensures.taken c.in-Taken.is);
      columns = c.reduce_row.ensures.columns;
      unchanged = λ d. absurd (d refl);
      proper = λ d. absurd (d refl);
      err = tt;
      total = subst (λ (k : ℕ). IsFrugal (row_at m.rows k) (outline_at c.args.reducer.now) (outline_at c.reduce_row.new.self) c.args.steps.now c.reduce_row.new.steps step.Taken) c.rows.ensures paid;
      most = omega (arith, ticks);
      refused = tt;
      failed = tt;
    }

pub conflict-requires : goal.conflict-requires
conflict-requires g c =
    let m = c.args.m.now in
    let again : c.rows.result ≡ c.rows-in-Refused.result = c.rows.ensures ∙ sym c.rows-in-Refused.ensures in
    record {
      row = (omega (arith, c.requires.some, c.rows-in-Refused.ensures), omega (arith, c.rows-in-Refused.ensures));
      columns = c.reduce_row.ensures.columns ∙ c.requires.columns;
      tied = subst (λ (r : Layout). IsTied m.columns (take (c.rows-in-Refused.result - 1) m.rows) (outline_at r)) (sym (c.reduce_row.ensures.unchanged c.in-Refused.is))
          (subst (λ (k : ℕ). IsTied m.columns (take (k - 1) m.rows) (outline_at c.args.reducer.now)) (sym c.rows-in-Refused.ensures) c.requires.tied);
      conflict = subst (λ (k : ℕ). HasConflict m.columns (take k m.rows)) again (c.reduce_row.ensures.conflict c.in-Refused.is);
    }

pub returns-in-Refused-2 : goal.returns-in-Refused-2
returns-in-Refused-2 g c =
    let m = c.args.m.now in
    let t = outline_at c.args.reducer.now in
    let ticks = subst (λ (k : ℕ). c.reduce_row.new.steps ≤ c.args.steps.now + 256 * (nodes_met (row_at m.rows k) t + 1)) c.rows.ensures c.reduce_row.ensures.ticks in
    let whole : take c.rows.result m.rows ≡ m.rows = take_all c.rows.result m.rows (omega (arith, c.rows.ensures)) in
    let before = subst (λ (r : Layout). IsProper r.columns (outline_at r)) (c.reduce_row.ensures.unchanged c.in-Refused.is) c.reduce_row.ensures.proper in
    let proper = subst (λ (n : ℕ). IsProper n t) c.requires.columns before in
    record {
      decision = (λ o. c.reduce_row.ensures.refused c.in-Refused.is (subst (HasValidOrder m.columns) (sym whole) o), c.if-explain.false);
      tied = λ e. absurd (cc);
      columns = c.reduce_row.ensures.columns;
      unchanged = λ d. ap outline_at (c.reduce_row.ensures.unchanged c.in-Refused.is);
      proper = λ d. proper;
      err = tt;
      total = ticks;
      most = omega (arith, ticks);
      refused = refused_plainly (row_at m.rows (length m.rows)) m.columns m.rows t c.args.explain c.args.steps.now c.reduce_row.new.steps proper c.if-explain.false ticks;
      failed = tt;
    }

pub returns-in_ok-cycle-in-Refused : goal.returns-in_ok-cycle-in-Refused
returns-in_ok-cycle-in-Refused g c =
    let m = c.args.m.now in
    let t = outline_at c.args.reducer.now in
    let whole : take c.rows.result m.rows ≡ m.rows = take_all c.rows.result m.rows (omega (arith, c.rows.ensures)) in
    let before = subst (λ (r : Layout). IsProper r.columns (outline_at r)) (c.reduce_row.ensures.unchanged c.in-Refused.is) c.reduce_row.ensures.proper in
    let proper = subst (λ (n : ℕ). IsProper n t) c.requires.columns before in
    let ticks = subst (λ (k : ℕ). c.reduce_row.new.steps ≤ c.args.steps.now + 256 * (nodes_met (row_at m.rows k) t + 1)) c.rows.ensures c.reduce_row.ensures.ticks in
    let search = searched m.columns c.rows-in-Refused.result c.reduce_row.new.steps c.conflict.new.steps m.rows c.rows-in-Refused.ensures c.conflict.ensures.ticks in
    let found = c.in_ok-cycle-in-Refused.ensures in
    record {
      decision = (
        λ o. c.reduce_row.ensures.refused c.in-Refused.is (subst (HasValidOrder m.columns) (sym whole) o),
        c.if-explain.true,
        found.cycle,
        found.short,
        subst (λ (k : ℕ). IsReason k c.in_ok-cycle-in-Refused.cycle) c.rows-in-Refused.ensures found.reason,
      );
      tied = λ e. absurd (cc);
      columns = c.reduce_row.ensures.columns;
      unchanged = λ d. ap outline_at (c.reduce_row.ensures.unchanged c.in-Refused.is);
      proper = λ d. proper;
      err = tt;
      total = omega (arith, ticks, search);
      most = most_explained m.columns c.args.steps.now c.conflict.new.steps m.rows (row_at m.rows (length m.rows)) t c.args.explain c.if-explain.true (omega (arith, ticks, search));
      refused = refused_with_cycle (row_at m.rows (length m.rows)) m.columns c.rows-in-Refused.result m.rows t c.args.explain c.args.steps.now c.reduce_row.new.steps c.conflict.new.steps proper c.if-explain.true
          c.rows-in-Refused.ensures ticks c.conflict.ensures.ticks;
      failed = tt;
    }

pub returns-in_err-cycle-in-Refused : goal.returns-in_err-cycle-in-Refused
returns-in_err-cycle-in-Refused g c =
    let m = c.args.m.now in
    let t = outline_at c.args.reducer.now in
    let none = c.from_residual.ensures.0 in
    let before = subst (λ (r : Layout). IsProper r.columns (outline_at r)) (c.reduce_row.ensures.unchanged c.in-Refused.is) c.reduce_row.ensures.proper in
    let proper = subst (λ (n : ℕ). IsProper n t) c.requires.columns before in
    let ticks = subst (λ (k : ℕ). c.reduce_row.new.steps ≤ c.args.steps.now + 256 * (nodes_met (row_at m.rows k) t + 1)) c.rows.ensures c.reduce_row.ensures.ticks in
    let search = searched m.columns c.rows-in-Refused.result c.reduce_row.new.steps c.conflict.new.steps m.rows c.rows-in-Refused.ensures c.conflict.ensures.ticks in
    record {
      decision = no_value c.from_residual.result _ none;
      tied = no_value c.from_residual.result _ none;
      columns = c.reduce_row.ensures.columns;
      unchanged = no_value c.from_residual.result _ none;
      proper = no_value c.from_residual.result _ none;
      err = on_err c.from_residual.result (ap outline_at (c.reduce_row.ensures.unchanged c.in-Refused.is));
      total = no_value c.from_residual.result _ none;
      most = most_explained m.columns c.args.steps.now c.conflict.new.steps m.rows (row_at m.rows (length m.rows)) t c.args.explain c.if-explain.true (omega (arith, ticks, search));
      refused = no_value c.from_residual.result _ none;
      failed = on_err c.from_residual.result (refused_with_cycle (row_at m.rows (length m.rows)) m.columns c.rows-in-Refused.result m.rows t c.args.explain c.args.steps.now c.reduce_row.new.steps c.conflict.new.steps proper c.if-explain.true
          c.rows-in-Refused.ensures ticks c.conflict.ensures.ticks);
    }
