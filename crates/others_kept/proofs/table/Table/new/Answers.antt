use Rattle.std.proofs.Common.{◌≡◌, ◌∙◌, ℕ, ◌+◌, ◌<◌, ◌*◌, List, get_or, length, ap, sym, subst, arith}
use Rattle.column_order.proofs.Counts.{order_length, order_own}
use Rattle.row_model.specs.declared.lists.Span.{Span}
use Rattle.row_model.proofs.Ascending.{ascends_few}
use Rattle.others_kept.specs.Counts.{sum_below, reaches, LiesIn}
use Rattle.others_kept.proofs.Tables.{HasSpans, none, added_up, added_few, near_is, counted_is}
use Rattle.others_kept.proofs.table.Table.new.Goals as goal

pub beginnings-requires-clause-few : goal.beginnings-requires-clause-few
beginnings-requires-clause-few c =
    omega (arith, ap (λ (xs : List Span). length xs) c.deref.ensures.value, c.in_ok-spans.ensures.len, ascends_few (length c.args.m.now.rows) 0 c.args.rows.now c.requires.rows, c.columns-columns.ensures.few_rows)

pub beginnings-requires-clause-within : goal.beginnings-requires-clause-within
beginnings-requires-clause-within c j d l =
    let long = ap (λ (xs : List Span). length xs) c.deref.ensures.value in
    let lies : LiesIn c.args.m.now.columns (get_or c.in_ok-spans.spans.items j d) = (c.in_ok-spans.ensures.each j d (omega (arith, l, long, c.in_ok-spans.ensures.len))).lies in
    subst (λ n. LiesIn n (get_or c.deref.result.now j d)) (sym c.columns-columns.ensures.columns) (subst (λ (xs : List Span). LiesIn c.args.m.now.columns (get_or xs j d)) (sym c.deref.ensures.value) lies)

pub add_up-requires-clause-room : goal.add_up-requires-clause-room
add_up-requires-clause-room c a b u v =
    let now = c.deref.result.now in
    let long = ap (λ (xs : List Span). length xs) c.deref.ensures.value in
    let lies : (j : ℕ) → j < length now → LiesIn c.columns-columns.result (get_or now j none) = λ j l.
    subst (λ n. LiesIn n (get_or now j none)) (sym c.columns-columns.ensures.columns)
    (subst (λ (xs : List Span). LiesIn c.args.m.now.columns (get_or xs j none)) (sym c.deref.ensures.value) (c.in_ok-spans.ensures.each j none (omega (arith, l, long, c.in_ok-spans.ensures.len))).lies) in
    let few = added_few c.columns-columns.result (length now) now c.in_ok-counts.counts.items lies (λ a b u v. c.in_ok-counts.ensures.cells a b none u v) a b u v in
    omega (arith, few, long, c.in_ok-spans.ensures.len, ascends_few (length c.args.m.now.rows) 0 c.args.rows.now c.requires.rows, c.columns-columns.ensures.few_rows)

pub positions-requires-clause-order : goal.positions-requires-clause-order
positions-requires-clause-order c = order_own c.args.m.now.columns c.args.order.now c.requires.order

pub positions-requires-clause-few : goal.positions-requires-clause-few
positions-requires-clause-few c = omega (arith, order_length c.args.m.now.columns c.args.order.now c.requires.order, c.columns-columns.ensures.columns, c.columns-columns.ensures.range)

pub returns : goal.returns
returns c =
    let m = c.args.m.now in
    let numbers = c.args.rows.now in
    let o = c.args.order.now in
    let now = c.deref.result.now in
    let counts = c.add_up.new.counts.items in
    let same = c.columns-columns.ensures.columns in
    let spans : HasSpans m numbers o (length numbers) now =
    subst (HasSpans m numbers o (length numbers)) (sym c.deref.ensures.value) (record { len = c.in_ok-spans.ensures.len; each = c.in_ok-spans.ensures.each }) in
    let lies : (j : ℕ) → j < length now → LiesIn c.columns-columns.result (get_or now j none) = λ j l.
    subst (λ n. LiesIn n (get_or now j none)) (sym same) (spans.each j none (omega (arith, l, spans.len))).lies in
    let cells : (a b : ℕ) → a < m.columns → b < m.columns → get_or counts (a * m.columns + b) 0 ≡ sum_below (length numbers) (λ j. reaches a b (get_or now j none)) =
    subst (λ n. (a b : ℕ) → a < n → b < n → get_or counts (a * n + b) 0 ≡ sum_below (length numbers) (λ j. reaches a b (get_or now j none))) same
    (λ a b u v. c.add_up.ensures.cells a b u v
    ∙ added_up c.columns-columns.result (length now) now c.in_ok-counts.counts.items lies (λ a b u v. c.in_ok-counts.ensures.cells a b none u v) a b u v
    ∙ ap (λ n. sum_below n (λ j. reaches a b (get_or now j none))) spans.len) in
    let are = c.in_ok-positions.ensures in
    record {
      rows = c.most_of_all.ensures.rows;
      columns = are.columns ∙ order_length m.columns o c.requires.order;
      square = subst (λ n. length counts ≡ n * n) same c.add_up.ensures.square;
      near = near_is m numbers o c.in_ok-positions.positions.items c.requires.order are now spans counts cells;
      counted = counted_is m numbers o c.in_ok-positions.positions.items c.requires.order are now spans counts cells;
      wanted = c.most_of_all.ensures.most;
      few = c.most_of_all.ensures.few;
    }
