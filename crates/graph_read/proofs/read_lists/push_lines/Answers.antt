use Rattle.std.proofs.Common.{◌≡◌, ◌∙◌, ◌+◌, ◌++◌, Ok, Err, slice_range, ap, sym, arith}
use Rattle.text_lines.specs.Lines.{NumberedLine, filled_lines}
use Rattle.text_lines.specs.Words.{words_of}
use Rattle.text_lines.proofs.LineLemmas.{no_lines}
use Rattle.graph_read.specs.Numbers.{two_numbers}
use Rattle.graph_read.specs.Edges.{edge_named}
use Rattle.graph_read.specs.Placed.{lists_then}
use Rattle.graph_read.proofs.PlacedLemmas.{blank_first, filled_first, then_stop, step_placed, more_placed}
use Rattle.graph_read.proofs.read_lists.push_lines.Goals as goal

pub loop-place-preserved-in-None : goal.loop-place-preserved-in-None
loop-place-preserved-in-None c =
    let found = c.edge_line-line.ensures in
    let before = c.loop-place.invariant in
    record {
      within = found.further.1;
      few = omega (arith, before.few, found.further.0);
      counted = omega (arith, before.counted, found.further.0);
      places = before.places;
      placed = before.placed;
      lists = λ later.
          ap (lists_then c.args.shape c.loop-place.places.items) (sym (blank_first (c.loop-place.number + 1) _ _ _ later found.lines (rw c.in-None.is at found.blank)))
          ∙ before.lists later;
    }

pub returns-in-Some-Err-clause-lists : goal.returns-in-Some-Err-clause-lists
returns-in-Some-Err-clause-lists c later =
    let span = c.edge_line-line.result.span in
    let found = c.edge_line-line.ensures in
    let line : NumberedLine = record { number = c.loop-place.number + 1; text = slice_range c.args.text.now span.start span.end } in
    let code : c.in-Some-Err.field-0 ≡ Err c.in-Some-Err.code = rw c.in-Some-Err.is at c.in-Some-Err.field-0-is in
    let named : c.in-Some-Err.field-0 ≡ edge_named c.args.shape (two_numbers (words_of line.text)) = rw c.in-Some-Err.is at found.edge in
    let first = filled_first line.number line.text _ _ later found.lines (rw c.in-Some-Err.is at found.filled) in
    sym (then_stop c.args.shape line _ _ first c.loop-place.places.items c.in-Some-Err.code (sym code ∙ named)) ∙ c.loop-place.invariant.lists later

pub loop-place-preserved : goal.loop-place-preserved
loop-place-preserved c =
    let before = c.loop-place.invariant in
    let places = c.loop-place.places.items in
    let span = c.edge_line-line.result.span in
    let found = c.edge_line-line.ensures in
    let line : NumberedLine = record { number = c.loop-place.number + 1; text = slice_range c.args.text.now span.start span.end } in
    let ok : c.in-Some-Ok.field-0 ≡ Ok c.in-Some-Ok.edge = rw c.in-Some-Ok.is at c.in-Some-Ok.field-0-is in
    let named : c.in-Some-Ok.field-0 ≡ edge_named c.args.shape (two_numbers (words_of line.text)) = rw c.in-Some-Ok.is at found.edge in
    let edge : Ok c.in-Some-Ok.edge ≡ edge_named c.args.shape (two_numbers (words_of line.text)) = sym ok ∙ named in
    let pushed = c.in_ok-push_edge-in-Some-Ok.ensures in
    record {
      within = found.further.1;
      few = omega (arith, before.few, found.further.0);
      counted = omega (arith, before.counted, found.further.0);
      places = pushed.within before.places;
      placed = more_placed c.args.shape places c.push_edge.new.places.items line c.in-Some-Ok.edge edge before.placed pushed.places;
      lists = λ later.
          let first = filled_first line.number line.text _ _ later found.lines (rw c.in-Some-Ok.is at found.filled) in
          step_placed c.args.shape line _ _ first places c.push_edge.new.places.items c.in-Some-Ok.edge edge before.placed pushed.places ∙ before.lists later;
    }

pub returns-clause-lists : goal.returns-clause-lists
returns-clause-lists c later =
    ap (λ lines. lists_then c.args.shape c.loop-place.places.items (filled_lines (c.loop-place.number + 1) (lines ++ later))) (sym (no_lines c.args.text.now c.loop-place.place (omega (arith, c.loop-place.invariant.within, c.loop-place-test.false))))
    ∙ c.loop-place.invariant.lists later
