use Rattle.std.proofs.Common.{◌≡◌, ◌∙◌, ◌+◌, ◌++◌, ℕ, List, Result, drop, slice_range, false, ap, sym, refl, arith}
use Rattle.std.proofs.lemmas.Result.{IfOk-weaker, IfOk-from_err}
use Rattle.row_model.specs.declared.refusal.Read.TheVariants as read
use Rattle.text_lines.specs.Lines.{NumberedLine, lines_of, filled_lines, is_blank}
use Rattle.text_lines.proofs.LineLemmas.{no_lines}
use Rattle.graph_read.specs.declared.edges.Shape.{Shape}
use Rattle.graph_read.specs.declared.lines_read.LinesRead.{LinesRead}
use Rattle.graph_read.specs.Placed.{lists_then}
use Rattle.graph_read.specs.Pieces.{lines_then, lists_headed, lists_behind}
use Rattle.graph_read.proofs.PlacedLemmas.{blank_first, filled_first, then_none}
use Rattle.graph_read.proofs.lines_read.LinesRead.first_lines.Goals as goal

pub returns-in-Err-clause-lines : goal.returns-in-Err-clause-lines
returns-in-Err-clause-lines c later =
    let text = c.args.text.now in
    let number = c.loop-at.number + 1 in
    let span = c.line_from-span.result in
    let found = c.line_from-span.ensures in
    let line : List ℕ = slice_range text span.start span.end in
    let rest : List NumberedLine = filled_lines (number + 1) (lines_of (drop span.next text) ++ later) in
    let filled : is_blank line ≡ false = sym c.is_blank.ensures ∙ c.if-not-is_blank.true in
    let first = filled_first number line (lines_of (drop c.loop-at.at text)) (lines_of (drop span.next text)) later found.lines filled in
    ap (λ refusal. read.Refused refusal) c.refusal.ensures
    ∙ ap (λ (shape : Result Shape ℕ). lists_behind number shape rest) c.in-Err.ensures.shape
    ∙ ap (lists_headed c.args.heading) (sym first ∙ c.loop-at.invariant.so_far later)

pub returns-in_ok-new-in-Ok-clause-lines : goal.returns-in_ok-new-in-Ok-clause-lines
returns-in_ok-new-in-Ok-clause-lines c =
    let text = c.args.text.now in
    let number = c.loop-at.number + 1 in
    let span = c.line_from-span.result in
    let found = c.line_from-span.ensures in
    let line : List ℕ = slice_range text span.start span.end in
    let filled : is_blank line ≡ false = sym c.is_blank.ensures ∙ c.if-not-is_blank.true in
    let edges = c.in_ok-new-in-Ok.field-0 in
    IfOk-weaker c.further_lines.result
    (λ (new : LinesRead). (later : List (List ℕ)) → lines_then new later ≡ lists_then edges.shape edges.places.items (filled_lines (number + 1) (lines_of (drop span.next text) ++ later)))
    (λ (new : LinesRead). (later : List (List ℕ)) → lines_then new later ≡ lists_headed c.args.heading (filled_lines (c.args.passed + 1) (lines_of text ++ later)))
    (λ new made later.
    let rest : List NumberedLine = filled_lines (number + 1) (lines_of (drop span.next text) ++ later) in
    let first = filled_first number line (lines_of (drop c.loop-at.at text)) (lines_of (drop span.next text)) later found.lines filled in
    made later
    ∙ ap (λ (shape : Shape). lists_then shape edges.places.items rest) c.in_ok-new-in-Ok.ensures.shape
    ∙ then_none c.in-Ok.shape edges.places.items rest c.in_ok-new-in-Ok.ensures.places
    ∙ ap (λ (shape : Result Shape ℕ). lists_behind number shape rest) c.in-Ok.ensures.shape
    ∙ ap (lists_headed c.args.heading) (sym first ∙ c.loop-at.invariant.so_far later))
    c.further_lines.ensures.lines

pub loop-at-preserved : goal.loop-at-preserved
loop-at-preserved c =
    let text = c.args.text.now in
    let number = c.loop-at.number + 1 in
    let span = c.line_from-span.result in
    let found = c.line_from-span.ensures in
    let line : List ℕ = slice_range text span.start span.end in
    let before = c.loop-at.invariant in
    record {
      within = omega (arith, found.next);
      few = omega (arith, found.next, before.few, c.loop-at-test.true);
      so_far = λ later.
          sym (blank_first number line (lines_of (drop c.loop-at.at text)) (lines_of (drop span.next text)) later found.lines (sym c.is_blank.ensures ∙ c.if-not-is_blank.false))
          ∙ before.so_far later;
    }

pub returns-clause-lines : goal.returns-clause-lines
returns-clause-lines c later =
    let none = no_lines c.args.text.now c.loop-at.at (omega (arith, c.loop-at.invariant.within, c.loop-at-test.false)) in
    ap (lists_headed c.args.heading) (ap (λ lines. filled_lines (c.loop-at.number + 1) (lines ++ later)) (sym none) ∙ c.loop-at.invariant.so_far later)

pub shape_in-requires : goal.shape_in-requires
shape_in-requires c = c.requires.limit

pub new-requires-clause-left : goal.new-requires-clause-left
new-requires-clause-left c = c.in-Ok.ensures.left

pub returns-in_err-new-in-Ok : goal.returns-in_err-new-in-Ok
returns-in_err-new-in-Ok c = record { lines = IfOk-from_err c.from_residual.result _ c.from_residual.ensures.0; few = IfOk-from_err c.from_residual.result _ c.from_residual.ensures.0; heading = IfOk-from_err c.from_residual.result _ c.from_residual.ensures.0 }

pub new-requires-clause-right : goal.new-requires-clause-right
new-requires-clause-right c = c.in-Ok.ensures.right

pub returns-in-Err-clause-heading : goal.returns-in-Err-clause-heading
returns-in-Err-clause-heading c = refl

pub further_lines-requires-clause-limit : goal.further_lines-requires-clause-limit
further_lines-requires-clause-limit c = c.requires.limit

pub further_lines-requires-clause-shape : goal.further_lines-requires-clause-shape
further_lines-requires-clause-shape c = rw c.in_ok-new-in-Ok.ensures.shape c.in-Ok.ensures.of

pub returns-in_ok-new-in-Ok-clause-heading : goal.returns-in_ok-new-in-Ok-clause-heading
returns-in_ok-new-in-Ok-clause-heading c = c.further_lines.ensures.heading

pub line_from-span-requires : goal.line_from-span-requires
line_from-span-requires c = c.loop-at-test.true

pub returns-clause-heading : goal.returns-clause-heading
returns-clause-heading c = refl
