use Rattle.std.proofs.Common.{◌+◌, List, ℕ, drop, slice_range, arith, ap, sym, ◌∙◌}
use Rattle.text_lines.specs.Lines.{lines_of, filled_lines}
use Rattle.text_lines.proofs.LineLemmas.{next_gt, filled_blank, filled_here, filled_none}
use Rattle.text_lines.proofs.lines.next_filled_line.Goals as goal

pub returns-then-not-is_blank-clause-line : goal.returns-then-not-is_blank-clause-line
returns-then-not-is_blank-clause-line c =
    let span = c.in-Some.span in
    let line : List ℕ = slice_range c.args.text.now span.start span.end in
    sym c.loop-span.invariant.so_far
    ∙ ap (filled_lines (c.loop-span.number + 1)) c.in-Some.ensures.lines
    ∙ filled_here (c.loop-span.number + 1) line (lines_of (drop span.next c.args.text.now)) (sym c.is_blank.ensures ∙ c.if-not-is_blank.true)

pub loop-span-preserved : goal.loop-span-preserved
loop-span-preserved c =
    let text = c.args.text.now in
    let span = c.in-Some.span in
    let found = c.in-Some.ensures in
    let line : List ℕ = slice_range text span.start span.end in
    let further = next_gt text c.loop-span.place span.start span.end span.next c.loop-span.invariant.within found.none.1 found.start found.end found.next in
    record {
      from = omega (arith, further);
      within = omega arith;
      few = omega (arith, further);
      so_far =
          sym (filled_blank (c.loop-span.number + 1) line (lines_of (drop span.next text)) (sym c.is_blank.ensures ∙ c.if-not-is_blank.false))
          ∙ ap (filled_lines (c.loop-span.number + 1)) (sym found.lines)
          ∙ c.loop-span.invariant.so_far;
    }

pub returns-clause-none : goal.returns-clause-none
returns-clause-none c =
    sym c.loop-span.invariant.so_far ∙ filled_none (c.loop-span.number + 1) (lines_of (drop c.loop-span.place c.args.text.now)) c.in_default.ensures.nothing
