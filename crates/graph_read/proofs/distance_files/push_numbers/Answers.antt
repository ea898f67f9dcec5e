use Rattle.std.proofs.Common.{◌∙◌, ap, sym, drop}
use Rattle.text_lines.specs.Words.{words_of}
use Rattle.graph_read.specs.DistanceSteps.{numbers_behind}
use Rattle.graph_read.proofs.DistanceLemmas.{numbers_step, numbers_large, numbers_foreign, numbers_end}
use Rattle.graph_read.proofs.distance_files.push_numbers.Goals as goal

pub returns-in-NotDigits-clause-refused : goal.returns-in-NotDigits-clause-refused
returns-in-NotDigits-clause-refused c =
    let first = c.in-Some.ensures.first in
    sym c.loop-word.invariant.so_far ∙ numbers_foreign c.loop-word.values.items _ _ _ first.is (sym c.in-NotDigits.is ∙ first.writes)

pub returns-in-TooLarge-clause-refused : goal.returns-in-TooLarge-clause-refused
returns-in-TooLarge-clause-refused c =
    let first = c.in-Some.ensures.first in
    sym c.loop-word.invariant.so_far ∙ numbers_large c.loop-word.values.items _ _ _ first.is (sym c.in-TooLarge.is ∙ first.writes)

pub loop-word-preserved : goal.loop-word-preserved
loop-word-preserved c =
    let first = c.in-Some.ensures.first in
    record {
      within = c.in-Some.ensures.range.1;
      so_far =
          ap (λ values. numbers_behind values (words_of (drop c.in-Some.word.next c.args.line.now))) c.in_ok-push-in-Value.ensures.items
          ∙ numbers_step c.loop-word.values.items _ _ _ first.is c.in-Value.n (sym c.in-Value.is ∙ first.writes)
          ∙ c.loop-word.invariant.so_far;
    }

pub returns-clause-numbers : goal.returns-clause-numbers
returns-clause-numbers c = sym c.loop-word.invariant.so_far ∙ numbers_end c.loop-word.values.items _ c.in_default.ensures.nothing
