use Rattle.std.proofs.Common.{◌≡◌, ◌<◌, ◌+◌, slice_range, arith, ap, sym, ◌∙◌, refl, false}
use Rattle.text_lines.specs.Lines.{is_blank}
use Rattle.text_lines.specs.Words.{word_len}
use Rattle.text_lines.proofs.TextLemmas.{words_step, words_none}
use Rattle.text_lines.proofs.WordLemmas.{none_left, one_left, word_here, length-slice_range}
use Rattle.text_lines.proofs.words.next_word.Goals as goal

pub returns-then-start-end-clause-none : goal.returns-then-start-end-clause-none
returns-then-start-end-clause-none c = (
  λ e. none_left c.args.bytes.now c.args.at c.args.end c.count_blanks.result c.requires.order c.requires.within c.count_blanks.ensures.count c.if-start-end.true,
  λ h. refl,
)

pub returns-clause-none : goal.returns-clause-none
returns-clause-none c =
    let bytes = c.args.bytes.now in
    let before : c.args.at + c.count_blanks.result < c.args.end = omega (arith, length-slice_range bytes c.args.at c.args.end c.requires.order c.requires.within) in
    let filled : is_blank (slice_range bytes c.args.at c.args.end) ≡ false = one_left bytes c.args.at c.args.end c.count_blanks.result c.requires.order c.requires.within c.count_blanks.ensures.count before in
    (λ e. absurd (cc), λ h. sym h ∙ filled)

pub returns-clause-range : goal.returns-clause-range
returns-clause-range c =
    let bytes = c.args.bytes.now in
    let before : c.args.at + c.count_blanks.result < c.args.end = omega (arith, length-slice_range bytes c.args.at c.args.end c.requires.order c.requires.within) in
    let some : 0 < word_len (slice_range bytes (c.args.at + c.count_blanks.result) c.args.end) =
    word_here bytes c.args.at c.args.end c.count_blanks.result c.requires.order c.requires.within c.count_blanks.ensures.count before in (
      omega (arith, c.count_word-len.ensures.count),
      omega (arith, length-slice_range bytes (c.args.at + c.count_blanks.result) c.args.end (omega arith) c.requires.within),
    )

pub returns-then-start-end-clause-nothing : goal.returns-then-start-end-clause-nothing
returns-then-start-end-clause-nothing c =
    words_none c.args.bytes.now c.args.at c.args.end
    (none_left c.args.bytes.now c.args.at c.args.end c.count_blanks.result c.requires.order c.requires.within c.count_blanks.ensures.count c.if-start-end.true)

pub returns-clause-words : goal.returns-clause-words
returns-clause-words c =
    let bytes = c.args.bytes.now in
    let start = c.args.at + c.count_blanks.result in
    let before : start < c.args.end = omega (arith, length-slice_range bytes c.args.at c.args.end c.requires.order c.requires.within) in
    let some : 0 < word_len (slice_range bytes start c.args.end) =
    word_here bytes c.args.at c.args.end c.count_blanks.result c.requires.order c.requires.within c.count_blanks.ensures.count before in
    words_step bytes c.args.at c.args.end start (start + c.count_word-len.result) c.requires.order c.requires.within
    (ap (λ n. c.args.at + n) c.count_blanks.ensures.count) (ap (λ n. start + n) c.count_word-len.ensures.count) (omega (arith, c.count_word-len.ensures.count))
    (omega (arith, length-slice_range bytes start c.args.end (omega arith) c.requires.within))
