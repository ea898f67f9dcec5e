use Rattle.std.proofs.Common.{◌≡◌, ◌∙◌, ◌≤◌, ◌<◌, ◌+◌, ◌∷◌, sym, ap, arith, slice_range, length, drop, false}
use Rattle.std.proofs.Math.ListN.{drop_of_length-le}
use Rattle.text_lines.specs.Words.{begins_word}
use Rattle.text_lines.proofs.WordLemmas.{to_end}
use Rattle.text_lines.proofs.FewDigits.{digits_word, digits_numeral, words_past}
use Rattle.text_lines.proofs.words.short_number_at.Goals as goal

pub returns-then-end-line-clause-first : goal.returns-then-end-line-clause-first
returns-then-end-line-clause-first c =
    let line = c.args.line.now in
    let at = c.args.at in
    let len = c.first_digits-digits.result.len in
    let found = c.first_digits-digits.ensures in
    let some : 1 ≤ len = omega arith in
    let none : begins_word (drop (at + len) line) ≡ false = ap begins_word (drop_of_length-le line (omega arith)) in
    record {
      word = slice_range line at (at + len);
      is = digits_word line (slice_range line at (length line)) at len (to_end line at) some found.within found.digits none;
      writes = digits_numeral line (slice_range line at (length line)) at len (to_end line at) some found.within found.digits
          c.first_digits-digits.result.value (found.value c.if-digits-gt-FEW_DIGITS.false) (omega arith);
    }

pub returns-clause-first : goal.returns-clause-first
returns-clause-first c =
    let line = c.args.line.now in
    let at = c.args.at in
    let len = c.first_digits-digits.result.len in
    let found = c.first_digits-digits.ensures in
    let some : 1 ≤ len = omega arith in
    let within : at + len < length line = omega arith in
    let apart : begins_word (drop (at + len) line) ≡ false = rw (to_end line (at + len)) at (sym c.begins_word.ensures ∙ c.if-begins_word.false) in
    record {
      word = slice_range line at (at + len);
      is = digits_word line (slice_range line at (length line)) at len (to_end line at) some found.within found.digits apart
          ∙ ap (λ later. slice_range line at (at + len) ∷ later) (sym (words_past line (at + len) within apart));
      writes = digits_numeral line (slice_range line at (length line)) at len (to_end line at) some found.within found.digits
          c.first_digits-digits.result.value (found.value c.if-digits-gt-FEW_DIGITS.false) (omega arith);
    }
