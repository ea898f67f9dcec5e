use Rattle.std.proofs.Common.{◌≡◌, ◌∙◌, ◌<◌, ◌+◌, ◌∷◌, ◌++◌, [], List, ℕ, length, take, drop, set, sym, ap, refl, arith, rules}
use Rattle.std.proofs.lemmas.List.{append-nil}
use Rattle.row_model.specs.Rows.{IsRow}
use Rattle.text_lines.specs.Lines.{first_line, without_return}
use Rattle.text_lines.specs.Words.{words_of, IsFirstNumber}
use Rattle.text_lines.specs.declared.words.Numeral.TheVariants.{Value}
use Rattle.matrix_read.specs.Sparse.{words_code}
use Rattle.matrix_read.specs.SparseSteps.{columns_named, row_named}
use Rattle.text_lines.proofs.TextLemmas.{no_words}
use Rattle.matrix_read.proofs.SparseLemmas.{code_behind, columns_behind, one_more_column, row_listed, words_end}
use Rattle.text_lines.proofs.PlainLemmas.{some_digits, space_len, space_return, space_number, feed_len, feed_return, feed_number, lines_behind}
use Rattle.matrix_read.proofs.plain.plain_row.Goals as goal

pub loop-last-init : goal.loop-last-init
loop-last-init c = record {
  from = omega arith;
  within = c.requires.at;
  ends = c.none-ends.ensures c.args.text.now c.args.at;
  few = omega arith;
  most = omega arith;
  line = refl;
  return_is = λ kept. kept;
  code = refl;
  named = refl;
  ascends = λ row up. up;
}

pub loop-last-preserved : goal.loop-last-preserved
loop-last-preserved c =
    let before = c.loop-last.invariant in
    let text : List ℕ = c.args.text.now in
    let place : ℕ = c.loop-last.place in
    let found = c.next_digits-found.ensures in
    let end : ℕ = c.next_digits-found.result.run.end in
    let n : ℕ = c.next_digits-found.result.run.value in
    let columns : List ℕ = c.loop-last.columns in
    let ones : ℕ = c.loop-last.ones in
    let later : List (List ℕ) = words_of (first_line (drop (end + 1) text)) in
    let within : end < length text = omega (arith, found.range, c.if-column-text.false) in
    let some : place < end = some_digits text place end n found.range.0 found.value (omega arith) in
    let first : IsFirstNumber (words_of (first_line (drop place text))) (Value n) later =
    space_number text place end found.range.0 within found.digits c.in-32.is n found.value (omega arith) some in
    let room : ones < length columns = omega (arith, c.loop-last.auto.columns) in
    record {
      from = omega arith;
      within = omega arith;
      ends = found.ends;
      few = omega arith;
      most = omega arith;
      line = before.line ∙ space_len text place end found.range.0 within found.digits c.in-32.is;
      return_is = λ kept. before.return_is (space_return text place end found.range.0 within found.digits c.in-32.is kept);
      code = code_behind c.args.c _ later _ first n refl (omega arith) (omega arith) ∙ before.code;
      named = one_more_column columns (columns_named later) ones n room
          ∙ ap (λ (rest : List ℕ). take ones columns ++ rest) (columns_behind c.args.c _ later _ first n refl (omega arith) (omega arith))
          ∙ before.named;
      ascends = λ row up. rw (one_more_column columns row ones n room) (before.ascends (n ∷ row) (omega arith, omega arith, up));
    }

pub returns-in-10 : goal.returns-in-10
returns-in-10 c =
    let before = c.loop-last.invariant in
    let text : List ℕ = c.args.text.now in
    let found = c.next_digits-found.ensures in
    let run = c.next_digits-found.result.run in
    let ones : ℕ = c.loop-last.ones in
    let front : List ℕ = take ones c.loop-last.columns in
    let line : List ℕ = first_line (drop c.args.at text) in
    let within : run.end < length text = omega (arith, found.range, c.if-column-text.false) in
    let some : c.loop-last.place < run.end = some_digits text c.loop-last.place run.end run.value found.range.0 found.value (omega arith) in
    let first : IsFirstNumber (words_of (first_line (drop c.loop-last.place text))) (Value run.value) (words_of []) =
    feed_number text c.loop-last.place run.end found.range.0 within found.digits c.in-10.is run.value found.value (omega arith) some in
    let whole : without_return line ≡ line = before.return_is (feed_return text c.loop-last.place run.end found.range.0 within found.digits c.in-10.is) in
    let row : List ℕ = take (ones + 1) (set c.loop-last.columns ones run.value) in
    let longer : row ≡ front ++ (run.value ∷ []) = sym (append-nil row) ∙ one_more_column c.loop-last.columns [] ones run.value (omega (arith, c.loop-last.auto.columns)) in
    let named : row ≡ columns_named (words_of line) =
    longer
    ∙ ap (λ (words : List (List ℕ)). front ++ (run.value ∷ columns_named words)) (sym no_words)
    ∙ ap (λ (rest : List ℕ). front ++ rest) (columns_behind c.args.c _ (words_of []) _ first run.value refl (omega arith) (omega arith))
    ∙ before.named in
    let ascends : IsRow c.args.c row = rw longer (before.ascends (run.value ∷ []) (omega arith, omega arith, tt)) in
    record {
      range = (omega arith, omega arith);
      line =
          lines_behind text c.args.at (run.end + 1) (ap (λ n. n + 1) (before.line ∙ feed_len text c.loop-last.place run.end found.range.0 within found.digits c.in-10.is)) (omega arith);
      named = ap (λ line. words_code c.args.c (words_of line)) whole
          ∙ sym (code_behind c.args.c _ (words_of []) _ first run.value refl (omega arith) (omega arith) ∙ before.code)
          ∙ words_end c.args.c (words_of []) no_words;
      row = row_listed c.args.c line row named ascends ∙ ap (row_named c.args.c) (sym whole);
      within = search rules;
    }
