use Rattle.std.proofs.Common.{◌≡◌, ◌∙◌, ◌+◌, ◌<◌, ◌∷◌, ◌++◌, [], List, ℕ, length, take, set, drop, sym, ap, arith}
use Rattle.std.proofs.lemmas.List.{append-nil}
use Rattle.row_model.specs.Rows.{IsRow}
use Rattle.text_lines.specs.Words.{words_of}
use Rattle.matrix_read.specs.SparseSteps.{columns_named}
use Rattle.matrix_read.proofs.SparseLemmas.{code_behind, columns_behind, one_more_column, row_listed, words_end}
use Rattle.matrix_read.proofs.sparse.ascending_columns.Goals as goal

pub loop-word-preserved : goal.loop-word-preserved
loop-word-preserved c =
    let before = c.loop-word.invariant in
    let columns : List ℕ = c.loop-word.columns in
    let ones : ℕ = c.loop-word.ones in
    let n : ℕ = c.in-Value.n in
    let later : List (List ℕ) = words_of (drop c.in-Some.word.next c.args.line.now) in
    let room : ones < length columns = omega (arith, c.loop-word.auto.columns) in
    let longer : (row : List ℕ) → take (ones + 1) (set columns ones n) ++ row ≡ take ones columns ++ (n ∷ row) =
    λ row. one_more_column columns row ones n room in
    record {
      within = c.in-Some.ensures.range.1;
      few = omega arith;
      most = c.if-n-c.true;
      code = code_behind c.args.c _ later _ c.in-Some.ensures.first n c.in-Value.is (omega arith) c.if-n-c.true ∙ before.code;
      named = longer (columns_named later)
          ∙ ap (λ (rest : List ℕ). take ones columns ++ rest) (columns_behind c.args.c _ later _ c.in-Some.ensures.first n c.in-Value.is (omega arith) c.if-n-c.true)
          ∙ before.named;
      ascends = λ row up. rw (longer row) (before.ascends (n ∷ row) (c.if-last-n.true, c.if-n-c.true, up));
    }

pub returns-clause-named : goal.returns-clause-named
returns-clause-named c = sym c.loop-word.invariant.code ∙ words_end c.args.c _ c.in_default.ensures.nothing

pub returns-clause-row : goal.returns-clause-row
returns-clause-row c =
    let front : List ℕ = take c.loop-word.ones c.loop-word.columns in
    let whole : front ≡ front ++ [] = sym (append-nil front) in
    let named : front ≡ columns_named (words_of c.args.line.now) =
    whole ∙ ap (λ (words : List (List ℕ)). front ++ columns_named words) (sym c.in_default.ensures.nothing) ∙ c.loop-word.invariant.named in
    let ascends : IsRow c.args.c front = rw (← whole) at (c.loop-word.invariant.ascends [] tt) in
    row_listed c.args.c c.args.line.now front named ascends
