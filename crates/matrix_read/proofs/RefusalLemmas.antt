-- What is refused first of dense and of sparse files.
use Rattle.std.proofs.Common.{◌≡◌, ◌∙◌, ℕ, List, ◌∷◌, Option, Some, None, Result, Ok, Err, refl, ap}
use Rattle.row_model.specs.declared.refusal.Read.TheVariants as read
use Rattle.text_lines.specs.Lines.{NumberedLine}
use Rattle.text_lines.specs.Rows.{first_refusal, refused_or}
use Rattle.matrix_read.specs.Dense.{width_of, digit_matrix}
use Rattle.matrix_read.specs.DenseSteps.{first_code, row_code, read_lines}
use Rattle.matrix_read.specs.Sparse.{line_code, named_matrix}
use Rattle.matrix_read.specs.SparseSteps.{rows_behind, sparse_lines}
use Rattle.text_lines.specs.FirstRefusal.{numbered_of}
use Rattle.matrix_read.specs.Refusals.{dense_head, sparse_head, DenseRefusals, SparseRefusals, FurtherRefusals}
use Rattle.matrix_read.proofs.DenseLemmas.{dense_long, dense_short}
use Rattle.matrix_read.proofs.SparseLemmas.{sparse_long, sparse_short, further_long, further_short}
use Rattle.text_lines.proofs.FirstRefused.{none_from, of_first}

-- dense files
dense_rows : (first : NumberedLine) (later : List NumberedLine) (width : ℕ) → dense_head first.text ≡ Ok width → read_lines (first ∷ later) ≡ refused_or (first_refusal (row_code width) 1 later) (digit_matrix width (first ∷ later))
dense_rows first later width h = by (first_code first.text) refl h
  where
    by : (code : Option ℕ) → first_code first.text ≡ code → dense_head first.text ≡ Ok width → read_lines (first ∷ later) ≡ refused_or (first_refusal (row_code width) 1 later) (digit_matrix width (first ∷ later))
    by (Some code) e k = let wrong = rw e at k in absurd (cc)
    by None e k =
        let is : width_of first.text ≡ width = let same = rw e at k in cc in
        rw e (ap (λ w. refused_or (first_refusal (row_code w) 1 later) (digit_matrix w (first ∷ later))) is)

dense_head_refused : (first : NumberedLine) (later : List NumberedLine) (code : ℕ) → dense_head first.text ≡ Err code → read_lines (first ∷ later) ≡ read.Refused (record { code = code; line = first.number })
dense_head_refused first later code h = by (first_code first.text) refl h
  where
    by : (found : Option ℕ) → first_code first.text ≡ found → dense_head first.text ≡ Err code → read_lines (first ∷ later) ≡ read.Refused (record { code = code; line = first.number })
    by (Some found) e k =
        let is : found ≡ code = let same = rw e at k in cc in
        rw e (ap (λ n. read.Refused (record { code = n; line = first.number })) is)
    by None e k = let wrong = rw e at k in absurd (cc)

pub dense_refusals : DenseRefusals
dense_refusals = record {
  refused = record {
    too_long = dense_long;
    no_line = λ bytes short e. dense_short bytes short ∙ ap read_lines e;
    bad_head = λ bytes first later code short e h. dense_short bytes short ∙ ap read_lines e ∙ dense_head_refused first later code h;
    bad_line = λ bytes first later width refusal short e h of.
        dense_short bytes short ∙ ap read_lines e ∙ dense_rows first later width h
        ∙ ap (λ r. refused_or r (digit_matrix width (first ∷ later))) (of_first (row_code width) 1 later refusal of);
  };
  taken = λ bytes first later width short e h all.
      dense_short bytes short ∙ ap read_lines e ∙ dense_rows first later width h
      ∙ ap (λ r. refused_or r (digit_matrix width (first ∷ later))) (none_from (row_code width) 1 later all);
}

-- sparse files
sparse_rows : (head : NumberedLine) (later : List NumberedLine) (found : Result ℕ ℕ) → sparse_head head.text ≡ found → sparse_lines (head ∷ later) ≡ rows_behind head.number found later
sparse_rows head later found h = ap (λ width. rows_behind head.number width later) h

pub sparse_refusals : SparseRefusals
sparse_refusals = record {
  refused = record {
    too_long = sparse_long;
    no_line = λ bytes short e. sparse_short bytes short ∙ ap sparse_lines e;
    bad_head = λ bytes head later code short e h. sparse_short bytes short ∙ ap sparse_lines e ∙ sparse_rows head later (Err code) h;
    bad_line = λ bytes head later c refusal short e h of.
        sparse_short bytes short ∙ ap sparse_lines e ∙ sparse_rows head later (Ok c) h ∙ ap (λ r. refused_or r (named_matrix c later)) (of_first (line_code c) 0 later refusal of);
  };
  taken = λ bytes head later c short e h all.
      sparse_short bytes short ∙ ap sparse_lines e ∙ sparse_rows head later (Ok c) h ∙ ap (λ r. refused_or r (named_matrix c later)) (none_from (line_code c) 0 later all);
}

-- files of further rows
pub further_refusals : FurtherRefusals
further_refusals = record {
  too_long = λ c bytes h. further_long bytes c h;
  bad_line = λ c bytes refusal short of. further_short bytes c short ∙ ap (λ r. refused_or r (named_matrix c (numbered_of bytes))) (of_first (line_code c) 0 (numbered_of bytes) refusal of);
  taken = λ c bytes short all.
      further_short bytes c short ∙ ap (λ r. refused_or r (named_matrix c (numbered_of bytes))) (none_from (line_code c) 0 (numbered_of bytes) all);
}
