use Rattle.std.proofs.Common.{◌≡◌, ◌∙◌, ◌++◌, ℕ, List, ap}
use Rattle.std.specs.Prelude.{codes}
use Rattle.std.specs.Fmt.{decimal}
use Rattle.solve_replies.proofs.summaries.summary.Goals as goal

abbrev summary_lines : ℕ → ℕ → ℕ → ℕ → ℕ → List ℕ
summary_lines columns rows ones p q =
    codes "pq-gen 1\ncolumns " ++ (decimal columns ++ (codes "\nrows " ++ (decimal rows ++ (codes "\nones " ++ (decimal ones ++
    (codes "\nanswer yes\np " ++ (decimal p ++ (codes "\nq " ++ (decimal q ++ codes "\nend\n")))))))))

lines_same : {c c' rows rows' ones ones' p p' q q' : ℕ} → c ≡ c' → rows ≡ rows' → ones ≡ ones' → p ≡ p' → q ≡ q' → summary_lines c rows ones p q ≡ summary_lines c' rows' ones' p' q'
lines_same {c} {c'} {rows} {rows'} {ones} {ones'} {p} {p'} {q} {q'} d e f g h =
    ap (λ n. summary_lines n rows ones p q) d ∙ ap (λ n. summary_lines c' n ones p q) e ∙ ap (λ n. summary_lines c' rows' n p q) f ∙ ap (λ n. summary_lines c' rows' ones' n q) g ∙ ap (λ n. summary_lines c' rows' ones' p' n) h

pub returns-clause-text : goal.returns-clause-text
returns-clause-text c = λ m t counted. rw c.into_bytes.ensures.value (c.in_ok-text.ensures.ok ∙ lines_same counted.columns counted.rows counted.ones counted.p counted.q)
