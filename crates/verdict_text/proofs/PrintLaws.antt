-- The lines of the kind and of the columns, as they are printed.
use Rattle.std.proofs.Common.{◌≡◌, ◌∙◌, ℕ, List, [], ◌∷◌, ◌++◌, sym, ap}
use Rattle.std.specs.Prelude.{flat_map, codes}
use Rattle.std.proofs.lemmas.List.{append_assoc}
use Rattle.row_model.specs.declared.kind.Kind.{Kind}
use Rattle.text_parts.specs.Text.{kind_word, number_word}
use Rattle.verdict_text.specs.Text.{kind_line, columns_line}
use Rattle.text_parts.proofs.PrintLaws.{joined}

-- the lines of the kind and of the columns, piece by piece
pub subject_pieces : (kind : Kind) (columns : List ℕ) → codes "kind " ++ (kind_word kind ++ (codes "\ncolumns" ++ (flat_map number_word columns ++ 10 ∷ []))) ≡ kind_line kind ++ columns_line columns
subject_pieces kind columns = ap (λ t. codes "kind " ++ t) (sym (append_assoc (kind_word kind) (10 ∷ []) (codes "columns" ++ (flat_map number_word columns ++ 10 ∷ []))))

pub subject_printed : (old a b d e new word : List ℕ) (kind : Kind) (columns : List ℕ) → word ≡ kind_word kind → a ≡ old ++ codes "kind " → b ≡ a ++ word → d ≡ b ++ codes "\ncolumns" → e ≡ d ++ flat_map number_word columns
    → new ≡ e ++ 10 ∷ [] → new ≡ old ++ (kind_line kind ++ columns_line columns)
subject_printed old a b d e new word kind columns w f g h k l =
    let first = codes "kind " in
    let rest = flat_map number_word columns ++ 10 ∷ [] in
    joined old d e new (first ++ (kind_word kind ++ codes "\ncolumns")) (flat_map number_word columns) (10 ∷ [])
    (joined old a b d first (kind_word kind) (codes "\ncolumns") f (g ∙ ap (λ t. a ++ t) w) h) k l
    ∙ ap (λ t. old ++ t) (append_assoc first (kind_word kind ++ codes "\ncolumns") rest ∙ ap (λ t. first ++ t) (append_assoc (kind_word kind) (codes "\ncolumns") rest) ∙ subject_pieces kind columns)

-- a piece, and what follows it
pub and_after : (old now new x y : List ℕ) → now ≡ old ++ x → new ≡ now ++ y → new ≡ old ++ (x ++ y)
and_after old now new x y e f = f ∙ ap (λ t. t ++ y) e ∙ append_assoc old x y
