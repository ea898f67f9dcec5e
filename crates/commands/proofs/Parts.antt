-- A text in four parts.
use Rattle.std.proofs.Common.{◌≡◌, ◌∙◌, ℕ, List, [], ◌++◌, ap, append_assoc}

-- four texts, one appended after another
pub four_parts : (n0 n1 n2 n3 n4 a b c d : List ℕ) → n0 ≡ [] → n1 ≡ n0 ++ a → n2 ≡ n1 ++ b → n3 ≡ n2 ++ c → n4 ≡ n3 ++ d → n4 ≡ a ++ (b ++ (c ++ d))
four_parts n0 n1 n2 n3 n4 a b c d e0 e1 e2 e3 e4 =
    e4 ∙ ap (λ x. x ++ d) (e3 ∙ ap (λ x. x ++ c) (e2 ∙ ap (λ x. x ++ b) (e1 ∙ ap (λ x. x ++ a) e0))) ∙
    append_assoc (a ++ b) c d ∙ append_assoc a b (c ++ d)
