use Rattle.std.proofs.Common.{◌≡◌, ◌⊎◌, ℕ, ◌<◌, List, [], ◌∷◌, length, map, None, refl, inl, inr, arith}
use Rattle.std.proofs.lemmas.Grind.{common_steps}
use Rattle.std.specs.Prelude.{string_bytes}
use Rattle.command_input.specs.Words.{command_of}
use Rattle.command_input.proofs.words.task_of.Goals.{in_default-via-then-words-lt2, in_default-via-else-words-lt2+else-words-lt3+else-words-lt4+else-words-lt5}
use Rattle.command_input.proofs.words.task_of.Goals as goal

-- no command has less than two words, or more than four
other_words : {A : Type 0} (f : A → List ℕ) (words : List A) → (length words < 2) ⊎ (4 < length words) → None ≡ command_of (map f words)
other_words f [] h = refl
other_words f (a ∷ []) h = refl
other_words f (a ∷ b ∷ []) h = absurd (omega (arith, h))
other_words f (a ∷ b ∷ c ∷ []) h = absurd (omega (arith, h))
other_words f (a ∷ b ∷ c ∷ d ∷ []) h = absurd (omega (arith, h))
other_words f (a ∷ b ∷ c ∷ d ∷ e ∷ rest) h = refl

pub returns-in_default-clause-task : goal.returns-in_default-clause-task
returns-in_default-clause-task c = elim c.in_default.branch [
  | in_default-via-then-words-lt2 w ↦ other_words string_bytes c.args.words.now (inl (grind (arith, common_steps)))
  | in_default-via-else-words-lt2+else-words-lt3+else-words-lt4+else-words-lt5 w ↦ other_words string_bytes c.args.words.now (inr (grind (arith, common_steps)))
]
