-- What is read is the text of a verdict, and the text of a verdict is read.
use Rattle.std.proofs.Common.{◌≡◌, ◌∙◌, ℕ, List, [], ◌++◌, length, Some, ap, inl, inr, subst, codes, eqb}
use Rattle.std.specs.Prelude.{option_and_then}
use Rattle.std.proofs.lemmas.Bool.{eqb-true}
use Rattle.std.proofs.lemmas.Option.{none-some, same_Some, option_and_then_some}
use Rattle.plain_text.proofs.NumberLaws.{chosen}
use Rattle.verdict_text.specs.Verdict.{VerdictValue}
use Rattle.verdict_text.specs.Text.{head_text, claim_text, verdict_text}
use Rattle.verdict_text.specs.Grammar.{IsVerdict}
use Rattle.verdict_text.specs.Reading.{head_at, claim_at, verdict_of}
use Rattle.verdict_text.proofs.HeadLaws.{head_takes, head_again}
use Rattle.verdict_text.proofs.ClaimLaws.{claim_takes, claim_again}
use Rattle.text_parts.proofs.Chains.{after_word, at_word}
use Rattle.std.proofs.lemmas.List.{nil_from_length}

-- what is read is a verdict of the grammar with this text
pub verdict_takes : (bytes : List ℕ) (v : VerdictValue) → verdict_of bytes ≡ Some v → IsVerdict v × (bytes ≡ verdict_text v)
unfolding verdict_of verdict_text
verdict_takes bytes v h =
    option_and_then_some _ (head_at bytes) v h (λ x e k.
    option_and_then_some _ (claim_at x.0.1 x.0.2 x.1) v k (λ y f m.
    let a = head_takes bytes x.0.0 x.0.1 x.0.2 x.1 e in
    let b = claim_takes x.0.1 x.0.2 x.1 y.0 y.1 a.columns a.sides f in
    let d = after_word _ (codes "end\n") y.1 v m in
    let made : VerdictValue = record { version = x.0.0; kind = x.0.1; columns = x.0.2; claim = y.0 } in
    elim (chosen (eqb (length d.0) 0) _ _ _ d.2) [
      | inl z ↦
          let done : y.1 ≡ codes "end\n" = d.1 ∙ ap (λ w. codes "end\n" ++ w) (nil_from_length d.0 (eqb-true (length d.0) 0 z.0)) in
          let P : VerdictValue → Type 0 = λ v. IsVerdict v × (bytes ≡ verdict_text v) in
          subst P (same_Some made v z.1) (
            record { sides = a.sides; columns = a.columns; claim = b.fits },
            a.front ∙ ap (λ w. head_text x.0.0 x.0.1 x.0.2 ++ w) (b.front ∙ ap (λ w. claim_text x.0.1 y.0 ++ w) done),
          )
      | inr z ↦ absurd (none-some _ z.1)
    ]))

-- the text of a verdict of the grammar is read as that verdict
pub verdict_again : (v : VerdictValue) → IsVerdict v → verdict_of (verdict_text v) ≡ Some v
unfolding verdict_of verdict_text
verdict_again v h =
    ap (option_and_then _) (head_again v.version v.kind v.columns (claim_text v.kind v.claim ++ codes "end\n") h.columns h.sides)
    ∙ ap (option_and_then _) (claim_again v.kind v.columns v.claim (codes "end\n") h.columns h.sides h.claim)
    ∙ at_word _ (codes "end\n") []
