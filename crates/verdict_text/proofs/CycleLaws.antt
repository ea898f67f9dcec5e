-- A no: its side and its cycle.
use Rattle.std.proofs.Common.{◌≡◌, ◌∙◌, ◌^◌, ◌<◌, ◌≤◌, ℕ, false, List, ◌∷◌, ◌++◌, length, Some, refl, sym, ap, arith, inl, inr, codes, eqb}
use Rattle.std.specs.Prelude.{option_and_then, flat_map}
use Rattle.std.specs.List.{AllByRecursion}
use Rattle.std.specs.Fmt.{decimal}
use Rattle.std.proofs.lemmas.List.{append_assoc}
use Rattle.std.proofs.lemmas.Bool.{ne_eqb}
use Rattle.std.proofs.lemmas.Option.{none-some, some_pair_parts, option_and_then_some}
use Rattle.plain_text.proofs.NumberLaws.{chosen}
use Rattle.row_model.specs.declared.graph.Line.{Line}
use Rattle.verdict_text.specs.Verdict.{Claim, no_claim}
use Rattle.text_parts.specs.Text.{cycle_line}
use Rattle.verdict_text.specs.Text.{cycle_text}
use Rattle.text_parts.specs.Grammar.{IsLine, Fits32}
use Rattle.text_parts.specs.Numbered.{numbered}
use Rattle.text_parts.specs.Reading.{line_at, counted_at}
use Rattle.verdict_text.specs.Reading.{no_at}
use Rattle.text_parts.proofs.Chains.{after_number, after_word, at_number, at_word, some_number}
use Rattle.text_parts.proofs.NumberedLaws.{numbered-flat_map, counted_take, counted_again}
use Rattle.text_parts.proofs.LineLaws.{line_takes, line_again}

no_regroup : (side : ℕ) (lines : List Line) (rest : List ℕ) → cycle_text side lines ++ rest ≡ codes "side " ++ (decimal side ++ (codes "\ncycle " ++ (decimal (length lines) ++ (10 ∷ (numbered (λ i. cycle_line) 1 lines ++ rest)))))
no_regroup side lines rest =
    let all : List ℕ = flat_map cycle_line lines in
    let whole : cycle_text side lines ++ rest ≡ codes "side " ++ (decimal side ++ (codes "\ncycle " ++ (decimal (length lines) ++ (10 ∷ (all ++ rest))))) =
    ap (λ x. codes "side " ++ x) (append_assoc (decimal side) (codes "\ncycle " ++ (decimal (length lines) ++ (10 ∷ all))) rest ∙ ap (λ x. decimal side ++ (codes "\ncycle " ++ x)) (append_assoc (decimal (length lines)) (10 ∷ all) rest)) in
    whole ∙ ap (λ x. codes "side " ++ (decimal side ++ (codes "\ncycle " ++ (decimal (length lines) ++ (10 ∷ (x ++ rest)))))) (sym (numbered-flat_map cycle_line 1 lines))

-- a no that was read
pub record IsNo (sides : ℕ) (bytes : List ℕ) (claim : Claim) (rest : List ℕ) : Type 0 where
  pub side : ℕ
  pub lines : List Line
  pub is : claim ≡ no_claim side lines
  pub from : 1 ≤ side
  pub to : side ≤ sides
  pub few : Fits32 (length lines)
  pub each : AllByRecursion IsLine lines
  pub front : bytes ≡ cycle_text side lines ++ rest

pub no_takes : (sides : ℕ) (bytes : List ℕ) (claim : Claim) (rest : List ℕ) → sides < 2 ^ 64 → no_at sides bytes ≡ Some (claim, rest) → IsNo sides bytes claim rest
unfolding no_at
no_takes sides bytes claim rest few h =
    let a = after_word _ (codes "side ") bytes (claim, rest) h in
    let b = after_number _ sides a.0 (claim, rest) few a.2 in
    option_and_then_some _ (counted_at (codes "\ncycle ") line_at b.1) (claim, rest) b.4 (λ x f k.
    let t = counted_take (codes "\ncycle ") line_at (λ i. cycle_line) IsLine line_takes b.1 x.0 x.1 f in
    elim (chosen (eqb b.0 0) _ _ _ k) [
      | inl z ↦ absurd (none-some _ z.1)
      | inr z ↦
          let p = some_pair_parts (no_claim b.0 x.0) claim x.1 rest z.1 in
          record {
            side = b.0;
            lines = x.0;
            is = sym p.0;
            from = some_number b.0 z.0;
            to = b.2;
            few = t.few;
            each = t.each;
            front = a.1 ∙ ap (λ y. codes "side " ++ y) (b.3 ∙ ap (λ y. decimal b.0 ++ y) (t.front ∙ ap (λ y. codes "\ncycle " ++ (decimal (length x.0) ++ (10 ∷ (numbered (λ i. cycle_line) 1 x.0 ++ y)))) p.1)) ∙ sym (no_regroup b.0 x.0 rest);
          }
    ])

pub no_again : (sides side : ℕ) (lines : List Line) (rest : List ℕ) → sides < 2 ^ 64 → 1 ≤ side → side ≤ sides → Fits32 (length lines) → AllByRecursion IsLine lines
    → no_at sides (cycle_text side lines ++ rest) ≡ Some (no_claim side lines, rest)
unfolding no_at
no_again sides side lines rest few one l count each =
    let z : eqb side 0 ≡ false = ne_eqb side 0 (λ e. omega arith) in
    let cycle : List ℕ = codes "\ncycle " ++ (decimal (length lines) ++ (10 ∷ (numbered (λ i. cycle_line) 1 lines ++ rest))) in
    ap (no_at sides) (no_regroup side lines rest) ∙ at_word _ (codes "side ") (decimal side ++ cycle) ∙ at_number _ sides side cycle few l refl
    ∙ ap (option_and_then _) (counted_again (codes "\ncycle ") line_at (λ i. cycle_line) IsLine line_again lines rest count each) ∙ rw z refl
