use Rattle.std.proofs.Common.{◌≡◌, ◌∙◌, sym, ap, arith, rules, get_or, Some, None}
use Rattle.std.proofs.lemmas.Grind.{common_steps}
use Rattle.plain_text.specs.Words.{word_at}
use Rattle.row_model.specs.declared.kind.Kind.{Kind}
use Rattle.row_model.specs.declared.kind.Kind.TheVariants.{Matrix}
use Rattle.text_parts.specs.Text.{kind_word}
use Rattle.text_parts.proofs.KindLaws.{kind_found, kind_passed}
use Rattle.text_parts.proofs.kinds.kind_among.Goals as goal

pub returns-in-Some : goal.returns-in-Some
returns-in-Some c =
    let kind : Kind = get_or c.args.kinds.now c.loop-kind.kind-index Matrix in
    let same : kind ≡ get_or c.args.kinds.now c.loop-kind.kind-index kind = grind (arith, common_steps) in
    let word : word_at (kind_word kind) c.args.bytes.now ≡ Some c.in-Some.rest.now = ap (λ w. word_at w c.args.bytes.now) (sym c.word_of.ensures) ∙ sym c.in-Some.ensures.value in
    kind_found _ _ kind _ _ _ c.loop-kind-test.true same c.loop-kind.invariant word

pub loop-kind-preserved : goal.loop-kind-preserved
loop-kind-preserved c =
    let kind : Kind = get_or c.args.kinds.now c.loop-kind.kind-index Matrix in
    let same : kind ≡ get_or c.args.kinds.now c.loop-kind.kind-index kind = grind (arith, common_steps) in
    let word : word_at (kind_word kind) c.args.bytes.now ≡ None = ap (λ w. word_at w c.args.bytes.now) (sym c.word_of.ensures) ∙ search rules in
    kind_passed _ _ kind _ _ c.loop-kind-test.true same c.loop-kind.invariant word
