use Rattle.std.proofs.Common.{◌≡◌, [], ◌∷◌, take, get_or, ap, arith}
use Rattle.std.proofs.lemmas.List.{take_more}
use Rattle.row_model.specs.declared.graph.Line.{Line}
use Rattle.row_model.specs.declared.graph.Why.TheVariants.{Flip}
use Rattle.odd_cycle.specs.Short.{flips}
use Rattle.odd_cycle.proofs.ShortLaws.{flips-append, no_flip_of}
use Rattle.odd_cycle.proofs.CycleLength.{blank}
use Rattle.odd_cycle.proofs.folded.has_flip.Goals as goal

pub loop-line-preserved : goal.loop-line-preserved
loop-line-preserved c =
    let lines = c.args.lines.now in
    let i = c.loop-line.line-index in
    let line : Line = get_or lines i blank in
    let row : line.why ≡ Flip → ⊥ = λ e. absurd (cc (c.if-is_flip.false, c.is_flip.ensures.1 e)) in
    omega (arith, ap flips (take_more lines i blank c.loop-line-test.true), flips-append (take i lines) (line ∷ []), c.loop-line.invariant, no_flip_of line.why row)
