use Rattle.std.proofs.Common.{◌≡◌, ◌∙◌, ◌+◌, ◌-◌, min, length, drop, take, List, ℕ, ap, refl, arith}
use Rattle.text_lines.specs.Lines.{line_len, first_line, without_return}
use Rattle.text_lines.proofs.LineLemmas.{line_text, lines_step}
use Rattle.text_lines.proofs.lines.line_from.Goals.{then-stop-bytes, else-stop-bytes}
use Rattle.text_lines.proofs.lines.line_from.Goals as goal

pub returns-clause-line : goal.returns-clause-line
returns-clause-line c =
    let text = c.args.bytes.now in
    let at = c.args.at in
    let stop = c.line_end-stop.result in
    let line : take (stop - at) (drop at text) ≡ first_line (drop at text) = ap (λ n. take n (drop at text)) (omega (arith, c.line_end-stop.ensures.place)) in
    line_text text at (at + c.len_without_return.result) (ap (λ n. at + n) (c.len_without_return.ensures.line ∙ ap (λ l. length (without_return l)) line))

pub returns-clause-lines : goal.returns-clause-lines
returns-clause-lines c =
    let text = c.args.bytes.now in
    let at = c.args.at in
    let rest : List ℕ = drop at text in
    let stop = c.line_end-stop.result in
    let line : take (stop - at) rest ≡ first_line rest = ap (λ n. take n rest) (omega (arith, c.line_end-stop.ensures.place)) in
    let end : at + c.len_without_return.result ≡ at + length (without_return (first_line rest)) = ap (λ n. at + n) (c.len_without_return.ensures.line ∙ ap (λ l. length (without_return l)) line) in
    let next : c.if-stop-bytes.next ≡ min (at + line_len rest + 1) (length text) =
    elim c.if-stop-bytes.branch [
      | then-stop-bytes w ↦ omega (arith, w.next-is, w.if-stop-bytes, c.line_end-stop.ensures.place)
      | else-stop-bytes w ↦ omega (arith, w.next-is, w.if-stop-bytes, c.line_end-stop.ensures.place)
    ] in
    lines_step text at at (at + c.len_without_return.result) c.if-stop-bytes.next (omega arith) (λ e. absurd (omega arith)) refl end next
