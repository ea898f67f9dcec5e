use Rattle.std.proofs.Common.{◌≡◌, ◌+◌, ◌-◌, length, arith, sym, ◌∙◌}
use Rattle.text_lines.proofs.LineLemmas.{length_return_none, length_return_empty}
use Rattle.text_lines.proofs.lines.len_without_return.Goals.{else-len-gt0-via-then-len-gt0+else-line-len-eq13, else-len-gt0-via-else-len-gt0}
use Rattle.text_lines.proofs.lines.len_without_return.Goals as goal

pub returns-else-len-gt0-clause-line : goal.returns-else-len-gt0-clause-line
returns-else-len-gt0-clause-line c =
    let line = c.args.line.now in
    elim c.else-len-gt0.branch [
      | else-len-gt0-via-then-len-gt0+else-line-len-eq13 w ↦
          let last : length line ≡ length line - 1 + 1 = omega (arith, w.if-len-gt0.true) in
          last ∙ sym (length_return_none line (length line - 1) last w.if-line-len-eq13.false)
      | else-len-gt0-via-else-len-gt0 w ↦
          let empty : length line ≡ 0 = omega (arith, w.if-len-gt0.false) in
          empty ∙ sym (length_return_empty line empty)
    ]
