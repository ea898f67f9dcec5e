use Rattle.std.proofs.Common.{◌≡◌, ◌-◌, suc, arith, sym, ◌∙◌, true, false, get_or}
use Rattle.text_lines.specs.Lines.{is_blank_byte}
use Rattle.matrix_read.proofs.TableLemmas.{kept_before, dropped_before}
use Rattle.matrix_read.proofs.cells.without_last_blanks.Goals as goal

pub returns-then-not-is_blank_byte : goal.returns-then-not-is_blank_byte
returns-then-not-is_blank_byte c =
    let bytes = c.args.bytes.now in
    let end = c.loop-end.end in
    let before : end ≡ suc (end - 1) = omega arith in
    let filled : is_blank_byte (get_or bytes (end - 1) 0) ≡ false = sym c.is_blank_byte.ensures ∙ c.if-not-is_blank_byte.true in
    sym (kept_before bytes end (end - 1) before c.loop-end.invariant.within filled) ∙ c.loop-end.invariant.so_far

pub loop-end-preserved : goal.loop-end-preserved
loop-end-preserved c =
    let bytes = c.args.bytes.now in
    let end = c.loop-end.end in
    let before : end ≡ suc (end - 1) = omega arith in
    let blank : is_blank_byte (get_or bytes (end - 1) 0) ≡ true = sym c.is_blank_byte.ensures ∙ c.if-not-is_blank_byte.false in
    record { within = omega arith; so_far = sym (dropped_before bytes end (end - 1) before c.loop-end.invariant.within blank) ∙ c.loop-end.invariant.so_far }
