use Rattle.std.proofs.Common.{◌≡◌, ◌∙◌, true, false, eqb, length, Some, sym, ap}
use Rattle.core_text.proofs.CoreLaws.{parts_chain, zipped, at_end, before_end}
use Rattle.core_text.proofs.read.read_parts.Goals as goal

pub returns-then-not-is_empty : goal.returns-then-not-is_empty
returns-then-not-is_empty c =
    let more : eqb (length c.in_ok-rest.rest.now) 0 ≡ false = sym c.is_empty.ensures ∙ c.if-not-is_empty.true in
    parts_chain _ _ _ _ _ _ _ _ c.in_ok-entries.ensures.value c.in_ok-lines.ensures c.in_ok-rest.ensures ∙ before_end _ _ more

pub returns : goal.returns
returns c =
    let done : eqb (length c.in_ok-rest.rest.now) 0 ≡ true = sym c.is_empty.ensures ∙ c.if-not-is_empty.false in
    parts_chain _ _ _ _ _ _ _ _ c.in_ok-entries.ensures.value c.in_ok-lines.ensures c.in_ok-rest.ensures
    ∙ at_end _ _ done ∙ ap Some (zipped _ _ _ _ _ c.in_ok-entries.ensures.each)
