use Rattle.std.proofs.Common.{◌≡◌, ◌∙◌, ◌∷◌, [], ap, sym}
use Rattle.text_lines.specs.Words.{words_of}
use Rattle.graph_read.specs.Numbers.{one_number, if_number}
use Rattle.graph_read.proofs.numbers.one_number.Goals as goal

pub returns-in_default : goal.returns-in_default
returns-in_default c = sym (ap one_number c.in_default.ensures.nothing)

pub returns-in-Some-next_number : goal.returns-in-Some-next_number
returns-in-Some-next_number c =
    let a = c.in-Some.ensures.first in
    sym (ap one_number (a.is ∙ ap (λ later. a.word ∷ later) c.in-Some-next_number.ensures.first.is))

pub returns-in-None : goal.returns-in-None
returns-in-None c =
    let a = c.in-Some.ensures.first in
    let words : words_of c.args.line.now ≡ a.word ∷ [] = a.is ∙ ap (λ later. a.word ∷ later) c.in-None.ensures.nothing in
    c.if_number.ensures ∙ ap if_number a.writes ∙ sym (ap one_number words)
