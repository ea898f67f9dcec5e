use Rattle.std.proofs.Common.{◌≡◌, ◌∙◌, ◌∷◌, [], ap, sym}
use Rattle.text_lines.specs.Words.{words_of, numeral_of}
use Rattle.graph_read.specs.Numbers.{two_numbers, both_numbers}
use Rattle.graph_read.proofs.numbers.two_numbers.Goals as goal

pub returns-in_default : goal.returns-in_default
returns-in_default c = sym (ap two_numbers c.in_default.ensures.nothing)

pub returns-in_default-next_number : goal.returns-in_default-next_number
returns-in_default-next_number c =
    let a = c.in-Some.ensures.first in
    sym (ap two_numbers (a.is ∙ ap (λ later. a.word ∷ later) c.in_default-next_number.ensures.nothing))

pub returns-in-Some-next_number-2 : goal.returns-in-Some-next_number-2
returns-in-Some-next_number-2 c =
    let a = c.in-Some.ensures.first in
    let b = c.in-Some-next_number.ensures.first in
    sym (ap two_numbers (a.is ∙ ap (λ later. a.word ∷ later) (b.is ∙ ap (λ later. b.word ∷ later) c.in-Some-next_number-2.ensures.first.is)))

pub returns-in-None : goal.returns-in-None
returns-in-None c =
    let a = c.in-Some.ensures.first in
    let b = c.in-Some-next_number.ensures.first in
    let words : words_of c.args.line.now ≡ a.word ∷ b.word ∷ [] =
    a.is ∙ ap (λ later. a.word ∷ later) (b.is ∙ ap (λ later. b.word ∷ later) c.in-None.ensures.nothing) in
    c.both_numbers.ensures ∙ ap (λ n. both_numbers n c.in-Some-next_number.b.number) a.writes ∙ ap (both_numbers (numeral_of a.word)) b.writes ∙ sym (ap two_numbers words)
