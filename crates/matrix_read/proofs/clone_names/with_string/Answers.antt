use Rattle.std.proofs.Common.{◌∙◌, ◌∷◌, [], ℕ, List, Bor, Some, ap}
use Rattle.std.proofs.lemmas.List.{map-append}
use Rattle.matrix_read.specs.Names.{bytes_of}
use Rattle.matrix_read.proofs.clone_names.with_string.Goals as goal

pub returns-in_default : goal.returns-in_default
returns-in_default c = rw c.in_default.is

pub returns-in_default-string : goal.returns-in_default-string
returns-in_default-string c = rw (c.in-Some.is, c.in_default-string.is)

pub returns : goal.returns
returns c =
    rw (c.in-Some.is, c.in-Some-string.is)
    (ap (λ items. Some (bytes_of items)) c.in_ok-push.ensures.items ∙ ap Some (map-append (λ (name : Bor (List ℕ)). name.now) c.in-Some.list.items (c.in-Some-string.text ∷ [])))
