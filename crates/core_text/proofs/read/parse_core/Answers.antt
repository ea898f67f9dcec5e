use Rattle.std.proofs.Common.{◌≡◌, ◌∙◌, None, sym, ap}
use Rattle.std.proofs.lemmas.Option.{none-some}
use Rattle.core_text.specs.Reading.{core_of}
use Rattle.core_text.proofs.CoreLaws.{core_takes, core_again}
use Rattle.core_text.proofs.read.parse_core.Goals as goal

pub returns-in-Ok-clause-within : goal.returns-in-Ok-clause-within
returns-in-Ok-clause-within c = (core_takes c.args.bytes.now _ c.in-Ok.ensures).0

pub returns-in-Ok-clause-found : goal.returns-in-Ok-clause-found
returns-in-Ok-clause-found c = (core_takes c.args.bytes.now _ c.in-Ok.ensures).1

pub returns-in-Err-Outside-clause-none : goal.returns-in-Err-Outside-clause-none
returns-in-Err-Outside-clause-none c = λ t h e.
    let none : core_of c.args.bytes.now ≡ None = rw c.in-Err-Outside.field-0-is at c.in-Err-Outside.ensures in
    none-some t (sym none ∙ ap core_of e ∙ core_again t h)
