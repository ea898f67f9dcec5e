use Rattle.std.proofs.Common.{refl}
use Rattle.verdict_text.specs.Reading.{version_at}
use Rattle.verdict_text.proofs.read.head.read_version.Goals as goal

pub returns-in_ok-rest-in-None : goal.returns-in_ok-rest-in-None
unfolding version_at
returns-in_ok-rest-in-None c =
    let none = rw c.line_of.ensures at c.in-None.ensures.value in
    let some = rw c.line_of-in-None.ensures at c.in_ok-rest-in-None.ensures in
    rw (← none, some) refl
