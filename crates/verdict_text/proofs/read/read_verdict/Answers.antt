use Rattle.std.proofs.Common.{refl}
use Rattle.verdict_text.specs.Reading.{verdict_of}
use Rattle.verdict_text.proofs.read.read_verdict.Goals as goal

pub returns : goal.returns
unfolding verdict_of
returns c = rw (c.in_ok-version.ensures.value, c.in_ok-part.ensures, c.in_ok-rest.ensures, ← c.if-not-is_empty.ensures) refl

pub returns-then-not-is_empty : goal.returns-then-not-is_empty
unfolding verdict_of
returns-then-not-is_empty c = rw (c.in_ok-version.ensures.value, c.in_ok-part.ensures, c.in_ok-rest.ensures, ← c.if-not-is_empty.ensures) refl
