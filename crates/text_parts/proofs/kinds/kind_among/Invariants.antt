use Rattle.std.proofs.Common.{◌≡◌, drop}
use Rattle.text_parts.specs.Reading.{kind_from}
use Rattle.text_parts.proofs.kinds.kind_among.Given as goal

abbrev pub invariant-loop-kind : goal.invariant-loop-kind
invariant-loop-kind l = kind_from (drop l.kind-index l.kinds) l.bytes ≡ kind_from l.kinds l.bytes
