use Rattle.std.proofs.Common.{◌≡◌, map, take}
use Rattle.command_input.specs.Words.{texts}
use Rattle.memory_run.proofs.words.owned.Given as goal

abbrev pub invariant-loop-part : goal.invariant-loop-part
invariant-loop-part l = texts l.words.items ≡ map (λ part. part.now) (take l.part-index l.parts)
