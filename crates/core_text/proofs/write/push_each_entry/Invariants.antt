use Rattle.std.proofs.Common.{◌≡◌, ◌++◌, take}
use Rattle.std.specs.Prelude.{flat_map}
use Rattle.core_text.specs.Texts.{entries, entry_text}
use Rattle.core_text.proofs.write.push_each_entry.Given as goal

abbrev pub invariant-loop-i : goal.invariant-loop-i
invariant-loop-i l = l.text.items ≡ l.initial.text.items ++ flat_map entry_text (take l.i (entries l.t.parts))
