use Rattle.std.proofs.Common.{◌≡◌, ◌-◌, ◌+◌, length}
use Rattle.std.specs.List.{zip}
use Rattle.text_parts.specs.Numbered.{numbered_at}
use Rattle.core_text.specs.Reading.{entry_at}
use Rattle.text_parts.proofs.LoopLaws.{before_items}
use Rattle.core_text.proofs.read.read_each_entry.Given as goal

abbrev pub invariant-entries : goal.invariant-entries
invariant-entries l = record {
  each : length l.orders ≡ length l.rows.items;
  read : before_items (zip l.rows.items l.orders) (numbered_at entry_at (l.counter + 1) (l.count - l.counter) l.rest) ≡ numbered_at entry_at 1 l.count l.bytes;
}
