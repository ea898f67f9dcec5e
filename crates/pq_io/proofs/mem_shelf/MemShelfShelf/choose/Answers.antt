use Rattle.std.proofs.Common.{◌≡◌, false, is_none, ap, sym, rules}
use Rattle.file_io.specs.Faults.{one_more, is_to_fail}
use Rattle.pq_io.proofs.Files.{content_of-last, content_of-others, or_right, or_neither}
use Rattle.pq_io.proofs.mem_shelf.MemShelfShelf.choose.Goals as goal

pub returns-in_default-clause-fails : goal.returns-in_default-clause-fails
returns-in_default-clause-fails c =
    rw (← c.self.view_is, ← c.deref-2.ensures.value) (or_right _ _ (ap is_none (content_of-others c.deref-2.result.now c.args.name.now c.in_default.ensures.none)))

pub returns-clause-left : goal.returns-clause-left
returns-clause-left c =
    let found = c.in-Some.ensures.found in
    rw (← c.self.view_is, ← c.deref-2.ensures.value) (sym (content_of-last c.deref-2.result.now c.args.name.now c.in-Some.file found.0 found.1 c.in-Some.ensures.last))

pub returns-clause-fails : goal.returns-clause-fails
returns-clause-fails c =
    let found = c.in-Some.ensures.found in
    let on : is_to_fail c.self.inside.failing.items (one_more c.self.inside.calls) ≡ false = search rules in
    rw (← c.self.view_is, ← c.deref-2.ensures.value)
    (or_neither _ _ on (ap is_none (content_of-last c.deref-2.result.now c.args.name.now c.in-Some.file found.0 found.1 c.in-Some.ensures.last)))

pub returns-then-contains-clause-asked : goal.returns-then-contains-clause-asked
returns-then-contains-clause-asked c = rw (← c.self.view_is, ← c.as_bytes.ensures.value) c.ask.ensures

pub returns-in_default-clause-asked : goal.returns-in_default-clause-asked
returns-in_default-clause-asked c = rw (← c.self.view_is, ← c.as_bytes.ensures.value) c.ask.ensures

pub returns-clause-asked : goal.returns-clause-asked
returns-clause-asked c = rw (← c.self.view_is, ← c.as_bytes.ensures.value) c.ask.ensures
