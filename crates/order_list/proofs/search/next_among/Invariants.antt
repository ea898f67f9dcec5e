use Rattle.order_list.specs.Coming.{outlines}
use Rattle.order_list.specs.Next.{IsNextAmong}
use Rattle.order_list.proofs.search.next_among.Given as goal

abbrev pub invariant-loop-place : goal.invariant-loop-place
invariant-loop-place l = IsNextAmong (outlines l.trees) l.place l.from l.next
