use Rattle.others_kept.specs.Others.{KeepsOthers}
use Rattle.others_kept.proofs.each.keeps_others.Given as goal

abbrev pub invariant-loop-j : goal.invariant-loop-j
invariant-loop-j l = KeepsOthers l.m.rows l.rows l.i l.order l.j
