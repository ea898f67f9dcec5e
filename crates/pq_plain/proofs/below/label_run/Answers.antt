use Rattle.std.proofs.Common.{map, rules, arith}
use Rattle.tree_theory.specs.Labels.{partials}
use Rattle.pq_plain.specs.Seen.{label_seen}
use Rattle.pq_plain.proofs.Cutting.{run_label_is}
use Rattle.pq_plain.proofs.QLabels.{no_halves, q_empty, q_plain, q_cut, last_of_few}
use Rattle.pq_plain.proofs.below.label_run.Goals as goal

pub returns-in-None-2 : goal.returns-in-None-2
returns-in-None-2 c =
    let none = no_halves c.in_ok-partials.partials.items _ (omega (arith, c.in-None-2.ensures.cases.0)) c.in_ok-partials.ensures in
    run_label_is _ _ _ _ (q_empty _ c.args.empty.items c.args.full.items none (search rules) (search rules))

pub returns-in-None-3 : goal.returns-in-None-3
returns-in-None-3 c =
    let none = no_halves c.in_ok-partials.partials.items _ (omega (arith, c.in-None-3.ensures.cases.0)) c.in_ok-partials.ensures in
    run_label_is _ _ _ _ (q_plain _ c.args.empty.items c.args.full.items none (search rules) (search rules))

pub returns-in_ok-halves-in-Some : goal.returns-in_ok-halves-in-Some
returns-in_ok-halves-in-Some c =
    run_label_is _ _ _ _ (q_cut _ _ _ _ _ (last_of_few _ c.in_ok-partials.partials.items c.in-Some.partial (partials (map label_seen c.args.labels.items)) c.in-Some.ensures.items c.in_ok-partials.ensures c.requires) c.in_ok-halves-in-Some.ensures)
