use Rattle.tree_theory.proofs.Uniform.{empty_exactly, full_exactly}
use Rattle.tree_theory.proofs.Steps.{p2_second, p4_one}
use Rattle.tree_theory.proofs.laws.template_law.Goals as goal

pub returns : goal.returns
returns c = record { empty_label = empty_exactly; full_label = full_exactly; full_children_of_p2 = p2_second; full_children_of_p4 = p4_one }
