use Rattle.std.proofs.Common.{◌∙◌, sym, ap, arith}
use Rattle.std.proofs.lemmas.Option.{same_Some}
use Rattle.pq_tree.specs.Reading.{tree_of}
use Rattle.pq_tree.proofs.Again.{tree_of_proper}
use Rattle.pq_tree.proofs.parse.one_tree.Goals as goal

pub returns : goal.returns
returns c = λ n t u small h k e. same_Some t u (sym (tree_of_proper n t (omega arith) h) ∙ ap (tree_of n) e ∙ tree_of_proper n u (omega arith) k)
