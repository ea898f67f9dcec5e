use Rattle.core_size.proofs.Narrowed.{reduced_narrows}
use Rattle.core_size.proofs.narrows_law.Goals as goal

pub returns : goal.returns
returns c = reduced_narrows c.template_law.ensures.full_children_of_p2 c.template_law.ensures.full_children_of_p4
