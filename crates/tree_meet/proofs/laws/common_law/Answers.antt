use Rattle.tree_meet.proofs.Joint.{common_valid, either_first, universal_meet}
use Rattle.tree_meet.proofs.laws.common_law.Goals as goal

pub returns : goal.returns
returns c = record {
  rows = common_valid;
  either = either_first c.canonical_tree_law.ensures.one;
  universal = universal_meet c.canonical_form_law.ensures.shape;
}
