use Rattle.pq_tree.proofs.Canonical.{canonical_P, least_P, outline_over_P}
use Rattle.pq_tree.proofs.arrange.arranged_p.Goals as goal

pub invariant_of-result : goal.invariant_of-result
invariant_of-result c =
    record {
      canonical = canonical_P c.in_ok-bare_trees.field-0 c.args.children.items c.in_ok-bare_trees.ensures c.requires;
      is_least = least_P c.in_ok-bare_trees.field-0 c.args.children.items _ c.in_ok-bare_trees.ensures (rw c.deref.ensures.value at c.least_of_all-least_column.ensures);
    }

pub returns : goal.returns
returns c = outline_over_P c.in_ok-bare_trees.field-0 c.args.children.items c.in_ok-bare_trees.ensures
