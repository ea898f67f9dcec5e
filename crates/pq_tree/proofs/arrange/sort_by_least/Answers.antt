use Rattle.std.proofs.Common.{rules}
use Rattle.std.proofs.lemmas.List.Sorted.{IsNonDecreasingBy-from_sort_by_key}
use Rattle.pq_tree.proofs.Canonical.{key, rising}
use Rattle.pq_tree.proofs.arrange.sort_by_least.Goals as goal

pub returns-clause-rising : goal.returns-clause-rising
returns-clause-rising c =
    rising _ (IsNonDecreasingBy-from_sort_by_key key _ c.sort_unstable_by_key.ensures.sorted (λ a r q k. search rules))
