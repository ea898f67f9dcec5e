use Rattle.std.proofs.Common.{rules}
use Rattle.std.proofs.lemmas.List.Sorted.{IsNonDecreasingBy-from_sort_by_key}
use Rattle.order_list.proofs.Turned.{key, rise_sorted}
use Rattle.order_list.proofs.turn.sort_by_first.Goals as goal

pub returns-clause-rise : goal.returns-clause-rise
returns-clause-rise c = rise_sorted _ (IsNonDecreasingBy-from_sort_by_key key _ c.sort_unstable_by_key.ensures.sorted (λ a r q k. search rules))
