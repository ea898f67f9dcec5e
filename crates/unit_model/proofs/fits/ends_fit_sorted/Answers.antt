use Rattle.std.proofs.Common.{ℕ, List, subst}
use Rattle.std.proofs.lemmas.List.Sorted.{IsNonDecreasingBy-from_sort}
use Rattle.std.specs.List.Sorted.{IsPermutation}
use Rattle.unit_model.proofs.fits.ends_fit_sorted.Goals as goal

pub ends_fit-requires-clause-sorted : goal.ends_fit-requires-clause-sorted
ends_fit-requires-clause-sorted c = (
  IsNonDecreasingBy-from_sort (λ x. x) c.sort_unstable.new.self c.sort_unstable.ensures.sorted,
  subst (λ (xs : List ℕ). IsPermutation xs c.sort_unstable.new.self) c.copy_from_slice.ensures.after c.sort_unstable.ensures.permutation,
)
