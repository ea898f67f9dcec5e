use Rattle.std.proofs.Common.{◌≡◌, map, length, subst, ap, arith, rules}
use Rattle.std.proofs.lemmas.List.FromFn.{length-map-range_with_len}
use Rattle.std.proofs.lemmas.List.Sorted.{IsNonDecreasingBy-from_sort_by_key, IsPermutation-trans}
use Rattle.std.specs.List.{range_with_len}
use Rattle.std.specs.List.Sorted.{IsPermutation}
use Rattle.robinson_balls.specs.declared.neighbours.Neighbour.{Neighbour}
use Rattle.robinson_balls.specs.Neighbours.{neighbour}
use Rattle.robinson_balls.proofs.Rims.{neighbours_more, exchanged}
use Rattle.robinson_balls.proofs.neighbours.list_neighbours.Goals as goal

pub loop-before-preserved : goal.loop-before-preserved
loop-before-preserved c =
    neighbours_more c.args.d.now c.args.x c.loop-before.before _ _ c.loop-before.invariant c.in_ok-push.ensures.items c.at.ensures

pub swap-requires-clause-i_in_bounds : goal.swap-requires-clause-i_in_bounds
swap-requires-clause-i_in_bounds c =
    omega (arith, ap length c.loop-before.invariant, length-map-range_with_len (neighbour c.args.d.now c.args.x) 1 c.loop-before.before, c.requires)

pub swap-requires-clause-j_in_bounds : goal.swap-requires-clause-j_in_bounds
swap-requires-clause-j_in_bounds c =
    omega (arith, ap length c.loop-before.invariant, length-map-range_with_len (neighbour c.args.d.now c.args.x) 1 c.loop-before.before, c.requires)

pub returns : goal.returns
returns c =
    let d = c.args.d.now in
    let n = c.loop-before.before in
    let end : n ≡ d.items = omega arith in
    let sorted = c.sort_unstable_by_key.new.self.items in
    let moved : IsPermutation (map (neighbour d c.args.x) (range_with_len 1 n)) c.swap.new.self.items =
    exchanged d c.args.x n c.loop-before.neighbours.items c.swap.new.self.items c.requires.0 (omega (arith, c.requires.1, end)) c.loop-before.invariant c.swap.ensures.items in
    let every : IsPermutation (map (neighbour d c.args.x) (range_with_len 1 n)) sorted =
    IsPermutation-trans (map (neighbour d c.args.x) (range_with_len 1 n)) c.swap.new.self.items sorted moved c.sort_unstable_by_key.ensures.permutation in
    record {
      every = subst (λ m. IsPermutation (map (neighbour d c.args.x) (range_with_len 1 m)) sorted) end every;
      rising = IsNonDecreasingBy-from_sort_by_key (λ (p : Neighbour). p.distance) _ c.sort_unstable_by_key.ensures.sorted (λ a r q k. search rules);
    }
