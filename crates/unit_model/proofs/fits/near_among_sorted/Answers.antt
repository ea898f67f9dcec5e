use Rattle.std.proofs.Common.{◌≡◌, ◌+◌, leb, ltb, arith, rules}
use Rattle.std.proofs.lemmas.List.Sorted.{IsPartitionPoint-from_clause, IsPartitionedBy-leb, IsPartitionedBy-ltb}
use Rattle.std.specs.List.{count_by}
use Rattle.unit_model.specs.Fitting.{is_near}
use Rattle.unit_model.proofs.NearCounts.{parted_count, near_split}
use Rattle.unit_model.proofs.fits.near_among_sorted.Goals as goal

-- those at most the greatest are those below the least and those that are near
parts : (c : goal.After-partition_point-to) → c.partition_point-to.result ≡ c.partition_point-before.result + count_by (is_near c.args.length c.args.left) c.args.sorted.now
parts c =
    let sorted = c.args.sorted.now in
    let least = c.saturating_sub-least.result in
    let most = c.saturating_add-most.result in
    let before = parted_count (λ y. ltb y least) sorted _ c.partition_point-before.ensures.bound
    (IsPartitionPoint-from_clause (λ y. ltb y least) _ _ c.partition_point-before.ensures.partitioned (IsPartitionedBy-ltb (λ y. y) _ least c.requires) (λ a r q k. search rules)) in
    let to = parted_count (λ y. leb y most) sorted _ c.partition_point-to.ensures.bound
    (IsPartitionPoint-from_clause (λ y. leb y most) _ _ c.partition_point-to.ensures.partitioned (IsPartitionedBy-leb (λ y. y) _ most c.requires) (λ a r q k. search rules)) in
    omega (arith, before, to, near_split c.args.left c.args.length least most c.saturating_sub-least.ensures c.saturating_add-most.ensures sorted (λ k l. (c.type_inv.sorted k).fits))

pub overflow_sub-result : goal.overflow_sub-result
overflow_sub-result c = omega (arith, parts c)

pub returns : goal.returns
returns c = omega (arith, parts c)
