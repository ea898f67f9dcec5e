use Rattle.std.proofs.Common.{◌≤◌, length, refl, arith}
use Rattle.instance_model.specs.Instance.{instance_columns}
use Rattle.solve_replies.specs.Steps.{side_search_steps}
use Rattle.file_steps.specs.Sizes.{most_search}
use Rattle.file_steps.proofs.Bounds.{taking_size, search_within}
use Rattle.file_steps.proofs.file_steps_law.Goals as goal

pub returns-clause-yes : goal.returns-clause-yes
returns-clause-yes c kind file bytes i s n made steps =
    omega (arith, (steps i made).yes refl, taking_size i (length (instance_columns i)), (c.file_size_law.ensures kind bytes i made).size)

pub returns-clause-most : goal.returns-clause-most
returns-clause-most c kind file bytes i status s n made steps =
    let sizes = c.file_size_law.ensures kind bytes i made in
    let solved = steps i made in
    let few = c.derived_sizes_law.ensures.columns i solved.side (c.instance_law.ensures kind bytes i made).within solved.is_side in
    let search : side_search_steps i solved.side ≤ most_search i (length bytes) = search_within i (length bytes) solved.side few (sizes.ones solved.side solved.is_side) in
    omega (arith, solved.most, search, taking_size i (length (instance_columns i)), sizes.size)
