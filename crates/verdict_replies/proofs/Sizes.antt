-- The sides of an instance count from 1.
use Rattle.std.proofs.Common.{arith}
use Rattle.instance_model.specs.Instance.{InstanceValue, IsSideOf}

-- each instance has a first side
pub first_side : (i : InstanceValue) → IsSideOf i 1
first_side i = grind arith
