use Rattle.instance_model.proofs.Sizes.{few_columns, few_rows}
use Rattle.instance_model.proofs.laws.derived_sizes_law.Goals as goal

pub returns : goal.returns
returns c = record { columns = few_columns; rows = few_rows c.closed_rows_law.ensures.count c.balls_law.ensures.few }
