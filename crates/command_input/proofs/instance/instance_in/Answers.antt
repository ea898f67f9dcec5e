use Rattle.std.proofs.lemmas.Result.{IfOk-weaker}
use Rattle.command_input.specs.Instances.{ReadsInstance, HoldsInstance}
use Rattle.command_input.proofs.Reading.{if_read}
use Rattle.command_input.proofs.instance.instance_in.Goals as goal

pub returns-clause-within : goal.returns-clause-within
returns-clause-within c =
    IfOk-weaker c.parsed.result (ReadsInstance c.args.kind c.args.bytes.now) (HoldsInstance c.args.kind) (λ made e. if_read c.instance_law.ensures c.args.kind c.args.bytes.now made e) c.parsed.ensures
