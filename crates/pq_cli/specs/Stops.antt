-- What stands in the way of a reply, and of a run.
use Rattle.std.specs.Prelude.{ℕ, Result, Ok, Err}
use Rattle.pq_cli.specs.declared.stop.Stop.{Stop}
use Rattle.pq_cli.specs.declared.stop.Stop.TheVariants as stop
use Rattle.pq_cli.specs.declared.stop.Failure.{Failure}
use Rattle.pq_cli.specs.declared.stop.Failure.TheVariants as failure
use Rattle.verdict_replies.specs.declared.reply.Reply.{Reply}

-- the status of what stood in the way
abbrev pub stop_status : Stop → ℕ
stop_status (stop.Refused _ _) = 3
stop_status stop.ReadFault = 4
stop_status stop.NoMemory = 6

-- the status of a reply, or of what stood in its way
abbrev pub reply_status : Result Reply Stop → ℕ
reply_status (Ok reply) = reply.status
reply_status (Err s) = stop_status s

-- the status of the reading of a file: 0, or that of what stood in its way
abbrev pub read_status : {V : Type 0} → Result V Stop → ℕ
read_status (Ok _) = 0
read_status (Err s) = stop_status s

-- the status of a run that fails
abbrev pub failure_status : Failure → ℕ
failure_status failure.Words = 2
failure_status (failure.Stopped s) = stop_status s
failure_status failure.WriteFault = 5

-- the status of a run: that of its reply, or of its failure
abbrev pub run_status : Result ℕ Failure → ℕ
run_status (Ok status) = status
run_status (Err f) = failure_status f
