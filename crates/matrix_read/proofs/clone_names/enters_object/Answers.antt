use Rattle.std.proofs.Common.{sym}
use Rattle.json.specs.Reads.{token_of}
use Rattle.matrix_read.proofs.FrontLemmas.{no_token, begins_object, passed_value}
use Rattle.matrix_read.proofs.clone_names.enters_object.Goals as goal

pub returns-clause-passed : goal.returns-clause-passed
returns-clause-passed c held =
    let x = passed_value c.args.depth c.args.reader.now (token_of c.in-Some.token) c.next.new.self c.in-Some.ensures.value c.pass_value.new.reader c.in_ok-pass_value.ensures.value in
    record { value = x.0; is = x.1; members = x.2.members (sym c.if-opens_object.ensures) }

pub returns-in_default-clause-err : goal.returns-in_default-clause-err
returns-in_default-clause-err c = no_token c.args.depth c.args.reader.now c.in_default.ensures.value.0

pub returns-then-opens_object-clause-entered : goal.returns-then-opens_object-clause-entered
returns-then-opens_object-clause-entered c held =
    begins_object c.args.depth c.args.reader.now (token_of c.in-Some.token) c.next.new.self c.in-Some.ensures.value c.requires (sym c.if-opens_object.ensures)
