use Rattle.std.proofs.Common.{Some, None, subst}
use Rattle.verdict_judge.specs.Found.{Finds}
use Rattle.verdict_judge.specs.Core.{PassesCore, core_tests}
use Rattle.verdict_judge.proofs.First.{said_valid, said_invalid}
use Rattle.verdict_judge.proofs.CoreTests.{core_words}
use Rattle.verdict_judge.proofs.core_check.check_core.Goals as goal

pub returns-in-None-clause-invalid : goal.returns-in-None-clause-invalid
returns-in-None-clause-invalid c =
    let P = PassesCore c.args.m.now c.args.kind c.args.t.now in
    let xs = core_tests c.args.t.now in
    said_invalid core_words P xs None (subst (Finds P xs) c.in-None.is c.in_ok-core_fault.ensures)

pub returns-in-Some-clause-valid : goal.returns-in-Some-clause-valid
returns-in-Some-clause-valid c =
    let P = PassesCore c.args.m.now c.args.kind c.args.t.now in
    let xs = core_tests c.args.t.now in
    said_valid core_words P xs (Some c.in-Some.reason) (subst (Finds P xs) c.in-Some.is c.in_ok-core_fault.ensures)

pub returns-in-Some-clause-invalid : goal.returns-in-Some-clause-invalid
returns-in-Some-clause-invalid c =
    let P = PassesCore c.args.m.now c.args.kind c.args.t.now in
    let xs = core_tests c.args.t.now in
    said_invalid core_words P xs (Some c.in-Some.reason) (subst (Finds P xs) c.in-Some.is c.in_ok-core_fault.ensures)
