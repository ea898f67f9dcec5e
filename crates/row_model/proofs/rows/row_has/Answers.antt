use Rattle.std.proofs.Common.{rules, ◌↔◌, IsTrue}
use Rattle.std.specs.List.{Contains}
use Rattle.row_model.proofs.Members.{is_has}
use Rattle.row_model.proofs.rows.row_has.Goals as goal

pub returns : goal.returns
returns c =
    let found : IsTrue c.is_ok.result ↔ Contains c.args.row.now c.args.column = search rules in
    is_has c.is_ok.result c.args.row.now c.args.column found
