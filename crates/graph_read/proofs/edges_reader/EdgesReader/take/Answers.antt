use Rattle.std.proofs.Common.{◌≡◌, ◌∙◌, ◌-◌, ◌++◌, ℕ, List, Bool, if◌then◌else◌, nat_lt, drop, length, ap, sym, refl, arith}
use Rattle.std.proofs.lemmas.Result.{IfOk-from_err}
use Rattle.row_model.specs.Rows.{RowList}
use Rattle.row_model.specs.declared.refusal.Read.{Read}
use Rattle.row_model.specs.declared.refusal.Read.TheVariants as read
use Rattle.row_model.specs.declared.code.TheConstants.{LIMIT}
use Rattle.text_lines.specs.Lines.{lines_of, unmarked_part}
use Rattle.graph_read.specs.Pieces.{lines_then}
use Rattle.graph_read.proofs.RoomLemmas.{room_same}
use Rattle.graph_read.proofs.edges_reader.EdgesReader.take.Goals as goal

pub returns-clause-lists : goal.returns-clause-lists
returns-clause-lists c rest =
    let self = c.args.self in
    let text = c.args.text.now in
    let len = c.in-Some.len in
    let cut = c.in-Some.ensures in
    let behind : List ℕ = drop len text ++ rest in
    let lines : lines_then c.in_ok-lines.lines (lines_of behind) ≡ lines_then self.lines (lines_of (unmarked_part self.is_begun (text ++ rest))) =
    c.in_ok-lines.ensures.lines (lines_of behind)
    ∙ ap (λ whole. lines_then self.lines (lines_of whole ++ lines_of behind)) c.unmarked_part-whole.ensures.text
    ∙ ap (lines_then self.lines) (sym (cut.lines self.is_begun rest)) in
    let room : nat_lt (self.room - len) (length behind) ≡ nat_lt self.room (length (text ++ rest)) =
    room_same self.room len text rest cut.within.1 (omega (arith, c.if-text-self.false)) in
    let too_long : Read RowList = read.Refused (record { code = LIMIT; line = 0 }) in
    ap (λ (long : Bool). if long then too_long else lines_then c.in_ok-lines.lines (lines_of behind)) room
    ∙ ap (λ (whole : Read RowList). if nat_lt self.room (length (text ++ rest)) then too_long else whole) lines

pub returns-then-text-self-clause-lists : goal.returns-then-text-self-clause-lists
returns-then-text-self-clause-lists c rest = refl

pub returns-in_err-lines : goal.returns-in_err-lines
returns-in_err-lines c = record { within = IfOk-from_err c.from_residual.result _ c.from_residual.ensures.0; lists = IfOk-from_err c.from_residual.result _ c.from_residual.ensures.0; whole = IfOk-from_err c.from_residual.result _ c.from_residual.ensures.0; heading = IfOk-from_err c.from_residual.result _ c.from_residual.ensures.0 }

pub returns-then-text-self-clause-heading : goal.returns-then-text-self-clause-heading
returns-then-text-self-clause-heading c = refl

pub returns-clause-heading : goal.returns-clause-heading
returns-clause-heading c = c.in_ok-lines.ensures.heading

pub returns-in_default-clause-heading : goal.returns-in_default-clause-heading
returns-in_default-clause-heading c = refl

pub returns-in_default-clause-lists : goal.returns-in_default-clause-lists
returns-in_default-clause-lists c rest = refl
