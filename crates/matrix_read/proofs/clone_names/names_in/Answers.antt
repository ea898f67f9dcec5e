use Rattle.std.proofs.Common.{◌≡◌, [], Some, option_map, sym, ap, ◌∙◌, arith}
use Rattle.json.specs.Lex.{tokens}
use Rattle.json.specs.Json.{parse_map, value}
use Rattle.serde_json.specs.Read.{read}
use Rattle.matrix_read.specs.JsonSteps.{value_at}
use Rattle.matrix_read.specs.CloneNames.{file_names, file_view}
use Rattle.matrix_read.proofs.CloneLemmas.{reading_some, reading_none}
use Rattle.matrix_read.proofs.FileLemmas.{mapped_some, whole_read}
use Rattle.matrix_read.proofs.clone_names.names_in.Goals as goal

pub returns-in_default : goal.returns-in_default
returns-in_default c = ap (option_map file_names) (reading_none c.args.text.now (λ utf8. absurd (c.in_default.ensures.cases.0 utf8)))

pub returns : goal.returns
returns c =
    let text = c.args.text.now in
    let view = file_view c.in-Ok-read_file.field-0 in
    let reader : c.in_ok-reader.reader ≡ tokens text = c.in_ok-reader.ensures.ok ∙ ap tokens c.in-Ok.ensures.cases.0 in
    let over : c.read_file.new.reader ≡ [] = grind arith in
    let named : parse_map file_names (value_at 127 (tokens text)) ≡ Some (view, []) =
    ap (λ ts. parse_map file_names (value_at 127 ts)) (sym reader) ∙ c.in-Ok-read_file.ensures.ok ∙ ap (λ ts. Some (view, ts)) over in
    let m = mapped_some file_names (value_at 127 (tokens text)) view [] named in
    let is : read text ≡ Some m.0 = whole_read (value 127 (tokens text)) m.0 m.1 in
    ap Some (sym m.2) ∙ ap (option_map file_names) (reading_some text m.0 c.in-Ok.ensures.cases.1 is)
