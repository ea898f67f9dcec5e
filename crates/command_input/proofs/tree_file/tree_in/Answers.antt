use Rattle.std.proofs.Common.{◌≡◌, ◌∙◌, ◌≢◌, sym, ap, arith}
use Rattle.pq_tree.specs.Outline.{Outline}
use Rattle.pq_tree.specs.Proper.{IsProper}
use Rattle.pq_tree.specs.Text.{tree_text}
use Rattle.pq_tree.specs.PqTree.{column_count, outline}
use Rattle.text_lines.specs.Lines.{without_mark}
use Rattle.command_input.specs.TreeFiles.{without_end}
use Rattle.command_input.proofs.Files.{parsed_tree, parsed_none}
use Rattle.command_input.proofs.tree_file.tree_in.Goals as goal

pub returns-in-Some-clause-value : goal.returns-in-Some-clause-value
returns-in-Some-clause-value c short =
    let text : c.without_end.result.now ≡ without_end (without_mark c.args.bytes.now) = c.without_end.ensures ∙ ap without_end c.without_mark.ensures.text in
    let found : c.without_end.result.now ≡ tree_text (outline c.in-Some.tree) = rw c.in-Some.is at c.in_ok-tree.ensures.found in
    let columns : column_count c.in-Some.tree ≡ c.args.c = rw c.in-Some.is at c.in_ok-tree.ensures.columns in
    parsed_tree c.args.c c.args.bytes.now c.in-Some.tree c.requires.0 (omega (arith, c.requires.1)) columns (sym text ∙ found) short

pub returns-in-None-clause-value : goal.returns-in-None-clause-value
returns-in-None-clause-value c short =
    let text : c.without_end.result.now ≡ without_end (without_mark c.args.bytes.now) = c.without_end.ensures ∙ ap without_end c.without_mark.ensures.text in
    let none : (t : Outline) → IsProper c.args.c t → c.without_end.result.now ≢ tree_text t = rw c.in-None.is at c.in_ok-tree.ensures.none in
    parsed_none c.args.c c.args.bytes.now (omega (arith, c.requires.1)) (λ t p e. none t p (text ∙ e)) short
