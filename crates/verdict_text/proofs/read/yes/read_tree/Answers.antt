use Rattle.std.proofs.Common.{◌≡◌, ◌≢◌, ◌∙◌, ◌-◌, take, drop, length, sym, ap, arith, Some}
use Rattle.std.proofs.lemmas.Grind.{common_steps}
use Rattle.pq_tree.specs.Outline.{Outline}
use Rattle.pq_tree.specs.Text.{tree_text}
use Rattle.pq_tree.specs.Proper.{IsProper}
use Rattle.pq_tree.specs.PqTree.{outline, column_count}
use Rattle.verdict_text.specs.Reading.{line_len}
use Rattle.verdict_text.proofs.TreeLaws.{tree_read, tree_unread}
use Rattle.verdict_text.proofs.read.yes.read_tree.Goals as goal

pub returns-in-None : goal.returns-in-None
returns-in-None c =
    let none : (t : Outline) → IsProper c.args.c t → take (line_len c.args.bytes.now) c.args.bytes.now ≢ tree_text t =
    rw c.line_length-end.ensures.count at (rw c.in-None.is at c.in_ok-parse.ensures.none) in
    tree_unread c.args.c c.args.bytes.now c.requires.1 none

pub returns-in-Some : goal.returns-in-Some
returns-in-Some c =
    let found : take c.line_length-end.result c.args.bytes.now ≡ tree_text (outline c.in-Some.tree) = rw c.in-Some.is at c.in_ok-parse.ensures.found in
    let columns : column_count c.in-Some.tree ≡ c.args.c = rw c.in-Some.is at c.in_ok-parse.ensures.columns in
    let bytes = c.args.bytes.now in
    let end = c.line_length-end.result in
    let rest : take (length bytes - end) (drop end bytes) ≡ drop end bytes = grind (arith, common_steps) in
    tree_read c.args.c c.in-Some.tree bytes c.requires.1 columns (rw (← c.line_length-end.ensures.count) found)
    ∙ ap (λ x. Some (outline c.in-Some.tree, x)) (ap (λ k. drop k bytes) (sym c.line_length-end.ensures.count) ∙ sym rest)
