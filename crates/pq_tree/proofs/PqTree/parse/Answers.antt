use Rattle.std.proofs.Common.{◌≡◌, ◌∙◌, Some, None, option_map, sym, ap, arith}
use Rattle.std.proofs.lemmas.Option.{none-some}
use Rattle.pq_tree.specs.Proper.{outline_of}
use Rattle.pq_tree.specs.Reading.{tree_of}
use Rattle.pq_tree.specs.Text.{tree_text}
use Rattle.pq_tree.proofs.Found.{IsFound, tree_of_found}
use Rattle.pq_tree.proofs.Again.{tree_of_proper}
use Rattle.pq_tree.proofs.PqTree.parse.Goals as goal

pub from_tree-requires : goal.from_tree-requires
from_tree-requires c =
    let read : tree_of c.args.c c.args.bytes.now ≡ Some (outline_of c.in-Some.tree) = sym c.in_ok-tree_of.ensures ∙ ap (option_map outline_of) c.in-Some.is in
    let f : IsFound c.args.c (outline_of c.in-Some.tree) c.args.bytes.now = tree_of_found c.args.c c.args.bytes.now (outline_of c.in-Some.tree) (omega arith) read in
    f.proper

pub returns-in-Some-clause-found : goal.returns-in-Some-clause-found
returns-in-Some-clause-found c =
    let read : tree_of c.args.c c.args.bytes.now ≡ Some (outline_of c.in-Some.tree) = sym c.in_ok-tree_of.ensures ∙ ap (option_map outline_of) c.in-Some.is in
    let f : IsFound c.args.c (outline_of c.in-Some.tree) c.args.bytes.now = tree_of_found c.args.c c.args.bytes.now (outline_of c.in-Some.tree) (omega arith) read in
    sym f.text ∙ ap tree_text (sym c.from_tree.ensures.tree)

pub returns-in-None-clause-none : goal.returns-in-None-clause-none
returns-in-None-clause-none c = λ t proper text.
    let read : None ≡ tree_of c.args.c c.args.bytes.now = ap (option_map outline_of) (sym c.in-None.is) ∙ c.in_ok-tree_of.ensures in
    none-some t (read ∙ ap (tree_of c.args.c) text ∙ tree_of_proper c.args.c t (omega arith) proper)
