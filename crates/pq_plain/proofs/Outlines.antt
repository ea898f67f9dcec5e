-- Lists of trees as the templates see them.
use Rattle.std.proofs.Common.{◌≡◌, ◌∙◌, List, ◌++◌, map, reverse, ap}
use Rattle.std.proofs.lemmas.List.{map-append}
use Rattle.pq_tree.specs.Proper.{outline_of}
use Rattle.pq_tree.specs.Forests.{forest, join, back}
use Rattle.pq_tree.specs.declared.Tree.{Tree}
use Rattle.pq_plain.specs.Seen.{outlines}
use Rattle.pq_tree.proofs.Forests.{map-reverse, forest_append, forest_reverse}

pub outlines_append : (xs ys : List Tree) → outlines (xs ++ ys) ≡ join (outlines xs) (outlines ys)
outlines_append xs ys = ap forest (map-append outline_of xs ys) ∙ forest_append (map outline_of xs) (map outline_of ys)

pub outlines_reverse : (ts : List Tree) → outlines (reverse ts) ≡ back (outlines ts)
outlines_reverse ts = ap forest (map-reverse outline_of ts) ∙ forest_reverse (map outline_of ts)
