use Rattle.std.proofs.Common.{◌∙◌, sym, ap}
use Rattle.text_lines.specs.Words.{words_of}
use Rattle.graph_read.specs.Numbers.{one_number}
use Rattle.graph_read.specs.declared.edges.Shape.TheVariants.{Plain}
use Rattle.graph_read.proofs.Same.{shaped, vertices_shaped}
use Rattle.graph_read.proofs.edges.vertices_in.Goals as goal

pub returns-clause-vertices : goal.returns-clause-vertices
returns-clause-vertices c = sym (vertices_shaped (one_number (words_of c.args.line.now)) ∙ ap (shaped (λ n. Plain n)) (sym c.in_ok-vertices.ensures.size))
