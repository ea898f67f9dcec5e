-- Nodes that keep their heads keep their number, and so that of their links.
use Rattle.std.proofs.Common.{◌≡◌, List, length, ap, sym, ◌∙◌}
use Rattle.std.proofs.lemmas.List.{length-map}
use Rattle.pq_arena.specs.declared.node.Node.{Node}
use Rattle.pq_arena.specs.Wiring.{links, heads}

pub size_of_links : (ns : List Node) → length (links ns) ≡ length ns
size_of_links ns = length-map ns (λ n. n.link)

pub size_kept : (ms ns : List Node) → heads ms ≡ heads ns → length ms ≡ length ns
size_kept ms ns e = sym (length-map ms (λ n. n.head)) ∙ ap length e ∙ length-map ns (λ n. n.head)

pub links_kept : (ms ns : List Node) → heads ms ≡ heads ns → length (links ms) ≡ length (links ns)
links_kept ms ns e = size_of_links ms ∙ size_kept ms ns e ∙ sym (size_of_links ns)

pub heads_size : (ms ns : List Node) → heads ms ≡ heads ns → length (heads ms) ≡ length (links ns)
heads_size ms ns e = length-map ms (λ n. n.head) ∙ size_kept ms ns e ∙ sym (size_of_links ns)
