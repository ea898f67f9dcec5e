use Rattle.std.proofs.Common.{◌≡◌, ◌∙◌, ℕ, ◌-◌, ◌<◌, List, Some, get_or, slice_get, sym, ap, subst, refl, inl, inr, arith, rules}
use Rattle.std.proofs.lemmas.Option.{slice_get_within, get_or_from_slice_get}
use Rattle.std.proofs.lemmas.Result.{IfOk-from_err}
use Rattle.row_model.specs.declared.graph.Pair.{Pair}
use Rattle.row_model.specs.Graph.{IsPair}
use Rattle.odd_cycle.specs.Numbers.{Numbering, IsIndexed, number_of}
use Rattle.walk_search.specs.declared.forest.Node.{Node}
use Rattle.walk_search.specs.Search.{pair_of_node}
use Rattle.walk_search.proofs.forest.Forest.reach.Goals as goal

pub get-requires : goal.get-requires
get-requires c = c.requires.pair

pub returns-in_ok-add-in-0 : goal.returns-in_ok-add-in-0
returns-in_ok-add-in-0 c = inl c.in_ok-add-in-0.ensures

pub add-requires-clause-indexed : goal.add-requires-clause-indexed
add-requires-clause-indexed c = c.requires.indexed

pub returns-in_err-add-in-0 : goal.returns-in_err-add-in-0
returns-in_err-add-in-0 c = IfOk-from_err c.from_residual.result _ c.from_residual.ensures.0

pub add-requires-clause-pair : goal.add-requires-clause-pair
add-requires-clause-pair c = c.requires.pair

-- the node of a pair that is reached already, as it is read at the pair's number
at_number : (t : Numbering) (nodes : List Node) (v : Pair) (n : ℕ) (node : Node) → IsIndexed pair_of_node t nodes → IsPair t.columns v → 0 < n → n ≡ number_of t v → node ≡ get_or nodes (n - 1) node
    → (slice_get nodes (n - 1) ≡ Some node) × (node.pair ≡ v)
at_number t nodes v n node h pair some e read =
    let found = h.found v pair (omega (arith, some, e)) in
    let there : slice_get nodes (n - 1) ≡ Some found.0 = subst (λ k. slice_get nodes (k - 1) ≡ Some found.0) (sym e) found.1 in
    let same : node ≡ found.0 = read ∙ get_or_from_slice_get nodes (n - 1) found.0 node there in
    (there ∙ ap Some (sym same), ap (λ (x : Node). x.pair) same ∙ found.2)

pub index-requires : goal.index-requires
index-requires c =
    let found = c.requires.indexed.found c.args.node.pair c.requires.pair (omega (arith, c.get.ensures)) in
    omega (arith, slice_get_within c.args.self.now.nodes.items _ found.0 found.1, c.get.ensures)

pub returns-in_default : goal.returns-in_default
returns-in_default c =
    let at = at_number c.args.self.now.numbers c.args.self.now.nodes.items c.args.node.pair c.get.result c.index.result.now c.requires.indexed c.requires.pair (omega arith) c.get.ensures c.index.ensures in
    inr (refl, record { index = c.get.result - 1; node = c.index.result.now; there = at.0; pair = at.1; parity = search rules })

pub returns-in_default-2 : goal.returns-in_default-2
returns-in_default-2 c =
    let at = at_number c.args.self.now.numbers c.args.self.now.nodes.items c.args.node.pair c.get.result c.index.result.now c.requires.indexed c.requires.pair (omega arith) c.get.ensures c.index.ensures in
    (refl, c.index.result.now, at.0, at.1, search rules)
