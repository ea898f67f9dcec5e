use Rattle.std.proofs.Common.{◌≡◌, ◌∙◌, [], refl, ap, subst, false}
use Rattle.pq_tree.specs.Equivalent.{IsEquivalent}
use Rattle.pq_tree.specs.PqTree.{column_count, outline}
use Rattle.order_list.specs.LowTrees.{outline_low}
use Rattle.order_list.proofs.Whole.{root_sound, root_low, root_ready, whole_first, whole_more}
use Rattle.order_list.proofs.first.Goals as goal

pub read_on-requires-clause-trees : goal.read_on-requires-clause-trees
read_on-requires-clause-trees c =
    let tree = c.args.tree.now in
    let moved : IsEquivalent (outline tree) (outline_low c.in_ok-low.low) = subst (λ t. IsEquivalent t (outline_low c.in_ok-low.low)) c.root.ensures c.in_ok-low.ensures in
    root_sound (column_count tree) (outline tree) (outline_low c.in_ok-low.low) _ _ _ moved tree.proper refl refl refl

pub read_on-requires-clause-low : goal.read_on-requires-clause-low
read_on-requires-clause-low c =
    let tree = c.args.tree.now in
    let moved : IsEquivalent (outline tree) (outline_low c.in_ok-low.low) = subst (λ t. IsEquivalent t (outline_low c.in_ok-low.low)) c.root.ensures c.in_ok-low.ensures in
    root_low (column_count tree) (outline tree) (outline_low c.in_ok-low.low) _ _ _ moved tree.proper refl refl refl c.in_ok-low.low.low

pub read_on-requires-clause-ready : goal.read_on-requires-clause-ready
read_on-requires-clause-ready c =
    let tree = c.args.tree.now in
    let moved : IsEquivalent (outline tree) (outline_low c.in_ok-low.low) = subst (λ t. IsEquivalent t (outline_low c.in_ok-low.low)) c.root.ensures c.in_ok-low.ensures in
    let start : c.new-found.result ≡ record { columns = column_count tree; orders = []; more = false } =
    c.new-found.ensures ∙ ap (λ n. record { columns = n; orders = []; more = false }) c.columns.ensures in
    root_ready (column_count tree) (outline tree) (outline_low c.in_ok-low.low) _ _ _ moved tree.proper refl refl refl c.in_ok-columns.columns.items c.args.count c.new-found.result c.in_ok-columns.ensures.items start

pub returns : goal.returns
returns c =
    let tree = c.args.tree.now in
    let moved : IsEquivalent (outline tree) (outline_low c.in_ok-low.low) = subst (λ t. IsEquivalent t (outline_low c.in_ok-low.low)) c.root.ensures c.in_ok-low.ensures in
    let start : c.new-found.result ≡ record { columns = column_count tree; orders = []; more = false } =
    c.new-found.ensures ∙ ap (λ n. record { columns = n; orders = []; more = false }) c.columns.ensures in
    record {
      first =
          whole_first (column_count tree) (outline tree) (outline_low c.in_ok-low.low) _ _ _ moved tree.proper refl refl refl c.in_ok-columns.columns.items c.args.count c.new-found.result c.in_ok-columns.ensures.items start
          c.read_on.new.found c.in_ok-read_on.ensures.found;
      more =
          whole_more (column_count tree) (outline tree) (outline_low c.in_ok-low.low) _ _ _ moved tree.proper refl refl refl c.in_ok-columns.columns.items c.args.count c.new-found.result c.in_ok-columns.ensures.items start
          c.read_on.new.found c.in_ok-read_on.ensures.found;
    }
