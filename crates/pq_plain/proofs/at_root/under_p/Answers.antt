use Rattle.std.proofs.Common.{◌≡◌, rules, length}
use Rattle.pq_plain.proofs.Pieces.{under_some}
use Rattle.pq_plain.proofs.at_root.under_p.Goals as goal

pub returns : goal.returns
returns c =
    let some : length c.args.others.items ≡ 0 → ⊥ = search rules in
    under_some _ _ _ _ _ some c.new-children.ensures.items c.in_ok-push.ensures.items c.in_ok-append.ensures.items
