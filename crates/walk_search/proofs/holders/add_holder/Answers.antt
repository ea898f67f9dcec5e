use Rattle.std.proofs.Common.{◌≡◌, ◌∙◌, ◌-◌, ◌<◌, ◌++◌, ◌∷◌, [], Vec, Global, ℕ, length, set, get_or, ap, sym, arith}
use Rattle.std.proofs.lemmas.Grind.{common_steps}
use Rattle.std.proofs.lemmas.List.{map-set, get_or-map}
use Rattle.walk_search.proofs.HolderLaws.{lists_of}
use Rattle.walk_search.proofs.holders.add_holder.Goals as goal

pub returns : goal.returns
returns c =
    let at = c.args.column - 1 in
    let lt : at < length c.args.holders.now.items = omega arith in
    let pushed : c.push.new.self.items ≡ c.index_mut-list.result.now.items ++ c.args.row ∷ [] = grind (arith, common_steps) in
    let was : get_or (lists_of c.args.holders.now.items) at [] ≡ c.index_mut-list.result.now.items = get_or-map (λ (list : Vec ℕ Global). list.items) c.args.holders.now.items at c.index_mut-list.result.now [] lt ∙ ap (λ (list : Vec ℕ Global). list.items) (sym c.index_mut-list.ensures.value) in
    map-set (λ (list : Vec ℕ Global). list.items) c.args.holders.now.items at c.push.new.self ∙ ap (λ list. set (lists_of c.args.holders.now.items) at list) (pushed ∙ ap (λ list. list ++ c.args.row ∷ []) (sym was))
