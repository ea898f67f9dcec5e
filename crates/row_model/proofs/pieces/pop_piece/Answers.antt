use Rattle.std.proofs.Common.{◌≡◌, ◌-◌, length, take, get_or, ap, sym, ◌∙◌, arith, rules, vec_len}
use Rattle.row_model.specs.Pieces.{pieces}
use Rattle.row_model.proofs.PieceLemmas.{bounds_popped, pieces_popped}
use Rattle.row_model.proofs.pieces.pop_piece.Goals as goal

pub returns : goal.returns
returns c =
    let bounds = c.args.bounds.now in
    let end = c.index-end.result.now in
    let long : length bounds.items ≡ vec_len bounds = omega (arith, bounds.ok.0) in
    let last : end ≡ get_or bounds.items (vec_len bounds - 2) end = c.index-end.ensures ∙ ap (λ n. get_or bounds.items (n - 2) end) c.len.ensures in
    record {
      kept = bounds_popped c.args.members.now.items bounds.items _ _ (vec_len bounds) end c.requires.kept long (omega (arith, long, c.requires.some)) last c.pop.ensures.rest c.truncate.ensures.items;
      rest =
          pieces_popped c.args.members.now.items bounds.items _ _ (vec_len bounds) end c.requires.kept long (omega (arith, long, c.requires.some)) last c.pop.ensures.rest c.truncate.ensures.items
          ∙ ap (λ n. take (n - 2) (pieces c.args.members.now.items bounds.items)) (sym long);
      count = search rules;
    }
