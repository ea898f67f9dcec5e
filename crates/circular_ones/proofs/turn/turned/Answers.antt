use Rattle.std.proofs.Common.{rules, tests, ◌≡◌, ◌∙◌, position, eqb, sym}
use Rattle.std.proofs.lemmas.Iterator.{YieldsList-from_slice}
use Rattle.std.proofs.lemmas.Iterator.Search.{position_from_yields_List}
use Rattle.circular_ones.proofs.Turns.{turned_from, turned_as_it_stands}
use Rattle.circular_ones.proofs.turn.turned.Goals as goal
use Rattle.circular_ones.proofs.turn.turned.Goals.{in-Some, in_default}

pub returns : goal.returns
returns c =
    let order = c.args.order.now in
    let found : c.position.result ≡ position (λ x. eqb x 1) order = position_from_yields_List _ _ _ _ c.position.ensures.ran (YieldsList-from_slice order cc) (λ x b q k. search (rules, tests)) in
    elim c.match-position.branch [
      | in-Some w ↦
          rw (w.turned-is, w.rotate_left.ensures.items, c.in_ok-turned.ensures.items) (turned_from order w.in-Some.before (sym found ∙ w.in-Some.is))
      | in_default w ↦
          rw (w.turned-is, c.in_ok-turned.ensures.items) (turned_as_it_stands order c.requires (sym found ∙ w.in_default.is))
    ]
