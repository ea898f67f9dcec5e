use Rattle.std.proofs.Common.{◌≡◌, ◌∙◌, ◌+◌, List, drop, get_or, sym, ap, subst, arith}
use Rattle.std.proofs.lemmas.List.{at_drop_more}
use Rattle.robinson_balls.specs.declared.neighbours.Neighbour.{Neighbour}
use Rattle.robinson_balls.specs.Neighbours.{with_item, with_items}
use Rattle.robinson_balls.proofs.Growing.{row_rises}
use Rattle.robinson_balls.proofs.Rising.{Rises, rises_with, rises_steadily}
use Rattle.robinson_balls.proofs.rows.grow.Goals as goal

pub loop-neighbour-init : goal.loop-neighbour-init
loop-neighbour-init c = record { rises = row_rises c.args.d.now.items 0 c.args.items.now.items c.requires.row; rest = c.requires.lacks }

pub insert-requires : goal.insert-requires
insert-requires c = rises_steadily 0 c.loop-neighbour.items.items c.loop-neighbour.invariant.rises

pub loop-neighbour-preserved : goal.loop-neighbour-preserved
loop-neighbour-preserved c =
    let group = c.args.group.now in
    let k = c.loop-neighbour.neighbour-index in
    let e : Neighbour = record { item = 0; distance = 0 } in
    let before = c.loop-neighbour.items.items in
    let is : c.insert.new.list.items ≡ with_item (get_or group k e).item before = c.in_ok-insert.ensures in
    record {
      rises = subst (Rises 0) (sym is) (rises_with 0 (get_or group k e).item before (omega arith) c.loop-neighbour.invariant.rises);
      rest = ap (with_items (drop (k + 1) group)) is ∙ sym (at_drop_more (λ (g : List Neighbour). with_items g before) group k e (omega arith)) ∙ c.loop-neighbour.invariant.rest;
    }
