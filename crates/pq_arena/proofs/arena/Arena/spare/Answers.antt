use Rattle.std.proofs.Common.{◌∙◌, ap, ◌+◌}
use Rattle.arena_model.specs.Layout.{used_count}
use Rattle.arena_model.proofs.Spares.{spares_counted}
use Rattle.pq_arena.proofs.Closing.{opened}
use Rattle.pq_arena.proofs.arena.Arena.spare.Goals as goal

pub returns-clause-counted : goal.returns-clause-counted
returns-clause-counted c = let h = opened c.self.inside c.args.self.now c.self.view_is c.self.invariant in
    ap (λ z. z + used_count c.args.self.now.slots) h.spares_count ∙ spares_counted c.args.self.now h.layout
