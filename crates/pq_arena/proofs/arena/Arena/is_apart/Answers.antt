use Rattle.std.proofs.Common.{◌∙◌, sym}
use Rattle.pq_arena.proofs.Closing.{opened}
use Rattle.pq_arena.proofs.Placed.{unlinked}
use Rattle.pq_arena.proofs.arena.Arena.is_apart.Goals as goal

pub returns : goal.returns
returns c = let h = opened c.self.inside c.args.self.now c.self.view_is c.self.invariant in (
  λ t. (c.uses.ensures.0 c.if-not-uses.false, unlinked _ _ _ _ _ _ c.args.self.now h c.args.n (sym c.link_at.ensures ∙ c.is_unlinked.ensures.0 t)),
  λ r. c.is_unlinked.ensures.1 (c.link_at.ensures ∙ h.tops c.args.n r.1),
)
