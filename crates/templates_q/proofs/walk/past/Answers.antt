use Rattle.templates_q.proofs.Walks.{step_past}
use Rattle.templates_q.proofs.walk.past.Goals as goal

pub returns-clause-passed : goal.returns-clause-passed
returns-clause-passed g c = λ q us vs first.
    step_past c.args.arena.now q us vs c.args.x c.args.from c.look-view.result c.beyond.result c.layout_law.ensures c.requires c.look-view.ensures.shows first
    c.beyond.ensures.back c.beyond.ensures.on
