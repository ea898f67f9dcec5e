use Rattle.template_model.proofs.Unchanged.{unchanged}
use Rattle.templates_p.proofs.parted.fill_line.Goals as goal

pub returns-in-None-clause-treated : goal.returns-in-None-clause-treated
returns-in-None-clause-treated g c = unchanged c.args.arena.now c.args.work.now c.args.node.index c.layout_law.ensures c.requires.one c.requires.two c.requires.used
