use Rattle.templates_q.proofs.Splicing.{can_splice, spliced_in}
use Rattle.templates_q.proofs.splice.splice_in.Goals as goal

pub full_end-end-requires-clause-shape : goal.full_end-end-requires-clause-shape
full_end-end-requires-clause-shape g c = (c.requires.h, c.requires.shape)

pub splice-requires-clause-place : goal.splice-requires-clause-place
splice-requires-clause-place g c = let r = c.requires in
    can_splice c.args.arena.now c.args.work.now r.q c.args.line.index r.us r.vs c.args.towards r.h r.place r.shape

pub returns-clause-spliced : goal.returns-clause-spliced
returns-clause-spliced g c = spliced_in c.args.arena.now c.splice.new.self c.args.work.now c.args.line.index c.full_end-end.result c.args.towards c.requires.two
    c.splice.ensures.before c.splice.ensures.behind c.full_end-end.ensures.end
