use Rattle.std.proofs.Common.{sym, ◌∙◌}
use Rattle.bubble_pass.proofs.Tabling.{pushed_kept, seen_kept, push_can}
use Rattle.bubble_pass.proofs.tables.Tables.touch.Goals as goal

pub push-requires : goal.push-requires
push-requires c = push_can c.args.self.now c.args.x c.requires.kept c.requires.x (sym c.stage_of.ensures ∙ c.in-Unseen.is)

pub returns-in-Unseen : goal.returns-in-Unseen
returns-in-Unseen c = pushed_kept c.args.self.now c.push.new.self c.args.x c.requires.kept c.requires.x (sym c.stage_of.ensures ∙ c.in-Unseen.is) c.push.ensures

pub returns-in_default : goal.returns-in_default
returns-in_default c = seen_kept c.args.self.now c.args.x c.requires.kept (λ e. c.in_default.not-Unseen (c.stage_of.ensures ∙ e))
