use Rattle.std.proofs.Common.{refl}
use Rattle.verdict_text.specs.Value.{verdict_value}
use Rattle.verdict_text.specs.declared.verdict.Version.TheVariants.{Two}
use Rattle.instance_model.specs.Value.{instance_value}
use Rattle.solve_replies.proofs.verdicts.verdict_with.Goals as goal

pub returns-clause-grammar : goal.returns-clause-grammar
returns-clause-grammar c =
    let verdict = verdict_value (record { version = Two; kind = c.args.kind; columns = c.columns_of.result; part = c.args.part }) in
    c.grammar_law.ensures.grammar (instance_value c.args.instance.now) verdict c.requires.judged c.requires.formed c.columns_of.ensures.counts
    (record { version = refl; kind = c.requires.kind; columns = c.columns_of.ensures.columns; claim = c.requires.claim })
