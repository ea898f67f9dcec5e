use Rattle.verdict_replies.proofs.Fits.{in_grammar}
use Rattle.verdict_replies.proofs.Short.{short_text}
use Rattle.verdict_replies.proofs.verdict_laws.grammar_law.Goals as goal

pub returns : goal.returns
returns c =
    let sizes = c.derived_sizes_law.ensures in
    let cycles = c.cycle_length_law.ensures in
    let spans = c.place_laws.ensures.spans in
    record {
      grammar = λ i v within formed counts of_instance. in_grammar sizes.columns sizes.rows cycles spans i within formed v counts of_instance;
      length = λ i v within formed grammar of_instance. short_text sizes.columns sizes.rows cycles spans i within formed v grammar of_instance;
    }
