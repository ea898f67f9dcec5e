use Rattle.commands.proofs.Solved.{added_true, tied_side, solved_accepted}
use Rattle.commands.proofs.verdict_laws.passed_law.Goals as goal

pub returns : goal.returns
returns c =
    let valid = c.textbook_law.ensures.valid in
    let models = c.model_law.ensures.models in
    let tests = c.solved_laws.ensures in
    let texts = c.grammar_law.ensures in
    record {
      passed = λ i status text within formed reply. solved_accepted c.exact_law.ensures c.shown_law.ensures valid models tests.yes tests.no i within formed texts.grammar texts.length status text reply;
      added = added_true c.shown_law.ensures valid models;
      tied = tied_side c.exact_law.ensures;
    }
