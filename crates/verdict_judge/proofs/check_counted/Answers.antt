use Rattle.std.proofs.Common.{◌≡◌, Some, None, subst}
use Rattle.verdict_text.specs.Value.{verdict_value}
use Rattle.instance_model.specs.Value.{instance_value}
use Rattle.verdict_judge.specs.Found.{Finds}
use Rattle.verdict_judge.specs.Accepted.{Passes}
use Rattle.verdict_judge.specs.Tests.{tests}
use Rattle.verdict_judge.proofs.First.{said_valid, said_invalid, verdict_words}
use Rattle.verdict_judge.specs.declared.outcome.Checked.{Checked}
use Rattle.verdict_judge.specs.declared.outcome.Checked.TheVariants.{Valid, Invalid}
use Rattle.verdict_judge.proofs.Exact.{exactly}
use Rattle.verdict_judge.proofs.check_counted.Goals as goal

pub returns-in-None-clause-judged : goal.returns-in-None-clause-judged
returns-in-None-clause-judged g c =
    let i = instance_value c.args.instance.now in
    let v = verdict_value c.args.v.now in
    let found : Finds (Passes i v) (tests i v) None = subst (Finds (Passes i v) (tests i v)) c.in-None.is c.in_ok-first_failing.ensures.finds in
    let valid = said_valid verdict_words (Passes i v) (tests i v) None found in
    record {
      valid = valid;
      invalid = said_invalid verdict_words (Passes i v) (tests i v) None found;
      exact = exactly c.true_law.ensures c.exact_laws.ensures.true_yes i v (◌≡◌ {A = Checked} Valid Valid) c.kind-kind.ensures.formed c.requires.verdict valid;
    }

pub returns-in-Some-clause-judged : goal.returns-in-Some-clause-judged
returns-in-Some-clause-judged g c =
    let i = instance_value c.args.instance.now in
    let v = verdict_value c.args.v.now in
    let found : Finds (Passes i v) (tests i v) (Some c.in-Some.reason) = subst (Finds (Passes i v) (tests i v)) c.in-Some.is c.in_ok-first_failing.ensures.finds in
    let valid = said_valid verdict_words (Passes i v) (tests i v) (Some c.in-Some.reason) found in
    record {
      valid = valid;
      invalid = said_invalid verdict_words (Passes i v) (tests i v) (Some c.in-Some.reason) found;
      exact = exactly c.true_law.ensures c.exact_laws.ensures.true_yes i v (Invalid c.in-Some.reason ≡ Valid) c.kind-kind.ensures.formed c.requires.verdict valid;
    }
