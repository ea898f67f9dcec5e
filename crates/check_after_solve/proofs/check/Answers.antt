use Rattle.std.proofs.Common.{◌∙◌, [], Some, inr, ap}
use Rattle.std.specs.Prelude.{unwrap_or}
use Rattle.pq_io.specs.NeverShelf.{Kept, content_or_empty}
use Rattle.command_input.specs.Words.{texts, command_of}
use Rattle.pq_cli.specs.Runs.{taken_since}
use Rattle.check_after_solve.specs.Agreed.{instance_name}
use Rattle.check_after_solve.proofs.Believed.{ends_over, found_of, four_words, other_name}
use Rattle.check_after_solve.proofs.check.Goals as goal

pub returns : goal.returns
returns g c =
    let old = c.add-2.new.self in
    let new = c.run.new.files in
    let run = c.run.ensures in
    let status = c.run.result in
    let before = g.P.Sink.written c.args.out.now in
    let after = g.P.Sink.written c.run.new.out in
    let words = ap texts (c.deref.ensures.value ∙ c.in_ok-words.ensures.items) ∙ four_words c.in_ok-from_str.ensures.ok c.in_ok-from_str-2.ensures.ok c.in_ok-from_str-3.ensures.ok c.in_ok-from_str-4.ensures.ok in
    let found = command_of (texts c.deref.result.now) in
    let told_instance = ap (λ o. Some (unwrap_or o [])) (c.in_ok-add-2.ensures.others instance_name other_name ∙ c.in_ok-add.ensures.added) in
    record {
      found = found_of c.told_law.ensures c.solved_law.ensures.agreed (λ name. Some (content_or_empty old.files name)) c.args.instance.now c.args.verdict.now told_instance
          (ap (λ o. Some (unwrap_or o [])) c.in_ok-add-2.ensures.added) (taken_since old.taken new.taken) before after (g.P.Sink.faults c.args.out.now) (g.P.Sink.faults c.run.new.out) c.args.kind.now status
          (texts c.deref.result.now) words
          (ends_over (λ (shelf : Kept) name. Some (content_or_empty shelf.files name)) (λ (shelf : Kept). shelf.taken) old new found before after status run.files run.output run.words run.status)
          run.write_fault (λ six. let same = run.unwritten (inr (inr (inr six))) in (ap g.P.Sink.written same, ap g.P.Sink.faults same));
      err = tt;
    }
