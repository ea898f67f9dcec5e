use Rattle.std.proofs.Common.{◌≡◌, ◌∙◌, List, ℕ, [], Some, IfSome, ap, subst}
use Rattle.std.specs.Prelude.{unwrap_or}
use Rattle.pq_io.specs.NeverShelf.{Kept, content_or_empty}
use Rattle.command_input.specs.Words.{texts, command_of}
use Rattle.pq_cli.specs.Runs.{WritesOut, taken_since}
use Rattle.check_after_solve.proofs.Believed.{ends_over, solved_of, three_words}
use Rattle.check_after_solve.proofs.solve.Goals as goal

pub returns-clause-solved : goal.returns-clause-solved
returns-clause-solved c =
    let old = c.add.new.self in
    let new = c.run-status.new.files in
    let run = c.run-status.ensures in
    let status = c.run-status.result in
    let text = c.run-status.new.out.bytes in
    let words = ap texts (c.deref.ensures.value ∙ c.in_ok-words.ensures.items) ∙ three_words c.in_ok-from_str.ensures.ok c.in_ok-from_str-2.ensures.ok c.in_ok-from_str-3.ensures.ok in
    let bytes : c.reserve.new.self.bytes ≡ [] = ap (λ out. out.bytes) c.in_ok-reserve.ensures.ok ∙ ap (λ out. out.bytes) c.new-out.ensures in
    let found = command_of (texts c.deref.result.now) in
    let written = subst (λ (b : List ℕ). IfSome found (λ k. WritesOut (taken_since old.taken new.taken) k (Some b) (Some text) status)) bytes run.output in
    solved_of c.told_law.ensures (λ name. Some (content_or_empty old.files name)) c.args.instance.now (ap (λ o. Some (unwrap_or o [])) c.in_ok-add.ensures.added)
    (taken_since old.taken new.taken) text c.args.kind.now status (texts c.deref.result.now) words
    (ends_over (λ (shelf : Kept) name. Some (content_or_empty shelf.files name)) (λ (shelf : Kept). shelf.taken) old new found (Some []) (Some text) status run.files written run.words run.status)
