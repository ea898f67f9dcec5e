use Rattle.std.proofs.Common.{◌∙◌, ◌++◌, ◌≤◌, ap, subst}
use Rattle.core_text.specs.Texts.{core_text}
use Rattle.solve_replies.proofs.core_rows.core_reply.Goals as goal

pub returns-clause-text : goal.returns-clause-text
returns-clause-text c =
    let parts = c.args.core in
    let columns = c.columns.ensures.columns in
    let some = subst (λ n. 1 ≤ n) columns c.columns.ensures.range.0 in
    record {
      parts = parts;
      grammar = (c.core_grammar_law.ensures c.args.kind c.args.m.now parts c.requires.within some c.requires.tells).0;
      tells = c.requires.tells;
      short = c.requires.short;
      text_is = c.in_ok-print_core.ensures.ok ∙ ap (λ xs. xs ++ core_text c.new-core.result) c.new-text.ensures.items ∙ ap core_text c.new-core.ensures ∙
          ap (λ n. core_text (record { kind = c.args.kind; columns = n; parts = parts })) columns;
    }
