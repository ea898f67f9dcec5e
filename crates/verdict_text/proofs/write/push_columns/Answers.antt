use Rattle.verdict_text.proofs.write.push_columns.Goals as goal

pub returns-in-Two-clause-ok : goal.returns-in-Two-clause-ok
returns-in-Two-clause-ok c = rw c.in-Two.is c.push_words-in-Two.ensures.ok
