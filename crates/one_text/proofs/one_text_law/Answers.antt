use Rattle.one_text.proofs.Same.{canonical_text, same_text}
use Rattle.one_text.proofs.Lines.{lines_law}
use Rattle.one_text.proofs.Textbook.{textbook_text}
use Rattle.one_text.proofs.one_text_law.Goals as goal

pub returns : goal.returns
returns c =
    let common = c.common_law.ensures.rows in
    let meet = c.meet_law.ensures.text in
    let reply = c.reply_law.ensures in
    record {
      canonical = canonical_text reply.grammar common meet c.canonical_tree_law.ensures.one;
      lines = lines_law;
      same = same_text c.shown_law.ensures reply.grammar common meet c.canonical_tree_law.ensures.rows;
      textbook = textbook_text c.shown_law.ensures reply.grammar reply.orders c.one_verdict.ensures common meet c.canonical_tree_law.ensures.rows;
    }
