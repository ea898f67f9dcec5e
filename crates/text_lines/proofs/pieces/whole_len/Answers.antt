use Rattle.std.proofs.Common.{◌+◌, ◌∙◌, ◌==◌, ℕ, drop, ap, sym, eqb-true, length-drop, arith}
use Rattle.std.proofs.lemmas.List.{get_or-drop}
use Rattle.text_lines.proofs.CutLemmas.{cut_at}
use Rattle.text_lines.proofs.FeedLemmas.{lacks_feed}
use Rattle.text_lines.proofs.pieces.whole_len.Goals as goal

pub returns-in_err-last-clause-none : goal.returns-in_err-last-clause-none
returns-in_err-last-clause-none c = rw c.from_residual.ensures (lacks_feed c.args.text.now (λ i l. c.in_err-last.ensures i (omega arith) l))

pub returns-clause-behind : goal.returns-clause-behind
returns-clause-behind c =
    let text = c.args.text.now in
    let len : ℕ = c.in_ok-last.last + 1 in
    lacks_feed (drop len text) (λ i l is.
    c.in_ok-last.ensures.0.after (len + i) (omega arith) (omega (arith, l, length-drop len text)) (ap (λ b. b == 10) (sym (get_or-drop len text i 0)) ∙ is))

pub returns-clause-lines : goal.returns-clause-lines
returns-clause-lines c is_begun rest =
    let last = c.in_ok-last.ensures in
    cut_at is_begun c.args.text.now rest c.in_ok-last.last last.0.high (eqb-true _ _ last.1)
