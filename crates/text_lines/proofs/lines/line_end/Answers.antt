use Rattle.std.proofs.Common.{◌≡◌, ◌+◌, ◌∙◌, List, ℕ, drop, length, slice_range, ap, sym, arith}
use Rattle.text_lines.specs.Lines.{line_len}
use Rattle.text_lines.proofs.WordLemmas.{to_end, length-slice_range}
use Rattle.text_lines.proofs.FeedLemmas.{feed_at, no_feed}
use Rattle.text_lines.proofs.lines.line_end.Goals as goal

pub returns-in-Some-clause-place : goal.returns-in-Some-clause-place
returns-in-Some-clause-place c =
    let bytes = c.args.bytes.now in
    let at = c.args.at in
    let rest : List ℕ = slice_range bytes at (length bytes) in
    let found : line_len rest ≡ c.in-Some.len = feed_at rest c.in-Some.len c.in-Some.ensures.0.high (λ i l. c.in-Some.ensures.0.before i (omega arith) l) c.in-Some.ensures.1 in
    ap (λ n. at + n) (sym found ∙ ap line_len (to_end bytes at))

pub returns-in-None-clause-place : goal.returns-in-None-clause-place
returns-in-None-clause-place c =
    let bytes = c.args.bytes.now in
    let at = c.args.at in
    let rest : List ℕ = slice_range bytes at (length bytes) in
    let none : line_len rest ≡ length rest = no_feed rest (λ i l. c.in-None.ensures i (omega arith) l) in
    let same : line_len (drop at bytes) ≡ line_len rest = ap line_len (sym (to_end bytes at)) in
    omega (arith, same, none, length-slice_range bytes at (length bytes) c.requires (omega arith))
