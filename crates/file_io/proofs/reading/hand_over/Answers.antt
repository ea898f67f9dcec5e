use Rattle.std.proofs.Common.{◌≡◌, ◌-◌, ◌+◌, ◌++◌, ◌∙◌, ◌≤◌, take, drop, length, ap, sym, subst, arith}
use Rattle.std.proofs.lemmas.List.{drop-take, length-drop, length-take-le}
use Rattle.std.proofs.lemmas.List.Edits.{take-paste}
use Rattle.std.proofs.Math.Seq.{paste}
use Rattle.file_io.proofs.reading.hand_over.Goals as goal

pub returns-clause-makes : goal.returns-clause-makes
returns-clause-makes g c rest made h =
    let window = c.args.window.now in
    let taken = c.in_ok-next.taken in
    let left = c.args.filled - taken in
    let long : length (take c.args.filled window) ≡ c.args.filled = length-take-le c.args.filled window c.requires in
    let le : taken ≤ c.args.filled = omega (arith, c.in_ok-next.ensures.within, long) in
    let same : left ≡ 0 + left = omega arith in
    let all : taken + left ≡ c.args.filled = omega (arith, le) in
    let moved : take left c.copy_within.new.self ≡ drop taken (take c.args.filled window) =
    ap (take left) c.copy_within.ensures.after
    ∙ ap (λ k. take k (paste window 0 (drop taken window) left)) same
    ∙ take-paste window 0 (drop taken window) left (omega arith) (omega (arith, length-drop taken window, c.requires, le))
    ∙ sym (drop-take taken left window)
    ∙ ap (λ k. drop taken (take k window)) all
    in
    c.in_ok-next.ensures.makes rest made (subst (λ text. g.T.Taker.makes c.in_ok-next.next (text ++ rest) made) moved h)
