use Rattle.std.proofs.Common.{◌≡◌, eqb, true, false, refl, eq-eqb}
use Rattle.verdict_text.specs.Reading.{index_at}
use borrow.Author.Tests.{ne_eqb}
use Rattle.verdict_text.proofs.read.after_index.Goals as goal

pub returns-then-n-i : goal.returns-then-n-i
unfolding index_at
returns-then-n-i c =
    let same : eqb c.in_ok-n.n c.args.i ≡ true = eq-eqb _ _ c.if-n-i.true in
    rw (c.in_ok-first.ensures, c.in_ok-n.ensures, same) refl

pub returns-else-n-i : goal.returns-else-n-i
unfolding index_at
returns-else-n-i c =
    let apart : eqb c.in_ok-n.n c.args.i ≡ false = ne_eqb _ _ c.if-n-i.false in
    rw (c.in_ok-first.ensures, c.in_ok-n.ensures, apart) refl
