use Rattle.std.proofs.Common.{◌≡◌, ◌∙◌, ◌-◌, ◌++◌, length, take, drop, ap, sym, subst, arith}
use Rattle.std.proofs.lemmas.List.{length-append, length-take-le, length-drop}
use Rattle.row_core.specs.Blamed.{AreNeeded, marked_from}
use Rattle.row_core.proofs.Marks.{few_marked}
use Rattle.row_core.proofs.Needed.{needed_marked}
use Rattle.row_core.proofs.Whole.{blamed_marked, marked_below}
use Rattle.row_core.proofs.blamed.blame.Goals as goal

pub returns-clause-blamed : goal.returns-clause-blamed
returns-clause-blamed c = λ m a cycle short.
    let marks = c.in_ok-marks.marks.items in
    let rows : c.extend_from_slice.new.self.items ≡ marked_from marks c.args.needed (drop c.args.needed c.args.list.now) ++ take c.args.needed c.args.list.now =
    c.in_ok-extend_from_slice.ensures.items ∙ ap (λ xs. xs ++ take c.args.needed c.args.list.now) (c.in_ok-rows.ensures ∙ ap (λ ms. marked_from ms c.args.needed (drop c.args.needed c.args.list.now)) c.deref.ensures.value) in
    let untried : c.saturating_sub-untried.result ≡ length (marked_from marks c.args.needed (drop c.args.needed c.args.list.now)) - 1 =
    omega (arith, c.saturating_sub-untried.ensures, c.len.ensures, c.in_ok-rows.rows.ok, ap length (c.in_ok-rows.ensures ∙ ap (λ ms. marked_from ms c.args.needed (drop c.args.needed c.args.list.now)) c.deref.ensures.value)) in
    blamed_marked m c.args.needed c.args.list.now marks c.args.cycle.now _ c.requires.needed rows (omega (arith, untried, ap length rows, length-append (marked_from marks c.args.needed (drop c.args.needed c.args.list.now)) (take c.args.needed c.args.list.now))) (rw c.lines-2.ensures.lines at c.in_ok-lines.ensures) c.requires.within
    (rw c.lines.ensures.lines at c.in_ok-marks.ensures.marked) a cycle short

pub returns-clause-needed : goal.returns-clause-needed
returns-clause-needed c = λ m a needed first.
    let marks = c.in_ok-marks.marks.items in
    let n = c.args.needed in
    let list = c.args.list.now in
    let rows : c.extend_from_slice.new.self.items ≡ marked_from marks n (drop n list) ++ take n list =
    c.in_ok-extend_from_slice.ensures.items ∙ ap (λ xs. xs ++ take n list) (c.in_ok-rows.ensures ∙ ap (λ ms. marked_from ms n (drop n list)) c.deref.ensures.value) in
    let untried : c.saturating_sub-untried.result ≡ length (marked_from marks n (drop n list)) - 1 =
    omega (arith, c.saturating_sub-untried.ensures, c.len.ensures, c.in_ok-rows.rows.ok, ap length (c.in_ok-rows.ensures ∙ ap (λ ms. marked_from ms n (drop n list)) c.deref.ensures.value)) in
    let below = marked_below m list c.args.cycle.now first.before marks first.cycle (rw c.lines.ensures.lines at c.in_ok-marks.ensures.others) in
    subst (λ k. AreNeeded m c.extend_from_slice.new.self.items k) (sym untried)
    (subst (λ xs. AreNeeded m xs (length (marked_from marks n (drop n list)) - 1)) (sym rows)
    (needed_marked m marks first.before n list c.requires.needed needed below first.order))

pub returns-clause-few : goal.returns-clause-few
returns-clause-few c =
    let n = c.args.needed in
    let list = c.args.list.now in
    let rows : c.extend_from_slice.new.self.items ≡ marked_from c.in_ok-marks.marks.items n (drop n list) ++ take n list =
    c.in_ok-extend_from_slice.ensures.items ∙ ap (λ xs. xs ++ take n list) (c.in_ok-rows.ensures ∙ ap (λ ms. marked_from ms n (drop n list)) c.deref.ensures.value) in
    omega (arith, ap length rows, length-append (marked_from c.in_ok-marks.marks.items n (drop n list)) (take n list), few_marked n c.in_ok-marks.marks.items (drop n list), length-drop n list, length-take-le n list c.requires.needed, c.requires.needed)

pub returns-clause-more : goal.returns-clause-more
returns-clause-more c =
    let n = c.args.needed in
    let list = c.args.list.now in
    let marks = c.in_ok-marks.marks.items in
    let rows : c.extend_from_slice.new.self.items ≡ marked_from marks n (drop n list) ++ take n list =
    c.in_ok-extend_from_slice.ensures.items ∙ ap (λ xs. xs ++ take n list) (c.in_ok-rows.ensures ∙ ap (λ ms. marked_from ms n (drop n list)) c.deref.ensures.value) in
    let untried : c.saturating_sub-untried.result ≡ length (marked_from marks n (drop n list)) - 1 =
    omega (arith, c.saturating_sub-untried.ensures, c.len.ensures, c.in_ok-rows.rows.ok, ap length (c.in_ok-rows.ensures ∙ ap (λ ms. marked_from ms n (drop n list)) c.deref.ensures.value)) in
    let long = length-append (marked_from marks n (drop n list)) (take n list) in
    let front = length-take-le n list c.requires.needed in
    (omega (arith, ap length rows, long, front), omega (arith, untried, ap length rows, long, front))
