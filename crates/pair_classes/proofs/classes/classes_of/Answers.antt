use Rattle.std.proofs.Common.{◌≡◌, ◌∙◌, ◌+◌, ◌-◌, ◌*◌, ℕ, List, [], Vec, Global, length, take, sym, ap, subst, arith}
use Rattle.std.proofs.lemmas.Grind.{common_steps}
use Rattle.std.specs.Vec.{with_items}
use Rattle.std.proofs.lemmas.List.{with_items_is}
use Rattle.std.proofs.lemmas.Option.{slice_get-get_or}
use Rattle.row_model.specs.Graph.{row_at}
use Rattle.odd_cycle.specs.Numbers.{Numbering}
use Rattle.pair_classes.specs.Classes.{TellsClasses}
use Rattle.odd_cycle.proofs.RowOnes.{ones_more}
use Rattle.pair_classes.proofs.ClassLaws.{IsClassing, classing_none, classing_more, classes_told}
use Rattle.pair_classes.proofs.classes.classes_of.Goals as goal

-- what is written through a slice of a vector is what the vector holds then
written : (v : Vec ℕ Global) (slice ws : List ℕ) → slice ≡ v.items → length ws ≡ length slice → (with_items v ws).items ≡ ws
written v slice ws read size = with_items_is v ws (size ∙ ap length read ∙ sym v.ok.0)

pub loop-k-init : goal.loop-k-init
loop-k-init g c =
    let made = c.in_ok-parents.ensures in
    let columns = c.columns-columns.ensures.columns in
    record { classing = classing_none c.args.m.now.columns c.args.rows c.args.m.now.rows c.in_ok-parents.parents.items (subst (λ n. length c.in_ok-parents.parents.items ≡ n * n) columns made.0) made.1; counted = omega arith; turns = omega arith }

pub loop-k-preserved : goal.loop-k-preserved
loop-k-preserved g c =
    let m = c.args.m.now in
    let done = c.loop-k.k in
    let before = subst (λ ps. IsClassing m.columns c.args.rows m.rows ps done) (sym c.deref_mut.ensures.value) c.loop-k.invariant.classing in
    let now = c.unite_along.ensures in
    let kept = written c.loop-k.parents c.deref_mut.result.now c.unite_along.new.parents c.deref_mut.ensures.value c.unite_along.auto.parents in
    let more = ones_more m.rows done (row_at m.rows (done + 1)) (slice_get-get_or m.rows (done + 1 - 1) [] (omega (arith, c.requires, c.loop-k-test.true))) in
    record {
      classing = subst (λ ps. IsClassing m.columns c.args.rows m.rows ps (done + 1)) (sym kept)
          (classing_more m.columns c.args.rows m.rows c.deref_mut.result.now c.unite_along.new.parents done (done + 1) before (omega arith) (omega (arith, c.loop-k-test.true)) c.requires c.unite_along.auto.parents now.parents now.labels now.even);
      counted = omega (arith, ap (λ n. m.columns * n) more, c.loop-k.invariant.counted, now.ticks);
      turns = omega (arith, more, c.loop-k.invariant.turns, now.reads);
    }

pub returns-clause-classes : goal.returns-clause-classes
returns-clause-classes g c =
    let m = c.args.m.now in
    let rows = c.args.rows in
    let end : c.loop-k.k ≡ rows = omega (arith, c.loop-k-test.false, c.loop-k.auto.k-end) in
    let slice = c.deref_mut-2.result.now in
    let done = subst (λ n. IsClassing m.columns rows m.rows slice n) end (subst (λ ps. IsClassing m.columns rows m.rows ps c.loop-k.k) (sym c.deref_mut-2.ensures.value) c.loop-k.invariant.classing) in
    let told = classes_told m.columns rows m.rows slice c.flatten.new.parents c.requires done c.flatten.ensures c.flatten.auto.parents in
    let kept = written c.loop-k.parents slice c.flatten.new.parents c.deref_mut-2.ensures.value c.flatten.auto.parents in
    let table : List ℕ → Numbering = λ es. record { columns = m.columns; entries = es } in
    let is : c.from_entries.result ≡ table c.flatten.new.parents =
    c.from_entries.ensures ∙ ap (λ n. record { columns = n; entries = (with_items c.loop-k.parents c.flatten.new.parents).items }) c.columns-columns.ensures.columns ∙ ap table kept in
    subst (TellsClasses m.columns (take rows m.rows)) (sym is) told

pub from_entries-requires-clause-places : goal.from_entries-requires-clause-places
from_entries-requires-clause-places g c = grind (arith, common_steps)
