use Rattle.std.proofs.Common.{ℕ, ◌<◌, true, false, List, length, take, Option, Some, None, refl, sym, ap, subst, ◌∙◌, arith, rules, length-append}
use Rattle.std.proofs.lemmas.Bool.{false≢true}
use Rattle.std.proofs.lemmas.List.{length-take-le}
use Rattle.std.specs.Prelude.{IfSome}
use Rattle.std.specs.Io.KnownBytes.{Consumes}
use Rattle.file_io.proofs.Handed.{handed_out-nil, goes_on-more, goes_on-end, fails_within}
use Rattle.file_io.proofs.Pieces.{Consumes-take}
use Rattle.file_io.proofs.reading.read_all.Goals as goal

-- where more than the limit was read of a text, the text is longer than the limit
more_left : (old new : Option (List ℕ)) (piece : List ℕ) (limit : ℕ) → Consumes old new piece → limit < length piece → IfSome old (λ bytes. limit < length bytes)
more_left None new piece limit read more = tt
more_left (Some xs) None piece limit read more = absurd read
more_left (Some xs) (Some ys) piece limit read more = omega (arith, more, ap length read, length-append piece ys)

pub loop-filled-init : goal.loop-filled-init
loop-filled-init g c = record {
  within = search rules;
  small = search rules;
  so_far = search rules;
  told = refl;
  chosen = search rules;
  taken = sym (handed_out-nil _);
  content = λ other. refl;
}

pub loop-filled-preserved : goal.loop-filled-preserved
loop-filled-preserved g c = record {
  within = c.in_ok-n.ensures.room;
  small = omega arith;
  so_far = Consumes-take _ _ _ _ _ _ _ c.loop-filled.invariant.so_far c.read_on.ensures.front c.in_ok-n.ensures.read;
  told = search rules;
  chosen = search rules;
  taken = goes_on-more _ _ _ _ _ _ _ c.loop-filled.invariant.taken c.read_on.ensures.front c.in_ok-n.ensures.taken c.if-n-eq0.false;
  content = search rules;
}

pub returns-then-n-eq0-clause-taken : goal.returns-then-n-eq0-clause-taken
returns-then-n-eq0-clause-taken g c = (
  _,
  true,
  record {
    taken = goes_on-end _ _ _ _ _ _ _ c.loop-filled.invariant.taken c.read_on.ensures.front c.in_ok-n.ensures.taken c.if-n-eq0.true;
    consumed = subst (λ k. Consumes (g.F.Shelf.left c.args.shelf.now) (g.F.Shelf.left c.read_on.new.shelf) (take k c.read_on.new.bytes.items)) (omega (arith, c.if-n-eq0.true))
        (Consumes-take _ _ _ _ _ _ _ c.loop-filled.invariant.so_far c.read_on.ensures.front c.in_ok-n.ensures.read);
    end = λ is. c.in_ok-n.ensures.end c.if-n-eq0.true;
  },
  (c.shrink_to_fit.ensures.items ∙ c.truncate.ensures.items, refl),
  tt,
)

pub returns-clause-whole : goal.returns-clause-whole
returns-clause-whole g c =
    let some = length-take-le c.loop-filled.filled c.loop-filled.bytes.items (omega (arith, c.loop-filled.invariant.within, c.loop-filled.bytes.ok)) in
    more_left _ _ (take c.loop-filled.filled c.loop-filled.bytes.items) c.args.limit c.loop-filled.invariant.so_far (omega (arith, some, c.loop-filled-test.false))

pub returns-clause-taken : goal.returns-clause-taken
returns-clause-taken g c =
    let some = length-take-le c.loop-filled.filled c.loop-filled.bytes.items (omega (arith, c.loop-filled.invariant.within, c.loop-filled.bytes.ok)) in (
      take c.loop-filled.filled c.loop-filled.bytes.items,
      false,
      record {
        taken = c.loop-filled.invariant.taken;
        consumed = c.loop-filled.invariant.so_far;
        end = λ e. absurd (false≢true e);
      },
      omega (arith, some, c.loop-filled-test.false),
      tt,
    )

pub returns-in_err-n-clause-taken : goal.returns-in_err-n-clause-taken
returns-in_err-n-clause-taken g c =
    let some = length-take-le c.loop-filled.filled c.loop-filled.bytes.items (omega (arith, c.loop-filled.invariant.within, c.loop-filled.bytes.ok)) in
    let fails = fails_within c.args.limit (take c.loop-filled.filled c.loop-filled.bytes.items) c.from_residual.result (omega (arith, some, c.loop-filled-test.true)) in
    search (rules, fails)
