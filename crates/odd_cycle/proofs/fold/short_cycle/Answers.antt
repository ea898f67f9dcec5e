use Rattle.std.proofs.Common.{◌≡◌, ◌∙◌, ℕ, ◌+◌, ◌-◌, ◌≤◌, Bool, List, [], ◌∷◌, ◌++◌, length, take, drop, get_or, slice_get, Some, All, refl, ap, sym, subst, arith}
use Rattle.std.proofs.lemmas.Option.{slice_get-get_or}
use Rattle.std.proofs.lemmas.Result.{IfOk-weaker}
use Rattle.row_model.specs.declared.graph.Pair.{Pair}
use Rattle.row_model.specs.declared.graph.Line.{Line}
use Rattle.row_model.specs.Cycles.{IsClosedWalk, IsOdd, IsOddCycle}
use Rattle.odd_cycle.specs.Numbers.{number_of, IsIndexed}
use Rattle.odd_cycle.specs.Fold.{closing, IsPlaceOf, TellsTurned}
use Rattle.odd_cycle.specs.Short.{one_if, turned_if, lesser_first, columns_of, IsShort, IsNamedBy}
use Rattle.odd_cycle.proofs.CycleLength.{blank}
use Rattle.odd_cycle.proofs.ShortLaws.{short_cycle_law}
use Rattle.odd_cycle.proofs.FoldLaws.{IsKept, Follows, start, follows_flip}
use Rattle.odd_cycle.proofs.FoldSteps.{IsStep, IsEnd, fitted, step_pair, step, end_of}
use Rattle.odd_cycle.proofs.fold.short_cycle.Goals as goal
use Rattle.odd_cycle.proofs.fold.short_cycle.Goals.{After-len, After-turned_if, in-Flip, in-Row+else-is_odd+in_ok-extend-in-Row}

at_end : (c : ℕ) (walk path : List Line) (t : Bool) (v : Pair) → IsEnd c walk path t v → (rows : List (List ℕ)) → IsClosedWalk c rows walk →
    IsOddCycle c rows (path ++ closing t v) × IsShort c (path ++ closing t v)
at_end c walk path t v h rows closed = short_cycle_law c rows (path ++ closing t v) (h.odd rows closed) h.folded

ended : (c : After-turned_if) → IsEnd c.args.columns c.args.walk.now c.loop-line.path.items c.loop-line.turned c.turned_if.result
ended c =
    let walk = c.args.walk.now in
    let odd = c.requires.walk.1.odd in
    end_of c.args.columns walk c.loop-line.numbers c.loop-line.path.items c.loop-line.line-index c.loop-line.turned c.turned_if.result c.loop-line.invariant.kept c.loop-line.invariant.follows
    (omega (arith, c.loop-line-test.false)) odd (c.turned_if.ensures ∙ ap (turned_if c.loop-line.turned) (first_line walk blank (omega (arith, odd))))
  where
    first_line : (xs : List Line) (d : Line) → 1 ≤ length xs → (get_or xs 0 d).pair ≡ start xs
    first_line [] d l = absurd (omega arith)
    first_line (x ∷ xs) d l = refl

-- the line in turn
abbrev next_line : After-len → Line
next_line c = get_or c.args.walk.now c.loop-line.line-index blank

whole : (c : After-len) → IsStep c.args.columns c.args.walk.now c.loop-line.numbers c.loop-line.path.items c.loop-line.line-index (next_line c) c.loop-line.turned c.turned_if-v.result c.place-keep.result c.stands_turned-back.result
whole c =
    let path = c.loop-line.path.items in
    let line : Line = next_line c in
    let here : slice_get c.args.walk.now c.loop-line.line-index ≡ Some line = slice_get-get_or c.args.walk.now c.loop-line.line-index blank c.loop-line-test.true in
    let placed = subst (λ (p : List Line). IsPlaceOf c.loop-line.numbers p c.turned_if-v.result c.place-keep.result) c.deref.ensures.value c.place-keep.ensures in
    let tells = subst (λ (p : List Line). TellsTurned p c.place-keep.result c.turned_if-v.result c.stands_turned-back.result) c.deref-in-Row.ensures.value c.stands_turned-back.ensures in
    step c.args.columns c.args.walk.now c.loop-line.numbers path c.loop-line.line-index line c.loop-line.turned here c.loop-line.invariant.kept (c.requires.walk.0, c.requires.walk.1.closed)
    c.in-Row.field-0 c.in-Row.is c.loop-line.invariant.follows c.turned_if-v.result c.turned_if-v.ensures c.place-keep.result placed c.stands_turned-back.result tells

pub place-keep-requires : goal.place-keep-requires
place-keep-requires c =
    let here = slice_get-get_or c.args.walk.now c.loop-line.line-index blank c.loop-line-test.true in
    step_pair c.args.columns c.args.walk.now c.loop-line.numbers c.loop-line.path.items c.loop-line.line-index (get_or c.args.walk.now c.loop-line.line-index blank) c.loop-line.turned here c.loop-line.invariant.kept
    (c.requires.walk.0, c.requires.walk.1.closed) c.turned_if-v.result c.turned_if-v.ensures

pub overflow_sub-len : goal.overflow_sub-len
overflow_sub-len c = omega (arith, (whole (goal.at.overflow_sub-len c).After-len).within, c.len.ensures)

pub split_off-requires : goal.split_off-requires
split_off-requires c = omega (arith, (whole (goal.at.split_off-requires c).After-len).within, c.len.ensures)

-- the lines of the cycle, which the path ends with
abbrev part : After-len → List Line
part c = drop c.place-keep.result c.loop-line.path.items ++ closing c.stands_turned-back.result c.turned_if-v.result

-- they are odd in number
part_short : (c : After-len) (lines : ℕ) → lines ≡ length c.loop-line.path.items → IsOdd (lines - c.place-keep.result + one_if c.stands_turned-back.result) → (rows : List (List ℕ)) →
    IsClosedWalk c.args.columns rows c.args.walk.now → IsOddCycle c.args.columns rows (part c) × IsShort c.args.columns (part c)
part_short c lines long odd rows closed =
    let odd_here : IsOdd (length c.loop-line.path.items - c.place-keep.result + one_if c.stands_turned-back.result) = subst (λ n. IsOdd (n - c.place-keep.result + one_if c.stands_turned-back.result)) long odd in
    short_cycle_law c.args.columns rows (part c) ((whole c).odd odd_here rows closed) (whole c).folded

pub closed-requires : goal.closed-requires
closed-requires c =
    let tail : c.in_ok-split_off-in-Row.field-0.items ≡ drop c.place-keep.result c.loop-line.path.items = c.in_ok-split_off-in-Row.ensures.tail in
    rw tail (part_short (goal.at.closed-requires c).After-len c.len.result (omega arith) (c.is_odd.ensures.0 c.if-is_odd.true) c.requires.walk.0 c.requires.walk.1.closed).0.simple

pub returns-then-is_odd-clause-cycle : goal.returns-then-is_odd-clause-cycle
returns-then-is_odd-clause-cycle c rows walk =
    let tail : c.in_ok-split_off-in-Row.field-0.items ≡ drop c.place-keep.result c.loop-line.path.items = c.in_ok-split_off-in-Row.ensures.tail in
    let short = part_short (goal.at.returns-then-is_odd-clause-cycle c).After-len c.len.result (omega arith) (c.is_odd.ensures.0 c.if-is_odd.true) rows walk.closed in
    IfOk-weaker c.closed.result (λ (x : List Line). x ≡ c.in_ok-split_off-in-Row.field-0.items ++ closing c.stands_turned-back.result c.turned_if-v.result) (IsOddCycle c.args.columns rows)
    (λ x e. subst (IsOddCycle c.args.columns rows) (sym (e ∙ ap (λ (p : List Line). p ++ closing c.stands_turned-back.result c.turned_if-v.result) tail)) short.0) c.closed.ensures

pub returns-then-is_odd-clause-short : goal.returns-then-is_odd-clause-short
returns-then-is_odd-clause-short c =
    let tail : c.in_ok-split_off-in-Row.field-0.items ≡ drop c.place-keep.result c.loop-line.path.items = c.in_ok-split_off-in-Row.ensures.tail in
    let short = part_short (goal.at.returns-then-is_odd-clause-short c).After-len c.len.result (omega arith) (c.is_odd.ensures.0 c.if-is_odd.true) c.requires.walk.0 c.requires.walk.1.closed in
    IfOk-weaker c.closed.result (λ (x : List Line). x ≡ c.in_ok-split_off-in-Row.field-0.items ++ closing c.stands_turned-back.result c.turned_if-v.result) (IsShort c.args.columns)
    (λ x e. subst (IsShort c.args.columns) (sym (e ∙ ap (λ (p : List Line). p ++ closing c.stands_turned-back.result c.turned_if-v.result) tail)) short.1) c.closed.ensures

pub returns-then-is_odd-clause-named : goal.returns-then-is_odd-clause-named
returns-then-is_odd-clause-named c =
    let tail : c.in_ok-split_off-in-Row.field-0.items ≡ drop c.place-keep.result c.loop-line.path.items = c.in_ok-split_off-in-Row.ensures.tail in
    let named = (whole (goal.at.returns-then-is_odd-clause-named c).After-len).named in
    IfOk-weaker c.closed.result (λ (x : List Line). x ≡ c.in_ok-split_off-in-Row.field-0.items ++ closing c.stands_turned-back.result c.turned_if-v.result) (All (IsNamedBy c.args.walk.now))
    (λ x e. subst (All (IsNamedBy c.args.walk.now)) (sym (e ∙ ap (λ (p : List Line). p ++ closing c.stands_turned-back.result c.turned_if-v.result) tail)) named) c.closed.ensures

pub cut-requires-clause-within : goal.cut-requires-clause-within
cut-requires-clause-within c = (whole (goal.at.cut-requires-clause-within c).After-len).within

pub extend-requires-clause-pair : goal.extend-requires-clause-pair
extend-requires-clause-pair c =
    rw (c.turned_if-pair.ensures, c.cut.ensures.columns) (whole (goal.at.extend-requires-clause-pair c).After-len).is_pair

pub extend-requires-clause-fresh : goal.extend-requires-clause-fresh
extend-requires-clause-fresh c =
    let fresh = (whole (goal.at.extend-requires-clause-fresh c).After-len).fresh c.cut.new.numbers c.cut.ensures.kept c.cut.ensures.lost in
    subst (λ (v : Pair). number_of c.cut.new.numbers (lesser_first v) ≡ 0) (sym c.turned_if-pair.ensures) fresh

pub loop-line-preserved : goal.loop-line-preserved
loop-line-preserved c =
    elim c.match-line.branch [
      | in-Flip w ↦
          let here = slice_get-get_or c.args.walk.now c.loop-line.line-index blank c.loop-line-test.true in
          record {
            kept = rw (w.numbers-is, w.path-is) c.loop-line.invariant.kept;
            follows = λ rows closed. rw (w.path-is, w.turned-is)
                (follows_flip c.args.columns rows c.args.walk.now c.loop-line.line-index (get_or c.args.walk.now c.loop-line.line-index blank) c.loop-line.path.items c.loop-line.turned here
                (c.loop-line.invariant.follows rows closed) closed w.in-Flip.is);
          }
      | in-Row+else-is_odd+in_ok-extend-in-Row w ↦
          let path = c.loop-line.path.items in
          let walk = c.args.walk.now in
          let done = c.loop-line.line-index in
          let line : Line = get_or walk done blank in
          let v = w.turned_if-v.result in
          let keep = w.place-keep.result in
          let back = w.stands_turned-back.result in
          let here = slice_get-get_or walk done blank c.loop-line-test.true in
          let placed = subst (λ (p : List Line). IsPlaceOf c.loop-line.numbers p v keep) w.deref.ensures.value w.place-keep.ensures in
          let tells = subst (λ (p : List Line). TellsTurned p keep v back) w.deref-in-Row.ensures.value w.stands_turned-back.ensures in
          let s = step c.args.columns walk c.loop-line.numbers path done line c.loop-line.turned here c.loop-line.invariant.kept (c.requires.walk.0, c.requires.walk.1.closed)
          w.in-Row.field-0 w.in-Row.is c.loop-line.invariant.follows v w.turned_if-v.ensures keep placed back tells in
          let long : w.len.result ≡ length path = omega arith in
          let even : IsOdd (length path - keep + one_if back) → ⊥ = λ odd.
          absurd (cc (w.if-is_odd.false, w.is_odd.ensures.1 (subst (λ n. IsOdd (n - keep + one_if back)) (sym long) odd))) in
          let added = w.in_ok-extend-in-Row.ensures in
          let items : w.extend.new.path.items ≡ take keep path ++ fitted line v back ∷ [] =
          added.2 ∙ ap (λ (p : List Line). p ++ record { pair = w.turned_if-pair.result; why = line.why } ∷ []) w.cut.ensures.path
          ∙ ap (λ (u : Pair). take keep path ++ record { pair = u; why = line.why } ∷ []) w.turned_if-pair.ensures in
          let indexed = subst (IsIndexed columns_of w.extend.new.numbers) items added.0 in
          let kept : IsKept c.args.columns walk w.extend.new.numbers w.extend.new.path.items =
          subst (IsKept c.args.columns walk w.extend.new.numbers) (sym items) (s.kept w.extend.new.numbers indexed (added.1 ∙ w.cut.ensures.columns)) in
          record {
            kept = rw (w.numbers-is, w.path-is) kept;
            follows = λ rows closed. rw (w.path-is, w.turned-is)
                (subst (λ (p : List Line). Follows c.args.columns rows walk (done + 1) p w.differ-turned.result) (sym items)
                (subst (λ t. Follows c.args.columns rows walk (done + 1) (take keep path ++ fitted line v back ∷ []) t) (sym w.differ-turned.ensures) (s.more even rows closed)));
          }
    ]

pub closed-requires-2 : goal.closed-requires-2
closed-requires-2 c = (at_end c.args.columns c.args.walk.now c.loop-line.path.items c.loop-line.turned c.turned_if.result (ended c) c.requires.walk.0 c.requires.walk.1.closed).0.simple

pub returns-clause-cycle : goal.returns-clause-cycle
returns-clause-cycle c rows walk =
    let short = at_end c.args.columns c.args.walk.now c.loop-line.path.items c.loop-line.turned c.turned_if.result (ended (goal.at.returns-clause-cycle c).After-turned_if) rows walk.closed in
    IfOk-weaker c.closed-2.result (λ (x : List Line). x ≡ c.loop-line.path.items ++ closing c.loop-line.turned c.turned_if.result) (IsOddCycle c.args.columns rows)
    (λ x e. subst (IsOddCycle c.args.columns rows) (sym e) short.0) c.closed-2.ensures

pub returns-clause-short : goal.returns-clause-short
returns-clause-short c =
    let end = ended (goal.at.returns-clause-short c).After-turned_if in
    let short = at_end c.args.columns c.args.walk.now c.loop-line.path.items c.loop-line.turned c.turned_if.result end c.requires.walk.0 c.requires.walk.1.closed in
    IfOk-weaker c.closed-2.result (λ (x : List Line). x ≡ c.loop-line.path.items ++ closing c.loop-line.turned c.turned_if.result) (IsShort c.args.columns)
    (λ x e. subst (IsShort c.args.columns) (sym e) short.1) c.closed-2.ensures

pub returns-clause-named : goal.returns-clause-named
returns-clause-named c =
    let named = (ended (goal.at.returns-clause-named c).After-turned_if).named in
    IfOk-weaker c.closed-2.result (λ (x : List Line). x ≡ c.loop-line.path.items ++ closing c.loop-line.turned c.turned_if.result) (All (IsNamedBy c.args.walk.now))
    (λ x e. subst (All (IsNamedBy c.args.walk.now)) (sym e) named) c.closed-2.ensures
