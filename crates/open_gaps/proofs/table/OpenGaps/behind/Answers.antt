use Rattle.std.proofs.Common.{◌∙◌, ℕ, ◌+◌, ◌<◌, List, length, slice_index, ap, sym, subst, arith}
use Rattle.row_model.specs.Graph.{pair}
use Rattle.open_gaps.specs.Gaps.{Opens}
use Rattle.open_gaps.proofs.Places.{Kept, kept}
use Rattle.open_gaps.proofs.Steps.{opens_b, opens_there, step_behind}
use Rattle.open_gaps.proofs.table.OpenGaps.behind.Goals as goal

pub returns-in-None-clause-whole : goal.returns-in-None-clause-whole
returns-in-None-clause-whole c =
    let o : List ℕ = c.args.self.now.order in
    let table : Kept c.args.self.now c.deref.result.now = kept c.self.inside c.args.self.now c.deref.result.now c.self.invariant c.self.view_is c.deref.ensures.value in
    λ rows are k l h.
    let none : (j : ℕ) → Opens rows o j c.place-x.result (slice_index o c.place-p.result) → ⊥ = rw c.in-None.is at (c.opener.ensures rows o table.long (table.are rows are)) in
    none k (opens_there rows o table.order c.args.v c.requires k c.place-x.result c.place-p.result c.place-p.ensures.0 (subst (λ i. Opens rows o k i c.args.v.b) (sym c.place-x.ensures.0) h))

pub returns-in-Some-clause-joined : goal.returns-in-Some-clause-joined
returns-in-Some-clause-joined c =
    let o : List ℕ = c.args.self.now.order in
    let table : Kept c.args.self.now c.deref.result.now = kept c.self.inside c.args.self.now c.deref.result.now c.self.invariant c.self.view_is c.deref.ensures.value in
    λ rows are.
    let opens : Opens rows o c.in-Some.row c.place-x.result (slice_index o c.place-p.result) = rw c.in-Some.is at (c.opener.ensures rows o table.long (table.are rows are)) in
    let within : c.place-x.result + 1 < length o = omega (arith, c.place-x.ensures.1, c.if-x-len.false, c.len.ensures, c.self.inside.order.ok.0, ap (λ t. length t.order) c.self.view_is) in
    step_behind rows o table.order c.args.v c.requires c.place-x.result c.place-p.result c.column_at.result c.in-Some.row c.place-x.ensures.0 c.place-p.ensures.0 c.line_to.result c.line_to.ensures.0 c.line_to.ensures.1
    within c.column_at.ensures opens

pub returns-in-Some-clause-opened : goal.returns-in-Some-clause-opened
returns-in-Some-clause-opened c =
    let o : List ℕ = c.args.self.now.order in
    let table : Kept c.args.self.now c.deref.result.now = kept c.self.inside c.args.self.now c.deref.result.now c.self.invariant c.self.view_is c.deref.ensures.value in
    λ rows are.
    let opens : Opens rows o c.in-Some.row c.place-x.result (slice_index o c.place-p.result) = rw c.in-Some.is at (c.opener.ensures rows o table.long (table.are rows are)) in
    let within : c.place-x.result + 1 < length o = omega (arith, c.place-x.ensures.1, c.if-x-len.false, c.len.ensures, c.self.inside.order.ok.0, ap (λ t. length t.order) c.self.view_is) in
    let here = opens_b rows o table.order c.args.v c.requires c.in-Some.row c.place-x.result c.place-p.result c.place-p.ensures.0 opens in (
      subst (λ x. x + 1 < length o) c.place-x.ensures.0 within,
      record {
        k = c.in-Some.row;
        opens = subst (λ x. Opens rows o c.in-Some.row x c.args.v.b) c.place-x.ensures.0 here;
        by_row = c.line_to.ensures.1;
        to = c.line_to.ensures.0 ∙ ap (pair c.args.v.b) (c.column_at.ensures ∙ ap (λ x. slice_index o (x + 1)) c.place-x.ensures.0);
      },
    )
