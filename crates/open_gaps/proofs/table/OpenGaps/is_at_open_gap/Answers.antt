use Rattle.std.proofs.Common.{◌≡◌, ℕ, ◌+◌, ◌-◌, ◌<◌, ◌∙◌, List, length, sym, subst, inl, inr, arith}
use Rattle.std.proofs.lemmas.Bool.{both_ways}
use Rattle.open_gaps.specs.Gaps.{IsOpenAtAll}
use Rattle.open_gaps.proofs.Places.{Kept, kept}
use Rattle.open_gaps.proofs.table.OpenGaps.is_at_open_gap.Goals as goal

pub returns-then-is_open_before : goal.returns-then-is_open_before
returns-then-is_open_before c =
    let o : List ℕ = c.args.self.now.order in
    let table : Kept c.args.self.now c.deref.result.now = kept c.self.inside c.args.self.now c.deref.result.now c.self.invariant c.self.view_is c.deref.ensures.value in
    λ rows are.
    let before = c.is_open_before.ensures rows o table.long (table.are rows are) in (
      λ t. (let b = before.0 t in (c.place-x.result - 1, omega (arith, b.0, c.place-x.ensures.1), b.1, inr (omega (arith, b.0, c.place-x.ensures.0)))),
      λ h. c.if-is_open_before.true,
    )

pub returns-else-is_open_before : goal.returns-else-is_open_before
returns-else-is_open_before c =
    let o : List ℕ = c.args.self.now.order in
    let x = c.place-x.result in
    let table : Kept c.args.self.now c.deref.result.now = kept c.self.inside c.args.self.now c.deref.result.now c.self.invariant c.self.view_is c.deref.ensures.value in
    let other : Kept c.args.self.now c.deref-else-is_open_before.result.now = kept c.self.inside c.args.self.now c.deref-else-is_open_before.result.now c.self.invariant c.self.view_is c.deref-else-is_open_before.ensures.value in
    λ rows are.
    let before = c.is_open_before.ensures rows o table.long (table.are rows are) in
    let behind = c.is_open_behind.ensures rows o other.long (other.are rows are) in (
      λ t. (let b = behind.0 t in (x, b.0, b.1, inl c.place-x.ensures.0)),
      λ h. elim h.3 [
        | inl e ↦
            let same : h.0 ≡ x = e ∙ sym c.place-x.ensures.0 in
            behind.1 (subst (λ q. q + 1 < length o) same h.1, subst (IsOpenAtAll rows o) same h.2)
        | inr e ↦
            let same : h.0 ≡ x - 1 = omega (arith, e, c.place-x.ensures.0) in
            absurd (both_ways c.is_open_before.result c.if-is_open_before.false (before.1 (omega (arith, e, c.place-x.ensures.0), subst (IsOpenAtAll rows o) same h.2)))
      ],
    )
