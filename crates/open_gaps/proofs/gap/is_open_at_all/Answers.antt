use Rattle.std.proofs.Common.{◌-◌, ◌≡◌, length, slice_index, slice_index_or, sym, subst, inl, inr, arith}
use Rattle.std.proofs.lemmas.Bool.{both_ways}
use Rattle.open_gaps.specs.declared.gap.Gap.{Gap}
use Rattle.open_gaps.specs.Gaps.{Opens, IsOpen}
use Rattle.open_gaps.proofs.Places.{found}
use Rattle.open_gaps.proofs.OpenLaws.{at_an_end}
use Rattle.open_gaps.proofs.gap.is_open_at_all.Goals as goal

pub returns-then-is_some : goal.returns-then-is_some
returns-then-is_some c =
    λ rows o len are.
    let first = found c.opener.result (λ k. Opens rows o k c.args.q (slice_index o 0)) c.is_some.result c.is_some.ensures (c.opener.ensures rows o len are) in
    (λ t. (0, omega (arith, len, c.requires.places), first.0 t), λ h. c.if-is_some.true)

pub returns-else-is_some : goal.returns-else-is_some
returns-else-is_some c =
    λ rows o len are.
    let end = length c.args.gaps.now - 1 in
    let none : Gap = record { last = 0; last_row = 0; first = 0; first_row = 0 } in
    let last : end ≡ length o - 1 = omega (arith, len) in
    let first = found c.opener.result (λ k. Opens rows o k c.args.q (slice_index o 0)) c.is_some.result c.is_some.ensures (c.opener.ensures rows o len are) in
    let other = found c.opener-else-is_some.result (λ k. Opens rows o k c.args.q (slice_index o end)) c.is_some-else-is_some.result c.is_some-else-is_some.ensures (c.opener-else-is_some.ensures rows o len are) in (
      λ t. (end, omega (arith, len, c.requires.places, last), other.0 t),
      λ h. elim (at_an_end rows o c.args.q (slice_index_or c.args.gaps.now c.args.q none) (are c.args.q none (omega (arith, len, c.requires.places))) h) [
        | inl k ↦ absurd (both_ways c.is_some.result c.if-is_some.false (first.1 k))
        | inr k ↦ other.1 (subst (λ i. IsOpen rows o c.args.q i) (sym last) k)
      ],
    )
