use Rattle.std.proofs.Common.{inl, inr, sym, subst, List}
use Rattle.row_model.specs.declared.graph.Line.{Line}
use Rattle.odd_cycle.specs.Short.{IsStraight}
use Rattle.odd_cycle.proofs.RisingLaws.{apart_by_columns}
use Rattle.odd_cycle.proofs.folded.is_folded.Goals as goal

pub returns : goal.returns
returns c rising =
    let path : List Line = c.without_last_flip-path.result.now in
    let straight : IsStraight path = record {
      no_flip = elim c.has_flip.ensures [ inl t ↦ absurd (cc (t, c.if-has_flip.false)) | inr e ↦ e ];
      apart = apart_by_columns path c.in_ok-columns.columns.items c.in_ok-columns.ensures (rw c.deref.ensures.value at c.is_rising.ensures rising);
    } in
    elim c.without_last_flip-path.ensures [
      | inl e ↦ inl (subst IsStraight (sym e) straight)
      | inr x ↦ inr (path, x.0, straight, x.1, x.2)
    ]
