use Rattle.instance_model.proofs.Textbook.{KindLaws, derived_exactly, valid_textbook, exists_textbook}
use Rattle.instance_model.proofs.laws.textbook_law.Goals as goal

pub returns : goal.returns
returns c =
    let laws : KindLaws = record {
      cut = c.circular_law.ensures.cut;
      turned = c.circular_law.ensures.turned;
      round = c.circular_law.ensures.exists;
      right = c.convex_law.ensures.right;
      left = c.convex_law.ensures.left;
      umbrella = c.umbrella_law.ensures;
      robinson = c.robinson_law.ensures;
    } in
    record { derived = derived_exactly laws; valid = valid_textbook laws; exists = exists_textbook laws }
