use Rattle.std.proofs.Common.{IfSome, subst}
use Rattle.std.proofs.lemmas.Result.{IfOk-weaker}
use Rattle.walk_search.specs.Search.{IsJoinedFrom}
use Rattle.walk_search.proofs.LeavingLaws.{to_found}
use Rattle.walk_search.proofs.neighbours.step_to.Goals as goal

pub returns-in-Some : goal.returns-in-Some
returns-in-Some c = record {
  kept = c.step.ensures.kept;
  stepped = λ n rows h within joined.
      let at : IsJoinedFrom n rows c.args.forest.now c.args.from c.in-Some.line = subst (λ o. IfSome o (IsJoinedFrom n rows c.args.forest.now c.args.from)) c.in-Some.is joined in
      IfOk-weaker c.step.result _ _ (λ found. to_found n rows c.args.forest.now c.step.new.self c.args.from c.args.line c.in-Some.line found c.in-Some.is) (c.step.ensures.stepped n rows h within at);
}
