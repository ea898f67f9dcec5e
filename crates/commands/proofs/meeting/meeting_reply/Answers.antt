use Rattle.std.proofs.Common.{inl, inr, subst}
use Rattle.std.proofs.lemmas.Result.{IfOk-weaker}
use Rattle.pq_tree.specs.PqTree.{column_count, outline}
use Rattle.tree_meet.specs.Meets.{IsMet}
use Rattle.commands.proofs.meeting.meeting_reply.Goals as goal

pub returns-in-Tree-clause-reply : goal.returns-in-Tree-clause-reply
returns-in-Tree-clause-reply g c = IfOk-weaker c.common_reply.result _ _ (λ reply told. inl told) c.common_reply.ensures

pub returns-in-Tree-clause-asked : goal.returns-in-Tree-clause-asked
returns-in-Tree-clause-asked g c = c.meet.ensures.asked

pub returns-in-Tree-clause-status : goal.returns-in-Tree-clause-status
returns-in-Tree-clause-status g c = IfOk-weaker c.common_reply.result _ _ (λ reply told. inl told.0) c.common_reply.ensures

pub returns-in-Tree-clause-most : goal.returns-in-Tree-clause-most
returns-in-Tree-clause-most g c = c.meet.ensures.most

pub returns-in-Apart-clause-reply : goal.returns-in-Apart-clause-reply
returns-in-Apart-clause-reply g c = IfOk-weaker c.apart_reply.result _ _ (λ reply told. inr told) c.apart_reply.ensures

pub returns-in-Apart-clause-asked : goal.returns-in-Apart-clause-asked
returns-in-Apart-clause-asked g c = c.meet.ensures.asked

pub returns-in-Apart-clause-most : goal.returns-in-Apart-clause-most
returns-in-Apart-clause-most g c = c.meet.ensures.most

pub returns-in-Apart-clause-status : goal.returns-in-Apart-clause-status
returns-in-Apart-clause-status g c = IfOk-weaker c.apart_reply.result _ _ (λ reply told. inr told.0) c.apart_reply.ensures

pub returns-in_err-tree-clause-asked : goal.returns-in_err-tree-clause-asked
returns-in_err-tree-clause-asked g c = c.meet.ensures.asked

pub returns-in_err-tree-clause-most : goal.returns-in_err-tree-clause-most
returns-in_err-tree-clause-most g c = c.meet.ensures.most

pub common_reply-requires-clause-common : goal.common_reply-requires-clause-common
common_reply-requires-clause-common g c =
    (subst (IsMet (column_count c.args.first.now) (outline c.args.first.now) (outline c.args.second.now)) c.in-Tree.is c.in_ok-tree.ensures.met).0
